-- `few` meets its contract. Assumes nothing.
use borrow.Author.Rules.{rules}
use Rattle.screens.proofs.CountLaws.{few_some, few_none}
use Rattle.screens.proofs.count.few.Statement.{statement}
use Rattle.screens.proofs.count.few.Tie as tie

pub few_spec : {M : Type 1} → statement M
few_spec = tie.close (tie.spec
    (λ c. few_none c.args.bits (search rules) c.if-n-gt-MAX_ROWS.true)
    (λ c. few_some c.args.bits c.if-n-gt-MAX_ROWS.false))
