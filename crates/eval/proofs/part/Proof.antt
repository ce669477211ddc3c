-- `eval::part` meets its contract. Assumes nothing.
use native.Mathlib.Omega.{arith}
use borrow.Author.Rules.{rules}
use Rattle.eval.proofs.part.Statement.{statement}
use Rattle.eval.proofs.part.Tie as tie

pub part_spec : {M : Type 1} → statement M
part_spec = tie.close (tie.spec
    (λ c κs. search rules)
    (λ c. (λ z. c.first.ensures, λ z. absurd (let y = c.if-kind.true in omega arith)))
    (λ c κs. search rules)
    (λ c. (λ z. absurd (c.if-kind.false z), λ z. c.second.ensures)))
