-- `path::front_mark` meets its contract, each way out by its law. Assumes nothing.
use borrow.Author.Rules.{rules}
use Rattle.decimal.proofs.PathLaws.{front_none, front_first, front_second}
use Rattle.decimal.proofs.path.front_mark.Statement.{statement}
use Rattle.decimal.proofs.path.front_mark.Tie as tie

pub front_mark_spec : {M : Type 1} → statement M
front_mark_spec = tie.close (tie.spec
    (λ c. front_none c.args.path c.if-path-eq0.true)
    (λ c. search rules)
    (λ c. front_first c.args.path c.if-path-eq0.false c.if-path-eq1.true)
    (λ c. search rules)
    (λ c. front_second c.args.path c.if-path-eq0.false c.if-path-eq1.false))
