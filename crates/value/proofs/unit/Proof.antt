-- `value::unit` meets its contract, by `unit_is`. Assumes nothing.
use mathlib.Core.Path.{◌∙◌}
use borrow.Author.Rules.{rules}
use Rattle.value.proofs.Operators.{unit_is}
use Rattle.value.proofs.unit.Statement.{statement}
use Rattle.value.proofs.unit.Tie as tie

pub unit_spec : {M : Type 1} → statement M
unit_spec = tie.close (tie.spec
    (λ c κs. search rules) (λ c. c.single.ensures ∙ unit_is))
