-- `value::number` meets its contract, by `number_is`. Assumes nothing.
use mathlib.Core.Path.{◌∙◌}
use borrow.Author.Rules.{rules}
use Rattle.value.proofs.Operators.{number_is}
use Rattle.value.proofs.number.Statement.{statement}
use Rattle.value.proofs.number.Tie as tie

pub number_spec : {M : Type 1} → statement M
number_spec = tie.close (tie.spec
    (λ c κs. search rules) (λ c. c.single.ensures ∙ number_is c.args.w (search rules)))
