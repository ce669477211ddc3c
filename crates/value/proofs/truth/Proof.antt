-- `value::truth` meets its contract, by `true_is` and `false_is`. Assumes nothing.
use mathlib.Core.Path.{◌∙◌}
use borrow.Author.Rules.{rules}
use Rattle.value.proofs.Operators.{true_is, false_is}
use Rattle.value.proofs.truth.Statement.{statement}
use Rattle.value.proofs.truth.Tie as tie

pub truth_spec : {M : Type 1} → statement M
truth_spec = tie.close (tie.spec
    (λ c κs. search rules) (λ c. c.single.ensures ∙ true_is c.if-b.true)
    (λ c κs. search rules) (λ c. c.single-2.ensures ∙ false_is c.if-b.false))
