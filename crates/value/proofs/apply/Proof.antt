-- `value::apply` meets its contract, an arm by what its callee ensures. Assumes nothing.
use mathlib.Core.Path.{ap, ◌∙◌}
use mathlib.Core.Logic.{⊎_elim}
use native.Mathlib.Omega.{arith}
use lib.ListN.{get_or}
use borrow.Author.Rules.{rules}
use Rattle.value.proofs.Operators.{other_is}
use Rattle.value.specs.Evaluations.{sure_of}
use Rattle.value.proofs.apply.Statement.{statement}
use Rattle.value.proofs.apply.Tie as tie

pub apply_spec : {M : Type 1} → statement M
apply_spec = tie.close (tie.spec
    (λ c. search rules) (λ c. search rules) (λ c κs. search rules) (λ c. search rules)
    (λ c κs. search rules) (λ c κs. search rules) (λ c κs. search rules)
    (λ c. c.sure.ensures ∙ ap sure_of c.truth.ensures ∙ c.compared.ensures)
    (λ c κs. search rules) (λ c κs. search rules) (λ c κs. search rules)
    (λ c. c.sure-in-7-to-8.ensures ∙ ap sure_of c.truth-in-7-to-8.ensures ∙ c.connected.ensures)
    (λ c κs. search rules) (λ c κs. search rules)
    (λ c.
    other_is c.args.op (get_or c.args.a.leaves 0 0) (get_or c.args.b.leaves 0 0) c.result.result
    (λ p q. ⊎_elim (λ z. omega arith) (λ z. omega arith) c.in_default.branch-raw) (c.result.ensures _ c.add.ensures)))
