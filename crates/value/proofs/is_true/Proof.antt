-- `value::is_true` meets its contract, by `tests_true`. Assumes nothing.
use lib.ListN.{get_or}
use borrow.Author.Rules.{rules}
use Rattle.value.proofs.Operators.{tests_true}
use Rattle.value.proofs.is_true.Statement.{statement}
use Rattle.value.proofs.is_true.Tie as tie

pub is_true_spec : {M : Type 1} → statement M
is_true_spec = tie.close (tie.spec
    (λ c. search rules) (λ c κs. search rules)
    (λ c. tests_true (get_or c.args.a.leaves 0 0) c.equal.result c.equal.ensures))
