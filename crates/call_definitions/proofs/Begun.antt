-- What start of an accepted flow answers in a memory of its size, and that the rules derive it. Rests on Flows and Opening.
use mathlib.Core.Path.{◌≡◌, sym, ap}
use mathlib.Core.Bool.{true, false, cond}
use mathlib.Core.List.{List, []}
use Prim.Native.Nat.{◌*◌}
use borrow.Author.Tests.{eq-eqb}
use borrow.Table.Steps.{cases}
use lib.IntN.{ℤ}
use lib.ListN.{length}
use Rattle.tophat.specs.Syntax.{Ty, Code, TaskOf, Store}
use Rattle.tophat.specs.Typing.{v_nil}
use Rattle.tophat.specs.Normalising.{Normalises}
use Rattle.tophat.proofs.ComputeEvaluation.{evaluate, overflows_task}
use Rattle.tophat.proofs.ComputeNormalising.{settle}
use Rattle.tophat.proofs.TaskEvaluationAgrees.{GoodTask, evaluate_good}
use Rattle.tophat.proofs.NormalisingSound.{normalise_sound}
use Rattle.rows.specs.Lent.{row_count}
use Rattle.rows.proofs.TreesAgree.{cells_are}
use Rattle.state.specs.Layout.{state_words}
use Rattle.call_definitions.specs.Memory.{state_of, failed_of, CallAnswer}
use Rattle.call_definitions.specs.Answers.{AcceptedFlow, HasRoom, StartAnswers, start_0, start_failed}
use Rattle.call_definitions.specs.Calls.{start_with, start_call}
use Rattle.call_definitions.proofs.Opening.{accepts, code_found, first_typed}

module _ {rows : List ℤ} {c : Code} {Σ : List Ty} {τ : Ty} (a : AcceptedFlow rows c Σ τ) where
  -- what start answers, whatever the memory: the last row settled, or failed as a whole (CR 3)
  abbrev answer_from : Store → CallAnswer
  answer_from s₀ =
      let (t, s, n) = settle c [] s₀ in
      cond (overflows_task c [] s₀) (record { number = 0; strides = 1; state = failed_of rows s₀ }) (record { number = 0; strides = n; state = state_of rows c t s })

  abbrev pub begun : CallAnswer
  begun = answer_from a.first

  pub start_is : (memory : List ℤ) → HasRoom rows memory → start_call rows memory ≡ begun
  unfolding start_call start_with
  start_is memory l =
      let p = accepts a in
      let q = eq-eqb (length memory) (row_count rows * state_words) l in
      let r = code_found a in
      let e = (cells_are a.flow.cells).1 in
      rw (p, q, r) (ap answer_from (sym e))

  abbrev pub evaluated : TaskOf c × Store
  evaluated = evaluate c [] a.first

  pub evaluated_good : GoodTask Σ [] c [] a.first τ evaluated (overflows_task c [] a.first)
  evaluated_good = evaluate_good a.flow.typed [] a.first v_nil (first_typed a)

  pub normal : Normalises c [] evaluated.1 evaluated.0 (settle c [] a.first).0 (settle c [] a.first).1 (settle c [] a.first).2
  unfolding settle
  normal = let g = evaluated_good in (normalise_sound c [] evaluated.1 evaluated.0 g.task v_nil g.store).derived

  -- by whether the last row leaves the words
  pub by_start : (P : CallAnswer → Type 0) → (overflows_task c [] a.first ≡ true → P (record { number = 0; strides = 1; state = failed_of rows a.first }))
      → (overflows_task c [] a.first ≡ false → let (t, s, n) = settle c [] a.first in P (record { number = 0; strides = n; state = state_of rows c t s })) → P begun
  by_start P f g = cases (overflows_task c [] a.first) (λ o. rw o (f o)) (λ o. rw o (g o))

  -- and the rules derive it
  pub begun_derived : (memory : List ℤ) → HasRoom rows memory → StartAnswers rows memory begun
  begun_derived memory l = by_start (StartAnswers rows memory) (λ o. start_failed a l (evaluated_good.over o)) (λ o. start_0 a l (evaluated_good.derived o) normal)
