-- Start by the rules alone: for every rows memory of words and every state memory the relation derives what start answers and leaves, and
-- nothing else. Start of an accepted flow leaves one and the same rest in every memory of its size. Rests on Flows, Opening and Begun.
use mathlib.Core.Path.{◌≡◌, refl, sym, ap, subst, ◌∙◌}
use mathlib.Core.Bool.{true, false}
use mathlib.Core.List.{List, []}
use Prim.Native.Nat.{ℕ, ◌*◌}
use native.Mathlib.Omega.{arith}
use borrow.Author.Tests.{ne_eqb, eqb-true, eqb-false}
use borrow.Table.Steps.{cases}
use lib.Dec.{eqb}
use lib.IntN.{ℤ, pos}
use lib.ListN.{length, replicate, length-replicate}
use Rattle.word.specs.Word.{AllWords}
use Rattle.tophat.specs.Syntax.{Ty, Code, TaskOf, Store}
use Rattle.tophat.specs.Typing.{v_nil}
use Rattle.tophat.specs.Normalising.{s_fail, n_done}
use Rattle.tophat.proofs.ComputeNormalising.{normalise, settle}
use Rattle.tophat.proofs.TaskEvaluationAgrees.{evaluate_is, overflows_task_is}
use Rattle.tophat.proofs.NormalisingSound.{normalise_sound}
use Rattle.tophat.proofs.NormalisingComplete.{normalises_is}
use Rattle.tophat.proofs.Bound.{normalises_bound, normal_rest}
use Rattle.rows.specs.GroundNumbers.{not_accepted, wrong_memory}
use Rattle.rows.specs.Lent.{row_count}
use Rattle.rows.proofs.Basics.{no}
use Rattle.sheet.specs.Accepted.{accepts_rows}
use Rattle.state.specs.Layout.{state_words}
use Rattle.call_definitions.specs.Memory.{state_of, CallAnswer, refusal}
use Rattle.call_definitions.specs.States.{failed_state}
use Rattle.call_definitions.specs.Answers.{AcceptedFlow, HasRoom, as_task, as_failed, IsRest, StartAnswers, start_20, start_21, start_0, start_failed}
use Rattle.call_definitions.specs.Calls.{start_call}
use Rattle.call_definitions.specs.Touches.{Started, Bounded}
use Rattle.call_definitions.proofs.Flows.{loads_accepts, accepts_loads, accepts_not, flow_of}
use Rattle.call_definitions.proofs.Opening.{moving}
pub use Rattle.call_definitions.proofs.Begun.{begun, start_is, by_start}
use Rattle.call_definitions.proofs.Begun.{evaluated, evaluated_good, normal, begun_derived}

pub start_20_is : (rows memory : List ℤ) → accepts_rows rows ≡ false → start_call rows memory ≡ refusal not_accepted memory
unfolding start_call
start_20_is rows memory h = rw h

pub start_21_is : (rows memory : List ℤ) → accepts_rows rows ≡ true → (HasRoom rows memory → ⊥) → start_call rows memory ≡ refusal wrong_memory memory
unfolding start_call
start_21_is rows memory h n = rw (h, ne_eqb (length memory) (row_count rows * state_words) n)

-- ---- an accepted flow

module _ {rows : List ℤ} {c : Code} {Σ : List Ty} {τ : Ty} (a : AcceptedFlow rows c Σ τ) where
  begun_rest : IsRest rows (begun a).state c Σ τ
  unfolding settle
  begun_rest = by_start a (λ r. IsRest rows r.state c Σ τ)
      (λ o. record { state = failed_state τ a.first; writes = as_failed a.flow ((evaluated_good a).over o) refl; still = n_done s_fail })
      (λ o.
      let g = evaluated_good a in
      let k = normalise_sound c [] (evaluated a).1 (evaluated a).0 g.task v_nil g.store in
      record { state = _; writes = as_task (record { typed = k.task; stored = k.store; written = refl }); still = normal_rest k.derived })

  -- it counts at most 1 more than the rows of kind 43 and 47
  pub start_bounded : (memory : List ℤ) → HasRoom rows memory → Bounded rows (start_call rows memory).strides
  start_bounded memory l =
      let m = moving a in
      let b = normalises_bound (normal a) in
      subst (λ r. Bounded rows r.strides) (sym (start_is a memory l)) (by_start a (λ r. Bounded rows r.strides) (λ o. omega arith) (λ o. omega (arith, m, b)))

  -- it leaves the same words whatever the memory holds
  pub start_state : (ws : List ℤ) × Started rows ws
  start_state = ((begun a).state, (λ memory l. (ap (λ r. r.number) (start_is a memory l) ∙ by_start a (λ r. r.number ≡ 0) (λ o. refl) (λ o. refl), ap (λ r. r.state) (start_is a memory l))))

  -- and they are a rest
  pub started_is_rest : {ws : List ℤ} → Started rows ws → IsRest rows ws c Σ τ
  started_is_rest h =
      let memory = replicate (row_count rows * state_words) (pos 0) in
      let l = length-replicate {A = ℤ} (row_count rows * state_words) (pos 0) in
      subst (λ ws. IsRest rows ws c Σ τ) (sym (ap (λ r. r.state) (start_is a memory l)) ∙ (h memory l).1) begun_rest

-- ---- every memory

module _ (rows memory : List ℤ) (w : AllWords rows) where
  -- what start answers is derived
  pub start_derived : StartAnswers rows memory (start_call rows memory)
  start_derived = cases (accepts_rows rows)
      (λ t.
      let l = accepts_loads w t in
      let (c, Σ, τ, a) = flow_of l in
      cases (eqb (length memory) (row_count rows * state_words))
      (λ y. let r = eqb-true (length memory) (row_count rows * state_words) y in subst (StartAnswers rows memory) (sym (start_is a memory r)) (begun_derived a memory r))
      (λ n. let r = eqb-false (length memory) (row_count rows * state_words) n in subst (StartAnswers rows memory) (sym (start_21_is rows memory t r)) (start_21 l r)))
      (λ f. subst (StartAnswers rows memory) (sym (start_20_is rows memory f)) (start_20 (λ l. no (sym f ∙ loads_accepts l))))

  -- and nothing else
  pub start_only : {r : CallAnswer} → StartAnswers rows memory r → start_call rows memory ≡ r
  unfolding settle
  start_only (start_20 n) = start_20_is rows memory (accepts_not n w)
  start_only (start_21 l n) = start_21_is rows memory (loads_accepts l) n
  start_only (start_0 {c} a l e d) =
      let o = (evaluate_is e).1 in
      start_is a memory l ∙ rw o refl
      ∙ ap (λ (x : TaskOf c × Store). let (t, s, n) = normalise c [] x.1 x.0 in record { number = 0; strides = n; state = state_of rows c t s }) (evaluate_is e).0
      ∙ ap (λ (x : TaskOf c × Store × ℕ). record { number = 0; strides = x.2; state = state_of rows c x.0 x.1 }) (normalises_is d)
  start_only (start_failed a l d) = let o = overflows_task_is d in start_is a memory l ∙ rw o refl
