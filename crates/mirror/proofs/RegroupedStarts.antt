-- Start of three choices grouped one way and the other: both answer 0, with equal strides, and leave states that go together, a task and
-- its image or, where the last row leaves the words (CR 3), both failed; whatever the memories held. Rests on RegroupedStates and on
-- call_definitions' StartAnswered.
use mathlib.Core.Path.{◌≡◌, refl, sym, subst, ◌∙◌}
use mathlib.Core.Bool.{true}
use mathlib.Core.List.{List, []}
use lib.IntN.{ℤ}
use Rattle.tophat.specs.Syntax.{Ty, Code}
use Rattle.tophat.specs.Typing.{v_nil}
use Rattle.tophat.specs.Normalising.{s_fail, n_done}
use Rattle.tophat.proofs.Basics.{apart}
use Rattle.tophat.proofs.ComputeEvaluation.{evaluate, overflows_task}
use Rattle.tophat.proofs.ComputeNormalising.{settle}
use Rattle.tophat.proofs.TaskEvaluationAgrees.{GoodTask, evaluate_good}
use Rattle.tophat.proofs.NormalisingSound.{GoodNormal, normalise_sound}
use Rattle.call_definitions.specs.Memory.{state_of, failed_of, CallAnswer}
use Rattle.call_definitions.specs.States.{failed_state}
use Rattle.call_definitions.specs.Answers.{AcceptedFlow, HasRoom, as_failed}
use Rattle.call_definitions.specs.Calls.{start_call}
use Rattle.call_definitions.proofs.Opening.{first_typed}
use Rattle.call_definitions.proofs.StartAnswered.{begun, start_is, by_start}
use Rattle.mirror.specs.Regrouped.{Regroups, code_one, failures, Stand}
use Rattle.mirror.proofs.RegroupedStates.{code_there, overflows_same, settle_same, normal_stand}

-- ---- one flow

module _ {rows : List ℤ} {c : Code} {Σ : List Ty} {τ : Ty} (a : AcceptedFlow rows c Σ τ) where
  evaluated : GoodTask Σ [] c [] a.first τ (evaluate c [] a.first) (overflows_task c [] a.first)
  evaluated = evaluate_good a.flow.typed [] a.first v_nil (first_typed a)

  settled : let (t, s) = evaluate c [] a.first in GoodNormal Σ [] c [] s t τ (settle c [] a.first)
  unfolding settle
  settled = let e = evaluated in let (t, s) = evaluate c [] a.first in normalise_sound c [] s t e.task v_nil e.store

-- ---- both

module _ {rows rows₁ : List ℤ} (g : Regroups rows rows₁) where
  pub failed_stand : overflows_task (code_one g) [] g.flow.first ≡ true → overflows_task (code_there g) [] g.flow₁.first ≡ true
      → Stand g (failed_of rows g.flow.first) (failed_of rows₁ g.flow₁.first)
  failed_stand o o₁ = record {
    rest = record {
      state = failed_state g.type g.flow.first;
      writes = as_failed g.flow.flow ((evaluated g.flow).over o) refl;
      still = n_done s_fail;
    };
    rest₁ = record {
      state = failed_state g.type₁ g.flow₁.first;
      writes = as_failed g.flow₁.flow ((evaluated g.flow₁).over o₁) refl;
      still = n_done s_fail;
    };
    path = λ p. p;
    alike = failures;
  }

  abbrev Begins : CallAnswer → CallAnswer → Type 0
  Begins x y = (x.number ≡ 0) × (y.number ≡ 0) × (y.strides ≡ x.strides) × Stand g x.state y.state

  -- by whether the last row leaves the words: it does in both or in neither
  begun_both : Begins (begun g.flow) (begun g.flow₁)
  begun_both =
      let same = overflows_same g g.firsts in
      let (t, s, n) = settle (code_one g) [] g.flow.first in
      let l = settle_same g g.firsts in
      by_start g.flow (λ x. Begins x (begun g.flow₁))
      (λ o. by_start g.flow₁ (λ y. Begins (record { number = 0; strides = 1; state = failed_of rows g.flow.first }) y)
      (λ o₁. (refl, refl, refl, failed_stand o o₁))
      (λ o₁. apart (same ∙ o) o₁))
      (λ o. by_start g.flow₁ (λ y. Begins (record { number = 0; strides = n; state = state_of rows (code_one g) t s }) y)
      (λ o₁. apart o₁ (same ∙ o))
      (λ o₁. (refl, refl, l.third, normal_stand g (settled g.flow) (settled g.flow₁) l)))

  pub starts_together : (memory memory₁ : List ℤ) → HasRoom rows memory → HasRoom rows₁ memory₁
      → Begins (start_call rows memory) (start_call rows₁ memory₁)
  starts_together memory memory₁ l l₁ =
      subst (λ x. Begins x (start_call rows₁ memory₁)) (sym (start_is g.flow memory l))
      (subst (Begins (begun g.flow)) (sym (start_is g.flow₁ memory₁ l₁)) begun_both)
