-- What look and handle find in a flow's rows and in any words, and what they find in the mirrored rows and the same words: the same ground, or
-- a state and that state with its parts exchanged, whose writings are one. For every content of the state memory. Rests on MirroredFlow,
-- the calculus' Mirroring and call_definitions' Opening.
use mathlib.Core.Path.{◌≡◌, refl, sym, ap, ◌∙◌}
use mathlib.Core.Bool.{Bool, true, false, ◌&&◌, cond}
use mathlib.Core.Option.{Option, none, some}
use mathlib.Core.List.{List, []}
use Prim.Native.Nat.{ℕ, ◌*◌}
use native.Mathlib.Omega.{arith}
use borrow.Author.Tests.{eq-eqb, eqb-true}
use borrow.Table.Steps.{cases}
use lib.Dec.{eqb}
use lib.IntN.{ℤ}
use lib.ListN.{length}
use Rattle.tophat.specs.Syntax.{Ty, pair, Code, and, TaskOf, Store}
use Rattle.tophat.specs.Typing.{TaskType, ValueTypes}
use Rattle.tophat.specs.Redrawn.{exchanged}
use Rattle.tophat.proofs.Basics.{apart, and_left, and_right}
use Rattle.tophat.proofs.ComputeEvaluation.{overflows_task}
use Rattle.tophat.proofs.ComputeNormalising.{stride}
use Rattle.tophat.proofs.Mirroring.{Writeless, overflows_exchanged, stride_exchanged}
use Rattle.rows.specs.GroundNumbers.{wrong_memory, not_state, not_at_rest}
use Rattle.rows.specs.Lent.{own_rows, row_count}
use Rattle.rows.proofs.TreesAgree.{cells_are}
use Rattle.state.specs.Layout.{state_words, encode, encode_failed}
use Rattle.state.specs.Lent.{own_of, lent_of}
use Rattle.state.specs.Reading.{same, decode}
use Rattle.state.proofs.Reading.{decode_sound}
use Rattle.call_definitions.specs.Memory.{state_of, failed_of}
use Rattle.call_definitions.specs.States.{task_state, failed_state}
use Rattle.call_definitions.specs.Answers.{Loads, AcceptedFlow, HasRoom}
use Rattle.call_definitions.specs.Calls.{Opened, refused_by, rest_of, at_rest, decoded, opened}
use Rattle.call_definitions.proofs.Opening.{flow_rows, decoded_from, opened_is, held_failed, failed_opens}
use Rattle.call_definitions.proofs.Grounds.{opened_misfit}
use Rattle.mirror.specs.Mirrored.{mirrored, writeless}
use Rattle.mirror.proofs.Exchanged.{mirrored_count}
use Rattle.mirror.proofs.MirroredStates.{on_task, failed_alike, encode_exchanged, decode_exchanged}
use Rattle.mirror.proofs.MirroredFlow.{two_flows, mirrored_flow}
use Rattle.mirror.proofs.Writeless.{rows_writeless}

module _ {rows : List ℤ} {a b : Code} {Σ : List Ty} {τ υ : Ty} (f : AcceptedFlow rows (and a b) Σ (pair τ υ)) where
  abbrev n : ℕ
  n = row_count rows

  abbrev mirror : AcceptedFlow (mirrored rows) (and b a) Σ (pair υ τ)
  mirror = mirrored_flow f

  -- ---- one writing

  pub state_mirrored : {t : TaskOf (and a b)} {s : Store} → TaskType Σ [] (and a b) t (pair τ υ) → ValueTypes s Σ
      → state_of (mirrored rows) (and b a) (exchanged t) s ≡ state_of rows (and a b) t s
  unfolding state_of
  state_mirrored {t} {s} k h =
      (λ j. lent_of (mirrored_count rows j) (encode (own_rows (mirrored rows)) (mirrored_count rows j) (and b a) (exchanged t) s))
      ∙ ap (lent_of n) (encode_exchanged (two_flows f) t k h)

  failed_encoded : (s : Store) → encode_failed (own_rows (mirrored rows)) (row_count (mirrored rows)) s ≡ encode_failed (own_rows rows) n s
  failed_encoded s = ap (λ k. encode_failed (own_rows (mirrored rows)) k s) (mirrored_count rows) ∙ failed_alike (two_flows f) s

  pub failed_mirrored : (s : Store) → failed_of (mirrored rows) s ≡ failed_of rows s
  unfolding failed_of
  failed_mirrored s = (λ j. lent_of (mirrored_count rows j) (failed_encoded s j))

  -- ---- what is decoded

  -- by the cells' types that the flow has
  decoded_as : (ws : List ℤ) → decoded_from f ws ≡ decode (own_rows rows) n (and a b) Σ (own_of n ws)
  decoded_as ws = ap (λ Σ. decode (own_rows rows) n (and a b) Σ (own_of n ws)) (sym (cells_are f.flow.cells).0)

  decoded_mirrored : (ws : List ℤ) → decoded_from mirror ws ≡ on_task exchanged (decoded_from f ws)
  decoded_mirrored ws =
      ap (λ Σ. decode (own_rows (mirrored rows)) (row_count (mirrored rows)) (and b a) Σ (own_of (row_count (mirrored rows)) ws)) (sym (cells_are mirror.flow.cells).0)
      ∙ (λ j. decode (own_rows (mirrored rows)) (mirrored_count rows j) (and b a) Σ (own_of (mirrored_count rows j) ws))
      ∙ decode_exchanged (two_flows f) (own_of n ws)
      ∙ sym (ap (on_task exchanged) (decoded_as ws))

  module _ (w : writeless rows ≡ true) where
    pub parts_writeless : Writeless (and a b)
    parts_writeless = let o = (flow_rows f).some in rows_writeless rows w (omega (arith, o)) f.flow.code

    -- ---- what is found

    pub data Found : Opened → Opened → Type 0 where
      neither : {g : ℕ} → (g ≡ 0 → ⊥) → Found (refused_by g) (refused_by g)
      rests : {t : TaskOf (and a b)} {s : Store} → TaskType Σ [] (and a b) t (pair τ υ) → ValueTypes s Σ
          → Found (rest_of (task_state (and a b) t s)) (rest_of (task_state (and b a) (exchanged t) s))
      failures : {s : Store} → Found (rest_of (failed_state (pair τ υ) s)) (rest_of (failed_state (pair υ τ) s))

    found_task : {t : TaskOf (and a b)} {s : Store} → TaskType Σ [] (and a b) t (pair τ υ) → ValueTypes s Σ
        → Found (at_rest (and a b) t s) (at_rest (and b a) (exchanged t) s)
    unfolding at_rest
    found_task {t} {s} k h =
        let e : (stride (and b a) [] s (exchanged t)).2 ≡ (stride (and a b) [] s t).2 = ap (λ r. r.2) (stride_exchanged a b [] parts_writeless s t) in
        cases (stride (and a b) [] s t).2 (λ y. rw (e, y) (neither {g = not_at_rest} (λ z. omega (arith, z)))) (λ o. rw (e, o) (rests k h))

    found_failed : (ws : List ℤ) → Found (decoded rows ws (and a b) none) (decoded (mirrored rows) ws (and b a) none)
    found_failed ws =
        let o : overflows_task (and b a) [] f.first ≡ overflows_task (and a b) [] f.first = overflows_exchanged a b [] parts_writeless f.first in
        let e : held_failed mirror ws ≡ held_failed f ws = (λ j. o j && same (failed_encoded f.first j) (own_of (mirrored_count rows j) ws)) in
        cases (held_failed f ws)
        (λ y. by y (e ∙ y) failures)
        (λ z. by z (e ∙ z) (neither {g = not_state} (λ g. omega (arith, g))))
      where
        by : {x : Bool} → held_failed f ws ≡ x → held_failed mirror ws ≡ x
            → Found (cond x (rest_of (failed_state (pair τ υ) f.first)) (refused_by not_state)) (cond x (rest_of (failed_state (pair υ τ) f.first)) (refused_by not_state))
            → Found (decoded rows ws (and a b) none) (decoded (mirrored rows) ws (and b a) none)
        by {x} y z g = rw (failed_opens f ws x y, failed_opens mirror ws x z) g

    found_decoded : (ws : List ℤ) (o : Option (TaskOf (and a b) × Store)) → decoded_from f ws ≡ o
        → Found (decoded rows ws (and a b) o) (decoded (mirrored rows) ws (and b a) (on_task exchanged o))
    unfolding decoded on_task
    found_decoded ws none e = found_failed ws
    found_decoded ws (some q) e = let k = decode_sound (own_rows rows) n (flow_rows f) (own_of n ws) (sym (decoded_as ws) ∙ e) in found_task k.typed k.stored

    pub found : (ws : List ℤ) (fits : Bool) → Found (opened rows ws fits) (opened (mirrored rows) ws fits)
    found ws fits = cases (eqb (length ws) (n * state_words) && fits)
        (λ y.
        let l : HasRoom rows ws = eqb-true _ _ (and_left (eqb (length ws) (n * state_words)) fits y) in
        let z = and_right (eqb (length ws) (n * state_words)) fits y in
        let l₁ : HasRoom (mirrored rows) ws = l ∙ ap (λ k. k * state_words) (sym (mirrored_count rows)) in
        rw (z, opened_is f ws l, opened_is mirror ws l₁, decoded_mirrored ws) (found_decoded ws (decoded_from f ws) refl))
        (λ o. rw (misfit rows f.loads o, misfit (mirrored rows) mirror.loads (ap (λ k. eqb (length ws) (k * state_words) && fits) (mirrored_count rows) ∙ o)) (neither {g = wrong_memory} (λ z. omega (arith, z))))
      where
        misfit : (rs : List ℤ) → Loads rs → (eqb (length ws) (row_count rs * state_words) && fits) ≡ false → opened rs ws fits ≡ refused_by wrong_memory
        misfit rs l e = opened_misfit rs ws fits l (λ r z. apart (rw (eq-eqb (length ws) (row_count rs * state_words) r, z)) e)
