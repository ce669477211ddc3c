-- Start and handle on a flow and on the flow mirrored: one equation each, for every memory and every event. Rests on MirroredOpening,
-- MirroredEvents and the calculus' Mirroring.
use mathlib.Core.Path.{◌≡◌, refl, sym, ap, ◌∙◌}
use mathlib.Core.Bool.{true}
use mathlib.Core.Option.{Option, none, some}
use mathlib.Core.List.{List, []}
use Prim.Native.Nat.{ℕ, ◌*◌}
use native.Mathlib.Decide.{ℕ_discrete}
use lib.IntN.{ℤ}
use lib.ListN.{length}
use Rattle.decimal.specs.Path.{Path}
use Rattle.tophat.specs.Syntax.{Ty, pair, Code, and, TaskOf, Store}
use Rattle.tophat.specs.Typing.{TaskType, ValueTypes, v_nil}
use Rattle.tophat.specs.Handling.{Action}
use Rattle.tophat.specs.Redrawn.{exchanged, mirror_path}
use Rattle.tophat.proofs.Basics.{All, all_none, all_some}
use Rattle.tophat.proofs.ComputeNormalising.{settle}
use Rattle.tophat.proofs.ComputeHandling.{Taken, map_task, handle}
use Rattle.tophat.proofs.TaskEvaluationAgrees.{evaluate_good}
use Rattle.tophat.proofs.NormalisingSound.{normalise_sound}
use Rattle.tophat.proofs.HandlingSound.{GoodHandling, handles_sound}
use Rattle.tophat.proofs.Mirroring.{overflows_exchanged, normalise_exchanged, settle_exchanged, handle_exchanged}
use Rattle.formats.specs.Touches.{event_of}
use Rattle.rows.specs.Lent.{row_count}
use Rattle.state.specs.Layout.{state_words}
use Rattle.call_definitions.specs.Answers.{AcceptedFlow, HasRoom}
use Rattle.call_definitions.specs.Calls.{Opened, start_call, handled, handle_read, handle_in, handle_call}
use Rattle.call_definitions.specs.Calls as calls
use Rattle.call_definitions.proofs.Opening.{accepts, first_typed}
use Rattle.call_definitions.proofs.StartAnswered.{begun, start_is, start_21_is}
use Rattle.mirror.specs.Mirrored.{mirrored, writeless, moved_touch, mirrored_event}
use Rattle.mirror.proofs.Exchanged.{mirrored_count}
use Rattle.mirror.proofs.MirroredEvents.{mirrored_event_lem}
use Rattle.mirror.proofs.MirroredFlow.{mirrored_flow}
use Rattle.mirror.proofs.MirroredOpening.{state_mirrored, failed_mirrored, parts_writeless, Found, neither, rests, failures, found}

module _ {rows : List ℤ} {a b : Code} {Σ : List Ty} {τ υ : Ty} (f : AcceptedFlow rows (and a b) Σ (pair τ υ)) (w : writeless rows ≡ true) where
  -- ---- start

  -- the last row, settled in the cells' first contents, is typed
  settled : let (t, s, n) = settle (and a b) [] f.first in TaskType Σ [] (and a b) t (pair τ υ) × ValueTypes s Σ
  unfolding settle
  settled =
      let g = evaluate_good f.flow.typed [] f.first v_nil (first_typed f) in
      let k = normalise_sound (and a b) [] _ _ g.task v_nil g.store in
      (k.task, k.store)

  begun_mirrored : begun (mirrored_flow f) ≡ begun f
  begun_mirrored =
      let o = overflows_exchanged a b [] (parts_writeless f w) f.first in
      let e = settle_exchanged a b [] (parts_writeless f w) f.first in
      let (k, h) = settled in
      rw (o, e, state_mirrored f k h, failed_mirrored f f.first) refl

  pub starts_mirrored : (memory : List ℤ) → start_call (mirrored rows) memory ≡ start_call rows memory
  starts_mirrored memory = by (ℕ_discrete (length memory) (row_count rows * state_words))
    where
      room : row_count (mirrored rows) * state_words ≡ row_count rows * state_words
      room = ap (λ k. k * state_words) (mirrored_count rows)

      by : Dec (HasRoom rows memory) → start_call (mirrored rows) memory ≡ start_call rows memory
      by (yes l) = start_is (mirrored_flow f) memory (l ∙ sym room) ∙ begun_mirrored ∙ sym (start_is f memory l)
      by (no n) = start_21_is (mirrored rows) memory (accepts (mirrored_flow f)) (λ l. n (l ∙ room)) ∙ sym (start_21_is rows memory (accepts f) n)

  -- ---- handle

  -- a readable event at a rest, by what handling makes of it
  handled_mirrored : (ws : List ℤ) (role : ℕ) (o : Option (Taken (TaskOf (and a b)))) {s : Store} {t : TaskOf (and a b)} {p : Path} {x : Action}
      → All (GoodHandling Σ [] (pair τ υ) (and a b) [] s t p x) o
      → handled (mirrored rows) ws (and b a) role (map_task exchanged o) ≡ handled rows ws (and a b) role o
  unfolding handled calls.settled map_task
  handled_mirrored ws role none all_none = refl
  handled_mirrored ws role (some q) (all_some g) =
      let e = normalise_exchanged a b [] (parts_writeless f w) q.1 q.0 in
      let k = normalise_sound (and a b) [] q.1 q.0 g.task v_nil g.store in
      rw (e, state_mirrored f k.task k.store) refl

  handled_found : (ws : List ℤ) (e : Option (ℕ × Path × Action)) {o o₁ : Opened} → Found f w o o₁
      → handle_in (mirrored rows) ws (moved_touch mirror_path e) o₁ ≡ handle_in rows ws e o
  unfolding handle_in handle_read moved_touch handled handle
  handled_found ws e (neither g) = refl
  handled_found ws none (rests k h) = refl
  handled_found ws (some e) (rests {t} {s} k h) =
      rw (handle_exchanged a b [] s t e.1 e.2) (handled_mirrored ws e.0 _ (handles_sound (and a b) [] s t e.1 e.2 k v_nil h))
  handled_found ws none failures = refl
  handled_found ws (some e) failures = refl

  pub touches_mirrored : (ws : List ℤ) (event : List ℕ) → handle_call (mirrored rows) ws (mirrored_event event) ≡ handle_call rows ws event
  unfolding handle_call
  touches_mirrored ws event = rw (mirrored_event_lem event) (handled_found ws (event_of event) (found f w ws true))
