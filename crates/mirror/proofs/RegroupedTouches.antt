-- Touches of three choices grouped one way and the other: where two states go together, touches that go together get equal numbers and
-- strides, and leave states that go together. Rests on RegroupedStates and on call_definitions' HandleAnswered.
use mathlib.Core.Path.{◌≡◌, refl, sym, ap, subst, ◌∙◌}
use mathlib.Core.Option.{Option, none, some}
use mathlib.Core.List.{List, []}
use Prim.Native.Nat.{ℕ}
use borrow.Table.Steps.{cases}
use lib.Dec.{eqb}
use lib.IntN.{ℤ}
use Rattle.decimal.specs.Path.{Path}
use Rattle.tophat.specs.Syntax.{TaskOf, Store}
use Rattle.tophat.specs.Typing.{v_nil}
use Rattle.tophat.specs.Roles.{verdict}
use Rattle.tophat.specs.Handling.{Action}
use Rattle.tophat.proofs.Basics.{All, all_none, all_some}
use Rattle.tophat.proofs.ComputeNormalising.{normalise}
use Rattle.tophat.proofs.ComputeHandling.{Taken, handle}
use Rattle.tophat.proofs.NormalisingSound.{normalise_sound}
use Rattle.tophat.proofs.HandlingSound.{GoodHandling, handles_sound}
use Rattle.tophat.proofs.Renaming.{LikeWith}
use Rattle.tophat.proofs.RenamingTouches.{LikeOption, like_none, like_some}
use Rattle.formats.specs.Touches.{event_of}
use Rattle.call_definitions.specs.Memory.{CallAnswer}
use Rattle.call_definitions.specs.States.{FlowState, TypedState}
use Rattle.call_definitions.specs.Calls.{settled, handled, handle_read, handle_call}
use Rattle.call_definitions.proofs.Opening.{state_typed}
use Rattle.call_definitions.proofs.HandleAnswered.{rest_handle}
use Rattle.mirror.specs.Mirrored.{moved_touch}
use Rattle.mirror.specs.Regrouped.{Regroups, code_one, Corresponds, tasks, failures, Stand, Counterpart}
use Rattle.mirror.proofs.RegroupedStates.{CellSet, code_there, image, handle_same, normalise_same, normal_stand}

module _ {rows rows₁ : List ℤ} (g : Regroups rows rows₁) {ws ws₁ : List ℤ} (z : Stand g ws ws₁) where
  abbrev Answers : CallAnswer → CallAnswer → Type 0
  Answers x y = (y.number ≡ x.number) × (y.strides ≡ x.strides) × Stand g x.state y.state

  module _ {t : TaskOf (code_one g)} {t₁ : TaskOf (code_there g)} {s s₁ : Store} {p p₁ : Path} {x : Action} where
    -- what both come to, normalised
    by_taken : (role : ℕ) {r : Taken (TaskOf (code_one g))} {r₁ : Taken (TaskOf (code_there g))}
        → LikeWith g.place (CellSet g) (image g) r r₁ → GoodHandling g.cells [] g.type (code_one g) [] s t p x r
        → GoodHandling g.cells₁ [] g.type₁ (code_there g) [] s₁ t₁ p₁ x r₁
        → Answers (handled rows ws (code_one g) role (some r)) (handled rows₁ ws₁ (code_there g) role (some r₁))
    unfolding handled settled
    by_taken role {r} {r₁} l h h₁ =
        let m : LikeWith g.place (CellSet g) (image g) (normalise (code_one g) [] r.1 r.0) (normalise (code_there g) [] r₁.1 r₁.0) =
        subst (λ u. LikeWith g.place (CellSet g) (image g) (normalise (code_one g) [] r.1 r.0) (normalise (code_there g) [] r₁.1 u))
        (sym l.made) (normalise_same g l.store r.0) in
        rw l.third (cases (eqb (verdict role r.2) 0)
        (λ y. rw y (
          refl,
          m.third,
          normal_stand g
              (normalise_sound (code_one g) [] r.1 r.0 h.task v_nil h.store)
              (normalise_sound (code_there g) [] r₁.1 r₁.0 h₁.task v_nil h₁.store) m,
        ))
        (λ n. rw n (refl, refl, z)))

    -- a touch is taken by both, past the same rows of kind 50, or by neither
    by_handled : (role : ℕ) {o : Option (Taken (TaskOf (code_one g)))} {o₁ : Option (Taken (TaskOf (code_there g)))}
        → LikeOption g.place (CellSet g) (image g) o o₁ → All (GoodHandling g.cells [] g.type (code_one g) [] s t p x) o
        → All (GoodHandling g.cells₁ [] g.type₁ (code_there g) [] s₁ t₁ p₁ x) o₁
        → Answers (handled rows ws (code_one g) role o) (handled rows₁ ws₁ (code_there g) role o₁)
    unfolding handled
    by_handled role like_none all_none all_none = (refl, refl, z)
    by_handled role (like_some l) (all_some h) (all_some h₁) = by_taken role l h h₁

  -- in two states that go together; what has failed takes no touch
  by_states : {y y₁ : FlowState} {f : Path → Path} → Corresponds g y y₁ f
      → TypedState g.cells g.type y → TypedState g.cells₁ g.type₁ y₁
      → (o : Option (ℕ × Path × Action)) → Answers (handle_read rows ws y o) (handle_read rows₁ ws₁ y₁ (moved_touch f o))
  unfolding handle_read moved_touch handle handled
  by_states k d d₁ none = (refl, refl, z)
  by_states failures d d₁ (some e) = (refl, refl, z)
  by_states (tasks {t} {s} {s₁} k) d d₁ (some e) =
      by_handled e.0 (handle_same g k t e.1 e.2) (handles_sound (code_one g) [] s t e.1 e.2 d.0 v_nil d.1)
      (handles_sound (code_there g) [] s₁ (image g t) _ e.2 d₁.0 v_nil d₁.1)

  pub touches_together : (event event₁ : List ℕ) → Counterpart z.path event event₁
      → Answers (handle_call rows ws event) (handle_call rows₁ ws₁ event₁)
  touches_together event event₁ e =
      subst (λ x. Answers x (handle_call rows₁ ws₁ event₁)) (sym (rest_handle g.flow z.rest event))
      (subst (Answers (handle_read rows ws z.rest.state (event_of event)))
      (sym (rest_handle g.flow₁ z.rest₁ event₁ ∙ ap (handle_read rows₁ ws₁ z.rest₁.state) e))
      (by_states z.alike (state_typed g.flow z.rest.writes) (state_typed g.flow₁ z.rest₁.writes) (event_of event)))
