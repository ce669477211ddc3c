-- What handling an event comes to at a rest, by what the calculus' `handle` comes to. Rests on the calculus.
use mathlib.Core.Path.{◌≡◌, refl, ◌∙◌}
use mathlib.Core.Bool.{Bool, true, false, cond}
use mathlib.Core.Option.{Option, none, some}
use mathlib.Core.List.{List, []}
use Prim.Native.Nat.{ℕ}
use lib.Dec.{eqb}
use lib.IntN.{ℤ}
use Rattle.decimal.specs.Path.{Path}
use Rattle.tophat.specs.Syntax.{Ty, Code, TaskOf, Store}
use Rattle.tophat.specs.Typing.{TaskType, ValueTypes, v_nil}
use Rattle.tophat.specs.Normalising.{Normalises}
use Rattle.tophat.specs.Handling.{Action, Handles}
use Rattle.tophat.specs.Roles.{Gate, other_role, no_touch, of_role, touches_left, verdict, anyone, is, admits}
use Rattle.tophat.proofs.Basics.{All, all_none, all_some}
use Rattle.tophat.proofs.ComputeHandling.{Taken}
use Rattle.tophat.proofs.ComputeHandling as compute
use Rattle.tophat.proofs.Admitted.{admits_role}
use Rattle.tophat.proofs.NormalisingSound.{normalise_sound}
use Rattle.tophat.proofs.Bound.{normal_rest}
use Rattle.tophat.proofs.HandlingSound.{GoodHandling}
use Rattle.tophat.proofs.HandlingComplete.{refuses, fail_refuses}
use Rattle.rows.specs.GroundNumbers.{not_handled}
use Rattle.call_definitions.specs.Memory.{state_of, CallAnswer, refusal}
use Rattle.call_definitions.specs.States.{FlowState, task_state, AtRest, RefusesIn, PassesIn}
use Rattle.call_definitions.specs.Answers.{AcceptedFlow, Writes, as_task, as_failed, IsRest}
use Rattle.call_definitions.specs.Calls.{settled, handled}

-- what an event that is taken comes to is a state of the flow's own code: 45 takes none
taken_rest : {rows ws : List ℤ} {c : Code} {Σ : List Ty} {τ : Ty} {z : FlowState} {p : Path} {x : Action} {gs : List Gate} {t₁ t₂ : TaskOf z.code} {s₁ s₂ : Store}
    → Writes rows ws c Σ τ z → Handles z.code [] z.store z.task p x t₁ s₁ gs
    → TaskType Σ [] z.code t₂ τ → ValueTypes s₂ Σ → AtRest (task_state z.code t₂ s₂) → IsRest rows (state_of rows z.code t₂ s₂) c Σ τ
taken_rest (as_task w) h k v d = record { state = _; writes = as_task (record { typed = k; stored = v; written = refl }); still = d }
taken_rest (as_failed {s} f o e) h k v d = absurd (fail_refuses h)

module _ {rows ws : List ℤ} {c : Code} {Σ : List Ty} {τ : Ty} (a : AcceptedFlow rows c Σ τ) (r : IsRest rows ws c Σ τ) (event : List ℕ) where
  abbrev k : Code
  k = r.state.code

  abbrev t : TaskOf k
  t = r.state.task

  abbrev s : Store
  s = r.state.store

  -- what a readable event comes to: no rule and the same words; or a step that passes a row of kind 50 of another role, or a spent one, and
  -- the same words; or what the rules derive, at rest
  pub data Outcome (role : ℕ) (p : Path) (x : Action) : CallAnswer → Type 0 where
    kept : RefusesIn r.state p x → Outcome role p x (refusal not_handled ws)
    other : {gs : List Gate} → PassesIn r.state p x gs → of_role role gs ≡ false → Outcome role p x (refusal other_role ws)
    spent : {gs : List Gate} → PassesIn r.state p x gs → of_role role gs ≡ true → touches_left gs ≡ false → Outcome role p x (refusal no_touch ws)
    went : {t₁ t₂ : TaskOf k} {s₁ s₂ : Store} {gs : List Gate} {n : ℕ}
        → Handles k [] s t p x t₁ s₁ gs → admits (is role) gs ≡ true → Normalises k [] s₁ t₁ t₂ s₂ n → IsRest rows (state_of rows k t₂ s₂) c Σ τ
        → Outcome role p x (record { number = 0; strides = n; state = state_of rows k t₂ s₂ })

  -- by the verdict on the rows of kind 50 that a step passes
  by_verdict : {role : ℕ} {p : Path} {x : Action} (q : Taken (TaskOf k)) → GoodHandling Σ [] τ k [] s t p x q → Outcome role p x (handled rows ws k role (some q))
  unfolding handled settled verdict
  by_verdict {role} {p} {x} q g = by (of_role role q.2) refl (touches_left q.2) refl
    where
      by : (b : Bool) → of_role role q.2 ≡ b → (d : Bool) → touches_left q.2 ≡ d
          → let v = cond b (cond d 0 no_touch) other_role in
          Outcome role p x (cond (eqb v 0) (settled rows k q.0 q.1) (refusal v ws))
      by true e true f =
          let n = normalise_sound k [] q.1 q.0 g.task v_nil g.store in
          let w : admits (is role) q.2 ≡ true = admits_role role q.2 ∙ rw (e, f) refl in
          went g.derived w n.derived (taken_rest r.writes g.derived n.task n.store (normal_rest n.derived))
      by true e false f = spent (q.0, q.1, g.derived) e f
      by false e d f = other (q.0, q.1, g.derived) e

  pub by_handling : (role : ℕ) (p : Path) (x : Action) (o : Option (Taken (TaskOf k))) → compute.handle k [] s t p x ≡ o → All (GoodHandling Σ [] τ k [] s t p x) o
      → Outcome role p x (handled rows ws k role o)
  unfolding handled
  by_handling role p x none h all_none = kept (refuses anyone k s t p x h)
  by_handling role p x (some q) h (all_some g) = by_verdict q g
