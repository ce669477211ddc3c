-- What the functions answer for a typed task is derived by the rules: failing, striding, and normalising, which also keeps
-- types. Rests on Preservation and Progress.
use mathlib.Core.Path.{◌≡◌, refl, ap, subst}
use mathlib.Core.Bool.{Bool, true, false, ◌||◌}
use mathlib.Core.Option.{Option, none, some}
use mathlib.Core.Logic.{inl, inr}
use mathlib.Core.List.{List, ◌∷◌}
use Prim.Native.Nat.{ℕ, zero, suc, ◌<◌}
use native.Mathlib.Omega.{arith}
use Rattle.tophat.specs.Syntax.{moves, Ty, Code, then, or, Val, Env, Store}
use Rattle.tophat.specs.Syntax.{TaskOf, before, either}
use Rattle.tophat.specs.Typing.{CodeType, ValueTypes, v_cons}
use Rattle.tophat.specs.Typing.{TaskType, k_then_before, k_next_before, k_both, k_either}
use Rattle.tophat.specs.Typing.{k_unpicked}
use Rattle.tophat.specs.Evaluation.{EvaluatesTask, OverflowsTask}
use Rattle.tophat.specs.Normalising.{f_wraps, s_wraps}
use Rattle.tophat.specs.Normalising.{value, Fails, f_edit, f_enter, f_update, f_then, f_next, f_fail, f_and, f_or}
use Rattle.tophat.specs.Normalising.{f_xor, f_view, RightFails, r_evaluated, r_overflow, BranchFails, b_normalised, b_overflow}
use Rattle.tophat.specs.Normalising.{Strides, s_edit, s_fill, s_update, s_fail, s_then_stay, s_then_fail, s_then_cont, s_next, s_and, s_or_left, s_or_right, s_or_none}
use Rattle.tophat.specs.Normalising.{s_xor, s_view, Normalises, n_done, n_repeat}
use Rattle.tophat.proofs.Basics.{apart}
use Rattle.tophat.proofs.ComputeEvaluation.{evaluate}
use Rattle.tophat.proofs.ComputeNormalising.{remaining, unless_still, strides, go_on, go_on_with, choose_right, choose_left, failing, stride, normalise, settle, right_fails, branch_fails}
use Rattle.tophat.proofs.Became.{alike, Formed, of_wraps, of_edit, of_enter, of_update, of_then, of_next, of_fail, of_and, of_or, of_xor, of_view, formed, inner}
use Rattle.tophat.proofs.TaskEvaluationAgrees.{evaluate_good}
use Rattle.tophat.proofs.Preservation.{option_is, value_type, KeptBy, stride_kept}
use Rattle.tophat.proofs.Progress.{remaining_moves, Progress, progress}

-- an answer of `stride` is derived
abbrev pub StridesTo : (c : Code) → Env → Store → TaskOf c → TaskOf c × Store × Bool → Type 0
StridesTo c ρ s t r = Strides c ρ s t r.0 r.1

-- what normalising gives is derived, a task of the type, and keeps the cells' types
pub record GoodNormal (Σ Γ : List Ty) (c : Code) (ρ : Env) (s : Store) (t : TaskOf c) (τ : Ty) (r : TaskOf c × Store × ℕ) : Type 0 where
  pub derived : Normalises c ρ s t r.0 r.1 r.2
  pub task : TaskType Σ Γ c r.0 τ
  pub store : ValueTypes r.1 Σ

-- a stride that changes nothing is the last
still : {c : Code} {ρ : Env} {s s₁ : Store} {t t₁ : TaskOf c} → Strides c ρ s t t₁ s₁ → t₁ ≡ t → s₁ ≡ s → Normalises c ρ s t t₁ s₁ 1
still d p q = rw (p, q) (n_done (rw (p, q) at d))

-- a stride that leaves fewer that can move changes something
moved : (c : Code) {s s₁ : Store} (t t₁ : TaskOf c) → remaining c t₁ < remaining c t → ¬ ((t ≡ t₁) × (s ≡ s₁))
moved c t t₁ h e = let z : remaining c t ≡ remaining c t₁ = ap (remaining c) e.0 in absurd (omega arith)

-- strides that are derived, repeated
module _ {Σ Γ : List Ty} {τ : Ty} (c : Code) (ρ : Env) (g : ValueTypes ρ Γ) (sound : (s : Store) (t : TaskOf c) → TaskType Σ Γ c t τ → ValueTypes s Σ → StridesTo c ρ s t (stride c ρ s t)) where
  unless_good : (s s₁ : Store) (t t₁ : TaskOf c) (m : Bool) (k : TaskOf c → Store → TaskOf c × Store × ℕ)
      → Strides c ρ s t t₁ s₁ → Progress c t s (t₁, s₁, m) → KeptBy Σ Γ c τ (t₁, s₁, m)
      → (remaining c t₁ < remaining c t → GoodNormal Σ Γ c ρ s₁ t₁ τ (k t₁ s₁)) → GoodNormal Σ Γ c ρ s t τ (unless_still m t₁ s₁ k)
  unfolding unless_still
  unless_good s s₁ t t₁ m k d (inl p) kp l = rw p.flag (record { derived = still d p.task p.store; task = kp.task; store = kp.store })
  unless_good s s₁ t t₁ m k d (inr p) kp l = let r = l p.fewer in rw p.flag (record { derived = n_repeat d (moved c t t₁ p.fewer) r.derived; task = r.task; store = r.store })

  strides_good : (n : ℕ) (s : Store) (t : TaskOf c) → TaskType Σ Γ c t τ → ValueTypes s Σ → remaining c t < n → GoodNormal Σ Γ c ρ s t τ (strides (λ s t. stride c ρ s t) n s t)
  unfolding strides
  strides_good zero s t d h l = absurd (omega arith)
  strides_good (suc n) s t d h l =
      let p = stride_kept d ρ s g h in
      unless_good s _ t _ _ _ (sound s t d h) (progress c ρ s t) p (λ k. strides_good n _ _ p.task p.store (omega arith))

  normal_good : (s : Store) (t : TaskOf c) → TaskType Σ Γ c t τ → ValueTypes s Σ → GoodNormal Σ Γ c ρ s t τ (strides (λ s t. stride c ρ s t) (suc (moves c)) s t)
  normal_good s t d h = let k = remaining_moves c t in strides_good (suc (moves c)) s t d h (omega arith)

-- a right side that was evaluated to r: whether it fails is derived, and where it does not, so is r
pub record Tried (b : Code) (ρ : Env) (s : Store) (r : TaskOf b × Store) (x : Bool) : Type 0 where
  pub fails : RightFails b ρ s x
  pub goes : x ≡ false → EvaluatesTask b ρ s r.0 r.1 × Fails b ρ r.1 r.0 false

tried : {b : Code} {ρ : Env} {s : Store} {r : TaskOf b × Store} (x y : Bool)
    → (x ≡ false → EvaluatesTask b ρ s r.0 r.1) → (x ≡ true → OverflowsTask b ρ s) → Fails b ρ r.1 r.0 y → Tried b ρ s r (x || y)
tried true y d o f = record { fails = r_overflow (o refl); goes = λ e. apart refl e }
tried {b} {ρ} {s} {r} false y d o f = record { fails = r_evaluated (d refl) f; goes = λ e. (d refl, subst (λ y. Fails b ρ r.1 r.0 y) e f) }

-- a branch that was evaluated and normalised: whether it fails is derived
branch_by : {c : Code} {ρ : Env} {s s₁ s₂ : Store} {t t₁ : TaskOf c} {n : ℕ} (x y : Bool)
    → (x ≡ false → EvaluatesTask c ρ s t s₁) → (x ≡ true → OverflowsTask c ρ s) → Normalises c ρ s₁ t t₁ s₂ n → Fails c ρ s₂ t₁ y → BranchFails c ρ s (x || y)
branch_by true y d o m f = b_overflow (o refl)
branch_by false y d o m f = b_normalised (d refl) m f

-- a step whose A has strided, by the value of A and B evaluated under it
go_on_lem : {a b : Code} {ρ : Env} {s s₁ : Store} {t t₁ : TaskOf a} (v : Val) (m : Bool) (r : TaskOf b × Store) (x : Bool)
    → Strides a ρ s t t₁ s₁ → value a t₁ s₁ ≡ some v → Tried b (v ∷ ρ) s₁ r x → StridesTo (then a b) ρ s (before t) (go_on v t₁ s₁ m r x)
unfolding go_on
go_on_lem v m r true h e k = s_then_fail h e k.fails
go_on_lem v m r false h e k = let (d, l) = k.goes refl in s_then_cont h e d l

go_on_with_lem : {a b : Code} {ρ : Env} {s s₁ : Store} {t t₁ : TaskOf a} (o : Option Val) (m : Bool) (E : Val → TaskOf b × Store) (F : Val → TaskOf b × Store → Bool)
    → Strides a ρ s t t₁ s₁ → value a t₁ s₁ ≡ o → ((v : Val) → o ≡ some v → Tried b (v ∷ ρ) s₁ (E v) (F v (E v)))
    → StridesTo (then a b) ρ s (before t) (go_on_with o t₁ s₁ m E F)
unfolding go_on_with
go_on_with_lem none m E F h e k = s_then_stay h e
go_on_with_lem (some v) m E F h e k = go_on_lem v m (E v) (F v (E v)) h e (k v refl)

-- a choice whose parts have strided, by their values
choose_right_lem : {a b : Code} {ρ : Env} {s s₁ s₂ : Store} {t t₁ : TaskOf a} {u u₁ : TaskOf b} (o : Option Val) (m : Bool)
    → Strides a ρ s t t₁ s₁ → value a t₁ s₁ ≡ none → Strides b ρ s₁ u u₁ s₂ → value b u₁ s₂ ≡ o
    → StridesTo (or a b) ρ s (either t u) (choose_right o t₁ u₁ s₂ m)
unfolding choose_right
choose_right_lem none m h e k d = s_or_none h e k d
choose_right_lem (some w) m h e k d = s_or_right h e k d

choose_left_lem : {a b : Code} {ρ : Env} {s s₁ : Store} {t t₁ : TaskOf a} {u : TaskOf b} (o : Option Val) (m : Bool) (G : Store → TaskOf b → TaskOf b × Store × Bool)
    → Strides a ρ s t t₁ s₁ → value a t₁ s₁ ≡ o → StridesTo b ρ s₁ u (G s₁ u)
    → StridesTo (or a b) ρ s (either t u) (choose_left o t₁ u s₁ m G (λ u s. value b u s))
unfolding choose_left
choose_left_lem none m G h e k = choose_right_lem _ _ h e k refl
choose_left_lem (some v) m G h e k = s_or_left h e

-- whether a task fails, and where it strides to, are derived
record Sound (c : Code) (ρ : Env) (s : Store) (t : TaskOf c) : Type 0 where
  fails : Fails c ρ s t (failing c ρ s t)
  strides : StridesTo c ρ s t (stride c ρ s t)

module _ {Σ : List Ty} where
  sound : {c : Code} {ρ : Env} {t : TaskOf c} {Γ : List Ty} {τ : Ty} → Formed c ρ t → (s : Store) → TaskType Σ Γ c t τ → ValueTypes ρ Γ → ValueTypes s Σ → Sound c ρ s t
  unfolding failing stride evaluate
  sound (of_wraps {u = u} b d) s k g h =
      let i = inner b u k in
      let p = sound d s i.task (i.env g) h in
      record { fails = rw ((alike b).fails s u) (f_wraps b refl p.fails); strides = rw ((alike b).strides s u) (s_wraps b refl refl p.strides) }
  sound of_edit s k g h = record { fails = f_edit; strides = s_edit }
  sound of_enter s k g h = record { fails = f_enter; strides = s_fill }
  sound of_update s k g h = record { fails = f_update; strides = s_update }
  sound (of_then {ρ = ρ} d f) s (k_then_before k e) g h =
      let p = sound d s k g h in
      let q = stride_kept k ρ s g h in
      let o = value_type q.task q.store in
      record {
        fails = f_then p.fails;
        strides = go_on_with_lem _ _ _ _ p.strides refl
            (λ v z. let r = evaluate_good e (v ∷ ρ) _ (v_cons (option_is o z) g) q.store in tried _ _ r.derived r.over (sound (f v _) _ r.task (v_cons (option_is o z) g) r.store).fails);
      }
  sound (of_next d f) s (k_next_before k e) g h = let p = sound d s k g h in record { fails = f_next p.fails; strides = s_next p.strides }
  sound of_fail s k g h = record { fails = f_fail; strides = s_fail }
  sound (of_and {ρ = ρ} d e) s (k_both k m l) g h =
      let p = sound d s k g h in
      record { fails = f_and p.fails (sound e s m g h).fails refl; strides = s_and p.strides (sound e _ m g (stride_kept k ρ s g h).store).strides }
  sound (of_or {ρ = ρ} d e) s (k_either k m) g h =
      let p = sound d s k g h in
      record { fails = f_or p.fails (sound e s m g h).fails refl; strides = choose_left_lem _ _ _ p.strides refl (sound e _ m g (stride_kept k ρ s g h).store).strides }
  sound (of_xor {ρ = ρ} {a = a} {b = b} d e) s (k_unpicked k m) g h =
      let p = evaluate_good k ρ s g h in
      let q = evaluate_good m ρ s g h in
      let x = normal_good a ρ g (λ s t k h. (sound (d t) s k g h).strides) _ _ p.task p.store in
      let y = normal_good b ρ g (λ s u m h. (sound (e u) s m g h).strides) _ _ q.task q.store in
      record {
        fails = f_xor
            (branch_by _ _ p.derived p.over x.derived (sound (d _) _ x.task g x.store).fails)
            (branch_by _ _ q.derived q.over y.derived (sound (e _) _ y.task g y.store).fails)
            refl;
        strides = s_xor;
      }
  sound of_view s k g h = record { fails = f_view; strides = s_view }

  -- whether a typed task fails is derived
  pub fails_sound : (c : Code) {Γ : List Ty} {τ : Ty} (ρ : Env) (s : Store) (t : TaskOf c) → TaskType Σ Γ c t τ → ValueTypes ρ Γ → ValueTypes s Σ → Fails c ρ s t (failing c ρ s t)
  fails_sound c ρ s t k g h = (sound (formed c ρ t) s k g h).fails

  -- where a typed task strides to is derived
  pub strides_sound : (c : Code) {Γ : List Ty} {τ : Ty} (ρ : Env) (s : Store) (t : TaskOf c) → TaskType Σ Γ c t τ → ValueTypes ρ Γ → ValueTypes s Σ → StridesTo c ρ s t (stride c ρ s t)
  strides_sound c ρ s t k g h = (sound (formed c ρ t) s k g h).strides

  -- what a typed task normalises to is derived, and of its type
  pub normalise_sound : (c : Code) {Γ : List Ty} {τ : Ty} (ρ : Env) (s : Store) (t : TaskOf c) → TaskType Σ Γ c t τ → ValueTypes ρ Γ → ValueTypes s Σ → GoodNormal Σ Γ c ρ s t τ (normalise c ρ s t)
  unfolding normalise
  normalise_sound c ρ s t d g h = normal_good c ρ g (λ s t d h. strides_sound c ρ s t d g h) s t d h

  -- a typed right side, tried
  pub right_tried : (b : Code) {Γ : List Ty} {τ : Ty} (ρ : Env) (s : Store) → CodeType Σ Γ b τ → ValueTypes ρ Γ → ValueTypes s Σ → Tried b ρ s (evaluate b ρ s) (right_fails b ρ s)
  right_tried b ρ s d g h = let q = evaluate_good d ρ s g h in tried _ _ q.derived q.over (fails_sound b ρ _ _ q.task g q.store)

  -- whether a typed right side, and a typed branch, fail is derived
  pub right_sound : (b : Code) {Γ : List Ty} {τ : Ty} (ρ : Env) (s : Store) → CodeType Σ Γ b τ → ValueTypes ρ Γ → ValueTypes s Σ → RightFails b ρ s (right_fails b ρ s)
  right_sound b ρ s d g h = (right_tried b ρ s d g h).fails

  pub branch_sound : (c : Code) {Γ : List Ty} {τ : Ty} (ρ : Env) (s : Store) → CodeType Σ Γ c τ → ValueTypes ρ Γ → ValueTypes s Σ → BranchFails c ρ s (branch_fails c ρ s)
  unfolding settle
  branch_sound c ρ s d g h =
      let q = evaluate_good d ρ s g h in
      let n = normalise_sound c ρ _ _ q.task g q.store in
      branch_by _ _ q.derived q.over n.derived (fails_sound c ρ _ _ n.task g n.store)
