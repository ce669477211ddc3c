-- What wraps another task computes as that one, and is typed as it; and every task wraps another or has the form of its code, which is what
-- proofs on running tasks recurse over. Rests on ComputeEntries.
use mathlib.Core.Path.{◌≡◌, refl}
use mathlib.Core.List.{List, ◌∷◌}
use Prim.Native.Nat.{ℕ, ◌≤◌}
use native.Mathlib.Omega.{arith}
use Rattle.tophat.specs.Syntax.{moves, Ty, Exp, Code, edit, enter, update, then, next, fail, and, or, xor, view, gate, if, let', Val, Env, Store}
use Rattle.tophat.specs.Syntax.{TaskOf, filled, before, after, both, either, or_left, or_right, unpicked, picked_left, picked_right, gated, if_true, if_false, bound}
use Rattle.tophat.specs.Typing.{CodeType, t_then, t_next, t_or, t_xor, t_gate, t_if_task, t_let_task, ValueTypes, v_cons}
use Rattle.tophat.specs.Typing.{TaskType, k_then_after, k_next_after, k_or_left, k_or_right, k_picked_left, k_picked_right, k_gated, k_if_true, k_if_false, k_bound}
use Rattle.tophat.specs.Normalising.{value, Became, b_then, b_next, b_or_left, b_or_right, b_xor_left, b_xor_right, b_if_true, b_if_false, b_let, Wraps, w_became, w_gate}
use Rattle.tophat.specs.Roles.{Who}
use Rattle.tophat.proofs.ComputeNormalising.{failing, stride, remaining}
use Rattle.tophat.proofs.ComputeHandling.{map_task, handle}
use Rattle.tophat.proofs.ComputeEntries.{entries}

-- value, failing and striding of K u are those of u
pub record Alike (c : Code) (ρ : Env) (c₁ : Code) (ρ₁ : Env) (K : TaskOf c₁ → TaskOf c) : Type 0 where
  pub values : (s : Store) (u : TaskOf c₁) → value c (K u) s ≡ value c₁ u s
  pub fails : (s : Store) (u : TaskOf c₁) → failing c ρ s (K u) ≡ failing c₁ ρ₁ s u
  pub strides : (s : Store) (u : TaskOf c₁) → let (u₁, s₁, m) = stride c₁ ρ₁ s u in stride c ρ s (K u) ≡ (K u₁, s₁, m)
  pub remains : (u : TaskOf c₁) → remaining c (K u) ≡ remaining c₁ u
  pub moved : moves c₁ ≤ moves c

pub alike : {c c₁ : Code} {ρ ρ₁ : Env} {K : TaskOf c₁ → TaskOf c} → Wraps c ρ c₁ ρ₁ K → Alike c ρ c₁ ρ₁ K
unfolding value failing stride remaining moves
alike (w_became b_then) = record { values = λ s u. refl; fails = λ s u. refl; strides = λ s u. refl; remains = λ u. refl; moved = omega arith }
alike (w_became b_next) = record { values = λ s u. refl; fails = λ s u. refl; strides = λ s u. refl; remains = λ u. refl; moved = omega arith }
alike (w_became b_or_left) = record { values = λ s u. refl; fails = λ s u. refl; strides = λ s u. refl; remains = λ u. refl; moved = omega arith }
alike (w_became b_or_right) = record { values = λ s u. refl; fails = λ s u. refl; strides = λ s u. refl; remains = λ u. refl; moved = omega arith }
alike (w_became b_xor_left) = record { values = λ s u. refl; fails = λ s u. refl; strides = λ s u. refl; remains = λ u. refl; moved = omega arith }
alike (w_became b_xor_right) = record { values = λ s u. refl; fails = λ s u. refl; strides = λ s u. refl; remains = λ u. refl; moved = omega arith }
alike (w_became b_if_true) = record { values = λ s u. refl; fails = λ s u. refl; strides = λ s u. refl; remains = λ u. refl; moved = omega arith }
alike (w_became b_if_false) = record { values = λ s u. refl; fails = λ s u. refl; strides = λ s u. refl; remains = λ u. refl; moved = omega arith }
alike (w_became b_let) = record { values = λ s u. refl; fails = λ s u. refl; strides = λ s u. refl; remains = λ u. refl; moved = omega arith }
alike w_gate = record { values = λ s u. refl; fails = λ s u. refl; strides = λ s u. refl; remains = λ u. refl; moved = omega arith }

-- what has become another task handles and shows as that one
pub record TouchedAlike (c : Code) (ρ : Env) (c₁ : Code) (ρ₁ : Env) (K : TaskOf c₁ → TaskOf c) : Type 0 where
  pub handles : (s : Store) (u : TaskOf c₁) → handle c ρ s (K u) ≡ (λ p x. map_task K (handle c₁ ρ₁ s u p x))
  pub shows : (w : Who) (s : Store) (u : TaskOf c₁) → entries w c ρ s (K u) ≡ entries w c₁ ρ₁ s u

pub touched_alike : {c c₁ : Code} {ρ ρ₁ : Env} {K : TaskOf c₁ → TaskOf c} → Became c ρ c₁ ρ₁ K → TouchedAlike c ρ c₁ ρ₁ K
unfolding handle entries
touched_alike b_then = record { handles = λ s u. refl; shows = λ w s u. refl }
touched_alike b_next = record { handles = λ s u. refl; shows = λ w s u. refl }
touched_alike b_or_left = record { handles = λ s u. refl; shows = λ w s u. refl }
touched_alike b_or_right = record { handles = λ s u. refl; shows = λ w s u. refl }
touched_alike b_xor_left = record { handles = λ s u. refl; shows = λ w s u. refl }
touched_alike b_xor_right = record { handles = λ s u. refl; shows = λ w s u. refl }
touched_alike b_if_true = record { handles = λ s u. refl; shows = λ w s u. refl }
touched_alike b_if_false = record { handles = λ s u. refl; shows = λ w s u. refl }
touched_alike b_let = record { handles = λ s u. refl; shows = λ w s u. refl }

-- a task that wraps another, or has the form of its code
pub data Formed : (c : Code) → Env → TaskOf c → Type 0 where
  of_wraps : {c c₁ : Code} {ρ ρ₁ : Env} {K : TaskOf c₁ → TaskOf c} {u : TaskOf c₁} → Wraps c ρ c₁ ρ₁ K → Formed c₁ ρ₁ u → Formed c ρ (K u)
  of_edit : {ρ : Env} {e : Exp} {v : Val} → Formed (edit e) ρ (filled v)
  of_enter : {ρ : Env} {τ : Ty} {t : TaskOf (enter τ)} → Formed (enter τ) ρ t
  of_update : {ρ : Env} {n : ℕ} {t : TaskOf (update n)} → Formed (update n) ρ t
  of_then : {ρ : Env} {a b : Code} {t : TaskOf a} → Formed a ρ t → ((v : Val) (u : TaskOf b) → Formed b (v ∷ ρ) u) → Formed (then a b) ρ (before t)
  of_next : {ρ : Env} {a b : Code} {t : TaskOf a} → Formed a ρ t → ((v : Val) (u : TaskOf b) → Formed b (v ∷ ρ) u) → Formed (next a b) ρ (before t)
  of_fail : {ρ : Env} {τ : Ty} {t : TaskOf (fail τ)} → Formed (fail τ) ρ t
  of_and : {ρ : Env} {a b : Code} {t : TaskOf a} {u : TaskOf b} → Formed a ρ t → Formed b ρ u → Formed (and a b) ρ (both t u)
  of_or : {ρ : Env} {a b : Code} {t : TaskOf a} {u : TaskOf b} → Formed a ρ t → Formed b ρ u → Formed (or a b) ρ (either t u)
  of_xor : {ρ : Env} {a b : Code} → ((t : TaskOf a) → Formed a ρ t) → ((u : TaskOf b) → Formed b ρ u) → Formed (xor a b) ρ unpicked
  of_view : {ρ : Env} {e : Exp} {v : Val} → Formed (view e) ρ (filled v)

pub formed : (c : Code) (ρ : Env) (t : TaskOf c) → Formed c ρ t
formed (edit e) ρ (filled v) = of_edit
formed (enter τ) ρ t = of_enter
formed (update n) ρ t = of_update
formed (then a b) ρ (before t) = of_then (formed a ρ t) (λ v u. formed b (v ∷ ρ) u)
formed (then a b) ρ (after v u) = of_wraps (w_became b_then) (formed b (v ∷ ρ) u)
formed (next a b) ρ (before t) = of_next (formed a ρ t) (λ v u. formed b (v ∷ ρ) u)
formed (next a b) ρ (after v u) = of_wraps (w_became b_next) (formed b (v ∷ ρ) u)
formed (fail τ) ρ t = of_fail
formed (and a b) ρ (both t u) = of_and (formed a ρ t) (formed b ρ u)
formed (or a b) ρ (either t u) = of_or (formed a ρ t) (formed b ρ u)
formed (or a b) ρ (or_left t) = of_wraps (w_became b_or_left) (formed a ρ t)
formed (or a b) ρ (or_right u) = of_wraps (w_became b_or_right) (formed b ρ u)
formed (xor a b) ρ unpicked = of_xor (λ t. formed a ρ t) (λ u. formed b ρ u)
formed (xor a b) ρ (picked_left t) = of_wraps (w_became b_xor_left) (formed a ρ t)
formed (xor a b) ρ (picked_right u) = of_wraps (w_became b_xor_right) (formed b ρ u)
formed (view e) ρ (filled v) = of_view
formed (gate r n b) ρ (gated k u) = of_wraps w_gate (formed b ρ u)
formed (if e a b) ρ (if_true t) = of_wraps (w_became b_if_true) (formed a ρ t)
formed (if e a b) ρ (if_false u) = of_wraps (w_became b_if_false) (formed b ρ u)
formed (let' e b) ρ (bound v u) = of_wraps (w_became b_let) (formed b (v ∷ ρ) u)

-- what a typed task wraps is typed, and may be changed for another so typed
pub record Inner (Σ Γ : List Ty) (c : Code) (ρ : Env) (c₁ : Code) (ρ₁ : Env) (K : TaskOf c₁ → TaskOf c) (u : TaskOf c₁) (τ : Ty) : Type 0 where
  pub types : List Ty
  pub task : TaskType Σ types c₁ u τ
  pub env : ValueTypes ρ Γ → ValueTypes ρ₁ types
  pub back : {u₁ : TaskOf c₁} → TaskType Σ types c₁ u₁ τ → TaskType Σ Γ c (K u₁) τ
  pub code : CodeType Σ types c₁ τ → CodeType Σ Γ c τ

pub inner : {Σ Γ : List Ty} {c c₁ : Code} {ρ ρ₁ : Env} {K : TaskOf c₁ → TaskOf c} {τ : Ty} → Wraps c ρ c₁ ρ₁ K → (u : TaskOf c₁) → TaskType Σ Γ c (K u) τ → Inner Σ Γ c ρ c₁ ρ₁ K u τ
inner (w_became b_then) u (k_then_after d k e) = record { types = _; task = e; env = λ g. v_cons k g; back = λ e. k_then_after d k e; code = λ e. t_then d e }
inner (w_became b_next) u (k_next_after d k e) = record { types = _; task = e; env = λ g. v_cons k g; back = λ e. k_next_after d k e; code = λ e. t_next d e }
inner (w_became b_or_left) u (k_or_left d e) = record { types = _; task = d; env = λ g. g; back = λ d. k_or_left d e; code = λ d. t_or d e }
inner (w_became b_or_right) u (k_or_right d e) = record { types = _; task = e; env = λ g. g; back = λ e. k_or_right d e; code = λ e. t_or d e }
inner (w_became b_xor_left) u (k_picked_left d e) = record { types = _; task = d; env = λ g. g; back = λ d. k_picked_left d e; code = λ d. t_xor d e }
inner (w_became b_xor_right) u (k_picked_right d e) = record { types = _; task = e; env = λ g. g; back = λ e. k_picked_right d e; code = λ e. t_xor d e }
inner (w_became b_if_true) u (k_if_true x d e) = record { types = _; task = d; env = λ g. g; back = λ d. k_if_true x d e; code = λ d. t_if_task x d e }
inner (w_became b_if_false) u (k_if_false x d e) = record { types = _; task = e; env = λ g. g; back = λ e. k_if_false x d e; code = λ e. t_if_task x d e }
inner (w_became b_let) u (k_bound x k d) = record { types = _; task = d; env = λ g. v_cons k g; back = λ d. k_bound x k d; code = λ d. t_let_task x d }
inner w_gate u (k_gated l d) = record { types = _; task = d; env = λ g. g; back = λ d. k_gated l d; code = λ d. t_gate d }
