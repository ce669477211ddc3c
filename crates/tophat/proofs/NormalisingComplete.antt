-- What the rules derive is what the functions answer, typed or not: failing, striding and normalising; so each relation has at
-- most one answer. Rests on TaskEvaluationAgrees and Progress.
use mathlib.Core.Path.{◌≡◌, refl, sym, ap, ap₂, ◌∙◌}
use mathlib.Core.Bool.{Bool, true, false, ◌&&◌, ◌||◌}
use mathlib.Core.Logic.{inl, inr}
use Prim.Native.Nat.{ℕ, zero, suc, ◌<◌}
use native.Mathlib.Omega.{arith}
use Rattle.tophat.specs.Syntax.{moves, Code, Env, Store, TaskOf}
use Rattle.tophat.specs.Normalising.{Fails, f_edit, f_enter, f_update, f_then, f_next, f_fail, f_and, f_or}
use Rattle.tophat.specs.Normalising.{f_wraps, s_wraps, f_xor, f_view, RightFails, r_evaluated, r_overflow, BranchFails, b_normalised, b_overflow}
use Rattle.tophat.specs.Normalising.{Strides, s_edit, s_fill, s_update, s_fail, s_then_stay, s_then_fail, s_then_cont, s_next, s_and, s_or_left, s_or_right, s_or_none}
use Rattle.tophat.specs.Normalising.{s_xor, s_view, Normalises, n_done, n_repeat}
use Rattle.tophat.proofs.ComputeNormalising.{remaining, unless_still, strides, go_on, go_on_with, choose_right, choose_left, failing, stride, normalise, settle, right_fails, branch_fails}
use Rattle.tophat.proofs.ComputeEvaluation.{evaluate, overflows_task}
use Rattle.tophat.proofs.Became.{alike}
use Rattle.tophat.proofs.TaskEvaluationAgrees.{evaluate_is, overflows_task_is}
use Rattle.tophat.proofs.Progress.{remaining_moves, Progress, progress}

-- `stride` answers t₁ and s₁, with some flag
abbrev pub StridesAs : (c : Code) → Env → Store → TaskOf c → TaskOf c → Store → Type 0
StridesAs c ρ s t t₁ s₁ = (m : Bool) × (stride c ρ s t ≡ (t₁, s₁, m))

module _ (c : Code) (ρ : Env) where
  -- the flag of a stride that changes nothing, and of one that changes something
  unmoved : (s : Store) (t : TaskOf c) (m : Bool) → Progress c t s (t, s, m) → m ≡ false
  unmoved s t m (inl p) = p.flag
  unmoved s t m (inr p) = let h = p.fewer in absurd (omega arith)

  moved : (s s₁ : Store) (t t₁ : TaskOf c) (m : Bool) → ¬ ((t ≡ t₁) × (s ≡ s₁)) → Progress c t s (t₁, s₁, m) → (m ≡ true) × (remaining c t₁ < remaining c t)
  moved s s₁ t t₁ m x (inl p) = absurd (x (sym p.task, sym p.store))
  moved s s₁ t t₁ m x (inr p) = (p.flag, p.fewer)

  progress_as : {s s₁ : Store} {t t₁ : TaskOf c} {m : Bool} → stride c ρ s t ≡ (t₁, s₁, m) → Progress c t s (t₁, s₁, m)
  progress_as {s} {t = t} e = rw e at (progress c ρ s t)

  done_is : (n : ℕ) {s : Store} {t : TaskOf c} → StridesAs c ρ s t t s → strides (λ s t. stride c ρ s t) (suc n) s t ≡ (t, s, 1)
  unfolding strides unless_still
  done_is n {s} {t} (m, e) = let k = unmoved s t m (progress_as e) in rw (e, k)

  -- a stride that changes something leaves fewer that can move
  pub repeat_fewer : {s s₁ : Store} {t t₁ : TaskOf c} → StridesAs c ρ s t t₁ s₁ → ¬ ((t ≡ t₁) × (s ≡ s₁)) → remaining c t₁ < remaining c t
  repeat_fewer {s} {s₁} {t} {t₁} (m, e) x = (moved s s₁ t t₁ m x (progress_as e)).1

  repeat_is : (n i : ℕ) {s s₁ s₂ : Store} {t t₁ t₂ : TaskOf c} → StridesAs c ρ s t t₁ s₁ → ¬ ((t ≡ t₁) × (s ≡ s₁)) → strides (λ s t. stride c ρ s t) n s₁ t₁ ≡ (t₂, s₂, i)
      → strides (λ s t. stride c ρ s t) (suc n) s t ≡ (t₂, s₂, suc i)
  unfolding strides unless_still
  repeat_is n i {s} {s₁} {t = t} {t₁ = t₁} (m, e) x k = let z = (moved s s₁ t t₁ m x (progress_as e)).0 in rw (e, z, k)

mutual
  unfolding failing go_on go_on_with choose_left choose_right

  -- the answer derived on failing is the function's
  pub fails_is : {c : Code} {ρ : Env} {s : Store} {t : TaskOf c} {x : Bool} → Fails c ρ s t x → failing c ρ s t ≡ x
  fails_is f_edit = refl
  fails_is f_enter = refl
  fails_is f_update = refl
  fails_is (f_then d) = fails_is d
  fails_is (f_next d) = fails_is d
  fails_is f_fail = refl
  fails_is (f_and d d₁ e) = ap₂ ◌&&◌ (fails_is d) (fails_is d₁) ∙ e
  fails_is (f_or d d₁ e) = ap₂ ◌&&◌ (fails_is d) (fails_is d₁) ∙ e
  fails_is (f_xor p q z) = let h = branch_fails_is p in let k = branch_fails_is q in rw (h, k) z
  fails_is f_view = refl
  fails_is (f_wraps {s = s} {u = u} b k d) = let p = (alike b).fails s u in let q = fails_is d in rw (← k) (p ∙ q)

  -- the answers derived on what is tried are the functions'
  right_fails_is : {b : Code} {ρ : Env} {s : Store} {x : Bool} → RightFails b ρ s x → (let (u, s₁) = evaluate b ρ s in overflows_task b ρ s || failing b ρ s₁ u) ≡ x
  right_fails_is (r_evaluated d f) = let (e, o) = evaluate_is d in let k = fails_is f in rw (e, o, k)
  right_fails_is (r_overflow d) = let o = overflows_task_is d in rw o

  branch_fails_is : {c : Code} {ρ : Env} {s : Store} {x : Bool} → BranchFails c ρ s x
      → (let (t, s₁) = evaluate c ρ s in let (t₁, s₂, n) = strides (λ s t. stride c ρ s t) (suc (moves c)) s₁ t in overflows_task c ρ s || failing c ρ s₂ t₁) ≡ x
  branch_fails_is (b_normalised {c = c} {t = t} d n f) =
      let (e, o) = evaluate_is d in
      let h = strides_end_is n (suc (moves c)) (let k = remaining_moves c t in omega arith) in
      let k = fails_is f in
      rw (e, h, o, k)
  branch_fails_is (b_overflow d) = let o = overflows_task_is d in rw o

  -- the stride derived is the function's
  pub strides_as : {c : Code} {ρ : Env} {s s₁ : Store} {t t₁ : TaskOf c} → Strides c ρ s t t₁ s₁ → StridesAs c ρ s t t₁ s₁
  strides_as s_edit = (false, refl)
  strides_as s_fill = (false, refl)
  strides_as s_update = (false, refl)
  strides_as s_fail = (false, refl)
  strides_as (s_then_stay d e) = let (m, p) = strides_as d in (m, rw (p, e))
  strides_as (s_then_fail d e k) = let (m, p) = strides_as d in let q = right_fails_is k in (m, rw (p, e, q))
  strides_as (s_then_cont d e k l) = let (m, p) = strides_as d in let (q, o) = evaluate_is k in let r = fails_is l in (true, rw (p, e, q, o, r))
  strides_as (s_next d) = let (m, p) = strides_as d in (m, rw p)
  strides_as (s_and d d₁) = let (m, p) = strides_as d in let (n, q) = strides_as d₁ in (m || n, rw (p, q))
  strides_as (s_or_left d e) = let (m, p) = strides_as d in (true, rw (p, e))
  strides_as (s_or_right d e d₁ e₁) = let (m, p) = strides_as d in let (n, q) = strides_as d₁ in (true, rw (p, e, q, e₁))
  strides_as (s_or_none d e d₁ e₁) = let (m, p) = strides_as d in let (n, q) = strides_as d₁ in (m || n, rw (p, e, q, e₁))
  strides_as s_xor = (false, refl)
  strides_as s_view = (false, refl)
  strides_as (s_wraps {s = s} {u = u} b k l d) = let q = (alike b).strides s u in let (m, p) = strides_as d in (m, rw (← k, ← l, q, p))

  -- with a limit above what can still move, the strides derived are the function's
  strides_end_is : {c : Code} {ρ : Env} {s s₁ : Store} {t t₁ : TaskOf c} {i : ℕ} → Normalises c ρ s t t₁ s₁ i → (n : ℕ) → remaining c t < n
      → strides (λ s t. stride c ρ s t) n s t ≡ (t₁, s₁, i)
  strides_end_is (n_done d) zero l = absurd (omega arith)
  strides_end_is (n_done {ρ = ρ} {c = c} d) (suc n) l = done_is c ρ n (strides_as d)
  strides_end_is (n_repeat d x r) zero l = absurd (omega arith)
  strides_end_is (n_repeat {ρ = ρ} {c = c} d x r) (suc n) l =
      let p = strides_as d in
      let k = repeat_fewer c ρ p x in
      repeat_is c ρ n _ p x (strides_end_is r n (omega arith))

-- the task and the store
pub strides_is : {c : Code} {ρ : Env} {s s₁ : Store} {t t₁ : TaskOf c} → Strides c ρ s t t₁ s₁ → ((stride c ρ s t).0 ≡ t₁) × ((stride c ρ s t).1 ≡ s₁)
strides_is d = let (m, p) = strides_as d in (ap (λ r. r.0) p, ap (λ r. r.1) p)

-- the normal form derived, and its strides, are the function's
pub normalises_is : {c : Code} {ρ : Env} {s s₁ : Store} {t t₁ : TaskOf c} {n : ℕ} → Normalises c ρ s t t₁ s₁ n → normalise c ρ s t ≡ (t₁, s₁, n)
unfolding normalise
normalises_is {c} {t = t} d = let h = remaining_moves c t in strides_end_is d (suc (moves c)) (omega arith)

pub right_is : {b : Code} {ρ : Env} {s : Store} {x : Bool} → RightFails b ρ s x → right_fails b ρ s ≡ x
right_is d = right_fails_is d

pub branch_is : {c : Code} {ρ : Env} {s : Store} {x : Bool} → BranchFails c ρ s x → branch_fails c ρ s ≡ x
unfolding settle normalise
branch_is d = branch_fails_is d

-- each relation has at most one answer
pub fails_one : {c : Code} {ρ : Env} {s : Store} {t : TaskOf c} {x y : Bool} → Fails c ρ s t x → Fails c ρ s t y → x ≡ y
fails_one d e = sym (fails_is d) ∙ fails_is e

pub strides_one : {c : Code} {ρ : Env} {s s₁ s₂ : Store} {t t₁ t₂ : TaskOf c} → Strides c ρ s t t₁ s₁ → Strides c ρ s t t₂ s₂ → (t₁ ≡ t₂) × (s₁ ≡ s₂)
strides_one d e = let p = strides_is d in let q = strides_is e in (sym p.0 ∙ q.0, sym p.1 ∙ q.1)

pub normalises_one : {c : Code} {ρ : Env} {s s₁ s₂ : Store} {t t₁ t₂ : TaskOf c} {m n : ℕ} → Normalises c ρ s t t₁ s₁ m → Normalises c ρ s t t₂ s₂ n → (t₁ ≡ t₂) × (s₁ ≡ s₂) × (m ≡ n)
normalises_one d e = let p = sym (normalises_is d) ∙ normalises_is e in (ap (λ r. r.0) p, ap (λ r. r.1) p, ap (λ r. r.2) p)
