-- Cells renamed: an expression, a code and a running task whose cells are renamed have the types that they had, where the cells named
-- have theirs; a running task has the type of the renamed one where its code has that type; and each running task of the renamed code is
-- one of the code, renamed. Rests on TypingAgrees, Preservation and TypedParts.
use mathlib.Core.Path.{◌≡◌, refl, ap, ap₂, subst, ◌∙◌}
use mathlib.Core.List.{List, [], ◌∷◌}
use Prim.Native.Nat.{ℕ, zero, suc, ◌<◌}
use native.Mathlib.Omega.{arith}
use lib.ListN.{length, get_or}
use Rattle.tophat.specs.Syntax.{Ty, unit, Exp, Code, edit, enter, update, then, next, fail, and, or, xor, view, gate, if, let'}
use Rattle.tophat.specs.Syntax.{TaskOf, filled, blank, entered, shared, before, after, failed, both, either, or_left, or_right, unpicked, picked_left, picked_right, gated, if_true, if_false, bound}
use Rattle.tophat.specs.Typing.{At, here, there, HasType, t_unit, t_truth, t_number, t_var, t_op, t_if, t_pair, t_fst, t_snd, t_deref, t_assign, t_let}
use Rattle.tophat.specs.Typing.{CodeType, t_edit, t_enter, t_update, t_then, t_next, t_fail, t_and, t_or, t_xor, t_view, t_gate, t_if_task, t_let_task}
use Rattle.tophat.specs.Typing.{TaskType, k_filled, k_blank, k_entered, k_shared, k_then_before, k_then_after, k_next_before, k_next_after, k_failed, k_both, k_either, k_or_left, k_or_right}
use Rattle.tophat.specs.Typing.{k_unpicked, k_picked_left, k_picked_right, k_viewed, k_gated, k_if_true, k_if_false, k_bound}
use Rattle.tophat.specs.Renamed.{renamed_exp, renamed, renamed_task, NamesExp, CellsIn, SameTypes}
use Rattle.tophat.proofs.TypingAgrees.{one_type, one_task_type}
use Rattle.tophat.proofs.Preservation.{task_code}
use Rattle.tophat.proofs.TypedParts.{filled_typed, entered_typed, viewed_typed, gated_typed, bound_typed, then_before_typed, then_after_typed, next_before_typed, next_after_typed}
use Rattle.tophat.proofs.TypedParts.{both_typed, either_typed, left_typed, right_typed, picked_left_typed, picked_right_typed, if_true_typed, if_false_typed}

-- what is looked up inside a list stands there
pub at_inside : (τs : List Ty) (n : ℕ) → n < length τs → At τs n (get_or τs n unit)
at_inside [] n l = absurd (omega arith)
at_inside (τ ∷ τs) zero l = here
at_inside (τ ∷ τs) (suc n) l = there (at_inside τs n (omega arith))

at_is : {τs : List Ty} {n : ℕ} {τ : Ty} → At τs n τ → get_or τs n unit ≡ τ
at_is here = refl
at_is (there d) = at_is d

-- the same types, by what is looked up
pub same_types : {π : ℕ → ℕ} {P : ℕ → Type 0} (Σ Σ₁ : List Ty) → ((k : ℕ) → P k → get_or Σ₁ (π k) unit ≡ get_or Σ k unit)
    → ((k : ℕ) → P k → π k < length Σ₁) → SameTypes π P Σ Σ₁
same_types {π} Σ Σ₁ h l = record { cell = λ k τ p d. subst (λ υ. At Σ₁ (π k) υ) (h k p ∙ at_is d) (at_inside Σ₁ (π k) (l k p)) }

module _ {π : ℕ → ℕ} {P : ℕ → Type 0} {Σ Σ₁ : List Ty} (g : SameTypes π P Σ Σ₁) where
  -- expressions
  pub exp_typed_like : {Γ : List Ty} {e : Exp} {τ : Ty} → HasType Σ Γ e τ → NamesExp P e → HasType Σ₁ Γ (renamed_exp π e) τ
  exp_typed_like t_unit w = t_unit
  exp_typed_like t_truth w = t_truth
  exp_typed_like (t_number h) w = t_number h
  exp_typed_like (t_var d) w = t_var d
  exp_typed_like (t_op o d e) w = t_op o (exp_typed_like d w.0) (exp_typed_like e w.1)
  exp_typed_like (t_if c d e) w = t_if (exp_typed_like c w.0) (exp_typed_like d w.1) (exp_typed_like e w.2)
  exp_typed_like (t_pair d e l) w = t_pair (exp_typed_like d w.0) (exp_typed_like e w.1) l
  exp_typed_like (t_fst d) w = t_fst (exp_typed_like d w)
  exp_typed_like (t_snd d) w = t_snd (exp_typed_like d w)
  exp_typed_like (t_deref d) w = t_deref (g.cell _ _ w d)
  exp_typed_like (t_assign d e) w = t_assign (g.cell _ _ w.0 d) (exp_typed_like e w.1)
  exp_typed_like (t_let d e) w = t_let (exp_typed_like d w.0) (exp_typed_like e w.1)

  -- tasks as a sheet has them
  pub code_typed_like : {Γ : List Ty} {c : Code} {τ : Ty} → CodeType Σ Γ c τ → CellsIn P c → CodeType Σ₁ Γ (renamed π c) τ
  code_typed_like (t_edit d) w = t_edit (exp_typed_like d w)
  code_typed_like (t_enter l) w = t_enter l
  code_typed_like (t_update d) w = t_update (g.cell _ _ w d)
  code_typed_like (t_then d e) w = t_then (code_typed_like d w.0) (code_typed_like e w.1)
  code_typed_like (t_next d e) w = t_next (code_typed_like d w.0) (code_typed_like e w.1)
  code_typed_like (t_fail l) w = t_fail l
  code_typed_like (t_and d e l) w = t_and (code_typed_like d w.0) (code_typed_like e w.1) l
  code_typed_like (t_or d e) w = t_or (code_typed_like d w.0) (code_typed_like e w.1)
  code_typed_like (t_xor d e) w = t_xor (code_typed_like d w.0) (code_typed_like e w.1)
  code_typed_like (t_view d) w = t_view (exp_typed_like d w)
  code_typed_like (t_gate d) w = t_gate (code_typed_like d w)
  code_typed_like (t_if_task x d e) w = t_if_task (exp_typed_like x w.0) (code_typed_like d w.1) (code_typed_like e w.2)
  code_typed_like (t_let_task x d) w = t_let_task (exp_typed_like x w.0) (code_typed_like d w.1)

  -- running tasks
  pub task_typed_like : {Γ : List Ty} {c : Code} {t : TaskOf c} {τ : Ty} → TaskType Σ Γ c t τ → CellsIn P c → TaskType Σ₁ Γ (renamed π c) (renamed_task π c t) τ
  unfolding renamed_task
  task_typed_like (k_filled d v) w = k_filled (exp_typed_like d w) v
  task_typed_like (k_blank l) w = k_blank l
  task_typed_like (k_entered l v) w = k_entered l v
  task_typed_like (k_shared d) w = k_shared (g.cell _ _ w d)
  task_typed_like (k_then_before d e) w = k_then_before (task_typed_like d w.0) (code_typed_like e w.1)
  task_typed_like (k_then_after d v e) w = k_then_after (code_typed_like d w.0) v (task_typed_like e w.1)
  task_typed_like (k_next_before d e) w = k_next_before (task_typed_like d w.0) (code_typed_like e w.1)
  task_typed_like (k_next_after d v e) w = k_next_after (code_typed_like d w.0) v (task_typed_like e w.1)
  task_typed_like (k_failed l) w = k_failed l
  task_typed_like (k_both d e l) w = k_both (task_typed_like d w.0) (task_typed_like e w.1) l
  task_typed_like (k_either d e) w = k_either (task_typed_like d w.0) (task_typed_like e w.1)
  task_typed_like (k_or_left d e) w = k_or_left (task_typed_like d w.0) (code_typed_like e w.1)
  task_typed_like (k_or_right d e) w = k_or_right (code_typed_like d w.0) (task_typed_like e w.1)
  task_typed_like (k_unpicked d e) w = k_unpicked (code_typed_like d w.0) (code_typed_like e w.1)
  task_typed_like (k_picked_left d e) w = k_picked_left (task_typed_like d w.0) (code_typed_like e w.1)
  task_typed_like (k_picked_right d e) w = k_picked_right (code_typed_like d w.0) (task_typed_like e w.1)
  task_typed_like (k_viewed d v) w = k_viewed (exp_typed_like d w) v
  task_typed_like (k_gated l d) w = k_gated l (task_typed_like d w)
  task_typed_like (k_if_true x d e) w = k_if_true (exp_typed_like x w.0) (task_typed_like d w.1) (code_typed_like e w.2)
  task_typed_like (k_if_false x d e) w = k_if_false (exp_typed_like x w.0) (code_typed_like d w.1) (task_typed_like e w.2)
  task_typed_like (k_bound x v d) w = k_bound (exp_typed_like x w.0) v (task_typed_like d w.1)

  -- and back, where the code is typed
  pub task_typed_back : {Γ : List Ty} {c : Code} {τ : Ty} → CodeType Σ Γ c τ → CellsIn P c → (t : TaskOf c)
      → TaskType Σ₁ Γ (renamed π c) (renamed_task π c t) τ → TaskType Σ Γ c t τ
  unfolding renamed_task
  task_typed_back (t_edit d) w (filled v) k = k_filled d (filled_typed k)
  task_typed_back (t_enter l) w blank k = k_blank l
  task_typed_back (t_enter l) w (entered v) k = k_entered l (entered_typed k)
  task_typed_back (t_update d) w shared k = k_shared d
  task_typed_back (t_then d e) w (before t) k =
      let (υ, m) = then_before_typed k in
      let q = one_task_type (task_code m) (code_typed_like d w.0) in
      k_then_before (task_typed_back d w.0 t (rw q at m)) e
  task_typed_back (t_then d e) w (after v u) k =
      let (υ, d₁, h, m) = then_after_typed k in
      let q = one_task_type d₁ (code_typed_like d w.0) in
      k_then_after d (rw q at h) (task_typed_back e w.1 u (rw q at m))
  task_typed_back (t_next d e) w (before t) k =
      let (υ, m) = next_before_typed k in
      let q = one_task_type (task_code m) (code_typed_like d w.0) in
      k_next_before (task_typed_back d w.0 t (rw q at m)) e
  task_typed_back (t_next d e) w (after v u) k =
      let (υ, d₁, h, m) = next_after_typed k in
      let q = one_task_type d₁ (code_typed_like d w.0) in
      k_next_after d (rw q at h) (task_typed_back e w.1 u (rw q at m))
  task_typed_back (t_fail l) w failed k = k_failed l
  task_typed_back (t_and d e l) w (both t u) k = let (m, n) = both_typed k in k_both (task_typed_back d w.0 t m) (task_typed_back e w.1 u n) l
  task_typed_back (t_or d e) w (either t u) k = let (m, n) = either_typed k in k_either (task_typed_back d w.0 t m) (task_typed_back e w.1 u n)
  task_typed_back (t_or d e) w (or_left t) k = k_or_left (task_typed_back d w.0 t (left_typed k).0) e
  task_typed_back (t_or d e) w (or_right u) k = k_or_right d (task_typed_back e w.1 u (right_typed k).1)
  task_typed_back (t_xor d e) w unpicked k = k_unpicked d e
  task_typed_back (t_xor d e) w (picked_left t) k = k_picked_left (task_typed_back d w.0 t (picked_left_typed k)) e
  task_typed_back (t_xor d e) w (picked_right u) k = k_picked_right d (task_typed_back e w.1 u (picked_right_typed k))
  task_typed_back (t_view d) w (filled v) k = k_viewed d (viewed_typed k)
  task_typed_back (t_gate d) w (gated m u) k = let (l, h) = gated_typed k in k_gated l (task_typed_back d w u h)
  task_typed_back (t_if_task x d e) w (if_true t) k = k_if_true x (task_typed_back d w.1 t (if_true_typed k)) e
  task_typed_back (t_if_task x d e) w (if_false u) k = k_if_false x d (task_typed_back e w.2 u (if_false_typed k))
  task_typed_back (t_let_task x d) w (bound v u) k =
      let (υ, x₁, h, m) = bound_typed k in
      let q = one_type x₁ (exp_typed_like x w.0) in
      k_bound x (rw q at h) (task_typed_back d w.1 u (rw q at m))

-- ---- each running task of the renamed code is one of the code, renamed

-- a running task of the renamed code, as one of the code
unfoldable pub unrenamed_task : (π : ℕ → ℕ) (c : Code) → TaskOf (renamed π c) → TaskOf c
unrenamed_task π (edit e) t = t
unrenamed_task π (enter τ) t = t
unrenamed_task π (update n) t = t
unrenamed_task π (then a b) (before t) = before (unrenamed_task π a t)
unrenamed_task π (then a b) (after v u) = after v (unrenamed_task π b u)
unrenamed_task π (next a b) (before t) = before (unrenamed_task π a t)
unrenamed_task π (next a b) (after v u) = after v (unrenamed_task π b u)
unrenamed_task π (fail τ) t = t
unrenamed_task π (and a b) (both t u) = both (unrenamed_task π a t) (unrenamed_task π b u)
unrenamed_task π (or a b) (either t u) = either (unrenamed_task π a t) (unrenamed_task π b u)
unrenamed_task π (or a b) (or_left t) = or_left (unrenamed_task π a t)
unrenamed_task π (or a b) (or_right u) = or_right (unrenamed_task π b u)
unrenamed_task π (xor a b) unpicked = unpicked
unrenamed_task π (xor a b) (picked_left t) = picked_left (unrenamed_task π a t)
unrenamed_task π (xor a b) (picked_right u) = picked_right (unrenamed_task π b u)
unrenamed_task π (view e) t = t
unrenamed_task π (gate r n b) (gated k u) = gated k (unrenamed_task π b u)
unrenamed_task π (if e a b) (if_true t) = if_true (unrenamed_task π a t)
unrenamed_task π (if e a b) (if_false u) = if_false (unrenamed_task π b u)
unrenamed_task π (let' e b) (bound v u) = bound v (unrenamed_task π b u)

-- there again
pub renamed_unrenamed : (π : ℕ → ℕ) (c : Code) (t : TaskOf (renamed π c)) → renamed_task π c (unrenamed_task π c t) ≡ t
unfolding renamed_task unrenamed_task
renamed_unrenamed π (edit e) t = refl
renamed_unrenamed π (enter τ) t = refl
renamed_unrenamed π (update n) t = refl
renamed_unrenamed π (then a b) (before t) = ap before (renamed_unrenamed π a t)
renamed_unrenamed π (then a b) (after v u) = ap (after v) (renamed_unrenamed π b u)
renamed_unrenamed π (next a b) (before t) = ap before (renamed_unrenamed π a t)
renamed_unrenamed π (next a b) (after v u) = ap (after v) (renamed_unrenamed π b u)
renamed_unrenamed π (fail τ) t = refl
renamed_unrenamed π (and a b) (both t u) = ap₂ both (renamed_unrenamed π a t) (renamed_unrenamed π b u)
renamed_unrenamed π (or a b) (either t u) = ap₂ either (renamed_unrenamed π a t) (renamed_unrenamed π b u)
renamed_unrenamed π (or a b) (or_left t) = ap or_left (renamed_unrenamed π a t)
renamed_unrenamed π (or a b) (or_right u) = ap or_right (renamed_unrenamed π b u)
renamed_unrenamed π (xor a b) unpicked = refl
renamed_unrenamed π (xor a b) (picked_left t) = ap picked_left (renamed_unrenamed π a t)
renamed_unrenamed π (xor a b) (picked_right u) = ap picked_right (renamed_unrenamed π b u)
renamed_unrenamed π (view e) t = refl
renamed_unrenamed π (gate r n b) (gated k u) = ap (gated k) (renamed_unrenamed π b u)
renamed_unrenamed π (if e a b) (if_true t) = ap if_true (renamed_unrenamed π a t)
renamed_unrenamed π (if e a b) (if_false u) = ap if_false (renamed_unrenamed π b u)
renamed_unrenamed π (let' e b) (bound v u) = ap (bound v) (renamed_unrenamed π b u)
