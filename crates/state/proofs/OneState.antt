-- Words hold at most one task of a code, and one content of each cell: states that are written alike are the same. Rests on
-- Words and the calculus' typing.
use mathlib.Core.Path.{◌≡◌, refl, sym, ap, ap₂, ◌∙◌, subst}
use mathlib.Core.Logic.{◌⊎◌, inl, inr, ⊎_elim}
use mathlib.Core.List.{List, [], ◌∷◌, ◌++◌}
use Prim.Native.Nat.{ℕ, zero, suc, ◌≤◌}
use native.Mathlib.Decide.{ℕ_discrete}
use native.Mathlib.Omega.{arith}
use lib.ListN.{length, get_or}
use lib.Seq.{ext_get_or}
use Rattle.tophat.specs.Syntax.{max_leaves, Ty, unit, truth, number, leaves, Code, edit, enter, update, then, next, fail, and, or, xor, view, gate, if, let', Val, vunit, Store}
use Rattle.tophat.specs.Syntax.{TaskOf, filled, entered, before, after, both, either, or_left, or_right, picked_left, picked_right, gated, if_true, if_false, bound}
use Rattle.tophat.specs.Typing.{ValueType, v_unit, v_truth, v_number, v_pair, ValueTypes, v_nil, v_cons, TaskType, k_filled, k_blank, k_entered, k_shared, k_then_before, k_then_after, type_of, AllSmall, small_nil, small_cons}
use Rattle.tophat.specs.Typing.{k_next_before, k_next_after, k_failed, k_both, k_either, k_or_left, k_or_right, k_unpicked, k_picked_left, k_picked_right, k_viewed, k_gated, k_if_true, k_if_false, k_bound}
use Rattle.tophat.proofs.Basics.{some_is}
use Rattle.tophat.proofs.TypeLeaves.{type_leaves, task_type_leaves}
use Rattle.tophat.proofs.Leaves.{type_of_lem}
use Rattle.shape.proofs.Puts.{shape_inj}
use Rattle.value.specs.Values.{as_value}
use Rattle.value.proofs.Fitting.{value_in_lem}
use Rattle.rows.specs.Kinds.{cell_k, number_of}
use Rattle.rows.specs.Rows.{word, op_a, op_b, op_c}
use Rattle.rows.specs.Trees.{ReadsCell, r_cell, Cells, c_none, c_truth, c_number, c_other}
use Rattle.rows.proofs.CellsAt.{cells_length, cells_small}
use Rattle.state.specs.Layout.{value_words}
use Rattle.state.specs.Holds.{Cell, Row, Holds, Stores}
use Rattle.state.proofs.Words.{value_at_lem}

-- ---- values

-- a value is one by its shape and its leaves
pub value_one : {u v : Val} {τ υ : Ty} → ValueType u τ → ValueType v υ → as_value u ≡ as_value v → u ≡ v
unfolding as_value
value_one {u} {v} {τ} {υ} g h e =
    let p : type_of u ≡ type_of v = shape_inj (type_of u) (type_of v) (ap (λ x. x.shape) e) in
    let q : υ ≡ τ = sym (type_of_lem h) ∙ sym p ∙ type_of_lem g in
    some_is (sym (value_in_lem (as_value u) τ u g refl) ∙ value_in_lem (as_value u) τ v (subst (ValueType v) q h) e)

-- what a row holds
pub row_value : {ws : List ℕ} {i x y : ℕ} {u v : Val} {τ υ : Ty} → ValueType u τ → leaves τ ≤ max_leaves → ValueType v υ → leaves υ ≤ max_leaves
    → Row ws i (x ∷ value_words u) → Row ws i (y ∷ value_words v) → u ≡ v
row_value g l h m p q = value_one g h (sym (value_at_lem p g l) ∙ value_at_lem q h m)

-- ---- tasks

-- a row has one tag
clash : {A : Type 0} {ws : List ℕ} {i x y : ℕ} {xs ys : List ℕ} → Row ws i (x ∷ xs) → Row ws i (y ∷ ys) → (x ≡ y → ⊥) → A
clash p q n = absurd (n (sym (p.words 0 (omega arith)) ∙ q.words 0 (omega arith)))

module _ (rs ws : List ℕ) {Σ : List Ty} (g : AllSmall Σ) where
  pub holds_one : {Γ Γ₁ : List Ty} {τ τ₁ : Ty} (i : ℕ) (c : Code) {t t₁ : TaskOf c} → TaskType Σ Γ c t τ → TaskType Σ Γ₁ c t₁ τ₁ → AllSmall Γ → AllSmall Γ₁
      → Holds rs ws i c t → Holds rs ws i c t₁ → t ≡ t₁
  holds_one i (edit e) (k_filled d v) (k_filled d₁ v₁) h h₁ p q = ap filled (row_value v (type_leaves d g h) v₁ (type_leaves d₁ g h₁) p q)
  holds_one i (enter τ) (k_blank l) (k_blank l₁) h h₁ p q = refl
  holds_one i (enter τ) (k_blank l) (k_entered l₁ v₁) h h₁ p q = clash p q (λ e. omega arith)
  holds_one i (enter τ) (k_entered l v) (k_blank l₁) h h₁ p q = clash p q (λ e. omega arith)
  holds_one i (enter τ) (k_entered l v) (k_entered l₁ v₁) h h₁ p q = ap entered (row_value v l v₁ l₁ p q)
  holds_one i (update k) (k_shared d) (k_shared d₁) h h₁ p q = refl
  holds_one i (then a b) (k_then_before d e) (k_then_before d₁ e₁) h h₁ p q = ap before (holds_one (op_a rs i) a d d₁ h h₁ p.1 q.1)
  holds_one i (then a b) (k_then_before d e) (k_then_after d₁ v₁ e₁) h h₁ p q = clash p.0 q.0 (λ e. omega arith)
  holds_one i (then a b) (k_then_after d v e) (k_then_before d₁ e₁) h h₁ p q = clash p.0 q.0 (λ e. omega arith)
  holds_one i (then a b) (k_then_after d v e) (k_then_after d₁ v₁ e₁) h h₁ p q =
      let l = task_type_leaves d g h in
      let l₁ = task_type_leaves d₁ g h₁ in
      ap₂ after (row_value v l v₁ l₁ p.0 q.0) (holds_one (op_b rs i) b e e₁ (small_cons l h) (small_cons l₁ h₁) p.2 q.2)
  holds_one i (next a b) (k_next_before d e) (k_next_before d₁ e₁) h h₁ p q = ap before (holds_one (op_a rs i) a d d₁ h h₁ p.1 q.1)
  holds_one i (next a b) (k_next_before d e) (k_next_after d₁ v₁ e₁) h h₁ p q = clash p.0 q.0 (λ e. omega arith)
  holds_one i (next a b) (k_next_after d v e) (k_next_before d₁ e₁) h h₁ p q = clash p.0 q.0 (λ e. omega arith)
  holds_one i (next a b) (k_next_after d v e) (k_next_after d₁ v₁ e₁) h h₁ p q =
      let l = task_type_leaves d g h in
      let l₁ = task_type_leaves d₁ g h₁ in
      ap₂ after (row_value v l v₁ l₁ p.0 q.0) (holds_one (op_b rs i) b e e₁ (small_cons l h) (small_cons l₁ h₁) p.2 q.2)
  holds_one i (fail τ) (k_failed l) (k_failed l₁) h h₁ p q = refl
  holds_one i (and a b) (k_both d e l) (k_both d₁ e₁ l₁) h h₁ p q = ap₂ both (holds_one (op_a rs i) a d d₁ h h₁ p.1 q.1) (holds_one (op_b rs i) b e e₁ h h₁ p.2 q.2)
  holds_one i (or a b) (k_either d e) (k_either d₁ e₁) h h₁ p q = ap₂ either (holds_one (op_a rs i) a d d₁ h h₁ p.1 q.1) (holds_one (op_b rs i) b e e₁ h h₁ p.2 q.2)
  holds_one i (or a b) (k_either d e) (k_or_left d₁ e₁) h h₁ p q = clash p.0 q.0 (λ e. omega arith)
  holds_one i (or a b) (k_either d e) (k_or_right d₁ e₁) h h₁ p q = clash p.0 q.0 (λ e. omega arith)
  holds_one i (or a b) (k_or_left d e) (k_either d₁ e₁) h h₁ p q = clash p.0 q.0 (λ e. omega arith)
  holds_one i (or a b) (k_or_left d e) (k_or_left d₁ e₁) h h₁ p q = ap or_left (holds_one (op_a rs i) a d d₁ h h₁ p.1 q.1)
  holds_one i (or a b) (k_or_left d e) (k_or_right d₁ e₁) h h₁ p q = clash p.0 q.0 (λ e. omega arith)
  holds_one i (or a b) (k_or_right d e) (k_either d₁ e₁) h h₁ p q = clash p.0 q.0 (λ e. omega arith)
  holds_one i (or a b) (k_or_right d e) (k_or_left d₁ e₁) h h₁ p q = clash p.0 q.0 (λ e. omega arith)
  holds_one i (or a b) (k_or_right d e) (k_or_right d₁ e₁) h h₁ p q = ap or_right (holds_one (op_b rs i) b e e₁ h h₁ p.2 q.2)
  holds_one i (xor a b) (k_unpicked d e) (k_unpicked d₁ e₁) h h₁ p q = refl
  holds_one i (xor a b) (k_unpicked d e) (k_picked_left d₁ e₁) h h₁ p q = clash p.0 q.0 (λ e. omega arith)
  holds_one i (xor a b) (k_unpicked d e) (k_picked_right d₁ e₁) h h₁ p q = clash p.0 q.0 (λ e. omega arith)
  holds_one i (xor a b) (k_picked_left d e) (k_unpicked d₁ e₁) h h₁ p q = clash p.0 q.0 (λ e. omega arith)
  holds_one i (xor a b) (k_picked_left d e) (k_picked_left d₁ e₁) h h₁ p q = ap picked_left (holds_one (op_a rs i) a d d₁ h h₁ p.1 q.1)
  holds_one i (xor a b) (k_picked_left d e) (k_picked_right d₁ e₁) h h₁ p q = clash p.0 q.0 (λ e. omega arith)
  holds_one i (xor a b) (k_picked_right d e) (k_unpicked d₁ e₁) h h₁ p q = clash p.0 q.0 (λ e. omega arith)
  holds_one i (xor a b) (k_picked_right d e) (k_picked_left d₁ e₁) h h₁ p q = clash p.0 q.0 (λ e. omega arith)
  holds_one i (xor a b) (k_picked_right d e) (k_picked_right d₁ e₁) h h₁ p q = ap picked_right (holds_one (op_b rs i) b e e₁ h h₁ p.2 q.2)
  holds_one i (view e) (k_viewed d v) (k_viewed d₁ v₁) h h₁ p q = ap filled (row_value v (type_leaves d g h) v₁ (type_leaves d₁ g h₁) p q)
  holds_one i (gate r n b) (k_gated l d) (k_gated l₁ d₁) h h₁ p q =
      ap₂ gated (sym (p.0.words 2 (omega arith)) ∙ q.0.words 2 (omega arith)) (holds_one (op_b rs i) b d d₁ h h₁ p.1 q.1)
  holds_one i (if x a b) (k_if_true z d e) (k_if_true z₁ d₁ e₁) h h₁ p q = ap if_true (holds_one (op_b rs i) a d d₁ h h₁ p.1 q.1)
  holds_one i (if x a b) (k_if_true z d e) (k_if_false z₁ d₁ e₁) h h₁ p q = clash p.0 q.0 (λ e. omega arith)
  holds_one i (if x a b) (k_if_false z d e) (k_if_true z₁ d₁ e₁) h h₁ p q = clash p.0 q.0 (λ e. omega arith)
  holds_one i (if x a b) (k_if_false z d e) (k_if_false z₁ d₁ e₁) h h₁ p q = ap if_false (holds_one (op_c rs i) b e e₁ h h₁ p.2 q.2)
  holds_one i (let' x b) (k_bound d v e) (k_bound d₁ v₁ e₁) h h₁ p q =
      let l = type_leaves d g h in
      let l₁ = type_leaves d₁ g h₁ in
      ap₂ bound (row_value v l v₁ l₁ p.0 q.0) (holds_one (op_b rs i) b e e₁ (small_cons l h) (small_cons l₁ h₁) p.1 q.1)

-- ---- stores

pub typed_at : {s : Store} {Σ : List Ty} → ValueTypes s Σ → (k : ℕ) → ValueType (get_or s k vunit) (get_or Σ k unit)
typed_at v_nil k = v_unit
typed_at (v_cons t d) zero = t
typed_at (v_cons t d) (suc k) = typed_at d k

small_at : {Σ : List Ty} → AllSmall Σ → (k : ℕ) → leaves (get_or Σ k unit) ≤ max_leaves
unfolding leaves
small_at small_nil k = omega arith
small_at (small_cons l g) zero = l
small_at (small_cons l g) (suc k) = small_at g k

pub cells_one : {rs ws : List ℕ} {Σ : List Ty} {s s₁ : Store} → AllSmall Σ → ValueTypes s Σ → ValueTypes s₁ Σ → Stores rs ws s → Stores rs ws s₁
    → (k : ℕ) → Cell rs k → get_or s k vunit ≡ get_or s₁ k vunit
cells_one g h h₁ p q k c = let l = small_at g k in row_value (typed_at h k) l (typed_at h₁ k) l (p.cells k c) (q.cells k c)

-- where no cell is, there is unit
one_more : (xs : List Ty) (x : Ty) (j : ℕ) → ((j ≡ length xs) × (get_or (xs ++ x ∷ []) j unit ≡ x)) ⊎ (get_or (xs ++ x ∷ []) j unit ≡ get_or xs j unit)
one_more [] x zero = inl (refl, refl)
one_more [] x (suc j) = inr refl
one_more (y ∷ xs) x zero = inr refl
one_more (y ∷ xs) x (suc j) = ⊎_elim (λ (e, p). inl (ap suc e, p)) inr (one_more xs x j)

module _ {rs : List ℕ} where
  at_cell : {i : ℕ} {τ : Ty} → ReadsCell rs i τ → Cell rs i
  at_cell (r_cell k x d) = k

  unit_at : {n : ℕ} {Σ : List Ty} {s : Store} → Cells rs n Σ s → (j : ℕ) → (Cell rs j → ⊥) → get_or Σ j unit ≡ unit
  unit_at c_none j n = refl
  unit_at (c_truth {Σ = Σ} d c) j n = ⊎_elim (λ (e, p). absurd (n (subst (λ i. Cell rs i) (sym (e ∙ (cells_length d).0)) (at_cell c)))) (λ p. p ∙ unit_at d j n) (one_more Σ truth j)
  unit_at (c_number {Σ = Σ} d c) j n = ⊎_elim (λ (e, p). absurd (n (subst (λ i. Cell rs i) (sym (e ∙ (cells_length d).0)) (at_cell c)))) (λ p. p ∙ unit_at d j n) (one_more Σ number j)
  unit_at (c_other {Σ = Σ} d c) j n = ⊎_elim (λ (e, p). p) (λ p. p ∙ unit_at d j n) (one_more Σ unit j)

pub only_unit : {v : Val} {τ : Ty} → ValueType v τ → τ ≡ unit → v ≡ vunit
only_unit v_unit e = refl
only_unit v_truth e = let z : ◌≡◌ {A = ℕ} 0 1 = cc in absurd (omega arith)
only_unit (v_number h) e = let z : ◌≡◌ {A = ℕ} 0 1 = cc in absurd (omega arith)
only_unit (v_pair g h) e = let z : ◌≡◌ {A = ℕ} 0 1 = cc in absurd (omega arith)

pub types_length : {s : Store} {Σ : List Ty} → ValueTypes s Σ → length s ≡ length Σ
types_length v_nil = refl
types_length (v_cons t d) = ap suc (types_length d)

-- words hold one store of the cells' types
pub stores_one : {rs ws : List ℕ} {n : ℕ} {Σ : List Ty} {s₀ s s₁ : Store} → Cells rs n Σ s₀ → ValueTypes s Σ → ValueTypes s₁ Σ → Stores rs ws s → Stores rs ws s₁ → s ≡ s₁
stores_one {rs} {s = s} {s₁ = s₁} c h h₁ p q = ext_get_or vunit s s₁ (types_length h ∙ sym (types_length h₁)) (λ k l. by k (ℕ_discrete (word rs k 0) (number_of cell_k)))
  where
    by : (k : ℕ) → Dec (Cell rs k) → get_or s k vunit ≡ get_or s₁ k vunit
    by k (yes e) = cells_one (cells_small c) h h₁ p q k e
    by k (no n) = let e = unit_at c k (λ z. n (z)) in only_unit (typed_at h k) e ∙ sym (only_unit (typed_at h₁ k) e)
