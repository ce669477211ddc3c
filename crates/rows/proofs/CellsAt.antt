-- The cells of n rows: a type and a content for each row, at a cell's row those of the cell. The first store is of the cells'
-- types, which have at most max_leaves leaves. Rests on TreesAgree and the calculus' typing.
use mathlib.Core.Path.{◌≡◌, refl, sym, subst, ◌∙◌}
use mathlib.Core.Logic.{⊎_elim}
use mathlib.Core.List.{List, [], ◌∷◌, ◌++◌}
use Prim.Native.Nat.{ℕ, suc, ◌<◌, ◌≤◌}
use native.Mathlib.Nat.{eq-or-lt_of_le, le_of_suc-le-suc}
use native.Mathlib.Omega.{arith}
use lib.ListN.{length, get_or, length-append}
use mir.Facts.{sfits_to_z}
use mir.Syntax.{w32}
use Rattle.word.specs.Word.{words}
use Rattle.tophat.specs.Syntax.{Ty, unit, truth, number, leaves, max_leaves, Val, Store}
use Rattle.tophat.specs.Typing.{At, here, there, ValueType, v_unit, v_truth, v_number, ValueTypes, v_nil, v_cons, AllSmall, small_nil, small_cons}
use Rattle.rows.specs.Kinds.{cell_k}
use Rattle.rows.specs.Rows.{op_b, OfKind}
use Rattle.rows.specs.Trees.{ReadsCell, r_cell, Cells, c_none, c_truth, c_number, c_other}
use Rattle.rows.proofs.TreesAgree.{one_type}

module _ {X : Type 0} where
  at_end : (xs : List X) (x : X) → At (xs ++ x ∷ []) (length xs) x
  at_end [] x = here
  at_end (y ∷ xs) x = there (at_end xs x)

  at_front : {xs : List X} {y : X} {i : ℕ} (x : X) → At xs i y → At (xs ++ x ∷ []) i y
  at_front x here = here
  at_front x (there d) = there (at_front x d)

  -- of a list with one more, by the place
  one_more : (xs : List X) (x : X) (i j : ℕ) {y : X} → length xs ≡ i → j < suc i → (j ≡ i → x ≡ y) → (j < i → At xs j y) → At (xs ++ x ∷ []) j y
  one_more xs x i j e l f g = ⊎_elim (λ h. subst (λ y. At (xs ++ x ∷ []) j y) (f h) (subst (λ k. At (xs ++ x ∷ []) k x) (e ∙ sym h) (at_end xs x)))
      (λ h. at_front x (g h)) (eq-or-lt_of_le (le_of_suc-le-suc l))

more_small : {τs : List Ty} (τ : Ty) → leaves τ ≤ max_leaves → AllSmall τs → AllSmall (τs ++ τ ∷ [])
more_small τ l small_nil = small_cons l small_nil
more_small τ l (small_cons h hs) = small_cons h (more_small τ l hs)

pub more_values : {vs : List Val} {τs : List Ty} {v : Val} {τ : Ty} → ValueTypes vs τs → ValueType v τ → ValueTypes (vs ++ v ∷ []) (τs ++ τ ∷ [])
more_values v_nil k = v_cons k v_nil
more_values (v_cons h hs) k = v_cons h (more_values hs k)

module _ {rs : List ℕ} where
  -- one for each row
  pub cells_length : {n : ℕ} {Σ : List Ty} {s : Store} → Cells rs n Σ s → (length Σ ≡ n) × (length s ≡ n)
  cells_length c_none = (refl, refl)
  cells_length (c_truth d c) = let (p, q) = cells_length d in (simp length-append (omega (arith, p)), simp length-append (omega (arith, q)))
  cells_length (c_number d c) = let (p, q) = cells_length d in (simp length-append (omega (arith, p)), simp length-append (omega (arith, q)))
  cells_length (c_other d c) = let (p, q) = cells_length d in (simp length-append (omega (arith, p)), simp length-append (omega (arith, q)))

  one_cell : {i : ℕ} {τ υ : Ty} → ReadsCell rs i τ → ReadsCell rs i υ → τ ≡ υ
  one_cell (r_cell k p d) (r_cell l q e) = one_type d e

  no_cell : {i : ℕ} {τ : Ty} {P : Type 0} → (OfKind rs i cell_k → ⊥) → ReadsCell rs i τ → P
  no_cell c (r_cell k p e) = absurd (c k)

  -- at a cell's row its type
  pub cell_known : {n j : ℕ} {Σ : List Ty} {s : Store} {τ : Ty} → Cells rs n Σ s → j < n → ReadsCell rs j τ → At Σ j τ
  cell_known c_none l r = absurd (omega arith)
  cell_known {j = j} {τ = τ} (c_truth {i = i} {Σ = Σ} d c) l r = one_more Σ truth i j (cells_length d).0 l (λ e. one_cell c (subst (λ k. ReadsCell rs k τ) e r)) (λ b. cell_known d b r)
  cell_known {j = j} {τ = τ} (c_number {i = i} {Σ = Σ} d c) l r = one_more Σ number i j (cells_length d).0 l (λ e. one_cell c (subst (λ k. ReadsCell rs k τ) e r)) (λ b. cell_known d b r)
  cell_known {j = j} {τ = τ} (c_other {i = i} {Σ = Σ} d c) l r = one_more Σ unit i j (cells_length d).0 l (λ e. no_cell c (subst (λ k. ReadsCell rs k τ) e r)) (λ b. cell_known d b r)

  -- the cells' types have at most max_leaves leaves
  pub cells_small : {n : ℕ} {Σ : List Ty} {s : Store} → Cells rs n Σ s → AllSmall Σ
  unfolding leaves
  cells_small c_none = small_nil
  cells_small (c_truth d c) = more_small truth (omega arith) (cells_small d)
  cells_small (c_number d c) = more_small number (omega arith) (cells_small d)
  cells_small (c_other d c) = more_small unit (omega arith) (cells_small d)

  -- each cell's first content is of its type, where the rows' words are words
  pub store_typed : {n : ℕ} {Σ : List Ty} {s : Store} → ((k : ℕ) → get_or rs k 0 < words) → Cells rs n Σ s → ValueTypes s Σ
  store_typed w c_none = v_nil
  store_typed w (c_truth d c) = more_values (store_typed w d) v_truth
  store_typed w (c_number {i = i} d c) = more_values (store_typed w d) (v_number (sfits_to_z {w = w32} {n = op_b rs i} (record { fits = w _ })).sfits)
  store_typed w (c_other d c) = more_values (store_typed w d) v_unit
