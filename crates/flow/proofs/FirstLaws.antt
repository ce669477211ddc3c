-- The cells' first contents, one by one and all. Rests on rows' cells, on shapes and on state_check's laws of copied cells.
use mathlib.Core.Path.{◌≡◌, refl, sym, ap, subst, ◌∙◌}
use mathlib.Core.Bool.{Bool, true, false, cond}
use mathlib.Core.List.{List, ◌∷◌}
use Prim.Native.Nat.{ℕ, ◌+◌}
use native.Mathlib.Numerals.{add-one}
use native.Mathlib.Omega.{arith}
use borrow.Author.Tests.{eq-eqb}
use lib.Dec.{eqb}
use mir.Syntax.{w32}
use mir.Val.{to_z}
use Rattle.tophat.specs.Syntax.{unit, truth, number, vtruth, vnumber}
use Rattle.shape.specs.Shape.{put, as_shape}
use Rattle.rows.specs.Kinds.{type_k, truth_k, cell_k, number_of}
use Rattle.rows.specs.Rows.{word, op_a, op_b, is_kind}
use Rattle.rows.specs.ComputeTrees.{content_type, cell_type, content_of, first_store}
use Rattle.value.specs.declared.Value.{Value}
use Rattle.value.specs.Values.{as_value}
use Rattle.state.specs.Layout.{own}
use Rattle.state.specs.Holds.{Cell}
use Rattle.state.specs.Words.{words_of, Laid}
use Rattle.state.proofs.Words.{laid_as}
use Rattle.state.proofs.Frames.{same_refl, same_weak}
use Rattle.state_check.proofs.Cells.{more_cells}
use Rattle.flow.specs.Firsts.{content_at, first_at, CellFirst, CellsFirst}

-- ---- a cell's first content

-- the content of a cell of truths, or of numbers
abbrev content_by : List ℕ → ℕ → Bool → Value
content_by rs i b = as_value (content_of (cond b truth number) (op_b rs i))

module _ (rs : List ℕ) (i : ℕ) {k w : ℕ} (e : k ≡ as_shape (content_type rs i)) (o : w ≡ op_b rs i) {r : Value} where
  pub content_truth : k ≡ as_shape truth → (b : Bool) → b ≡ eqb w 1 → r ≡ as_value (vtruth b) → r ≡ as_value (content_at rs i)
  unfolding content_of as_shape put
  content_truth z b q p = which (is_kind rs (op_a rs i) (type_k truth_k)) e
    where
      which : (t : Bool) → k ≡ as_shape (cond t truth number) → r ≡ content_by rs i t
      which true h = p ∙ ap (λ b. as_value (vtruth b)) (q ∙ ap (λ w. eqb w 1) o)
      which false h = absurd (omega (arith, h, z))

  pub content_number : (k ≡ as_shape truth → ⊥) → r ≡ as_value (vnumber (to_z w32 w)) → r ≡ as_value (content_at rs i)
  unfolding content_of as_shape put
  content_number n p = which (is_kind rs (op_a rs i) (type_k truth_k)) e
    where
      which : (t : Bool) → k ≡ as_shape (cond t truth number) → r ≡ content_by rs i t
      which true h = absurd (n h)
      which false h = p ∙ ap (λ w. as_value (vnumber (to_z w32 w))) o

module _ (rs : List ℕ) (i : ℕ) {k : ℕ} (h : k ≡ word rs i 0) where
  pub first_is : {y y₁ : List ℕ} {v : Value} → k ≡ number_of cell_k → v ≡ as_value (content_at rs i) → Laid y y₁ i (own ∷ words_of v) → CellFirst rs y y₁ i
  unfolding cell_type
  first_is e q l =
      let c : Cell rs i = sym h ∙ e in
      let b = eq-eqb (word rs i 0) (number_of cell_k) c in
      let z : content_at rs i ≡ first_at rs i = ap (λ b. content_of (cond b (content_type rs i) unit) (op_b rs i)) (sym b) in
      let p = laid_as (first_at rs i) l (q ∙ ap as_value z) in
      record { row = λ _. p.row; same = same_weak (λ j q. (subst (Cell rs) (sym q) c, q)) p.same }

  pub first_none : {y : List ℕ} → (k ≡ number_of cell_k → ⊥) → CellFirst rs y y i
  first_none n = record { row = λ c. absurd (n (h ∙ c)); same = same_refl }

-- ---- the cells

pub no_firsts : (rs y : List ℕ) → CellsFirst rs y y 0
unfolding first_store
no_firsts rs y = record { long = refl; cells = λ j l. absurd (omega arith); same = same_refl }

module _ {rs y z y₁ : List ℕ} {i : ℕ} where
  pub more_firsts : CellsFirst rs y z i → CellFirst rs z y₁ i → CellsFirst rs y y₁ (i + 1)
  unfolding first_store
  more_firsts a c = subst (λ k. CellsFirst rs y y₁ k) (sym (add-one i)) (more_cells a c)

pub all_firsts : {rs y y₁ : List ℕ} {i n : ℕ} → i ≡ n → CellsFirst rs y y₁ i → CellsFirst rs y y₁ n
all_firsts {rs} {y} {y₁} e a = subst (CellsFirst rs y y₁) e a
