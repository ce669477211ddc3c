-- The cells' types at the rows that read as cells, and what `cell_shape` gives. Rests on the crates rows and shape.
use mathlib.Core.Path.{◌≡◌, sym, ap, ◌∙◌}
use mathlib.Core.Option.{some}
use mathlib.Core.List.{List}
use Prim.Native.Nat.{ℕ, ◌<◌}
use borrow.Author.Tests.{eq-eqb, ne_eqb}
use Rattle.tophat.specs.Syntax.{Ty, truth, number}
use Rattle.tophat.proofs.ComputeTyping.{nth}
use Rattle.tophat.proofs.TypingAgrees.{at_nth}
use Rattle.shape.specs.Shape.{as_shape}
use Rattle.rows.specs.Kinds.{type_k, truth_k, number_of}
use Rattle.rows.specs.Rows.{word, op_a}
use Rattle.rows.specs.Trees.{ReadsCell}
use Rattle.rows.specs.ComputeTrees.{content_type, cell_types}
use Rattle.rows.proofs.TreesAgree.{cells_are}
use Rattle.rows.proofs.Exists.{Sorted, cells_exist}
use Rattle.rows.proofs.CellsAt as cells

-- in rows that pass ground 4
pub cell_known : (rs : List ℕ) (n : ℕ) → Sorted rs n → (i : ℕ) (τ : Ty) → i < n → ReadsCell rs i τ → nth (cell_types rs n) i ≡ some τ
cell_known rs n q i τ l r = let (Σ, s, d) = cells_exist rs n q in ap (λ Σ. nth Σ i) (sym (cells_are d).0) ∙ at_nth (cells.cell_known d l r)

-- ---- what a cell holds, by its type row a

module _ (rs : List ℕ) (i : ℕ) {a : ℕ} (h : a ≡ op_a rs i) where
  pub shape_truth : {k : ℕ} → k ≡ word rs a 0 → k ≡ number_of (type_k truth_k) → as_shape truth ≡ as_shape (content_type rs i)
  shape_truth e z = let t = eq-eqb (word rs (op_a rs i) 0) (number_of (type_k truth_k)) (ap (λ a. word rs a 0) (sym h) ∙ sym e ∙ z) in rw t

  pub shape_number : {k : ℕ} → k ≡ word rs a 0 → (k ≡ number_of (type_k truth_k) → ⊥) → as_shape number ≡ as_shape (content_type rs i)
  shape_number e n = let t = ne_eqb (word rs (op_a rs i) 0) (number_of (type_k truth_k)) (λ z. n (e ∙ ap (λ a. word rs a 0) h ∙ z)) in rw t
