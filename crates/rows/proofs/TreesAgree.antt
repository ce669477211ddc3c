-- What Trees reads is what the functions of ComputeTrees give, so a row reads as at most one type, one expression and one
-- code; and the cells of rows are the cells' types and the first store. Rests on Trees and ComputeTrees.
use mathlib.Core.Path.{◌≡◌, refl, sym, ◌∙◌}
use mathlib.Core.Option.{some, bind}
use mathlib.Core.List.{List}
use Prim.Native.Nat.{ℕ, zero, suc, ◌<◌}
use native.Mathlib.Omega.{arith}
use Rattle.tophat.specs.Syntax.{Ty, unit, truth, number, Exp, Code, Store}
use borrow.Author.Tests.{eq-eqb, ne_eqb}
use Rattle.tophat.proofs.Basics.{some_is}
use Rattle.rows.specs.Kinds.{type_k, unit_k, truth_k, number_k, pair_k, cell_k, plain_k, eunit_k, etruth_k, enumber_k, ebinder_k, eop_k, epair_k, efst_k, esnd_k, ederef_k, eassign_k, number_of}
use Rattle.rows.specs.Kinds.{either_k, if_k, let_k, task_k, edit_k, enter_k, update_k, then_k, next_k, fail_k, and_k, or_k, xor_k, view_k, gate_k}
use Rattle.rows.specs.Rows.{word, OfKind, op_a}
use Rattle.rows.specs.Trees.{ReadsType, r_unit, r_truth, r_number, r_pair, ReadsCell, r_cell, Cells, c_none, c_truth, c_number, c_other}
use Rattle.rows.specs.Trees.{ReadsExp, r_eunit, r_etruth, r_enumber, r_ebinder, r_eop, r_eif, r_epair, r_efst, r_esnd, r_ederef, r_eassign, r_elet}
use Rattle.rows.specs.Trees.{ReadsCode, r_edit, r_enter, r_update, r_then, r_next, r_fail, r_and, r_or, r_xor, r_view, r_gate, r_if, r_let}
use Rattle.rows.specs.ComputeTrees.{type_at, exp_at, code_at, cell_type, content_of, cell_types, first_store}
use Rattle.rows.proofs.KindNumbers.{kind_at_lem}

cell_other : (rs : List ℕ) (i : ℕ) → (OfKind rs i cell_k → ⊥) → cell_type rs i ≡ unit
unfolding cell_type
cell_other rs i h = rw (ne_eqb (word rs i 0) (number_of cell_k) h)

module _ {rs : List ℕ} where
  type_at_lem : (n : ℕ) {i : ℕ} {τ : Ty} → i < n → ReadsType rs i τ → type_at rs n i ≡ some τ
  unfolding type_at bind
  type_at_lem zero l d = absurd (omega arith)
  type_at_lem (suc n) l (r_unit k) = rw (kind_at_lem rs _ (type_k unit_k) k)
  type_at_lem (suc n) l (r_truth k) = rw (kind_at_lem rs _ (type_k truth_k) k)
  type_at_lem (suc n) l (r_number k) = rw (kind_at_lem rs _ (type_k number_k) k)
  type_at_lem (suc n) l (r_pair k p q d e) = let x = type_at_lem n (omega arith) d in let y = type_at_lem n (omega arith) e in rw (kind_at_lem rs _ (type_k pair_k) k, x, y)

  exp_at_lem : (n : ℕ) {i : ℕ} {a : Exp} → i < n → ReadsExp rs i a → exp_at rs n i ≡ some a
  unfolding exp_at bind
  exp_at_lem zero l d = absurd (omega arith)
  exp_at_lem (suc n) l (r_eunit k) = rw (kind_at_lem rs _ (plain_k eunit_k) k)
  exp_at_lem (suc n) l (r_etruth k) = rw (kind_at_lem rs _ (plain_k etruth_k) k)
  exp_at_lem (suc n) l (r_enumber k) = rw (kind_at_lem rs _ (plain_k enumber_k) k)
  exp_at_lem (suc n) l (r_ebinder k) = rw (kind_at_lem rs _ (plain_k ebinder_k) k)
  exp_at_lem (suc n) l (r_eop k p q d e) = let x = exp_at_lem n (omega arith) d in let y = exp_at_lem n (omega arith) e in rw (kind_at_lem rs _ (plain_k eop_k) k, x, y)
  exp_at_lem (suc n) l (r_eif k p q r d e f) =
      let x = exp_at_lem n (omega arith) d in let y = exp_at_lem n (omega arith) e in let z = exp_at_lem n (omega arith) f in rw (kind_at_lem rs _ (either_k if_k) k, x, y, z)
  exp_at_lem (suc n) l (r_epair k p q d e) = let x = exp_at_lem n (omega arith) d in let y = exp_at_lem n (omega arith) e in rw (kind_at_lem rs _ (plain_k epair_k) k, x, y)
  exp_at_lem (suc n) l (r_efst k p d) = let x = exp_at_lem n (omega arith) d in rw (kind_at_lem rs _ (plain_k efst_k) k, x)
  exp_at_lem (suc n) l (r_esnd k p d) = let x = exp_at_lem n (omega arith) d in rw (kind_at_lem rs _ (plain_k esnd_k) k, x)
  exp_at_lem (suc n) l (r_ederef k p c) = rw (kind_at_lem rs _ (plain_k ederef_k) k)
  exp_at_lem (suc n) l (r_eassign k p q c d) = let x = exp_at_lem n (omega arith) d in rw (kind_at_lem rs _ (plain_k eassign_k) k, x)
  exp_at_lem (suc n) l (r_elet k p q d e) = let x = exp_at_lem n (omega arith) d in let y = exp_at_lem n (omega arith) e in rw (kind_at_lem rs _ (either_k let_k) k, x, y)

  code_at_lem : (n : ℕ) {i : ℕ} {c : Code} → i < n → ReadsCode rs i c → code_at rs n i ≡ some c
  unfolding code_at bind
  code_at_lem zero l d = absurd (omega arith)
  code_at_lem (suc n) l (r_edit k p d) = let x = exp_at_lem n (omega arith) d in rw (kind_at_lem rs _ (task_k edit_k) k, x)
  code_at_lem (suc n) l (r_enter k p d) = let x = type_at_lem n (omega arith) d in rw (kind_at_lem rs _ (task_k enter_k) k, x)
  code_at_lem (suc n) l (r_update k p c) = rw (kind_at_lem rs _ (task_k update_k) k)
  code_at_lem (suc n) l (r_then k p q d e) = let x = code_at_lem n (omega arith) d in let y = code_at_lem n (omega arith) e in rw (kind_at_lem rs _ (task_k then_k) k, x, y)
  code_at_lem (suc n) l (r_next k p q d e) = let x = code_at_lem n (omega arith) d in let y = code_at_lem n (omega arith) e in rw (kind_at_lem rs _ (task_k next_k) k, x, y)
  code_at_lem (suc n) l (r_fail k p d) = let x = type_at_lem n (omega arith) d in rw (kind_at_lem rs _ (task_k fail_k) k, x)
  code_at_lem (suc n) l (r_and k p q d e) = let x = code_at_lem n (omega arith) d in let y = code_at_lem n (omega arith) e in rw (kind_at_lem rs _ (task_k and_k) k, x, y)
  code_at_lem (suc n) l (r_or k p q d e) = let x = code_at_lem n (omega arith) d in let y = code_at_lem n (omega arith) e in rw (kind_at_lem rs _ (task_k or_k) k, x, y)
  code_at_lem (suc n) l (r_xor k p q d e) = let x = code_at_lem n (omega arith) d in let y = code_at_lem n (omega arith) e in rw (kind_at_lem rs _ (task_k xor_k) k, x, y)
  code_at_lem (suc n) l (r_view k p d) = let x = exp_at_lem n (omega arith) d in rw (kind_at_lem rs _ (task_k view_k) k, x)
  code_at_lem (suc n) l (r_gate k p d) = let x = code_at_lem n (omega arith) d in rw (kind_at_lem rs _ (task_k gate_k) k, x)
  code_at_lem (suc n) l (r_if k p q r d e f) =
      let x = exp_at_lem n (omega arith) d in let y = code_at_lem n (omega arith) e in let z = code_at_lem n (omega arith) f in rw (kind_at_lem rs _ (either_k if_k) k, x, y, z)
  code_at_lem (suc n) l (r_let k p q d e) = let x = exp_at_lem n (omega arith) d in let y = code_at_lem n (omega arith) e in rw (kind_at_lem rs _ (either_k let_k) k, x, y)

  -- what is read is what is computed
  pub type_is : {i : ℕ} {τ : Ty} → ReadsType rs i τ → (n : ℕ) → i < n → type_at rs n i ≡ some τ
  type_is d n l = type_at_lem n l d

  pub code_is : {i : ℕ} {c : Code} → ReadsCode rs i c → (n : ℕ) → i < n → code_at rs n i ≡ some c
  code_is d n l = code_at_lem n l d

  -- one tree at most
  pub one_type : {i : ℕ} {τ υ : Ty} → ReadsType rs i τ → ReadsType rs i υ → τ ≡ υ
  one_type {i} d e = some_is (sym (type_is d (suc i) (omega arith)) ∙ type_is e (suc i) (omega arith))

  pub one_code : {i : ℕ} {c d : Code} → ReadsCode rs i c → ReadsCode rs i d → c ≡ d
  one_code {i} d e = some_is (sym (code_is d (suc i) (omega arith)) ∙ code_is e (suc i) (omega arith))

  -- a cell's type by its type row
  cell_truth : {i : ℕ} → ReadsCell rs i truth → cell_type rs i ≡ truth
  unfolding cell_type
  cell_truth {i} (r_cell k p (r_truth e)) = rw (eq-eqb (word rs i 0) (number_of cell_k) k, eq-eqb (word rs (op_a rs i) 0) (number_of (type_k truth_k)) e)

  cell_number : {i : ℕ} → ReadsCell rs i number → cell_type rs i ≡ number
  unfolding cell_type
  cell_number {i} (r_cell k p (r_number e)) = rw (eq-eqb (word rs i 0) (number_of cell_k) k, ne_eqb (word rs (op_a rs i) 0) (number_of (type_k truth_k)) (λ y. omega arith))

  -- the cells of n rows are what is computed, so there is one list of types and one store at most
  pub cells_are : {n : ℕ} {Σ : List Ty} {s : Store} → Cells rs n Σ s → (Σ ≡ cell_types rs n) × (s ≡ first_store rs n)
  unfolding cell_types first_store content_of
  cells_are c_none = (refl, refl)
  cells_are (c_truth {i = i} d c) = let h = cells_are d in let t = cell_truth c in rw (t, h.0, h.1) (refl, refl)
  cells_are (c_number {i = i} d c) = let h = cells_are d in let t = cell_number c in rw (t, h.0, h.1) (refl, refl)
  cells_are (c_other {i = i} d c) = let h = cells_are d in let t = cell_other rs i c in rw (t, h.0, h.1) (refl, refl)

  pub one_cells : {n : ℕ} {Σ Σ₁ : List Ty} {s s₁ : Store} → Cells rs n Σ s → Cells rs n Σ₁ s₁ → (Σ ≡ Σ₁) × (s ≡ s₁)
  one_cells d e = let p = cells_are d in let q = cells_are e in (p.0 ∙ sym q.0, p.1 ∙ sym q.1)
