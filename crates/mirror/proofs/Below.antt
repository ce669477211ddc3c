-- What a row reads as rests on the rows from it down alone: where two lists of rows are the same below row m, a row below m reads as the same
-- type, cell, expression and code in both, and its task is written alike. Rests on rows' readings and on state's layout.
use mathlib.Core.Path.{◌≡◌, refl, subst, ◌∙◌}
use mathlib.Core.List.{List}
use Prim.Native.Nat.{ℕ, ◌<◌}
use native.Mathlib.Omega.{arith}
use lib.Dec.{eqb}
use mir.Syntax.{w32}
use mir.Val.{to_z}
use Rattle.tophat.specs.Syntax.{Ty, Exp, etruth, enumber, ebinder, eop, ederef, eassign, gated, gate}
use Rattle.tophat.specs.Syntax.{Code, update, TaskOf, filled, blank, entered, before, after, both, either, or_left, or_right, unpicked, picked_left, picked_right, if_true, if_false, bound}
use Rattle.rows.specs.Rows.{row_words, word, op_a, op_b, op_c}
use Rattle.rows.specs.Trees.{operator_of, ReadsType, r_unit, r_truth, r_number, r_pair, ReadsCell, r_cell, r_gate}
use Rattle.rows.specs.Trees.{ReadsExp, r_eunit, r_etruth, r_enumber, r_ebinder, r_eop, r_eif, r_epair, r_efst, r_esnd, r_ederef, r_eassign, r_elet}
use Rattle.rows.specs.Trees.{ReadsCode, r_edit, r_enter, r_update, r_then, r_next, r_fail, r_and, r_or, r_xor, r_view, r_if, r_let}
use Rattle.state.specs.Layout.{write_task}

-- the words of the rows below m are the same
pub record SameBelow (rs rs₁ : List ℕ) (m : ℕ) : Type 0 where
  pub same : (i k : ℕ) → i < m → k < row_words → word rs₁ i k ≡ word rs i k

module _ {rs rs₁ : List ℕ} {m : ℕ} (below : SameBelow rs rs₁ m) where
  module _ {i : ℕ} (l : i < m) where
    kind : {w : ℕ} → word rs i 0 ≡ w → word rs₁ i 0 ≡ w
    kind h = below.same i 0 l (omega arith) ∙ h

    pub is_a : op_a rs₁ i ≡ op_a rs i
    is_a = below.same i 1 l (omega arith)

    pub is_b : op_b rs₁ i ≡ op_b rs i
    is_b = below.same i 2 l (omega arith)

    pub is_c : op_c rs₁ i ≡ op_c rs i
    is_c = below.same i 3 l (omega arith)

  at_type : {w w₁ : ℕ} {τ : Ty} → w₁ ≡ w → ReadsType rs₁ w τ → ReadsType rs₁ w₁ τ
  at_type e r = rw e r

  at_cell : {w w₁ : ℕ} {τ : Ty} → w₁ ≡ w → ReadsCell rs₁ w τ → ReadsCell rs₁ w₁ τ
  at_cell e r = rw e r

  at_exp : {w w₁ : ℕ} {e : Exp} → w₁ ≡ w → ReadsExp rs₁ w e → ReadsExp rs₁ w₁ e
  at_exp e r = rw e r

  at_code : {w w₁ : ℕ} {c : Code} → w₁ ≡ w → ReadsCode rs₁ w c → ReadsCode rs₁ w₁ c
  at_code e r = rw e r

  lower : {w w₁ i : ℕ} → w₁ ≡ w → w < i → w₁ < i
  lower e l = rw e l

  pub type_below : {i : ℕ} {τ : Ty} → i < m → ReadsType rs i τ → ReadsType rs₁ i τ
  type_below l (r_unit k) = r_unit (kind l k)
  type_below l (r_truth k) = r_truth (kind l k)
  type_below l (r_number k) = r_number (kind l k)
  type_below l (r_pair k x y a b) =
      r_pair (kind l k) (lower (is_a l) x) (lower (is_b l) y) (at_type (is_a l) (type_below (omega (arith, x)) a)) (at_type (is_b l) (type_below (omega (arith, y)) b))

  pub cell_below : {i : ℕ} {τ : Ty} → i < m → ReadsCell rs i τ → ReadsCell rs₁ i τ
  cell_below l (r_cell k x a) = r_cell (kind l k) (lower (is_a l) x) (at_type (is_a l) (type_below (omega (arith, x)) a))

  pub exp_below : {i : ℕ} {e : Exp} → i < m → ReadsExp rs i e → ReadsExp rs₁ i e
  exp_below l (r_eunit k) = r_eunit (kind l k)
  exp_below {i} l (r_etruth k) = subst (λ w. ReadsExp rs₁ i (etruth (eqb w 1))) (is_a l) (r_etruth (kind l k))
  exp_below {i} l (r_enumber k) = subst (λ w. ReadsExp rs₁ i (enumber (to_z w32 w))) (is_a l) (r_enumber (kind l k))
  exp_below {i} l (r_ebinder k) = subst (λ w. ReadsExp rs₁ i (ebinder w)) (is_a l) (r_ebinder (kind l k))
  exp_below {i} l (r_eop {b = a} {c = b} k x y g h) = subst (λ w. ReadsExp rs₁ i (eop (operator_of w) a b)) (is_a l)
      (r_eop (kind l k) (lower (is_b l) x) (lower (is_c l) y) (at_exp (is_b l) (exp_below (omega (arith, x)) g)) (at_exp (is_c l) (exp_below (omega (arith, y)) h)))
  exp_below l (r_eif k x y z e g h) = r_eif (kind l k) (lower (is_a l) x) (lower (is_b l) y) (lower (is_c l) z)
      (at_exp (is_a l) (exp_below (omega (arith, x)) e)) (at_exp (is_b l) (exp_below (omega (arith, y)) g)) (at_exp (is_c l) (exp_below (omega (arith, z)) h))
  exp_below l (r_epair k x y g h) =
      r_epair (kind l k) (lower (is_a l) x) (lower (is_b l) y) (at_exp (is_a l) (exp_below (omega (arith, x)) g)) (at_exp (is_b l) (exp_below (omega (arith, y)) h))
  exp_below l (r_efst k x g) = r_efst (kind l k) (lower (is_a l) x) (at_exp (is_a l) (exp_below (omega (arith, x)) g))
  exp_below l (r_esnd k x g) = r_esnd (kind l k) (lower (is_a l) x) (at_exp (is_a l) (exp_below (omega (arith, x)) g))
  exp_below {i} l (r_ederef k x c) = subst (λ w. ReadsExp rs₁ i (ederef w)) (is_a l) (r_ederef (kind l k) (lower (is_a l) x) (at_cell (is_a l) (cell_below (omega (arith, x)) c)))
  exp_below {i} l (r_eassign {b = b} k x y c g) = subst (λ w. ReadsExp rs₁ i (eassign w b)) (is_a l)
      (r_eassign (kind l k) (lower (is_a l) x) (lower (is_b l) y) (at_cell (is_a l) (cell_below (omega (arith, x)) c)) (at_exp (is_b l) (exp_below (omega (arith, y)) g)))
  exp_below l (r_elet k x y g h) =
      r_elet (kind l k) (lower (is_a l) x) (lower (is_b l) y) (at_exp (is_a l) (exp_below (omega (arith, x)) g)) (at_exp (is_b l) (exp_below (omega (arith, y)) h))

  pub code_below : {i : ℕ} {c : Code} → i < m → ReadsCode rs i c → ReadsCode rs₁ i c
  code_below l (r_edit k x g) = r_edit (kind l k) (lower (is_a l) x) (at_exp (is_a l) (exp_below (omega (arith, x)) g))
  code_below l (r_enter k x t) = r_enter (kind l k) (lower (is_a l) x) (at_type (is_a l) (type_below (omega (arith, x)) t))
  code_below {i} l (r_update k x c) = subst (λ w. ReadsCode rs₁ i (update w)) (is_a l) (r_update (kind l k) (lower (is_a l) x) (at_cell (is_a l) (cell_below (omega (arith, x)) c)))
  code_below l (r_then k x y g h) =
      r_then (kind l k) (lower (is_a l) x) (lower (is_b l) y) (at_code (is_a l) (code_below (omega (arith, x)) g)) (at_code (is_b l) (code_below (omega (arith, y)) h))
  code_below l (r_next k x y g h) =
      r_next (kind l k) (lower (is_a l) x) (lower (is_b l) y) (at_code (is_a l) (code_below (omega (arith, x)) g)) (at_code (is_b l) (code_below (omega (arith, y)) h))
  code_below l (r_fail k x t) = r_fail (kind l k) (lower (is_a l) x) (at_type (is_a l) (type_below (omega (arith, x)) t))
  code_below l (r_and k x y g h) =
      r_and (kind l k) (lower (is_a l) x) (lower (is_b l) y) (at_code (is_a l) (code_below (omega (arith, x)) g)) (at_code (is_b l) (code_below (omega (arith, y)) h))
  code_below l (r_or k x y g h) =
      r_or (kind l k) (lower (is_a l) x) (lower (is_b l) y) (at_code (is_a l) (code_below (omega (arith, x)) g)) (at_code (is_b l) (code_below (omega (arith, y)) h))
  code_below l (r_xor k x y g h) =
      r_xor (kind l k) (lower (is_a l) x) (lower (is_b l) y) (at_code (is_a l) (code_below (omega (arith, x)) g)) (at_code (is_b l) (code_below (omega (arith, y)) h))
  code_below l (r_view k x g) = r_view (kind l k) (lower (is_a l) x) (at_exp (is_a l) (exp_below (omega (arith, x)) g))
  code_below {i} l (r_gate {b = b} k y g) =
      subst (λ (w : ℕ × ℕ). ReadsCode rs₁ i (gate w.0 w.1 b)) (λ j. (is_a l j, is_c l j)) (r_gate (kind l k) (lower (is_b l) y) (at_code (is_b l) (code_below (omega (arith, y)) g)))
  code_below l (r_if k x y z e g h) = r_if (kind l k) (lower (is_a l) x) (lower (is_b l) y) (lower (is_c l) z)
      (at_exp (is_a l) (exp_below (omega (arith, x)) e)) (at_code (is_b l) (code_below (omega (arith, y)) g)) (at_code (is_c l) (code_below (omega (arith, z)) h))
  code_below l (r_let k x y e g) =
      r_let (kind l k) (lower (is_a l) x) (lower (is_b l) y) (at_exp (is_a l) (exp_below (omega (arith, x)) e)) (at_code (is_b l) (code_below (omega (arith, y)) g))

  -- ---- its task is written alike

  pub write_below : {i : ℕ} {c : Code} → i < m → ReadsCode rs i c → (t : TaskOf c) (ws : List ℕ) → write_task rs₁ i c t ws ≡ write_task rs i c t ws
  unfolding write_task
  write_below l (r_edit k x g) (filled v) ws = refl
  write_below l (r_enter k x g) blank ws = refl
  write_below l (r_enter k x g) (entered v) ws = refl
  write_below l (r_update k x g) t ws = refl
  write_below l (r_then k x y g h) (before t) ws = rw (is_a l) (write_below (omega (arith, x)) g t _)
  write_below l (r_then k x y g h) (after v u) ws = rw (is_b l) (write_below (omega (arith, y)) h u _)
  write_below l (r_next k x y g h) (before t) ws = rw (is_a l) (write_below (omega (arith, x)) g t _)
  write_below l (r_next k x y g h) (after v u) ws = rw (is_b l) (write_below (omega (arith, y)) h u _)
  write_below l (r_fail k x g) t ws = refl
  write_below l (r_and k x y g h) (both t u) ws = rw (is_a l, is_b l, write_below (omega (arith, x)) g t _) (write_below (omega (arith, y)) h u _)
  write_below l (r_or k x y g h) (either t u) ws = rw (is_a l, is_b l, write_below (omega (arith, x)) g t _) (write_below (omega (arith, y)) h u _)
  write_below l (r_or k x y g h) (or_left t) ws = rw (is_a l) (write_below (omega (arith, x)) g t _)
  write_below l (r_or k x y g h) (or_right u) ws = rw (is_b l) (write_below (omega (arith, y)) h u _)
  write_below l (r_xor k x y g h) unpicked ws = refl
  write_below l (r_xor k x y g h) (picked_left t) ws = rw (is_a l) (write_below (omega (arith, x)) g t _)
  write_below l (r_xor k x y g h) (picked_right u) ws = rw (is_b l) (write_below (omega (arith, y)) h u _)
  write_below l (r_view k x g) (filled v) ws = refl
  write_below l (r_gate k y g) (gated n u) ws = rw (is_b l) (write_below (omega (arith, y)) g u _)
  write_below l (r_if k x y z e g h) (if_true t) ws = rw (is_b l) (write_below (omega (arith, y)) g t _)
  write_below l (r_if k x y z e g h) (if_false u) ws = rw (is_c l) (write_below (omega (arith, z)) h u _)
  write_below l (r_let k x y e g) (bound v u) ws = rw (is_b l) (write_below (omega (arith, y)) g u _)
