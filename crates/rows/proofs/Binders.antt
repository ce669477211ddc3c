-- What ground 6 gives the trees that rows read as: never more than 16 binders or marks around a part (specs/Fits). Rests on Most.
use mathlib.Core.Path.{◌≡◌, refl, subst}
use mathlib.Core.Bool.{true}
use mathlib.Core.List.{List}
use Prim.Native.Nat.{ℕ, suc, ◌+◌, ◌<◌, ◌≤◌}
use native.Mathlib.Omega.{arith}
use Rattle.tophat.specs.Syntax.{Exp}
use Rattle.tophat.specs.Syntax.{Code}
use Rattle.tophat.specs.Showing.{MarksFit}
use Rattle.rows.specs.Kinds.{Kind, Asks, plain_k, eop_k, epair_k, efst_k, esnd_k, eassign_k, either_k, if_k, let_k, task_k, edit_k, then_k, next_k, and_k, or_k, xor_k, view_k, gate_k, asks_of, number_of}
use Rattle.rows.specs.Rows.{every, names, OfKind}
use Rattle.rows.specs.Enclosing.{max_binders, max_marks, binders_by, marks_by, most_binders, most_marks, row_small}
use Rattle.rows.specs.Fits.{FitsExp, FitsCode}
use Rattle.rows.specs.Trees.{ReadsExp, r_eunit, r_etruth, r_enumber, r_ebinder, r_eop, r_eif, r_epair, r_efst, r_esnd, r_ederef, r_eassign, r_elet}
use Rattle.rows.specs.Trees.{ReadsCode, r_edit, r_enter, r_update, r_then, r_next, r_fail, r_and, r_or, r_xor, r_view, r_gate, r_if, r_let}
use Rattle.rows.proofs.Exists.{Sorted}
use Rattle.rows.proofs.Places.{Place, place_a, place_b, place_c, op_at, ask_at, names_of, lower}
use Rattle.rows.proofs.Steps.{binders_at, marks_at}
use Rattle.rows.proofs.Most.{count_at, binders_under, marks_under, few_binders, few_marks}

-- v around row i, and at most `limit` with the most under it
record Room (most : Asks → ℕ → ℕ → ℕ → ℕ) (limit : ℕ) (rs : List ℕ) (n i v : ℕ) : Type 0 where
  low : i < n
  room : v + count_at most rs i ≤ limit

module _ (rs : List ℕ) (n : ℕ) (q : Sorted rs n) where
  -- then so at the row named at a place, with w around that
  inner : {i v : ℕ} → Room most_binders max_binders rs n i v → (w : ℕ) (k : Kind) (e : OfKind rs i k) (p : Place) → names (ask_at (asks_of (number_of k)) p) ≡ true
      → (let c = count_at most_binders rs (op_at rs i p) in w + c ≤ v + binders_at (asks_of (number_of k)) p c) → Room most_binders max_binders rs n (op_at rs i p) w
  inner {i} {v} r w k e p g h =
      let l = r.low in let m = r.room in let x = lower rs n q i l p (names_of rs i k e p g) in
      let u = binders_under rs n q i (count_at most_binders rs (op_at rs i p)) l p (names_of rs i k e p g) (omega arith) in
      let u₁ = subst (λ w. binders_at (asks_of w) p (count_at most_binders rs (op_at rs i p)) ≤ count_at most_binders rs i) e u in
      record { low = omega arith; room = omega arith }

  marked : {i v : ℕ} → Room most_marks max_marks rs n i v → (w : ℕ) (k : Kind) (e : OfKind rs i k) (p : Place) → names (ask_at (asks_of (number_of k)) p) ≡ true
      → (let c = count_at most_marks rs (op_at rs i p) in w + c ≤ v + marks_at (asks_of (number_of k)) p c) → Room most_marks max_marks rs n (op_at rs i p) w
  marked {i} {v} r w k e p g h =
      let l = r.low in let m = r.room in let x = lower rs n q i l p (names_of rs i k e p g) in
      let u = marks_under rs n q i (count_at most_marks rs (op_at rs i p)) l p (names_of rs i k e p g) (omega arith) in
      let u₁ = subst (λ w. marks_at (asks_of w) p (count_at most_marks rs (op_at rs i p)) ≤ count_at most_marks rs i) e u in
      record { low = omega arith; room = omega arith }

  fits_exp : {i : ℕ} {a : Exp} (v : ℕ) → Room most_binders max_binders rs n i v → ReadsExp rs i a → FitsExp v a
  unfolding asks_of names binders_by
  fits_exp v h (r_eunit k) = tt
  fits_exp v h (r_etruth k) = tt
  fits_exp v h (r_enumber k) = tt
  fits_exp v h (r_ebinder k) = tt
  fits_exp v h (r_eop k x y d e) = (fits_exp v (inner h v (plain_k eop_k) k place_b refl (omega arith)) d, fits_exp v (inner h v (plain_k eop_k) k place_c refl (omega arith)) e)
  fits_exp v h (r_eif k x y z d e f) = (fits_exp v (inner h v (either_k if_k) k place_a refl (omega arith)) d, fits_exp v (inner h v (either_k if_k) k place_b refl (omega arith)) e, fits_exp v (inner h v (either_k if_k) k place_c refl (omega arith)) f)
  fits_exp v h (r_epair k x y d e) = (fits_exp v (inner h v (plain_k epair_k) k place_a refl (omega arith)) d, fits_exp v (inner h v (plain_k epair_k) k place_b refl (omega arith)) e)
  fits_exp v h (r_efst k x d) = fits_exp v (inner h v (plain_k efst_k) k place_a refl (omega arith)) d
  fits_exp v h (r_esnd k x d) = fits_exp v (inner h v (plain_k esnd_k) k place_a refl (omega arith)) d
  fits_exp v h (r_ederef k x c) = tt
  fits_exp v h (r_eassign k x y c d) = fits_exp v (inner h v (plain_k eassign_k) k place_b refl (omega arith)) d
  fits_exp v h (r_elet k x y d e) = let r = inner h (suc v) (either_k let_k) k place_b refl (omega arith) in (fits_exp v (inner h v (either_k let_k) k place_a refl (omega arith)) d, omega (arith, r.room), fits_exp (suc v) r e)

  fits_code : {i : ℕ} {c : Code} (v : ℕ) → Room most_binders max_binders rs n i v → ReadsCode rs i c → FitsCode v c
  unfolding asks_of names binders_by
  fits_code v h (r_edit k x d) = fits_exp v (inner h v (task_k edit_k) k place_a refl (omega arith)) d
  fits_code v h (r_enter k x d) = tt
  fits_code v h (r_update k x c) = tt
  fits_code v h (r_then k x y d e) = let r = inner h (suc v) (task_k then_k) k place_b refl (omega arith) in (fits_code v (inner h v (task_k then_k) k place_a refl (omega arith)) d, omega (arith, r.room), fits_code (suc v) r e)
  fits_code v h (r_next k x y d e) = let r = inner h (suc v) (task_k next_k) k place_b refl (omega arith) in (fits_code v (inner h v (task_k next_k) k place_a refl (omega arith)) d, omega (arith, r.room), fits_code (suc v) r e)
  fits_code v h (r_fail k x d) = tt
  fits_code v h (r_and k x y d e) = (fits_code v (inner h v (task_k and_k) k place_a refl (omega arith)) d, fits_code v (inner h v (task_k and_k) k place_b refl (omega arith)) e)
  fits_code v h (r_or k x y d e) = (fits_code v (inner h v (task_k or_k) k place_a refl (omega arith)) d, fits_code v (inner h v (task_k or_k) k place_b refl (omega arith)) e)
  fits_code v h (r_xor k x y d e) = (fits_code v (inner h v (task_k xor_k) k place_a refl (omega arith)) d, fits_code v (inner h v (task_k xor_k) k place_b refl (omega arith)) e)
  fits_code v h (r_view k x d) = fits_exp v (inner h v (task_k view_k) k place_a refl (omega arith)) d
  fits_code v h (r_gate k x d) = fits_code v (inner h v (task_k gate_k) k place_b refl (omega arith)) d
  fits_code v h (r_if k x y z d e f) = (fits_exp v (inner h v (either_k if_k) k place_a refl (omega arith)) d, fits_code v (inner h v (either_k if_k) k place_b refl (omega arith)) e, fits_code v (inner h v (either_k if_k) k place_c refl (omega arith)) f)
  fits_code v h (r_let k x y d e) = let r = inner h (suc v) (either_k let_k) k place_b refl (omega arith) in (fits_exp v (inner h v (either_k let_k) k place_a refl (omega arith)) d, omega (arith, r.room), fits_code (suc v) r e)

  marks_fit : {i : ℕ} {c : Code} (v : ℕ) → Room most_marks max_marks rs n i v → ReadsCode rs i c → MarksFit v c
  unfolding asks_of names marks_by
  marks_fit v h (r_edit k x d) = tt
  marks_fit v h (r_enter k x d) = tt
  marks_fit v h (r_update k x c) = tt
  marks_fit v h (r_then k x y d e) = (marks_fit v (marked h v (task_k then_k) k place_a refl (omega arith)) d, marks_fit v (marked h v (task_k then_k) k place_b refl (omega arith)) e)
  marks_fit v h (r_next k x y d e) = (marks_fit v (marked h v (task_k next_k) k place_a refl (omega arith)) d, marks_fit v (marked h v (task_k next_k) k place_b refl (omega arith)) e)
  marks_fit v h (r_fail k x d) = tt
  marks_fit v h (r_and k x y d e) = let r = marked h (suc v) (task_k and_k) k place_a refl (omega arith) in (omega (arith, r.room), marks_fit (suc v) r d, marks_fit (suc v) (marked h (suc v) (task_k and_k) k place_b refl (omega arith)) e)
  marks_fit v h (r_or k x y d e) = let r = marked h (suc v) (task_k or_k) k place_a refl (omega arith) in (omega (arith, r.room), marks_fit (suc v) r d, marks_fit (suc v) (marked h (suc v) (task_k or_k) k place_b refl (omega arith)) e)
  marks_fit v h (r_xor k x y d e) = (marks_fit v (marked h v (task_k xor_k) k place_a refl (omega arith)) d, marks_fit v (marked h v (task_k xor_k) k place_b refl (omega arith)) e)
  marks_fit v h (r_view k x d) = tt
  marks_fit v h (r_gate k x d) = marks_fit v (marked h v (task_k gate_k) k place_b refl (omega arith)) d
  marks_fit v h (r_if k x y z d e f) = (marks_fit v (marked h v (either_k if_k) k place_b refl (omega arith)) e, marks_fit v (marked h v (either_k if_k) k place_c refl (omega arith)) f)
  marks_fit v h (r_let k x y d e) = marks_fit v (marked h v (either_k let_k) k place_b refl (omega arith)) e

  -- the tree of a row of small rows has at most 16 binders and 16 marks around any part
  module _ (s : every n (λ i. row_small rs i) ≡ true) where
    pub code_fits : {i : ℕ} {c : Code} → i < n → ReadsCode rs i c → FitsCode 0 c
    code_fits {i} l d = fits_code 0 (record { low = l; room = omega (arith, few_binders rs n q s i l) }) d

    pub code_marks : {i : ℕ} {c : Code} → i < n → ReadsCode rs i c → MarksFit 0 c
    code_marks {i} l d = marks_fit 0 (record { low = l; room = omega (arith, few_marks rs n q s i l) }) d
