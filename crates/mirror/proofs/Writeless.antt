-- Rows of which none is of kind 30 read as a code that writes no cell. Rests on rows' readings and the calculus' Mirroring.
use mathlib.Core.Path.{◌≡◌}
use mathlib.Core.Bool.{true, not}
use mathlib.Core.List.{List}
use Prim.Native.Nat.{ℕ, ◌<◌}
use native.Mathlib.Omega.{arith}
use borrow.Author.Tests.{eq-eqb, not-true}
use lib.IntN.{ℤ}
use Rattle.tophat.specs.Syntax.{Exp, Code}
use Rattle.tophat.proofs.Basics.{apart}
use Rattle.tophat.proofs.Mirroring.{Reads, Writeless}
use Rattle.rows.specs.Kinds.{plain_k, eassign_k, number_of}
use Rattle.rows.specs.Rows.{word, is_kind, OfKind}
use Rattle.rows.specs.Lent.{own_rows, row_count}
use Rattle.rows.specs.Trees.{ReadsExp, r_eunit, r_etruth, r_enumber, r_ebinder, r_eop, r_eif, r_epair, r_efst, r_esnd, r_ederef, r_eassign, r_elet}
use Rattle.rows.specs.Trees.{ReadsCode, r_edit, r_enter, r_update, r_then, r_next, r_fail, r_and, r_or, r_xor, r_view, r_gate, r_if, r_let}
use Rattle.rows.proofs.Basics.{every_at}
use Rattle.mirror.specs.Mirrored.{writeless}

module _ {rs : List ℕ} {n : ℕ} (none : (i : ℕ) → i < n → OfKind rs i (plain_k eassign_k) → ⊥) where
  exp_reads : {i : ℕ} {e : Exp} → i < n → ReadsExp rs i e → Reads e
  exp_reads l (r_eunit k) = tt
  exp_reads l (r_etruth k) = tt
  exp_reads l (r_enumber k) = tt
  exp_reads l (r_ebinder k) = tt
  exp_reads l (r_eop k x y a b) = (exp_reads (omega (arith, x)) a, exp_reads (omega (arith, y)) b)
  exp_reads l (r_eif k x y z e a b) = (exp_reads (omega (arith, x)) e, exp_reads (omega (arith, y)) a, exp_reads (omega (arith, z)) b)
  exp_reads l (r_epair k x y a b) = (exp_reads (omega (arith, x)) a, exp_reads (omega (arith, y)) b)
  exp_reads l (r_efst k x a) = exp_reads (omega (arith, x)) a
  exp_reads l (r_esnd k x a) = exp_reads (omega (arith, x)) a
  exp_reads l (r_ederef k x c) = tt
  exp_reads {i} l (r_eassign k x y c a) = none i l k
  exp_reads l (r_elet k x y a b) = (exp_reads (omega (arith, x)) a, exp_reads (omega (arith, y)) b)

  code_writeless : {i : ℕ} {c : Code} → i < n → ReadsCode rs i c → Writeless c
  code_writeless l (r_edit k x a) = exp_reads (omega (arith, x)) a
  code_writeless l (r_enter k x t) = tt
  code_writeless l (r_update k x c) = tt
  code_writeless l (r_then k x y a b) = (code_writeless (omega (arith, x)) a, code_writeless (omega (arith, y)) b)
  code_writeless l (r_next k x y a b) = (code_writeless (omega (arith, x)) a, code_writeless (omega (arith, y)) b)
  code_writeless l (r_fail k x t) = tt
  code_writeless l (r_and k x y a b) = (code_writeless (omega (arith, x)) a, code_writeless (omega (arith, y)) b)
  code_writeless l (r_or k x y a b) = (code_writeless (omega (arith, x)) a, code_writeless (omega (arith, y)) b)
  code_writeless l (r_xor k x y a b) = (code_writeless (omega (arith, x)) a, code_writeless (omega (arith, y)) b)
  code_writeless l (r_view k x a) = exp_reads (omega (arith, x)) a
  code_writeless l (r_gate k y b) = code_writeless (omega (arith, y)) b
  code_writeless l (r_if k x y z e a b) = (exp_reads (omega (arith, x)) e, code_writeless (omega (arith, y)) a, code_writeless (omega (arith, z)) b)
  code_writeless l (r_let k x y e a) = (exp_reads (omega (arith, x)) e, code_writeless (omega (arith, y)) a)

pub rows_writeless : (rows : List ℤ) → writeless rows ≡ true → {i : ℕ} {c : Code} → i < row_count rows → ReadsCode (own_rows rows) i c → Writeless c
unfolding writeless
rows_writeless rows w l r = code_writeless
    (λ i h k. apart (eq-eqb (word (own_rows rows) i 0) (number_of (plain_k eassign_k)) k) (not-true _ (every_at (row_count rows) (λ i. not (is_kind (own_rows rows) i (plain_k eassign_k))) w i h)))
    l r
