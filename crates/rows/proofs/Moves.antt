-- The code of rows that keep the naming rule has as many steps and internal choices as there are rows of kind 43 and 47.
-- Rests on Totals.
use mathlib.Core.Path.{◌≡◌, refl, sym, ap, ◌∙◌}
use mathlib.Core.Bool.{Bool, true, false, ◌||◌}
use mathlib.Core.List.{List}
use Prim.Native.Nat.{ℕ, zero, suc, ◌+◌, ◌-◌, ◌<◌, ◌≤◌}
use native.Mathlib.Omega.{arith}
use lib.Dec.{eqb}
use borrow.Author.Tests.{ne_eqb}
use Rattle.tophat.specs.Syntax.{Exp, Code, edit, enter, update, then, next, fail, and, or, xor, view, gate, if, let', moves}
use Rattle.rows.specs.Kinds.{then_k, or_k, Sort, Kind, plain_k, either_k, task_k, number_of}
use Rattle.rows.specs.Rows.{word, count, movers, is_kind, first_expression}
use Rattle.rows.specs.Trees.{r_cell, ReadsExp}
use Rattle.rows.specs.Trees.{ReadsCode, r_edit, r_enter, r_update, r_then, r_next, r_fail, r_and, r_or, r_xor, r_view, r_gate, r_if, r_let}
use Rattle.rows.proofs.Exists.{Has, has_type, has_basic, has_cell, has_plain, has_task, Sorted, exists}
use Rattle.rows.proofs.Groups.{ExpRow, plain_row, plain_by, exp_group}
use Rattle.rows.proofs.Places.{type_low}
use Rattle.rows.proofs.Named.{NamedOnce}
use Rattle.rows.proofs.TreeSum.{sum_to, sum_same}
use Rattle.rows.proofs.Totals.{parts, Adds, share_at, code_total, type_total, cell_total, exp_total, total_is}
use Rattle.rows.proofs.KindNumbers.{one_kind}

-- the share of a code, and of a row's kind
unfoldable share : Code → ℕ
share (edit x) = 0
share (enter τ) = 0
share (update k) = 0
share (then a b) = 1
share (next a b) = 0
share (fail τ) = 0
share (and a b) = 0
share (or a b) = 1
share (xor a b) = 0
share (view x) = 0
share (gate r k b) = 0
share (if x a b) = 0
share (let' x b) = 0

abbrev share_of : ℕ → ℕ
share_of w = count (eqb w (number_of (task_k then_k)) || eqb w (number_of (task_k or_k)))

adds : Adds moves share
unfolding moves share parts
adds (edit x) = refl
adds (enter τ) = refl
adds (update k) = refl
adds (then a b) = omega arith
adds (next a b) = omega arith
adds (fail τ) = refl
adds (and a b) = omega arith
adds (or a b) = omega arith
adds (xor a b) = omega arith
adds (view x) = refl
adds (gate r k b) = omega arith
adds (if x a b) = omega arith
adds (let' x b) = omega arith

-- a number that is neither has none
no_share : (w : ℕ) → (w ≡ number_of (task_k then_k) → ⊥) → (w ≡ number_of (task_k or_k) → ⊥) → 0 ≡ share_of w
no_share w p q = sym (rw (ne_eqb w (number_of (task_k then_k)) p, ne_eqb w (number_of (task_k or_k)) q))

low_share : (w : ℕ) → w < number_of first_expression → 0 ≡ share_of w
low_share w h = no_share w (λ e. omega arith) (λ e. omega arith)

other_share : (w : ℕ) (k : Kind) → w ≡ number_of k → (k ≡ task_k then_k → ⊥) → (k ≡ task_k or_k → ⊥) → 0 ≡ share_of w
other_share w k e p q = no_share w (λ h. p (one_kind k (task_k then_k) (sym e ∙ h))) (λ h. q (one_kind k (task_k or_k) (sym e ∙ h)))

module _ (rs : List ℕ) where
  exp_share : {i : ℕ} {a : Exp} → ReadsExp rs i a → 0 ≡ share_of (word rs i 0)
  exp_share {i} d = by (exp_group d)
    where
      by : ExpRow rs i → 0 ≡ share_of (word rs i 0)
      by (plain_row k e) = other_share (word rs i 0) (plain_k k) e (λ x. let z : ◌≡◌ {A = ℕ} 0 1 = cc in omega arith) (λ x. let z : ◌≡◌ {A = ℕ} 0 1 = cc in omega arith)
      by (plain_by k e d) = other_share (word rs i 0) (either_k k) e (λ x. let z : ◌≡◌ {A = ℕ} 0 1 = cc in omega arith) (λ x. let z : ◌≡◌ {A = ℕ} 0 1 = cc in omega arith)

  code_share : {i : ℕ} {c : Code} → ReadsCode rs i c → share c ≡ share_of (word rs i 0)
  unfolding share
  code_share {i} (r_edit k x d) = sym (ap share_of k)
  code_share {i} (r_enter k x d) = sym (ap share_of k)
  code_share {i} (r_update k x c) = sym (ap share_of k)
  code_share {i} (r_then k x y d e) = sym (ap share_of k)
  code_share {i} (r_next k x y d e) = sym (ap share_of k)
  code_share {i} (r_fail k x d) = sym (ap share_of k)
  code_share {i} (r_and k x y d e) = sym (ap share_of k)
  code_share {i} (r_or k x y d e) = sym (ap share_of k)
  code_share {i} (r_xor k x y d e) = sym (ap share_of k)
  code_share {i} (r_view k x d) = sym (ap share_of k)
  code_share {i} (r_gate k x d) = sym (ap share_of k)
  code_share {i} (r_if k x y w d e f) = sym (ap share_of k)
  code_share {i} (r_let k x y d e) = sym (ap share_of k)

  -- a row's share is that of its kind
  row_share : (n i : ℕ) → i < n → {s : Sort} → Has rs i s → share_at moves share adds rs n i ≡ share_of (word rs i 0)
  row_share n i l (has_type d) = (type_total moves share adds rs n d).1 ∙ low_share (word rs i 0) (omega (arith, type_low d))
  row_share n i l (has_basic b d) = (type_total moves share adds rs n d).1 ∙ low_share (word rs i 0) (omega (arith, type_low d))
  row_share n i l (has_cell b (r_cell k x d)) = (cell_total moves share adds rs n (r_cell k x d)).1 ∙ low_share (word rs i 0) (omega arith)
  row_share n i l (has_plain d) = (exp_total moves share adds rs n d).1 ∙ exp_share d
  row_share n i l (has_task d) = (code_total moves share adds rs n l d).1 ∙ code_share d

sum_movers : (rs : List ℕ) (n : ℕ) → movers rs n ≡ sum_to n (λ i. share_of (word rs i 0))
unfolding movers sum_to
sum_movers rs zero = refl
sum_movers rs (suc n) = ap (λ x. x + share_of (word rs n 0)) (sum_movers rs n)

-- the moves of the last row's code are the rows of kind 43 and 47
pub moves_are : (rs : List ℕ) (n : ℕ) {c : Code} → 1 ≤ n → Sorted rs n → NamedOnce rs n → ReadsCode rs (n - 1) c → moves c ≡ movers rs n
moves_are rs n l q t d =
    total_is moves share adds rs n l q t d
    ∙ sum_same n (share_at moves share adds rs n) (λ i. share_of (word rs i 0)) (λ i b. row_share rs n i b (exists rs n q i b))
    ∙ sym (sum_movers rs n)

pub movers_few : (rs : List ℕ) (n : ℕ) → movers rs n ≤ n
unfolding movers
movers_few rs zero = omega arith
movers_few rs (suc n) = let h = movers_few rs n in let b = at_most_one (is_kind rs n (task_k then_k) || is_kind rs n (task_k or_k)) in omega arith
  where
    at_most_one : (b : Bool) → count b ≤ 1
    at_most_one true = omega arith
    at_most_one false = omega arith
