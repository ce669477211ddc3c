-- Paths and numbers are one and the same: both ways round, the mark at the inner end, and how large a number is.
-- Rests on the definitions of specs/Path.antt alone.
use Prim.Native.Nat.{ℕ, zero, suc, ◌+◌, ◌*◌, ◌-◌, ◌/◌, ◌%◌, ◌^◌, ◌≤◌, ◌<◌}
use mathlib.Core.Path.{◌≡◌, refl, sym, ap, ◌∙◌}
use mathlib.Core.List.{[], ◌∷◌, ◌++◌}
use mathlib.Core.Logic.{◌↔◌}
use native.Mathlib.Nat.{pow-succ', pow-le-pow_right}
use native.Mathlib.Omega.{arith}
use borrow.Author.Tests.{eqb-true, eqb-false, eq-eqb, ne_eqb, leb-true, leb-false}
use borrow.Table.Steps.{cases}
use lib.Dec.{eqb, leb}
use lib.ListN.{length}
use Rattle.decimal.specs.Path.{Mark, first, second, Path, max_marks, mark_number, path_number, front_mark, marks_from, path_of}

-- ---- the outermost mark

pub front_number : (n : ℕ) → mark_number (front_mark n) ≡ 2 - n % 2
front_number n = cases (eqb (n % 2) 1)
    (λ e. let g : n % 2 ≡ 1 = eqb-true (n % 2) 1 e in rw (e, g))
    (λ e. let g : n % 2 ≡ 0 = omega (arith, eqb-false (n % 2) 1 e) in rw (e, g))

marks_nil : (k : ℕ) → marks_from k 0 ≡ []
unfolding marks_from
marks_nil zero = refl
marks_nil (suc k) = refl

-- room for more marks changes nothing
marks_same : (k j n : ℕ) → n ≤ k → n ≤ j → marks_from k n ≡ marks_from j n
unfolding marks_from
marks_same zero j zero p q = sym (marks_nil j)
marks_same zero j (suc n) p q = absurd (omega arith)
marks_same (suc k) zero zero p q = refl
marks_same (suc k) zero (suc n) p q = absurd (omega arith)
marks_same (suc k) (suc j) zero p q = refl
marks_same (suc k) (suc j) (suc n) p q = ap (λ r. front_mark (suc n) ∷ r) (marks_same k j (n / 2) (omega arith) (omega arith))

pub path_0 : (n : ℕ) → n ≡ 0 → path_of n ≡ []
path_0 n e = ap path_of e ∙ marks_nil 0

-- the number without its outermost mark
pub path_front : (n : ℕ) → 0 < n → path_of n ≡ front_mark n ∷ path_of ((n - 1) / 2)
unfolding marks_from
path_front zero h = absurd (omega arith)
path_front (suc n) h =
    let e : (suc n - 1) / 2 ≡ n / 2 = omega arith in
    ap (λ r. front_mark (suc n) ∷ r) (marks_same n (n / 2) (n / 2) (omega arith) (omega arith) ∙ ap path_of (sym e))

-- ---- both ways round

number_from : (k n : ℕ) → n ≤ k → path_number (marks_from k n) ≡ n
unfolding marks_from path_number
number_from zero n h = omega arith
number_from (suc k) zero h = refl
number_from (suc k) (suc n) h = omega (arith, front_number (suc n), number_from k (n / 2) (omega arith))

pub number_path : (n : ℕ) → path_number (path_of n) ≡ n
number_path n = number_from n n (omega arith)

pub path_number_lem : (p : Path) → path_of (path_number p) ≡ p
unfolding path_number
path_number_lem [] = marks_nil 0
path_number_lem (first ∷ p) =
    let n : ℕ = 1 + 2 * path_number p in
    let e : (n - 1) / 2 ≡ path_number p = omega arith in
    path_front n (omega arith) ∙ rw (eq-eqb (n % 2) 1 (omega arith), e) (ap (λ q. first ∷ q) (path_number_lem p))
path_number_lem (second ∷ p) =
    let n : ℕ = 2 + 2 * path_number p in
    let e : (n - 1) / 2 ≡ path_number p = omega arith in
    path_front n (omega arith) ∙ rw (ne_eqb (n % 2) 1 (λ g. omega arith), e) (ap (λ q. second ∷ q) (path_number_lem p))

-- a mark put outside, and a mark put at the inner end
pub path_more : (m : Mark) (n : ℕ) → path_of (mark_number m + 2 * n) ≡ m ∷ path_of n
unfolding path_number
path_more m n = ap (λ k. path_of (mark_number m + 2 * k)) (sym (number_path n)) ∙ path_number_lem (m ∷ path_of n)

pub number_inner : (p : Path) (m : Mark) → path_number (p ++ m ∷ []) ≡ path_number p + mark_number m * 2 ^ length p
unfolding path_number
number_inner [] first = refl
number_inner [] second = refl
number_inner (x ∷ p) first = omega (arith, number_inner p first, pow-succ' 2 (length p))
number_inner (x ∷ p) second = omega (arith, number_inner p second, pow-succ' 2 (length p))

-- ---- how large

length_from : (k n : ℕ) → length (marks_from k n) ≤ k
unfolding marks_from
length_from zero n = omega arith
length_from (suc k) zero = omega arith
length_from (suc k) (suc n) = omega (arith, length_from k (n / 2))

pub length_path : (n : ℕ) → length (path_of n) ≤ n
length_path n = length_from n n

pub length_front : (n : ℕ) → 0 < n → length (path_of n) ≡ length (path_of ((n - 1) / 2)) + 1
length_front n h = let e = ap length (path_front n h) in omega (arith, e)

mark_low : (m : Mark) → 1 ≤ mark_number m
mark_low first = omega arith
mark_low second = omega arith

mark_high : (m : Mark) → mark_number m ≤ 2
mark_high first = omega arith
mark_high second = omega arith

-- k marks are the numbers from 2 ^ k - 1 on, up to 2 ^ (k + 1) - 2
pub number_least : (p : Path) → 2 ^ length p ≤ path_number p + 1
unfolding path_number
number_least [] = omega arith
number_least (m ∷ p) = omega (arith, number_least p, pow-succ' 2 (length p), mark_low m)

pub number_most : (p : Path) → path_number p + 2 ≤ 2 ^ suc (length p)
unfolding path_number
number_most [] = omega arith
number_most (m ∷ p) = omega (arith, number_most p, pow-succ' 2 (suc (length p)), mark_high m)

-- a path has at most k marks exactly where its number is below 2 ^ (k + 1) - 1
pub number_bound : (k : ℕ) (p : Path) → (length p ≤ k) ↔ (path_number p + 2 ≤ 2 ^ suc k)
number_bound k p = (there, back)
  where
    there : length p ≤ k → path_number p + 2 ≤ 2 ^ suc k
    there h =
        let e : 2 ^ suc (length p) ≤ 2 ^ suc k = pow-le-pow_right {n = 2} (omega arith) (omega arith) in
        omega (arith, number_most p, e)

    back : path_number p + 2 ≤ 2 ^ suc k → length p ≤ k
    back h = cases (leb (length p) k) (leb-true (length p) k)
        (λ e.
        let l : suc k ≤ length p = leb-false (length p) k e in
        let g : 2 ^ suc k ≤ 2 ^ length p = pow-le-pow_right {n = 2} (omega arith) l in
        absurd (omega (arith, number_least p, g)))

-- 01's paths are the numbers below 2 ^ 17 - 1
pub number_small : (p : Path) → length p ≤ max_marks → path_number p + 2 ≤ 131072
number_small p h = (number_bound max_marks p).0 h
