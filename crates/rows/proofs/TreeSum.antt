-- Sums over the rows below n. A number that each row makes of its own share and of the numbers of the rows that it names is,
-- at the last row of rows that keep the naming rule, the sum of all shares. Rests on Named.
use mathlib.Core.Path.{◌≡◌, refl, sym, ap, ap₂, ◌∙◌}
use mathlib.Core.Bool.{Bool, true, false, ◌&&◌, cond}
use mathlib.Core.Logic.{⊎_elim}
use mathlib.Core.List.{List}
use Prim.Native.Nat.{ℕ, zero, suc, ◌+◌, ◌*◌, ◌<◌, ◌≤◌}
use native.Mathlib.Nat.{eq-or-lt_of_le, le_of_suc-le-suc, add-mul, zero-mul, mul-zero, one-mul, add-zero}
use native.Mathlib.Omega.{arith}
use lib.Dec.{eqb}
use borrow.Author.Tests.{eq-eqb, ne_eqb}
use Rattle.rows.specs.Kinds.{number_of}
use Rattle.rows.specs.Rows.{word, op_a, op_b, op_c, names, count, names_in, namings, FromKind, BelowKind, first_expression, asks_at}
use Rattle.rows.proofs.Basics.{le_or_lt}
use Rattle.rows.proofs.Exists.{Sorted}
use Rattle.rows.proofs.Places.{Place, place_a, place_b, place_c, op_at, ask_at, lower}
use Rattle.rows.proofs.Named.{hit, names_in_lem, no_names_in, NamedOnce, once, named_by}

unfoldable pub sum_to : ℕ → (ℕ → ℕ) → ℕ
sum_to zero f = 0
sum_to (suc n) f = sum_to n f + f n

sum_last : (n : ℕ) (f : ℕ → ℕ) → sum_to (suc n) f ≡ sum_to n f + f n
unfolding sum_to
sum_last n f = refl

pub sum_same : (n : ℕ) (f g : ℕ → ℕ) → ((i : ℕ) → i < n → f i ≡ g i) → sum_to n f ≡ sum_to n g
unfolding sum_to
sum_same zero f g h = refl
sum_same (suc n) f g h = ap₂ ◌+◌ (sum_same n f g (λ i l. h i (omega arith))) (h n (omega arith))

sum_add : (n : ℕ) (f g : ℕ → ℕ) → sum_to n (λ i. f i + g i) ≡ sum_to n f + sum_to n g
unfolding sum_to
sum_add zero f g = omega arith
sum_add (suc n) f g = omega (arith, sum_add n f g)

sum_zero : (n : ℕ) → sum_to n (λ i. 0) ≡ 0
unfolding sum_to
sum_zero zero = refl
sum_zero (suc n) = omega (arith, sum_zero n)

-- rows and columns
sum_swap : (n m : ℕ) (f : ℕ → ℕ → ℕ) → sum_to n (λ i. sum_to m (λ j. f i j)) ≡ sum_to m (λ j. sum_to n (λ i. f i j))
unfolding sum_to
sum_swap zero m f = sym (sum_zero m)
sum_swap (suc n) m f = ap (λ x. x + sum_to m (λ j. f n j)) (sum_swap n m f) ∙ sym (sum_add m (λ j. sum_to n (λ i. f i j)) (λ j. f n j))

-- one row picked
sum_none : (n w : ℕ) (m : ℕ → ℕ) → n ≤ w → sum_to n (λ j. count (eqb w j) * m j) ≡ 0
unfolding sum_to
sum_none zero w m l = refl
sum_none (suc n) w m l = rw (ne_eqb w n (λ e. omega arith), zero-mul) (omega (arith, sum_none n w m (omega arith)))

sum_pick : (n w : ℕ) (m : ℕ → ℕ) → w < n → sum_to n (λ j. count (eqb w j) * m j) ≡ m w
unfolding sum_to
sum_pick zero w m l = absurd (omega arith)
sum_pick (suc n) w m l = ⊎_elim
    (λ (e : w ≡ n). let u = sum_none n w m (omega arith) in let v : m w ≡ m n = ap m e in rw (eq-eqb w n e, one-mul) (omega arith))
    (λ (b : w < n). let u = sum_pick n w m b in rw (ne_eqb w n (λ e. omega arith), zero-mul) (omega arith))
    (eq-or-lt_of_le (le_of_suc-le-suc l))

sum_ask : (n : ℕ) (b : Bool) (w : ℕ) (m : ℕ → ℕ) → (b ≡ true → w < n) → sum_to n (λ j. count (b && eqb w j) * m j) ≡ cond b (m w) 0
sum_ask n true w m l = sum_pick n w m (l refl)
sum_ask n false w m l = sum_same n (λ j. count false * m j) (λ j. 0) (λ j k. zero-mul (m j)) ∙ sum_zero n

-- ---- a tree's sum

-- the numbers of the rows that row i names, together
abbrev pub sum_below : List ℕ → (ℕ → ℕ) → ℕ → ℕ
sum_below rs m i =
    cond (names (ask_at (asks_at rs i) place_a)) (m (op_a rs i)) 0 + cond (names (ask_at (asks_at rs i) place_b)) (m (op_b rs i)) 0
    + cond (names (ask_at (asks_at rs i) place_c)) (m (op_c rs i)) 0

module _ (rs : List ℕ) (m : ℕ → ℕ) where
  -- by the rows that name row j
  named_sum : (n j : ℕ) → sum_to n (λ i. names_in rs j i * m j) ≡ namings rs j n * m j
  unfolding sum_to namings
  named_sum zero j = sym (zero-mul (m j))
  named_sum (suc n) j = ap (λ x. x + names_in rs j n * m j) (named_sum n j) ∙ sym (add-mul (namings rs j n) (names_in rs j n) (m j))

  module _ (n : ℕ) (q : Sorted rs n) where
    -- by the rows that row i names
    row_sum : (i : ℕ) → i < n → FromKind rs i first_expression → sum_to n (λ j. names_in rs j i * m j) ≡ sum_below rs m i
    row_sum i l h =
        let x : Place → ℕ → ℕ = λ p j. count (hit rs j i p) * m j in
        sum_same n (λ j. names_in rs j i * m j) (λ j. x place_a j + x place_b j + x place_c j) (λ j k. rw (names_in_lem rs j i h, add-mul, add-mul))
        ∙ sum_add n (λ j. x place_a j + x place_b j) (x place_c) ∙ ap₂ ◌+◌ (sum_add n (x place_a) (x place_b) ∙ ap₂ ◌+◌ (at place_a) (at place_b)) (at place_c)
      where
        at : (p : Place) → sum_to n (λ j. count (hit rs j i p) * m j) ≡ cond (names (ask_at (asks_at rs i) p)) (m (op_at rs i p)) 0
        at p = sum_ask n (names (ask_at (asks_at rs i) p)) (op_at rs i p) m (λ u. let w = lower rs n q i l p u in omega arith)

    no_sum : (i : ℕ) → BelowKind rs i first_expression → sum_to n (λ j. names_in rs j i * m j) ≡ 0
    no_sum i h = sum_same n (λ j. names_in rs j i * m j) (λ j. 0) (λ j k. rw (no_names_in rs j i h, zero-mul)) ∙ sum_zero n

module _ (rs : List ℕ) (k : ℕ) (q : Sorted rs (suc k)) (t : NamedOnce rs (suc k)) (m f : ℕ → ℕ)
    (high : (i : ℕ) → i < suc k → FromKind rs i first_expression → m i ≡ f i + sum_below rs m i) (low : (i : ℕ) → i < suc k → BelowKind rs i first_expression → (m i ≡ 0) × (f i ≡ 0)) where
  by_names : (i : ℕ) → i < suc k → m i ≡ f i + sum_to (suc k) (λ j. names_in rs j i * m j)
  by_names i l = ⊎_elim (λ h. omega (arith, high i l h, row_sum rs m (suc k) q i l h)) (λ h. let (x, y) = low i l h in omega (arith, no_sum rs m (suc k) q i h)) (le_or_lt (number_of first_expression) (word rs i 0))

  last_unnamed : namings rs k (suc k) ≡ 0
  last_unnamed = ⊎_elim (λ h. let (j, l, p, d) = named_by rs k (suc k) h in let w = lower rs (suc k) q j l p d.asks in let e = d.is in absurd (omega arith)) (λ h. omega arith) (le_or_lt 1 (namings rs k (suc k)))

  other : (j : ℕ) → j < k → namings rs j (suc k) * m j ≡ m j
  other j l = ⊎_elim (λ h. rw (once rs (suc k) t j (omega arith) h, one-mul)) (λ h. let (x, y) = low j (omega arith) h in rw (x, mul-zero)) (le_or_lt (number_of first_expression) (word rs j 0))

  named_all : sum_to (suc k) (λ j. namings rs j (suc k) * m j) ≡ sum_to k m
  unfolding sum_to
  named_all = rw (last_unnamed, zero-mul, add-zero) (sum_same k (λ j. namings rs j (suc k) * m j) m other)

  all_rows : sum_to (suc k) m ≡ sum_to (suc k) f + sum_to k m
  all_rows =
      sum_same (suc k) m (λ i. f i + sum_to (suc k) (λ j. names_in rs j i * m j)) by_names
      ∙ sum_add (suc k) f (λ i. sum_to (suc k) (λ j. names_in rs j i * m j))
      ∙ ap (λ x. sum_to (suc k) f + x) (sum_swap (suc k) (suc k) (λ i j. names_in rs j i * m j)
      ∙ sum_same (suc k) (λ j. sum_to (suc k) (λ i. names_in rs j i * m j)) (λ j. namings rs j (suc k) * m j) (λ j l. named_sum rs m (suc k) j) ∙ named_all)

  -- the last row's number is the sum of all shares
  pub tree_sum : m k ≡ sum_to (suc k) f
  tree_sum = let e = all_rows in let s = sum_last k m in omega arith
