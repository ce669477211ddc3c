-- The naming rule of ground 5: a row of kind 20 or more, but the last, is named, and by one place of one row. Rests on Rows
-- and Places.
use mathlib.Core.Path.{◌≡◌, refl, sym, ap, subst, ◌∙◌}
use mathlib.Core.Bool.{Bool, true, false, ◌&&◌}
use mathlib.Core.Logic.{⊎_elim, ◌⊎◌, inl, inr}
use mathlib.Core.List.{List}
use Prim.Native.Nat.{ℕ, zero, suc, ◌+◌, ◌<◌, ◌≤◌}
use native.Mathlib.Nat.{eq-or-lt_of_le, le_of_suc-le-suc}
use native.Mathlib.Omega.{arith}
use lib.Dec.{eqb}
use borrow.Author.Tests.{ltb-true, eqb-true, le-leb, lt-leb, eq-eqb}
use Rattle.match_laws.proofs.Ranges.{and_left, and_right}
use Rattle.rows.specs.Kinds.{Asks, asks, no_asks, number_of}
use Rattle.rows.specs.Rows.{word, op_a, op_b, op_c, names, count, names_by, names_in, namings, named_once, FromKind, BelowKind, below_kind, first_expression, asks_at}
use Rattle.rows.proofs.Basics.{both, or_cases, true_or_false, le_or_lt}
use Rattle.rows.proofs.Exists.{Sorted}
use Rattle.rows.proofs.Places.{Place, place_a, place_b, place_c, op_at, ask_at, Names, lower, above}

-- row j, of kind 20 or more, names row i at the place
pub record NamesAt (rs : List ℕ) (j : ℕ) (p : Place) (i : ℕ) : Type 0 where
  pub high : FromKind rs j first_expression
  pub asks : Names rs j p
  pub is : op_at rs j p ≡ i

-- three tests, one at each place: one that is met counts, two count twice
module _ (a b c : Bool) where
  abbrev sum : ℕ
  sum = count a + count b + count c

  abbrev part : Place → Bool
  part place_a = a
  part place_b = b
  part place_c = c

  one_hit : (p : Place) → part p ≡ true → 1 ≤ sum
  one_hit place_a h = rw h (omega arith)
  one_hit place_b h = rw h (omega arith)
  one_hit place_c h = rw h (omega arith)

  two_hits : (p r : Place) → part p ≡ true → part r ≡ true → (p ≡ r) ⊎ (2 ≤ sum)
  two_hits place_a place_a g h = inl refl
  two_hits place_a place_b g h = inr (rw (g, h) (omega arith))
  two_hits place_a place_c g h = inr (rw (g, h) (omega arith))
  two_hits place_b place_a g h = inr (rw (g, h) (omega arith))
  two_hits place_b place_b g h = inl refl
  two_hits place_b place_c g h = inr (rw (g, h) (omega arith))
  two_hits place_c place_a g h = inr (rw (g, h) (omega arith))
  two_hits place_c place_b g h = inr (rw (g, h) (omega arith))
  two_hits place_c place_c g h = inl refl

  some_hit : 1 ≤ sum → (p : Place) × (part p ≡ true)
  some_hit h = ⊎_elim (λ x. (place_a, x)) (λ x. ⊎_elim (λ y. (place_b, y)) (λ y. ⊎_elim (λ z. (place_c, z)) (λ z. absurd (none x y z)) (true_or_false c)) (true_or_false b)) (true_or_false a)
    where
      none : a ≡ false → b ≡ false → c ≡ false → ⊥
      none x y z = let k : sum ≡ 0 = rw (x, y, z) in omega arith

module _ (rs : List ℕ) (i : ℕ) where
  -- the place of row j names row i
  abbrev pub hit : ℕ → Place → Bool
  hit j p = names (ask_at (asks_at rs j) p) && eqb (op_at rs j p) i

  hits : (s : Asks) (a b c : ℕ) → names_by s a b c i ≡ count (names (ask_at s place_a) && eqb a i) + count (names (ask_at s place_b) && eqb b i) + count (names (ask_at s place_c) && eqb c i)
  unfolding names_by names
  hits (asks p q r o x) a b c = refl
  hits no_asks a b c = refl

  pub names_in_lem : (j : ℕ) → FromKind rs j first_expression → names_in rs i j ≡ count (hit j place_a) + count (hit j place_b) + count (hit j place_c)
  unfolding names_in
  names_in_lem j l = rw (le-leb (number_of first_expression) (word rs j 0) l) (hits (asks_at rs j) (op_a rs j) (op_b rs j) (op_c rs j))

  pub no_names_in : (j : ℕ) → BelowKind rs j first_expression → names_in rs i j ≡ 0
  unfolding names_in
  no_names_in j l = rw (lt-leb (number_of first_expression) (word rs j 0) l)

  hit_of : {j : ℕ} {p : Place} → NamesAt rs j p i → hit j p ≡ true
  hit_of {j} {p} k = both k.asks (eq-eqb (op_at rs j p) i k.is)

  of_hit : (j : ℕ) (p : Place) → FromKind rs j first_expression → hit j p ≡ true → NamesAt rs j p i
  of_hit j p l h = record { high = l; asks = and_left _ _ h; is = eqb-true (op_at rs j p) i (and_right (names (ask_at (asks_at rs j) p)) _ h) }

  part_is : (j : ℕ) (p : Place) → part (hit j place_a) (hit j place_b) (hit j place_c) p ≡ hit j p
  part_is j place_a = refl
  part_is j place_b = refl
  part_is j place_c = refl

  one_naming : {j : ℕ} {p : Place} → NamesAt rs j p i → 1 ≤ names_in rs i j
  one_naming {j} {p} k = omega (arith, names_in_lem j k.high, one_hit (hit j place_a) (hit j place_b) (hit j place_c) p (part_is j p ∙ hit_of k))

  two_namings : {j : ℕ} {p r : Place} → NamesAt rs j p i → NamesAt rs j r i → (p ≡ r) ⊎ (2 ≤ names_in rs i j)
  two_namings {j} {p} {r} k l = ⊎_elim (λ e. inl e) (λ u. inr (omega (arith, names_in_lem j k.high)))
      (two_hits (hit j place_a) (hit j place_b) (hit j place_c) p r (part_is j p ∙ hit_of k) (part_is j r ∙ hit_of l))

  -- the rows below n that name row i, in all
  in_sum : (n j : ℕ) → j < n → names_in rs i j ≤ namings rs i n
  unfolding namings
  in_sum zero j l = absurd (omega arith)
  in_sum (suc n) j l = ⊎_elim (λ (e : j ≡ n). let u : names_in rs i j ≡ names_in rs i n = ap (λ k. names_in rs i k) e in omega arith)
      (λ (b : j < n). omega (arith, in_sum n j b)) (eq-or-lt_of_le (le_of_suc-le-suc l))

  two_in_sum : (n j k : ℕ) → j < k → k < n → names_in rs i j + names_in rs i k ≤ namings rs i n
  unfolding namings
  two_in_sum zero j k l m = absurd (omega arith)
  two_in_sum (suc n) j k l m = ⊎_elim (λ (e : k ≡ n). let u : names_in rs i k ≡ names_in rs i n = ap (λ k. names_in rs i k) e in omega (arith, in_sum n j (omega arith)))
      (λ (b : k < n). omega (arith, two_in_sum n j k l b)) (eq-or-lt_of_le (le_of_suc-le-suc m))

  some_naming : (j : ℕ) → 1 ≤ names_in rs i j → (p : Place) × NamesAt rs j p i
  some_naming j h = ⊎_elim
      (λ l. let (p, t) = some_hit (hit j place_a) (hit j place_b) (hit j place_c) (omega (arith, names_in_lem j l)) in (p, of_hit j p l (sym (part_is j p) ∙ t)))
      (λ l. absurd (omega (arith, no_names_in j l))) (le_or_lt (number_of first_expression) (word rs j 0))

  -- row i is named once: then some row names it
  pub named_by : (n : ℕ) → 1 ≤ namings rs i n → (j : ℕ) × (j < n) × (p : Place) × NamesAt rs j p i
  unfolding namings
  named_by zero h = absurd (omega arith)
  named_by (suc n) h = ⊎_elim (λ l. let (j, b, p, k) = named_by n l in (j, omega arith, p, k)) (λ l. let (p, k) = some_naming n (omega arith) in (n, omega arith, p, k)) (le_or_lt 1 (namings rs i n))

  -- and no other row, and at no other place
  pub named_alone : (n : ℕ) → namings rs i n ≡ 1 → {j k : ℕ} {p r : Place} → j < n → k < n → NamesAt rs j p i → NamesAt rs k r i → (j ≡ k) × (p ≡ r)
  named_alone n e {j} {k} {p} {r} l m x y = ⊎_elim (λ a. ⊎_elim (λ (b : j ≡ k). same b x y) (λ (b : j < k). absurd (omega (arith, two_in_sum n j k b m, one_naming x, one_naming y))) (eq-or-lt_of_le a))
      (λ (b : k < j). absurd (omega (arith, two_in_sum n k j b l, one_naming x, one_naming y))) (le_or_lt j k)
    where
      same : j ≡ k → NamesAt rs j p i → NamesAt rs k r i → (j ≡ k) × (p ≡ r)
      same b x y = (b, ⊎_elim (λ c. c) (λ u. absurd (omega (arith, in_sum n j l))) (two_namings x (subst (λ j. NamesAt rs j r i) (sym b) y)))

-- ---- rows that keep the naming rule

-- the rows below n keep it
abbrev pub NamedOnce : List ℕ → ℕ → Type 0
NamedOnce rs n = (i : ℕ) → i < n → named_once rs n i ≡ true

module _ (rs : List ℕ) (n : ℕ) (t : NamedOnce rs n) where
  pub once : (i : ℕ) → suc i < n → FromKind rs i first_expression → namings rs i n ≡ 1
  unfolding named_once
  once i l h = ⊎_elim (λ (e : below_kind rs i first_expression ≡ true). absurd (omega (arith, ltb-true (word rs i 0) (number_of first_expression) e)))
      (λ e. ⊎_elim (λ (u : eqb (suc i) n ≡ true). absurd (omega (arith, eqb-true (suc i) n u))) (λ u. eqb-true (namings rs i n) 1 u) (or_cases _ _ e))
      (or_cases _ _ (t i (omega arith)))

  module _ (q : Sorted rs n) where
    -- two places of rows that name one row of kind 20 or more are one place of one row
    pub one_place : (j k : ℕ) (p r : Place) → j < n → k < n → Names rs j p → Names rs k r → op_at rs j p ≡ op_at rs k r → FromKind rs (op_at rs j p) first_expression → (j ≡ k) × (p ≡ r)
    one_place j k p r l m g h e u =
        let i = op_at rs j p in let w = lower rs n q j l p g in
        named_alone rs i n (once i (omega arith) u) l m
        (record { high = above rs n q j l p g u; asks = g; is = refl })
        (record { high = above rs n q k m r h (subst (λ i. FromKind rs i first_expression) e u); asks = h; is = sym e })
