-- In rows that pass grounds 3 and 4 every operand word of a row of kind 25 to 49 is below its row, whether it names a row or
-- is unused; of kind 24, B and C are, of kind 50 B. So code may follow operands before it knows what they are. Rests on Places.
use mathlib.Core.Path.{◌≡◌, refl}
use mathlib.Core.Bool.{Bool, true, false, ◌&&◌, ◌||◌}
use mathlib.Core.Logic.{⊎_elim, ◌⊎◌, inl, inr}
use mathlib.Core.List.{List}
use Prim.Native.Nat.{ℕ, ◌<◌, ◌≤◌}
use native.Mathlib.Omega.{arith}
use lib.Dec.{ltb}
use borrow.Author.Tests.{ltb-true, eqb-true}
use Rattle.match_laws.proofs.Ranges.{and_left, and_right}
use Rattle.rows.specs.Kinds.{table, Ask, unused, operator, truth, any_word, a_role, some_touches, a_type, a_basic, a_cell, a_plain, a_task, a_branch, like_b, Asks, asks, no_asks, plain_k, eop_k, either_k, if_k, task_k, view_k, number_of}
use Rattle.rows.specs.Rows.{word, op_a, op_b, op_c, names, listed_as, listed, row_listed, FromKind, asks_at, LowWords}
use Rattle.rows.proofs.Basics.{no, or_cases}
use Rattle.rows.proofs.Exists.{Sorted}
use Rattle.rows.proofs.Places.{Place, place_a, place_b, place_c, op_at, ask_at, lower}
use Rattle.rows.proofs.KindNumbers.{tabled, each_line}

-- the rows below n pass ground 3
abbrev pub Listed : List ℕ → ℕ → Type 0
Listed rs n = (i : ℕ) → i < n → row_listed rs i ≡ true

-- the operand names a row or is unused
abbrev row_or_none : Ask → Bool
row_or_none unused = true
row_or_none operator = false
row_or_none truth = false
row_or_none any_word = false
row_or_none a_role = false
row_or_none some_touches = false
row_or_none a_type = true
row_or_none a_basic = true
row_or_none a_cell = true
row_or_none a_plain = true
row_or_none a_task = true
row_or_none a_branch = true
row_or_none like_b = true

row_or_none_lem : (a : Ask) (w : ℕ) → row_or_none a ≡ true → listed_as a w ≡ true → (names a ≡ true) ⊎ (w ≡ 0)
unfolding names listed_as
row_or_none_lem unused w h l = inr (eqb-true w 0 l)
row_or_none_lem operator w h l = no h
row_or_none_lem truth w h l = no h
row_or_none_lem any_word w h l = no h
row_or_none_lem a_role w h l = no h
row_or_none_lem some_touches w h l = no h
row_or_none_lem a_type w h l = inl refl
row_or_none_lem a_basic w h l = inl refl
row_or_none_lem a_cell w h l = inl refl
row_or_none_lem a_plain w h l = inl refl
row_or_none_lem a_task w h l = inl refl
row_or_none_lem a_branch w h l = inl refl
row_or_none_lem like_b w h l = inl refl

-- by the table: from kind 25 to 49 A names a row; from 24 on A or B does, and B names one or is unused; from 24 to 49 so does C
abbrev operators : ℕ
operators = number_of (plain_k eop_k)

abbrev branches : ℕ
branches = number_of (either_k if_k)

abbrev views : ℕ
views = number_of (task_k view_k)

-- of a number from k on, and of one up to k
abbrev from : ℕ → ℕ → Bool → Bool
from k w b = ltb w k || b

abbrev up_to : ℕ → ℕ → Bool → Bool
up_to k w b = ltb k w || b

abbrev follows : ℕ → Asks → Bool
follows w no_asks = true
follows w (asks a b c o x) =
    from branches w (up_to views w (names a)) && (from operators w (names a || names b) && (from operators w (row_or_none b) && from operators w (up_to views w (row_or_none c))))

tested : each_line (λ n k s. follows n s) table ≡ true
unfolding names
tested = refl

-- where the bound holds
from_is : (k w : ℕ) {b : Bool} → from k w b ≡ true → k ≤ w → b ≡ true
from_is k w h l = ⊎_elim (λ (e : ltb w k ≡ true). absurd (omega (arith, ltb-true w k e))) (λ e. e) (or_cases (ltb w k) _ h)

up_to_is : (k w : ℕ) {b : Bool} → up_to k w b ≡ true → w ≤ k → b ≡ true
up_to_is k w h l = ⊎_elim (λ (e : ltb k w ≡ true). absurd (omega (arith, ltb-true k w e))) (λ e. e) (or_cases (ltb k w) _ h)

listed_at : (s : Asks) (f : Place → ℕ) → listed s (f place_a) (f place_b) (f place_c) ≡ true → (p : Place) → listed_as (ask_at s p) (f p) ≡ true
unfolding listed
listed_at (asks a b c o x) f h place_a = and_left _ _ h
listed_at (asks a b c o x) f h place_b = and_left _ _ (and_right (listed_as a (f place_a)) _ h)
listed_at (asks a b c o x) f h place_c = and_right (listed_as b (f place_b)) _ (and_right (listed_as a (f place_a)) _ h)
listed_at no_asks f h p = no h

-- what the table says of a row that is listed
record Follows (k : ℕ) (s : Asks) : Type 0 where
  first : branches ≤ k → k ≤ views → names (ask_at s place_a) ≡ true
  some : operators ≤ k → (names (ask_at s place_a) ≡ true) ⊎ (names (ask_at s place_b) ≡ true)
  second : operators ≤ k → row_or_none (ask_at s place_b) ≡ true
  third : operators ≤ k → k ≤ views → row_or_none (ask_at s place_c) ≡ true

follows_of : (k a b c : ℕ) (s : Asks) → follows k s ≡ true → listed s a b c ≡ true → Follows k s
unfolding listed
follows_of k a b c no_asks t h = no h
follows_of k a b c (asks x y z o w) t h =
    let t₁ = and_right (from branches k (up_to views k (names x))) _ t in
    let t₂ = and_right (from operators k (names x || names y)) _ t₁ in
    record {
      first = λ l u. up_to_is views k (from_is branches k (and_left _ _ t) l) u;
      some = λ l. or_cases (names x) (names y) (from_is operators k (and_left _ _ t₁) l);
      second = λ l. from_is operators k (and_left _ _ t₂) l;
      third = λ l u. up_to_is views k (from_is operators k (and_right (from operators k (row_or_none y)) _ t₂) l) u;
    }

module _ (rs : List ℕ) (n : ℕ) (g : Listed rs n) (q : Sorted rs n) (i : ℕ) (l : i < n) where
  by_table : Follows (word rs i 0) (asks_at rs i)
  unfolding row_listed
  by_table = follows_of (word rs i 0) (op_a rs i) (op_b rs i) (op_c rs i) (asks_at rs i) (tabled follows tested (λ k. refl) (word rs i 0)) (and_left _ _ (g i l))

  -- some operand is lower, so the row is not the first
  positive : FromKind rs i (plain_k eop_k) → 0 < i
  positive h = ⊎_elim (λ e. let w = lower rs n q i l place_a e in omega arith) (λ e. let w = lower rs n q i l place_b e in omega arith) (by_table.some h)

  low_at : (p : Place) → FromKind rs i (plain_k eop_k) → row_or_none (ask_at (asks_at rs i) p) ≡ true → op_at rs i p < i
  unfolding row_listed
  low_at p h r = ⊎_elim (λ e. lower rs n q i l p e) (λ e. let w = positive h in omega arith)
      (row_or_none_lem (ask_at (asks_at rs i) p) (op_at rs i p) r (listed_at (asks_at rs i) (λ p. op_at rs i p) (and_left _ _ (g i l)) p))

  pub low_words : LowWords rs i
  low_words = record {
    low_a = λ h u. lower rs n q i l place_a (by_table.first h u);
    low_b = λ h. low_at place_b h (by_table.second h);
    low_c = λ h u. low_at place_c h (by_table.third h u);
  }
