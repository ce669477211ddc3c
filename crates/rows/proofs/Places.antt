-- The three operand places of a row. In rows that pass ground 4 an operand that names a row names a lower one, and a row of
-- kind 20 or more is named only by rows of kind 20 or more. Rests on Exists and KindNumbers.
use mathlib.Core.Path.{◌≡◌, refl, sym, subst, ◌∙◌}
use mathlib.Core.Bool.{Bool, true, false, ◌&&◌, ◌||◌}
use mathlib.Core.Logic.{⊎_elim, ◌⊎◌, inl, inr}
use mathlib.Core.List.{List}
use Prim.Native.Nat.{ℕ, ◌<◌}
use native.Mathlib.Omega.{arith}
use lib.Dec.{leb}
use borrow.Author.Tests.{leb-true}
use Rattle.match_laws.proofs.Ranges.{and_left, and_right}
use Rattle.tophat.specs.Syntax.{Ty}
use Rattle.rows.specs.Kinds.{Kind, Ask, unused, operator, truth, any_word, a_role, some_touches, a_type, a_basic, a_cell, a_plain, a_task, a_branch, like_b}
use Rattle.rows.specs.Kinds.{Sort, type_s, basic_s, cell_s, plain_s, task_s, Asks, asks, no_asks}
use Rattle.rows.specs.Rows.{word, op_a, op_b, op_c, sort_below, same_sort, sorted_as, sorted, row_sorted, names, OfKind, FromKind, BelowKind, first_expression, asks_at}
use Rattle.rows.specs.Trees.{ReadsType, r_unit, r_truth, r_number, r_pair}
use Rattle.rows.proofs.Basics.{no, or_cases, le_or_lt}
use Rattle.rows.specs.Kinds.{table, asks_of, number_of}
use Rattle.rows.proofs.Exists.{same_sort_lem, Known, lower_of, Has, has_type, has_basic, Sorted, exists}
use Rattle.rows.proofs.SortsBelow.{sort_at, sort_below_lem}
use Rattle.rows.proofs.KindNumbers.{tabled, each_line}

pub data Place : Type 0 where
  place_a place_b place_c : Place

abbrev pub op_at : List ℕ → ℕ → Place → ℕ
op_at rs j place_a = op_a rs j
op_at rs j place_b = op_b rs j
op_at rs j place_c = op_c rs j

-- what a place must be
abbrev pub ask_at : Asks → Place → Ask
ask_at (asks p q r o x) place_a = p
ask_at (asks p q r o x) place_b = q
ask_at (asks p q r o x) place_c = r
ask_at no_asks place_a = unused
ask_at no_asks place_b = unused
ask_at no_asks place_c = unused

-- the operand of row j at that place names a row
abbrev pub Names : List ℕ → ℕ → Place → Type 0
Names rs j p = names (ask_at (asks_at rs j) p) ≡ true

pub names_of : (rs : List ℕ) (j : ℕ) (k : Kind) → OfKind rs j k → (p : Place) → names (ask_at (asks_of (number_of k)) p) ≡ true → Names rs j p
names_of rs j k e p h = subst (λ w. names (ask_at (asks_of w) p) ≡ true) (sym e) h

-- ---- what holds of each line of the table, by a computed test of each

-- an ask that stands alone, not as B is; one for types
abbrev alone : Ask → Bool
alone unused = true
alone operator = true
alone truth = true
alone any_word = true
alone a_role = true
alone some_touches = true
alone a_type = true
alone a_basic = true
alone a_cell = true
alone a_plain = true
alone a_task = true
alone a_branch = true
alone like_b = false

abbrev types_only : Ask → Bool
types_only unused = true
types_only operator = true
types_only truth = true
types_only any_word = true
types_only a_role = true
types_only some_touches = true
types_only a_type = true
types_only a_basic = true
types_only a_cell = false
types_only a_plain = false
types_only a_task = false
types_only a_branch = false
types_only like_b = false

abbrev fair : ℕ → Asks → Bool
fair k s = (alone (ask_at s place_a) && (alone (ask_at s place_b) && (alone (ask_at s place_c) || names (ask_at s place_b))))
    && ((types_only (ask_at s place_a) && (types_only (ask_at s place_b) && types_only (ask_at s place_c))) || leb (number_of first_expression) k)

tested : each_line (λ n k s. fair n s) table ≡ true
unfolding names
tested = refl

all_fair : (w : ℕ) → fair w (asks_of w) ≡ true
unfolding names
all_fair = tabled fair tested (λ w. refl)

-- ---- an operand that names a row has a sort

known_same : (s t : Sort) → Known t → same_sort s t ≡ true → Known s
known_same s t k h = subst Known (sym (same_sort_lem s t h)) k

known_one : (s t u : Sort) → Known t → Known u → (same_sort s t || same_sort s u) ≡ true → Known s
known_one s t u k l h = ⊎_elim (λ p. known_same s t k p) (λ p. known_same s u l p) (or_cases _ _ h)

known_alone : (a : Ask) (s b : Sort) → names a ≡ true → alone a ≡ true → sorted_as a s b ≡ true → Known s
unfolding names sorted_as
known_alone unused s b h l e = no h
known_alone operator s b h l e = no h
known_alone truth s b h l e = no h
known_alone any_word s b h l e = no h
known_alone a_role s b h l e = no h
known_alone some_touches s b h l e = no h
known_alone a_type s b h l e = known_one s type_s basic_s tt tt e
known_alone a_basic s b h l e = known_same s basic_s tt e
known_alone a_cell s b h l e = known_same s cell_s tt e
known_alone a_plain s b h l e = known_same s plain_s tt e
known_alone a_task s b h l e = known_same s task_s tt e
known_alone a_branch s b h l e = known_one s plain_s task_s tt tt e
known_alone like_b s b h l e = no l

known_like : (a : Ask) (s b : Sort) → names a ≡ true → Known b → sorted_as a s b ≡ true → Known s
unfolding sorted_as
known_like unused s b h k e = known_alone unused s b h refl e
known_like operator s b h k e = known_alone operator s b h refl e
known_like truth s b h k e = known_alone truth s b h refl e
known_like any_word s b h k e = known_alone any_word s b h refl e
known_like a_role s b h k e = known_alone a_role s b h refl e
known_like some_touches s b h k e = known_alone some_touches s b h refl e
known_like a_type s b h k e = known_alone a_type s b h refl e
known_like a_basic s b h k e = known_alone a_basic s b h refl e
known_like a_cell s b h k e = known_alone a_cell s b h refl e
known_like a_plain s b h k e = known_alone a_plain s b h refl e
known_like a_task s b h k e = known_alone a_task s b h refl e
known_like a_branch s b h k e = known_alone a_branch s b h refl e
known_like like_b s b h k e = known_same s b k e

sorted_at : (s : Asks) (f : Place → Sort) → sorted s (f place_a) (f place_b) (f place_c) ≡ true → (p : Place) → sorted_as (ask_at s p) (f p) (f place_b) ≡ true
unfolding sorted sorted_as
sorted_at (asks a b c o x) f h place_a = and_left _ _ h
sorted_at (asks a b c o x) f h place_b = and_left _ _ (and_right (sorted_as a (f place_a) (f place_b)) _ h)
sorted_at (asks a b c o x) f h place_c = and_right (sorted_as b (f place_b) (f place_b)) _ (and_right (sorted_as a (f place_a) (f place_b)) _ h)
sorted_at no_asks f h p = no h

module _ (k : ℕ) (s : Asks) (f : Place → Sort) (t : fair k s ≡ true) (h : sorted s (f place_a) (f place_b) (f place_c) ≡ true) where
  known_b : names (ask_at s place_b) ≡ true → Known (f place_b)
  known_b n = known_alone (ask_at s place_b) _ _ n (and_left _ _ (and_right (alone (ask_at s place_a)) _ (and_left _ _ t))) (sorted_at s f h place_b)

  known_at : (p : Place) → names (ask_at s p) ≡ true → Known (f p)
  known_at place_a n = known_alone (ask_at s place_a) _ _ n (and_left _ _ (and_left _ _ t)) (sorted_at s f h place_a)
  known_at place_b n = known_b n
  known_at place_c n = ⊎_elim
      (λ l. known_alone (ask_at s place_c) _ _ n l (sorted_at s f h place_c))
      (λ m. known_like (ask_at s place_c) _ _ n (known_b m) (sorted_at s f h place_c))
      (or_cases _ _ (and_right (alone (ask_at s place_b)) _ (and_right (alone (ask_at s place_a)) _ (and_left _ _ t))))

-- ---- types stand on kinds below 20

pub type_low : {rs : List ℕ} {i : ℕ} {τ : Ty} → ReadsType rs i τ → BelowKind rs i first_expression
type_low (r_unit k) = omega arith
type_low (r_truth k) = omega arith
type_low (r_number k) = omega arith
type_low (r_pair k p q d e) = omega arith

types_at : (k : ℕ) (s : Asks) → fair k s ≡ true → k < number_of first_expression → (p : Place) → types_only (ask_at s p) ≡ true
types_at k s t l p = ⊎_elim (λ u. by u p) (λ u. absurd (omega (arith, leb-true (number_of first_expression) k u))) (or_cases _ _ (and_right (alone (ask_at s place_a) && (alone (ask_at s place_b) && (alone (ask_at s place_c) || names (ask_at s place_b)))) _ t))
  where
    by : (types_only (ask_at s place_a) && (types_only (ask_at s place_b) && types_only (ask_at s place_c))) ≡ true → (p : Place) → types_only (ask_at s p) ≡ true
    by u place_a = and_left _ _ u
    by u place_b = and_left _ _ (and_right (types_only (ask_at s place_a)) _ u)
    by u place_c = and_right (types_only (ask_at s place_b)) _ (and_right (types_only (ask_at s place_a)) _ u)

a_type_sort : (a : Ask) (s b : Sort) → names a ≡ true → types_only a ≡ true → sorted_as a s b ≡ true → (s ≡ type_s) ⊎ (s ≡ basic_s)
unfolding names sorted_as
a_type_sort unused s b h l e = no h
a_type_sort operator s b h l e = no h
a_type_sort truth s b h l e = no h
a_type_sort any_word s b h l e = no h
a_type_sort a_role s b h l e = no h
a_type_sort some_touches s b h l e = no h
a_type_sort a_type s b h l e = ⊎_elim (λ p. inl (same_sort_lem s type_s p)) (λ p. inr (same_sort_lem s basic_s p)) (or_cases _ _ e)
a_type_sort a_basic s b h l e = inr (same_sort_lem s basic_s e)
a_type_sort a_cell s b h l e = no l
a_type_sort a_plain s b h l e = no l
a_type_sort a_task s b h l e = no l
a_type_sort a_branch s b h l e = no l
a_type_sort like_b s b h l e = no l

module _ (rs : List ℕ) (n : ℕ) (q : Sorted rs n) where
  abbrev sort_of : ℕ → Place → Sort
  sort_of j p = sort_below rs j (op_at rs j p)

  -- an operand that names a row names a lower one
  pub lower : (j : ℕ) → j < n → (p : Place) → Names rs j p → op_at rs j p < j
  unfolding row_sorted
  lower j l p h = lower_of rs j (op_at rs j p) (sort_of j p) (known_at (word rs j 0) (asks_at rs j) (sort_of j) (all_fair (word rs j 0)) (q j l) p h) refl

  type_row : (w : ℕ) → w < n → (sort_at rs w ≡ type_s) ⊎ (sort_at rs w ≡ basic_s) → BelowKind rs w first_expression
  type_row w l = ⊎_elim (λ e. by (subst (Has rs w) e (exists rs n q w l))) (λ e. by2 (subst (Has rs w) e (exists rs n q w l)))
    where
      by : Has rs w type_s → BelowKind rs w first_expression
      by (has_type d) = type_low d

      by2 : Has rs w basic_s → BelowKind rs w first_expression
      by2 (has_basic b d) = type_low d

  -- a row of kind 20 or more is named by a row of kind 20 or more
  pub above : (j : ℕ) → j < n → (p : Place) → Names rs j p → FromKind rs (op_at rs j p) first_expression → FromKind rs j first_expression
  unfolding row_sorted
  above j l p h g = ⊎_elim (λ k. k) (λ (k : BelowKind rs j first_expression).
      let s = asks_at rs j in
      let m = lower j l p h in
      let t = a_type_sort (ask_at s p) (sort_of j p) _ h (types_at (word rs j 0) s (all_fair (word rs j 0)) k p) (sorted_at s (sort_of j) (q j l) p) in
      let u = type_row (op_at rs j p) (omega arith) (⊎_elim (λ e. inl (sym (sort_below_lem rs j _ m) ∙ e)) (λ e. inr (sym (sort_below_lem rs j _ m) ∙ e)) t) in
      absurd (omega arith)) (le_or_lt (number_of first_expression) (word rs j 0))
