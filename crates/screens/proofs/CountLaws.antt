-- The row count, each way out. Rests on decimal's Answers.
use mathlib.Core.Path.{◌≡◌, sym, ap, subst, ◌∙◌}
use mathlib.Core.Bool.{false}
use mathlib.Core.List.{List}
use Prim.Native.Nat.{ℕ, suc, ◌-◌, ◌<◌, ◌≤◌}
use native.Mathlib.Omega.{arith}
use borrow.Author.Tests.{eq-eqb, ne_eqb, le-leb, lt-leb, leb-true}
use borrow.Table.Steps.{cases}
use lib.Dec.{eqb, leb}
use lib.IntN.{pos, negsuc}
use lib.ListN.{length, get_or}
use mir.Syntax.{w32}
use mir.Val.{to_z}
use mir.Facts.{to_z_pos, to_z-neg}
use Rattle.word.specs.Word.{words, half}
use Rattle.decimal.specs.Field.{Field, number, blank, unreadable, row_columns, reads_at, reading}
use Rattle.decimal.specs.declared.field.Reading.{Reading}
use Rattle.decimal.specs.declared.field.Reading.TheVariants.{Number, Blank, Unreadable}
use Rattle.decimal.proofs.Answers.{number_read, blank_said, nothing_said}
use Rattle.rows.specs.Rows.{max_rows}
use Rattle.screens.specs.Counts.{count_bytes, count_said, count_in}

-- ---- the number that bits say

pub few_some : (n : ℕ) → n ≤ max_rows → n ≡ count_said (number (to_z w32 n))
unfolding count_said
few_some n h = rw (to_z_pos w32 {n = n} (omega arith), le-leb n max_rows h)

negative : (n : ℕ) → half ≤ n → n < words → to_z w32 n ≡ negsuc (words - 1 - n)
negative n h g = subst (λ m. to_z w32 m ≡ negsuc (words - 1 - n)) {x = words - suc (words - 1 - n)} {y = n} (omega arith) (to_z-neg w32 (words - 1 - n) (omega arith))

pub few_none : (n : ℕ) → n < words → max_rows < n → 0 ≡ count_said (number (to_z w32 n))
unfolding count_said
few_none n g h = cases (leb half n)
    (λ e. rw (negative n (leb-true half n e) g))
    (λ e. rw (to_z_pos w32 {n = n} (below e), lt-leb n max_rows h))
  where
    below : leb half n ≡ false → n < half
    below e = borrow.Author.Tests.leb-false half n e

-- ---- the bytes

module _ (s : List ℕ) where
  pub no_count : (length s ≡ count_bytes → ⊥) → 0 ≡ count_in s
  unfolding count_in
  no_count h = rw (ne_eqb (length s) count_bytes h)

  pub no_end : length s ≡ count_bytes → (get_or s row_columns 0 ≡ 10 → ⊥) → 0 ≡ count_in s
  unfolding count_in
  no_end l h = rw (eq-eqb (length s) count_bytes l, ne_eqb (get_or s row_columns 0) 10 h)

  module _ (l : length s ≡ count_bytes) (b : get_or s row_columns 0 ≡ 10) where
    said : count_said (reads_at s 0 row_columns) ≡ count_in s
    unfolding count_in
    said = rw (eq-eqb (length s) count_bytes l, eq-eqb (get_or s row_columns 0) 10 b)

    module _ (r : Reading) (e : r ≡ reading (reads_at s 0 row_columns)) where
      pub count_number : (n m : ℕ) → r ≡ Number n → m ≡ count_said (number (to_z w32 n)) → m ≡ count_in s
      count_number n m h g = g ∙ ap count_said (sym (number_read s 0 row_columns n (sym h ∙ e)).is) ∙ said

      pub count_blank : r ≡ Blank → 0 ≡ count_in s
      unfolding count_said
      count_blank h = ap count_said (sym (blank_said (reads_at s 0 row_columns) (sym h ∙ e))) ∙ said

      pub count_unread : r ≡ Unreadable → 0 ≡ count_in s
      unfolding count_said
      count_unread h = ap count_said (sym (nothing_said (reads_at s 0 row_columns) (sym h ∙ e))) ∙ said

-- a count is at most 256
said_few : (f : Field) → count_said f ≤ max_rows
unfolding count_said
said_few (number (pos n)) = cases (leb n max_rows) (λ e. rw e (leb-true n max_rows e)) (λ e. rw e (omega arith))
said_few (number (negsuc n)) = omega arith
said_few blank = omega arith
said_few unreadable = omega arith

pub count_few : (s : List ℕ) → count_in s ≤ max_rows
unfolding count_in
count_few s = cases (eqb (length s) count_bytes)
    (λ e. cases (eqb (get_or s row_columns 0) 10) (λ g. rw (e, g) (said_few (reads_at s 0 row_columns))) (λ g. rw (e, g) (omega arith)))
    (λ e. rw e (omega arith))
