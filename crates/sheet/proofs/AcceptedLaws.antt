-- `accepted_rows`, each way out: its count is the definition's, and the words at exit are the engine's own rows. Rests on AcceptedRows.
use Rattle.std.specs.Prelude.{Option, IsSome}
use Rattle.std.specs.Bool.{then_some}
use mathlib.Core.Path.{◌≡◌, sym, ap, subst, ◌∙◌}
use mathlib.Core.Bool.{Bool, true, false}
use mathlib.Core.List.{List, ◌++◌, map}
use Prim.Native.Nat.{ℕ, ◌*◌, ◌≤◌}
use native.Mathlib.Omega.{arith}
use borrow.Author.Tests.{leb-true}
use borrow.Table.Steps.{cases}
use lib.Dec.{leb}
use lib.IntN.{ℤ}
use lib.ListN.{length, take, replicate, length-replicate}
use mir.Syntax.{w32}
use mir.Val.{of_z}
use Rattle.word.specs.Word.{AllWords}
use Rattle.word.specs.Laid.{laid}
use Rattle.word.proofs.Laid.{laid_front}
use Rattle.word.proofs.Lists.{drop_zeros, words_whole}
use Rattle.rows.specs.Rows.{max_rows, row_words}
use Rattle.rows.specs.Lent.{rows_size, own_rows, row_count}
use Rattle.grounds.specs.Accepted.{accepted_rows}
use Rattle.sheet.specs.Accepted.{accepts_rows, accepted_count}
use Rattle.sheet.proofs.AcceptedRows.{passed_of}

module _ (rows : List ℤ) (own words : List ℕ) (z : own ≡ replicate rows_size 0) (c : words ≡ laid (of_z w32) rows own) where
  -- what is answered, left and learnt
  abbrev pub Counts : Option ℕ → Type 0
  Counts r = (r ≡ accepted_count rows) × ((IsSome r → words ≡ own_rows rows) × (IsSome r → AllWords rows))

  module _ (few : length rows ≤ rows_size) where
    whole : length rows ≤ length (replicate {A = ℕ} rows_size 0)
    whole = rw (length-replicate {A = ℕ} rows_size 0) few

    is_own : words ≡ own_rows rows
    is_own =
        c ∙ ap (laid (of_z w32) rows) z
        ∙ laid_front (of_z w32) rows (replicate rows_size 0) whole ∙ ap (λ l. map (of_z w32) rows ++ l) (drop_zeros (length rows) rows_size)

  -- the copied words are accepted exactly where the rows are
  tested : accepted_rows words (length rows) ≡ accepts_rows rows
  unfolding accepts_rows accepted_rows
  tested = cases (leb (length rows) (max_rows * row_words))
      (λ t. ap (λ l. accepted_rows l (length rows)) (is_own (leb-true (length rows) (max_rows * row_words) t)))
      (λ f. rw f)

  pub counts : (b : Bool) → b ≡ accepted_rows words (length rows) → AllWords (take (length own) rows) → Counts (then_some b (row_count rows))
  counts true e w =
      let a : accepts_rows rows ≡ true = sym tested ∙ sym e in
      let p = passed_of rows a in
      let f = p.few in let o = p.whole in
      let few : length rows ≤ rows_size = omega (arith, f, o) in
      (sym (rw a), (λ l. is_own few, λ l. words_whole (length own) rows (subst (λ y. length rows ≤ length y) (sym z) (whole few)) w))
  counts false e w =
      let a : accepts_rows rows ≡ false = sym tested ∙ sym e in
      (sym (rw a), (λ l. cc, λ l. cc))
