-- What the scan of a sheet's lines answers and keeps. Rests on formats' lines.
-- For contracts only: tied to `lines_say` by the contract of `read_lines`.
use Rattle.std.specs.Prelude.{◌≡◌, Bool, false, ◌&&◌, List, ℕ, suc, ◌+◌, ◌*◌, eqb, ℤ, pos, get_or, Option, Some, None, Result, Ok, Err}
use Rattle.std.proofs.Math.Option.{Option as Maybe, none, some}
use Rattle.std.specs.Int.{w32}
use Rattle.std.proofs.Common.{of_z}
use Rattle.word.specs.Word.{eq_z}
use Rattle.decimal.specs.Field.{Field, number, blank, unreadable, row_columns, newline, reads_at}
use Rattle.formats.specs.Records.{total, place_of}
use Rattle.formats.specs.Lines.{line_columns, line_bytes, meant, unused_fields}
use Rattle.rows.specs.declared.ground.Ground.{Ground}
use Rattle.rows.specs.declared.ground.Ground.TheVariants.{NotRead}
use Rattle.rows.specs.Lent.{own_rows}

-- whether a field says the number i
abbrev pub says_row : Field → ℕ → Bool
says_row (number z) i = eq_z z (pos i)
says_row blank i = false
says_row unreadable i = false

-- whether line i ends in byte 10 and begins with the number i
abbrev pub is_line : List ℕ → ℕ → Bool
is_line s i = eqb (get_or s (i * line_bytes + total line_columns) 0) newline && says_row (reads_at s (i * line_bytes) row_columns) i

-- the field of word k of row i, as a row whose kind has this number means it
abbrev pub word_at : List ℕ → ℕ → ℕ → ℕ → Field
word_at s kind i k = meant (get_or (unused_fields kind) (suc k) false) (reads_at s (i * line_bytes + place_of line_columns (suc k)) (get_or line_columns (suc k) 0))

-- the code's answer for a word
unfoldable pub word_read : Maybe ℤ → Option ℕ
word_read none = None
word_read (some z) = Some (of_z w32 z)

-- for all lines: where each can be read, the words are theirs, with zeros after them
abbrev pub LinesRead : Maybe (List ℤ) → List ℕ → Result Unit Ground → Type 0
LinesRead none own r = r ≡ Err NotRead
LinesRead (some ws) own r = (r ≡ Ok tt) × (own ≡ own_rows ws)
