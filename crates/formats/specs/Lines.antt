-- The lines of a sheet (01, "The sheet"; ground 2; CR 2): their columns, and what they say. Rests on Records, and on the table of kinds
-- for operands that are unused.
-- Believed, but for `line_text`: for proofs only, tied to `line_says` by `line_said` (proofs/LinesRead).
use Rattle.std.specs.Prelude.{Bool, true, false, cond, List, [], ◌∷◌, ◌++◌, ℕ, zero, suc, ◌+◌, ◌*◌, eqb, ℤ, pos, get_or}
use Rattle.std.proofs.Math.Option.{Option, none, some, bind}
use Rattle.std.specs.Int.{w32}
use Rattle.std.proofs.Common.{of_z}
use Rattle.word.specs.Word.{eq_z}
use Rattle.decimal.specs.Field.{Field, number, blank, unreadable, row_columns, word_columns, newline}
use Rattle.rows.specs.Kinds.{unused_of}
use Rattle.formats.specs.Records.{total, record_bytes, fields_at, number_said, each, items_text, items_in}

-- 01: "lines of 45 bytes: row number in columns 1-4, kind 5-8, operands A 9-20, B 21-32, C 33-44, then byte 10"
abbrev pub line_columns : List ℕ
line_columns = row_columns ∷ row_columns ∷ word_columns ∷ word_columns ∷ word_columns ∷ []

abbrev pub line_bytes : ℕ
line_bytes = record_bytes line_columns

-- CR 2: "An all-space field now reads as 0 where the operand is unused"; elsewhere it "stays unreadable"
unfoldable pub meant : Bool → Field → Field
meant u (number z) = number z
meant true blank = number (pos 0)
meant false blank = unreadable
meant u unreadable = unreadable

unfoldable pub meant_all : List Bool → List Field → List Field
meant_all [] fs = fs
meant_all (u ∷ us) [] = []
meant_all (u ∷ us) (f ∷ fs) = meant u f ∷ meant_all us fs

-- the row's first word, by what the kind's field says: 0, which is no kind, where it says none
unfoldable pub kind_word : Field → ℕ
kind_word (number z) = of_z w32 z
kind_word blank = 0
kind_word unreadable = 0

-- which fields of a line are unused, where its kind has this number: row number and kind never are
abbrev pub unused_fields : ℕ → List Bool
unused_fields k = false ∷ false ∷ unused_of k

-- the fields of line i, as they are meant by its own kind
abbrev pub line_fields : List ℕ → ℕ → List Field
line_fields s i =
    let fs = fields_at s (i * line_bytes) line_columns in
    meant_all (unused_fields (kind_word (get_or fs 1 unreadable))) fs

-- the numbers after the row's own, which is i
unfoldable pub after_row : ℕ → List ℤ → Option (List ℤ)
after_row i [] = none
after_row i (z ∷ zs) = cond (eq_z z (pos i)) (some zs) none

-- what line i says: kind, A, B and C
unfoldable pub line_says : List ℕ → ℕ → Option (List ℤ)
line_says s i =
    cond (eqb (get_or s (i * line_bytes + total line_columns) 0) newline)
    (bind (each number_said (line_fields s i)) λ zs. after_row i zs)
    none

-- what the first n lines say, one after another, if each can be read
unfoldable pub lines_say : List ℕ → ℕ → Option (List ℤ)
lines_say s zero = some []
lines_say s (suc i) = bind (lines_say s i) λ ws. bind (line_says s i) λ zs. some (ws ++ zs)

-- the text of line i with these numbers after the row's own
abbrev pub line_text : ℕ → List ℤ → List ℕ
line_text i zs = items_text (items_in line_columns (pos i ∷ zs)) ++ newline ∷ []
