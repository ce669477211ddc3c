-- The row count of a session (01, "A session in full"): 4 columns and byte 10. Rests on the fields of decimal.
-- Believed.
use Rattle.std.specs.Prelude.{cond, ◌&&◌, List, ℕ, ◌+◌, eqb, leb, pos, negsuc, length, get_or}
use Rattle.decimal.specs.Field.{Field, number, blank, unreadable, row_columns, reads_at, newline}
use Rattle.rows.specs.Rows.{max_rows}

abbrev pub count_bytes : ℕ
count_bytes = row_columns + 1

-- 01: "A sheet is 1 to 256 lines"; 0 stands for a count that is none of these
unfoldable pub count_said : Field → ℕ
count_said (number (pos n)) = cond (leb n max_rows) n 0
count_said (number (negsuc n)) = 0
count_said blank = 0
count_said unreadable = 0

unfoldable pub count_in : List ℕ → ℕ
count_in s = cond (eqb (length s) count_bytes && eqb (get_or s row_columns 0) newline) (count_said (reads_at s 0 row_columns)) 0
