-- A sheet as text (01, "The sheet"), and the call load (01, "Four calls"), for every text and every rows memory: its number and the rows
-- memory at exit. Rests on the lines of formats and on the grounds of rows.
-- Believed: `lines`. `loaded` is for contracts only: tied to the rules by `load_derived` and `load_only` (call_definitions' LoadAnswered).
use Rattle.std.specs.Prelude.{ℕ, zero, suc, ◌*◌, ◌/◌, ◌%◌, Bool, cond, ◌&&◌, List, leb, eqb, ℤ, length}
use Rattle.std.proofs.Math.Option.{Option, none, some}
use Rattle.formats.specs.Lines.{line_bytes, lines_say}
use Rattle.rows.specs.GroundNumbers.{not_sized, not_read, wrong_memory}
use Rattle.rows.specs.Rows.{max_rows, row_words}
use Rattle.rows.specs.Lent.{own_rows}
use Rattle.rows.specs.Ground.{ground_of_rows}

-- how many lines a text has
abbrev pub lines : List ℕ → ℕ
lines s = length s / line_bytes

-- ground 1 does not hold: the length is 45 times 1 to 256
unfoldable pub sized : ℕ → Bool
sized m = eqb (m % line_bytes) 0 && (leb 1 (m / line_bytes) && leb (m / line_bytes) max_rows)

-- the number, and the rows memory at exit: the words that the lines say where the number is 0, else as it was
unfoldable pub leaving : ℕ → List ℤ → List ℤ → ℕ × List ℤ
leaving zero ws rows = (0, ws)
leaving (suc g) ws rows = (suc g, rows)

-- grounds 2 to 7, by what n lines say
unfoldable pub loaded_lines : Option (List ℤ) → ℕ → List ℤ → ℕ × List ℤ
loaded_lines none n rows = (not_read, rows)
loaded_lines (some ws) n rows = leaving (ground_of_rows (own_rows ws) n) ws rows

-- 01: "load 1, 21, 2 to 7": 21 is rows memory that is not 4 words a line
unfoldable pub loaded : List ℕ → List ℤ → ℕ × List ℤ
loaded s rows =
    cond (sized (length s))
    (cond (eqb (length rows) (lines s * row_words)) (loaded_lines (lines_say s (lines s)) (lines s) rows) (wrong_memory, rows))
    (not_sized, rows)
