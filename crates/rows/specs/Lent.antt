-- Lent rows and the engine's own: lent memory holds signed words, four a row; the engine's own are their bits, and rows of zeros after the
-- last. Rests on words and Rows.
-- Believed.
use Rattle.std.specs.Prelude.{List, ◌++◌, map, ℕ, ◌*◌, ◌-◌, ◌/◌, ℤ, length, replicate}
use Rattle.std.specs.Int.{w32}
use Rattle.std.proofs.Common.{of_z}
use Rattle.rows.specs.Rows.{max_rows, row_words}

-- how many words the engine has for rows
abbrev pub rows_size : ℕ
rows_size = max_rows * row_words

abbrev pub own_rows : List ℤ → List ℕ
own_rows ws = map (of_z w32) ws ++ replicate (rows_size - length ws) 0

-- how many rows a memory has
abbrev pub row_count : List ℤ → ℕ
row_count ws = length ws / row_words
