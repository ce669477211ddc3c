-- Grounds 3 to 6 alone, and rows that an accepted sheet loads to (ground 20 of start, look and handle). Rests on rows.
-- For contracts only: tied to rows' `ground_of_rows` by `ground_form` (proofs/Grounds), and to `Loads` by `accepts_loads` (call_definitions' Flows).
use Rattle.std.specs.Prelude.{Bool, true, ◌&&◌, not, List, ℕ, ◌*◌, ◌/◌, ◌%◌, leb, eqb}
use Rattle.rows.specs.Rows.{max_rows, row_words}
use Rattle.rows.specs.Ground.{passes3, passes4, passes5, passes6, first_ground, ground_of_rows}

-- the first of grounds 3 to 6 that holds, 0 if none does
unfoldable pub ground_of_form : List ℕ → ℕ → ℕ
ground_of_form rs n = first_ground (passes3 rs n) (passes4 rs n) (passes5 rs n) (passes6 rs n) true

-- `length` words are 1 to 256 whole rows that get no ground
unfoldable pub accepted_rows : List ℕ → ℕ → Bool
accepted_rows rs length =
    not (eqb length 0) && (leb length (max_rows * row_words) && (eqb (length % row_words) 0 && eqb (ground_of_rows rs (length / row_words)) 0))
