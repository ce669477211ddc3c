-- Ground 20, as a test of rows memory: it holds exactly where no accepted sheet loads to these rows (proofs/AcceptedRows). Rests on rows'
-- grounds.
-- For contracts only: tied to `Loads` by `accepts_loads` and `loads_accepts` (call_definitions' Flows).
use Rattle.std.specs.Prelude.{Bool, cond, List, ℕ, ℤ, length, Option, Some, None}
use Rattle.rows.specs.Lent.{own_rows, row_count}
use Rattle.grounds.specs.Accepted.{accepted_rows}

-- ground 20 does not hold: 1 to 256 whole rows that get no ground
unfoldable pub accepts_rows : List ℤ → Bool
accepts_rows rows = accepted_rows (own_rows rows) (length rows)

-- what the test in code answers: the number of rows
abbrev pub accepted_count : List ℤ → Option ℕ
accepted_count rows = cond (accepts_rows rows) (Some (row_count rows)) None
