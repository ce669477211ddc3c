-- `sorted`: the rows passed are sorted, and the table holds their sorts.
use mathlib.Core.Path.{◌≡◌}
use mathlib.Core.Bool.{true}
use lib.ListN.{length}
use Rattle.rows.specs.Rows.{max_rows, every, row_sorted}
use Rattle.grounds.specs.Tables.{SortsTo}
use Rattle.grounds.proofs.sorted.sorted.Given as goal

abbrev pub invariant-loop-i : goal.invariant-loop-i
invariant-loop-i l = (length l.table ≡ max_rows) × SortsTo l.rows l.table l.i × (every l.i (row_sorted l.rows) ≡ true)
