-- The cells' first contents, written. Rests on rows' cells and on crate state_check's terms for copied cells.
-- For contracts only: tied to `start_call` by the proof of `start`.
use Rattle.std.specs.Prelude.{List, ℕ}
use Rattle.tophat.specs.Syntax.{Val}
use Rattle.rows.specs.Rows.{op_b}
use Rattle.rows.specs.ComputeTrees.{content_type, cell_type, content_of, first_store}
use Rattle.state_check.specs.Copies.{CopyCell, CopyCells}

-- the first content of a cell's row
abbrev pub content_at : List ℕ → ℕ → Val
content_at rs i = content_of (content_type rs i) (op_b rs i)

-- and of any row
abbrev pub first_at : List ℕ → ℕ → Val
first_at rs i = content_of (cell_type rs i) (op_b rs i)

abbrev pub CellFirst : List ℕ → List ℕ → List ℕ → ℕ → Type 0
CellFirst rs y y₁ i = CopyCell rs y y₁ i (first_at rs i)

abbrev pub CellsFirst : List ℕ → List ℕ → List ℕ → ℕ → Type 0
CellsFirst rs y y₁ n = CopyCells rs y y₁ n (first_store rs n)
