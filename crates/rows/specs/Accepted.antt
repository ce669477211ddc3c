-- An accepted flow (01: "the rows that an accepted sheet loads to; its own type is the one that typing gives the last row"): n rows
-- that get no ground, and what they are. Rests on Ground and Trees.
-- For contracts only: tied to `Loads` by `loads_found` (call_definitions' Flows).
use Rattle.std.specs.Prelude.{◌≡◌, List, ℕ, ◌≤◌}
use Rattle.tophat.specs.Syntax.{Ty, Code, Store}
use Rattle.rows.specs.Trees.{Flow}
use Rattle.rows.specs.Ground.{ground_of_rows}

pub record AcceptedRows (rs : List ℕ) (n : ℕ) : Type 0 where
  pub some : 1 ≤ n
  pub ground_is : ground_of_rows rs n ≡ 0
  pub code : Code
  pub cells : List Ty
  pub store : Store
  pub type : Ty
  pub flow : Flow rs n code cells store type
