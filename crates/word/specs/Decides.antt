-- A test's answer, and what it decides. Rests on nothing.
-- For contracts only: no promise names it.
use Rattle.std.specs.Prelude.{◌≡◌, Bool, true, false}

-- b tells whether P holds
pub record Decides (b : Bool) (P : Type 0) : Type 0 where
  pub yes : b ≡ true → P
  pub no : b ≡ false → P → ⊥
