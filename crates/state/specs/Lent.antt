-- Lent state words and the engine's own: the one pair between them. Lent memory holds signed words in the order of docs/STATE.md; the
-- engine's own are their bits in an order of its own, today the same. Rests on words and Layout.
-- Believed: `lent_of`. The rest is for contracts only: tied to it by `own_lent` and `lent_own` (proofs/LentLaws).
use Rattle.std.specs.Prelude.{List, ◌++◌, map, ℕ, ◌*◌, ◌-◌, ℤ, replicate}
use Rattle.std.specs.Int.{w32}
use Rattle.std.proofs.Common.{to_z, of_z}
use Rattle.rows.specs.Rows.{max_rows}
use Rattle.state.specs.Layout.{state_words}

-- the own words of a lent state of n rows
unfoldable pub own_of : ℕ → List ℤ → List ℕ
own_of n ws = map (of_z w32) ws

-- the lent words of an own state of n rows
unfoldable pub lent_of : ℕ → List ℕ → List ℤ
lent_of n ws = map (to_z w32) ws

-- how many words the engine has for a state, and a state of n rows in them
abbrev pub state_size : ℕ
state_size = max_rows * state_words

abbrev pub own_state : ℕ → List ℤ → List ℕ
own_state n ws = own_of n ws ++ replicate (state_size - n * state_words) 0
