-- The promise on values: what look leaves in the value memory (01, "Four calls"; CR 4). It is all that a crate above needs to know of a
-- flow's values (proofs/ValuesShown). Rests on Memory, and on the calculus' typing of values.
-- Believed.
use Rattle.std.specs.Prelude.{◌≡◌, List, ℤ}
use Rattle.std.proofs.Math.Option.{some}
use Rattle.tophat.specs.Syntax.{Ty, Val}
use Rattle.tophat.specs.Typing.{ValueType}
unfoldable pub use Rattle.call_definitions.specs.Memory.{value_memory}

-- the 8 words of a value: its leaves, "unused 0"
abbrev pub value_words : Val → List ℤ
value_words v = value_memory (some v)

-- words hold a value of the type
pub record HoldsValue (τ : Ty) (ws : List ℤ) : Type 0 where
  pub value : Val
  pub typed : ValueType value τ
  pub words : ws ≡ value_words value
