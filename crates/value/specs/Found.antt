-- A value that may be missing: what the calculus' optional values are to the engine. Rests on Values.
-- For contracts only: tied to the calculus by `found_none` and `found_some` (proofs/Meaning).
use Rattle.std.specs.Prelude.{Option, Some, None}
use Rattle.std.proofs.Math.Option.{Option as Maybe, none, some}
use Rattle.tophat.specs.Syntax.{Val}
use Rattle.value.specs.declared.Value.{Value}
use Rattle.value.specs.Values.{as_value, pair_value}

abbrev pub Found : Type 0
Found = Option Value

-- a pair, where both are there
abbrev pub both_found : Found → Found → Found
both_found None y = None
both_found (Some v) None = None
both_found (Some v) (Some w) = Some (pair_value v w)

unfoldable pub as_found : Maybe Val → Found
as_found none = None
as_found (some v) = Some (as_value v)
