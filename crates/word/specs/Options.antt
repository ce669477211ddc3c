-- The optional values of specs/ as code has them. Rests on nothing.
-- For contracts only.
use Rattle.std.specs.Prelude.{Option, Some, None}
use Rattle.std.proofs.Math.Option.{Option as Maybe, none, some}

-- an optional value in code
abbrev pub in_code : {X : Type 0} → Maybe X → Option X
in_code none = None
in_code (some x) = Some x
