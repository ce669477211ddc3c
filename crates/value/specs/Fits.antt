-- Is a shape and leaves a value of a type? Rests on Values, on the calculus' `given` and on shapes.
-- For contracts only: tied to the calculus by `for_type` and `value_in` (proofs/Fitting).
use Rattle.std.specs.Prelude.{◌≡◌, Bool, true, false, cond, map, ℕ, eqb}
use Rattle.std.proofs.Math.Option.{Option, none, some, bind}
use Rattle.std.specs.Int.{w32}
use Rattle.std.proofs.Common.{to_z}
use Rattle.tophat.specs.Syntax.{Ty, Val}
use Rattle.tophat.specs.Leaves.{given}
use Rattle.rows.specs.Ground.{is_some}
use Rattle.shape.specs.Shape.{as_shape, as_type}
use Rattle.value.specs.declared.Value.{Value}

-- the value of the type that a shape and leaves are
unfoldable pub value_in : Value → Ty → Option Val
value_in v τ = cond (eqb v.shape (as_shape τ)) (given τ (map some (map (to_z w32) v.leaves))) none

-- that of the type which has this shape; a number that is no type's shape has none
unfoldable pub value_for : Value → ℕ → Option Val
value_for v shape = bind (as_type shape) (value_in v)

-- whether there is one
abbrev pub fits_in : Value → ℕ → Bool
fits_in v shape = is_some (value_for v shape)

-- r tells whether there is an x, and of it Q holds
pub data Got {X : Type 0} (r : Bool) (Q : X → Type 0) : Option X → Type 0 where
  got_none : r ≡ false → Got r Q none
  got_some : {x : X} → r ≡ true → Q x → Got r Q (some x)
