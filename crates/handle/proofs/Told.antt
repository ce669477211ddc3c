-- Whether an answer is a ground, by the test of code, says whether its number is that ground's. Rests on rows' GroundsTold.
use Rattle.std.specs.Prelude.{◌≡◌, Bool, true, false, Result, Ok, Err}
use Rattle.std.specs.Result.{result_eq}
use Rattle.std.proofs.Common.{ap, arith}
use mathlib.Core.Bool.{false≢true}
use denote.Enum.Bare.{sameb, same_true, same_false}
use Rattle.rows.specs.declared.ground.Ground.{Ground}
use Rattle.rows.specs.contracts.ground.Ground.{the_type}
use Rattle.rows.specs.GroundNumbers.{number_of_ground, answer_number}
use Rattle.rows.proofs.GroundsTold.{some_number, one_ground}

module _ {X : Type 0} (E : X → X → Bool) (k : Ground) where
  pub told : (v : Result X Ground) → result_eq E (sameb the_type) v (Err k) ≡ true → answer_number v ≡ number_of_ground k
  told (Ok x) e = absurd (false≢true e)
  told (Err g) e = ap number_of_ground (same_true the_type tt g k e)

  pub untold : (v : Result X Ground) → result_eq E (sameb the_type) v (Err k) ≡ false → answer_number v ≡ number_of_ground k → ⊥
  untold (Ok x) e h = let n = some_number k in absurd (omega (arith, h, n))
  untold (Err g) e h = same_false the_type g k e (one_ground g k h)
