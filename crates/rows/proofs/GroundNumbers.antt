-- No ground has the number 0, which is no ground. Rests on GroundNumbers.
use mathlib.Core.Path.{◌≡◌}
use Rattle.rows.specs.GroundNumbers.{number_of_ground}
use Rattle.rows.specs.declared.ground.Ground.{Ground}
use Rattle.rows.specs.declared.ground.Ground.TheVariants.{NotSized, NotRead, NotListed, NotSorted, NotNamed, NotSmall, NotTyped, EventNotRead, NotHandled, NotAccepted, WrongMemory, NotState, NotAtRest, ListTooShort, OtherRole, NoTouch}

pub some_number : (g : Ground) → number_of_ground g ≡ 0 → ⊥
some_number NotSized h = cc
some_number NotRead h = cc
some_number NotListed h = cc
some_number NotSorted h = cc
some_number NotNamed h = cc
some_number NotSmall h = cc
some_number NotTyped h = cc
some_number EventNotRead h = cc
some_number NotHandled h = cc
some_number NotAccepted h = cc
some_number WrongMemory h = cc
some_number NotState h = cc
some_number NotAtRest h = cc
some_number ListTooShort h = cc
some_number OtherRole h = cc
some_number NoTouch h = cc
