-- A ground's number is no 0, and no other ground's; and what the exit of a `?` hands on. Rests on GroundNumbers.
use Rattle.std.specs.Prelude.{◌≡◌, cond, ℕ, ◌≤◌, eqb, Result, Ok, Err}
use Rattle.std.specs.Result.{IsErrAnd}
use Rattle.std.proofs.Common.{refl, sym, ap, ◌∙◌, arith}
use Rattle.rows.specs.declared.ground.Ground.{Ground}
use Rattle.rows.specs.declared.ground.Ground.TheVariants.{NotSized, NotRead, NotListed, NotSorted, NotNamed, NotSmall, NotTyped, EventNotRead, NotHandled, NotAccepted, WrongMemory, NotState, NotAtRest, ListTooShort, OtherRole, NoTouch}
use Rattle.rows.specs.GroundNumbers.{number_of_ground}

pub some_number : (g : Ground) → 1 ≤ number_of_ground g
some_number NotSized = omega arith
some_number NotRead = omega arith
some_number NotListed = omega arith
some_number NotSorted = omega arith
some_number NotNamed = omega arith
some_number NotSmall = omega arith
some_number NotTyped = omega arith
some_number EventNotRead = omega arith
some_number NotHandled = omega arith
some_number NotAccepted = omega arith
some_number WrongMemory = omega arith
some_number NotState = omega arith
some_number NotAtRest = omega arith
some_number ListTooShort = omega arith
some_number OtherRole = omega arith
some_number NoTouch = omega arith

-- the ground of a number
of_number : ℕ → Ground
of_number n =
    cond (eqb n (number_of_ground NotSized)) NotSized (
    cond (eqb n (number_of_ground NotRead)) NotRead (
    cond (eqb n (number_of_ground NotListed)) NotListed (
    cond (eqb n (number_of_ground NotSorted)) NotSorted (
    cond (eqb n (number_of_ground NotNamed)) NotNamed (
    cond (eqb n (number_of_ground NotSmall)) NotSmall (
    cond (eqb n (number_of_ground NotTyped)) NotTyped (
    cond (eqb n (number_of_ground EventNotRead)) EventNotRead (
    cond (eqb n (number_of_ground NotHandled)) NotHandled (
    cond (eqb n (number_of_ground NotAccepted)) NotAccepted (
    cond (eqb n (number_of_ground WrongMemory)) WrongMemory (
    cond (eqb n (number_of_ground NotState)) NotState (
    cond (eqb n (number_of_ground NotAtRest)) NotAtRest (
    cond (eqb n (number_of_ground ListTooShort)) ListTooShort (
    cond (eqb n (number_of_ground OtherRole)) OtherRole (
    NoTouch)))))))))))))))

numbered : (g : Ground) → of_number (number_of_ground g) ≡ g
unfolding of_number
numbered NotSized = refl
numbered NotRead = refl
numbered NotListed = refl
numbered NotSorted = refl
numbered NotNamed = refl
numbered NotSmall = refl
numbered NotTyped = refl
numbered EventNotRead = refl
numbered NotHandled = refl
numbered NotAccepted = refl
numbered WrongMemory = refl
numbered NotState = refl
numbered NotAtRest = refl
numbered ListTooShort = refl
numbered OtherRole = refl
numbered NoTouch = refl

pub one_ground : (g k : Ground) → number_of_ground g ≡ number_of_ground k → g ≡ k
one_ground g k e = sym (numbered g) ∙ ap of_number e ∙ numbered k

pub passed_on : {X : Type 0} {g : Ground} (r : Result X Ground) → IsErrAnd r (λ e. e ≡ g) → r ≡ Err g
passed_on (Ok x) h = absurd h
passed_on (Err e) h = ap Err h
