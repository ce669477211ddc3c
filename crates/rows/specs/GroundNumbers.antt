-- The number of each ground (01, "Grounds in the input" and "Grounds in the state"); in code src/ground.rt has them as cases.
-- 0 is no ground: the call is accepted. CR 6's 30 and 31, which handling says of the rows of kind 50 passed, stand in the calculus' Roles.
-- Rests on the calculus' Roles.
-- Believed.
use Rattle.std.specs.Prelude.{ℕ, Result, Ok, Err}
use Rattle.tophat.specs.Roles.{other_role, no_touch}
use Rattle.rows.specs.declared.ground.Ground.{Ground}
use Rattle.rows.specs.declared.ground.Ground.TheVariants.{NotSized, NotRead, NotListed, NotSorted, NotNamed, NotSmall, NotTyped, EventNotRead, NotHandled, NotAccepted, WrongMemory, NotState, NotAtRest, ListTooShort, OtherRole, NoTouch}

-- ---- grounds in the input

-- sheet length not 45 times 1 to 256
abbrev pub not_sized : ℕ
not_sized = 1

-- a field or byte 10 unreadable, or a wrong row number
abbrev pub not_read : ℕ
not_read = 2

-- a kind, operator, truth, role, number of touches (CR 6) or unused operand not as listed
abbrev pub not_listed : ℕ
not_listed = 3

-- an operand not a lower row, or not of the sort asked
abbrev pub not_sorted : ℕ
not_sorted = 4

-- the naming rule broken, or the last row of a kind below 25 or 26 to 30
abbrev pub not_named : ℕ
not_named = 5

-- a type row over 8 leaves (CR 4), or over 16 binders or marks
abbrev pub not_small : ℕ
not_small = 6

-- no typing for the last row as a task
abbrev pub not_typed : ℕ
not_typed = 7

-- event length, byte 10, field, role, path digit or action bad, or a leaf not 0 at actions 2 to 4; look's role (CR 6)
abbrev pub event_not_read : ℕ
event_not_read = 8

-- no handling rule derives a step
abbrev pub not_handled : ℕ
not_handled = 9

-- ---- grounds in the state

-- rows that no accepted sheet loads to
abbrev pub not_accepted : ℕ
not_accepted = 20

-- rows memory at load, state or value memory not of its exact length
abbrev pub wrong_memory : ℕ
wrong_memory = 21

-- not the writing of a state
abbrev pub not_state : ℕ
not_state = 22

-- normalising would change it
abbrev pub not_at_rest : ℕ
not_at_rest = 23

-- list memory under 35 bytes an entry (CR 4)
abbrev pub list_too_short : ℕ
list_too_short = 24

-- ---- the grounds in code

abbrev pub number_of_ground : Ground → ℕ
number_of_ground NotSized = not_sized
number_of_ground NotRead = not_read
number_of_ground NotListed = not_listed
number_of_ground NotSorted = not_sorted
number_of_ground NotNamed = not_named
number_of_ground NotSmall = not_small
number_of_ground NotTyped = not_typed
number_of_ground EventNotRead = event_not_read
number_of_ground NotHandled = not_handled
number_of_ground NotAccepted = not_accepted
number_of_ground WrongMemory = wrong_memory
number_of_ground NotState = not_state
number_of_ground NotAtRest = not_at_rest
number_of_ground ListTooShort = list_too_short
number_of_ground OtherRole = other_role
number_of_ground NoTouch = no_touch

-- the number that a call answers: 0 where it is accepted
abbrev pub answer_number : {X : Type 0} → Result X Ground → ℕ
answer_number (Ok x) = 0
answer_number (Err g) = number_of_ground g
