-- CR 6's roles and touches as computed checks from bytes: which events can be read, the role that a session looks in after each, and what
-- rows of kind 50 answer and show. Rests on Sessions.
use mathlib.Core.Path.{◌≡◌, refl}
use mathlib.Core.Bool.{true}
use mathlib.Core.List.{List, [], ◌∷◌}
use Prim.Native.String.{String}
use Rattle.screens.proofs.Sessions.{looks_in, agree}

-- ---- an editor of a number. The role blank, 0, 9, 01, with a space after it, and below 0: 8. Then roles 1, 2 and 8: taken. A bad action in
-- role 3 is 8, and so is an event without its role's columns
abbrev roles_sheet : List String
roles_sheet =
    "   0   3           0           0           0" ∷
    "   1  41           0           0           0" ∷
    []

abbrev roles_touches : List String
roles_touches =
    "                 0 1           5           0           0           0           0           0           0           0" ∷
    " 0               0 1           5           0           0           0           0           0           0           0" ∷
    " 9               0 1           5           0           0           0           0           0           0           0" ∷
    "01               0 1           5           0           0           0           0           0           0           0" ∷
    "1                0 1           5           0           0           0           0           0           0           0" ∷
    "-1               0 1           5           0           0           0           0           0           0           0" ∷
    " 1               0 1           5           0           0           0           0           0           0           0" ∷
    " 2               0 1           6           0           0           0           0           0           0           0" ∷
    " 8               0 1           7           0           0           0           0           0           0           0" ∷
    " 3               0 5           8           0           0           0           0           0           0           0" ∷
    "               0 1           9           0           0           0           0           0           0           0" ∷
    []

abbrev roles_screens : List String
roles_screens =
    "   0   1 0 0           0           0           0           0           0           0           0           0   1" ∷
    "               0 1 3 0 0 0 0 0 0 0" ∷
    "   8   0 0 0           0           0           0           0           0           0           0           0   1" ∷
    "               0 1 3 0 0 0 0 0 0 0" ∷
    "   8   0 0 0           0           0           0           0           0           0           0           0   1" ∷
    "               0 1 3 0 0 0 0 0 0 0" ∷
    "   8   0 0 0           0           0           0           0           0           0           0           0   1" ∷
    "               0 1 3 0 0 0 0 0 0 0" ∷
    "   8   0 0 0           0           0           0           0           0           0           0           0   1" ∷
    "               0 1 3 0 0 0 0 0 0 0" ∷
    "   8   0 0 0           0           0           0           0           0           0           0           0   1" ∷
    "               0 1 3 0 0 0 0 0 0 0" ∷
    "   8   0 0 0           0           0           0           0           0           0           0           0   1" ∷
    "               0 1 3 0 0 0 0 0 0 0" ∷
    "   0   1 0 1           5           0           0           0           0           0           0           0   1" ∷
    "               0 1 3 0 0 0 0 0 0 0" ∷
    "   0   1 0 1           6           0           0           0           0           0           0           0   1" ∷
    "               0 1 3 0 0 0 0 0 0 0" ∷
    "   0   1 0 1           7           0           0           0           0           0           0           0   1" ∷
    "               0 1 3 0 0 0 0 0 0 0" ∷
    "   8   0 0 1           7           0           0           0           0           0           0           0   1" ∷
    "               0 1 3 0 0 0 0 0 0 0" ∷
    "   8   0 0 1           7           0           0           0           0           0           0           0   1" ∷
    "               0 1 3 0 0 0 0 0 0 0" ∷
    []

-- ---- an editor for role 2, with one touch: role 1 gets 30, role 2 is taken, then 31, and role 1 still 30. The screen is not failing, and has its value
abbrev counter_sheet : List String
counter_sheet =
    "   0   3           0           0           0" ∷
    "   1  41           0           0           0" ∷
    "   2  50           2           1           1" ∷
    []

abbrev counter_touches : List String
counter_touches =
    " 1               0 1          12           0           0           0           0           0           0           0" ∷
    " 2               0 1          12           0           0           0           0           0           0           0" ∷
    " 2               0 1          13           0           0           0           0           0           0           0" ∷
    " 1               0 1          12           0           0           0           0           0           0           0" ∷
    []

abbrev counter_screens : List String
counter_screens =
    "   0   1 0 0           0           0           0           0           0           0           0           0   0" ∷
    "  30   0 0 0           0           0           0           0           0           0           0           0   0" ∷
    "   0   1 0 1          12           0           0           0           0           0           0           0   0" ∷
    "  31   0 0 1          12           0           0           0           0           0           0           0   0" ∷
    "  30   0 0 1          12           0           0           0           0           0           0           0   0" ∷
    []

-- ---- a 50 with two touches around a 44 whose A is a 50 with one: Continue without a value is 9, a value uses a touch of both, the next is 31;
-- Continue, which is 30 for role 1, uses a touch of the outer alone, and then that is spent
abbrev step_sheet : List String
step_sheet =
    "   0   3           0           0           0" ∷
    "   1  41           0           0           0" ∷
    "   2  50           2           1           1" ∷
    "   3  23           0           0           0" ∷
    "   4  40           3           0           0" ∷
    "   5  44           2           4           0" ∷
    "   6  50           2           5           2" ∷
    []

abbrev step_touches : List String
step_touches =
    " 2               0 2           0           0           0           0           0           0           0           0" ∷
    " 2               0 1           5           0           0           0           0           0           0           0" ∷
    " 2               0 1           6           0           0           0           0           0           0           0" ∷
    " 1               0 2           0           0           0           0           0           0           0           0" ∷
    " 2               0 2           0           0           0           0           0           0           0           0" ∷
    " 2               0 1           7           0           0           0           0           0           0           0" ∷
    []

abbrev step_screens : List String
step_screens =
    "   0   1 0 0           0           0           0           0           0           0           0           0   0" ∷
    "   9   0 0 0           0           0           0           0           0           0           0           0   1" ∷
    "               0 1 3 0 0 0 0 0 0 0" ∷
    "   0   1 0 0           0           0           0           0           0           0           0           0   1" ∷
    "               0 2 0 0 0 0 0 0 0 0" ∷
    "  31   0 0 0           0           0           0           0           0           0           0           0   1" ∷
    "               0 2 0 0 0 0 0 0 0 0" ∷
    "  30   0 0 0           0           0           0           0           0           0           0           0   0" ∷
    "   0   1 0 1           5           0           0           0           0           0           0           0   0" ∷
    "  31   0 0 1           5           0           0           0           0           0           0           0   0" ∷
    []

-- ---- two roles around each other, the inner one spent: 30 for both, and 9 where no rule derives a step
abbrev nobody_sheet : List String
nobody_sheet =
    "   0   3           0           0           0" ∷
    "   1  41           0           0           0" ∷
    "   2  50           2           1           0" ∷
    "   3  50           1           2           1" ∷
    []

abbrev nobody_touches : List String
nobody_touches =
    " 1               0 1           5           0           0           0           0           0           0           0" ∷
    " 2               0 1           5           0           0           0           0           0           0           0" ∷
    " 1               0 2           0           0           0           0           0           0           0           0" ∷
    []

abbrev nobody_screens : List String
nobody_screens =
    "   0   1 0 0           0           0           0           0           0           0           0           0   0" ∷
    "  30   0 0 0           0           0           0           0           0           0           0           0   0" ∷
    "  30   0 0 0           0           0           0           0           0           0           0           0   0" ∷
    "   9   0 0 0           0           0           0           0           0           0           0           0   0" ∷
    []

all_agree : agree ((roles_sheet, roles_touches, roles_screens) ∷ (counter_sheet, counter_touches, counter_screens) ∷ (step_sheet, step_touches, step_screens) ∷ (nobody_sheet, nobody_touches, nobody_screens) ∷ []) ≡ true
unfolding agree
all_agree = refl

-- ---- the looks after these events: role 1 after a bad role or a short event, else the event's, also where its action is bad
looks_in_lem : looks_in roles_touches ≡ (1 ∷ 1 ∷ 1 ∷ 1 ∷ 1 ∷ 1 ∷ 1 ∷ 2 ∷ 8 ∷ 3 ∷ 1 ∷ [])
unfolding looks_in
looks_in_lem = refl
