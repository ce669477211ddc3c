-- CR 1's cases as one computed check from the sheet's text and the events' bytes to the bytes printed: shown values (kind 49), and screens
-- without an entry that do not fail. Rests on Sessions.
use mathlib.Core.Path.{◌≡◌, refl}
use mathlib.Core.Bool.{true}
use mathlib.Core.List.{List, [], ◌∷◌}
use Prim.Native.String.{String}
use Rattle.screens.proofs.Sessions.{agree}

-- Both of a shown 5 and a fail: no entry, and not failing; a value at the shown part is refused
abbrev quiet_both_sheet : List String
quiet_both_sheet =
    "   0   3           0           0           0" ∷
    "   1  22           5           0           0" ∷
    "   2  49           1           0           0" ∷
    "   3  45           0           0           0" ∷
    "   4  46           2           3           0" ∷
    []

abbrev quiet_both_touches : List String
quiet_both_touches =
    " 1               1 1           7           0           0           0           0           0           0           0" ∷
    []

abbrev quiet_both_screens : List String
quiet_both_screens =
    "   0   1 0 0           0           0           0           0           0           0           0           0   0" ∷
    "   9   0 0 0           0           0           0           0           0           0           0           0   0" ∷
    []

-- A shown 1, Continue to fail: no entry, and not failing; Continue is refused
abbrev quiet_next_sheet : List String
quiet_next_sheet =
    "   0   3           0           0           0" ∷
    "   1  22           1           0           0" ∷
    "   2  49           1           0           0" ∷
    "   3  45           0           0           0" ∷
    "   4  44           2           3           0" ∷
    []

abbrev quiet_next_touches : List String
quiet_next_touches =
    " 1               0 2           0           0           0           0           0           0           0           0" ∷
    []

abbrev quiet_next_screens : List String
quiet_next_screens =
    "   0   1 0 0           0           0           0           0           0           0           0           0   0" ∷
    "   9   0 0 0           0           0           0           0           0           0           0           0   0" ∷
    []

-- A total nobody can type over: copies are entered; the total is shown and takes no value, and Continue is lit; what is shown then is the value
abbrev total_sheet : List String
total_sheet =
    "   0   3           0           0           0" ∷
    "   1  41           0           0           0" ∷
    "   2  23           0           0           0" ∷
    "   3  22          29           0           0" ∷
    "   4  24           3           2           3" ∷
    "   5  49           4           0           0" ∷
    "   6  23           0           0           0" ∷
    "   7  49           6           0           0" ∷
    "   8  44           5           7           0" ∷
    "   9  43           1           8           0" ∷
    []

abbrev total_touches : List String
total_touches =
    " 1               0 1           3           0           0           0           0           0           0           0" ∷
    " 1               0 1           1           0           0           0           0           0           0           0" ∷
    " 1               0 2           0           0           0           0           0           0           0           0" ∷
    " 1               0 1           1           0           0           0           0           0           0           0" ∷
    []

abbrev total_screens : List String
total_screens =
    "   0   1 0 0           0           0           0           0           0           0           0           0   1" ∷
    "               0 1 3 0 0 0 0 0 0 0" ∷
    "   0   2 0 0           0           0           0           0           0           0           0           0   1" ∷
    "               0 2 0 0 0 0 0 0 0 0" ∷
    "   9   0 0 0           0           0           0           0           0           0           0           0   1" ∷
    "               0 2 0 0 0 0 0 0 0 0" ∷
    "   0   1 0 1          87           0           0           0           0           0           0           0   0" ∷
    "   9   0 0 1          87           0           0           0           0           0           0           0   0" ∷
    []

all_agree : agree (
    (quiet_both_sheet, quiet_both_touches, quiet_both_screens) ∷
    (quiet_next_sheet, quiet_next_touches, quiet_next_screens) ∷
    (total_sheet, total_touches, total_screens) ∷
    []) ≡ true
unfolding agree
all_agree = refl
