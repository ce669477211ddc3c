-- What rows of kind 50 use, keep and hand on (CR 6), a session each, as computed checks from text to text: where a rule could be read another
-- way and every law would hold as well. Rests on Sessions.
use mathlib.Core.Path.{◌≡◌, refl}
use mathlib.Core.Bool.{true}
use mathlib.Core.List.{List, [], ◌∷◌}
use Prim.Native.String.{String}
use Rattle.screens.proofs.Sessions.{agree}

-- a 47 takes a part that is a 50 with a value: 1 alone, with its touch
abbrev c47_role_sheet : List String
c47_role_sheet =
    "   0  22           1           0           0" ∷
    "   1  40           0           0           0" ∷
    "   2  50           1           1           1" ∷
    "   3  22           2           0           0" ∷
    "   4  40           3           0           0" ∷
    "   5  47           2           4           0" ∷
    []

abbrev c47_role_touches : List String
c47_role_touches =
    " 1               0 1           3           0           0           0           0           0           0           0" ∷
    " 1               0 1           4           0           0           0           0           0           0           0" ∷
    []

abbrev c47_role_screens : List String
c47_role_screens =
    "   0   2 0 1           1           0           0           0           0           0           0           0   1" ∷
    "               0 1 3 0 0 0 0 0 0 0" ∷
    "   0   1 0 1           3           0           0           0           0           0           0           0   0" ∷
    "  31   0 0 1           3           0           0           0           0           0           0           0   0" ∷
    []

-- Left uses a touch: the next is 31
abbrev sides_use_sheet : List String
sides_use_sheet =
    "   0  22           1           0           0" ∷
    "   1  40           0           0           0" ∷
    "   2  22           2           0           0" ∷
    "   3  40           2           0           0" ∷
    "   4  48           1           3           0" ∷
    "   5  50           1           4           1" ∷
    []

abbrev sides_use_touches : List String
sides_use_touches =
    " 1               0 3           0           0           0           0           0           0           0           0" ∷
    " 1               0 1           9           0           0           0           0           0           0           0" ∷
    []

abbrev sides_use_screens : List String
sides_use_screens =
    "   0   1 0 0           0           0           0           0           0           0           0           0   2" ∷
    "               0 3 0 0 0 0 0 0 0 0" ∷
    "               0 4 0 0 0 0 0 0 0 0" ∷
    "   0   1 0 1           1           0           0           0           0           0           0           0   0" ∷
    "  31   0 0 1           1           0           0           0           0           0           0           0   0" ∷
    []

-- the same content uses a touch; a row not passed keeps its own
abbrev same_content_sheet : List String
same_content_sheet =
    "   0  22           5           0           0" ∷
    "   1  40           0           0           0" ∷
    "   2  50           1           1           1" ∷
    "   3   3           0           0           0" ∷
    "   4  41           3           0           0" ∷
    "   5  50           1           4           1" ∷
    "   6  46           2           5           0" ∷
    []

abbrev same_content_touches : List String
same_content_touches =
    " 1               1 1           5           0           0           0           0           0           0           0" ∷
    " 1               1 1           6           0           0           0           0           0           0           0" ∷
    " 1               2 1           7           0           0           0           0           0           0           0" ∷
    []

abbrev same_content_screens : List String
same_content_screens =
    "   0   1 0 0           0           0           0           0           0           0           0           0   2" ∷
    "               1 1 3 0 0 0 0 0 0 0" ∷
    "               2 1 3 0 0 0 0 0 0 0" ∷
    "   0   1 0 0           0           0           0           0           0           0           0           0   1" ∷
    "               2 1 3 0 0 0 0 0 0 0" ∷
    "  31   0 0 0           0           0           0           0           0           0           0           0   1" ∷
    "               2 1 3 0 0 0 0 0 0 0" ∷
    "   0   1 0 1           5           7           0           0           0           0           0           0   0" ∷
    []

-- Continue to a 50 of a fail is 9
abbrev role_fails_2_sheet : List String
role_fails_2_sheet =
    "   0  22           1           0           0" ∷
    "   1  40           0           0           0" ∷
    "   2   3           0           0           0" ∷
    "   3  45           2           0           0" ∷
    "   4  50           1           3           1" ∷
    "   5  44           1           4           0" ∷
    []

abbrev role_fails_2_touches : List String
role_fails_2_touches =
    " 1               0 2           0           0           0           0           0           0           0           0" ∷
    []

abbrev role_fails_2_screens : List String
role_fails_2_screens =
    "   0   1 0 0           0           0           0           0           0           0           0           0   1" ∷
    "               0 1 3 0 0 0 0 0 0 0" ∷
    "   9   0 0 0           0           0           0           0           0           0           0           0   1" ∷
    "               0 1 3 0 0 0 0 0 0 0" ∷
    []

-- 50 with its last touch used strides on: 2
abbrev spent_strides_sheet : List String
spent_strides_sheet =
    "   0   3           0           0           0" ∷
    "   1  41           0           0           0" ∷
    "   2  23           0           0           0" ∷
    "   3  22           9           0           0" ∷
    "   4  24           5           2           3" ∷
    "   5  23           0           0           0" ∷
    "   6  40           5           0           0" ∷
    "   7   3           0           0           0" ∷
    "   8  45           7           0           0" ∷
    "   9  25           4           6           8" ∷
    "  10  43           1           9           0" ∷
    "  11  50           1          10           1" ∷
    []

abbrev spent_strides_touches : List String
spent_strides_touches =
    " 1               0 1           4           0           0           0           0           0           0           0" ∷
    " 1               0 1           5           0           0           0           0           0           0           0" ∷
    []

abbrev spent_strides_screens : List String
spent_strides_screens =
    "   0   1 0 0           0           0           0           0           0           0           0           0   1" ∷
    "               0 1 3 0 0 0 0 0 0 0" ∷
    "   0   2 0 1           4           0           0           0           0           0           0           0   0" ∷
    "  31   0 0 1           4           0           0           0           0           0           0           0   0" ∷
    []

-- touches of the outer row too: 31
abbrev innermost_sheet : List String
innermost_sheet =
    "   0  22           1           0           0" ∷
    "   1  40           0           0           0" ∷
    "   2  50           1           1           2" ∷
    "   3  50           1           2           1" ∷
    []

abbrev innermost_touches : List String
innermost_touches =
    " 1               0 1           2           0           0           0           0           0           0           0" ∷
    " 1               0 1           3           0           0           0           0           0           0           0" ∷
    []

abbrev innermost_screens : List String
innermost_screens =
    "   0   1 0 1           1           0           0           0           0           0           0           0   1" ∷
    "               0 1 3 0 0 0 0 0 0 0" ∷
    "   0   1 0 1           2           0           0           0           0           0           0           0   0" ∷
    "  31   0 0 1           2           0           0           0           0           0           0           0   0" ∷
    []

-- 17 rows of kind 50 around a row: neither marks nor binders
abbrev seventeen_50_sheet : List String
seventeen_50_sheet =
    "   0   3           0           0           0" ∷
    "   1  41           0           0           0" ∷
    "   2  50           1           1          99" ∷
    "   3  50           1           2          99" ∷
    "   4  50           1           3          99" ∷
    "   5  50           1           4          99" ∷
    "   6  50           1           5          99" ∷
    "   7  50           1           6          99" ∷
    "   8  50           1           7          99" ∷
    "   9  50           1           8          99" ∷
    "  10  50           1           9          99" ∷
    "  11  50           1          10          99" ∷
    "  12  50           1          11          99" ∷
    "  13  50           1          12          99" ∷
    "  14  50           1          13          99" ∷
    "  15  50           1          14          99" ∷
    "  16  50           1          15          99" ∷
    "  17  50           1          16          99" ∷
    "  18  50           1          17          99" ∷
    []

abbrev seventeen_50_screens : List String
seventeen_50_screens =
    "   0   1 0 0           0           0           0           0           0           0           0           0   1" ∷
    "               0 1 3 0 0 0 0 0 0 0" ∷
    []

all_agree : agree (
    (c47_role_sheet, c47_role_touches, c47_role_screens) ∷
    (sides_use_sheet, sides_use_touches, sides_use_screens) ∷
    (same_content_sheet, same_content_touches, same_content_screens) ∷
    (role_fails_2_sheet, role_fails_2_touches, role_fails_2_screens) ∷
    (spent_strides_sheet, spent_strides_touches, spent_strides_screens) ∷
    (innermost_sheet, innermost_touches, innermost_screens) ∷
    (seventeen_50_sheet, [], seventeen_50_screens) ∷
    []) ≡ true
unfolding agree
all_agree = refl
