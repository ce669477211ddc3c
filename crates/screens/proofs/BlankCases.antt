-- CR 2's cases as one computed check from the sheet's text and the events' bytes to the bytes printed: fields left blank. And row counts, which
-- may not be. Rests on Sessions.
use mathlib.Core.Path.{◌≡◌, refl}
use mathlib.Core.Bool.{true}
use mathlib.Core.List.{List, [], ◌∷◌, map}
use Prim.Native.String.{String}
use Rattle.screens.specs.Counts.{count_in, count_said}
use Rattle.screens.proofs.Sessions.{text, agree}

-- P1 to P4 with every unused operand blank; first a blank leaf at the editor, refused, then 01's touches with a blank path and blank unused
-- leaves: 01's screens
abbrev p1to4_sheet : List String
p1to4_sheet =
    "   0   3                                    " ∷
    "   1  41           0                        " ∷
    "   2  23           0                        " ∷
    "   3  22           9                        " ∷
    "   4  24           5           2           3" ∷
    "   5  23           0                        " ∷
    "   6  22          30                        " ∷
    "   7  24           3           5           6" ∷
    "   8  40           7                        " ∷
    "   9  45           0                        " ∷
    "  10  25           4           8           9" ∷
    "  11  43           1          10            " ∷
    []

abbrev p1to4_touches : List String
p1to4_touches =
    " 1                 1                                                                                                " ∷
    " 1                 1          12                                                                                    " ∷
    " 1                 1           4           0                       0                       0                       0" ∷
    " 1                 2                                                                                                " ∷
    []

abbrev p1to4_screens : List String
p1to4_screens =
    "   0   1 0 0           0           0           0           0           0           0           0           0   1" ∷
    "               0 1 3 0 0 0 0 0 0 0" ∷
    "   9   0 0 0           0           0           0           0           0           0           0           0   1" ∷
    "               0 1 3 0 0 0 0 0 0 0" ∷
    "   0   1 0 0           0           0           0           0           0           0           0           0   1" ∷
    "               0 1 3 0 0 0 0 0 0 0" ∷
    "   0   2 0 1         120           0           0           0           0           0           0           0   1" ∷
    "               0 1 3 0 0 0 0 0 0 0" ∷
    "   9   0 0 1         120           0           0           0           0           0           0           0   1" ∷
    "               0 1 3 0 0 0 0 0 0 0" ∷
    []

-- A unit, and a number with a truth; then Continue. A unit left blank is refused, and so is the truth; a blank action cannot be read, nor a
-- leaf that is not 0 at Continue; with blanks and zeros Continue is taken
abbrev parts_sheet : List String
parts_sheet =
    "   0   1                                    " ∷
    "   1  41           0                        " ∷
    "   2   3                                    " ∷
    "   3   2                                    " ∷
    "   4   4           2           3            " ∷
    "   5  41           4                        " ∷
    "   6  46           1           5            " ∷
    "   7  20                                    " ∷
    "   8  40           7                        " ∷
    "   9  44           6           8            " ∷
    []

abbrev parts_touches : List String
parts_touches =
    " 1               1 1                       0           0           0           0           0           0           0" ∷
    " 1               1 1           0                                                                                    " ∷
    " 1               2 1           5                       0           0           0           0           0           0" ∷
    " 1               2 1           5           1                                                                        " ∷
    " 1                                                                                                                  " ∷
    " 1                 2                                   7                                                            " ∷
    " 1                 2           0                                   0                       0                       0" ∷
    []

abbrev parts_screens : List String
parts_screens =
    "   0   1 0 0           0           0           0           0           0           0           0           0   2" ∷
    "               1 1 1 0 0 0 0 0 0 0" ∷
    "               2 1 3 2 0 0 0 0 0 0" ∷
    "   9   0 0 0           0           0           0           0           0           0           0           0   2" ∷
    "               1 1 1 0 0 0 0 0 0 0" ∷
    "               2 1 3 2 0 0 0 0 0 0" ∷
    "   0   1 0 0           0           0           0           0           0           0           0           0   2" ∷
    "               1 1 1 0 0 0 0 0 0 0" ∷
    "               2 1 3 2 0 0 0 0 0 0" ∷
    "   9   0 0 0           0           0           0           0           0           0           0           0   2" ∷
    "               1 1 1 0 0 0 0 0 0 0" ∷
    "               2 1 3 2 0 0 0 0 0 0" ∷
    "   0   1 0 0           0           0           0           0           0           0           0           0   3" ∷
    "               1 1 1 0 0 0 0 0 0 0" ∷
    "               2 1 3 2 0 0 0 0 0 0" ∷
    "               0 2 0 0 0 0 0 0 0 0" ∷
    "   8   0 0 0           0           0           0           0           0           0           0           0   3" ∷
    "               1 1 1 0 0 0 0 0 0 0" ∷
    "               2 1 3 2 0 0 0 0 0 0" ∷
    "               0 2 0 0 0 0 0 0 0 0" ∷
    "   8   0 0 0           0           0           0           0           0           0           0           0   3" ∷
    "               1 1 1 0 0 0 0 0 0 0" ∷
    "               2 1 3 2 0 0 0 0 0 0" ∷
    "               0 2 0 0 0 0 0 0 0 0" ∷
    "   0   1 0 1           0           0           0           0           0           0           0           0   1" ∷
    "               0 1 1 0 0 0 0 0 0 0" ∷
    []

-- A used operand blank, though its 0 would be right
abbrev used_sheet : List String
used_sheet =
    "   0   3                                    " ∷
    "   1  41                                    " ∷
    []

abbrev used_screens : List String
used_screens =
    "   2   0 0 0           0           0           0           0           0           0           0           0   0" ∷
    []

all_agree : agree (
    (p1to4_sheet, p1to4_touches, p1to4_screens) ∷
    (parts_sheet, parts_touches, parts_screens) ∷
    (used_sheet, [], used_screens) ∷
    []) ≡ true
unfolding agree
all_agree = refl

-- row counts: 1 and 256; 257, 0, below 0, blank, a leading zero, and one byte short are none (01, "A session in full")
counts_said : map (λ s. count_in (text (s ∷ []))) ("   1" ∷ " 256" ∷ " 257" ∷ "   0" ∷ "  -1" ∷ "    " ∷ "  01" ∷ "  1" ∷ []) ≡ 1 ∷ 256 ∷ 0 ∷ 0 ∷ 0 ∷ 0 ∷ 0 ∷ 0 ∷ []
unfolding count_in count_said text agree
counts_said = refl
