-- Counts of strides, operators, the range (CR 3) and shown values (CR 1), a session each, as computed checks from text to text: where a rule
-- could be read another way and every law would hold as well. Those on stores are StoreCases, those on rows of kind 50 TouchCases. Rests on
-- Sessions.
use mathlib.Core.Path.{◌≡◌, refl}
use mathlib.Core.Bool.{true}
use mathlib.Core.List.{List, [], ◌∷◌}
use Prim.Native.String.{String}
use Rattle.screens.proofs.Sessions.{agree}

-- Continue evaluates B and the call counts its strides: 2, not 1
abbrev continue_counts_sheet : List String
continue_counts_sheet =
    "   0  22           1           0           0" ∷
    "   1  40           0           0           0" ∷
    "   2  22           2           0           0" ∷
    "   3  40           2           0           0" ∷
    "   4  22           3           0           0" ∷
    "   5  40           4           0           0" ∷
    "   6  43           3           5           0" ∷
    "   7  44           1           6           0" ∷
    []

abbrev continue_counts_touches : List String
continue_counts_touches =
    " 1               0 2           0           0           0           0           0           0           0           0" ∷
    []

abbrev continue_counts_screens : List String
continue_counts_screens =
    "   0   1 0 0           0           0           0           0           0           0           0           0   2" ∷
    "               0 1 3 0 0 0 0 0 0 0" ∷
    "               0 2 0 0 0 0 0 0 0 0" ∷
    "   0   2 0 1           3           0           0           0           0           0           0           0   1" ∷
    "               0 1 3 0 0 0 0 0 0 0" ∷
    []

-- Left gives the branch normalised, whose strides are not counted: 1, not 2
abbrev left_counts_sheet : List String
left_counts_sheet =
    "   0  22           1           0           0" ∷
    "   1  40           0           0           0" ∷
    "   2  22           2           0           0" ∷
    "   3  40           2           0           0" ∷
    "   4  43           1           3           0" ∷
    "   5  22           3           0           0" ∷
    "   6  40           5           0           0" ∷
    "   7  48           4           6           0" ∷
    []

abbrev left_counts_touches : List String
left_counts_touches =
    " 1               0 3           0           0           0           0           0           0           0           0" ∷
    []

abbrev left_counts_screens : List String
left_counts_screens =
    "   0   1 0 0           0           0           0           0           0           0           0           0   2" ∷
    "               0 3 0 0 0 0 0 0 0 0" ∷
    "               0 4 0 0 0 0 0 0 0 0" ∷
    "   0   1 0 1           2           0           0           0           0           0           0           0   1" ∷
    "               0 1 3 0 0 0 0 0 0 0" ∷
    []

-- 43 over 43 goes on in one stride: 2 at start
abbrev step_counts_sheet : List String
step_counts_sheet =
    "   0  22           1           0           0" ∷
    "   1  40           0           0           0" ∷
    "   2  22           2           0           0" ∷
    "   3  40           2           0           0" ∷
    "   4  43           1           3           0" ∷
    "   5  22           3           0           0" ∷
    "   6  40           5           0           0" ∷
    "   7  43           4           6           0" ∷
    []

abbrev step_counts_screens : List String
step_counts_screens =
    "   0   2 0 1           3           0           0           0           0           0           0           0   1" ∷
    "               0 1 3 0 0 0 0 0 0 0" ∷
    []

-- 44 strides its A: 2 at start, and Continue is lit
abbrev waits_counts_sheet : List String
waits_counts_sheet =
    "   0  22           1           0           0" ∷
    "   1  40           0           0           0" ∷
    "   2  22           2           0           0" ∷
    "   3  40           2           0           0" ∷
    "   4  43           1           3           0" ∷
    "   5  23           0           0           0" ∷
    "   6  40           5           0           0" ∷
    "   7  44           4           6           0" ∷
    []

abbrev waits_counts_touches : List String
waits_counts_touches =
    " 1               0 2           0           0           0           0           0           0           0           0" ∷
    []

abbrev waits_counts_screens : List String
waits_counts_screens =
    "   0   2 0 0           0           0           0           0           0           0           0           0   2" ∷
    "               0 1 3 0 0 0 0 0 0 0" ∷
    "               0 2 0 0 0 0 0 0 0 0" ∷
    "   0   1 0 1           2           0           0           0           0           0           0           0   1" ∷
    "               0 1 3 0 0 0 0 0 0 0" ∷
    []

-- 1 < 1, 1 < 2; 1 and 0; 1 or 0; 5 - 3; 1 <= 1
abbrev operators_sheet : List String
operators_sheet =
    "   0  22           1           0           0" ∷
    "   1  22           1           0           0" ∷
    "   2  24           4           0           1" ∷
    "   3  22           1           0           0" ∷
    "   4  22           2           0           0" ∷
    "   5  24           4           3           4" ∷
    "   6  26           2           5           0" ∷
    "   7  21           1           0           0" ∷
    "   8  21           0           0           0" ∷
    "   9  24           7           7           8" ∷
    "  10  21           1           0           0" ∷
    "  11  21           0           0           0" ∷
    "  12  24           8          10          11" ∷
    "  13  26           9          12           0" ∷
    "  14  26           6          13           0" ∷
    "  15  22           5           0           0" ∷
    "  16  22           3           0           0" ∷
    "  17  24           2          15          16" ∷
    "  18  22           1           0           0" ∷
    "  19  22           1           0           0" ∷
    "  20  24           5          18          19" ∷
    "  21  26          17          20           0" ∷
    "  22  26          14          21           0" ∷
    "  23  40          22           0           0" ∷
    []

abbrev operators_screens : List String
operators_screens =
    "   0   1 0 1           0           1           0           1           2           1           0           0   1" ∷
    "               0 1 2 2 2 2 3 2 0 0" ∷
    []

-- a condition beyond the range, a half not used and the second side of or fail their branch; a side not taken does not
abbrev range_1_sheet : List String
range_1_sheet =
    "   0  22  2147483647           0           0" ∷
    "   1  22           1           0           0" ∷
    "   2  24           1           0           1" ∷
    "   3  22           0           0           0" ∷
    "   4  24           4           2           3" ∷
    "   5  22           1           0           0" ∷
    "   6  22           2           0           0" ∷
    "   7  25           4           5           6" ∷
    "   8  40           7           0           0" ∷
    "   9  22           1           0           0" ∷
    "  10  22  2147483647           0           0" ∷
    "  11  22           1           0           0" ∷
    "  12  24           1          10          11" ∷
    "  13  26           9          12           0" ∷
    "  14  27          13           0           0" ∷
    "  15  40          14           0           0" ∷
    "  16  48           8          15           0" ∷
    "  17  21           1           0           0" ∷
    "  18  22  2147483647           0           0" ∷
    "  19  22           1           0           0" ∷
    "  20  24           1          18          19" ∷
    "  21  22           0           0           0" ∷
    "  22  24           4          20          21" ∷
    "  23  24           8          17          22" ∷
    "  24  22           1           0           0" ∷
    "  25  22           2           0           0" ∷
    "  26  25          23          24          25" ∷
    "  27  40          26           0           0" ∷
    "  28  21           1           0           0" ∷
    "  29  22           1           0           0" ∷
    "  30  22  2147483647           0           0" ∷
    "  31  22           1           0           0" ∷
    "  32  24           1          30          31" ∷
    "  33  25          28          29          32" ∷
    "  34  40          33           0           0" ∷
    "  35  48          27          34           0" ∷
    "  36  46          16          35           0" ∷
    []

abbrev range_1_screens : List String
range_1_screens =
    "   0   1 0 0           0           0           0           0           0           0           0           0   1" ∷
    "               2 4 0 0 0 0 0 0 0 0" ∷
    []

-- a 48 whose branches both leave the range fails; an intermediate sum counts; a binding not used counts
abbrev range_2_sheet : List String
range_2_sheet =
    "   0  22  2147483647           0           0" ∷
    "   1  22           1           0           0" ∷
    "   2  24           1           0           1" ∷
    "   3  40           2           0           0" ∷
    "   4  22  2147483647           0           0" ∷
    "   5  22           1           0           0" ∷
    "   6  24           1           4           5" ∷
    "   7  22           5           0           0" ∷
    "   8  24           2           6           7" ∷
    "   9  40           8           0           0" ∷
    "  10  48           3           9           0" ∷
    "  11  22  2147483647           0           0" ∷
    "  12  22           1           0           0" ∷
    "  13  24           1          11          12" ∷
    "  14  22           1           0           0" ∷
    "  15  31          13          14           0" ∷
    "  16  40          15           0           0" ∷
    "  17   3           0           0           0" ∷
    "  18  45          17           0           0" ∷
    "  19  48          16          18           0" ∷
    "  20  46          10          19           0" ∷
    []

abbrev range_2_screens : List String
range_2_screens =
    "   0   1 1 0           0           0           0           0           0           0           0           0   0" ∷
    []

-- a step inside a branch that would leave the range waits, and the branch lives
abbrev range_3_sheet : List String
range_3_sheet =
    "   0  22           1           0           0" ∷
    "   1  40           0           0           0" ∷
    "   2  22  2147483647           0           0" ∷
    "   3  23           0           0           0" ∷
    "   4  24           1           2           3" ∷
    "   5  40           4           0           0" ∷
    "   6  43           1           5           0" ∷
    "   7   3           0           0           0" ∷
    "   8  45           7           0           0" ∷
    "   9  48           6           8           0" ∷
    []

abbrev range_3_touches : List String
range_3_touches =
    " 1               0 3           0           0           0           0           0           0           0           0" ∷
    []

abbrev range_3_screens : List String
range_3_screens =
    "   0   1 0 0           0           0           0           0           0           0           0           0   1" ∷
    "               0 3 0 0 0 0 0 0 0 0" ∷
    "   0   1 0 0           0           0           0           0           0           0           0           0   1" ∷
    "               0 1 3 0 0 0 0 0 0 0" ∷
    []

-- A of a step beyond the range fails the whole last row: no entry of the other part
abbrev range_4_sheet : List String
range_4_sheet =
    "   0  22  2147483647           0           0" ∷
    "   1  22           1           0           0" ∷
    "   2  24           1           0           1" ∷
    "   3  40           2           0           0" ∷
    "   4  22           1           0           0" ∷
    "   5  40           4           0           0" ∷
    "   6  43           3           5           0" ∷
    "   7   3           0           0           0" ∷
    "   8  41           7           0           0" ∷
    "   9  46           6           8           0" ∷
    []

abbrev range_4_screens : List String
range_4_screens =
    "   0   1 1 0           0           0           0           0           0           0           0           0   0" ∷
    []

-- cell 7; a shown value stays when the cell changes; a 47 takes one
abbrev shown_sheet : List String
shown_sheet =
    "   0   3           0           0           0" ∷
    "   1  10           0           7           0" ∷
    "   2  29           1           0           0" ∷
    "   3  49           2           0           0" ∷
    "   4  42           1           0           0" ∷
    "   5  22           5           0           0" ∷
    "   6  49           5           0           0" ∷
    "   7  22           6           0           0" ∷
    "   8  40           7           0           0" ∷
    "   9  47           6           8           0" ∷
    "  10  46           4           9           0" ∷
    "  11  46           3          10           0" ∷
    []

abbrev shown_touches : List String
shown_touches =
    " 1              21 1           3           0           0           0           0           0           0           0" ∷
    []

abbrev shown_screens : List String
shown_screens =
    "   0   2 0 1           7           7           5           0           0           0           0           0   1" ∷
    "              21 1 3 0 0 0 0 0 0 0" ∷
    "   0   1 0 1           7           3           5           0           0           0           0           0   1" ∷
    "              21 1 3 0 0 0 0 0 0 0" ∷
    []

all_agree : agree (
    (continue_counts_sheet, continue_counts_touches, continue_counts_screens) ∷
    (left_counts_sheet, left_counts_touches, left_counts_screens) ∷
    (step_counts_sheet, [], step_counts_screens) ∷
    (waits_counts_sheet, waits_counts_touches, waits_counts_screens) ∷
    (operators_sheet, [], operators_screens) ∷
    (range_1_sheet, [], range_1_screens) ∷
    (range_2_sheet, [], range_2_screens) ∷
    (range_3_sheet, range_3_touches, range_3_screens) ∷
    (range_4_sheet, [], range_4_screens) ∷
    (shown_sheet, shown_touches, shown_screens) ∷
    []) ≡ true
unfolding agree
all_agree = refl
