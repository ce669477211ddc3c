-- 01's proved cases, P1 to P12, and one session more, as one computed check from the sheet's text and the events' bytes to the bytes
-- printed: a session is a sheet as the shop writes it, touches, and the screens. Rests on Sessions.
use mathlib.Core.Path.{◌≡◌, refl}
use mathlib.Core.Bool.{true}
use mathlib.Core.List.{List, [], ◌∷◌, ◌++◌}
use Prim.Native.Nat.{◌+◌, ◌*◌}
use Prim.Native.String.{String}
use lib.IntN.{pos}
use lib.ListN.{get_or, replicate}
use Rattle.state.specs.Layout.{state_words}
use Rattle.screens.proofs.Sessions.{started, agree}

-- ---- the cases

-- P1 to P4: the session that 01 prints
abbrev p1to4_sheet : List String
p1to4_sheet =
    "   0   3           0           0           0" ∷
    "   1  41           0           0           0" ∷
    "   2  23           0           0           0" ∷
    "   3  22           9           0           0" ∷
    "   4  24           5           2           3" ∷
    "   5  23           0           0           0" ∷
    "   6  22          30           0           0" ∷
    "   7  24           3           5           6" ∷
    "   8  40           7           0           0" ∷
    "   9  45           0           0           0" ∷
    "  10  25           4           8           9" ∷
    "  11  43           1          10           0" ∷
    []

abbrev p1to4_touches : List String
p1to4_touches =
    " 1               0 1          12           0           0           0           0           0           0           0" ∷
    " 1               0 1           4           0           0           0           0           0           0           0" ∷
    " 1               0 2           0           0           0           0           0           0           0           0" ∷
    []

abbrev p1to4_screens : List String
p1to4_screens =
    "   0   1 0 0           0           0           0           0           0           0           0           0   1" ∷
    "               0 1 3 0 0 0 0 0 0 0" ∷
    "   0   1 0 0           0           0           0           0           0           0           0           0   1" ∷
    "               0 1 3 0 0 0 0 0 0 0" ∷
    "   0   2 0 1         120           0           0           0           0           0           0           0   1" ∷
    "               0 1 3 0 0 0 0 0 0 0" ∷
    "   9   0 0 1         120           0           0           0           0           0           0           0   1" ∷
    "               0 1 3 0 0 0 0 0 0 0" ∷
    []

-- P5: "choice 47 of filled 1 and 2: 1 alone"
abbrev p5_sheet : List String
p5_sheet =
    "   0  22           1           0           0" ∷
    "   1  40           0           0           0" ∷
    "   2  22           2           0           0" ∷
    "   3  40           2           0           0" ∷
    "   4  47           1           3           0" ∷
    []

abbrev p5_screens : List String
p5_screens =
    "   0   2 0 1           1           0           0           0           0           0           0           0   1" ∷
    "               0 1 3 0 0 0 0 0 0 0" ∷
    []

-- P6: "of empty and filled 2: 2 alone"
abbrev p6_sheet : List String
p6_sheet =
    "   0   3           0           0           0" ∷
    "   1  41           0           0           0" ∷
    "   2  22           2           0           0" ∷
    "   3  40           2           0           0" ∷
    "   4  47           1           3           0" ∷
    []

abbrev p6_screens : List String
p6_screens =
    "   0   2 0 1           2           0           0           0           0           0           0           0   1" ∷
    "               0 1 3 0 0 0 0 0 0 0" ∷
    []

-- P7: "both of two fails: failing, no entries"
abbrev p7_sheet : List String
p7_sheet =
    "   0   3           0           0           0" ∷
    "   1  45           0           0           0" ∷
    "   2  45           0           0           0" ∷
    "   3  46           1           2           0" ∷
    []

abbrev p7_screens : List String
p7_screens =
    "   0   1 1 0           0           0           0           0           0           0           0           0   0" ∷
    []

-- P8: "choice 48 of filled and fail: Left only"
abbrev p8_sheet : List String
p8_sheet =
    "   0   3           0           0           0" ∷
    "   1  22           1           0           0" ∷
    "   2  40           1           0           0" ∷
    "   3  45           0           0           0" ∷
    "   4  48           2           3           0" ∷
    []

abbrev p8_screens : List String
p8_screens =
    "   0   1 0 0           0           0           0           0           0           0           0           0   1" ∷
    "               0 3 0 0 0 0 0 0 0 0" ∷
    []

-- P9: "filled 1, Continue to fail: one entry, the editor's"
abbrev p9_sheet : List String
p9_sheet =
    "   0   3           0           0           0" ∷
    "   1  22           1           0           0" ∷
    "   2  40           1           0           0" ∷
    "   3  45           0           0           0" ∷
    "   4  44           2           3           0" ∷
    []

abbrev p9_screens : List String
p9_screens =
    "   0   1 0 0           0           0           0           0           0           0           0           0   1" ∷
    "               0 1 3 0 0 0 0 0 0 0" ∷
    []

-- P10: "cell 7; filled 1, internal step that writes 3 and fails: cell 7"
abbrev p10_sheet : List String
p10_sheet =
    "   0   3           0           0           0" ∷
    "   1  10           0           7           0" ∷
    "   2  22           1           0           0" ∷
    "   3  40           2           0           0" ∷
    "   4  22           3           0           0" ∷
    "   5  30           1           4           0" ∷
    "   6  45           0           0           0" ∷
    "   7  31           5           6           0" ∷
    "   8  43           3           7           0" ∷
    []

abbrev p10_screens : List String
p10_screens =
    "   0   1 0 0           0           0           0           0           0           0           0           0   1" ∷
    "               0 1 3 0 0 0 0 0 0 0" ∷
    []

-- P11: "cell 0; both of (shared, step to filled 1 if the value is 1, else fail) and (filled 1, step that writes 1, then filled 0): value (1, 0), 3 strides"
abbrev p11_sheet : List String
p11_sheet =
    "   0   3           0           0           0" ∷
    "   1  10           0           0           0" ∷
    "   2  42           1           0           0" ∷
    "   3  23           0           0           0" ∷
    "   4  22           1           0           0" ∷
    "   5  24           6           3           4" ∷
    "   6  22           1           0           0" ∷
    "   7  40           6           0           0" ∷
    "   8  45           0           0           0" ∷
    "   9  25           5           7           8" ∷
    "  10  43           2           9           0" ∷
    "  11  22           1           0           0" ∷
    "  12  40          11           0           0" ∷
    "  13  22           1           0           0" ∷
    "  14  30           1          13           0" ∷
    "  15  22           0           0           0" ∷
    "  16  40          15           0           0" ∷
    "  17  31          14          16           0" ∷
    "  18  43          12          17           0" ∷
    "  19  46          10          18           0" ∷
    []

abbrev p11_screens : List String
p11_screens =
    "   0   3 0 1           1           0           0           0           0           0           0           0   2" ∷
    "               1 1 3 0 0 0 0 0 0 0" ∷
    "               2 1 3 0 0 0 0 0 0 0" ∷
    []

-- P12 (CR 3): "a filled editor of that sum, which fails"; here it is given a value
abbrev p12_sheet : List String
p12_sheet =
    "   0  22  2147483647           0           0" ∷
    "   1  22           1           0           0" ∷
    "   2  24           1           0           1" ∷
    "   3  40           2           0           0" ∷
    []

abbrev p12_touches : List String
p12_touches = " 1               0 1           5           0           0           0           0           0           0           0" ∷ []

abbrev p12_screens : List String
p12_screens =
    "   0   1 1 0           0           0           0           0           0           0           0           0   0" ∷
    "   9   0 1 0           0           0           0           0           0           0           0           0   0" ∷
    []

-- One session more: a truth, a number and a unit editor, paths of one and of two marks, a pair value of truth and number, and
-- Continue, Left and Right each shown and taken, and each refused where it is not shown
abbrev every_sheet : List String
every_sheet =
    "   0   1           0           0           0" ∷
    "   1   2           0           0           0" ∷
    "   2   3           0           0           0" ∷
    "   3  41           1           0           0" ∷
    "   4  41           2           0           0" ∷
    "   5  46           3           4           0" ∷
    "   6  41           0           0           0" ∷
    "   7  45           0           0           0" ∷
    "   8  20           0           0           0" ∷
    "   9  40           8           0           0" ∷
    "  10  48           7           9           0" ∷
    "  11  45           0           0           0" ∷
    "  12  48          10          11           0" ∷
    "  13  44           6          12           0" ∷
    "  14  46           5          13           0" ∷
    []

abbrev every_touches : List String
every_touches =
    " 1               2 2           0           0           0           0           0           0           0           0" ∷
    " 1               2 1           0           0           0           0           0           0           0           0" ∷
    " 1              11 1           2           0           0           0           0           0           0           0" ∷
    " 1              11 1           1           0           0           0           0           0           0           0" ∷
    " 1              12 1          42           0           0           0           0           0           0           0" ∷
    " 1               2 3           0           0           0           0           0           0           0           0" ∷
    " 1               2 2           0           0           0           0           0           0           0           0" ∷
    " 1               2 4           0           0           0           0           0           0           0           0" ∷
    " 1               2 3           0           0           0           0           0           0           0           0" ∷
    " 1               2 3           0           0           0           0           0           0           0           0" ∷
    " 1               2 4           0           0           0           0           0           0           0           0" ∷
    []

abbrev every_screens : List String
every_screens =
    "   0   1 0 0           0           0           0           0           0           0           0           0   3" ∷
    "              11 1 2 0 0 0 0 0 0 0" ∷
    "              12 1 3 0 0 0 0 0 0 0" ∷
    "               2 1 1 0 0 0 0 0 0 0" ∷
    "   9   0 0 0           0           0           0           0           0           0           0           0   3" ∷
    "              11 1 2 0 0 0 0 0 0 0" ∷
    "              12 1 3 0 0 0 0 0 0 0" ∷
    "               2 1 1 0 0 0 0 0 0 0" ∷
    "   0   1 0 0           0           0           0           0           0           0           0           0   4" ∷
    "              11 1 2 0 0 0 0 0 0 0" ∷
    "              12 1 3 0 0 0 0 0 0 0" ∷
    "               2 1 1 0 0 0 0 0 0 0" ∷
    "               2 2 0 0 0 0 0 0 0 0" ∷
    "   9   0 0 0           0           0           0           0           0           0           0           0   4" ∷
    "              11 1 2 0 0 0 0 0 0 0" ∷
    "              12 1 3 0 0 0 0 0 0 0" ∷
    "               2 1 1 0 0 0 0 0 0 0" ∷
    "               2 2 0 0 0 0 0 0 0 0" ∷
    "   0   1 0 0           0           0           0           0           0           0           0           0   4" ∷
    "              11 1 2 0 0 0 0 0 0 0" ∷
    "              12 1 3 0 0 0 0 0 0 0" ∷
    "               2 1 1 0 0 0 0 0 0 0" ∷
    "               2 2 0 0 0 0 0 0 0 0" ∷
    "   0   1 0 0           0           0           0           0           0           0           0           0   4" ∷
    "              11 1 2 0 0 0 0 0 0 0" ∷
    "              12 1 3 0 0 0 0 0 0 0" ∷
    "               2 1 1 0 0 0 0 0 0 0" ∷
    "               2 2 0 0 0 0 0 0 0 0" ∷
    "   9   0 0 0           0           0           0           0           0           0           0           0   4" ∷
    "              11 1 2 0 0 0 0 0 0 0" ∷
    "              12 1 3 0 0 0 0 0 0 0" ∷
    "               2 1 1 0 0 0 0 0 0 0" ∷
    "               2 2 0 0 0 0 0 0 0 0" ∷
    "   0   1 0 0           0           0           0           0           0           0           0           0   3" ∷
    "              11 1 2 0 0 0 0 0 0 0" ∷
    "              12 1 3 0 0 0 0 0 0 0" ∷
    "               2 3 0 0 0 0 0 0 0 0" ∷
    "   9   0 0 0           0           0           0           0           0           0           0           0   3" ∷
    "              11 1 2 0 0 0 0 0 0 0" ∷
    "              12 1 3 0 0 0 0 0 0 0" ∷
    "               2 3 0 0 0 0 0 0 0 0" ∷
    "   0   1 0 0           0           0           0           0           0           0           0           0   3" ∷
    "              11 1 2 0 0 0 0 0 0 0" ∷
    "              12 1 3 0 0 0 0 0 0 0" ∷
    "               2 4 0 0 0 0 0 0 0 0" ∷
    "   9   0 0 0           0           0           0           0           0           0           0           0   3" ∷
    "              11 1 2 0 0 0 0 0 0 0" ∷
    "              12 1 3 0 0 0 0 0 0 0" ∷
    "               2 4 0 0 0 0 0 0 0 0" ∷
    "   0   1 0 1           1          42           0           0           0           0           0           0   3" ∷
    "              11 1 2 0 0 0 0 0 0 0" ∷
    "              12 1 3 0 0 0 0 0 0 0" ∷
    "               2 1 1 0 0 0 0 0 0 0" ∷
    []

all_agree : agree (
    (p1to4_sheet, p1to4_touches, p1to4_screens) ∷
    (p5_sheet, [], p5_screens) ∷
    (p6_sheet, [], p6_screens) ∷
    (p7_sheet, [], p7_screens) ∷
    (p8_sheet, [], p8_screens) ∷
    (p9_sheet, [], p9_screens) ∷
    (p10_sheet, [], p10_screens) ∷
    (p11_sheet, [], p11_screens) ∷
    (p12_sheet, p12_touches, p12_screens) ∷
    (every_sheet, every_touches, every_screens) ∷
    []) ≡ true
unfolding agree
all_agree = refl

-- P10's cell is row 1: its content is word 2 of the row
p10_cell : get_or (started p10_sheet) (1 * state_words + 2) (pos 0) ≡ pos 7
unfolding started
p10_cell = refl

-- P12's last row is row 3: its tag is 4, and no other word of the state is one
p12_failed : started p12_sheet ≡ replicate (3 * state_words) (pos 0) ++ pos 4 ∷ replicate 15 (pos 0)
unfolding started
p12_failed = refl
