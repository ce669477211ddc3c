-- CR 4's cases as one computed check from the sheet's text and the events' bytes to the bytes printed: types of 8 and of 7 leaves; the
-- figures that CR 4 gives; and the words of a state of four leaves. Rests on Sessions.
use mathlib.Core.Path.{◌≡◌, refl}
use mathlib.Core.Bool.{true}
use mathlib.Core.List.{List, [], ◌∷◌, ◌++◌}
use Prim.Native.Nat.{◌*◌}
use Prim.Native.String.{String}
use lib.IntN.{pos}
use lib.ListN.{replicate}
use Rattle.tophat.specs.Syntax.{max_leaves}
use Rattle.shape.specs.Digits.{max_digits}
use Rattle.formats.specs.Touches.{event_bytes, entry_bytes}
use Rattle.formats.specs.Heads.{head_bytes}
use Rattle.state.specs.Layout.{state_words}
use Rattle.state.specs.Holds.{value_length}
use Rattle.screens.specs.Screens.{screen_bytes}
use Rattle.screens.proofs.Sessions.{started, agree}

-- ---- the figures

-- "Values are 8 words, .. entries 35, head lines 112 and byte 10. State memory keeps 16 words a row." CR 6: events "are 117 bytes". What follows
-- from them: a value has a word more in a state, for its shape, whose digits are at most 15; and a screen is a head line and at most 256 entries
figures : (max_leaves ∷ event_bytes ∷ entry_bytes ∷ head_bytes ∷ state_words ∷ value_length ∷ max_digits ∷ screen_bytes ∷ [])
    ≡ (8 ∷ 117 ∷ 35 ∷ 113 ∷ 16 ∷ 9 ∷ 15 ∷ 9073 ∷ [])
figures = refl

-- ---- an editor of 8 leaves of all kinds, then one with its halves exchanged. Leaf 8 left blank is refused, and so is a unit that is not 0; all
-- 8 are taken, and the step passes them on; then leaf 8 alone is changed; then an event of four leaves, 69 bytes, cannot be read
abbrev eight_sheet : List String
eight_sheet =
    "   0   1                                    " ∷
    "   1   2                                    " ∷
    "   2   3                                    " ∷
    "   3   4           2           1            " ∷
    "   4   4           3           0            " ∷
    "   5   4           4           2            " ∷
    "   6   4           5           5            " ∷
    "   7  41           6                        " ∷
    "   8  23           0                        " ∷
    "   9  28           8                        " ∷
    "  10  23           0                        " ∷
    "  11  27          10                        " ∷
    "  12  26           9          11            " ∷
    "  13  40          12                        " ∷
    "  14  43           7          13            " ∷
    []

abbrev eight_touches : List String
eight_touches =
    " 1               0 1          11           1           0          14          15           0           0            " ∷
    " 1               0 1          11           1           0          14          15           0           5          18" ∷
    " 1               0 1          11           1           0          14          15           0           0         -18" ∷
    " 1               0 1           0           0           0           0           0           0           0           8" ∷
    " 1               0 1           0           0           0           0" ∷
    []

abbrev eight_screens : List String
eight_screens =
    "   0   1 0 0           0           0           0           0           0           0           0           0   1" ∷
    "               0 1 3 2 1 3 3 2 1 3" ∷
    "   9   0 0 0           0           0           0           0           0           0           0           0   1" ∷
    "               0 1 3 2 1 3 3 2 1 3" ∷
    "   9   0 0 0           0           0           0           0           0           0           0           0   1" ∷
    "               0 1 3 2 1 3 3 2 1 3" ∷
    "   0   2 0 1          15           0           0         -18          11           1           0          14   1" ∷
    "               0 1 3 2 1 3 3 2 1 3" ∷
    "   0   1 0 1           0           0           0           0           0           0           0           8   1" ∷
    "               0 1 3 2 1 3 3 2 1 3" ∷
    "   8   0 0 1           0           0           0           0           0           0           0           8   1" ∷
    "               0 1 3 2 1 3 3 2 1 3" ∷
    []

-- ---- a proof order: format, paper, copies, border and three casts, then Continue to the price of the copies, shown. Leaf 8 is no leaf of the order:
-- 1 is refused, a blank is as 0; at Continue, 7 there cannot be read
abbrev order_sheet : List String
order_sheet =
    "   0   2                                    " ∷
    "   1   3                                    " ∷
    "   2   4           1           1            " ∷
    "   3   4           2           1            " ∷
    "   4   4           3           0            " ∷
    "   5   4           4           3            " ∷
    "   6  41           5                        " ∷
    "   7  23           0                        " ∷
    "   8  27           7                        " ∷
    "   9  27           8                        " ∷
    "  10  28           9                        " ∷
    "  11  22          30                        " ∷
    "  12  24           3          10          11" ∷
    "  13  49          12                        " ∷
    "  14  44           6          13            " ∷
    []

abbrev order_touches : List String
order_touches =
    " 1               0 1           2           1           3           1           4           5           6           1" ∷
    " 1               0 1           2           1           3           1           4           5           6            " ∷
    " 1               0 2           0           0           0           0           0           0           0           7" ∷
    " 1               0 2           0           0           0           0           0           0           0           0" ∷
    []

abbrev order_screens : List String
order_screens =
    "   0   1 0 0           0           0           0           0           0           0           0           0   1" ∷
    "               0 1 3 3 3 2 3 3 3 0" ∷
    "   9   0 0 0           0           0           0           0           0           0           0           0   1" ∷
    "               0 1 3 3 3 2 3 3 3 0" ∷
    "   0   1 0 0           0           0           0           0           0           0           0           0   2" ∷
    "               0 1 3 3 3 2 3 3 3 0" ∷
    "               0 2 0 0 0 0 0 0 0 0" ∷
    "   8   0 0 0           0           0           0           0           0           0           0           0   2" ∷
    "               0 1 3 3 3 2 3 3 3 0" ∷
    "               0 2 0 0 0 0 0 0 0 0" ∷
    "   0   1 0 1          90           0           0           0           0           0           0           0   0" ∷
    []

-- ---- a value of four leaves, and the words of its state, which are those that it had before CR 4: in the last row tag 1, the shape of
-- ((number, truth), (unit, number)) and the leaves

abbrev four_sheet : List String
four_sheet =
    "   0  22          11                        " ∷
    "   1  21           1                        " ∷
    "   2  20                                    " ∷
    "   3  22          14                        " ∷
    "   4  26           0           1            " ∷
    "   5  26           2           3            " ∷
    "   6  26           4           5            " ∷
    "   7  40           6                        " ∷
    []

four_words : started four_sheet ≡ replicate (7 * state_words) (pos 0) ++ pos 1 ∷ pos 13488 ∷ pos 11 ∷ pos 1 ∷ pos 0 ∷ pos 14 ∷ replicate 10 (pos 0)
unfolding started
four_words = refl

all_agree : agree (
    (eight_sheet, eight_touches, eight_screens) ∷
    (order_sheet, order_touches, order_screens) ∷
    []) ≡ true
unfolding agree
all_agree = refl
