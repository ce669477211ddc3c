-- The order of evaluation and the stores that it carries, a session each, as computed checks from text to text: where a rule could be read
-- another way and every law would hold as well. Rests on Sessions.
use mathlib.Core.Path.{◌≡◌, refl}
use mathlib.Core.Bool.{true}
use mathlib.Core.List.{List, [], ◌∷◌}
use Prim.Native.String.{String}
use Rattle.screens.proofs.Sessions.{agree}

-- cell 0; pair, sum and both are evaluated left to right, and and/or on both sides
abbrev order_sheet : List String
order_sheet =
    "   0   3           0           0           0" ∷
    "   1  10           0           0           0" ∷
    "   2  22           1           0           0" ∷
    "   3  30           1           2           0" ∷
    "   4  22           5           0           0" ∷
    "   5  31           3           4           0" ∷
    "   6  29           1           0           0" ∷
    "   7  26           5           6           0" ∷
    "   8  40           7           0           0" ∷
    "   9  22           2           0           0" ∷
    "  10  30           1           9           0" ∷
    "  11  22           5           0           0" ∷
    "  12  31          10          11           0" ∷
    "  13  29           1           0           0" ∷
    "  14  24           1          12          13" ∷
    "  15  40          14           0           0" ∷
    "  16  21           0           0           0" ∷
    "  17  22           3           0           0" ∷
    "  18  30           1          17           0" ∷
    "  19  21           1           0           0" ∷
    "  20  31          18          19           0" ∷
    "  21  24           7          16          20" ∷
    "  22  29           1           0           0" ∷
    "  23  26          21          22           0" ∷
    "  24  40          23           0           0" ∷
    "  25  46          15          24           0" ∷
    "  26  46           8          25           0" ∷
    []

abbrev order_screens : List String
order_screens =
    "   0   1 0 1           5           1           7           0           3           0           0           0   3" ∷
    "               1 1 3 3 0 0 0 0 0 0" ∷
    "              21 1 3 0 0 0 0 0 0 0" ∷
    "              22 1 2 3 0 0 0 0 0 0" ∷
    []

-- cell 0; a condition and a binding carry the store; the side not taken writes nothing
abbrev stores_sheet : List String
stores_sheet =
    "   0   3           0           0           0" ∷
    "   1  10           0           0           0" ∷
    "   2  22           1           0           0" ∷
    "   3  30           1           2           0" ∷
    "   4  21           1           0           0" ∷
    "   5  31           3           4           0" ∷
    "   6  29           1           0           0" ∷
    "   7  22           9           0           0" ∷
    "   8  30           1           7           0" ∷
    "   9  22           0           0           0" ∷
    "  10  31           8           9           0" ∷
    "  11  25           5           6          10" ∷
    "  12  40          11           0           0" ∷
    "  13  29           1           0           0" ∷
    "  14  40          13           0           0" ∷
    "  15  46          12          14           0" ∷
    []

abbrev stores_screens : List String
stores_screens =
    "   0   1 0 1           1           1           0           0           0           0           0           0   2" ∷
    "               1 1 3 0 0 0 0 0 0 0" ∷
    "               2 1 3 0 0 0 0 0 0 0" ∷
    []

-- cells 0 and 0; a write goes into the store that its B left: 7 and 5
abbrev write_after_sheet : List String
write_after_sheet =
    "   0   3           0           0           0" ∷
    "   1  10           0           0           0" ∷
    "   2  10           0           0           0" ∷
    "   3  22           5           0           0" ∷
    "   4  30           2           3           0" ∷
    "   5  22           7           0           0" ∷
    "   6  31           4           5           0" ∷
    "   7  30           1           6           0" ∷
    "   8  29           1           0           0" ∷
    "   9  29           2           0           0" ∷
    "  10  26           8           9           0" ∷
    "  11  31           7          10           0" ∷
    "  12  40          11           0           0" ∷
    []

abbrev write_after_screens : List String
write_after_screens =
    "   0   1 0 1           7           5           0           0           0           0           0           0   1" ∷
    "               0 1 3 3 0 0 0 0 0 0" ∷
    []

-- cell 0; Continue keeps what B wrote
abbrev continue_writes_sheet : List String
continue_writes_sheet =
    "   0   3           0           0           0" ∷
    "   1  10           0           0           0" ∷
    "   2  22           6           0           0" ∷
    "   3  40           2           0           0" ∷
    "   4  23           0           0           0" ∷
    "   5  30           1           4           0" ∷
    "   6  42           1           0           0" ∷
    "   7  31           5           6           0" ∷
    "   8  44           3           7           0" ∷
    []

abbrev continue_writes_touches : List String
continue_writes_touches =
    " 1               0 2           0           0           0           0           0           0           0           0" ∷
    []

abbrev continue_writes_screens : List String
continue_writes_screens =
    "   0   1 0 0           0           0           0           0           0           0           0           0   2" ∷
    "               0 1 3 0 0 0 0 0 0 0" ∷
    "               0 2 0 0 0 0 0 0 0 0" ∷
    "   0   1 0 1           6           0           0           0           0           0           0           0   1" ∷
    "               0 1 3 0 0 0 0 0 0 0" ∷
    []

-- cell 0; the left of a 47 has a value, so the right is not strided and writes nothing
abbrev c47_left_sheet : List String
c47_left_sheet =
    "   0   3           0           0           0" ∷
    "   1  10           0           0           0" ∷
    "   2  22           1           0           0" ∷
    "   3  40           2           0           0" ∷
    "   4  22           1           0           0" ∷
    "   5  40           4           0           0" ∷
    "   6  22           5           0           0" ∷
    "   7  30           1           6           0" ∷
    "   8  22           2           0           0" ∷
    "   9  40           8           0           0" ∷
    "  10  31           7           9           0" ∷
    "  11  43           5          10           0" ∷
    "  12  47           3          11           0" ∷
    "  13  42           1           0           0" ∷
    "  14  46          12          13           0" ∷
    []

abbrev c47_left_screens : List String
c47_left_screens =
    "   0   2 0 1           1           0           0           0           0           0           0           0   2" ∷
    "               1 1 3 0 0 0 0 0 0 0" ∷
    "               2 1 3 0 0 0 0 0 0 0" ∷
    []

-- cell 0; the right of a 46 strides from the left one's store: value (2, 1)
abbrev c46_store_sheet : List String
c46_store_sheet =
    "   0   3           0           0           0" ∷
    "   1  10           0           0           0" ∷
    "   2  22           1           0           0" ∷
    "   3  40           2           0           0" ∷
    "   4  22           1           0           0" ∷
    "   5  30           1           4           0" ∷
    "   6  22           2           0           0" ∷
    "   7  40           6           0           0" ∷
    "   8  31           5           7           0" ∷
    "   9  43           3           8           0" ∷
    "  10  42           1           0           0" ∷
    "  11  23           0           0           0" ∷
    "  12  40          11           0           0" ∷
    "  13  43          10          12           0" ∷
    "  14  46           9          13           0" ∷
    []

abbrev c46_store_screens : List String
c46_store_screens =
    "   0   2 0 1           2           1           0           0           0           0           0           0   2" ∷
    "               1 1 3 0 0 0 0 0 0 0" ∷
    "               2 1 3 0 0 0 0 0 0 0" ∷
    []

-- cell 0; whether B fails is asked in the store that B left
abbrev fails_after_sheet : List String
fails_after_sheet =
    "   0   3           0           0           0" ∷
    "   1  10           0           0           0" ∷
    "   2  22           1           0           0" ∷
    "   3  40           2           0           0" ∷
    "   4  22           1           0           0" ∷
    "   5  30           1           4           0" ∷
    "   6  29           1           0           0" ∷
    "   7  22           1           0           0" ∷
    "   8  24           6           6           7" ∷
    "   9  22           7           0           0" ∷
    "  10  40           9           0           0" ∷
    "  11   3           0           0           0" ∷
    "  12  45          11           0           0" ∷
    "  13  25           8          10          12" ∷
    "  14   3           0           0           0" ∷
    "  15  45          14           0           0" ∷
    "  16  48          13          15           0" ∷
    "  17  31           5          16           0" ∷
    "  18  43           3          17           0" ∷
    []

abbrev fails_after_screens : List String
fails_after_screens =
    "   0   2 0 0           0           0           0           0           0           0           0           0   1" ∷
    "               0 3 0 0 0 0 0 0 0 0" ∷
    []

-- cell 0; both branches of a 48 start from the present store: Right alone, and not failing
abbrev c48_store_sheet : List String
c48_store_sheet =
    "   0   3           0           0           0" ∷
    "   1  10           0           0           0" ∷
    "   2  22           1           0           0" ∷
    "   3  30           1           2           0" ∷
    "   4   3           0           0           0" ∷
    "   5  45           4           0           0" ∷
    "   6  31           3           5           0" ∷
    "   7  29           1           0           0" ∷
    "   8  22           0           0           0" ∷
    "   9  24           6           7           8" ∷
    "  10  22           2           0           0" ∷
    "  11  40          10           0           0" ∷
    "  12   3           0           0           0" ∷
    "  13  45          12           0           0" ∷
    "  14  25           9          11          13" ∷
    "  15  48           6          14           0" ∷
    []

abbrev c48_store_touches : List String
c48_store_touches =
    " 1               0 4           0           0           0           0           0           0           0           0" ∷
    []

abbrev c48_store_screens : List String
c48_store_screens =
    "   0   1 0 0           0           0           0           0           0           0           0           0   1" ∷
    "               0 4 0 0 0 0 0 0 0 0" ∷
    "   0   1 0 1           2           0           0           0           0           0           0           0   1" ∷
    "               0 1 3 0 0 0 0 0 0 0" ∷
    []

-- cell 0; whether a branch fails is asked in the store that normalising it left: Left is lit
abbrev c48_after_sheet : List String
c48_after_sheet =
    "   0   3           0           0           0" ∷
    "   1  10           0           0           0" ∷
    "   2  22           1           0           0" ∷
    "   3  30           1           2           0" ∷
    "   4  29           1           0           0" ∷
    "   5  22           1           0           0" ∷
    "   6  24           6           4           5" ∷
    "   7  22           7           0           0" ∷
    "   8  40           7           0           0" ∷
    "   9   3           0           0           0" ∷
    "  10  45           9           0           0" ∷
    "  11  25           6           8          10" ∷
    "  12   3           0           0           0" ∷
    "  13  45          12           0           0" ∷
    "  14  48          11          13           0" ∷
    "  15  31           3          14           0" ∷
    "  16   3           0           0           0" ∷
    "  17  45          16           0           0" ∷
    "  18  48          15          17           0" ∷
    []

abbrev c48_after_screens : List String
c48_after_screens =
    "   0   1 0 0           0           0           0           0           0           0           0           0   1" ∷
    "               0 3 0 0 0 0 0 0 0 0" ∷
    []

-- cell 0; the condition of a task carries its store
abbrev c25_task_sheet : List String
c25_task_sheet =
    "   0   3           0           0           0" ∷
    "   1  10           0           0           0" ∷
    "   2  22           1           0           0" ∷
    "   3  30           1           2           0" ∷
    "   4  21           1           0           0" ∷
    "   5  31           3           4           0" ∷
    "   6  29           1           0           0" ∷
    "   7  40           6           0           0" ∷
    "   8   3           0           0           0" ∷
    "   9  45           8           0           0" ∷
    "  10  25           5           7           9" ∷
    []

abbrev c25_task_screens : List String
c25_task_screens =
    "   0   1 0 1           1           0           0           0           0           0           0           0   1" ∷
    "               0 1 3 0 0 0 0 0 0 0" ∷
    []

all_agree : agree (
    (order_sheet, [], order_screens) ∷
    (stores_sheet, [], stores_screens) ∷
    (write_after_sheet, [], write_after_screens) ∷
    (continue_writes_sheet, continue_writes_touches, continue_writes_screens) ∷
    (c47_left_sheet, [], c47_left_screens) ∷
    (c46_store_sheet, [], c46_store_screens) ∷
    (fails_after_sheet, [], fails_after_screens) ∷
    (c48_store_sheet, c48_store_touches, c48_store_screens) ∷
    (c48_after_sheet, [], c48_after_screens) ∷
    (c25_task_sheet, [], c25_task_screens) ∷
    []) ≡ true
unfolding agree
all_agree = refl
