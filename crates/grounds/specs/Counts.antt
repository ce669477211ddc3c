-- The counts of ground 6 by the code's enum, and what their table holds. Rests on rows, and on the declarations of src/small.rt.
-- For contracts only: tied to rows' `row_small` by `all_small` (proofs/Ground6).
use Rattle.std.specs.Prelude.{◌≡◌, Bool, List, map, ℕ, suc, leb, get_or, take}
use Rattle.tophat.specs.Syntax.{max_leaves}
use Rattle.rows.specs.Kinds.{Asks}
use Rattle.rows.specs.Enclosing.{max_binders, max_marks, most_binders, most_marks, leaves_by, counts}
use Rattle.grounds.specs.declared.small.Counted.{Counted}
use Rattle.grounds.specs.declared.small.Counted.TheVariants.{Leaves, Binders, Marks}
use Rattle.grounds.specs.Tables.{stop}

abbrev pub count_by : Counted → Asks → ℕ → ℕ → ℕ → ℕ
count_by Leaves = leaves_by
count_by Binders = most_binders
count_by Marks = most_marks

abbrev pub most_of : Counted → ℕ
most_of Leaves = max_leaves
most_of Binders = max_binders
most_of Marks = max_marks

-- the count of row i
abbrev pub count_of : Counted → List ℕ → ℕ → ℕ
count_of w rs i = get_or (counts (count_by w) rs (suc i)) i 0

unfoldable pub few_at : Counted → List ℕ → ℕ → Bool
few_at w rs i = leb (count_of w rs i) (most_of w)

-- the table holds the counts of the rows below i, each stopped one past the limit
abbrev pub CountsTo : Counted → List ℕ → List ℕ → ℕ → Type 0
CountsTo w rs table i = take i table ≡ map (stop (suc (most_of w))) (counts (count_by w) rs i)
