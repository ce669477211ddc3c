-- Ground 6 (01, CR 4): a type row over 8 leaves, or over 16 binders or marks around a row. `Under` says what encloses a row;
-- the counts from below, which compute, are proved to be the most that it allows (proofs/Most). Rests on Rows.
-- Believed down to `Under`. The counts are for contracts only: tied to ground 6 by `small_of` and `of_small` (proofs/Most).
use Rattle.std.specs.Prelude.{◌≡◌, Bool, true, ◌&&◌, ◌||◌, cond, List, [], ◌∷◌, ◌++◌, ℕ, zero, suc, ◌+◌, max, leb, get_or}
pub use Rattle.decimal.specs.Path.{max_marks}
use Rattle.tophat.specs.Syntax.{max_leaves}
use Rattle.rows.specs.Kinds.{Ask, Own, is, as_b, Around, nothing, binder, mark, Asks, asks, no_asks, type_s, basic_s}
use Rattle.rows.specs.Rows.{asks_at, op_a, op_b, op_c, names, same_sort}

-- 01: "At most 16 binders, and at most 16 rows of kind 46 or 47, enclose a row"
abbrev pub max_binders : ℕ
max_binders = 16

-- binders that a kind puts around its B, marks that it puts around its A and B
unfoldable pub binders_by : Around → ℕ
binders_by nothing = 0
binders_by binder = 1
binders_by mark = 0

unfoldable pub marks_by : Around → ℕ
marks_by nothing = 0
marks_by binder = 0
marks_by mark = 1

-- row i is row j, or stands under it with b binders and m marks around it, row j's own included
pub data Under (rs : List ℕ) : ℕ → ℕ → ℕ → ℕ → Type 0 where
  here : {j : ℕ} → Under rs j j 0 0
  in_a : {i j b m : ℕ} {p q r : Ask} {o : Own} {x : Around} → asks_at rs j ≡ asks p q r o x → names p ≡ true
      → Under rs (op_a rs j) i b m → Under rs j i b (marks_by x + m)
  in_b : {i j b m : ℕ} {p q r : Ask} {o : Own} {x : Around} → asks_at rs j ≡ asks p q r o x → names q ≡ true
      → Under rs (op_b rs j) i b m → Under rs j i (binders_by x + b) (marks_by x + m)
  in_c : {i j b m : ℕ} {p q r : Ask} {o : Own} {x : Around} → asks_at rs j ≡ asks p q r o x → names r ≡ true
      → Under rs (op_c rs j) i b m → Under rs j i b m

-- the most under a row, by the most under the rows that its operands name
unfoldable pub most_binders : Asks → ℕ → ℕ → ℕ → ℕ
most_binders (asks p q r o x) a b c = max (cond (names p) a 0) (max (cond (names q) (binders_by x + b) 0) (cond (names r) c 0))
most_binders no_asks a b c = 0

unfoldable pub most_marks : Asks → ℕ → ℕ → ℕ → ℕ
most_marks (asks p q r o x) a b c = max (cond (names p) (marks_by x + a) 0) (max (cond (names q) (marks_by x + b) 0) (cond (names r) c 0))
most_marks no_asks a b c = 0

-- by the same way, for each row below n
module _ (most : Asks → ℕ → ℕ → ℕ → ℕ) (rs : List ℕ) where
  unfoldable pub counts : ℕ → List ℕ
  counts zero = []
  counts (suc i) = let l = counts i in l ++ most (asks_at rs i) (get_or l (op_a rs i) 0) (get_or l (op_b rs i) 0) (get_or l (op_c rs i) 0) ∷ []

-- the leaves of a type row; a row of another sort has none
unfoldable pub leaves_by : Asks → ℕ → ℕ → ℕ → ℕ
leaves_by (asks p q r (is s) x) a b c = cond (same_sort s type_s || same_sort s basic_s) (cond (names p) (a + b) 1) 0
leaves_by (asks p q r as_b x) a b c = 0
leaves_by no_asks a b c = 0

unfoldable pub row_small : List ℕ → ℕ → Bool
row_small rs i =
    leb (get_or (counts leaves_by rs (suc i)) i 0) max_leaves
    && (leb (get_or (counts most_binders rs (suc i)) i 0) max_binders && leb (get_or (counts most_marks rs (suc i)) i 0) max_marks)
