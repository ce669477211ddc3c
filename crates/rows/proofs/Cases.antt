-- The grounds of some rows, computed: 01's session and the edges of 01 that rows can have, at least three for each ground; and each operator
-- by its number: what it reads as, what it is on, and what it gives. Rests on Ground, and on the calculus' evaluation.
use mathlib.Core.Path.{◌≡◌, refl}
use mathlib.Core.Bool.{Bool, true, false, ◌&&◌}
use mathlib.Core.Option.{Option, some, bind}
use mathlib.Core.List.{List, [], ◌∷◌, ◌++◌, map}
use Prim.Native.Nat.{ℕ, zero, suc, ◌+◌, ◌*◌}
use native.Mathlib.Decide.{dec_le}
use lib.Dec.{eqb}
use lib.IntN.{pos, negsuc}
use lib.ListN.{length}
use Rattle.word.specs.Word.{is_word}
use Rattle.tophat.specs.Syntax.{leaves, sum, difference, product, less, less_equal, equal, and_op, or_op, Val, vtruth, vnumber}
use Rattle.tophat.proofs.ComputeTyping.{ask, nth, takes, gives, number_to, op_to, same_to, if_to, type_to, first_to, second_to, assign_to, infer, infer_task}
use Rattle.tophat.proofs.ComputeEvaluation.{leaf, is_true, kept, exact, apply, eval}
use Rattle.tophat.specs.Roles.{is_role}
use Rattle.rows.specs.Kinds.{kind_of, asks_of}
use Rattle.rows.specs.Rows.{every, listed_as, listed, truth_cell, row_listed, sort_by, sorts, sort_number, sorted_as, sorted, row_sorted, names, names_by, names_in, namings, named_once, last_fits}
use Rattle.rows.specs.Enclosing.{binders_by, marks_by, most_binders, most_marks, counts, leaves_by, row_small}
use Rattle.rows.specs.Trees.{operator_of}
use Rattle.rows.specs.ComputeTrees.{type_at, exp_at, code_at, cell_type, cell_types}
use Rattle.rows.specs.Ground.{flow_type, is_some, passes3, passes4, passes5, passes6, passes7, ground_of_rows}

-- kind, A, B, C
abbrev Row : Type 0
Row = ℕ × ℕ × ℕ × ℕ

abbrev words_of : List Row → List ℕ
words_of [] = []
words_of (r ∷ rs) = r.0 ∷ r.1 ∷ r.2 ∷ r.3 ∷ words_of rs

-- n binders around a row, and n rows of kind k, each the B of the next
abbrev binders : ℕ → List Row
binders zero = (22, 1, 0, 0) ∷ []
binders (suc n) = binders n ++ (22, 1, 0, 0) ∷ (31, 2 * n + 1, 2 * n, 0) ∷ []

abbrev around : ℕ → ℕ → List Row
around k zero = (1, 0, 0, 0) ∷ (45, 0, 0, 0) ∷ []
around k (suc n) = around k n ++ (45, 0, 0, 0) ∷ (k, 2 * n + 2, 2 * n + 1, 0) ∷ []

-- the same around a shown unit
abbrev around_shown : ℕ → ℕ → List Row
around_shown k zero = (1, 0, 0, 0) ∷ (20, 0, 0, 0) ∷ (49, 1, 0, 0) ∷ []
around_shown k (suc n) = around_shown k n ++ (45, 0, 0, 0) ∷ (k, 2 * n + 3, 2 * n + 2, 0) ∷ []

-- n rows of kind 50 around a row (CR 6)
abbrev gates : ℕ → List Row
gates zero = (1, 0, 0, 0) ∷ (45, 0, 0, 0) ∷ []
gates (suc n) = gates n ++ (50, 1, n + 1, 9) ∷ []

-- types of 1, 2, 4 and 8 leaves
abbrev eight_leaves : List Row
eight_leaves = (3, 0, 0, 0) ∷ (4, 0, 0, 0) ∷ (4, 1, 1, 0) ∷ (4, 2, 2, 0) ∷ []

-- a ground, and rows that get it
abbrev cases : List (ℕ × List Row)
cases =
    (0, (3, 0, 0, 0) ∷ (41, 0, 0, 0) ∷ (23, 0, 0, 0) ∷ (22, 9, 0, 0) ∷ (24, 5, 2, 3) ∷ (23, 0, 0, 0) ∷ (22, 30, 0, 0) ∷ (24, 3, 5, 6) ∷ (40, 7, 0, 0) ∷ (45, 0, 0, 0) ∷ (25, 4, 8, 9) ∷ (43, 1, 10, 0) ∷ []) ∷  -- 01's session
    (3, (22, 1, 0, 0) ∷ (39, 0, 0, 0) ∷ []) ∷  -- a kind not listed
    (3, (22, 1, 0, 0) ∷ (22, 1, 0, 0) ∷ (24, 9, 0, 1) ∷ (40, 2, 0, 0) ∷ []) ∷  -- an operator not listed
    (3, (21, 2, 0, 0) ∷ (40, 0, 0, 0) ∷ []) ∷  -- a truth of 2
    (3, (22, 1, 7, 0) ∷ (40, 0, 0, 0) ∷ []) ∷  -- an unused operand
    (3, (2, 0, 0, 0) ∷ (10, 0, 2, 0) ∷ (42, 1, 0, 0) ∷ []) ∷  -- a truth cell that starts with 2
    (0, (3, 0, 0, 0) ∷ (10, 0, 2, 0) ∷ (42, 1, 0, 0) ∷ []) ∷  -- a number cell that starts with 2
    (3, (22, 1, 0, 0) ∷ (51, 0, 0, 0) ∷ []) ∷  -- a kind past the table
    (0, (22, 1, 0, 0) ∷ (49, 0, 0, 0) ∷ []) ∷  -- a shown value
    (3, (22, 1, 0, 0) ∷ (49, 0, 1, 0) ∷ []) ∷  -- a shown value with a B
    (4, (22, 1, 0, 0) ∷ (40, 0, 0, 0) ∷ (49, 1, 0, 0) ∷ []) ∷  -- a shown task
    (0, (3, 0, 0, 0) ∷ (41, 0, 0, 0) ∷ (50, 2, 1, 1) ∷ []) ∷  -- CR 6: a task for role 2, one touch
    (0, (3, 0, 0, 0) ∷ (41, 0, 0, 0) ∷ (50, 8, 1, 99) ∷ []) ∷  -- the last role, the most touches
    (0, (3, 0, 0, 0) ∷ (41, 0, 0, 0) ∷ (50, 1, 1, 0) ∷ (50, 2, 2, 0) ∷ []) ∷  -- no touch, and a role around another
    (3, (3, 0, 0, 0) ∷ (41, 0, 0, 0) ∷ (50, 0, 1, 1) ∷ []) ∷  -- role 0
    (3, (3, 0, 0, 0) ∷ (41, 0, 0, 0) ∷ (50, 9, 1, 1) ∷ []) ∷  -- role 9
    (3, (3, 0, 0, 0) ∷ (41, 0, 0, 0) ∷ (50, 4294967295, 1, 1) ∷ []) ∷  -- role -1
    (3, (3, 0, 0, 0) ∷ (41, 0, 0, 0) ∷ (50, 1, 1, 100) ∷ []) ∷  -- 100 touches
    (3, (3, 0, 0, 0) ∷ (41, 0, 0, 0) ∷ (50, 1, 1, 4294967295) ∷ []) ∷  -- touches below 0
    (4, (22, 1, 0, 0) ∷ (50, 1, 0, 1) ∷ []) ∷  -- a role's plain row
    (4, (22, 1, 0, 0) ∷ (40, 1, 0, 0) ∷ []) ∷  -- an operand that is the row itself
    (4, (22, 1, 0, 0) ∷ (40, 4294967295, 0, 0) ∷ []) ∷  -- a negative operand
    (4, (3, 0, 0, 0) ∷ (40, 0, 0, 0) ∷ []) ∷  -- an editor of a type
    (4, (1, 0, 0, 0) ∷ (10, 0, 0, 0) ∷ (42, 1, 0, 0) ∷ []) ∷  -- a cell of a unit
    (4, (1, 0, 0, 0) ∷ (21, 1, 0, 0) ∷ (45, 0, 0, 0) ∷ (20, 0, 0, 0) ∷ (25, 1, 2, 3) ∷ []) ∷  -- a 25 of a task and a plain row
    (5, (22, 1, 0, 0) ∷ (26, 0, 0, 0) ∷ (40, 1, 0, 0) ∷ []) ∷  -- a row named twice
    (5, (22, 1, 0, 0) ∷ (22, 2, 0, 0) ∷ (40, 0, 0, 0) ∷ []) ∷  -- a row never named
    (0, (3, 0, 0, 0) ∷ (45, 0, 0, 0) ∷ (45, 0, 0, 0) ∷ (48, 1, 2, 0) ∷ []) ∷  -- a type named twice
    (5, (22, 1, 0, 0) ∷ (22, 2, 0, 0) ∷ (24, 1, 0, 1) ∷ []) ∷  -- the last row plain, of kind 24
    (5, (3, 0, 0, 0) ∷ []) ∷  -- the last row a type
    (0, eight_leaves ++ (41, 3, 0, 0) ∷ []) ∷  -- a type of 8 leaves
    (6, eight_leaves ++ (4, 3, 0, 0) ∷ (41, 4, 0, 0) ∷ []) ∷  -- a type of 9 leaves
    (6, eight_leaves ++ (4, 3, 0, 0) ∷ (41, 0, 0, 0) ∷ []) ∷  -- one that no row names
    (7, (22, 1, 0, 0) ∷ (21, 1, 0, 0) ∷ (24, 1, 0, 1) ∷ (40, 2, 0, 0) ∷ []) ∷  -- a sum of a truth
    (7, (23, 0, 0, 0) ∷ (40, 0, 0, 0) ∷ []) ∷  -- a 23 that reaches no binder
    (7, (22, 1, 0, 0) ∷ (22, 2, 0, 0) ∷ (31, 0, 1, 0) ∷ []) ∷  -- the last row plain, of kind 31
    (7, (1, 0, 0, 0) ∷ (3, 0, 0, 0) ∷ (45, 0, 0, 0) ∷ (45, 1, 0, 0) ∷ (47, 2, 3, 0) ∷ []) ∷  -- choices of two types
    (0, eight_leaves ++ (41, 2, 0, 0) ∷ (41, 2, 0, 0) ∷ (46, 4, 5, 0) ∷ []) ∷  -- 46 of 4 and 4 leaves
    (7, eight_leaves ++ (41, 3, 0, 0) ∷ (41, 0, 0, 0) ∷ (46, 4, 5, 0) ∷ []) ∷  -- 46 over 8 leaves
    (0, eight_leaves ++ (41, 2, 0, 0) ∷ (23, 0, 0, 0) ∷ (23, 0, 0, 0) ∷ (26, 5, 6, 0) ∷ (40, 7, 0, 0) ∷ (43, 4, 8, 0) ∷ []) ∷  -- 26 of 4 and 4 leaves
    (7, eight_leaves ++ (41, 3, 0, 0) ∷ (23, 0, 0, 0) ∷ (22, 1, 0, 0) ∷ (26, 5, 6, 0) ∷ (40, 7, 0, 0) ∷ (43, 4, 8, 0) ∷ []) ∷  -- 26 over 8 leaves
    (0, binders 16 ++ (40, 32, 0, 0) ∷ []) ∷  -- 16 binders
    (6, binders 17 ++ (40, 34, 0, 0) ∷ []) ∷  -- 17 binders
    (0, around 47 16) ∷  -- 16 marks
    (6, around 47 17) ∷  -- 17 marks
    (6, around 46 17) ∷  -- 17 marks
    (0, around 48 17) ∷  -- 48 is no mark
    (0, around_shown 47 16) ∷  -- 16 marks around a shown value and what it shows: 49 is no mark
    (6, around_shown 47 17) ∷  -- 17 marks around a shown value
    (0, gates 17) ∷  -- CR 6: 50 is no mark and no binder
    (0, around 43 16) ∷  -- 16 binders, of steps
    (6, around 43 17) ∷  -- 17 binders, of steps
    (6, around 44 17) ∷  -- 17 binders, of steps that wait
    []

-- the ground of rows, with all that is unfolded on the way
unfoldable pub ground_of : List Row → ℕ
unfolding
    ground_of_rows passes3 passes4 passes5 passes6 passes7 flow_type is_some every row_listed listed listed_as is_role truth_cell row_sorted sorts sort_by
    sorted sorted_as sort_number named_once namings names_in names_by names last_fits row_small counts leaves_by most_binders most_marks binders_by marks_by
    kind_of asks_of operator_of code_at exp_at type_at cell_types cell_type bind infer_task infer nth ask op_to if_to same_to type_to number_to takes gives first_to
    second_to assign_to leaves dec_le
ground_of rs = ground_of_rows (words_of rs) (length rs)

abbrev met : List (ℕ × List Row) → Bool
met [] = true
met (c ∷ cs) = eqb (ground_of c.1) c.0 && met cs

pub all_met : met cases ≡ true
unfolding ground_of
all_met = refl

-- ---- operators: 01's "1 sum, 2 difference, 3 product, 4 less, 5 less or equal, 6 equal (all on numbers), 7 and, 8 or (on truths, ..)"

-- an operator on two rows of this kind with these A
abbrev operation : ℕ → ℕ → ℕ → ℕ → List Row
operation o k x y = (k, x, 0, 0) ∷ (k, y, 0, 0) ∷ (24, o, 0, 1) ∷ []

-- which operator each number is
pub operators_named : map operator_of (1 ∷ 2 ∷ 3 ∷ 4 ∷ 5 ∷ 6 ∷ 7 ∷ 8 ∷ []) ≡ (sum ∷ difference ∷ product ∷ less ∷ less_equal ∷ equal ∷ and_op ∷ or_op ∷ [])
unfolding operator_of
operators_named = refl

-- the ground of an editor of operator o on two numbers, and on two truths
abbrev grounds_on : ℕ → ℕ × ℕ
grounds_on o = (ground_of (operation o 22 1 1 ++ (40, 2, 0, 0) ∷ []), ground_of (operation o 21 1 1 ++ (40, 2, 0, 0) ∷ []))

-- 0 and 9 are none; 1 to 6 are on numbers, 7 and 8 on truths
pub operators_typed : map grounds_on (0 ∷ 1 ∷ 2 ∷ 3 ∷ 4 ∷ 5 ∷ 6 ∷ 7 ∷ 8 ∷ 9 ∷ [])
    ≡ ((3, 3) ∷ (0, 7) ∷ (0, 7) ∷ (0, 7) ∷ (0, 7) ∷ (0, 7) ∷ (0, 7) ∷ (7, 0) ∷ (7, 0) ∷ (3, 3) ∷ [])
unfolding ground_of
operators_typed = refl

-- operator, kind of both operands, their A, and the value
abbrev results : List (ℕ × ℕ × ℕ × ℕ × Val)
results =
    (1, 22, 2, 3, vnumber (pos 5)) ∷
    (2, 22, 2, 3, vnumber (negsuc 0)) ∷
    (3, 22, 2, 3, vnumber (pos 6)) ∷
    (4, 22, 1, 1, vtruth false) ∷
    (4, 22, 1, 2, vtruth true) ∷
    (4, 22, 2, 1, vtruth false) ∷
    (4, 22, 4294967295, 0, vtruth true) ∷  -- -1 and 0
    (5, 22, 1, 1, vtruth true) ∷
    (5, 22, 1, 2, vtruth true) ∷
    (5, 22, 2, 1, vtruth false) ∷
    (5, 22, 0, 4294967295, vtruth false) ∷  -- 0 and -1
    (6, 22, 1, 1, vtruth true) ∷
    (6, 22, 1, 2, vtruth false) ∷
    (6, 22, 2, 1, vtruth false) ∷
    (7, 21, 0, 0, vtruth false) ∷
    (7, 21, 0, 1, vtruth false) ∷
    (7, 21, 1, 0, vtruth false) ∷
    (7, 21, 1, 1, vtruth true) ∷
    (8, 21, 0, 0, vtruth false) ∷
    (8, 21, 0, 1, vtruth true) ∷
    (8, 21, 1, 0, vtruth true) ∷
    (8, 21, 1, 1, vtruth true) ∷
    []

abbrev value_of : ℕ → ℕ → ℕ → ℕ → Option Val
value_of o k x y = bind (exp_at (words_of (operation o k x y)) 3 2) λ e. some (eval e [] []).0

pub operators_valued : map (λ (o, k, x, y, v). value_of o k x y) results ≡ map (λ (o, k, x, y, v). some v) results
unfolding exp_at bind kind_of operator_of eval apply exact kept is_word is_true leaf
operators_valued = refl
