-- Rows of words, four a row (kind, A, B, C), and grounds 3, 4 and 5 over them (01, "Grounds in the input"). A word is given
-- by its bits: a negative one is 2 ^ 31 or more, so it is no kind, no truth, and never a lower row. Rests on Kinds, and on the calculus' roles.
-- Believed, but for `kind_at`, `FromKind`, `UpToKind`, `BelowKind` and, at the end, `LowWords`: for contracts and proofs only.
use Rattle.std.specs.Prelude.{◌≡◌, ℕ, zero, suc, ◌+◌, ◌*◌, ◌<◌, ◌≤◌, Bool, true, false, not, ◌&&◌, ◌||◌, cond, List, [], ◌∷◌, ◌++◌, leb, ltb, eqb, get_or}
use Rattle.std.proofs.Math.Option.{Option}
use Rattle.tophat.specs.Roles.{is_role, max_touches}
use Rattle.rows.specs.Kinds.{Kind, cell_k, type_k, truth_k, plain_k, eunit_k, eop_k, epair_k, eassign_k, either_k, if_k, task_k, then_k, or_k, view_k, kind_of, number_of}
use Rattle.rows.specs.Kinds.{Ask, unused, operator, truth, any_word, a_role, some_touches, a_type, a_basic, a_cell, a_plain, a_task, a_branch, like_b}
use Rattle.rows.specs.Kinds.{Sort, type_s, basic_s, cell_s, plain_s, task_s, no_s, is, as_b, Asks, asks, no_asks, asks_of}

-- 01: "1 to 256 lines"
abbrev pub max_rows : ℕ
max_rows = 256

-- 01: "4 words a row (kind, A, B, C)"
abbrev pub row_words : ℕ
row_words = 4

abbrev pub word : List ℕ → ℕ → ℕ → ℕ
word rs i k = get_or rs (i * row_words + k) 0

-- the kind of row i, and what it asks
abbrev pub kind_at : List ℕ → ℕ → Option Kind
kind_at rs i = kind_of (word rs i 0)

abbrev pub asks_at : List ℕ → ℕ → Asks
asks_at rs i = asks_of (word rs i 0)

-- row i is of kind k, of a kind from k on, of a kind up to k, of a kind below k: by number, as 01 orders kinds
abbrev pub OfKind : List ℕ → ℕ → Kind → Type 0
OfKind rs i k = word rs i 0 ≡ number_of k

abbrev pub FromKind : List ℕ → ℕ → Kind → Type 0
FromKind rs i k = number_of k ≤ word rs i 0

abbrev pub UpToKind : List ℕ → ℕ → Kind → Type 0
UpToKind rs i k = word rs i 0 ≤ number_of k

abbrev pub BelowKind : List ℕ → ℕ → Kind → Type 0
BelowKind rs i k = word rs i 0 < number_of k

-- the same as tests
abbrev pub is_kind : List ℕ → ℕ → Kind → Bool
is_kind rs i k = eqb (word rs i 0) (number_of k)

abbrev pub from_kind : List ℕ → ℕ → Kind → Bool
from_kind rs i k = leb (number_of k) (word rs i 0)

abbrev pub below_kind : List ℕ → ℕ → Kind → Bool
below_kind rs i k = ltb (word rs i 0) (number_of k)

-- 01's "kind 20 or more", expressions and tasks, begins here
abbrev pub first_expression : Kind
first_expression = plain_k eunit_k

abbrev pub op_a : List ℕ → ℕ → ℕ
op_a rs i = word rs i 1

abbrev pub op_b : List ℕ → ℕ → ℕ
op_b rs i = word rs i 2

abbrev pub op_c : List ℕ → ℕ → ℕ
op_c rs i = word rs i 3

-- a test of each row below n
unfoldable pub every : ℕ → (ℕ → Bool) → Bool
every zero p = true
every (suc n) p = every n p && p n

-- ---- ground 3: a kind, operator, truth, role, number of touches or unused operand not as listed

unfoldable pub listed_as : Ask → ℕ → Bool
listed_as unused w = eqb w 0
listed_as operator w = leb 1 w && leb w 8
listed_as truth w = leb w 1
listed_as any_word w = true
listed_as a_role w = is_role w
listed_as some_touches w = leb w max_touches
listed_as a_type w = true
listed_as a_basic w = true
listed_as a_cell w = true
listed_as a_plain w = true
listed_as a_task w = true
listed_as a_branch w = true
listed_as like_b w = true

unfoldable pub listed : Asks → ℕ → ℕ → ℕ → Bool
listed (asks p q r o x) a b c = listed_as p a && (listed_as q b && listed_as r c)
listed no_asks a b c = false

-- 01: "in a cell whose A is a lower row of kind 2"
unfoldable pub truth_cell : List ℕ → ℕ → Bool
truth_cell rs i = cond (is_kind rs i cell_k && (ltb (op_a rs i) i && is_kind rs (op_a rs i) (type_k truth_k))) (leb (op_b rs i) 1) true

unfoldable pub row_listed : List ℕ → ℕ → Bool
row_listed rs i = listed (asks_at rs i) (op_a rs i) (op_b rs i) (op_c rs i) && truth_cell rs i

-- ---- ground 4: an operand not a lower row, or not of the sort asked

unfoldable pub sort_by : Asks → Sort → Sort
sort_by (asks p q r (is s) x) b = s
sort_by (asks p q r as_b x) b = b
sort_by no_asks b = no_s

-- the sorts of the rows below n, the first row first
unfoldable pub sorts : List ℕ → ℕ → List Sort
sorts rs zero = []
sorts rs (suc i) = let l = sorts rs i in l ++ sort_by (asks_at rs i) (get_or l (op_b rs i) no_s) ∷ []

-- the sort of row w, where it is lower than row i
abbrev pub sort_below : List ℕ → ℕ → ℕ → Sort
sort_below rs i w = get_or (sorts rs i) w no_s

unfoldable pub sort_number : Sort → ℕ
sort_number no_s = 0
sort_number type_s = 1
sort_number basic_s = 2
sort_number cell_s = 3
sort_number plain_s = 4
sort_number task_s = 5

abbrev pub same_sort : Sort → Sort → Bool
same_sort s t = eqb (sort_number s) (sort_number t)

-- an operand's sort is the one asked, where B's sort is b
unfoldable pub sorted_as : Ask → Sort → Sort → Bool
sorted_as unused s b = true
sorted_as operator s b = true
sorted_as truth s b = true
sorted_as any_word s b = true
sorted_as a_role s b = true
sorted_as some_touches s b = true
sorted_as a_type s b = same_sort s type_s || same_sort s basic_s
sorted_as a_basic s b = same_sort s basic_s
sorted_as a_cell s b = same_sort s cell_s
sorted_as a_plain s b = same_sort s plain_s
sorted_as a_task s b = same_sort s task_s
sorted_as a_branch s b = same_sort s plain_s || same_sort s task_s
sorted_as like_b s b = same_sort s b

unfoldable pub sorted : Asks → Sort → Sort → Sort → Bool
sorted (asks p q r o x) a b c = sorted_as p a b && (sorted_as q b b && sorted_as r c b)
sorted no_asks a b c = false

unfoldable pub row_sorted : List ℕ → ℕ → Bool
row_sorted rs i = sorted (asks_at rs i) (sort_below rs i (op_a rs i)) (sort_below rs i (op_b rs i)) (sort_below rs i (op_c rs i))

-- ---- ground 5: the naming rule broken, or the last row of a kind below 25 or 26 to 30

-- the operand names a row
unfoldable pub names : Ask → Bool
names unused = false
names operator = false
names truth = false
names any_word = false
names a_role = false
names some_touches = false
names a_type = true
names a_basic = true
names a_cell = true
names a_plain = true
names a_task = true
names a_branch = true
names like_b = true

abbrev pub count : Bool → ℕ
count b = cond b 1 0

-- the operands, of three, that name row i
unfoldable pub names_by : Asks → ℕ → ℕ → ℕ → ℕ → ℕ
names_by (asks p q r o x) a b c i = count (names p && eqb a i) + count (names q && eqb b i) + count (names r && eqb c i)
names_by no_asks a b c i = 0

-- the operands of row j that name row i, where row j is of kind 20 or more
unfoldable pub names_in : List ℕ → ℕ → ℕ → ℕ
names_in rs i j = cond (from_kind rs j first_expression) (names_by (asks_at rs j) (op_a rs j) (op_b rs j) (op_c rs j) i) 0

-- those of the rows below n
unfoldable pub namings : List ℕ → ℕ → ℕ → ℕ
namings rs i zero = 0
namings rs i (suc j) = namings rs i j + names_in rs i j

-- 01: "Every row of kind 20 or more but the last is named exactly once, by an operand of a row of kind 20 or more"
unfoldable pub named_once : List ℕ → ℕ → ℕ → Bool
named_once rs n i = below_kind rs i first_expression || (eqb (suc i) n || eqb (namings rs i n) 1)

-- not "of a kind below 25 or 26 to 30"
abbrev pub fits_last : ℕ → Bool
fits_last w = leb (number_of (either_k if_k)) w && not (leb (number_of (plain_k epair_k)) w && leb w (number_of (plain_k eassign_k)))

unfoldable pub last_fits : List ℕ → ℕ → Bool
last_fits rs i = fits_last (word rs i 0)

-- ---- what bounds the strides of a call

-- the rows of kind 43 and 47 below n
unfoldable pub movers : List ℕ → ℕ → ℕ
movers rs zero = 0
movers rs (suc i) = movers rs i + count (is_kind rs i (task_k then_k) || is_kind rs i (task_k or_k))

-- ---- operands that code may follow before it knows what they are

-- every operand word of a row of kind 25 to 49 is below its row, whether it names a row or is unused; of kind 24, B and C are, of kind 50 B
pub record LowWords (rs : List ℕ) (i : ℕ) : Type 0 where
  pub low_a : FromKind rs i (either_k if_k) → UpToKind rs i (task_k view_k) → op_a rs i < i
  pub low_b : FromKind rs i (plain_k eop_k) → op_b rs i < i
  pub low_c : FromKind rs i (plain_k eop_k) → UpToKind rs i (task_k view_k) → op_c rs i < i
