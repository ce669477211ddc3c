-- The kinds of rows (01, "The sheet") and the one table of them. A kind belongs to the group of what its rows read as. Its line
-- in the table says its number, what its operands must be, its own sort, and what it puts around the rows below it. Number to
-- kind, kind to number, grounds 3 to 6 and which operands are unused are readings of the table: a new kind is a constructor and a
-- line. Rests on nothing.
-- Believed, but for `kind_limit`, and `kind_of`, which `kind_number` and `number_kind` tie to `number_of` (proofs/KindNumbers).
use Rattle.std.specs.Prelude.{Bool, true, false, cond, List, [], ◌∷◌, ℕ, suc, max, eqb}
use Rattle.std.proofs.Math.Option.{Option, none, some}

-- ---- the kinds

-- types
pub data TypeKind : Type 0 where
  unit_k truth_k number_k pair_k : TypeKind
  deriving Discrete as TypeKind-discrete

-- plain expressions
pub data PlainKind : Type 0 where
  eunit_k etruth_k enumber_k ebinder_k eop_k epair_k efst_k esnd_k ederef_k eassign_k : PlainKind
  deriving Discrete as PlainKind-discrete

-- the two that are plain or a task, as their B is
pub data EitherKind : Type 0 where
  if_k let_k : EitherKind
  deriving Discrete as EitherKind-discrete

-- tasks
pub data TaskKind : Type 0 where
  edit_k enter_k update_k then_k next_k fail_k and_k or_k xor_k view_k gate_k : TaskKind
  deriving Discrete as TaskKind-discrete

pub data Kind : Type 0 where
  type_k : TypeKind → Kind
  cell_k : Kind
  plain_k : PlainKind → Kind
  either_k : EitherKind → Kind
  task_k : TaskKind → Kind
  deriving Discrete as Kind-discrete

-- ---- what a kind asks

-- what an operand must be
pub data Ask : Type 0 where
  unused : Ask  -- 0
  operator : Ask  -- 1 to 8
  truth : Ask  -- 0 or 1
  any_word : Ask  -- any word: a number, a binder, a cell's first content
  a_role : Ask  -- 1 to 8 (CR 6)
  some_touches : Ask  -- 0 to 99 (CR 6)
  a_type a_basic a_cell a_plain a_task : Ask  -- a lower row of that sort
  a_branch : Ask  -- a lower row, plain or a task
  like_b : Ask  -- a lower row of the sort of B

-- sorts of rows; basic are truth and number, which a cell may hold
pub data Sort : Type 0 where
  type_s basic_s cell_s plain_s task_s no_s : Sort

-- a kind's own sort, or that of its B
pub data Own : Type 0 where
  is : Sort → Own
  as_b : Own

-- what a kind puts around the rows below it: nothing, a binder around B, or a mark around A and B
pub data Around : Type 0 where
  nothing binder mark : Around

-- operands A, B, C, own sort, what it puts around; a number that is no kind asks nothing
pub data Asks : Type 0 where
  asks : Ask → Ask → Ask → Own → Around → Asks
  no_asks : Asks

-- ---- the table (01, "Types", "Cell (the store)", "Plain expressions", "Tasks")

-- a number, its kind, and what the kind asks
pub data Line : Type 0 where
  line : ℕ → Kind → Asks → Line

abbrev pub table : List Line
table =
    line 1 (type_k unit_k) (asks unused unused unused (is type_s) nothing) ∷
    line 2 (type_k truth_k) (asks unused unused unused (is basic_s) nothing) ∷
    line 3 (type_k number_k) (asks unused unused unused (is basic_s) nothing) ∷
    line 4 (type_k pair_k) (asks a_type a_type unused (is type_s) nothing) ∷
    line 10 cell_k (asks a_basic any_word unused (is cell_s) nothing) ∷
    line 20 (plain_k eunit_k) (asks unused unused unused (is plain_s) nothing) ∷
    line 21 (plain_k etruth_k) (asks truth unused unused (is plain_s) nothing) ∷
    line 22 (plain_k enumber_k) (asks any_word unused unused (is plain_s) nothing) ∷
    line 23 (plain_k ebinder_k) (asks any_word unused unused (is plain_s) nothing) ∷
    line 24 (plain_k eop_k) (asks operator a_plain a_plain (is plain_s) nothing) ∷
    line 25 (either_k if_k) (asks a_plain a_branch like_b as_b nothing) ∷
    line 26 (plain_k epair_k) (asks a_plain a_plain unused (is plain_s) nothing) ∷
    line 27 (plain_k efst_k) (asks a_plain unused unused (is plain_s) nothing) ∷
    line 28 (plain_k esnd_k) (asks a_plain unused unused (is plain_s) nothing) ∷
    line 29 (plain_k ederef_k) (asks a_cell unused unused (is plain_s) nothing) ∷
    line 30 (plain_k eassign_k) (asks a_cell a_plain unused (is plain_s) nothing) ∷
    -- 01, ground 6: a binder each: 31, 43 and 44
    line 31 (either_k let_k) (asks a_plain a_branch unused as_b binder) ∷
    line 40 (task_k edit_k) (asks a_plain unused unused (is task_s) nothing) ∷
    line 41 (task_k enter_k) (asks a_type unused unused (is task_s) nothing) ∷
    line 42 (task_k update_k) (asks a_cell unused unused (is task_s) nothing) ∷
    -- binders: 31, 43 and 44
    line 43 (task_k then_k) (asks a_task a_task unused (is task_s) binder) ∷
    line 44 (task_k next_k) (asks a_task a_task unused (is task_s) binder) ∷
    line 45 (task_k fail_k) (asks a_type unused unused (is task_s) nothing) ∷
    -- 01, ground 6: a mark each: 46 and 47
    line 46 (task_k and_k) (asks a_task a_task unused (is task_s) mark) ∷
    line 47 (task_k or_k) (asks a_task a_task unused (is task_s) mark) ∷
    line 48 (task_k xor_k) (asks a_task a_task unused (is task_s) nothing) ∷
    line 49 (task_k view_k) (asks a_plain unused unused (is task_s) nothing) ∷  -- CR 1
    line 50 (task_k gate_k) (asks a_role a_task some_touches (is task_s) nothing) ∷  -- CR 6
    []

-- ---- its readings

-- by number: what f makes of the line of that number, d where there is none
abbrev pub look_up : {A : Type 0} → (Kind → Asks → A) → A → List Line → ℕ → A
look_up f d [] w = d
look_up f d (line n k s ∷ ls) w = cond (eqb w n) (f k s) (look_up f d ls w)

-- the kind of a number; a number that is no kind has none
unfoldable pub kind_of : ℕ → Option Kind
kind_of w = look_up (λ k s. some k) none table w

-- what the kind of a number asks
unfoldable pub asks_of : ℕ → Asks
asks_of w = look_up (λ k s. s) no_asks table w

-- CR 2: whether A, B and C are unused by the kind of a number; a number that is no kind uses all three
unfoldable pub is_unused : Ask → Bool
is_unused unused = true
is_unused operator = false
is_unused truth = false
is_unused any_word = false
is_unused a_role = false
is_unused some_touches = false
is_unused a_type = false
is_unused a_basic = false
is_unused a_cell = false
is_unused a_plain = false
is_unused a_task = false
is_unused a_branch = false
is_unused like_b = false

unfoldable pub unused_by : Asks → List Bool
unused_by (asks p q r o x) = is_unused p ∷ is_unused q ∷ is_unused r ∷ []
unused_by no_asks = false ∷ false ∷ false ∷ []

abbrev pub unused_of : ℕ → List Bool
unused_of w = unused_by (asks_of w)

-- two kinds are the same or not
abbrev pub same_kind : Discrete Kind
same_kind = Kind-discrete TypeKind-discrete PlainKind-discrete EitherKind-discrete TaskKind-discrete

abbrev by_test : {P : Type 0} → Dec P → ℕ → ℕ → ℕ
by_test (yes p) n m = n
by_test (no p) n m = m

-- by kind: its number. Each kind has a line (proofs/KindNumbers)
abbrev pub number_in : List Line → Kind → ℕ
number_in [] k = 0
number_in (line n j s ∷ ls) k = by_test (same_kind k j) n (number_in ls k)

abbrev pub number_of : Kind → ℕ
number_of k = number_in table k

-- the numbers of kinds are below this
abbrev pub limit_of : List Line → ℕ
limit_of [] = 0
limit_of (line n k s ∷ ls) = max (suc n) (limit_of ls)

abbrev pub kind_limit : ℕ
kind_limit = limit_of table
