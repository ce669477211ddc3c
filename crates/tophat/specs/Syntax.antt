-- Types, values, plain expressions and tasks (01, "The sheet"; the paper's Fig. 2 to 4 and 8), and the running task of a
-- code (01, "A task of a row is"). Rests on nothing.
-- Believed, but for `moves` and `task_rows`: for proofs only, `moves` tied to the rows by `moves_are` (rows' Moves).
use Rattle.std.specs.Prelude.{Bool, List, ℕ, ◌+◌, ℤ}

-- CR 4: "A type may have 8 leaves"
abbrev pub max_leaves : ℕ
max_leaves = 8

-- types: kinds 1 to 4
pub data Ty : Type 0 where
  unit truth number : Ty
  pair : Ty → Ty → Ty
  deriving Discrete as Ty-discrete

unfoldable pub leaves : Ty → ℕ
leaves unit = 1
leaves truth = 1
leaves number = 1
leaves (pair τ υ) = leaves τ + leaves υ

-- operators 1 to 8
pub data Op : Type 0 where
  sum difference product less less_equal equal and_op or_op : Op

-- plain expressions: kinds 20 to 31. A binder is counted outward, a cell is named by its place in the store
pub data Exp : Type 0 where
  eunit : Exp  -- 20
  etruth : Bool → Exp  -- 21
  enumber : ℤ → Exp  -- 22
  ebinder : ℕ → Exp  -- 23
  eop : Op → Exp → Exp → Exp  -- 24
  eif : Exp → Exp → Exp → Exp  -- 25
  epair : Exp → Exp → Exp  -- 26
  efst : Exp → Exp  -- 27
  esnd : Exp → Exp  -- 28
  ederef : ℕ → Exp  -- 29
  eassign : ℕ → Exp → Exp  -- 30
  elet : Exp → Exp → Exp  -- 31

-- tasks as a sheet has them (the paper's pretasks): kinds 40 to 50, and 25 and 31 of tasks
pub data Code : Type 0 where
  edit : Exp → Code  -- 40, filled editor □
  enter : Ty → Code  -- 41, empty editor ⊠
  update : ℕ → Code  -- 42, shared editor ■
  then : Code → Code → Code  -- 43, internal step ▶
  next : Code → Code → Code  -- 44, external step ▷
  fail : Ty → Code  -- 45
  and : Code → Code → Code  -- 46, both ⋈
  or : Code → Code → Code  -- 47, internal choice ◆
  xor : Code → Code → Code  -- 48, external choice ◇
  view : Exp → Code  -- 49, a shown value (CR 1)
  gate : ℕ → ℕ → Code → Code  -- 50, a task for a role, with so many touches (CR 6)
  if : Exp → Code → Code → Code  -- 25
  let' : Exp → Code → Code  -- 31

pub data Val : Type 0 where
  vunit : Val
  vtruth : Bool → Val
  vnumber : ℤ → Val
  vpair : Val → Val → Val

-- the values of the binders around, the nearest first
abbrev pub Env : Type 0
Env = List Val

-- the contents of the cells
abbrev pub Store : Type 0
Store = List Val

-- Running tasks (01, "A task of a row is").

-- 40 and 49: the present content
pub data EditT : Type 0 where
  filled : Val → EditT

-- 41: the present content or none
pub data EnterT : Type 0 where
  blank : EnterT
  entered : Val → EnterT

-- 42: its content is the cell's
pub data UpdateT : Type 0 where
  shared : UpdateT

-- 43 and 44: a task of A, or a value of A's type and a task of B under it
pub data StepT (A B : Type 0) : Type 0 where
  before : A → StepT A B
  after : Val → B → StepT A B

-- 45: itself
pub data FailT : Type 0 where
  failed : FailT

-- 46: two
pub data AndT (A B : Type 0) : Type 0 where
  both : A → B → AndT A B

-- 47: two, or one named
pub data OrT (A B : Type 0) : Type 0 where
  either : A → B → OrT A B
  or_left : A → OrT A B
  or_right : B → OrT A B

-- 48: unpicked, or a side and its task
pub data XorT (A B : Type 0) : Type 0 where
  unpicked : XorT A B
  picked_left : A → XorT A B
  picked_right : B → XorT A B

-- 50: the touches left, and a task of B
pub data GateT (B : Type 0) : Type 0 where
  gated : ℕ → B → GateT B

-- 25: a side and its task
pub data IfT (A B : Type 0) : Type 0 where
  if_true : A → IfT A B
  if_false : B → IfT A B

-- 31: a value and a task of B
pub data LetT (B : Type 0) : Type 0 where
  bound : Val → B → LetT B

-- a task of a row, by the row's code
abbrev pub TaskOf : Code → Type 0
TaskOf (edit e) = EditT
TaskOf (enter τ) = EnterT
TaskOf (update n) = UpdateT
TaskOf (then a b) = StepT (TaskOf a) (TaskOf b)
TaskOf (next a b) = StepT (TaskOf a) (TaskOf b)
TaskOf (fail τ) = FailT
TaskOf (and a b) = AndT (TaskOf a) (TaskOf b)
TaskOf (or a b) = OrT (TaskOf a) (TaskOf b)
TaskOf (xor a b) = XorT (TaskOf a) (TaskOf b)
TaskOf (view e) = EditT
TaskOf (gate r n b) = GateT (TaskOf b)
TaskOf (if e a b) = IfT (TaskOf a) (TaskOf b)
TaskOf (let' e b) = LetT (TaskOf b)

-- the rows of kind 43 and 47, which bound the strides of a call
unfoldable pub moves : Code → ℕ
moves (edit e) = 0
moves (enter τ) = 0
moves (update n) = 0
moves (then a b) = 1 + moves a + moves b
moves (next a b) = moves a + moves b
moves (fail τ) = 0
moves (and a b) = moves a + moves b
moves (or a b) = 1 + moves a + moves b
moves (xor a b) = moves a + moves b
moves (view e) = 0
moves (gate r n b) = moves b
moves (if e a b) = moves a + moves b
moves (let' e b) = moves b

-- the rows that are tasks, which bound the entries of a list
unfoldable pub task_rows : Code → ℕ
task_rows (edit e) = 1
task_rows (enter τ) = 1
task_rows (update n) = 1
task_rows (then a b) = 1 + task_rows a + task_rows b
task_rows (next a b) = 1 + task_rows a + task_rows b
task_rows (fail τ) = 1
task_rows (and a b) = 1 + task_rows a + task_rows b
task_rows (or a b) = 1 + task_rows a + task_rows b
task_rows (xor a b) = 1 + task_rows a + task_rows b
task_rows (view e) = 1
task_rows (gate r n b) = 1 + task_rows b
task_rows (if e a b) = 1 + task_rows a + task_rows b
task_rows (let' e b) = 1 + task_rows b
