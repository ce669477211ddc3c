-- What the calls answer, and what lent memory holds at exit (01, "Four calls"): a state's words, a value's words, flags and refusals. Rests on
-- the writing of states and on the calculus' values.
-- Believed.
use Rattle.std.specs.Prelude.{Bool, cond, List, [], ℕ, ℤ, pos, replicate}
use Rattle.std.proofs.Math.Option.{Option, none, some}
use Rattle.tophat.specs.Syntax.{max_leaves, Code, Val, TaskOf, Store}
use Rattle.tophat.specs.Leaves.{leaves_of, padded}
use Rattle.rows.specs.Lent.{own_rows, row_count}
use Rattle.state.specs.Layout.{encode, encode_failed}
use Rattle.state.specs.Lent.{lent_of}

-- the words of a state of these rows, as lent memory holds them
unfoldable pub state_of : List ℤ → (c : Code) → TaskOf c → Store → List ℤ
state_of rows c t s = lent_of (row_count rows) (encode (own_rows rows) (row_count rows) c t s)

-- and of one whose last row failed as a whole (CR 3)
unfoldable pub failed_of : List ℤ → Store → List ℤ
failed_of rows s = lent_of (row_count rows) (encode_failed (own_rows rows) (row_count rows) s)

-- ---- start and handle: number, strides, and the state memory at exit

pub record CallAnswer : Type 0 where
  pub number : ℕ
  pub strides : ℕ
  pub state : List ℤ

-- 01: "A refusal returns its number, strides 0", and the state memory keeps its content
abbrev pub refusal : ℕ → List ℤ → CallAnswer
refusal g ws = record { number = g; strides = 0; state = ws }

-- ---- look: number, flags, value memory, the part handed back, and the list memory at exit

pub record LookAnswer : Type 0 where
  pub number : ℕ
  pub has_value : ℕ
  pub fails : ℕ
  pub value : List ℤ
  pub part : List ℕ
  pub list : List ℕ

-- 01: "A refusal returns its number, .. flags 0 and an empty part, and all lent memory keeps its content"
abbrev pub look_refusal : ℕ → List ℤ → List ℕ → LookAnswer
look_refusal g values list = record { number = g; has_value = 0; fails = 0; value = values; part = []; list = list }

-- a flag
abbrev pub flag : Bool → ℕ
flag b = cond b 1 0

-- CR 4: "Values are 8 words"; 01: "unused 0, all 0 without a value"
unfoldable pub value_memory : Option Val → List ℤ
value_memory none = replicate max_leaves (pos 0)
value_memory (some v) = padded (pos 0) (leaves_of v)

-- the value flag
unfoldable pub has_one : Option Val → ℕ
has_one none = 0
has_one (some v) = 1
