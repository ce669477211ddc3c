-- What a session prints (01, "A session in full"): after a sheet, and after an event, the answer's head line and the entries, in memory
-- that is lent for it. Rests on the definitions of the calls (crates sheet and call_definitions) and on Heads.
-- Believed, but for `screen_bytes`: for contracts only.
use Rattle.std.specs.Prelude.{◌≡◌, Bool, true, false, cond, List, ◌++◌, map, ℕ, zero, suc, ◌+◌, ◌*◌, ◌/◌, ◌≤◌, eqb, ℤ, pos, length, take, drop, replicate}
use Rattle.std.proofs.Math.Option.{Option, none, some}
use Rattle.std.specs.Int.{w32}
use Rattle.std.proofs.Common.{of_z}
use Rattle.tophat.specs.Syntax.{max_leaves}
use Rattle.rows.specs.Rows.{max_rows}
use Rattle.rows.specs.GroundNumbers.{not_sized}
use Rattle.formats.specs.Lines.{line_bytes}
use Rattle.formats.specs.Touches.{event_bytes, entry_bytes, event_role}
use Rattle.formats.specs.Heads.{head_bytes}
use Rattle.sheet.specs.Sheet.{loaded}
use Rattle.call_definitions.specs.Memory.{CallAnswer, LookAnswer}
use Rattle.call_definitions.specs.Calls.{start_call, look_call, handle_call}
use Rattle.screens.specs.declared.head.Head.{Head}
use Rattle.screens.specs.declared.turn.Begun.{Begun}
use Rattle.screens.specs.Heads.{head_over, head_text}

-- ---- the role of a look (CR 6: "The session program looks in the event's role, and in role 1 at the start or after a bad role or short
-- event")

abbrev pub start_role : ℕ
start_role = 1

unfoldable pub or_start : Option ℕ → ℕ
or_start none = start_role
or_start (some role) = role

-- after an event: its role where it has all its bytes and its role's columns say 1 to 8, whatever else is wrong with it
unfoldable pub role_of : List ℕ → ℕ
role_of event = cond (eqb (length event) event_bytes) (or_start (event_role event)) start_role

-- ---- screens

-- a head line, and one entry a row
abbrev pub screen_bytes : ℕ
screen_bytes = head_bytes + max_rows * entry_bytes

-- a screen: what is printed, how many bytes that is, and the whole memory, at whose front it stands
pub record Screen : Type 0 where
  pub text : List ℕ
  pub bytes : ℕ
  pub memory : List ℕ

-- the head line of an answer and of what look shows
abbrev pub head_of : ℕ → ℕ → LookAnswer → Head
head_of answer strides l = record {
  answer = answer;
  strides = strides;
  fails = l.fails;
  valued = l.has_value;
  leaves = map (of_z w32) l.value;
  entries = length l.part / entry_bytes;
}

-- "A refused sheet .. prints its number .. with zeros"
abbrev pub refused_head : ℕ → Head
refused_head g = record { answer = g; strides = 0; fails = 0; valued = 0; leaves = replicate max_leaves 0; entries = 0 }

abbrev pub refused_screen : ℕ → List ℕ → Screen
refused_screen g out = record { text = head_text (refused_head g); bytes = head_bytes; memory = head_over out (refused_head g) }

-- "it prints: answer .. entry count (4), then the entries": look is lent the memory after the head line for its list
abbrev pub shown_with : ℕ → ℕ → List ℕ → LookAnswer → Screen
shown_with answer strides out l = record {
  text = head_text (head_of answer strides l) ++ l.part;
  bytes = head_bytes + length l.part;
  memory = head_over (take head_bytes out ++ l.list) (head_of answer strides l);
}

-- the look is in this role (CR 6)
unfoldable pub shown_after : List ℤ → List ℤ → ℕ → ℕ → ℕ → List ℕ → Screen
shown_after rows ws role answer strides out = shown_with answer strides out (look_call rows ws role (replicate max_leaves (pos 0)) (drop head_bytes out))

-- the code's answer and memory: those of the screen, which is a front of the memory
pub record Drawn (a : Screen) (n : ℕ) (out : List ℕ) : Type 0 where
  pub bytes : n ≡ a.bytes
  pub memory : out ≡ a.memory
  pub within : (n ≤ length out) × (n ≡ length (take n out))
  pub printed : take n out ≡ a.text

-- ---- a sheet of n counted lines

-- "a row count .. not met" is ground 1; else what load answers and leaves
unfoldable pub loaded_counted : ℕ → List ℕ → List ℤ → ℕ × List ℤ
loaded_counted n text rows = cond (eqb (length text) (n * line_bytes)) (loaded text rows) (not_sized, rows)

-- whether a flow is started; its rows and its state, and the screen
pub record Begins : Type 0 where
  pub started : Bool
  pub rows : List ℤ
  pub state : List ℤ
  pub screen : Screen

abbrev pub started_by : ℕ → List ℤ → List ℕ → CallAnswer → Begins
started_by zero rows out a = record { started = true; rows = rows; state = a.state; screen = shown_after rows a.state start_role a.number a.strides out }
started_by (suc g) rows out a = record { started = false; rows = rows; state = a.state; screen = refused_screen (suc g) out }

abbrev pub begun_by : ℕ → List ℤ → List ℤ → List ℕ → Begins
begun_by zero rows ws out = let a = start_call rows ws in started_by a.number rows out a
begun_by (suc g) rows ws out = record { started = false; rows = rows; state = ws; screen = refused_screen (suc g) out }

unfoldable pub begins : ℕ → List ℕ → List ℤ → List ℤ → List ℕ → Begins
begins n text rows ws out = let l = loaded_counted n text rows in begun_by l.0 l.1 ws out

-- the code's answer and memories
pub record Beginning (a : Begins) (r : Begun) (rs ws : List ℤ) (out : List ℕ) : Type 0 where
  pub started : r.started ≡ a.started
  pub rows : rs ≡ a.rows
  pub state : ws ≡ a.state
  pub drawn : Drawn a.screen r.bytes out

-- ---- an event: the state it leaves, and the screen

unfoldable pub touched : List ℤ → List ℤ → List ℕ → List ℕ → List ℤ × Screen
touched rows ws event out = let a = handle_call rows ws event in (a.state, shown_after rows a.state (role_of event) a.number a.strides out)
