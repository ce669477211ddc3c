-- The calls start, look and handle as functions that compute, for every content of every memory: what the code's contracts are equations with
-- (load: sheet's Sheet). They give what the rules alone give, and nothing else. Rests on Memory, on the formats, and on the calculus' functions,
-- which proofs tie to its rules.
-- For contracts only: tied to Answers by `start_derived` and `start_only` (proofs/StartAnswered), and so for look and handle.
use Rattle.std.specs.Prelude.{Bool, true, cond, ◌&&◌, List, [], ◌++◌, ℕ, ◌*◌, ◌-◌, eqb, leb, ℤ, length, drop}
use Rattle.std.proofs.Math.Option.{Option, none, some}
use Rattle.decimal.specs.Path.{Path}
use Rattle.tophat.specs.Syntax.{max_leaves, Ty, Code, TaskOf, Store}
use Rattle.tophat.specs.Handling.{Action}
use Rattle.tophat.proofs.ComputeTyping.{infer_task}
use Rattle.tophat.proofs.ComputeEvaluation.{overflows_task}
use Rattle.tophat.proofs.ComputeNormalising.{failing, normalise, settle, stride}
use Rattle.tophat.proofs.ComputeHandling.{Taken, handle}
use Rattle.tophat.proofs.ComputeEntries.{entries}
use Rattle.tophat.specs.Roles.{is_role, verdict, is}
use Rattle.formats.specs.Touches.{entry_bytes, event_of}
use Rattle.formats.specs.Lists.{list_text}
use Rattle.rows.specs.GroundNumbers.{event_not_read, not_handled, not_accepted, wrong_memory, not_state, not_at_rest, list_too_short}
use Rattle.rows.specs.Lent.{own_rows, row_count}
use Rattle.rows.specs.ComputeTrees.{code_at, cell_types, first_store}
use Rattle.sheet.specs.Accepted.{accepts_rows}
use Rattle.state.specs.Layout.{state_words, encode_failed}
use Rattle.state.specs.Lent.{own_of}
use Rattle.state.specs.Reading.{same, decode}
use Rattle.call_definitions.specs.Memory.{state_of, failed_of, CallAnswer, refusal, LookAnswer, look_refusal, flag, value_memory, has_one}
use Rattle.call_definitions.specs.States.{FlowState, task_state, failed_state, value_in}

-- the code that accepted rows are
abbrev pub code_of : List ℤ → Option Code
code_of rows = code_at (own_rows rows) (row_count rows) (row_count rows - 1)

-- the cells' first contents
abbrev pub first_of : List ℤ → Store
first_of rows = first_store (own_rows rows) (row_count rows)

-- ---- start

unfoldable pub start_with : List ℤ → List ℤ → Option Code → CallAnswer
start_with rows ws none = refusal not_accepted ws
start_with rows ws (some c) =
    let (t, s, n) = settle c [] (first_of rows) in
    cond (overflows_task c [] (first_of rows))
    (record { number = 0; strides = 1; state = failed_of rows (first_of rows) })
    (record { number = 0; strides = n; state = state_of rows c t s })

-- 01: "start 20, 21"
unfoldable pub start_call : List ℤ → List ℤ → CallAnswer
start_call rows ws =
    cond (accepts_rows rows)
    (cond (eqb (length ws) (row_count rows * state_words)) (start_with rows ws (code_of rows)) (refusal wrong_memory ws))
    (refusal not_accepted ws)

-- ---- look and handle: grounds 20 to 23

-- what rows and state words are: a state of the flow, or the ground that refuses them
pub data Opened : Type 0 where
  refused_by : ℕ → Opened
  rest_of : FlowState → Opened

-- ground 23: normalising would change it
unfoldable pub at_rest : (c : Code) → TaskOf c → Store → Opened
at_rest c t s = cond (stride c [] s t).2 (refused_by not_at_rest) (rest_of (task_state c t s))

-- CR 3: the words hold the last row of this type as failed whole, start fails so, and the cells have their first contents: else ground 22
unfoldable pub failed_as : List ℤ → List ℤ → Code → Option Ty → Opened
failed_as rows ws c none = refused_by not_state
failed_as rows ws c (some τ) =
    cond (overflows_task c [] (first_of rows) && same (encode_failed (own_rows rows) (row_count rows) (first_of rows)) (own_of (row_count rows) ws))
    (rest_of (failed_state τ (first_of rows)))
    (refused_by not_state)

-- ground 22: not the writing of a state
unfoldable pub decoded : List ℤ → List ℤ → (c : Code) → Option (TaskOf c × Store) → Opened
decoded rows ws c none = failed_as rows ws c (infer_task (cell_types (own_rows rows) (row_count rows)) [] c)
decoded rows ws c (some r) = at_rest c r.0 r.1

unfoldable pub read_with : List ℤ → List ℤ → Option Code → Opened
read_with rows ws none = refused_by not_accepted
read_with rows ws (some c) = decoded rows ws c (decode (own_rows rows) (row_count rows) c (cell_types (own_rows rows) (row_count rows)) (own_of (row_count rows) ws))

-- in this order; `fits` says that the other memories are of their exact length (21)
unfoldable pub opened : List ℤ → List ℤ → Bool → Opened
opened rows ws fits =
    cond (accepts_rows rows)
    (cond (eqb (length ws) (row_count rows * state_words) && fits) (read_with rows ws (code_of rows)) (refused_by wrong_memory))
    (refused_by not_accepted)

-- ---- handle

-- 01: "Then the result is normalised"
unfoldable pub settled : List ℤ → (c : Code) → TaskOf c → Store → CallAnswer
settled rows c t₁ s₁ =
    let (t, s, n) = normalise c [] s₁ t₁ in
    record { number = 0; strides = n; state = state_of rows c t s }

-- ground 9: no handling rule derives a step; then 30 and 31, by the rows of kind 50 that it passes (CR 6)
unfoldable pub handled : List ℤ → List ℤ → (c : Code) → ℕ → Option (Taken (TaskOf c)) → CallAnswer
handled rows ws c role none = refusal not_handled ws
handled rows ws c role (some r) = cond (eqb (verdict role r.2) 0) (settled rows c r.0 r.1) (refusal (verdict role r.2) ws)

-- ground 8: the event cannot be read
unfoldable pub handle_read : List ℤ → List ℤ → FlowState → Option (ℕ × Path × Action) → CallAnswer
handle_read rows ws z none = refusal event_not_read ws
handle_read rows ws z (some e) = handled rows ws z.code e.0 (handle z.code [] z.store z.task e.1 e.2)

unfoldable pub handle_in : List ℤ → List ℤ → Option (ℕ × Path × Action) → Opened → CallAnswer
handle_in rows ws e (refused_by g) = refusal g ws
handle_in rows ws e (rest_of z) = handle_read rows ws z e

unfoldable pub handle_call : List ℤ → List ℤ → List ℕ → CallAnswer
handle_call rows ws event = handle_in rows ws (event_of event) (opened rows ws true)

-- ---- look

-- ground 24: list memory under 35 bytes an entry (CR 4)
unfoldable pub look_rest : ℕ → List ℤ → List ℕ → FlowState → LookAnswer
look_rest role values list z =
    let es = entries (is role) z.code [] z.store z.task in
    cond (leb (length es * entry_bytes) (length list))
    (record {
      number = 0;
      has_value = has_one (value_in z);
      fails = flag (failing z.code [] z.store z.task);
      value = value_memory (value_in z);
      part = list_text es;
      list = list_text es ++ drop (length (list_text es)) list;
    })
    (look_refusal list_too_short values list)

-- CR 6: "Look gives 8 for a role outside 1 to 8, after 23 and before 24"
unfoldable pub look_in : ℕ → List ℤ → List ℕ → Opened → LookAnswer
look_in role values list (refused_by g) = look_refusal g values list
look_in role values list (rest_of z) = cond (is_role role) (look_rest role values list z) (look_refusal event_not_read values list)

unfoldable pub look_call : List ℤ → List ℤ → ℕ → List ℤ → List ℕ → LookAnswer
look_call rows ws role values list = look_in role values list (opened rows ws (eqb (length values) max_leaves))
