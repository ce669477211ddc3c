-- The terms of the theorem on every list of look and handle calls (01, "Four lines on the contracts", 3; the theorem is proofs/EveryTouch):
-- what a list of calls leaves of a state, and what stands after any such list, in bytes and words. What a call answers is read off the
-- calls' own definitions (Calls), which the code's contracts are equations with; all else is said by the calculus' relations and by what
-- bytes say (formats). Rests on Answers and Calls.
-- Believed.
use Rattle.std.specs.Prelude.{◌≡◌, Bool, true, false, not, ◌⊎◌, ◌↔◌, List, [], ◌∷◌, ℕ, ◌+◌, ◌<◌, ◌≤◌, ℤ, length}
use Rattle.std.proofs.Math.Option.{none, some}
use Rattle.decimal.specs.Path.{Path}
use Rattle.tophat.specs.Syntax.{max_leaves, Ty, Code}
use Rattle.tophat.specs.Typing.{CodeType}
use Rattle.tophat.specs.Leaves.{Given, Leaf, Meets}
use Rattle.tophat.specs.Handling.{Act, Action}
use Rattle.tophat.specs.Residual.{residual}
use Rattle.tophat.specs.Roles.{IsRole, Gate, other_role, no_touch, of_role, touches_left, is}
use Rattle.formats.specs.Touches.{event_says, event_of, entry_says}
use Rattle.formats.specs.Lists.{entry_at, Entries, CoversAt}
use Rattle.rows.specs.GroundNumbers.{event_not_read, not_handled, wrong_memory, list_too_short}
use Rattle.rows.specs.Kinds.{task_k, gate_k}
use Rattle.rows.specs.Rows.{is_kind, every, movers}
use Rattle.rows.specs.Lent.{own_rows, row_count}
use Rattle.call_definitions.specs.Memory.{refusal, look_refusal}
use Rattle.call_definitions.specs.States.{FlowState, TypedState, FailsIn, QuietIn, AcceptsIn, RefusesIn, PassesIn}
use Rattle.call_definitions.specs.Answers.{HasRoom, Writes, IsRest, LookAnswers, HandleAnswers}
use Rattle.call_definitions.specs.Calls.{start_call, handle_call, look_call}

-- ---- calls

-- a look with its role, and the value memory and the list memory that it is lent, or a handle with its event's bytes: any of each
pub data Call : Type 0 where
  look : ℕ → List ℤ → List ℕ → Call
  handle : List ℕ → Call

-- the state words that a call leaves: look is lent them to read only
unfoldable pub after : List ℤ → List ℤ → Call → List ℤ
after rows ws (look role values list) = ws
after rows ws (handle event) = (handle_call rows ws event).state

unfoldable pub run : List ℤ → List ℤ → List Call → List ℤ
run rows ws [] = ws
run rows ws (k ∷ ks) = run rows (after rows ws k) ks

-- start's state: with every state memory of 16 words a row, whatever it holds, start answers 0 and leaves these words
abbrev pub Started : List ℤ → List ℤ → Type 0
Started rows ws = (memory : List ℤ) → HasRoom rows memory → ((start_call rows memory).number ≡ 0) × ((start_call rows memory).state ≡ ws)

-- 01: "a call counts at most 1 more than the rows of kind 43 and 47"
abbrev pub Bounded : List ℤ → ℕ → Type 0
Bounded rows n = n ≤ 1 + movers (own_rows rows) (row_count rows)

-- the grounds on which an event that can be read is refused at a rest
abbrev pub Refusing : ℕ → Type 0
Refusing g = (g ≡ not_handled) ⊎ ((g ≡ other_role) ⊎ (g ≡ no_touch))

-- no row is of kind 50
unfoldable pub ungated : List ℤ → Bool
ungated rows = every (row_count rows) (λ i. not (is_kind (own_rows rows) i (task_k gate_k)))

-- ---- what holds of the state words of a flow after any list of calls

pub record Stands (rows ws : List ℤ) (c : Code) (Σ : List Ty) (τ : Ty) : Type 0 where
  -- they are the writing of a state, at rest, and of no other: a task of the flow's own type and a store of the cells' types
  pub rest : IsRest rows ws c Σ τ
  pub only : (z : FlowState) → Writes rows ws c Σ τ z → z ≡ rest.state
  pub typed : TypedState Σ τ rest.state
  -- 01: the typing rules, read with its contents, values, sides and right sides in place, give the task that type
  pub residual_typed : CodeType Σ [] (residual rest.state.code rest.state.task) τ
  -- look, with every role, value memory and list memory: 21, else 8, else 24, else 0; and then the part that it hands back is the list shown
  pub shown : ℕ → List ℕ
  pub misfit : (role : ℕ) (values : List ℤ) (list : List ℕ)
      → (length values ≡ max_leaves → ⊥) → look_call rows ws role values list ≡ look_refusal wrong_memory values list
  pub role_out : (role : ℕ) (values : List ℤ) (list : List ℕ)
      → length values ≡ max_leaves → (IsRole role → ⊥) → look_call rows ws role values list ≡ look_refusal event_not_read values list
  pub short : (role : ℕ) (values : List ℤ) (list : List ℕ)
      → length values ≡ max_leaves → IsRole role → length list < length (shown role) → look_call rows ws role values list ≡ look_refusal list_too_short values list
  pub looks : (role : ℕ) (values : List ℤ) (list : List ℕ)
      → length values ≡ max_leaves → IsRole role → length (shown role) ≤ length list → (look_call rows ws role values list).number ≡ 0
  pub part : (role : ℕ) (values : List ℤ) (list : List ℕ)
      → (look_call rows ws role values list).number ≡ 0 → (look_call rows ws role values list).part ≡ shown role
  -- all that it answers is derived by the rules
  pub looked : (role : ℕ) (values : List ℤ) (list : List ℕ) → LookAnswers rows ws role values list (look_call rows ws role values list)
  -- handle, with every event: 8 where it cannot be read, else 9 exactly where no handling rule derives a step; where one does, 30 exactly
  -- where a row of kind 50 passed has another role, else 31 exactly where one has no touch left, else 0 (CR 6)
  pub unread : (event : List ℕ) → event_of event ≡ none → handle_call rows ws event ≡ refusal event_not_read ws
  pub answers : (event : List ℕ) (role : ℕ) (p : Path) (x : Action) → event_of event ≡ some (role, p, x)
      → ((handle_call rows ws event).number ≡ 0) ⊎ ((g : ℕ) × Refusing g × (handle_call rows ws event ≡ refusal g ws))
  pub refused : (event : List ℕ) (role : ℕ) (p : Path) (x : Action) → event_of event ≡ some (role, p, x)
      → ((handle_call rows ws event).number ≡ not_handled) ↔ RefusesIn rest.state p x
  pub other : (event : List ℕ) (role : ℕ) (p : Path) (x : Action) → event_of event ≡ some (role, p, x)
      → ((handle_call rows ws event).number ≡ other_role) ↔ ((gs : List Gate) × PassesIn rest.state p x gs × (of_role role gs ≡ false))
  pub spent : (event : List ℕ) (role : ℕ) (p : Path) (x : Action) → event_of event ≡ some (role, p, x)
      → ((handle_call rows ws event).number ≡ no_touch) ↔ ((gs : List Gate) × PassesIn rest.state p x gs × (of_role role gs ≡ true) × (touches_left gs ≡ false))
  pub taken : (event : List ℕ) (role : ℕ) (p : Path) (x : Action) → event_of event ≡ some (role, p, x)
      → ((handle_call rows ws event).number ≡ 0) ↔ AcceptsIn (is role) rest.state p x
  -- all that it answers and leaves is derived by the rules
  pub handled : (event : List ℕ) → HandleAnswers rows ws event (handle_call rows ws event)
  pub bounded : (event : List ℕ) → Bounded rows (handle_call rows ws event).strides
  -- the list shown to a role covers exactly the accepted events of that role, each by just one entry; no entry is dead, and each way to meet
  -- its leaf kinds, with blanks where they are 0 (CR 2), is said by some event's bytes
  pub count : ℕ → ℕ
  pub entries : (role : ℕ) → IsRole role → Entries (shown role) (count role)
  pub accepted_iff_covered : (event : List ℕ) (role : ℕ) (p : Path) (x : Action) → event_of event ≡ some (role, p, x)
      → ((handle_call rows ws event).number ≡ 0) ↔ ((i : ℕ) × CoversAt (shown role) (count role) i event)
  pub covered_once : (role : ℕ) → IsRole role → (event : List ℕ) (i j : ℕ)
      → CoversAt (shown role) (count role) i event → CoversAt (shown role) (count role) j event → i ≡ j
  pub covers_some : (role : ℕ) → IsRole role → (i : ℕ) → i < count role
      → (event : List ℕ) × (k : CoversAt (shown role) (count role) i event) × (k.1.role ≡ role)
  pub said : (role : ℕ) → IsRole role → (i : ℕ) → i < count role → {p : Path} {a : Act} {ks : List Leaf} → entry_says (entry_at (shown role) i) ≡ some (p, a, ks)
      → {ls : List Given} → Meets ks ls → (event : List ℕ) × (event_says event ≡ some (role, p, a, ls))
  -- the task is quiet exactly when every readable event gets 9; then the lists of all roles are empty (CR 1, CR 6)
  pub quiet : QuietIn rest.state ↔ ((event : List ℕ) (role : ℕ) (p : Path) (x : Action) → event_of event ≡ some (role, p, x) → (handle_call rows ws event).number ≡ not_handled)
  pub quiet_dark : QuietIn rest.state → (role : ℕ) → shown role ≡ []
  -- the failing flag is 1 exactly where the rules say that the task fails, 0 exactly where they say that it does not, and they say one of
  -- the two; a task that fails is quiet, and a quiet one need not fail
  pub fails_is_1 : (role : ℕ) (values : List ℤ) (list : List ℕ) → (look_call rows ws role values list).number ≡ 0
      → ((look_call rows ws role values list).fails ≡ 1) ↔ FailsIn rest.state true
  pub fails_is_0 : (role : ℕ) (values : List ℤ) (list : List ℕ) → (look_call rows ws role values list).number ≡ 0
      → ((look_call rows ws role values list).fails ≡ 0) ↔ FailsIn rest.state false
  pub fails_decided : FailsIn rest.state true ⊎ FailsIn rest.state false
  pub failing_quiet : FailsIn rest.state true → QuietIn rest.state
