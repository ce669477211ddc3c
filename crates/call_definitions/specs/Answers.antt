-- What each call answers and leaves, by the rules alone (01, "Four calls", "Grounds in the input", "Grounds in the state", "Order"): a
-- relation for each call between what it is lent and what it answers, one rule for each ground and one for 0. A rule of a ground asks that
-- the grounds before it do not hold. For memories of words each relation derives one answer, the one that the code's contract is an
-- equation with, and no other (proofs/LoadAnswered, StartAnswered, LookAnswered, HandleAnswered). Rests on Memory and on the calculus'
-- relations.
-- Believed.
use Rattle.std.specs.Prelude.{◌≡◌, Bool, true, false, List, [], ◌++◌, ℕ, suc, ◌*◌, ◌<◌, ◌≤◌, ℤ, length, drop}
use Rattle.std.proofs.Math.Option.{none, some}
use Rattle.decimal.specs.Path.{Path}
use Rattle.tophat.specs.Syntax.{max_leaves, Ty, Code, TaskOf, Store}
use Rattle.tophat.specs.Typing.{TaskType, ValueTypes}
use Rattle.tophat.specs.Evaluation.{EvaluatesTask, OverflowsTask}
use Rattle.tophat.specs.Normalising.{Normalises}
use Rattle.tophat.specs.Handling.{Action, Handles}
use Rattle.tophat.specs.Showing.{Entry}
use Rattle.formats.specs.Lines.{line_bytes, lines_say}
use Rattle.tophat.specs.Roles.{IsRole, Gate, other_role, no_touch, of_role, touches_left, is, admits}
use Rattle.formats.specs.Touches.{entry_bytes, event_of}
use Rattle.formats.specs.Lists.{list_text}
use Rattle.rows.specs.GroundNumbers.{not_sized, not_read, event_not_read, not_handled, not_accepted, wrong_memory, not_state, not_at_rest, list_too_short}
use Rattle.rows.specs.Rows.{max_rows, row_words}
use Rattle.rows.specs.Lent.{own_rows, row_count}
use Rattle.rows.specs.Trees.{Flow}
use Rattle.rows.specs.Ground.{WellFormed, Small, RowsGround}
use Rattle.state.specs.Layout.{state_words}
use Rattle.call_definitions.specs.Memory.{state_of, failed_of, CallAnswer, refusal, LookAnswer, look_refusal, flag, value_memory, has_one}
use Rattle.call_definitions.specs.States.{FlowState, task_state, failed_state, AtRest, value_in, FailsIn, ShowsIn, RefusesIn, PassesIn}

-- ---- load: 1, 21, 2 to 7

-- 01: "1 to 256 lines of 45 bytes"
pub record HasLines (text : List ℕ) (n : ℕ) : Type 0 where
  pub some_lines : 1 ≤ n
  pub few : n ≤ max_rows
  pub whole : length text ≡ n * line_bytes

-- grounds 1, 21 and 2 do not hold: the text's n lines, for rows memory of n rows, say these words
pub record Reads (text : List ℕ) (memory : List ℤ) (n : ℕ) (ws : List ℤ) : Type 0 where
  pub lines : HasLines text n
  pub room : length memory ≡ n * row_words
  pub says : lines_say text n ≡ some ws

pub data LoadAnswers (text : List ℕ) (memory : List ℤ) : ℕ → List ℤ → Type 0 where
  load_1 : ((n : ℕ) → HasLines text n → ⊥) → LoadAnswers text memory not_sized memory
  load_21 : {n : ℕ} → HasLines text n → (length memory ≡ n * row_words → ⊥) → LoadAnswers text memory wrong_memory memory
  load_2 : {n : ℕ} → HasLines text n → length memory ≡ n * row_words → lines_say text n ≡ none → LoadAnswers text memory not_read memory
  -- 3 to 7, by the rows that the lines say
  load_rows : {n g : ℕ} {ws : List ℤ} → Reads text memory n ws → RowsGround (own_rows ws) n (suc g) → LoadAnswers text memory (suc g) memory
  -- a sheet is accepted exactly when it can be read, keeps 01's form and limits, and the typing rules give its last row a type
  load_0 : {n : ℕ} {ws : List ℤ} {c : Code} {Σ : List Ty} {s : Store} {τ : Ty}
      → Reads text memory n ws → WellFormed (own_rows ws) n → Small (own_rows ws) n → Flow (own_rows ws) n c Σ s τ → LoadAnswers text memory 0 ws

-- ---- flows and their states

-- some sheet, with some rows memory, loads to these rows
pub record Loads (rows : List ℤ) : Type 0 where
  pub text : List ℕ
  pub memory : List ℤ
  pub loads : LoadAnswers text memory 0 rows

-- 01: "An accepted flow is the rows that an accepted sheet loads to; its own type is the one that typing gives the last row": c is the code
-- of the last row, Σ are the cells' types, τ is that type
pub record AcceptedFlow (rows : List ℤ) (c : Code) (Σ : List Ty) (τ : Ty) : Type 0 where
  pub loads : Loads rows
  pub first : Store
  pub flow : Flow (own_rows rows) (row_count rows) c Σ first τ

-- 01: "A state is 16 words a row"
abbrev pub HasRoom : List ℤ → List ℤ → Type 0
HasRoom rows ws = length ws ≡ row_count rows * state_words

-- the words are the writing of a task of the flow's type and of a store of the cells' types
pub record WritesTask (rows ws : List ℤ) (c : Code) (Σ : List Ty) (τ : Ty) (t : TaskOf c) (s : Store) : Type 0 where
  pub typed : TaskType Σ [] c t τ
  pub stored : ValueTypes s Σ
  pub written : ws ≡ state_of rows c t s

-- the words are the writing of a state
pub data Writes (rows ws : List ℤ) (c : Code) (Σ : List Ty) (τ : Ty) : FlowState → Type 0 where
  as_task : {t : TaskOf c} {s : Store} → WritesTask rows ws c Σ τ t s → Writes rows ws c Σ τ (task_state c t s)
  -- CR 3: "it is a state only where start fails so and the cells have their first contents"
  as_failed : {s : Store} → Flow (own_rows rows) (row_count rows) c Σ s τ → OverflowsTask c [] s → ws ≡ failed_of rows s
      → Writes rows ws c Σ τ (failed_state τ s)

-- 01: "A rest is a state of it that normalising does not change"
pub record IsRest (rows ws : List ℤ) (c : Code) (Σ : List Ty) (τ : Ty) : Type 0 where
  pub state : FlowState
  pub writes : Writes rows ws c Σ τ state
  pub still : AtRest state

-- ---- start: 20, 21

pub data StartAnswers (rows memory : List ℤ) : CallAnswer → Type 0 where
  start_20 : (Loads rows → ⊥) → StartAnswers rows memory (refusal not_accepted memory)
  start_21 : Loads rows → (HasRoom rows memory → ⊥) → StartAnswers rows memory (refusal wrong_memory memory)
  -- 01: "Normalise: evaluate, then stride until a stride changes neither task nor store", from the cells' first contents
  start_0 : {c : Code} {Σ : List Ty} {τ : Ty} {t₁ t₂ : TaskOf c} {s₁ s₂ : Store} {n : ℕ} (a : AcceptedFlow rows c Σ τ)
      → HasRoom rows memory → EvaluatesTask c [] a.first t₁ s₁ → Normalises c [] s₁ t₁ t₂ s₂ n
      → StartAnswers rows memory (record { number = 0; strides = n; state = state_of rows c t₂ s₂ })
  -- CR 3: the last row leaves the words, so that it is 45, in the cells' first contents
  start_failed : {c : Code} {Σ : List Ty} {τ : Ty} (a : AcceptedFlow rows c Σ τ)
      → HasRoom rows memory → OverflowsTask c [] a.first
      → StartAnswers rows memory (record { number = 0; strides = 1; state = failed_of rows a.first })

-- ---- look and handle: 20 to 23 first, where Fits says that the other memory is of its exact length

pub data Shut (rows ws : List ℤ) (Fits : Type 0) : ℕ → Type 0 where
  shut_20 : (Loads rows → ⊥) → Shut rows ws Fits not_accepted
  shut_21 : Loads rows → (HasRoom rows ws × Fits → ⊥) → Shut rows ws Fits wrong_memory
  shut_22 : {c : Code} {Σ : List Ty} {τ : Ty}
      → AcceptedFlow rows c Σ τ → HasRoom rows ws → Fits → ((z : FlowState) → Writes rows ws c Σ τ z → ⊥)
      → Shut rows ws Fits not_state
  shut_23 : {c : Code} {Σ : List Ty} {τ : Ty} {z : FlowState}
      → AcceptedFlow rows c Σ τ → Fits → Writes rows ws c Σ τ z → (AtRest z → ⊥)
      → Shut rows ws Fits not_at_rest

-- 20 to 23, 8, 24
pub data LookAnswers (rows ws : List ℤ) (role : ℕ) (values : List ℤ) (list : List ℕ) : LookAnswer → Type 0 where
  look_shut : {g : ℕ} → Shut rows ws (length values ≡ max_leaves) g → LookAnswers rows ws role values list (look_refusal g values list)
  -- CR 6: "Look gives 8 for a role outside 1 to 8, after 23 and before 24"
  look_8 : {c : Code} {Σ : List Ty} {τ : Ty} → AcceptedFlow rows c Σ τ → IsRest rows ws c Σ τ
      → length values ≡ max_leaves → (IsRole role → ⊥) → LookAnswers rows ws role values list (look_refusal event_not_read values list)
  look_24 : {c : Code} {Σ : List Ty} {τ : Ty} {es : List Entry} → AcceptedFlow rows c Σ τ → (r : IsRest rows ws c Σ τ)
      → length values ≡ max_leaves → IsRole role → ShowsIn (is role) r.state es → length list < length es * entry_bytes
      → LookAnswers rows ws role values list (look_refusal list_too_short values list)
  -- 01: "Bytes after it keep their content"
  look_0 : {c : Code} {Σ : List Ty} {τ : Ty} {es : List Entry} {x : Bool} → AcceptedFlow rows c Σ τ → (r : IsRest rows ws c Σ τ)
      → length values ≡ max_leaves → IsRole role → ShowsIn (is role) r.state es → length es * entry_bytes ≤ length list
      → FailsIn r.state x
      → LookAnswers rows ws role values list (record {
        number = 0;
        has_value = has_one (value_in r.state);
        fails = flag x;
        value = value_memory (value_in r.state);
        part = list_text es;
        list = list_text es ++ drop (length (list_text es)) list;
      })

-- 20 to 23, 8, 9, 30, 31
pub data HandleAnswers (rows ws : List ℤ) (event : List ℕ) : CallAnswer → Type 0 where
  handle_shut : {g : ℕ} → Shut rows ws (Unit {0}) g → HandleAnswers rows ws event (refusal g ws)
  handle_8 : {c : Code} {Σ : List Ty} {τ : Ty}
      → AcceptedFlow rows c Σ τ → IsRest rows ws c Σ τ → event_of event ≡ none → HandleAnswers rows ws event (refusal event_not_read ws)
  -- no handling rule derives a step, roles and touches aside
  handle_9 : {c : Code} {Σ : List Ty} {τ : Ty} {role : ℕ} {p : Path} {x : Action} → AcceptedFlow rows c Σ τ → (r : IsRest rows ws c Σ τ)
      → event_of event ≡ some (role, p, x) → RefusesIn r.state p x → HandleAnswers rows ws event (refusal not_handled ws)
  -- CR 6: "30 if a rule derives a step but a row passed has another role, 31 if only the touches are spent"
  handle_30 : {c : Code} {Σ : List Ty} {τ : Ty} {role : ℕ} {p : Path} {x : Action} {gs : List Gate} → AcceptedFlow rows c Σ τ → (r : IsRest rows ws c Σ τ)
      → event_of event ≡ some (role, p, x) → PassesIn r.state p x gs → of_role role gs ≡ false → HandleAnswers rows ws event (refusal other_role ws)
  handle_31 : {c : Code} {Σ : List Ty} {τ : Ty} {role : ℕ} {p : Path} {x : Action} {gs : List Gate} → AcceptedFlow rows c Σ τ → (r : IsRest rows ws c Σ τ)
      → event_of event ≡ some (role, p, x) → PassesIn r.state p x gs → of_role role gs ≡ true → touches_left gs ≡ false → HandleAnswers rows ws event (refusal no_touch ws)
  -- 01: "Then the result is normalised"
  handle_0 : {c : Code} {Σ : List Ty} {τ : Ty} {role : ℕ} {p : Path} {x : Action} {gs : List Gate} {n : ℕ}
      → AcceptedFlow rows c Σ τ → (r : IsRest rows ws c Σ τ) → event_of event ≡ some (role, p, x)
      → {t₁ t₂ : TaskOf r.state.code} {s₁ s₂ : Store}
      → Handles r.state.code [] r.state.store r.state.task p x t₁ s₁ gs → admits (is role) gs ≡ true → Normalises r.state.code [] s₁ t₁ t₂ s₂ n
      → HandleAnswers rows ws event (record { number = 0; strides = n; state = state_of rows r.state.code t₂ s₂ })
