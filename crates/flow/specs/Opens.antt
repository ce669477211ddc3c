-- What `open` answers and leaves (grounds 20 to 23): the ground that `opened` gives, or the flow's rows and a state of it, copied in. Rests on Calls.
-- For contracts only: `OpenOk` names `opened`, which `opened_derived` and `shut_only` tie to the rules (call_definitions' Grounds).
use Rattle.std.specs.Prelude.{◌≡◌, Bool, List, ℕ, ℤ, Result, Ok, Err}
use Rattle.tophat.specs.Syntax.{Ty, Code, TaskOf, Store}
use Rattle.rows.specs.declared.ground.Ground.{Ground}
use Rattle.rows.specs.GroundNumbers.{number_of_ground}
use Rattle.rows.specs.Lent.{own_rows, row_count}
use Rattle.state.specs.Lent.{own_state}
use Rattle.flow.specs.declared.open.Rest.{Rest}
use Rattle.flow.specs.declared.open.Rest.TheVariants.{Task, Failed}
use Rattle.call_definitions.specs.States.{FlowState, task_state, failed_state}
use Rattle.call_definitions.specs.Answers.{AcceptedFlow, WritesTask}
use Rattle.call_definitions.specs.Calls.{Opened, refused_by, rest_of, opened}

-- the n rows of an accepted flow, copied in
pub record Site (rows : List ℤ) (own : List ℕ) (n : ℕ) (c : Code) (Σ : List Ty) (τ : Ty) : Type 0 where
  pub flow : AcceptedFlow rows c Σ τ
  pub count : n ≡ row_count rows
  pub rows_in : own ≡ own_rows rows

-- and the words of a task of it
pub record Ready (rows ws : List ℤ) (own words : List ℕ) (n : ℕ) (c : Code) (t : TaskOf c) (s : Store) : Type 0 where
  pub cells : List Ty
  pub type : Ty
  pub site : Site rows own n c cells type
  pub writes : WritesTask rows ws c cells type t s
  pub state_in : words ≡ own_state n ws

-- what stands where a state is opened
pub data OpensTo (rows ws : List ℤ) (own words : List ℕ) : Rest → FlowState → Type 0 where
  to_task : {n : ℕ} {c : Code} {t : TaskOf c} {s : Store} → Ready rows ws own words n c t s → OpensTo rows ws own words (Task n) (task_state c t s)
  to_failed : {τ : Ty} {s : Store} → OpensTo rows ws own words Failed (failed_state τ s)

module _ (rows ws : List ℤ) (own words : List ℕ) where
  abbrev pub Opens : Result Rest Ground → Opened → Type 0
  Opens (Err g) (refused_by k) = number_of_ground g ≡ k
  Opens (Err g) (rest_of z) = ⊥
  Opens (Ok r) (refused_by k) = ⊥
  Opens (Ok r) (rest_of z) = OpensTo rows ws own words r z

-- where it answers a rest, the other memories fit
abbrev pub OpenOk : List ℤ → List ℤ → Bool → List ℕ → List ℕ → Result Rest Ground → Type 0
OpenOk rows ws fits own words r = Opens rows ws own words r (opened rows ws fits)
