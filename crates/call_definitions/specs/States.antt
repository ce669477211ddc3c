-- What a state of a flow is: a task of a code, and a store (01, "A task of a row is"). The code is the flow's own; where the flow's start left
-- the words it is 45 of the flow's type (CR 3), so that all that the rules say of a state they say of that code's task. Here that is said once,
-- for whatever speaks of states. Rests on the calculus' relations.
-- Believed.
use Rattle.std.specs.Prelude.{Bool, List, []}
use Rattle.std.proofs.Math.Option.{Option}
use Rattle.decimal.specs.Path.{Path}
use Rattle.tophat.specs.Syntax.{Ty, Code, fail, TaskOf, failed, Val, Store}
use Rattle.tophat.specs.Typing.{TaskType, ValueTypes}
use Rattle.tophat.specs.Normalising.{value, Fails, Normalises}
use Rattle.tophat.specs.Quiet.{Quiet}
use Rattle.tophat.specs.Roles.{Gate, Who, anyone}
use Rattle.tophat.specs.Handling.{Action, Handles}
use Rattle.tophat.specs.Showing.{Entry, Shows}
use Rattle.tophat.specs.Runs.{Accepts, Refuses}

pub record FlowState : Type 0 where
  pub code : Code
  pub task : TaskOf code
  pub store : Store

-- a task of c, and 45 of the type τ
abbrev pub task_state : (c : Code) → TaskOf c → Store → FlowState
task_state c t s = record { code = c; task = t; store = s }

abbrev pub failed_state : Ty → Store → FlowState
failed_state τ s = record { code = fail τ; task = failed; store = s }

-- its task is of the type τ, and its store of the cells' types
abbrev pub TypedState : List Ty → Ty → FlowState → Type 0
TypedState Σ τ z = TaskType Σ [] z.code z.task τ × ValueTypes z.store Σ

-- 01: "A rest is a state of it that normalising does not change"
abbrev pub AtRest : FlowState → Type 0
AtRest z = Normalises z.code [] z.store z.task z.task z.store 1

abbrev pub value_in : FlowState → Option Val
value_in z = value z.code z.task z.store

abbrev pub FailsIn : FlowState → Bool → Type 0
FailsIn z x = Fails z.code [] z.store z.task x

abbrev pub QuietIn : FlowState → Type 0
QuietIn z = Quiet z.code [] z.store z.task

-- of a role, or of anyone (CR 6)
abbrev pub ShowsIn : Who → FlowState → List Entry → Type 0
ShowsIn w z es = Shows w z.code [] z.store z.task es

abbrev pub AcceptsIn : Who → FlowState → Path → Action → Type 0
AcceptsIn w z p x = Accepts w z.code z.task z.store p x

-- no handling rule derives a step, roles and touches aside
abbrev pub RefusesIn : FlowState → Path → Action → Type 0
RefusesIn z p x = Refuses anyone z.code z.task z.store p x

-- one derives a step, which passes these rows of kind 50, outermost first
abbrev pub PassesIn : FlowState → Path → Action → List Gate → Type 0
PassesIn z p x gs = (t₁ : TaskOf z.code) × (s₁ : Store) × Handles z.code [] z.store z.task p x t₁ s₁ gs
