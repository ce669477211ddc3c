-- What the functions below `look` leave: number, flags, the part's length, value memory and list memory, as the definition has
-- them. Rests on Calls and Opens.
-- Believed: `shown`, `Filled` and `LookOk`, which the contracts of the call name. The rest is for contracts only: tied to `look_call` by the proof of `fill`.
use Rattle.std.specs.Prelude.{◌≡◌, Bool, true, false, List, [], ℕ, ◌*◌, leb, ℤ, length, replicate, Result, Ok}
use Rattle.std.specs.Result.{result_unwrap_or}
use Rattle.tophat.specs.Syntax.{max_leaves, Ty, Code, TaskOf, Store}
use Rattle.tophat.specs.Roles.{is_role, is}
use Rattle.tophat.proofs.ComputeEntries.{entries}
use Rattle.rows.specs.declared.ground.Ground.{Ground}
use Rattle.rows.specs.GroundNumbers.{answer_number}
use Rattle.rows.specs.Enclosing.{max_binders}
use Rattle.state.specs.Holds.{value_length}
use Rattle.state.specs.Ensured.{FailingOk}
use Rattle.formats.specs.Touches.{entry_bytes}
use Rattle.flow.specs.declared.look.Looked.{Looked}
use Rattle.call_definitions.specs.Memory.{LookAnswer, flag}
use Rattle.call_definitions.specs.States.{task_state, failed_state}
use Rattle.call_definitions.specs.Calls.{look_rest}
use Rattle.flow.specs.Opens.{Ready}

-- what a rest shows by an answer: flags 0 and an empty part where it is refused
abbrev pub shown : Result Looked Ground → Looked
shown r = result_unwrap_or r (record { valued = false; fails = false; bytes = 0 })

pub record Filled (a : LookAnswer) (r : Result Looked Ground) (vs : List ℤ) (bs : List ℕ) : Type 0 where
  pub number : answer_number r ≡ a.number
  pub has_value : flag (shown r).valued ≡ a.has_value
  pub fails : flag (shown r).fails ≡ a.fails
  pub bytes : (shown r).bytes ≡ length a.part
  pub value : vs ≡ a.value
  pub list : bs ≡ a.list

-- whether a rest that shows so many bytes fails: asked where it shows none, else no
abbrev pub FailsOk : List ℕ → List ℕ → ℕ → ℕ → Bool → Type 0
FailsOk own words i bytes r = (bytes ≡ 0 → FailingOk own words i (replicate (max_binders * value_length) 0) 0 r) × ((bytes ≡ 0 → ⊥) → r ≡ false)

-- whether so many bytes are room for what a role is shown of a rest that is opened
abbrev pub RoomOk : List ℕ → List ℕ → ℕ → ℕ → ℕ → Bool → Type 0
RoomOk own words n role room r = (rows ws : List ℤ) (c : Code) (t : TaskOf c) (s : Store) → Ready rows ws own words n c t s → is_role role ≡ true
    → r ≡ leb (length (entries (is role) c [] s t) * entry_bytes) room

-- what is shown to a role of a rest that is opened
abbrev pub ShowOk : List ℕ → List ℕ → ℕ → ℕ → List ℤ → List ℕ → Result Looked Ground → List ℤ → List ℕ → Type 0
ShowOk own words n role vs list r vs₁ list₁ = (rows ws : List ℤ) (c : Code) (t : TaskOf c) (s : Store) → Ready rows ws own words n c t s → length vs ≡ max_leaves → is_role role ≡ true
    → Filled (look_rest role vs list (task_state c t s)) r vs₁ list₁

-- and of a last row that failed as a whole, to every role
abbrev pub ShowFailedOk : List ℤ → Looked → List ℤ → Type 0
ShowFailedOk vs r vs₁ = (role : ℕ) (τ : Ty) (s : Store) (list : List ℕ) → length vs ≡ max_leaves → Filled (look_rest role vs list (failed_state τ s)) (Ok r) vs₁ list

-- what `look` answers: the part that it hands back, number and flags, and the value memory at exit
pub record LookOk (a : LookAnswer) (part : List ℕ) (number valued fails : ℕ) (vs : List ℤ) : Type 0 where
  pub part_is : part ≡ a.part
  pub number_is : number ≡ a.number
  pub valued_is : valued ≡ a.has_value
  pub fails_is : fails ≡ a.fails
  pub value_is : vs ≡ a.value
