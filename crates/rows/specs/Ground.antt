-- Which ground n rows get (01, "Grounds in the input", "Order"): the first of 3 to 7 that holds over all of them, 0 if none does; by the
-- rules, and as a function, which gives what they derive (proofs/GroundZero). Rests on Rows, Enclosing and Trees, and on the calculus' typing.
-- Believed: by the rules. The function is for contracts only: tied to them by `ground_derived` and `ground_only` (proofs/GroundZero).
use Rattle.std.specs.Prelude.{◌≡◌, Bool, true, false, ◌&&◌, List, [], ℕ, ◌-◌, ◌<◌, ◌≤◌}
use Rattle.std.proofs.Math.Option.{Option, none, some, bind}
use Rattle.tophat.specs.Syntax.{max_leaves, Ty, leaves, Code, Store}
use Rattle.tophat.specs.Typing.{CodeType}
use Rattle.tophat.proofs.ComputeTyping.{infer_task}
use Rattle.rows.specs.GroundNumbers.{not_listed, not_sorted, not_named, not_small, not_typed}
use Rattle.rows.specs.Rows.{every, row_listed, row_sorted, named_once, last_fits}
use Rattle.rows.specs.Enclosing.{max_binders, max_marks, Under, row_small}
use Rattle.rows.specs.Trees.{ReadsType, ReadsCode, Cells, Flow}
use Rattle.rows.specs.ComputeTrees.{code_at, cell_types}

-- ---- by the rules

-- grounds 3, 4 and 5 do not hold
unfoldable pub passes3 : List ℕ → ℕ → Bool
passes3 rs n = every n (λ i. row_listed rs i)

unfoldable pub passes4 : List ℕ → ℕ → Bool
passes4 rs n = every n (λ i. row_sorted rs i)

unfoldable pub passes5 : List ℕ → ℕ → Bool
passes5 rs n = every n (λ i. named_once rs n i) && last_fits rs (n - 1)

pub record WellFormed (rs : List ℕ) (n : ℕ) : Type 0 where
  pub listed : passes3 rs n ≡ true
  pub sorted : passes4 rs n ≡ true
  pub named : passes5 rs n ≡ true

-- nor ground 6: types of at most 8 leaves, and never more than 16 binders or marks around a row
pub record Small (rs : List ℕ) (n : ℕ) : Type 0 where
  pub types : {i : ℕ} {τ : Ty} → i < n → ReadsType rs i τ → leaves τ ≤ max_leaves
  pub binders : {j i b m : ℕ} → j < n → Under rs j i b m → b ≤ max_binders
  pub marks : {j i b m : ℕ} → j < n → Under rs j i b m → m ≤ max_marks

-- nor 7: the rows are a flow, of some code, cells, store and type
pub record IsFlow (rs : List ℕ) (n : ℕ) : Type 0 where
  pub code : Code
  pub cells : List Ty
  pub store : Store
  pub type : Ty
  pub flow : Flow rs n code cells store type

-- ground 7: no code that the last row reads as has a typing derivation, whether it is no task or there is no rule for it
abbrev pub Untyped : List ℕ → ℕ → Type 0
Untyped rs n = (c : Code) → ReadsCode rs (n - 1) c → (Σ : List Ty) (s : Store) → Cells rs n Σ s → (τ : Ty) → CodeType Σ [] c τ → ⊥

pub data RowsGround (rs : List ℕ) (n : ℕ) : ℕ → Type 0 where
  rows_3 : passes3 rs n ≡ false → RowsGround rs n not_listed
  rows_4 : passes3 rs n ≡ true → passes4 rs n ≡ false → RowsGround rs n not_sorted
  rows_5 : passes3 rs n ≡ true → passes4 rs n ≡ true → passes5 rs n ≡ false → RowsGround rs n not_named
  rows_6 : WellFormed rs n → (Small rs n → ⊥) → RowsGround rs n not_small
  rows_7 : WellFormed rs n → Small rs n → Untyped rs n → RowsGround rs n not_typed
  rows_0 : WellFormed rs n → Small rs n → IsFlow rs n → RowsGround rs n 0

-- ---- as a function

unfoldable pub passes6 : List ℕ → ℕ → Bool
passes6 rs n = every n (λ i. row_small rs i)

-- the type that typing gives the last row as a task
unfoldable pub flow_type : List ℕ → ℕ → Option Ty
flow_type rs n = bind (code_at rs n (n - 1)) λ c. infer_task (cell_types rs n) [] c

unfoldable pub is_some : {A : Type 0} → Option A → Bool
is_some none = false
is_some (some a) = true

unfoldable pub passes7 : List ℕ → ℕ → Bool
passes7 rs n = is_some (flow_type rs n)

-- the first of grounds 3 to 7 that is not passed, 0 where all are
abbrev pub first_ground : Bool → Bool → Bool → Bool → Bool → ℕ
first_ground false b c d e = not_listed
first_ground true false c d e = not_sorted
first_ground true true false d e = not_named
first_ground true true true false e = not_small
first_ground true true true true false = not_typed
first_ground true true true true true = 0

unfoldable pub ground_of_rows : List ℕ → ℕ → ℕ
ground_of_rows rs n = first_ground (passes3 rs n) (passes4 rs n) (passes5 rs n) (passes6 rs n) (passes7 rs n)
