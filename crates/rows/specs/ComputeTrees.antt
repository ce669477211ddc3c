-- The readings of Trees as functions that compute, from below: at most n readings deep. Rests on Trees.
-- For contracts only: tied to Trees by `code_is` and `cells_are` (proofs/TreesAgree) and `code_read` (proofs/CodeRead).
use Rattle.std.specs.Prelude.{cond, List, [], ◌∷◌, ◌++◌, ℕ, zero, suc, eqb}
use Rattle.std.proofs.Math.Option.{Option, none, some, bind}
use Rattle.std.specs.Int.{w32}
use Rattle.std.proofs.Common.{to_z}
use Rattle.tophat.specs.Syntax.{Ty, unit, truth, number, pair, Exp, eunit, etruth, enumber, ebinder, eop, eif, epair, efst, esnd, ederef, eassign, elet}
use Rattle.tophat.specs.Syntax.{Code, edit, enter, update, then, next, fail, and, or, xor, view, gate, if, let', Val, vunit, vtruth, vnumber, Store}
use Rattle.rows.specs.Kinds.{Kind, type_k, unit_k, truth_k, number_k, pair_k, cell_k, plain_k, eunit_k, etruth_k, enumber_k, ebinder_k, eop_k, epair_k, efst_k, esnd_k, ederef_k, eassign_k}
use Rattle.rows.specs.Kinds.{either_k, if_k, let_k, task_k, edit_k, enter_k, update_k, then_k, next_k, fail_k, and_k, or_k, xor_k, view_k, gate_k}
use Rattle.rows.specs.Rows.{kind_at, is_kind, op_a, op_b, op_c}
use Rattle.rows.specs.Trees.{operator_of}

-- ---- a row of a kind with operands a, b, c, where `type`, `exp` and `code` read the rows below

abbrev pub type_by : (ℕ → Option Ty) → ℕ → ℕ → Kind → Option Ty
type_by type a b (type_k unit_k) = some unit
type_by type a b (type_k truth_k) = some truth
type_by type a b (type_k number_k) = some number
type_by type a b (type_k pair_k) = bind (type a) λ τ. bind (type b) λ υ. some (pair τ υ)
type_by type a b cell_k = none
type_by type a b (plain_k k) = none
type_by type a b (either_k k) = none
type_by type a b (task_k k) = none

abbrev pub exp_by : (ℕ → Option Exp) → ℕ → ℕ → ℕ → Kind → Option Exp
exp_by exp a b c (plain_k eunit_k) = some eunit
exp_by exp a b c (plain_k etruth_k) = some (etruth (eqb a 1))
exp_by exp a b c (plain_k enumber_k) = some (enumber (to_z w32 a))
exp_by exp a b c (plain_k ebinder_k) = some (ebinder a)
exp_by exp a b c (plain_k eop_k) = bind (exp b) λ y. bind (exp c) λ z. some (eop (operator_of a) y z)
exp_by exp a b c (plain_k epair_k) = bind (exp a) λ x. bind (exp b) λ y. some (epair x y)
exp_by exp a b c (plain_k efst_k) = bind (exp a) λ x. some (efst x)
exp_by exp a b c (plain_k esnd_k) = bind (exp a) λ x. some (esnd x)
exp_by exp a b c (plain_k ederef_k) = some (ederef a)
exp_by exp a b c (plain_k eassign_k) = bind (exp b) λ y. some (eassign a y)
exp_by exp a b c (either_k if_k) = bind (exp a) λ x. bind (exp b) λ y. bind (exp c) λ z. some (eif x y z)
exp_by exp a b c (either_k let_k) = bind (exp a) λ x. bind (exp b) λ y. some (elet x y)
exp_by exp a b c (type_k k) = none
exp_by exp a b c cell_k = none
exp_by exp a b c (task_k k) = none

abbrev pub code_by : (ℕ → Option Ty) → (ℕ → Option Exp) → (ℕ → Option Code) → ℕ → ℕ → ℕ → Kind → Option Code
code_by type exp code a b c (task_k edit_k) = bind (exp a) λ x. some (edit x)
code_by type exp code a b c (task_k enter_k) = bind (type a) λ τ. some (enter τ)
code_by type exp code a b c (task_k update_k) = some (update a)
code_by type exp code a b c (task_k then_k) = bind (code a) λ x. bind (code b) λ y. some (then x y)
code_by type exp code a b c (task_k next_k) = bind (code a) λ x. bind (code b) λ y. some (next x y)
code_by type exp code a b c (task_k fail_k) = bind (type a) λ τ. some (fail τ)
code_by type exp code a b c (task_k and_k) = bind (code a) λ x. bind (code b) λ y. some (and x y)
code_by type exp code a b c (task_k or_k) = bind (code a) λ x. bind (code b) λ y. some (or x y)
code_by type exp code a b c (task_k xor_k) = bind (code a) λ x. bind (code b) λ y. some (xor x y)
code_by type exp code a b c (task_k view_k) = bind (exp a) λ x. some (view x)
code_by type exp code a b c (task_k gate_k) = bind (code b) λ y. some (gate a c y)
code_by type exp code a b c (either_k if_k) = bind (exp a) λ x. bind (code b) λ y. bind (code c) λ z. some (if x y z)
code_by type exp code a b c (either_k let_k) = bind (exp a) λ x. bind (code b) λ y. some (let' x y)
code_by type exp code a b c (type_k k) = none
code_by type exp code a b c cell_k = none
code_by type exp code a b c (plain_k k) = none

-- a cell's first content, by its type and its word
unfoldable pub content_of : Ty → ℕ → Val
content_of unit w = vunit
content_of truth w = vtruth (eqb w 1)
content_of number w = vnumber (to_z w32 w)
content_of (pair τ υ) w = vunit

-- ---- row i

module _ (rs : List ℕ) where
  unfoldable pub type_at : ℕ → ℕ → Option Ty
  type_at zero i = none
  type_at (suc n) i = bind (kind_at rs i) (type_by (λ j. type_at n j) (op_a rs i) (op_b rs i))

  unfoldable pub exp_at : ℕ → ℕ → Option Exp
  exp_at zero i = none
  exp_at (suc n) i = bind (kind_at rs i) (exp_by (λ j. exp_at n j) (op_a rs i) (op_b rs i) (op_c rs i))

  unfoldable pub code_at : ℕ → ℕ → Option Code
  code_at zero i = none
  code_at (suc n) i = bind (kind_at rs i) (code_by (λ j. type_at n j) (λ j. exp_at n j) (λ j. code_at n j) (op_a rs i) (op_b rs i) (op_c rs i))

  -- the type of what a cell holds, by the kind of its type row
  abbrev pub content_type : ℕ → Ty
  content_type i = cond (is_kind rs (op_a rs i) (type_k truth_k)) truth number

  -- of each row, unit where it is no cell
  unfoldable pub cell_type : ℕ → Ty
  cell_type i = cond (is_kind rs i cell_k) (content_type i) unit

  unfoldable pub cell_types : ℕ → List Ty
  cell_types zero = []
  cell_types (suc i) = cell_types i ++ cell_type i ∷ []

  -- the store at the start
  unfoldable pub first_store : ℕ → Store
  first_store zero = []
  first_store (suc i) = first_store i ++ content_of (cell_type i) (op_b rs i) ∷ []
