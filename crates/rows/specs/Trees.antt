-- Rows read as trees: `ReadsCode rs i c` says that row i is the task c, `ReadsExp` and `ReadsType` likewise. A cell is named
-- by its row. Rests on Rows and on the calculus' syntax and typing.
-- Believed.
use Rattle.std.specs.Prelude.{List, [], ◌∷◌, ◌++◌, ℕ, zero, suc, ◌-◌, ◌<◌, eqb, get_or}
use Rattle.std.specs.Int.{w32}
use Rattle.std.proofs.Common.{to_z}
use Rattle.tophat.specs.Syntax.{Ty, unit, truth, number, pair, Op, sum, difference, product, less, less_equal, equal, and_op, or_op}
use Rattle.tophat.specs.Syntax.{Exp, eunit, etruth, enumber, ebinder, eop, eif, epair, efst, esnd, ederef, eassign, elet}
use Rattle.tophat.specs.Syntax.{Code, edit, enter, update, then, next, fail, and, or, xor, view, gate, if, let', vunit, vtruth, vnumber, Store}
use Rattle.tophat.specs.Typing.{CodeType}
use Rattle.rows.specs.Kinds.{type_k, unit_k, truth_k, number_k, pair_k, cell_k, plain_k, eunit_k, etruth_k, enumber_k, ebinder_k, eop_k, epair_k, efst_k, esnd_k, ederef_k, eassign_k}
use Rattle.rows.specs.Kinds.{either_k, if_k, let_k, task_k, edit_k, enter_k, update_k, then_k, next_k, fail_k, and_k, or_k, xor_k, view_k, gate_k}
use Rattle.rows.specs.Rows.{OfKind, op_a, op_b, op_c}

-- operators by number
abbrev pub operators : List Op
operators = sum ∷ sum ∷ difference ∷ product ∷ less ∷ less_equal ∷ equal ∷ and_op ∷ or_op ∷ []

unfoldable pub operator_of : ℕ → Op
operator_of o = get_or operators o sum

module _ (rs : List ℕ) where
  pub data ReadsType : ℕ → Ty → Type 0 where
    r_unit : {i : ℕ} → OfKind rs i (type_k unit_k) → ReadsType i unit
    r_truth : {i : ℕ} → OfKind rs i (type_k truth_k) → ReadsType i truth
    r_number : {i : ℕ} → OfKind rs i (type_k number_k) → ReadsType i number
    r_pair : {i : ℕ} {τ υ : Ty} → OfKind rs i (type_k pair_k) → op_a rs i < i → op_b rs i < i
        → ReadsType (op_a rs i) τ → ReadsType (op_b rs i) υ → ReadsType i (pair τ υ)

  -- row i is a cell of the type
  pub data ReadsCell : ℕ → Ty → Type 0 where
    r_cell : {i : ℕ} {τ : Ty} → OfKind rs i cell_k → op_a rs i < i → ReadsType (op_a rs i) τ → ReadsCell i τ

  pub data ReadsExp : ℕ → Exp → Type 0 where
    r_eunit : {i : ℕ} → OfKind rs i (plain_k eunit_k) → ReadsExp i eunit
    r_etruth : {i : ℕ} → OfKind rs i (plain_k etruth_k) → ReadsExp i (etruth (eqb (op_a rs i) 1))
    r_enumber : {i : ℕ} → OfKind rs i (plain_k enumber_k) → ReadsExp i (enumber (to_z w32 (op_a rs i)))
    r_ebinder : {i : ℕ} → OfKind rs i (plain_k ebinder_k) → ReadsExp i (ebinder (op_a rs i))
    r_eop : {i : ℕ} {b c : Exp} → OfKind rs i (plain_k eop_k) → op_b rs i < i → op_c rs i < i
        → ReadsExp (op_b rs i) b → ReadsExp (op_c rs i) c → ReadsExp i (eop (operator_of (op_a rs i)) b c)
    r_eif : {i : ℕ} {a b c : Exp} → OfKind rs i (either_k if_k) → op_a rs i < i → op_b rs i < i → op_c rs i < i
        → ReadsExp (op_a rs i) a → ReadsExp (op_b rs i) b → ReadsExp (op_c rs i) c → ReadsExp i (eif a b c)
    r_epair : {i : ℕ} {a b : Exp} → OfKind rs i (plain_k epair_k) → op_a rs i < i → op_b rs i < i
        → ReadsExp (op_a rs i) a → ReadsExp (op_b rs i) b → ReadsExp i (epair a b)
    r_efst : {i : ℕ} {a : Exp} → OfKind rs i (plain_k efst_k) → op_a rs i < i → ReadsExp (op_a rs i) a → ReadsExp i (efst a)
    r_esnd : {i : ℕ} {a : Exp} → OfKind rs i (plain_k esnd_k) → op_a rs i < i → ReadsExp (op_a rs i) a → ReadsExp i (esnd a)
    r_ederef : {i : ℕ} {τ : Ty} → OfKind rs i (plain_k ederef_k) → op_a rs i < i → ReadsCell (op_a rs i) τ → ReadsExp i (ederef (op_a rs i))
    r_eassign : {i : ℕ} {b : Exp} {τ : Ty} → OfKind rs i (plain_k eassign_k) → op_a rs i < i → op_b rs i < i
        → ReadsCell (op_a rs i) τ → ReadsExp (op_b rs i) b → ReadsExp i (eassign (op_a rs i) b)
    r_elet : {i : ℕ} {a b : Exp} → OfKind rs i (either_k let_k) → op_a rs i < i → op_b rs i < i
        → ReadsExp (op_a rs i) a → ReadsExp (op_b rs i) b → ReadsExp i (elet a b)

  pub data ReadsCode : ℕ → Code → Type 0 where
    r_edit : {i : ℕ} {a : Exp} → OfKind rs i (task_k edit_k) → op_a rs i < i → ReadsExp (op_a rs i) a → ReadsCode i (edit a)
    r_enter : {i : ℕ} {τ : Ty} → OfKind rs i (task_k enter_k) → op_a rs i < i → ReadsType (op_a rs i) τ → ReadsCode i (enter τ)
    r_update : {i : ℕ} {τ : Ty} → OfKind rs i (task_k update_k) → op_a rs i < i → ReadsCell (op_a rs i) τ → ReadsCode i (update (op_a rs i))
    r_then : {i : ℕ} {a b : Code} → OfKind rs i (task_k then_k) → op_a rs i < i → op_b rs i < i
        → ReadsCode (op_a rs i) a → ReadsCode (op_b rs i) b → ReadsCode i (then a b)
    r_next : {i : ℕ} {a b : Code} → OfKind rs i (task_k next_k) → op_a rs i < i → op_b rs i < i
        → ReadsCode (op_a rs i) a → ReadsCode (op_b rs i) b → ReadsCode i (next a b)
    r_fail : {i : ℕ} {τ : Ty} → OfKind rs i (task_k fail_k) → op_a rs i < i → ReadsType (op_a rs i) τ → ReadsCode i (fail τ)
    r_and : {i : ℕ} {a b : Code} → OfKind rs i (task_k and_k) → op_a rs i < i → op_b rs i < i
        → ReadsCode (op_a rs i) a → ReadsCode (op_b rs i) b → ReadsCode i (and a b)
    r_or : {i : ℕ} {a b : Code} → OfKind rs i (task_k or_k) → op_a rs i < i → op_b rs i < i
        → ReadsCode (op_a rs i) a → ReadsCode (op_b rs i) b → ReadsCode i (or a b)
    r_xor : {i : ℕ} {a b : Code} → OfKind rs i (task_k xor_k) → op_a rs i < i → op_b rs i < i
        → ReadsCode (op_a rs i) a → ReadsCode (op_b rs i) b → ReadsCode i (xor a b)
    r_view : {i : ℕ} {a : Exp} → OfKind rs i (task_k view_k) → op_a rs i < i → ReadsExp (op_a rs i) a → ReadsCode i (view a)
    r_gate : {i : ℕ} {b : Code} → OfKind rs i (task_k gate_k) → op_b rs i < i → ReadsCode (op_b rs i) b → ReadsCode i (gate (op_a rs i) (op_c rs i) b)
    r_if : {i : ℕ} {a : Exp} {b c : Code} → OfKind rs i (either_k if_k) → op_a rs i < i → op_b rs i < i → op_c rs i < i
        → ReadsExp (op_a rs i) a → ReadsCode (op_b rs i) b → ReadsCode (op_c rs i) c → ReadsCode i (if a b c)
    r_let : {i : ℕ} {a : Exp} {b : Code} → OfKind rs i (either_k let_k) → op_a rs i < i → op_b rs i < i
        → ReadsExp (op_a rs i) a → ReadsCode (op_b rs i) b → ReadsCode i (let' a b)

-- the cells of n rows: at a cell's row its type and its first content, at any other row unit
pub data Cells (rs : List ℕ) : ℕ → List Ty → Store → Type 0 where
  c_none : Cells rs zero [] []
  c_truth : {i : ℕ} {Σ : List Ty} {s : Store} → Cells rs i Σ s → ReadsCell rs i truth → Cells rs (suc i) (Σ ++ truth ∷ []) (s ++ vtruth (eqb (op_b rs i) 1) ∷ [])
  c_number : {i : ℕ} {Σ : List Ty} {s : Store} → Cells rs i Σ s → ReadsCell rs i number → Cells rs (suc i) (Σ ++ number ∷ []) (s ++ vnumber (to_z w32 (op_b rs i)) ∷ [])
  c_other : {i : ℕ} {Σ : List Ty} {s : Store} → Cells rs i Σ s → (OfKind rs i cell_k → ⊥) → Cells rs (suc i) (Σ ++ unit ∷ []) (s ++ vunit ∷ [])

-- the n rows are a flow: its code, its cells, and its own type, which typing gives the last row (01)
pub record Flow (rs : List ℕ) (n : ℕ) (c : Code) (Σ : List Ty) (s : Store) (τ : Ty) : Type 0 where
  pub code : ReadsCode rs (n - 1) c
  pub cells : Cells rs n Σ s
  pub typed : CodeType Σ [] c τ
