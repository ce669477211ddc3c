-- What the functions between failing, normalise and stride ensure: a branch evaluated and normalised (01: "So whether a task fails
-- depends on normal forms"), and the right side of a step tried under a value. Rests on crate state's contracts.
-- For contracts only: it names the calculus' functions, which tophat's NormalisingSound and NormalisingComplete tie to the rules.
use Rattle.std.specs.Prelude.{◌≡◌, Bool, true, false, ◌⊎◌, List, ◌∷◌, ℕ, ◌+◌}
use Rattle.tophat.specs.Syntax.{Ty, Code, then, next, Val, TaskOf, before, after, Env, Store}
use Rattle.tophat.specs.Typing.{CodeType, TaskType, ValueType}
use Rattle.tophat.proofs.ComputeEvaluation.{evaluate}
use Rattle.tophat.proofs.ComputeNormalising.{settle, right_fails, branch_fails}
use Rattle.rows.specs.Rows.{max_rows}
use Rattle.value.specs.declared.Value.{Value}
use Rattle.value.specs.Values.{as_value}
use Rattle.state.specs.Holds.{tree_of, Sits, Clear, Holds, Same, Area, World, Ran}

-- a call of normalise strides at most one time more than there are rows
abbrev pub max_strides : ℕ
max_strides = max_rows + 1

-- ---- branches

module _ (rs ws : List ℕ) (i : ℕ) (env : List ℕ) (d : ℕ) where
  -- r tells whether the branch fails; where it does not, it is left settled; and nothing differs but its rows and the cells
  abbrev pub SettleOk : List ℕ → Bool → Type 0
  SettleOk ws₁ r = (c : Code) → Sits rs d i c → (Σ Γ : List Ty) (τ : Ty) (s : Store) (ρ : Env) → CodeType Σ Γ c τ → World rs ws env d Σ Γ s ρ → Clear rs ws i (tree_of c)
      → (r ≡ branch_fails c ρ s) × (r ≡ false → Ran rs ws ws₁ i c (settle c ρ s).0 (settle c ρ s).1) × Same (Area rs i c) ws ws₁

  -- r tells whether the branch would fail
  abbrev pub TriedOk : Bool → Type 0
  TriedOk r = (c : Code) → Sits rs d i c → (Σ Γ : List Ty) (τ : Ty) (s : Store) (ρ : Env) → CodeType Σ Γ c τ → World rs ws env d Σ Γ s ρ → Clear rs ws i (tree_of c)
      → r ≡ branch_fails c ρ s

-- ---- steps

-- of either kind, 43 or 44: a task of the one has the words of a task of the other
abbrev pub SitsStep : List ℕ → ℕ → ℕ → Code → Code → Type 0
SitsStep rs d i a b = Sits rs d i (then a b) ⊎ Sits rs d i (next a b)

module _ (rs ws ws₁ : List ℕ) (i : ℕ) (env : List ℕ) (d : ℕ) where
  -- where b, evaluated, fails, every word is as it was; else the step has gone on under v
  abbrev pub Attempted : Bool → (a b : Code) → Val → TaskOf b × Store → Bool → Type 0
  Attempted r a b v q true = (r ≡ false) × (ws₁ ≡ ws)
  Attempted r a b v q false = (r ≡ true) × Ran rs ws ws₁ i (then a b) (after v q.0) q.1

  abbrev pub AttemptOk : Value → Bool → Type 0
  AttemptOk x r = (a b : Code) → SitsStep rs d i a b → (Σ Γ : List Ty) (τ υ : Ty) (s : Store) (ρ : Env) (t : TaskOf a) (v : Val) → x ≡ as_value v → ValueType v τ
      → TaskType Σ Γ a t τ → CodeType Σ (τ ∷ Γ) b υ → World rs ws env d Σ Γ s ρ → Holds rs ws i (then a b) (before t)
      → Attempted r a b v (evaluate b (v ∷ ρ) s) (right_fails b (v ∷ ρ) s)
