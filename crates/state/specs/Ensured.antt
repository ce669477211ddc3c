-- What the engine's functions ensure, for whatever the rows and words read as: they give what the calculus' functions give,
-- and change nothing else. `..At` is at one code, `..Ok` at whatever code sits at the row. Rests on Holds.
-- For contracts only: it names the calculus' functions, which tophat's proofs tie to the rules.
use Rattle.std.specs.Prelude.{◌≡◌, Bool, List, ℕ, ◌<◌, ◌≤◌}
use Rattle.std.proofs.Math.Option.{Option, none, some}
use Rattle.decimal.specs.Path.{Path}
use Rattle.tophat.specs.Syntax.{Ty, Exp, Code, Val, TaskOf, Env, Store}
use Rattle.tophat.specs.Typing.{HasType, CodeType, TaskType, ValueTypes, AllSmall}
use Rattle.tophat.specs.Normalising.{value}
use Rattle.tophat.specs.Roles.{verdict}
use Rattle.tophat.specs.Handling.{Action}
use Rattle.tophat.proofs.ComputeEvaluation.{eval, overflows, evaluate, overflows_task}
use Rattle.tophat.proofs.ComputeNormalising.{failing, stride, normalise}
use Rattle.tophat.proofs.ComputeHandling.{Taken, handle}
use Rattle.rows.specs.GroundNumbers.{not_handled}
use Rattle.rows.specs.Rows.{max_rows, LowWords}
use Rattle.rows.specs.Enclosing.{max_binders}
use Rattle.value.specs.declared.Evaluation.{Evaluation}
use Rattle.value.specs.Values.{as_value}
use Rattle.value.specs.Found.{Found, as_found}
use Rattle.state.specs.Holds.{SitsExp, Sits, tree_of, Foot, Clear, Holds, Cell, Stores, Same, World, Ran}

-- ---- what safety asks: a row, at most 16 binders, and operands that are lower

pub record Fine (rs : List ℕ) (row depth : ℕ) : Type 0 where
  pub low : row < max_rows
  pub room : depth ≤ max_binders
  pub lower : (i : ℕ) → i < max_rows → LowWords rs i

-- ---- plain expressions

-- the value v and the store s, and whether a result left the words on the way (CR 3)
pub record Evaluated (rs ws ws₁ : List ℕ) (r : Evaluation) (v : Val) (s : Store) (x : Bool) : Type 0 where
  pub answer : r.value ≡ as_value v
  pub over : r.over ≡ x
  pub stores : Stores rs ws₁ s
  pub same : Same (Cell rs) ws ws₁

module _ (rs ws ws₁ : List ℕ) (i : ℕ) (env : List ℕ) (d : ℕ) where
  abbrev pub EvalAt : Evaluation → Exp → Type 0
  EvalAt r e = (Σ Γ : List Ty) (τ : Ty) (s : Store) (ρ : Env) → HasType Σ Γ e τ → World rs ws env d Σ Γ s ρ → Evaluated rs ws ws₁ r (eval e ρ s).0 (eval e ρ s).1 (overflows e ρ s)

  abbrev pub EvalOk : Evaluation → Type 0
  EvalOk r = (e : Exp) → SitsExp rs d i e → EvalAt r e

  -- ---- tasks

  -- whatever it answers, the words are those of `evaluate`, which goes on with 0 for a result that is no word
  abbrev pub EvaluateAt : Bool → Code → Type 0
  EvaluateAt r c = (Σ Γ : List Ty) (τ : Ty) (s : Store) (ρ : Env) → CodeType Σ Γ c τ → World rs ws env d Σ Γ s ρ → Clear rs ws i (tree_of c)
      → Ran rs ws ws₁ i c (evaluate c ρ s).0 (evaluate c ρ s).1 × (r ≡ overflows_task c ρ s)

  abbrev pub EvaluateOk : Bool → Type 0
  EvaluateOk r = (c : Code) → Sits rs d i c → EvaluateAt r c

  abbrev pub StrideAt : Bool → Code → Type 0
  StrideAt r c = (Σ Γ : List Ty) (τ : Ty) (s : Store) (ρ : Env) (t : TaskOf c) → TaskType Σ Γ c t τ → World rs ws env d Σ Γ s ρ → Holds rs ws i c t
      → Ran rs ws ws₁ i c (stride c ρ s t).0 (stride c ρ s t).1 × (r ≡ (stride c ρ s t).2)

  abbrev pub StrideOk : Bool → Type 0
  StrideOk r = (c : Code) → Sits rs d i c → StrideAt r c

  abbrev pub NormaliseAt : ℕ → Code → Type 0
  NormaliseAt r c = (Σ Γ : List Ty) (τ : Ty) (s : Store) (ρ : Env) (t : TaskOf c) → TaskType Σ Γ c t τ → World rs ws env d Σ Γ s ρ → Holds rs ws i c t
      → Ran rs ws ws₁ i c (normalise c ρ s t).0 (normalise c ρ s t).1 × (r ≡ (normalise c ρ s t).2)

  abbrev pub NormaliseOk : ℕ → Type 0
  NormaliseOk r = (c : Code) → Sits rs d i c → NormaliseAt r c

  -- no step derived, with every word as it was, or the words of the step that is, and the verdict of the rows of kind 50 passed (CR 6)
  abbrev pub Handled : (c : Code) → (role r : ℕ) → Option (Taken (TaskOf c)) → Type 0
  Handled c role r none = (r ≡ not_handled) × (ws₁ ≡ ws)
  Handled c role r (some q) = (r ≡ verdict role q.2) × Ran rs ws ws₁ i c q.0 q.1

  abbrev pub HandleAt : ℕ → Path → Action → ℕ → Code → Type 0
  HandleAt role p x r c = (Σ Γ : List Ty) (τ : Ty) (s : Store) (ρ : Env) (t : TaskOf c) → TaskType Σ Γ c t τ → World rs ws env d Σ Γ s ρ → Holds rs ws i c t
      → Handled c role r (handle c ρ s t p x)

  abbrev pub HandleOk : ℕ → Path → Action → ℕ → Type 0
  HandleOk role p x r = (c : Code) → Sits rs d i c → HandleAt role p x r c

-- ---- what reads the words and leaves them

module _ (rs ws : List ℕ) (i : ℕ) where
  abbrev pub ValueAt : Found → Code → Type 0
  ValueAt r c = (Σ Γ : List Ty) (τ : Ty) (s : Store) (t : TaskOf c) → TaskType Σ Γ c t τ → ValueTypes s Σ → AllSmall Σ → AllSmall Γ → Holds rs ws i c t → Stores rs ws s → r ≡ as_found (value c t s)

  abbrev pub ValueOk : Found → Type 0
  ValueOk r = (d : ℕ) (c : Code) → Sits rs d i c → ValueAt r c

  abbrev pub FailingAt : List ℕ → ℕ → Bool → Code → Type 0
  FailingAt env d r c = (Σ Γ : List Ty) (τ : Ty) (s : Store) (ρ : Env) (t : TaskOf c) → TaskType Σ Γ c t τ → World rs ws env d Σ Γ s ρ → Holds rs ws i c t → r ≡ failing c ρ s t

  abbrev pub FailingOk : List ℕ → ℕ → Bool → Type 0
  FailingOk env d r = (c : Code) → Sits rs d i c → FailingAt env d r c

-- ---- clearing the rows of a task

abbrev pub ClearOk : List ℕ → List ℕ → List ℕ → ℕ → Type 0
ClearOk rs ws ws₁ i = (d : ℕ) (c : Code) → Sits rs d i c → Clear rs ws₁ i (tree_of c) × Same (Foot rs i (tree_of c)) ws ws₁
