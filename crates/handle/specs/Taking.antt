-- What the functions of this crate take of an event, and leave: an editor that gets a value, a value that a step goes
-- on with, a side that is picked; and what a row of kind 50 makes of its part's answer (CR 6). Rests on Events and on crate state's terms.
-- For contracts only: tied to the calculus' `handle` by the contract of `handle`.
use Rattle.std.specs.Prelude.{◌≡◌, Bool, true, false, cond, List, [], ◌∷◌, ℕ, ◌-◌, eqb}
use Rattle.std.proofs.Math.Option.{Option, none, some, bind}
use Rattle.decimal.specs.Path.{Path}
use Rattle.tophat.specs.Syntax.{Ty, Code, Val, TaskOf, Env, Store}
use Rattle.tophat.specs.Typing.{CodeType, TaskType, ValueTypes, AllSmall}
use Rattle.tophat.specs.Normalising.{value}
use Rattle.tophat.specs.Roles.{other_role, no_touch}
use Rattle.tophat.specs.Handling.{continue, left, right, Action, give, press}
use Rattle.tophat.proofs.ComputeNormalising.{settle, branch_fails}
use Rattle.tophat.proofs.ComputeHandling.{at_editor}
use Rattle.tophat.specs.Leaves.{given}
use Rattle.rows.specs.GroundNumbers.{not_handled}
use Rattle.rows.specs.Kinds.{task_k, gate_k}
use Rattle.rows.specs.Rows.{OfKind, op_a}
use Rattle.shape.specs.Shape.{as_type}
use Rattle.value.specs.Found.{Found, as_found}
use Rattle.state.specs.Layout.{at, own, value_words, touch_words}
use Rattle.state.specs.Holds.{tree_of, Sits, Clear, Holds, Stores, World, Ran}
use Rattle.state.specs.Words.{Laid}
use Rattle.handle.specs.declared.Event.{Event}
use Rattle.handle.specs.Events.{event_path, event_action}

-- ---- editors

-- the value of the type that an event gives
abbrev pub taken_by : Ty → Event → Option Val
taken_by τ e = at_editor (event_path e) (event_action e) λ ls. given τ ls

-- the value is laid at row i with the tag x; without one every word is as it was
abbrev pub Filled : List ℕ → List ℕ → ℕ → ℕ → Bool → Option Val → Type 0
Filled ws ws₁ i x r none = (r ≡ false) × (ws₁ ≡ ws)
Filled ws ws₁ i x r (some v) = (r ≡ true) × Laid ws ws₁ i (x ∷ value_words v)

-- that of the type whose shape is c, none where c is no type's shape
abbrev pub FillOk : List ℕ → List ℕ → ℕ → ℕ → ℕ → Event → Bool → Type 0
FillOk ws ws₁ i x c e r = Filled ws ws₁ i x r (bind (as_type c) λ τ. taken_by τ e)

-- ---- steps: the value of the left side, where the event is Continue at the path's end

unfoldable pub going_on : Path → Action → Option Val → Option Val
going_on [] (give ls) o = none
going_on [] (press continue) o = o
going_on [] (press left) o = none
going_on [] (press right) o = none
going_on (m ∷ p) x o = none

abbrev pub GoingOk : List ℕ → List ℕ → ℕ → Event → Found → Type 0
GoingOk rs ws i e r = (d : ℕ) (c : Code) → Sits rs d i c → (Σ Γ : List Ty) (τ : Ty) (s : Store) (t : TaskOf c) → TaskType Σ Γ c t τ → ValueTypes s Σ → AllSmall Σ → AllSmall Γ
    → Holds rs ws i c t → Stores rs ws s → r ≡ as_found (going_on (event_path e) (event_action e) (value c t s))

-- ---- choices: the side at row a, settled, is picked by the tag x of row i unless it fails

module _ (rs ws ws₁ : List ℕ) (i a x : ℕ) (env : List ℕ) (d : ℕ) where
  abbrev pub Picked : (c : Code) → Bool → TaskOf c → Store → Bool → Type 0
  Picked c r t s true = (r ≡ false) × (ws₁ ≡ ws)
  Picked c r t s false = (r ≡ true) × ((ws₂ : List ℕ) × Ran rs ws ws₂ a c t s × Laid ws₂ ws₁ i (x ∷ []))

  abbrev pub PickOk : Bool → Type 0
  PickOk r = (c : Code) → Sits rs d a c → (Σ Γ : List Ty) (τ : Ty) (s : Store) (ρ : Env) → CodeType Σ Γ c τ → World rs ws env d Σ Γ s ρ → Clear rs ws a (tree_of c)
      → Picked c r (settle c ρ s).0 (settle c ρ s).1 (branch_fails c ρ s)

-- ---- answers

-- of a row that takes the event itself or does not: it passes no row of kind 50
abbrev pub answer_of : Bool → ℕ
answer_of true = 0
answer_of false = not_handled

-- what a 50 of the role r with k touches left makes of its part's verdict v
unfoldable pub gate_verdict : ℕ → ℕ → ℕ → ℕ → ℕ
gate_verdict role r k v = cond (eqb role r) (cond (eqb v other_role) v (cond (eqb k 0) no_touch v)) other_role

-- what row i makes of its part's answer a: the same, unless it is a 50 whose part took the event; then one touch of its own is used
pub record PassOk (rs ws ws₁ : List ℕ) (i role a r : ℕ) : Type 0 where
  pub other : (OfKind rs i (task_k gate_k) → ⊥) → (r ≡ a) × (ws₁ ≡ ws)
  pub none : a ≡ not_handled → (r ≡ a) × (ws₁ ≡ ws)
  pub gate : OfKind rs i (task_k gate_k) → (a ≡ not_handled → ⊥) → (r ≡ gate_verdict role (op_a rs i) (at ws i 2) a) × Laid ws ws₁ i (own ∷ touch_words (at ws i 2 - 1))
