-- What the functions of this crate ensure: how many bytes a task's entries are, and, where the list that was lent has room for them, that
-- they stand at its front and bytes after them are as they were. Rests on crate formats' lists, and on crate state's contracts.
-- For contracts only: tied to `look_call` by the proof of flow's `fill`.
use Rattle.std.specs.Prelude.{◌≡◌, Bool, false, not, List, ◌∷◌, ◌++◌, ℕ, zero, suc, ◌*◌, ◌^◌, ◌<◌, ◌≤◌, length, drop, get_or}
use Rattle.decimal.specs.Path.{Path, max_marks, path_of}
use Rattle.tophat.specs.Syntax.{max_leaves, Ty, leaves, Code, next, TaskOf, before, Env, Store}
use Rattle.tophat.specs.Typing.{CodeType, TaskType}
use Rattle.tophat.specs.Normalising.{value}
use Rattle.tophat.specs.Roles.{Who, anyone, is, opens}
use Rattle.tophat.specs.Handling.{continue}
use Rattle.tophat.specs.Showing.{offers, button_if}
use Rattle.tophat.proofs.ComputeNormalising.{right_fails}
use Rattle.tophat.proofs.ComputeEntries.{continue_if, entries}
use Rattle.rows.specs.Kinds.{task_k, gate_k}
use Rattle.rows.specs.Rows.{max_rows, OfKind, op_a}
use Rattle.shape.specs.Shape.{as_shape}
use Rattle.state.specs.Layout.{at}
use Rattle.state.specs.Holds.{Sits, Holds, World}
use Rattle.formats.specs.Touches.{entry_bytes}
use Rattle.formats.specs.Lists.{list_text, under, Fits}

-- ---- bytes at the front of a list

-- an entry a row
abbrev pub list_bytes : ℕ
list_bytes = max_rows * entry_bytes

-- n is how many the bytes are; where the list has room for them, list₁ is list with them at its front
pub record Counted (list list₁ : List ℕ) (n : ℕ) (bytes : List ℕ) : Type 0 where
  pub count : n ≡ length bytes
  pub fits : length bytes ≤ length list → list₁ ≡ bytes ++ drop (length bytes) list

-- of bytes that are at most an entry a row
abbrev pub Lists : List ℕ → List ℕ → ℕ → List ℕ → Type 0
Lists list list₁ n bytes = length bytes ≤ list_bytes → Counted list list₁ n bytes

-- of one entry or none: without room every byte is as it was
pub record Wrote (list list₁ : List ℕ) (n : ℕ) (bytes : List ℕ) : Type 0 where
  pub most : n ≤ entry_bytes
  pub counted : Counted list list₁ n bytes
  pub short : length list < length bytes → list₁ ≡ list

-- r is the smaller of two
pub record Least (a b r : ℕ) : Type 0 where
  pub at_most : r ≤ b
  pub first : a ≤ b → r ≡ a
  pub second : b ≤ a → r ≡ b

-- ---- paths

-- a path as its number, of at most 16 marks, and the number that one mark more adds
pub record AtPath (path unit : ℕ) : Type 0 where
  pub unit_is : unit ≡ 2 ^ length (path_of path)
  pub few : length (path_of path) ≤ max_marks

-- numbers of one digit
abbrev pub OneDigit : List ℕ → Type 0
OneDigit ks = (i : ℕ) → get_or ks i 0 < 10

-- ---- who looks (CR 6)

-- a role by its number, and anyone by 0
unfoldable pub who_of : ℕ → Who
who_of zero = anyone
who_of (suc n) = is (suc n)

-- r tells whether row i is of kind 50 and shows them nothing
pub record ShutOk (rs ws : List ℕ) (i n : ℕ) (r : Bool) : Type 0 where
  pub other : (OfKind rs i (task_k gate_k) → ⊥) → r ≡ false
  pub gate : OfKind rs i (task_k gate_k) → r ≡ not (opens (who_of n) (op_a rs i, at ws i 2))

-- ---- tasks

module _ (rs ws : List ℕ) (i : ℕ) where
  -- r is the shape of the type that the editor at the row offers
  abbrev pub ContentOk : ℕ → Type 0
  ContentOk r = (d : ℕ) (c : Code) → Sits rs d i c → (env : List ℕ) (Σ Γ : List Ty) (τ : Ty) (s : Store) (ρ : Env) (t : TaskOf c) → TaskType Σ Γ c t τ → World rs ws env d Σ Γ s ρ → Holds rs ws i c t
      → (υ : Ty) × (r ≡ as_shape υ) × (leaves υ ≤ max_leaves) × ((who : Who) → entries who c ρ s t ≡ offers υ)

  module _ (env : List ℕ) (d : ℕ) where
    -- r tells whether the step at the row shows Continue
    abbrev pub GoesOnOk : Bool → Type 0
    GoesOnOk r = (a b : Code) → Sits rs d i (next a b) → (Σ Γ : List Ty) (τ υ : Ty) (s : Store) (ρ : Env) (t : TaskOf a) → TaskType Σ Γ a t τ → CodeType Σ (τ ∷ Γ) b υ → World rs ws env d Σ Γ s ρ
        → Holds rs ws i (next a b) (before t) → button_if r continue ≡ continue_if (value a t s) (λ v. right_fails b (v ∷ ρ) s)

-- ---- what they are shown

module _ (who : Who) (rs ws : List ℕ) (i : ℕ) (env : List ℕ) (d : ℕ) (p : Path) (list list₁ : List ℕ) (n : ℕ) where
  abbrev pub EntriesAt : Code → Type 0
  EntriesAt c = (Σ Γ : List Ty) (τ : Ty) (s : Store) (ρ : Env) (t : TaskOf c) → TaskType Σ Γ c t τ → World rs ws env d Σ Γ s ρ → Holds rs ws i c t → Fits (length p) (entries who c ρ s t)
      → Lists list list₁ n (list_text (under p (entries who c ρ s t)))

  -- the entries of the task at the row, with p in front
  abbrev pub EntriesOk : Type 0
  EntriesOk = (c : Code) → Sits rs d i c → EntriesAt c
