-- What copying a state from its words ensures: it answers as reading does (crate state's specs/Reading), and what is read is
-- then held by the copy. Rests on Reading, on Holds and on typing.
-- For contracts only: tied to crate state's Writing by the proof of `held`.
use Rattle.std.specs.Prelude.{◌≡◌, Bool, List, ◌∷◌, ℕ, ◌≤◌, ◌<◌, length, get_or}
use Rattle.std.proofs.Math.Option.{some}
use Rattle.tophat.specs.Syntax.{max_leaves, Ty, leaves, Code, Val, vunit, Store, TaskOf}
use Rattle.tophat.proofs.ComputeTyping.{nth}
use Rattle.rows.specs.Trees.{ReadsType, ReadsCell, ReadsCode}
use Rattle.rows.specs.Fits.{FitsCode}
use Rattle.typing.specs.BinderShapes.{BinderShapes}
use Rattle.value.specs.Fits.{Got, value_for}
use Rattle.state.specs.Layout.{own, value_words, touch_words}
use Rattle.state.specs.Holds.{tree_of, Foot, Sits, Cell, Row, Clear, Holds, Same}
use Rattle.state.specs.Words.{Laid, value_at}
use Rattle.state.specs.Reading.{read_touches, read_task, cell_at, read_store}

-- the cells have the types Σ, and no type passes max_leaves
pub record Sheet (rs : List ℕ) (n : ℕ) (Σ : List Ty) : Type 0 where
  pub known : (i : ℕ) (τ : Ty) → i < n → ReadsCell rs i τ → nth Σ i ≡ some τ
  pub small : (i : ℕ) (τ : Ty) → i < n → ReadsType rs i τ → leaves τ ≤ max_leaves

-- row i of n is the code c, under d binders of the types Γ, whose shapes env holds
pub record Site (rs : List ℕ) (n : ℕ) (Γ : List Ty) (env : List ℕ) (d i : ℕ) (c : Code) : Type 0 where
  pub low : i < n
  pub reads : ReadsCode rs i c
  pub fits : FitsCode (length Γ) c
  pub sits : Sits rs d i c
  pub depth : length Γ ≡ d
  pub around : BinderShapes env Γ

-- y₁ comes from y, and holds the task t of row i
pub record Copy (rs y y₁ : List ℕ) (i : ℕ) (c : Code) (t : TaskOf c) : Type 0 where
  pub holds : Holds rs y₁ i c t
  pub same : Same (Foot rs i (tree_of c)) y y₁

abbrev pub CopyOk : List ℕ → List ℕ → List ℕ → List ℕ → ℕ → List ℕ → ℕ → Bool → Type 0
CopyOk rs ws y y₁ i env d r = (n : ℕ) (Σ Γ : List Ty) (c : Code) → Sheet rs n Σ → Site rs n Γ env d i c → Clear rs y i (tree_of c)
    → Got r (Copy rs y y₁ i c) (read_task rs ws Σ Γ i c)

-- the value of the type with shape s, in the row with the tag x
pub record ValueOk (ws y y₁ : List ℕ) (i x s : ℕ) (r : Bool) : Type 0 where
  pub got : Got r (λ v. Laid y y₁ i (x ∷ value_words v)) (value_for (value_at ws i) s)

-- the touches left in the row, at most n (CR 6)
pub record TouchesOk (ws y y₁ : List ℕ) (i n : ℕ) (r : Bool) : Type 0 where
  pub got : Got r (λ k. Laid y y₁ i (own ∷ touch_words k)) (read_touches ws i n)

-- what stands at row i of the store, in its row where that is a cell
pub record CopyCell (rs y y₁ : List ℕ) (i : ℕ) (v : Val) : Type 0 where
  pub row : Cell rs i → Row y₁ i (own ∷ value_words v)
  pub same : Same (λ j. Cell rs j × (j ≡ i)) y y₁

abbrev pub CellOk : List ℕ → List ℕ → List ℕ → List ℕ → ℕ → Bool → Type 0
CellOk rs ws y y₁ i r = Got r (λ v. CopyCell rs y y₁ i v) (cell_at rs ws i)

-- y₁ comes from y, and holds the cells among the first n rows
pub record CopyCells (rs y y₁ : List ℕ) (n : ℕ) (s : Store) : Type 0 where
  pub long : length s ≡ n
  pub cells : (j : ℕ) → j < n → Cell rs j → Row y₁ j (own ∷ value_words (get_or s j vunit))
  pub same : Same (λ j. Cell rs j × (j < n)) y y₁

abbrev pub CellsOk : List ℕ → List ℕ → List ℕ → List ℕ → ℕ → Bool → Type 0
CellsOk rs ws y y₁ n r = Got r (CopyCells rs y y₁ n) (read_store rs ws n)
