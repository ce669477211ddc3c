-- What `held` answers (01, ground 22): are the words the writing of a well-typed task and store of the accepted rows? Rests
-- on crate state's Writing.
-- For contracts only: tied to `opened` by the proof of flow's `open`.
use Rattle.std.specs.Prelude.{◌≡◌, Bool, true, List, [], ℕ, ◌*◌, ◌-◌, ◌≤◌, ◌<◌, get_or, replicate}
use Rattle.word.specs.Decides.{Decides}
use Rattle.tophat.specs.Syntax.{Store, TaskOf}
use Rattle.tophat.specs.Typing.{ValueTypes, TaskType}
use Rattle.rows.specs.Rows.{max_rows, word}
use Rattle.rows.specs.Accepted.{AcceptedRows}
use Rattle.state.specs.Layout.{state_words}
use Rattle.state.specs.Writing.{Writing}

-- a well-typed task of the last row and a store of the cells' types, and words that hold them and nothing else
pub record State (rs : List ℕ) (n : ℕ) (a : AcceptedRows rs n) (ws : List ℕ) : Type 0 where
  pub task : TaskOf a.code
  pub store : Store
  pub typed : TaskType a.cells [] a.code task a.type
  pub stored : ValueTypes store a.cells
  pub writing : Writing rs (n - 1) a.code task store ws

-- the first m words are the same
abbrev pub Alike : List ℕ → List ℕ → ℕ → Type 0
Alike x y m = (j : ℕ) → j < m → get_or x j 0 ≡ get_or y j 0

-- zeros after the words of n rows
abbrev pub ZerosAfter : ℕ → List ℕ → Type 0
ZerosAfter n ws = (k : ℕ) → n * state_words ≤ k → get_or ws k 0 ≡ 0

-- the words of n rows, and zeros to write them into once more
abbrev pub ToWrite : ℕ → List ℕ → List ℕ → Type 0
ToWrite n ws y = ZerosAfter n ws × (y ≡ replicate (max_rows * state_words) 0)

-- n rows in an array whose other rows are of kind 0; where the words are a state, they are written once more in y
abbrev pub HeldOk : List ℕ → ℕ → List ℕ → List ℕ → Bool → Type 0
HeldOk rs n ws y r = (a : AcceptedRows rs n) → ((j : ℕ) → n ≤ j → word rs j 0 ≡ 0) → Decides r (State rs n a ws) × (r ≡ true → y ≡ ws)
