-- Words that are the writing of a state (01: "one writing per state"): proofs/Encode has that there is one for each state, and that it
-- is `encode`'s. Rests on Holds.
-- For contracts only: tied to Layout's `encode` by `encode_writing` and `writing_one` (proofs/Encode), to `encode_failed` by proofs/Failed.
use Rattle.std.specs.Prelude.{◌≡◌, List, [], ◌∷◌, ℕ}
use Rattle.tophat.specs.Syntax.{Code, TaskOf, Store}
use Rattle.state.specs.Layout.{whole}
use Rattle.state.specs.Holds.{Area, Cell, Row, Holds, Stores}

-- the words hold the task t of row i and the store s, and nothing else
pub record Writing (rs : List ℕ) (i : ℕ) (c : Code) (t : TaskOf c) (s : Store) (ws : List ℕ) : Type 0 where
  pub holds : Holds rs ws i c t
  pub stores : Stores rs ws s
  pub rest : (j : ℕ) → (Area rs i c j → ⊥) → Row ws j []

-- they hold that row i failed as a whole and the store s, and nothing else (CR 3; proofs/Failed)
pub record WritingFailed (rs : List ℕ) (i : ℕ) (s : Store) (ws : List ℕ) : Type 0 where
  pub row : Row ws i (whole ∷ [])
  pub stores : Stores rs ws s
  pub rest : (j : ℕ) → (j ≡ i → ⊥) → (Cell rs j → ⊥) → Row ws j []
