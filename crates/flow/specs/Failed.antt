-- What the functions on a last row that failed as a whole leave and answer (CR 3). Rests on crate state's writing and on the calculus' evaluation.
-- For contracts only: tied to `start_call` by the proof of `start`, and to `opened` by that of `open`.
use Rattle.std.specs.Prelude.{◌≡◌, Bool, true, List, [], ℕ, ◌-◌, ◌≤◌, ◌<◌, get_or}
use Rattle.word.specs.Word.{words}
use Rattle.word.specs.Decides.{Decides}
use Rattle.tophat.proofs.ComputeEvaluation.{overflows_task}
use Rattle.rows.specs.Rows.{word}
use Rattle.rows.specs.Accepted.{AcceptedRows}
use Rattle.state.specs.Writing.{WritingFailed}

-- n accepted rows of words in an array whose other rows are of kind 0, and what holds of them
abbrev pub OfAccepted : (rs : List ℕ) (n : ℕ) → (AcceptedRows rs n → Type 0) → Type 0
OfAccepted rs n P = (a : AcceptedRows rs n) → ((j : ℕ) → n ≤ j → word rs j 0 ≡ 0) → ((k : ℕ) → get_or rs k 0 < words) → P a

-- the words hold the last row as failed whole, and the cells' first contents
abbrev pub WriteFailedOk : List ℕ → ℕ → List ℕ → Type 0
WriteFailedOk rs n ws = OfAccepted rs n λ a. WritingFailed rs (n - 1) a.store ws

-- r tells whether they do, and start leaves the words
abbrev pub IsFailedOk : List ℕ → ℕ → List ℕ → Bool → Type 0
IsFailedOk rs n ws r = OfAccepted rs n λ a. Decides r ((overflows_task a.code [] a.store ≡ true) × WritingFailed rs (n - 1) a.store ws)
