-- What the functions below `start` leave: the task that the first contents come to. Rests on Calls, Failed and crate state's writing.
-- Believed: `strides_of` and `Answered`, which the contracts of `start` and `handle` name. `BeginOk` is for contracts only: tied to `start_call` by the proof of `start`.
use Rattle.std.specs.Prelude.{◌≡◌, true, false, List, [], ℕ, ◌-◌, ℤ, Result}
use Rattle.std.specs.Result.{result_unwrap_or}
use Rattle.tophat.proofs.ComputeEvaluation.{overflows_task}
use Rattle.tophat.proofs.ComputeNormalising.{settle}
use Rattle.rows.specs.declared.ground.Ground.{Ground}
use Rattle.rows.specs.GroundNumbers.{answer_number}
use Rattle.state.specs.Writing.{Writing, WritingFailed}
use Rattle.call_definitions.specs.Memory.{CallAnswer}
use Rattle.flow.specs.Failed.{OfAccepted}

-- the strides of an answer: a refusal counts none
abbrev pub strides_of : Result ℕ Ground → ℕ
strides_of r = result_unwrap_or r 0

-- number, strides and the state memory at exit are those of the definition
abbrev pub Answered : CallAnswer → Result ℕ Ground → List ℤ → Type 0
Answered a r out = (answer_number r ≡ a.number) × (strides_of r ≡ a.strides) × (out ≡ a.state)

-- the words write what the last row settles to, in as many strides; or, in one, that it failed as a whole
abbrev pub BeginOk : List ℕ → ℕ → List ℕ → ℕ → Type 0
BeginOk rs n ws r = OfAccepted rs n λ a.
    (overflows_task a.code [] a.store ≡ false
    → Writing rs (n - 1) a.code (settle a.code [] a.store).0 (settle a.code [] a.store).1 ws × (r ≡ (settle a.code [] a.store).2))
    × (overflows_task a.code [] a.store ≡ true → WritingFailed rs (n - 1) a.store ws × (r ≡ 1))
