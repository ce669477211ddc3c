-- What a flow answers to an event that is read. Rests on Calls and Reads.
-- For contracts only: tied to `handle_call` by `take_handles` (proofs/TakeLaws).
use Rattle.std.specs.Prelude.{Option, true, List, ℕ, ℤ, Result}
use Rattle.rows.specs.declared.ground.Ground.{Ground}
use Rattle.handle.specs.declared.Event.{Event}
use Rattle.call_definitions.specs.Calls.{opened, handle_in}
use Rattle.call_definitions.specs.Touches.{Bounded}
use Rattle.flow.specs.Starts.{strides_of, Answered}
use Rattle.flow.specs.Reads.{event_said}

abbrev pub TakeOk : List ℤ → List ℤ → Option Event → Result ℕ Ground → List ℤ → Type 0
TakeOk rows ws e r out = Answered (handle_in rows ws (event_said e) (opened rows ws true)) r out × Bounded rows (strides_of r)
