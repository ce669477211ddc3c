-- `events` ends: fewer bytes are left after each turn.
use Rattle.std.proofs.Common.{◌≤◌}
use Rattle.std.specs.Io.Take.{take_limit}
use Rattle.console.proofs.events.Given as goal

abbrev pub invariant-loop-event : goal.invariant-loop-event
invariant-loop-event g l = take_limit l.from ≤ take_limit l.fn.from

abbrev pub decreases-loop-event : goal.decreases-loop-event
decreases-loop-event g l = take_limit l.from
