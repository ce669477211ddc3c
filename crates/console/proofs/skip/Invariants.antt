-- `skip` ends: fewer bytes are left after each turn.
use Rattle.std.specs.Io.Take.{take_limit}
use Rattle.console.proofs.skip.Given as goal

abbrev pub decreases-loop-from : goal.decreases-loop-from
decreases-loop-from g l = take_limit l.from
