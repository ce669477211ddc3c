-- The cycle's measure, six times the row, which falls, and a number for each function; and what holds between the strides of `normalise`.
use Prim.Native.Nat.{◌+◌, ◌-◌, ◌*◌, ◌≤◌}
use Rattle.normalising.specs.Trying.{max_strides}
use Rattle.normalising.proofs.Resting.{Mid}
use Rattle.normalising.proofs.+normalising.Given as goal

abbrev pub decreases-failing : goal.decreases-failing
decreases-failing l = 6 * l.row + 0

abbrev pub decreases-attempt : goal.decreases-attempt
decreases-attempt l = 6 * l.row + 1

abbrev pub decreases-choose : goal.decreases-choose
decreases-choose l = 6 * l.row + 1

abbrev pub decreases-stride : goal.decreases-stride
decreases-stride l = 6 * l.row + 2

abbrev pub decreases-normalise : goal.decreases-normalise
decreases-normalise l = 6 * l.row + 3

abbrev pub decreases-settle : goal.decreases-settle
decreases-settle l = 6 * l.row + 4

abbrev pub decreases-tried : goal.decreases-tried
decreases-tried l = 6 * l.row + 5

abbrev pub invariant-normalise-loop-strides : goal.invariant-normalise-loop-strides
invariant-normalise-loop-strides l = (l.strides ≤ max_strides) × Mid l.rows l.initial.state l.state l.row l.env l.depth l.strides

abbrev pub decreases-normalise-loop-strides : goal.decreases-normalise-loop-strides
decreases-normalise-loop-strides l = max_strides - l.strides
