-- The rows of a task that are cleared first are lower.
use Rattle.state.proofs.+clear.Given as goal

abbrev pub decreases-clear : goal.decreases-clear
decreases-clear l = l.row
