-- `running::value` calls itself at a lower row.
use Rattle.running.proofs.+value.Given as goal

abbrev pub decreases-value : goal.decreases-value
decreases-value l = l.row
