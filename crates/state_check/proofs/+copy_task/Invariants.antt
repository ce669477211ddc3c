use Rattle.state_check.proofs.+copy_task.Given as goal

abbrev pub decreases-copy_task : goal.decreases-copy_task
decreases-copy_task l = l.row
