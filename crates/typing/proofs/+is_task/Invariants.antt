use Rattle.typing.proofs.+is_task.Given as goal

abbrev pub decreases-is_task : goal.decreases-is_task
decreases-is_task l = l.row
