use Rattle.typing.proofs.+row_type.Given as goal

abbrev pub decreases-row_type : goal.decreases-row_type
decreases-row_type l = l.row
