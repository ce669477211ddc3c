use Rattle.shape.proofs.+store_leaves.Given as goal

abbrev pub decreases-store_leaves : goal.decreases-store_leaves
decreases-store_leaves l = l.d
