-- The first k leaves stand after the tag and the shape.
use Rattle.state.proofs.Words.{LeavesTo}
use Rattle.state.proofs.put_value.Given as goal

abbrev pub invariant-loop-k : goal.invariant-loop-k
invariant-loop-k l = LeavesTo l.initial.state l.state l.row 2 l.v.leaves l.k
