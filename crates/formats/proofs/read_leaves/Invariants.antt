-- `read_leaves`: what the first k fields say stands first in the leaves.
use Rattle.formats.proofs.Loops.{ReadTo}
use Rattle.formats.proofs.read_leaves.Given as goal

abbrev pub invariant-loop-k : goal.invariant-loop-k
invariant-loop-k l = ReadTo l.s l.at l.width l.leaves l.k
