-- The first i leaves are those that the row holds.
use Prim.Native.Nat.{◌+◌}
use Rattle.word.proofs.Tabulate.{FilledTo}
use Rattle.state.specs.Layout.{at}
use Rattle.state.proofs.read_value.Given as goal

abbrev pub invariant-loop-i : goal.invariant-loop-i
invariant-loop-i l = FilledTo (λ j. at l.state l.row (2 + j)) 0 l.i l.leaf-items
