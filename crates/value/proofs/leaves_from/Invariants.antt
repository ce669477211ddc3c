-- The first i leaves are those of xs from n on.
use Prim.Native.Nat.{◌+◌}
use lib.ListN.{get_or}
use Rattle.word.proofs.Tabulate.{FilledTo}
use Rattle.value.proofs.leaves_from.Given as goal

abbrev pub invariant-loop-i : goal.invariant-loop-i
invariant-loop-i l = FilledTo (λ j. get_or l.xs (l.n + j) 0) 0 l.i l.place-items
