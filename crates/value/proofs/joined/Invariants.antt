-- The first i leaves are those of the joined list.
use Rattle.word.proofs.Tabulate.{FilledTo}
use Rattle.value.specs.Values.{joined_at}
use Rattle.value.proofs.joined.Given as goal

abbrev pub invariant-loop-i : goal.invariant-loop-i
invariant-loop-i l = FilledTo (joined_at l.n l.xs l.ys) 0 l.i l.place-items
