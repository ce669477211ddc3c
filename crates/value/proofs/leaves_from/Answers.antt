-- `value::leaves_from` meets its contract: the loop fills the leaves place by place. Assumes nothing.
use Prim.Native.Nat.{◌+◌}
use lib.ListN.{get_or}
use Rattle.word.proofs.Tabulate.{filled_all}
use Rattle.tophat.specs.Syntax.{max_leaves}
use Rattle.value.proofs.leaves_from.Goals as goal

pub returns : goal.returns
returns c =
    let l = c.loop-i in
    filled_all (λ j. get_or c.args.xs (c.args.n + j) 0) 0 max_leaves l.i l.place-items c.loop-i-test.array_long c.loop-i-test.false l.invariant
