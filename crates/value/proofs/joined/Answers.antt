-- `value::joined` meets its contract: the loop fills the leaves place by place. Assumes nothing.
use Rattle.word.proofs.Tabulate.{filled_all}
use Rattle.tophat.specs.Syntax.{max_leaves}
use Rattle.value.specs.Values.{joined_at}
use Rattle.value.proofs.joined.Goals as goal

pub returns : goal.returns
returns c =
    let l = c.loop-i in
    filled_all (joined_at c.args.n c.args.xs c.args.ys) 0 max_leaves l.i l.place-items c.loop-i-test.array_long c.loop-i-test.false l.invariant
