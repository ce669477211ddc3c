-- `read_leaves`: the loop's laws.
use Rattle.std.proofs.Common.{◌∙◌, arith}
use Rattle.formats.proofs.Loops.{read_first, read_more, read_none, read_all}
use Rattle.formats.proofs.read_leaves.Goals as goal

pub loop-k-init : goal.loop-k-init
loop-k-init c = read_first c.args.s.now c.args.at c.args.width

pub returns-in_err-leaves : goal.returns-in_err-leaves
returns-in_err-leaves c =
    c.from_residual.ensures ∙ read_none c.args.s.now c.args.at c.args.width c.loop-k.k (omega arith) c.in_err-leaves.ensures

pub loop-k-preserved : goal.loop-k-preserved
loop-k-preserved c =
    read_more c.args.s.now c.args.at c.args.width c.loop-k.k (omega arith) c.in_ok-leaves.field-0 c.in_ok-leaves.ensures c.loop-k.leaves c.loop-k.invariant

pub returns : goal.returns
returns c = read_all c.args.s.now c.args.at c.args.width c.loop-k.leaves c.loop-k.k (omega arith) c.loop-k.invariant
