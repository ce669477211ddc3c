use native.Mathlib.Omega.{arith}
use Rattle.shape.proofs.Laws.{leaves_yes, leaves_over, leaves_wide}
use Rattle.shape.proofs.leaves_of.Goals as goal

pub returns-then-n-gt-MAX_LEAVES : goal.returns-then-n-gt-MAX_LEAVES
returns-then-n-gt-MAX_LEAVES c = (leaves_over c.args.shape c.count_leaves-n.result c.count_leaves-n.ensures.0 c.if-n-gt-MAX_LEAVES.true, omega arith)

pub returns-then-shape-width_of : goal.returns-then-shape-width_of
returns-then-shape-width_of c =
    let n = c.count_leaves-n in
    (leaves_yes c.args.shape n.result n.ensures.0 c.if-n-gt-MAX_LEAVES.false (omega (arith, c.if-shape-width_of.true, c.width_of.ensures.0)), c.if-n-gt-MAX_LEAVES.false)

pub returns : goal.returns
returns c =
    let n = c.count_leaves-n in
    (leaves_wide c.args.shape n.result n.ensures.0 (omega (arith, c.if-shape-width_of.false, c.width_of.ensures.0)), omega arith)
