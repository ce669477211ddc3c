use native.Mathlib.Omega.{arith}
use Rattle.shape.proofs.Laws.{count_none, count_short, count_pair, count_leaf}
use Rattle.shape.proofs.+count_leaves.Goals as goal

pub returns-then-k-eq0 : goal.returns-then-k-eq0
returns-then-k-eq0 t c = (count_none c.args.d c.args.k c.args.c c.if-k-eq0.true, omega arith)

pub returns-then-d-eq0 : goal.returns-then-d-eq0
returns-then-d-eq0 t c = (count_short c.args.d c.args.k c.args.c c.if-k-eq0.false c.if-d-eq0.true, omega arith)

pub returns-then-c-eq0 : goal.returns-then-c-eq0
returns-then-c-eq0 t c =
    let e = c.count_leaves.ensures in
    (count_pair c.args.d c.args.k c.args.c c.count_leaves.result c.if-k-eq0.false c.if-d-eq0.false c.if-c-eq0.true e.0, omega (arith, e.1, c.if-d-eq0.false))

pub returns : goal.returns
returns t c =
    let e = c.count_leaves-2.ensures in
    (count_leaf c.args.d c.args.k c.args.c c.count_leaves-2.result c.if-k-eq0.false c.if-d-eq0.false c.if-c-eq0.false e.0, omega (arith, e.1, c.if-d-eq0.false))
