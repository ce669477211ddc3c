use Rattle.shape.proofs.Laws.{pair_fits}
use Rattle.shape.proofs.Coded.{none_left, none_right, none_over, some_pair}
use Rattle.shape.proofs.pair_shape.Goals as goal
use Rattle.shape.proofs.pair_shape.Goals.{then-m-eq0-via-then-m-eq0, then-m-eq0-via-else-m-eq0+then-n-eq0}

pub returns-then-m-eq0 : goal.returns-then-m-eq0
returns-then-m-eq0 c =
    let a = c.args.a in
    let b = c.args.b in
    let m = c.leaves_of-m in
    let n = c.leaves_of-n in
    elim c.then-m-eq0.branch [
      | then-m-eq0-via-then-m-eq0 w ↦ none_left a b m.result n.result m.ensures.0 n.ensures.0 w.if-m-eq0.true
      | then-m-eq0-via-else-m-eq0+then-n-eq0 w ↦ none_right a b m.result n.result m.ensures.0 n.ensures.0 w.if-n-eq0.true
    ]

pub returns-then-m-n-gt-MAX_LEAVES : goal.returns-then-m-n-gt-MAX_LEAVES
returns-then-m-n-gt-MAX_LEAVES c =
    let m = c.leaves_of-m in
    let n = c.leaves_of-n in
    none_over c.args.a c.args.b m.result n.result m.ensures.0 n.ensures.0 c.if-m-eq0.false c.if-n-eq0.false c.if-m-n-gt-MAX_LEAVES.true

pub joined-requires : goal.joined-requires
joined-requires c =
    let m = c.leaves_of-m in
    let n = c.leaves_of-n in
    pair_fits c.args.a c.args.b m.result n.result m.ensures.0 n.ensures.0 c.if-m-eq0.false c.if-n-eq0.false c.width_of.result
    c.width_of.ensures.0 c.if-m-n-gt-MAX_LEAVES.false

pub returns : goal.returns
returns c =
    let m = c.leaves_of-m in
    let n = c.leaves_of-n in
    some_pair c.args.a c.args.b m.result n.result m.ensures.0 n.ensures.0 c.if-m-eq0.false c.if-n-eq0.false c.width_of.result
    c.joined.result c.width_of.ensures.0 c.if-m-n-gt-MAX_LEAVES.false c.joined.ensures
