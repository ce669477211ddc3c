use native.Mathlib.Omega.{arith}
use Rattle.tophat.specs.Syntax.{max_leaves}
use Rattle.shape.proofs.LeafKinds.{store_end, store_pair, store_leaf, room_pair, room_leaf}
use Rattle.shape.proofs.+store_leaves.Goals as goal

pub returns-then-d-eq0 : goal.returns-then-d-eq0
returns-then-d-eq0 t c = let q = c.args in store_end q.d q.c q.i q.kinds.now c.if-d-eq0.true

pub store_leaves-requires : goal.store_leaves-requires
store_leaves-requires t c =
    let q = c.args in
    (omega arith, room_pair q.d q.c q.i q.kinds.now c.if-d-eq0.false max_leaves c.if-c-eq0.true c.requires)

pub bounds-kinds-i : goal.bounds-kinds-i
bounds-kinds-i t c = let q = c.args in (room_leaf q.d q.c q.i q.kinds.now c.if-d-eq0.false max_leaves c.if-c-eq0.false c.requires).0

pub store_leaves-requires-else-c-eq0 : goal.store_leaves-requires-else-c-eq0
store_leaves-requires-else-c-eq0 t c =
    let q = c.args in
    (omega arith, (room_leaf q.d q.c q.i q.kinds.now c.if-d-eq0.false max_leaves c.if-c-eq0.false c.requires).1)

pub returns-then-c-eq0 : goal.returns-then-c-eq0
returns-then-c-eq0 t c =
    let q = c.args in
    store_pair q.d q.c q.i q.kinds.now c.if-d-eq0.false c.store_leaves.new.kinds c.if-c-eq0.true c.store_leaves.ensures

pub returns-else-c-eq0 : goal.returns-else-c-eq0
returns-else-c-eq0 t c =
    let q = c.args in
    store_leaf q.d q.c q.i q.kinds.now c.if-d-eq0.false c.store_leaves-else-c-eq0.new.kinds c.if-c-eq0.false c.store_leaves-else-c-eq0.ensures
