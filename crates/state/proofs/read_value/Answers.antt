-- The leaves are filled place by place.
use mathlib.Core.Path.{ap}
use Prim.Native.Nat.{suc, ◌+◌}
use native.Mathlib.Omega.{arith}
use Rattle.state.specs.Layout.{at}
use Rattle.state.proofs.Words.{value_filled}
use Rattle.state.proofs.read_value.Goals as goal

pub returns : goal.returns
returns c =
    let l = c.loop-i in
    let a = c.args in
    value_filled (λ m. at a.state.now a.row (suc m)) (λ j. at a.state.now a.row (2 + j)) c.read-shape.result l.i l.leaf-items
    c.read-shape.ensures (λ i. ap (at a.state.now a.row) (omega arith)) c.loop-i-test.array_long c.loop-i-test.false l.invariant
