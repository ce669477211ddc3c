-- `state_check::copy_touches` meets its contract. Assumes nothing.
use native.Mathlib.Omega.{arith}
use borrow.Author.Rules.{rules}
use Rattle.shape.specs.Shape.{as_shape, put}
use Rattle.state_check.proofs.Cells.{touches_shape, touches_more, touches_yes}
use Rattle.state_check.proofs.copy_touches.Statement.{statement}
use Rattle.state_check.proofs.copy_touches.Tie as tie

pub copy_touches_spec : {M : Type 1} → statement M
unfolding as_shape put
copy_touches_spec = tie.close (tie.spec
    (λ c κs. (search rules, omega arith))
    (λ c. let s = c.args in touches_shape s.state.now s.row s.most c.read.ensures c.if-read-ne-NUMBER.true)
    (λ c κs. search rules)
    (λ c. search rules)
    (λ c.
    let s = c.args in
    touches_more s.state.now s.row s.most c.read.ensures c.read_touches-touches.ensures c.if-read-ne-NUMBER.false c.if-most-touches.true)
    (λ c κs. search rules)
    (λ c.
    let s = c.args in
    touches_yes s.state.now s.row s.most c.read.ensures c.read_touches-touches.ensures c.if-read-ne-NUMBER.false (omega (arith, c.if-most-touches.false)) c.put_touches.ensures))
