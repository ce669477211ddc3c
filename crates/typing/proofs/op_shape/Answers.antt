use mathlib.Core.Logic.{inl, inr}
use Rattle.typing.proofs.TypeLaws.{op_number, op_test, op_truth, op_past, op_by}
use Rattle.typing.proofs.op_shape.Goals as goal
use Rattle.typing.proofs.op_shape.Goals.{in-0-to-3, in-4-to-6, in-7-to-8, in_default, then-t-takes, else-t-takes}

pub returns : goal.returns
returns c =
    let q = c.args in
    let p = c.if-o-lt4.takes in
    op_by q.o q.t q.u p c.if-t-takes.then_some c.then_some.ensures
    (elim c.if-t-takes.branch [ then-t-takes w ↦ inl (w.if-t-takes.true, w.then_some-is) | else-t-takes w ↦ inr (w.if-t-takes.false, w.then_some-is) ])
    (elim c.if-o-lt4.branch [
      | in-0-to-3 w ↦ op_number q.o p w.in-0-to-3.if-o-lt4-own.true w.takes-is
      | in-4-to-6 w ↦ op_test q.o p w.in-4-to-6.if-o-lt4-own.false w.in-4-to-6.if-this-lt7-own.true w.takes-is
      | in-7-to-8 w ↦ op_truth q.o p w.in-7-to-8.if-this-lt7-own.false w.in-7-to-8.if-this-lt9-own.true w.takes-is
      | in_default w ↦ op_past q.o p w.in_default.if-this-lt9-own.false w.takes-is
    ])
