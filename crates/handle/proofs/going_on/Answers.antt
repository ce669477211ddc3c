-- `handle::going_on` meets its contract, a way by its law. Assumes nothing.
use Rattle.handle.proofs.Passing.{going_none, going_value}
use Rattle.handle.proofs.going_on.Goals as goal

pub returns-then-not-ends : goal.returns-then-not-ends
returns-then-not-ends c =
    going_none c.args.rows.now c.args.state.now c.args.row c.args.e (c.ends.ensures.no c.if-not-ends.true)

pub returns : goal.returns
returns c =
    going_value c.args.rows.now c.args.state.now c.args.row c.args.e c.value.result
    (c.ends.ensures.yes c.if-not-ends.false) c.value.ensures
