-- `take`: each way out by its law.
use Rattle.std.proofs.Common.{true, refl}
use Rattle.rows.proofs.GroundsTold.{passed_on}
use Rattle.flow.proofs.OpenLaws.{opened_fine}
use Rattle.flow.proofs.TakeLaws.{take_refused, take_8, take_failed, take_no, take_0, opened_room}
use Rattle.flow.proofs.take.take.Goals as goal

pub returns-in_err-rest : goal.returns-in_err-rest
returns-in_err-rest c =
    rw (passed_on c.from_residual.result c.from_residual.ensures.1) (take_refused c.args.rows.now c.args.state.now c.open.new.own c.open.new.words c.args.e c.in_err-rest.field-0.0 c.in_err-rest.ensures)

pub returns-in_default : goal.returns-in_default
returns-in_default c = rw c.in_default.is (take_8 c.args.rows.now c.args.state.now c.open.new.own c.open.new.words c.in_ok-rest.rest c.in_ok-rest.ensures)

pub returns-in_default-rest : goal.returns-in_default-rest
returns-in_default-rest c = rw c.in-Some.is (take_failed c.args.rows.now c.args.state.now c.open.new.own c.open.new.words c.in-Some.e (rw c.in_default-rest.is at c.in_ok-rest.ensures))

pub overflow_sub-last : goal.overflow_sub-last
overflow_sub-last c = (opened_fine c.args.rows.now c.args.state.now true c.open.new.own c.open.new.words c.in-Task.n (rw c.in-Task.is at c.in_ok-rest.ensures)).0

pub handle-requires : goal.handle-requires
handle-requires c = (opened_fine c.args.rows.now c.args.state.now true c.open.new.own c.open.new.words c.in-Task.n (rw c.in-Task.is at c.in_ok-rest.ensures)).2

pub returns-in_err-handle : goal.returns-in_err-handle
returns-in_err-handle c =
    rw (c.in-Some.is, passed_on c.from_residual-in_err-handle.result c.from_residual-in_err-handle.ensures.1)
    (take_no c.args.rows.now c.args.state.now c.open.new.own c.open.new.words c.in-Some.e c.in-Task.n c.handle.new.state _ _ c.in_err-handle.ensures (rw c.in-Task.is at c.in_ok-rest.ensures) c.in_err-handle.field-0.0 refl)

pub normalise-strides-requires : goal.normalise-strides-requires
normalise-strides-requires c =
    (opened_fine c.args.rows.now c.args.state.now true c.open.new.own c.open.new.words c.in-Task.n (rw c.in-Task.is at c.in_ok-rest.ensures)).2

pub state_out-requires : goal.state_out-requires
state_out-requires c =
    let o = rw c.in-Task.is at c.in_ok-rest.ensures in
    (opened_room c.args.rows.now c.args.state.now c.open.new.own c.open.new.words c.in-Task.n o, (opened_fine c.args.rows.now c.args.state.now true c.open.new.own c.open.new.words c.in-Task.n o).1)

pub returns : goal.returns
returns c =
    let m = c.normalise-strides in
    let w = c.state_out in
    rw c.in-Some.is
    (take_0 c.args.rows.now c.args.state.now c.open.new.own c.open.new.words c.in-Some.e c.in-Task.n c.handle.new.state _ _ c.in_ok-handle.ensures
    m.new.state _ m.result w.new.lent m.ensures w.ensures.own_len w.ensures.lent_after (rw c.in-Task.is at c.in_ok-rest.ensures) refl)
