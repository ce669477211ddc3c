-- `fill` meets its contract, each way out by its law.
use Rattle.std.proofs.Common.{sym, ◌∙◌, eqb, length}
use Rattle.tophat.specs.Syntax.{max_leaves}
use Rattle.rows.proofs.GroundsTold.{passed_on}
use Rattle.flow.proofs.OpenLaws.{opened_fine}
use Rattle.flow.proofs.LookLaws.{fill_shut, fill_8, fill_failed, fill_ready}
use Rattle.flow.proofs.look.fill.Goals as goal

pub returns-in_err-rest : goal.returns-in_err-rest
returns-in_err-rest c =
    rw (passed_on c.from_residual.result c.from_residual.ensures.1)
    (fill_shut c.args.rows.now c.args.state.now c.args.role c.args.value.now c.args.list.now c.open.new.own c.open.new.words c.in_err-rest.field-0.0 c.in_err-rest.ensures)

pub returns-then-not-is_role : goal.returns-then-not-is_role
returns-then-not-is_role c =
    fill_8 c.args.rows.now c.args.state.now c.args.role c.args.value.now c.args.list.now c.open.new.own c.open.new.words c.in_ok-rest.rest c.in_ok-rest.ensures (sym c.is_role.ensures ∙ c.if-not-is_role.true)

pub show-requires : goal.show-requires
show-requires c =
    let f = opened_fine c.args.rows.now c.args.state.now (eqb (length c.args.value.now) max_leaves) c.open.new.own c.open.new.words c.in-Task.n (rw c.in-Task.is at c.in_ok-rest.ensures) in
    (f.0, f.2)

pub returns-in-Task : goal.returns-in-Task
returns-in-Task c =
    fill_ready c.args.rows.now c.args.state.now c.args.role c.args.value.now c.args.list.now c.open.new.own c.open.new.words (sym c.is_role.ensures ∙ c.if-not-is_role.false) c.in-Task.n (rw c.in-Task.is at c.in_ok-rest.ensures)
    c.show.result c.show.new.value c.show.new.list c.show.ensures

pub returns-in-Failed : goal.returns-in-Failed
returns-in-Failed c =
    fill_failed c.args.rows.now c.args.state.now c.args.role c.args.value.now c.args.list.now c.open.new.own c.open.new.words (sym c.is_role.ensures ∙ c.if-not-is_role.false) (rw c.in-Failed.is at c.in_ok-rest.ensures)
    c.show_failed.result c.show_failed.new.value c.show_failed.ensures
