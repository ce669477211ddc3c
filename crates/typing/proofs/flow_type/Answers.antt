use mathlib.Core.Path.{ap, ◌∙◌}
use Rattle.shape.specs.Shape.{shape_or_none}
use Rattle.typing.proofs.Agree.{flow_agrees}
use Rattle.typing.proofs.TaskLaws.{flow_yes, flow_no}
use Rattle.typing.proofs.flow_type.Goals as goal

pub returns : goal.returns
returns c =
    let q = c.args in
    let e = flow_yes q.rows.now q.n c.is_task.result c.is_task.ensures c.new.result.shapes c.new.result.count c.if-not-is_task.false c.new.ensures.0 c.new.ensures.1 c.row_type.ensures in
    record { value = e; value_2 = λ f g. e ∙ ap shape_or_none (flow_agrees q.rows.now q.n c.requires.0 f g) }

pub returns-then-not-is_task : goal.returns-then-not-is_task
returns-then-not-is_task c =
    let q = c.args in
    let e = flow_no q.rows.now q.n c.is_task.result c.is_task.ensures c.if-not-is_task.true in
    record { value = e; value_2 = λ f g. e ∙ ap shape_or_none (flow_agrees q.rows.now q.n c.requires.0 f g) }
