-- `ground_of_rows`: ground 7, or none.
use Rattle.grounds.proofs.Grounds.{ground_7, ground_0}
use Rattle.grounds.proofs.ground_of_rows.Goals as goal

pub returns-then-is_none : goal.returns-then-is_none
returns-then-is_none c =
    ground_7 c.args.rows.now c.args.n c.flow_type.result c.in_ok-ground_of_form.ensures c.flow_type.ensures.value_2 c.is_none.ensures c.if-is_none.true

pub returns : goal.returns
returns c =
    ground_0 c.args.rows.now c.args.n c.flow_type.result c.in_ok-ground_of_form.ensures c.flow_type.ensures.value_2 c.is_none.ensures c.if-is_none.false
