use Rattle.typing.proofs.TaskLaws.{task_branch, task_high, task_own, task_none, task_past}
use Rattle.typing.proofs.+is_task.Goals as goal

pub returns-then-b-row : goal.returns-then-b-row
returns-then-b-row t c =
    let q = c.args in
    task_branch q.rows.now q.row c.get-k.result c.get-k.ensures c.operand-b.result c.is_task.result c.in-25.is c.operand-b.ensures c.if-b-row.true c.is_task.ensures

pub returns-else-b-row : goal.returns-else-b-row
returns-else-b-row t c =
    let q = c.args in
    task_high q.rows.now q.row c.get-k.result c.get-k.ensures c.operand-b.result c.in-25.is c.operand-b.ensures c.if-b-row.false

pub returns-in-40-to-50 : goal.returns-in-40-to-50
returns-in-40-to-50 t c =
    let q = c.args in
    task_own q.rows.now q.row c.get-k.result c.get-k.ensures c.in-40-to-50.if-k-lt40-own.false c.in-40-to-50.if-k-lt51-own.true

pub returns-in_default : goal.returns-in_default
returns-in_default t c =
    let q = c.args in
    task_none q.rows.now q.row c.get-k.result c.get-k.ensures c.in_default.if-k-lt40-own.true c.in_default.in_default-own.rest

pub returns-in_default-2 : goal.returns-in_default-2
returns-in_default-2 t c =
    let q = c.args in
    task_past q.rows.now q.row c.get-k.result c.get-k.ensures c.in_default.if-k-lt51-own.false
