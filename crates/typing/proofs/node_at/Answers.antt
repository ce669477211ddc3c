use Rattle.typing.proofs.NodeLaws.{node_kept, node_none_at}
use Rattle.typing.proofs.node_at.Goals as goal

pub returns-in_err-node-clause-is : goal.returns-in_err-node-clause-is
returns-in_err-node-clause-is c =
    let q = c.args in
    node_none_at q.rows.now q.row c.get-k.result c.get-a.result c.get-b.result c.get-c.result c.get-k.ensures c.get-a.ensures c.get-b.ensures c.get-c.ensures c.in_err-node.ensures c.from_residual.ensures

pub returns-clause-is : goal.returns-clause-is
returns-clause-is c =
    let q = c.args in
    node_kept q.rows.now q.row c.get-k.result c.get-a.result c.get-b.result c.get-c.result c.get-k.ensures c.get-a.ensures c.get-b.ensures c.get-c.ensures c.in_ok-node.ensures c.names_lower.ensures c.then_some.ensures
