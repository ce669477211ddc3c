-- `row_sorted`: the sorts that the table has for the operands are those asked.
use Rattle.grounds.proofs.Ground4.{sort_read, row_sorted_is}
use Rattle.grounds.proofs.sorted.row_sorted.Goals as goal

pub returns : goal.returns
returns c =
    row_sorted_is c.args.rows.now c.args.i c.asks_at.result c.asks_at.ensures c.operands_sorted.ensures
    (sort_read c.args.rows.now c.args.table.now c.args.i c.requires.1 c.get.ensures c.below-a.ensures)
    (sort_read c.args.rows.now c.args.table.now c.args.i c.requires.1 c.get-2.ensures c.below-b.ensures)
    (sort_read c.args.rows.now c.args.table.now c.args.i c.requires.1 c.get-3.ensures c.below-c.ensures)
