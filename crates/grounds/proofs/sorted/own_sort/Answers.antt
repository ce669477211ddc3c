-- `own_sort`: by the table's sort of B.
use Rattle.grounds.proofs.Ground4.{sort_read, row_sort_is}
use Rattle.grounds.proofs.sorted.own_sort.Goals as goal

pub returns : goal.returns
returns c =
    row_sort_is c.args.rows.now c.args.i c.asks_at.result c.asks_at.ensures c.sort_by.ensures
    (sort_read c.args.rows.now c.args.table.now c.args.i c.requires.1 c.get.ensures c.below-b.ensures)
