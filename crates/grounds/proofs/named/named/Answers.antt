-- `named`: the counts from an empty table.
use Rattle.rows.specs.Rows.{namings}
use Rattle.grounds.proofs.Ground5.{more_zero}
use Rattle.grounds.proofs.named.named.Goals as goal

pub all_named-requires : goal.all_named-requires
all_named-requires c = (c.requires.1, more_zero c.name_rows.new.table (λ i. namings c.args.rows.now i c.args.n) c.name_rows.ensures)
