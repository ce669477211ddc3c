-- `sorted`: a row more, or one that is not sorted.
use mathlib.Core.Path.{refl, sym, ◌∙◌}
use native.Mathlib.Omega.{arith}
use lib.ListN.{replicate, length-set}
use Rattle.std.specs.Prelude.{None}
use Rattle.rows.specs.Rows.{max_rows, row_sorted}
use Rattle.grounds.proofs.Every.{every_none, every_so, every_not, every_all}
use Rattle.grounds.proofs.Ground4.{sorts_none, sort_written}
use Rattle.grounds.proofs.sorted.sorted.Goals as goal

pub loop-i-init : goal.loop-i-init
loop-i-init c = (refl, sorts_none c.args.rows.now (replicate max_rows None), every_none (row_sorted c.args.rows.now))

pub row_sorted-requires : goal.row_sorted-requires
row_sorted-requires c = (omega arith, c.loop-i.invariant.1)

pub returns-then-not-row_sorted : goal.returns-then-not-row_sorted
returns-then-not-row_sorted c = every_not (row_sorted c.args.rows.now) c.args.n c.loop-i.i c.loop-i-test.true (sym c.if-not-row_sorted.true ∙ c.row_sorted.ensures)

pub loop-i-preserved : goal.loop-i-preserved
loop-i-preserved c = (
  length-set c.loop-i.table c.loop-i.i c.own_sort-s.result ∙ c.loop-i.invariant.0,
  sort_written c.args.rows.now c.loop-i.table c.loop-i.i c.loop-i.invariant.1 c.own_sort-s.result (omega arith) c.own_sort-s.ensures,
  every_so (row_sorted c.args.rows.now) c.loop-i.i c.loop-i.invariant.2 (sym c.if-not-row_sorted.false ∙ c.row_sorted.ensures),
)

pub returns : goal.returns
returns c = every_all (row_sorted c.args.rows.now) c.args.n c.loop-i.i c.loop-i.invariant.2 (omega arith)
