-- `small::row_count`: the count by the table's for the operands, stopped.
use mathlib.Core.Path.{sym, ◌∙◌}
use Prim.Native.Nat.{suc}
use native.Mathlib.Omega.{arith}
use borrow.Author.Rules.{rules}
use Rattle.grounds.specs.Counts.{most_of}
use Rattle.grounds.proofs.Stop.{stop_low, stop_high}
use Rattle.grounds.proofs.Ground6.{most_small, count_read, count_bound, count_row}
use Rattle.grounds.proofs.small.row_count.Statement.{statement}
use Rattle.grounds.proofs.small.row_count.Tie as tie

pub row_count_spec : {M : Type 1} → statement M
row_count_spec = tie.close (tie.spec
    (λ c κs. search rules)
    (λ c κs. search rules)
    (λ c κs. search rules)
    (λ c κs. search rules)
    (λ c κs. search rules)
    (λ c κs. search rules)
    (λ c κs. search rules)
    (λ c κs.
    (count_bound c.args.w c.args.rows.now c.args.table.now c.args.i c.requires.1 c.get.ensures c.below-a.ensures, count_bound c.args.w c.args.rows.now c.args.table.now c.args.i c.requires.1 c.get-2.ensures c.below-b.ensures))
    (λ c κs. search rules)
    (λ c.
    (sym (stop_low (suc (most_of c.args.w)) c.count_by-x.result (omega (arith, c.most_of-most.ensures))) ∙ count_row c.args.w c.args.rows.now c.args.table.now c.args.i c.requires.1 c.asks_at.result c.asks_at.ensures (count_read c.args.w c.args.rows.now c.args.table.now c.args.i c.requires.1 c.get.ensures c.below-a.ensures) (count_read c.args.w c.args.rows.now c.args.table.now c.args.i c.requires.1 c.get-2.ensures c.below-b.ensures) (count_read c.args.w c.args.rows.now c.args.table.now c.args.i c.requires.1 c.get-3.ensures c.below-c.ensures) c.count_by-x.ensures, omega (arith, c.most_of-most.ensures)))
    (λ c.
    omega (arith, c.most_of-most.ensures, most_small c.args.w))
    (λ c.
    (omega (arith, c.most_of-most.ensures, stop_high (suc (most_of c.args.w)) c.count_by-x.result (omega (arith, c.most_of-most.ensures)), count_row c.args.w c.args.rows.now c.args.table.now c.args.i c.requires.1 c.asks_at.result c.asks_at.ensures (count_read c.args.w c.args.rows.now c.args.table.now c.args.i c.requires.1 c.get.ensures c.below-a.ensures) (count_read c.args.w c.args.rows.now c.args.table.now c.args.i c.requires.1 c.get-2.ensures c.below-b.ensures) (count_read c.args.w c.args.rows.now c.args.table.now c.args.i c.requires.1 c.get-3.ensures c.below-c.ensures) c.count_by-x.ensures), omega (arith, c.most_of-most.ensures))))
