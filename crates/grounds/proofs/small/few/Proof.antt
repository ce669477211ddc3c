-- `small::few`: a loop over all rows, the table holding the counts of the rows passed.
use mathlib.Core.Path.{◌≡◌, refl, ◌∙◌}
use mathlib.Core.Bool.{true}
use Prim.Native.Nat.{◌≤◌, ◌-◌}
use native.Mathlib.Omega.{arith}
use borrow.Author.Rules.{rules}
use lib.ListN.{length, length-set, replicate}
use Rattle.rows.specs.Rows.{max_rows, every}
use Rattle.grounds.specs.Counts.{few_at, CountsTo}
use Rattle.grounds.proofs.Every.{every_none, every_so, every_not, every_all}
use Rattle.grounds.proofs.Ground6.{counts_none, count_written, few_so, few_not}
use Rattle.grounds.proofs.small.few.Statement.{statement}
use Rattle.grounds.proofs.small.few.Tie as tie

abbrev invariant-loop : tie.invariant-loop-i
invariant-loop rows n w table₀ most i₀ table i = (i ≤ n) × (length table ≡ max_rows) × CountsTo w rows table i × (every i (few_at w rows) ≡ true)

abbrev decreases-loop : tie.decreases-loop-i
decreases-loop rows n w table₀ most i₀ table i = n - i

pub few_spec : {M : Type 1} → statement M
few_spec = tie.close (tie.spec
    invariant-loop
    decreases-loop
    (λ c κs. search rules)
    (λ c. (omega arith, refl, counts_none c.args.w c.args.rows.now (replicate max_rows 0), every_none (few_at c.args.w c.args.rows.now)))
    (λ c κs. (omega arith, c.loop-i.invariant.2))
    (λ c.
    every_not (few_at c.args.w c.args.rows.now) c.args.n c.loop-i.i c.loop-i-test.true
    (few_not c.args.w c.args.rows.now c.loop-i.i c.row_count-x.result c.row_count-x.ensures.0 (omega (arith, c.most_of-most.ensures))))
    (λ c. omega arith)
    (λ c. omega arith)
    (λ c. omega arith)
    (λ c.
    (omega arith, length-set c.loop-i.table c.loop-i.i c.row_count-x.result ∙ c.loop-i.invariant.1, count_written c.args.w c.args.rows.now c.loop-i.table c.loop-i.i c.loop-i.invariant.2 c.row_count-x.result (omega arith) c.row_count-x.ensures.0, every_so (few_at c.args.w c.args.rows.now) c.loop-i.i c.loop-i.invariant.3 (few_so c.args.w c.args.rows.now c.loop-i.i c.row_count-x.result c.row_count-x.ensures.0 (omega (arith, c.most_of-most.ensures)))))
    (λ c.
    every_all (few_at c.args.w c.args.rows.now) c.args.n c.loop-i.i c.loop-i.invariant.3 (omega arith)))
