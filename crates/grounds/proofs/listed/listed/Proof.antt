-- `listed::listed`: a loop over all rows, left at the first that is not listed.
use Rattle.std.proofs.lemmas.Bool.{not_from_false, not_from_true}
use mathlib.Core.Path.{◌≡◌}
use mathlib.Core.Bool.{true}
use Prim.Native.Nat.{◌≤◌, ◌-◌}
use native.Mathlib.Omega.{arith}
use borrow.Author.Rules.{rules}
use Rattle.rows.specs.Rows.{every, row_listed}
use Rattle.grounds.proofs.Every.{every_none, every_more, every_broken, every_all}
use Rattle.grounds.proofs.listed.listed.Statement.{statement}
use Rattle.grounds.proofs.listed.listed.Tie as tie

abbrev invariant-loop : tie.invariant-loop-i
invariant-loop rows n i₀ i = (i ≤ n) × (every i (row_listed rows) ≡ true)

abbrev decreases-loop : tie.decreases-loop-i
decreases-loop rows n i₀ i = n - i

pub listed_spec : {M : Type 1} → statement M
listed_spec = tie.close (tie.spec
    invariant-loop
    decreases-loop
    (λ c. (omega arith, every_none (row_listed c.args.rows.now)))
    (λ c κs. search rules)
    (λ c.
    every_broken (row_listed c.args.rows.now) c.args.n c.loop-i.i c.row_listed.result c.loop-i-test.true
    c.row_listed.ensures (not_from_false _ c.if-not-row_listed.true))
    (λ c. search rules)
    (λ c. search rules)
    (λ c.
    (omega arith, every_more (row_listed c.args.rows.now) c.loop-i.i c.row_listed.result c.loop-i.invariant.1 c.row_listed.ensures (not_from_true _ c.if-not-row_listed.false)))
    (λ c.
    every_all (row_listed c.args.rows.now) c.args.n c.loop-i.i c.loop-i.invariant.1 (omega arith)))
