-- `named::all_named`: a loop over all rows, left at the first that is not named as it must be.
use Rattle.std.proofs.lemmas.Bool.{not_from_false, not_from_true}
use mathlib.Core.Path.{◌≡◌}
use mathlib.Core.Bool.{true}
use Prim.Native.Nat.{◌≤◌, ◌-◌}
use native.Mathlib.Omega.{arith}
use borrow.Author.Rules.{rules}
use Rattle.rows.specs.Rows.{every, named_once}
use Rattle.grounds.proofs.Every.{every_none, every_more, every_broken, every_all}
use Rattle.grounds.proofs.named.all_named.Statement.{statement}
use Rattle.grounds.proofs.named.all_named.Tie as tie

abbrev invariant-loop : tie.invariant-loop-i
invariant-loop rows n table i₀ i = (i ≤ n) × (every i (named_once rows n) ≡ true)

abbrev decreases-loop : tie.decreases-loop-i
decreases-loop rows n table i₀ i = n - i

pub all_named_spec : {M : Type 1} → statement M
all_named_spec = tie.close (tie.spec
    invariant-loop
    decreases-loop
    (λ c. (omega arith, every_none (named_once c.args.rows.now c.args.n)))
    (λ c. search rules)
    (λ c κs.
    (c.loop-i-test.true, c.requires.0, c.requires.1 c.loop-i.i (omega arith)))
    (λ c.
    every_broken (named_once c.args.rows.now c.args.n) c.args.n c.loop-i.i c.named_once.result
    c.loop-i-test.true c.named_once.ensures (not_from_false _ c.if-not-named_once.true))
    (λ c. search rules)
    (λ c. search rules)
    (λ c.
    (omega arith, every_more (named_once c.args.rows.now c.args.n) c.loop-i.i c.named_once.result c.loop-i.invariant.1 c.named_once.ensures (not_from_true _ c.if-not-named_once.false)))
    (λ c.
    every_all (named_once c.args.rows.now c.args.n) c.args.n c.loop-i.i c.loop-i.invariant.1 (omega arith)))
