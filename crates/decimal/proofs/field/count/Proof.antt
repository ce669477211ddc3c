-- `count` meets its contract: what the digits from `i` on make of `n` is what the whole makes of 0. Assumes nothing.
use Prim.Native.Nat.{◌≤◌, ◌-◌}
use mathlib.Core.Path.{◌≡◌, refl, sym, ◌∙◌}
use native.Mathlib.Omega.{arith}
use borrow.Author.Rules.{rules}
use lib.Seq.{slice}
use Rattle.decimal.specs.Field.{counted}
use Rattle.decimal.proofs.ReadLaws.{count_more, count_low, count_high, count_led, count_over, count_none}
use Rattle.decimal.proofs.field.count.Statement.{statement}
use Rattle.decimal.proofs.field.count.Tie as tie

abbrev invariant-loop : tie.invariant-loop-i
invariant-loop s at end most n₀ i₀ n i = (i ≤ end) × (n ≤ most) × (counted most 0 (slice at end s) ≡ counted most n (slice i end s))

abbrev decreases-loop : tie.decreases-loop-i
decreases-loop s at end most n₀ i₀ n i = end - i

pub count_spec : {M : Type 1} → statement M
count_spec = tie.close (tie.spec invariant-loop decreases-loop
    (λ c. (c.requires.0, search rules, refl))
    (λ c. search rules)
    (λ c.
    let l = c.loop-i in
    sym
    (l.invariant.2 ∙ count_low c.args.most l.n c.args.s.now l.i c.args.end c.loop-i-test.true c.requires.1 (omega arith)))
    (λ c.
    let l = c.loop-i in
    sym
    (l.invariant.2 ∙ count_high c.args.most l.n c.args.s.now l.i c.args.end c.loop-i-test.true c.requires.1 (omega arith)))
    (λ c. search rules)
    (λ c. search rules)
    (λ c. search rules)
    (λ c. search rules)
    (λ c.
    let l = c.loop-i in
    sym
    (l.invariant.2 ∙ count_led c.args.most l.n c.args.s.now l.i c.args.end c.loop-i-test.true c.requires.1 (omega arith)))
    (λ c.
    let l = c.loop-i in
    sym
    (l.invariant.2 ∙ count_over c.args.most l.n c.args.s.now l.i c.args.end c.loop-i-test.true c.requires.1 (omega arith)))
    (λ c. search rules)
    (λ c. search rules)
    (λ c. search rules)
    (λ c.
    let l = c.loop-i in
    (omega arith, omega arith, l.invariant.2 ∙ count_more c.args.most l.n c.args.s.now l.i c.args.end c.loop-i-test.true c.requires.1 (omega arith) (omega arith) (omega arith) (omega arith)))
    (λ c. let l = c.loop-i in count_none c.args.most l.n c.args.s.now l.i c.args.end (omega arith) ∙ sym l.invariant.2))
