-- `past_spaces` meets its contract: what is left after the spaces passed is what is left of the whole. Assumes nothing.
use Prim.Native.Nat.{◌≤◌, ◌-◌}
use mathlib.Core.Path.{◌≡◌, refl, ◌∙◌}
use native.Mathlib.Omega.{arith}
use borrow.Author.Rules.{rules}
use lib.Seq.{slice}
use Rattle.decimal.specs.Field.{trimmed}
use Rattle.decimal.proofs.ReadLaws.{trim_space, trim_stop, trim_none}
use Rattle.decimal.proofs.part.past_spaces.Statement.{statement}
use Rattle.decimal.proofs.part.past_spaces.Tie as tie

abbrev invariant-loop : tie.invariant-loop-i
invariant-loop s at end i₀ i = (at ≤ i) × (i ≤ end) × (trimmed (slice at end s) ≡ trimmed (slice i end s))

abbrev decreases-loop : tie.decreases-loop-i
decreases-loop s at end i₀ i = end - i

pub past_spaces_spec : {M : Type 1} → statement M
past_spaces_spec = tie.close (tie.spec invariant-loop decreases-loop
    (λ c. (omega arith, c.requires.0, refl))
    (λ c. search rules)
    (λ c.
    let l = c.loop-i in
    (l.invariant.0, l.invariant.1, l.invariant.2 ∙ trim_stop c.args.s.now l.i c.args.end c.loop-i-test.true c.requires.1 c.if-s-i-ne-SPACE.true))
    (λ c. search rules)
    (λ c. search rules)
    (λ c.
    let l = c.loop-i in
    (omega arith, omega arith, l.invariant.2 ∙ trim_space c.args.s.now l.i c.args.end c.loop-i-test.true c.requires.1 c.if-s-i-ne-SPACE.false))
    (λ c. let l = c.loop-i in (l.invariant.0, l.invariant.1, l.invariant.2 ∙ trim_none c.args.s.now l.i c.args.end (omega arith))))
