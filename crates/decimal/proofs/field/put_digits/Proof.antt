-- `put_digits` meets its contract: the digits of `n` that come after those of `m` stand from `i` on. Assumes nothing.
use Prim.Native.Nat.{◌≤◌, ◌-◌, ◌+◌, ◌%◌}
use mathlib.Core.Path.{◌≡◌, refl, ◌∙◌}
use native.Mathlib.Omega.{arith}
use borrow.Author.Rules.{rules}
use lib.ListN.{length, length-set}
use Rattle.decimal.specs.Field.{nought}
use Rattle.decimal.proofs.WriteLaws.{decimal_count, Stored, stored_0, stored_more, stored_all}
use Rattle.decimal.proofs.field.put_digits.Statement.{statement}
use Rattle.decimal.proofs.field.put_digits.Tie as tie

abbrev invariant-loop : tie.invariant-loop-m
invariant-loop s₀ at end n m₀ i₀ s m i = (i ≤ length s₀) × (length s ≡ length s₀) × Stored n m at i s₀ s

abbrev decreases-loop : tie.decreases-loop-m
decreases-loop s₀ at end n m₀ i₀ s m i = m

pub put_digits_spec : {M : Type 1} → statement M
put_digits_spec = tie.close (tie.spec invariant-loop decreases-loop
    (λ c. (c.requires.1, refl, stored_0 c.args.n c.args.at c.args.end c.args.s.now c.requires.0))
    (λ c. let l = c.loop-m in omega (arith, l.invariant.2.place, decimal_count l.m c.loop-m-test.true))
    (λ c. search rules)
    (λ c. search rules)
    (λ c. let l = c.loop-m in omega (arith, l.invariant.0, l.invariant.1, l.invariant.2.place, decimal_count l.m c.loop-m-test.true))
    (λ c. search rules)
    (λ c. let l = c.loop-m in (omega (arith, l.invariant.0), length-set l.s (l.i - 1) (nought + l.m % 10) ∙ l.invariant.1, stored_more c.args.n l.m c.args.at l.i c.args.s.now l.s c.loop-m-test.true l.invariant.2))
    (λ c. let l = c.loop-m in l.invariant.1)
    (λ c. let l = c.loop-m in stored_all c.args.n l.m c.args.at l.i c.args.s.now l.s (omega arith) l.invariant.2))
