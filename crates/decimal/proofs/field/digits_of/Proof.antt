-- `digits_of` meets its contract: the digits counted and those of `m` are the digits of `n`. Assumes nothing.
use Prim.Native.Nat.{◌+◌}
use mathlib.Core.Path.{◌≡◌, ap}
use native.Mathlib.Omega.{arith}
use lib.ListN.{length}
use Rattle.decimal.specs.Field.{decimal}
use Rattle.decimal.proofs.WriteLaws.{length_digits, decimal_count, decimal_0}
use Rattle.decimal.proofs.field.digits_of.Statement.{statement}
use Rattle.decimal.proofs.field.digits_of.Tie as tie

abbrev invariant-loop : tie.invariant-loop-m
invariant-loop n m₀ k₀ m k = k + length (decimal m) ≡ length (decimal n)

abbrev decreases-loop : tie.decreases-loop-m
decreases-loop n m₀ k₀ m k = m

pub digits_of_spec : {M : Type 1} → statement M
digits_of_spec = tie.close (tie.spec invariant-loop decreases-loop
    (λ c. omega arith)
    (λ c. let l = c.loop-m in omega (arith, l.invariant, decimal_count l.m c.loop-m-test.true, length_digits c.args.n c.args.n))
    (λ c. omega arith)
    (λ c. let l = c.loop-m in omega (arith, l.invariant, decimal_count l.m c.loop-m-test.true))
    (λ c. let l = c.loop-m in let z = ap length (decimal_0 l.m (omega arith)) in (omega (arith, l.invariant, z), omega (arith, l.invariant, z, length_digits c.args.n c.args.n))))
