-- `put_spaces` meets its contract: so far i spaces stand. Assumes nothing.
use Prim.Native.Nat.{◌≤◌, ◌-◌, ◌+◌}
use mathlib.Core.Path.{◌≡◌, refl, ap, ◌∙◌}
use native.Mathlib.Omega.{arith}
use borrow.Author.Rules.{rules}
use lib.ListN.{length, replicate, length-set}
use lib.Seq.{sets}
use Rattle.decimal.specs.Field.{space}
use Rattle.decimal.proofs.WriteLaws.{spaces_more}
use Rattle.decimal.proofs.part.put_spaces.Statement.{statement}
use Rattle.decimal.proofs.part.put_spaces.Tie as tie

abbrev invariant-loop : tie.invariant-loop-i
invariant-loop s₀ at n i₀ s i = (i ≤ n) × (length s ≡ length s₀) × (s ≡ sets s₀ at (replicate i space))

abbrev decreases-loop : tie.decreases-loop-i
decreases-loop s₀ at n i₀ s i = n - i

pub put_spaces_spec : {M : Type 1} → statement M
put_spaces_spec = tie.close (tie.spec invariant-loop decreases-loop
    (λ c. (omega arith, refl, refl))
    (λ c. search rules)
    (λ c. search rules)
    (λ c. search rules)
    (λ c. search rules)
    (λ c. let l = c.loop-i in (omega arith, length-set l.s (c.args.at + l.i) space ∙ l.invariant.1, spaces_more c.args.s.now c.args.at l.i l.s l.invariant.2))
    (λ c. let l = c.loop-i in l.invariant.1)
    (λ c. let s = c.before.before in let l = c.loop-i in let e : l.i ≡ s.args.n = omega arith in l.invariant.2 ∙ ap (λ k. sets s.args.s.now s.args.at (replicate k space)) e))
