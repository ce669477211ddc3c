-- `path::put_marks` meets its contract: the digits before those of `p` stand up to `i`. Assumes nothing.
use Prim.Native.Nat.{◌+◌, ◌-◌, ◌%◌}
use mathlib.Core.Path.{◌≡◌, refl, ◌∙◌}
use native.Mathlib.Omega.{arith}
use borrow.Author.Rules.{rules}
use lib.ListN.{length, length-set}
use Rattle.decimal.specs.Field.{nought}
use Rattle.decimal.proofs.PathNumbers.{length_front}
use Rattle.decimal.proofs.PathLaws.{Laid, laid_0, laid_room, laid_more, laid_all}
use Rattle.decimal.proofs.path.put_marks.Statement.{statement}
use Rattle.decimal.proofs.path.put_marks.Tie as tie

abbrev invariant-loop : tie.invariant-loop-p
invariant-loop s₀ at path p₀ i₀ s p i = (length s ≡ length s₀) × Laid path p at i s₀ s

abbrev decreases-loop : tie.decreases-loop-p
decreases-loop s₀ at path p₀ i₀ s p i = p

pub put_marks_spec : {M : Type 1} → statement M
put_marks_spec = tie.close (tie.spec invariant-loop decreases-loop
    (λ c. (refl, laid_0 c.args.path c.args.at c.args.s.now))
    (λ c. search rules)
    (λ c. search rules)
    (λ c. search rules)
    (λ c. let l = c.loop-p in omega (arith, c.requires, l.invariant.0, laid_room c.args.path l.p c.args.at l.i c.args.s.now l.s l.invariant.1, length_front l.p c.loop-p-test.true))
    (λ c. search rules)
    (λ c. let l = c.loop-p in omega (arith, c.requires, l.invariant.0, laid_room c.args.path l.p c.args.at l.i c.args.s.now l.s l.invariant.1, length_front l.p c.loop-p-test.true))
    (λ c. search rules)
    (λ c. let l = c.loop-p in (length-set l.s l.i (nought + 2 - l.p % 2) ∙ l.invariant.0, laid_more c.args.path l.p c.args.at l.i c.args.s.now l.s c.loop-p-test.true l.invariant.1))
    (λ c. let l = c.loop-p in l.invariant.0)
    (λ c. let l = c.loop-p in laid_all c.args.path l.p c.args.at l.i c.args.s.now l.s (omega arith) l.invariant.1))
