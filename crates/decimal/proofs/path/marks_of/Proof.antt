-- `path::marks_of` meets its contract: the marks counted and those of `p` are those of the path. Assumes nothing.
use Prim.Native.Nat.{◌+◌}
use mathlib.Core.Path.{◌≡◌, ap}
use native.Mathlib.Omega.{arith}
use borrow.Author.Rules.{rules}
use lib.ListN.{length}
use Rattle.decimal.specs.Path.{path_of}
use Rattle.decimal.proofs.PathNumbers.{path_0, length_path, length_front}
use Rattle.decimal.proofs.path.marks_of.Statement.{statement}
use Rattle.decimal.proofs.path.marks_of.Tie as tie

abbrev invariant-loop : tie.invariant-loop-p
invariant-loop path p₀ k₀ p k = k + length (path_of p) ≡ length (path_of path)

abbrev decreases-loop : tie.decreases-loop-p
decreases-loop path p₀ k₀ p k = p

pub marks_of_spec : {M : Type 1} → statement M
marks_of_spec = tie.close (tie.spec invariant-loop decreases-loop
    (λ c. omega arith)
    (λ c. search rules)
    (λ c. let l = c.loop-p in omega (arith, l.invariant, length_front l.p c.loop-p-test.true, length_path c.args.path))
    (λ c. search rules)
    (λ c. let l = c.loop-p in omega (arith, l.invariant, length_front l.p c.loop-p-test.true))
    (λ c. let l = c.loop-p in omega (arith, l.invariant, ap length (path_0 l.p (omega arith)))))
