-- `path::read_marks` meets its contract: the digits from `i` on say the path so far. Assumes nothing.
use Prim.Native.Nat.{◌≤◌, ◌-◌}
use mathlib.Core.Path.{◌≡◌, refl}
use mathlib.Core.Option.{some}
use native.Mathlib.Omega.{arith}
use borrow.Author.Rules.{rules}
use lib.Seq.{slice}
use Rattle.decimal.specs.Path.{marks, path_of}
use Rattle.decimal.proofs.PathLaws.{marks_small, marks_end, marks_more, marks_not, marks_all}
use Rattle.decimal.proofs.path.read_marks.Statement.{statement}
use Rattle.decimal.proofs.path.read_marks.Tie as tie

abbrev invariant-loop : tie.invariant-loop-i
invariant-loop s at end path₀ i₀ path i = (at ≤ i) × (i ≤ end) × (marks (slice i end s) ≡ some (path_of path))

abbrev decreases-loop : tie.decreases-loop-i
decreases-loop s at end path₀ i₀ path i = i - at

pub read_marks_spec : {M : Type 1} → statement M
read_marks_spec = tie.close (tie.spec invariant-loop decreases-loop
    (λ c. (c.requires.0, omega arith, marks_end c.args.s.now c.args.end c.args.end c.requires.1 refl))
    (λ c. search rules)
    (λ c. search rules)
    (λ c. search rules)
    (λ c.
    let l = c.loop-i in
    marks_not c.args.s.now c.args.at l.i c.args.end c.requires.1 c.loop-i-test.true l.invariant.1
    (λ e. omega (arith, e, c.if-b.true)) (λ e. omega (arith, e, c.if-b.true)))
    (λ c. search rules)
    (λ c.
    let l = c.loop-i in
    marks_not c.args.s.now c.args.at l.i c.args.end c.requires.1 c.loop-i-test.true l.invariant.1
    (λ e. omega (arith, e, c.if-b-2.true)) (λ e. omega (arith, e, c.if-b-2.true)))
    (λ c.
    let l = c.loop-i in
    omega (arith, marks_small c.args.s.now l.i c.args.end c.requires.1 l.path (omega arith) l.invariant.2))
    (λ c. search rules)
    (λ c. search rules)
    (λ c.
    let l = c.loop-i in
    omega (arith, c.if-b-2.false, marks_small c.args.s.now l.i c.args.end c.requires.1 l.path (omega arith) l.invariant.2))
    (λ c. search rules)
    (λ c. search rules)
    (λ c.
    let l = c.loop-i in
    (omega arith, omega arith, marks_more c.args.s.now l.i c.args.end c.requires.1 (omega arith) l.invariant.1 l.path l.invariant.2 (omega arith) (omega arith)))
    (λ c. let l = c.loop-i in marks_all c.args.s.now c.args.at l.i c.args.end l.path (omega arith) l.invariant.2))
