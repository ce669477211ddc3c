-- `value::meets` meets its contract, a return by the law of its case. Assumes nothing.
use mathlib.Core.Path.{sym, ◌∙◌}
use borrow.Author.Rules.{rules}
use Rattle.value.proofs.Fitting.{meets_number, meets_zero, meets_one, meets_not}
use Rattle.value.proofs.meets.Statement.{statement}
use Rattle.value.proofs.meets.Tie as tie

pub meets_spec : {M : Type 1} → statement M
meets_spec = tie.close (tie.spec
    (λ c. (meets_number c.args.leaf c.args.kind c.ranges.leaf.fits c.if-kind-eq-NUMBER.true, c.ranges.leaf.fits))
    (λ c κs. search rules)
    (λ c.
    (meets_zero c.args.leaf c.args.kind c.if-kind-eq-NUMBER.false (sym c.equal.ensures ∙ c.if-equal.true), c.ranges.leaf.fits))
    (λ c κs. search rules)
    (λ c.
    (meets_one c.args.leaf c.args.kind c.equal-then-kind-eq-TRUTH.result c.if-kind-eq-TRUTH.true (sym c.equal.ensures ∙ c.if-equal.false) c.equal-then-kind-eq-TRUTH.ensures, c.ranges.leaf.fits))
    (λ c.
    (meets_not c.args.leaf c.args.kind c.if-kind-eq-NUMBER.false c.if-kind-eq-TRUTH.false (sym c.equal.ensures ∙ c.if-equal.false), c.ranges.leaf.fits)))
