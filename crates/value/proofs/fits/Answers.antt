-- `value::fits` meets its contract, a return by the law of its way. Assumes nothing.
use mathlib.Core.Path.{◌≡◌, sym, ◌∙◌}
use native.Mathlib.Omega.{arith}
use lib.ListN.{length}
use borrow.Author.Count.{below_more}
use borrow.Author.Rules.{rules}
use Rattle.word.proofs.Lists.{bits_below}
use Rattle.tophat.specs.Syntax.{max_leaves}
use Rattle.value.proofs.Fitting.{fits_other, fits_none, fits_all, fits_unmet}
use Rattle.value.proofs.fits.Goals as goal

pub returns-then-v-shape-clause-value : goal.returns-then-v-shape-clause-value
returns-then-v-shape-clause-value c = fits_other c.args.v c.args.shape c.if-v-shape.true

pub returns-then-kinds-eq-NO_LEAF-clause-value : goal.returns-then-kinds-eq-NO_LEAF-clause-value
returns-then-kinds-eq-NO_LEAF-clause-value c =
    fits_none c.args.v c.args.shape c.leaf_kinds-kinds.result c.leaf_kinds-kinds.ensures c.if-kinds-eq-NO_LEAF.true

pub returns-then-not-meets-clause-value : goal.returns-then-not-meets-clause-value
returns-then-not-meets-clause-value c =
    fits_unmet c.args.v c.args.shape c.leaf_kinds-kinds.result c.leaf_kinds-kinds.ensures c.if-v-shape.false (search rules) (search rules)
    c.if-kinds-eq-NO_LEAF.false c.loop-i.i c.loop-i-test.true (sym c.meets.ensures.0 ∙ c.if-not-meets.true)

pub loop-i-preserved : goal.loop-i-preserved
loop-i-preserved c =
    (below_more _ _ c.loop-i.invariant.0 (sym c.meets.ensures.0 ∙ c.if-not-meets.false), below_more _ _ c.loop-i.invariant.1 c.meets.ensures.1)

pub returns-clause-value : goal.returns-clause-value
returns-clause-value c =
    fits_all c.args.v c.args.shape c.leaf_kinds-kinds.result c.leaf_kinds-kinds.ensures c.if-v-shape.false (search rules) (search rules)
    c.if-kinds-eq-NO_LEAF.false (λ j h. c.loop-i.invariant.0 j (omega arith))

pub returns-clause-all_bits : goal.returns-clause-all_bits
returns-clause-all_bits c z =
    let e : length c.args.v.leaves ≡ max_leaves = search rules in
    bits_below max_leaves c.args.v.leaves (omega (arith, e)) (λ j h. c.loop-i.invariant.1 j (omega arith))
