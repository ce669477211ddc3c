-- `fill`: a way by its law.
use Rattle.std.proofs.Common.{◌∙◌, sym}
use Rattle.state.specs.Tags.{tag_word}
use Rattle.handle.proofs.Editing.{fill_not_given, fill_blank, fill_unfit, fill_fits}
use Rattle.handle.proofs.fill.Goals as goal

pub returns-then-not-ends : goal.returns-then-not-ends
returns-then-not-ends c = fill_not_given c.args.state.now c.args.row (tag_word c.args.tag) c.args.shape c.args.e (c.ends.ensures.no c.if-not-ends.true)

pub returns-then-not-none_blank : goal.returns-then-not-none_blank
returns-then-not-none_blank c =
    fill_blank c.args.state.now c.args.row (tag_word c.args.tag) c.args.shape c.args.e (c.ends.ensures.yes c.if-not-ends.false)
    c.leaves_of.result c.leaves_of.ensures.0 (sym c.none_blank.ensures ∙ c.if-not-none_blank.true)

pub returns-then-fits : goal.returns-then-fits
returns-then-fits c =
    fill_fits c.args.state.now c.args.row (tag_word c.args.tag) c.args.shape c.args.e (c.ends.ensures.yes c.if-not-ends.false)
    c.leaves_of.result c.leaves_of.ensures.0 (sym c.none_blank.ensures ∙ c.if-not-none_blank.false)
    c.fits.result (rw c.bits.ensures at c.fits.ensures.all_bits) (rw c.bits.ensures at c.fits.ensures.value)
    c.put_value.new.state c.if-fits.true (rw c.bits.ensures at c.put_value.ensures)

pub returns : goal.returns
returns c =
    fill_unfit c.args.state.now c.args.row (tag_word c.args.tag) c.args.shape c.args.e (c.ends.ensures.yes c.if-not-ends.false)
    c.leaves_of.result c.leaves_of.ensures.0 (sym c.none_blank.ensures ∙ c.if-not-none_blank.false)
    c.fits.result (rw c.bits.ensures at c.fits.ensures.all_bits) (rw c.bits.ensures at c.fits.ensures.value) c.if-fits.false
