-- `word::add` meets its contract: what the checked operation answers is what the exact sum comes to. Assumes nothing.
use mathlib.Core.Path.{◌∙◌}
use lib.IntN.{◌+ℤ◌}
use Rattle.word.proofs.Results.{beyond_words, within_words}
use Rattle.word.proofs.add.Goals as goal

pub returns-in_err-sum : goal.returns-in_err-sum
returns-in_err-sum c =
    c.from_residual.ensures
    ∙ beyond_words ◌+ℤ◌ c.args.a c.args.b c.cast_signed.type_inv c.cast_signed-2.type_inv c.cast_signed.ensures c.cast_signed-2.ensures c.in_err-sum.ensures

pub returns : goal.returns
returns c =
    within_words ◌+ℤ◌ c.args.a c.args.b c.cast_signed.type_inv c.cast_signed-2.type_inv c.cast_signed.ensures c.cast_signed-2.ensures
    c.in_ok-sum.ensures c.cast_unsigned.ensures
