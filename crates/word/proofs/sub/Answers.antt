-- `word::sub` meets its contract: what the checked operation answers is what the exact difference comes to. Assumes nothing.
use mathlib.Core.Path.{◌∙◌}
use lib.IntN.{◌-ℤ◌}
use Rattle.word.proofs.Results.{beyond_words, within_words}
use Rattle.word.proofs.sub.Goals as goal

pub returns-in_err-difference : goal.returns-in_err-difference
returns-in_err-difference c =
    c.from_residual.ensures
    ∙ beyond_words ◌-ℤ◌ c.args.a c.args.b c.cast_signed.type_inv c.cast_signed-2.type_inv c.cast_signed.ensures c.cast_signed-2.ensures c.in_err-difference.ensures

pub returns : goal.returns
returns c =
    within_words ◌-ℤ◌ c.args.a c.args.b c.cast_signed.type_inv c.cast_signed-2.type_inv c.cast_signed.ensures c.cast_signed-2.ensures
    c.in_ok-difference.ensures c.cast_unsigned.ensures
