-- `word::mul` meets its contract: what the checked operation answers is what the exact product comes to. Assumes nothing.
use mathlib.Core.Path.{◌∙◌}
use lib.IntN.{◌*ℤ◌}
use Rattle.word.proofs.Results.{beyond_words, within_words}
use Rattle.word.proofs.mul.Goals as goal

pub returns-in_err-product : goal.returns-in_err-product
returns-in_err-product c =
    c.from_residual.ensures
    ∙ beyond_words ◌*ℤ◌ c.args.a c.args.b c.cast_signed.type_inv c.cast_signed-2.type_inv c.cast_signed.ensures c.cast_signed-2.ensures c.in_err-product.ensures

pub returns : goal.returns
returns c =
    within_words ◌*ℤ◌ c.args.a c.args.b c.cast_signed.type_inv c.cast_signed-2.type_inv c.cast_signed.ensures c.cast_signed-2.ensures
    c.in_ok-product.ensures c.cast_unsigned.ensures
