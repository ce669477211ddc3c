-- What the exact result of a sum, difference or product comes to (CR 3): the bits of its word, where it is one. Rests on Word.
-- For contracts only: tied to words by `word_of` and `beyond_of` (proofs/Results).
use Rattle.std.specs.Prelude.{cond, ℕ, ℤ, Option, Some, None}
use Rattle.std.specs.Int.{w32}
use Rattle.std.proofs.Common.{of_z}
use Rattle.word.specs.Word.{is_word}

unfoldable pub reckoning : ℤ → Option ℕ
reckoning z = cond (is_word z) (Some (of_z w32 z)) None
