-- The definitions at a few numbers, computed. Assumes nothing.
use mathlib.Core.Path.{◌≡◌, refl}
use mathlib.Core.List.{[], ◌∷◌}
use Rattle.std.specs.Prelude.{Some, None}
use lib.IntN.{pos, negsuc, ◌+ℤ◌, ◌-ℤ◌, ◌*ℤ◌}
use mir.Syntax.{w32}
use mir.Val.{to_z, of_z}
use Rattle.word.specs.Word.{is_word}
use Rattle.word.specs.Reckoning.{reckoning}
use Rattle.word.specs.Laid.{laid}

-- the ends of the words (CR 3, P12)
greatest_and_one : reckoning (pos 2147483647 +ℤ pos 1) ≡ None
unfolding reckoning is_word
greatest_and_one = refl

least_less_none : reckoning (negsuc 2147483647 -ℤ pos 0) ≡ Some 2147483648
unfolding reckoning is_word
least_less_none = refl

least_less_one : reckoning (negsuc 2147483647 -ℤ pos 1) ≡ None
unfolding reckoning is_word
least_less_one = refl

least_negated : reckoning (negsuc 2147483647 *ℤ negsuc 0) ≡ None
unfolding reckoning is_word
least_negated = refl

all_bits : to_z w32 4294967295 ≡ negsuc 0
all_bits = refl

sign_bit : of_z w32 (negsuc 2147483647) ≡ 2147483648
sign_bit = refl

-- a shorter list over a longer one, and a longer one over a shorter
shorter : laid (to_z w32) (1 ∷ 4294967295 ∷ []) (pos 7 ∷ pos 8 ∷ pos 9 ∷ []) ≡ pos 1 ∷ negsuc 0 ∷ pos 9 ∷ []
unfolding laid
shorter = refl

longer : laid (of_z w32) (pos 1 ∷ negsuc 0 ∷ pos 3 ∷ []) (7 ∷ 8 ∷ []) ≡ 1 ∷ 4294967295 ∷ []
unfolding laid
longer = refl
