-- `reckoning`, by the test for words, by the tests against the ends of the words, and as the checked operations on numbers answer it; and that
-- the sum, difference and product of two words fit 64 bits, so that they are exact there. Assumes nothing.
use mathlib.Core.Path.{◌≡◌, refl, sym, ap, ap₂, ◌∙◌, subst}
use mathlib.Core.Bool.{Bool, true, false, cond}
use Prim.Native.Nat.{ℕ, ◌≤◌}
use native.Mathlib.Omega.{arith}
use Rattle.std.specs.Prelude.{Some, None}
use Rattle.std.proofs.lemmas.Int.{ints, fits_signed_mul}
use lib.IntN.{ℤ, pos, negsuc, ◌+ℤ◌, ◌-ℤ◌, ◌*ℤ◌}
use lib.Signed.{mag, lt_z, nat_abs-le}
use mir.Syntax.{w32, w64}
use mir.Val.{to_z, of_z, SFits}
use mir.Facts.{to_z-of_z, sfits_widen}
use borrow.Author.Tests.{ltb-true, le-ltb, lt-ltb}
use Rattle.word.specs.Word.{half, IsWord, is_word}
use Rattle.word.specs.Reckoning.{reckoning}
use Rattle.word.proofs.TwosComplement.{number_bits}
use Rattle.word.proofs.Order.{by_truth}

-- ---- the test for words

pub word_test : (z : ℤ) → IsWord z → is_word z ≡ true
unfolding is_word
word_test z h = lt-ltb (mag z) half h

pub test_word : (z : ℤ) → is_word z ≡ true → IsWord z
unfolding is_word
test_word z e = ltb-true (mag z) half e

pub no_word : (z : ℤ) → half ≤ mag z → is_word z ≡ false
unfolding is_word
no_word z h = le-ltb (mag z) half h

-- ---- what it comes to

reckoning_none : (z : ℤ) → is_word z ≡ false → reckoning z ≡ None
unfolding reckoning
reckoning_none z e = rw e

pub reckoning_word : (z : ℤ) → IsWord z → reckoning z ≡ Some (of_z w32 z)
unfolding reckoning
reckoning_word z h = rw (word_test z h)

-- by the ends of the words
pub beyond_low : (z : ℤ) → lt_z z (negsuc 2147483647) ≡ true → reckoning z ≡ None
beyond_low z e = reckoning_none z (no_word z (omega (arith, ints)))

pub beyond_high : (z : ℤ) → lt_z (pos 2147483647) z ≡ true → reckoning z ≡ None
beyond_high z e = reckoning_none z (no_word z (omega (arith, ints)))

pub within : (z : ℤ) → lt_z z (negsuc 2147483647) ≡ false → lt_z (pos 2147483647) z ≡ false → IsWord z
within z e f = let s : SFits w32 z = omega (arith, ints) in s.sfits

-- what a result says of the number
pub word_of : (z : ℤ) (w : ℕ) → Some w ≡ reckoning z → (is_word z ≡ true) × (to_z w32 w ≡ z)
unfolding reckoning
word_of z w e = by (is_word z) (λ h. test_word z h) e
  where
    by : (b : Bool) → (b ≡ true → IsWord z) → Some w ≡ cond b (Some (of_z w32 z)) None → (b ≡ true) × (to_z w32 w ≡ z)
    by true h e = let k : w ≡ of_z w32 z = cc in (refl, ap (to_z w32) k ∙ number_bits z (h refl))
    by false h e = let k : ◌≡◌ {A = ℕ} 0 1 = cc in absurd (omega arith)

pub beyond_of : (z : ℤ) → None ≡ reckoning z → is_word z ≡ false
unfolding reckoning
beyond_of z e = by (is_word z) e
  where
    by : (b : Bool) → None ≡ cond b (Some (of_z w32 z)) None → b ≡ false
    by true e = let k : ◌≡◌ {A = ℕ} 0 1 = cc in absurd (omega arith)
    by false e = refl

-- ---- what a checked operation answers

-- its operands are the numbers of a and b, read back from their bits
module _ (op : ℤ → ℤ → ℤ) (a b : ℕ) {x y : ℤ} (h : IsWord x) (k : IsWord y) (e : x ≡ to_z w32 a) (f : y ≡ to_z w32 b) where
  operands : op (to_z w32 (of_z w32 x)) (to_z w32 (of_z w32 y)) ≡ op (to_z w32 a) (to_z w32 b)
  operands = ap₂ op (number_bits x h ∙ e) (number_bits y k ∙ f)

  pub beyond_words : (SFits w32 (op (to_z w32 (of_z w32 x)) (to_z w32 (of_z w32 y))) → ⊥) → None ≡ reckoning (op (to_z w32 a) (to_z w32 b))
  beyond_words n = sym (reckoning_none (op (to_z w32 a) (to_z w32 b)) (by_truth (is_word (op (to_z w32 a) (to_z w32 b))) (λ t. absurd (n (subst (SFits w32) (sym operands) (record { sfits = test_word _ t })))) (λ t. t)))

  pub within_words : {z : ℤ} {w : ℕ} → SFits w32 (op (to_z w32 (of_z w32 x)) (to_z w32 (of_z w32 y))) × (z ≡ op (to_z w32 (of_z w32 x)) (to_z w32 (of_z w32 y)))
      → w ≡ of_z w32 (to_z w32 (of_z w32 z)) → Some w ≡ reckoning (op (to_z w32 a) (to_z w32 b))
  within_words {z = z} (s, q) r =
      let i = subst (SFits w32) operands s in
      let v : z ≡ op (to_z w32 a) (to_z w32 b) = q ∙ operands in
      ap Some (r ∙ ap (λ z. of_z w32 (to_z w32 (of_z w32 z))) v ∙ ap (of_z w32) (number_bits (op (to_z w32 a) (to_z w32 b)) i.sfits)) ∙ sym (reckoning_word (op (to_z w32 a) (to_z w32 b)) i.sfits)

-- ---- 64 bits

pub word_wide : (z : ℤ) → IsWord z → SFits w64 z
word_wide z h = sfits_widen {w = w32} tt (record { sfits = h })

-- what is read back from 64 bits
pub wide_is : (z : ℤ) → SFits w64 z → to_z w64 (of_z w64 z) ≡ z
wide_is z h = to_z-of_z {w = w64} h

pub sum_wide : (x y : ℤ) → IsWord x → IsWord y → SFits w64 (x +ℤ y)
sum_wide x y h k = omega (arith, ints)

pub difference_wide : (x y : ℤ) → IsWord x → IsWord y → SFits w64 (x -ℤ y)
difference_wide x y h k = omega (arith, ints)

pub product_wide : (x y : ℤ) → IsWord x → IsWord y → SFits w64 (x *ℤ y)
product_wide x y h k = fits_signed_mul w64 x y half half (nat_abs-le x h) (nat_abs-le y k) (omega arith)

-- an operator on two words whose result fits 64 bits is exact on what is read back from 64 bits
module _ (op : ℤ → ℤ → ℤ) (x y : ℤ) (h : IsWord x) (k : IsWord y) (w : SFits w64 (op x y)) where
  wide_operands : op (to_z w64 (of_z w64 x)) (to_z w64 (of_z w64 y)) ≡ op x y
  wide_operands = ap₂ op (wide_is x (word_wide x h)) (wide_is y (word_wide y k))

  pub result_fits : SFits w64 (op (to_z w64 (of_z w64 x)) (to_z w64 (of_z w64 y)))
  result_fits = subst (SFits w64) (sym wide_operands) w

  pub result_exact : to_z w64 (of_z w64 (op (to_z w64 (of_z w64 x)) (to_z w64 (of_z w64 y)))) ≡ op x y
  result_exact = wide_is _ result_fits ∙ wide_operands
