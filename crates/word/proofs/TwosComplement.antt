-- A word and its 32 bits in two's complement: each determines the other, and either is in its range. Assumes nothing.
use mathlib.Core.Path.{◌≡◌, sym, ap, ◌∙◌}
use mathlib.Core.Logic.{◌⊎◌, inl, inr, ⊎_elim}
use Prim.Native.Nat.{ℕ, zero, suc, ◌-◌, ◌≤◌, ◌<◌, zero-le, suc-le-suc}
use native.Mathlib.Omega.{arith}
use lib.IntN.{ℤ, pos, negsuc}
use mir.Syntax.{w32}
use mir.Val.{to_z, of_z}
use mir.Facts.{to_z-of_z, of_z-to_z, to_z_pos, to_z-neg, sfits_to_z, Fits-of_z}
use Rattle.word.specs.Word.{words, half, IsWord}

-- the number of bits is a word, and its bits are those
pub number_word : (n : ℕ) → n < words → IsWord (to_z w32 n)
number_word n h = (sfits_to_z {w = w32} {n = n} (record { fits = h })).sfits

pub bits_number : (n : ℕ) → n < words → of_z w32 (to_z w32 n) ≡ n
bits_number n h = of_z-to_z {w = w32} (record { fits = h })

-- the bits of a word are 32 bits, and its number is the word
pub bits_lt : (z : ℤ) → IsWord z → of_z w32 z < words
bits_lt z h = (Fits-of_z {w = w32} {z = z} (record { sfits = h })).fits

pub number_bits : (z : ℤ) → IsWord z → to_z w32 (of_z w32 z) ≡ z
number_bits z h = to_z-of_z {w = w32} (record { sfits = h })

-- bits with one number are the same bits
pub number_injective : (a b : ℕ) → a < words → b < words → to_z w32 a ≡ to_z w32 b → a ≡ b
number_injective a b h g e = sym (bits_number a h) ∙ ap (of_z w32) e ∙ bits_number b g

-- which number: below half the bits themselves, from there on a negative one
pub number_low : (n : ℕ) → n < half → to_z w32 n ≡ pos n
number_low n h = to_z_pos w32 {n = n} h

pub number_high : (n : ℕ) → half ≤ n → n < words → to_z w32 n ≡ negsuc (words - suc n)
number_high n h g = let e : n ≡ words - suc (words - suc n) = omega arith in ap (to_z w32) e ∙ to_z-neg w32 (words - suc n) (omega arith)

le_or_lt : (a b : ℕ) → (a ≤ b) ⊎ (b < a)
le_or_lt zero b = inl zero-le
le_or_lt (suc a) zero = inr (suc-le-suc zero-le)
le_or_lt (suc a) (suc b) = ⊎_elim (λ p. inl (suc-le-suc p)) (λ q. inr (suc-le-suc q)) (le_or_lt a b)

-- bits are below half or from half on
pub halves : {P : Type 0} (n : ℕ) → (n < half → P) → (half ≤ n → P) → P
halves n f g = ⊎_elim g f (le_or_lt half n)
