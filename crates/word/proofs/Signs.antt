-- What the sign of a word says of it and of its bits. Assumes nothing.
use mathlib.Core.Path.{◌≡◌}
use mathlib.Core.Bool.{true, false}
use Prim.Native.Nat.{ℕ, ◌-◌, ◌≤◌, ◌<◌}
use native.Mathlib.Omega.{arith}
use Rattle.std.proofs.lemmas.Int.{ints}
use lib.IntN.{ℤ, pos, negsuc, ◌-ℤ◌}
use lib.Signed.{lt_z}
use mir.Syntax.{w32}
use mir.Val.{of_z}
use Rattle.word.specs.Word.{words, half, IsWord}

-- -1 - m, of a number that is not negative
pub less_pos : (m : ℕ) → negsuc 0 -ℤ pos m ≡ negsuc m
less_pos m = omega (arith, ints)

-- a negative word x: -1 - x is what all bits set exceed x's bits by
pub negative : (x : ℤ) → IsWord x → lt_z x (pos 0) ≡ true → (negsuc 0 -ℤ x ≡ pos (4294967295 - of_z w32 x)) × (half ≤ of_z w32 x) × (of_z w32 x < words)
negative x h e = (omega (arith, ints), omega (arith, ints), omega (arith, ints))

-- a word x that is not: it is its bits
pub natural : (x : ℤ) → IsWord x → lt_z x (pos 0) ≡ false → (x ≡ pos (of_z w32 x)) × (of_z w32 x < half)
natural x h e = (omega (arith, ints), omega (arith, ints))
