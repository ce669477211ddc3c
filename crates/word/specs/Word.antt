-- Words: signed 32-bit numbers (01, "The sheet").
-- A word's bits are those of two's complement: `to_z w32` reads bits as a number, `of_z w32` gives a number's bits.
-- Believed: `half`, `IsWord` and `eq_z`. The rest is for contracts only: `is_word` is tied to `IsWord` by `word_test` and `test_word` (proofs/Results).
use Rattle.std.specs.Prelude.{ℕ, ◌<◌, Bool, false, List, eqb, ltb, ℤ, pos, negsuc, get_or}
use Rattle.std.specs.Int.Signed.{mag}

-- how many words there are: 2 ^ 32
abbrev pub words : ℕ
words = 4294967296

-- the numbers from 0 up that are words are those below 2 ^ 31
abbrev pub half : ℕ
half = 2147483648

-- z is a word: from - 2 ^ 31 up to 2 ^ 31 - 1
abbrev pub IsWord : ℤ → Type 0
IsWord z = mag z < half

-- whether it is
unfoldable pub is_word : ℤ → Bool
is_word z = ltb (mag z) half

-- a list of words (past its end a list reads as 0, a word)
abbrev pub AllWords : List ℤ → Type 0
AllWords l = (i : ℕ) → IsWord (get_or l i (pos 0))

-- a list of bits: what a read of a slice of u32 makes known of it, `λ i. (c.slice_known-1.given i).fits`
abbrev pub AllBits : List ℕ → Type 0
AllBits l = (i : ℕ) → get_or l i 0 < words

-- whether two numbers are one (beside `lt_z` and `le_z`, the tests of order)
abbrev pub eq_z : ℤ → ℤ → Bool
eq_z (pos a) (pos b) = eqb a b
eq_z (pos a) (negsuc b) = false
eq_z (negsuc a) (pos b) = false
eq_z (negsuc a) (negsuc b) = eqb a b
