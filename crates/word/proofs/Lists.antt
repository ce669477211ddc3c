-- Lists of words and lists of bits: each determines the other, element by element. Assumes nothing.
use mathlib.Core.Path.{◌≡◌, refl, sym, ap, ◌∙◌, subst}
use mathlib.Core.List.{List, [], ◌∷◌, ◌++◌, map}
use Prim.Native.Nat.{ℕ, zero, suc, ◌-◌, ◌≤◌, ◌<◌, zero-le, suc-le-suc}
use native.Mathlib.Decide.{dec_lt}
use native.Mathlib.Omega.{arith}
use lib.Dec.{lit<}
use lib.IntN.{ℤ, pos}
use lib.ListN.{length, take, drop, get_or, replicate, get_or-map, get_or-eq_default}
use lib.Seq.{take_all, drop-nil}
use mir.Syntax.{w32}
use mir.Val.{to_z, of_z}
use Rattle.word.specs.Word.{words, IsWord, AllWords, AllBits}
use Rattle.word.proofs.TwosComplement.{number_word, bits_number, bits_lt, number_bits}
use Rattle.word.specs.Laid.{laid}

-- a fresh array
pub bits_replicate : (n k : ℕ) → k < words → AllBits (replicate n k)
bits_replicate zero k h i = lit< tt
bits_replicate (suc n) k h zero = h
bits_replicate (suc n) k h (suc i) = bits_replicate n k h i

-- what is left of zeros
pub drop_zeros : (k n : ℕ) → drop {A = ℕ} k (replicate n 0) ≡ replicate (n - k) 0
drop_zeros zero n = ap (λ m. replicate m 0) {x = n} {y = n - 0} (omega arith)
drop_zeros (suc k) zero = ap (λ m. replicate m 0) {x = 0} {y = 0 - suc k} (omega arith)
drop_zeros (suc k) (suc n) = drop_zeros k n ∙ ap (λ m. replicate m 0) {x = n - k} {y = suc n - suc k} (omega arith)

-- words one after another
pub words_cons : (z : ℤ) (zs : List ℤ) → IsWord z → AllWords zs → AllWords (z ∷ zs)
words_cons z zs h k zero = h
words_cons z zs h k (suc i) = k i

pub words_append : (xs ys : List ℤ) → AllWords xs → AllWords ys → AllWords (xs ++ ys)
words_append [] ys p q i = q i
words_append (x ∷ xs) ys p q zero = p 0
words_append (x ∷ xs) ys p q (suc i) = words_append xs ys (λ k. p (suc k)) q i

pub bits_append : (l m : List ℕ) → AllBits l → AllBits m → AllBits (l ++ m)
bits_append [] m p q i = q i
bits_append (x ∷ l) m p q zero = p 0
bits_append (x ∷ l) m p q (suc i) = bits_append l m (λ k. p (suc k)) q i

-- a list whose elements are bits as far as it goes
pub bits_below : (n : ℕ) (l : List ℕ) → length l ≤ n → ((i : ℕ) → i < n → get_or l i 0 < words) → AllBits l
bits_below n l h g i = by (dec_lt i n)
  where
    by : Dec (i < n) → get_or l i 0 < words
    by (yes k) = g i k
    by (no k) = subst (λ x. x < words) (sym (get_or-eq_default l 0 {n = i} (omega arith))) (lit< tt)

-- element i of the numbers, and of the bits
pub numbers_at : (l : List ℕ) (i : ℕ) → get_or (map (to_z w32) l) i (pos 0) ≡ to_z w32 (get_or l i 0)
numbers_at l i = get_or-map (to_z w32) l i 0

pub bits_at : (l : List ℤ) (i : ℕ) → get_or (map (of_z w32) l) i 0 ≡ of_z w32 (get_or l i (pos 0))
bits_at l i = get_or-map (of_z w32) l i (pos 0)

pub numbers_words : (l : List ℕ) → AllBits l → AllWords (map (to_z w32) l)
numbers_words l h i = subst IsWord (sym (numbers_at l i)) (number_word (get_or l i 0) (h i))

pub bits_bits : (l : List ℤ) → AllWords l → AllBits (map (of_z w32) l)
bits_bits l h i = subst (λ n. n < words) (sym (bits_at l i)) (bits_lt (get_or l i (pos 0)) (h i))

-- there and back
pub bits_numbers : (l : List ℕ) → AllBits l → map (of_z w32) (map (to_z w32) l) ≡ l
bits_numbers [] h = refl
bits_numbers (x ∷ l) h = λ j. bits_number x (h 0) j ∷ bits_numbers l (λ i. h (suc i)) j

pub numbers_bits : (l : List ℤ) → AllWords l → map (to_z w32) (map (of_z w32) l) ≡ l
numbers_bits [] h = refl
numbers_bits (x ∷ l) h = λ j. number_bits x (h 0) j ∷ numbers_bits l (λ i. h (suc i)) j

-- words as far as they have been read
pub words_take : (n : ℕ) (l : List ℤ) → ((i : ℕ) → i < n → IsWord (get_or l i (pos 0))) → AllWords (take n l)
words_take zero l h i = lit< tt
words_take (suc n) [] h i = lit< tt
words_take (suc n) (x ∷ l) h zero = h 0 (suc-le-suc zero-le)
words_take (suc n) (x ∷ l) h (suc i) = words_take n l (λ k p. h (suc k) (suc-le-suc p)) i

-- a list that was read whole
pub words_whole : (n : ℕ) (l : List ℤ) → length l ≤ n → AllWords (take n l) → AllWords l
words_whole n l h w = subst AllWords (take_all n l h) w

-- bits over bits are bits
pub laid_bits : (l : List ℤ) (own : List ℕ) → AllWords (take (length own) l) → AllBits own → AllBits (laid (of_z w32) l own)
unfolding laid
laid_bits l [] w b i = subst (λ r. get_or r i 0 < words) (sym (drop-nil (length l))) (lit< tt)
laid_bits [] (y ∷ own) w b i = b i
laid_bits (x ∷ l) (y ∷ own) w b zero = bits_lt x (w 0)
laid_bits (x ∷ l) (y ∷ own) w b (suc i) = laid_bits l own (λ k. w (suc k)) (λ k. b (suc k)) i
