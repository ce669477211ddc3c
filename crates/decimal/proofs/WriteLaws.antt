-- What the functions that write a field cite: bytes stored one by one are a text put in place of as many bytes.
-- Rests on the definitions of specs/Field.antt and on proofs/Digits.antt.
use Prim.Native.Nat.{ℕ, zero, suc, ◌+◌, ◌-◌, ◌/◌, ◌%◌, ◌≤◌, ◌<◌}
use mathlib.Core.Path.{◌≡◌, refl, sym, ap, ◌∙◌}
use mathlib.Core.Bool.{true, false}
use mathlib.Core.List.{List, [], ◌∷◌, ◌++◌, append_assoc, append-nil}
use mathlib.Core.Option.{Option, none, some}
use native.Mathlib.Omega.{arith}
use borrow.Author.Tests.{le-leb, lt-leb, lt-ltb, le-ltb}
use lib.ListN.{length, take, drop, set, replicate, length-append, length-replicate, replicate-append-replicate}
use lib.Seq.{sets, sets-eq, set_comm}
use lib.IntN.{pos}
use mir.Syntax.{w32}
use mir.Val.{to_z}
use Rattle.word.specs.Word.{half, words}
use Rattle.decimal.specs.Field.{space, minus, nought, digits, decimal, text, justified, put_at}
use Rattle.decimal.proofs.Digits.{digits_nil, decimal_last}

-- ---- stores

-- a store in front of a run of stores
pub sets_front : (l : List ℕ) (i j : ℕ) (vs : List ℕ) (a : ℕ) → i < j → set (sets l j vs) i a ≡ sets (set l i a) j vs
sets_front l i j [] a h = refl
sets_front l i j (v ∷ vs) a h = sets_front (set l j v) i (suc j) vs a (omega arith) ∙ ap (λ k. sets k (suc j) vs) (set_comm l j i v a (λ e. omega arith))

-- a run of stores after another
pub sets_append : (l : List ℕ) (i : ℕ) (vs ws : List ℕ) → sets (sets l i vs) (i + length vs) ws ≡ sets l i (vs ++ ws)
sets_append l i [] ws = let e : i + 0 ≡ i = omega arith in ap (λ k. sets l k ws) e
sets_append l i (v ∷ vs) ws = let e : i + suc (length vs) ≡ suc i + length vs = omega arith in
    ap (λ k. sets (sets (set l i v) (suc i) vs) k ws) e ∙ sets_append (set l i v) (suc i) vs ws

-- a store after one
pub sets_last : (l : List ℕ) (i : ℕ) (vs : List ℕ) (a : ℕ) → set (sets l i vs) (i + length vs) a ≡ sets l i (vs ++ a ∷ [])
sets_last l i vs a = sets_append l i vs (a ∷ [])

pub spaces_more : (l : List ℕ) (at i : ℕ) (u : List ℕ) → u ≡ sets l at (replicate i space) → set u (at + i) space ≡ sets l at (replicate (i + 1) space)
spaces_more l at i u e =
    ap (λ v. set v (at + i) space) e
    ∙ ap (λ k. set (sets l at (replicate i space)) (at + k) space) (sym (length-replicate i space))
    ∙ sets_last l at (replicate i space) space
    ∙ ap (sets l at) (replicate-append-replicate i 1 space)

-- ---- digits

pub length_digits : (k n : ℕ) → length (digits k n) ≤ k
unfolding digits
length_digits zero n = omega arith
length_digits (suc k) zero = omega arith
length_digits (suc k) (suc n) = omega (arith, length_digits k (suc n / 10), length-append (digits k (suc n / 10)) ((nought + suc n % 10) ∷ []))

pub decimal_count : (n : ℕ) → 0 < n → length (decimal n) ≡ length (decimal (n / 10)) + 1
decimal_count n h = ap length (decimal_last n h) ∙ length-append (decimal (n / 10)) ((nought + n % 10) ∷ [])

pub decimal_0 : (n : ℕ) → n ≡ 0 → decimal n ≡ []
decimal_0 n e = ap decimal e ∙ digits_nil 0

-- the digits of n after those of m stand from i on
pub record Stored (n m at i : ℕ) (l u : List ℕ) : Type 0 where
  pub after : List ℕ
  pub whole : decimal n ≡ decimal m ++ after
  pub place : i ≡ at + length (decimal m)
  pub is : u ≡ sets l i after

pub stored_0 : (n at i : ℕ) (l : List ℕ) → i ≡ at + length (decimal n) → Stored n n at i l l
stored_0 n at i l e = record { after = []; whole = sym (append-nil (decimal n)); place = e; is = refl }

pub stored_more : (n m at i : ℕ) (l u : List ℕ) → 0 < m → Stored n m at i l u → Stored n (m / 10) at (i - 1) l (set u (i - 1) (nought + m % 10))
stored_more n m at i l u h s =
    let e : i ≡ suc (i - 1) = omega (arith, s.place, decimal_count m h) in
    record {
      after = (nought + m % 10) ∷ s.after;
      whole = s.whole ∙ ap (λ t. t ++ s.after) (decimal_last m h) ∙ append_assoc (decimal (m / 10)) ((nought + m % 10) ∷ []) s.after;
      place = omega (arith, s.place, decimal_count m h);
      is = ap (λ v. set v (i - 1) (nought + m % 10)) (s.is ∙ ap (λ k. sets l k s.after) e)
          ∙ sets_front l (i - 1) (suc (i - 1)) s.after (nought + m % 10) (omega arith);
    }

pub stored_all : (n m at i : ℕ) (l u : List ℕ) → m ≡ 0 → Stored n m at i l u → u ≡ sets l at (decimal n)
stored_all n m at i l u e s =
    let z = decimal_0 m e in
    let p : i ≡ at = s.place ∙ ap (λ t. at + length t) z ∙ omega arith in
    s.is ∙ (λ j. sets l (p j) (sym (s.whole ∙ ap (λ t. t ++ s.after) z) j))

-- ---- the text of bits

pub text_0 : (n : ℕ) → n ≡ 0 → text (to_z w32 n) ≡ nought ∷ []
unfolding text
text_0 n e = ap (λ k. text (to_z w32 k)) e

text_pos : (n : ℕ) → (n ≡ 0 → ⊥) → text (pos n) ≡ decimal n
unfolding text
text_pos zero h = absurd (h refl)
text_pos (suc n) h = refl

pub text_low : (n : ℕ) → (n ≡ 0 → ⊥) → n < half → text (to_z w32 n) ≡ decimal n
text_low n h g = rw (lt-ltb n half g) (text_pos n h)

pub text_high : (n m : ℕ) → half ≤ n → n < words → m ≡ words - n → text (to_z w32 n) ≡ minus ∷ decimal m
unfolding text
text_high n m g f e = let p : suc (words - suc n) ≡ m = omega arith in rw (le-ltb n half g) (ap (λ k. minus ∷ decimal k) p)

-- ---- a text in its field

pub put_nowhere : (s : List ℕ) (at w : ℕ) (o : Option (List ℕ)) → length s < at + w → (false ≡ (put_at s at w o).0) × (s ≡ (put_at s at w o).1)
unfolding put_at
put_nowhere s at w none h = (refl, refl)
put_nowhere s at w (some t) h = let e = lt-leb (at + w) (length s) h in (sym (rw e), sym (rw e))

-- k is the text's length, as the code has it
module _ (s : List ℕ) (at w k : ℕ) (t : List ℕ) (z : k ≡ length t) where
  pub put_wide : w < k → (false ≡ (put_at s at w (justified w t)).0) × (s ≡ (put_at s at w (justified w t)).1)
  unfolding put_at justified
  put_wide h = let e = lt-leb (length t) w (omega arith) in (sym (rw e), sym (rw e))

  pub put_there : (u v : List ℕ) → at + w ≤ length s → k ≤ w → u ≡ sets s at (replicate (w - k) space) → v ≡ sets u (at + (w - k)) t
      → (true ≡ (put_at s at w (justified w t)).0) × (v ≡ (put_at s at w (justified w t)).1)
  unfolding put_at justified
  put_there u v f h p q =
      let e = le-leb (at + w) (length s) f in
      let g = le-leb (length t) w (omega arith) in
      let a : List ℕ = replicate (w - length t) space in
      let n : length a ≡ w - length t = length-replicate (w - length t) space in
      let m : at + length (a ++ t) ≡ at + w = omega (arith, length-append a t, n) in
      let r : v ≡ take at s ++ (a ++ t) ++ drop (at + w) s =
      q ∙ (λ i. sets (p i) (at + (w - z i)) t) ∙ (λ i. sets (sets s at (replicate (w - z i) space)) (at + sym n i) t)
      ∙ sets_append s at a t
      ∙ sets-eq (a ++ t) s at (omega (arith, m))
      ∙ ap (λ j. take at s ++ (a ++ t) ++ drop j s) m in
      (sym (rw (g, e)), r ∙ sym (rw (g, e)))
