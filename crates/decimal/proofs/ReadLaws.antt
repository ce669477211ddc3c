-- What the functions that read a field cite: the field's bytes one after another, as the code comes by them.
-- Rests on the definitions of specs/Field.antt alone.
use Prim.Native.Nat.{ℕ, zero, suc, ◌+◌, ◌*◌, ◌-◌, ◌≤◌, ◌<◌}
use mathlib.Core.Path.{◌≡◌, sym, ap, ◌∙◌}
use mathlib.Core.Bool.{Bool, true, false, not, and-false}
use mathlib.Core.List.{List, [], ◌∷◌}
use native.Mathlib.Numerals.{add-one}
use native.Mathlib.Omega.{arith}
use borrow.Author.Tests.{eq-eqb, ne_eqb, le-leb, lt-leb, leb-true, leb-false, not-true, not-false}
use borrow.Table.Steps.{cases}
use lib.Dec.{leb}
use lib.ListN.{length, get_or}
use lib.Seq.{slice, slice-cons, slice_empty}
use Rattle.word.specs.Word.{half, words}
use Rattle.decimal.specs.Field.{space, minus, nought, nine, trimmed, counted, positive, negative, alone, numeral, reading, reads_at}
use Rattle.decimal.specs.declared.field.Reading.{Reading}
use Rattle.decimal.specs.declared.field.Reading.TheVariants.{Number, Blank, Unreadable}
use Rattle.decimal.proofs.Digits.{counted_step}

-- a field ends within the bytes
pub has_rest : (len at width : ℕ) → at ≤ len → leb width (len - at) ≡ leb (at + width) len
has_rest len at width h = cases (leb (at + width) len)
    (λ e. le-leb width (len - at) (omega (arith, leb-true (at + width) len e)) ∙ sym e)
    (λ e. lt-leb width (len - at) (omega (arith, leb-false (at + width) len e)) ∙ sym e)

pub room : (at width len : ℕ) (r : Bool) → r ≡ leb (at + width) len → not r ≡ false → at + width ≤ len
room at width len r e h = leb-true (at + width) len (sym e ∙ not-false r h)

pub no_room : (at width len : ℕ) (r : Bool) → r ≡ leb (at + width) len → not r ≡ true → len < at + width
no_room at width len r e h = leb-false (at + width) len (sym e ∙ not-true r h)

-- the bytes from i on, the first of them apart
pub slice_next : (s : List ℕ) (i end : ℕ) → i < end → end ≤ length s → slice i end s ≡ get_or s i 0 ∷ slice (i + 1) end s
slice_next s i end h k = rw add-one (slice-cons i end s 0 h k)

-- no bytes are left
pub slice_none : (s : List ℕ) (i end : ℕ) → i ≡ end → slice i end s ≡ []
slice_none s i end e = ap (λ k. slice k end s) e ∙ slice_empty end s

-- ---- spaces

module _ (s : List ℕ) (i end : ℕ) where
  pub trim_space : i < end → end ≤ length s → get_or s i 0 ≡ space → trimmed (slice i end s) ≡ trimmed (slice (i + 1) end s)
  unfolding trimmed
  trim_space h k e = ap trimmed (slice_next s i end h k) ∙ rw (eq-eqb (get_or s i 0) space e)

  pub trim_stop : i < end → end ≤ length s → (get_or s i 0 ≡ space → ⊥) → trimmed (slice i end s) ≡ slice i end s
  unfolding trimmed
  trim_stop h k e = ap trimmed (slice_next s i end h k) ∙ rw (ne_eqb (get_or s i 0) space e) (sym (slice_next s i end h k))

  pub trim_none : i ≡ end → trimmed (slice i end s) ≡ slice i end s
  unfolding trimmed
  trim_none e = ap trimmed (slice_none s i end e) ∙ sym (slice_none s i end e)

-- ---- digits

module _ (most n : ℕ) (s : List ℕ) (i end : ℕ) (h : i < end) (k : end ≤ length s) where
  pub count_more : nought ≤ get_or s i 0 → get_or s i 0 ≤ nine → 1 ≤ n * 10 + (get_or s i 0 - nought) → n * 10 + (get_or s i 0 - nought) ≤ most
      → counted most n (slice i end s) ≡ counted most (n * 10 + (get_or s i 0 - nought)) (slice (i + 1) end s)
  count_more p q r t = ap (counted most n) (slice_next s i end h k) ∙ counted_step most n (get_or s i 0) (slice (i + 1) end s) p q r t

  pub count_low : get_or s i 0 < nought → counted most n (slice i end s) ≡ 0
  unfolding counted
  count_low p = ap (counted most n) (slice_next s i end h k) ∙ rw (lt-leb nought (get_or s i 0) p)

  pub count_high : nine < get_or s i 0 → counted most n (slice i end s) ≡ 0
  unfolding counted
  count_high p = ap (counted most n) (slice_next s i end h k) ∙ rw (lt-leb (get_or s i 0) nine p, and-false (leb nought (get_or s i 0)))

  pub count_led : n * 10 + (get_or s i 0 - nought) < 1 → counted most n (slice i end s) ≡ 0
  unfolding counted
  count_led p = ap (counted most n) (slice_next s i end h k)
      ∙ rw (lt-leb 1 (n * 10 + (get_or s i 0 - nought)) p, and-false)

  pub count_over : most < n * 10 + (get_or s i 0 - nought) → counted most n (slice i end s) ≡ 0
  unfolding counted
  count_over p = ap (counted most n) (slice_next s i end h k)
      ∙ rw (lt-leb (n * 10 + (get_or s i 0 - nought)) most p, and-false)

pub count_none : (most n : ℕ) (s : List ℕ) (i end : ℕ) → i ≡ end → n ≡ counted most n (slice i end s)
unfolding counted
count_none most n s i end e = sym (ap (counted most n) (slice_none s i end e))

-- ---- a text

pub positive_0 : (n m : ℕ) → m ≡ n → m ≡ 0 → Unreadable ≡ reading (positive n)
positive_0 n m e h = ap (λ k. reading (positive k)) (sym h ∙ e)

pub positive_n : (n m : ℕ) → m ≡ n → (m ≡ 0 → ⊥) → Number m ≡ reading (positive n)
positive_n zero m e h = absurd (h e)
positive_n (suc n) m e h = ap Number e

pub negative_0 : (n m : ℕ) → m ≡ n → m ≡ 0 → Unreadable ≡ reading (negative n)
negative_0 n m e h = ap (λ k. reading (negative k)) (sym h ∙ e)

pub negative_n : (n m r : ℕ) → m ≡ n → (m ≡ 0 → ⊥) → r ≡ words - m → Number r ≡ reading (negative n)
negative_n zero m r e h g = absurd (h e)
negative_n (suc n) m r e h g = ap Number (g ∙ ap (λ k. words - k) e)

module _ (s : List ℕ) (at end : ℕ) where
  pub text_none : at ≡ end → Blank ≡ reading (numeral (slice at end s))
  unfolding numeral
  text_none e = sym (ap (λ t. reading (numeral t)) (slice_none s at end e))

  pub text_minus : at < end → end ≤ length s → get_or s at 0 ≡ minus → numeral (slice at end s) ≡ negative (counted half 0 (slice (at + 1) end s))
  unfolding numeral
  text_minus h k e = ap numeral (slice_next s at end h k) ∙ rw (eq-eqb (get_or s at 0) minus e)

  pub text_nought : at < end → end ≤ length s → get_or s at 0 ≡ nought → numeral (slice at end s) ≡ alone (slice (at + 1) end s)
  unfolding numeral
  text_nought h k e = ap numeral (slice_next s at end h k) ∙ rw e

  pub text_other : at < end → end ≤ length s → (get_or s at 0 ≡ minus → ⊥) → (get_or s at 0 ≡ nought → ⊥) → numeral (slice at end s) ≡ positive (counted (half - 1) 0 (slice at end s))
  unfolding numeral
  text_other h k e f = ap numeral (slice_next s at end h k) ∙ rw (ne_eqb (get_or s at 0) minus e, ne_eqb (get_or s at 0) nought f)
      (ap (λ t. positive (counted (half - 1) 0 t)) (sym (slice_next s at end h k)))

  pub alone_none : at ≡ end → Number 0 ≡ reading (alone (slice at end s))
  alone_none e = sym (ap (λ t. reading (alone t)) (slice_none s at end e))

  pub alone_some : at < end → end ≤ length s → Unreadable ≡ reading (alone (slice at end s))
  alone_some h k = sym (ap (λ t. reading (alone t)) (slice_next s at end h k))

-- ---- a field

pub field_none : (s : List ℕ) (at width : ℕ) → length s < at + width → Unreadable ≡ reading (reads_at s at width)
unfolding reads_at
field_none s at width h = sym (rw (lt-leb (at + width) (length s) h))

pub field_read : (s : List ℕ) (at width i : ℕ) (r : Reading) → at + width ≤ length s
    → trimmed (slice at (at + width) s) ≡ slice i (at + width) s → r ≡ reading (numeral (slice i (at + width) s)) → r ≡ reading (reads_at s at width)
unfolding reads_at
field_read s at width i r g t h = h ∙ sym (rw (le-leb (at + width) (length s) g) (ap (λ bs. reading (numeral bs)) t))
