-- THE THEOREM of fields: in every width, bytes read as a number exactly where they are what writing that word in that width gives.
-- So reading tells numbers apart, and what was written is read back. Rests on proofs/Justified.antt and proofs/Digits.antt.
use Prim.Native.Nat.{ℕ, zero, suc, ◌-◌, ◌≤◌}
use mathlib.Core.Path.{◌≡◌, refl, sym, ap, ◌∙◌}
use mathlib.Core.List.{List, [], ◌∷◌, ◌++◌, append-nil}
use mathlib.Core.Option.{some, some-injective}
use mathlib.Core.Logic.{◌↔◌}
use native.Mathlib.Omega.{arith}
use borrow.Author.Tests.{eqb-true, ne_eqb}
use borrow.Table.Steps.{cases}
use lib.Dec.{eqb}
use lib.IntN.{ℤ, pos, negsuc}
use lib.ListN.{length}
use Rattle.word.specs.Word.{half, IsWord}
use Rattle.decimal.specs.Field.{space, minus, nought, decimal, text, written, number, blank, unreadable, trimmed, counted, positive, negative, alone, numeral, reads}
use Rattle.decimal.proofs.Justified.{justified_length, justified_trimmed}
use Rattle.decimal.proofs.Digits.{digits_nil, head_of, counted_digits, counted_only}

-- ---- texts without spaces

-- a text starts with no space
pub text_trimmed : (z : ℤ) → trimmed (text z) ≡ text z
unfolding trimmed text
text_trimmed (pos zero) = refl
text_trimmed (pos (suc n)) =
    let h = head_of (suc n) (suc n) (omega arith) (omega arith) in
    ap trimmed h.is ∙ rw (ne_eqb h.first space (λ e. omega (arith, h.low))) (sym h.is)
text_trimmed (negsuc n) = refl

counted_decimal : (most n : ℕ) → n ≤ most → counted most 0 (decimal n) ≡ n
unfolding counted
counted_decimal most n h = ap (counted most 0) (sym (append-nil (decimal n))) ∙ counted_digits most n n [] (omega arith) h

-- a word's text says that word
pub numeral_text : (z : ℤ) → IsWord z → numeral (text z) ≡ number z
unfolding numeral text
numeral_text (pos zero) h = refl
numeral_text (pos (suc n)) h =
    let d = head_of (suc n) (suc n) (omega arith) (omega arith) in
    ap numeral d.is
    ∙ rw (ne_eqb d.first minus (λ e. omega (arith, d.low)), ne_eqb d.first nought (λ e. omega (arith, d.low)))
    (ap (λ t. positive (counted (half - 1) 0 t)) (sym d.is) ∙ ap positive (counted_decimal (half - 1) (suc n) (omega arith)))
numeral_text (negsuc n) h = ap negative (counted_decimal half (suc n) (omega arith))

never : {z : ℤ} → unreadable ≡ number z → ⊥
never e = let z : ◌≡◌ {A = ℕ} 0 1 = cc in omega arith

no_number : {z : ℤ} → blank ≡ number z → ⊥
no_number e = let z : ◌≡◌ {A = ℕ} 0 1 = cc in omega arith

-- and no other bytes do
pub record Says (t : List ℕ) (z : ℤ) : Type 0 where
  pub word : IsWord z
  pub is : t ≡ text z

positive_only : (n : ℕ) (t : List ℕ) (z : ℤ) → counted (half - 1) 0 t ≡ n → positive n ≡ number z → Says t z
unfolding text
positive_only zero t z e h = absurd (never h)
positive_only (suc n) t z e h =
    let r = counted_only (half - 1) 0 t n (omega arith) e in
    let g : pos (suc n) ≡ z = cc in
    rw (← g) (record { word = omega (arith, r.1); is = sym (r.0 ∙ ap (λ ds. ds ++ t) (digits_nil 0)) })

negative_only : (n : ℕ) (t : List ℕ) (z : ℤ) → counted half 0 t ≡ n → negative n ≡ number z → Says (minus ∷ t) z
unfolding text
negative_only zero t z e h = absurd (never h)
negative_only (suc n) t z e h =
    let r = counted_only half 0 t n (omega arith) e in
    let g : negsuc n ≡ z = cc in
    rw (← g) (record { word = omega (arith, r.1); is = ap (λ ds. minus ∷ ds) (sym (r.0 ∙ ap (λ ds. ds ++ t) (digits_nil 0))) })

alone_only : (t : List ℕ) (z : ℤ) → alone t ≡ number z → Says (nought ∷ t) z
unfolding text
alone_only [] z h = let g : pos 0 ≡ z = cc in rw (← g) (record { word = omega arith; is = refl })
alone_only (b ∷ t) z h = absurd (never h)

pub numeral_only : (t : List ℕ) (z : ℤ) → numeral t ≡ number z → Says t z
unfolding numeral
numeral_only [] z h = absurd (no_number h)
numeral_only (b ∷ t) z h = cases (eqb b minus)
    (λ e. rw (eqb-true b minus e) (negative_only (counted half 0 t) t z refl (rw e at h)))
    (λ e. cases (eqb b nought)
    (λ f. rw (eqb-true b nought f) (alone_only t z (rw (e, f) at h)))
    (λ f. positive_only (counted (half - 1) 0 (b ∷ t)) (b ∷ t) z refl (rw (e, f) at h)))

-- ---- the theorem

pub reads_written : (w : ℕ) (bs : List ℕ) (z : ℤ) → length bs ≡ w → (reads bs ≡ number z) ↔ (IsWord z × (written w z ≡ some bs))
reads_written w bs z l = (there, back)
  where
    there : reads bs ≡ number z → IsWord z × (written w z ≡ some bs)
    there h = let s = numeral_only (trimmed bs) z h in (s.word, (justified_trimmed w (text z) bs (text_trimmed z) l).0 s.is)

    back : IsWord z × (written w z ≡ some bs) → reads bs ≡ number z
    back h = ap numeral ((justified_trimmed w (text z) bs (text_trimmed z) l).1 h.1) ∙ numeral_text z h.0

-- one reading for one text: fields of one width that say the same number are the same bytes
pub reads_injective : (cs bs : List ℕ) (z : ℤ) → length cs ≡ length bs → reads cs ≡ number z → reads bs ≡ number z → cs ≡ bs
reads_injective cs bs z l p q =
    some-injective cs bs (sym ((reads_written (length bs) cs z l).0 p).1 ∙ ((reads_written (length bs) bs z refl).0 q).1)

-- what was written reads as the number that it was written for
pub written_reads : (w : ℕ) (bs : List ℕ) (z : ℤ) → IsWord z → written w z ≡ some bs → reads bs ≡ number z
written_reads w bs z i h = (reads_written w bs z (justified_length w (text z) bs h)).1 (i, h)
