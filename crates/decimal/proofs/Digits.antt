-- Decimal digits: counting them gives the number back, and only a number's own digits count as it.
-- Rests on the definitions of specs/Field.antt alone.
use Prim.Native.Nat.{ℕ, zero, suc, ◌+◌, ◌*◌, ◌-◌, ◌/◌, ◌%◌, ◌≤◌, ◌<◌}
use mathlib.Core.Path.{◌≡◌, refl, sym, ap, ◌∙◌}
use mathlib.Core.Bool.{Bool, true, false, ◌&&◌}
use mathlib.Core.List.{List, [], ◌∷◌, ◌++◌, append_assoc, append-nil}
use native.Mathlib.Omega.{arith}
use borrow.Author.Tests.{le-leb, leb-true, leb-false}
use borrow.Table.Steps.{cases}
use lib.Dec.{leb}
use Rattle.decimal.specs.Field.{nought, nine, digits, decimal, counted}

-- ---- a number's digits

pub digits_nil : (k : ℕ) → digits k 0 ≡ []
unfolding digits
digits_nil zero = refl
digits_nil (suc k) = refl

-- room for more digits changes nothing
pub digits_same : (k j n : ℕ) → n ≤ k → n ≤ j → digits k n ≡ digits j n
unfolding digits
digits_same zero j zero p q = sym (digits_nil j)
digits_same zero j (suc n) p q = absurd (omega arith)
digits_same (suc k) zero zero p q = refl
digits_same (suc k) zero (suc n) p q = absurd (omega arith)
digits_same (suc k) (suc j) zero p q = refl
digits_same (suc k) (suc j) (suc n) p q =
    ap (λ ds. ds ++ (nought + suc n % 10) ∷ []) (digits_same k j (suc n / 10) (omega arith) (omega arith))

pub decimal_last : (n : ℕ) → 1 ≤ n → decimal n ≡ decimal (n / 10) ++ (nought + n % 10) ∷ []
unfolding digits
decimal_last zero h = absurd (omega arith)
decimal_last (suc n) h = ap (λ ds. ds ++ (nought + suc n % 10) ∷ []) (digits_same n (suc n / 10) (suc n / 10) (omega arith) (omega arith))

-- a digit put after n's digits
pub decimal_more : (n d : ℕ) → d < 10 → 1 ≤ n * 10 + d → decimal (n * 10 + d) ≡ decimal n ++ (nought + d) ∷ []
decimal_more n d h g =
    let p : (n * 10 + d) / 10 ≡ n = omega arith in
    let q : (n * 10 + d) % 10 ≡ d = omega arith in
    decimal_last (n * 10 + d) g ∙ (λ i. decimal (p i) ++ (nought + q i) ∷ [])

-- the first digit is 1 to 9
pub record Head (t : List ℕ) : Type 0 where
  pub first : ℕ
  pub rest : List ℕ
  pub is : t ≡ first ∷ rest
  pub low : nought < first
  pub high : first ≤ nine

pub head_of : (k n : ℕ) → 1 ≤ n → n ≤ k → Head (digits k n)
unfolding digits
head_of zero n h g = absurd (omega arith)
head_of (suc k) zero h g = absurd (omega arith)
head_of (suc k) (suc n) h g = cases (leb 1 (suc n / 10))
    (λ e. let r = head_of k (suc n / 10) (leb-true _ _ e) (omega arith) in
    record { first = r.first; rest = r.rest ++ (nought + suc n % 10) ∷ []; is = rw r.is; low = r.low; high = r.high })
    (λ e. let z : suc n / 10 ≡ 0 = omega (arith, leb-false 1 (suc n / 10) e) in
    record { first = nought + suc n % 10; rest = []; is = rw (z, digits_nil k); low = omega arith; high = omega arith })

-- ---- counting digits

module _ (most n b : ℕ) (bs : List ℕ) where
  pub counted_step : nought ≤ b → b ≤ nine → 1 ≤ n * 10 + (b - nought) → n * 10 + (b - nought) ≤ most
      → counted most n (b ∷ bs) ≡ counted most (n * 10 + (b - nought)) bs
  unfolding counted
  counted_step p q r s = rw (le-leb nought b p, le-leb b nine q, le-leb 1 (n * 10 + (b - nought)) r, le-leb (n * 10 + (b - nought)) most s)

-- n's digits are counted as n
pub counted_digits : (most k n : ℕ) (bs : List ℕ) → n ≤ k → n ≤ most → counted most 0 (digits k n ++ bs) ≡ counted most n bs
unfolding digits
counted_digits most zero zero bs h g = refl
counted_digits most zero (suc n) bs h g = absurd (omega arith)
counted_digits most (suc k) zero bs h g = refl
counted_digits most (suc k) (suc n) bs h g =
    let e : suc n / 10 * 10 + (nought + suc n % 10 - nought) ≡ suc n = omega arith in
    ap (counted most 0) (append_assoc (digits k (suc n / 10)) ((nought + suc n % 10) ∷ []) bs)
    ∙ counted_digits most k (suc n / 10) ((nought + suc n % 10) ∷ bs) (omega arith) (omega arith)
    ∙ counted_step most (suc n / 10) (nought + suc n % 10) bs (omega arith) (omega arith) (omega (arith, e)) (omega (arith, e))
    ∙ ap (λ m. counted most m bs) e

both : (a b : Bool) → (a && b) ≡ true → (a ≡ true) × (b ≡ true)
both true b h = (refl, h)
both false b h = let z : false ≡ true = h in absurd (wrong z)
  where
    wrong : false ≡ true → ⊥
    wrong e = let z : ◌≡◌ {A = ℕ} 0 1 = cc in omega arith

-- what is counted as m is n's digits and then the rest of m's
pub counted_only : (most n : ℕ) (bs : List ℕ) (m : ℕ) → n ≤ most → counted most n bs ≡ suc m
    → (decimal (suc m) ≡ decimal n ++ bs) × (suc m ≤ most)
unfolding counted
counted_only most n [] m l h = (ap decimal (sym h) ∙ sym (append-nil (decimal n)), rw h at l)
counted_only most n (b ∷ bs) m l h = cases (leb nought b && leb b nine && leb 1 (n * 10 + (b - nought)) && leb (n * 10 + (b - nought)) most)
    (λ e.
    let x = both _ _ e in
    let y = both _ _ x.0 in
    let v = both _ _ y.0 in
    let p : nought ≤ b = leb-true _ _ v.0 in
    let q : b ≤ nine = leb-true _ _ v.1 in
    let u : nought + (b - nought) ≡ b = omega arith in
    let r = counted_only most (n * 10 + (b - nought)) bs m (leb-true _ _ x.1) (rw e at h) in (
      r.0
          ∙ ap (λ t. t ++ bs) (decimal_more n (b - nought) (omega arith) (leb-true _ _ y.1))
          ∙ append_assoc (decimal n) ((nought + (b - nought)) ∷ []) bs
          ∙ ap (λ c. decimal n ++ c ∷ bs) u,
      r.1,
    ))
    (λ e. let z : 0 ≡ suc m = rw e at h in absurd (omega arith))
