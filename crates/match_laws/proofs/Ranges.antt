-- What an arm of a `match` on a number knows, turned into a fact of that number: one of some numbers (`one_of`), in a
-- range (`in_range`), in a range but none of the numbers of other arms (`in_gap`, and `within` by one computed test),
-- past the end of a table (`past`). Rests on nothing.
use mathlib.Core.Path.{◌≡◌, refl, sym, subst}
use mathlib.Core.Bool.{Bool, true, false, ◌&&◌, ◌||◌}
use mathlib.Core.Logic.{⊎_elim, inl, inr}
use mathlib.Core.List.{List, [], ◌∷◌}
use Prim.Native.Nat.{ℕ, zero, suc, ◌+◌, ◌<◌, ◌≤◌}
use native.Mathlib.Nat.{eq-or-lt_of_le}
use native.Mathlib.Omega.{arith}
use lib.Dec.{eqb}
use lib.ListN.{length, get_or, get_or-eq_default}
use types.Run.{OneOf}
use borrow.Author.Tests.{ne_eqb}

-- ---- one of some numbers: an arm `a | b | c`

abbrev pub AllOf : (ℕ → Type 0) → List ℕ → Type 0
AllOf P [] = Unit {0}
AllOf P (k ∷ ks) = P k × AllOf P ks

pub one_of : (P : ℕ → Type 0) (ks : List ℕ) {x : ℕ} → AllOf P ks → OneOf ks x → P x
one_of P [] a h = absurd h
one_of P (k ∷ []) a h = subst P (sym h) a.0
one_of P (k ∷ j ∷ ks) a (inl h) = subst P (sym h) a.0
one_of P (k ∷ j ∷ ks) a (inr h) = one_of P (j ∷ ks) a.1 h

-- ---- none of the numbers of other arms, the last arm first: `c.in_default.in_default-own.rest` as it is handed over

abbrev pub NoneOf : List (List ℕ) → ℕ → Type 0
NoneOf [] x = Unit {0}
NoneOf (ks ∷ kss) x = NoneOf kss x × (OneOf ks x → ⊥)

abbrev pub memb : List ℕ → ℕ → Bool
memb [] x = false
memb (k ∷ ks) x = eqb x k || memb ks x

abbrev pub membs : List (List ℕ) → ℕ → Bool
membs [] x = false
membs (ks ∷ kss) x = memb ks x || membs kss x

member : (ks : List ℕ) (x : ℕ) → (OneOf ks x → ⊥) → memb ks x ≡ false
member [] x h = refl
member (k ∷ []) x h = rw (ne_eqb x k h)
member (k ∷ j ∷ ks) x h = rw (ne_eqb x k (λ e. h (inl e))) (member (j ∷ ks) x (λ e. h (inr e)))

none_of : (kss : List (List ℕ)) (x : ℕ) → NoneOf kss x → membs kss x ≡ false
none_of [] x h = refl
none_of (ks ∷ kss) x h = rw (member ks x h.1) (none_of kss x h.0)

-- ---- a range: an arm `a ..= b`, of n numbers

abbrev pub Each : (ℕ → Type 0) → ℕ → ℕ → Type 0
Each P a zero = Unit {0}
Each P a (suc n) = P a × Each P (suc a) n

pub in_range : (P : ℕ → Type 0) (a n : ℕ) {x : ℕ} → Each P a n → a ≤ x → x < a + n → P x
in_range P a zero e l h = absurd (omega arith)
in_range P a (suc n) {x} e l h = ⊎_elim (λ p. subst P p e.0) (λ q. in_range P (suc a) n e.1 q (omega arith)) (eq-or-lt_of_le l)

-- the same where the numbers of other arms are left out: nothing is asked there
abbrev pub Unless : Bool → Type 0 → Type 0
Unless true P = Unit {0}
Unless false P = P

pub in_gap : (P : ℕ → Type 0) (kss : List (List ℕ)) (a n : ℕ) {x : ℕ} → Each (λ k. Unless (membs kss k) (P k)) a n → a ≤ x → x < a + n → NoneOf kss x → P x
in_gap P kss a n {x} e l h g = subst (λ b. Unless b (P x)) (none_of kss x g) (in_range (λ k. Unless (membs kss k) (P k)) a n e l h)

-- the same for a fact that is a test: one computed test of the whole range, by refl
abbrev pub test_all : (ℕ → Bool) → ℕ → ℕ → Bool
test_all p a zero = true
test_all p a (suc n) = p a && test_all p (suc a) n

pub and-false : (b : Bool) → (b && false) ≡ false
and-false true = refl
and-false false = refl

pub and_left : (a b : Bool) → (a && b) ≡ true → a ≡ true
and_left true b h = refl
and_left false b h = h

pub and_right : (a b : Bool) → (a && b) ≡ true → b ≡ true
and_right true b h = h
and_right false b h = let z : ◌≡◌ {A = ℕ} 0 1 = cc in absurd (omega arith)

tested : (p : ℕ → Bool) (a n : ℕ) → test_all p a n ≡ true → (x : ℕ) → a ≤ x → x < a + n → p x ≡ true
tested p a zero t x l h = absurd (omega arith)
tested p a (suc n) t x l h =
    ⊎_elim (λ e. subst (λ y. p y ≡ true) e (and_left (p a) (test_all p (suc a) n) t))
    (λ q. tested p (suc a) n (and_right (p a) (test_all p (suc a) n) t) x q (omega arith)) (eq-or-lt_of_le l)

pub within : (p : ℕ → Bool) (a n : ℕ) (kss : List (List ℕ)) (x : ℕ) → test_all (λ k. membs kss k || p k) a n ≡ true → a ≤ x → x < a + n → NoneOf kss x → p x ≡ true
within p a n kss x t l h g = let u = tested (λ k. membs kss k || p k) a n t x l h in rw (none_of kss x g) at u

-- ---- past the end of a table

pub past : {A : Type 0} (xs : List A) (d : A) (x : ℕ) → length xs ≤ x → get_or xs x d ≡ d
past xs d x h = get_or-eq_default xs d {n = x} h
