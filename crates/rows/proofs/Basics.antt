-- Tests of Bool, tests of each row below n, and lists that are made row by row. Rests on Rows, and on the crate match_laws.
use mathlib.Core.Path.{◌≡◌, refl, sym, ap, subst, ◌∙◌}
use mathlib.Core.Bool.{Bool, true, false, ◌&&◌, ◌||◌}
use mathlib.Core.Logic.{⊎_elim, ◌⊎◌, inl, inr}
use mathlib.Core.List.{List, [], ◌∷◌, ◌++◌}
use Prim.Native.Nat.{ℕ, zero, suc, ◌<◌, ◌≤◌}
use native.Mathlib.Nat.{eq-or-lt_of_le, le_of_suc-le-suc}
use native.Mathlib.Omega.{arith}
use lib.ListN.{length, get_or, length-append, get_or-append, get_or-eq_default}
use lib.Seq.{get_or-append_seam}
use Rattle.match_laws.proofs.Ranges.{and_left, and_right}
use Rattle.rows.specs.Rows.{every}

pub no : {P : Type 0} → false ≡ true → P
no h = let z : ◌≡◌ {A = ℕ} 0 1 = cc in absurd (omega arith)

pub both : {a b : Bool} → a ≡ true → b ≡ true → (a && b) ≡ true
both p q = rw (p, q)

pub or_cases : (a b : Bool) → (a || b) ≡ true → (a ≡ true) ⊎ (b ≡ true)
or_cases true b h = inl refl
or_cases false b h = inr h

pub true_or_false : (a : Bool) → (a ≡ true) ⊎ (a ≡ false)
true_or_false true = inl refl
true_or_false false = inr refl

pub le_or_lt : (a b : ℕ) → (a ≤ b) ⊎ (b < a)
le_or_lt zero b = inl (omega arith)
le_or_lt (suc a) zero = inr (omega arith)
le_or_lt (suc a) (suc b) = ⊎_elim (λ p. inl (omega arith)) (λ q. inr (omega arith)) (le_or_lt a b)

-- a test of each row below n is a test of each
pub every_at : (n : ℕ) (p : ℕ → Bool) → every n p ≡ true → (i : ℕ) → i < n → p i ≡ true
unfolding every
every_at zero p h i l = absurd (omega arith)
every_at (suc n) p h i l = ⊎_elim (λ (e : i ≡ n). subst (λ k. p k ≡ true) (sym e) (and_right (every n p) (p n) h))
    (λ (b : i < n). every_at n p (and_left (every n p) (p n) h) i b) (eq-or-lt_of_le (le_of_suc-le-suc l))

pub every_of : (n : ℕ) (p : ℕ → Bool) → ((i : ℕ) → i < n → p i ≡ true) → every n p ≡ true
unfolding every
every_of zero p h = refl
every_of (suc n) p h = both (every_of n p (λ i l. h i (omega arith))) (h n (omega arith))

-- a list made row by row: entry w is what row w made of the entries before
module _ {A : Type 0} (d : A) (f : ℕ → List A → A) (L : ℕ → List A) (z : L 0 ≡ []) (s : (i : ℕ) → L (suc i) ≡ L i ++ f i (L i) ∷ []) where
  pub made_length : (i : ℕ) → length (L i) ≡ i
  made_length zero = ap length z
  made_length (suc i) = ap length (s i) ∙ length-append (L i) (f i (L i) ∷ []) ∙ omega (arith, made_length i)

  pub made_at : (i w : ℕ) → w < i → get_or (L i) w d ≡ f w (L w)
  made_at zero w h = absurd (omega arith)
  made_at (suc i) w h = ap (λ l. get_or l w d) (s i) ∙ ⊎_elim
      (λ (e : w ≡ i). ap (λ k. get_or (L i ++ f i (L i) ∷ []) k d) (e ∙ sym (made_length i)) ∙ get_or-append_seam (L i) (f i (L i)) [] d ∙ sym (ap (λ k. f k (L k)) e))
      (λ (b : w < i). get_or-append (L i) (f i (L i) ∷ []) d w (omega (arith, made_length i)) ∙ made_at i w b) (eq-or-lt_of_le (le_of_suc-le-suc h))

  pub made_past : (i w : ℕ) → i ≤ w → get_or (L i) w d ≡ d
  made_past i w h = get_or-eq_default (L i) d {n = w} (omega (arith, made_length i))
