-- A test of each row below n, as a loop over the rows finds it. Rests on rows.
use mathlib.Core.Path.{◌≡◌, refl, sym, ap, ◌∙◌}
use mathlib.Core.Bool.{Bool, true, false, not, ◌&&◌}
use mathlib.Core.Logic.{⊎_elim}
use Prim.Native.Nat.{ℕ, zero, suc, ◌+◌, ◌<◌}
use native.Mathlib.Numerals.{add-one}
use native.Mathlib.Nat.{eq-or-lt_of_le, le_of_suc-le-suc}
use native.Mathlib.Omega.{arith}
use borrow.Author.Tests.{not-true, not-false}
use Rattle.rows.specs.Rows.{every}
use Rattle.match_laws.proofs.Ranges.{and-false}

module _ (p : ℕ → Bool) where
  pub every_none : every 0 p ≡ true
  unfolding every
  every_none = refl

  pub every_so : (i : ℕ) → every i p ≡ true → true ≡ p i → every (i + 1) p ≡ true
  unfolding every
  every_so i h e = rw (add-one, h, sym e)

  pub every_not : (n i : ℕ) → i < n → false ≡ p i → false ≡ every n p
  unfolding every
  every_not zero i h e = absurd (omega arith)
  every_not (suc n) i h e = ⊎_elim
      (λ (q : i ≡ n). let z : p n ≡ false = ap p (sym q) ∙ sym e in sym (rw z (and-false (every n p))))
      (λ (q : i < n). ap (λ y. y && p n) (every_not n i q e)) (eq-or-lt_of_le (le_of_suc-le-suc h))

  -- as a test `if !x` leaves it
  pub every_more : (i : ℕ) (x : Bool) → every i p ≡ true → x ≡ p i → not x ≡ false → every (i + 1) p ≡ true
  every_more i x h e t = every_so i h (sym (not-false x t) ∙ e)

  pub every_broken : (n i : ℕ) (x : Bool) → i < n → x ≡ p i → not x ≡ true → false ≡ every n p
  every_broken n i x h e t = every_not n i h (sym (not-true x t) ∙ e)

  pub every_all : (n i : ℕ) → every i p ≡ true → i ≡ n → true ≡ every n p
  every_all n i h e = sym h ∙ ap (λ k. every k p) e
