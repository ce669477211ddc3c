-- The equality of words, read off their bits; and the two tests of order, one by the other. Assumes nothing.
use mathlib.Core.Path.{◌≡◌, refl, sym, ap, ◌∙◌}
use mathlib.Core.Bool.{Bool, true, false, not}
use Prim.Native.Nat.{ℕ, ◌<◌}
use native.Mathlib.Omega.{arith}
use Rattle.std.proofs.lemmas.Int.{ints}
use lib.Dec.{eqb}
use lib.IntN.{ℤ, pos, negsuc}
use lib.Signed.{lt_z, le_z}
use mir.Syntax.{w32}
use mir.Val.{to_z}
use borrow.Author.Tests.{eq-eqb, ne_eqb, eqb-true}
use Rattle.word.specs.Word.{words, eq_z}
use Rattle.word.proofs.TwosComplement.{number_injective}

-- by the two answers of a test
pub by_truth : {P : Type 0} (b : Bool) → (b ≡ true → P) → (b ≡ false → P) → P
by_truth true f g = f refl
by_truth false f g = g refl

-- at most is not less the other way round
pub le_z_not_lt_z : (x y : ℤ) → le_z x y ≡ not (lt_z y x)
le_z_not_lt_z x y = by_truth (lt_z y x)
    (λ e. let f : false ≡ le_z x y = omega (arith, ints) in sym f ∙ ap not (sym e))
    (λ e. let t : true ≡ le_z x y = omega (arith, ints) in sym t ∙ ap not (sym e))

-- the test of equality decides it
pub eq_z_refl : (x : ℤ) → eq_z x x ≡ true
eq_z_refl (pos a) = eq-eqb a a refl
eq_z_refl (negsuc a) = eq-eqb a a refl

pub eq_z_true : (x y : ℤ) → eq_z x y ≡ true → x ≡ y
eq_z_true (pos a) (pos b) e = ap pos (eqb-true a b e)
eq_z_true (pos a) (negsuc b) e = cc
eq_z_true (negsuc a) (pos b) e = cc
eq_z_true (negsuc a) (negsuc b) e = ap negsuc (eqb-true a b e)

pub eq_z_false : (x y : ℤ) → eq_z x y ≡ false → x ≡ y → ⊥
eq_z_false x y e q = let z : true ≡ false = sym (eq_z_refl x) ∙ ap (eq_z x) q ∙ e in let n : ◌≡◌ {A = ℕ} 0 1 = cc in omega arith

pub equal_number : (a b : ℕ) → a < words → b < words → eqb a b ≡ eq_z (to_z w32 a) (to_z w32 b)
equal_number a b ha hb = by_truth (eq_z (to_z w32 a) (to_z w32 b))
    (λ e. eq-eqb a b (number_injective a b ha hb (eq_z_true (to_z w32 a) (to_z w32 b) e)) ∙ sym e)
    (λ e. ne_eqb a b (λ q. eq_z_false (to_z w32 a) (to_z w32 b) e (ap (to_z w32) q)) ∙ sym e)
