-- Values of one leaf, and what the eight operators give on the bits of two numbers. Rests on crate word's laws.
use mathlib.Core.Path.{◌≡◌, refl, sym, ap, ap₂, ◌∙◌}
use mathlib.Core.Bool.{Bool, true, false, not, ◌&&◌, ◌||◌}
use Prim.Native.Nat.{ℕ, zero, suc, ◌≤◌, ◌<◌}
use native.Mathlib.Omega.{arith}
use lib.IntN.{ℤ, ◌+ℤ◌, ◌-ℤ◌, ◌*ℤ◌}
use lib.Signed.{lt_z, le_z}
use mir.Syntax.{w32}
use mir.Val.{to_z}
use Rattle.std.specs.Prelude.{Option, Some, None}
use Rattle.std.specs.Option.{is_some, unwrap_or}
use Rattle.word.specs.Word.{words, is_word, eq_z}
use Rattle.word.specs.Reckoning.{reckoning}
use Rattle.word.proofs.TwosComplement.{bits_number}
use Rattle.word.proofs.Results.{word_of, beyond_of}
use Rattle.tophat.specs.Syntax.{sum, vunit, vtruth, vnumber}
use Rattle.tophat.specs.Leaves.{leaves_of, padded, unit_leaf, truth_leaf, number_leaf, leaf_number}
use Rattle.tophat.proofs.ComputeEvaluation.{leaf, is_true, kept, exact, exceeds, apply}
use Rattle.tophat.specs.Typing.{type_of}
use Rattle.match_laws.proofs.Ranges.{past}
use Rattle.rows.specs.Trees.{operators, operator_of}
use Rattle.shape.specs.Shape.{put, as_shape}
use Rattle.value.specs.declared.Evaluation.{Evaluation}
use Rattle.value.specs.Values.{leaf_bits, as_value, single}
use Rattle.value.specs.Evaluations.{sure_of, after_over, exactly, applied}

-- ---- values of one leaf

pub differ : {X : Type 0} → true ≡ false → X
differ e = let z : ◌≡◌ {A = ℕ} 0 1 = cc in absurd (omega arith)

pub unit_is : single (leaf_number unit_leaf) 0 ≡ as_value vunit
unfolding as_value as_shape put leaf_bits padded type_of leaves_of
unit_is = refl

pub true_is : {b : Bool} → b ≡ true → single (leaf_number truth_leaf) 1 ≡ as_value (vtruth b)
unfolding as_value as_shape put leaf_bits padded type_of leaves_of
true_is e = ap (λ b. as_value (vtruth b)) (sym e)

pub false_is : {b : Bool} → b ≡ false → single (leaf_number truth_leaf) 0 ≡ as_value (vtruth b)
unfolding as_value as_shape put leaf_bits padded type_of leaves_of
false_is e = ap (λ b. as_value (vtruth b)) (sym e)

pub number_is : (w : ℕ) → w < words → single (leaf_number number_leaf) w ≡ as_value (vnumber (to_z w32 w))
unfolding as_value as_shape put leaf_bits padded type_of leaves_of
number_is w h = ap (single (leaf_number number_leaf)) (sym (bits_number w h))

-- ---- the operators

-- a test for 1 is whether the number is true's
pub tests_true : (x : ℕ) (r : Bool) → r ≡ eq_z (to_z w32 x) (to_z w32 1) → r ≡ is_true (vnumber (to_z w32 x))
unfolding is_true leaf
tests_true x r e = e

-- an evaluation after one, by the flag of that one
pub after_over_lem : (x : Bool) (e : Evaluation) → x ≡ true → record { over = true; value = e.value } ≡ after_over x e
after_over_lem x e h = ap (λ x. after_over x e) (sym h)

pub after_sure : (x : Bool) (e : Evaluation) → x ≡ false → e ≡ after_over x e
after_sure x e h = ap (λ x. after_over x e) (sym h)

-- a result, a word or none
pub exactly_is : (z : ℤ) (r : Option ℕ) (x : Bool) → is_some r ≡ not x → r ≡ reckoning z → record { over = x; value = as_value (vnumber (to_z w32 (unwrap_or r 0))) } ≡ exactly z
unfolding kept
exactly_is z (Some w) false n e = let (h, k) = word_of z w e in rw (h, k)
exactly_is z (Some w) true n e = differ n
exactly_is z None false n e = differ (sym n)
exactly_is z None true n e = let h = beyond_of z e in rw h

-- what is no operator's number is read as the sum's
no_operator : (n : ℕ) → (1 ≤ n → n ≤ 8 → ⊥) → operator_of n ≡ sum
unfolding operator_of
no_operator zero h = refl
no_operator (suc n) h = past operators sum (suc n) (omega (arith, h (omega arith)))

module _ (op x y : ℕ) where
  -- the operator numbered op on the two numbers
  abbrev Is : Evaluation → Type 0
  Is r = r ≡ applied (operator_of op) (vnumber (to_z w32 x)) (vnumber (to_z w32 y))

  by_number : (k : ℕ) (r : Evaluation) → op ≡ k → r ≡ applied (operator_of k) (vnumber (to_z w32 x)) (vnumber (to_z w32 y)) → Is r
  by_number k r h e = e ∙ ap (λ k. applied (operator_of k) (vnumber (to_z w32 x)) (vnumber (to_z w32 y))) (sym h)

  pub sum_is : (r : Evaluation) → op ≡ 1 → r ≡ exactly (to_z w32 x +ℤ to_z w32 y) → Is r
  unfolding apply exceeds exact operator_of leaf
  sum_is r h e = by_number 1 r h e

  pub difference_is : (r : Evaluation) → op ≡ 2 → r ≡ exactly (to_z w32 x -ℤ to_z w32 y) → Is r
  unfolding apply exceeds exact operator_of leaf
  difference_is r h e = by_number 2 r h e

  pub product_is : (r : Evaluation) → op ≡ 3 → r ≡ exactly (to_z w32 x *ℤ to_z w32 y) → Is r
  unfolding apply exceeds exact operator_of leaf
  product_is r h e = by_number 3 r h e

  abbrev told : Bool → Evaluation
  told b = sure_of (as_value (vtruth b))

  pub less_is : (r : Bool) → op ≡ 4 → r ≡ lt_z (to_z w32 x) (to_z w32 y) → Is (told r)
  unfolding apply exceeds exact operator_of leaf is_word
  less_is r h e = by_number 4 (told r) h (ap told e)

  pub less_equal_is : (r : Bool) → op ≡ 5 → r ≡ le_z (to_z w32 x) (to_z w32 y) → Is (told r)
  unfolding apply exceeds exact operator_of leaf is_word
  less_equal_is r h e = by_number 5 (told r) h (ap told e)

  pub equal_is : (r : Bool) → op ≡ 6 → r ≡ eq_z (to_z w32 x) (to_z w32 y) → Is (told r)
  unfolding apply exceeds exact operator_of leaf is_word
  equal_is r h e = by_number 6 (told r) h (ap told e)

  module _ (p q : Bool) (hp : p ≡ eq_z (to_z w32 x) (to_z w32 1)) (hq : q ≡ eq_z (to_z w32 y) (to_z w32 1)) where
    pub and_is : (r : Bool) → op ≡ 7 → r ≡ (p && q) → Is (told r)
    unfolding apply exceeds exact operator_of is_word
    and_is r h e = by_number 7 (told r) h (ap told (e ∙ ap₂ ◌&&◌ (tests_true x p hp) (tests_true y q hq)))

    pub or_is : (r : Bool) → op ≡ 8 → r ≡ (p || q) → Is (told r)
    unfolding apply exceeds exact operator_of is_word
    or_is r h e = by_number 8 (told r) h (ap told (e ∙ ap₂ ◌||◌ (tests_true x p hp) (tests_true y q hq)))

  pub other_is : (r : Evaluation) → (1 ≤ op → op ≤ 8 → ⊥) → r ≡ exactly (to_z w32 x +ℤ to_z w32 y) → Is r
  unfolding apply exceeds exact leaf
  other_is r h e = e ∙ ap (λ o. applied o (vnumber (to_z w32 x)) (vnumber (to_z w32 y))) (sym (no_operator op h))
