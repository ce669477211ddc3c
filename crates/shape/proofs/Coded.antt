-- Shapes in code, where 0 is the shape of no type: what `Some` and `None` say, and the ways of `pair_shape`, `first_shape` and
-- `second_shape`. Rests on Laws.
use Rattle.std.proofs.Common.{Option as Answer, Some, None}
use Rattle.std.specs.Option.{unwrap_or}
use Rattle.std.proofs.lemmas.Option.{same_Some}
use mathlib.Core.Path.{◌≡◌, refl, sym, ap, ◌∙◌}
use mathlib.Core.Option.{bind}
use Prim.Native.Nat.{ℕ, zero, suc, ◌+◌, ◌*◌, ◌/◌, ◌%◌, ◌<◌, ◌≤◌}
use native.Mathlib.Omega.{arith}
use Rattle.tophat.specs.Syntax.{max_leaves}
use Rattle.tophat.proofs.ComputeTyping.{first_to, second_to}
use Rattle.shape.specs.Shape.{maybe_shape, shape_or_none, pair_shape, first_shape, second_shape, shape_leaves}
use Rattle.shape.specs.Digits.{max_digits, count, width}
use Rattle.shape.proofs.Puts.{shape_pos}
use Rattle.shape.proofs.Laws.{pair_left, pair_right, pair_over, pair_is, first_no, first_yes, second_no, second_yes, split}

pub some_shape : {r s : ℕ} → r ≡ s → (s ≡ 0 → ⊥) → Some r ≡ shape_or_none s
some_shape {s = zero} e h = absurd (h refl)
some_shape {s = suc s} e h = ap Some e

pub no_shape : {s : ℕ} → 0 ≡ s → None ≡ shape_or_none s
no_shape e = ap shape_or_none e

pub shape_is : {r s : ℕ} → Some r ≡ shape_or_none s → (r ≡ s) × (r ≡ 0 → ⊥)
shape_is {s = zero} e = absurd (cc)
shape_is {s = suc s} e = let p = same_Some _ _ e in (p, λ z. omega arith)

pub shape_not : {s : ℕ} → None ≡ shape_or_none s → s ≡ 0
shape_not {s = zero} e = refl
shape_not {s = suc s} e = absurd (cc)

pub kept_shape : {o : Answer ℕ} {r : ℕ} (s : ℕ) → r ≡ unwrap_or o 0 → o ≡ shape_or_none s → r ≡ s
kept_shape s e h = e ∙ ap (λ o. unwrap_or o 0) h ∙ by s
  where
    by : (s : ℕ) → unwrap_or (shape_or_none s) 0 ≡ s
    by zero = refl
    by (suc s) = refl

-- ---- pairs

module _ (a b m n : ℕ) (h : m ≡ shape_leaves a) (g : n ≡ shape_leaves b) where
  pub none_left : m ≡ 0 → None ≡ shape_or_none (pair_shape a b)
  none_left e = no_shape (pair_left a b (sym h ∙ e))

  pub none_right : n ≡ 0 → None ≡ shape_or_none (pair_shape a b)
  none_right e = no_shape (pair_right a b (sym g ∙ e))

  module _ (y : m ≡ 0 → ⊥) (z : n ≡ 0 → ⊥) where
    pub none_over : max_leaves < m + n → None ≡ shape_or_none (pair_shape a b)
    none_over l = no_shape (pair_over a b m n h g y z l)

    pub some_pair : (w r : ℕ) → w ≡ width m → m + n ≤ max_leaves → r ≡ (a + w * b) * 4 → Some r ≡ shape_or_none (pair_shape a b)
    some_pair w r x l e = let (τ, _, p, q) = pair_is a b m n h g y z w x l in some_shape (e ∙ p ∙ sym q) (λ k. shape_pos τ (sym q ∙ k))

-- ---- components

module _ (c l : ℕ) (h : l ≡ shape_leaves c) where
  pub none_first : l < 2 → None ≡ shape_or_none (first_shape c)
  none_first g = no_shape (first_no c (omega arith))

  pub none_second : l < 2 → None ≡ shape_or_none (second_shape c)
  none_second g = no_shape (second_no c (omega arith))

  module _ (w : ℕ) (g : 2 ≤ l) (e : w ≡ width (count max_digits 1 (c / 4))) where
    pub some_first : Some (c / 4 % w) ≡ shape_or_none (first_shape c)
    unfolding first_shape bind first_to maybe_shape
    some_first =
        let k : 2 ≤ shape_leaves c = omega arith in
        let (τ, υ, _, _, q) = split c w k e in
        some_shape (first_yes c w k e) (λ z. shape_pos τ (rw q at z))

    pub some_second : Some (c / 4 / w) ≡ shape_or_none (second_shape c)
    unfolding second_shape bind second_to maybe_shape
    some_second =
        let k : 2 ≤ shape_leaves c = omega arith in
        let (τ, υ, _, _, q) = split c w k e in
        some_shape (second_yes c w k e) (λ z. shape_pos υ (rw q at z))
