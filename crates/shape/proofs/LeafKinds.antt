-- The leaf kinds of a shape are its digits but the pairs' ones, in their order. Rests on Puts, Counts and Laws.
use mathlib.Core.Path.{◌≡◌, refl, sym, ap, ap₂, ◌∙◌}
use mathlib.Core.List.{List, [], ◌∷◌, ◌++◌, map, map-append, append_assoc, append-nil}
use Prim.Native.Nat.{ℕ, zero, suc, ◌+◌, ◌-◌, ◌*◌, ◌/◌, ◌%◌, ◌<◌, ◌≤◌}
use native.Mathlib.Numerals.{sub-one, add-one}
use native.Mathlib.Omega.{arith}
use lib.ListN.{length, set, replicate, length-append}
use lib.Seq.{set-append_seam}
use borrow.Author.Tests.{eq-eqb, ne_eqb}
use Rattle.tophat.specs.Syntax.{max_leaves, Ty, unit, truth, number, pair, leaves}
use Rattle.tophat.specs.Leaves.{padded, leaf_kinds, leaf_number}
use Rattle.shape.specs.Shape.{put, as_shape, shape_leaves, kinds_in, kinds_of}
use Rattle.shape.specs.Digits.{max_digits, leaf_digits, stored_from}
use Rattle.shape.proofs.Counts.{digits, digits_are}
use Rattle.shape.proofs.Laws.{read_none, read_some}

-- ---- store_leaves

pub store_end : (d c i : ℕ) (ks : List ℕ) → d ≡ 0 → ks ≡ stored_from ks i (leaf_digits d c)
unfolding leaf_digits stored_from
store_end zero c i ks h = refl
store_end (suc d) c i ks h = absurd (omega arith)

pub digits_pair : (d c : ℕ) → (d ≡ 0 → ⊥) → c % 4 ≡ 0 → leaf_digits d c ≡ leaf_digits (d - 1) (c / 4)
unfolding leaf_digits
digits_pair zero c h e = absurd (h refl)
digits_pair (suc d) c h e = rw (eq-eqb (c % 4) 0 e, sub-one)

pub digits_leaf : (d c : ℕ) → (d ≡ 0 → ⊥) → (c % 4 ≡ 0 → ⊥) → leaf_digits d c ≡ c % 4 ∷ leaf_digits (d - 1) (c / 4)
unfolding leaf_digits
digits_leaf zero c h e = absurd (h refl)
digits_leaf (suc d) c h e = rw (ne_eqb (c % 4) 0 e, sub-one)

module _ (d c i : ℕ) (ks : List ℕ) (h : d ≡ 0 → ⊥) where
  pub store_pair : (r : List ℕ) → c % 4 ≡ 0 → r ≡ stored_from ks i (leaf_digits (d - 1) (c / 4)) → r ≡ stored_from ks i (leaf_digits d c)
  store_pair r e f = f ∙ ap (stored_from ks i) (sym (digits_pair d c h e))

  pub store_leaf : (r : List ℕ) → (c % 4 ≡ 0 → ⊥) → r ≡ stored_from (set ks i (c % 4)) (i + 1) (leaf_digits (d - 1) (c / 4)) → r ≡ stored_from ks i (leaf_digits d c)
  unfolding stored_from
  store_leaf r e f = f ∙ ap (λ j. stored_from (set ks i (c % 4)) j (leaf_digits (d - 1) (c / 4))) (add-one i) ∙ sym (ap (stored_from ks i) (digits_leaf d c h e))

  pub room_pair : (m : ℕ) → c % 4 ≡ 0 → i + length (leaf_digits d c) ≤ m → i + length (leaf_digits (d - 1) (c / 4)) ≤ m
  room_pair m e l = omega (arith, ap length (digits_pair d c h e))

  pub room_leaf : (m : ℕ) → (c % 4 ≡ 0 → ⊥) → i + length (leaf_digits d c) ≤ m → (i < m) × (i + 1 + length (leaf_digits (d - 1) (c / 4)) ≤ m)
  room_leaf m e l = let n = ap length (digits_leaf d c h e) in (omega arith, omega arith)

-- ---- the digits of a shape

leaf_digit : (d c j : ℕ) → 1 ≤ j → j < 4 → leaf_digits (suc d) (c * 4 + j) ≡ j ∷ leaf_digits d c
unfolding leaf_digits
leaf_digit d c j p q =
    let x : (c * 4 + j) % 4 ≡ j = omega arith in
    let y : (c * 4 + j) / 4 ≡ c = omega arith in
    rw (x, y, ne_eqb j 0 (λ e. omega arith))

pair_digit : (d p : ℕ) → leaf_digits (suc d) (p * 4) ≡ leaf_digits d p
unfolding leaf_digits
pair_digit d p =
    let x : p * 4 % 4 ≡ 0 = omega arith in
    let y : p * 4 / 4 ≡ p = omega arith in
    rw (x, y)

abbrev numbers : Ty → List ℕ
numbers τ = map leaf_number (leaf_kinds τ)

digits_put : (τ : Ty) (d c : ℕ) → leaf_digits (digits τ + d) (put τ c) ≡ numbers τ ++ leaf_digits d c
unfolding digits put leaf_kinds
digits_put unit d c = let e : 1 + d ≡ suc d = omega arith in ap (λ x. leaf_digits x (c * 4 + 1)) e ∙ leaf_digit d c 1 (omega arith) (omega arith)
digits_put truth d c = let e : 1 + d ≡ suc d = omega arith in ap (λ x. leaf_digits x (c * 4 + 2)) e ∙ leaf_digit d c 2 (omega arith) (omega arith)
digits_put number d c = let e : 1 + d ≡ suc d = omega arith in ap (λ x. leaf_digits x (c * 4 + 3)) e ∙ leaf_digit d c 3 (omega arith) (omega arith)
digits_put (pair τ υ) d c =
    let e : suc (digits τ + digits υ) + d ≡ suc (digits τ + (digits υ + d)) = omega arith in
    ap (λ x. leaf_digits x (put τ (put υ c) * 4)) e ∙ pair_digit (digits τ + (digits υ + d)) (put τ (put υ c)) ∙ digits_put τ (digits υ + d) (put υ c)
    ∙ ap (λ l. numbers τ ++ l) (digits_put υ d c) ∙ sym (append_assoc (numbers τ) (numbers υ) (leaf_digits d c)) ∙ ap (λ l. l ++ leaf_digits d c) (sym (map-append leaf_number (leaf_kinds τ) (leaf_kinds υ)))

no_digits : (d : ℕ) → leaf_digits d 0 ≡ []
unfolding leaf_digits
no_digits zero = refl
no_digits (suc d) = no_digits d

numbers_length : (τ : Ty) → length (numbers τ) ≡ leaves τ
unfolding leaf_kinds leaves
numbers_length unit = refl
numbers_length truth = refl
numbers_length number = refl
numbers_length (pair τ υ) = ap length (map-append leaf_number (leaf_kinds τ) (leaf_kinds υ)) ∙ length-append (numbers τ) (numbers υ) ∙ ap₂ ◌+◌ (numbers_length τ) (numbers_length υ)

shape_digits : (τ : Ty) → leaves τ ≤ max_leaves → leaf_digits max_digits (as_shape τ) ≡ numbers τ
unfolding as_shape
shape_digits τ h =
    let e : max_digits ≡ digits τ + (max_digits - digits τ) = omega (arith, digits_are τ) in
    ap (λ d. leaf_digits d (put τ 0)) e ∙ digits_put τ (max_digits - digits τ) 0 ∙ ap (λ l. numbers τ ++ l) (no_digits (max_digits - digits τ)) ∙ append-nil (numbers τ)

-- ---- leaf_kinds

-- stored into zeros, they stand padded
stored : (ys : List ℕ) (n : ℕ) (xs : List ℕ) → length xs ≤ n → stored_from (ys ++ replicate n 0) (length ys) xs ≡ ys ++ (xs ++ replicate (n - length xs) 0)
unfolding stored_from
stored ys n [] h = let e : n - 0 ≡ n = omega arith in ap (λ k. ys ++ replicate k 0) (sym e)
stored ys zero (x ∷ xs) h = absurd (omega arith)
stored ys (suc n) (x ∷ xs) h =
    let e : set (ys ++ 0 ∷ replicate n 0) (length ys) x ≡ (ys ++ x ∷ []) ++ replicate n 0 = set-append_seam ys 0 (replicate n 0) x ∙ sym (append_assoc ys (x ∷ []) (replicate n 0)) in
    let k : suc (length ys) ≡ length (ys ++ x ∷ []) = omega (arith, length-append ys (x ∷ [])) in
    let m : n - length xs ≡ suc n - suc (length xs) = omega arith in
    ap₂ (λ l j. stored_from l j xs) e k ∙ stored (ys ++ x ∷ []) n xs (omega arith) ∙ append_assoc ys (x ∷ []) (xs ++ replicate (n - length xs) 0) ∙ ap (λ j. ys ++ x ∷ (xs ++ replicate j 0)) m

pub kinds_none : (c : ℕ) → shape_leaves c ≡ 0 → replicate max_leaves 0 ≡ kinds_of c
unfolding kinds_of kinds_in padded
kinds_none c h = sym (ap kinds_in (read_none c h))

pub kinds_room : (c : ℕ) → (shape_leaves c ≡ 0 → ⊥) → length (leaf_digits max_digits c) ≤ max_leaves
kinds_room c h = let (τ, e, l, n, q) = read_some c h in omega (arith, ap length (ap (leaf_digits max_digits) e ∙ shape_digits τ l), numbers_length τ)

pub kinds_yes : (c : ℕ) → (shape_leaves c ≡ 0 → ⊥) → stored_from (replicate max_leaves 0) 0 (leaf_digits max_digits c) ≡ kinds_of c
unfolding kinds_of kinds_in padded
kinds_yes c h =
    let (τ, e, l, n, q) = read_some c h in
    let d = ap (leaf_digits max_digits) e ∙ shape_digits τ l in
    ap (stored_from (replicate max_leaves 0) 0) d ∙ stored [] max_leaves (numbers τ) (omega (arith, numbers_length τ)) ∙ sym (ap kinds_in q)
