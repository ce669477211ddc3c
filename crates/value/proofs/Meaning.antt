-- What the functions of this crate give on values of the calculus: an operator, a test, a pair and its parts are the
-- calculus', wherever leaves are words and a type has at most `max_leaves` of them. Rests on crate shape's laws.
use mathlib.Core.Path.{◌≡◌, refl, sym, ap, ap₂, ◌∙◌, subst}
use mathlib.Core.Bool.{Bool, true, false, cond, false≢true}
use mathlib.Core.Option.{Option, none, some, bind}
use mathlib.Core.List.{List, [], ◌∷◌, ◌++◌, map}
use Prim.Native.Nat.{ℕ, zero, suc, ◌+◌, ◌-◌, ◌≤◌}
use native.Mathlib.Omega.{arith}
use Rattle.std.specs.Prelude.{Some, None}
use Rattle.std.specs.Option.{is_some}
use Rattle.std.proofs.lemmas.Option.{none-some, same_Some}
use lib.Dec.{ltb, lit<}
use lib.IntN.{pos}
use lib.ListN.{length, get_or, replicate, length-replicate, length-append, length-map, get_or-append, get_or-map}
use lib.Seq.{get_or-append-add}
use borrow.Author.Tests.{ltb-true, ltb-false}
use mir.Syntax.{w32}
use mir.Val.{to_z, of_z}
use Rattle.word.specs.Word.{IsWord, AllWords}
use Rattle.word.specs.Tabulate.{tabulate}
use Rattle.word.proofs.Tabulate.{tabulate_is}
use Rattle.word.proofs.TwosComplement.{number_bits}
use Rattle.word.proofs.Lists.{numbers_bits}
use Rattle.tophat.specs.Syntax.{max_leaves, Ty, pair, leaves, Op, sum, difference, product, less, less_equal, equal, and_op, or_op, Val, vunit, vtruth, vnumber, vpair}
use Rattle.tophat.specs.Typing.{ValueType, v_unit, v_truth, v_number, v_pair, type_of}
use Rattle.tophat.specs.Leaves.{leaves_of, padded}
use Rattle.tophat.proofs.ComputeEvaluation.{leaf, is_true, exceeds, apply}
use Rattle.tophat.proofs.ComputeTyping.{first_to, second_to}
use Rattle.tophat.proofs.TypingAgrees.{type_to_lem}
use Rattle.shape.specs.Shape.{as_shape, maybe_shape, pair_shape, first_shape, second_shape, shape_leaves}
use Rattle.match_laws.proofs.Ranges.{past}
use Rattle.shape.proofs.Puts.{by_test, leaves_pos, as_type_lem}
use Rattle.shape.proofs.Counts.{shape_leaves_lem}
use Rattle.value.specs.declared.Value.{Value}
use Rattle.value.specs.Values.{leaf_bits, as_value, no_leaves, first_number, joined_at, pair_value, first_value, second_value}
use Rattle.value.specs.Evaluations.{applied}
use Rattle.value.specs.Found.{Found, as_found}

-- ---- leaves by place

module _ {A : Type 0} (d : A) where
  zeros_at : (n i : ℕ) → get_or (replicate n d) i d ≡ d
  zeros_at zero i = refl
  zeros_at (suc n) zero = refl
  zeros_at (suc n) (suc i) = zeros_at n i

  padded_at : (xs : List A) (n i : ℕ) → get_or (xs ++ replicate n d) i d ≡ get_or xs i d
  padded_at [] n i = zeros_at n i
  padded_at (x ∷ xs) n zero = refl
  padded_at (x ∷ xs) n (suc i) = padded_at xs n i

  append_at : (xs ys : List A) (i : ℕ) → get_or (xs ++ ys) i d ≡ cond (ltb i (length xs)) (get_or xs i d) (get_or ys (i - length xs) d)
  append_at xs ys i = by_test (λ z. get_or (xs ++ ys) i d ≡ z) (ltb i (length xs))
      (λ t. get_or-append xs ys d i (ltb-true i (length xs) t))
      (λ f. let h = ltb-false i (length xs) f in let e : i ≡ length xs + (i - length xs) = omega arith in ap (λ k. get_or (xs ++ ys) k d) e ∙ get_or-append-add xs ys (i - length xs) d)

  front_at : (xs ys : List A) (i : ℕ) → cond (ltb i (length xs)) (get_or (xs ++ ys) i d) d ≡ get_or xs i d
  front_at xs ys i = by_test (λ z. z ≡ get_or xs i d) (ltb i (length xs))
      (λ t. get_or-append xs ys d i (ltb-true i (length xs) t))
      (λ f. sym (past xs d i (ltb-false i (length xs) f)))

cond_ap : {A B : Type 0} (f : A → B) (b : Bool) (x y : A) → f (cond b x y) ≡ cond b (f x) (f y)
cond_ap f true x y = refl
cond_ap f false x y = refl

pub leaves_length : (v : Val) → length (leaves_of v) ≡ leaves (type_of v)
unfolding leaves_of leaves type_of
leaves_length vunit = refl
leaves_length (vtruth true) = refl
leaves_length (vtruth false) = refl
leaves_length (vnumber n) = refl
leaves_length (vpair v w) = length-append (leaves_of v) (leaves_of w) ∙ ap₂ ◌+◌ (leaves_length v) (leaves_length w)

-- the bits at a place are those of the leaf there
pub leaf_at : (v : Val) (i : ℕ) → get_or (leaf_bits v) i 0 ≡ of_z w32 (get_or (leaves_of v) i (pos 0))
unfolding leaf_bits padded
leaf_at v i = get_or-map (of_z w32) (leaves_of v ++ replicate (max_leaves - length (leaves_of v)) (pos 0)) i (pos 0) ∙ ap (of_z w32) (padded_at (pos 0) (leaves_of v) (max_leaves - length (leaves_of v)) i)

pub leaf_count : (v : Val) → leaves (type_of v) ≤ max_leaves → length (leaf_bits v) ≡ max_leaves
unfolding leaf_bits padded
leaf_count v h =
    let m = max_leaves - length (leaves_of v) in
    length-map (leaves_of v ++ replicate m (pos 0)) (of_z w32) ∙ length-append (leaves_of v) (replicate m (pos 0))
    ∙ ap (λ n. length (leaves_of v) + n) (length-replicate m (pos 0)) ∙ omega (arith, leaves_length v)

-- a value's leaves are words, and so are read back from their bits
pub leaves_words : {v : Val} {τ : Ty} → ValueType v τ → AllWords (leaves_of v)
unfolding leaves_of
leaves_words v_unit zero = omega arith
leaves_words v_unit (suc i) = omega arith
leaves_words (v_truth {b = true}) zero = omega arith
leaves_words (v_truth {b = true}) (suc i) = omega arith
leaves_words (v_truth {b = false}) zero = omega arith
leaves_words (v_truth {b = false}) (suc i) = omega arith
leaves_words (v_number h) zero = h
leaves_words (v_number h) (suc i) = omega arith
leaves_words (v_pair {v = v} {w = w} g h) i =
    let xs = leaves_of v in
    subst IsWord (sym (append_at (pos 0) xs (leaves_of w) i)) (by_test IsWord (ltb i (length xs)) (λ _. leaves_words g i) (λ _. leaves_words h (i - length xs)))

pub leaves_back : {v : Val} {τ : Ty} → ValueType v τ → map (to_z w32) (leaf_bits v) ≡ padded (pos 0) (leaves_of v)
unfolding leaf_bits padded
leaves_back {v} t =
    let m = max_leaves - length (leaves_of v) in
    numbers_bits (leaves_of v ++ replicate m (pos 0)) (λ i. subst IsWord (sym (padded_at (pos 0) (leaves_of v) m i)) (leaves_words t i))

-- a value of a shape and leaves by their places is a value of the calculus
pub value_is : (v : Val) (s : ℕ) (f : ℕ → ℕ) → leaves (type_of v) ≤ max_leaves → s ≡ as_shape (type_of v) → ((i : ℕ) → f i ≡ of_z w32 (get_or (leaves_of v) i (pos 0)))
    → record { shape = s; leaves = tabulate max_leaves f } ≡ as_value v
unfolding as_value
value_is v s f h e g = λ i. record { shape = e i; leaves = tabulate_is max_leaves f (leaf_bits v) 0 (leaf_count v h) (λ j k. leaf_at v j ∙ sym (g j)) i }

-- ---- pairs and their parts

module _ (v w : Val) (h : leaves (type_of v) + leaves (type_of w) ≤ max_leaves) where
  small : leaves (type_of (vpair v w)) ≤ max_leaves
  unfolding leaves type_of
  small = h

  first_small : leaves (type_of v) ≤ max_leaves
  first_small = omega (arith, h)

  second_small : leaves (type_of w) ≤ max_leaves
  second_small = omega (arith, h)

  pair_shape_lem : pair_shape (as_shape (type_of v)) (as_shape (type_of w)) ≡ as_shape (type_of (vpair v w))
  unfolding pair_shape bind maybe_shape type_of
  pair_shape_lem = rw (as_type_lem (type_of v) first_small, as_type_lem (type_of w) second_small, type_to_lem (pair (type_of v) (type_of w)) small)

  first_shape_lem : first_shape (as_shape (type_of (vpair v w))) ≡ as_shape (type_of v)
  unfolding first_shape bind maybe_shape first_to type_of
  first_shape_lem = rw (as_type_lem (pair (type_of v) (type_of w)) small)

  second_shape_lem : second_shape (as_shape (type_of (vpair v w))) ≡ as_shape (type_of w)
  unfolding second_shape bind maybe_shape second_to type_of
  second_shape_lem = rw (as_type_lem (pair (type_of v) (type_of w)) small)

  first_count : shape_leaves (as_shape (type_of v)) ≡ length (leaves_of v)
  first_count = shape_leaves_lem (type_of v) first_small ∙ sym (leaves_length v)

  part_count : shape_leaves (first_shape (as_shape (type_of (vpair v w)))) ≡ length (leaves_of v)
  part_count = ap shape_leaves first_shape_lem ∙ first_count

  pub pair_value_lem : pair_value (as_value v) (as_value w) ≡ as_value (vpair v w)
  unfolding as_value leaves_of
  pair_value_lem = value_is (vpair v w) _ (joined_at (shape_leaves (as_shape (type_of v))) (leaf_bits v) (leaf_bits w)) small pair_shape_lem
      (λ i. ap (λ n. joined_at n (leaf_bits v) (leaf_bits w) i) first_count
      ∙ (λ j. cond (ltb i (length (leaves_of v))) (leaf_at v i j) (leaf_at w (i - length (leaves_of v)) j))
      ∙ sym (cond_ap (of_z w32) (ltb i (length (leaves_of v))) _ _) ∙ ap (of_z w32) (sym (append_at (pos 0) (leaves_of v) (leaves_of w) i)))

  pub first_value_lem : first_value (as_value (vpair v w)) ≡ as_value v
  unfolding as_value leaves_of
  first_value_lem = value_is v _ (joined_at (shape_leaves (first_shape (as_shape (type_of (vpair v w))))) (leaf_bits (vpair v w)) no_leaves) first_small first_shape_lem
      (λ i. ap (λ n. joined_at n (leaf_bits (vpair v w)) no_leaves i) part_count
      ∙ (λ j. cond (ltb i (length (leaves_of v))) (leaf_at (vpair v w) i j) (zeros_at 0 max_leaves (i - length (leaves_of v)) j))
      ∙ sym (cond_ap (of_z w32) (ltb i (length (leaves_of v))) _ _) ∙ ap (of_z w32) (front_at (pos 0) (leaves_of v) (leaves_of w) i))

  pub second_value_lem : second_value (as_value (vpair v w)) ≡ as_value w
  unfolding as_value leaves_of
  second_value_lem = value_is w _ (λ i. get_or (leaf_bits (vpair v w)) (shape_leaves (first_shape (as_shape (type_of (vpair v w)))) + i) 0) second_small second_shape_lem
      (λ i. ap (λ n. get_or (leaf_bits (vpair v w)) (n + i) 0) part_count ∙ leaf_at (vpair v w) (length (leaves_of v) + i) ∙ ap (of_z w32) (get_or-append-add (leaves_of v) (leaves_of w) i (pos 0)))

-- ---- the first leaf

first_leaf : (v : Val) → get_or (leaves_of v) 0 (pos 0) ≡ leaf v
unfolding leaves_of leaf
first_leaf vunit = refl
first_leaf (vtruth true) = refl
first_leaf (vtruth false) = refl
first_leaf (vnumber n) = refl
first_leaf (vpair v w) = get_or-append (leaves_of v) (leaves_of w) (pos 0) 0 (omega (arith, leaves_length v, leaves_pos (type_of v))) ∙ first_leaf v

pub leaf_word : {v : Val} {τ : Ty} → ValueType v τ → IsWord (leaf v)
unfolding leaf
leaf_word v_unit = lit< tt
leaf_word (v_truth {b = true}) = lit< tt
leaf_word (v_truth {b = false}) = lit< tt
leaf_word (v_number h) = h
leaf_word (v_pair g h) = leaf_word g

first_number_lem : (v : Val) → IsWord (leaf v) → first_number (as_value v) ≡ vnumber (leaf v)
unfolding as_value
first_number_lem v h = ap vnumber (ap (to_z w32) (leaf_at v 0 ∙ ap (of_z w32) (first_leaf v)) ∙ number_bits (leaf v) h)

pub true_value : (v : Val) → IsWord (leaf v) → is_true (first_number (as_value v)) ≡ is_true v
unfolding is_true leaf
true_value v h = ap is_true (first_number_lem v h)

by_leaf : (o : Op) (v w : Val) → apply o (vnumber (leaf v)) (vnumber (leaf w)) ≡ apply o v w
unfolding apply is_true leaf
by_leaf sum v w = refl
by_leaf difference v w = refl
by_leaf product v w = refl
by_leaf less v w = refl
by_leaf less_equal v w = refl
by_leaf equal v w = refl
by_leaf and_op v w = refl
by_leaf or_op v w = refl

-- an operator goes by the first leaves
pub applied_value : (o : Op) (v w : Val) → IsWord (leaf v) → IsWord (leaf w) → applied o (first_number (as_value v)) (first_number (as_value w)) ≡ applied o v w
unfolding exceeds leaf
applied_value o v w h g =
    ap₂ (λ x y. applied o x y) (first_number_lem v h) (first_number_lem w g) ∙ ap (λ z. record { over = exceeds o v w; value = as_value z }) (by_leaf o v w)

-- ---- a value that may be missing

pub found_none : {f : Found} (o : Option Val) → f ≡ as_found o → f ≡ None → o ≡ none
unfolding as_found
found_none none e n = refl
found_none (some v) e n = absurd (none-some _ (sym n ∙ e))

pub found_some : {f : Found} {x : Value} (o : Option Val) → f ≡ as_found o → f ≡ Some x → (v : Val) × (o ≡ some v) × (x ≡ as_value v)
unfolding as_found
found_some none e n = absurd (none-some _ (sym e ∙ n))
found_some (some v) e n = (v, refl, same_Some _ _ (sym n ∙ e))

-- by the test
pub found_not : {f : Found} (o : Option Val) → f ≡ as_found o → is_some f ≡ false → o ≡ none
unfolding as_found
found_not none e n = refl
found_not (some v) e n = absurd (false≢true (sym n ∙ ap is_some e))

pub found_one : {f : Found} (o : Option Val) → f ≡ as_found o → is_some f ≡ true → (v : Val) × (o ≡ some v)
unfolding as_found
found_one none e n = absurd (false≢true (sym (ap is_some e) ∙ n))
found_one (some v) e n = (v, refl)
