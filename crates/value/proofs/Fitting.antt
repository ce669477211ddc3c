-- The laws of `meets` and `fits`: a leaf against its kind, a value's leaves against its type's kinds, and what an answer of `fits`
-- says of the value. Rests on specs/Fits, crate shape's kinds and the calculus' leaves.
use mathlib.Core.Path.{◌≡◌, refl, sym, ap, ap₂, ◌∙◌, subst}
use mathlib.Core.Bool.{Bool, true, false, ◌&&◌, ◌||◌, cond}
use mathlib.Core.Option.{Option, none, some, bind}
use mathlib.Core.List.{List, [], ◌∷◌, ◌++◌, map, map-append, append_assoc}
use Prim.Native.Nat.{ℕ, zero, suc, ◌-◌, ◌≤◌, ◌<◌, zero-le, suc-le-suc}
use native.Mathlib.Nat.{le_of_suc-le-suc}
use native.Mathlib.Omega.{arith}
use lib.Dec.{eqb}
use lib.IntN.{pos}
use lib.ListN.{length, get_or, replicate, length-map, get_or-map}
use mir.Syntax.{w32}
use mir.Val.{to_z, of_z}
use mir.Facts.{sfits_to_z}
use borrow.Author.Tests.{lt-ltb, eq-eqb, ne_eqb, eqb-true}
use Rattle.word.specs.Word.{words, eq_z, AllBits}
use Rattle.word.proofs.Lists.{bits_numbers}
use Rattle.tophat.specs.Syntax.{max_leaves, Ty, unit, truth, number, pair, leaves, Val}
use Rattle.tophat.specs.Leaves.{padded, Leaf, no_leaf, unit_leaf, truth_leaf, number_leaf, leaf_kinds, leaf_number, leaf_at, Given, value_of, meets_leaf, meets, number_given, given}
use Rattle.tophat.specs.Typing.{ValueType, type_of}
use Rattle.tophat.proofs.Leaves.{type_of_lem, given_gives, gives_given, padded_gives, gives_padded}
use Rattle.tophat.proofs.Basics.{no_some}
use Rattle.match_laws.proofs.Ranges.{and-false}
use Rattle.rows.specs.Ground.{is_some}
use Rattle.shape.specs.Shape.{as_shape, as_type, kinds_in, kinds_of}
use Rattle.shape.proofs.Puts.{as_type_lem}
use Rattle.shape.proofs.Counts.{by_type}
use Rattle.shape.proofs.Shapes.{no_type, kinds_of_lem}
use Rattle.value.proofs.Meaning.{leaves_back}
use Rattle.value.specs.declared.Value.{Value}
use Rattle.value.specs.Values.{leaf_bits, as_value}
use Rattle.value.specs.Fits.{Got, got_none, got_some, value_in, value_for, fits_in}

-- ---- one leaf

module _ (leaf : ℕ) where
  -- the leaf meets the kind of that number
  abbrev pub met : ℕ → Bool
  met kind = meets_leaf (leaf_at kind) (some (to_z w32 leaf))

  pub meets_number : (kind : ℕ) → leaf < words → kind ≡ leaf_number number_leaf → true ≡ met kind
  unfolding meets_leaf
  meets_number kind h e = sym (lt-ltb _ _ (sfits_to_z {w = w32} {n = leaf} (record { fits = h })).sfits) ∙ ap met (sym e)

  pub meets_zero : (kind : ℕ) → (kind ≡ leaf_number number_leaf → ⊥) → eq_z (to_z w32 leaf) (to_z w32 0) ≡ true → true ≡ met kind
  unfolding meets_leaf
  meets_zero zero n e = sym e
  meets_zero (suc zero) n e = sym e
  meets_zero (suc (suc zero)) n e = sym (ap (λ b. b || eq_z (to_z w32 leaf) (pos 1)) e)
  meets_zero (suc (suc (suc zero))) n e = absurd (n refl)
  meets_zero (suc (suc (suc (suc k)))) n e = sym e

  pub meets_one : (kind : ℕ) (r : Bool) → kind ≡ leaf_number truth_leaf → eq_z (to_z w32 leaf) (to_z w32 0) ≡ false → r ≡ eq_z (to_z w32 leaf) (to_z w32 1) → r ≡ met kind
  unfolding meets_leaf
  meets_one kind r q e f = f ∙ sym (ap (λ b. b || eq_z (to_z w32 leaf) (pos 1)) e) ∙ ap met (sym q)

  pub meets_not : (kind : ℕ) → (kind ≡ leaf_number number_leaf → ⊥) → (kind ≡ leaf_number truth_leaf → ⊥) → eq_z (to_z w32 leaf) (to_z w32 0) ≡ false → false ≡ met kind
  unfolding meets_leaf
  meets_not zero n m e = sym e
  meets_not (suc zero) n m e = sym e
  meets_not (suc (suc zero)) n m e = absurd (m refl)
  meets_not (suc (suc (suc zero))) n m e = absurd (n refl)
  meets_not (suc (suc (suc (suc k)))) n m e = sym e

-- ---- the leaves of a value

-- words as leaves of an event: none is blank
abbrev numbers : List ℕ → List Given
numbers ls = map some (map (to_z w32) ls)

-- leaf j of ls meets kind j of ks
abbrev pub met_at : List ℕ → List ℕ → ℕ → Bool
met_at ks ls j = met (get_or ls j 0) (get_or ks j 0)

all_met : (ks : List Leaf) (ls : List ℕ) → length ks ≡ length ls → ((j : ℕ) → j < length ks → meets_leaf (get_or ks j no_leaf) (some (to_z w32 (get_or ls j 0))) ≡ true) → meets ks (numbers ls) ≡ true
unfolding meets
all_met [] [] e h = refl
all_met [] (n ∷ ls) e h = absurd (omega arith)
all_met (k ∷ ks) [] e h = absurd (omega arith)
all_met (k ∷ ks) (n ∷ ls) e h = ap₂ ◌&&◌ (h 0 (suc-le-suc zero-le)) (all_met ks ls (omega arith) (λ j l. h (suc j) (suc-le-suc l)))

one_unmet : (ks : List Leaf) (ls : List ℕ) (j : ℕ) → j < length ks → j < length ls → meets_leaf (get_or ks j no_leaf) (some (to_z w32 (get_or ls j 0))) ≡ false → meets ks (numbers ls) ≡ false
unfolding meets
one_unmet [] ls j l m e = absurd (omega arith)
one_unmet (k ∷ ks) [] j l m e = absurd (omega arith)
one_unmet (k ∷ ks) (n ∷ ls) zero l m e = ap (λ b. b && meets ks (numbers ls)) e
one_unmet (k ∷ ks) (n ∷ ls) (suc j) l m e =
    ap (λ b. meets_leaf k (some (to_z w32 n)) && b) (one_unmet ks ls j (le_of_suc-le-suc l) (le_of_suc-le-suc m) e) ∙ and-false (meets_leaf k (some (to_z w32 n)))

-- ---- the kinds of a type

map_padded : (ks : List Leaf) → map leaf_number (padded no_leaf ks) ≡ padded 0 (map leaf_number ks)
unfolding padded
map_padded ks = map-append leaf_number ks (replicate (max_leaves - length ks) no_leaf) ∙ ap (λ l. map leaf_number ks ++ l) (zeros (max_leaves - length ks) ∙ ap (λ n. replicate (max_leaves - n) 0) (sym (length-map ks leaf_number)))
  where
    zeros : (n : ℕ) → map leaf_number (replicate n no_leaf) ≡ replicate n 0
    zeros zero = refl
    zeros (suc n) = ap (λ m. 0 ∷ m) (zeros n)

number_back : (k : Leaf) → leaf_at (leaf_number k) ≡ k
number_back no_leaf = refl
number_back unit_leaf = refl
number_back truth_leaf = refl
number_back number_leaf = refl

-- a type's first leaf has a kind
first_kind : (τ : Ty) (l : List ℕ) → 1 ≤ get_or (map leaf_number (leaf_kinds τ) ++ l) 0 0
unfolding leaf_kinds
first_kind unit l = omega arith
first_kind truth l = omega arith
first_kind number l = omega arith
first_kind (pair τ υ) l =
    let e = ap (λ m. m ++ l) (map-append leaf_number (leaf_kinds τ) (leaf_kinds υ)) ∙ append_assoc (map leaf_number (leaf_kinds τ)) (map leaf_number (leaf_kinds υ)) l in
    subst (λ m. 1 ≤ get_or m 0 0) (sym e) (first_kind τ (map leaf_number (leaf_kinds υ) ++ l))

-- ---- fits, way by way

module _ (v : Value) (s : ℕ) where
  pub fits_other : (v.shape ≡ s → ⊥) → false ≡ fits_in v s
  unfolding value_for value_in is_some bind
  fits_other n = by_type s (λ o. false ≡ is_some (bind o (value_in v))) refl (λ τ q l. let e = ne_eqb v.shape (as_shape τ) (λ z. n (z ∙ sym q)) in sym (rw e))

  module _ (ks : List ℕ) (k : ks ≡ kinds_of s) where
    -- a number without kinds is no type's shape
    pub fits_none : get_or ks 0 0 ≡ 0 → false ≡ fits_in v s
    unfolding value_for is_some bind kinds_of kinds_in padded
    fits_none z = by_type s (λ o. get_or (kinds_in o) 0 0 ≡ 0 → false ≡ is_some (bind o (value_in v))) (λ z. refl)
        (λ τ q l z. absurd (let h = first_kind τ (replicate (max_leaves - length (map leaf_number (leaf_kinds τ))) 0) in omega arith)) (ap (λ l. get_or l 0 0) (sym k) ∙ z)

    -- one with kinds is
    with_kinds : (get_or ks 0 0 ≡ 0 → ⊥) → (τ : Ty) × (leaves τ ≤ max_leaves) × (s ≡ as_shape τ)
    unfolding kinds_of kinds_in padded
    with_kinds n = by_type s (λ o. (get_or (kinds_in o) 0 0 ≡ 0 → ⊥) → (τ : Ty) × (leaves τ ≤ max_leaves) × (s ≡ as_shape τ)) (λ z. absurd (z refl)) (λ τ q l z. (τ, l, q)) (λ z. n (ap (λ l. get_or l 0 0) k ∙ z))

    kinds_are : (τ : Ty) → leaves τ ≤ max_leaves → s ≡ as_shape τ → ks ≡ map leaf_number (padded no_leaf (leaf_kinds τ))
    kinds_are τ l q = k ∙ ap kinds_of q ∙ kinds_of_lem τ l ∙ sym (map_padded (leaf_kinds τ))

    kind_at_lem : (τ : Ty) → leaves τ ≤ max_leaves → s ≡ as_shape τ → (j : ℕ) → leaf_at (get_or ks j 0) ≡ get_or (padded no_leaf (leaf_kinds τ)) j no_leaf
    kind_at_lem τ l q j =
        let js = padded no_leaf (leaf_kinds τ) in
        ap leaf_at (ap (λ l. get_or l j 0) (kinds_are τ l q) ∙ get_or-map leaf_number js j no_leaf) ∙ number_back (get_or js j no_leaf)

    module _ (e : v.shape ≡ s) (o : length ks ≡ max_leaves) (m : length v.leaves ≡ max_leaves) (n : get_or ks 0 0 ≡ 0 → ⊥) where
      by_leaves : (τ : Ty) → leaves τ ≤ max_leaves → s ≡ as_shape τ → (b : Bool) → meets (padded no_leaf (leaf_kinds τ)) (numbers v.leaves) ≡ b → b ≡ fits_in v s
      unfolding value_for value_in given is_some bind
      by_leaves τ l q b h = let t = ap as_type q ∙ as_type_lem τ l in let c = eq-eqb v.shape (as_shape τ) (e ∙ q) in sym (rw (t, c, h) (there (value_of τ (map number_given (numbers v.leaves))) b))
        where
          there : (x : Val) (b : Bool) → is_some (cond b (some x) none) ≡ b
          there x true = refl
          there x false = refl

      long : (τ : Ty) → leaves τ ≤ max_leaves → s ≡ as_shape τ → length (padded no_leaf (leaf_kinds τ)) ≡ max_leaves
      long τ l q = sym (length-map (padded no_leaf (leaf_kinds τ)) leaf_number) ∙ ap length (sym (kinds_are τ l q)) ∙ o

      pub fits_all : ((j : ℕ) → j < max_leaves → met_at ks v.leaves j ≡ true) → true ≡ fits_in v s
      fits_all h =
          let (τ, l, q) = with_kinds n in
          by_leaves τ l q true (all_met (padded no_leaf (leaf_kinds τ)) v.leaves (long τ l q ∙ sym m)
          (λ j g. ap (λ x. meets_leaf x (some (to_z w32 (get_or v.leaves j 0)))) (sym (kind_at_lem τ l q j)) ∙ h j (let z = long τ l q in omega arith)))

      pub fits_unmet : (j : ℕ) → j < max_leaves → met_at ks v.leaves j ≡ false → false ≡ fits_in v s
      fits_unmet j g h =
          let (τ, l, q) = with_kinds n in
          by_leaves τ l q false (one_unmet (padded no_leaf (leaf_kinds τ)) v.leaves j (let z = long τ l q in omega arith) (omega arith)
          (ap (λ x. meets_leaf x (some (to_z w32 (get_or v.leaves j 0)))) (sym (kind_at_lem τ l q j)) ∙ h))

-- ---- what the answer says

module _ (v : Value) (τ : Ty) where
  -- leaves that are words and a value of the type are the value's words
  value_words : AllBits v.leaves → (u : Val) → value_in v τ ≡ some u → v ≡ as_value u
  unfolding value_in as_value leaf_bits
  value_words w u e = by (eqb v.shape (as_shape τ)) refl e
    where
      by : (b : Bool) → eqb v.shape (as_shape τ) ≡ b → cond b (given τ (numbers v.leaves)) none ≡ some u → v ≡ as_value u
      by true q h =
          let g = given_gives τ h in
          let a : v.shape ≡ as_shape (type_of u) = eqb-true v.shape (as_shape τ) q ∙ ap as_shape (sym (type_of_lem g.typed)) in
          let b : v.leaves ≡ leaf_bits u = sym (bits_numbers v.leaves w) ∙ ap (map (of_z w32)) (gives_padded (map (to_z w32) v.leaves) g) in
          λ i. record { shape = a i; leaves = b i }
      by false q h = no_some h

  -- and a value of the type is there
  pub value_in_lem : (u : Val) → ValueType u τ → v ≡ as_value u → value_in v τ ≡ some u
  unfolding value_in as_value
  value_in_lem u t e =
      ap₂ (λ b o. cond b o none) (eq-eqb v.shape (as_shape τ) (ap (λ v. v.shape) e ∙ ap as_shape (type_of_lem t)))
      (ap (given τ) (ap (map some) (ap (λ v. map (to_z w32) v.leaves) e ∙ leaves_back t)) ∙ gives_given (padded_gives t))

-- the value for a type's shape
pub for_type : (v : Value) (τ : Ty) (s : ℕ) → leaves τ ≤ max_leaves → s ≡ as_shape τ → value_for v s ≡ value_in v τ
unfolding value_for bind
for_type v τ s l q = let t = ap as_type q ∙ as_type_lem τ l in rw t

-- 0 is the shape of no type
pub for_none : (v : Value) → value_for v 0 ≡ none
unfolding value_for bind
for_none v = let t = no_type in rw t

pub fits_got : (v : Value) (s : ℕ) (r : Bool) → (r ≡ true → AllBits v.leaves) → r ≡ fits_in v s → Got r (λ u. v ≡ as_value u) (value_for v s)
unfolding value_for is_some bind
fits_got v s r w = by_type s (λ o. r ≡ is_some (bind o (value_in v)) → Got r (λ u. v ≡ as_value u) (bind o (value_in v))) got_none (λ τ q l. by τ (value_in v τ) refl)
  where
    by : (τ : Ty) (o : Option Val) → value_in v τ ≡ o → r ≡ is_some o → Got r (λ u. v ≡ as_value u) o
    by τ none h z = got_none z
    by τ (some u) h z = got_some z (value_words v τ (w z) u h)
