-- An event's leaves against a type: the leaves meet the type's kinds exactly where they are those of a value of it,
-- that value is one, and `given` computes it. Rests on ComputeHandling.
use mathlib.Core.Path.{◌≡◌, refl, sym, ap, ap₂, ◌∙◌, subst}
use mathlib.Core.Bool.{Bool, true, false, cond, false≢true}
use mathlib.Core.Option.{none, some}
use mathlib.Core.List.{List, [], ◌∷◌, ◌++◌, append_assoc, map, map-append}
use Prim.Native.Nat.{ℕ, zero, suc, ◌+◌, ◌-◌}
use native.Mathlib.Omega.{arith}
use lib.Dec.{ltb, lt→ltb}
use lib.IntN.{ℤ, pos}
use lib.Signed.{mag}
use lib.ListN.{length, length-append, drop, replicate}
use Rattle.word.specs.Word.{half}
use Rattle.tophat.specs.Syntax.{max_leaves, Ty, unit, truth, number, pair, leaves, Val, vunit, vtruth, vnumber, vpair}
use Rattle.tophat.specs.Typing.{ValueType, v_unit, v_truth, v_number, v_pair, type_of}
use Rattle.tophat.specs.Leaves.{leaves_of, padded, Given, Unused, u_end, u_zero, u_blank, Gives, Leaf, no_leaf, leaf_kinds}
use Rattle.tophat.specs.Leaves.{Meets, m_end, m_none, m_blank, m_unit, m_false, m_true, m_number, value_of, meets_leaf, meets, number_given, given}
use Rattle.tophat.proofs.Basics.{no_some}
use Rattle.tophat.proofs.LeafMet.{test, both_passed, leaf_met}

-- a value has one type
pub type_of_lem : {v : Val} {τ : Ty} → ValueType v τ → type_of v ≡ τ
unfolding type_of
type_of_lem v_unit = refl
type_of_lem v_truth = refl
type_of_lem (v_number h) = refl
type_of_lem (v_pair g h) = ap₂ pair (type_of_lem g) (type_of_lem h)

-- `meets` decides Meets
pub meets_sound : (ks : List Leaf) (ls : List Given) → meets ks ls ≡ true → Meets ks ls
unfolding meets
meets_sound [] [] h = m_end
meets_sound [] (n ∷ ls) h = absurd (false≢true h)
meets_sound (k ∷ ks) [] h = absurd (false≢true h)
meets_sound (k ∷ ks) (n ∷ ls) h = let (p, q) = both_passed (meets_leaf k n) (meets ks ls) h in leaf_met k n p (meets_sound ks ls q)

pub meets_is : {ks : List Leaf} {ls : List Given} → Meets ks ls → meets ks ls ≡ true
unfolding meets meets_leaf
meets_is m_end = refl
meets_is (m_none d) = meets_is d
meets_is (m_blank d) = meets_is d
meets_is (m_unit d) = meets_is d
meets_is (m_false d) = meets_is d
meets_is (m_true d) = meets_is d
meets_is (m_number {n = n} h d) = let p = test (ltb (mag n) half) (lt→ltb (mag n) half h) in let q = meets_is d in rw (p, q)

-- as many kinds as leaves
pub length_kinds : (τ : Ty) → length (leaf_kinds τ) ≡ leaves τ
unfolding leaf_kinds leaves
length_kinds unit = refl
length_kinds truth = refl
length_kinds number = refl
length_kinds (pair τ υ) = length-append (leaf_kinds τ) (leaf_kinds υ) ∙ ap₂ ◌+◌ (length_kinds τ) (length_kinds υ)

pub length_leaves : {v : Val} {τ : Ty} → ValueType v τ → length (leaves_of v) ≡ leaves τ
unfolding leaves_of leaves
length_leaves v_unit = refl
length_leaves (v_truth {b = true}) = refl
length_leaves (v_truth {b = false}) = refl
length_leaves (v_number h) = refl
length_leaves (v_pair {v = v} {w = w} g h) = length-append (leaves_of v) (leaves_of w) ∙ ap₂ ◌+◌ (length_leaves g) (length_leaves h)

drop_append : {X : Type 0} (xs ys : List X) (n : ℕ) → length xs ≡ n → drop n (xs ++ ys) ≡ ys
drop_append {X} xs ys n e = subst (λ n. drop n (xs ++ ys) ≡ ys) e (dropped xs)
  where
    dropped : (zs : List X) → drop (length zs) (zs ++ ys) ≡ ys
    dropped [] = refl
    dropped (z ∷ zs) = dropped zs

-- a value's leaves are read back as the value, whatever follows them
value_back : {v : Val} {τ : Ty} → ValueType v τ → (ls : List ℤ) → value_of τ (leaves_of v ++ ls) ≡ v
unfolding value_of leaves_of
value_back v_unit ls = refl
value_back (v_truth {b = true}) ls = refl
value_back (v_truth {b = false}) ls = refl
value_back (v_number h) ls = refl
value_back (v_pair {v = v} {w = w} {τ = τ} {υ = υ} g h) ls =
    let e = append_assoc (leaves_of v) (leaves_of w) ls in
    let p = value_back g (leaves_of w ++ ls) in
    let q = drop_append (leaves_of v) (leaves_of w ++ ls) (leaves τ) (length_leaves g) in
    let r = value_back h ls in
    ap₂ vpair (ap (value_of τ) e ∙ p) (ap (λ ms. value_of υ (drop (leaves τ) ms)) e ∙ ap (value_of υ) q ∙ r)

-- what meets a type's kinds begins with the leaves of a value of it
record Begins (τ : Ty) (ks : List Leaf) (ls : List Given) : Type 0 where
  val : Val
  typed : ValueType val τ
  rest : List Given
  split : ls ≡ map some (leaves_of val) ++ rest
  met : Meets ks rest

-- a pair's leaves as leaves of an event
pair_leaves : (v w : Val) (ls : List Given) → map some (leaves_of v ++ leaves_of w) ++ ls ≡ map some (leaves_of v) ++ (map some (leaves_of w) ++ ls)
pair_leaves v w ls = ap (λ ms. ms ++ ls) (map-append some (leaves_of v) (leaves_of w)) ∙ append_assoc (map some (leaves_of v)) (map some (leaves_of w)) ls

begins : (τ : Ty) {ks : List Leaf} {ls : List Given} → Meets (leaf_kinds τ ++ ks) ls → Begins τ ks ls
unfolding leaf_kinds leaves_of
begins unit (m_unit d) = record { val = vunit; typed = v_unit; rest = _; split = refl; met = d }
begins truth (m_false d) = record { val = vtruth false; typed = v_truth; rest = _; split = refl; met = d }
begins truth (m_true d) = record { val = vtruth true; typed = v_truth; rest = _; split = refl; met = d }
begins number (m_number {n = n} h d) = record { val = vnumber n; typed = v_number h; rest = _; split = refl; met = d }
begins (pair τ υ) {ks} {ls} d =
    let p = begins τ (subst (λ ks. Meets ks ls) (append_assoc (leaf_kinds τ) (leaf_kinds υ) ks) d) in
    let q = begins υ p.met in
    record {
      val = vpair p.val q.val;
      typed = v_pair p.typed q.typed;
      rest = q.rest;
      split = p.split ∙ ap (λ ms. map some (leaves_of p.val) ++ ms) q.split ∙ sym (pair_leaves p.val q.val q.rest);
      met = q.met;
    }

met_by : {v : Val} {τ : Ty} → ValueType v τ → {ks : List Leaf} {ls : List Given} → Meets ks ls → Meets (leaf_kinds τ ++ ks) (map some (leaves_of v) ++ ls)
unfolding leaf_kinds leaves_of
met_by v_unit d = m_unit d
met_by (v_truth {b = true}) d = m_true d
met_by (v_truth {b = false}) d = m_false d
met_by (v_number h) d = m_number h d
met_by (v_pair {v = v} {w = w} {τ = τ} {υ = υ} g h) {ks} {ls} d =
    let e = append_assoc (leaf_kinds τ) (leaf_kinds υ) ks in
    subst (λ ks. Meets ks (map some (leaves_of v ++ leaves_of w) ++ ls)) (sym e) (subst (λ ls. Meets (leaf_kinds τ ++ (leaf_kinds υ ++ ks)) ls) (sym (pair_leaves v w ls)) (met_by g (met_by h d)))

-- unused leaves are those that kind 0 is met by
pub unused_met : {n : ℕ} {ls : List Given} → Unused n ls → Meets (replicate n no_leaf) ls
unused_met u_end = m_end
unused_met (u_zero u) = m_none (unused_met u)
unused_met (u_blank u) = m_blank (unused_met u)

pub met_unused : (n : ℕ) {ls : List Given} → Meets (replicate n no_leaf) ls → Unused n ls
met_unused zero m_end = u_end
met_unused (suc n) (m_none d) = u_zero (met_unused n d)
met_unused (suc n) (m_blank d) = u_blank (met_unused n d)

-- leaves meet a type's kinds exactly where they are those of a value of it, and unused ones
pub meets_gives : (τ : Ty) {ls : List Given} → Meets (padded no_leaf (leaf_kinds τ)) ls → (v : Val) × Gives ls τ v
unfolding padded
meets_gives τ {ls} d =
    let p = begins τ d in
    let e : length (leaf_kinds τ) ≡ length (leaves_of p.val) = length_kinds τ ∙ sym (length_leaves p.typed) in
    (p.val, record { typed = p.typed; others = p.rest; split = p.split; unused = subst (λ n. Unused (max_leaves - n) p.rest) e (met_unused (max_leaves - length (leaf_kinds τ)) p.met) })

pub gives_meets : {τ : Ty} {ls : List Given} {v : Val} → Gives ls τ v → Meets (padded no_leaf (leaf_kinds τ)) ls
unfolding padded
gives_meets {τ} {ls} {v} g =
    let e : length (leaves_of v) ≡ length (leaf_kinds τ) = length_leaves g.typed ∙ sym (length_kinds τ) in
    subst (λ ls. Meets (padded no_leaf (leaf_kinds τ)) ls) (sym g.split) (met_by g.typed (unused_met (subst (λ n. Unused (max_leaves - n) g.others) e g.unused)))

-- that value is the one that `value_of` reads
numbers_back : (ls : List ℤ) → map number_given (map some ls) ≡ ls
unfolding number_given
numbers_back [] = refl
numbers_back (n ∷ ls) = ap (λ ms. n ∷ ms) (numbers_back ls)

gives_value : {τ : Ty} {ls : List Given} {v : Val} → Gives ls τ v → value_of τ (map number_given ls) ≡ v
gives_value {τ} {ls} {v} g =
    let e = ap (map number_given) g.split ∙ map-append number_given (map some (leaves_of v)) g.others ∙ ap (λ ms. ms ++ map number_given g.others) (numbers_back (leaves_of v)) in
    ap (value_of τ) e ∙ value_back g.typed (map number_given g.others)

pub gives_one : {τ : Ty} {ls : List Given} {v w : Val} → Gives ls τ v → Gives ls τ w → v ≡ w
gives_one g h = sym (gives_value g) ∙ gives_value h

-- `given` computes the value that the leaves give
pub gives_given : {τ : Ty} {ls : List Given} {v : Val} → Gives ls τ v → given τ ls ≡ some v
unfolding given
gives_given g = let p = meets_is (gives_meets g) in let q = gives_value g in rw (p, q)

pub given_gives : (τ : Ty) {ls : List Given} {v : Val} → given τ ls ≡ some v → Gives ls τ v
unfolding given
given_gives τ {ls} {v} h = by_test _ refl h
  where
    by_test : (x : Bool) → meets (padded no_leaf (leaf_kinds τ)) ls ≡ x → cond x (some (value_of τ (map number_given ls))) none ≡ some v → Gives ls τ v
    by_test true e f =
        let (w, g) = meets_gives τ (meets_sound _ _ e) in
        let p = gives_value g in
        let q : w ≡ v = cc in
        subst (λ v. Gives ls τ v) q g
    by_test false e f = no_some f

-- ---- leaves without a blank: those of a value, and zeros

pub padded_gives : {v : Val} {τ : Ty} → ValueType v τ → Gives (map some (padded (pos 0) (leaves_of v))) τ v
unfolding padded
padded_gives {v} h = record { typed = h; others = _; split = map-append some (leaves_of v) (replicate (max_leaves - length (leaves_of v)) (pos 0)); unused = zeros (max_leaves - length (leaves_of v)) }
  where
    zeros : (n : ℕ) → Unused n (map some (replicate n (pos 0)))
    zeros zero = u_end
    zeros (suc n) = u_zero (zeros n)

pub gives_padded : (ns : List ℤ) {τ : Ty} {v : Val} → Gives (map some ns) τ v → ns ≡ padded (pos 0) (leaves_of v)
unfolding padded
gives_padded ns {τ} {v} g = by ns (leaves_of v) (max_leaves - length (leaves_of v)) g.unused g.split
  where
    zeros : (ns : List ℤ) {n : ℕ} {ls : List Given} → Unused n ls → map some ns ≡ ls → ns ≡ replicate n (pos 0)
    zeros [] u_end e = refl
    zeros [] (u_zero u) e = let z : ◌≡◌ {A = ℕ} 0 1 = cc in absurd (omega arith)
    zeros [] (u_blank u) e = let z : ◌≡◌ {A = ℕ} 0 1 = cc in absurd (omega arith)
    zeros (m ∷ ns) u_end e = let z : ◌≡◌ {A = ℕ} 0 1 = cc in absurd (omega arith)
    zeros (m ∷ ns) (u_zero {ls = ls} u) e =
        let a : m ≡ pos 0 = cc in
        let b : map some ns ≡ ls = cc in
        ap₂ ◌∷◌ a (zeros ns u b)
    zeros (m ∷ ns) (u_blank u) e = let z : ◌≡◌ {A = ℕ} 0 1 = cc in absurd (omega arith)

    by : (ns ms : List ℤ) (n : ℕ) {ls : List Given} → Unused n ls → map some ns ≡ map some ms ++ ls → ns ≡ ms ++ replicate n (pos 0)
    by ns [] n u e = zeros ns u e
    by [] (m ∷ ms) n u e = let z : ◌≡◌ {A = ℕ} 0 1 = cc in absurd (omega arith)
    by (k ∷ ns) (m ∷ ms) n {ls} u e =
        let a : k ≡ m = cc in
        let b : map some ns ≡ map some ms ++ ls = cc in
        ap₂ ◌∷◌ a (by ns ms n u b)
