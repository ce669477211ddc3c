-- Values as leaves (01, "Touches and what is shown"): the numbers that an event gives and that look shows, and the leaf kinds that
-- an entry names. Rests on Syntax and Typing.
-- Believed, but for `leaf_at` and what is computed: for contracts only.
use Rattle.std.specs.Prelude.{◌≡◌, Bool, true, false, ◌&&◌, ◌||◌, cond, List, [], ◌∷◌, ◌++◌, map, ℕ, zero, suc, ◌-◌, ltb, ℤ, pos, length, get_or, drop, replicate}
use Rattle.std.proofs.Math.Option.{Option, none, some}
use Rattle.std.specs.Int.Signed.{mag}
use Rattle.word.specs.Word.{IsWord, half, eq_z}
use Rattle.tophat.specs.Syntax.{max_leaves, Ty, unit, truth, number, pair, leaves, Val, vunit, vtruth, vnumber, vpair}
use Rattle.tophat.specs.Typing.{ValueType}

-- the leaves of a value, a pair's first part first. 01: "Unit is 0; truth 0 or 1"
unfoldable pub leaves_of : Val → List ℤ
leaves_of vunit = pos 0 ∷ []
leaves_of (vtruth false) = pos 0 ∷ []
leaves_of (vtruth true) = pos 1 ∷ []
leaves_of (vnumber n) = n ∷ []
leaves_of (vpair v w) = leaves_of v ++ leaves_of w

-- as many as a type has at most. 01: "unused leaves are 0"
unfoldable pub padded : {X : Type 0} → X → List X → List X
padded x xs = xs ++ replicate (max_leaves - length xs) x

-- a leaf of an event: a number, or blank (CR 2)
abbrev pub Given : Type 0
Given = Option ℤ

-- `Unused n ls`: n leaves that no leaf of a value is for. 01: "unused leaves are 0"; CR 2: or blank
pub data Unused : ℕ → List Given → Type 0 where
  u_end : Unused zero []
  u_zero : {n : ℕ} {ls : List Given} → Unused n ls → Unused (suc n) (some (pos 0) ∷ ls)
  u_blank : {n : ℕ} {ls : List Given} → Unused n ls → Unused (suc n) (none ∷ ls)

-- these leaves are those of the value v of the type τ, and unused ones
pub record Gives (ls : List Given) (τ : Ty) (v : Val) : Type 0 where
  pub typed : ValueType v τ
  pub others : List Given
  pub split : ls ≡ map some (leaves_of v) ++ others
  pub unused : Unused (max_leaves - length (leaves_of v)) others

-- 01's leaf kinds
pub data Leaf : Type 0 where
  no_leaf unit_leaf truth_leaf number_leaf : Leaf

-- their numbers. 01: "(1, 2, 3; 0 unused)"
abbrev pub leaf_number : Leaf → ℕ
leaf_number no_leaf = 0
leaf_number unit_leaf = 1
leaf_number truth_leaf = 2
leaf_number number_leaf = 3

-- all of them
abbrev pub leaf_table : List Leaf
leaf_table = no_leaf ∷ unit_leaf ∷ truth_leaf ∷ number_leaf ∷ []

-- the kind of a number, no leaf where it is none's
abbrev pub leaf_at : ℕ → Leaf
leaf_at n = get_or leaf_table n no_leaf

-- the kinds of a type's leaves, in the order of its values' leaves
unfoldable pub leaf_kinds : Ty → List Leaf
leaf_kinds unit = unit_leaf ∷ []
leaf_kinds truth = truth_leaf ∷ []
leaf_kinds number = number_leaf ∷ []
leaf_kinds (pair τ υ) = leaf_kinds τ ++ leaf_kinds υ

-- 01: "kinds 0 and 1 are met only by 0, 2 by 0 or 1, 3 by any number"; CR 2: "a blank leaf meets only leaf kind 0"
pub data Meets : List Leaf → List Given → Type 0 where
  m_end : Meets [] []
  m_none : {ks : List Leaf} {ls : List Given} → Meets ks ls → Meets (no_leaf ∷ ks) (some (pos 0) ∷ ls)
  m_blank : {ks : List Leaf} {ls : List Given} → Meets ks ls → Meets (no_leaf ∷ ks) (none ∷ ls)
  m_unit : {ks : List Leaf} {ls : List Given} → Meets ks ls → Meets (unit_leaf ∷ ks) (some (pos 0) ∷ ls)
  m_false : {ks : List Leaf} {ls : List Given} → Meets ks ls → Meets (truth_leaf ∷ ks) (some (pos 0) ∷ ls)
  m_true : {ks : List Leaf} {ls : List Given} → Meets ks ls → Meets (truth_leaf ∷ ks) (some (pos 1) ∷ ls)
  m_number : {ks : List Leaf} {ls : List Given} {n : ℤ} → IsWord n → Meets ks ls → Meets (number_leaf ∷ ks) (some n ∷ ls)

-- ---- computed: whether leaves meet kinds, and the value that they give (proofs/Leaves ties these to Meets and Gives)

unfoldable pub meets_leaf : Leaf → Given → Bool
meets_leaf no_leaf none = true
meets_leaf no_leaf (some n) = eq_z n (pos 0)
meets_leaf unit_leaf none = false
meets_leaf unit_leaf (some n) = eq_z n (pos 0)
meets_leaf truth_leaf none = false
meets_leaf truth_leaf (some n) = eq_z n (pos 0) || eq_z n (pos 1)
meets_leaf number_leaf none = false
meets_leaf number_leaf (some n) = ltb (mag n) half

unfoldable pub meets : List Leaf → List Given → Bool
meets [] [] = true
meets [] (n ∷ ls) = false
meets (k ∷ ks) [] = false
meets (k ∷ ks) (n ∷ ls) = meets_leaf k n && meets ks ls

-- the value of a type whose leaves stand first in a list
unfoldable pub value_of : Ty → List ℤ → Val
value_of unit ls = vunit
value_of truth ls = vtruth (eq_z (get_or ls 0 (pos 0)) (pos 1))
value_of number ls = vnumber (get_or ls 0 (pos 0))
value_of (pair τ υ) ls = vpair (value_of τ ls) (value_of υ (drop (leaves τ) ls))

-- a leaf's number; a value has none from a blank
unfoldable pub number_given : Given → ℤ
number_given none = pos 0
number_given (some n) = n

-- the value of the type that the leaves give, if they give one
unfoldable pub given : Ty → List Given → Option Val
given τ ls = cond (meets (padded no_leaf (leaf_kinds τ)) ls) (some (value_of τ (map number_given ls))) none
