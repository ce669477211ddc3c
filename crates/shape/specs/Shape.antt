-- A type as one number, its shape: what code carries for a type (01: "Types are equal when their shapes are"). What the
-- functions of this crate give is said by the types that the numbers are shapes of. Rests on the calculus.
-- Believed: `base`, `put` and `as_shape`. The rest is for contracts only: tied to types by `as_type_again` and the laws after it (proofs/Shapes).
use Rattle.std.specs.Prelude.{Option as Answer, Some, None, cond, List, [], map, ℕ, zero, suc, ◌+◌, ◌*◌, ◌/◌, ◌%◌, eqb, length}
use Rattle.std.proofs.Math.Option.{Option, none, some, bind}
use Rattle.tophat.specs.Syntax.{max_leaves, Ty, unit, truth, number, pair, leaves}
use Rattle.tophat.specs.Leaves.{unit_leaf, truth_leaf, number_leaf, leaf_number, leaf_table, padded, leaf_kinds}
use Rattle.tophat.proofs.ComputeTyping.{type_to, first_to, second_to}

-- how many digits there are: as many as leaf kinds
abbrev pub base : ℕ
base = length leaf_table

-- the nodes of a type in order, a digit each, the first the lowest: a leaf's kind, and 0 for a pair; c stands after
unfoldable pub put : Ty → ℕ → ℕ
put unit c = c * base + leaf_number unit_leaf
put truth c = c * base + leaf_number truth_leaf
put number c = c * base + leaf_number number_leaf
put (pair τ υ) c = put τ (put υ c) * base

-- a type's shape, which is never 0
unfoldable pub as_shape : Ty → ℕ
as_shape τ = put τ 0

-- 0 is the shape of no type
unfoldable pub maybe_shape : Option Ty → ℕ
maybe_shape none = 0
maybe_shape (some τ) = as_shape τ

-- a shape in code, where 0 is the shape of no type
abbrev pub shape_or_none : ℕ → Answer ℕ
shape_or_none zero = None
shape_or_none (suc s) = Some (suc s)

-- ---- a number as a type

unfoldable pub leaf_of : ℕ → Ty
leaf_of digit = cond (eqb digit (leaf_number unit_leaf)) unit (cond (eqb digit (leaf_number truth_leaf)) truth number)

-- the type that stands first in c, at most d nodes deep, and what stands after it
unfoldable pub front : ℕ → ℕ → Option (Ty × ℕ)
front zero c = none
front (suc d) c =
    cond (eqb (c % base) 0) (bind (front d (c / base)) λ x. bind (front d x.1) λ y. some (pair x.0 y.0, y.1)) (some (leaf_of (c % base), c / base))

-- the type of at most max_leaves leaves that has this shape
unfoldable pub as_type : ℕ → Option Ty
as_type c = bind (front max_leaves c) λ x. cond (eqb x.1 0) (type_to x.0) none

-- ---- what the functions give

unfoldable pub pair_shape : ℕ → ℕ → ℕ
pair_shape a b = maybe_shape (bind (as_type a) λ τ. bind (as_type b) λ υ. type_to (pair τ υ))

unfoldable pub first_shape : ℕ → ℕ
first_shape c = maybe_shape (bind (as_type c) first_to)

unfoldable pub second_shape : ℕ → ℕ
second_shape c = maybe_shape (bind (as_type c) second_to)

-- the leaves of a shape; 0 where it is none
unfoldable pub leaves_in : Option Ty → ℕ
leaves_in none = 0
leaves_in (some τ) = leaves τ

unfoldable pub shape_leaves : ℕ → ℕ
shape_leaves c = leaves_in (as_type c)

unfoldable pub kinds_in : Option Ty → List ℕ
kinds_in none = padded 0 []
kinds_in (some τ) = padded 0 (map leaf_number (leaf_kinds τ))

unfoldable pub kinds_of : ℕ → List ℕ
kinds_of c = kinds_in (as_type c)
