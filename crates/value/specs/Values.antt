-- What the engine's values stand for: a value of the calculus as its shape and the bits of its leaves; and what parts
-- and pairs of such values are, whatever they stand for. Rests on the calculus' syntax and leaves, and on shapes.
-- Believed: `leaf_bits`. The rest is for contracts only: tied to the calculus by `pair_value_lem` and the laws beside it (proofs/Meaning).
use Rattle.std.specs.Prelude.{cond, List, map, ℕ, ◌+◌, ◌-◌, ltb, pos, get_or, set, replicate}
use Rattle.std.specs.Int.{w32}
use Rattle.std.proofs.Common.{to_z, of_z}
use Rattle.word.specs.Tabulate.{tabulate}
use Rattle.tophat.specs.Syntax.{max_leaves, Val, vnumber}
use Rattle.tophat.specs.Leaves.{leaves_of, padded}
use Rattle.tophat.specs.Typing.{type_of}
use Rattle.shape.specs.Shape.{as_shape, pair_shape, first_shape, second_shape, shape_leaves}
use Rattle.value.specs.declared.Value.{Value}

-- the bits of a value's leaves
unfoldable pub leaf_bits : Val → List ℕ
leaf_bits v = map (of_z w32) (padded (pos 0) (leaves_of v))

unfoldable pub as_value : Val → Value
as_value v = record { shape = as_shape (type_of v); leaves = leaf_bits v }

abbrev pub no_leaves : List ℕ
no_leaves = replicate max_leaves 0

abbrev pub no_value : Value
no_value = record { shape = 0; leaves = no_leaves }

-- the number that a value's first leaf is
abbrev pub first_number : Value → Val
first_number a = vnumber (to_z w32 (get_or a.leaves 0 0))

-- a value of one leaf
abbrev pub single : ℕ → ℕ → Value
single shape w = record { shape = shape; leaves = set no_leaves 0 w }

-- leaf i of the first n leaves of xs with those of ys after them
abbrev pub joined_at : ℕ → List ℕ → List ℕ → ℕ → ℕ
joined_at n xs ys i = cond (ltb i n) (get_or xs i 0) (get_or ys (i - n) 0)

abbrev pub joined : ℕ → List ℕ → List ℕ → List ℕ
joined n xs ys = tabulate max_leaves (joined_at n xs ys)

-- the leaves of xs from n on
abbrev pub leaves_from : ℕ → List ℕ → List ℕ
leaves_from n xs = tabulate max_leaves λ i. get_or xs (n + i) 0

-- the pair of two values, and the parts of a value, by their shapes
abbrev pub pair_value : Value → Value → Value
pair_value a b = record { shape = pair_shape a.shape b.shape; leaves = joined (shape_leaves a.shape) a.leaves b.leaves }

abbrev pub first_value : Value → Value
first_value a = record { shape = first_shape a.shape; leaves = joined (shape_leaves (first_shape a.shape)) a.leaves no_leaves }

abbrev pub second_value : Value → Value
second_value a = record { shape = second_shape a.shape; leaves = leaves_from (shape_leaves (first_shape a.shape)) a.leaves }
