-- The digits of a shape as the code walks them. Rests on Shape.
-- For contracts only: tied to Shape by `leaves_yes` (proofs/Laws) and `kinds_yes` (proofs/LeafKinds).
use Rattle.std.specs.Prelude.{cond, List, [], ◌∷◌, ℕ, zero, suc, ◌+◌, ◌*◌, ◌-◌, ◌/◌, ◌%◌, eqb, set}
use Rattle.tophat.specs.Syntax.{max_leaves}
use Rattle.shape.specs.Shape.{base}

-- the digits of a type of max_leaves leaves
abbrev pub max_digits : ℕ
max_digits = 2 * max_leaves - 1

-- the leaves of the k types that stand first in c, if they end within d digits; more than max_leaves if not
unfoldable pub count : ℕ → ℕ → ℕ → ℕ
count zero k c = cond (eqb k 0) 0 (max_leaves + 1)
count (suc d) k c = cond (eqb k 0) 0 (cond (eqb (c % base) 0) (count d (k + 1) (c / base)) (1 + count d (k - 1) (c / base)))

-- base to the number of digits of a type of n leaves
unfoldable pub width : ℕ → ℕ
width zero = base
width (suc zero) = base
width (suc (suc n)) = base * base * width (suc n)

-- the digits of c that are leaves, of the first d
unfoldable pub leaf_digits : ℕ → ℕ → List ℕ
leaf_digits zero c = []
leaf_digits (suc d) c = cond (eqb (c % base) 0) (leaf_digits d (c / base)) (c % base ∷ leaf_digits d (c / base))

-- a list with xs stored from place i on
unfoldable pub stored_from : List ℕ → ℕ → List ℕ → List ℕ
stored_from ks i [] = ks
stored_from ks i (x ∷ xs) = stored_from (set ks i x) (suc i) xs
