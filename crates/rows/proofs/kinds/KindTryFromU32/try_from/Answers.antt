-- A word that no arm takes is the number of no kind: the arms are the lines of the table.
use mathlib.Core.Path.{refl}
use mathlib.Core.List.{List, [], ◌∷◌}
use Prim.Native.Nat.{ℕ}
use native.Mathlib.Omega.{arith}
use Rattle.rows.specs.Kinds.{Line, line, table, kind_of}
use Rattle.rows.proofs.KindNumbers.{kind_beyond}
use Rattle.rows.proofs.kinds.KindTryFromU32.try_from.Goals as goal

-- the numbers of some lines, each a list of its own, the last first
abbrev numbers : List Line → List (List ℕ) → List (List ℕ)
numbers [] kss = kss
numbers (line n k s ∷ ls) kss = numbers ls ((n ∷ []) ∷ kss)

pub returns-in_default : goal.returns-in_default
unfolding kind_of
returns-in_default c = (refl, kind_beyond 0 (numbers table []) c.args.word refl (omega arith) c.in_default.in_default-own.rest)
