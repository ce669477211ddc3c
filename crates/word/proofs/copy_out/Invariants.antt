-- The first i elements of `lent` are the numbers of own's, the rest is as it was.
use mathlib.Core.Path.{◌≡◌}
use mathlib.Core.List.{◌++◌, map}
use Prim.Native.Nat.{◌≤◌}
use lib.ListN.{length, take, drop}
use mir.Syntax.{w32}
use mir.Val.{to_z}
use Rattle.word.proofs.copy_out.Given as goal

abbrev pub invariant-loop-i : goal.invariant-loop-i
invariant-loop-i l = (l.i ≤ length l.own) × (l.lent ≡ map (to_z w32) (take l.i l.own) ++ drop l.i l.initial.lent)
