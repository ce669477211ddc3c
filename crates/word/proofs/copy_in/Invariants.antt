-- The first i elements of `own` are the bits of lent's, the rest is as it was, and lent's first i are words.
use mathlib.Core.Path.{◌≡◌}
use mathlib.Core.List.{◌++◌, map}
use Prim.Native.Nat.{ℕ, ◌≤◌, ◌<◌}
use lib.IntN.{pos}
use lib.ListN.{length, take, drop, get_or}
use mir.Syntax.{w32}
use mir.Val.{of_z}
use Rattle.word.specs.Word.{IsWord}
use Rattle.word.proofs.copy_in.Given as goal

abbrev pub invariant-loop-i : goal.invariant-loop-i
invariant-loop-i l = (l.i ≤ length l.lent) × (l.own ≡ map (of_z w32) (take l.i l.lent) ++ drop l.i l.initial.own) × ((k : ℕ) → k < l.i → IsWord (get_or l.lent k (pos 0)))
