-- The leaves so far meet their kinds, and are words.
use mathlib.Core.Path.{◌≡◌}
use mathlib.Core.Bool.{true}
use Prim.Native.Nat.{ℕ, ◌<◌}
use lib.ListN.{get_or}
use Rattle.word.specs.Word.{words}
use Rattle.value.proofs.Fitting.{met_at}
use Rattle.value.proofs.fits.Given as goal

abbrev pub invariant-loop-i : goal.invariant-loop-i
invariant-loop-i l = ((j : ℕ) → j < l.i → met_at l.kinds l.leaf-items j ≡ true) × ((j : ℕ) → j < l.i → get_or l.leaf-items j 0 < words)
