-- The entries that a task shows, and to whom, as a function that computes. Rests on ComputeHandling; EntriesAgree ties it to Shows.
use mathlib.Core.Bool.{Bool, not}
use mathlib.Core.Option.{Option, none, some}
use mathlib.Core.List.{List, [], ◌∷◌, ◌++◌}
use lib.ListN.{get_or}
use Rattle.decimal.specs.Path.{first, second}
use Rattle.tophat.specs.Syntax.{Code, edit, enter, update, then, next, fail, and, or, xor, view, gate, if, let', Val, vunit, Env, Store}
use Rattle.tophat.specs.Syntax.{TaskOf, filled, before, after, both, either, or_left, or_right, unpicked, picked_left, picked_right, gated, if_true, if_false, bound}
use Rattle.tophat.specs.Normalising.{value}
use Rattle.tophat.specs.Roles.{Who, opens}
use Rattle.tophat.specs.Handling.{continue, left, right}
use Rattle.tophat.specs.Showing.{Entry, marked, offers, button_if, entries_if}
use Rattle.tophat.proofs.ComputeNormalising.{right_fails, branch_fails}
use Rattle.tophat.specs.Typing.{type_of}

-- Continue, where A has a value and B, tried, does not fail
unfoldable pub continue_if : Option Val → (Val → Bool) → List Entry
continue_if none F = []
continue_if (some v) F = button_if (not (F v)) continue

unfoldable pub entries : Who → (c : Code) → Env → Store → TaskOf c → List Entry
entries w (edit e) ρ s (filled v) = offers (type_of v)
entries w (enter τ) ρ s t = offers τ
entries w (update n) ρ s t = offers (type_of (get_or s n vunit))
entries w (then a b) ρ s (before t) = entries w a ρ s t
entries w (then a b) ρ s (after v u) = entries w b (v ∷ ρ) s u
entries w (next a b) ρ s (before t) = entries w a ρ s t ++ continue_if (value a t s) (λ v. right_fails b (v ∷ ρ) s)
entries w (next a b) ρ s (after v u) = entries w b (v ∷ ρ) s u
entries w (fail τ) ρ s t = []
entries w (and a b) ρ s (both t u) = marked first (entries w a ρ s t) ++ marked second (entries w b ρ s u)
entries w (or a b) ρ s (either t u) = marked first (entries w a ρ s t) ++ marked second (entries w b ρ s u)
entries w (or a b) ρ s (or_left t) = entries w a ρ s t
entries w (or a b) ρ s (or_right u) = entries w b ρ s u
entries w (xor a b) ρ s unpicked = button_if (not (branch_fails a ρ s)) left ++ button_if (not (branch_fails b ρ s)) right
entries w (xor a b) ρ s (picked_left t) = entries w a ρ s t
entries w (xor a b) ρ s (picked_right u) = entries w b ρ s u
entries w (view e) ρ s t = []
entries w (gate r n b) ρ s (gated k u) = entries_if (opens w (r, k)) (entries w b ρ s u)
entries w (if e a b) ρ s (if_true t) = entries w a ρ s t
entries w (if e a b) ρ s (if_false u) = entries w b ρ s u
entries w (let' e b) ρ s (bound v u) = entries w b (v ∷ ρ) s u
