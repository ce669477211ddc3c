-- A task shows at most as many entries as its code has task rows. Rests on ComputeEntries.
use mathlib.Core.Path.{◌≡◌, refl, ap}
use mathlib.Core.Bool.{Bool, true, false, not}
use mathlib.Core.Option.{Option, none, some}
use mathlib.Core.List.{List, [], ◌∷◌, ◌++◌}
use Prim.Native.Nat.{suc, ◌+◌, ◌≤◌}
use native.Mathlib.Omega.{arith}
use lib.ListN.{length, length-append}
use Rattle.decimal.specs.Path.{Mark, first, second}
use Rattle.tophat.specs.Syntax.{task_rows, Code, edit, enter, update, then, next, fail, and, or, xor, view, gate, if, let', Val, Env, Store}
use Rattle.tophat.specs.Syntax.{TaskOf, filled, before, after, both, either, or_left, or_right, unpicked, picked_left, picked_right, gated, if_true, if_false, bound}
use Rattle.tophat.specs.Normalising.{value}
use Rattle.tophat.specs.Roles.{Who, opens}
use Rattle.tophat.specs.Handling.{Button, continue, left, right}
use Rattle.tophat.specs.Showing.{Entry, marked, offers, button_if, entries_if}
use Rattle.tophat.proofs.ComputeNormalising.{right_fails, branch_fails}
use Rattle.tophat.proofs.ComputeEntries.{continue_if, entries}

some_row : (c : Code) → 1 ≤ task_rows c
unfolding task_rows
some_row (edit e) = omega arith
some_row (enter τ) = omega arith
some_row (update n) = omega arith
some_row (then a b) = omega arith
some_row (next a b) = omega arith
some_row (fail τ) = omega arith
some_row (and a b) = omega arith
some_row (or a b) = omega arith
some_row (xor a b) = omega arith
some_row (view e) = omega arith
some_row (gate r n b) = omega arith
some_row (if e a b) = omega arith
some_row (let' e b) = omega arith

pub length_marked : (m : Mark) (es : List Entry) → length (marked m es) ≡ length es
unfolding marked
length_marked m [] = refl
length_marked m (e ∷ es) = ap suc (length_marked m es)

length_button : (x : Bool) (b : Button) → length (button_if x b) ≤ 1
unfolding button_if
length_button true b = omega arith
length_button false b = omega arith

marked_both : (es gs : List Entry) → length (marked first es ++ marked second gs) ≡ length es + length gs
marked_both es gs =
    let e = length-append (marked first es) (marked second gs) in
    let h = length_marked first es in
    let k = length_marked second gs in
    omega arith

with_continue : (es : List Entry) (o : Option Val) (F : Val → Bool) → length (es ++ continue_if o F) ≤ 1 + length es
unfolding continue_if
with_continue es none F = let e = length-append es [] in omega arith
with_continue es (some v) F = let e = length-append es (button_if (not (F v)) continue) in let h = length_button (not (F v)) continue in omega arith

two_buttons : (x y : Bool) → length (button_if x left ++ button_if y right) ≤ 2
two_buttons x y =
    let e = length-append (button_if x left) (button_if y right) in
    let h = length_button x left in
    let k = length_button y right in
    omega arith

fewer : (b : Bool) (es : List Entry) → length (entries_if b es) ≤ length es
unfolding entries_if
fewer true es = omega arith
fewer false es = omega arith

-- at most one entry for each task row
pub entries_bound : (w : Who) (c : Code) (ρ : Env) (s : Store) (t : TaskOf c) → length (entries w c ρ s t) ≤ task_rows c
unfolding entries task_rows offers
entries_bound w (edit e) ρ s (filled v) = omega arith
entries_bound w (enter τ) ρ s t = omega arith
entries_bound w (update n) ρ s t = omega arith
entries_bound w (then a b) ρ s (before t) = let h = entries_bound w a ρ s t in omega arith
entries_bound w (then a b) ρ s (after v u) = let h = entries_bound w b (v ∷ ρ) s u in omega arith
entries_bound w (next a b) ρ s (before t) =
    let h = entries_bound w a ρ s t in
    let k = with_continue (entries w a ρ s t) (value a t s) (λ v. right_fails b (v ∷ ρ) s) in
    omega arith
entries_bound w (next a b) ρ s (after v u) = let h = entries_bound w b (v ∷ ρ) s u in omega arith
entries_bound w (fail τ) ρ s t = omega arith
entries_bound w (and a b) ρ s (both t u) =
    let h = entries_bound w a ρ s t in
    let k = entries_bound w b ρ s u in
    let e = marked_both (entries w a ρ s t) (entries w b ρ s u) in
    omega arith
entries_bound w (or a b) ρ s (either t u) =
    let h = entries_bound w a ρ s t in
    let k = entries_bound w b ρ s u in
    let e = marked_both (entries w a ρ s t) (entries w b ρ s u) in
    omega arith
entries_bound w (or a b) ρ s (or_left t) = let h = entries_bound w a ρ s t in omega arith
entries_bound w (or a b) ρ s (or_right u) = let h = entries_bound w b ρ s u in omega arith
entries_bound w (xor a b) ρ s unpicked =
    let h = two_buttons (not (branch_fails a ρ s)) (not (branch_fails b ρ s)) in
    let k = some_row a in
    let l = some_row b in
    omega arith
entries_bound w (xor a b) ρ s (picked_left t) = let h = entries_bound w a ρ s t in omega arith
entries_bound w (xor a b) ρ s (picked_right u) = let h = entries_bound w b ρ s u in omega arith
entries_bound w (view e) ρ s (filled v) = omega arith
entries_bound w (gate r n b) ρ s (gated k u) = let h = entries_bound w b ρ s u in let l = fewer (opens w (r, k)) (entries w b ρ s u) in omega arith
entries_bound w (if e a b) ρ s (if_true t) = let h = entries_bound w a ρ s t in omega arith
entries_bound w (if e a b) ρ s (if_false u) = let h = entries_bound w b ρ s u in omega arith
entries_bound w (let' e b) ρ s (bound v u) = let h = entries_bound w b (v ∷ ρ) s u in omega arith
