-- Evaluation as functions that compute. They are total: what typing rules out gets some value, and a number that leaves the words
-- goes on as 0, while `overflows` and `overflows_task` tell that one did. Rests on the rules' syntax alone; EvaluationAgrees shows
-- that they give what the rules derive.
use mathlib.Core.Bool.{Bool, true, false, not, ◌&&◌, ◌||◌, cond}
use mathlib.Core.List.{◌∷◌}
use lib.IntN.{ℤ, pos, ◌+ℤ◌, ◌-ℤ◌, ◌*ℤ◌}
use lib.Signed.{lt_z, le_z}
use lib.ListN.{get_or, set}
use Rattle.word.specs.Word.{is_word, eq_z}
use Rattle.tophat.specs.Syntax.{Op, sum, difference, product, less, less_equal, equal, and_op, or_op}
use Rattle.tophat.specs.Syntax.{Exp, eunit, etruth, enumber, ebinder, eop, eif, epair, efst, esnd, ederef, eassign, elet}
use Rattle.tophat.specs.Syntax.{Code, edit, enter, update, then, next, fail, and, or, xor, view, gate, if, let', Val, vunit, vtruth, vnumber, vpair, Env, Store}
use Rattle.tophat.specs.Syntax.{TaskOf, filled, blank, shared, before, failed, both, either, unpicked, gated, if_true, if_false, bound}

-- the first leaf of a value, a truth as 0 or 1
unfoldable pub leaf : Val → ℤ
leaf vunit = pos 0
leaf (vtruth false) = pos 0
leaf (vtruth true) = pos 1
leaf (vnumber n) = n
leaf (vpair v w) = leaf v

unfoldable pub is_true : Val → Bool
is_true v = eq_z (leaf v) (pos 1)

-- a number that is a word, 0 in place of any other
unfoldable pub kept : ℤ → ℤ
kept z = cond (is_word z) z (pos 0)

-- what sum, difference and product come to; the other operators reckon no number
unfoldable pub exact : Op → ℤ → ℤ → ℤ
exact sum x y = x +ℤ y
exact difference x y = x -ℤ y
exact product x y = x *ℤ y
exact less x y = pos 0
exact less_equal x y = pos 0
exact equal x y = pos 0
exact and_op x y = pos 0
exact or_op x y = pos 0

-- whether that is no word
unfoldable pub exceeds : Op → Val → Val → Bool
exceeds o v w = not (is_word (exact o (leaf v) (leaf w)))

unfoldable pub apply : Op → Val → Val → Val
apply sum v w = vnumber (kept (exact sum (leaf v) (leaf w)))
apply difference v w = vnumber (kept (exact difference (leaf v) (leaf w)))
apply product v w = vnumber (kept (exact product (leaf v) (leaf w)))
apply less v w = vtruth (lt_z (leaf v) (leaf w))
apply less_equal v w = vtruth (le_z (leaf v) (leaf w))
apply equal v w = vtruth (eq_z (leaf v) (leaf w))
apply and_op v w = vtruth (is_true v && is_true w)
apply or_op v w = vtruth (is_true v || is_true w)

unfoldable pub first_part : Val → Val
first_part vunit = vunit
first_part (vtruth b) = vunit
first_part (vnumber x) = vunit
first_part (vpair v w) = v

unfoldable pub second_part : Val → Val
second_part vunit = vunit
second_part (vtruth b) = vunit
second_part (vnumber x) = vunit
second_part (vpair v w) = w

-- one of two functions, by a truth
unfoldable pub branch : {X Y : Type 0} → Bool → (X → Y) → (X → Y) → X → Y
branch true f g x = f x
branch false f g x = g x

unfoldable pub eval : Exp → Env → Store → Val × Store
eval eunit ρ s = (vunit, s)
eval (etruth b) ρ s = (vtruth b, s)
eval (enumber n) ρ s = (vnumber n, s)
eval (ebinder i) ρ s = (get_or ρ i vunit, s)
eval (eop o a b) ρ s =
    let (v, s₁) = eval a ρ s in
    let (w, s₂) = eval b ρ s₁ in
    (apply o v w, s₂)
eval (eif e a b) ρ s = let (v, s₁) = eval e ρ s in branch (is_true v) (λ s. eval a ρ s) (λ s. eval b ρ s) s₁
eval (epair a b) ρ s =
    let (v, s₁) = eval a ρ s in
    let (w, s₂) = eval b ρ s₁ in
    (vpair v w, s₂)
eval (efst a) ρ s = let (v, s₁) = eval a ρ s in (first_part v, s₁)
eval (esnd a) ρ s = let (v, s₁) = eval a ρ s in (second_part v, s₁)
eval (ederef n) ρ s = (get_or s n vunit, s)
eval (eassign n a) ρ s = let (v, s₁) = eval a ρ s in (vunit, set s₁ n v)
eval (elet a b) ρ s = let (v, s₁) = eval a ρ s in eval b (v ∷ ρ) s₁

-- whether evaluating leaves the words
unfoldable pub overflows : Exp → Env → Store → Bool
overflows eunit ρ s = false
overflows (etruth b) ρ s = false
overflows (enumber n) ρ s = false
overflows (ebinder i) ρ s = false
overflows (eop o a b) ρ s =
    let (v, s₁) = eval a ρ s in
    let (w, s₂) = eval b ρ s₁ in
    overflows a ρ s || (overflows b ρ s₁ || exceeds o v w)
overflows (eif e a b) ρ s = let (v, s₁) = eval e ρ s in overflows e ρ s || branch (is_true v) (λ s. overflows a ρ s) (λ s. overflows b ρ s) s₁
overflows (epair a b) ρ s = let (v, s₁) = eval a ρ s in overflows a ρ s || overflows b ρ s₁
overflows (efst a) ρ s = overflows a ρ s
overflows (esnd a) ρ s = overflows a ρ s
overflows (ederef n) ρ s = false
overflows (eassign n a) ρ s = overflows a ρ s
overflows (elet a b) ρ s = let (v, s₁) = eval a ρ s in overflows a ρ s || overflows b (v ∷ ρ) s₁

unfoldable pub evaluate : (c : Code) → Env → Store → TaskOf c × Store
evaluate (edit e) ρ s = let (v, s₁) = eval e ρ s in (filled v, s₁)
evaluate (enter τ) ρ s = (blank, s)
evaluate (update n) ρ s = (shared, s)
evaluate (then a b) ρ s = let (t, s₁) = evaluate a ρ s in (before t, s₁)
evaluate (next a b) ρ s = let (t, s₁) = evaluate a ρ s in (before t, s₁)
evaluate (fail τ) ρ s = (failed, s)
evaluate (and a b) ρ s =
    let (t, s₁) = evaluate a ρ s in
    let (u, s₂) = evaluate b ρ s₁ in
    (both t u, s₂)
evaluate (or a b) ρ s =
    let (t, s₁) = evaluate a ρ s in
    let (u, s₂) = evaluate b ρ s₁ in
    (either t u, s₂)
evaluate (xor a b) ρ s = (unpicked, s)
evaluate (view e) ρ s = let (v, s₁) = eval e ρ s in (filled v, s₁)
evaluate (gate r n b) ρ s = let (u, s₁) = evaluate b ρ s in (gated n u, s₁)
evaluate (if e a b) ρ s =
    let (v, s₁) = eval e ρ s in
    branch (is_true v) (λ s. let (t, s₂) = evaluate a ρ s in (if_true t, s₂)) (λ s. let (u, s₂) = evaluate b ρ s in (if_false u, s₂)) s₁
evaluate (let' e b) ρ s =
    let (v, s₁) = eval e ρ s in
    let (u, s₂) = evaluate b (v ∷ ρ) s₁ in
    (bound v u, s₂)

-- whether evaluating a task leaves the words: then it evaluates as fail
unfoldable pub overflows_task : (c : Code) → Env → Store → Bool
overflows_task (edit e) ρ s = overflows e ρ s
overflows_task (enter τ) ρ s = false
overflows_task (update n) ρ s = false
overflows_task (then a b) ρ s = overflows_task a ρ s
overflows_task (next a b) ρ s = overflows_task a ρ s
overflows_task (fail τ) ρ s = false
overflows_task (and a b) ρ s = let (t, s₁) = evaluate a ρ s in overflows_task a ρ s || overflows_task b ρ s₁
overflows_task (or a b) ρ s = let (t, s₁) = evaluate a ρ s in overflows_task a ρ s || overflows_task b ρ s₁
overflows_task (xor a b) ρ s = false
overflows_task (view e) ρ s = overflows e ρ s
overflows_task (gate r n b) ρ s = overflows_task b ρ s
overflows_task (if e a b) ρ s = let (v, s₁) = eval e ρ s in overflows e ρ s || branch (is_true v) (λ s. overflows_task a ρ s) (λ s. overflows_task b ρ s) s₁
overflows_task (let' e b) ρ s = let (v, s₁) = eval e ρ s in overflows e ρ s || overflows_task b (v ∷ ρ) s₁
