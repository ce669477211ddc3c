-- Handling as a function that computes: what a task that takes an event becomes, and the rows of kind 50 passed. Rests on ComputeNormalising; HandlingSound and
-- HandlingComplete tie it to the rules.
use mathlib.Core.Bool.{Bool, true, false}
use mathlib.Core.Option.{Option, none, some}
use mathlib.Core.List.{List, [], ◌∷◌}
use Prim.Native.Nat.{ℕ, ◌-◌}
use lib.ListN.{get_or, set}
use Rattle.decimal.specs.Path.{first, second, Path}
use Rattle.tophat.specs.Syntax.{GateT, Code, edit, enter, update, then, next, fail, and, or, xor, view, gate, if, let', Val, vunit, Env, Store}
use Rattle.tophat.specs.Syntax.{TaskOf, filled, entered, shared, before, after, both, either, or_left, or_right, unpicked, picked_left, picked_right, gated, if_true, if_false, bound}
use Rattle.tophat.specs.Typing.{type_of}
use Rattle.tophat.specs.Leaves.{Given, given}
use Rattle.tophat.specs.Normalising.{value}
use Rattle.tophat.specs.Roles.{Gate}
use Rattle.tophat.specs.Handling.{continue, left, right, Action, give, press}
use Rattle.tophat.proofs.ComputeEvaluation.{evaluate}
use Rattle.tophat.proofs.ComputeNormalising.{settle, right_fails, branch_fails}

-- what is taken: a task, the store, and the rows of kind 50 passed
abbrev pub Taken : Type 0 → Type 0
Taken A = A × Store × List Gate

unfoldable pub map_task : {A C : Type 0} → (A → C) → Option (Taken A) → Option (Taken C)
map_task K none = none
map_task K (some q) = some (K q.0, q.1, q.2)

-- past a 50 of the role r with k touches left
unfoldable pub pass_gate : {A : Type 0} → ℕ → ℕ → Option (Taken A) → Option (Taken (GateT A))
pass_gate r k none = none
pass_gate r k (some q) = some (gated (k - 1) q.0, q.1, (r, k) ∷ q.2)

unfoldable pub then_some : {A B : Type 0} → Option A → (A → B) → Option B
then_some none f = none
then_some (some a) f = some (f a)

module _ {X : Type 0} where
  -- an editor takes a value at the path's end
  unfoldable pub at_editor : Path → Action → (List Given → Option X) → Option X
  at_editor [] (give ls) f = f ls
  at_editor [] (press b) f = none
  at_editor (m ∷ p) x f = none

  -- 46 and 47 take a mark
  unfoldable pub at_mark : Path → (Path → Option X) → (Path → Option X) → Option X
  at_mark [] f g = none
  at_mark (first ∷ p) f g = f p
  at_mark (second ∷ p) f g = g p

  -- an unpicked 48 takes Left and Right at the path's end
  unfoldable pub at_sides : Path → Action → (Unit {0} → Option X) → (Unit {0} → Option X) → Option X
  at_sides [] (give ls) f g = none
  at_sides [] (press continue) f g = none
  at_sides [] (press left) f g = f tt
  at_sides [] (press right) f g = g tt
  at_sides (m ∷ p) x f g = none

  -- a 44 takes Continue at the path's end where A has a value, and passes everything else
  unfoldable pub at_continue : Path → Action → Option Val → (Val → Option X) → (Unit {0} → Option X) → Option X
  at_continue [] (give ls) o f g = g tt
  at_continue [] (press continue) none f g = g tt
  at_continue [] (press continue) (some v) f g = f v
  at_continue [] (press left) o f g = g tt
  at_continue [] (press right) o f g = g tt
  at_continue (m ∷ p) x o f g = g tt

-- what is taken where it does not fail
unfoldable pub unless_failing : {A C : Type 0} → Bool → (A → C) → A → Store → Option (Taken C)
unless_failing true K t s = none
unless_failing false K t s = some (K t, s, [])

unfoldable pub handle : (c : Code) → Env → Store → TaskOf c → Path → Action → Option (Taken (TaskOf c))
handle (edit e) ρ s (filled w) p x = at_editor p x λ ls. then_some (given (type_of w) ls) λ v. (filled v, s, [])
handle (enter τ) ρ s t p x = at_editor p x λ ls. then_some (given τ ls) λ v. (entered v, s, [])
handle (update n) ρ s t p x = at_editor p x λ ls. then_some (given (type_of (get_or s n vunit)) ls) λ v. (shared, set s n v, [])
handle (then a b) ρ s (before t) p x = map_task before (handle a ρ s t p x)
handle (then a b) ρ s (after v u) p x = map_task (after v) (handle b (v ∷ ρ) s u p x)
handle (next a b) ρ s (before t) p x =
    at_continue p x (value a t s)
    (λ v. let (u, s₁) = evaluate b (v ∷ ρ) s in unless_failing (right_fails b (v ∷ ρ) s) (after v) u s₁)
    (λ _. map_task before (handle a ρ s t p x))
handle (next a b) ρ s (after v u) p x = map_task (after v) (handle b (v ∷ ρ) s u p x)
handle (fail τ) ρ s t p x = none
handle (and a b) ρ s (both t u) p x = at_mark p (λ q. map_task (λ t. both t u) (handle a ρ s t q x)) (λ q. map_task (λ u. both t u) (handle b ρ s u q x))
handle (or a b) ρ s (either t u) p x = at_mark p (λ q. map_task (λ t. either t u) (handle a ρ s t q x)) (λ q. map_task (λ u. either t u) (handle b ρ s u q x))
handle (or a b) ρ s (or_left t) p x = map_task or_left (handle a ρ s t p x)
handle (or a b) ρ s (or_right u) p x = map_task or_right (handle b ρ s u p x)
handle (xor a b) ρ s unpicked p x =
    at_sides p x
    (λ _. let (t, s₁, n) = settle a ρ s in unless_failing (branch_fails a ρ s) picked_left t s₁)
    (λ _. let (u, s₁, n) = settle b ρ s in unless_failing (branch_fails b ρ s) picked_right u s₁)
handle (xor a b) ρ s (picked_left t) p x = map_task picked_left (handle a ρ s t p x)
handle (xor a b) ρ s (picked_right u) p x = map_task picked_right (handle b ρ s u p x)
handle (view e) ρ s t p x = none
handle (gate r n b) ρ s (gated k u) p x = pass_gate r k (handle b ρ s u p x)
handle (if e a b) ρ s (if_true t) p x = map_task if_true (handle a ρ s t p x)
handle (if e a b) ρ s (if_false u) p x = map_task if_false (handle b ρ s u p x)
handle (let' e b) ρ s (bound v u) p x = map_task (bound v) (handle b (v ∷ ρ) s u p x)
