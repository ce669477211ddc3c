-- Failing, striding and normalising as functions that compute. A stride also tells whether it moved: changed the task or
-- the store. Rests on ComputeEvaluation; NormalisingSound and NormalisingComplete tie them to the rules.
use mathlib.Core.Bool.{Bool, true, false, ◌&&◌, ◌||◌}
use mathlib.Core.Option.{Option, none, some}
use mathlib.Core.List.{◌∷◌}
use Prim.Native.Nat.{ℕ, zero, suc, ◌+◌}
use Rattle.tophat.specs.Syntax.{moves, StepT, OrT, Code, edit, enter, update, then, next, fail, and, or, xor, view, gate, if, let', Val, Env, Store}
use Rattle.tophat.specs.Syntax.{TaskOf, before, after, both, either, or_left, or_right, unpicked, picked_left, picked_right, gated, if_true, if_false, bound}
use Rattle.tophat.specs.Normalising.{value}
use Rattle.tophat.proofs.ComputeEvaluation.{evaluate, overflows_task}

module _ {X : Type 0} where
  -- strides until one does not move, at most n; the number counts them, the last included
  unfoldable pub unless_still : Bool → X → Store → (X → Store → X × Store × ℕ) → X × Store × ℕ
  unless_still false t s k = (t, s, 1)
  unless_still true t s k = let (t₁, s₁, n) = k t s in (t₁, s₁, suc n)

  unfoldable pub strides : (Store → X → X × Store × Bool) → ℕ → Store → X → X × Store × ℕ
  strides f zero s t = (t, s, 0)
  strides f (suc n) s t = let (t₁, s₁, m) = f s t in unless_still m t₁ s₁ (λ t s. strides f n s t)

module _ {A B : Type 0} where
  -- a step whose A is at t in s, having moved or not: r is B evaluated, and whether it fails comes last
  unfoldable pub go_on : Val → A → Store → Bool → B × Store → Bool → StepT A B × Store × Bool
  go_on v t s m r true = (before t, s, m)
  go_on v t s m r false = (after v r.0, r.1, true)

  unfoldable pub go_on_with : Option Val → A → Store → Bool → (Val → B × Store) → (Val → B × Store → Bool) → StepT A B × Store × Bool
  go_on_with none t s m E F = (before t, s, m)
  go_on_with (some v) t s m E F = let r = E v in go_on v t s m r (F v r)

  -- a choice whose parts are at t and u in s, by the right's value
  unfoldable pub choose_right : Option Val → A → B → Store → Bool → OrT A B × Store × Bool
  choose_right none t u s m = (either t u, s, m)
  choose_right (some w) t u s m = (or_right u, s, true)

  -- a choice whose left is at t in s, by the left's value: G strides the right, W is the right's value
  unfoldable pub choose_left : Option Val → A → B → Store → Bool → (Store → B → B × Store × Bool) → (B → Store → Option Val) → OrT A B × Store × Bool
  choose_left none t u s m G W = let (u₁, s₁, n) = G s u in choose_right (W u₁ s₁) t u₁ s₁ (m || n)
  choose_left (some v) t u s m G W = (or_left t, s, true)

unfoldable mutual
  unfolding evaluate overflows_task value

  pub failing : (c : Code) → Env → Store → TaskOf c → Bool
  failing (edit e) ρ s t = false
  failing (enter τ) ρ s t = false
  failing (update n) ρ s t = false
  failing (then a b) ρ s (before t) = failing a ρ s t
  failing (then a b) ρ s (after v u) = failing b (v ∷ ρ) s u
  failing (next a b) ρ s (before t) = failing a ρ s t
  failing (next a b) ρ s (after v u) = failing b (v ∷ ρ) s u
  failing (fail τ) ρ s t = true
  failing (and a b) ρ s (both t u) = failing a ρ s t && failing b ρ s u
  failing (or a b) ρ s (either t u) = failing a ρ s t && failing b ρ s u
  failing (or a b) ρ s (or_left t) = failing a ρ s t
  failing (or a b) ρ s (or_right u) = failing b ρ s u
  failing (xor a b) ρ s unpicked =
      let (t, s₁) = evaluate a ρ s in
      let (t₁, s₂, m) = strides (λ s t. stride a ρ s t) (suc (moves a)) s₁ t in
      let (u, s₃) = evaluate b ρ s in
      let (u₁, s₄, n) = strides (λ s u. stride b ρ s u) (suc (moves b)) s₃ u in
      (overflows_task a ρ s || failing a ρ s₂ t₁) && (overflows_task b ρ s || failing b ρ s₄ u₁)
  failing (xor a b) ρ s (picked_left t) = failing a ρ s t
  failing (xor a b) ρ s (picked_right u) = failing b ρ s u
  failing (view e) ρ s t = false
  failing (gate r n b) ρ s (gated k u) = failing b ρ s u
  failing (if e a b) ρ s (if_true t) = failing a ρ s t
  failing (if e a b) ρ s (if_false u) = failing b ρ s u
  failing (let' e b) ρ s (bound v u) = failing b (v ∷ ρ) s u

  pub stride : (c : Code) → Env → Store → TaskOf c → TaskOf c × Store × Bool
  stride (edit e) ρ s t = (t, s, false)
  stride (enter τ) ρ s t = (t, s, false)
  stride (update n) ρ s t = (t, s, false)
  stride (then a b) ρ s (before t) =
      let (t₁, s₁, m) = stride a ρ s t in
      go_on_with (value a t₁ s₁) t₁ s₁ m (λ v. evaluate b (v ∷ ρ) s₁) (λ v r. overflows_task b (v ∷ ρ) s₁ || failing b (v ∷ ρ) r.1 r.0)
  stride (then a b) ρ s (after v u) = let (u₁, s₁, m) = stride b (v ∷ ρ) s u in (after v u₁, s₁, m)
  stride (next a b) ρ s (before t) = let (t₁, s₁, m) = stride a ρ s t in (before t₁, s₁, m)
  stride (next a b) ρ s (after v u) = let (u₁, s₁, m) = stride b (v ∷ ρ) s u in (after v u₁, s₁, m)
  stride (fail τ) ρ s t = (t, s, false)
  stride (and a b) ρ s (both t u) =
      let (t₁, s₁, m) = stride a ρ s t in
      let (u₁, s₂, n) = stride b ρ s₁ u in
      (both t₁ u₁, s₂, m || n)
  stride (or a b) ρ s (either t u) =
      let (t₁, s₁, m) = stride a ρ s t in
      choose_left (value a t₁ s₁) t₁ u s₁ m (λ s u. stride b ρ s u) (λ u s. value b u s)
  stride (or a b) ρ s (or_left t) = let (t₁, s₁, m) = stride a ρ s t in (or_left t₁, s₁, m)
  stride (or a b) ρ s (or_right u) = let (u₁, s₁, m) = stride b ρ s u in (or_right u₁, s₁, m)
  stride (xor a b) ρ s unpicked = (unpicked, s, false)
  stride (xor a b) ρ s (picked_left t) = let (t₁, s₁, m) = stride a ρ s t in (picked_left t₁, s₁, m)
  stride (xor a b) ρ s (picked_right u) = let (u₁, s₁, m) = stride b ρ s u in (picked_right u₁, s₁, m)
  stride (view e) ρ s t = (t, s, false)
  stride (gate r n b) ρ s (gated k u) = let (u₁, s₁, m) = stride b ρ s u in (gated k u₁, s₁, m)
  stride (if e a b) ρ s (if_true t) = let (t₁, s₁, m) = stride a ρ s t in (if_true t₁, s₁, m)
  stride (if e a b) ρ s (if_false u) = let (u₁, s₁, m) = stride b ρ s u in (if_false u₁, s₁, m)
  stride (let' e b) ρ s (bound v u) = let (u₁, s₁, m) = stride b (v ∷ ρ) s u in (bound v u₁, s₁, m)

unfoldable pub normalise : (c : Code) → Env → Store → TaskOf c → TaskOf c × Store × ℕ
normalise c ρ s t = strides (λ s t. stride c ρ s t) (suc (moves c)) s t

-- 01: "Normalise: evaluate, then stride until a stride changes neither task nor store"
unfoldable pub settle : (c : Code) → Env → Store → TaskOf c × Store × ℕ
settle c ρ s = let (t, s₁) = evaluate c ρ s in normalise c ρ s₁ t

-- whether a right side, evaluated, fails: it leaves the words (CR 3), or its task fails
abbrev pub right_fails : Code → Env → Store → Bool
right_fails b ρ s = let (u, s₁) = evaluate b ρ s in overflows_task b ρ s || failing b ρ s₁ u

-- whether a branch, evaluated and normalised, fails, likewise
abbrev pub branch_fails : Code → Env → Store → Bool
branch_fails c ρ s = let (t, s₁, n) = settle c ρ s in overflows_task c ρ s || failing c ρ s₁ t

-- the rows of kind 43 and 47 that a task can still move
unfoldable pub remaining : (c : Code) → TaskOf c → ℕ
remaining (edit e) t = 0
remaining (enter τ) t = 0
remaining (update n) t = 0
remaining (then a b) (before t) = 1 + remaining a t + moves b
remaining (then a b) (after v u) = remaining b u
remaining (next a b) (before t) = remaining a t
remaining (next a b) (after v u) = remaining b u
remaining (fail τ) t = 0
remaining (and a b) (both t u) = remaining a t + remaining b u
remaining (or a b) (either t u) = 1 + remaining a t + remaining b u
remaining (or a b) (or_left t) = remaining a t
remaining (or a b) (or_right u) = remaining b u
remaining (xor a b) unpicked = 0
remaining (xor a b) (picked_left t) = remaining a t
remaining (xor a b) (picked_right u) = remaining b u
remaining (view e) t = 0
remaining (gate r n b) (gated k u) = remaining b u
remaining (if e a b) (if_true t) = remaining a t
remaining (if e a b) (if_false u) = remaining b u
remaining (let' e b) (bound v u) = remaining b u
