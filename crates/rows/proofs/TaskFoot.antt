-- The task rows of a code at a row, by recursion on the code, and that those of two branches are apart and are not the row
-- itself. Rests on Disjoint and KindNumbers.
use mathlib.Core.Path.{◌≡◌, refl, sym, subst}
use mathlib.Core.Bool.{true}
use mathlib.Core.Logic.{◌⊎◌, inl, inr}
use mathlib.Core.List.{List}
use Prim.Native.Nat.{ℕ, ◌<◌, ◌≤◌}
use native.Mathlib.Omega.{arith}
use Rattle.tophat.specs.Syntax.{Code, edit, enter, update, then, next, fail, and, or, xor, view, gate, if, let'}
use Rattle.rows.specs.Kinds.{Kind, if_k, let_k, edit_k, enter_k, update_k, then_k, next_k, fail_k, and_k, or_k, xor_k, view_k, gate_k, either_k, task_k, asks_of, number_of}
use Rattle.rows.specs.Rows.{op_a, op_b, op_c, names, OfKind, FromKind, first_expression}
use Rattle.rows.specs.Trees.{ReadsCode, r_edit, r_enter, r_update, r_then, r_next, r_fail, r_and, r_or, r_xor, r_view, r_gate, r_if, r_let}
use Rattle.rows.proofs.Exists.{Sorted}
use Rattle.rows.proofs.Places.{Place, place_a, place_b, place_c, op_at, ask_at, names_of}
use Rattle.rows.proofs.Foot.{Foot, foot_here, foot_up}
use Rattle.rows.proofs.Named.{NamedOnce}
use Rattle.rows.proofs.Disjoint.{apart, not_self}

-- row j is a task row of the code that row i reads as
abbrev pub TaskFoot : List ℕ → ℕ → Code → ℕ → Type 0
TaskFoot rs i (edit e) j = j ≡ i
TaskFoot rs i (enter τ) j = j ≡ i
TaskFoot rs i (update c) j = j ≡ i
TaskFoot rs i (then a b) j = (j ≡ i) ⊎ (TaskFoot rs (op_a rs i) a j ⊎ TaskFoot rs (op_b rs i) b j)
TaskFoot rs i (next a b) j = (j ≡ i) ⊎ (TaskFoot rs (op_a rs i) a j ⊎ TaskFoot rs (op_b rs i) b j)
TaskFoot rs i (fail τ) j = j ≡ i
TaskFoot rs i (and a b) j = (j ≡ i) ⊎ (TaskFoot rs (op_a rs i) a j ⊎ TaskFoot rs (op_b rs i) b j)
TaskFoot rs i (or a b) j = (j ≡ i) ⊎ (TaskFoot rs (op_a rs i) a j ⊎ TaskFoot rs (op_b rs i) b j)
TaskFoot rs i (xor a b) j = (j ≡ i) ⊎ (TaskFoot rs (op_a rs i) a j ⊎ TaskFoot rs (op_b rs i) b j)
TaskFoot rs i (view e) j = j ≡ i
TaskFoot rs i (gate r k b) j = (j ≡ i) ⊎ TaskFoot rs (op_b rs i) b j
TaskFoot rs i (if e a b) j = (j ≡ i) ⊎ (TaskFoot rs (op_b rs i) a j ⊎ TaskFoot rs (op_c rs i) b j)
TaskFoot rs i (let' e b) j = (j ≡ i) ⊎ TaskFoot rs (op_b rs i) b j

-- a task row is in the foot, and of kind 20 or more
pub record High (rs : List ℕ) (i j : ℕ) : Type 0 where
  pub foot : Foot rs i j
  pub high : FromKind rs j first_expression

module _ {rs : List ℕ} where
  self : (i : ℕ) (k : Kind) → OfKind rs i k → number_of first_expression ≤ number_of k → (j : ℕ) → j ≡ i → High rs i j
  self i k e g j q = subst (High rs i) (sym q) (record { foot = foot_here; high = omega (arith, e) })

  sub : (i : ℕ) (k : Kind) → OfKind rs i k → (p : Place) → names (ask_at (asks_of (number_of k)) p) ≡ true → (j : ℕ) → High rs (op_at rs i p) j → High rs i j
  sub i k e p g j h = record { foot = foot_up i p (names_of rs i k e p g) h.foot; high = h.high }

  module _ (i : ℕ) (k : Kind) (e : OfKind rs i k) (g : number_of first_expression ≤ number_of k) (j : ℕ) where
    one : {F : Type 0} (p : Place) → names (ask_at (asks_of (number_of k)) p) ≡ true → (F → High rs (op_at rs i p) j) → (j ≡ i) ⊎ F → High rs i j
    one p u f (inl q) = self i k e g j q
    one p u f (inr x) = sub i k e p u j (f x)

    two : {F G : Type 0} (p r : Place) → names (ask_at (asks_of (number_of k)) p) ≡ true → names (ask_at (asks_of (number_of k)) r) ≡ true → (F → High rs (op_at rs i p) j) → (G → High rs (op_at rs i r) j) → (j ≡ i) ⊎ (F ⊎ G) → High rs i j
    two p r u v f h (inl q) = self i k e g j q
    two p r u v f h (inr (inl x)) = sub i k e p u j (f x)
    two p r u v f h (inr (inr x)) = sub i k e r v j (h x)

  pub task_foot : {i : ℕ} {c : Code} → ReadsCode rs i c → (j : ℕ) → TaskFoot rs i c j → High rs i j
  unfolding asks_of names
  task_foot (r_edit k x d) j f = self _ (task_k edit_k) k (omega arith) j f
  task_foot (r_enter k x d) j f = self _ (task_k enter_k) k (omega arith) j f
  task_foot (r_update k x d) j f = self _ (task_k update_k) k (omega arith) j f
  task_foot (r_then k x y d e) j f = two _ (task_k then_k) k (omega arith) j place_a place_b refl refl (λ u. task_foot d j u) (λ u. task_foot e j u) f
  task_foot (r_next k x y d e) j f = two _ (task_k next_k) k (omega arith) j place_a place_b refl refl (λ u. task_foot d j u) (λ u. task_foot e j u) f
  task_foot (r_fail k x d) j f = self _ (task_k fail_k) k (omega arith) j f
  task_foot (r_and k x y d e) j f = two _ (task_k and_k) k (omega arith) j place_a place_b refl refl (λ u. task_foot d j u) (λ u. task_foot e j u) f
  task_foot (r_or k x y d e) j f = two _ (task_k or_k) k (omega arith) j place_a place_b refl refl (λ u. task_foot d j u) (λ u. task_foot e j u) f
  task_foot (r_xor k x y d e) j f = two _ (task_k xor_k) k (omega arith) j place_a place_b refl refl (λ u. task_foot d j u) (λ u. task_foot e j u) f
  task_foot (r_view k x d) j f = self _ (task_k view_k) k (omega arith) j f
  task_foot (r_gate k x d) j f = one _ (task_k gate_k) k (omega arith) j place_b refl (λ u. task_foot d j u) f
  task_foot (r_if k x y z c d e) j f = two _ (either_k if_k) k (omega arith) j place_b place_c refl refl (λ u. task_foot d j u) (λ u. task_foot e j u) f
  task_foot (r_let k x y c d) j f = one _ (either_k let_k) k (omega arith) j place_b refl (λ u. task_foot d j u) f

pub task_self : (rs : List ℕ) (i : ℕ) (c : Code) → TaskFoot rs i c i
task_self rs i (edit e) = refl
task_self rs i (enter τ) = refl
task_self rs i (update c) = refl
task_self rs i (then a b) = inl refl
task_self rs i (next a b) = inl refl
task_self rs i (fail τ) = refl
task_self rs i (and a b) = inl refl
task_self rs i (or a b) = inl refl
task_self rs i (xor a b) = inl refl
task_self rs i (view e) = refl
task_self rs i (gate r k b) = inl refl
task_self rs i (if e a b) = inl refl
task_self rs i (let' e b) = inl refl

pub code_high : {rs : List ℕ} {i : ℕ} {c : Code} → ReadsCode rs i c → FromKind rs i first_expression
code_high {rs} {i} {c} d = (task_foot d i (task_self rs i c)).high

-- ---- apart

-- row i, the task rows of a at row x and those of b at row y are apart
pub record Split (rs : List ℕ) (i x y : ℕ) (a b : Code) : Type 0 where
  pub left : (j : ℕ) → TaskFoot rs x a j → j ≡ i → ⊥
  pub right : (j : ℕ) → TaskFoot rs y b j → j ≡ i → ⊥
  pub apart : (j : ℕ) → TaskFoot rs x a j → TaskFoot rs y b j → ⊥

pub record Beside (rs : List ℕ) (i y : ℕ) (b : Code) : Type 0 where
  pub below : (j : ℕ) → TaskFoot rs y b j → j ≡ i → ⊥

-- so at each row of the code at row i
abbrev pub Splits : List ℕ → ℕ → Code → Type 0
Splits rs i (edit e) = Unit {0}
Splits rs i (enter τ) = Unit {0}
Splits rs i (update c) = Unit {0}
Splits rs i (then a b) = Split rs i (op_a rs i) (op_b rs i) a b × Splits rs (op_a rs i) a × Splits rs (op_b rs i) b
Splits rs i (next a b) = Split rs i (op_a rs i) (op_b rs i) a b × Splits rs (op_a rs i) a × Splits rs (op_b rs i) b
Splits rs i (fail τ) = Unit {0}
Splits rs i (and a b) = Split rs i (op_a rs i) (op_b rs i) a b × Splits rs (op_a rs i) a × Splits rs (op_b rs i) b
Splits rs i (or a b) = Split rs i (op_a rs i) (op_b rs i) a b × Splits rs (op_a rs i) a × Splits rs (op_b rs i) b
Splits rs i (xor a b) = Split rs i (op_a rs i) (op_b rs i) a b × Splits rs (op_a rs i) a × Splits rs (op_b rs i) b
Splits rs i (view e) = Unit {0}
Splits rs i (gate r k b) = Beside rs i (op_b rs i) b × Splits rs (op_b rs i) b
Splits rs i (if e a b) = Split rs i (op_b rs i) (op_c rs i) a b × Splits rs (op_b rs i) a × Splits rs (op_c rs i) b
Splits rs i (let' e b) = Beside rs i (op_b rs i) b × Splits rs (op_b rs i) b

ab : place_a ≡ place_b → ⊥
ab e = let z : ◌≡◌ {A = ℕ} 0 1 = cc in omega arith

bc : place_b ≡ place_c → ⊥
bc e = let z : ◌≡◌ {A = ℕ} 0 1 = cc in omega arith

module _ (rs : List ℕ) (n : ℕ) (q : Sorted rs n) (t : NamedOnce rs n) where
  module _ (i : ℕ) (l : i < n) (k : Kind) (e : OfKind rs i k) where
    beside : (p : Place) → names (ask_at (asks_of (number_of k)) p) ≡ true → {b : Code} → ReadsCode rs (op_at rs i p) b → Beside rs i (op_at rs i p) b
    beside p u d = record { below = λ j f x. not_self rs n q t i p l (names_of rs i k e p u) (subst (Foot rs (op_at rs i p)) x (task_foot d j f).foot) }

    split_of : (p r : Place) → (p ≡ r → ⊥) → names (ask_at (asks_of (number_of k)) p) ≡ true → names (ask_at (asks_of (number_of k)) r) ≡ true → {a b : Code} → ReadsCode rs (op_at rs i p) a → ReadsCode rs (op_at rs i r) b → Split rs i (op_at rs i p) (op_at rs i r) a b
    split_of p r z u v d f = record {
      left = (beside p u d).below;
      right = (beside r v f).below;
      apart = λ j x y. let g = task_foot d j x in apart rs n q t i p r l (names_of rs i k e p u) (names_of rs i k e r v) z j g.high g.foot (task_foot f j y).foot;
    }

  pub splits : {i : ℕ} {c : Code} → i < n → ReadsCode rs i c → Splits rs i c
  unfolding asks_of names
  splits l (r_edit k x d) = tt
  splits l (r_enter k x d) = tt
  splits l (r_update k x d) = tt
  splits l (r_then k x y d e) = (split_of _ l (task_k then_k) k place_a place_b ab refl refl d e, splits (omega arith) d, splits (omega arith) e)
  splits l (r_next k x y d e) = (split_of _ l (task_k next_k) k place_a place_b ab refl refl d e, splits (omega arith) d, splits (omega arith) e)
  splits l (r_fail k x d) = tt
  splits l (r_and k x y d e) = (split_of _ l (task_k and_k) k place_a place_b ab refl refl d e, splits (omega arith) d, splits (omega arith) e)
  splits l (r_or k x y d e) = (split_of _ l (task_k or_k) k place_a place_b ab refl refl d e, splits (omega arith) d, splits (omega arith) e)
  splits l (r_xor k x y d e) = (split_of _ l (task_k xor_k) k place_a place_b ab refl refl d e, splits (omega arith) d, splits (omega arith) e)
  splits l (r_view k x d) = tt
  splits l (r_gate k x d) = (beside _ l (task_k gate_k) k place_b refl d, splits (omega arith) d)
  splits l (r_if k x y z c d e) = (split_of _ l (either_k if_k) k place_b place_c bc refl refl d e, splits (omega arith) d, splits (omega arith) e)
  splits l (r_let k x y c d) = (beside _ l (either_k let_k) k place_b refl d, splits (omega arith) d)
