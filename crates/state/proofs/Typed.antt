-- The values that a typed task and a typed store have: where the types of a code have at most k leaves, so have they. All types have at most
-- `max_leaves`, so every value fits its row. Rests on Writes and the calculus' typing.
use mathlib.Core.Path.{◌≡◌, refl, sym, ◌∙◌, subst}
use mathlib.Core.List.{List, ◌∷◌}
use Prim.Native.Nat.{ℕ, zero, suc, ◌≤◌}
use native.Mathlib.Omega.{arith}
use lib.ListN.{get_or}
use Rattle.tophat.specs.Syntax.{max_leaves, Ty, leaves, Exp, Code, edit, enter, update, then, next, fail, and, or, xor, view, gate, if, let', Val, vunit, TaskOf, Store}
use Rattle.tophat.specs.Typing.{At, here, there, HasType, ValueType, type_of, v_unit, ValueTypes, v_nil, v_cons, AllSmall, small_cons}
use Rattle.tophat.specs.Typing.{CodeType, t_edit, t_enter, t_update, t_then, t_next, t_fail, t_and, t_or, t_xor, t_view, t_gate, t_if_task, t_let_task}
use Rattle.tophat.specs.Typing.{TaskType, k_filled, k_blank, k_entered, k_shared, k_then_before, k_then_after, k_next_before, k_next_after}
use Rattle.tophat.specs.Typing.{k_failed, k_both, k_either, k_or_left, k_or_right, k_unpicked, k_picked_left, k_picked_right, k_viewed, k_gated, k_if_true, k_if_false, k_bound}
use Rattle.tophat.proofs.Leaves.{type_of_lem}
use Rattle.tophat.proofs.TypingAgrees.{one_type, one_task_type}
use Rattle.tophat.proofs.TypeLeaves.{at_leaves, type_leaves, task_type_leaves}
use Rattle.tophat.proofs.Preservation.{task_code}
use Rattle.value.proofs.Meaning.{leaf_count}
use Rattle.state.specs.Layout.{value_words}
use Rattle.state.proofs.Writes.{Each, Short, Fits}

-- ---- codes of narrow types

-- what a task of the code may hold under binders of the types Γ, contents and bound values, has types of at most k leaves
pub data Narrow (k : ℕ) (Σ : List Ty) : List Ty → Code → Type 0 where
  n_edit : {Γ : List Ty} {e : Exp} {τ : Ty} → HasType Σ Γ e τ → leaves τ ≤ k → Narrow k Σ Γ (edit e)
  n_enter : {Γ : List Ty} {τ : Ty} → leaves τ ≤ k → Narrow k Σ Γ (enter τ)
  n_update : {Γ : List Ty} {n : ℕ} → Narrow k Σ Γ (update n)
  n_then : {Γ : List Ty} {a b : Code} {τ : Ty} → CodeType Σ Γ a τ → leaves τ ≤ k → Narrow k Σ Γ a → Narrow k Σ (τ ∷ Γ) b → Narrow k Σ Γ (then a b)
  n_next : {Γ : List Ty} {a b : Code} {τ : Ty} → CodeType Σ Γ a τ → leaves τ ≤ k → Narrow k Σ Γ a → Narrow k Σ (τ ∷ Γ) b → Narrow k Σ Γ (next a b)
  n_fail : {Γ : List Ty} {τ : Ty} → Narrow k Σ Γ (fail τ)
  n_and : {Γ : List Ty} {a b : Code} → Narrow k Σ Γ a → Narrow k Σ Γ b → Narrow k Σ Γ (and a b)
  n_or : {Γ : List Ty} {a b : Code} → Narrow k Σ Γ a → Narrow k Σ Γ b → Narrow k Σ Γ (or a b)
  n_xor : {Γ : List Ty} {a b : Code} → Narrow k Σ Γ a → Narrow k Σ Γ b → Narrow k Σ Γ (xor a b)
  n_view : {Γ : List Ty} {e : Exp} {τ : Ty} → HasType Σ Γ e τ → leaves τ ≤ k → Narrow k Σ Γ (view e)
  n_gate : {Γ : List Ty} {r n : ℕ} {b : Code} → Narrow k Σ Γ b → Narrow k Σ Γ (gate r n b)
  n_if : {Γ : List Ty} {e : Exp} {a b : Code} → Narrow k Σ Γ a → Narrow k Σ Γ b → Narrow k Σ Γ (if e a b)
  n_let : {Γ : List Ty} {e : Exp} {b : Code} {τ : Ty} → HasType Σ Γ e τ → leaves τ ≤ k → Narrow k Σ (τ ∷ Γ) b → Narrow k Σ Γ (let' e b)

-- the cells' types have at most k leaves
abbrev pub NarrowCells : ℕ → List Ty → Type 0
NarrowCells k Σ = (j : ℕ) (τ : Ty) → At Σ j τ → leaves τ ≤ k

-- a typed code has types of at most max_leaves
all_narrow : {Σ Γ : List Ty} {c : Code} {τ : Ty} → CodeType Σ Γ c τ → AllSmall Σ → AllSmall Γ → Narrow max_leaves Σ Γ c
all_narrow (t_edit d) g h = n_edit d (type_leaves d g h)
all_narrow (t_enter l) g h = n_enter l
all_narrow (t_update d) g h = n_update
all_narrow (t_then d e) g h = let l = task_type_leaves d g h in n_then d l (all_narrow d g h) (all_narrow e g (small_cons l h))
all_narrow (t_next d e) g h = let l = task_type_leaves d g h in n_next d l (all_narrow d g h) (all_narrow e g (small_cons l h))
all_narrow (t_fail l) g h = n_fail
all_narrow (t_and d e l) g h = n_and (all_narrow d g h) (all_narrow e g h)
all_narrow (t_or d e) g h = n_or (all_narrow d g h) (all_narrow e g h)
all_narrow (t_xor d e) g h = n_xor (all_narrow d g h) (all_narrow e g h)
all_narrow (t_view d) g h = n_view d (type_leaves d g h)
all_narrow (t_gate d) g h = n_gate (all_narrow d g h)
all_narrow (t_if_task x d e) g h = n_if (all_narrow d g h) (all_narrow e g h)
all_narrow (t_let_task d e) g h = let l = type_leaves d g h in n_let d l (all_narrow e g (small_cons l h))

-- ---- what holds of all values of types of at most k leaves

module _ {k : ℕ} (P : Val → Type 0) (p : (v : Val) → leaves (type_of v) ≤ k → P v) where
  typed : {v : Val} {τ υ : Ty} → ValueType v υ → τ ≡ υ → leaves τ ≤ k → P v
  typed {v} t e l = p v (subst (λ τ. leaves τ ≤ k) (e ∙ sym (type_of_lem t)) l)

  -- of each value of a task
  pub each_narrow : {Σ Γ : List Ty} {c : Code} {t : TaskOf c} {τ : Ty} → Narrow k Σ Γ c → TaskType Σ Γ c t τ → Each P c t
  each_narrow (n_edit d l) (k_filled e v) = typed v (one_type d e) l
  each_narrow (n_enter l) (k_blank h) = tt
  each_narrow (n_enter l) (k_entered h v) = typed v refl l
  each_narrow n_update (k_shared d) = tt
  each_narrow (n_then d l m n) (k_then_before t e) = each_narrow m t
  each_narrow {Σ} {Γ} (n_then {b = b} d l m n) (k_then_after e v u) = (typed v (one_task_type d e) l, each_narrow (subst (λ τ. Narrow k Σ (τ ∷ Γ) b) (one_task_type d e) n) u)
  each_narrow (n_next d l m n) (k_next_before t e) = each_narrow m t
  each_narrow {Σ} {Γ} (n_next {b = b} d l m n) (k_next_after e v u) = (typed v (one_task_type d e) l, each_narrow (subst (λ τ. Narrow k Σ (τ ∷ Γ) b) (one_task_type d e) n) u)
  each_narrow n_fail (k_failed h) = tt
  each_narrow (n_and m n) (k_both t u h) = (each_narrow m t, each_narrow n u)
  each_narrow (n_or m n) (k_either t u) = (each_narrow m t, each_narrow n u)
  each_narrow (n_or m n) (k_or_left t e) = each_narrow m t
  each_narrow (n_or m n) (k_or_right e u) = each_narrow n u
  each_narrow (n_xor m n) (k_unpicked d e) = tt
  each_narrow (n_xor m n) (k_picked_left t e) = each_narrow m t
  each_narrow (n_xor m n) (k_picked_right e u) = each_narrow n u
  each_narrow (n_view d l) (k_viewed e v) = typed v (one_type d e) l
  each_narrow (n_gate n) (k_gated l u) = each_narrow n u
  each_narrow (n_if m n) (k_if_true b t e) = each_narrow m t
  each_narrow (n_if m n) (k_if_false b e u) = each_narrow n u
  each_narrow {Σ} {Γ} (n_let {b = b} d l n) (k_bound e v u) = (typed v (one_type d e) l, each_narrow (subst (λ τ. Narrow k Σ (τ ∷ Γ) b) (one_type d e) n) u)

  -- of each content of a store; beyond it there are units
  pub store_narrow : {s : Store} {Σ : List Ty} → 1 ≤ k → ValueTypes s Σ → NarrowCells k Σ → (j : ℕ) → P (get_or s j vunit)
  unfolding leaves
  store_narrow some v_nil g j = typed v_unit refl some
  store_narrow some (v_cons t d) g zero = typed t refl (g 0 _ here)
  store_narrow some (v_cons t d) g (suc j) = store_narrow some d (λ i τ a. g (suc i) τ (there a)) j

-- ---- every value fits its row

pub short : (v : Val) → leaves (type_of v) ≤ max_leaves → Short v
unfolding value_words
short v l = let e = leaf_count v l in omega arith

pub fits_typed : {Σ Γ : List Ty} {c : Code} {t : TaskOf c} {τ : Ty} → TaskType Σ Γ c t τ → AllSmall Σ → AllSmall Γ → Fits c t
fits_typed d g h = each_narrow Short short (all_narrow (task_code d) g h) d

pub store_short : {s : Store} {Σ : List Ty} → ValueTypes s Σ → AllSmall Σ → (k : ℕ) → Short (get_or s k vunit)
store_short d g k = store_narrow Short short (omega arith) d (λ j τ a. at_leaves a g) k
