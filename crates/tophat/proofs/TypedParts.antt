-- What the type of a running task says of its parts: the typing rules of running tasks read backwards, a law for each rule with a premise
-- on a part. Rests on Typing alone; Regrouping and RenamingTyped use it, where a match on nested derivations would be slow to check.
use mathlib.Core.List.{List, ◌∷◌}
use Prim.Native.Nat.{ℕ, ◌≤◌}
use Rattle.tophat.specs.Syntax.{Ty, pair, Exp, Code, edit, enter, then, next, and, or, xor, view, gate, if, let', Val}
use Rattle.tophat.specs.Syntax.{TaskOf, filled, entered, before, after, both, either, or_left, or_right, picked_left, picked_right, gated, if_true, if_false, bound}
use Rattle.tophat.specs.Typing.{ValueType, HasType, CodeType, t_or}
use Rattle.tophat.specs.Typing.{TaskType, k_filled, k_entered, k_then_before, k_then_after, k_next_before, k_next_after, k_both, k_either, k_or_left, k_or_right}
use Rattle.tophat.specs.Typing.{k_picked_left, k_picked_right, k_viewed, k_gated, k_if_true, k_if_false, k_bound}

module _ {Σ Γ : List Ty} {τ : Ty} where
  pub filled_typed : {e : Exp} {v : Val} → TaskType Σ Γ (edit e) (filled v) τ → ValueType v τ
  filled_typed (k_filled d h) = h

  pub entered_typed : {υ : Ty} {v : Val} → TaskType Σ Γ (enter υ) (entered v) τ → ValueType v τ
  entered_typed (k_entered l h) = h

  pub viewed_typed : {e : Exp} {v : Val} → TaskType Σ Γ (view e) (filled v) τ → ValueType v τ
  viewed_typed (k_viewed d h) = h

  pub gated_typed : {r n k : ℕ} {b : Code} {u : TaskOf b} → TaskType Σ Γ (gate r n b) (gated k u) τ → (k ≤ n) × TaskType Σ Γ b u τ
  gated_typed (k_gated l d) = (l, d)

  pub bound_typed : {e : Exp} {b : Code} {v : Val} {u : TaskOf b} → TaskType Σ Γ (let' e b) (bound v u) τ
      → (υ : Ty) × HasType Σ Γ e υ × ValueType v υ × TaskType Σ (υ ∷ Γ) b u τ
  bound_typed (k_bound {τ = υ} d h k) = (υ, d, h, k)

  module _ {a b : Code} where
    pub or_typed : CodeType Σ Γ (or a b) τ → CodeType Σ Γ a τ × CodeType Σ Γ b τ
    or_typed (t_or d e) = (d, e)

    pub then_before_typed : {t : TaskOf a} → TaskType Σ Γ (then a b) (before t) τ → (υ : Ty) × TaskType Σ Γ a t υ
    then_before_typed (k_then_before {τ = υ} k e) = (υ, k)

    pub then_after_typed : {v : Val} {u : TaskOf b} → TaskType Σ Γ (then a b) (after v u) τ
        → (υ : Ty) × CodeType Σ Γ a υ × ValueType v υ × TaskType Σ (υ ∷ Γ) b u τ
    then_after_typed (k_then_after {τ = υ} d h k) = (υ, d, h, k)

    pub next_before_typed : {t : TaskOf a} → TaskType Σ Γ (next a b) (before t) τ → (υ : Ty) × TaskType Σ Γ a t υ
    next_before_typed (k_next_before {τ = υ} k e) = (υ, k)

    pub next_after_typed : {v : Val} {u : TaskOf b} → TaskType Σ Γ (next a b) (after v u) τ
        → (υ : Ty) × CodeType Σ Γ a υ × ValueType v υ × TaskType Σ (υ ∷ Γ) b u τ
    next_after_typed (k_next_after {τ = υ} d h k) = (υ, d, h, k)

    pub either_typed : {t : TaskOf a} {u : TaskOf b} → TaskType Σ Γ (or a b) (either t u) τ → TaskType Σ Γ a t τ × TaskType Σ Γ b u τ
    either_typed (k_either d e) = (d, e)

    pub left_typed : {t : TaskOf a} → TaskType Σ Γ (or a b) (or_left t) τ → TaskType Σ Γ a t τ × CodeType Σ Γ b τ
    left_typed (k_or_left d e) = (d, e)

    pub right_typed : {u : TaskOf b} → TaskType Σ Γ (or a b) (or_right u) τ → CodeType Σ Γ a τ × TaskType Σ Γ b u τ
    right_typed (k_or_right d e) = (d, e)

    pub picked_left_typed : {t : TaskOf a} → TaskType Σ Γ (xor a b) (picked_left t) τ → TaskType Σ Γ a t τ
    picked_left_typed (k_picked_left d e) = d

    pub picked_right_typed : {u : TaskOf b} → TaskType Σ Γ (xor a b) (picked_right u) τ → TaskType Σ Γ b u τ
    picked_right_typed (k_picked_right d e) = e

    pub if_true_typed : {e : Exp} {t : TaskOf a} → TaskType Σ Γ (if e a b) (if_true t) τ → TaskType Σ Γ a t τ
    if_true_typed (k_if_true x d e) = d

    pub if_false_typed : {e : Exp} {u : TaskOf b} → TaskType Σ Γ (if e a b) (if_false u) τ → TaskType Σ Γ b u τ
    if_false_typed (k_if_false x d e) = e

pub both_typed : {Σ Γ : List Ty} {a b : Code} {t : TaskOf a} {u : TaskOf b} {τ υ : Ty} → TaskType Σ Γ (and a b) (both t u) (pair τ υ)
    → TaskType Σ Γ a t τ × TaskType Σ Γ b u υ
both_typed (k_both d e l) = (d, e)
