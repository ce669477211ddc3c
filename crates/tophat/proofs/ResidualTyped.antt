-- A task of a type has a residual that the typing rules give that type (01, "A state's task is well typed when"). Rests on
-- TypeLeaves.
use mathlib.Core.List.{List}
use Prim.Native.Nat.{◌≤◌}
use native.Mathlib.Omega.{arith}
use Rattle.tophat.specs.Syntax.{max_leaves, Ty, leaves, Code, Val, TaskOf}
use Rattle.tophat.specs.Typing.{HasType, t_unit, t_truth, t_number, t_pair}
use Rattle.tophat.specs.Typing.{CodeType, t_edit, t_enter, t_update, t_then, t_next, t_fail, t_and, t_or, t_xor, t_view, t_gate, t_let_task}
use Rattle.tophat.specs.Typing.{ValueType, v_unit, v_truth, v_number, v_pair, AllSmall, small_cons}
use Rattle.tophat.specs.Typing.{TaskType, k_filled, k_blank, k_entered, k_shared, k_then_before, k_then_after, k_next_before, k_next_after, k_failed}
use Rattle.tophat.specs.Typing.{k_both, k_either, k_or_left, k_or_right, k_unpicked, k_picked_left, k_picked_right, k_viewed, k_gated, k_if_true, k_if_false, k_bound}
use Rattle.tophat.specs.Residual.{quoted, residual}
use Rattle.tophat.proofs.TypeLeaves.{type_leaves, task_type_leaves}

-- a value of a type that has at most max_leaves leaves is an expression of it
quoted_typed : {Σ Γ : List Ty} {v : Val} {τ : Ty} → ValueType v τ → leaves τ ≤ max_leaves → HasType Σ Γ (quoted v) τ
unfolding quoted leaves
quoted_typed v_unit l = t_unit
quoted_typed v_truth l = t_truth
quoted_typed (v_number h) l = t_number h
quoted_typed (v_pair h k) l = t_pair (quoted_typed h (omega arith)) (quoted_typed k (omega arith)) l

module _ {Σ : List Ty} (g : AllSmall Σ) where
  pub residual_typed : {Γ : List Ty} {c : Code} {t : TaskOf c} {τ : Ty} → AllSmall Γ → TaskType Σ Γ c t τ → CodeType Σ Γ (residual c t) τ
  unfolding residual
  residual_typed h (k_filled d v) = t_edit (quoted_typed v (type_leaves d g h))
  residual_typed h (k_blank l) = t_enter l
  residual_typed h (k_entered l v) = t_edit (quoted_typed v l)
  residual_typed h (k_shared d) = t_update d
  residual_typed h (k_then_before d e) = t_then (residual_typed h d) e
  residual_typed h (k_then_after d v e) = let l = task_type_leaves d g h in t_let_task (quoted_typed v l) (residual_typed (small_cons l h) e)
  residual_typed h (k_next_before d e) = t_next (residual_typed h d) e
  residual_typed h (k_next_after d v e) = let l = task_type_leaves d g h in t_let_task (quoted_typed v l) (residual_typed (small_cons l h) e)
  residual_typed h (k_failed l) = t_fail l
  residual_typed h (k_both d e l) = t_and (residual_typed h d) (residual_typed h e) l
  residual_typed h (k_either d e) = t_or (residual_typed h d) (residual_typed h e)
  residual_typed h (k_or_left d e) = residual_typed h d
  residual_typed h (k_or_right d e) = residual_typed h e
  residual_typed h (k_unpicked d e) = t_xor d e
  residual_typed h (k_picked_left d e) = residual_typed h d
  residual_typed h (k_picked_right d e) = residual_typed h e
  residual_typed h (k_viewed d v) = t_view (quoted_typed v (type_leaves d g h))
  residual_typed h (k_gated l d) = t_gate (residual_typed h d)
  residual_typed h (k_if_true b d e) = residual_typed h d
  residual_typed h (k_if_false b d e) = residual_typed h e
  residual_typed h (k_bound d v e) = let l = type_leaves d g h in t_let_task (quoted_typed v l) (residual_typed (small_cons l h) e)
