-- CR 4: "A type may have 8 leaves": where the cells' and the binders' types have, every derived type has. Rests on Typing.
use mathlib.Core.List.{List}
use Prim.Native.Nat.{ℕ, ◌≤◌}
use native.Mathlib.Omega.{arith}
use Rattle.tophat.specs.Syntax.{max_leaves, Ty, leaves, Op, Exp, Code}
use Rattle.tophat.specs.Typing.{AllSmall, small_cons}
use Rattle.tophat.specs.Typing.{At, here, there, OpType, o_sum, o_difference, o_product, o_less, o_less_equal, o_equal, o_and, o_or}
use Rattle.tophat.specs.Typing.{HasType, t_unit, t_truth, t_number, t_var, t_op, t_if, t_pair, t_fst, t_snd, t_deref, t_assign, t_let}
use Rattle.tophat.specs.Typing.{CodeType, t_edit, t_enter, t_update, t_then, t_next, t_fail, t_and, t_or, t_xor, t_view, t_gate, t_if_task, t_let_task}

pub at_leaves : {τs : List Ty} {i : ℕ} {τ : Ty} → At τs i τ → AllSmall τs → leaves τ ≤ max_leaves
at_leaves here (small_cons l h) = l
at_leaves (there d) (small_cons l h) = at_leaves d h

op_leaves : {o : Op} {τ υ : Ty} → OpType o τ υ → leaves υ ≤ max_leaves
unfolding leaves
op_leaves o_sum = omega arith
op_leaves o_difference = omega arith
op_leaves o_product = omega arith
op_leaves o_less = omega arith
op_leaves o_less_equal = omega arith
op_leaves o_equal = omega arith
op_leaves o_and = omega arith
op_leaves o_or = omega arith

-- of plain expressions
pub type_leaves : {Σ Γ : List Ty} {e : Exp} {τ : Ty} → HasType Σ Γ e τ → AllSmall Σ → AllSmall Γ → leaves τ ≤ max_leaves
unfolding leaves
type_leaves t_unit g h = omega arith
type_leaves t_truth g h = omega arith
type_leaves (t_number w) g h = omega arith
type_leaves (t_var d) g h = at_leaves d h
type_leaves (t_op o d d₁) g h = op_leaves o
type_leaves (t_if d d₁ d₂) g h = type_leaves d₁ g h
type_leaves (t_pair d d₁ l) g h = l
type_leaves (t_fst d) g h = let l = type_leaves d g h in omega arith
type_leaves (t_snd d) g h = let l = type_leaves d g h in omega arith
type_leaves (t_deref d) g h = at_leaves d g
type_leaves (t_assign d d₁) g h = omega arith
type_leaves (t_let d d₁) g h = type_leaves d₁ g (small_cons (type_leaves d g h) h)

-- of tasks
pub task_type_leaves : {Σ Γ : List Ty} {c : Code} {τ : Ty} → CodeType Σ Γ c τ → AllSmall Σ → AllSmall Γ → leaves τ ≤ max_leaves
task_type_leaves (t_edit d) g h = type_leaves d g h
task_type_leaves (t_enter l) g h = l
task_type_leaves (t_update d) g h = at_leaves d g
task_type_leaves (t_then d d₁) g h = task_type_leaves d₁ g (small_cons (task_type_leaves d g h) h)
task_type_leaves (t_next d d₁) g h = task_type_leaves d₁ g (small_cons (task_type_leaves d g h) h)
task_type_leaves (t_fail l) g h = l
task_type_leaves (t_and d d₁ l) g h = l
task_type_leaves (t_or d d₁) g h = task_type_leaves d g h
task_type_leaves (t_xor d d₁) g h = task_type_leaves d g h
task_type_leaves (t_view d) g h = type_leaves d g h
task_type_leaves (t_gate d) g h = task_type_leaves d g h
task_type_leaves (t_if_task d d₁ d₂) g h = task_type_leaves d₁ g h
task_type_leaves (t_let_task d d₁) g h = task_type_leaves d₁ g (small_cons (type_leaves d g h) h)
