use mathlib.Core.Path.{refl}
use mathlib.Core.Logic.{inl, inr}
use mathlib.Core.List.{List}
use Prim.Native.Nat.{ℕ}
use Rattle.shape.specs.Shape.{put, as_shape, pair_shape, first_shape, second_shape}
use Rattle.typing.specs.RowTypes.{op_shape, same_shape, if_shape, assign_shape, bind_shape, type_of}
use Rattle.typing.proofs.Steps.{op_none, op_none', if_zero_first}
use Rattle.typing.proofs.Rules.{by_node, no_node, after1, after2, no_only, no_left, no_right, no_first, no_second, no_third, same_left, same_right, same_typed, assign_left, assign_right, assign_typed, if_second, if_third, if_typed, pair_left, pair_right, first_zero, second_zero, not_full, bind_full, bind_more}
use Rattle.typing.proofs.+row_type.Goals as goal
use Rattle.typing.proofs.+row_type.Goals.{then-s-eq-TRUTH, else-s-eq-TRUTH}

pub returns-in_err-node : goal.returns-in_err-node
returns-in_err-node t c = no_node _ _ _ _ c.from_residual.ensures c.in_err-node.ensures.is

pub returns-in_err-t-in-Op : goal.returns-in_err-t-in-Op
returns-in_err-t-in-Op t c = by_node _ _ _ _ c.in_ok-node.ensures.is c.in-Op.is (no_left (op_shape c.in-Op.o) _ _ (op_none c.in-Op.o) c.from_residual-in_err-t-in-Op.ensures c.in_err-t-in-Op.ensures)

pub returns-in_err-u-in-Op : goal.returns-in_err-u-in-Op
returns-in_err-u-in-Op t c = by_node _ _ _ _ c.in_ok-node.ensures.is c.in-Op.is (no_right (op_shape c.in-Op.o) _ _ (op_none' c.in-Op.o) c.from_residual-in_err-u-in-Op.ensures c.in_err-u-in-Op.ensures)

pub returns-in_err-s-in-If : goal.returns-in_err-s-in-If
returns-in_err-s-in-If t c = by_node _ _ _ _ c.in_ok-node.ensures.is c.in-If.is (no_first if_shape _ _ _ if_zero_first c.from_residual-in_err-s-in-If.ensures c.in_err-s-in-If.ensures)

pub returns-in_err-t-in-If : goal.returns-in_err-t-in-If
returns-in_err-t-in-If t c = by_node _ _ _ _ c.in_ok-node.ensures.is c.in-If.is (no_second if_shape _ _ _ if_second c.from_residual-in_err-t-in-If.ensures c.in_err-t-in-If.ensures)

pub returns-in_err-u-in-If : goal.returns-in_err-u-in-If
returns-in_err-u-in-If t c = by_node _ _ _ _ c.in_ok-node.ensures.is c.in-If.is (no_third if_shape _ _ _ if_third c.from_residual-in_err-u-in-If.ensures c.in_err-u-in-If.ensures)

pub returns-in_err-t-in-Pair : goal.returns-in_err-t-in-Pair
returns-in_err-t-in-Pair t c = by_node _ _ _ _ c.in_ok-node.ensures.is c.in-Pair.is (no_left pair_shape _ _ pair_left c.from_residual-in_err-t-in-Pair.ensures c.in_err-t-in-Pair.ensures)

pub returns-in_err-u-in-Pair : goal.returns-in_err-u-in-Pair
returns-in_err-u-in-Pair t c = by_node _ _ _ _ c.in_ok-node.ensures.is c.in-Pair.is (no_right pair_shape _ _ pair_right c.from_residual-in_err-u-in-Pair.ensures c.in_err-u-in-Pair.ensures)

pub returns-in_err-t-in-Assign : goal.returns-in_err-t-in-Assign
returns-in_err-t-in-Assign t c = by_node _ _ _ _ c.in_ok-node.ensures.is c.in-Assign.is (no_left assign_shape _ _ assign_left c.from_residual-in_err-t-in-Assign.ensures c.in_err-t-in-Assign.ensures)

pub returns-in_err-u-in-Assign : goal.returns-in_err-u-in-Assign
returns-in_err-u-in-Assign t c = by_node _ _ _ _ c.in_ok-node.ensures.is c.in-Assign.is (no_right assign_shape _ _ assign_right c.from_residual-in_err-u-in-Assign.ensures c.in_err-u-in-Assign.ensures)

pub returns-in_err-t-in-Same : goal.returns-in_err-t-in-Same
returns-in_err-t-in-Same t c = by_node _ _ _ _ c.in_ok-node.ensures.is c.in-Same.is (no_left same_shape _ _ same_left c.from_residual-in_err-t-in-Same.ensures c.in_err-t-in-Same.ensures)

pub returns-in_err-u-in-Same : goal.returns-in_err-u-in-Same
returns-in_err-u-in-Same t c = by_node _ _ _ _ c.in_ok-node.ensures.is c.in-Same.is (no_right same_shape _ _ same_right c.from_residual-in_err-u-in-Same.ensures c.in_err-u-in-Same.ensures)

pub returns-in_err-t-in-First : goal.returns-in_err-t-in-First
returns-in_err-t-in-First t c = by_node _ _ _ _ c.in_ok-node.ensures.is c.in-First.is (no_only first_shape _ first_zero c.from_residual-in_err-t-in-First.ensures c.in_err-t-in-First.ensures)

pub returns-in_err-t-in-Second : goal.returns-in_err-t-in-Second
returns-in_err-t-in-Second t c = by_node _ _ _ _ c.in_ok-node.ensures.is c.in-Second.is (no_only second_shape _ second_zero c.from_residual-in_err-t-in-Second.ensures c.in_err-t-in-Second.ensures)

pub returns-in-Unit : goal.returns-in-Unit
returns-in-Unit t c = by_node _ _ _ _ c.in_ok-node.ensures.is c.in-Unit.is (refl)

pub returns-in-Truth : goal.returns-in-Truth
returns-in-Truth t c = by_node _ _ _ _ c.in_ok-node.ensures.is c.in-Truth.is (refl)

pub returns-in-Number : goal.returns-in-Number
returns-in-Number t c = by_node _ _ _ _ c.in_ok-node.ensures.is c.in-Number.is (refl)

pub returns-in-Binder : goal.returns-in-Binder
returns-in-Binder t c = by_node _ _ _ _ c.in_ok-node.ensures.is c.in-Binder.is (c.get.ensures)

pub returns-in-Through : goal.returns-in-Through
returns-in-Through t c = by_node _ _ _ _ c.in_ok-node.ensures.is c.in-Through.is (c.row_type-in-Through.ensures)

pub returns-in_ok-u-in-Op : goal.returns-in_ok-u-in-Op
returns-in_ok-u-in-Op t c = by_node _ _ _ _ c.in_ok-node.ensures.is c.in-Op.is (after2 (op_shape c.in-Op.o) _ _ c.op_shape.ensures c.in_ok-t-in-Op.ensures c.in_ok-u-in-Op.ensures)

pub returns-after-s-eq-TRUTH : goal.returns-after-s-eq-TRUTH
unfolding as_shape put
returns-after-s-eq-TRUTH t c =
    by_node _ _ _ _ c.in_ok-node.ensures.is c.in-If.is
    (if_typed _ _ c.in_ok-t-in-If.ensures c.in_ok-u-in-If.ensures _ c.in_ok-s-in-If.ensures
    (elim c.if-s-eq-TRUTH.branch [ then-s-eq-TRUTH w ↦ inl (w.if-s-eq-TRUTH.true, w.then_some-is) | else-s-eq-TRUTH w ↦ inr (w.if-s-eq-TRUTH.false, w.then_some-is) ])
    c.then_some.ensures)

pub returns-in_ok-u-in-Pair : goal.returns-in_ok-u-in-Pair
returns-in_ok-u-in-Pair t c = by_node _ _ _ _ c.in_ok-node.ensures.is c.in-Pair.is (after2 pair_shape _ _ c.pair_shape.ensures c.in_ok-t-in-Pair.ensures c.in_ok-u-in-Pair.ensures)

pub returns-in_ok-u-in-Assign : goal.returns-in_ok-u-in-Assign
unfolding as_shape put
returns-in_ok-u-in-Assign t c = by_node _ _ _ _ c.in_ok-node.ensures.is c.in-Assign.is (assign_typed _ _ c.in_ok-t-in-Assign.ensures c.in_ok-u-in-Assign.ensures c.then_some-in-Assign.ensures)

pub returns-in_ok-u-in-Same : goal.returns-in_ok-u-in-Same
returns-in_ok-u-in-Same t c = by_node _ _ _ _ c.in_ok-node.ensures.is c.in-Same.is (same_typed _ _ c.in_ok-t-in-Same.ensures c.in_ok-u-in-Same.ensures c.then_some-in-Same.ensures)

pub returns-in_ok-t-in-First : goal.returns-in_ok-t-in-First
returns-in_ok-t-in-First t c = by_node _ _ _ _ c.in_ok-node.ensures.is c.in-First.is (after1 first_shape _ c.first_shape.ensures c.in_ok-t-in-First.ensures)

pub returns-in_ok-t-in-Second : goal.returns-in_ok-t-in-Second
returns-in_ok-t-in-Second t c = by_node _ _ _ _ c.in_ok-node.ensures.is c.in-Second.is (after1 second_shape _ c.second_shape.ensures c.in_ok-t-in-Second.ensures)

pub returns-in_err-t-in-Bind : goal.returns-in_err-t-in-Bind
returns-in_err-t-in-Bind t c =
    let inner : List ℕ → ℕ → ℕ = λ e m. type_of c.args.rows.now e m c.in-Bind.b in
    by_node _ _ _ _ c.in_ok-node.ensures.is c.in-Bind.is (no_only (bind_shape inner c.args.binders.now.shapes c.args.binders.now.count) _ refl c.from_residual-in_err-t-in-Bind.ensures c.in_err-t-in-Bind.ensures)

pub returns-then-is_full : goal.returns-then-is_full
returns-then-is_full t c =
    let inner : List ℕ → ℕ → ℕ = λ e m. type_of c.args.rows.now e m c.in-Bind.b in
    by_node _ _ _ _ c.in_ok-node.ensures.is c.in-Bind.is (bind_full inner _ _ _ _ c.in_ok-t-in-Bind.ensures (c.is_full.ensures.0 c.if-is_full.true))

pub returns-else-is_full : goal.returns-else-is_full
returns-else-is_full t c =
    let inner : List ℕ → ℕ → ℕ = λ e m. type_of c.args.rows.now e m c.in-Bind.b in
    by_node _ _ _ _ c.in_ok-node.ensures.is c.in-Bind.is (bind_more inner _ _ _ _ c.in_ok-t-in-Bind.ensures _ _ (not_full _ _ c.if-is_full.false c.is_full.ensures.1) c.with-inner.ensures.0 c.with-inner.ensures.1 c.row_type-in-Bind-2.ensures)
