-- `running::value` meets its contract: at a row that hands on by the law of all such rows, else an arm by the law of its form. Assumes
-- nothing.
use mathlib.Core.Path.{sym, ◌∙◌, subst, ap}
use Rattle.state.specs.declared.tag.Tag.TheVariants.{One}
use Rattle.state.specs.Tags.{tag_word}
use Rattle.running.proofs.Handed.{not_first}
use native.Mathlib.Omega.{arith}
use types.Run.{OneOf}
use Rattle.eval.proofs.Arms.{call_a, call_b}
use Rattle.state.proofs.Calls.{low_a}
use Rattle.running.proofs.Handing.{low_part, fine_part, value_hands}
use Rattle.running.proofs.Values.{value_content, value_entered, value_blank, value_shared, value_both, value_first, value_else, value_none}
use Rattle.running.proofs.Forms.{content_kinds}
use Rattle.running.proofs.+value.Goals as goal

pub value-requires : goal.value-requires
value-requires t c =
    let h = c.handed_on-k.ensures.on c.if-k-ne0.true in
    let l = low_part c.args.rows.now c.args.row c.requires h c.operand.ensures in
    (omega (arith, c.decreases), fine_part c.args.rows.now c.args.row c.requires h c.operand.ensures c.requires.room)

pub returns-then-k-ne0 : goal.returns-then-k-ne0
returns-then-k-ne0 t c =
    value_hands c.args.rows.now c.args.state.now c.args.row (c.handed_on-k.ensures.on c.if-k-ne0.true)
    c.operand.ensures c.value.result c.value.ensures

pub read_value-requires-in-42 : goal.read_value-requires-in-42
read_value-requires-in-42 t c =
    let h = low_a c.requires c.get-kind.result c.operand-cell.result c.get-kind.ensures c.operand-cell.ensures (omega (arith, c.in-42.is)) (omega (arith, c.in-42.is)) in
    let l = c.requires.low in
    omega arith

pub value-x-requires : goal.value-x-requires
value-x-requires t c =
    call_a (c.decreases, c.requires) c.get-kind.result c.operand-in-46.result c.get-kind.ensures c.operand-in-46.ensures (omega (arith, c.in-46.is)) (omega (arith, c.in-46.is))

pub value-y-requires : goal.value-y-requires
value-y-requires t c =
    call_b (c.decreases, c.requires) c.get-kind.result c.operand-in-46-2.result c.get-kind.ensures c.operand-in-46-2.ensures (omega (arith, c.in-46.is))

pub value-left-requires : goal.value-left-requires
value-left-requires t c =
    call_a (c.decreases, c.requires) c.get-kind.result c.operand-in-47.result c.get-kind.ensures c.operand-in-47.ensures (omega (arith, c.in-47.is)) (omega (arith, c.in-47.is))

pub returns-then-is_some : goal.returns-then-is_some
returns-then-is_some t c =
    value_first c.args.rows.now c.args.state.now c.args.row c.operand-in-47.result c.operand-in-47.ensures
    (c.handed_on-k.ensures.none c.if-k-ne0.false) (sym c.get-kind.ensures ∙ c.in-47.is) c.value-left.result
    c.value-left.ensures (sym c.is_some.ensures ∙ c.if-is_some.true)

pub value-requires-in-47 : goal.value-requires-in-47
value-requires-in-47 t c =
    call_b (c.decreases, c.requires) c.get-kind.result c.operand-in-47-2.result c.get-kind.ensures c.operand-in-47-2.ensures (omega (arith, c.in-47.is))

pub returns-in-40 : goal.returns-in-40
returns-in-40 t c =
    value_content c.args.rows.now c.args.state.now c.args.row c.read_value.result
    (subst (OneOf content_kinds) c.get-kind.ensures c.in-40.is) c.read_value.ensures

pub returns-in-42 : goal.returns-in-42
returns-in-42 t c =
    value_shared c.args.rows.now c.args.state.now c.args.row c.operand-cell.result c.read_value-in-42.result
    (sym c.get-kind.ensures ∙ c.in-42.is) c.operand-cell.ensures c.read_value-in-42.ensures

pub returns-in-46 : goal.returns-in-46
returns-in-46 t c =
    value_both c.args.rows.now c.args.state.now c.args.row c.operand-in-46.result c.operand-in-46.ensures
    c.operand-in-46-2.result c.value-x.result c.value-y.result c.both.result
    (sym c.get-kind.ensures ∙ c.in-46.is) c.operand-in-46-2.ensures c.value-x.ensures c.value-y.ensures
    c.both.ensures

pub returns-else-is_some : goal.returns-else-is_some
returns-else-is_some t c =
    value_else c.args.rows.now c.args.state.now c.args.row c.operand-in-47.result c.operand-in-47.ensures
    (c.handed_on-k.ensures.none c.if-k-ne0.false) (sym c.get-kind.ensures ∙ c.in-47.is) c.value-left.result
    c.value-left.ensures c.operand-in-47-2.result c.value-in-47.result c.operand-in-47-2.ensures
    (sym c.is_some.ensures ∙ c.if-is_some.false) c.value-in-47.ensures

pub returns-in_default : goal.returns-in_default
returns-in_default t c =
    value_none c.args.rows.now c.args.state.now c.args.row (c.handed_on-k.ensures.none c.if-k-ne0.false)
    (λ e. c.in_default.in_default-own.rest.0.0.0.0.1 (subst (OneOf content_kinds) (sym c.get-kind.ensures) e))
    (λ e. c.in_default.in_default-own.rest.0.0.0.1 (c.get-kind.ensures ∙ e))
    (λ e. c.in_default.in_default-own.rest.0.0.1 (c.get-kind.ensures ∙ e))
    (λ e. c.in_default.in_default-own.rest.0.1 (c.get-kind.ensures ∙ e))
    (λ e. c.in_default.in_default-own.rest.1 (c.get-kind.ensures ∙ e))

pub returns-in_err-tag_at-in-41 : goal.returns-in_err-tag_at-in-41
returns-in_err-tag_at-in-41 t c =
    rw c.from_residual.ensures (value_blank c.args.rows.now c.args.state.now c.args.row (sym c.get-kind.ensures ∙ c.in-41.is) (c.in_err-tag_at-in-41.ensures One))

pub returns-in-One : goal.returns-in-One
returns-in-One t c =
    let n = c.in_ok-tag_at-in-41.ensures in
    value_entered c.args.rows.now c.args.state.now c.args.row c.read_value-in-One.result (sym c.get-kind.ensures ∙ c.in-41.is) (n ∙ ap tag_word c.in-One.is) c.read_value-in-One.ensures

pub returns-in_default-2 : goal.returns-in_default-2
returns-in_default-2 t c =
    value_blank c.args.rows.now c.args.state.now c.args.row (sym c.get-kind.ensures ∙ c.in-41.is) (not_first c.in_ok-tag_at-in-41.field-0 c.in_ok-tag_at-in-41.ensures c.in_default-2.not-One)
