use mathlib.Core.Path.{sym, ◌∙◌}
use native.Mathlib.Omega.{arith}
use Rattle.shape.proofs.Coded.{kept_shape}
use Rattle.state.proofs.Calls.{low_a}
use Rattle.entries.proofs.Contents.{content_filled, content_entered, content_shared, shared_kind}
use Rattle.entries.proofs.content.Goals as goal

pub row_type-requires : goal.row_type-requires
row_type-requires c =
    let l = low_a c.requires.0 c.get-kind.result c.operand-a.result c.get-kind.ensures c.operand-a.ensures (omega (arith, c.requires.1, c.get-kind.ensures)) (omega (arith, c.requires.2, c.get-kind.ensures)) in
    let f = c.requires.0.low in
    omega arith

pub read-requires-in_default : goal.read-requires-in_default
read-requires-in_default c =
    let l = low_a c.requires.0 c.get-kind.result c.operand-a.result c.get-kind.ensures c.operand-a.ensures (omega (arith, c.requires.1, c.get-kind.ensures)) (omega (arith, c.requires.2, c.get-kind.ensures)) in
    let f = c.requires.0.low in
    (omega arith, omega arith)

pub returns-in-40 : goal.returns-in-40
returns-in-40 c =
    content_filled c.args.rows.now c.args.state.now c.args.row c.read.result (sym c.get-kind.ensures ∙ c.in-40.is) c.read.ensures

pub returns-in-41 : goal.returns-in-41
returns-in-41 c =
    content_entered c.args.rows.now c.args.state.now c.args.row c.operand-a.result c.unwrap_or.result _ _
    (sym c.get-kind.ensures ∙ c.in-41.is) c.operand-a.ensures (kept_shape _ c.unwrap_or.ensures c.row_type.ensures)

pub returns-in_default : goal.returns-in_default
returns-in_default c =
    content_shared c.args.rows.now c.args.state.now c.args.row c.operand-a.result c.read-in_default.result
    (shared_kind c.requires.1 c.requires.2 (λ e. c.in_default.in_default-own.rest.0.1 (c.get-kind.ensures ∙ e)) (λ e. c.in_default.in_default-own.rest.1 (c.get-kind.ensures ∙ e)))
    c.operand-a.ensures c.read-in_default.ensures
