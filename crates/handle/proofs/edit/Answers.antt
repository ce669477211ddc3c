use mathlib.Core.Path.{refl, sym, ◌∙◌}
use mathlib.Core.Bool.{false}
use native.Mathlib.Omega.{arith}
use Rattle.shape.proofs.Coded.{shape_is, shape_not}
use Rattle.state.specs.Layout.{one}
use Rattle.state.proofs.Calls.{low_a}
use Rattle.handle.proofs.Editing.{handle_edit, handle_enter, handle_update, fill_untyped}
use Rattle.handle.proofs.edit.Goals as goal

pub row_type-requires : goal.row_type-requires
row_type-requires c =
    let h = low_a c.requires.0 c.get-kind.result c.operand-a.result c.get-kind.ensures c.operand-a.ensures (let k = c.requires.1 in let g = c.get-kind.ensures in omega arith) (let k = c.requires.2 in let g = c.get-kind.ensures in omega arith) in
    let l = c.requires.0.low in
    omega arith

pub read-shape-requires-in_default : goal.read-shape-requires-in_default
read-shape-requires-in_default c =
    let h = low_a c.requires.0 c.get-kind.result c.operand-a.result c.get-kind.ensures c.operand-a.ensures (let k = c.requires.1 in let g = c.get-kind.ensures in omega arith) (let k = c.requires.2 in let g = c.get-kind.ensures in omega arith) in
    let l = c.requires.0.low in
    (omega arith, omega arith)

pub fill-requires-in_default : goal.fill-requires-in_default
fill-requires-in_default c =
    let h = low_a c.requires.0 c.get-kind.result c.operand-a.result c.get-kind.ensures c.operand-a.ensures (let k = c.requires.1 in let g = c.get-kind.ensures in omega arith) (let k = c.requires.2 in let g = c.get-kind.ensures in omega arith) in
    let l = c.requires.0.low in
    omega arith

pub returns-in-40 : goal.returns-in-40
returns-in-40 c =
    λ env d. handle_edit c.args.rows.now c.args.state.now c.fill.new.state c.args.row env d c.args.e
    c.fill.result c.read-shape.result (sym c.get-kind.ensures ∙ c.in-40.is) c.read-shape.ensures c.fill.ensures

pub returns-in-Some : goal.returns-in-Some
returns-in-Some c =
    λ env d. handle_enter c.args.rows.now c.args.state.now c.fill-in-Some.new.state c.args.row env d c.args.e
    c.fill-in-Some.result c.operand-a.result c.in-Some.shape c.new.result.shapes c.new.result.count
    (sym c.get-kind.ensures ∙ c.in-41.is) c.operand-a.ensures (shape_is c.in-Some.ensures).0 c.fill-in-Some.ensures

pub returns-in-None : goal.returns-in-None
returns-in-None c =
    λ env d. handle_enter c.args.rows.now c.args.state.now c.args.state.now c.args.row env d c.args.e
    false c.operand-a.result 0 c.new.result.shapes c.new.result.count
    (sym c.get-kind.ensures ∙ c.in-41.is) c.operand-a.ensures (sym (shape_not c.in-None.ensures)) (fill_untyped c.args.state.now c.args.row one 0 c.args.e refl)

pub returns-in_default : goal.returns-in_default
returns-in_default c =
    λ env d. handle_update c.args.rows.now c.args.state.now c.fill-in_default.new.state c.args.row env d c.args.e
    c.fill-in_default.result c.operand-a.result c.read-shape-in_default.result
    (let g = c.get-kind.ensures in let k = c.requires.1 in let l = c.requires.2 in let m = c.in_default.in_default-own.rest.0.1 in let n = c.in_default.in_default-own.rest.1 in omega arith)
    c.operand-a.ensures c.read-shape-in_default.ensures c.fill-in_default.ensures
