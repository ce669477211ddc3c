-- `entries::goes_on` meets its contract, a way by its law. Assumes nothing.
use mathlib.Core.Path.{refl}
use native.Mathlib.Omega.{arith}
use Prim.Native.Nat.{◌+◌}
use Rattle.state.proofs.Calls.{low_a, fine_at}
use Rattle.normalising.proofs.Calling.{fine_b}
use Rattle.normalising.proofs.Trying.{attempt_deep, attempt_over, asked}
use Rattle.entries.proofs.Going.{goes_none, goes_tried, goes_asked}
use Rattle.entries.proofs.goes_on.Goals as goal

pub value-requires : goal.value-requires
value-requires c =
    let l = low_a c.requires.0 _ c.operand.result refl c.operand.ensures c.requires.1 c.requires.2 in
    fine_at c.requires.0 c.operand.result 0 (omega arith) (omega arith)

pub returns-in_default : goal.returns-in_default
returns-in_default c =
    goes_none c.args.rows.now c.args.state.now c.args.row c.args.env.now c.args.depth
    c.operand.result c.operand.ensures c.value.result c.value.ensures c.in_default.is

pub returns-then-depth-ge-MAX_BINDERS : goal.returns-then-depth-ge-MAX_BINDERS
returns-then-depth-ge-MAX_BINDERS c =
    goes_tried c.args.rows.now c.args.state.now c.args.row c.args.env.now c.args.depth
    c.operand.result c.operand.ensures c.value.result c.value.ensures c.args.state.now _ c.in-Some.is
    (attempt_deep c.args.rows.now c.args.state.now c.args.row c.args.env.now c.args.depth c.args.state.now c.in-Some.v _ c.if-depth-ge-MAX_BINDERS.true)

pub evaluate-requires : goal.evaluate-requires
evaluate-requires c =
    fine_b c.args.rows.now c.args.row c.args.depth c.requires.0 _ c.operand-b.result refl
    (c.args.depth + 1) c.operand-b.ensures c.requires.1 (let l = c.if-depth-ge-MAX_BINDERS.false in omega arith)

pub returns-then-evaluate : goal.returns-then-evaluate
returns-then-evaluate c =
    goes_tried c.args.rows.now c.args.state.now c.args.row c.args.env.now c.args.depth
    c.operand.result c.operand.ensures c.value.result c.value.ensures c.args.state.now _ c.in-Some.is
    (attempt_over c.args.rows.now c.args.state.now c.args.row c.args.env.now c.args.depth c.in-Some.v
    c.pushed-inner.result c.evaluate.new.state c.operand-b.result c.evaluate.result c.pushed-inner.ensures c.operand-b.ensures c.evaluate.ensures c.if-evaluate.true)

pub failing-requires : goal.failing-requires
failing-requires c =
    fine_b c.args.rows.now c.args.row c.args.depth c.requires.0 _ c.operand-b.result refl
    (c.args.depth + 1) c.operand-b.ensures c.requires.1 (let l = c.if-depth-ge-MAX_BINDERS.false in omega arith)

pub returns : goal.returns
returns c =
    goes_asked c.args.rows.now c.args.state.now c.args.row c.args.env.now c.args.depth
    c.operand.result c.operand.ensures c.value.result c.value.ensures c.failing.result c.in-Some.is
    (λ a b t Σ Γ τ υ s ρ v. asked c.args.rows.now c.args.state.now c.args.row c.args.env.now c.args.depth c.in-Some.v
    c.pushed-inner.result c.evaluate.new.state c.operand-b.result c.evaluate.result c.pushed-inner.ensures c.operand-b.ensures c.evaluate.ensures c.if-evaluate.false
    c.failing.result c.failing.ensures)
