-- `eval::eval` meets its contract, an arm by the law of its kind; its measure is the row, which falls. Assumes nothing.
use mathlib.Core.Path.{sym, ap, subst, ◌∙◌}
use mathlib.Core.Logic.{⊎_elim}
use native.Mathlib.Omega.{arith}
use borrow.Author.Rules.{rules}
use Rattle.value.specs.Evaluations.{sure_of, after_over}
use Rattle.state.specs.Ensured.{EvalOk}
use Rattle.state.proofs.Calls.{low_a, low_b, fine_at}
use Rattle.eval.proofs.Arms.{call_a, call_b, call_c, eval_op, eval_if_true, eval_if_false, eval_pair, eval_part, eval_content, eval_assign, eval_let, eval_deep, eval_none}
use Prim.Native.Nat.{ℕ, ◌<◌}
use borrow.Fn.Kinds.{In}
use borrow.Fn.PlainCycle.{Measures, is, falls, and}
use Rattle.eval.proofs.eval.Reads as eval
use Rattle.eval.proofs.eval.Kinds as eval-kinds
use Rattle.eval.proofs.+eval.Lts-eval as eval-lts
use Rattle.eval.proofs.constant.Reads as constant-reads
use Rattle.eval.proofs.part.Reads as part-reads
use Rattle.state.proofs.pushed.Reads as pushed-reads
use Rattle.rows.proofs.get.Reads as get-reads
use Rattle.rows.proofs.operand.Reads as operand-reads
use Rattle.state.proofs.put_value.Reads as put-value-reads
use Rattle.state.proofs.read_value.Reads as read-value-reads
use Rattle.value.proofs.after.Reads as after-reads
use Rattle.value.proofs.apply.Reads as apply-reads
use Rattle.value.proofs.is_true.Reads as is-true-reads
use Rattle.value.proofs.pair.Reads as Pair-reads
use Rattle.value.proofs.sure.Reads as sure-reads
use Rattle.value.proofs.unit.Reads as unit-reads
use Rattle.eval.proofs.+eval.{statement}
use Rattle.eval.proofs.+eval.Tie.{close}

abbrev μ_eval : Measures 3 eval-kinds.ps ℕ
μ_eval κs a = a.1.1.0

abbrev eval_at : ℕ → In 3 eval-kinds.ps
eval_at t = and 3 eval-kinds.ps (is 3 eval-kinds.ps μ_eval t) eval.Pre

abbrev eval_below : ℕ → In 3 eval-kinds.ps
eval_below t = and 3 eval-kinds.ps (falls 3 eval-kinds.ps ◌<◌ μ_eval t) eval.Pre

pub +eval_spec : {M : Type 1} → statement M
+eval_spec = close μ_eval λ t. eval-lts.spec (
  get-reads.Asked,
  get-reads.Learnt,
  operand-reads.Asked,
  operand-reads.Learnt,
  eval_below t,
  eval.Post,
  apply-reads.Asked,
  apply-reads.Learnt,
  after-reads.Asked,
  after-reads.Learnt,
  is-true-reads.Asked,
  is-true-reads.Learnt,
  Pair-reads.Asked,
  Pair-reads.Learnt,
  sure-reads.Asked,
  sure-reads.Learnt,
  read-value-reads.Asked,
  read-value-reads.Learnt,
  put-value-reads.Asked,
  put-value-reads.Learnt,
  unit-reads.Asked,
  unit-reads.Learnt,
  pushed-reads.Asked,
  pushed-reads.Learnt,
  constant-reads.Asked,
  constant-reads.Learnt,
  part-reads.Asked,
  part-reads.Learnt,
)
    (eval_at t)
    eval.Post
    (λ c κs. (c.requires.1.low, omega arith)) (λ c κs. (c.requires.1.low, omega arith))
    (λ c κs.
    call_b c.requires c.get-kind.result c.operand.result c.get-kind.ensures c.operand.ensures (omega (arith, c.in-24.is)))
    (λ c κs.
    (c.requires.1.low, omega arith))
    (λ c κs.
    call_c c.requires c.get-kind.result c.operand-in-24.result c.get-kind.ensures c.operand-in-24.ensures (omega (arith, c.in-24.is)) (omega (arith, c.in-24.is)))
    (λ c κs.
    (c.requires.1.low, omega arith)) (λ c κs. search rules) (λ c κs. search rules) (λ c κs. search rules)
    (λ c κs. (c.requires.1.low, omega arith))
    (λ c κs.
    call_a c.requires c.get-kind.result c.operand-in-25.result c.get-kind.ensures c.operand-in-25.ensures (omega (arith, c.in-25.is)) (omega (arith, c.in-25.is)))
    (λ c κs. search rules)
    (λ c κs.
    (c.requires.1.low, omega arith))
    (λ c κs.
    call_b c.requires c.get-kind.result c.operand-then-is_true.result c.get-kind.ensures c.operand-then-is_true.ensures (omega (arith, c.in-25.is)))
    (λ c κs. search rules)
    (λ c.
    eval_if_true c.args.rows.now c.args.row c.args.env.now c.args.depth c.args.state.now
    c.eval-test.new.state c.eval-taken.new.state c.eval-test.result c.eval-taken.result c.after-then-is_true.result c.after-then-is_true.ensures
    c.is_true.result c.is_true.ensures c.operand-in-25.result c.operand-then-is_true.result
    (sym c.get-kind.ensures ∙ c.in-25.is) c.operand-in-25.ensures c.eval-test.ensures c.eval-taken.ensures
    c.if-is_true.true c.operand-then-is_true.ensures)
    (λ c κs.
    (c.requires.1.low, omega arith))
    (λ c κs.
    call_c c.requires c.get-kind.result c.operand-in-25-2.result c.get-kind.ensures c.operand-in-25-2.ensures (omega (arith, c.in-25.is)) (omega (arith, c.in-25.is)))
    (λ c κs. search rules)
    (λ c κs. (c.requires.1.low, omega arith))
    (λ c κs.
    call_a c.requires c.get-kind.result c.operand-in-26.result c.get-kind.ensures c.operand-in-26.ensures (omega (arith, c.in-26.is)) (omega (arith, c.in-26.is)))
    (λ c κs.
    (c.requires.1.low, omega arith))
    (λ c κs.
    call_b c.requires c.get-kind.result c.operand-in-26-2.result c.get-kind.ensures c.operand-in-26-2.ensures (omega (arith, c.in-26.is)))
    (λ c κs. search rules) (λ c κs. search rules) (λ c κs. search rules) (λ c κs. search rules) (λ c κs. (c.requires.1.low, omega arith))
    (λ c κs.
    let h = low_a c.requires.1 c.get-kind.result c.operand-in-29.result c.get-kind.ensures c.operand-in-29.ensures (omega (arith, c.in-29.is)) (omega (arith, c.in-29.is)) in
    omega (arith, c.requires.1.low))
    (λ c κs. search rules)
    (λ c κs. (c.requires.1.low, omega arith))
    (λ c κs.
    call_b c.requires c.get-kind.result c.operand-in-30.result c.get-kind.ensures c.operand-in-30.ensures (omega (arith, c.in-30.is)))
    (λ c κs.
    (c.requires.1.low, omega arith))
    (λ c κs.
    let h = low_a c.requires.1 c.get-kind.result c.operand-in-30-2.result c.get-kind.ensures c.operand-in-30-2.ensures (omega (arith, c.in-30.is)) (omega (arith, c.in-30.is)) in
    omega (arith, c.requires.1.low))
    (λ c κs. search rules) (λ c κs. search rules)
    (λ c κs. search rules) (λ c κs. (c.requires.1.low, omega arith))
    (λ c κs.
    call_a c.requires c.get-kind.result c.operand-in-31.result c.get-kind.ensures c.operand-in-31.ensures (omega (arith, c.in-31.is)) (omega (arith, c.in-31.is)))
    (λ c κs. search rules) (λ c κs. search rules)
    (λ c.
    eval_deep c.args.rows.now c.args.row c.args.env.now c.args.depth c.args.state.now
    c.eval-bound.new.state c.sure-then-depth-ge-MAX_BINDERS.result (sym c.get-kind.ensures ∙ c.in-31.is) c.if-depth-ge-MAX_BINDERS.true)
    (λ c κs. c.if-depth-ge-MAX_BINDERS.false)
    (λ c κs.
    (c.requires.1.low, omega arith)) (λ c. search rules)
    (λ c κs.
    let h = low_b c.requires.1 c.get-kind.result c.operand-in-31-2.result c.get-kind.ensures c.operand-in-31-2.ensures (omega (arith, c.in-31.is)) in
    (omega (arith, c.requires.0), fine_at c.requires.1 _ _ (omega arith) (omega (arith, c.if-depth-ge-MAX_BINDERS.false))))
    (λ c κs. search rules)
    (λ c κs.
    (c.requires.1.low, c.requires.1.room, c.get-kind.ensures, c.in-20-to-23.if-kind-lt20-own.false, omega (arith, c.in-20-to-23.if-kind-lt24-own.true)))
    (λ c κs. search rules)
    (λ c κs.
    (c.requires.1.low, omega arith))
    (λ c κs.
    call_a c.requires c.get-kind.result c.operand-in-27-to-28.result c.get-kind.ensures c.operand-in-27-to-28.ensures
    (omega (arith, c.in-27-to-28.if-kind-lt24-own.false, c.in-27-to-28.in_default-own.rest.0.0.0.0.0.1)) (omega (arith, c.in-27-to-28.if-kind-lt29-own.true)))
    (λ c κs. search rules) (λ c κs. search rules) (λ c κs. search rules) (λ c κs. search rules) (λ c κs. search rules)
    (λ c.
    let x = c.eval-x.result in
    let y = c.eval-y.result in
    eval_op c.args.rows.now c.args.row c.args.env.now c.args.depth c.args.state.now
    c.eval-x.new.state c.eval-y.new.state x y c.after-in-24.result c.operand.result
    c.operand-in-24.result c.get.result (sym c.get-kind.ensures ∙ c.in-24.is) c.operand.ensures
    c.operand-in-24.ensures c.get.ensures c.eval-x.ensures c.eval-y.ensures
    (c.after-in-24.ensures ∙ ap (after_over x.over) (c.after.ensures ∙ ap (after_over y.over) c.apply-z.ensures)))
    (λ c.
    eval_if_false c.args.rows.now c.args.row c.args.env.now c.args.depth c.args.state.now
    c.eval-test.new.state c.eval-other.new.state c.eval-test.result c.eval-other.result c.after-in-25.result c.after-in-25.ensures
    c.is_true.result c.is_true.ensures c.operand-in-25.result c.operand-in-25-2.result
    (sym c.get-kind.ensures ∙ c.in-25.is) c.operand-in-25.ensures c.eval-test.ensures c.eval-other.ensures
    c.if-is_true.false c.operand-in-25-2.ensures)
    (λ c.
    let x = c.eval-a.result in
    let y = c.eval-b.result in
    eval_pair c.args.rows.now c.args.row c.args.env.now c.args.depth c.args.state.now
    c.eval-a.new.state c.eval-b.new.state x y c.after-in-26-2.result
    c.operand-in-26.result c.operand-in-26-2.result (sym c.get-kind.ensures ∙ c.in-26.is) c.operand-in-26.ensures
    c.operand-in-26-2.ensures c.eval-a.ensures c.eval-b.ensures
    (c.after-in-26-2.ensures ∙ ap (after_over x.over) (c.after-in-26.ensures ∙ ap (after_over y.over) (c.sure.ensures ∙ ap sure_of c.pair-both.ensures))))
    (λ c.
    subst (EvalOk c.args.rows.now c.args.state.now c.args.state.now c.args.row c.args.env.now c.args.depth) (sym c.sure-in-29.ensures)
    (eval_content c.args.rows.now c.args.row c.args.env.now c.args.depth c.args.state.now
    c.read_value.result c.operand-in-29.result (sym c.get-kind.ensures ∙ c.in-29.is) c.operand-in-29.ensures
    c.read_value.ensures))
    (λ c.
    let x = c.eval-content.result in
    eval_assign c.args.rows.now c.args.row c.args.env.now c.args.depth c.args.state.now
    c.eval-content.new.state c.put_value.new.state x c.after-in-30.result c.operand-in-30-2.result
    c.operand-in-30.result (sym c.get-kind.ensures ∙ c.in-30.is) c.operand-in-30-2.ensures c.operand-in-30.ensures
    c.eval-content.ensures c.put_value.ensures
    (c.after-in-30.ensures ∙ ap (after_over x.over) (c.sure-in-30.ensures ∙ ap sure_of c.unit.ensures)))
    (λ c.
    eval_let c.args.rows.now c.args.row c.args.env.now c.args.depth c.args.state.now
    c.eval-bound.new.state c.eval-body.new.state c.pushed-inner.result c.eval-bound.result c.eval-body.result
    c.after-in-31.result c.after-in-31.ensures c.operand-in-31.result c.operand-in-31-2.result
    (sym c.get-kind.ensures ∙ c.in-31.is) c.operand-in-31.ensures c.operand-in-31-2.ensures
    c.eval-bound.ensures c.pushed-inner.ensures c.eval-body.ensures)
    (λ c.
    subst (EvalOk c.args.rows.now c.args.state.now c.args.state.now c.args.row c.args.env.now c.args.depth) (sym c.sure-in-20-to-23.ensures)
    (c.constant.ensures c.args.state.now))
    (λ c.
    let x = c.eval-whole.result in
    eval_part c.args.rows.now c.args.row c.args.env.now c.args.depth c.args.state.now
    c.eval-whole.new.state x c.part.result c.after-in-27-to-28.result (c.after-in-27-to-28.ensures ∙ ap (after_over x.over) c.sure-in-27-to-28.ensures)
    c.operand-in-27-to-28.result c.get-kind.result c.get-kind.ensures
    (omega (arith, c.in-27-to-28.if-kind-lt24-own.false, c.in-27-to-28.in_default-own.rest.0.0.0.0.0.1, c.in-27-to-28.in_default-own.rest.0.0.0.0.1, c.in-27-to-28.in_default-own.rest.0.0.0.1))
    c.in-27-to-28.if-kind-lt29-own.true c.operand-in-27-to-28.ensures c.eval-whole.ensures c.part.ensures)
    (λ c.
    let g = c.get-kind.ensures in
    eval_none c.args.rows.now c.args.row c.args.env.now c.args.depth c.args.state.now c.sure-in_default.result
    (λ p q. ⊎_elim (λ z. omega arith) (λ z. omega (arith, c.in_default-1.rest.1, c.in_default-1.rest.0.1, c.in_default-1.rest.0.0.1)) c.in_default.branch-raw))
