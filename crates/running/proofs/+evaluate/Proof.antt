-- `running::evaluate` meets its contract, an arm by the law of its kind; its measure is the row, which falls. Assumes nothing.
use Rattle.running.proofs.Evaluating.{evaluate_content, evaluate_step, evaluate_two, evaluate_true, evaluate_false, evaluate_let, evaluate_gate, evaluate_tag}
use Rattle.running.proofs.Forms.{content_kinds}
use Rattle.eval.proofs.Arms.{call_a, call_b, call_c}
use Rattle.state.proofs.Calls.{low_b, fine_at}
use borrow.Author.Rules.{rules}
use native.Mathlib.Omega.{arith}
use mathlib.Core.Path.{sym, ◌∙◌, subst}
use types.Run.{OneOf}
use mathlib.Core.Logic.{⊎_elim}
use Prim.Native.Nat.{ℕ, ◌<◌}
use borrow.Fn.Kinds.{In}
use borrow.Fn.PlainCycle.{Measures, is, falls, and}
use Rattle.running.proofs.evaluate.Reads as evaluate
use Rattle.running.proofs.evaluate.Kinds as evaluate-kinds
use Rattle.running.proofs.+evaluate.Lts-evaluate as evaluate-lts
use Rattle.eval.proofs.eval.Reads as eval-reads
use Rattle.rows.proofs.get.Reads as get-reads
use Rattle.rows.proofs.operand.Reads as operand-reads
use Rattle.state.proofs.put_tag.Reads as put-tag-reads
use Rattle.state.proofs.put_touches.Reads as put-touches-reads
use Rattle.state.proofs.put_value.Reads as put-value-reads
use Rattle.running.proofs.bind.Reads as bind-reads
use Rattle.value.proofs.is_true.Reads as is-true-reads
use Rattle.running.proofs.+evaluate.{statement}
use Rattle.running.proofs.+evaluate.Tie.{close}

abbrev μ_evaluate : Measures 3 evaluate-kinds.ps ℕ
μ_evaluate κs a = a.1.1.0

abbrev evaluate_at : ℕ → In 3 evaluate-kinds.ps
evaluate_at t = and 3 evaluate-kinds.ps (is 3 evaluate-kinds.ps μ_evaluate t) evaluate.Pre

abbrev evaluate_below : ℕ → In 3 evaluate-kinds.ps
evaluate_below t =
    and 3 evaluate-kinds.ps (falls 3 evaluate-kinds.ps ◌<◌ μ_evaluate t) evaluate.Pre

abbrev evaluate_calls : ℕ → evaluate-lts.Claims
evaluate_calls t = (get-reads.Asked, get-reads.Learnt, operand-reads.Asked, operand-reads.Learnt, eval-reads.Asked, eval-reads.Learnt, is-true-reads.Asked, is-true-reads.Learnt, evaluate_below t, evaluate.Post, put-tag-reads.Asked, put-tag-reads.Learnt, put-value-reads.Asked, put-value-reads.Learnt, bind-reads.Asked, bind-reads.Learnt, put-touches-reads.Asked, put-touches-reads.Learnt)

pub +evaluate_spec : {M : Type 1} → statement M
+evaluate_spec = close μ_evaluate λ t. evaluate-lts.spec (evaluate_calls t) (evaluate_at t)
    evaluate.Post
    (λ c κs. (c.requires.1.low, omega arith))
    (λ c κs. (c.requires.1.low, omega arith))
    (λ c κs.
    (call_a c.requires c.get-kind.result c.operand.result c.get-kind.ensures c.operand.ensures (omega (arith, c.in-25.is)) (omega (arith, c.in-25.is))).1)
    (λ c κs. search rules)
    (λ c κs.
    (c.requires.1.low, omega arith))
    (λ c κs.
    call_b c.requires c.get-kind.result c.operand-then-is_true.result c.get-kind.ensures c.operand-then-is_true.ensures (omega (arith, c.in-25.is)))
    (λ c κs.
    c.requires.1.low)
    (λ c.
    evaluate_true c.args.rows.now c.args.row c.args.env.now c.args.depth c.args.state.now
    c.eval-x.new.state c.evaluate-over.new.state c.put_tag.new.state c.eval-x.result c.evaluate-over.result c.is_true.result
    c.is_true.ensures c.operand.result c.operand-then-is_true.result (sym c.get-kind.ensures ∙ c.in-25.is)
    c.operand.ensures c.eval-x.ensures c.evaluate-over.ensures c.if-is_true.true c.operand-then-is_true.ensures
    c.put_tag.ensures)
    (λ c κs.
    (c.requires.1.low, omega arith))
    (λ c κs.
    call_c c.requires c.get-kind.result c.operand-in-25.result c.get-kind.ensures c.operand-in-25.ensures (omega (arith, c.in-25.is)) (omega (arith, c.in-25.is)))
    (λ c κs.
    c.requires.1.low)
    (λ c κs. (c.requires.1.low, omega arith))
    (λ c κs.
    (call_a c.requires c.get-kind.result c.operand-in-31.result c.get-kind.ensures c.operand-in-31.ensures (omega (arith, c.in-31.is)) (omega (arith, c.in-31.is))
    ).1)
    (λ c κs.
    c.requires.1.low)
    (λ c κs.
    (c.requires.1.low, c.requires.1.room))
    (λ c κs.
    (c.requires.1.low, omega arith))
    (λ c κs.
    let h = low_b c.requires.1 c.get-kind.result c.operand-in-31-2.result c.get-kind.ensures c.operand-in-31-2.ensures (omega (arith, c.in-31.is)) in
    (omega (arith, c.requires.0), fine_at c.requires.1 c.operand-in-31-2.result c.bind-deeper.result (omega arith) c.bind-deeper.ensures.room))
    (λ c κs. (c.requires.1.low, omega arith))
    (λ c κs.
    (call_a c.requires c.get-kind.result c.operand-in-40.result c.get-kind.ensures c.operand-in-40.ensures (⊎_elim (λ e. omega (arith, e)) (λ e. omega (arith, e)) c.in-40.is)
    (⊎_elim (λ e. omega (arith, e)) (λ e. omega (arith, e)) c.in-40.is)).1)
    (λ c κs.
    c.requires.1.low)
    (λ c κs.
    (c.requires.1.low, omega arith))
    (λ c κs.
    c.requires.1.low)
    (λ c κs.
    (c.requires.1.low, omega arith))
    (λ c κs.
    call_b c.requires c.get-kind.result c.operand-in-50.result c.get-kind.ensures c.operand-in-50.ensures (omega (arith, c.in-50.is)))
    (λ c κs.
    (c.requires.1.low, omega arith))
    (λ c κs.
    call_a c.requires c.get-kind.result c.operand-in-43-to-44.result c.get-kind.ensures c.operand-in-43-to-44.ensures (omega (arith, c.in-43-to-44.if-kind-lt43-own.false)) (omega (arith, c.in-43-to-44.if-kind-lt45-own.true)))
    (λ c κs.
    c.requires.1.low)
    (λ c κs.
    (c.requires.1.low, omega arith))
    (λ c κs.
    (c.requires.1.low, omega arith))
    (λ c κs.
    call_a c.requires c.get-kind.result c.operand-a.result c.get-kind.ensures c.operand-a.ensures
    (omega (arith, c.in-46-to-47.if-kind-lt43-own.false)) (omega (arith, c.in-46-to-47.if-kind-lt48-own.true)))
    (λ c κs.
    call_b c.requires c.get-kind.result c.operand-b.result c.get-kind.ensures c.operand-b.ensures
    (omega (arith, c.in-46-to-47.if-kind-lt43-own.false)))
    (λ c κs.
    c.requires.1.low)
    (λ c κs.
    c.requires.1.low)
    (λ c.
    evaluate_false c.args.rows.now c.args.row c.args.env.now c.args.depth c.args.state.now
    c.eval-x.new.state c.evaluate-over-in-25.new.state c.put_tag-in-25.new.state c.eval-x.result c.evaluate-over-in-25.result c.is_true.result
    c.is_true.ensures c.operand.result c.operand-in-25.result (sym c.get-kind.ensures ∙ c.in-25.is)
    c.operand.ensures c.eval-x.ensures c.evaluate-over-in-25.ensures c.if-is_true.false c.operand-in-25.ensures
    c.put_tag-in-25.ensures)
    (λ c.
    evaluate_let c.args.rows.now c.args.row c.args.env.now c.args.depth c.args.state.now
    c.eval-x-in-31.new.state c.put_value.new.state c.evaluate-over-in-31.new.state c.bind-deeper.new.env c.bind-deeper.result
    c.eval-x-in-31.result c.evaluate-over-in-31.result c.operand-in-31.result c.operand-in-31-2.result c.operand-in-31.ensures
    c.operand-in-31-2.ensures c.eval-x-in-31.ensures c.put_value.ensures c.bind-deeper.ensures c.evaluate-over-in-31.ensures
    (sym c.get-kind.ensures ∙ c.in-31.is))
    (λ c.
    evaluate_content c.args.rows.now c.args.row c.args.env.now c.args.depth c.args.state.now
    c.eval-x-in-40.new.state c.put_value-in-40.new.state c.operand-in-40.result c.eval-x-in-40.result c.operand-in-40.ensures
    c.eval-x-in-40.ensures c.put_value-in-40.ensures (subst (OneOf content_kinds) c.get-kind.ensures c.in-40.is))
    (λ c.
    evaluate_gate c.args.rows.now c.args.row c.args.env.now c.args.depth c.args.state.now
    c.put_touches.new.state c.evaluate.new.state c.operand-in-50.result c.get.result c.evaluate.result c.operand-in-50.ensures
    c.get.ensures c.put_touches.ensures c.evaluate.ensures (sym c.get-kind.ensures ∙ c.in-50.is))
    (λ c.
    evaluate_step c.args.rows.now c.args.row c.args.env.now c.args.depth c.args.state.now
    c.evaluate-over-in-43-to-44.new.state c.put_tag-in-43-to-44.new.state c.operand-in-43-to-44.result c.evaluate-over-in-43-to-44.result c.operand-in-43-to-44.ensures
    c.evaluate-over-in-43-to-44.ensures c.put_tag-in-43-to-44.ensures (omega (arith, c.get-kind.ensures, c.in-43-to-44.if-kind-lt43-own.false))
    (omega (arith, c.get-kind.ensures, c.in-43-to-44.if-kind-lt45-own.true)))
    (λ c.
    evaluate_two c.args.rows.now c.args.row c.args.env.now c.args.depth c.args.state.now
    c.evaluate-left.new.state c.evaluate-right.new.state c.put_tag-in-46-to-47.new.state c.operand-a.result
    c.operand-b.result c.evaluate-left.result c.evaluate-right.result c.operand-a.ensures c.operand-b.ensures c.evaluate-left.ensures
    c.evaluate-right.ensures c.put_tag-in-46-to-47.ensures (omega (arith, c.get-kind.ensures, c.in-46-to-47.if-kind-lt46-own.false))
    (omega (arith, c.get-kind.ensures, c.in-46-to-47.if-kind-lt48-own.true)))
    (λ c.
    let k = c.get-kind.ensures in
    evaluate_tag c.args.rows.now c.args.row c.args.env.now c.args.depth c.args.state.now
    c.put_tag-in_default.new.state c.put_tag-in_default.ensures (λ e. c.in_default-1.rest.0.0.0.1 (k ∙ e)) (λ e. c.in_default-1.rest.0.0.1 (k ∙ e))
    (λ e. c.in_default-1.rest.0.1 (subst (OneOf content_kinds) (sym k) e)) (λ e. c.in_default-1.rest.1 (k ∙ e))
    (λ p q. ⊎_elim (λ z. omega arith) (⊎_elim (λ z. omega arith) (λ z. omega arith)) c.in_default.branch-raw)
    (λ p q. ⊎_elim (λ z. omega arith) (⊎_elim (λ z. omega arith) (λ z. omega arith)) c.in_default.branch-raw))
