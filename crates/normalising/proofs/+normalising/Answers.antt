-- The cycle of failing, tried, settle, normalise, stride, choose and attempt meets its contracts: an arm by the law of its form. Assumes
-- nothing.
use mathlib.Core.Path.{refl, sym, ◌∙◌}
use mathlib.Core.Logic.{inl, inr}
use Prim.Native.Nat.{◌+◌}
use native.Mathlib.Omega.{arith}
use Rattle.std.proofs.lemmas.Bool.{not_from_false, not_from_true}
use Rattle.running.proofs.Handing.{failing_hands, stride_hands}
use Rattle.normalising.proofs.Calling.{call_same, call_a, call_b, call_part, fine_a, fine_b, past, not_t, not_f, hands_or_left, hands_or_right}
use Rattle.normalising.proofs.Asking.{failing_fail, failing_step, failing_both, failing_branches, failing_editor}
use Rattle.normalising.proofs.Striding.{stride_next, step_waits, step_tries, stride_both, stride_none, choose_left_lem, choose_none, choose_right_lem}
use Rattle.normalising.proofs.Trying.{settle_over, settle_moved, settle_asked, attempt_over, attempt_fails, attempt_goes}
use Rattle.normalising.proofs.Resting.{mid_0, mid_more, mid_stop, mid_end}
use Rattle.normalising.proofs.+normalising.Goals as goal

pub attempt-evaluate-requires : goal.attempt-evaluate-requires
attempt-evaluate-requires t c =
    fine_b c.args.rows.now c.args.row c.args.depth c.requires.0 _ c.operand-b.result refl
    (c.args.depth + 1) c.operand-b.ensures c.requires.1 (let l = c.if-depth-ge-MAX_BINDERS.false in omega arith)

pub attempt-returns-then-evaluate : goal.attempt-returns-then-evaluate
attempt-returns-then-evaluate t c =
    attempt_over c.args.rows.now c.args.state.now c.args.row c.args.env.now c.args.depth c.args.v
    c.pushed-inner.result c.evaluate.new.state c.operand-b.result c.evaluate.result c.pushed-inner.ensures
    c.operand-b.ensures c.evaluate.ensures c.if-evaluate.true

pub attempt-failing-requires : goal.attempt-failing-requires
attempt-failing-requires t c =
    call_b c.args.rows.now c.args.row c.args.depth t 1 (c.decreases, c.requires.0) 0 (omega arith) _
    c.operand-b.result (c.args.depth + 1) refl c.operand-b.ensures c.requires.1 (let l = c.if-depth-ge-MAX_BINDERS.false in omega arith)

pub attempt-returns-then-failing : goal.attempt-returns-then-failing
attempt-returns-then-failing t c =
    attempt_fails c.args.rows.now c.args.state.now c.args.row c.args.env.now c.args.depth c.args.v
    c.pushed-inner.result c.evaluate.new.state c.operand-b.result c.evaluate.result c.pushed-inner.ensures
    c.operand-b.ensures c.evaluate.ensures c.if-evaluate.false c.failing.result c.failing.ensures c.if-failing.true

pub attempt-clear-requires : goal.attempt-clear-requires
attempt-clear-requires t c =
    fine_a c.args.rows.now c.args.row c.args.depth c.requires.0 _ c.operand.result refl c.operand.ensures
    c.requires.1 c.requires.2

pub attempt-returns : goal.attempt-returns
attempt-returns t c =
    attempt_goes c.args.rows.now c.args.state.now c.args.row c.args.env.now c.args.depth c.args.v
    c.pushed-inner.result c.evaluate.new.state c.operand-b.result c.evaluate.result c.pushed-inner.ensures
    c.operand-b.ensures c.evaluate.ensures c.if-evaluate.false c.failing.result c.failing.ensures
    c.clear.new.state c.put_value.new.state c.operand.result c.if-failing.false c.operand.ensures c.clear.ensures c.put_value.ensures

pub choose-stride-left-requires : goal.choose-stride-left-requires
choose-stride-left-requires t c =
    call_a c.args.rows.now c.args.row c.args.depth t 1 (c.decreases, c.requires.0) 2 (omega arith) 47
    c.operand-a.result (sym c.requires.1) c.operand-a.ensures (omega arith) (omega arith)

pub choose-value-requires : goal.choose-value-requires
choose-value-requires t c =
    fine_a c.args.rows.now c.args.row c.args.depth c.requires.0 47 c.operand-a.result (sym c.requires.1)
    c.operand-a.ensures (omega arith) (omega arith)

pub choose-clear-requires : goal.choose-clear-requires
choose-clear-requires t c =
    fine_b c.args.rows.now c.args.row c.args.depth c.requires.0 47 c.operand-b.result
    (sym c.requires.1) 0 c.operand-b.ensures (omega arith) (omega arith)

pub choose-returns-then-is_some : goal.choose-returns-then-is_some
choose-returns-then-is_some t c =
    choose_left_lem c.args.rows.now c.args.state.now c.stride-left.new.state c.args.row c.args.env.now
    c.args.depth c.requires.2 c.operand-a.result c.stride-left.result c.operand-a.ensures c.stride-left.ensures
    c.value.result c.value.ensures c.clear.new.state c.put_tag.new.state c.operand-b.result c.requires.1
    (sym c.is_some.ensures ∙ c.if-is_some.true) c.operand-b.ensures c.clear.ensures c.put_tag.ensures

pub choose-stride-right-requires : goal.choose-stride-right-requires
choose-stride-right-requires t c =
    call_b c.args.rows.now c.args.row c.args.depth t 1 (c.decreases, c.requires.0) 2 (omega arith) 47
    c.operand-b.result c.args.depth (sym c.requires.1) c.operand-b.ensures (omega arith) c.requires.0.room

pub choose-value-requires-2 : goal.choose-value-requires-2
choose-value-requires-2 t c =
    fine_b c.args.rows.now c.args.row c.args.depth c.requires.0 47 c.operand-b.result
    (sym c.requires.1) 0 c.operand-b.ensures (omega arith) (omega arith)

pub choose-clear-requires-then-is_some-2 : goal.choose-clear-requires-then-is_some-2
choose-clear-requires-then-is_some-2 t c =
    fine_a c.args.rows.now c.args.row c.args.depth c.requires.0 47 c.operand-a.result (sym c.requires.1)
    c.operand-a.ensures (omega arith) (omega arith)

pub choose-returns-then-is_some-2 : goal.choose-returns-then-is_some-2
choose-returns-then-is_some-2 t c =
    choose_right_lem c.args.rows.now c.args.state.now c.stride-left.new.state c.stride-right.new.state c.args.row
    c.args.env.now c.args.depth c.operand-a.result c.operand-b.result c.stride-left.result
    c.stride-right.result c.operand-a.ensures c.operand-b.ensures c.stride-left.ensures c.stride-right.ensures
    c.requires.2 c.value.result c.value-2.result c.value.ensures c.value-2.ensures c.requires.1
    (sym c.is_some.ensures ∙ c.if-is_some.false) c.clear-then-is_some-2.new.state c.put_tag-then-is_some-2.new.state (sym c.is_some-2.ensures ∙ c.if-is_some-2.true) c.clear-then-is_some-2.ensures c.put_tag-then-is_some-2.ensures

pub choose-returns-then-left : goal.choose-returns-then-left
choose-returns-then-left t c =
    choose_none c.args.rows.now c.args.state.now c.stride-left.new.state c.stride-right.new.state c.args.row
    c.args.env.now c.args.depth c.operand-a.result c.operand-b.result c.stride-left.result
    c.stride-right.result c.operand-a.ensures c.operand-b.ensures c.stride-left.ensures c.stride-right.ensures
    c.requires.2 c.value.result c.value-2.result c.value.ensures c.value-2.ensures c.requires.1
    (sym c.is_some.ensures ∙ c.if-is_some.false) c.stride-left.result (sym c.is_some-2.ensures ∙ c.if-is_some-2.false) (hands_or_left _ c.if-left.true)

pub choose-returns-else-left : goal.choose-returns-else-left
choose-returns-else-left t c =
    choose_none c.args.rows.now c.args.state.now c.stride-left.new.state c.stride-right.new.state c.args.row
    c.args.env.now c.args.depth c.operand-a.result c.operand-b.result c.stride-left.result
    c.stride-right.result c.operand-a.ensures c.operand-b.ensures c.stride-left.ensures c.stride-right.ensures
    c.requires.2 c.value.result c.value-2.result c.value.ensures c.value-2.ensures c.requires.1
    (sym c.is_some.ensures ∙ c.if-is_some.false) c.stride-right.result (sym c.is_some-2.ensures ∙ c.if-is_some-2.false) (hands_or_right c.if-left.false)

pub failing-failing-requires : goal.failing-failing-requires
failing-failing-requires t c =
    call_part c.args.rows.now c.args.row c.args.depth t 0 (c.decreases, c.requires) 0 (omega arith) c.operand.result
    c.enclose-under.result (c.handed_on-part.ensures.on c.if-part-ne0.true) c.operand.ensures c.enclose-under.ensures.room

pub failing-returns-then-part-ne0 : goal.failing-returns-then-part-ne0
failing-returns-then-part-ne0 t c =
    failing_hands c.args.rows.now c.args.state.now c.args.row (c.handed_on-part.ensures.on c.if-part-ne0.true)
    c.operand.ensures c.args.env.now c.enclose-under.new.env c.args.depth c.enclose-under.result
    c.enclose-under.ensures c.failing.result c.failing.ensures

pub failing-tried-requires : goal.failing-tried-requires
failing-tried-requires t c =
    call_a c.args.rows.now c.args.row c.args.depth t 0 (c.decreases, c.requires) 5 (omega arith) c.get-kind.result c.operand-in-48.result
    c.get-kind.ensures c.operand-in-48.ensures (omega (arith, c.in-48.is)) (omega (arith, c.in-48.is))

pub failing-tried-requires-then-tried : goal.failing-tried-requires-then-tried
failing-tried-requires-then-tried t c =
    call_b c.args.rows.now c.args.row c.args.depth t 0 (c.decreases, c.requires) 5 (omega arith) c.get-kind.result c.operand-then-tried.result
    c.args.depth c.get-kind.ensures c.operand-then-tried.ensures (omega (arith, c.in-48.is)) c.requires.room

pub failing-failing-requires-in-43-to-44 : goal.failing-failing-requires-in-43-to-44
failing-failing-requires-in-43-to-44 t c =
    call_a c.args.rows.now c.args.row c.args.depth t 0 (c.decreases, c.requires) 0 (omega arith) c.get-kind.result c.operand-in-43-to-44.result
    c.get-kind.ensures c.operand-in-43-to-44.ensures (omega (arith, c.in-43-to-44.if-kind-lt43-own.false)) (omega (arith, c.in-43-to-44.if-kind-lt45-own.true))

pub failing-failing-requires-in-46-to-47 : goal.failing-failing-requires-in-46-to-47
failing-failing-requires-in-46-to-47 t c =
    call_a c.args.rows.now c.args.row c.args.depth t 0 (c.decreases, c.requires) 0 (omega arith) c.get-kind.result c.operand-in-46-to-47.result
    c.get-kind.ensures c.operand-in-46-to-47.ensures (omega (arith, c.in-46-to-47.if-kind-lt43-own.false)) (omega (arith, c.in-46-to-47.if-kind-lt48-own.true))

pub failing-failing-requires-then-failing : goal.failing-failing-requires-then-failing
failing-failing-requires-then-failing t c =
    call_b c.args.rows.now c.args.row c.args.depth t 0 (c.decreases, c.requires) 0 (omega arith) c.get-kind.result c.operand-then-failing.result
    c.args.depth c.get-kind.ensures c.operand-then-failing.ensures (omega (arith, c.in-46-to-47.if-kind-lt43-own.false)) c.requires.room

pub failing-returns-in-45 : goal.failing-returns-in-45
failing-returns-in-45 t c =
    failing_fail c.args.rows.now c.args.state.now c.args.row c.args.env.now c.args.depth
    (sym c.get-kind.ensures ∙ c.in-45.is)

pub failing-returns-then-tried : goal.failing-returns-then-tried
failing-returns-then-tried t c =
    failing_branches c.args.rows.now c.args.state.now c.args.row c.args.env.now c.args.depth
    (c.handed_on-part.ensures.none c.if-part-ne0.false) c.operand-in-48.result c.operand-then-tried.result c.tried.result
    c.tried-then-tried.result (sym c.get-kind.ensures ∙ c.in-48.is) c.operand-in-48.ensures c.tried.ensures
    (inl (c.if-tried.true, (c.operand-then-tried.ensures, c.tried-then-tried.ensures)))

pub failing-returns-else-tried : goal.failing-returns-else-tried
failing-returns-else-tried t c =
    failing_branches c.args.rows.now c.args.state.now c.args.row c.args.env.now c.args.depth
    (c.handed_on-part.ensures.none c.if-part-ne0.false) c.operand-in-48.result 0 c.tried.result c.tried.result
    (sym c.get-kind.ensures ∙ c.in-48.is) c.operand-in-48.ensures c.tried.ensures (inr (c.if-tried.false, c.if-tried.false))

pub failing-returns-in-43-to-44 : goal.failing-returns-in-43-to-44
failing-returns-in-43-to-44 t c =
    failing_step c.args.rows.now c.args.state.now c.args.row c.args.env.now c.args.depth
    (c.handed_on-part.ensures.none c.if-part-ne0.false) c.operand-in-43-to-44.result c.failing-in-43-to-44.result
    (omega (arith, c.get-kind.ensures, c.in-43-to-44.if-kind-lt43-own.false)) (omega (arith, c.get-kind.ensures, c.in-43-to-44.if-kind-lt45-own.true)) c.operand-in-43-to-44.ensures
    c.failing-in-43-to-44.ensures

pub failing-returns-then-failing : goal.failing-returns-then-failing
failing-returns-then-failing t c =
    failing_both c.args.rows.now c.args.state.now c.args.row c.args.env.now c.args.depth
    (c.handed_on-part.ensures.none c.if-part-ne0.false) c.operand-in-46-to-47.result c.operand-then-failing.result c.failing-in-46-to-47.result
    c.failing-then-failing.result (let p = past c.in-46-to-47.if-kind-lt45-own.false c.in-46-to-47.in_default-own.rest.0.1 in omega (arith, c.get-kind.ensures))
    (omega (arith, c.get-kind.ensures, c.in-46-to-47.if-kind-lt48-own.true)) c.operand-in-46-to-47.ensures c.failing-in-46-to-47.ensures
    (inl (c.if-failing.true, (c.operand-then-failing.ensures, c.failing-then-failing.ensures)))

pub failing-returns-else-failing : goal.failing-returns-else-failing
failing-returns-else-failing t c =
    failing_both c.args.rows.now c.args.state.now c.args.row c.args.env.now c.args.depth
    (c.handed_on-part.ensures.none c.if-part-ne0.false) c.operand-in-46-to-47.result 0 c.failing-in-46-to-47.result c.failing-in-46-to-47.result
    (let p = past c.in-46-to-47.if-kind-lt45-own.false c.in-46-to-47.in_default-own.rest.0.1 in omega (arith, c.get-kind.ensures))
    (omega (arith, c.get-kind.ensures, c.in-46-to-47.if-kind-lt48-own.true)) c.operand-in-46-to-47.ensures c.failing-in-46-to-47.ensures
    (inr (c.if-failing.false, c.if-failing.false))

pub failing-returns-in_default : goal.failing-returns-in_default
failing-returns-in_default t c =
    failing_editor c.args.rows.now c.args.state.now c.args.row c.args.env.now c.args.depth
    (c.handed_on-part.ensures.none c.if-part-ne0.false) (λ p q. omega (arith, c.get-kind.ensures, c.in_default.if-kind-lt43-own.true))

pub failing-returns-in_default-2 : goal.failing-returns-in_default-2
failing-returns-in_default-2 t c =
    failing_editor c.args.rows.now c.args.state.now c.args.row c.args.env.now c.args.depth
    (c.handed_on-part.ensures.none c.if-part-ne0.false)
    (λ p q. let h = past c.in_default.if-kind-lt48-own.false c.in_default.in_default-own.rest.1 in omega (arith, c.get-kind.ensures))

pub normalise-loop-strides-init : goal.normalise-loop-strides-init
normalise-loop-strides-init t c = (omega arith, mid_0 c.args.rows.now c.args.state.now c.args.row c.args.env.now c.args.depth)

pub normalise-stride-moved-requires : goal.normalise-stride-moved-requires
normalise-stride-moved-requires t c = call_same c.args.rows.now c.args.row c.args.depth t 3 (c.decreases, c.requires) 2 (omega arith)

pub normalise-returns-then-not-moved : goal.normalise-returns-then-not-moved
normalise-returns-then-not-moved t c =
    mid_stop c.args.rows.now c.args.state.now c.loop-strides.state c.stride-moved.new.state c.args.row
    c.args.env.now c.args.depth c.loop-strides.strides c.stride-moved.result c.loop-strides.invariant.1 c.stride-moved.ensures
    c.loop-strides-test.true c.requires (not_t _ (not_from_false _ c.if-not-moved.true))

pub normalise-loop-strides-preserved : goal.normalise-loop-strides-preserved
normalise-loop-strides-preserved t c =
    (let l = c.loop-strides-test.true in omega arith, mid_more c.args.rows.now c.args.state.now c.loop-strides.state c.stride-moved.new.state c.args.row c.args.env.now c.args.depth c.loop-strides.strides c.stride-moved.result c.loop-strides.invariant.1 c.stride-moved.ensures c.loop-strides-test.true (not_f _ (not_from_true _ c.if-not-moved.false)))

pub normalise-returns : goal.normalise-returns
normalise-returns t c =
    mid_end c.args.rows.now c.args.state.now c.loop-strides.state c.args.row c.args.env.now c.args.depth
    c.loop-strides.strides c.requires c.loop-strides.invariant.1 (omega (arith, c.loop-strides.invariant.0, c.loop-strides-test.false))

pub settle-returns-then-evaluate : goal.settle-returns-then-evaluate
settle-returns-then-evaluate t c =
    settle_over c.args.rows.now c.args.state.now c.evaluate.new.state c.args.row c.args.env.now
    c.args.depth c.evaluate.result c.evaluate.ensures c.if-evaluate.true

pub settle-normalise-strides-requires : goal.settle-normalise-strides-requires
settle-normalise-strides-requires t c = call_same c.args.rows.now c.args.row c.args.depth t 4 (c.decreases, c.requires) 3 (omega arith)

pub settle-returns-then-strides-gt1 : goal.settle-returns-then-strides-gt1
settle-returns-then-strides-gt1 t c =
    settle_moved c.args.rows.now c.args.state.now c.evaluate.new.state c.normalise-strides.new.state
    c.args.row c.args.env.now c.args.depth c.normalise-strides.result c.evaluate.result
    c.evaluate.ensures c.normalise-strides.ensures c.if-evaluate.false c.if-strides-gt1.true

pub settle-failing-requires : goal.settle-failing-requires
settle-failing-requires t c =
    call_same c.args.rows.now c.args.row c.args.depth t 4 (c.decreases, c.requires) 0 (omega arith)

pub settle-returns : goal.settle-returns
settle-returns t c =
    settle_asked c.args.rows.now c.args.state.now c.evaluate.new.state c.normalise-strides.new.state
    c.args.row c.args.env.now c.args.depth c.normalise-strides.result c.evaluate.result
    c.evaluate.ensures c.normalise-strides.ensures c.if-evaluate.false c.failing.result c.failing.ensures

pub stride-stride-requires : goal.stride-stride-requires
stride-stride-requires t c =
    call_part c.args.rows.now c.args.row c.args.depth t 2 (c.decreases, c.requires) 2 (omega arith) c.operand.result
    c.enclose-under.result (c.handed_on-part.ensures.on c.if-part-ne0.true) c.operand.ensures c.enclose-under.ensures.room

pub stride-returns-then-part-ne0 : goal.stride-returns-then-part-ne0
stride-returns-then-part-ne0 t c =
    stride_hands c.args.rows.now c.args.state.now c.args.row (c.handed_on-part.ensures.on c.if-part-ne0.true)
    c.operand.ensures c.args.env.now c.enclose-under.new.env c.args.depth c.enclose-under.result
    c.enclose-under.ensures c.stride.new.state c.stride.result c.stride.ensures

pub stride-stride-moved-requires : goal.stride-stride-moved-requires
stride-stride-moved-requires t c =
    call_a c.args.rows.now c.args.row c.args.depth t 2 (c.decreases, c.requires) 2 (omega arith) c.get-kind.result
    c.operand-a.result c.get-kind.ensures c.operand-a.ensures (omega (arith, c.in-43.is)) (omega (arith, c.in-43.is))

pub stride-value-requires : goal.stride-value-requires
stride-value-requires t c =
    fine_a c.args.rows.now c.args.row c.args.depth c.requires c.get-kind.result c.operand-a.result
    c.get-kind.ensures c.operand-a.ensures (omega (arith, c.in-43.is)) (omega (arith, c.in-43.is))

pub stride-returns-in_default-value : goal.stride-returns-in_default-value
stride-returns-in_default-value t c =
    step_waits c.args.rows.now c.args.state.now c.stride-moved.new.state c.args.row c.args.env.now
    c.args.depth (c.handed_on-part.ensures.none c.if-part-ne0.false) c.operand-a.result c.stride-moved.result
    c.operand-a.ensures c.stride-moved.ensures c.value.result c.value.ensures
    (sym c.get-kind.ensures ∙ c.in-43.is) c.in_default-value.is

pub stride-attempt-requires : goal.stride-attempt-requires
stride-attempt-requires t c =
    let p = call_same c.args.rows.now c.args.row c.args.depth t 2 (c.decreases, c.requires) 1 (omega arith) in
    (p.0, (p.1, omega (arith, c.get-kind.ensures, c.in-43.is), omega (arith, c.get-kind.ensures, c.in-43.is)))

pub stride-stride-requires-in-44 : goal.stride-stride-requires-in-44
stride-stride-requires-in-44 t c =
    call_a c.args.rows.now c.args.row c.args.depth t 2 (c.decreases, c.requires) 2 (omega arith) c.get-kind.result c.operand-in-44.result
    c.get-kind.ensures c.operand-in-44.ensures (omega (arith, c.in-44.is)) (omega (arith, c.in-44.is))

pub stride-stride-left-requires : goal.stride-stride-left-requires
stride-stride-left-requires t c =
    call_a c.args.rows.now c.args.row c.args.depth t 2 (c.decreases, c.requires) 2 (omega arith) c.get-kind.result c.operand-in-46.result
    c.get-kind.ensures c.operand-in-46.ensures (omega (arith, c.in-46.is)) (omega (arith, c.in-46.is))

pub stride-stride-right-requires : goal.stride-stride-right-requires
stride-stride-right-requires t c =
    call_b c.args.rows.now c.args.row c.args.depth t 2 (c.decreases, c.requires) 2 (omega arith) c.get-kind.result c.operand-in-46-2.result
    c.args.depth c.get-kind.ensures c.operand-in-46-2.ensures (omega (arith, c.in-46.is)) c.requires.room

pub stride-choose-requires : goal.stride-choose-requires
stride-choose-requires t c =
    let p = call_same c.args.rows.now c.args.row c.args.depth t 2 (c.decreases, c.requires) 1 (omega arith) in
    (p.0, (p.1, sym c.get-kind.ensures ∙ c.in-47.is, (c.handed_on-part.ensures.none c.if-part-ne0.false)))

pub stride-returns-then-attempt : goal.stride-returns-then-attempt
stride-returns-then-attempt t c =
    step_tries c.args.rows.now c.args.state.now c.stride-moved.new.state c.args.row c.args.env.now
    c.args.depth (c.handed_on-part.ensures.none c.if-part-ne0.false) c.operand-a.result c.stride-moved.result
    c.operand-a.ensures c.stride-moved.ensures c.value.result c.value.ensures c.attempt.new.state
    c.attempt.result c.attempt.result (hands_or_left _ c.if-attempt.true) (sym c.get-kind.ensures ∙ c.in-43.is)
    c.in-Some.is c.attempt.ensures

pub stride-returns-else-attempt : goal.stride-returns-else-attempt
stride-returns-else-attempt t c =
    step_tries c.args.rows.now c.args.state.now c.stride-moved.new.state c.args.row c.args.env.now
    c.args.depth (c.handed_on-part.ensures.none c.if-part-ne0.false) c.operand-a.result c.stride-moved.result
    c.operand-a.ensures c.stride-moved.ensures c.value.result c.value.ensures c.attempt.new.state
    c.attempt.result c.stride-moved.result (hands_or_right c.if-attempt.false) (sym c.get-kind.ensures ∙ c.in-43.is)
    c.in-Some.is c.attempt.ensures

pub stride-returns-in-44 : goal.stride-returns-in-44
stride-returns-in-44 t c =
    stride_next c.args.rows.now c.args.state.now c.stride-in-44.new.state c.args.row c.args.env.now
    c.args.depth (c.handed_on-part.ensures.none c.if-part-ne0.false) c.operand-in-44.result c.stride-in-44.result
    c.operand-in-44.ensures c.stride-in-44.ensures (sym c.get-kind.ensures ∙ c.in-44.is)

pub stride-returns-then-left : goal.stride-returns-then-left
stride-returns-then-left t c =
    stride_both c.args.rows.now c.args.state.now c.stride-left.new.state c.stride-right.new.state c.args.row
    c.args.env.now c.args.depth c.operand-in-46.result c.operand-in-46-2.result c.stride-left.result
    c.stride-right.result c.operand-in-46.ensures c.operand-in-46-2.ensures c.stride-left.ensures c.stride-right.ensures
    c.stride-left.result (sym c.get-kind.ensures ∙ c.in-46.is) (hands_or_left _ c.if-left.true)

pub stride-returns-else-left : goal.stride-returns-else-left
stride-returns-else-left t c =
    stride_both c.args.rows.now c.args.state.now c.stride-left.new.state c.stride-right.new.state c.args.row
    c.args.env.now c.args.depth c.operand-in-46.result c.operand-in-46-2.result c.stride-left.result
    c.stride-right.result c.operand-in-46.ensures c.operand-in-46-2.ensures c.stride-left.ensures c.stride-right.ensures
    c.stride-right.result (sym c.get-kind.ensures ∙ c.in-46.is) (hands_or_right c.if-left.false)

pub stride-returns-in_default : goal.stride-returns-in_default
stride-returns-in_default t c =
    stride_none c.args.rows.now c.args.state.now c.args.row c.args.env.now c.args.depth
    (c.handed_on-part.ensures.none c.if-part-ne0.false) (λ e. c.in_default.in_default-own.rest.0.0.0.1 (c.get-kind.ensures ∙ e))
    (λ e. c.in_default.in_default-own.rest.0.0.1 (c.get-kind.ensures ∙ e)) (λ e. c.in_default.in_default-own.rest.0.1 (c.get-kind.ensures ∙ e))
    (λ e. c.in_default.in_default-own.rest.1 (c.get-kind.ensures ∙ e))

pub tried-settle-requires : goal.tried-settle-requires
tried-settle-requires t c = call_same c.args.rows.now c.args.row c.args.depth t 5 (c.decreases, c.requires) 4 (omega arith)
