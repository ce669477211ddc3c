-- `state_check::copy_task` meets its contract, an arm by the law of its part. Assumes nothing.
use mathlib.Core.Path.{◌≡◌, refl, sym, ap, ◌∙◌}
use Rattle.std.specs.Prelude.{Some, None}
use Rattle.state.specs.Layout.{at}
use Rattle.state.specs.declared.tag.Tag.TheVariants.{Own, One, Other}
use Rattle.state_check.proofs.PartLaws.{part_untagged}
use mathlib.Core.Bool.{true, false≢true}
use borrow.Author.Tests.{not-false}
use Rattle.state_check.proofs.Copying.{copy_bad, copy_alone, copy_filled, copy_untyped, copy_below, copy_bound, copy_deep, copy_unbound, copy_unshaped, copy_two, copy_first, copy_gate, copy_ungated}
use Rattle.state_check.proofs.+copy_task.Goals as goal
use Rattle.state_check.proofs.+copy_task.Goals.{then-copy_value, else-copy_value}

pub returns-in_default : goal.returns-in_default
returns-in_default t c =
    let q = c.args in
    let n = c.in_default.ensures in
    copy_bad q.rows.now q.state.now q.work.now q.row q.binders.now.shapes q.binders.now.count (at q.state.now q.row 0) None refl (part_untagged q.rows.now q.row _ (n Own) (n One) (n Other)) refl

pub returns-in_default-part_at : goal.returns-in_default-part_at
returns-in_default-part_at t c =
    let q = c.args in
    copy_bad q.rows.now q.state.now q.work.now q.row q.binders.now.shapes q.binders.now.count _ _ (sym c.in-Some.ensures) c.part_at.ensures.0 c.in_default-part_at.is

pub returns-in-Alone : goal.returns-in-Alone
returns-in-Alone t c =
    let q = c.args in
    copy_alone q.rows.now q.state.now q.work.now q.row q.binders.now.shapes q.binders.now.count _ _ (sym c.in-Some.ensures) c.part_at.ensures.0
    (c.in-Some-part_at.is ∙ ap Some c.in-Alone.is) c.put_tag.ensures

pub returns-in-Some-row_type : goal.returns-in-Some-row_type
returns-in-Some-row_type t c =
    let q = c.args in
    copy_filled q.rows.now q.state.now q.work.now q.row q.binders.now.shapes q.binders.now.count _ _ (sym c.in-Some.ensures) c.part_at.ensures.0
    (c.in-Some-part_at.is ∙ ap Some c.in-Filled.is) c.in-Some-row_type.ensures c.copy_value.ensures

pub returns-in-None : goal.returns-in-None
returns-in-None t c =
    let q = c.args in
    copy_untyped q.rows.now q.state.now q.work.now q.row q.binders.now.shapes q.binders.now.count _ _ (sym c.in-Some.ensures) c.part_at.ensures.0
    (c.in-Some-part_at.is ∙ ap Some c.in-Filled.is) c.in-None.ensures

pub returns-in-Below : goal.returns-in-Below
returns-in-Below t c =
    let q = c.args in
    copy_below q.rows.now q.state.now q.work.now q.row q.binders.now.shapes q.binders.now.count _ _ (sym c.in-Some.ensures) c.part_at.ensures.0
    (c.in-Some-part_at.is ∙ ap Some c.in-Below.is) c.put_tag-in-Below.ensures c.copy_task.ensures

pub returns-in-None-row_type : goal.returns-in-None-row_type
returns-in-None-row_type t c =
    let q = c.args in
    copy_unshaped q.rows.now q.state.now q.work.now q.row q.binders.now.shapes q.binders.now.count _ _ (sym c.in-Some.ensures) c.part_at.ensures.0
    (c.in-Some-part_at.is ∙ ap Some c.in-Bound.is) c.in-None-row_type.ensures

pub returns-then-copy_task : goal.returns-then-copy_task
returns-then-copy_task t c =
    let q = c.args in
    copy_two q.rows.now q.state.now q.work.now q.row q.binders.now.shapes q.binders.now.count _ _ (sym c.in-Some.ensures) c.part_at.ensures.0
    (c.in-Some-part_at.is ∙ ap Some c.in-Two.is) c.put_tag-in-Two.ensures c.copy_task-in-Two.ensures c.if-copy_task.true c.copy_task-then-copy_task.ensures

pub returns-else-copy_task : goal.returns-else-copy_task
returns-else-copy_task t c =
    let q = c.args in
    copy_first q.rows.now q.state.now q.work.now q.row q.binders.now.shapes q.binders.now.count _ _ (sym c.in-Some.ensures) c.part_at.ensures.0
    (c.in-Some-part_at.is ∙ ap Some c.in-Two.is) c.put_tag-in-Two.ensures c.copy_task-in-Two.ensures c.if-copy_task.false

pub returns-then-copy_touches : goal.returns-then-copy_touches
returns-then-copy_touches t c =
    let q = c.args in
    copy_gate q.rows.now q.state.now q.work.now q.row q.binders.now.shapes q.binders.now.count _ _ (sym c.in-Some.ensures) c.part_at.ensures.0
    (c.in-Some-part_at.is ∙ ap Some c.in-Gate.is) c.copy_touches.ensures c.if-copy_touches.true c.copy_task-then-copy_touches.ensures

pub returns-else-copy_touches : goal.returns-else-copy_touches
returns-else-copy_touches t c =
    let q = c.args in
    copy_ungated q.rows.now q.state.now q.work.now q.row q.binders.now.shapes q.binders.now.count _ _ (sym c.in-Some.ensures) c.part_at.ensures.0
    (c.in-Some-part_at.is ∙ ap Some c.in-Gate.is) c.copy_touches.ensures c.if-copy_touches.false

pub returns-then-not-is_full : goal.returns-then-not-is_full
returns-then-not-is_full t c =
    let q = c.args in
    let went : c.copy_value-in-Some-row_type-2.result ≡ true =
    elim c.if-copy_value.branch [ then-copy_value w ↦ w.if-copy_value.true | else-copy_value w ↦ absurd (false≢true (sym w.if-copy_value.false ∙ sym w.value-is ∙ c.if-not-is_full.true)) ] in
    copy_bound q.rows.now q.state.now q.work.now q.row q.binders.now.shapes q.binders.now.count _ _ (sym c.in-Some.ensures) c.part_at.ensures.0
    (c.in-Some-part_at.is ∙ ap Some c.in-Bound.is) c.in-Some-row_type-2.ensures c.copy_value-in-Some-row_type-2.ensures went c.with.ensures.0 c.with.ensures.1 c.copy_task-then-not-is_full.ensures

pub returns-else-not-is_full : goal.returns-else-not-is_full
returns-else-not-is_full t c =
    let q = c.args in
    elim c.if-copy_value.branch [
      | then-copy_value w ↦
          copy_deep q.rows.now q.state.now q.work.now q.row q.binders.now.shapes q.binders.now.count _ _ (sym c.in-Some.ensures) c.part_at.ensures.0
          (c.in-Some-part_at.is ∙ ap Some c.in-Bound.is) c.in-Some-row_type-2.ensures c.copy_value-in-Some-row_type-2.ensures (w.is_full.ensures.0 (not-false _ (sym w.value-is ∙ c.if-not-is_full.false))) c.if-not-is_full.false
      | else-copy_value w ↦
          copy_unbound q.rows.now q.state.now q.work.now q.row q.binders.now.shapes q.binders.now.count _ _ (sym c.in-Some.ensures) c.part_at.ensures.0
          (c.in-Some-part_at.is ∙ ap Some c.in-Bound.is) c.in-Some-row_type-2.ensures c.copy_value-in-Some-row_type-2.ensures w.if-copy_value.false c.if-not-is_full.false
    ]
