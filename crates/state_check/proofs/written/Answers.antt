-- What `written` answers, by the step that says no. Assumes nothing.
use mathlib.Core.Path.{◌≡◌, sym, ◌∙◌}
use mathlib.Core.Bool.{false≢true}
use Prim.Native.Nat.{◌-◌}
use lib.ListN.{length}
use borrow.Author.Rules.{rules}
use Rattle.state.specs.Lent.{state_size}
use Rattle.state_check.proofs.Deciding.{zero_rows, unbound, held_no_cells, held_no_task, held_same}
use Rattle.state_check.proofs.written.Goals as goal
use Rattle.state_check.proofs.written.Goals.{then-copy_cells, else-copy_cells}

pub returns-then-copy_task : goal.returns-then-copy_task
returns-then-copy_task c =
    let x : length c.args.state.now ≡ state_size = search rules in
    elim c.if-copy_cells.branch [
      | then-copy_cells w ↦
          let y : length w.copy_task.new.work ≡ state_size = search rules in
          rw w.work-is
          (held_same c.requires.le_n.0 (zero_rows state_size c.requires.to_write.1) c.copy_cells.ensures w.if-copy_cells.true
          (unbound c.args.rows.now c.args.state.now c.copy_cells.new.work w.copy_task.new.work (c.args.n - 1) w.new.result.shapes w.new.result.count w.new.ensures.0 w.new.ensures.1 w.copy_task.ensures)
          (sym w.value-is ∙ c.if-copy_task.true) c.requires.to_write.0 (x ∙ sym y) (rw w.work-is at c.alike.ensures))
      | else-copy_cells w ↦ absurd (false≢true (sym w.if-copy_cells.false ∙ sym w.value-is ∙ c.if-copy_task.true))
    ]

pub returns-else-copy_task : goal.returns-else-copy_task
returns-else-copy_task c =
    elim c.if-copy_cells.branch [
      | then-copy_cells w ↦
          rw c.if-copy_task.false
          (rw w.work-is
          (held_no_task c.requires.le_n.0 (zero_rows state_size c.requires.to_write.1) c.copy_cells.ensures w.if-copy_cells.true
          (unbound c.args.rows.now c.args.state.now c.copy_cells.new.work w.copy_task.new.work (c.args.n - 1) w.new.result.shapes w.new.result.count w.new.ensures.0 w.new.ensures.1 w.copy_task.ensures)
          (sym w.value-is ∙ c.if-copy_task.false)))
      | else-copy_cells w ↦
          rw c.if-copy_task.false
          (rw w.work-is (held_no_cells c.requires.le_n.0 (zero_rows state_size c.requires.to_write.1) c.copy_cells.ensures w.if-copy_cells.false))
    ]
