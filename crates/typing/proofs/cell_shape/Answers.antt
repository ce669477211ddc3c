use mathlib.Core.Path.{sym, ◌∙◌}
use Rattle.shape.specs.Shape.{put, as_shape}
use Rattle.typing.proofs.Cells.{shape_truth, shape_number}
use Rattle.typing.proofs.cell_shape.Goals as goal

pub returns-then-kind-from : goal.returns-then-kind-from
unfolding as_shape put
returns-then-kind-from c = let s = c.args in shape_truth s.rows.now s.row c.operand-a.ensures c.kind.ensures (c.if-kind-from.true ∙ c.from.ensures)

pub returns : goal.returns
unfolding as_shape put
returns c = let s = c.args in shape_number s.rows.now s.row c.operand-a.ensures c.kind.ensures (λ e. c.if-kind-from.false (e ∙ sym c.from.ensures))
