-- A cell's content is copied; a row that is none is left.
use mathlib.Core.Path.{refl}
use mathlib.Core.List.{List, [], ◌∷◌}
use Rattle.rows.specs.declared.kinds.Kind.{Kind}
use Rattle.rows.specs.declared.kinds.Kind.TheVariants.{Cell}
use Rattle.rows.proofs.KindsRead.{of_kind, IsNoneOf, other_arm, other_none}
use Rattle.state_check.proofs.Cells.{copy_cell_is, copy_cell_none}
use Rattle.state_check.proofs.copy_cell.Goals as goal

abbrev cell : List Kind
cell = Cell ∷ []

pub returns-in_default : goal.returns-in_default
returns-in_default c = copy_cell_none c.args.rows.now c.args.row c.args.state.now (other_none cell c.in_default.ensures Cell refl)

pub returns-in-Cell : goal.returns-in-Cell
returns-in-Cell c = copy_cell_is c.args.rows.now c.args.row c.args.state.now (of_kind c.in-Some.ensures c.in-Cell.is) c.cell_shape.ensures c.copy_value.ensures

pub returns-in_default-kind : goal.returns-in_default-kind
returns-in_default-kind c =
    let n : IsNoneOf cell c.in-Some.kind = (c.in_default-kind.not-Cell, tt) in
    copy_cell_none c.args.rows.now c.args.row c.args.state.now (other_arm cell c.in-Some.kind c.in-Some.ensures n Cell refl)
