-- A row of no kind has no part; a row of a kind has that of the kind, which names lower rows.
use Rattle.rows.specs.KindsInCode.{in_table}
use Rattle.state.specs.Tags.{tag_word}
use Rattle.state_check.proofs.PartLaws.{part_none, part_is}
use Rattle.state_check.proofs.part_at.Goals as goal

pub returns-in_err-kind : goal.returns-in_err-kind
returns-in_err-kind c = rw c.from_residual.ensures (part_none c.args.rows.now c.args.row (tag_word c.args.tag) c.in_err-kind.ensures)

pub returns : goal.returns
returns c = part_is (in_table c.in_ok-kind.kind) (tag_word c.args.tag) _ c.requires c.in_ok-kind.ensures c.operand-a.ensures c.operand-b.ensures c.operand-c.ensures c.part_from.ensures
