-- `read_event`: each way out by its law.
use Rattle.std.proofs.Common.{◌∙◌, sym}
use Rattle.flow.proofs.EventLaws.{not_long, not_ended, by_fields}
use Rattle.flow.proofs.event.read_event.Goals.{then-s-ne-EVENT_BYTES-via-then-s-ne-EVENT_BYTES, then-s-ne-EVENT_BYTES-via-else-s-ne-EVENT_BYTES+then-s-ne-NEWLINE}
use Rattle.flow.proofs.event.read_event.Goals as goal

pub returns-then-s-ne-EVENT_BYTES : goal.returns-then-s-ne-EVENT_BYTES
returns-then-s-ne-EVENT_BYTES c = elim c.then-s-ne-EVENT_BYTES.branch [
  | then-s-ne-EVENT_BYTES-via-then-s-ne-EVENT_BYTES w ↦ sym (not_long c.args.s.now w.if-s-ne-EVENT_BYTES.true)
  | then-s-ne-EVENT_BYTES-via-else-s-ne-EVENT_BYTES+then-s-ne-NEWLINE w ↦ sym (not_ended c.args.s.now w.if-s-ne-EVENT_BYTES.false w.if-s-ne-NEWLINE.true)
]

pub returns : goal.returns
returns c = c.read_fields.ensures ∙ sym (by_fields c.args.s.now c.if-s-ne-EVENT_BYTES.false c.if-s-ne-NEWLINE.false)
