-- `role_of`: a short event, and what its first columns say.
use Rattle.std.proofs.Common.{◌∙◌}
use Rattle.screens.proofs.ScreenLaws.{role_short, role_looked}
use Rattle.screens.proofs.turn.role_of.Goals as goal

pub returns-then-event-ne-EVENT_BYTES : goal.returns-then-event-ne-EVENT_BYTES
returns-then-event-ne-EVENT_BYTES c = role_short c.args.event.now c.if-event-ne-EVENT_BYTES.true

pub returns : goal.returns
returns c = c.unwrap_or.ensures ∙ role_looked c.args.event.now c.if-event-ne-EVENT_BYTES.false c.read_role.result c.read_role.ensures
