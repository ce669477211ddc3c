-- `allowed`: a value's leaves may be any, another action's are 0 or blank.
use Rattle.std.proofs.Common.{◌∙◌}
use Rattle.handle.specs.Events.{leaves_by}
use Rattle.flow.proofs.EventLaws.{zero_leaves, allowed_value, allowed_zero}
use Rattle.flow.proofs.event.allowed.Goals as goal

pub returns-in-Value : goal.returns-in-Value
returns-in-Value c = allowed_value c.args.action (leaves_by c.args.leaves.now) c.in-Value.is

pub returns-in-Continue : goal.returns-in-Continue
returns-in-Continue c =
    c.all_zero.ensures ∙ zero_leaves c.args.leaves.now ∙ allowed_zero c.args.action (leaves_by c.args.leaves.now) c.in-Continue.is
