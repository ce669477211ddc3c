-- `show_failed` meets its contract.
use Rattle.flow.proofs.LookLaws.{show_failed}
use Rattle.flow.proofs.look.show_failed.Goals as goal

pub returns : goal.returns
returns c = show_failed c.args.value.now c.value_out.new.lent c.value_out.ensures.lent_after
