-- `look` meets its contract: it hands back the front of the list that `fill` wrote.
use Rattle.flow.proofs.LookLaws.{shown_is, part_long, look_is}
use Rattle.flow.proofs.look.look.Goals as goal

pub slice_bounds-result-end : goal.slice_bounds-result-end
slice_bounds-result-end c =
    part_long c.args.rows.now c.args.state.now c.args.role c.args.value.now c.args.list.now c.fill-seen.result c.fill-seen.new.value c.fill-seen.new.list c.fill-seen.ensures
    (shown_is c.fill-seen.result c.unwrap_or_default-shown.ensures)

pub returns : goal.returns
returns c =
    rw (c.number.ensures, c.from.ensures, c.from-2.ensures)
    (look_is c.args.rows.now c.args.state.now c.args.role c.args.value.now c.args.list.now c.fill-seen.result c.fill-seen.new.value c.fill-seen.new.list c.fill-seen.ensures
    (shown_is c.fill-seen.result c.unwrap_or_default-shown.ensures))
