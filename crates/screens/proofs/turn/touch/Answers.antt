-- `touch` meets its contract.
use Rattle.screens.proofs.Bounds.{handle_few}
use Rattle.screens.proofs.ScreenLaws.{touch_state, touch_drawn}
use Rattle.screens.proofs.turn.touch.Goals as goal

pub show-requires : goal.show-requires
show-requires c =
    let q = c.handle-answer in
    let f = handle_few c.args.rows.now c.args.state.now c.args.event.now q.result q.new.state q.ensures.answered q.ensures.bounded in
    (c.told-out, f.0, f.1)

pub returns : goal.returns
returns c =
    let q = c.handle-answer in
    let g = c.role_of-role in
    record {
      state_after = touch_state c.args.rows.now c.args.state.now c.args.event.now c.args.out.now q.result q.new.state q.ensures.answered;
      drawn = touch_drawn c.args.rows.now c.args.state.now c.args.event.now c.args.out.now q.result q.new.state q.ensures.answered g.result g.ensures c.show.result c.show.new.out c.show.ensures;
    }
