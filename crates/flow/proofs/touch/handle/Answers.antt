-- `handle`: what `take` answers to the event that the bytes say.
use Rattle.flow.proofs.TakeLaws.{take_handles}
use Rattle.flow.proofs.touch.handle.Goals as goal

pub returns : goal.returns
returns c =
    let t = take_handles c.args.rows.now c.args.state.now c.args.event.now c.read_event-e.result c.take.result c.take.new.state c.read_event-e.ensures c.take.ensures in
    record { answered = t.0; bounded = t.1 }
