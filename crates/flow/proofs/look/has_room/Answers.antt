-- `has_room` meets its contract, each way out by its law.
use Rattle.entries.proofs.Bounds.{at_start}
use Rattle.flow.proofs.LookLaws.{room_enough, room_counted}
use Rattle.flow.proofs.look.has_room.Goals as goal

pub returns-then-n-room : goal.returns-then-n-room
returns-then-n-room c = room_enough c.args.role c.args.own.now c.args.words.now c.args.n c.args.room c.if-n-room.true

pub entries-requires : goal.entries-requires
entries-requires c = (c.requires.1, at_start)

pub returns : goal.returns
returns c = room_counted c.args.role c.args.own.now c.args.words.now c.args.n c.entries.ensures.1 c.args.room
