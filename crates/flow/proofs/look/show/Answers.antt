-- `show` meets its contract, each way out by its law.
use Rattle.std.specs.Int.{w32}
use Rattle.std.proofs.Common.{◌≡◌, ap, ◌∙◌, subst, length, to_z}
use Rattle.tophat.specs.Syntax.{max_leaves}
use Rattle.word.specs.Laid.{laid}
use Rattle.entries.proofs.Bounds.{at_start}
use Rattle.flow.proofs.LookLaws.{show_24, show_0}
use Rattle.flow.proofs.look.show.Goals as goal

pub returns-then-not-has_room : goal.returns-then-not-has_room
returns-then-not-has_room c =
    show_24 c.args.role c.args.own.now c.args.words.now c.args.n c.args.value.now c.args.list.now c.has_room.result c.has_room.ensures c.if-not-has_room.true

pub entries-bytes-requires : goal.entries-bytes-requires
entries-bytes-requires c = (c.requires.1, at_start)

pub returns : goal.returns
returns c =
    let u = c.unwrap_or.ensures in
    show_0 c.args.role c.args.own.now c.args.words.now c.args.n c.args.value.now c.args.list.now c.has_room.result c.has_room.ensures c.if-not-has_room.false
    c.entries-bytes.ensures.1 c.value-found.result c.value-found.ensures (subst (λ x. length x.leaves ≡ max_leaves) u c.value_out.ensures.leaves_len) c.fails-failed.ensures
    c.is_some-valued.ensures (c.value_out.ensures.lent_after ∙ ap (λ x. laid (to_z w32) x.leaves c.args.value.now) u)
