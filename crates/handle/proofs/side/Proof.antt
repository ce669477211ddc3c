-- `handle::side` meets its contract, a way by its law. Assumes nothing.
use Rattle.state.specs.Tags.{tag_word}
use Rattle.handle.proofs.Choosing.{side_fails, side_lives}
use Rattle.handle.proofs.side.Statement.{statement}
use Rattle.handle.proofs.side.Tie as tie

pub side_spec : {M : Type 1} → statement M
side_spec = tie.close (tie.spec
    (λ c κs. c.requires.1)
    (λ c.
    side_fails c.args.rows.now c.args.state.now c.settle.new.state c.args.row c.args.a (tag_word c.args.tag)
    c.args.env.now c.args.depth c.settle.result c.settle.ensures c.if-settle.true)
    (λ c κs.
    c.requires.0)
    (λ c.
    side_lives c.args.rows.now c.args.state.now c.settle.new.state c.args.row c.args.a (tag_word c.args.tag)
    c.args.env.now c.args.depth c.put_tag.new.state c.settle.result c.settle.ensures c.if-settle.false
    c.put_tag.ensures))
