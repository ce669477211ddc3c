-- `field::read` meets its contract. Assumes nothing.
use Rattle.std.proofs.lemmas.Bool.{not_from_false, not_from_true}
use native.Mathlib.Omega.{arith}
use borrow.Author.Rules.{rules}
use lib.ListN.{length}
use Rattle.decimal.proofs.ReadLaws.{room, no_room, field_none, field_read}
use Rattle.decimal.proofs.field.read.Statement.{statement}
use Rattle.decimal.proofs.field.read.Tie as tie

pub read_spec : {M : Type 1} → statement M
read_spec = tie.close (tie.spec
    (λ c κs. search rules)
    (λ c.
    field_none c.args.s.now c.args.at c.args.width
    (no_room c.args.at c.args.width (length c.args.s.now) c.has.result c.has.ensures (not_from_false _ c.if-not-has.true)))
    (λ c.
    omega (arith, room c.args.at c.args.width (length c.args.s.now) c.has.result c.has.ensures (not_from_true _ c.if-not-has.false)))
    (λ c κs.
    (omega arith, room c.args.at c.args.width (length c.args.s.now) c.has.result c.has.ensures (not_from_true _ c.if-not-has.false)))
    (λ c κs.
    (c.past_spaces-i.ensures.1, room c.args.at c.args.width (length c.args.s.now) c.has.result c.has.ensures (not_from_true _ c.if-not-has.false)))
    (λ c.
    field_read c.args.s.now c.args.at c.args.width c.past_spaces-i.result c.read_text.result
    (room c.args.at c.args.width (length c.args.s.now) c.has.result c.has.ensures (not_from_true _ c.if-not-has.false))
    c.past_spaces-i.ensures.2 c.read_text.ensures))
