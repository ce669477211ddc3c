-- `field::write` meets its contract, each way out by its law. Assumes nothing.
use Rattle.std.proofs.lemmas.Bool.{not_from_false, not_from_true}
use native.Mathlib.Omega.{arith}
use borrow.Author.Rules.{rules}
use lib.ListN.{length}
use mir.Syntax.{w32}
use mir.Val.{to_z}
use Rattle.decimal.specs.Field.{text, written}
use Rattle.decimal.proofs.ReadLaws.{room, no_room}
use Rattle.decimal.proofs.WriteLaws.{put_nowhere, put_wide, put_there}
use Rattle.decimal.proofs.field.write.Statement.{statement}
use Rattle.decimal.proofs.field.write.Tie as tie

pub write_spec : {M : Type 1} → statement M
write_spec = tie.close (tie.spec
    (λ c κs. search rules)
    (λ c.
    put_nowhere c.args.s.now c.args.at c.args.width (written c.args.width (to_z w32 c.args.n))
    (no_room c.args.at c.args.width (length c.args.s.now) c.has.result c.has.ensures (not_from_false _ c.if-not-has.true)))
    (λ c κs. search rules)
    (λ c.
    put_wide c.args.s.now c.args.at c.args.width c.columns-k.result (text (to_z w32 c.args.n))
    c.columns-k.ensures c.if-width-k.true)
    (λ c.
    omega (arith, room c.args.at c.args.width (length c.args.s.now) c.has.result c.has.ensures (not_from_true _ c.if-not-has.false)))
    (λ c κs.
    omega (arith, room c.args.at c.args.width (length c.args.s.now) c.has.result c.has.ensures (not_from_true _ c.if-not-has.false)))
    (λ c.
    omega (arith, room c.args.at c.args.width (length c.args.s.now) c.has.result c.has.ensures (not_from_true _ c.if-not-has.false)))
    (λ c κs.
    let h = room c.args.at c.args.width (length c.args.s.now) c.has.result c.has.ensures (not_from_true _ c.if-not-has.false) in
    (omega (arith, c.columns-k.ensures, c.if-width-k.false), omega (arith, h, c.put_spaces.auto.s)))
    (λ c. search rules)
    (λ c.
    put_there c.args.s.now c.args.at c.args.width c.columns-k.result (text (to_z w32 c.args.n))
    c.columns-k.ensures c.put_spaces.new.s c.put_text.new.s
    (room c.args.at c.args.width (length c.args.s.now) c.has.result c.has.ensures (not_from_true _ c.if-not-has.false))
    c.if-width-k.false c.put_spaces.ensures c.put_text.ensures))
