-- `path::read` meets its contract. Assumes nothing.
use Rattle.std.proofs.lemmas.Bool.{not_from_false, not_from_true}
use native.Mathlib.Omega.{arith}
use borrow.Author.Rules.{rules}
use lib.ListN.{length}
use Rattle.decimal.specs.Path.{path_columns}
use Rattle.decimal.proofs.ReadLaws.{room, no_room}
use Rattle.decimal.proofs.PathLaws.{path_nowhere, path_read}
use Rattle.decimal.proofs.path.read.Statement.{statement}
use Rattle.decimal.proofs.path.read.Tie as tie

pub read_spec : {M : Type 1} → statement M
read_spec = tie.close (tie.spec
    (λ c κs. search rules)
    (λ c.
    path_nowhere c.args.s.now c.args.at
    (no_room c.args.at path_columns (length c.args.s.now) c.has.result c.has.ensures (not_from_false _ c.if-not-has.true)))
    (λ c.
    omega (arith, room c.args.at path_columns (length c.args.s.now) c.has.result c.has.ensures (not_from_true _ c.if-not-has.false)))
    (λ c κs.
    (omega arith, room c.args.at path_columns (length c.args.s.now) c.has.result c.has.ensures (not_from_true _ c.if-not-has.false)))
    (λ c κs.
    (c.past_spaces-i.ensures.1, room c.args.at path_columns (length c.args.s.now) c.has.result c.has.ensures (not_from_true _ c.if-not-has.false), omega (arith, c.past_spaces-i.ensures.0)))
    (λ c.
    path_read c.args.s.now c.args.at c.past_spaces-i.result c.read_text.result
    (room c.args.at path_columns (length c.args.s.now) c.has.result c.has.ensures (not_from_true _ c.if-not-has.false))
    c.past_spaces-i.ensures.2 c.read_text.ensures))
