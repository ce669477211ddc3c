-- `path::write` meets its contract, each way out by its law. Assumes nothing.
use Rattle.std.proofs.lemmas.Bool.{not_from_false, not_from_true}
use native.Mathlib.Omega.{arith}
use borrow.Author.Rules.{rules}
use lib.ListN.{length}
use Rattle.decimal.specs.Path.{path_columns, path_text, path_of, written_path}
use Rattle.decimal.proofs.ReadLaws.{room, no_room}
use Rattle.decimal.proofs.WriteLaws.{put_nowhere, put_wide, put_there}
use Rattle.decimal.proofs.path.write.Statement.{statement}
use Rattle.decimal.proofs.path.write.Tie as tie

pub write_spec : {M : Type 1} → statement M
write_spec = tie.close (tie.spec
    (λ c κs. search rules)
    (λ c.
    put_nowhere c.args.s.now c.args.at path_columns (written_path (path_of c.args.path))
    (no_room c.args.at path_columns (length c.args.s.now) c.has.result c.has.ensures (not_from_false _ c.if-not-has.true)))
    (λ c κs. search rules)
    (λ c.
    put_wide c.args.s.now c.args.at path_columns c.columns-k.result (path_text (path_of c.args.path))
    c.columns-k.ensures c.if-k-gt-PATH_COLUMNS.true)
    (λ c.
    omega (arith, room c.args.at path_columns (length c.args.s.now) c.has.result c.has.ensures (not_from_true _ c.if-not-has.false)))
    (λ c κs.
    omega (arith, room c.args.at path_columns (length c.args.s.now) c.has.result c.has.ensures (not_from_true _ c.if-not-has.false)))
    (λ c κs.
    omega
    (arith, room c.args.at path_columns (length c.args.s.now) c.has.result c.has.ensures (not_from_true _ c.if-not-has.false), c.columns-k.ensures, c.if-k-gt-PATH_COLUMNS.false, c.put_spaces.auto.s))
    (λ c. search rules)
    (λ c.
    put_there c.args.s.now c.args.at path_columns c.columns-k.result (path_text (path_of c.args.path))
    c.columns-k.ensures c.put_spaces.new.s c.put_text.new.s
    (room c.args.at path_columns (length c.args.s.now) c.has.result c.has.ensures (not_from_true _ c.if-not-has.false)) c.if-k-gt-PATH_COLUMNS.false
    c.put_spaces.ensures c.put_text.ensures))
