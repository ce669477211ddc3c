-- `write_end` meets its contract. Assumes nothing.
use mathlib.Core.Path.{sym}
use borrow.Author.Rules.{rules}
use lib.Seq.{set_out}
use Rattle.decimal.specs.Field.{newline}
use Rattle.formats.specs.Records.{total}
use Rattle.formats.specs.Heads.{head_columns}
use Rattle.screens.proofs.head.write_end.Statement.{statement}
use Rattle.screens.proofs.head.write_end.Tie as tie

pub write_end_spec : {M : Type 1} → statement M
write_end_spec = tie.close (tie.spec
    (λ c. search rules)
    (λ c. search rules)
    (λ c. search rules)
    (λ c. sym (set_out c.args.s.now (total head_columns) newline c.if-s-gt-END_AT.false)))
