-- `path::columns` meets its contract. Assumes nothing.
use mathlib.Core.Path.{sym, ap, ◌∙◌}
use borrow.Author.Rules.{rules}
use lib.ListN.{length}
use Rattle.decimal.proofs.PathLaws.{text_0, text_length}
use Rattle.decimal.proofs.path.columns.Statement.{statement}
use Rattle.decimal.proofs.path.columns.Tie as tie

pub columns_spec : {M : Type 1} → statement M
columns_spec = tie.close (tie.spec
    (λ c. sym (ap length (text_0 c.args.path c.if-path-eq0.true)))
    (λ c κs. search rules)
    (λ c. c.marks_of.ensures ∙ text_length c.args.path c.if-path-eq0.false))
