-- `kind` meets its contract: the row's first word, or past the last row 0. Assumes nothing.
use borrow.Author.Rules.{rules}
use Rattle.rows.proofs.LentLaws.{first_word, word_past}
use Rattle.rows.proofs.kind.Statement.{statement}
use Rattle.rows.proofs.kind.Tie as tie

pub kind_spec : {M : Type 1} → statement M
kind_spec = tie.close (tie.spec
    (λ c. search rules)
    (λ c. search rules)
    (λ c. search rules)
    (λ c. let s = c.args in first_word s.rows.now s.row)
    (λ c. word_past c.args.rows.now c.args.row 0 c.requires c.if-row-lt-MAX_ROWS.false))
