-- `path::put_text` meets its contract. Assumes nothing.
use mathlib.Core.Path.{sym, ap, ◌∙◌}
use native.Mathlib.Omega.{arith}
use borrow.Author.Rules.{rules}
use lib.ListN.{length}
use lib.Seq.{sets}
use Rattle.decimal.proofs.PathLaws.{text_0, text_some, text_length}
use Rattle.decimal.proofs.path.put_text.Statement.{statement}
use Rattle.decimal.proofs.path.put_text.Tie as tie

pub put_text_spec : {M : Type 1} → statement M
put_text_spec = tie.close (tie.spec
    (λ c. omega (arith, c.requires, ap length (text_0 c.args.path c.if-path-eq0.true)))
    (λ c. search rules)
    (λ c. sym (ap (sets c.args.s.now c.args.at) (text_0 c.args.path c.if-path-eq0.true)))
    (λ c κs.
    omega (arith, c.requires, text_length c.args.path c.if-path-eq0.false))
    (λ c. search rules)
    (λ c.
    c.put_marks.ensures ∙ sym (ap (sets c.args.s.now c.args.at) (text_some c.args.path c.if-path-eq0.false))))
