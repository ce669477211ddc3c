-- `path::read_text` meets its contract, each way out by its law. Assumes nothing.
use mathlib.Core.Path.{ap, ◌∙◌}
use native.Mathlib.Omega.{arith}
use borrow.Author.Rules.{rules}
use Rattle.decimal.specs.Path.{path_reading}
use Rattle.decimal.proofs.PathLaws.{text_none, text_alone, text_led, text_marks}
use Rattle.decimal.proofs.path.read_text.Statement.{statement}
use Rattle.decimal.proofs.path.read_text.Tie as tie

pub read_text_spec : {M : Type 1} → statement M
read_text_spec = tie.close (tie.spec
    (λ c. text_none c.args.s.now c.args.at c.args.end c.if-at-end.true)
    (λ c. search rules)
    (λ c. search rules)
    (λ c.
    text_alone c.args.s.now c.args.at c.args.end (omega arith) c.requires.1 c.if-s-at-eq-NOUGHT.true c.if-at-end-2.true)
    (λ c.
    text_led c.args.s.now c.args.at c.args.end c.requires.1 c.if-s-at-eq-NOUGHT.true (omega arith))
    (λ c κs. search rules)
    (λ c.
    c.read_marks.ensures ∙ ap path_reading
    (text_marks c.args.s.now c.args.at c.args.end (omega arith) c.requires.1 c.if-s-at-eq-NOUGHT.false)))
