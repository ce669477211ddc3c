-- `read_text` meets its contract, each way out by its law. Assumes nothing.
use Prim.Native.Nat.{◌+◌}
use mathlib.Core.Path.{sym, ap, ◌∙◌}
use native.Mathlib.Omega.{arith}
use borrow.Author.Rules.{rules}
use Rattle.decimal.specs.Field.{reading}
use Rattle.decimal.proofs.ReadLaws.{positive_0, positive_n, negative_0, negative_n, text_none, text_minus, text_nought, text_other, alone_none, alone_some}
use Rattle.decimal.proofs.field.read_text.Statement.{statement}
use Rattle.decimal.proofs.field.read_text.Tie as tie

pub read_text_spec : {M : Type 1} → statement M
read_text_spec = tie.close (tie.spec
    (λ c. text_none c.args.s.now c.args.at c.args.end c.if-at-end.true)
    (λ c. search rules)
    (λ c. search rules)
    (λ c κs. search rules)
    (λ c.
    negative_0 _ c.count-m.result c.count-m.ensures c.if-m-eq0.true ∙ sym
    (ap reading (text_minus c.args.s.now c.args.at c.args.end (omega arith) c.requires.1 c.if-s-at-eq-MINUS.true)))
    (λ c κs. search rules)
    (λ c.
    negative_n _ c.count-m.result c.negated.result c.count-m.ensures c.if-m-eq0.false c.negated.ensures ∙ sym
    (ap reading (text_minus c.args.s.now c.args.at c.args.end (omega arith) c.requires.1 c.if-s-at-eq-MINUS.true)))
    (λ c. search rules)
    (λ c. search rules)
    (λ c.
    alone_none c.args.s.now (c.args.at + 1) c.args.end c.if-at-end-2.true ∙ sym
    (ap reading (text_nought c.args.s.now c.args.at c.args.end (omega arith) c.requires.1 c.if-s-at-eq-NOUGHT.true)))
    (λ c.
    alone_some c.args.s.now (c.args.at + 1) c.args.end (omega arith) c.requires.1 ∙ sym
    (ap reading (text_nought c.args.s.now c.args.at c.args.end (omega arith) c.requires.1 c.if-s-at-eq-NOUGHT.true)))
    (λ c κs. search rules)
    (λ c.
    positive_0 _ c.count-n.result c.count-n.ensures c.if-n-eq0.true ∙ sym
    (ap reading (text_other c.args.s.now c.args.at c.args.end (omega arith) c.requires.1 c.if-s-at-eq-MINUS.false c.if-s-at-eq-NOUGHT.false)))
    (λ c.
    positive_n _ c.count-n.result c.count-n.ensures c.if-n-eq0.false ∙ sym
    (ap reading (text_other c.args.s.now c.args.at c.args.end (omega arith) c.requires.1 c.if-s-at-eq-MINUS.false c.if-s-at-eq-NOUGHT.false))))
