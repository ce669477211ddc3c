-- `columns` meets its contract, each way out by its law. Assumes nothing.
use mathlib.Core.Path.{sym, ap, ◌∙◌}
use native.Mathlib.Omega.{arith}
use borrow.Author.Rules.{rules}
use lib.ListN.{length}
use Rattle.decimal.proofs.WriteLaws.{text_0, text_low, text_high}
use Rattle.decimal.proofs.field.columns.Statement.{statement}
use Rattle.decimal.proofs.field.columns.Tie as tie

pub columns_spec : {M : Type 1} → statement M
columns_spec = tie.close (tie.spec
    (λ c. sym (ap length (text_0 c.args.n c.if-n-eq0.true)))
    (λ c κs. search rules)
    (λ c.
    c.digits_of.ensures.0 ∙ sym (ap length (text_low c.args.n c.if-n-eq0.false c.if-n-lt-HALF.true)))
    (λ c κs. search rules)
    (λ c κs. search rules)
    (λ c. search rules)
    (λ c.
    let e = ap length (text_high c.args.n c.negated.result c.if-n-lt-HALF.false (omega arith) c.negated.ensures) in
    omega (arith, e, c.digits_of-2.ensures.0)))
