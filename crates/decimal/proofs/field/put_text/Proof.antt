-- `put_text` meets its contract, each way out by its law. Assumes nothing.
use Prim.Native.Nat.{◌+◌}
use mathlib.Core.Path.{sym, ap, ◌∙◌}
use native.Mathlib.Numerals.{add-one}
use native.Mathlib.Omega.{arith}
use borrow.Author.Rules.{rules}
use lib.ListN.{length, set, length-set}
use lib.Seq.{sets}
use Rattle.decimal.specs.Field.{minus, decimal}
use Rattle.decimal.proofs.WriteLaws.{text_0, text_low, text_high}
use Rattle.decimal.proofs.field.put_text.Statement.{statement}
use Rattle.decimal.proofs.field.put_text.Tie as tie

pub put_text_spec : {M : Type 1} → statement M
put_text_spec = tie.close (tie.spec
    (λ c. omega (arith, c.requires.0, c.requires.1, ap length (text_0 c.args.n c.if-n-eq0.true)))
    (λ c. search rules)
    (λ c. sym (ap (sets c.args.s.now c.args.at) (text_0 c.args.n c.if-n-eq0.true)))
    (λ c κs.
    (c.requires.0 ∙ ap (λ t. c.args.at + length t) (text_low c.args.n c.if-n-eq0.false c.if-n-lt-HALF.true), c.requires.1))
    (λ c. search rules)
    (λ c.
    c.put_digits.ensures ∙ sym
    (ap (sets c.args.s.now c.args.at) (text_low c.args.n c.if-n-eq0.false c.if-n-lt-HALF.true)))
    (λ c κs. search rules)
    (λ c.
    omega
    (arith, c.requires.0, c.requires.1, ap length (text_high c.args.n c.negated-m.result c.if-n-lt-HALF.false (omega arith) c.negated-m.ensures)))
    (λ c. search rules)
    (λ c κs.
    (omega (arith, c.requires.0, ap length (text_high c.args.n c.negated-m.result c.if-n-lt-HALF.false (omega arith) c.negated-m.ensures)), simp length-set c.requires.1))
    (λ c.
    c.put_digits-2.auto.s ∙ length-set c.args.s.now c.args.at minus)
    (λ c.
    c.put_digits-2.ensures ∙ ap (λ k. sets (set c.args.s.now c.args.at minus) k (decimal c.negated-m.result))
    (add-one c.args.at) ∙ sym
    (ap (sets c.args.s.now c.args.at) (text_high c.args.n c.negated-m.result c.if-n-lt-HALF.false (omega arith) c.negated-m.ensures))))
