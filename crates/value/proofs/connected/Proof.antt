-- `value::connected` meets its contract, an arm by the law of its operator. Assumes nothing.
use mathlib.Core.Path.{sym, ap, ◌∙◌}
use mathlib.Core.Bool.{◌&&◌, ◌||◌}
use native.Mathlib.Omega.{arith}
use borrow.Author.Rules.{rules}
use Rattle.value.proofs.Operators.{and_is, or_is}
use Rattle.value.proofs.connected.Statement.{statement}
use Rattle.value.proofs.connected.Tie as tie

pub connected_spec : {M : Type 1} → statement M
connected_spec = tie.close (tie.spec
    (λ c κs. search rules) (λ c κs. search rules)
    (λ c.
    and_is c.args.op c.args.x c.args.y c.equal-p.result c.equal-q.result c.equal-p.ensures
    c.equal-q.ensures c.equal-q.result c.in-7.is (ap (λ p. p && c.equal-q.result) (sym c.if-p.true)))
    (λ c.
    and_is c.args.op c.args.x c.args.y c.equal-p.result c.equal-q.result c.equal-p.ensures
    c.equal-q.ensures _ c.in-7.is (c.if-p.false ∙ ap (λ p. p && c.equal-q.result) (sym c.if-p.false)))
    (λ c.
    or_is c.args.op c.args.x c.args.y c.equal-p.result c.equal-q.result c.equal-p.ensures
    c.equal-q.ensures _ (omega (arith, c.requires.0, c.requires.1, c.in_default.in_default-own.rest.1))
    (c.if-p-2.true ∙ ap (λ p. p || c.equal-q.result) (sym c.if-p-2.true)))
    (λ c.
    or_is c.args.op c.args.x c.args.y c.equal-p.result c.equal-q.result c.equal-p.ensures
    c.equal-q.ensures _ (omega (arith, c.requires.0, c.requires.1, c.in_default.in_default-own.rest.1))
    (ap (λ p. p || c.equal-q.result) (sym c.if-p-2.false))))
