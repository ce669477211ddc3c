-- `value::computed` meets its contract, an arm by the law of its operator. Assumes nothing.
use native.Mathlib.Omega.{arith}
use borrow.Author.Rules.{rules}
use Rattle.value.proofs.Operators.{sum_is, difference_is, product_is}
use Rattle.value.proofs.computed.Statement.{statement}
use Rattle.value.proofs.computed.Tie as tie

pub computed_spec : {M : Type 1} → statement M
computed_spec = tie.close (tie.spec
    (λ c κs. search rules) (λ c κs. search rules) (λ c κs. search rules) (λ c κs. search rules) (λ c κs. search rules) (λ c κs. search rules)
    (λ c.
    sum_is c.args.op c.args.x c.args.y c.result.result c.in-1.is (c.result.ensures _ c.add.ensures))
    (λ c.
    difference_is c.args.op c.args.x c.args.y c.result-in-2.result c.in-2.is (c.result-in-2.ensures _ c.sub.ensures))
    (λ c.
    product_is c.args.op c.args.x c.args.y c.result-in_default.result
    (omega (arith, c.requires.0, c.requires.1, c.in_default.in_default-own.rest.0.1, c.in_default.in_default-own.rest.1)) (c.result-in_default.ensures _ c.mul.ensures)))
