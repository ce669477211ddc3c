-- `value::compared` meets its contract, an arm by the law of its operator. Assumes nothing.
use native.Mathlib.Omega.{arith}
use borrow.Author.Rules.{rules}
use Rattle.value.proofs.Operators.{less_is, less_equal_is, equal_is}
use Rattle.value.proofs.compared.Statement.{statement}
use Rattle.value.proofs.compared.Tie as tie

pub compared_spec : {M : Type 1} → statement M
compared_spec = tie.close (tie.spec
    (λ c κs. search rules) (λ c κs. search rules) (λ c κs. search rules)
    (λ c. less_is c.args.op c.args.x c.args.y c.less.result c.in-4.is c.less.ensures)
    (λ c. less_equal_is c.args.op c.args.x c.args.y c.at_most.result c.in-5.is c.at_most.ensures)
    (λ c.
    equal_is c.args.op c.args.x c.args.y c.equal.result
    (omega (arith, c.requires.0, c.requires.1, c.in_default.in_default-own.rest.0.1, c.in_default.in_default-own.rest.1)) c.equal.ensures))
