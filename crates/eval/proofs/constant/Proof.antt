-- `eval::constant` meets its contract, an arm by the law of its kind. Assumes nothing.
use mathlib.Core.Path.{sym, ◌∙◌}
use native.Mathlib.Omega.{arith}
use borrow.Author.Rules.{rules}
use Rattle.eval.proofs.Arms.{eval_unit, eval_truth, eval_number, eval_binder}
use Rattle.eval.proofs.constant.Statement.{statement}
use Rattle.eval.proofs.constant.Tie as tie

pub constant_spec : {M : Type 1} → statement M
constant_spec = tie.close (tie.spec
    (λ c κs. search rules) (λ c κs. search rules) (λ c κs. search rules) (λ c κs. search rules)
    (λ c κs. search rules) (λ c κs. search rules) (λ c κs. search rules)
    (λ c. eval_unit c.args.rows.now c.args.row c.args.env.now c.args.depth c.unit.result (sym c.requires.2 ∙ c.in-20.is) c.unit.ensures)
    (λ c.
    eval_truth c.args.rows.now c.args.row c.args.env.now c.args.depth c.truth.result c.get.result
    (sym c.requires.2 ∙ c.in-21.is) c.get.ensures c.truth.ensures)
    (λ c.
    eval_number c.args.rows.now c.args.row c.args.env.now c.args.depth c.number.result c.get-in-22.result
    (sym c.requires.2 ∙ c.in-22.is) c.get-in-22.ensures c.number.ensures)
    (λ c.
    eval_binder c.args.rows.now c.args.row c.args.env.now c.args.depth c.env_get.result
    c.operand.result
    (let p = c.requires in let x = p.2 in let y = p.3 in let z = p.4 in omega (arith, c.in_default.in_default-own.rest.0.0.1, c.in_default.in_default-own.rest.0.1, c.in_default.in_default-own.rest.1))
    c.operand.ensures c.env_get.ensures))
