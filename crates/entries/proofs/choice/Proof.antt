-- `entries::choice` meets its contract, by the law of choices. Assumes nothing.
use mathlib.Core.Path.{refl}
use Prim.Native.Nat.{◌+◌}
use native.Mathlib.Omega.{arith}
use borrow.Author.Rules.{rules}
use Rattle.decimal.specs.Path.{path_of}
use Rattle.state.proofs.Calls.{low_a, low_b, fine_at}
use Rattle.entries.proofs.Fronts.{After}
use Rattle.entries.proofs.Arms.{entries_choice}
use Rattle.entries.proofs.choice.Statement.{statement}
use Rattle.entries.proofs.choice.Tie as tie

pub choice_spec : {M : Type 1} → statement M
choice_spec = tie.close (tie.spec
    (λ c κs. search rules)
    (λ c κs. let l = low_a c.requires.0 _ c.operand.result refl c.operand.ensures (omega (arith, c.requires.1)) (omega (arith, c.requires.1)) in fine_at c.requires.0 c.operand.result c.args.depth (omega arith) c.requires.0.room)
    (λ c κs. search rules)
    (λ c κs.
    let l = low_b c.requires.0 _ c.operand-2.result refl c.operand-2.ensures (omega (arith, c.requires.1)) in
    fine_at c.requires.0 c.operand-2.result c.args.depth (omega arith) c.requires.0.room)
    (λ c κs. search rules)
    (λ c κs. search rules)
    (λ c. search rules)
    (λ c. search rules)
    (λ c. search rules)
    (λ c κs. search rules)
    (λ c. omega (arith, c.button.ensures.most, c.button-n.ensures.most))
    (λ c. search rules)
    (λ c.
    let m = c.button-n.ensures.most in
    let m₂ = c.button.ensures.most in
    let after : After c.args.list.now c.button-n.new.list c.button-n.result c.button.result c.least-at.result (c.button-n.result + c.button.result) =
    record { kept = c.button-n.auto.list; place = c.least-at.ensures; sum = record { at_most = omega (arith, m, m₂); first = λ _. refl; second = λ h. absurd (omega (arith, m, m₂, h)) } } in
    (omega (arith, m, m₂), λ v. entries_choice v c.args.rows.now c.args.state.now c.args.row c.args.env.now c.args.depth (path_of c.args.marks) c.args.list.now c.requires.2 c.operand.result c.operand-2.result c.tried-left.result c.tried-right.result c.requires.1 c.operand.ensures c.operand-2.ensures after c.tried-left.ensures c.tried-right.ensures c.button-n.ensures c.button.ensures)))
