-- `handle::pick` meets its contract, a way by its law. Assumes nothing.
use mathlib.Core.Path.{sym}
use native.Mathlib.Omega.{arith}
use borrow.Author.Rules.{rules}
use Rattle.state.proofs.Calls.{low_a, low_b, fine_at}
use Rattle.handle.proofs.Choosing.{handle_left, handle_right, handle_unpicked}
use Rattle.handle.proofs.pick.Statement.{statement}
use Rattle.handle.proofs.pick.Tie as tie
use Rattle.rows.specs.Kinds.{task_k, xor_k, number_of}

pub pick_spec : {M : Type 1} → statement M
pick_spec = tie.close (tie.spec
    (λ c κs. search rules)
    (λ c κs. (c.requires.0.low, omega arith))
    (λ c κs.
    let f = c.requires.0 in
    let h = low_a f (number_of (task_k xor_k)) c.operand.result (sym c.requires.1) c.operand.ensures (omega arith) (omega arith) in
    (f.low, fine_at f c.operand.result c.args.depth (omega arith) f.room))
    (λ c.
    handle_left c.args.rows.now c.args.state.now c.side.new.state c.args.row c.args.env.now
    c.args.depth c.side.result c.args.e c.requires.2 c.requires.1 c.operand.result
    (c.ends.ensures.yes c.if-ends.true) c.operand.ensures c.side.ensures)
    (λ c κs. search rules)
    (λ c κs.
    (c.requires.0.low, omega arith))
    (λ c κs.
    let f = c.requires.0 in
    let h = low_b f (number_of (task_k xor_k)) c.operand-then-ends-2.result (sym c.requires.1) c.operand-then-ends-2.ensures (omega arith) in
    (f.low, fine_at f c.operand-then-ends-2.result c.args.depth (omega arith) f.room))
    (λ c.
    handle_right c.args.rows.now c.args.state.now c.side-then-ends-2.new.state c.args.row c.args.env.now
    c.args.depth c.side-then-ends-2.result c.args.e c.requires.2 c.requires.1 c.operand-then-ends-2.result
    (c.ends-2.ensures.yes c.if-ends-2.true) c.operand-then-ends-2.ensures c.side-then-ends-2.ensures)
    (λ c.
    handle_unpicked c.args.rows.now c.args.state.now c.args.row c.args.env.now c.args.depth
    c.args.e c.requires.2 c.requires.1 (c.ends.ensures.no c.if-ends.false)
    (c.ends-2.ensures.no c.if-ends-2.false)))
