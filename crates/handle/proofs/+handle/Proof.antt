-- `handle::handle` meets its contract: at a row that hands on by the law of all such rows, else an arm by the law of its form; its
-- measure is the row, which falls. Assumes nothing.
use mathlib.Core.Path.{sym, ◌∙◌, subst}
use native.Mathlib.Omega.{arith}
use borrow.Author.Rules.{rules}
use Rattle.decimal.specs.Path.{path_of}
use Rattle.state.specs.Ensured.{HandleOk}
use Rattle.state.proofs.Calls.{low_a, fine_at}
use Rattle.eval.proofs.Arms.{call_a, call_b}
use Rattle.running.proofs.Handing.{low_part, fine_part}
use Rattle.rows.specs.GroundNumbers.{answer_number}
use Rattle.handle.specs.Events.{event_path, event_action}
use Rattle.decimal.proofs.Answers.{front_empty, front_one, front_two}
use Rattle.handle.proofs.Passing.{handle_then, handle_next, handle_continue, handle_first, handle_second, handle_unmarked}
use Rattle.handle.proofs.Choosing.{handle_none}
use Rattle.handle.proofs.Gates.{handle_part}
use Prim.Native.Nat.{ℕ, ◌<◌}
use borrow.Fn.Kinds.{In}
use borrow.Fn.PlainCycle.{Measures, is, falls, and}
use Rattle.handle.proofs.handle.Reads as handle
use Rattle.handle.proofs.handle.Kinds as handle-kinds
use Rattle.handle.proofs.+handle.Lts-handle as handle-lts
use Rattle.normalising.proofs.attempt.Reads as attempt-reads
use Rattle.decimal.proofs.path.front_mark.Reads as front-mark-reads
use Rattle.handle.proofs.answer.Reads as answer-reads
use Rattle.handle.proofs.edit.Reads as edit-reads
use Rattle.handle.proofs.going_on.Reads as going-on-reads
use Rattle.handle.proofs.inside.Reads as inside-reads
use Rattle.handle.proofs.pass.Reads as pass-reads
use Rattle.handle.proofs.pick.Reads as pick-reads
use Rattle.rows.proofs.get.Reads as get-reads
use Rattle.rows.proofs.operand.Reads as operand-reads
use Rattle.running.proofs.enclose.Reads as enclose-reads
use Rattle.running.proofs.handed_on.Reads as handed_on-reads
use Rattle.handle.proofs.+handle.{statement}
use Rattle.handle.proofs.+handle.Tie.{close}

abbrev μ_handle : Measures 3 handle-kinds.ps ℕ
μ_handle κs a = a.1.1.0

abbrev handle_at : ℕ → In 3 handle-kinds.ps
handle_at t = and 3 handle-kinds.ps (is 3 handle-kinds.ps μ_handle t) handle.Pre

abbrev handle_below : ℕ → In 3 handle-kinds.ps
handle_below t = and 3 handle-kinds.ps (falls 3 handle-kinds.ps ◌<◌ μ_handle t) handle.Pre

abbrev handle_calls : ℕ → handle-lts.Claims
handle_calls t = (handed_on-reads.Asked, handed_on-reads.Learnt, enclose-reads.Asked, enclose-reads.Learnt, operand-reads.Asked, operand-reads.Learnt, handle_below t, handle.Post, pass-reads.Asked, pass-reads.Learnt, get-reads.Asked, get-reads.Learnt, going-on-reads.Asked, going-on-reads.Learnt, attempt-reads.Asked, attempt-reads.Learnt, answer-reads.Asked, answer-reads.Learnt, pick-reads.Asked, pick-reads.Learnt, edit-reads.Asked, edit-reads.Learnt, front-mark-reads.Asked, front-mark-reads.Learnt, inside-reads.Asked, inside-reads.Learnt)

pub +handle_spec : {M : Type 1} → statement M
+handle_spec = close μ_handle λ t. handle-lts.spec (handle_calls t) (handle_at t)
    handle.Post
    (λ c κs. c.requires.1.low)
    (λ c κs.
    (c.requires.1.low, c.requires.1.room))
    (λ c κs.
    (c.requires.1.low, c.handed_on-part.ensures.low))
    (λ c κs.
    let l = low_part c.args.rows.now c.args.row c.requires.1 (c.handed_on-part.ensures.on c.if-part-ne0.true) c.operand.ensures in
    (omega (arith, c.requires.0), (fine_part c.args.rows.now c.args.row c.requires.1 (c.handed_on-part.ensures.on c.if-part-ne0.true) c.operand.ensures c.enclose-under.ensures.room)))
    (λ c κs.
    c.requires.1.low)
    (λ c.
    handle_part c.args.rows.now c.args.state.now c.handle-told.new.state c.pass.new.state c.args.row c.args.env.now
    c.args.depth c.args.e.role (event_path c.args.e) (event_action c.args.e) (answer_number c.handle-told.result) (answer_number c.pass.result) c.pass.ensures
    (c.handed_on-part.ensures.on c.if-part-ne0.true) c.operand.ensures c.enclose-under.new.env c.enclose-under.result
    c.enclose-under.ensures c.handle-told.ensures)
    (λ c κs. (c.requires.1.low, omega arith))
    (λ c κs.
    (c.requires.1.low, omega arith))
    (λ c κs.
    let q = call_a (c.requires.0, c.requires.1) c.get-kind.result c.operand-a.result c.get-kind.ensures c.operand-a.ensures (omega (arith, c.in-43.is)) (omega (arith, c.in-43.is)) in
    (q.0, q.1))
    (λ c κs.
    let h = low_a c.requires.1 c.get-kind.result c.operand-a.result c.get-kind.ensures c.operand-a.ensures (omega (arith, c.in-44.is)) (omega (arith, c.in-44.is)) in
    fine_at c.requires.1 c.operand-a.result 0 (omega arith) (omega arith))
    (λ c. search rules)
    (λ c κs.
    (c.requires.1, omega (arith, c.get-kind.ensures, c.in-44.is), omega (arith, c.get-kind.ensures, c.in-44.is)))
    (λ c κs. search rules)
    (λ c.
    handle_continue c.args.rows.now c.args.state.now c.attempt.new.state c.args.row c.args.env.now
    c.args.depth (answer_number c.answer.result) c.args.e c.operand-a.result c.going_on.result
    (c.handed_on-part.ensures.none c.if-part-ne0.false) (sym c.get-kind.ensures ∙ c.in-44.is) c.operand-a.ensures
    c.going_on.ensures c.attempt.result c.answer.ensures c.in-Some.is c.attempt.ensures)
    (λ c. search rules)
    (λ c κs.
    let q = call_a (c.requires.0, c.requires.1) c.get-kind.result c.operand-a.result c.get-kind.ensures c.operand-a.ensures (omega (arith, c.in-44.is)) (omega (arith, c.in-44.is)) in
    (q.0, q.1))
    (λ c κs.
    (c.requires.1, sym c.get-kind.ensures ∙ c.in-48.is, (c.handed_on-part.ensures.none c.if-part-ne0.false)))
    (λ c κs. search rules)
    (λ c κs.
    (fine_at c.requires.1 c.args.row 0 (omega arith) (omega arith), omega (arith, c.get-kind.ensures, c.in-40-to-42.if-kind-lt40-own.false), omega (arith, c.get-kind.ensures, c.in-40-to-42.if-kind-lt43-own.true)))
    (λ c κs. search rules)
    (λ c κs.
    (c.requires.1.low, omega arith))
    (λ c κs. search rules)
    (λ c. search rules)
    (λ c. search rules)
    (λ c κs. search rules)
    (λ c κs.
    let q = call_a (c.requires.0, c.requires.1) c.get-kind.result c.operand-a.result c.get-kind.ensures c.operand-a.ensures (omega (arith, c.in-46-to-47.if-kind-lt46-own.false))
    (omega (arith, c.in-46-to-47.if-kind-lt48-own.true)) in
    (q.0, q.1))
    (λ c. search rules)
    (λ c κs. search rules)
    (λ c κs.
    let q = call_b (c.requires.0, c.requires.1) c.get-kind.result c.operand-b.result c.get-kind.ensures c.operand-b.ensures (omega (arith, c.in-46-to-47.if-kind-lt46-own.false)) in
    (q.0, q.1))
    (λ c.
    handle_then c.args.rows.now c.args.state.now c.handle.new.state c.args.row c.args.env.now
    c.args.depth (answer_number c.handle.result) c.args.e.role c.operand-a.result (event_path c.args.e) (event_action c.args.e)
    (c.handed_on-part.ensures.none c.if-part-ne0.false) (sym c.get-kind.ensures ∙ c.in-43.is) c.operand-a.ensures
    c.handle.ensures)
    (λ c.
    handle_next c.args.rows.now c.args.state.now c.handle-in-44.new.state c.args.row c.args.env.now
    c.args.depth (answer_number c.handle-in-44.result) c.args.e c.operand-a.result c.going_on.result
    (c.handed_on-part.ensures.none c.if-part-ne0.false) (sym c.get-kind.ensures ∙ c.in-44.is) c.operand-a.ensures
    c.going_on.ensures c.in_default-going_on.is c.handle-in-44.ensures)
    (λ c.
    subst (HandleOk c.args.rows.now c.args.state.now c.pick.new.state c.args.row c.args.env.now c.args.depth c.args.e.role (event_path c.args.e) (event_action c.args.e))
    (sym c.answer-in-48.ensures) c.pick.ensures)
    (λ c.
    subst (HandleOk c.args.rows.now c.args.state.now c.edit.new.state c.args.row c.args.env.now c.args.depth c.args.e.role (event_path c.args.e) (event_action c.args.e))
    (sym c.answer-in-40-to-42.ensures) (c.edit.ensures c.args.env.now c.args.depth))
    (λ c.
    handle_unmarked c.args.rows.now c.args.state.now c.args.row c.args.env.now c.args.depth c.args.e.role
    (event_path c.args.e) (event_action c.args.e) (c.handed_on-part.ensures.none c.if-part-ne0.false)
    (omega (arith, c.get-kind.ensures, c.in-46-to-47.if-kind-lt46-own.false)) (omega (arith, c.get-kind.ensures, c.in-46-to-47.if-kind-lt48-own.true))
    (front_empty (event_path c.args.e) (sym c.in-Empty.is ∙ c.front_mark-front.ensures)))
    (λ c.
    handle_first c.args.rows.now c.args.state.now c.handle-in-First.new.state c.args.row c.args.env.now
    c.args.depth (answer_number c.handle-in-First.result) c.args.e.role (event_path c.args.e) (event_action c.args.e)
    (c.handed_on-part.ensures.none c.if-part-ne0.false) (omega (arith, c.get-kind.ensures, c.in-46-to-47.if-kind-lt46-own.false))
    (omega (arith, c.get-kind.ensures, c.in-46-to-47.if-kind-lt48-own.true)) c.operand-a.result (path_of c.in-First.rest)
    c.operand-a.ensures
    (front_one (event_path c.args.e) c.in-First.rest (sym c.in-First.is ∙ c.front_mark-front.ensures))
    (subst (λ f. HandleOk c.args.rows.now c.args.state.now c.handle-in-First.new.state c.operand-a.result c.args.env.now c.args.depth f.role (event_path f) (event_action f) (answer_number c.handle-in-First.result)) c.inside.ensures c.handle-in-First.ensures))
    (λ c.
    handle_second c.args.rows.now c.args.state.now c.handle-in-Second.new.state c.args.row c.args.env.now
    c.args.depth (answer_number c.handle-in-Second.result) c.args.e.role (event_path c.args.e) (event_action c.args.e)
    (c.handed_on-part.ensures.none c.if-part-ne0.false) (omega (arith, c.get-kind.ensures, c.in-46-to-47.if-kind-lt46-own.false))
    (omega (arith, c.get-kind.ensures, c.in-46-to-47.if-kind-lt48-own.true)) c.operand-b.result (path_of c.in-Second.rest)
    c.operand-b.ensures
    (front_two (event_path c.args.e) c.in-Second.rest (sym c.in-Second.is ∙ c.front_mark-front.ensures))
    (subst (λ f. HandleOk c.args.rows.now c.args.state.now c.handle-in-Second.new.state c.operand-b.result c.args.env.now c.args.depth f.role (event_path f) (event_action f) (answer_number c.handle-in-Second.result)) c.inside-in-Second.ensures c.handle-in-Second.ensures))
    (λ c.
    handle_none c.args.rows.now c.args.state.now c.args.row c.args.env.now c.args.depth c.args.e.role
    (event_path c.args.e) (event_action c.args.e) (c.handed_on-part.ensures.none c.if-part-ne0.false)
    (λ l h. omega (arith, c.get-kind.ensures, c.in_default.if-kind-lt40-own.true)) (λ l h. omega (arith, c.get-kind.ensures, c.in_default.if-kind-lt40-own.true)))
    (λ c.
    handle_none c.args.rows.now c.args.state.now c.args.row c.args.env.now c.args.depth c.args.e.role
    (event_path c.args.e) (event_action c.args.e) (c.handed_on-part.ensures.none c.if-part-ne0.false)
    (λ l h. let k = c.get-kind.ensures in let x = c.in_default.if-kind-lt43-own.false in let m = c.in_default.in_default-own.rest.0.0.1 in let n = c.in_default.in_default-own.rest.0.1 in omega arith)
    (λ l h. omega (arith, c.get-kind.ensures, c.in_default.if-kind-lt46-own.true)))
    (λ c.
    handle_none c.args.rows.now c.args.state.now c.args.row c.args.env.now c.args.depth c.args.e.role
    (event_path c.args.e) (event_action c.args.e) (c.handed_on-part.ensures.none c.if-part-ne0.false)
    (λ l h. omega (arith, c.get-kind.ensures, c.in_default.if-kind-lt48-own.false))
    (λ l h. let k = c.get-kind.ensures in let x = c.in_default.if-kind-lt48-own.false in let m = c.in_default.in_default-own.rest.1 in omega arith))
