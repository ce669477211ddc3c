-- `show` meets its contract.
use Rattle.std.proofs.Common.{ap, ◌∙◌, arith}
use Rattle.rows.specs.GroundNumbers.{answer_number}
use Rattle.flow.specs.Starts.{strides_of}
use Rattle.flow.proofs.LookLaws.{shown_is}
use Rattle.screens.specs.Heads.{head_over}
use Rattle.screens.proofs.ScreenLaws.{bytes_few, head_in_code, drawn}
use Rattle.screens.proofs.turn.show.Goals as goal

pub overflow_cast-h : goal.overflow_cast-h
overflow_cast-h c =
    let q = c.fill-seen in
    let b = bytes_few c.args.rows.now c.args.state.now c.args.role (answer_number c.args.answer) (strides_of c.args.answer) c.args.out.now c.requires.0 q.result q.new.value q.new.list q.auto.list q.ensures in
    let e = ap (λ l. l.bytes) (shown_is q.result c.unwrap_or_default-shown.ensures) in
    record { fits = omega (arith, b, e) }

pub overflow_add-result : goal.overflow_add-result
overflow_add-result c =
    let q = c.fill-seen in
    let b = bytes_few c.args.rows.now c.args.state.now c.args.role (answer_number c.args.answer) (strides_of c.args.answer) c.args.out.now c.requires.0 q.result q.new.value q.new.list q.auto.list q.ensures in
    let e = ap (λ l. l.bytes) (shown_is q.result c.unwrap_or_default-shown.ensures) in
    record { fits = omega (arith, b, e) }

pub returns : goal.returns
returns c =
    let q = c.fill-seen in
    let e = shown_is q.result c.unwrap_or_default-shown.ensures in
    rw e
    (drawn c.args.rows.now c.args.state.now c.args.role (answer_number c.args.answer) (strides_of c.args.answer) c.args.out.now c.requires.0 q.result q.new.value q.new.list q.auto.list q.ensures
    c.requires.1 c.requires.2 q.auto.value c.copy_in.ensures.all_words c.copy_in.new.own c.write.new.s c.copy_in.ensures.own_after c.write.auto.s
    (c.write.ensures ∙ ap (head_over _) (head_in_code q.result c.number.ensures c.unwrap_or.ensures c.from.ensures c.from-2.ensures e)))
