-- `begin`: a load that is refused, a start that is refused, and the first screen.
use Rattle.std.proofs.Common.{◌≡◌, refl, sym, ◌∙◌, arith, rules, Ok, Err}
use Rattle.rows.specs.GroundNumbers.{number_of_ground}
use Rattle.rows.proofs.GroundNumbers.{some_number}
use Rattle.screens.proofs.Bounds.{start_few}
use Rattle.screens.proofs.ScreenLaws.{begin_refused, begin_unstarted, begin_started}
use Rattle.screens.proofs.turn.begin.Goals as goal

pub returns-in-Err : goal.returns-in-Err
returns-in-Err c =
    let a = c.args in
    let e : c.into.result ≡ number_of_ground c.in-Err.ground = search rules in
    begin_refused a.n a.text.now a.rows.now a.state.now a.out.now c.into.result c.load_counted.new.rows (e ∙ c.in-Err.ensures.value) c.load_counted.ensures.rows_after
    (λ z. some_number c.in-Err.ground (sym e ∙ z)) c.refuse.result c.refuse.new.out c.refuse.ensures

pub show-bytes-requires : goal.show-bytes-requires
show-bytes-requires c =
    let f = start_few c.load_counted.new.rows c.args.state.now (Ok c.in-Ok.strides) c.start.new.state c.in-Ok.ensures.answered c.in-Ok.ensures.bounded in
    (c.told-out, f.0, f.1)

pub returns-in-Ok : goal.returns-in-Ok
returns-in-Ok c =
    let a = c.args in
    begin_started a.n a.text.now a.rows.now a.state.now a.out.now 0 c.load_counted.new.rows c.in_default.ensures.value c.load_counted.ensures.rows_after
    refl (Ok c.in-Ok.strides) c.start.new.state c.in-Ok.ensures.answered refl c.show-bytes.result c.show-bytes.new.out c.show-bytes.ensures

pub returns-in-Err-start : goal.returns-in-Err-start
returns-in-Err-start c =
    let a = c.args in
    begin_unstarted a.n a.text.now a.rows.now a.state.now a.out.now 0 c.load_counted.new.rows c.in_default.ensures.value c.load_counted.ensures.rows_after
    refl (Err c.in-Err-start.ground) c.start.new.state c.in-Err-start.ensures.answered (some_number c.in-Err-start.ground)
    c.refuse-in-Err-start.result c.refuse-in-Err-start.new.out (rw c.from.ensures at c.refuse-in-Err-start.ensures)
