-- `open` meets its contract, each way out by its law.
use Rattle.std.proofs.Common.{refl}
use Rattle.std.proofs.lemmas.Bool.{not_from_false, not_from_true}
use Rattle.flow.proofs.SiteLaws.{some_rows, is_fine}
use Rattle.flow.proofs.OpenLaws.{site_of, open_20, open_length, open_misfit, ends, open_22, open_failed, open_23, open_0}
use Rattle.flow.proofs.open.open.Goals as goal

pub returns-in_default : goal.returns-in_default
returns-in_default c =
    open_20 c.args.rows.now c.args.state.now c.accepted_rows.new.own c.args.words.now c.args.fits c.in_default.ensures.value

pub returns-then-state-n : goal.returns-then-state-n
returns-then-state-n c =
    let q = c.accepted_rows in
    let n = c.in-Some.n in
    let z = (site_of c.args.rows.now n c.in-Some.ensures.value (c.in-Some.ensures.own_after refl) (c.in-Some.ensures.all_words refl)).3 in
    let wr = c.in-Some.ensures.all_words refl in
    open_length c.args.rows.now c.args.state.now q.new.own c.args.words.now c.args.fits n z wr c.if-state-n.true

pub returns-then-not-fits : goal.returns-then-not-fits
returns-then-not-fits c =
    let q = c.accepted_rows in
    let n = c.in-Some.n in
    let z = (site_of c.args.rows.now n c.in-Some.ensures.value (c.in-Some.ensures.own_after refl) (c.in-Some.ensures.all_words refl)).3 in
    let wr = c.in-Some.ensures.all_words refl in
    open_misfit c.args.rows.now c.args.state.now q.new.own c.args.words.now c.args.fits n z wr (not_from_false _ c.if-not-fits.true)

pub held-requires : goal.held-requires
held-requires c =
    let q = c.accepted_rows in
    let n = c.in-Some.n in
    let z = (site_of c.args.rows.now n c.in-Some.ensures.value (c.in-Some.ensures.own_after refl) (c.in-Some.ensures.all_words refl)).3 in
    let wr = c.in-Some.ensures.all_words refl in
    let w = c.state_in in
    record { le_n = (some_rows z, is_fine z); to_write = (ends c.args.rows.now c.args.state.now q.new.own w.new.own c.args.fits n z wr (not_from_true _ c.if-not-fits.false) c.if-state-n.false w.ensures.all_words w.ensures.own_after, refl) }

pub is_failed-requires : goal.is_failed-requires
is_failed-requires c =
    let q = c.accepted_rows in
    let n = c.in-Some.n in
    let z = (site_of c.args.rows.now n c.in-Some.ensures.value (c.in-Some.ensures.own_after refl) (c.in-Some.ensures.all_words refl)).3 in
    let wr = c.in-Some.ensures.all_words refl in
    let w = c.state_in in
    record {
      le_n = (some_rows z, is_fine z);
      to_write = (
        ends c.args.rows.now c.args.state.now q.new.own w.new.own c.args.fits n z wr (not_from_true _ c.if-not-fits.false) c.if-state-n.false w.ensures.all_words w.ensures.own_after,
        c.held.ensures.work_after c.if-not-held.true,
      );
    }

pub returns-then-is_failed : goal.returns-then-is_failed
returns-then-is_failed c =
    let q = c.accepted_rows in
    let n = c.in-Some.n in
    let z = (site_of c.args.rows.now n c.in-Some.ensures.value (c.in-Some.ensures.own_after refl) (c.in-Some.ensures.all_words refl)).3 in
    let wr = c.in-Some.ensures.all_words refl in
    let w = c.state_in in
    open_failed c.args.rows.now c.args.state.now q.new.own w.new.own c.args.fits n z wr (not_from_true _ c.if-not-fits.false) c.if-state-n.false
    w.ensures.all_words w.ensures.own_after c.held.result c.held.new.work c.held.ensures.held_ok (not_from_false _ c.if-not-held.true) c.is_failed.result c.is_failed.ensures c.if-is_failed.true

pub returns-then-not-held : goal.returns-then-not-held
returns-then-not-held c =
    let q = c.accepted_rows in
    let n = c.in-Some.n in
    let z = (site_of c.args.rows.now n c.in-Some.ensures.value (c.in-Some.ensures.own_after refl) (c.in-Some.ensures.all_words refl)).3 in
    let wr = c.in-Some.ensures.all_words refl in
    let w = c.state_in in
    open_22 c.args.rows.now c.args.state.now q.new.own w.new.own c.args.fits n z wr (not_from_true _ c.if-not-fits.false) c.if-state-n.false
    w.ensures.all_words w.ensures.own_after c.held.result c.held.new.work c.held.ensures.held_ok (not_from_false _ c.if-not-held.true) c.is_failed.result c.is_failed.ensures c.if-is_failed.false

pub overflow_sub-n : goal.overflow_sub-n
overflow_sub-n c =
    let z = (site_of c.args.rows.now c.in-Some.n c.in-Some.ensures.value (c.in-Some.ensures.own_after refl) (c.in-Some.ensures.all_words refl)).3 in
    some_rows z

pub stride-requires : goal.stride-requires
stride-requires c =
    let q = c.accepted_rows in
    let n = c.in-Some.n in
    let z = (site_of c.args.rows.now n c.in-Some.ensures.value (c.in-Some.ensures.own_after refl) (c.in-Some.ensures.all_words refl)).3 in
    let wr = c.in-Some.ensures.all_words refl in
    is_fine z

pub returns-then-stride : goal.returns-then-stride
returns-then-stride c =
    let q = c.accepted_rows in
    let n = c.in-Some.n in
    let z = (site_of c.args.rows.now n c.in-Some.ensures.value (c.in-Some.ensures.own_after refl) (c.in-Some.ensures.all_words refl)).3 in
    let wr = c.in-Some.ensures.all_words refl in
    let w = c.state_in in
    open_23 c.args.rows.now c.args.state.now q.new.own w.new.own c.args.fits n z wr (not_from_true _ c.if-not-fits.false) c.if-state-n.false
    w.ensures.all_words w.ensures.own_after c.held.result c.held.new.work c.held.ensures.held_ok (not_from_true _ c.if-not-held.false) c.stride.result c.stride.new.state _ c.stride.ensures c.if-stride.true

pub returns : goal.returns
returns c =
    let q = c.accepted_rows in
    let n = c.in-Some.n in
    let z = (site_of c.args.rows.now n c.in-Some.ensures.value (c.in-Some.ensures.own_after refl) (c.in-Some.ensures.all_words refl)).3 in
    let wr = c.in-Some.ensures.all_words refl in
    let w = c.state_in in
    open_0 c.args.rows.now c.args.state.now q.new.own w.new.own c.args.fits n z wr (not_from_true _ c.if-not-fits.false) c.if-state-n.false
    w.ensures.all_words w.ensures.own_after c.held.result c.held.new.work c.held.ensures.held_ok (not_from_true _ c.if-not-held.false) c.stride.result c.stride.new.state _ c.stride.ensures c.if-stride.false
