-- `start` meets its contract, each way out by its law.
use Rattle.std.proofs.Common.{refl}
use Rattle.flow.proofs.SiteLaws.{some_rows, is_fine}
use Rattle.flow.proofs.OpenLaws.{site_of}
use Rattle.flow.proofs.StartLaws.{start_20, start_21, start_0}
use Rattle.flow.proofs.start.start.Goals as goal

pub returns-in_default-clause-answered : goal.returns-in_default-clause-answered
returns-in_default-clause-answered c = (start_20 c.args.rows.now c.args.state.now c.in_default.ensures.value).0

pub returns-then-state-n-clause-answered : goal.returns-then-state-n-clause-answered
returns-then-state-n-clause-answered c =
    let z = (site_of c.args.rows.now c.in-Some.n c.in-Some.ensures.value (c.in-Some.ensures.own_after refl) (c.in-Some.ensures.all_words refl)).3 in
    (start_21 c.args.rows.now c.args.state.now z c.if-state-n.true).0

pub begin-strides-requires-clause-le_n : goal.begin-strides-requires-clause-le_n
begin-strides-requires-clause-le_n c =
    let z = (site_of c.args.rows.now c.in-Some.n c.in-Some.ensures.value (c.in-Some.ensures.own_after refl) (c.in-Some.ensures.all_words refl)).3 in
    (some_rows z, is_fine z)

pub returns : goal.returns
returns c =
    let z = (site_of c.args.rows.now c.in-Some.n c.in-Some.ensures.value (c.in-Some.ensures.own_after refl) (c.in-Some.ensures.all_words refl)).3 in
    let s = start_0 c.args.state.now c.state_out.new.lent c.begin-strides.new.words c.begin-strides.result z c.if-state-n.false c.begin-strides.ensures c.state_out.ensures.own_len c.state_out.ensures.lent_after in
    record { answered = s.0; bounded = s.1 }
