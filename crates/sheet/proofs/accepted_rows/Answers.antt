-- `accepted_rows`: the count is the definition's, and the words at exit are the engine's own rows.
use mathlib.Core.Path.{subst, sym}
use Rattle.sheet.proofs.AcceptedLaws.{Counts, counts}
use Rattle.sheet.proofs.accepted_rows.Goals as goal

pub returns : goal.returns
returns c =
    let i = c.copy_in in
    let k = subst (Counts c.args.rows.now c.args.own.now i.new.own c.requires i.ensures.own_after) (sym c.then_some.ensures)
    (counts c.args.rows.now c.args.own.now i.new.own c.requires i.ensures.own_after c.accepted_rows.result c.accepted_rows.ensures i.ensures.all_words) in
    record { value = k.0; own_after = k.1.0; all_words = k.1.1; own_after_2 = i.ensures.own_after }
