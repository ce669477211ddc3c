-- `load`: each way out by its law.
use mathlib.Core.Path.{◌≡◌, sym, ◌∙◌}
use native.Mathlib.Omega.{arith}
use borrow.Author.Rules.{rules}
use lib.ListN.{length}
use Rattle.std.specs.Prelude.{Err}
use Rattle.sheet.proofs.LoadLaws.{is_sized, answers_1, answers_21, answers_2, answers_rows, answers_0}
use Rattle.sheet.proofs.load.Goals as goal

pub returns-then-not-is_sized : goal.returns-then-not-is_sized
returns-then-not-is_sized c =
    let a = answers_1 c.args.sheet.now c.args.rows.now (sym c.is_sized.ensures ∙ c.if-not-is_sized.true) in
    record { value = a.0; rows_after = a.1 }

pub returns-then-rows-n : goal.returns-then-rows-n
returns-then-rows-n c =
    let a = answers_21 c.args.sheet.now c.args.rows.now (sym c.is_sized.ensures ∙ c.if-not-is_sized.false) c.if-rows-n.true in
    record { value = a.0; rows_after = a.1 }

pub read_lines-requires-clause-n_le_max_rows : goal.read_lines-requires-clause-n_le_max_rows
read_lines-requires-clause-n_le_max_rows c =
    let z = is_sized (length c.args.sheet.now) (sym c.is_sized.ensures ∙ c.if-not-is_sized.false) in
    (z.few, omega (arith, z.whole))

pub returns-in_err-read_lines : goal.returns-in_err-read_lines
returns-in_err-read_lines c =
    let r : c.from_residual.result ≡ Err c.in_err-read_lines.field-0.0 = search rules in
    let a = answers_2 c.args.sheet.now c.args.rows.now (sym c.is_sized.ensures ∙ c.if-not-is_sized.false) c.if-rows-n.false
    c.read_lines.new.own c.in_err-read_lines.field-0.0 c.from_residual.result c.in_err-read_lines.ensures r in
    record { value = a.0; rows_after = a.1 }

pub ground_of_rows-requires : goal.ground_of_rows-requires
ground_of_rows-requires c =
    let z = is_sized (length c.args.sheet.now) (sym c.is_sized.ensures ∙ c.if-not-is_sized.false) in
    (z.some_lines, z.few)

pub returns-in_err-ground_of_rows : goal.returns-in_err-ground_of_rows
returns-in_err-ground_of_rows c =
    let r : c.from_residual-in_err-ground_of_rows.result ≡ Err c.in_err-ground_of_rows.field-0.0 = search rules in
    let a = answers_rows c.args.sheet.now c.args.rows.now (sym c.is_sized.ensures ∙ c.if-not-is_sized.false) c.if-rows-n.false
    c.read_lines.new.own c.in_ok-read_lines.ensures c.in_err-ground_of_rows.field-0.0 c.from_residual-in_err-ground_of_rows.result c.in_err-ground_of_rows.ensures r in
    record { value = a.0; rows_after = a.1 }

pub returns : goal.returns
returns c =
    let a = answers_0 c.args.sheet.now c.args.rows.now (sym c.is_sized.ensures ∙ c.if-not-is_sized.false) c.if-rows-n.false
    c.read_lines.new.own c.in_ok-read_lines.ensures c.copy_out.new.lent c.in_ok-ground_of_rows.ensures c.copy_out.ensures in
    record { value = a.0; rows_after = a.1 }
