-- `begin` meets its contract. Assumes nothing.
use mathlib.Core.Path.{refl}
use native.Mathlib.Omega.{arith}
use borrow.Author.Rules.{rules}
use Rattle.flow.proofs.StartLaws.{begins, begins_failed}
use Rattle.flow.proofs.start.begin.Statement.{statement}
use Rattle.flow.proofs.start.begin.Tie as tie

first_cells_requires' : tie.Need-first_cells-requires
first_cells_requires' = λ c κs. let l = c.requires.0.0 in let h = c.requires.0.1.low in omega arith

sub_evaluate' : tie.Need-overflow_sub-n
sub_evaluate' = λ c. search rules

evaluate_requires' : tie.Need-evaluate-requires
evaluate_requires' = λ c κs. search rules

write_failed_requires' : tie.Need-write_failed-requires
write_failed_requires' c κs = (c.requires.0, refl)

returns' : tie.Need-returns-then-evaluate
returns' c =
    begins_failed c.args.rows.now c.args.n c.args.words.now c.first_cells.new.work c.evaluate.new.state c.write_failed.new.words _ c.evaluate.result
    c.requires.1 c.first_cells.ensures c.evaluate.ensures c.if-evaluate.true c.write_failed.ensures

sub_normalise' : tie.Need-overflow_sub-n-2
sub_normalise' = λ c. search rules

normalise_requires' : tie.Need-normalise-requires
normalise_requires' = λ c κs. search rules

returns_2' : tie.Need-returns
returns_2' c =
    let m = c.normalise in
    begins c.args.rows.now c.args.n c.args.words.now c.first_cells.new.work c.evaluate.new.state m.new.state _ c.evaluate.result m.result
    c.requires.1 c.first_cells.ensures c.evaluate.ensures c.if-evaluate.false m.ensures

pub begin_spec : {M : Type 1} → statement M
begin_spec = tie.close (tie.spec first_cells_requires' sub_evaluate' evaluate_requires' write_failed_requires' returns' sub_normalise' normalise_requires' returns_2')
