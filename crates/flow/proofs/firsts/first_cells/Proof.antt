-- `first_cells` meets its contract. Assumes nothing.
use native.Mathlib.Omega.{arith}
use mathlib.Core.Path.{◌≡◌}
use Prim.Native.Nat.{◌-◌, ◌≤◌}
use borrow.Author.Rules.{rules}
use Rattle.flow.specs.Firsts.{CellsFirst}
use Rattle.flow.proofs.FirstLaws.{no_firsts, more_firsts, all_firsts}
use Rattle.flow.proofs.firsts.first_cells.Statement.{statement}
use Rattle.flow.proofs.firsts.first_cells.Tie as tie

abbrev invariant-loop : tie.invariant-loop-i
invariant-loop rows n work₀ i₀ work i = (i ≤ n) × CellsFirst rows work₀ work i

abbrev decreases-loop : tie.decreases-loop-i
decreases-loop rows n work₀ i₀ work i = n - i

loop_holds' : tie.Need-loop-i-init invariant-loop decreases-loop
loop_holds' = λ c. (omega arith, no_firsts c.args.rows.now c.args.work.now)

first_cell_requires' : tie.Need-first_cell-requires invariant-loop decreases-loop
first_cell_requires' = λ c κs. let l = c.loop-i-test.true in let h = c.requires in omega arith

add_i' : tie.Need-overflow_step-i invariant-loop decreases-loop
add_i' = λ c. search rules

loop_less' : tie.Need-loop-i-smaller invariant-loop decreases-loop
loop_less' = λ c. let l = c.loop-i-test.true in omega arith

loop_again' : tie.Need-loop-i-preserved invariant-loop decreases-loop
loop_again' = λ c. let l = c.loop-i-test.true in (omega arith, more_firsts c.loop-i.invariant.1 c.first_cell.ensures)

returns' : tie.Need-returns invariant-loop decreases-loop
returns' = λ c. let l = c.loop-i-test.false in let k = c.loop-i.invariant.0 in all_firsts (let e : c.loop-i.i ≡ c.args.n = omega arith in e) c.loop-i.invariant.1

pub first_cells_spec : {M : Type 1} → statement M
first_cells_spec = tie.close (tie.spec invariant-loop decreases-loop loop_holds' first_cell_requires' add_i' loop_less' loop_again' returns')
