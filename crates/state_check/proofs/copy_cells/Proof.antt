-- `state_check::copy_cells` meets its contract; before each round the cells below it are copied. Assumes nothing.
use Rattle.std.proofs.lemmas.Bool.{not_from_false, not_from_true}
use mathlib.Core.Bool.{true}
use mathlib.Core.Path.{◌≡◌}
use Prim.Native.Nat.{◌-◌, ◌≤◌}
use native.Mathlib.Omega.{arith}
use borrow.Author.Rules.{rules}
use Rattle.state_check.specs.Copies.{CellsOk}
use Rattle.state_check.proofs.Cells.{no_cells, next_cells, no_more_cells, all_cells}
use Rattle.state_check.proofs.copy_cells.Statement.{statement}
use Rattle.state_check.proofs.copy_cells.Tie as tie

abbrev invariant-loop : tie.invariant-loop-i
invariant-loop rows n state work₀ i₀ work i = (i ≤ n) × CellsOk rows state work₀ work i true

abbrev decreases-loop : tie.decreases-loop-i
decreases-loop rows n state work₀ i₀ work i = n - i

pub copy_cells_spec : {M : Type 1} → statement M
copy_cells_spec = tie.close (tie.spec invariant-loop decreases-loop
    (λ c. (omega arith, no_cells c.args.rows.now c.args.state.now c.args.work.now))
    (λ c κs.
    let l = c.loop-i-test.true in
    let h = c.requires in
    omega arith)
    (λ c.
    let s = c.args in
    no_more_cells s.rows.now s.state.now c.loop-i.i s.n c.loop-i.invariant.1 c.loop-i-test.true c.copy_cell.ensures
    (not_from_false _ c.if-not-copy_cell.true))
    (λ c. search rules)
    (λ c. let l = c.loop-i-test.true in omega arith)
    (λ c.
    let l = c.loop-i-test.true in
    (omega arith, next_cells c.args.state.now c.loop-i.invariant.1 c.copy_cell.ensures (not_from_true _ c.if-not-copy_cell.false)))
    (λ c.
    let l = c.loop-i-test.false in
    let k = c.loop-i.invariant.0 in
    all_cells c.args.state.now c.loop-i.invariant.1 (let e : c.loop-i.i ≡ c.args.n = omega arith in e)))
