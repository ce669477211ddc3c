-- `named::name_rows`: one pass over the rows.
use mathlib.Core.Path.{subst}
use Prim.Native.Nat.{◌≤◌, ◌-◌}
use native.Mathlib.Omega.{arith}
use borrow.Author.Rules.{rules}
use Rattle.rows.specs.Rows.{namings}
use Rattle.grounds.specs.Tables.{More}
use Rattle.grounds.proofs.Ground5.{name_rows_none, name_rows_more}
use Rattle.grounds.proofs.named.name_rows.Statement.{statement}
use Rattle.grounds.proofs.named.name_rows.Tie as tie

abbrev invariant-loop : tie.invariant-loop-j
invariant-loop rows table₀ n j₀ table j = (j ≤ n) × More table₀ table (λ i. namings rows i j)

abbrev decreases-loop : tie.decreases-loop-j
decreases-loop rows table₀ n j₀ table j = n - j

pub name_rows_spec : {M : Type 1} → statement M
name_rows_spec = tie.close (tie.spec
    invariant-loop
    decreases-loop
    (λ c. (omega arith, name_rows_none c.args.rows.now c.args.table.now))
    (λ c κs. search rules)
    (λ c. search rules)
    (λ c. search rules)
    (λ c.
    (omega arith, name_rows_more c.args.rows.now c.args.table.now c.loop-j.table c.name_row.new.table c.loop-j.j c.loop-j.invariant.1 c.name_row.ensures))
    (λ c.
    subst (λ k. More c.args.table.now c.loop-j.table (λ i. namings c.args.rows.now i k)) (omega arith) c.loop-j.invariant.1))
