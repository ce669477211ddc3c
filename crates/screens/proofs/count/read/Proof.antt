-- `read` meets its contract, each way out by its law. Assumes nothing.
use borrow.Author.Rules.{rules}
use mathlib.Core.Path.{sym, subst}
use Prim.Native.Nat.{◌≤◌}
use native.Mathlib.Omega.{arith}
use Rattle.rows.specs.Rows.{max_rows}
use Rattle.screens.proofs.CountLaws.{no_count, no_end, count_number, count_blank, count_unread, count_few}
use Rattle.screens.proofs.count.read.Statement.{statement}
use Rattle.screens.proofs.count.read.Tie as tie

pub read_spec : {M : Type 1} → statement M
read_spec = tie.close (tie.spec
    (λ c. (no_count c.args.s.now c.if-s-ne-COUNT_BYTES.true, omega arith))
    (λ c. search rules)
    (λ c.
    (no_end c.args.s.now c.if-s-ne-COUNT_BYTES.false c.if-s-ne-NEWLINE.true, omega arith))
    (λ c κs. search rules)
    (λ c. search rules)
    (λ c κs. search rules)
    (λ c. search rules)
    (λ c. search rules)
    (λ c.
    let s = c.args.s.now in
    let q = c.read-reading in
    let e = count_number s c.if-s-ne-COUNT_BYTES.false c.if-s-ne-NEWLINE.false q.result q.ensures c.in-Number.bits c.few.result c.in-Number.is c.few.ensures in
    (e, subst (λ n. n ≤ max_rows) (sym e) (count_few s)))
    (λ c.
    let s = c.args.s.now in
    let q = c.read-reading in
    (count_blank s c.if-s-ne-COUNT_BYTES.false c.if-s-ne-NEWLINE.false q.result q.ensures c.in-Blank.is, omega arith))
    (λ c.
    let s = c.args.s.now in
    let q = c.read-reading in
    (count_unread s c.if-s-ne-COUNT_BYTES.false c.if-s-ne-NEWLINE.false q.result q.ensures c.in-Unreadable.is, omega arith)))
