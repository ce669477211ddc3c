-- `is_role` meets its contract: 0, and up to the last role. Assumes nothing.
use mathlib.Core.Path.{sym}
use native.Mathlib.Omega.{arith}
use borrow.Author.Tests.{le-leb}
use Rattle.tophat.specs.Roles.{is_role}
use Rattle.rows.proofs.is_role.Statement.{statement}
use Rattle.rows.proofs.is_role.Tie as tie

pub is_role_spec : {M : Type 1} → statement M
unfolding is_role
is_role_spec = tie.close (tie.spec
    (λ c. let w = c.args.w in let e = c.if-w-eq0.true in sym (rw e))
    (λ c. let w = c.args.w in sym (rw (le-leb 1 w (omega (arith, c.if-w-eq0.false))))))
