-- `has` meets its contract. Assumes nothing.
use mathlib.Core.Path.{sym}
use native.Mathlib.Omega.{arith}
use borrow.Author.Tests.{lt-leb}
use Rattle.decimal.proofs.ReadLaws.{has_rest}
use Prim.Native.Nat.{◌+◌}
use Rattle.decimal.proofs.part.has.Statement.{statement}
use Rattle.decimal.proofs.part.has.Tie as tie

pub has_spec : {M : Type 1} → statement M
has_spec = tie.close (tie.spec
    (λ c. sym (lt-leb (c.args.at + c.args.width) c.args.len (omega arith)))
    (λ c. has_rest c.args.len c.args.at c.args.width c.if-len-at.false))
