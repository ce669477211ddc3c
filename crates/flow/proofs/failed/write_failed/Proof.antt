-- `write_failed` meets its contract. Assumes nothing.
use native.Mathlib.Omega.{arith}
use borrow.Author.Rules.{rules}
use Rattle.flow.proofs.FailedLaws.{writes_failed}
use Rattle.flow.proofs.failed.write_failed.Statement.{statement}
use Rattle.flow.proofs.failed.write_failed.Tie as tie

pub write_failed_spec : {M : Type 1} → statement M
write_failed_spec = tie.close (tie.spec
    (λ c κs. let l = c.requires.0.0 in let h = c.requires.0.1.low in omega arith)
    (λ c. search rules)
    (λ c κs. search rules)
    (λ c.
    writes_failed c.requires.1 c.first_cells.ensures c.put_tag.ensures))
