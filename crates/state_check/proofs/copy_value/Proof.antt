-- `state_check::copy_value` meets its contract. Assumes nothing.
use borrow.Author.Rules.{rules}
use Rattle.state_check.proofs.Cells.{copy_value_yes, copy_value_no}
use Rattle.state_check.proofs.copy_value.Statement.{statement}
use Rattle.state_check.proofs.copy_value.Tie as tie

pub copy_value_spec : {M : Type 1} → statement M
copy_value_spec = tie.close (tie.spec
    (λ c κs. search rules) (λ c κs. search rules) (λ c κs. search rules)
    (λ c.
    let s = c.args in
    copy_value_yes s.state.now s.row s.shape c.read_value-v.ensures c.fits.ensures.1 c.fits.ensures.0
    c.if-fits.true c.put_value.ensures)
    (λ c.
    let s = c.args in
    copy_value_no s.state.now s.row s.shape c.read_value-v.ensures c.fits.ensures.1 c.fits.ensures.0
    c.if-fits.false))
