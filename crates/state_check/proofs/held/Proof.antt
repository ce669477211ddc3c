-- `state_check::held` meets its contract: what `written` answers, and zeros where it answers no. Assumes nothing.
use mathlib.Core.Path.{refl}
use borrow.Author.Rules.{rules}
use Rattle.state_check.proofs.Deciding.{held_yes, held_no}
use Rattle.state_check.proofs.held.Statement.{statement}
use Rattle.state_check.proofs.held.Tie as tie

pub held_spec : {M : Type 1} → statement M
held_spec = tie.close (tie.spec
    (λ c κs. search rules)
    (λ c. held_yes c.written.ensures c.if-written.true)
    (λ c. (held_no c.written.ensures c.if-written.false, (λ e. refl))))
