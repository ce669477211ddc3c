-- `running::bind` meets its contract: no room, or one more binder. Assumes nothing.
use Rattle.running.proofs.Handed.{bound_push}
use borrow.Author.Rules.{rules}
use Rattle.running.proofs.bind.Statement.{statement}
use Rattle.running.proofs.bind.Tie as tie

pub bind_spec : {M : Type 1} → statement M
bind_spec = tie.close (tie.spec
    (λ c. search rules)
    (λ c κs. search rules)
    (λ c κs. search rules)
    (λ c. search rules)
    (λ c.
    bound_push c.if-depth-ge-MAX_BINDERS.false c.read_value.ensures c.push.ensures))
