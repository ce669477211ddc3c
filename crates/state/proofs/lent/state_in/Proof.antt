-- `state_in` meets its contract, by its law. Assumes nothing.
use borrow.Author.Rules.{rules}
use Rattle.state.proofs.LentLaws.{state_in}
use Rattle.state.proofs.lent.state_in.Statement.{statement}
use Rattle.state.proofs.lent.state_in.Tie as tie

pub state_in_spec : {M : Type 1} → statement M
state_in_spec = tie.close (tie.spec
    (λ c κs. search rules)
    (λ c. let k = c.copy_in in
    state_in c.args.n c.args.lent.now c.args.own.now k.new.own c.requires.0.0 c.requires.0.1 c.requires.1 k.ensures.0 k.ensures.1))
