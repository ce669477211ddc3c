-- `state_out` meets its contract, by its law. Assumes nothing.
use mathlib.Core.Path.{◌≡◌}
use borrow.Author.Rules.{rules}
use lib.ListN.{length}
use Rattle.state.specs.Lent.{state_size}
use Rattle.state.proofs.LentLaws.{state_out}
use Rattle.state.proofs.lent.state_out.Statement.{statement}
use Rattle.state.proofs.lent.state_out.Tie as tie

pub state_out_spec : {M : Type 1} → statement M
state_out_spec = tie.close (tie.spec
    (λ c κs. search rules)
    (λ c. search rules)
    (λ c. let s = c.before.before.before.before in let k = c.copy_out in
    let l : length s.args.own.now ≡ state_size = let g = s.well_formed in search rules in
    (state_out s.args.n s.args.own.now s.args.lent.now k.new.lent l s.requires.0 s.requires.1 k.ensures, l)))
