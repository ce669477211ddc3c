-- `refuse` meets its contract. Assumes nothing.
use mathlib.Core.Path.{refl}
use borrow.Author.Rules.{rules}
use Rattle.screens.proofs.ScreenLaws.{drawn_refused}
use Rattle.screens.proofs.turn.refuse.Statement.{statement}
use Rattle.screens.proofs.turn.refuse.Tie as tie

pub refuse_spec : {M : Type 1} → statement M
refuse_spec = tie.close (tie.spec
    (λ c κs. search rules)
    (λ c.
    let a = c.args in
    (refl, drawn_refused a.number a.out.now c.write.new.s c.requires (search rules) c.write.auto.s c.write.ensures)))
