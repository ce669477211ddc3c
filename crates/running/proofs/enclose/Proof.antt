-- `running::enclose` meets its contract, an arm by its law. Assumes nothing.
use Rattle.running.proofs.Handed.{under_let, under_step, under_none}
use mathlib.Core.Path.{sym, ◌∙◌}
use native.Mathlib.Omega.{arith}
use borrow.Author.Rules.{rules}
use Rattle.running.proofs.enclose.Statement.{statement}
use Rattle.running.proofs.enclose.Tie as tie

pub enclose_spec : {M : Type 1} → statement M
enclose_spec = tie.close (tie.spec
    (λ c κs. search rules)
    (λ c κs. search rules)
    (λ c κs. search rules)
    (λ c.
    under_let (sym c.get-kind.ensures ∙ c.in-31.is) c.bind.ensures)
    (λ c.
    let g = c.get-kind.ensures in
    under_step (omega arith) (omega arith) c.bind-in-43-to-44.ensures)
    (λ c.
    let g = c.get-kind.ensures in
    under_none c.requires.1 (λ z. c.in_default.in_default-own.rest.1 (g ∙ z)) (λ z y. omega arith))
    (λ c.
    let g = c.get-kind.ensures in
    under_none c.requires.1 (λ z. omega arith) (λ z y. omega arith)))
