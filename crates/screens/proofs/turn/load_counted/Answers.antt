-- `load_counted`: a count that is not met, or the load's own answer.
use mathlib.Core.Path.{sym, ap, ◌∙◌}
use native.Mathlib.Omega.{arith}
use Rattle.screens.proofs.ScreenLaws.{not_met, met}
use Rattle.screens.proofs.turn.load_counted.Goals as goal

pub returns-then-text-ne0 : goal.returns-then-text-ne0
returns-then-text-ne0 c =
    let a = c.args in
    let e = not_met a.n a.text.now a.rows.now (λ h. c.if-text-ne0.true (omega (arith, h))) in
    record { value = ap (λ p. p.0) (sym e); rows_after = ap (λ p. p.1) (sym e) }

pub returns-then-text-n : goal.returns-then-text-n
returns-then-text-n c =
    let a = c.args in
    let e = not_met a.n a.text.now a.rows.now (λ h. c.if-text-n.true (omega (arith, h))) in
    record { value = ap (λ p. p.0) (sym e); rows_after = ap (λ p. p.1) (sym e) }

pub returns : goal.returns
returns c =
    let a = c.args in
    let e = met a.n a.text.now a.rows.now (omega (arith, c.if-text-n.false, c.if-text-ne0.false)) in
    record { value = c.load.ensures.value ∙ ap (λ p. p.0) (sym e); rows_after = c.load.ensures.rows_after ∙ ap (λ p. p.1) (sym e) }
