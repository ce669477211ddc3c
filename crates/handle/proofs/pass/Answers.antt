-- `pass` meets its contract, a way by its law.
use Rattle.std.proofs.Common.{sym, ◌∙◌}
use Rattle.rows.specs.declared.ground.Ground.TheVariants.{NotHandled}
use Rattle.handle.proofs.Gates.{pass_other, pass_none, pass_gate_lem}
use Rattle.handle.proofs.Told.{told, untold}
use Rattle.handle.proofs.pass.Goals as goal

pub returns-then-get : goal.returns-then-get
returns-then-get c = pass_other (λ e. c.if-get.true (c.get.ensures ∙ e))

pub returns-then-eq : goal.returns-then-eq
returns-then-eq c = pass_none (told _ NotHandled c.args.answer (sym c.if-eq.ensures))

pub returns : goal.returns
returns c =
    pass_gate_lem (sym c.get.ensures ∙ c.if-get.false) (untold _ NotHandled c.args.answer (sym c.if-eq.ensures)) c.get-2.ensures c.read_touches-touches.ensures
    c.saturating_sub.ensures c.put_touches.ensures c.gate_verdict.ensures
