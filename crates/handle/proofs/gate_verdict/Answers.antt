-- `gate_verdict` meets its contract, a way by its law.
use Rattle.std.proofs.Common.{sym}
use Rattle.rows.specs.declared.ground.Ground.TheVariants.{OtherRole}
use Rattle.rows.specs.GroundNumbers.{answer_number}
use Rattle.handle.proofs.Gates.{verdict_other, verdict_below, verdict_spent, verdict_open}
use Rattle.handle.proofs.Told.{told, untold}
use Rattle.handle.proofs.gate_verdict.Goals as goal

pub returns-then-role-own : goal.returns-then-role-own
returns-then-role-own c = verdict_other c.args.role c.args.own c.args.touches (answer_number c.args.verdict) c.if-role-own.true

pub returns-then-eq : goal.returns-then-eq
returns-then-eq c =
    verdict_below c.args.role c.args.own c.args.touches (answer_number c.args.verdict) c.if-role-own.false (told _ OtherRole c.args.verdict (sym c.if-eq.ensures))

pub returns-then-touches-eq0 : goal.returns-then-touches-eq0
returns-then-touches-eq0 c =
    verdict_spent c.args.role c.args.own c.args.touches (answer_number c.args.verdict) c.if-role-own.false (untold _ OtherRole c.args.verdict (sym c.if-eq.ensures))
    c.if-touches-eq0.true

pub returns : goal.returns
returns c =
    verdict_open c.args.role c.args.own c.args.touches (answer_number c.args.verdict) c.if-role-own.false (untold _ OtherRole c.args.verdict (sym c.if-eq.ensures))
    c.if-touches-eq0.false
