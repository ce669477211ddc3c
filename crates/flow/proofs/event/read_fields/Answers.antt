-- `read_fields`: each way out by its law.
use Rattle.std.proofs.Common.{refl, ◌∙◌, sym, ap}
use Rattle.flow.specs.Reads.{event_said}
use Rattle.flow.proofs.EventLaws.{no_role, no_path, no_number, no_leaf, no_action, not_allowed, fields_said}
use Rattle.flow.proofs.event.read_fields.Goals as goal

pub returns-in_err-role : goal.returns-in_err-role
returns-in_err-role c = ap event_said c.from_residual.ensures ∙ no_role c.args.s.now c.in_err-role.ensures

pub returns-in_err-path : goal.returns-in_err-path
returns-in_err-path c =
    ap event_said c.from_residual-in_err-path.ensures ∙ no_path c.args.s.now c.in_ok-role.role c.in_ok-role.ensures c.in_err-path.ensures

pub returns-in-Blank : goal.returns-in-Blank
returns-in-Blank c =
    no_number c.args.s.now c.in_ok-role.role c.in_ok-role.ensures c.in_ok-path.path c.in_ok-path.ensures c.in-Blank.ensures refl

pub returns-in-Unreadable : goal.returns-in-Unreadable
returns-in-Unreadable c =
    no_number c.args.s.now c.in_ok-role.role c.in_ok-role.ensures c.in_ok-path.path c.in_ok-path.ensures c.in-Unreadable.ensures refl

pub returns-in_err-leaves : goal.returns-in_err-leaves
returns-in_err-leaves c =
    ap event_said c.from_residual-in_err-leaves.ensures
    ∙ no_leaf c.args.s.now c.in_ok-role.role c.in_ok-role.ensures c.in_ok-path.path c.in_ok-path.ensures c.in-Number.ensures
    c.in-Number.number refl c.in_err-leaves.ensures

pub returns-in_default : goal.returns-in_default
returns-in_default c =
    no_action c.args.s.now c.in_ok-role.role c.in_ok-role.ensures c.in_ok-path.path c.in_ok-path.ensures c.in-Number.ensures
    c.in-Number.number refl c.in_ok-leaves.leaves c.in_ok-leaves.ensures c.in_default.ensures

pub returns-then-not-allowed : goal.returns-then-not-allowed
returns-then-not-allowed c =
    not_allowed c.args.s.now c.in_ok-role.role c.in_ok-role.ensures c.in_ok-path.path c.in_ok-path.ensures c.in-Number.ensures
    c.in-Number.number refl c.in_ok-leaves.leaves c.in_ok-leaves.ensures c.in-Ok.action c.in-Ok.ensures
    (sym c.allowed.ensures ∙ c.if-not-allowed.true)

pub returns : goal.returns
returns c =
    fields_said c.args.s.now c.in_ok-role.role c.in_ok-role.ensures c.in_ok-path.path c.in_ok-path.ensures c.in-Number.ensures
    c.in-Number.number refl c.in_ok-leaves.leaves c.in_ok-leaves.ensures c.in-Ok.action c.in-Ok.ensures
    (sym c.allowed.ensures ∙ c.if-not-allowed.false)
