-- `read_role`: a variant by its law.
use Rattle.std.proofs.Common.{◌∙◌, refl, ap}
use Rattle.std.specs.Bool.{then_some}
use Rattle.formats.proofs.Roles.{role_bits, role_none}
use Rattle.formats.proofs.read_role.Goals as goal

pub returns-in-Blank : goal.returns-in-Blank
returns-in-Blank c = role_none c.args.s.now c.in-Blank.ensures refl

pub returns-in-Unreadable : goal.returns-in-Unreadable
returns-in-Unreadable c = role_none c.args.s.now c.in-Unreadable.ensures refl

pub returns : goal.returns
returns c =
    c.then_some.ensures ∙ ap (λ b. then_some b c.in-Number.bits) c.is_role.ensures
    ∙ role_bits c.args.s.now c.in-Number.ensures c.in-Number.bits refl
