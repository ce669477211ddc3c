-- `value::result` meets its contract, by `exactly_is`. Assumes nothing.
use mathlib.Core.Path.{ap, ◌∙◌}
use mir.Syntax.{w32}
use mir.Val.{to_z}
use Rattle.tophat.specs.Syntax.{vnumber}
use Rattle.value.specs.Values.{as_value}
use Rattle.value.proofs.Operators.{exactly_is}
use Rattle.value.proofs.result.Goals as goal

pub returns : goal.returns
returns c z e =
    ap (λ v. record { over = c.is_none.result; value = v }) (c.number.ensures ∙ ap (λ w. as_value (vnumber (to_z w32 w))) c.unwrap_or.ensures)
    ∙ exactly_is z c.args.r c.is_none.result c.is_none.ensures e
