use mathlib.Core.Path.{ap, ◌∙◌}
use Rattle.shape.specs.Shape.{shape_leaves}
use Rattle.shape.proofs.Coded.{kept_shape}
use Rattle.value.specs.Values.{leaves_from}
use Rattle.value.proofs.Parts.{made}
use Rattle.value.proofs.second.Goals as goal

pub returns : goal.returns
returns c =
    let a = c.args in
    let s = kept_shape _ c.unwrap_or.ensures c.first_shape.ensures in
    made (kept_shape _ c.unwrap_or-2.ensures c.second_shape.ensures)
    (c.leaves_from-leaves.ensures ∙ ap (λ n. leaves_from n a.a.leaves) (c.leaves_of.ensures.0 ∙ ap shape_leaves s))
