use mathlib.Core.Path.{ap, ◌∙◌}
use Rattle.shape.specs.Shape.{shape_leaves}
use Rattle.shape.proofs.Coded.{kept_shape}
use Rattle.value.specs.Values.{no_leaves, joined}
use Rattle.value.proofs.Parts.{made}
use Rattle.value.proofs.first.Goals as goal

pub returns : goal.returns
returns c =
    let a = c.args in
    let s = kept_shape _ c.unwrap_or-shape.ensures c.first_shape.ensures in
    made s (c.joined-leaves.ensures ∙ ap (λ n. joined n a.a.leaves no_leaves) (c.leaves_of.ensures.0 ∙ ap shape_leaves s))
