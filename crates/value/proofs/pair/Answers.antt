use mathlib.Core.Path.{ap, ◌∙◌}
use Rattle.shape.proofs.Coded.{kept_shape}
use Rattle.value.specs.Values.{joined}
use Rattle.value.proofs.Parts.{made}
use Rattle.value.proofs.pair.Goals as goal

pub returns : goal.returns
returns c =
    let a = c.args in
    made (kept_shape _ c.unwrap_or.ensures c.pair_shape.ensures) (c.joined-leaves.ensures ∙ ap (λ n. joined n a.a.leaves a.b.leaves) c.leaves_of.ensures.0)
