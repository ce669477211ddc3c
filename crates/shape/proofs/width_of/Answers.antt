use mathlib.Core.Path.{◌∙◌}
use native.Mathlib.Omega.{arith}
use Rattle.shape.proofs.Puts.{width_pos}
use Rattle.shape.proofs.Laws.{width_power, width_fits}
use Rattle.shape.proofs.width_of.Goals as goal

pub pow-requires : goal.pow-requires
pow-requires c = omega (arith, width_power c.args.n c.max.result c.max.ensures, width_fits c.args.n c.requires)

pub returns : goal.returns
returns c =
    let e = c.pow.ensures ∙ width_power c.args.n c.max.result c.max.ensures in
    (e, omega (arith, e, width_pos c.args.n))
