use mathlib.Core.Path.{ap, ◌∙◌}
use native.Mathlib.Omega.{arith}
use Rattle.shape.specs.Digits.{width}
use Rattle.shape.proofs.Laws.{first_leaves}
use Rattle.shape.proofs.first_width.Goals as goal

pub width_of-requires : goal.width_of-requires
width_of-requires c = omega (arith, first_leaves c.args.c c.requires, c.count_leaves.ensures.0)

pub returns : goal.returns
returns c = (c.width_of.ensures.0 ∙ ap width c.count_leaves.ensures.0, c.width_of.ensures.1)
