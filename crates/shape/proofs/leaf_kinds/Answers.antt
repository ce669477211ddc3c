use mathlib.Core.Path.{sym, ◌∙◌}
use native.Mathlib.Omega.{arith}
use Rattle.shape.proofs.LeafKinds.{kinds_none, kinds_room, kinds_yes}
use Rattle.shape.proofs.leaf_kinds.Goals as goal

pub store_leaves-requires : goal.store_leaves-requires
store_leaves-requires c = omega (arith, kinds_room c.args.shape (λ e. c.if-leaves_of-ne0.true (c.leaves_of.ensures.0 ∙ e)))

pub returns-then-leaves_of-ne0 : goal.returns-then-leaves_of-ne0
returns-then-leaves_of-ne0 c = c.store_leaves.ensures ∙ kinds_yes c.args.shape (λ e. c.if-leaves_of-ne0.true (c.leaves_of.ensures.0 ∙ e))

pub returns-else-leaves_of-ne0 : goal.returns-else-leaves_of-ne0
returns-else-leaves_of-ne0 c = kinds_none c.args.shape (sym c.leaves_of.ensures.0 ∙ c.if-leaves_of-ne0.false)
