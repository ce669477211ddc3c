-- A number's shape and the touches are put after the tag.
use mathlib.Core.Path.{refl}
use native.Mathlib.Omega.{arith}
use Rattle.shape.specs.Shape.{as_shape, put}
use Rattle.state.proofs.Words.{put_is, laid_more}
use Rattle.state.proofs.put_touches.Goals as goal

pub returns : goal.returns
unfolding as_shape put
returns c =
    laid_more refl (put_is (omega arith) c.put-2.ensures.state_after c.put-2.ensures.m_after)
    (laid_more refl (put_is (omega arith) c.put.ensures.state_after c.put.ensures.m_after) c.put_tag.ensures)
