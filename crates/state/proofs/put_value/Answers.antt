-- A shape and leaves are put after the tag.
use mathlib.Core.Path.{refl}
use mathlib.Core.List.{[], ◌∷◌}
use native.Mathlib.Omega.{arith}
use Rattle.state.specs.Tags.{tag_word}
use Rattle.state.proofs.Words.{put_is, laid_more, leaves_none, leaves_more, leaves_all}
use Rattle.state.proofs.put_value.Goals as goal

pub loop-k-init : goal.loop-k-init
loop-k-init c = leaves_none _ _ _ c.args.v.leaves

pub loop-k-preserved : goal.loop-k-preserved
loop-k-preserved c =
    leaves_more c.args.v.leaves c.loop-k.k (omega arith) (put_is (omega arith) c.put-in-loop-k.ensures.state_after c.put-in-loop-k.ensures.m_after) c.loop-k.invariant

pub returns : goal.returns
returns c =
    let a = c.args in
    leaves_all a.v.leaves c.loop-k.k (omega arith) c.loop-k.invariant a.state.now (tag_word a.tag ∷ a.v.shape ∷ []) refl
    (laid_more refl (put_is (omega arith) c.put.ensures.state_after c.put.ensures.m_after) c.put_tag.ensures)
