-- A row is cleared word by word.
use native.Mathlib.Omega.{arith}
use Rattle.state.proofs.Words.{put_is, clear_none, clear_more, clear_all}
use Rattle.state.proofs.clear_row.Goals as goal

pub loop-m-init : goal.loop-m-init
loop-m-init c = clear_none _ _

pub loop-m-preserved : goal.loop-m-preserved
loop-m-preserved c = clear_more (omega arith) (put_is (omega arith) c.put.ensures.state_after c.put.ensures.m_after) c.loop-m.invariant

pub returns : goal.returns
returns c = clear_all (omega arith) c.loop-m.invariant
