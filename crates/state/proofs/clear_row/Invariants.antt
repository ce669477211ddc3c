-- The words below m are zeros, and no other row has changed.
use Rattle.state.proofs.Words.{ClearTo}
use Rattle.state.proofs.clear_row.Given as goal

abbrev pub invariant-loop-m : goal.invariant-loop-m
invariant-loop-m l = ClearTo l.initial.state l.state l.row l.m
