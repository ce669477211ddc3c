-- THE THEOREM ON REGROUPING (CR 5: "Regrouping three choices under a last row 47, from (a, b), c to a, (b, c), gives equal values and
-- failing flags after corresponding touches"): two sheets that draw the same three choices in the two ways answer alike, call by call.
--
-- Take any two accepted flows whose last rows read as 47 (47 a b) c and as 47 a (47 b c), their rows in any order and at any places, with
-- writes (kind 30) or without; a cell that a, b or c name may stand at another row of the other sheet, as long as no two of them meet there
-- and each has the first content that it had (`Regroups`, specs/Regrouped). Two states go together (`Stand`) where both are at rest, the
-- same parts are left of both in the same order, and the stores hold the same at the named cells; or where both starts left the words
-- (CR 3). Then (`Regrouped`):
--
-- - both last rows have one type;
-- - start answers 0 on both, in all memories of the right size, with equal strides, and leaves states that go together;
-- - every rest of either sheet, whether start and touches reach it or not, goes together with a rest of the other;
-- - look, in any one role, lent the same value memory and list memory, whatever they are, gives equal numbers, flags and values; where it answers 0, the
--   list is the one's with the paths of its entries moved, in the same order; where it refuses, both answers are one. Lent memories of
--   their own, two looks that answer 0 show the same in this sense too;
-- - where a touch goes: while no choice is made, marks 1 1, 1 2 and 2 against 1, 2 1 and 2 2; then the same. Touches that go together
--   get equal numbers and strides, the refused among them, and leave states that go together;
-- - each event of either sheet has such a counterpart, or its path in the other sheet would have more marks than an event can say, and then
--   it gets 9; so every touch that the one takes, the other takes too;
-- - so lists of calls that go together leave states that go together, of which all this holds again.
--
-- The calls are those of call_definitions' specs/Calls, which the code's contracts (crate flow) are equations with. Rests on
-- RegroupedStarts, RegroupedRests, RegroupedLooks, RegroupedTouches and Counterparts.
use mathlib.Core.List.{List}
use lib.IntN.{ℤ}
use Rattle.call_definitions.specs.Touches.{Call, after, run}
use Rattle.mirror.specs.Regrouped.{Regroups, Stand, Together, no_more, both_look, both_handle, Regrouped}
use Rattle.mirror.proofs.RegroupedStates.{types_same}
use Rattle.mirror.proofs.RegroupedStarts.{starts_together}
use Rattle.mirror.proofs.RegroupedRests.{rests_there, rests_back}
use Rattle.mirror.proofs.RegroupedLooks.{looks_together, shows_together}
use Rattle.mirror.proofs.RegroupedTouches.{touches_together}
use Rattle.mirror.proofs.Counterparts.{there_together, back_together}

module _ {rows rows₁ : List ℤ} (g : Regroups rows rows₁) where
  -- by one call after another
  runs_together : {ws ws₁ : List ℤ} {ks ks₁ : List Call} → Stand g ws ws₁ → Together g ws ws₁ ks ks₁
      → Stand g (run rows ws ks) (run rows₁ ws₁ ks₁)
  unfolding run after
  runs_together z no_more = z
  runs_together z (both_look d) = runs_together z d
  runs_together z (both_handle {event = event} {event₁ = event₁} y e d) = runs_together (touches_together g y event event₁ e).2 d

  pub regroup : Regrouped g
  regroup = record {
    types = types_same g;
    starts = starts_together g;
    rests = rests_there g;
    rests_back = rests_back g;
    looks = looks_together g;
    shows = shows_together g;
    touches = touches_together g;
    there = there_together g;
    back = back_together g;
    runs = runs_together;
  }
