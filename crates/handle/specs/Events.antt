-- What the engine's events stand for (01, "Touches and what is shown"): a role is its number (CR 6), a path is one number, and a leaf is
-- its bits, or blank (CR 2). Rests on the calculus' events and on the numbers of paths.
-- For contracts only: tied to `event_of` by the contract of flow's `read_event`.
use Rattle.std.specs.Prelude.{◌≡◌, Option as Maybe, Some, None, Bool, true, false, List, map, ℕ, unwrap_or}
use Rattle.std.proofs.Math.Option.{none, some}
use Rattle.std.specs.Int.{w32}
use Rattle.std.proofs.Common.{to_z}
use Rattle.decimal.specs.Path.{Path, path_of}
use Rattle.tophat.specs.declared.Action.{Action as Chosen}
use Rattle.tophat.specs.declared.Action.TheVariants.{Value, Continue, Left, Right}
use Rattle.tophat.specs.Leaves.{Given}
use Rattle.tophat.specs.Handling.{continue, left, right, Action, give, press}
use Rattle.handle.specs.declared.Event.{Event}

-- a leaf, and its bits, where a blank's are 0
abbrev pub leaf_by : Maybe ℕ → Given
leaf_by None = none
leaf_by (Some n) = some (to_z w32 n)

abbrev pub bits_of : Maybe ℕ → ℕ
bits_of l = unwrap_or l 0

unfoldable pub leaves_by : List (Maybe ℕ) → List Given
leaves_by ls = map leaf_by ls

-- the action that is chosen, with these leaves
abbrev pub action_by : Chosen → List Given → Action
action_by Value ls = give ls
action_by Continue ls = press continue
action_by Left ls = press left
action_by Right ls = press right

abbrev pub event_path : Event → Path
event_path e = path_of e.path

abbrev pub event_action : Event → Action
event_action e = action_by e.action (leaves_by e.leaves)

-- r tells whether the event is the action a at the path's end
pub record Ends (e : Event) (a : Chosen) (r : Bool) : Type 0 where
  pub yes : r ≡ true → (e.path ≡ 0) × (e.action ≡ a)
  pub no : r ≡ false → e.path ≡ 0 → e.action ≡ a → ⊥

-- the event as a part sees it, past a mark
abbrev pub passed : Event → ℕ → Event
passed e p = record { role = e.role; path = p; action = e.action; leaves = e.leaves }
