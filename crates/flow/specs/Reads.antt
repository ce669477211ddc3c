-- An event as the engine reads it, field by field. Rests on formats' events and on crate handle's.
-- For contracts only: tied to `event_of` by the contract of `read_event`.
use Rattle.std.specs.Prelude.{Option as Maybe, Some, None, cond, List, ℕ, ◌+◌, ℤ, replicate}
use Rattle.std.proofs.Math.Option.{Option, none, some, bind}
use Rattle.decimal.specs.Field.{reads_at, action_columns, word_columns}
use Rattle.decimal.specs.Path.{Path, path_columns, reads_path_at}
use Rattle.tophat.specs.Syntax.{max_leaves}
use Rattle.tophat.specs.Leaves.{Given}
use Rattle.tophat.specs.Handling.{act_number, act_table, Action}
use Rattle.formats.specs.Records.{fields_at, number_said, each}
use Rattle.formats.specs.Touches.{role_columns, event_role, numbered, leaf_said, allowed, action_of}
use Rattle.handle.specs.Events.{event_path, event_action}
use Rattle.handle.specs.declared.Event.{Event}

-- what an event that is read says
abbrev pub event_said : Maybe Event → Option (ℕ × Path × Action)
event_said None = none
event_said (Some e) = some (e.role, event_path e, event_action e)

-- the action of a number, with leaves that it can have
unfoldable pub action_at : ℤ → List Given → Option Action
action_at n ls = bind (numbered act_number act_table n) λ a. cond (allowed a ls) (some (action_of a ls)) none

-- what the fields of an event's bytes say
unfoldable pub fields_say : List ℕ → Option (ℕ × Path × Action)
fields_say s =
    bind (event_role s) λ r.
    bind (reads_path_at s role_columns) λ p.
    bind (number_said (reads_at s (role_columns + path_columns) action_columns)) λ n.
    bind (each leaf_said (fields_at s (role_columns + path_columns + action_columns) (replicate max_leaves word_columns))) λ ls.
    bind (action_at n ls) λ x.
    some (r, p, x)
