-- Events and entries as bytes (01, "Touches and what is shown"; ground 8): each a path, an action and a number for each leaf, read by
-- the same rules but for blanks, which only an event has (CR 2); an event has a role in front of these (CR 6). And when an entry covers
-- an event. Rests on Records, and on the calculus' tables of actions and leaf kinds.
-- Believed.
use Rattle.std.specs.Prelude.{◌≡◌, Bool, true, ◌&&◌, cond, List, [], ◌∷◌, ◌++◌, map, ℕ, ◌+◌, ℤ, pos, negsuc, replicate}
use Rattle.std.proofs.Math.Option.{Option, none, some, bind}
use Rattle.word.specs.Word.{eq_z}
use Rattle.decimal.specs.Field.{Field, number, blank, unreadable, reads_at, action_columns, word_columns}
use Rattle.decimal.specs.Path.{Path, path_columns, reads_path_at}
use Rattle.tophat.specs.Syntax.{max_leaves}
use Rattle.tophat.specs.Leaves.{Given, Leaf, leaf_number, leaf_table, Meets}
use Rattle.tophat.specs.Roles.{is_role}
use Rattle.tophat.specs.Handling.{Act, giving, pressing, act_number, act_table, Action, give, press}
use Rattle.formats.specs.Records.{record_bytes, is_record, fields_at, number_said, each, path_field, items_text}

-- CR 6: "a role in 2 columns in front"
abbrev pub role_columns : ℕ
role_columns = 2

-- CR 6: events are 117 bytes: role in columns 1-2, path 3-18, action 19-20, then CR 4's eight "leaves of 12 columns, byte 10"
abbrev pub event_columns : List ℕ
event_columns = role_columns ∷ path_columns ∷ action_columns ∷ replicate max_leaves word_columns

-- CR 4: entries are 35 bytes. 01: "path and action as above", then eight "leaf kinds of 2 columns .., byte 10"
abbrev pub entry_columns : List ℕ
entry_columns = path_columns ∷ action_columns ∷ replicate max_leaves action_columns

abbrev pub event_bytes : ℕ
event_bytes = record_bytes event_columns

abbrev pub entry_bytes : ℕ
entry_bytes = record_bytes entry_columns

-- the element of a table whose number this is
unfoldable pub numbered : {X : Type 0} → (X → ℕ) → List X → ℤ → Option X
numbered f [] z = none
numbered f (x ∷ xs) z = cond (eq_z z (pos (f x))) (some x) (numbered f xs z)

-- a path, an action, and for each leaf what f makes of its field of w columns; the path's columns begin at `at`
unfoldable pub touch_in : {X : Type 0} → Option Path → (Field → Option X) → ℕ → ℕ → List ℕ → Option (Path × Act × List X)
touch_in path f w at s =
    bind path λ p.
    bind (number_said (reads_at s (at + path_columns) action_columns)) λ n.
    bind (numbered act_number act_table n) λ a.
    bind (each f (fields_at s (at + path_columns + action_columns) (replicate max_leaves w))) λ ls.
    some (p, a, ls)

-- its text, the action by its number
abbrev pub touch_text : Path → ℕ → ℕ → List ℤ → List ℕ
touch_text p a w zs = path_field p ++ items_text ((action_columns, pos a) ∷ map (λ z. (w, z)) zs)

-- ---- roles (CR 6)

-- the role that a field says: a number by the field rule, "1 to 8, else 8"
unfoldable pub role_said : Field → Option ℕ
role_said (number (pos r)) = cond (is_role r) (some r) none
role_said (number (negsuc n)) = none
role_said blank = none
role_said unreadable = none

abbrev pub event_role : List ℕ → Option ℕ
event_role s = role_said (reads_at s 0 role_columns)

-- ---- events

-- CR 2: a leaf is a number or blank
unfoldable pub leaf_said : Field → Option Given
leaf_said (number z) = some (some z)
leaf_said blank = some none
leaf_said unreadable = none

-- whether every leaf is 0 or blank
unfoldable pub is_nothing : Given → Bool
is_nothing none = true
is_nothing (some z) = eq_z z (pos 0)

unfoldable pub all_nothing : List Given → Bool
all_nothing [] = true
all_nothing (l ∷ ls) = is_nothing l && all_nothing ls

-- ground 8: "or a leaf not 0 at actions 2 to 4"
unfoldable pub allowed : Act → List Given → Bool
allowed giving ls = true
allowed (pressing b) ls = all_nothing ls

-- what an event's bytes say: a role, a path, an action and the leaves; none is ground 8
unfoldable pub event_says : List ℕ → Option (ℕ × Path × Act × List Given)
event_says s =
    cond (is_record event_columns s)
    (bind (event_role s) λ r.
    bind (touch_in (reads_path_at s role_columns) leaf_said word_columns role_columns s) λ t.
    cond (allowed t.1 t.2) (some (r, t.0, t.1, t.2)) none)
    none

-- the same as the calculus has it
unfoldable pub action_of : Act → List Given → Action
action_of giving ls = give ls
action_of (pressing b) ls = press b

unfoldable pub event_of : List ℕ → Option (ℕ × Path × Action)
event_of s = bind (event_says s) λ t. some (t.0, t.1, action_of t.2 t.3)

-- ---- entries

-- CR 2: "what we write still shows 0": an entry's path is not blank
unfoldable pub unless_blank : {X : Type 0} → Field → Option X → Option X
unless_blank (number z) o = o
unless_blank blank o = none
unless_blank unreadable o = o

abbrev pub entry_path : List ℕ → Option Path
entry_path s = unless_blank (reads_at s 0 path_columns) (reads_path_at s 0)

-- what an entry's bytes say: a path, an action and leaf kinds
unfoldable pub entry_says : List ℕ → Option (Path × Act × List Leaf)
entry_says s =
    cond (is_record entry_columns s)
    (bind (touch_in (entry_path s) number_said action_columns 0 s) λ t. bind (each (numbered leaf_number leaf_table) t.2) λ ks. some (t.0, t.1, ks))
    none

-- 01: "An entry covers a readable event of its path and action whose leaves meet its leaf kinds", of whatever role
pub record CoversBytes (entry event : List ℕ) : Type 0 where
  pub role : ℕ
  pub path : Path
  pub act : Act
  pub kinds : List Leaf
  pub leaves : List Given
  pub says_entry : entry_says entry ≡ some (path, act, kinds)
  pub says_event : event_says event ≡ some (role, path, act, leaves)
  pub meets : Meets kinds leaves
