-- Records of text: fields in columns, one after another, and byte 10 (01, "The sheet", "Touches and what is shown", "A session in
-- full"). The widths of a record's fields are a list; its places and its length are computed from them. Rests on the fields of
-- decimal.
-- Believed, but for `items_in`, for proofs only, and the code's answers after `items_of`: for contracts only.
use Rattle.std.specs.Prelude.{Option as Maybe, Some, None, Bool, ◌&&◌, List, [], ◌∷◌, ◌++◌, map, ℕ, ◌+◌, eqb, ℤ, length, get_or, take}
use Rattle.std.proofs.Math.Option.{Option, none, some, bind}
use Rattle.std.specs.Int.{w32}
use Rattle.std.proofs.Common.{to_z, of_z}
use Rattle.decimal.specs.Field.{Field, number, blank, unreadable, written, reads_at, put_at, newline}
use Rattle.decimal.specs.Path.{Path, written_path}
use Rattle.tophat.specs.Leaves.{Given}

-- how many columns fields are together
abbrev pub total : List ℕ → ℕ
total [] = 0
total (w ∷ ws) = w + total ws

-- where field k begins
abbrev pub place_of : List ℕ → ℕ → ℕ
place_of ws k = total (take k ws)

-- the length of a record: its columns and byte 10
abbrev pub record_bytes : List ℕ → ℕ
record_bytes ws = total ws + 1

-- ---- reading

-- s has the length of a record of these fields, and ends in byte 10
unfoldable pub is_record : List ℕ → List ℕ → Bool
is_record ws s = eqb (length s) (record_bytes ws) && eqb (get_or s (total ws) 0) newline

-- what fields of these widths say, one after another from `at` on
unfoldable pub fields_at : List ℕ → ℕ → List ℕ → List Field
fields_at s at [] = []
fields_at s at (w ∷ ws) = reads_at s at w ∷ fields_at s (at + w) ws

-- the number that a field says, if it says one
unfoldable pub number_said : Field → Option ℤ
number_said (number z) = some z
number_said blank = none
number_said unreadable = none

-- what f makes of each, if it makes something of each
unfoldable pub each : {X Y : Type 0} → (X → Option Y) → List X → Option (List Y)
each f [] = some []
each f (x ∷ xs) = bind (f x) λ y. bind (each f xs) λ ys. some (y ∷ ys)

-- ---- writing

-- a text, where there is one
unfoldable pub text_of : Option (List ℕ) → List ℕ
text_of none = []
text_of (some t) = t

-- a path's field
abbrev pub path_field : Path → List ℕ
path_field p = text_of (written_path p)

-- a field's columns, and the number in it
abbrev pub Item : Type 0
Item = ℕ × ℤ

-- fields of these columns with these numbers
abbrev pub items_in : List ℕ → List ℤ → List Item
items_in (w ∷ ws) (z ∷ zs) = (w, z) ∷ items_in ws zs
items_in [] zs = []
items_in (w ∷ ws) [] = []

abbrev pub item_text : Item → List ℕ
item_text i = text_of (written i.0 i.1)

-- fields one after another
unfoldable pub items_text : List Item → List ℕ
items_text [] = []
items_text (i ∷ is) = item_text i ++ items_text is

-- fields one after another from `at` on, over the bytes s. A number too long for its columns, and a field that s does not have,
-- leave the bytes there as they are
unfoldable pub put_items : List ℕ → ℕ → List Item → List ℕ
put_items s at [] = s
put_items s at (i ∷ is) = put_items (put_at s at i.0 (written i.0 i.1)).1 (at + i.0) is

-- ---- a number for each leaf, as code has them: bits

-- fields of w columns
abbrev pub items_of : ℕ → List ℕ → List Item
items_of w ns = map (λ n. (w, to_z w32 n)) ns

-- a leaf of an event: a number's bits, or blank
unfoldable pub leaf_bits : Given → Maybe ℕ
leaf_bits none = None
leaf_bits (some z) = Some (of_z w32 z)

-- the code's answer for a leaf, and for all of them, where each can be read
abbrev pub leaf_read : Option Given → Maybe (Maybe ℕ)
leaf_read none = None
leaf_read (some l) = Some (leaf_bits l)

abbrev pub leaves_read : Option (List Given) → Maybe (List (Maybe ℕ))
leaves_read none = None
leaves_read (some ls) = Some (map leaf_bits ls)
