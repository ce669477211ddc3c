-- The list shown, as bytes (01: "Entries are written one after another"): the text of entries, and the bytes of entry i. Rests on
-- Touches, and on the calculus' entries.
-- Believed, but for `no_kinds` and `under`: for contracts only.
use Rattle.std.specs.Prelude.{List, [], ◌∷◌, ◌++◌, map, ◌≡◌, ℕ, ◌+◌, ◌*◌, ◌<◌, ◌≤◌, pos, length, take, drop, replicate}
use Rattle.std.proofs.Math.Option.{some}
use Rattle.decimal.specs.Field.{action_columns, newline}
use Rattle.decimal.specs.Path.{Path, max_marks}
use Rattle.tophat.specs.Syntax.{max_leaves}
use Rattle.tophat.specs.Leaves.{Leaf, no_leaf, leaf_number}
use Rattle.tophat.specs.Handling.{Act, giving, pressing, act_number}
use Rattle.tophat.specs.Showing.{Offer, fill, button, Entry}
use Rattle.formats.specs.Touches.{entry_bytes, touch_text, entry_says, CoversBytes}

-- the action that an entry is for, and its leaf kinds: a button's are unused
unfoldable pub offer_act : Offer → Act
offer_act (fill ks) = giving
offer_act (button b) = pressing b

unfoldable pub offer_kinds : Offer → List Leaf
offer_kinds (fill ks) = ks
offer_kinds (button b) = replicate max_leaves no_leaf

-- a button's leaf kinds, by their numbers
abbrev pub no_kinds : List ℕ
no_kinds = replicate max_leaves 0

-- 01: "path and action as above", then CR 4's eight "leaf kinds of 2 columns .., byte 10", by their numbers
abbrev pub numbers_entry : Path → ℕ → List ℕ → List ℕ
numbers_entry p a ks = touch_text p a action_columns (map pos ks) ++ newline ∷ []

unfoldable pub entry_text : Entry → List ℕ
entry_text e = numbers_entry e.0 (act_number (offer_act e.1)) (map leaf_number (offer_kinds e.1))

unfoldable pub list_text : List Entry → List ℕ
list_text [] = []
list_text (e ∷ es) = entry_text e ++ list_text es

-- the bytes of entry i of a list
abbrev pub entry_at : List ℕ → ℕ → List ℕ
entry_at s i = take entry_bytes (drop (i * entry_bytes) s)

-- bytes that are k entries, each of which can be read
pub record Entries (shown : List ℕ) (k : ℕ) : Type 0 where
  pub whole : length shown ≡ k * entry_bytes
  pub readable : (i : ℕ) → i < k → (p : Path) × (a : Act) × (ks : List Leaf) × (entry_says (entry_at shown i) ≡ some (p, a, ks))

-- entry i of k covers the event
abbrev pub CoversAt : List ℕ → ℕ → ℕ → List ℕ → Type 0
CoversAt shown k i event = (i < k) × CoversBytes (entry_at shown i) event

-- entries with a path in front
unfoldable pub under : Path → List Entry → List Entry
under p [] = []
under p (e ∷ es) = (p ++ e.0, e.1) ∷ under p es

-- entries that can be written behind m marks: no path is too long, and each has a leaf kind for each leaf
pub data Fits (m : ℕ) : List Entry → Type 0 where
  fit_none : Fits m []
  fit_more : {e : Entry} {es : List Entry} → m + length e.0 ≤ max_marks → length (offer_kinds e.1) ≡ max_leaves → Fits m es → Fits m (e ∷ es)
