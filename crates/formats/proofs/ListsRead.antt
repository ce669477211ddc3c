-- The bytes of a list are read back as the entries that they were written for, 35 each; and an entry's bytes cover an event's exactly
-- where the calculus' entry covers what the event says. Rests on TouchesRead.
use mathlib.Core.Path.{◌≡◌, refl, sym, ap, ◌∙◌}
use mathlib.Core.Bool.{Bool, true, false, cond}
use mathlib.Core.Option.{Option, none, some, bind}
use mathlib.Core.List.{List, [], ◌∷◌, ◌++◌, map}
use Prim.Native.Nat.{ℕ, zero, suc, ◌+◌, ◌*◌, ◌<◌, ◌≤◌}
use native.Mathlib.Omega.{arith}
use lib.IntN.{ℤ, pos}
use lib.ListN.{length, take, drop, length-append, length-map}
use lib.Seq.{take_at, drop_at, drop-drop}
use Rattle.decimal.specs.Field.{number, blank, reads_at, action_columns}
use Rattle.decimal.specs.Path.{Path, max_marks, path_columns}
use Rattle.tophat.specs.Syntax.{max_leaves}
use Rattle.tophat.specs.Typing.{At, here, there}
use Rattle.tophat.specs.Leaves.{Leaf, leaf_number, leaf_table}
use Rattle.tophat.specs.Showing.{Entry}
use Rattle.formats.specs.Records.{is_record, number_said, each, items_text}
use Rattle.formats.specs.Touches.{entry_columns, entry_bytes, numbered, touch_in, unless_blank, entry_says}
use Rattle.formats.specs.Lists.{offer_act, offer_kinds, entry_text, list_text, entry_at, Fits, fit_none, fit_more}
use Rattle.formats.proofs.Records.{AllFit, fit_none as items-none, fit_more as items_more}
use Rattle.formats.proofs.Each.{numbers_said}
use Rattle.formats.proofs.TouchesRead.{leaf_fits, leaves_numbered, fields, Parts, number_parts, text, text_length, text_record, shown_path_said, touch_said, text_of}

-- ---- one entry

kinds_fit : (ks : List Leaf) → AllFit (fields action_columns (map pos (map leaf_number ks)))
kinds_fit [] = items-none
kinds_fit (k ∷ ks) = items_more (leaf_fits k) (kinds_fit ks)

twice : (ks : List Leaf) → map pos (map leaf_number ks) ≡ map (λ k. pos (leaf_number k)) ks
twice [] = refl
twice (k ∷ ks) = ap (λ l. pos (leaf_number k) ∷ l) (twice ks)

module _ (e : Entry) (few : length e.0 ≤ max_marks) (all : length (offer_kinds e.1) ≡ max_leaves) where
  abbrev kinds : List ℤ
  kinds = map pos (map leaf_number (offer_kinds e.1))

  -- the path as it is written
  abbrev path : Path
  path = e.0

  path_few : length path ≤ max_marks
  path_few = few

  kinds_all : length (map number kinds) ≡ max_leaves
  kinds_all = length-map kinds number ∙ length-map (map leaf_number (offer_kinds e.1)) pos ∙ length-map (offer_kinds e.1) leaf_number ∙ all

  parts : Parts action_columns (map number kinds) (items_text (fields action_columns kinds))
  parts = number_parts action_columns kinds (kinds_fit (offer_kinds e.1))

  text_is : entry_text e ≡ text [] [] refl path path_few (offer_act e.1) action_columns parts kinds_all
  unfolding entry_text
  text_is = text_of path (offer_act e.1) action_columns kinds

  -- 35 bytes
  pub entry_length : length (entry_text e) ≡ entry_bytes
  entry_length = ap length text_is ∙ text_length [] [] refl path path_few (offer_act e.1) action_columns parts kinds_all

  -- that say its path, action and leaf kinds
  pub entry_said : entry_says (entry_text e) ≡ some (e.0, offer_act e.1, offer_kinds e.1)
  unfolding entry_says bind
  entry_said =
      let ks = offer_kinds e.1 in
      let a = offer_act e.1 in
      let r = text_record [] [] refl path path_few a action_columns parts kinds_all in
      let t = touch_said [] [] refl path path_few a action_columns parts kinds_all number_said (shown_path_said [] [] refl path path_few a action_columns parts kinds_all) (numbers_said kinds) in
      let l : each (numbered leaf_number leaf_table) kinds ≡ some ks = ap (each (numbered leaf_number leaf_table)) (twice ks) ∙ leaves_numbered ks in
      ap entry_says text_is ∙ rw (r, t, l)

both_none : {X : Type 0} (b : Bool) → ◌≡◌ {A = Option X} (cond b none none) none
both_none true = refl
both_none false = refl

-- bytes whose path's columns are all spaces say no entry: what is shown has a 0 there
pub blank_entry : (s : List ℕ) → reads_at s 0 path_columns ≡ blank → entry_says s ≡ none
unfolding entry_says touch_in unless_blank bind
blank_entry s h = rw h (both_none (is_record entry_columns s))

-- ---- a list of them

pub list_length : {m : ℕ} {es : List Entry} → Fits m es → length (list_text es) ≡ length es * entry_bytes
unfolding list_text
list_length fit_none = refl
list_length (fit_more {e} {es} l k h) =
    let a = length-append (entry_text e) (list_text es) in
    let b = entry_length e (omega arith) k in
    let c = list_length h in
    omega (arith, a, b, c)

-- the first entry, and those after it
first_at : (e s : List ℕ) → length e ≡ entry_bytes → entry_at (e ++ s) 0 ≡ e
first_at e s h = take_at e s entry_bytes h

later_at : (e s : List ℕ) (i : ℕ) → length e ≡ entry_bytes → entry_at (e ++ s) (suc i) ≡ entry_at s i
later_at e s i h =
    ap (take entry_bytes)
    (ap (λ n. drop n (e ++ s)) {x = suc i * entry_bytes} {y = entry_bytes + i * entry_bytes} (omega arith)
    ∙ sym (drop-drop (i * entry_bytes) entry_bytes (e ++ s))
    ∙ ap (drop (i * entry_bytes)) (drop_at e s entry_bytes h))

-- entry i is the text of entry i
pub list_at : {m : ℕ} {es : List Entry} {i : ℕ} {e : Entry} → Fits m es → At es i e → entry_at (list_text es) i ≡ entry_text e
unfolding list_text
list_at fit_none d = elim d [ ]
list_at (fit_more {e} {es} l k h) here = first_at (entry_text e) (list_text es) (entry_length e (omega arith) k)
list_at (fit_more {e} {es} l k h) (there {n = i} d) = later_at (entry_text e) (list_text es) i (entry_length e (omega arith) k) ∙ list_at h d

-- and where there is an entry's place, there is an entry
pub place_at : (es : List Entry) (i : ℕ) → i < length es → (e : Entry) × At es i e
place_at [] i h = absurd (omega arith)
place_at (e ∷ es) zero h = (e, here)
place_at (e ∷ es) (suc i) h = let (f, d) = place_at es i (omega arith) in (f, there d)

pub at_place : {es : List Entry} {i : ℕ} {e : Entry} → At es i e → i < length es
at_place here = omega arith
at_place (there d) = let h = at_place d in omega arith
