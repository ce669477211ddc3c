-- Events and entries are read back: a path, an action and fields of one width have a text that says them, numbers and, in an event,
-- blanks, whatever fields stand in front. So every touch of every role has its 117 bytes. Rests on Records.
use mathlib.Core.Path.{◌≡◌, refl, sym, ap, ap₂, ◌∙◌}
use mathlib.Core.Bool.{true}
use mathlib.Core.Option.{Option, none, some, bind}
use mathlib.Core.List.{List, [], ◌∷◌, ◌++◌, append_assoc, map}
use Prim.Native.Nat.{ℕ, ◌+◌, ◌≤◌}
use native.Mathlib.Omega.{arith}
use borrow.Author.Tests.{eq-eqb}
use lib.Dec.{lit<}
use lib.IntN.{ℤ, pos}
use lib.ListN.{length, get_or, replicate, length-append, length-map}
use lib.Seq.{get_or_at}
use Rattle.decimal.specs.Field.{Field, number, blank, unreadable, reads, reads_at, space, action_columns, word_columns, newline}
use Rattle.decimal.specs.Path.{Path, max_marks, path_columns, reads_path_at}
use Rattle.decimal.proofs.Blanks.{reads_blank}
use Rattle.tophat.specs.Syntax.{max_leaves}
use Rattle.tophat.specs.Leaves.{Given, Leaf, no_leaf, unit_leaf, truth_leaf, number_leaf, leaf_number, leaf_table}
use Rattle.tophat.specs.Handling.{continue, left, right, Act, giving, pressing, act_number, act_table}
use Rattle.formats.specs.Records.{total, record_bytes, is_record, fields_at, number_said, each, path_field, Item, item_text, items_text}
use Rattle.tophat.specs.Roles.{IsRole}
use Rattle.formats.specs.Touches.{role_columns, numbered, touch_in, touch_text, role_said, event_role, leaf_said, allowed, event_says, unless_blank}
use Rattle.formats.proofs.Items.{Fits, number_fits, word_fits, item_length, item_reads, item_in, field_in, path_length, path_in, path_shown}
use Rattle.formats.proofs.Roles.{role_fits, role_said_lem}
use Rattle.formats.proofs.Records.{AllFit, fit_none, fit_more, GivenWords, no_leaves, blank_leaf, number_leaf_lem}

-- ---- the tables: each element is found by its number

pub act_numbered : (a : Act) → numbered act_number act_table (pos (act_number a)) ≡ some a
unfolding numbered
act_numbered giving = refl
act_numbered (pressing continue) = refl
act_numbered (pressing left) = refl
act_numbered (pressing right) = refl

act_fits : (a : Act) → Fits (action_columns, pos (act_number a))
act_fits giving = number_fits action_columns (act_number giving) (omega arith) (lit< tt) (lit< tt)
act_fits (pressing continue) = number_fits action_columns (act_number (pressing continue)) (omega arith) (lit< tt) (lit< tt)
act_fits (pressing left) = number_fits action_columns (act_number (pressing left)) (omega arith) (lit< tt) (lit< tt)
act_fits (pressing right) = number_fits action_columns (act_number (pressing right)) (omega arith) (lit< tt) (lit< tt)

leaf_numbered : (k : Leaf) → numbered leaf_number leaf_table (pos (leaf_number k)) ≡ some k
unfolding numbered
leaf_numbered no_leaf = refl
leaf_numbered unit_leaf = refl
leaf_numbered truth_leaf = refl
leaf_numbered number_leaf = refl

pub leaf_fits : (k : Leaf) → Fits (action_columns, pos (leaf_number k))
leaf_fits no_leaf = number_fits action_columns (leaf_number no_leaf) (omega arith) (lit< tt) (lit< tt)
leaf_fits unit_leaf = number_fits action_columns (leaf_number unit_leaf) (omega arith) (lit< tt) (lit< tt)
leaf_fits truth_leaf = number_fits action_columns (leaf_number truth_leaf) (omega arith) (lit< tt) (lit< tt)
leaf_fits number_leaf = number_fits action_columns (leaf_number number_leaf) (omega arith) (lit< tt) (lit< tt)

pub leaves_numbered : (ks : List Leaf) → each (numbered leaf_number leaf_table) (map (λ k. pos (leaf_number k)) ks) ≡ some ks
unfolding each bind
leaves_numbered [] = refl
leaves_numbered (k ∷ ks) = let e = leaf_numbered k in let f = leaves_numbered ks in rw (e, f)

-- ---- fields of one width, one after another: what each says, and their bytes

pub data Parts (w : ℕ) : List Field → List ℕ → Type 0 where
  no_parts : Parts w [] []
  more_parts : {f : Field} {fs : List Field} (t ts : List ℕ) → length t ≡ w → reads t ≡ f → Parts w fs ts → Parts w (f ∷ fs) (t ++ ts)

module _ {w : ℕ} where
  parts_length : {fs : List Field} {ts : List ℕ} → Parts w fs ts → length ts ≡ total (replicate (length fs) w)
  parts_length no_parts = refl
  parts_length (more_parts t ts l e k) = length-append t ts ∙ ap₂ ◌+◌ l (parts_length k)

  parts_in : {fs : List Field} {ts : List ℕ} → Parts w fs ts → (p q : List ℕ) (at : ℕ) → length p ≡ at → fields_at (p ++ (ts ++ q)) at (replicate (length fs) w) ≡ fs
  unfolding fields_at
  parts_in no_parts p q at h = refl
  parts_in (more_parts {f} {fs} t ts l e k) p q at h =
      let g = ap (λ u. p ++ u) (append_assoc t ts q) in
      let a = ap (λ s. reads_at s at w) g ∙ field_in p t (ts ++ q) at w h l ∙ e in
      let b = ap (λ s. fields_at s (at + w) (replicate (length fs) w)) (g ∙ sym (append_assoc p t (ts ++ q))) ∙ parts_in k (p ++ t) q (at + w) (length-append p t ∙ (λ j. h j + l j)) in
      ap₂ ◌∷◌ a b

-- numbers
abbrev pub fields : ℕ → List ℤ → List Item
fields w zs = map (λ z. (w, z)) zs

pub number_parts : (w : ℕ) (zs : List ℤ) → AllFit (fields w zs) → Parts w (map number zs) (items_text (fields w zs))
unfolding items_text
number_parts w [] fit_none = no_parts
number_parts w (z ∷ zs) (fit_more f k) = more_parts (item_text (w, z)) (items_text (fields w zs)) (item_length f) (item_reads f) (number_parts w zs k)

-- an event's leaves: words, or spaces
abbrev pub leaf_field : Given → Field
leaf_field none = blank
leaf_field (some z) = number z

pub record Written (ls : List Given) : Type 0 where
  pub text : List ℕ
  pub parts : Parts word_columns (map leaf_field ls) text

pub written_leaves : {ls : List Given} → GivenWords ls → Written ls
written_leaves no_leaves = record { text = []; parts = no_parts }
written_leaves (blank_leaf k) =
    let t = replicate word_columns space in
    let g = written_leaves k in
    record { text = t ++ g.text; parts = more_parts t g.text refl ((reads_blank t).1 refl) g.parts }
written_leaves (number_leaf_lem {z} i k) =
    let f = word_fits z i in
    let g = written_leaves k in
    record { text = item_text (word_columns, z) ++ g.text; parts = more_parts (item_text (word_columns, z)) g.text (item_length f) (item_reads f) g.parts }

pub leaves_back : (ls : List Given) → each leaf_said (map leaf_field ls) ≡ some ls
unfolding each leaf_said bind
leaves_back [] = refl
leaves_back (none ∷ ls) = let e = leaves_back ls in rw e
leaves_back (some z ∷ ls) = let e = leaves_back ls in rw e

-- ---- a path, an action and a field for each leaf

unless_blank_lem : {X : Type 0} (f : Field) (o : Option X) → (f ≡ blank → ⊥) → unless_blank f o ≡ o
unfolding unless_blank
unless_blank_lem (number z) o n = refl
unless_blank_lem blank o n = absurd (n refl)
unless_blank_lem unreadable o n = refl

total_append : (vs ws : List ℕ) → total (vs ++ ws) ≡ total vs + total ws
total_append [] ws = omega arith
total_append (v ∷ vs) ws = let e = total_append vs ws in omega (arith, e)

-- behind the bytes `pre` of fields of the widths `lead`
module _ (lead pre : List ℕ) (long : length pre ≡ total lead)
    (p : Path) (few : length p ≤ max_marks) (a : Act) (w : ℕ) {fs : List Field} {ts : List ℕ} (parts : Parts w fs ts) (all : length fs ≡ max_leaves) where
  -- the columns of the record
  abbrev columns : List ℕ
  columns = lead ++ path_columns ∷ action_columns ∷ replicate max_leaves w

  -- where the path begins
  abbrev at : ℕ
  at = total lead

  abbrev action : Item
  action = (action_columns, pos (act_number a))

  -- its fields, one after another
  abbrev path : List ℕ
  path = pre ++ path_field p

  abbrev front : List ℕ
  front = path ++ item_text action

  abbrev pub text : List ℕ
  text = pre ++ (path_field p ++ (item_text action ++ (ts ++ newline ∷ [])))

  past_path : text ≡ path ++ (item_text action ++ (ts ++ newline ∷ []))
  past_path = sym (append_assoc pre (path_field p) (item_text action ++ (ts ++ newline ∷ [])))

  past_action : text ≡ front ++ (ts ++ newline ∷ [])
  past_action = past_path ∙ sym (append_assoc path (item_text action) (ts ++ newline ∷ []))

  text_is : text ≡ (front ++ ts) ++ newline ∷ []
  text_is = past_action ∙ sym (append_assoc front ts (newline ∷ []))

  path_long : length path ≡ at + path_columns
  path_long = length-append pre (path_field p) ∙ (λ k. long k + path_length p few k)

  front_length : length front ≡ at + path_columns + action_columns
  front_length = length-append path (item_text action) ∙ (λ k. path_long k + item_length (act_fits a) k)

  touch_length : length (front ++ ts) ≡ total columns
  touch_length =
      let l = length-append front ts in
      let m = parts_length parts ∙ ap (λ n. total (replicate n w)) all in
      let n = front_length in
      let c = total_append lead (path_columns ∷ action_columns ∷ replicate max_leaves w) in
      omega (arith, l, m, n, c)

  pub text_length : length text ≡ record_bytes columns
  text_length = ap length text_is ∙ length-append (front ++ ts) (newline ∷ []) ∙ ap (λ n. n + 1) touch_length

  pub text_record : is_record columns text ≡ true
  unfolding is_record
  text_record =
      let l = eq-eqb (length text) (record_bytes columns) text_length in
      let e = eq-eqb (get_or text (total columns) 0) newline (ap (λ s. get_or s (total columns) 0) text_is ∙ get_or_at (front ++ ts) newline [] 0 (total columns) touch_length) in
      rw (l, e)

  pub path_said : reads_path_at text at ≡ some p
  path_said = path_in p few pre (item_text action ++ (ts ++ newline ∷ [])) at long

  -- and it is not blank
  pub shown_path_said : unless_blank (reads_at text at path_columns) (reads_path_at text at) ≡ some p
  shown_path_said = unless_blank_lem (reads_at text at path_columns) (reads_path_at text at) (path_shown p few pre (item_text action ++ (ts ++ newline ∷ [])) at long) ∙ path_said

  action_said : number_said (reads_at text (at + path_columns) action_columns) ≡ some (pos (act_number a))
  unfolding number_said
  action_said = ap number_said (ap (λ s. reads_at s (at + path_columns) action_columns) past_path ∙ item_in (act_fits a) path (ts ++ newline ∷ []) (at + path_columns) path_long)

  fields_said : fields_at text (at + path_columns + action_columns) (replicate max_leaves w) ≡ fs
  fields_said =
      ap₂ (λ s n. fields_at s (at + path_columns + action_columns) (replicate n w)) past_action (sym all)
      ∙ parts_in parts front (newline ∷ []) (at + path_columns + action_columns) front_length

  -- they are said
  pub touch_said : {X : Type 0} (f : Field → Option X) {o : Option Path} {xs : List X} → o ≡ some p → each f fs ≡ some xs → touch_in o f w at text ≡ some (p, a, xs)
  unfolding touch_in bind
  touch_said f {o} {xs} e k =
      let g = action_said in
      let h = act_numbered a in
      let l : each f (fields_at text (at + path_columns + action_columns) (replicate max_leaves w)) ≡ some xs = ap (each f) fields_said ∙ k in
      rw (e, g, h, l)

-- ---- an event: a role in front

module _ (role : ℕ) (r : IsRole role) (p : Path) (few : length p ≤ max_marks) (a : Act) {ls : List Given} (g : Written ls) (all : length ls ≡ max_leaves) where
  abbrev role_item : Item
  role_item = (role_columns, pos role)

  long : length (item_text role_item) ≡ total (role_columns ∷ [])
  long = item_length (role_fits role r)

  fields_all : length (map leaf_field ls) ≡ max_leaves
  fields_all = length-map ls leaf_field ∙ all

  -- its bytes
  abbrev bytes : List ℕ
  bytes = text (role_columns ∷ []) (item_text role_item) long p few a word_columns g.parts fields_all

  role_in : event_role bytes ≡ some role
  role_in = ap role_said (item_in (role_fits role r) [] _ 0 refl) ∙ role_said_lem role r

  -- where the action can have such leaves, some bytes say the event
  pub event_said : allowed a ls ≡ true → (event : List ℕ) × (event_says event ≡ some (role, p, a, ls))
  unfolding event_says bind
  event_said l =
      let i = text_record (role_columns ∷ []) (item_text role_item) long p few a word_columns g.parts fields_all in
      let o = role_in in
      let q = path_said (role_columns ∷ []) (item_text role_item) long p few a word_columns g.parts fields_all in
      let t = touch_said (role_columns ∷ []) (item_text role_item) long p few a word_columns g.parts fields_all leaf_said q (leaves_back ls) in
      (bytes, rw (i, o, t, l))

-- the text of a path, an action and numbers
pub text_of : (p : Path) (a : Act) (w : ℕ) (zs : List ℤ) → touch_text p (act_number a) w zs ++ newline ∷ [] ≡ path_field p ++ (item_text (action_columns, pos (act_number a)) ++ (items_text (fields w zs) ++ newline ∷ []))
unfolding items_text
text_of p a w zs =
    let i : Item = (action_columns, pos (act_number a)) in
    append_assoc (path_field p) (items_text (i ∷ fields w zs)) (newline ∷ []) ∙ ap (λ l. path_field p ++ l) (append_assoc (item_text i) (items_text (fields w zs)) (newline ∷ []))
