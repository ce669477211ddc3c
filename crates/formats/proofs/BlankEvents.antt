-- Blanks in events (CR 2), in bytes: an event in which any zeros among its leaves, and a 0 that is its path, are left blank says the same
-- role, path and action, and leaves of which these zeros are blank. Rests on Records and the calculus' blanked leaves.
use mathlib.Core.Path.{◌≡◌, refl, sym, ap, ap₂, subst, ◌∙◌}
use mathlib.Core.Bool.{Bool, true, false, ◌&&◌, cond}
use mathlib.Core.Option.{Option, none, some, bind}
use mathlib.Core.List.{List, [], ◌∷◌}
use Prim.Native.Nat.{ℕ, zero, suc, ◌+◌, ◌*◌, ◌<◌}
use native.Mathlib.Omega.{arith}
use borrow.Author.Tests.{leb-true}
use borrow.Table.Steps.{cases}
use lib.Dec.{leb, eqb}
use lib.IntN.{ℤ, pos}
use lib.ListN.{length, get_or, replicate, length-replicate}
use lib.Seq.{slice, length-slice}
use Rattle.decimal.specs.Field.{Field, number, blank, unreadable, space, action_columns, word_columns, newline, written, reads, reads_at}
use Rattle.decimal.specs.Path.{Path, path_columns, written_path, reads_path_at}
use Rattle.decimal.proofs.Blanks as decimal
use Rattle.decimal.proofs.Blanks.{reads_blank, ZeroBlank, same, zero_blank, blanked_number, blanked_path}
use Rattle.tophat.specs.Syntax.{max_leaves}
use Rattle.tophat.specs.Leaves.{Given}
use Rattle.tophat.specs.Handling.{Act, giving, pressing, act_number, act_table}
use Rattle.tophat.proofs.Blanks.{Blanked, all, kept, left_blank}
use Rattle.formats.specs.Records.{total, record_bytes, is_record, fields_at, number_said, each}
use Rattle.formats.specs.Touches.{role_columns, event_columns, numbered, touch_in, role_said, event_role, leaf_said, is_nothing, all_nothing, allowed, event_says}
use Rattle.formats.proofs.Each.{each_at}
use Rattle.formats.proofs.Records.{fields_length}
use Rattle.formats.proofs.Loops.{field_is}
use Rattle.formats.proofs.CoversRead.{leaves_place, leaf_fields, readable}

-- ---- terms

-- the bytes of an event's role, of its path, of its action, and of its leaf k
abbrev pub role_bytes : List ℕ → List ℕ
role_bytes s = slice 0 role_columns s

abbrev pub path_bytes : List ℕ → List ℕ
path_bytes s = slice role_columns (role_columns + path_columns) s

abbrev pub action_bytes : List ℕ → List ℕ
action_bytes s = slice (role_columns + path_columns) leaves_place s

abbrev pub leaf_place : ℕ → ℕ
leaf_place k = leaves_place + k * word_columns

abbrev pub leaf_bytes : List ℕ → ℕ → List ℕ
leaf_bytes s k = slice (leaf_place k) (leaf_place k + word_columns) s

-- f is the event e with any zeros among its leaves, and a path that is 0, left blank
pub record BlankedEvent (e f : List ℕ) : Type 0 where
  pub long : length f ≡ length e
  pub ended : get_or f (total event_columns) 0 ≡ get_or e (total event_columns) 0
  pub role : role_bytes f ≡ role_bytes e
  pub path : decimal.Blanked (written_path []) (path_bytes e) (path_bytes f)
  pub action : action_bytes f ≡ action_bytes e
  pub leaves : (k : ℕ) → k < max_leaves → decimal.Blanked (written word_columns (pos 0)) (leaf_bytes e k) (leaf_bytes f k)

-- what both say
pub data BlankedTouch : Option (ℕ × Path × Act × List Given) → Option (ℕ × Path × Act × List Given) → Type 0 where
  both_unread : BlankedTouch none none
  both_say : {r : ℕ} {p : Path} {a : Act} {ls ms : List Given} → Blanked ls ms → BlankedTouch (some (r, p, a, ls)) (some (r, p, a, ms))

-- ---- the leaves

data BlankedFields : List Field → List Field → Type 0 where
  no_field : BlankedFields [] []
  one_more : {f g : Field} {fs gs : List Field} → ZeroBlank f g → BlankedFields fs gs → BlankedFields (f ∷ fs) (g ∷ gs)

data BlankedSaid : Option (List Given) → Option (List Given) → Type 0 where
  not_said : BlankedSaid none none
  both_said : {ls ms : List Given} → Blanked ls ms → BlankedSaid (some ls) (some ms)

said_blanked : {fs gs : List Field} → BlankedFields fs gs → BlankedSaid (each leaf_said fs) (each leaf_said gs)
unfolding each leaf_said bind
said_blanked no_field = both_said all
said_blanked (one_more {fs = fs} {gs = gs} (same {f}) d) = by f (each leaf_said fs) (each leaf_said gs) (said_blanked d)
  where
    one : (l : Given) (x y : Option (List Given)) → BlankedSaid x y → BlankedSaid (bind x λ ls. some (l ∷ ls)) (bind y λ ms. some (l ∷ ms))
    one l none none not_said = not_said
    one l none (some ms) b = elim b [ ]
    one l (some ls) none b = elim b [ ]
    one l (some ls) (some ms) (both_said b) = both_said (kept l b)

    by : (f : Field) (x y : Option (List Given)) → BlankedSaid x y → BlankedSaid (bind (leaf_said f) λ l. bind x λ ls. some (l ∷ ls)) (bind (leaf_said f) λ l. bind y λ ms. some (l ∷ ms))
    by (number z) x y b = one (some z) x y b
    by blank x y b = one none x y b
    by unreadable x y b = not_said
said_blanked (one_more {fs = fs} {gs = gs} zero_blank d) = by (each leaf_said fs) (each leaf_said gs) (said_blanked d)
  where
    by : (x y : Option (List Given)) → BlankedSaid x y → BlankedSaid (bind x λ ls. some (some (pos 0) ∷ ls)) (bind y λ ms. some (none ∷ ms))
    by none none not_said = not_said
    by none (some ms) b = elim b [ ]
    by (some ls) none b = elim b [ ]
    by (some ls) (some ms) (both_said b) = both_said (left_blank b)

-- a field that both texts have, or neither
field_blanked : (e f : List ℕ) (at w : ℕ) → length f ≡ length e → ZeroBlank (reads (slice at (at + w) e)) (reads (slice at (at + w) f)) → ZeroBlank (reads_at e at w) (reads_at f at w)
unfolding reads_at
field_blanked e f at w l z = by (leb (at + w) (length e)) (leb (at + w) (length f)) (ap (leb (at + w)) l)
  where
    by : (x y : Bool) → y ≡ x → ZeroBlank (cond x (reads (slice at (at + w) e)) unreadable) (cond y (reads (slice at (at + w) f)) unreadable)
    by true true q = z
    by false false q = same
    by true false q = let a : ◌≡◌ {A = ℕ} 0 1 = cc in absurd (omega arith)
    by false true q = let a : ◌≡◌ {A = ℕ} 0 1 = cc in absurd (omega arith)

fields_blanked : (e f : List ℕ) (w n at : ℕ) → ((k : ℕ) → k < n → ZeroBlank (reads_at e (at + k * w) w) (reads_at f (at + k * w) w)) → BlankedFields (fields_at e at (replicate n w)) (fields_at f at (replicate n w))
unfolding fields_at
fields_blanked e f w zero at h = no_field
fields_blanked e f w (suc n) at h = one_more
    (subst (λ a. ZeroBlank (reads_at e a w) (reads_at f a w)) {x = at + 0 * w} {y = at} (omega arith) (h 0 (omega arith)))
    (fields_blanked e f w n (at + w) (λ k l. subst (λ a. ZeroBlank (reads_at e a w) (reads_at f a w)) {x = at + suc k * w} {y = at + w + k * w} (omega arith) (h (suc k) (omega arith))))

-- leaves that a button can have
nothing_blanked : {ls ms : List Given} → Blanked ls ms → all_nothing ls ≡ all_nothing ms
unfolding all_nothing is_nothing
nothing_blanked all = refl
nothing_blanked (kept l b) = ap (λ x. is_nothing l && x) (nothing_blanked b)
nothing_blanked (left_blank b) = nothing_blanked b

allowed_blanked : (a : Act) {ls ms : List Given} → Blanked ls ms → allowed a ls ≡ allowed a ms
unfolding allowed
allowed_blanked giving b = refl
allowed_blanked (pressing x) b = nothing_blanked b

-- ---- the event

-- what an event says, by its parts
abbrev Event : Type 0
Event = ℕ × Path × Act × List Given

abbrev allow : ℕ → Path × Act × List Given → Option Event
allow k t = cond (allowed t.1 t.2) (some (k, t.0, t.1, t.2)) none

abbrev saying : Bool → Option ℕ → Option Path → Option ℤ → Option (List Given) → Option Event
saying r i o n x = cond r (bind i λ k. bind (bind o λ p. bind n λ z. bind (numbered act_number act_table z) λ a. bind x λ ls. some (p, a, ls)) (allow k)) none

saying_blanked : (r : Bool) (i : Option ℕ) (o : Option Path) (n : Option ℤ) {x y : Option (List Given)} → BlankedSaid x y → BlankedTouch (saying r i o n x) (saying r i o n y)
unfolding bind
saying_blanked false i o n b = both_unread
saying_blanked true none o n b = both_unread
saying_blanked true (some k) none n b = both_unread
saying_blanked true (some k) (some p) none b = both_unread
saying_blanked true (some k) (some p) (some z) b = by (numbered act_number act_table z) b
  where
    told : (a : Act) {ls ms : List Given} (r q : Bool) → r ≡ q → Blanked ls ms → BlankedTouch (cond r (some (k, p, a, ls)) none) (cond q (some (k, p, a, ms)) none)
    told a true true e b = both_say b
    told a false false e b = both_unread
    told a true false e b = let z : ◌≡◌ {A = ℕ} 0 1 = cc in absurd (omega arith)
    told a false true e b = let z : ◌≡◌ {A = ℕ} 0 1 = cc in absurd (omega arith)

    by : (o : Option Act) {x y : Option (List Given)} → BlankedSaid x y
        → BlankedTouch (bind (bind o λ a. bind x λ ls. some (p, a, ls)) (allow k)) (bind (bind o λ a. bind y λ ls. some (p, a, ls)) (allow k))
    by none b = both_unread
    by (some a) not_said = both_unread
    by (some a) (both_said {ls} {ms} b) = told a (allowed a ls) (allowed a ms) (allowed_blanked a b) b

module _ {e f : List ℕ} (b : BlankedEvent e f) where
  same_record : is_record event_columns f ≡ is_record event_columns e
  unfolding is_record
  same_record = (λ j. eqb (b.long j) (record_bytes event_columns) && eqb (b.ended j) newline)

  same_path : reads_path_at f role_columns ≡ reads_path_at e role_columns
  unfolding reads_path_at
  same_path = (λ j. cond (leb (role_columns + path_columns) (b.long j)) (blanked_path b.path j) none)

  reads_same : (at w : ℕ) → slice at (at + w) f ≡ slice at (at + w) e → reads_at f at w ≡ reads_at e at w
  unfolding reads_at
  reads_same at w g = (λ j. cond (leb (at + w) (b.long j)) (reads (g j)) unreadable)

  same_role : event_role f ≡ event_role e
  same_role = ap role_said (reads_same 0 role_columns b.role)

  same_action : reads_at f (role_columns + path_columns) action_columns ≡ reads_at e (role_columns + path_columns) action_columns
  same_action = reads_same (role_columns + path_columns) action_columns b.action

  abbrev leaves_in : List ℕ → Option (List Given)
  leaves_in s = each leaf_said (leaf_fields s)

  leaves_blanked : BlankedSaid (leaves_in e) (leaves_in f)
  leaves_blanked = said_blanked (fields_blanked e f word_columns max_leaves leaves_place (λ k l. field_blanked e f (leaf_place k) word_columns b.long (blanked_number word_columns (b.leaves k l))))

  -- both say the same role, path and action, and leaves of which zeros are blank; or neither can be read
  pub says_blanked : BlankedTouch (event_says e) (event_says f)
  unfolding event_says touch_in
  says_blanked = subst (BlankedTouch (event_says e))
      (sym (λ j. saying (same_record j) (same_role j) (same_path j) (number_said (same_action j)) (leaves_in f)))
      (saying_blanked (is_record event_columns e) (event_role e) (reads_path_at e role_columns) (number_said (reads_at e (role_columns + path_columns) action_columns)) leaves_blanked)

  -- where only the path is left blank, they say the same
  pub path_blank : ((k : ℕ) → k < max_leaves → leaf_bytes f k ≡ leaf_bytes e k) → event_says f ≡ event_says e
  unfolding event_says touch_in fields_at
  path_blank h =
      let l = fields_same word_columns max_leaves leaves_place (λ k m. leaf_same k (h k m)) in
      (λ j. saying (same_record j) (same_role j) (same_path j) (number_said (same_action j)) (each leaf_said (l j)))
    where
      leaf_same : (k : ℕ) → leaf_bytes f k ≡ leaf_bytes e k → reads_at f (leaf_place k) word_columns ≡ reads_at e (leaf_place k) word_columns
      leaf_same k g = reads_same (leaf_place k) word_columns g

      fields_same : (w n at : ℕ) → ((k : ℕ) → k < n → reads_at f (at + k * w) w ≡ reads_at e (at + k * w) w) → fields_at f at (replicate n w) ≡ fields_at e at (replicate n w)
      fields_same w zero at g = refl
      fields_same w (suc n) at g = ap₂ ◌∷◌
          (subst (λ a. reads_at f a w ≡ reads_at e a w) {x = at + 0 * w} {y = at} (omega arith) (g 0 (omega arith)))
          (fields_same w n (at + w) (λ k l. subst (λ a. reads_at f a w ≡ reads_at e a w) {x = at + suc k * w} {y = at + w + k * w} (omega arith) (g (suc k) (omega arith))))

-- ---- a blank leaf is all spaces

reads_blank_at : (s : List ℕ) (at w : ℕ) → reads_at s at w ≡ blank → slice at (at + w) s ≡ replicate w space
unfolding reads_at
reads_blank_at s at w h = cases (leb (at + w) (length s))
    (λ y. let e = (reads_blank (slice at (at + w) s)).0 (rw y at h) in
    let n = length-slice at (at + w) s (leb-true (at + w) (length s) y) in
    e ∙ ap (λ n. replicate n space) {x = length (slice at (at + w) s)} {y = w} (omega (arith, n)))
    (λ y. let g : unreadable ≡ blank = rw y at h in let z : ◌≡◌ {A = ℕ} 0 1 = cc in absurd (omega arith))

pub leaf_spaces : (s : List ℕ) {r : ℕ} {p : Path} {a : Act} {ls : List Given} → event_says s ≡ some (r, p, a, ls) → (j : ℕ) → j < max_leaves → get_or ls j (some (pos 0)) ≡ none → leaf_bytes s j ≡ replicate word_columns space
unfolding leaf_said
leaf_spaces s {ls = ls} h j l e =
    let r = readable s h in
    let n = fields_length s leaves_place (replicate max_leaves word_columns) in
    let m = each_at leaf_said (leaf_fields s) r.leaves j (omega (arith, n, length-replicate max_leaves word_columns, l)) unreadable (some (pos 0)) in
    reads_blank_at s (leaf_place j) word_columns (sym (field_is s leaves_place j word_columns l) ∙ by (get_or (leaf_fields s) j unreadable) (m ∙ ap some e))
  where
    by : (f : Field) → leaf_said f ≡ some none → f ≡ blank
    by (number z) q = let a : ◌≡◌ {A = ℕ} 0 1 = cc in absurd (omega arith)
    by blank q = refl
    by unreadable q = let a : ◌≡◌ {A = ℕ} 0 1 = cc in absurd (omega arith)
