-- The bytes of a list against events: entry i covers an event's bytes exactly where the calculus' entry i covers what they say. Rests on
-- ListsRead and CoversRead.
use mathlib.Core.Path.{◌≡◌, sym, ap, subst, ◌∙◌}
use mathlib.Core.Option.{some}
use mathlib.Core.List.{List}
use Prim.Native.Nat.{ℕ, ◌<◌, ◌≤◌}
use native.Mathlib.Omega.{arith}
use lib.ListN.{length}
use Rattle.decimal.specs.Path.{Path, max_marks}
use Rattle.tophat.specs.Syntax.{max_leaves}
use Rattle.tophat.specs.Typing.{At, here, there}
use Rattle.tophat.specs.Leaves.{Given, Leaf, Meets}
use Rattle.tophat.specs.Handling.{Act, Action}
use Rattle.tophat.specs.Showing.{Entry, Covers}
use Rattle.tophat.proofs.Basics.{some_is}
use Rattle.tophat.specs.Roles.{IsRole}
use Rattle.formats.specs.Touches.{event_says, entry_says, event_of, CoversBytes}
use Rattle.formats.specs.Lists.{offer_act, offer_kinds, list_text, entry_at, Entries, CoversAt, Fits, fit_none, fit_more}
use Rattle.formats.proofs.ListsRead.{entry_said, list_length, list_at, place_at, at_place}
use Rattle.formats.proofs.CoversRead.{covers_bytes, bytes_cover, met_said, covers_some}

-- an entry of a list that can be written
record Fit (e : Entry) : Type 0 where
  few : length e.0 ≤ max_marks
  all : length (offer_kinds e.1) ≡ max_leaves

fit_at : {m : ℕ} {es : List Entry} {i : ℕ} {e : Entry} → Fits m es → At es i e → Fit e
fit_at fit_none d = elim d [ ]
fit_at (fit_more l k h) here = record { few = omega arith; all = k }
fit_at (fit_more l k h) (there d) = fit_at h d

module _ {es : List Entry} (fits : Fits 0 es) where
  pub list_entries : Entries (list_text es) (length es)
  list_entries = record {
    whole = list_length fits;
    readable = λ i l.
        let (e, d) = place_at es i l in
        let f = fit_at fits d in
        (e.0, offer_act e.1, offer_kinds e.1, ap entry_says (list_at fits d) ∙ entry_said e f.few f.all);
  }

  module _ {event : List ℕ} {r : ℕ} {p : Path} {x : Action} (h : event_of event ≡ some (r, p, x)) where
    pub list_covers : {i : ℕ} {e : Entry} → At es i e → Covers e p x → CoversAt (list_text es) (length es) i event
    list_covers d c = let f = fit_at fits d in (at_place d, subst (λ s. CoversBytes s event) (sym (list_at fits d)) (covers_bytes c f.few f.all event h))

    pub covers_list : {i : ℕ} → CoversAt (list_text es) (length es) i event → (e : Entry) × At es i e × Covers e p x
    covers_list {i} (l, c) =
        let (e, d) = place_at es i l in
        let f = fit_at fits d in
        (e, d, bytes_cover e f.few f.all h (subst (λ s. CoversBytes s event) (list_at fits d) c))

  module _ (role : ℕ) (r : IsRole role) where
    -- what an entry says, with leaves that meet its kinds, some bytes of an event of every role say
    pub list_said : (i : ℕ) → i < length es → {p : Path} {a : Act} {ks : List Leaf} → entry_says (entry_at (list_text es) i) ≡ some (p, a, ks)
        → {ls : List Given} → Meets ks ls → (event : List ℕ) × (event_says event ≡ some (role, p, a, ls))
    list_said i l {p} {a} {ks} h {ls} m =
        let (e, d) = place_at es i l in
        let f = fit_at fits d in
        let q = some_is (sym (entry_said e f.few f.all) ∙ ap entry_says (sym (list_at fits d)) ∙ h) in
        let (event, k) = met_said role r e f.few f.all (subst (λ ks. Meets ks ls) (sym (ap (λ t. t.2) q)) m) in
        (event, k ∙ ap (λ t. some (role, t.0, t.1, ls)) q)

    -- no entry is dead
    pub list_covers_some : (i : ℕ) → i < length es → (event : List ℕ) × (k : CoversAt (list_text es) (length es) i event) × (k.1.role ≡ role)
    list_covers_some i l =
        let (e, d) = place_at es i l in
        let f = fit_at fits d in
        let (event, c, q) = covers_some role r e f.few f.all in
        let (b, o) = subst (λ s. (c : CoversBytes s event) × (c.role ≡ role)) (sym (list_at fits d)) (c, q) in
        (event, (l, b), o)
