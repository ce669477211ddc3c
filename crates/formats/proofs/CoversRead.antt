-- An entry's bytes cover an event's exactly where the calculus' entry covers the touch that the event says; and every way to meet the
-- leaf kinds of an entry that can be written is said by some event's bytes. Rests on ListsRead.
use mathlib.Core.Path.{◌≡◌, refl, sym, ap, subst, ◌∙◌}
use mathlib.Core.Bool.{Bool, true, false, cond}
use mathlib.Core.Option.{Option, none, some, bind, bind-eq-some_iff}
use mathlib.Core.List.{List, [], ◌∷◌, map}
use Prim.Native.Nat.{ℕ, suc, ◌+◌, ◌≤◌}
use native.Mathlib.Omega.{arith}
use lib.Dec.{lit<}
use lib.IntN.{pos}
use lib.ListN.{length, replicate, length-replicate}
use Rattle.word.specs.Word.{eq_z}
use Rattle.word.proofs.Order.{eq_z_true}
use Rattle.decimal.specs.Field.{Field, reads_at, action_columns, word_columns}
use Rattle.decimal.specs.Path.{Path, max_marks, path_columns, reads_path_at}
use Rattle.tophat.specs.Syntax.{max_leaves}
use Rattle.tophat.specs.Leaves.{Given, Unused, u_end, u_zero, u_blank, Leaf, no_leaf, unit_leaf, truth_leaf, number_leaf, Meets, m_end, m_none, m_blank, m_unit, m_false, m_true, m_number}
use Rattle.tophat.specs.Handling.{Button, Act, giving, pressing, act_number, act_table, Action, give, press}
use Rattle.tophat.specs.Showing.{Offer, fill, button, Entry, Covers, c_fill, c_button}
use Rattle.tophat.proofs.Basics.{no_some, some_is, and_left, and_right}
use Rattle.tophat.proofs.Leaves.{unused_met, met_unused}
use Rattle.formats.specs.Records.{is_record, fields_at, number_said, each}
use Rattle.tophat.specs.Roles.{IsRole}
use Rattle.formats.specs.Touches.{role_columns, event_columns, event_role, numbered, touch_in, leaf_said, is_nothing, all_nothing, allowed, event_says, action_of, event_of, CoversBytes}
use Rattle.formats.specs.Lists.{offer_act, offer_kinds, entry_text}
use Rattle.formats.proofs.Each.{each_length}
use Rattle.formats.proofs.Records.{fields_length, GivenWords, no_leaves, blank_leaf, number_leaf_lem}
use Rattle.formats.proofs.Roles.{said_role}
use Rattle.formats.proofs.TouchesRead.{written_leaves, event_said}
use Rattle.formats.proofs.ListsRead.{entry_said}

-- ---- what a readable event says: a leaf for each, and nothing where they carry nothing

abbrev Touch : Type 0
Touch = Path × Act × List Given

-- a touch with its role
abbrev Event : Type 0
Event = ℕ × Path × Act × List Given

-- where an event's leaves begin
abbrev pub leaves_place : ℕ
leaves_place = role_columns + path_columns + action_columns

abbrev pub leaf_fields : List ℕ → List Field
leaf_fields s = fields_at s leaves_place (replicate max_leaves word_columns)

pub record Readable (s : List ℕ) (t : Event) : Type 0 where
  pub whole : is_record event_columns s ≡ true
  pub role : event_role s ≡ some t.0
  pub leaves : each leaf_said (leaf_fields s) ≡ some t.3
  pub able : allowed t.2 t.3 ≡ true

-- the touch in an event's bytes, behind the role
abbrev touch_of : List ℕ → Option Touch
touch_of s = touch_in (reads_path_at s role_columns) leaf_said word_columns role_columns s

touch_leaves : (s : List ℕ) {t : Touch} → touch_of s ≡ some t → each leaf_said (leaf_fields s) ≡ some t.2
unfolding touch_in
touch_leaves s {t} h =
    let (p, _, g) = (bind-eq-some_iff (reads_path_at s role_columns) _).0 h in
    let (n, _, k) = (bind-eq-some_iff (number_said (reads_at s (role_columns + path_columns) action_columns)) _).0 g in
    let (a, _, l) = (bind-eq-some_iff (numbered act_number act_table n) _).0 k in
    let (ls, e, m) = (bind-eq-some_iff (each leaf_said (leaf_fields s)) _).0 l in
    let f : (p, a, ls) ≡ t = some_is m in
    e ∙ ap (λ t. some t.2) f

pub readable : (s : List ℕ) {t : Event} → event_says s ≡ some t → Readable s t
unfolding event_says
readable s {t} h = by (is_record event_columns s) refl h
  where
    test : (r : ℕ) (u : Touch) (c : Bool) → is_record event_columns s ≡ true → event_role s ≡ some r → touch_of s ≡ some u → allowed u.1 u.2 ≡ c
        → cond c (some (r, u.0, u.1, u.2)) none ≡ some t → Readable s t
    test r u true w o e f g = subst (Readable s) (some_is g) (record { whole = w; role = o; leaves = touch_leaves s e; able = f })
    test r u false w o e f g = no_some g

    by : (b : Bool) → is_record event_columns s ≡ b
        → cond b (bind (event_role s) λ r. bind (touch_of s) λ t. cond (allowed t.1 t.2) (some (r, t.0, t.1, t.2)) none) none ≡ some t → Readable s t
    by true w k =
        let (r, o, l) = (bind-eq-some_iff (event_role s) _).0 k in
        let (u, e, g) = (bind-eq-some_iff (touch_of s) _).0 l in
        test r u (allowed u.1 u.2) w o e refl g
    by false w k = no_some k

-- 1 to 8
pub readable_role : (s : List ℕ) {t : Event} → Readable s t → IsRole t.0
readable_role s r = said_role (reads_at s 0 role_columns) r.role

pub leaves_long : (s : List ℕ) {t : Event} → Readable s t → length t.3 ≡ max_leaves
leaves_long s r = each_length leaf_said (leaf_fields s) r.leaves ∙ fields_length s leaves_place (replicate max_leaves word_columns) ∙ length-replicate max_leaves word_columns

-- leaves that are 0 or blank are unused
nothing_unused : (ls : List Given) → all_nothing ls ≡ true → Unused (length ls) ls
unfolding all_nothing is_nothing
nothing_unused [] h = u_end
nothing_unused (none ∷ ls) h = u_blank (nothing_unused ls h)
nothing_unused (some z ∷ ls) h =
    subst (λ z. Unused (suc (length ls)) (some z ∷ ls)) (sym (eq_z_true z (pos 0) (and_left (eq_z z (pos 0)) (all_nothing ls) h))) (u_zero (nothing_unused ls (and_right (eq_z z (pos 0)) (all_nothing ls) h)))

unused_nothing : {n : ℕ} {ls : List Given} → Unused n ls → all_nothing ls ≡ true
unfolding all_nothing is_nothing
unused_nothing u_end = refl
unused_nothing (u_zero u) = unused_nothing u
unused_nothing (u_blank u) = unused_nothing u

-- ---- the touch that a readable event says

pub event_of_lem : (s : List ℕ) {r : ℕ} {p : Path} {a : Act} {ls : List Given} → event_says s ≡ some (r, p, a, ls) → event_of s ≡ some (r, p, action_of a ls)
unfolding event_of bind
event_of_lem s h = rw h

pub says_of : (s : List ℕ) {r : ℕ} {p : Path} {x : Action} → event_of s ≡ some (r, p, x)
    → (a : Act) × (ls : List Given) × (event_says s ≡ some (r, p, a, ls)) × (action_of a ls ≡ x)
unfolding event_of
says_of s h =
    let (t, e, g) = (bind-eq-some_iff (event_says s) _).0 h in
    let f = some_is g in
    (t.2, t.3, e ∙ ap (λ q. some (q.0, q.1, t.2, t.3)) f, ap (λ q. q.2) f)

-- by the action it was said with
given_of : (a : Act) (ls : List Given) {ms : List Given} → action_of a ls ≡ give ms → (a ≡ giving) × (ls ≡ ms)
unfolding action_of
given_of giving ls h = (refl, cc)
given_of (pressing b) ls h = let z : ◌≡◌ {A = ℕ} 0 1 = cc in absurd (omega arith)

pressed_of : (a : Act) (ls : List Given) {b : Button} → action_of a ls ≡ press b → a ≡ pressing b
unfolding action_of
pressed_of giving ls h = let z : ◌≡◌ {A = ℕ} 0 1 = cc in absurd (omega arith)
pressed_of (pressing c) ls h = cc

-- ---- covering, in the calculus and in bytes

-- leaves that a button can have meet the kinds of its entry
button_met : (b : Button) (ls : List Given) → allowed (pressing b) ls ≡ true → length ls ≡ max_leaves → Meets (replicate max_leaves no_leaf) ls
unfolding allowed
button_met b ls h l = unused_met (subst (λ n. Unused n ls) l (nothing_unused ls h))

-- an entry that covers the touch covers the bytes that say it
pub covers_bytes : {e : Entry} {p : Path} {x : Action} → Covers e p x → length e.0 ≤ max_marks → length (offer_kinds e.1) ≡ max_leaves
    → (event : List ℕ) {r : ℕ} → event_of event ≡ some (r, p, x) → CoversBytes (entry_text e) event
unfolding offer_act offer_kinds
covers_bytes (c_fill {p} {ks} {ls} m) few all event {r} h =
    let (a, ms, e, f) = says_of event h in
    let (i, j) = given_of a ms f in
    record {
      role = r;
      path = p;
      act = giving;
      kinds = ks;
      leaves = ls;
      says_entry = entry_said (p, fill ks) few all;
      says_event = e ∙ (λ k. some (r, p, i k, j k));
      meets = m;
    }
covers_bytes (c_button {p} {b}) few all event {r} h =
    let (a, ls, e, f) = says_of event h in
    let i = pressed_of a ls f in
    let g : event_says event ≡ some (r, p, pressing b, ls) = e ∙ (λ k. some (r, p, i k, ls)) in
    let z = readable event g in
    record {
      role = r;
      path = p;
      act = pressing b;
      kinds = replicate max_leaves no_leaf;
      leaves = ls;
      says_entry = entry_said (p, button b) few all;
      says_event = g;
      meets = button_met b ls z.able (leaves_long event z);
    }

-- what an entry's bytes and an event's say alike, the calculus' entry covers
covers_by : (p : Path) (o : Offer) (ls : List Given) → Meets (offer_kinds o) ls → Covers (p, o) p (action_of (offer_act o) ls)
unfolding offer_act offer_kinds action_of
covers_by p (fill ks) ls m = c_fill m
covers_by p (button b) ls m = c_button

pub bytes_cover : (e : Entry) → length e.0 ≤ max_marks → length (offer_kinds e.1) ≡ max_leaves → {event : List ℕ} {r : ℕ} {p : Path} {x : Action}
    → event_of event ≡ some (r, p, x) → CoversBytes (entry_text e) event → Covers e p x
bytes_cover e few all {event} {r} {p} {x} h c =
    let f = some_is (sym c.says_entry ∙ entry_said e few all) in
    let g = some_is (sym (event_of_lem event c.says_event) ∙ h) in
    let q : e.0 ≡ p = sym (ap (λ t. t.0) f) ∙ ap (λ t. t.1) g in
    let y : action_of (offer_act e.1) c.leaves ≡ x = ap (λ t. action_of t.1 c.leaves) (sym f) ∙ ap (λ t. t.2) g in
    let m = subst (λ ks. Meets ks c.leaves) (ap (λ t. t.2) f) c.meets in
    subst (λ p. Covers e p x) q (subst (λ x. Covers e e.0 x) y (covers_by e.0 e.1 c.leaves m))

-- ---- every way to meet an entry's leaf kinds is said by some event's bytes

met_words : {ks : List Leaf} {ls : List Given} → Meets ks ls → GivenWords ls
met_words m_end = no_leaves
met_words (m_none d) = number_leaf_lem (lit< tt) (met_words d)
met_words (m_blank d) = blank_leaf (met_words d)
met_words (m_unit d) = number_leaf_lem (lit< tt) (met_words d)
met_words (m_false d) = number_leaf_lem (lit< tt) (met_words d)
met_words (m_true d) = number_leaf_lem (lit< tt) (met_words d)
met_words (m_number h d) = number_leaf_lem h (met_words d)

met_length : {ks : List Leaf} {ls : List Given} → Meets ks ls → length ls ≡ length ks
met_length m_end = refl
met_length (m_none d) = ap suc (met_length d)
met_length (m_blank d) = ap suc (met_length d)
met_length (m_unit d) = ap suc (met_length d)
met_length (m_false d) = ap suc (met_length d)
met_length (m_true d) = ap suc (met_length d)
met_length (m_number h d) = ap suc (met_length d)

-- leaves that meet an offer's kinds are such as its action can have
met_allowed : (o : Offer) {ls : List Given} → Meets (offer_kinds o) ls → allowed (offer_act o) ls ≡ true
unfolding offer_act offer_kinds allowed
met_allowed (fill ks) m = refl
met_allowed (button b) m = unused_nothing (met_unused max_leaves m)

-- of every role
pub met_said : (role : ℕ) → IsRole role → (e : Entry) → length e.0 ≤ max_marks → length (offer_kinds e.1) ≡ max_leaves → {ls : List Given} → Meets (offer_kinds e.1) ls
    → (event : List ℕ) × (event_says event ≡ some (role, e.0, offer_act e.1, ls))
met_said role r e few all m = event_said role r e.0 few (offer_act e.1) (written_leaves (met_words m)) (met_length m ∙ all) (met_allowed e.1 m)

-- and there is one: leaves that are 0 meet every kind
kinds_met : (ks : List Leaf) → Meets ks (map some (replicate (length ks) (pos 0)))
kinds_met [] = m_end
kinds_met (no_leaf ∷ ks) = m_none (kinds_met ks)
kinds_met (unit_leaf ∷ ks) = m_unit (kinds_met ks)
kinds_met (truth_leaf ∷ ks) = m_false (kinds_met ks)
kinds_met (number_leaf ∷ ks) = m_number (lit< tt) (kinds_met ks)

pub covers_some : (role : ℕ) → IsRole role → (e : Entry) → length e.0 ≤ max_marks → length (offer_kinds e.1) ≡ max_leaves
    → (event : List ℕ) × (c : CoversBytes (entry_text e) event) × (c.role ≡ role)
covers_some role r e few all =
    let m = kinds_met (offer_kinds e.1) in
    let (event, h) = met_said role r e few all m in
    (event, record { role = role; path = e.0; act = offer_act e.1; kinds = offer_kinds e.1; leaves = _; says_entry = entry_said e few all; says_event = h; meets = m }, refl)
