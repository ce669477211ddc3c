-- An event's bytes with the first digit of their path exchanged: they say the event with the first mark of its path exchanged, and nothing
-- where the event's own say nothing; for all bytes. A second exchange brings them back. Rests on the definitions of specs/Mirrored and of
-- formats' events.
use mathlib.Core.Path.{◌≡◌, refl, sym, ap, ap₂, ◌∙◌}
use mathlib.Core.Bool.{Bool, true, false, ◌&&◌, cond}
use mathlib.Core.Option.{Option, none, some, bind}
use mathlib.Core.List.{List, [], ◌∷◌, ◌++◌}
use Prim.Native.Nat.{ℕ, zero, suc, ◌+◌, ◌≤◌}
use native.Mathlib.Omega.{arith}
use borrow.Author.Tests.{eqb-true}
use borrow.Table.Steps.{cases}
use lib.Dec.{leb, eqb}
use lib.IntN.{ℤ}
use lib.ListN.{length, get_or, take, drop, replicate, length-take, length-drop}
use lib.Seq.{slice}
use Rattle.decimal.specs.Field.{space, nought, unreadable, newline, word_columns, action_columns, trimmed, reads, reads_at}
use Rattle.decimal.specs.Path.{Path, first, second, path_columns, marks, empty_alone, outside, path_in, reads_path, reads_path_at}
use Rattle.tophat.specs.Syntax.{max_leaves}
use Rattle.tophat.specs.Leaves.{Given}
use Rattle.tophat.specs.Handling.{Act, act_number, act_table, Action}
use Rattle.tophat.specs.Redrawn.{mirror_path}
use Rattle.formats.specs.Records.{total, record_bytes, is_record, fields_at, number_said, each}
use Rattle.formats.specs.Touches.{role_columns, event_columns, numbered, touch_in, role_said, event_role, leaf_said, allowed, event_says, action_of, event_of}
use Rattle.mirror.specs.Mirrored.{moved_touch, mirrored_digit, mirrored_first, mirrored_event}

-- ---- what is said, mirrored

unfoldable pub mirrored_path : Option Path → Option Path
mirrored_path none = none
mirrored_path (some p) = some (mirror_path p)

-- ---- digits

digit_twice : (b : ℕ) → mirrored_digit (mirrored_digit b) ≡ b
unfolding mirrored_digit
digit_twice b = cases (eqb b (nought + 1))
    (λ e. rw e (sym (eqb-true b (nought + 1) e)))
    (λ e. cases (eqb b (nought + 2))
    (λ f. rw (e, f) (sym (eqb-true b (nought + 2) f)))
    (λ f. rw (e, f, e, f)))

-- no space becomes of a byte that is none
digit_no_space : (b : ℕ) → eqb b space ≡ false → eqb (mirrored_digit b) space ≡ false
unfolding mirrored_digit
digit_no_space b h = cases (eqb b (nought + 1))
    (λ e. rw e)
    (λ e. cases (eqb b (nought + 2)) (λ f. rw (e, f)) (λ f. rw (e, f, h)))

-- ---- the first byte that is no space

-- twice
first_twice : (n : ℕ) (s : List ℕ) → mirrored_first n (mirrored_first n s) ≡ s
unfolding mirrored_first
first_twice zero s = refl
first_twice (suc n) [] = refl
first_twice (suc n) (b ∷ s) = cases (eqb b space)
    (λ e. rw (e, e) (ap (λ l. b ∷ l) (first_twice n s)))
    (λ e. let d = digit_no_space b e in rw (e, d) (ap (λ c. c ∷ s) (digit_twice b)))

-- as many bytes
first_length : (n : ℕ) (s : List ℕ) → length (mirrored_first n s) ≡ length s
unfolding mirrored_first
first_length zero s = refl
first_length (suc n) [] = refl
first_length (suc n) (b ∷ s) = cases (eqb b space) (λ e. rw e (ap suc (first_length n s))) (λ e. rw e)

-- those from n on stay
first_get_d : (n : ℕ) (s : List ℕ) (i d : ℕ) → n ≤ i → get_or (mirrored_first n s) i d ≡ get_or s i d
unfolding mirrored_first
first_get_d zero s i d h = refl
first_get_d (suc n) [] i d h = refl
first_get_d (suc n) (b ∷ s) zero d h = absurd (omega arith)
first_get_d (suc n) (b ∷ s) (suc i) d h = cases (eqb b space) (λ e. rw e (first_get_d n s i d (omega arith))) (λ e. rw e)

first_slice : (n : ℕ) (s : List ℕ) (f t : ℕ) → n ≤ f → slice f t (mirrored_first n s) ≡ slice f t s
unfolding mirrored_first
first_slice zero s f t h = refl
first_slice (suc n) [] f t h = refl
first_slice (suc n) (b ∷ s) zero t h = absurd (omega arith)
first_slice (suc n) (b ∷ s) (suc f) zero h = refl
first_slice (suc n) (b ∷ s) (suc f) (suc t) h = cases (eqb b space) (λ e. rw e (first_slice n s f t (omega arith))) (λ e. rw e)

-- those below n by themselves
first_take : (n : ℕ) (s : List ℕ) → take n (mirrored_first n s) ≡ mirrored_first n (take n s)
unfolding mirrored_first
first_take zero s = refl
first_take (suc n) [] = refl
first_take (suc n) (b ∷ s) = cases (eqb b space) (λ e. rw e (ap (λ l. b ∷ l) (first_take n s))) (λ e. rw e)

-- ---- the same past k bytes

abbrev past : ℕ → ℕ → List ℕ → List ℕ
past k n s = take k s ++ mirrored_first n (drop k s)

first_none : (n : ℕ) → mirrored_first n [] ≡ []
unfolding mirrored_first
first_none zero = refl
first_none (suc n) = refl

past_twice : (k n : ℕ) (s : List ℕ) → past k n (past k n s) ≡ s
past_twice zero n s = first_twice n s
past_twice (suc k) n [] = ap (past (suc k) n) (first_none n) ∙ first_none n
past_twice (suc k) n (b ∷ s) = ap (λ l. b ∷ l) (past_twice k n s)

past_length : (k n : ℕ) (s : List ℕ) → length (past k n s) ≡ length s
past_length zero n s = first_length n s
past_length (suc k) n [] = ap length (first_none n)
past_length (suc k) n (b ∷ s) = ap suc (past_length k n s)

past_get_d : (k n : ℕ) (s : List ℕ) (i d : ℕ) → k + n ≤ i → get_or (past k n s) i d ≡ get_or s i d
past_get_d zero n s i d h = first_get_d n s i d (omega (arith, h))
past_get_d (suc k) n [] i d h = ap (λ l. get_or l i d) (first_none n)
past_get_d (suc k) n (b ∷ s) zero d h = absurd (omega arith)
past_get_d (suc k) n (b ∷ s) (suc i) d h = past_get_d k n s i d (omega (arith, h))

past_slice : (k n : ℕ) (s : List ℕ) (f t : ℕ) → k + n ≤ f → slice f t (past k n s) ≡ slice f t s
past_slice zero n s f t h = first_slice n s f t (omega (arith, h))
past_slice (suc k) n [] f t h = ap (slice f t) (first_none n)
past_slice (suc k) n (b ∷ s) zero t h = absurd (omega arith)
past_slice (suc k) n (b ∷ s) (suc f) zero h = refl
past_slice (suc k) n (b ∷ s) (suc f) (suc t) h = past_slice k n s f t (omega (arith, h))

-- the k bytes, and those that the exchange is in
past_front : (k n : ℕ) (s : List ℕ) (t : ℕ) → t ≤ k → take t (past k n s) ≡ take t s
past_front k n s zero h = refl
past_front zero n s (suc t) h = absurd (omega arith)
past_front (suc k) n [] (suc t) h = ap (take (suc t)) (first_none n)
past_front (suc k) n (b ∷ s) (suc t) h = ap (λ l. b ∷ l) (past_front k n s t (omega (arith, h)))

past_field : (k n : ℕ) (s : List ℕ) (t : ℕ) → t ≡ k + n → slice k t (past k n s) ≡ mirrored_first n (slice k t s)
past_field zero n s t e = let q : t ≡ n = omega (arith, e) in rw q (first_take n s)
past_field (suc k) n s zero e = absurd (omega (arith, e))
past_field (suc k) n [] (suc t) e = ap (slice (suc k) (suc t)) (first_none n) ∙ sym (first_none n)
past_field (suc k) n (b ∷ s) (suc t) e = past_field k n s t (omega (arith, e))

-- ---- after the spaces

unfoldable mirrored_head : List ℕ → List ℕ
mirrored_head [] = []
mirrored_head (b ∷ bs) = mirrored_digit b ∷ bs

first_trimmed : (n : ℕ) (s : List ℕ) → length s ≤ n → trimmed (mirrored_first n s) ≡ mirrored_head (trimmed s)
unfolding mirrored_first trimmed mirrored_head
first_trimmed zero [] h = refl
first_trimmed zero (b ∷ s) h = absurd (omega arith)
first_trimmed (suc n) [] h = refl
first_trimmed (suc n) (b ∷ s) h = cases (eqb b space)
    (λ e. rw (e, e) (first_trimmed n s (omega arith)))
    (λ e. let d = digit_no_space b e in rw (e, d))

-- the path that they say
head_path : (t : List ℕ) → path_in (mirrored_head t) ≡ mirrored_path (path_in t)
unfolding mirrored_head path_in mirrored_path mirror_path mirrored_digit marks
head_path [] = refl
head_path (b ∷ bs) = cases (eqb b nought)
    (λ e. let q = eqb-true b nought e in rw q (by_alone bs))
    (λ e. cases (eqb b (nought + 1))
    (λ f. rw (e, f) (by_first (marks bs)))
    (λ f. cases (eqb b (nought + 2))
    (λ g. rw (e, f, g) (by_second (marks bs)))
    (λ g. rw (e, f, g, e, f, g))))
  where
    by_alone : (l : List ℕ) → empty_alone l ≡ mirrored_path (empty_alone l)
    by_alone [] = refl
    by_alone (c ∷ l) = refl

    by_first : (o : Option Path) → outside (some second) o ≡ mirrored_path (outside (some first) o)
    by_first none = refl
    by_first (some p) = refl

    by_second : (o : Option Path) → outside (some first) o ≡ mirrored_path (outside (some second) o)
    by_second none = refl
    by_second (some p) = refl

-- ---- an event's fields

module _ (event : List ℕ) where
  event_length : length (mirrored_event event) ≡ length event
  unfolding mirrored_event
  event_length = past_length role_columns path_columns event

  same_record : is_record event_columns (mirrored_event event) ≡ is_record event_columns event
  unfolding is_record mirrored_event
  same_record = (λ j. eqb (event_length j) (record_bytes event_columns) && eqb (past_get_d role_columns path_columns event (total event_columns) 0 (omega arith) j) newline)

  same_role : event_role (mirrored_event event) ≡ event_role event
  unfolding reads_at mirrored_event
  same_role = (λ j. role_said (cond (leb (0 + role_columns) (event_length j)) (reads (past_front role_columns path_columns event role_columns (omega arith) j)) unreadable))

  abbrev path : List ℕ
  path = slice role_columns (role_columns + path_columns) event

  path_mirrored : reads_path_at (mirrored_event event) role_columns ≡ mirrored_path (reads_path_at event role_columns)
  unfolding reads_path_at mirrored_event mirrored_path
  path_mirrored =
      let l : length path ≤ path_columns = let m = length-take (role_columns + path_columns) event in let n = length-drop role_columns (take (role_columns + path_columns) event) in omega (arith, m, n) in
      let e : reads_path (slice role_columns (role_columns + path_columns) (past role_columns path_columns event)) ≡ mirrored_path (reads_path path) =
      ap reads_path (past_field role_columns path_columns event (role_columns + path_columns) refl)
      ∙ ap path_in (first_trimmed path_columns path l)
      ∙ head_path (trimmed path) in
      (λ j. cond (leb (role_columns + path_columns) (event_length j)) (e j) none) ∙ by (leb (role_columns + path_columns) (length event)) (reads_path path)
    where
      by : (b : Bool) (o : Option Path) → cond b (mirrored_path o) none ≡ mirrored_path (cond b o none)
      by true o = refl
      by false o = refl

  -- a field after the path
  same_field : (at w : ℕ) → role_columns + path_columns ≤ at → reads_at (mirrored_event event) at w ≡ reads_at event at w
  unfolding reads_at mirrored_event
  same_field at w h = (λ j. cond (leb (at + w) (event_length j)) (reads (past_slice role_columns path_columns event at (at + w) h j)) unreadable)

  same_fields : (ws : List ℕ) (at : ℕ) → role_columns + path_columns ≤ at → fields_at (mirrored_event event) at ws ≡ fields_at event at ws
  unfolding fields_at
  same_fields [] at h = refl
  same_fields (w ∷ ws) at h = ap₂ ◌∷◌ (same_field at w h) (same_fields ws (at + w) (omega (arith, h)))

-- ---- what they say

-- an event by whether it is a record, and what its role, its path, its action and its leaves say
abbrev touched : Path → Option Act → Option (List Given) → Option (Path × Act × List Given)
touched p action leaves = bind action λ a. bind leaves λ ls. some (p, a, ls)

abbrev permitted : ℕ → Option (Path × Act × List Given) → Option (ℕ × Path × Act × List Given)
permitted k o = bind o λ t. cond (allowed t.1 t.2) (some (k, t.0, t.1, t.2)) none

abbrev acted : Option (ℕ × Path × Act × List Given) → Option (ℕ × Path × Action)
acted o = bind o λ t. some (t.0, t.1, action_of t.2 t.3)

abbrev saying : Bool → Option ℕ → Option Path → Option ℤ → Option (List Given) → Option (ℕ × Path × Action)
saying r role path number leaves = acted (cond r (bind role λ k. permitted k (bind path λ p. bind number λ n. touched p (numbered act_number act_table n) leaves)) none)

said_mirrored : (r : Bool) (role : Option ℕ) (path : Option Path) (number : Option ℤ) (leaves : Option (List Given))
    → saying r role (mirrored_path path) number leaves ≡ moved_touch mirror_path (saying r role path number leaves)
unfolding bind mirrored_path moved_touch
said_mirrored false role _ number leaves = refl
said_mirrored true none _ number leaves = refl
said_mirrored true (some k) none number leaves = refl
said_mirrored true (some k) (some p) none leaves = refl
said_mirrored true (some k) (some p) (some n) leaves = by (numbered act_number act_table n) leaves
  where
    told : (b : Bool) (a : Act) (ls : List Given) → acted (cond b (some (k, mirror_path p, a, ls)) none) ≡ moved_touch mirror_path (acted (cond b (some (k, p, a, ls)) none))
    told true a ls = refl
    told false a ls = refl

    by : (o : Option Act) (leaves : Option (List Given))
        → acted (permitted k (touched (mirror_path p) o leaves)) ≡ moved_touch mirror_path (acted (permitted k (touched p o leaves)))
    by none leaves = refl
    by (some a) none = refl
    by (some a) (some ls) = told (allowed a ls) a ls

-- THE THEOREM of events
pub mirrored_event_lem : (event : List ℕ) → event_of (mirrored_event event) ≡ moved_touch mirror_path (event_of event)
unfolding event_of event_says touch_in
mirrored_event_lem event =
    let action = role_columns + path_columns in
    let leaves = role_columns + path_columns + action_columns in
    (λ j. saying (same_record event j) (same_role event j) (path_mirrored event j) (number_said (same_field event action action_columns (omega arith) j))
    (each leaf_said (same_fields event (replicate max_leaves word_columns) leaves (omega arith) j)))
    ∙ said_mirrored (is_record event_columns event) (event_role event) (reads_path_at event role_columns) (number_said (reads_at event action action_columns))
    (each leaf_said (fields_at event leaves (replicate max_leaves word_columns)))

pub mirrored_twice : (event : List ℕ) → mirrored_event (mirrored_event event) ≡ event
unfolding mirrored_event
mirrored_twice event = past_twice role_columns path_columns event
