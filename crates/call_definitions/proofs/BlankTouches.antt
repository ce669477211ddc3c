-- Blanks in events (CR 2), of the call handle. Take two events whose bytes are the same but for leaves, and a path, that are 0 in the one
-- and left blank in the other. In every rows and state memory:
--
-- - what is accepted with the blanks is accepted with the zeros, and all that is answered and left is the same;
-- - at actions 2 to 4, where only the path is left blank, and where the events cannot be read, the answers are equal, refusals too;
-- - where an entry of the list shown covers the event with the zeros, and only leaves whose kind is 0 there are left blank, the answers
--   are equal: a blank is as 0 where the value has no leaf. Elsewhere it is refused (tophat's blank_refused).
--
-- Rests on HandleAnswered and formats' BlankEvents.
use mathlib.Core.Path.{◌≡◌, refl, sym, ap, subst, ◌∙◌}
use mathlib.Core.Bool.{true}
use mathlib.Core.Option.{Option, none, some, bind}
use mathlib.Core.List.{List}
use Prim.Native.Nat.{ℕ, ◌<◌}
use native.Mathlib.Omega.{arith}
use borrow.Author.Tests.{leb-true, leb-false}
use borrow.Table.Steps.{cases}
use lib.Dec.{leb}
use lib.IntN.{ℤ, pos}
use lib.ListN.{length, get_or, replicate, get_or-eq_default}
use Rattle.word.specs.Word.{AllWords}
use Rattle.decimal.specs.Field.{space, word_columns}
use Rattle.decimal.specs.Path.{Path}
use Rattle.tophat.specs.Syntax.{max_leaves, Ty, Code}
use Rattle.tophat.specs.Leaves.{Given, no_leaf}
use Rattle.tophat.specs.Handling.{Button, Act, giving, pressing, Action}
use Rattle.tophat.proofs.Basics.{no_some, some_is}
use Rattle.tophat.proofs.Blanks.{Blanked, BlankedAction, in_leaves, in_none, handles_filled, meets_blanked}
use Rattle.formats.specs.Touches.{event_says, action_of, event_of, CoversBytes}
use Rattle.formats.specs.Lists.{entry_at, CoversAt}
use Rattle.formats.proofs.CoversRead.{event_of_lem, says_of, readable, leaves_long}
use Rattle.formats.proofs.BlankEvents.{leaf_bytes, BlankedEvent, BlankedTouch, both_unread, both_say, says_blanked, path_blank, leaf_spaces}
use Rattle.call_definitions.specs.Memory.{CallAnswer}
use Rattle.call_definitions.specs.Answers.{HandleAnswers, handle_shut, handle_8, handle_9, handle_30, handle_31, handle_0}
use Rattle.call_definitions.specs.Calls.{opened, handle_in, handle_call}
use Rattle.call_definitions.specs.Touches.{Stands}
use Rattle.call_definitions.proofs.Grounds.{shut_not_0}
use Rattle.call_definitions.proofs.HandleAnswered.{handle_derived, handle_only}

-- the answer goes by what an event's bytes say
same_answer : (rows ws : List ℤ) (e f : List ℕ) → event_of f ≡ event_of e → handle_call rows ws f ≡ handle_call rows ws e
unfolding handle_call
same_answer rows ws e f h = ap (λ o. handle_in rows ws o (opened rows ws true)) h

same_touch : (e f : List ℕ) → event_says f ≡ event_says e → event_of f ≡ event_of e
unfolding event_of
same_touch e f h = ap (λ o. bind o λ t. some (t.0, t.1, action_of t.2 t.3)) h

module _ {e f : List ℕ} (b : BlankedEvent e f) where
  -- what the event with the zeros says, by what the other says
  filled : {r : ℕ} {p : Path} {a : Act} {ms : List Given} → event_says f ≡ some (r, p, a, ms) → (ls : List Given) × (event_says e ≡ some (r, p, a, ls)) × Blanked ls ms
  filled {r} {p} {a} {ms} h = by (says_blanked b) refl h
    where
      by : {o q : Option (ℕ × Path × Act × List Given)} → BlankedTouch o q → event_says e ≡ o → q ≡ some (r, p, a, ms) → (ls : List Given) × (event_says e ≡ some (r, p, a, ls)) × Blanked ls ms
      by both_unread g k = no_some k
      by (both_say {ls = ls} {ms = ns} d) g k =
          let t = some_is k in
          (ls, g ∙ ap (λ u. some (u.0, u.1, u.2, ls)) t, subst (Blanked ls) (ap (λ u. u.3) t) d)

  -- and the other way round
  emptied : {r : ℕ} {p : Path} {a : Act} {ls : List Given} → event_says e ≡ some (r, p, a, ls) → (ms : List Given) × (event_says f ≡ some (r, p, a, ms)) × Blanked ls ms
  emptied {r} {p} {a} {ls} h = by (says_blanked b) refl h
    where
      by : {o q : Option (ℕ × Path × Act × List Given)} → BlankedTouch o q → event_says f ≡ q → o ≡ some (r, p, a, ls) → (ms : List Given) × (event_says f ≡ some (r, p, a, ms)) × Blanked ls ms
      by both_unread g k = no_some k
      by (both_say {ls = ns} {ms = ms} d) g k =
          let t = some_is k in
          (ms, g ∙ ap (λ u. some (u.0, u.1, u.2, ms)) t, subst (λ ls. Blanked ls ms) (ap (λ u. u.3) t) d)

  blanked_action : (a : Act) {ls ms : List Given} → Blanked ls ms → BlankedAction (action_of a ls) (action_of a ms)
  unfolding action_of
  blanked_action giving d = in_leaves d
  blanked_action (pressing x) d = in_none

  action_filled : {r : ℕ} {p : Path} {y : Action} → event_of f ≡ some (r, p, y) → (x : Action) × (event_of e ≡ some (r, p, x)) × BlankedAction x y
  action_filled h =
      let (a, ms, g, q) = says_of f h in
      let (ls, k, d) = filled g in
      (action_of a ls, event_of_lem e k, subst (BlankedAction (action_of a ls)) q (blanked_action a d))

  -- a button takes no leaf
  pub blank_button : (rows ws : List ℤ) {r : ℕ} {p : Path} {x : Button} {ls : List Given} → event_says e ≡ some (r, p, pressing x, ls) → handle_call rows ws f ≡ handle_call rows ws e
  unfolding action_of
  blank_button rows ws h = let (ms, g, d) = emptied h in same_answer rows ws e f (event_of_lem f g ∙ sym (event_of_lem e h))

  -- only the path is left blank
  pub blank_path : (rows ws : List ℤ) → ((k : ℕ) → k < max_leaves → leaf_bytes f k ≡ leaf_bytes e k) → handle_call rows ws f ≡ handle_call rows ws e
  blank_path rows ws h = same_answer rows ws e f (same_touch e f (path_blank b h))

  -- neither can be read
  pub blank_unread : (rows ws : List ℤ) → event_says e ≡ none → handle_call rows ws f ≡ handle_call rows ws e
  blank_unread rows ws h = same_answer rows ws e f (same_touch e f (by (says_blanked b) refl h ∙ sym h))
    where
      by : {o q : Option (ℕ × Path × Act × List Given)} → BlankedTouch o q → event_says f ≡ q → o ≡ none → event_says f ≡ none
      by both_unread g k = g
      by (both_say d) g k = no_some (sym k)

  module _ (rows ws : List ℤ) (wr : AllWords rows) (ww : AllWords ws) where
    -- what is accepted with blanks is accepted with the zeros, and comes to the same
    pub blank_handles : (handle_call rows ws f).number ≡ 0 → handle_call rows ws f ≡ handle_call rows ws e
    blank_handles h = by (handle_derived rows ws f wr ww) h
      where
        by : {r : CallAnswer} → HandleAnswers rows ws f r → r.number ≡ 0 → r ≡ handle_call rows ws e
        by (handle_shut d) n = absurd (shut_not_0 d n)
        by (handle_8 a r k) n = absurd (omega (arith, n))
        by (handle_9 a r k m) n = absurd (omega (arith, n))
        by (handle_30 a r k t m) n = absurd (omega (arith, n))
        by (handle_31 a r k t m l) n = absurd (omega (arith, n))
        by (handle_0 a r k t y d) n = let (x, q, m) = action_filled k in sym (handle_only rows ws e wr ww (handle_0 a r q (handles_filled t m) y d))

    in_role : (f : List ℕ) {r role : ℕ} {p : Path} {x : Action} → r ≡ role → event_of f ≡ some (r, p, x) → event_of f ≡ some (role, p, x)
    in_role f {p = p} {x = x} q h = h ∙ ap (λ r. some (r, p, x)) q

    -- a blank where the entry's kind is 0
    pub blank_unused : {c : Code} {Σ : List Ty} {τ : Ty} (z : Stands rows ws c Σ τ) (i role : ℕ) (k : CoversAt (z.shown role) (z.count role) i e) → k.1.role ≡ role
        → ((j : ℕ) → j < max_leaves → leaf_bytes f j ≡ replicate word_columns space → get_or k.1.kinds j no_leaf ≡ no_leaf)
        → handle_call rows ws f ≡ handle_call rows ws e
    blank_unused z i role (l, k) r h =
        let (ms, g, d) = emptied k.says_event in
        let short : length ms ≡ max_leaves = leaves_long f (readable f g) in
        let m = meets_blanked k.meets d (λ j n. h j (leaf_there ms j short n) (leaf_spaces f g j (leaf_there ms j short n) n)) in
        let c : CoversBytes (entry_at (z.shown role) i) f = record { role = k.role; path = k.path; act = k.act; kinds = k.kinds; leaves = ms; says_entry = k.says_entry; says_event = g; meets = m } in
        let o = in_role f r (event_of_lem f g) in
        blank_handles ((z.accepted_iff_covered f role k.path (action_of k.act ms) o).1 (i, (l, c)))
      where
        leaf_there : (ms : List Given) (j : ℕ) → length ms ≡ max_leaves → get_or ms j (some (pos 0)) ≡ none → j < max_leaves
        leaf_there ms j s n = cases (leb max_leaves j)
            (λ y. no_some (sym n ∙ get_or-eq_default ms (some (pos 0)) (let q = leb-true max_leaves j y in omega (arith, s, q))))
            (λ y. leb-false max_leaves j y)
