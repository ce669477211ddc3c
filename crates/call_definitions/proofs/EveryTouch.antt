-- THE MAIN THEOREM (01, "Four lines on the contracts", 3): every list of look and handle calls on every accepted flow.
--
-- Take any rows that an accepted sheet loads to; their last row is a code c, their cells have the types Σ, and typing gives the
-- code the type τ. Take the state that start leaves in any memory, or any rest of the flow at all, whether start can reach it
-- or not. Make any list of calls of look and handle, each with whatever role, event bytes, value memory and list memory it may be. Then
-- (`Stands`, specs/Touches):
--
-- - the state words are the writing of one state (specs/States), and of no other: a task of type τ and a store of the cells' types, which
--   normalising does not change; the typing rules give the task, as a sheet could have it, the type τ. The task is one of c; or c, evaluated in
--   the cells' first contents, leaves the words (CR 3), and it is 45 of the type τ in these;
-- - look answers 21 where its value memory is not 8 words, else 8 where its role is not 1 to 8 (CR 6), else 24 where its list memory is
--   under 35 bytes an entry, else 0; then it hands back the list shown to that role, and all that it answers is derived by the rules
--   (`LookAnswers`, specs/Answers);
-- - handle answers 8 to an event that cannot be read; to a readable one 9 exactly when no handling rule derives a step; where one
--   does, 30 exactly when a row of kind 50 that it passes has another role than the event, else 31 exactly when one of them has no touch
--   left, else 0 (CR 6); all that it answers and leaves is derived by the rules (`HandleAnswers`), refusals leave each word as it was, and
--   it counts at most 1 more stride than the rows of kind 43 and 47;
-- - the list shown to a role is k entries of 35 bytes, each of which can be read. An event of that role is answered 0 exactly when one
--   of them covers it: both say the same path and action, and the event's leaves meet the entry's leaf kinds. Two places that cover one
--   event are one place, and each entry covers some event of the role: no entry is dead; each way to meet its leaf kinds, with blanks
--   where they are 0, is said by some event's bytes;
-- - the task is quiet (tophat's Quiet) exactly when every readable event gets 9, and then the lists of all roles are empty; the list of a
--   role is empty exactly when every readable event of that role is refused (`dark_takes_none`);
-- - where no row of the flow is of kind 50, the list of each role is empty exactly when the task is quiet (`empty_iff_quiet`), and handle
--   answers neither 30 nor 31 (`neither_30_nor_31`);
-- - the failing flag is 1 exactly when the rules say that the task fails, and 0 exactly when they say that it does not; a task that fails is
--   quiet, and a quiet one need not fail.
--
-- What start, look and handle answer is what their definitions in specs/Calls give, and the contracts of the code (crate flow) are
-- equations with these; nothing else here speaks of the engine: the rules are tophat's relations, and what bytes say is formats'. That start
-- of an accepted flow answers 0, and with which task, store and strides, is in StartAnswered; that every accepted sheet loads to such a
-- flow, of one code and one type, is in Flows. Rests on Standing, Ungated and StartAnswered.
use mathlib.Core.Path.{◌≡◌, refl, ap, ◌∙◌}
use mathlib.Core.Bool.{true}
use mathlib.Core.Option.{Option, none, some}
use mathlib.Core.Logic.{◌⊎◌, ⊎_elim, ◌↔◌}
use mathlib.Core.List.{List, [], ◌∷◌}
use Prim.Native.Nat.{ℕ, ◌*◌, ◌<◌}
use native.Mathlib.Omega.{arith}
use lib.IntN.{ℤ}
use lib.ListN.{length}
use Rattle.decimal.specs.Path.{Path}
use Rattle.tophat.specs.Syntax.{Ty, Code}
use Rattle.tophat.specs.Handling.{Action}
use Rattle.tophat.specs.Roles.{IsRole, other_role, no_touch, of_role, touches_left, is, admits}
use Rattle.tophat.proofs.Basics.{apart}
use Rattle.formats.specs.Touches.{entry_bytes, action_of, event_of}
use Rattle.formats.proofs.CoversRead.{event_of_lem}
use Rattle.call_definitions.specs.Answers.{AcceptedFlow, IsRest}
use Rattle.call_definitions.specs.Calls.{handle_call}
use Rattle.call_definitions.specs.States.{QuietIn}
use Rattle.call_definitions.specs.Touches.{Call, after, run, Started, ungated, Stands}
use Rattle.call_definitions.proofs.Standing.{role_quiet, stands, call_rest}
use Rattle.call_definitions.proofs.Ungated.{passes_none}
use Rattle.call_definitions.proofs.StartAnswered.{started_is_rest}

module _ {rows : List ℤ} {c : Code} {Σ : List Ty} {τ : Ty} (a : AcceptedFlow rows c Σ τ) where
  -- a list of calls leaves a rest
  pub run_rest : {ws : List ℤ} → IsRest rows ws c Σ τ → (ks : List Call) → IsRest rows (run rows ws ks) c Σ τ
  unfolding run
  run_rest r [] = r
  run_rest {ws = ws} r (k ∷ ks) = run_rest {ws = after rows ws k} (call_rest a r k) ks

  pub every_run : {ws : List ℤ} → Started rows ws ⊎ IsRest rows ws c Σ τ → (ks : List Call) → Stands rows (run rows ws ks) c Σ τ
  every_run h ks = stands a (run_rest (⊎_elim (started_is_rest a) (λ r. r) h) ks)

-- so the list of a role is empty exactly when each event of that role that can be read is refused (CR 6): no touch of theirs changes anything
pub dark_takes_none : {rows ws : List ℤ} {c : Code} {Σ : List Ty} {τ : Ty} (z : Stands rows ws c Σ τ) (role : ℕ) → IsRole role
    → (z.shown role ≡ []) ↔ ((event : List ℕ) (p : Path) (x : Action) → event_of event ≡ some (role, p, x) → (handle_call rows ws event).number ≡ 0 → ⊥)
dark_takes_none {rows} {ws} z role r = (
  λ q event p x e h.
      let (i, k) = (z.accepted_iff_covered event role p x e).0 h in
      let w = (z.entries role r).whole in
      let n = ap length q in
      omega (arith, k.0, w, n),
  λ f. none_in (z.shown role) (z.count role) (z.entries role r).whole (λ l.
      let (event, k, e) = z.covers_some role r 0 l in
      let x = action_of k.1.act k.1.leaves in
      let o : event_of event ≡ some (role, k.1.path, x) = event_of_lem event k.1.says_event ∙ ap (λ r. some (r, k.1.path, x)) e in
      f event _ _ o ((z.accepted_iff_covered event role _ _ o).1 (0, k))),
)
  where
    -- bytes of k entries, of which there is no first
    none_in : (shown : List ℕ) (k : ℕ) → length shown ≡ k * entry_bytes → (0 < k → ⊥) → shown ≡ []
    none_in [] k e f = refl
    none_in (x ∷ xs) k e f = absurd (f (omega (arith, e)))

-- flows of which no row is of kind 50
module _ {rows ws : List ℤ} {c : Code} {Σ : List Ty} {τ : Ty} (a : AcceptedFlow rows c Σ τ) (u : ungated rows ≡ true) (z : Stands rows ws c Σ τ) where
  -- handle answers neither 30 nor 31, whatever the event's bytes
  pub neither_30_nor_31 : (event : List ℕ) → ((handle_call rows ws event).number ≡ other_role → ⊥) × ((handle_call rows ws event).number ≡ no_touch → ⊥)
  unfolding of_role touches_left
  neither_30_nor_31 event = by (event_of event) refl
    where
      by : (o : Option (ℕ × Path × Action)) → event_of event ≡ o → ((handle_call rows ws event).number ≡ other_role → ⊥) × ((handle_call rows ws event).number ≡ no_touch → ⊥)
      by none e = let q = ap (λ r. r.number) (z.unread event e) in ((λ h. omega (arith, q, h)), (λ h. omega (arith, q, h)))
      by (some (role, p, x)) e = (
        λ h. let (gs, k, n) = (z.other event role p x e).0 h in apart (ap (of_role role) (passes_none a u z.rest.writes k)) n,
        λ h. let (gs, k, m, n) = (z.spent event role p x e).0 h in apart (ap touches_left (passes_none a u z.rest.writes k)) n,
      )

  -- CR 1: "The list is empty exactly for quiet tasks", for each role
  pub empty_iff_quiet : (role : ℕ) → IsRole role → (z.shown role ≡ []) ↔ QuietIn z.rest.state
  unfolding admits
  empty_iff_quiet role r = (
    λ q. role_quiet a z.rest role r (λ event p x e t₁ s₁ gs h w.
        (dark_takes_none z role r).0 q event p x e
        ((z.taken event role p x e).1 (t₁, s₁, gs, h, ap (admits (is role)) (passes_none a u z.rest.writes (t₁, s₁, h))))),
    λ q. z.quiet_dark q role,
  )
