-- Handle by the rules alone: for every rows memory and state memory of words and every event the relation derives what handle answers and
-- leaves, and nothing else. Rests on Grounds and Outcomes.
use mathlib.Core.Path.{◌≡◌, refl, sym, ap, subst, ◌∙◌}
use mathlib.Core.Bool.{true, false}
use mathlib.Core.Option.{Option, none, some}
use mathlib.Core.List.{List, []}
use Prim.Native.Nat.{ℕ}
use lib.IntN.{ℤ}
use Rattle.word.specs.Word.{AllWords}
use Rattle.word.specs.Decides.{Decides}
use Rattle.decimal.specs.Path.{Path}
use Rattle.tophat.specs.Syntax.{Ty, Code, TaskOf, Store}
use Rattle.tophat.specs.Typing.{v_nil}
use Rattle.tophat.specs.Normalising.{Normalises}
use Rattle.tophat.specs.Handling.{Action, Handles}
use Rattle.tophat.specs.Roles.{Gate, other_role, no_touch, of_role, touches_left, verdict, is, admits}
use Rattle.tophat.proofs.Admitted.{admits_anyone, verdict_admits}
use Rattle.tophat.proofs.NormalisingComplete.{normalises_is}
use Rattle.tophat.proofs.HandlingSound.{handles_sound}
use Rattle.tophat.proofs.HandlingComplete.{handles_is}
use Rattle.formats.specs.Touches.{event_of}
use Rattle.rows.proofs.Basics.{no}
use Rattle.rows.specs.GroundNumbers.{event_not_read, not_handled}
use Rattle.call_definitions.specs.Memory.{state_of, CallAnswer, refusal}
use Rattle.call_definitions.specs.States.{RefusesIn, PassesIn}
use Rattle.call_definitions.specs.Answers.{AcceptedFlow, IsRest, HandleAnswers, handle_shut, handle_8, handle_9, handle_30, handle_31, handle_0}
use Rattle.call_definitions.specs.Calls.{Opened, refused_by, rest_of, opened, settled, handled, handle_read, handle_in, handle_call}
use Rattle.call_definitions.proofs.Opening.{opens, state_typed}
use Rattle.call_definitions.proofs.Grounds.{Opens, open_shut, open_rest, opened_derived, shut_only}
use Rattle.call_definitions.proofs.Outcomes.{Outcome, kept, other, spent, went, by_handling}

module _ {rows ws : List ℤ} {c : Code} {Σ : List Ty} {τ : Ty} (a : AcceptedFlow rows c Σ τ) (r : IsRest rows ws c Σ τ) (event : List ℕ) where
  abbrev k : Code
  k = r.state.code

  abbrev t : TaskOf k
  t = r.state.task

  abbrev s : Store
  s = r.state.store

  -- ---- at a rest

  pub rest_handle : handle_call rows ws event ≡ handle_read rows ws r.state (event_of event)
  unfolding handle_call handle_in
  rest_handle = ap (handle_in rows ws (event_of event)) (opens a r.writes r.still)

  pub outcome : {role : ℕ} {p : Path} {x : Action} → event_of event ≡ some (role, p, x) → Outcome a r event role p x (handle_call rows ws event)
  unfolding handle_read
  outcome {role} {p} {x} e =
      let (d, h) = state_typed a r.writes in
      subst (Outcome a r event role p x) (sym (rest_handle ∙ ap (handle_read rows ws r.state) e)) (by_handling a r event role p x _ refl (handles_sound k [] s t p x d v_nil h))

  pub answer_8 : event_of event ≡ none → handle_call rows ws event ≡ refusal event_not_read ws
  unfolding handle_read
  answer_8 e = rest_handle ∙ ap (handle_read rows ws r.state) e

  -- all that it answers is derived
  pub rest_handled : HandleAnswers rows ws event (handle_call rows ws event)
  rest_handled = by (event_of event) refl
    where
      by_outcome : {role : ℕ} {p : Path} {x : Action} {z : CallAnswer} → event_of event ≡ some (role, p, x) → Outcome a r event role p x z → HandleAnswers rows ws event z
      by_outcome e (kept n) = handle_9 a r e n
      by_outcome e (other h n) = handle_30 a r e h n
      by_outcome e (spent h m n) = handle_31 a r e h m n
      by_outcome e (went h m d k) = handle_0 a r e h m d

      by : (o : Option (ℕ × Path × Action)) → event_of event ≡ o → HandleAnswers rows ws event (handle_call rows ws event)
      by none e = subst (HandleAnswers rows ws event) (sym (answer_8 e)) (handle_8 a r e)
      by (some q) e = by_outcome e (outcome e)

  -- what the rules derive is answered
  pub answer_9 : {role : ℕ} {p : Path} {x : Action} → event_of event ≡ some (role, p, x) → RefusesIn r.state p x → handle_call rows ws event ≡ refusal not_handled ws
  answer_9 {role} {p} {x} e n = by (outcome e)
    where
      by : {z : CallAnswer} → Outcome a r event role p x z → z ≡ refusal not_handled ws
      by (kept m) = refl
      by (other {gs} (t₁, s₁, h) m) = absurd (n t₁ s₁ gs h (admits_anyone gs))
      by (spent {gs} (t₁, s₁, h) m l) = absurd (n t₁ s₁ gs h (admits_anyone gs))
      by (went {gs = gs} h m d k) = absurd (n _ _ gs h (admits_anyone gs))

  answer_step : {role : ℕ} {p : Path} {x : Action} {t₁ : TaskOf k} {s₁ : Store} {gs : List Gate} → event_of event ≡ some (role, p, x) → Handles k [] s t p x t₁ s₁ gs
      → handle_call rows ws event ≡ handled rows ws k role (some (t₁, s₁, gs))
  unfolding handle_read
  answer_step {role} e h = rest_handle ∙ ap (handle_read rows ws r.state) e ∙ ap (handled rows ws k role) (handles_is h)

  pub answer_30 : {role : ℕ} {p : Path} {x : Action} {gs : List Gate} → event_of event ≡ some (role, p, x) → PassesIn r.state p x gs → of_role role gs ≡ false
      → handle_call rows ws event ≡ refusal other_role ws
  unfolding handled verdict
  answer_30 e (t₁, s₁, h) n = answer_step e h ∙ rw n refl

  pub answer_31 : {role : ℕ} {p : Path} {x : Action} {gs : List Gate} → event_of event ≡ some (role, p, x) → PassesIn r.state p x gs → of_role role gs ≡ true → touches_left gs ≡ false
      → handle_call rows ws event ≡ refusal no_touch ws
  unfolding handled verdict
  answer_31 e (t₁, s₁, h) m n = answer_step e h ∙ rw (m, n) refl

  pub answer_0 : {role : ℕ} {p : Path} {x : Action} {n : ℕ} {t₁ t₂ : TaskOf k} {s₁ s₂ : Store} {gs : List Gate} → event_of event ≡ some (role, p, x)
      → Handles k [] s t p x t₁ s₁ gs → admits (is role) gs ≡ true → Normalises k [] s₁ t₁ t₂ s₂ n
      → handle_call rows ws event ≡ record { number = 0; strides = n; state = state_of rows k t₂ s₂ }
  unfolding handled settled
  answer_0 {role} {gs = gs} e h m d =
      let v = (verdict_admits role gs).1 m in
      answer_step e h ∙ rw v (ap (λ (x : TaskOf k × Store × ℕ). record { number = 0; strides = x.2; state = state_of rows k x.0 x.1 }) (normalises_is d))

-- ---- every memory

always : Decides true (Unit {0})
always = record { yes = λ e. tt; no = λ e u. no (sym e) }

module _ (rows ws : List ℤ) (event : List ℕ) (wr : AllWords rows) (ww : AllWords ws) where
  by_opened : (o : Opened) → opened rows ws true ≡ o → Opens rows ws (Unit {0}) o → HandleAnswers rows ws event (handle_in rows ws (event_of event) o)
  unfolding handle_in
  by_opened (refused_by g) e (open_shut d) = handle_shut d
  by_opened (rest_of z) e (open_rest a f r) = subst (HandleAnswers rows ws event) (rest_handle a r event) (rest_handled a r event)

  -- what handle answers is derived
  pub handle_derived : HandleAnswers rows ws event (handle_call rows ws event)
  unfolding handle_call
  handle_derived = by_opened (opened rows ws true) refl (opened_derived rows ws (Unit {0}) wr ww true always)

  -- and nothing else
  pub handle_only : {r : CallAnswer} → HandleAnswers rows ws event r → handle_call rows ws event ≡ r
  unfolding handle_call handle_in
  handle_only (handle_shut d) = ap (handle_in rows ws (event_of event)) (shut_only rows ws (Unit {0}) wr ww true always d)
  handle_only (handle_8 a r e) = answer_8 a r event e
  handle_only (handle_9 a r e n) = answer_9 a r event e n
  handle_only (handle_30 a r e h n) = answer_30 a r event e h n
  handle_only (handle_31 a r e h m n) = answer_31 a r event e h m n
  handle_only (handle_0 a r e h m d) = answer_0 a r event e h m d
