-- Every touch of three choices grouped one way has a counterpart on them grouped the other way, in two states that go together, or is
-- refused: an event that can be read has bytes for each path of at most 16 marks in place of its own, and a task takes no touch deeper than
-- that. Rests on RegroupedStates, on formats' CoversRead and EntriesFit, and on call_definitions' HandleAnswered.
use mathlib.Core.Path.{◌≡◌, refl, sym, ap, subst, ◌∙◌}
use mathlib.Core.Option.{Option, none, some}
use mathlib.Core.Logic.{◌⊎◌, inl, inr, ⊎_elim}
use mathlib.Core.List.{List, []}
use Prim.Native.Nat.{ℕ, ◌<◌, ◌≤◌}
use native.Mathlib.Omega.{arith}
use lib.IntN.{ℤ}
use lib.ListN.{length, replicate}
use Rattle.decimal.specs.Field.{word_columns}
use Rattle.decimal.specs.Path.{Path, max_marks}
use Rattle.tophat.specs.Syntax.{max_leaves, Ty, Code, TaskOf, Store}
use Rattle.tophat.specs.Typing.{At, here, there, TaskType, ValueTypes, small_nil}
use Rattle.tophat.specs.Roles.{anyone}
use Rattle.tophat.specs.Handling.{Action}
use Rattle.tophat.specs.Showing.{Entry, Covers, c_fill, c_button}
use Rattle.tophat.specs.Redrawn.{path_in}
use Rattle.tophat.proofs.Basics.{no_some}
use Rattle.tophat.proofs.ComputeHandling.{Taken, handle}
use Rattle.tophat.proofs.Admitted.{admits_anyone}
use Rattle.tophat.proofs.EntriesCover.{taken_covered}
use Rattle.tophat.proofs.RegroupingTouches.{path_back, path_in_path_back, path_back_path_in}
use Rattle.tophat.proofs.RenamingTouches.{LikeOption, like_none, like_some}
use Rattle.formats.specs.Touches.{event_of}
use Rattle.formats.specs.Lists.{Fits, fit_none, fit_more}
use Rattle.formats.proofs.Records.{fields_words, leaves_words}
use Rattle.formats.proofs.TouchesRead.{written_leaves, event_said}
use Rattle.formats.proofs.CoversRead.{leaves_place, readable, readable_role, leaves_long, event_of_lem, says_of}
use Rattle.formats.proofs.EntriesFit.{entries_fit}
use Rattle.rows.proofs.Basics.{le_or_lt}
use Rattle.rows.proofs.CellsAt.{cells_small}
use Rattle.rows.specs.GroundNumbers.{not_handled}
use Rattle.call_definitions.specs.Memory.{refusal}
use Rattle.call_definitions.specs.States.{FlowState, TypedState}
use Rattle.call_definitions.specs.Answers.{AcceptedFlow, IsRest}
use Rattle.call_definitions.specs.Calls.{handled, handle_read, handle_call}
use Rattle.call_definitions.proofs.Opening.{state_typed, marks_fit}
use Rattle.call_definitions.proofs.HandleAnswered.{rest_handle}
use Rattle.mirror.specs.Mirrored.{moved_touch}
use Rattle.mirror.specs.Regrouped.{Regroups, Corresponds, tasks, failures, Stand, Counterpart, TooLong, TooLongBack}
use Rattle.mirror.proofs.RegroupedStates.{code_there, image, handle_same}

-- ---- an event with another path

-- the same role, action and leaves at any path that an event can say
other_path : (event : List ℕ) {role : ℕ} {p : Path} {x : Action} → event_of event ≡ some (role, p, x) → (q : Path) → length q ≤ max_marks
    → (event₁ : List ℕ) × (event_of event₁ ≡ some (role, q, x))
other_path event {role} h q few =
    let (a, ls, e, f) = says_of event h in
    let r = readable event e in
    let w = written_leaves (leaves_words (fields_words event leaves_place (replicate max_leaves word_columns)) r.leaves) in
    let (event₁, s) = event_said role (readable_role event r) q few a w (leaves_long event r) r.able in
    (event₁, event_of_lem event₁ s ∙ ap (λ x. some (role, q, x)) f)

-- ---- no task of an accepted flow takes a touch deeper than 16 marks

fit_few : {es : List Entry} {i : ℕ} {e : Entry} → Fits 0 es → At es i e → length e.0 ≤ max_marks
fit_few fit_none d = elim d [ ]
fit_few (fit_more l k h) here = omega (arith, l)
fit_few (fit_more l k h) (there d) = fit_few h d

covers_path : {e : Entry} {p : Path} {x : Action} → Covers e p x → e.0 ≡ p
covers_path (c_fill m) = refl
covers_path c_button = refl

module _ {rows : List ℤ} {c : Code} {Σ : List Ty} {τ : Ty} (a : AcceptedFlow rows c Σ τ)
    {t : TaskOf c} {s : Store} (k : TaskType Σ [] c t τ) (h : ValueTypes s Σ) where
  taken_few : (p : Path) (x : Action) {r : Taken (TaskOf c)} → handle c [] s t p x ≡ some r → length p ≤ max_marks
  taken_few p x e =
      let (i, y, d, v) = taken_covered anyone c [] s t e (admits_anyone _) in
      let fits = entries_fit anyone (cells_small a.flow.cells) h 0 [] k small_nil (omega arith) (marks_fit a) in
      subst (λ p. length p ≤ max_marks) (covers_path v) (fit_few fits d)

  deep_refused : (p : Path) (x : Action) → max_marks < length p → handle c [] s t p x ≡ none
  deep_refused p x l = by (handle c [] s t p x) refl
    where
      by : (o : Option (Taken (TaskOf c))) → handle c [] s t p x ≡ o → o ≡ none
      by none e = refl
      by (some r) e = let m = taken_few p x e in absurd (omega (arith, l, m))

-- what a rest takes none of gets 9
refused_call : {rows ws : List ℤ} {c : Code} {Σ : List Ty} {τ : Ty} (a : AcceptedFlow rows c Σ τ) (r : IsRest rows ws c Σ τ) (event : List ℕ)
    {role : ℕ} {p : Path} {x : Action} → event_of event ≡ some (role, p, x) → handle r.state.code [] r.state.store r.state.task p x ≡ none
    → handle_call rows ws event ≡ refusal not_handled ws
unfolding handle_read handled
refused_call {rows} {ws} a r event {role} e h =
    rest_handle a r event ∙ ap (handle_read rows ws r.state) e ∙ ap (handled rows ws r.state.code role) h

-- ---- a touch that is taken by both or by neither

module _ {A B : Type 0} {π : ℕ → ℕ} {P : ℕ → Type 0} {f : A → B} where
  none_there : {o : Option (Taken A)} {o₁ : Option (Taken B)} → LikeOption π P f o o₁ → o ≡ none → o₁ ≡ none
  none_there like_none e = refl
  none_there (like_some k) e = no_some (sym e)

  none_here : {o : Option (Taken A)} {o₁ : Option (Taken B)} → LikeOption π P f o o₁ → o₁ ≡ none → o ≡ none
  none_here like_none e = refl
  none_here (like_some k) e = no_some (sym e)

-- ---- counterparts

module _ {rows rows₁ : List ℤ} (g : Regroups rows rows₁) where
  -- an event of the one has a counterpart, and one of the other is one
  abbrev Goes : (Path → Path) → List ℕ → Type 0
  Goes f event = (event₁ : List ℕ) × Counterpart f event event₁

  abbrev Comes : (Path → Path) → List ℕ → Type 0
  Comes f event₁ = (event : List ℕ) × Counterpart f event event₁

  goes_with : (f : Path → Path) (event event₁ : List ℕ) {role : ℕ} {p q : Path} {x : Action}
      → event_of event ≡ some (role, p, x) → event_of event₁ ≡ some (role, q, x) → f p ≡ q → Counterpart f event event₁
  unfolding moved_touch
  goes_with f event event₁ {role} {x = x} e e₁ h = e₁ ∙ ap (λ q. some (role, q, x)) (sym h) ∙ sym (ap (moved_touch f) e)

  there_in : {y y₁ : FlowState} {f : Path → Path} → Corresponds g y y₁ f → TypedState g.cells₁ g.type₁ y₁
      → (event : List ℕ) {role : ℕ} {p : Path} {x : Action} → event_of event ≡ some (role, p, x)
      → Goes f event ⊎ ((max_marks < length (f p)) × (handle y.code [] y.store y.task p x ≡ none))
  there_in failures d event e = inl (event, goes_with (λ p. p) event event e e refl)
  there_in (tasks {t} k) d event {p = p} {x = x} e = ⊎_elim
      (λ few. let (event₁, e₁) = other_path event e (path_in t p) few in inl (event₁, goes_with (path_in t) event event₁ e e₁ refl))
      (λ deep. inr (deep, none_here (handle_same g k t p x) (deep_refused g.flow₁ d.0 d.1 (path_in t p) x deep)))
      (le_or_lt (length (path_in t p)) max_marks)

  back_in : {y y₁ : FlowState} {f : Path → Path} → Corresponds g y y₁ f → TypedState g.cells g.type y
      → (event₁ : List ℕ) {role : ℕ} {q : Path} {x : Action} → event_of event₁ ≡ some (role, q, x)
      → Comes f event₁ ⊎ (((p : Path) → f p ≡ q → max_marks < length p) × (handle y₁.code [] y₁.store y₁.task q x ≡ none))
  back_in failures d event₁ e = inl (event₁, goes_with (λ p. p) event₁ event₁ e e refl)
  back_in (tasks {t} {s₁ = s₁} k) d event₁ {q = q} {x = x} e = ⊎_elim
      (λ few. let (event, e₁) = other_path event₁ e (path_back t q) few in
      inl (event, goes_with (path_in t) event event₁ e₁ e (path_in_path_back t q)))
      (λ deep. inr (
        (λ p e. subst (λ p. max_marks < length p) (sym (ap (path_back t) e) ∙ path_back_path_in t p) deep),
        subst (λ q. handle (code_there g) [] s₁ (image g t) q x ≡ none) (path_in_path_back t q)
            (none_there (handle_same g k t (path_back t q) x) (deep_refused g.flow d.0 d.1 (path_back t q) x deep)),
      ))
      (le_or_lt (length (path_back t q)) max_marks)

  module _ {ws ws₁ : List ℤ} (z : Stand g ws ws₁) where
    pub there_together : (event : List ℕ) → Goes z.path event ⊎ (TooLong z.path event × (handle_call rows ws event ≡ refusal not_handled ws))
    unfolding moved_touch
    there_together event = by (event_of event) refl
      where
        by : (o : Option (ℕ × Path × Action)) → event_of event ≡ o → Goes z.path event ⊎ (TooLong z.path event × (handle_call rows ws event ≡ refusal not_handled ws))
        by none e = inl (event, e ∙ sym (ap (moved_touch z.path) e))
        by (some q) e = ⊎_elim inl (λ (l, h). inr ((q.0, q.1, q.2, e, l), refused_call g.flow z.rest event e h))
            (there_in z.alike (state_typed g.flow₁ z.rest₁.writes) event e)

    pub back_together : (event₁ : List ℕ) → Comes z.path event₁ ⊎ (TooLongBack z.path event₁ × (handle_call rows₁ ws₁ event₁ ≡ refusal not_handled ws₁))
    unfolding moved_touch
    back_together event₁ = by (event_of event₁) refl
      where
        by : (o : Option (ℕ × Path × Action)) → event_of event₁ ≡ o
            → Comes z.path event₁ ⊎ (TooLongBack z.path event₁ × (handle_call rows₁ ws₁ event₁ ≡ refusal not_handled ws₁))
        by none e = inl (event₁, e ∙ sym (ap (moved_touch z.path) e))
        by (some q) e = ⊎_elim inl (λ (l, h). inr ((q.0, q.1, q.2, e, l), refused_call g.flow₁ z.rest₁ event₁ e h))
            (back_in z.alike (state_typed g.flow z.rest.writes) event₁ e)
