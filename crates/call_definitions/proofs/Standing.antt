-- What stands at one rest of an accepted flow, in bytes and words, and what one call leaves: a rest again. Carries the calculus' theorem on
-- rests (tophat's EveryRun) over to the bytes that look hands back. Rests on LookAnswered, HandleAnswered and formats' laws of lists.
use mathlib.Core.Path.{◌≡◌, refl, sym, ap, subst, ◌∙◌}
use mathlib.Core.Bool.{Bool, true, false}
use mathlib.Core.Option.{Option, none, some}
use mathlib.Core.Logic.{◌⊎◌, inl, inr, ⊎_elim, ◌↔◌}
use mathlib.Core.List.{List, [], ◌∷◌, cons≢nil}
use Prim.Native.Nat.{ℕ, ◌<◌, ◌≤◌}
use native.Mathlib.Omega.{arith}
use borrow.Author.Tests.{ne_eqb, eqb-true, eqb-false}
use borrow.Table.Steps.{cases}
use lib.Dec.{eqb}
use lib.IntN.{ℤ}
use lib.ListN.{length}
use Rattle.decimal.specs.Path.{Path}
use Rattle.tophat.specs.Syntax.{max_leaves, Ty, Code}
use Rattle.tophat.specs.Typing.{At, here, there, small_nil}
use Rattle.tophat.specs.Handling.{Action}
use Rattle.tophat.specs.Showing.{Entry}
use Rattle.tophat.specs.Runs.{Stands as TreeStands}
use Rattle.tophat.proofs.Basics.{apart, no_some, and_left, and_right}
use Rattle.tophat.proofs.Admitted.{admits_anyone, admits_role}
use Rattle.tophat.proofs.NormalisingComplete.{fails_one}
use Rattle.tophat.proofs.EntriesAgree.{shows_is}
use Rattle.tophat.proofs.Bound.{normalises_bound}
use Rattle.tophat.proofs.ResidualTyped.{residual_typed}
use Rattle.tophat.proofs.EveryRun.{rest_stands}
use Rattle.tophat.specs.Roles.{IsRole, Gate, other_role, no_touch, of_role, touches_left, Who, anyone, is, admits}
use Rattle.formats.specs.Touches.{action_of, event_of}
use Rattle.formats.specs.Lists.{list_text, CoversAt, Fits}
use Rattle.formats.proofs.EntriesFit.{entries_fit}
use Rattle.formats.proofs.ListsRead.{list_length}
use Rattle.formats.proofs.ListsCover.{list_entries, list_covers, covers_list, list_said, list_covers_some}
use Rattle.formats.proofs.CoversRead.{event_of_lem}
use Rattle.formats.proofs.Roles.{by_role}
use Rattle.rows.proofs.Basics.{no, le_or_lt}
use Rattle.rows.proofs.CellsAt.{cells_small}
use Rattle.rows.specs.GroundNumbers.{event_not_read, not_handled, wrong_memory, list_too_short}
use Rattle.call_definitions.specs.Memory.{CallAnswer, refusal, LookAnswer, look_refusal, flag}
use Rattle.call_definitions.specs.States.{FlowState, TypedState, FailsIn, QuietIn, AcceptsIn, RefusesIn, PassesIn}
use Rattle.call_definitions.specs.Answers.{AcceptedFlow, IsRest, LookAnswers, look_shut, shut_21}
use Rattle.call_definitions.specs.Calls.{opened, look_in, look_call, handle_call}
use Rattle.call_definitions.specs.Touches.{Call, look, handle, after, Bounded, Refusing, Stands}
use Rattle.call_definitions.proofs.Opening.{state_typed, state_moves, state_marks, state_once}
use Rattle.call_definitions.proofs.Grounds.{opened_misfit}
use Rattle.call_definitions.proofs.Looking.{looking, answer_24, answer_0, answer_8 as look_8}
use Rattle.call_definitions.proofs.LookAnswered.{rest_looked}
use Rattle.call_definitions.proofs.Outcomes.{Outcome, kept, other, spent, went}
use Rattle.call_definitions.proofs.HandleAnswered.{outcome, answer_8, rest_handled}

-- whom the rows passed admit, they have the role and a touch left for
all_of : (role : ℕ) (gs : List Gate) → admits (is role) gs ≡ true → (of_role role gs ≡ true) × (touches_left gs ≡ true)
all_of role gs m = let e = sym (admits_role role gs) ∙ m in (and_left (of_role role gs) _ e, and_right (of_role role gs) _ e)

module _ {rows ws : List ℤ} {c : Code} {Σ : List Ty} {τ : Ty} (a : AcceptedFlow rows c Σ τ) (r : IsRest rows ws c Σ τ) where
  abbrev at : FlowState
  at = r.state

  typed : TypedState Σ τ at
  typed = state_typed a r.writes

  tree : TreeStands Σ at.code τ at.task at.store
  tree = rest_stands (record { task = typed.0; store = typed.1; still = r.still })

  -- the entries shown to a role
  abbrev es : ℕ → List Entry
  es role = tree.shown (is role)

  fit : (w : Who) → Fits 0 (tree.shown w)
  fit w = subst (Fits 0) (shows_is (tree.shows w)) (entries_fit w (cells_small a.flow.cells) typed.1 0 [] typed.0 small_nil (omega arith) (state_marks a r.writes))

  es_fit : (role : ℕ) → Fits 0 (es role)
  es_fit role = fit (is role)

  abbrev shown : ℕ → List ℕ
  shown role = list_text (es role)

  -- ---- look

  module _ (role : ℕ) (values : List ℤ) (list : List ℕ) where
    misfits : (length values ≡ max_leaves → ⊥) → look_call rows ws role values list ≡ look_refusal wrong_memory values list
    unfolding look_call look_in
    misfits n = ap (λ b. look_in role values list (opened rows ws b)) (ne_eqb (length values) max_leaves n) ∙ ap (look_in role values list) (opened_misfit rows ws false a.loads (λ m f. no f))

    outs : length values ≡ max_leaves → (IsRole role → ⊥) → look_call rows ws role values list ≡ look_refusal event_not_read values list
    outs l n = look_8 a r role values list l n

    shorts : length values ≡ max_leaves → IsRole role → length list < length (shown role) → look_call rows ws role values list ≡ look_refusal list_too_short values list
    shorts l i m = let e = list_length (es_fit role) in answer_24 a r role values list l i (tree.shows (is role)) (omega (arith, e, m))

    abbrev seen : Bool → LookAnswer
    seen x = looking at (es role) x list

    shows_all : length values ≡ max_leaves → IsRole role → length (shown role) ≤ length list → (x : Bool) × FailsIn at x × (look_call rows ws role values list ≡ seen x)
    shows_all l i m =
        let e = list_length (es_fit role) in
        ⊎_elim (λ d. (true, d, answer_0 a r role values list l i (tree.shows (is role)) (omega (arith, e, m)) d)) (λ d. (false, d, answer_0 a r role values list l i (tree.shows (is role)) (omega (arith, e, m)) d)) tree.fails_decided

    looks : length values ≡ max_leaves → IsRole role → length (shown role) ≤ length list → (look_call rows ws role values list).number ≡ 0
    looks l i m = ap (λ z. z.number) (shows_all l i m).2

    -- its answer, by the role and the memories
    data Looked : LookAnswer → Type 0 where
      seen_21 : Looked (look_refusal wrong_memory values list)
      seen_8 : Looked (look_refusal event_not_read values list)
      seen_24 : Looked (look_refusal list_too_short values list)
      seen_0 : (x : Bool) → FailsIn at x → Looked (seen x)

    looked : Looked (look_call rows ws role values list)
    looked = cases (eqb (length values) max_leaves)
        (λ y.
        let l = eqb-true (length values) max_leaves y in
        by_role role
        (λ i. ⊎_elim (λ m. let (x, d, e) = shows_all l i m in subst Looked (sym e) (seen_0 x d)) (λ m. subst Looked (sym (shorts l i m)) seen_24) (le_or_lt (length (shown role)) (length list)))
        (λ n. subst Looked (sym (outs l n)) seen_8))
        (λ n. subst Looked (sym (misfits (eqb-false (length values) max_leaves n))) seen_21)

    part : (look_call rows ws role values list).number ≡ 0 → (look_call rows ws role values list).part ≡ shown role
    part = by looked
      where
        by : {z : LookAnswer} → Looked z → z.number ≡ 0 → z.part ≡ shown role
        by seen_21 h = absurd (omega (arith, h))
        by seen_8 h = absurd (omega (arith, h))
        by seen_24 h = absurd (omega (arith, h))
        by (seen_0 x d) h = refl

    -- the failing flag is that of x exactly where the rules say x
    fails_is : (x : Bool) → (look_call rows ws role values list).number ≡ 0 → ((look_call rows ws role values list).fails ≡ flag x) ↔ FailsIn at x
    fails_is x = by looked
      where
        flag_one : (x y : Bool) → flag x ≡ flag y → x ≡ y
        flag_one true true e = refl
        flag_one true false e = absurd (omega (arith, e))
        flag_one false true e = absurd (omega (arith, e))
        flag_one false false e = refl

        by : {z : LookAnswer} → Looked z → z.number ≡ 0 → (z.fails ≡ flag x) ↔ FailsIn at x
        by seen_21 h = absurd (omega (arith, h))
        by seen_8 h = absurd (omega (arith, h))
        by seen_24 h = absurd (omega (arith, h))
        by (seen_0 y d) h = ((λ e. subst (FailsIn at) (flag_one y x e) d), (λ f. ap flag (fails_one d f)))

    look_answers : LookAnswers rows ws role values list (look_call rows ws role values list)
    look_answers = cases (eqb (length values) max_leaves)
        (λ y. rest_looked a r role values list (eqb-true (length values) max_leaves y))
        (λ n.
        let m = eqb-false (length values) max_leaves n in
        subst (LookAnswers rows ws role values list) (sym (misfits m)) (look_shut (shut_21 a.loads (λ (x, f). m f))))

  -- ---- handle

  module _ {p : Path} {x : Action} where
    -- where a step is derived it is not refused
    stepped : {A : Type 0} {gs : List Gate} → PassesIn at p x gs → RefusesIn at p x → A
    stepped {gs = gs} (t₁, s₁, h) n = absurd (n t₁ s₁ gs h (admits_anyone gs))

    -- which passes the same rows of kind 50
    same_gates : {gs hs : List Gate} → PassesIn at p x gs → PassesIn at p x hs → gs ≡ hs
    same_gates (t₁, s₁, h) (t₂, s₂, k) = (tree.one p x t₁ t₂ s₁ s₂ _ _ h k).2

  module _ {role : ℕ} {p : Path} {x : Action} where
    -- 0, 9, 30 or 31
    answer_of : {event : List ℕ} {z : CallAnswer} → Outcome a r event role p x z → (z.number ≡ 0) ⊎ ((g : ℕ) × Refusing g × (z ≡ refusal g ws))
    answer_of (kept n) = inr (not_handled, inl refl, refl)
    answer_of (other h n) = inr (other_role, inr (inl refl), refl)
    answer_of (spent h m n) = inr (no_touch, inr (inr refl), refl)
    answer_of (went h m d k) = inl refl

    -- 9 exactly where no rule derives a step
    refused_of : {event : List ℕ} {z : CallAnswer} → Outcome a r event role p x z → (z.number ≡ not_handled) ↔ RefusesIn at p x
    refused_of (kept n) = ((λ h. n), (λ h. refl))
    refused_of (other h n) = ((λ e. absurd (omega (arith, e))), stepped h)
    refused_of (spent h m n) = ((λ e. absurd (omega (arith, e))), stepped h)
    refused_of (went h m d k) = ((λ e. absurd (omega (arith, e))), stepped (_, _, h))

    -- where one does, 30 exactly where a row of kind 50 passed has another role
    other_of : {event : List ℕ} {z : CallAnswer} → Outcome a r event role p x z → (z.number ≡ other_role) ↔ ((gs : List Gate) × PassesIn at p x gs × (of_role role gs ≡ false))
    other_of (kept n) = ((λ e. absurd (omega (arith, e))), (λ (gs, k, o). stepped k n))
    other_of (other {gs} h n) = ((λ e. (gs, h, n)), (λ g. refl))
    other_of (spent h m n) = ((λ e. absurd (omega (arith, e))), (λ (gs, k, o). apart m (ap (of_role role) (same_gates h k) ∙ o)))
    other_of (went {gs = gs} h m d k) = ((λ e. absurd (omega (arith, e))), (λ (hs, l, o). apart (all_of role gs m).0 (ap (of_role role) (same_gates (_, _, h) l) ∙ o)))

    -- else 31 exactly where one has no touch left
    spent_of : {event : List ℕ} {z : CallAnswer} → Outcome a r event role p x z
        → (z.number ≡ no_touch) ↔ ((gs : List Gate) × PassesIn at p x gs × (of_role role gs ≡ true) × (touches_left gs ≡ false))
    spent_of (kept n) = ((λ e. absurd (omega (arith, e))), (λ (gs, k, o, q). stepped k n))
    spent_of (other h n) = ((λ e. absurd (omega (arith, e))), (λ (gs, k, o, q). apart (ap (of_role role) (same_gates h k) ∙ o) n))
    spent_of (spent {gs} h m n) = ((λ e. (gs, h, m, n)), (λ g. refl))
    spent_of (went {gs = gs} h m d k) = ((λ e. absurd (omega (arith, e))), (λ (hs, l, o, q). apart (all_of role gs m).1 (ap touches_left (same_gates (_, _, h) l) ∙ q)))

    -- else 0
    taken_of : {event : List ℕ} {z : CallAnswer} → Outcome a r event role p x z → (z.number ≡ 0) ↔ AcceptsIn (is role) at p x
    taken_of (kept n) = ((λ e. absurd (omega (arith, e))), (λ (t₁, s₁, gs, d, y). stepped (t₁, s₁, d) n))
    taken_of (other h n) = ((λ e. absurd (omega (arith, e))), (λ (t₁, s₁, gs, d, y). apart (ap (of_role role) (same_gates h (t₁, s₁, d)) ∙ (all_of role gs y).0) n))
    taken_of (spent h m n) = ((λ e. absurd (omega (arith, e))), (λ (t₁, s₁, gs, d, y). apart (ap touches_left (same_gates h (t₁, s₁, d)) ∙ (all_of role gs y).1) n))
    taken_of (went {gs = gs} h m d k) = ((λ e. (_, _, gs, h, m)), (λ g. refl))

    few_of : {event : List ℕ} {z : CallAnswer} → Outcome a r event role p x z → Bounded rows z.strides
    few_of (kept n) = omega arith
    few_of (other h n) = omega arith
    few_of (spent h m n) = omega arith
    few_of (went h y d k) = let m = state_moves a r.writes in let b = normalises_bound d in omega (arith, m, b)

    -- the state left is a rest
    next_of : {event : List ℕ} {z : CallAnswer} → Outcome a r event role p x z → IsRest rows z.state c Σ τ
    next_of (kept n) = r
    next_of (other h n) = r
    next_of (spent h m n) = r
    next_of (went h m d k) = k

  module _ (event : List ℕ) where
    -- by whether it can be read
    by_event : {P : Type 0} → (event_of event ≡ none → P) → ((role : ℕ) (p : Path) (x : Action) → event_of event ≡ some (role, p, x) → P) → P
    by_event {P} f g = by (event_of event) refl
      where
        by : (o : Option (ℕ × Path × Action)) → event_of event ≡ o → P
        by none e = f e
        by (some q) e = g q.0 q.1 q.2 e

    bounded : Bounded rows (handle_call rows ws event).strides
    bounded = by_event (λ e. subst (λ z. Bounded rows z.strides) (sym (answer_8 a r event e)) (omega arith)) (λ role p x e. few_of (outcome a r event e))

    accepted : (role : ℕ) (p : Path) (x : Action) → event_of event ≡ some (role, p, x) → ((handle_call rows ws event).number ≡ 0) ↔ ((i : ℕ) × CoversAt (shown role) (length (es role)) i event)
    accepted role p x e =
        let f = taken_of (outcome a r event e) in
        let g = tree.accepted_iff_covered (is role) p x in (
          (λ h. let (i, y, d, k) = g.0 (f.0 h) in (i, list_covers (es_fit role) e d k)),
          (λ (i, k). let (y, d, v) = covers_list (es_fit role) e k in f.1 (g.1 (i, y, d, v))),
        )

    once : (role i j : ℕ) → CoversAt (shown role) (length (es role)) i event → CoversAt (shown role) (length (es role)) j event → i ≡ j
    once role i j k l = by_event
        (λ e. absurd (no_some (sym e ∙ event_of_lem event k.1.says_event)))
        (λ said p x e.
        let (y, d, v) = covers_list (es_fit role) e k in
        let (z, f, w) = covers_list (es_fit role) e l in
        tree.covered_once (is role) i j y z p x d f v w)

    handle_rest : IsRest rows (handle_call rows ws event).state c Σ τ
    handle_rest = by_event (λ e. subst (λ z. IsRest rows z.state c Σ τ) (sym (answer_8 a r event e)) r) (λ role p x e. next_of (outcome a r event e))

  -- ---- quiet

  -- where no rule derives a step for any event of one role, anyone's list has no entry, as it would cover such an event; so the task is quiet
  unlit : (role : ℕ) → IsRole role → ((event : List ℕ) (p : Path) (x : Action) → event_of event ≡ some (role, p, x) → RefusesIn at p x) → tree.shown anyone ≡ []
  unlit role i f = none_in (tree.shown anyone) (λ l.
      let (event, k, q) = list_covers_some (fit anyone) role i 0 l in
      let o = event_of_lem event k.1.says_event in
      let (y, d, v) = covers_list (fit anyone) o k in
      let (t₁, s₁, gs, h, w) = (tree.accepted_iff_covered anyone _ _).1 (0, y, d, v) in
      f event _ _ (o ∙ ap (λ r. some (r, k.1.path, action_of k.1.act k.1.leaves)) q) t₁ s₁ gs h w)
    where
      none_in : (l : List Entry) → (0 < length l → ⊥) → l ≡ []
      none_in [] n = refl
      none_in (e ∷ l) n = absurd (n (omega arith))

  pub role_quiet : (role : ℕ) → IsRole role → ((event : List ℕ) (p : Path) (x : Action) → event_of event ≡ some (role, p, x) → RefusesIn r.state p x) → QuietIn r.state
  role_quiet role i f = tree.empty_iff_quiet.0 (unlit role i f)

  is_quiet : QuietIn at ↔ ((event : List ℕ) (role : ℕ) (p : Path) (x : Action) → event_of event ≡ some (role, p, x) → (handle_call rows ws event).number ≡ not_handled)
  is_quiet = (
    λ q event role p x e. (refused_of (outcome a r event e)).1 (λ t₁ s₁ gs h y.
        let (i, z, d, v) = (tree.accepted_iff_covered anyone p x).0 (t₁, s₁, gs, h, y) in
        no_at (tree.empty_iff_quiet.1 q) d),
    λ f. role_quiet 1 (omega arith, omega arith) (λ event p x e. (refused_of (outcome a r event e)).0 (f event 1 p x e)),
  )
    where
      no_at : {l : List Entry} {i : ℕ} {e : Entry} → l ≡ [] → At l i e → ⊥
      no_at q here = cons≢nil q
      no_at q (there d) = cons≢nil q

  -- ---- what stands

  dark : QuietIn at → (role : ℕ) → shown role ≡ []
  unfolding list_text
  dark q role = ap list_text (tree.quiet_empty q (is role))

  pub stands : Stands rows ws c Σ τ
  stands = record {
    rest = r;
    only = λ y w. state_once a w r.writes;
    typed = typed;
    residual_typed = residual_typed (cells_small a.flow.cells) small_nil typed.0;
    shown = shown;
    misfit = misfits;
    role_out = outs;
    short = shorts;
    looks = looks;
    part = part;
    looked = look_answers;
    unread = answer_8 a r;
    answers = λ event role p x e. answer_of (outcome a r event e);
    refused = λ event role p x e. refused_of (outcome a r event e);
    other = λ event role p x e. other_of (outcome a r event e);
    spent = λ event role p x e. spent_of (outcome a r event e);
    taken = λ event role p x e. taken_of (outcome a r event e);
    handled = rest_handled a r;
    bounded = bounded;
    count = λ role. length (es role);
    entries = λ role i. list_entries (es_fit role);
    accepted_iff_covered = accepted;
    covered_once = λ role i event. once event role;
    covers_some = λ role. list_covers_some (es_fit role) role;
    said = λ role. list_said (es_fit role) role;
    quiet = is_quiet;
    quiet_dark = dark;
    fails_is_1 = λ role values list. fails_is role values list true;
    fails_is_0 = λ role values list. fails_is role values list false;
    fails_decided = tree.fails_decided;
    failing_quiet = tree.failing_quiet;
  }

  -- one call leaves a rest
  pub call_rest : (k : Call) → IsRest rows (after rows ws k) c Σ τ
  unfolding after
  call_rest (look role values list) = r
  call_rest (handle event) = handle_rest event
