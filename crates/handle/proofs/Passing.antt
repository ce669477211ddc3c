-- What is passed on to a part, kinds 43, 44, 46 and 47: the part takes the event or refuses it, and the rows beside it stay. A 44
-- takes Continue itself where its left side has a value. Rests on Numbers, on the forms of rows and on the frames of crate state.
use mathlib.Core.Path.{◌≡◌, refl, sym, ap, ◌∙◌, subst}
use mathlib.Core.Bool.{Bool, true, false}
use mathlib.Core.Logic.{inr, ⊎_elim}
use mathlib.Core.Option.{Option, none, some}
use mathlib.Core.List.{List, [], ◌∷◌}
use Prim.Native.Nat.{ℕ}
use native.Mathlib.Decide.{ℕ_discrete}
use Rattle.decimal.specs.Path.{first, second, Path}
use Rattle.decimal.proofs.PathNumbers.{path_0}
use Rattle.tophat.specs.Syntax.{Code, then, next, and, or, Val, Env, Store}
use Rattle.tophat.specs.Syntax.{TaskOf, before, after, both, either}
use Rattle.tophat.specs.Normalising.{value}
use Rattle.tophat.specs.Handling.{continue, left, right, Action, give, press}
use Rattle.tophat.proofs.Admitted.{verdict_none}
use Rattle.tophat.proofs.Basics.{no_some, some_is}
use Rattle.tophat.proofs.ComputeEvaluation.{evaluate}
use Rattle.tophat.proofs.ComputeNormalising.{right_fails}
use Rattle.tophat.proofs.ComputeHandling.{map_task, at_mark, at_continue, unless_failing, handle, Taken}
use Rattle.tophat.proofs.Preservation.{option_is, value_type}
use Rattle.rows.specs.GroundNumbers.{not_handled}
use Rattle.rows.specs.Kinds.{task_k, then_k, next_k, and_k, or_k, number_of}
use Rattle.rows.specs.Rows.{word, op_a, op_b, OfKind, FromKind, UpToKind}
use Rattle.std.specs.Prelude.{Some, None}
use Rattle.value.specs.declared.Value.{Value}
use Rattle.value.specs.Found.{Found, as_found}
use Rattle.value.proofs.Meaning.{found_none, found_some}
use Rattle.state.specs.Holds.{tree_of, Holds, Ran}
use Rattle.state.specs.Ensured.{ValueOk, Handled, HandleOk}
use Rattle.state.proofs.Frames.{same_weak, same_row, keeps, clear_kept, holds_kept, Kids, kids_then, kids_next, kids_and, kids_or}
use Rattle.running.proofs.Forms.{on_then_before, on_next_before, on_either, on_both}
use Rattle.running.specs.Hands.{Unhanded}
use Rattle.normalising.specs.Trying.{Attempted, AttemptOk}
use Rattle.normalising.proofs.Asking.{two_kinds}
use Rattle.normalising.proofs.Trying.{ran_next}
use Rattle.handle.specs.declared.Event.{Event}
use Rattle.handle.specs.Events.{event_path, event_action}
use Rattle.handle.specs.Taking.{going_on, GoingOk, answer_of}
use Rattle.handle.proofs.Numbers.{some_marks, by_action}
use Rattle.tophat.specs.declared.Action.TheVariants.{Continue}

-- ---- Continue at a step: what goes on, by the value that going_on finds

module _ {X : Type 0} (F : Val → Option X) (G : Unit {0} → Option X) where
  goes_none : (p : Path) (x : Action) (o : Option Val) → going_on p x o ≡ none → at_continue p x o F G ≡ G tt
  unfolding going_on at_continue
  goes_none [] (give ls) o e = refl
  goes_none [] (press continue) none e = refl
  goes_none [] (press continue) (some v) e = no_some (sym e)
  goes_none [] (press left) o e = refl
  goes_none [] (press right) o e = refl
  goes_none (m ∷ p) x o e = refl

  goes_some : (p : Path) (x : Action) (o : Option Val) (v : Val) → going_on p x o ≡ some v → (at_continue p x o F G ≡ F v) × (o ≡ some v)
  unfolding going_on at_continue
  goes_some [] (give ls) o v e = no_some e
  goes_some [] (press continue) none v e = no_some e
  goes_some [] (press continue) (some w) v e = (ap F (some_is e), e)
  goes_some [] (press left) o v e = no_some e
  goes_some [] (press right) o v e = no_some e
  goes_some (m ∷ p) x o v e = no_some e

-- going_on, way by way
module _ (rs ws : List ℕ) (i : ℕ) (e : Event) where
  pub going_none : (e.path ≡ 0 → e.action ≡ Continue → ⊥) → GoingOk rs ws i e None
  unfolding going_on as_found
  going_none h d c z Σ Γ τ s t y st gs gb g w = by (ℕ_discrete e.path 0)
    where
      by : Dec (e.path ≡ 0) → None ≡ as_found (going_on (event_path e) (event_action e) (value c t s))
      by (yes p) = by_action e.action (λ q. rw (path_0 e.path p, q)) (λ q. absurd (h p q)) (λ q. rw (path_0 e.path p, q)) (λ q. rw (path_0 e.path p, q))
      by (no n) = rw (some_marks e.path n)

  pub going_value : (r : Found) → (e.path ≡ 0) × (e.action ≡ Continue) → ValueOk rs ws i r → GoingOk rs ws i e r
  unfolding going_on
  going_value r (p, h) f d c z Σ Γ τ s t y st gs gb g w =
      f d c z Σ Γ τ s t y st gs gb g w ∙ ap as_found (sym (rw (path_0 e.path p, h)))

-- ---- the arms

module _ (rs ws ws₁ : List ℕ) (i : ℕ) (env : List ℕ) (d r : ℕ) where
  -- the part's answer, wrapped
  mapped : (role j : ℕ) (a c : Code) (K : TaskOf a → TaskOf c) (o : Option (Taken (TaskOf a))) → ((t : TaskOf a) (s : Store) → Ran rs ws ws₁ j a t s → Ran rs ws ws₁ i c (K t) s)
      → Handled rs ws ws₁ j env d a role r o → Handled rs ws ws₁ i env d c role r (map_task K o)
  unfolding map_task
  mapped role j a c K none f h = h
  mapped role j a c K (some q) f h = (h.0, f q.0 q.1 h.1)

  -- 43 and 44 before: the row and B's rows stay where A's change
  step_on : (a b : Code) (t u : TaskOf a) (s : Store) → Kids rs i 1 (tree_of a) 2 (tree_of b) → Holds rs ws i (then a b) (before t) → Ran rs ws ws₁ (op_a rs i) a u s → Ran rs ws ws₁ i (then a b) (before u) s
  step_on a b t u s k h q =
      record { holds = (same_row q.same k.i_a h.0, q.holds, clear_kept h.2 (keeps k.a_b q.same)); stores = q.stores; same = same_weak k.up_a q.same }

  -- 46 and 47: the row and the other part's rows stay
  left_on : (a b : Code) (t t₁ : TaskOf a) (u : TaskOf b) (s : Store) → Kids rs i 1 (tree_of a) 2 (tree_of b) → Holds rs ws i (and a b) (both t u) → Ran rs ws ws₁ (op_a rs i) a t₁ s → Ran rs ws ws₁ i (and a b) (both t₁ u) s
  left_on a b t t₁ u s k h q = record {
    holds = (same_row q.same k.i_a h.0, q.holds, holds_kept rs ws ws₁ (op_b rs i) b u h.2 (keeps k.a_b q.same));
    stores = q.stores;
    same = same_weak k.up_a q.same;
  }

  right_on : (a b : Code) (t : TaskOf a) (u u₁ : TaskOf b) (s : Store) → Kids rs i 1 (tree_of a) 2 (tree_of b) → Holds rs ws i (and a b) (both t u) → Ran rs ws ws₁ (op_b rs i) b u₁ s → Ran rs ws ws₁ i (and a b) (both t u₁) s
  right_on a b t u u₁ s k h q = record {
    holds = (same_row q.same k.i_b h.0, holds_kept rs ws ws₁ (op_a rs i) a t h.1 (keeps k.b_a q.same), q.holds);
    stores = q.stores;
    same = same_weak k.up_b q.same;
  }

  -- 43
  pub handle_then : (role a : ℕ) (p : Path) (x : Action) → Unhanded rs ws i → OfKind rs i (task_k then_k) → a ≡ op_a rs i → HandleOk rs ws ws₁ a env d role p x r → HandleOk rs ws ws₁ i env d role p x r
  unfolding handle
  handle_then role a p x z q e h c k Σ Γ τ s ρ t y w g =
      let f = subst (λ a. HandleOk rs ws ws₁ a env d role p x r) e h in
      on_then_before rs ws d i Σ Γ (λ c t τ. Handled rs ws ws₁ i env d c role r (handle c ρ s t p x)) z q
      (λ a b t σ υ k g y n. mapped role (op_a rs i) a (then a b) before (handle a ρ s t p x) (λ u s m. step_on a b t u s (kids_then rs d i a b k) g m) (f a k.1 Σ Γ σ s ρ t y w g.1)) c k τ t y g

  module _ (e : Event) (a : ℕ) (f : Found) (z : Unhanded rs ws i) (q : OfKind rs i (task_k next_k)) (ea : a ≡ op_a rs i) (hg : GoingOk rs ws a e f) where
    going : GoingOk rs ws (op_a rs i) e f
    going = subst (λ a. GoingOk rs ws a e f) ea hg

    -- a 44 before, at Continue with a value v, and at any other event
    abbrev onward : (a b : Code) → Env → Store → Val → Option (Taken (TaskOf (next a b)))
    onward a b ρ s v =
        unless_failing (right_fails b (v ∷ ρ) s) (after v) (evaluate b (v ∷ ρ) s).0 (evaluate b (v ∷ ρ) s).1

    abbrev within : (a b : Code) → Env → Store → TaskOf a → Unit {0} → Option (Taken (TaskOf (next a b)))
    within a b ρ s t u = map_task before (handle a ρ s t (event_path e) (event_action e))

    -- 44: what does not go on is passed on
    pub handle_next : f ≡ None → HandleOk rs ws ws₁ a env d e.role (event_path e) (event_action e) r → HandleOk rs ws ws₁ i env d e.role (event_path e) (event_action e) r
    unfolding handle
    handle_next n h c k Σ Γ τ s ρ t y w g =
        let l = subst (λ a. HandleOk rs ws ws₁ a env d e.role (event_path e) (event_action e) r) ea h in
        on_next_before rs ws d i Σ Γ (λ c t τ. Handled rs ws ws₁ i env d c e.role r (handle c ρ s t (event_path e) (event_action e))) z q
        (λ a b t σ υ k g y x.
        let o = found_none _ (going d a k.1 Σ Γ σ s t y w.store_typed w.store_small w.binders_small g.1 w.stores) n in
        subst (Handled rs ws ws₁ i env d (next a b) e.role r) (sym (goes_none (onward a b ρ s) (within a b ρ s t) (event_path e) (event_action e) (value a t s) o))
        (mapped e.role (op_a rs i) a (next a b) before (handle a ρ s t (event_path e) (event_action e)) (λ u s m. let o = step_on a b t u s (kids_next rs d i a b k) g m in record { holds = o.holds; stores = o.stores; same = o.same }) (l a k.1 Σ Γ σ s ρ t y w g.1)))
        c k τ t y g

    -- what goes on is tried
    attempted : (q : Bool) → r ≡ answer_of q → (a b : Code) (v : Val) (u : TaskOf b) (s : Store) (x : Bool) → Attempted rs ws ws₁ i env d q a b v (u, s) x → Handled rs ws ws₁ i env d (next a b) e.role r (unless_failing x (after v) u s)
    unfolding unless_failing
    attempted q m a b v u s true h = (m ∙ ap answer_of h.0, h.1)
    attempted q m a b v u s false h = (m ∙ ap answer_of h.0 ∙ sym (verdict_none e.role), ran_next h.1)

    pub handle_continue : {x : Value} (q : Bool) → r ≡ answer_of q → f ≡ Some x → AttemptOk rs ws ws₁ i env d x q → HandleOk rs ws ws₁ i env d e.role (event_path e) (event_action e) r
    unfolding handle
    handle_continue b₀ m₀ n h c k Σ Γ τ s ρ t y w g =
        on_next_before rs ws d i Σ Γ (λ c t τ. Handled rs ws ws₁ i env d c e.role r (handle c ρ s t (event_path e) (event_action e))) z q
        (λ a b t σ υ k g y x.
        let (v, o, m) = found_some _ (going d a k.1 Σ Γ σ s t y w.store_typed w.store_small w.binders_small g.1 w.stores) n in
        let l = goes_some (onward a b ρ s) (within a b ρ s t) (event_path e) (event_action e) (value a t s) v o in
        subst (Handled rs ws ws₁ i env d (next a b) e.role r) (sym l.0)
        (attempted b₀ m₀ a b v (evaluate b (v ∷ ρ) s).0 (evaluate b (v ∷ ρ) s).1 (right_fails b (v ∷ ρ) s)
        (h a b (inr k) Σ Γ σ υ s ρ t v m (option_is (value_type y w.store_typed) l.1) y x w g)))
        c k τ t y g

  -- 46 and 47: the part that the mark names
  module _ (role : ℕ) (p : Path) (x : Action) (z : Unhanded rs ws i) (lo : FromKind rs i (task_k and_k)) (hi : UpToKind rs i (task_k or_k)) where
    abbrev Took : Env → Store → (c : Code) → TaskOf c → Type 0
    Took ρ s c t = Handled rs ws ws₁ i env d c role r (handle c ρ s t p x)

    pub handle_first : (a : ℕ) (m : Path) → a ≡ op_a rs i → p ≡ first ∷ m → HandleOk rs ws ws₁ a env d role m x r → HandleOk rs ws ws₁ i env d role p x r
    unfolding handle at_mark
    handle_first a m ea e h c k Σ Γ τ s ρ t y w g =
        let f = subst (λ a. HandleOk rs ws ws₁ a env d role m x r) ea h in
        ⊎_elim
        (λ q. on_both rs ws d i Σ Γ (λ c t τ. Took ρ s c t) q
        (λ a b t u σ υ k g y n l.
        subst (λ p. Handled rs ws ws₁ i env d (and a b) role r (handle (and a b) ρ s (both t u) p x)) (sym e)
        (mapped role (op_a rs i) a (and a b) (λ t. both t u) (handle a ρ s t m x) (λ t₁ s q. left_on a b t t₁ u s (kids_and rs d i a b k) g q) (f a k.1 Σ Γ σ s ρ t y w g.1)))
        c k τ t y g)
        (λ q. on_either rs ws d i Σ Γ (λ c t τ. Took ρ s c t) z q
        (λ a b t u σ k g y n.
        subst (λ p. Handled rs ws ws₁ i env d (or a b) role r (handle (or a b) ρ s (either t u) p x)) (sym e)
        (mapped role (op_a rs i) a (or a b) (λ t. either t u) (handle a ρ s t m x)
        (λ t₁ s q. let o = left_on a b t t₁ u s (kids_or rs d i a b k) g q in record { holds = o.holds; stores = o.stores; same = o.same }) (f a k.1 Σ Γ σ s ρ t y w g.1)))
        c k τ t y g)
        (two_kinds (number_of (task_k and_k)) (word rs i 0) lo hi)

    pub handle_second : (b : ℕ) (m : Path) → b ≡ op_b rs i → p ≡ second ∷ m → HandleOk rs ws ws₁ b env d role m x r → HandleOk rs ws ws₁ i env d role p x r
    unfolding handle at_mark
    handle_second b m eb e h c k Σ Γ τ s ρ t y w g =
        let f = subst (λ b. HandleOk rs ws ws₁ b env d role m x r) eb h in
        ⊎_elim
        (λ q. on_both rs ws d i Σ Γ (λ c t τ. Took ρ s c t) q
        (λ a b t u σ υ k g y n l.
        subst (λ p. Handled rs ws ws₁ i env d (and a b) role r (handle (and a b) ρ s (both t u) p x)) (sym e)
        (mapped role (op_b rs i) b (and a b) (λ u. both t u) (handle b ρ s u m x) (λ u₁ s q. right_on a b t u u₁ s (kids_and rs d i a b k) g q) (f b k.2 Σ Γ υ s ρ u n w g.2)))
        c k τ t y g)
        (λ q. on_either rs ws d i Σ Γ (λ c t τ. Took ρ s c t) z q
        (λ a b t u σ k g y n.
        subst (λ p. Handled rs ws ws₁ i env d (or a b) role r (handle (or a b) ρ s (either t u) p x)) (sym e)
        (mapped role (op_b rs i) b (or a b) (λ u. either t u) (handle b ρ s u m x)
        (λ u₁ s q. let o = right_on a b t u u₁ s (kids_or rs d i a b k) g q in record { holds = o.holds; stores = o.stores; same = o.same }) (f b k.2 Σ Γ σ s ρ u n w g.2)))
        c k τ t y g)
        (two_kinds (number_of (task_k and_k)) (word rs i 0) lo hi)

-- no mark: refused
pub handle_unmarked : (rs ws : List ℕ) (i : ℕ) (env : List ℕ) (d role : ℕ) (p : Path) (x : Action) → Unhanded rs ws i → FromKind rs i (task_k and_k) → UpToKind rs i (task_k or_k) → p ≡ [] → HandleOk rs ws ws i env d role p x not_handled
unfolding handle at_mark
handle_unmarked rs ws i env d role p x z lo hi e c k Σ Γ τ s ρ t y w g = ⊎_elim
    (λ q. on_both rs ws d i Σ Γ (λ c t τ. Handled rs ws ws i env d c role not_handled (handle c ρ s t p x)) q
    (λ a b t u σ υ k g y n l. subst (λ p. Handled rs ws ws i env d (and a b) role not_handled (handle (and a b) ρ s (both t u) p x)) (sym e) (refl, refl)) c k τ t y g)
    (λ q. on_either rs ws d i Σ Γ (λ c t τ. Handled rs ws ws i env d c role not_handled (handle c ρ s t p x)) z q
    (λ a b t u σ k g y n. subst (λ p. Handled rs ws ws i env d (or a b) role not_handled (handle (or a b) ρ s (either t u) p x)) (sym e) (refl, refl)) c k τ t y g)
    (two_kinds (number_of (task_k and_k)) (word rs i 0) lo hi)
