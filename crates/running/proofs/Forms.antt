-- Rows that do not hand on, one law for each form: at a live row of a kind and a tag stands a task of that form alone, with the
-- types of its parts. `on_either` and so on take a statement on typed tasks from its proof for that form. Rests on specs/Hands.
use mathlib.Core.Path.{◌≡◌, sym, subst}
use mathlib.Core.List.{List, [], ◌∷◌}
use Prim.Native.Nat.{ℕ, ◌≤◌}
use native.Mathlib.Omega.{arith}
use types.Run.{OneOf}
use Rattle.tophat.specs.Syntax.{max_leaves, Ty, pair, leaves, Exp, Code, edit, enter, update, then, next, fail, and, or, xor, view, if, let', Val, gate, gated}
use Rattle.tophat.specs.Syntax.{TaskOf, filled, blank, entered, shared, before, after, failed, both, either, or_left, or_right, unpicked, picked_left, picked_right, if_true, if_false, bound}
use Rattle.tophat.specs.Typing.{At, HasType, CodeType, ValueType}
use Rattle.tophat.specs.Typing.{TaskType, k_filled, k_blank, k_entered, k_shared, k_then_before, k_next_before, k_failed, k_both, k_either, k_unpicked, k_viewed}
use Rattle.rows.specs.Kinds.{either_k, if_k, let_k, task_k, edit_k, enter_k, update_k, then_k, next_k, fail_k, and_k, or_k, xor_k, view_k, number_of, gate_k}
use Rattle.rows.specs.Rows.{word, OfKind}
use Rattle.state.specs.Layout.{at, own, one, value_words}
use Rattle.state.specs.Holds.{Sits, Row, Holds}
use Rattle.state.proofs.Sites.{on_code}
use Rattle.running.specs.Hands.{Unhanded, HandsOn, hands_if_true, hands_if_false, let_bound, then_after, next_after, hands_or_left, hands_or_right, xor_left, xor_right, gate_on}

-- row i is of one of the kinds whose row holds the value of A from the start: 40 or 49
abbrev pub content_kinds : List ℕ
content_kinds = number_of (task_k edit_k) ∷ number_of (task_k view_k) ∷ []

abbrev pub OfContent : List ℕ → ℕ → Type 0
OfContent rs i = OneOf content_kinds (word rs i 0)

module _ (rs ws : List ℕ) (d i : ℕ) (Σ Γ : List Ty) (P : (c : Code) → TaskOf c → Ty → Type 0) where
  -- what is shown: P of each typed task that row i holds
  abbrev Shown : Code → Type 0
  Shown c = (τ : Ty) (t : TaskOf c) → TaskType Σ Γ c t τ → Holds rs ws i c t → P c t τ

  tag_is : {x : ℕ} {xs : List ℕ} → Row ws i (x ∷ xs) → at ws i 0 ≡ x
  tag_is r = r.words 0 (omega arith)

  -- a row of this kind and tag hands on
  handing : {n x m : ℕ} {xs : List ℕ} {X : Type 0} → Unhanded rs ws i → HandsOn n x m → word rs i 0 ≡ n → Row ws i (x ∷ xs) → X
  handing {n} {x} {m} u h q r = absurd (u m (subst (λ n. HandsOn n (at ws i 0) m) (sym q) (subst (λ y. HandsOn n y m) (sym (tag_is r)) h)))

  -- 40
  pub on_filled : OfKind rs i (task_k edit_k) → ((e : Exp) (v : Val) (τ : Ty) → Sits rs d i (edit e) → Row ws i (own ∷ value_words v) → HasType Σ Γ e τ → ValueType v τ → P (edit e) (filled v) τ)
      → (c : Code) → Sits rs d i c → Shown c
  on_filled q f = on_code rs d i (task_k edit_k) Shown q by
    where
      by : (e : Exp) → Sits rs d i (edit e) → Shown (edit e)
      by e z τ (filled v) (k_filled y k) h = f e v τ z h y k

  -- 49
  pub on_viewed : OfKind rs i (task_k view_k) → ((e : Exp) (v : Val) (τ : Ty) → Sits rs d i (view e) → Row ws i (own ∷ value_words v) → HasType Σ Γ e τ → ValueType v τ → P (view e) (filled v) τ)
      → (c : Code) → Sits rs d i c → Shown c
  on_viewed q f = on_code rs d i (task_k view_k) Shown q by
    where
      by : (e : Exp) → Sits rs d i (view e) → Shown (view e)
      by e z τ (filled v) (k_viewed y k) h = f e v τ z h y k

  -- 41
  pub on_blank : OfKind rs i (task_k enter_k) → (at ws i 0 ≡ one → ⊥) → ((τ : Ty) → Sits rs d i (enter τ) → Row ws i (own ∷ []) → leaves τ ≤ max_leaves → P (enter τ) blank τ) → (c : Code) → Sits rs d i c → Shown c
  on_blank q n f = on_code rs d i (task_k enter_k) Shown q by
    where
      by : (τ : Ty) → Sits rs d i (enter τ) → Shown (enter τ)
      by υ z τ blank (k_blank l) h = f υ z h l
      by υ z τ (entered v) (k_entered l k) h = absurd (n (tag_is h))

  pub on_entered : OfKind rs i (task_k enter_k) → at ws i 0 ≡ one
      → ((v : Val) (τ : Ty) → Sits rs d i (enter τ) → Row ws i (one ∷ value_words v) → leaves τ ≤ max_leaves → ValueType v τ → P (enter τ) (entered v) τ)
      → (c : Code) → Sits rs d i c → Shown c
  on_entered q e f = on_code rs d i (task_k enter_k) Shown q by
    where
      by : (τ : Ty) → Sits rs d i (enter τ) → Shown (enter τ)
      by υ z τ blank (k_blank l) h = absurd (let y = tag_is h in omega arith)
      by υ z τ (entered v) (k_entered l k) h = f v υ z h l k

  -- 42
  pub on_shared : OfKind rs i (task_k update_k) → ((k : ℕ) (τ : Ty) → Sits rs d i (update k) → Row ws i (own ∷ []) → At Σ k τ → P (update k) shared τ) → (c : Code) → Sits rs d i c → Shown c
  on_shared q f = on_code rs d i (task_k update_k) Shown q by
    where
      by : (k : ℕ) → Sits rs d i (update k) → Shown (update k)
      by k z τ shared (k_shared y) h = f k τ z h y

  module _ (u : Unhanded rs ws i) where
    -- 43
    pub on_then_before : OfKind rs i (task_k then_k)
        → ((a b : Code) (t : TaskOf a) (τ υ : Ty) → Sits rs d i (then a b) → Holds rs ws i (then a b) (before t) → TaskType Σ Γ a t τ → CodeType Σ (τ ∷ Γ) b υ → P (then a b) (before t) υ)
        → (c : Code) → Sits rs d i c → Shown c
    on_then_before q f = on_code rs d i (task_k then_k) Shown q by
      where
        by : (a b : Code) → Sits rs d i (then a b) → Shown (then a b)
        by a b z υ (before t) (k_then_before y e) h = f a b t _ υ z h y e
        by a b z υ (after v t) y h = handing u then_after q h.0

    -- 44
    pub on_next_before : OfKind rs i (task_k next_k)
        → ((a b : Code) (t : TaskOf a) (τ υ : Ty) → Sits rs d i (next a b) → Holds rs ws i (next a b) (before t) → TaskType Σ Γ a t τ → CodeType Σ (τ ∷ Γ) b υ → P (next a b) (before t) υ)
        → (c : Code) → Sits rs d i c → Shown c
    on_next_before q f = on_code rs d i (task_k next_k) Shown q by
      where
        by : (a b : Code) → Sits rs d i (next a b) → Shown (next a b)
        by a b z υ (before t) (k_next_before y e) h = f a b t _ υ z h y e
        by a b z υ (after v t) y h = handing u next_after q h.0

    -- 47
    pub on_either : OfKind rs i (task_k or_k)
        → ((a b : Code) (t : TaskOf a) (w : TaskOf b) (τ : Ty) → Sits rs d i (or a b) → Holds rs ws i (or a b) (either t w) → TaskType Σ Γ a t τ → TaskType Σ Γ b w τ → P (or a b) (either t w) τ)
        → (c : Code) → Sits rs d i c → Shown c
    on_either q f = on_code rs d i (task_k or_k) Shown q by
      where
        by : (a b : Code) → Sits rs d i (or a b) → Shown (or a b)
        by a b z τ (either t w) (k_either y e) h = f a b t w τ z h y e
        by a b z τ (or_left t) y h = handing u hands_or_left q h.0
        by a b z τ (or_right w) y h = handing u hands_or_right q h.0

    -- 48
    pub on_unpicked : OfKind rs i (task_k xor_k)
        → ((a b : Code) (τ : Ty) → Sits rs d i (xor a b) → Holds rs ws i (xor a b) unpicked → CodeType Σ Γ a τ → CodeType Σ Γ b τ → P (xor a b) unpicked τ)
        → (c : Code) → Sits rs d i c → Shown c
    on_unpicked q f = on_code rs d i (task_k xor_k) Shown q by
      where
        by : (a b : Code) → Sits rs d i (xor a b) → Shown (xor a b)
        by a b z τ unpicked (k_unpicked y e) h = f a b τ z h y e
        by a b z τ (picked_left t) y h = handing u xor_left q h.0
        by a b z τ (picked_right w) y h = handing u xor_right q h.0

    -- 25 and 31 always hand on
    pub on_no_if : OfKind rs i (either_k if_k) → (c : Code) → Sits rs d i c → Shown c
    on_no_if q = on_code rs d i (either_k if_k) Shown q by
      where
        by : (x : Exp) (a b : Code) → Sits rs d i (if x a b) → Shown (if x a b)
        by x a b z τ (if_true t) y h = handing u hands_if_true q h.0
        by x a b z τ (if_false w) y h = handing u hands_if_false q h.0

    pub on_no_let : OfKind rs i (either_k let_k) → (c : Code) → Sits rs d i c → Shown c
    on_no_let q = on_code rs d i (either_k let_k) Shown q by
      where
        by : (x : Exp) (b : Code) → Sits rs d i (let' x b) → Shown (let' x b)
        by x b z τ (bound v w) y h = handing u let_bound q h.0

    -- and 50
    pub on_no_gate : OfKind rs i (task_k gate_k) → (c : Code) → Sits rs d i c → Shown c
    on_no_gate q = on_code rs d i (task_k gate_k) Shown q by
      where
        by : (r n : ℕ) (b : Code) → Sits rs d i (gate r n b) → Shown (gate r n b)
        by r n b z τ (gated k w) y h = handing u gate_on q h.0

  -- 45
  pub on_failed : OfKind rs i (task_k fail_k) → ((τ : Ty) → Sits rs d i (fail τ) → Row ws i (own ∷ []) → leaves τ ≤ max_leaves → P (fail τ) failed τ) → (c : Code) → Sits rs d i c → Shown c
  on_failed q f = on_code rs d i (task_k fail_k) Shown q by
    where
      by : (τ : Ty) → Sits rs d i (fail τ) → Shown (fail τ)
      by υ z τ failed (k_failed l) h = f υ z h l

  -- 46
  pub on_both : OfKind rs i (task_k and_k)
      → ((a b : Code) (t : TaskOf a) (w : TaskOf b) (τ υ : Ty) → Sits rs d i (and a b) → Holds rs ws i (and a b) (both t w) → TaskType Σ Γ a t τ → TaskType Σ Γ b w υ → leaves (pair τ υ) ≤ max_leaves
      → P (and a b) (both t w) (pair τ υ))
      → (c : Code) → Sits rs d i c → Shown c
  on_both q f = on_code rs d i (task_k and_k) Shown q by
    where
      by : (a b : Code) → Sits rs d i (and a b) → Shown (and a b)
      by a b z τ (both t w) (k_both y e l) h = f a b t w _ _ z h y e l
