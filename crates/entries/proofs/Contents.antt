-- What an editor offers: values of the type of its content, of its type row, or of its cell. One law a form. Rests on the forms of
-- rows that do not hand on, and on the types of values.
use mathlib.Core.Path.{◌≡◌, refl, sym, ap, ◌∙◌, subst}
use mathlib.Core.Logic.{⊎_elim}
use mathlib.Core.List.{List, ◌∷◌}
use Prim.Native.Nat.{ℕ, ◌≤◌}
use native.Mathlib.Nat.{eq-or-lt_of_le}
use native.Mathlib.Omega.{arith}
use lib.ListN.{get_or}
use Rattle.tophat.specs.Syntax.{max_leaves, Ty, leaves, Code, enter, Val, vunit, TaskOf, blank, entered, Env, Store}
use Rattle.tophat.specs.Typing.{ValueType, TaskType, k_blank, k_entered, type_of}
use Rattle.tophat.specs.Roles.{Who}
use Rattle.tophat.specs.Showing.{offers}
use Rattle.tophat.proofs.ComputeEntries.{entries}
use Rattle.tophat.proofs.EvaluationAgrees.{look_up}
use Rattle.tophat.proofs.Leaves.{type_of_lem}
use Rattle.tophat.proofs.TypeLeaves.{at_leaves, type_leaves}
use Rattle.rows.specs.Kinds.{task_k, edit_k, enter_k, update_k, number_of}
use Rattle.rows.specs.Rows.{op_a, OfKind}
use Rattle.shape.specs.Shape.{as_shape}
use Rattle.typing.specs.RowTypes as typing
use Rattle.typing.proofs.TypeRows.{type_shape}
use Rattle.state.specs.Layout.{at, value_words}
use Rattle.state.specs.Holds.{Sits, Row}
use Rattle.state.proofs.Sites.{on_code}
use Rattle.running.proofs.Forms.{on_filled, on_shared}
use Rattle.entries.specs.Listing.{ContentOk}

module _ (rs ws : List ℕ) (i : ℕ) where
  -- r is the shape of what the task offers
  abbrev Offered : ℕ → Env → Store → (c : Code) → TaskOf c → Type 0
  Offered r ρ s c t = (υ : Ty) × (r ≡ as_shape υ) × (leaves υ ≤ max_leaves) × ((who : Who) → entries who c ρ s t ≡ offers υ)

  -- word 1 of a row that holds a value is its shape
  shape_at : {j x : ℕ} (v : Val) → Row ws j (x ∷ value_words v) → at ws j 1 ≡ as_shape (type_of v)
  unfolding value_words
  shape_at v r = r.words 1 (omega arith)

  small_value : {v : Val} {τ : Ty} → ValueType v τ → leaves τ ≤ max_leaves → leaves (type_of v) ≤ max_leaves
  small_value k l = subst (λ τ. leaves τ ≤ max_leaves) (sym (type_of_lem k)) l

  pub content_filled : (r : ℕ) → OfKind rs i (task_k edit_k) → r ≡ at ws i 1 → ContentOk rs ws i r
  unfolding entries
  content_filled r q e d c z env Σ Γ τ s ρ t y w g =
      on_filled rs ws d i Σ Γ (λ c t τ. Offered r ρ s c t) q (λ x v τ z row y k. (type_of v, e ∙ shape_at v row, small_value k (type_leaves y w.store_small w.binders_small), λ who. refl)) c z τ t y g

  pub content_entered : (a r : ℕ) (binders : List ℕ) (n : ℕ) → OfKind rs i (task_k enter_k) → a ≡ op_a rs i → r ≡ typing.type_of rs binders n a → ContentOk rs ws i r
  unfolding entries
  content_entered a r binders n q ea e d c z env Σ Γ τ s ρ t y w g = on_code rs d i (task_k enter_k) (λ c. (t : TaskOf c) → TaskType Σ Γ c t τ → Offered r ρ s c t) q by c z t y
    where
      small : {υ τ : Ty} (t : TaskOf (enter υ)) → TaskType Σ Γ (enter υ) t τ → leaves υ ≤ max_leaves
      small blank (k_blank l) = l
      small (entered v) (k_entered l k) = l

      by : (υ : Ty) → Sits rs d i (enter υ) → (t : TaskOf (enter υ)) → TaskType Σ Γ (enter υ) t τ → Offered r ρ s (enter υ) t
      by υ z t y = (υ, e ∙ ap (typing.type_of rs binders n) ea ∙ type_shape z.1 (small t y) binders n, small t y, λ who. refl)

  pub content_shared : (a r : ℕ) → OfKind rs i (task_k update_k) → a ≡ op_a rs i → r ≡ at ws a 1 → ContentOk rs ws i r
  unfolding entries
  content_shared a r q ea e d c z env Σ Γ τ s ρ t y w g =
      on_shared rs ws d i Σ Γ (λ c t τ. Offered r ρ s c t) q
      (λ k τ z row y.
      let v = get_or s k vunit in
      (type_of v, e ∙ ap (λ a. at ws a 1) (ea ∙ z.1) ∙ shape_at v (w.stores.cells k z.2), small_value (look_up w.store_typed y).1 (at_leaves y w.store_small), λ who. refl))
      c z τ t y g

-- of the kinds 40, 41 and 42 the last
pub shared_kind : {k : ℕ} → number_of (task_k edit_k) ≤ k → k ≤ number_of (task_k update_k) → (k ≡ number_of (task_k edit_k) → ⊥) → (k ≡ number_of (task_k enter_k) → ⊥) → k ≡ number_of (task_k update_k)
shared_kind h g n m = ⊎_elim (λ e. absurd (n (sym e))) (λ l. ⊎_elim (λ e. absurd (m (sym e))) (λ (o : number_of (task_k update_k) ≤ _). omega arith) (eq-or-lt_of_le l)) (eq-or-lt_of_le h)
