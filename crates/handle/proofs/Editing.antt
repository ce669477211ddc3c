-- What the editors ensure, kinds 40 to 42: a value that an event gives is laid where the content stands, and an event that gives none
-- is refused. Rests on Numbers and Blanks, on the forms of rows and on the frames of crate state.
use mathlib.Core.Path.{◌≡◌, refl, sym, ap, ◌∙◌, subst}
use mathlib.Core.Logic.{inl, inr}
use mathlib.Core.Bool.{Bool, true, false}
use mathlib.Core.Option.{Option, none, some, bind}
use mathlib.Core.List.{List, [], ◌∷◌, map}
use Prim.Native.Nat.{ℕ, ◌≤◌}
use native.Mathlib.Decide.{ℕ_discrete}
use native.Mathlib.Omega.{arith}
use lib.ListN.{get_or, set}
use mir.Syntax.{w32}
use mir.Val.{to_z}
use borrow.Author.Tests.{eq-eqb}
use Rattle.word.specs.Word.{AllBits}
use Rattle.decimal.specs.Path.{Path}
use Rattle.decimal.proofs.PathNumbers.{path_0}
use Rattle.tophat.specs.Syntax.{max_leaves, Ty, leaves, Code, edit, enter, update, Val, vunit, Store}
use Rattle.tophat.specs.Syntax.{TaskOf, filled, entered, shared}
use Rattle.tophat.specs.Typing.{TaskType, k_blank, k_entered, type_of}
use Rattle.tophat.specs.Handling.{Action, give, press}
use Rattle.tophat.proofs.Admitted.{verdict_none}
use Rattle.tophat.proofs.ComputeHandling.{then_some, at_editor, handle}
use Rattle.tophat.specs.Leaves.{Given, given}
use Rattle.tophat.specs.declared.Action.TheVariants.{Value}
use Rattle.tophat.proofs.EvaluationAgrees.{look_up}
use Rattle.tophat.proofs.Leaves.{type_of_lem}
use Rattle.tophat.proofs.TypeLeaves.{at_leaves, type_leaves}
use Rattle.rows.specs.Kinds.{task_k, edit_k, enter_k, update_k}
use Rattle.rows.specs.Rows.{word, op_a, OfKind}
use Rattle.shape.specs.Shape.{as_shape, as_type, shape_leaves}
use Rattle.shape.proofs.Puts.{as_type_lem}
use Rattle.shape.proofs.Shapes.{no_type}
use Rattle.shape.proofs.Counts.{by_type, shape_leaves_lem}
use Rattle.typing.specs.RowTypes as typing
use Rattle.typing.proofs.TypeRows.{type_shape}
use Rattle.value.specs.Values.{as_value}
use Rattle.value.specs.declared.Value as Val
use Rattle.value.specs.Fits.{Got, got_none, got_some, value_in, value_for, fits_in}
use Rattle.value.proofs.Fitting.{fits_got}
use Rattle.value.proofs.Operators.{differ}
use Rattle.state.specs.Layout.{at, own, one, value_words}
use Rattle.state.specs.Holds.{Sits, Ran}
use Rattle.state.specs.Words.{words_of, Laid}
use Rattle.state.specs.Ensured.{Handled, HandleAt, HandleOk}
use Rattle.state.proofs.Words.{laid_as}
use Rattle.state.proofs.Frames.{same_row, laid_same, stores_laid, stores_set, foot_cell}
use Rattle.state.proofs.Sites.{on_code}
use Rattle.eval.proofs.Arms.{in_list}
use Rattle.running.proofs.Forms.{on_filled, on_shared}
use Rattle.handle.specs.declared.Event.{Event}
use Rattle.handle.specs.Events.{bits_of, leaves_by, event_path, event_action}
use Rattle.handle.specs.Taking.{taken_by, Filled, FillOk, answer_of}
use Rattle.handle.proofs.Numbers.{some_marks, by_action}
use Rattle.handle.proofs.Blanks.{none_blank, given_blank, given_bits}

-- ---- fill, way by way

module _ (e : Event) where
  -- no value at the path's end
  not_given : (τ : Ty) → (e.path ≡ 0 → e.action ≡ Value → ⊥) → taken_by τ e ≡ none
  unfolding at_editor
  not_given τ h = by (ℕ_discrete e.path 0)
    where
      by : Dec (e.path ≡ 0) → taken_by τ e ≡ none
      by (yes p) = by_action e.action (λ q. absurd (h p q)) (λ q. rw (path_0 e.path p, q)) (λ q. rw (path_0 e.path p, q)) (λ q. rw (path_0 e.path p, q))
      by (no n) = rw (some_marks e.path n)

  -- leaves at the path's end
  at_end : (τ : Ty) → (e.path ≡ 0) × (e.action ≡ Value) → taken_by τ e ≡ given τ (leaves_by e.leaves)
  unfolding at_editor
  at_end τ (p, h) = rw (path_0 e.path p, h)

  -- none of which that the type has a leaf for is blank
  taken_is : (c : ℕ) (τ : Ty) → (e.path ≡ 0) × (e.action ≡ Value) → given τ (leaves_by e.leaves) ≡ given τ (map some (map (to_z w32) (map bits_of e.leaves))) → c ≡ as_shape τ
      → value_in (record { shape = c; leaves = map bits_of e.leaves }) τ ≡ taken_by τ e
  unfolding value_in
  taken_is c τ g b q = rw (eq-eqb c (as_shape τ) q) (sym b ∙ sym (at_end τ g))

module _ (ws : List ℕ) (i x c : ℕ) (e : Event) where
  pub fill_not_given : (e.path ≡ 0 → e.action ≡ Value → ⊥) → FillOk ws ws i x c e false
  unfolding bind
  fill_not_given h = by_type c (λ o. Filled ws ws i x false (bind o λ τ. taken_by τ e)) (refl, refl) (λ τ q l. subst (Filled ws ws i x false) (sym (not_given e τ h)) (refl, refl))

  -- no shape
  pub fill_untyped : c ≡ 0 → FillOk ws ws i x c e false
  unfolding bind
  fill_untyped h = subst (λ o. Filled ws ws i x false (bind o λ τ. taken_by τ e)) (sym (ap as_type h ∙ no_type)) (refl, refl)

  module _ (g : (e.path ≡ 0) × (e.action ≡ Value)) (n : ℕ) (q : n ≡ shape_leaves c) where
    -- of a type's leaves
    of_type : {y : Bool} (τ : Ty) → leaves τ ≤ max_leaves → c ≡ as_shape τ → none_blank e.leaves n ≡ y → none_blank e.leaves (leaves τ) ≡ y
    of_type τ l s b = ap (none_blank e.leaves) (sym (q ∙ ap shape_leaves s ∙ shape_leaves_lem τ l)) ∙ b

    pub fill_blank : none_blank e.leaves n ≡ false → FillOk ws ws i x c e false
    unfolding bind
    fill_blank h = by_type c (λ o. Filled ws ws i x false (bind o λ τ. taken_by τ e)) (refl, refl)
        (λ τ s l. subst (Filled ws ws i x false) (sym (at_end e τ g ∙ given_blank τ e.leaves (of_type τ l s h))) (refl, refl))

    module _ (h : none_blank e.leaves n ≡ true) (r : Bool) (w : r ≡ true → AllBits (map bits_of e.leaves)) (f : r ≡ fits_in (record { shape = c; leaves = map bits_of e.leaves }) c) where
      -- the value that the event gives, if there is one
      given_got : Got r (λ u. record { shape = c; leaves = map bits_of e.leaves } ≡ as_value u) (bind (as_type c) λ τ. taken_by τ e)
      unfolding value_for bind
      given_got =
          let v : Val.Value = record { shape = c; leaves = map bits_of e.leaves } in
          subst (Got r (λ u. v ≡ as_value u)) (by_type c (λ o. bind o (value_in v) ≡ bind o (λ τ. taken_by τ e)) refl
          (λ τ s l. taken_is e c τ g (given_bits τ e.leaves (of_type τ l s h)) s)) (fits_got v c r w f)

      pub fill_unfit : r ≡ false → FillOk ws ws i x c e false
      fill_unfit h = by given_got
        where
          by : {o : Option Val} {Q : Val → Type 0} → Got r Q o → Filled ws ws i x false o
          by (got_none n) = (refl, refl)
          by (got_some n k) = differ (sym n ∙ h)

      pub fill_fits : (ws₁ : List ℕ) → r ≡ true → Laid ws ws₁ i (x ∷ words_of (record { shape = c; leaves = map bits_of e.leaves })) → FillOk ws ws₁ i x c e true
      fill_fits ws₁ h m = by given_got
        where
          by : {o : Option Val} → Got r (λ u. record { shape = c; leaves = map bits_of e.leaves } ≡ as_value u) o → Filled ws ws₁ i x true o
          by (got_none n) = differ (sym h ∙ n)
          by (got_some {x = u} n k) = (refl, laid_as u m k)

-- at a type's shape
fill_type : (ws ws₁ : List ℕ) (i x c : ℕ) (e : Event) (r : Bool) (τ : Ty) → leaves τ ≤ max_leaves → c ≡ as_shape τ → FillOk ws ws₁ i x c e r → Filled ws ws₁ i x r (taken_by τ e)
unfolding bind
fill_type ws ws₁ i x c e r τ l q f = let t = ap as_type q ∙ as_type_lem τ l in rw t at f

-- ---- an editor of a type

editor_then : {X : Type 0} (p : Path) (y : Action) (f : List Given → Option Val) (K : Val → X) → at_editor p y (λ ls. then_some (f ls) K) ≡ then_some (at_editor p y f) K
unfolding at_editor then_some
editor_then [] (give ls) f K = refl
editor_then [] (press b) f K = refl
editor_then (m ∷ p) y f K = refl

-- ---- the arms

module _ (rs ws ws₁ : List ℕ) (i : ℕ) (env : List ℕ) (d : ℕ) (e : Event) (r : Bool) where
  handled_by : (c : Code) (j y : ℕ) (K : Val → TaskOf c) (S : Val → Store) (o : Option Val) → Filled ws ws₁ j y r o → ((v : Val) → Laid ws ws₁ j (y ∷ value_words v) → Ran rs ws ws₁ i c (K v) (S v))
      → Handled rs ws ws₁ i env d c e.role (answer_of r) (then_some o (λ v. (K v, S v, [])))
  unfolding then_some
  handled_by c j y K S none f g = (ap answer_of f.0, f.1)
  handled_by c j y K S (some v) f g = (ap answer_of f.0 ∙ sym (verdict_none e.role), g v f.1)

  filled_by : (c : Code) (τ : Ty) (n j y : ℕ) (K : Val → TaskOf c) (S : Val → Store) → n ≡ as_shape τ → leaves τ ≤ max_leaves
      → FillOk ws ws₁ j y n e r → ((v : Val) → Laid ws ws₁ j (y ∷ value_words v) → Ran rs ws ws₁ i c (K v) (S v))
      → Handled rs ws ws₁ i env d c e.role (answer_of r) (at_editor (event_path e) (event_action e) (λ ls. then_some (given τ ls) (λ v. (K v, S v, []))))
  filled_by c τ n j y K S q l f g =
      subst (Handled rs ws ws₁ i env d c e.role (answer_of r)) (sym (editor_then (event_path e) (event_action e) (λ ls. given τ ls) (λ v. (K v, S v, []))))
      (handled_by c j y K S (taken_by τ e) (fill_type ws ws₁ j y n e r τ l q f) g)

  -- 40
  pub handle_edit : (n : ℕ) → OfKind rs i (task_k edit_k) → n ≡ at ws i 1 → FillOk ws ws₁ i own n e r → HandleOk rs ws ws₁ i env d e.role (event_path e) (event_action e) (answer_of r)
  unfolding handle value_words
  handle_edit n q m f c z Σ Γ τ s ρ t y w h =
      on_filled rs ws d i Σ Γ (λ c t τ. Handled rs ws ws₁ i env d c e.role (answer_of r) (handle c ρ s t (event_path e) (event_action e))) q
      (λ a v τ z g ht k.
      let l = type_leaves ht w.store_small w.binders_small in
      filled_by (edit a) (type_of v) n i own filled (λ v. s) (m ∙ g.words 1 (omega arith)) (subst (λ τ. leaves τ ≤ max_leaves) (sym (type_of_lem k)) l) f
      (λ v l. record { holds = l.row; stores = stores_laid w.stores (λ k. foot_cell rs d i (edit a) z i k refl) l; same = laid_same l (inl refl) }))
      c z τ t y h

  -- 41
  pub handle_enter : (a n : ℕ) (zs : List ℕ) (b : ℕ) → OfKind rs i (task_k enter_k) → a ≡ op_a rs i → n ≡ typing.type_of rs zs b a → FillOk ws ws₁ i one n e r → HandleOk rs ws ws₁ i env d e.role (event_path e) (event_action e) (answer_of r)
  unfolding handle
  handle_enter a n zs b q ea m f = on_code rs d i (task_k enter_k) (HandleAt rs ws ws₁ i env d e.role (event_path e) (event_action e) (answer_of r)) q (λ τ z. by τ z)
    where
      small : {Σ Γ : List Ty} {υ τ : Ty} {t : TaskOf (enter υ)} → TaskType Σ Γ (enter υ) t τ → leaves υ ≤ max_leaves
      small (k_blank l) = l
      small (k_entered l k) = l

      by : (τ : Ty) → Sits rs d i (enter τ) → HandleAt rs ws ws₁ i env d e.role (event_path e) (event_action e) (answer_of r) (enter τ)
      by υ z Σ Γ τ s ρ t y w h =
          let l = small y in
          filled_by (enter υ) υ n i one entered (λ v. s) (m ∙ ap (typing.type_of rs zs b) ea ∙ type_shape z.1 l zs b) l f
          (λ v l. record { holds = l.row; stores = stores_laid w.stores (λ k. foot_cell rs d i (enter υ) z i k refl) l; same = laid_same l (inl refl) })

  -- 42
  pub handle_update : (a n : ℕ) → OfKind rs i (task_k update_k) → a ≡ op_a rs i → n ≡ at ws a 1 → FillOk ws ws₁ a own n e r → HandleOk rs ws ws₁ i env d e.role (event_path e) (event_action e) (answer_of r)
  unfolding handle value_words
  handle_update a n q ea m f c z Σ Γ τ s ρ t y w h =
      on_shared rs ws d i Σ Γ (λ c t τ. Handled rs ws ws₁ i env d c e.role (answer_of r) (handle c ρ s t (event_path e) (event_action e))) q
      (λ k τ z g y.
      let b = ea ∙ z.1 in
      let v = (look_up w.store_typed y).1 in
      let apart : i ≡ k → ⊥ = (λ u. let n₁ : word rs i 0 ≡ word rs k 0 = ap (λ j. word rs j 0) u in omega (arith, q, z.2)) in
      filled_by (update k) (type_of (get_or s k vunit)) n k own (λ v. shared) (λ v. set s k v) (m ∙ ap (λ a. at ws a 1) b ∙ (w.stores.cells k z.2).words 1 (omega arith))
      (subst (λ τ. leaves τ ≤ max_leaves) (sym (type_of_lem v)) (at_leaves y w.store_small)) (subst (λ a. FillOk ws ws₁ a own n e r) b f)
      (λ v l. record { holds = same_row l.same apart g; stores = stores_set s k v w.stores l (in_list w.store_typed y); same = laid_same l (inr z.2) }))
      c z τ t y h
