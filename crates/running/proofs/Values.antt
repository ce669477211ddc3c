-- What each arm of `value` ensures at a row that does not hand on: one law a form. Rests on Forms, and on the calculus' types of
-- values.
use mathlib.Core.Path.{◌≡◌, refl, sym, ap, ap₂, ◌∙◌, subst}
use mathlib.Core.Bool.{true, false}
use mathlib.Core.Logic.{inl, inr}
use mathlib.Core.Option.{Option, none, some}
use mathlib.Core.List.{List}
use Prim.Native.Nat.{ℕ, ◌+◌, ◌≤◌}
use Rattle.tophat.specs.Syntax.{max_leaves, Ty, pair, leaves, Code, edit, enter, update, then, next, fail, and, or, xor, view, gate, if, let', Val, Store}
use Rattle.tophat.specs.Syntax.{TaskOf}
use Rattle.tophat.specs.Normalising.{pair_of, first_of, value}
use Rattle.tophat.proofs.EvaluationAgrees.{look_up}
use Rattle.tophat.proofs.Leaves.{type_of_lem}
use Rattle.tophat.proofs.Preservation.{OptionType, o_none, o_some, value_type}
use Rattle.tophat.proofs.TypeLeaves.{at_leaves, type_leaves}
use Rattle.rows.specs.Kinds.{task_k, enter_k, update_k, and_k, or_k}
use Rattle.rows.specs.Rows.{word, OfKind}
use Rattle.value.specs.declared.Value.{Value}
use Rattle.std.specs.Prelude.{Some, None}
use Rattle.std.specs.Option.{is_some}
use Rattle.value.specs.Found.{Found, as_found, both_found}
use Rattle.value.proofs.Meaning.{pair_value_lem}
use Rattle.value.proofs.Operators.{differ}
use Rattle.state.specs.Layout.{at, one}
use Rattle.state.specs.Words.{value_at}
use Rattle.state.specs.Ensured.{ValueOk}
use Rattle.state.proofs.Words.{value_at_lem}
use Rattle.running.proofs.Forms.{OfContent, on_filled, on_viewed, on_blank, on_entered, on_shared, on_then_before, on_next_before, on_both, on_either, on_unpicked, on_no_if, on_no_let, on_no_gate}
use Rattle.running.specs.Hands.{Unhanded}

-- ---- values found or not

both_found_lem : {o p : Option Val} {τ υ : Ty} → OptionType o τ → OptionType p υ → leaves (pair τ υ) ≤ max_leaves → both_found (as_found o) (as_found p) ≡ as_found (pair_of o p)
unfolding as_found pair_of leaves
both_found_lem o_none k l = refl
both_found_lem (o_some h) o_none l = refl
both_found_lem (o_some {v} h) (o_some {v = w} k) l =
    ap Some (pair_value_lem v w (subst (λ n. n ≤ max_leaves) (sym (ap₂ (λ τ υ. leaves τ + leaves υ) (type_of_lem h) (type_of_lem k))) l))

first_found : (o p : Option Val) → is_some (as_found o) ≡ true → as_found o ≡ as_found (first_of o p)
unfolding as_found first_of
first_found none p h = differ (sym h)
first_found (some v) p h = refl

else_found : (o p : Option Val) → is_some (as_found o) ≡ false → as_found p ≡ as_found (first_of o p)
unfolding as_found first_of
else_found none p h = refl
else_found (some v) p h = differ h

-- ---- the arms

module _ (rs ws : List ℕ) (i : ℕ) where
  abbrev Is : Found → Store → (c : Code) → TaskOf c → Ty → Type 0
  Is r s c t τ = r ≡ as_found (value c t s)

  -- 40 and 49
  pub value_content : (v : Value) → OfContent rs i → v ≡ value_at ws i → ValueOk rs ws i (Some v)
  unfolding value as_found
  value_content v (inl q) e d c z Σ Γ τ s t y st gs gb h w = on_filled rs ws d i Σ Γ (Is (Some v) s) q (λ x v τ z r y k. ap Some (e ∙ value_at_lem r k (type_leaves y gs gb))) c z τ t y h
  value_content v (inr q) e d c z Σ Γ τ s t y st gs gb h w = on_viewed rs ws d i Σ Γ (Is (Some v) s) q (λ x v τ z r y k. ap Some (e ∙ value_at_lem r k (type_leaves y gs gb))) c z τ t y h

  pub value_entered : (v : Value) → OfKind rs i (task_k enter_k) → at ws i 0 ≡ one → v ≡ value_at ws i → ValueOk rs ws i (Some v)
  unfolding value as_found
  value_entered v q x e d c z Σ Γ τ s t y st gs gb h w = on_entered rs ws d i Σ Γ (Is (Some v) s) q x (λ v τ z r l k. ap Some (e ∙ value_at_lem r k l)) c z τ t y h

  pub value_blank : OfKind rs i (task_k enter_k) → (at ws i 0 ≡ one → ⊥) → ValueOk rs ws i None
  unfolding value as_found
  value_blank q x d c z Σ Γ τ s t y st gs gb h w = on_blank rs ws d i Σ Γ (Is None s) q x (λ τ z r l. refl) c z τ t y h

  pub value_shared : (a : ℕ) (v : Value) → OfKind rs i (task_k update_k) → a ≡ word rs i 1 → v ≡ value_at ws a → ValueOk rs ws i (Some v)
  unfolding value as_found
  value_shared a v q ea e d c z Σ Γ τ s t y st gs gb h w =
      on_shared rs ws d i Σ Γ (Is (Some v) s) q
      (λ k τ z r y. ap Some (e ∙ ap (value_at ws) (ea ∙ z.1) ∙ value_at_lem (w.cells k z.2) (look_up st y).1 (at_leaves y gs))) c z τ t y h

  -- of parts at rows a and b
  module _ (a : ℕ) (ea : a ≡ word rs i 1) where
    left_at : (x : Found) → ValueOk rs ws a x → ValueOk rs ws (word rs i 1) x
    left_at x f = subst (λ a. ValueOk rs ws a x) ea f

    right_at : {b : ℕ} → b ≡ word rs i 2 → (x : Found) → ValueOk rs ws b x → ValueOk rs ws (word rs i 2) x
    right_at eb x f = subst (λ b. ValueOk rs ws b x) eb f

    pub value_both : (b : ℕ) (x y r : Found) → OfKind rs i (task_k and_k) → b ≡ word rs i 2 → ValueOk rs ws a x → ValueOk rs ws b y → r ≡ both_found x y → ValueOk rs ws i r
    unfolding value
    value_both b x y r q eb f g e d c z Σ Γ τ s t n st gs gb h w =
        on_both rs ws d i Σ Γ (Is r s) q
        (λ a₁ b₁ t u τ υ z h m k l.
        e
        ∙ ap₂ both_found (left_at x f d a₁ z.1 Σ Γ τ s t m st gs gb h.1 w) (right_at eb y g d b₁ z.2 Σ Γ υ s u k st gs gb h.2 w)
        ∙ both_found_lem (value_type m st) (value_type k st) l)
        c z τ t n h

    module _ (u : Unhanded rs ws i) (q : OfKind rs i (task_k or_k)) (x : Found) (f : ValueOk rs ws a x) where
      pub value_first : is_some x ≡ true → ValueOk rs ws i x
      unfolding value
      value_first e d c z Σ Γ τ s t n st gs gb h w =
          on_either rs ws d i Σ Γ (Is x s) u q
          (λ a₁ b₁ t v τ z h m k. let p = left_at x f d a₁ z.1 Σ Γ τ s t m st gs gb h.1 w in p ∙ first_found (value a₁ t s) (value b₁ v s) (sym (ap is_some p) ∙ e))
          c z τ t n h

      pub value_else : (b : ℕ) (y : Found) → b ≡ word rs i 2 → is_some x ≡ false → ValueOk rs ws b y → ValueOk rs ws i y
      unfolding value
      value_else b y eb e g d c z Σ Γ τ s t n st gs gb h w =
          on_either rs ws d i Σ Γ (Is y s) u q
          (λ a₁ b₁ t v τ z h m k.
          let p = left_at x f d a₁ z.1 Σ Γ τ s t m st gs gb h.1 w in
          right_at eb y g d b₁ z.2 Σ Γ τ s v k st gs gb h.2 w ∙ else_found (value a₁ t s) (value b₁ v s) (sym (ap is_some p) ∙ e))
          c z τ t n h

  -- any other row that does not hand on
  pub value_none : Unhanded rs ws i → (OfContent rs i → ⊥) → (OfKind rs i (task_k enter_k) → ⊥) → (OfKind rs i (task_k update_k) → ⊥) → (OfKind rs i (task_k and_k) → ⊥) → (OfKind rs i (task_k or_k) → ⊥) → ValueOk rs ws i None
  unfolding value as_found
  value_none u x₀ x₁ x₂ x₆ x₇ d (edit e) z Σ Γ τ s t y st gs gb h w = absurd (x₀ (inl z.0))
  value_none u x₀ x₁ x₂ x₆ x₇ d (enter υ) z Σ Γ τ s t y st gs gb h w = absurd (x₁ z.0)
  value_none u x₀ x₁ x₂ x₆ x₇ d (update k) z Σ Γ τ s t y st gs gb h w = absurd (x₂ z.0)
  value_none u x₀ x₁ x₂ x₆ x₇ d (then a b) z Σ Γ τ s t y st gs gb h w = on_then_before rs ws d i Σ Γ (Is None s) u z.0 (λ a b t τ υ z h y e. refl) (then a b) z τ t y h
  value_none u x₀ x₁ x₂ x₆ x₇ d (next a b) z Σ Γ τ s t y st gs gb h w = on_next_before rs ws d i Σ Γ (Is None s) u z.0 (λ a b t τ υ z h y e. refl) (next a b) z τ t y h
  value_none u x₀ x₁ x₂ x₆ x₇ d (fail υ) z Σ Γ τ s t y st gs gb h w = refl
  value_none u x₀ x₁ x₂ x₆ x₇ d (and a b) z Σ Γ τ s t y st gs gb h w = absurd (x₆ z.0)
  value_none u x₀ x₁ x₂ x₆ x₇ d (or a b) z Σ Γ τ s t y st gs gb h w = absurd (x₇ z.0)
  value_none u x₀ x₁ x₂ x₆ x₇ d (xor a b) z Σ Γ τ s t y st gs gb h w = on_unpicked rs ws d i Σ Γ (Is None s) u z.0 (λ a b τ z h y e. refl) (xor a b) z τ t y h
  value_none u x₀ x₁ x₂ x₆ x₇ d (view e) z Σ Γ τ s t y st gs gb h w = absurd (x₀ (inr z.0))
  value_none u x₀ x₁ x₂ x₆ x₇ d (gate r n b) z Σ Γ τ s t y st gs gb h w = on_no_gate rs ws d i Σ Γ (Is None s) u z.0 (gate r n b) z τ t y h
  value_none u x₀ x₁ x₂ x₆ x₇ d (if e a b) z Σ Γ τ s t y st gs gb h w = on_no_if rs ws d i Σ Γ (Is None s) u z.0 (if e a b) z τ t y h
  value_none u x₀ x₁ x₂ x₆ x₇ d (let' e b) z Σ Γ τ s t y st gs gb h w = on_no_let rs ws d i Σ Γ (Is None s) u z.0 (let' e b) z τ t y h
