-- What each arm of `failing` ensures, from what the calls in it ensure: one law a form. Rests on the forms of rows that do not hand
-- on, and on specs/Trying.
use mathlib.Core.Path.{◌≡◌, refl, sym, ap, ◌∙◌, subst}
use mathlib.Core.Bool.{Bool, true, false, ◌&&◌}
use mathlib.Core.Logic.{◌⊎◌, inl, inr, ⊎_elim}
use mathlib.Core.List.{List}
use Prim.Native.Nat.{ℕ, ◌+◌, ◌≤◌}
use native.Mathlib.Nat.{eq-or-lt_of_le}
use native.Mathlib.Omega.{arith}
use Rattle.tophat.specs.Syntax.{Code, edit, enter, update, then, next, fail, and, or, xor, view, if, let', TaskOf, Env, Store, gate}
use Rattle.tophat.proofs.ComputeNormalising.{failing, normalise, settle}
use Rattle.rows.specs.Kinds.{task_k, then_k, next_k, fail_k, and_k, or_k, xor_k, number_of}
use Rattle.rows.specs.Rows.{word, op_a, op_b, OfKind, FromKind, UpToKind}
use Rattle.state.specs.Ensured.{FailingOk}
use Rattle.running.proofs.Forms.{on_then_before, on_next_before, on_either, on_unpicked, on_no_if, on_no_let, on_failed, on_both, on_no_gate}
use Rattle.running.specs.Hands.{Unhanded}
use Rattle.normalising.specs.Trying.{TriedOk}

-- one of two kinds
pub two_kinds : (k n : ℕ) → k ≤ n → n ≤ k + 1 → (n ≡ k) ⊎ (n ≡ k + 1)
two_kinds k n h g = ⊎_elim (λ e. inl (sym e)) (λ l. inr (omega arith)) (eq-or-lt_of_le h)

-- ---- both fail: the second is asked where the first fails

abbrev pub Second : Bool → Bool → Type 0 → Type 0
Second p r X = ((p ≡ true) × X) ⊎ ((p ≡ false) × (r ≡ false))

second_is : {p x y r : Bool} {X : Type 0} → p ≡ x → (X → r ≡ y) → Second p r X → r ≡ (x && y)
second_is {y = y} e f (inl (g, h)) = f h ∙ sym (ap (λ x. x && y) (sym e ∙ g))
second_is {y = y} e f (inr (g, h)) = h ∙ sym (ap (λ x. x && y) (sym e ∙ g))

module _ (rs ws : List ℕ) (i : ℕ) (env : List ℕ) (d : ℕ) where
  abbrev Fails : ℕ → Bool → Type 0
  Fails a r = FailingOk rs ws a env d r

  -- what is shown of a task: r tells whether it fails
  abbrev Told : Bool → Env → Store → (c : Code) → TaskOf c → Type 0
  Told r ρ s c t = r ≡ failing c ρ s t

  -- 45
  pub failing_fail : OfKind rs i (task_k fail_k) → FailingOk rs ws i env d true
  unfolding failing
  failing_fail q c k Σ Γ τ s ρ t y w g = on_failed rs ws d i Σ Γ (λ c t τ. Told true ρ s c t) q (λ τ k g l. refl) c k τ t y g

  module _ (z : Unhanded rs ws i) where
    -- 43 and 44: the left side
    pub failing_step : (a : ℕ) (r : Bool) → FromKind rs i (task_k then_k) → UpToKind rs i (task_k next_k) → a ≡ op_a rs i → Fails a r → FailingOk rs ws i env d r
    unfolding failing
    failing_step a r l m e h c k Σ Γ τ s ρ t y w g =
        let f = subst (λ a. Fails a r) e h in
        ⊎_elim
        (λ q. on_then_before rs ws d i Σ Γ (λ c t τ. Told r ρ s c t) z q (λ a b t σ υ k g y x. f a k.1 Σ Γ σ s ρ t y w g.1) c k τ t y g)
        (λ q. on_next_before rs ws d i Σ Γ (λ c t τ. Told r ρ s c t) z q (λ a b t σ υ k g y x. f a k.1 Σ Γ σ s ρ t y w g.1) c k τ t y g)
        (two_kinds (number_of (task_k then_k)) (word rs i 0) l m)

    -- 46 and 47: both parts
    pub failing_both : (a b : ℕ) (p r : Bool) → FromKind rs i (task_k and_k) → UpToKind rs i (task_k or_k) → a ≡ op_a rs i → Fails a p → Second p r ((b ≡ op_b rs i) × Fails b r) → FailingOk rs ws i env d r
    unfolding failing
    failing_both a b p r l m e h f c k Σ Γ τ s ρ t y w g =
        let o = subst (λ a. Fails a p) e h in
        ⊎_elim
        (λ q. on_both rs ws d i Σ Γ (λ c t τ. Told r ρ s c t) q
        (λ a b t u σ υ k g y x l. second_is (o a k.1 Σ Γ σ s ρ t y w g.1) (λ f. subst (λ b. Fails b r) f.0 f.1 b k.2 Σ Γ υ s ρ u x w g.2) f) c k τ t y g)
        (λ q. on_either rs ws d i Σ Γ (λ c t τ. Told r ρ s c t) z q
        (λ a b t u σ k g y x. second_is (o a k.1 Σ Γ σ s ρ t y w g.1) (λ f. subst (λ b. Fails b r) f.0 f.1 b k.2 Σ Γ σ s ρ u x w g.2) f) c k τ t y g)
        (two_kinds (number_of (task_k and_k)) (word rs i 0) l m)

    -- 48: both branches, each settled from the store as it stands
    pub failing_branches : (a b : ℕ) (p r : Bool) → OfKind rs i (task_k xor_k) → a ≡ op_a rs i → TriedOk rs ws a env d p → Second p r ((b ≡ op_b rs i) × TriedOk rs ws b env d r) → FailingOk rs ws i env d r
    unfolding failing settle normalise
    failing_branches a b p r q e h f c k Σ Γ τ s ρ t y w g =
        let o = subst (λ a. TriedOk rs ws a env d p) e h in
        on_unpicked rs ws d i Σ Γ (λ c t τ. Told r ρ s c t) z q
        (λ a b σ k g y x. second_is (o a k.1 Σ Γ σ s ρ y w g.1) (λ f. subst (λ b. TriedOk rs ws b env d r) f.0 f.1 b k.2 Σ Γ σ s ρ x w g.2) f) c k τ t y g

    -- the rest are editors and 49: 25, 31 and 50 hand on
    pub failing_editor : (FromKind rs i (task_k then_k) → UpToKind rs i (task_k xor_k) → ⊥) → FailingOk rs ws i env d false
    unfolding failing
    failing_editor n (edit e) k Σ Γ τ s ρ t y w g = refl
    failing_editor n (enter υ) k Σ Γ τ s ρ t y w g = refl
    failing_editor n (update m) k Σ Γ τ s ρ t y w g = refl
    failing_editor n (then a b) k Σ Γ τ s ρ t y w g = absurd (let q = k.0 in n (omega arith) (omega arith))
    failing_editor n (next a b) k Σ Γ τ s ρ t y w g = absurd (let q = k.0 in n (omega arith) (omega arith))
    failing_editor n (fail υ) k Σ Γ τ s ρ t y w g = absurd (n (omega arith) (omega arith))
    failing_editor n (and a b) k Σ Γ τ s ρ t y w g = absurd (let q = k.0 in n (omega arith) (omega arith))
    failing_editor n (or a b) k Σ Γ τ s ρ t y w g = absurd (let q = k.0 in n (omega arith) (omega arith))
    failing_editor n (xor a b) k Σ Γ τ s ρ t y w g = absurd (let q = k.0 in n (omega arith) (omega arith))
    failing_editor n (view e) k Σ Γ τ s ρ t y w g = refl
    failing_editor n (gate r m b) k Σ Γ τ s ρ t y w g = on_no_gate rs ws d i Σ Γ (λ c t τ. Told false ρ s c t) z k.0 (gate r m b) k τ t y g
    failing_editor n (if e a b) k Σ Γ τ s ρ t y w g = on_no_if rs ws d i Σ Γ (λ c t τ. Told false ρ s c t) z k.0 (if e a b) k τ t y g
    failing_editor n (let' e b) k Σ Γ τ s ρ t y w g = on_no_let rs ws d i Σ Γ (λ c t τ. Told false ρ s c t) z k.0 (let' e b) k τ t y g
