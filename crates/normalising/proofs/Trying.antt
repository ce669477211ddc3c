-- What `settle`, `tried` and `attempt` ensure, from what the calls in them ensure. Types along the way are kept by the calculus'
-- preservation; that a normalisation of more than one stride leaves a task that does not fail is its FailingKept. Rests on
-- specs/Trying and on the frames of crate state.
use mathlib.Core.Path.{◌≡◌, refl, sym, ap₂, ◌∙◌, subst}
use mathlib.Core.Bool.{Bool, true, false, ◌||◌}
use mathlib.Core.Logic.{inl, inr}
use mathlib.Core.List.{List, [], ◌∷◌}
use Prim.Native.Nat.{ℕ, ◌+◌, ◌≤◌, ◌<◌}
use native.Mathlib.Omega.{arith}
use Rattle.tophat.specs.Syntax.{Ty, Code, then, next, Val, TaskOf, before, after, Env, Store}
use Rattle.tophat.specs.Typing.{CodeType, TaskType, ValueType}
use Rattle.tophat.proofs.Basics.{apart}
use Rattle.tophat.proofs.ComputeEvaluation.{evaluate, overflows_task}
use Rattle.tophat.proofs.ComputeNormalising.{settle, right_fails}
use Rattle.tophat.proofs.TaskEvaluationAgrees.{evaluate_good}
use Rattle.tophat.proofs.NormalisingSound.{normalise_sound}
use Rattle.tophat.proofs.FailingKept.{settle_lives}
use Rattle.tophat.proofs.Preservation.{task_code}
use Rattle.tophat.proofs.TypeLeaves.{task_type_leaves}
use Rattle.rows.specs.Rows.{op_a, op_b}
use Rattle.rows.specs.Enclosing.{max_binders}
use Rattle.value.specs.declared.Value.{Value}
use Rattle.value.specs.Values.{as_value}
use Rattle.state.specs.Layout.{own, one}
use Rattle.state.specs.Holds.{tree_of, Sits, Row, Clear, Holds, World, Ran}
use Rattle.state.specs.Words.{words_of, Laid, Pushed}
use Rattle.state.specs.Ensured.{EvaluateOk, FailingOk, NormaliseOk, ClearOk}
use Rattle.state.proofs.Words.{laid_as}
use Rattle.state.proofs.Frames.{same_trans, same_weak, laid_same, keeps, keeps_laid, clear_kept, holds_kept, stores_kept, stores_laid, Kids, kids_then, kids_next, world_after, world_push}
use Rattle.normalising.specs.Trying.{SettleOk, TriedOk, SitsStep, Attempted, AttemptOk}

-- one run after another
pub ran_after : {rs ws ws₁ ws₂ : List ℕ} {i : ℕ} {c : Code} {t u : TaskOf c} {s s₁ : Store} → Ran rs ws ws₁ i c t s → Ran rs ws₁ ws₂ i c u s₁ → Ran rs ws ws₂ i c u s₁
ran_after p q = record { holds = q.holds; stores = q.stores; same = same_trans p.same q.same }

-- what leaves the words fails, whatever its task does
over_fails : {x : Bool} (y : Bool) → x ≡ true → true ≡ x || y
over_fails y e = rw e

-- ---- branches

module _ (rs ws ws₁ ws₂ : List ℕ) (i : ℕ) (env : List ℕ) (d n : ℕ) (o : Bool) (he : EvaluateOk rs ws ws₁ i env d o) (hn : NormaliseOk rs ws₁ ws₂ i env d n) where
  record Settled (c : Code) (Σ Γ : List Ty) (τ : Ty) (s : Store) (ρ : Env) : Type 0 where
    pub over : o ≡ overflows_task c ρ s
    pub ran : Ran rs ws ws₂ i c (settle c ρ s).0 (settle c ρ s).1
    pub strides : n ≡ (settle c ρ s).2
    pub task : TaskType Σ Γ c (settle c ρ s).0 τ
    pub world : World rs ws₂ env d Σ Γ (settle c ρ s).1 ρ

  settled : (c : Code) → Sits rs d i c → (Σ Γ : List Ty) (τ : Ty) (s : Store) (ρ : Env) → CodeType Σ Γ c τ → World rs ws env d Σ Γ s ρ → Clear rs ws i (tree_of c) → Settled c Σ Γ τ s ρ
  unfolding settle
  settled c k Σ Γ τ s ρ y w g =
      let (p, x) = he c k Σ Γ τ s ρ y w g in
      let e = evaluate_good y ρ s w.binders_typed w.store_typed in
      let w₁ = world_after w p.stores e.store in
      let q = hn c k Σ Γ τ (evaluate c ρ s).1 ρ (evaluate c ρ s).0 e.task w₁ p.holds in
      let m = normalise_sound c ρ (evaluate c ρ s).1 (evaluate c ρ s).0 e.task w.binders_typed e.store in
      record { over = x; ran = ran_after p q.0; strides = q.1; task = m.task; world = world_after w₁ q.0.stores m.store }

  -- more than one stride: it does not fail
  pub settle_moved : o ≡ false → 1 < n → SettleOk rs ws i env d ws₂ false
  settle_moved z l c k Σ Γ τ s ρ y w g =
      let p = settled c k Σ Γ τ s ρ y w g in
      (ap₂ ◌||◌ (sym z ∙ p.over) (sym (settle_lives c ρ s (subst (λ n. 1 < n) p.strides l))), (λ e. p.ran), p.ran.same)

  -- else the normal form is asked
  pub settle_asked : o ≡ false → (r : Bool) → FailingOk rs ws₂ i env d r → SettleOk rs ws i env d ws₂ r
  settle_asked z r h c k Σ Γ τ s ρ y w g =
      let p = settled c k Σ Γ τ s ρ y w g in
      (ap₂ ◌||◌ (sym z ∙ p.over) (h c k Σ Γ τ (settle c ρ s).1 ρ (settle c ρ s).0 p.task p.world p.ran.holds), (λ e. p.ran), p.ran.same)

-- a branch that leaves the words fails
pub settle_over : (rs ws ws₁ : List ℕ) (i : ℕ) (env : List ℕ) (d : ℕ) (o : Bool) → EvaluateOk rs ws ws₁ i env d o → o ≡ true → SettleOk rs ws i env d ws₁ true
settle_over rs ws ws₁ i env d o he z c k Σ Γ τ s ρ y w g =
    let (p, x) = he c k Σ Γ τ s ρ y w g in
    (over_fails _ (sym x ∙ z), (λ e. apart refl e), p.same)

pub tried_is : (rs ws ws₁ : List ℕ) (i : ℕ) (env : List ℕ) (d : ℕ) (r : Bool) → SettleOk rs ws i env d ws₁ r → TriedOk rs ws i env d r
tried_is rs ws ws₁ i env d r h c k Σ Γ τ s ρ y w g = (h c k Σ Γ τ s ρ y w g).0

-- ---- steps

-- what a step of either kind, before a's value is taken, has: a at t, and nothing of b
pub record Waits (rs ws : List ℕ) (d i : ℕ) (a b : Code) (t : TaskOf a) : Type 0 where
  pub kids : Kids rs i 1 (tree_of a) 2 (tree_of b)
  pub room : d < max_binders
  pub sits_a : Sits rs d (op_a rs i) a
  pub sits_b : Sits rs (d + 1) (op_b rs i) b
  pub row : Row ws i (own ∷ [])
  pub holds : Holds rs ws (op_a rs i) a t
  pub clear : Clear rs ws (op_b rs i) (tree_of b)

module _ (rs ws : List ℕ) (d i : ℕ) (a b : Code) (t : TaskOf a) where
  pub waits : SitsStep rs d i a b → Holds rs ws i (then a b) (before t) → Waits rs ws d i a b t
  waits (inl k) g = record { kids = kids_then rs d i a b k; room = k.4; sits_a = k.1; sits_b = k.2; row = g.0; holds = g.1; clear = g.2 }
  waits (inr k) g = record { kids = kids_next rs d i a b k; room = k.4; sits_a = k.1; sits_b = k.2; row = g.0; holds = g.1; clear = g.2 }

-- what is left of the one kind is left of the other
pub ran_next : {rs ws ws₁ : List ℕ} {i : ℕ} {a b : Code} {v : Val} {u : TaskOf b} {s : Store} → Ran rs ws ws₁ i (then a b) (after v u) s → Ran rs ws ws₁ i (next a b) (after v u) s
ran_next p = record { holds = p.holds; stores = p.stores; same = p.same }

module _ (rs ws : List ℕ) (i : ℕ) (env : List ℕ) (d : ℕ) where
  -- no room for a binder: no step sits there
  pub attempt_deep : (ws₁ : List ℕ) (x : Value) (r : Bool) → max_binders ≤ d → AttemptOk rs ws ws₁ i env d x r
  attempt_deep ws₁ x r l a b k Σ Γ τ υ s ρ t v e h y z w g = absurd (let n = (waits rs ws d i a b t k g).room in omega arith)

  module _ (x : Value) (env₁ ws₁ : List ℕ) (b : ℕ) (o : Bool) (pu : Pushed env env₁ d x) (eb : b ≡ op_b rs i) (he : EvaluateOk rs ws ws₁ b env₁ (d + 1) o) where
    -- b evaluated under v, and whether it leaves the words
    begun : {a b : Code} {t : TaskOf a} {Σ Γ : List Ty} {τ υ : Ty} {s : Store} {ρ : Env} {v : Val} → Waits rs ws d i a b t → x ≡ as_value v → ValueType v τ → TaskType Σ Γ a t τ → CodeType Σ (τ ∷ Γ) b υ
        → World rs ws env d Σ Γ s ρ
        → Ran rs ws ws₁ (op_b rs i) b (evaluate b (v ∷ ρ) s).0 (evaluate b (v ∷ ρ) s).1 × (o ≡ overflows_task b (v ∷ ρ) s) × World rs ws₁ env₁ (d + 1) Σ (τ ∷ Γ) (evaluate b (v ∷ ρ) s).1 (v ∷ ρ)
        × TaskType Σ (τ ∷ Γ) b (evaluate b (v ∷ ρ) s).0 υ
    begun {b = b} {Σ = Σ} {Γ = Γ} {τ = τ} {υ = υ} {s = s} {ρ = ρ} {v = v} p e k y z w =
        let w₁ = world_push v w pu e k (task_type_leaves (task_code y) w.store_small w.binders_small) in
        let (q, n) = subst (λ j. EvaluateOk rs ws ws₁ j env₁ (d + 1) o) eb he b p.sits_b Σ (τ ∷ Γ) υ s (v ∷ ρ) z w₁ p.clear in
        let g = evaluate_good z (v ∷ ρ) s w₁.binders_typed w.store_typed in
        (q, n, world_after w₁ q.stores g.store, g.task)

    -- it does: every word is as it was
    pub attempt_over : o ≡ true → AttemptOk rs ws ws i env d x false
    attempt_over n a b k Σ Γ τ υ s ρ t v e h y z w g =
        let q = begun (waits rs ws d i a b t k g) e h y z w in
        subst (Attempted rs ws ws i env d false a b v (evaluate b (v ∷ ρ) s)) (over_fails _ (sym q.1 ∙ n)) (refl, refl)

    module _ (no : o ≡ false) (f : Bool) (hf : FailingOk rs ws₁ b env₁ (d + 1) f) where
      -- else whether it fails is asked
      pub asked : {a b : Code} {t : TaskOf a} {Σ Γ : List Ty} {τ υ : Ty} {s : Store} {ρ : Env} {v : Val} → Waits rs ws d i a b t → x ≡ as_value v → ValueType v τ → TaskType Σ Γ a t τ → CodeType Σ (τ ∷ Γ) b υ
          → World rs ws env d Σ Γ s ρ → f ≡ right_fails b (v ∷ ρ) s
      asked {b = b} {Σ = Σ} {Γ = Γ} {τ = τ} {υ = υ} {s = s} {ρ = ρ} {v = v} p e k y z w =
          let (q, n, w₁, g) = begun p e k y z w in
          ap₂ ◌||◌ (sym no ∙ n)
          (subst (λ j. FailingOk rs ws₁ j env₁ (d + 1) f) eb hf b p.sits_b Σ (τ ∷ Γ) υ (evaluate b (v ∷ ρ) s).1 (v ∷ ρ) (evaluate b (v ∷ ρ) s).0 g w₁ q.holds)

      -- it fails: every word is as it was
      pub attempt_fails : f ≡ true → AttemptOk rs ws ws i env d x false
      attempt_fails n a b k Σ Γ τ υ s ρ t v e h y z w g =
          subst (Attempted rs ws ws i env d false a b v (evaluate b (v ∷ ρ) s)) (sym n ∙ asked (waits rs ws d i a b t k g) e h y z w) (refl, refl)

      -- it does not: the left's rows are cleared, and the row holds the value
      pub attempt_goes : (ws₂ ws₃ : List ℕ) (a : ℕ) → f ≡ false → a ≡ op_a rs i → ClearOk rs ws₁ ws₂ a → Laid ws₂ ws₃ i (one ∷ words_of x) → AttemptOk rs ws ws₃ i env d x true
      attempt_goes ws₂ ws₃ a₀ n ea hc l a b k Σ Γ τ υ s ρ t v e h y z w g =
          let p = waits rs ws d i a b t k g in
          let o = p.kids in
          let q = begun p e h y z w in
          let m = subst (λ j. ClearOk rs ws₁ ws₂ j) ea hc d a p.sits_a in
          let u = (evaluate b (v ∷ ρ) s).0 in
          subst (Attempted rs ws ws₃ i env d true a b v (evaluate b (v ∷ ρ) s)) (sym n ∙ asked p e h y z w) (
            refl,
            record {
              holds = (
                (laid_as v l e).row,
                clear_kept m.0 (keeps_laid o.off_a l),
                holds_kept rs ws₂ ws₃ (op_b rs i) b u (holds_kept rs ws₁ ws₂ (op_b rs i) b u q.0.holds (keeps o.foot_b m.1)) (keeps_laid o.off_b l),
              );
              stores = stores_laid (stores_kept q.0.stores o.cell_a m.1) o.cell_i l;
              same = same_trans (same_weak o.up_b q.0.same) (same_trans (same_weak (λ j f. o.up_a j (inl f)) m.1) (laid_same l o.up_i));
            },
          )
