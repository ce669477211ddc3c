-- What each arm of `stride` and `choose` ensures, from what the calls in it ensure: one law a form. Types after a stride are kept
-- by the calculus' Preservation. Rests on the forms of rows that do not hand on, on Trying and on the frames of crate state.
use mathlib.Core.Path.{◌≡◌, refl, sym, ap, ap₂, ◌∙◌, subst}
use mathlib.Core.Bool.{Bool, true, false, ◌||◌}
use mathlib.Core.Logic.{inl, inr}
use mathlib.Core.List.{List, [], ◌∷◌}
use Prim.Native.Nat.{ℕ}
use Rattle.tophat.specs.Syntax.{Ty, Code, edit, enter, update, then, next, fail, and, or, xor, view, if, let', Val, Env, Store, gate}
use Rattle.tophat.specs.Syntax.{TaskOf, before}
use Rattle.tophat.specs.Typing.{TaskType}
use Rattle.tophat.specs.Normalising.{value}
use Rattle.tophat.proofs.ComputeEvaluation.{evaluate, overflows_task}
use Rattle.tophat.proofs.ComputeNormalising.{go_on, go_on_with, choose_right, choose_left, failing, stride, right_fails}
use Rattle.tophat.proofs.Preservation.{value_type, option_is, stride_kept}
use Rattle.rows.specs.Kinds.{task_k, then_k, next_k, and_k, or_k}
use Rattle.rows.specs.Rows.{op_a, op_b, OfKind}
use Rattle.std.specs.Prelude.{Some, None}
use Rattle.std.specs.Option.{is_some}
use Rattle.value.specs.declared.Value.{Value}
use Rattle.value.specs.Found.{Found, as_found}
use Rattle.value.proofs.Meaning.{found_none, found_some, found_not, found_one}
use Rattle.state.specs.Layout.{own, one, other}
use Rattle.state.specs.Holds.{tree_of, fork, Sits, Row, Holds, Stores, Same, World, Ran}
use Rattle.state.specs.Words.{Laid}
use Rattle.state.specs.Ensured.{StrideOk, ValueOk, ClearOk}
use Rattle.state.proofs.Frames.{same_refl, same_trans, same_weak, same_row, laid_same, keeps, keeps_laid, clear_kept, holds_kept, stores_kept, stores_laid, Reach, Kids, kids_and, kids_or, world_after}
use Rattle.running.proofs.Forms.{on_then_before, on_next_before, on_either, on_unpicked, on_no_if, on_no_let, on_both, on_no_gate}
use Rattle.running.specs.Hands.{Unhanded}
use Rattle.normalising.specs.Trying.{Attempted, AttemptOk}
use Rattle.normalising.proofs.Trying.{Waits, waits}

-- ---- after a stride

-- the words hold what the stride gives, and its task is typed
record Strode (rs ws ws₁ : List ℕ) (i : ℕ) (env : List ℕ) (d : ℕ) (m : Bool) (Σ Γ : List Ty) (c : Code) (τ : Ty) (ρ : Env) (r : TaskOf c × Store × Bool) : Type 0 where
  pub ran : Ran rs ws ws₁ i c r.0 r.1
  pub flag : m ≡ r.2
  pub task : TaskType Σ Γ c r.0 τ
  pub world : World rs ws₁ env d Σ Γ r.1 ρ

strode : {rs ws ws₁ : List ℕ} {i : ℕ} {env : List ℕ} {d : ℕ} {m : Bool} {Σ Γ : List Ty} {c : Code} {τ : Ty} {s : Store} {ρ : Env} {t : TaskOf c} → StrideOk rs ws ws₁ i env d m
    → Sits rs d i c → TaskType Σ Γ c t τ → World rs ws env d Σ Γ s ρ → Holds rs ws i c t → Strode rs ws ws₁ i env d m Σ Γ c τ ρ (stride c ρ s t)
strode {Σ = Σ} {Γ = Γ} {c = c} {τ = τ} {s = s} {ρ = ρ} {t = t} h k y w g =
    let p = h c k Σ Γ τ s ρ t y w g in
    let q = stride_kept y ρ s w.binders_typed w.store_typed in
    record { ran = p.0; flag = p.1; task = q.task; world = world_after w p.0.stores q.store }

-- the value that is found there
valued : {rs ws ws₁ : List ℕ} {i : ℕ} {env : List ℕ} {d : ℕ} {m : Bool} {Σ Γ : List Ty} {c : Code} {τ : Ty} {ρ : Env} {r : TaskOf c × Store × Bool} {f : Found} → ValueOk rs ws₁ i f → Sits rs d i c
    → Strode rs ws ws₁ i env d m Σ Γ c τ ρ r → f ≡ as_found (value c r.0 r.1)
valued {d = d} {Σ = Σ} {Γ = Γ} {c = c} {τ = τ} {r = r} h k p =
    let w = p.world in
    h d c k Σ Γ τ r.1 r.0 p.task w.store_typed w.store_small w.binders_small p.ran.holds w.stores

-- ---- steps: the left side has strided, and the step waits still

module _ {rs ws ws₁ : List ℕ} {d i : ℕ} {a b : Code} {t t₁ : TaskOf a} {s : Store} (p : Waits rs ws d i a b t) (q : Ran rs ws ws₁ (op_a rs i) a t₁ s) where
  then_still : Ran rs ws ws₁ i (then a b) (before t₁) s
  then_still = record {
    holds = (same_row q.same p.kids.i_a p.row, q.holds, clear_kept p.clear (keeps p.kids.a_b q.same));
    stores = q.stores;
    same = same_weak p.kids.up_a q.same;
  }

  next_still : Ran rs ws ws₁ i (next a b) (before t₁) s
  next_still = let r = then_still in record { holds = r.holds; stores = r.stores; same = r.same }

-- what is shown of a task: the words ws₁ and the flag r are what a stride gives
abbrev Strides : List ℕ → List ℕ → List ℕ → ℕ → Bool → Env → Store → (c : Code) → TaskOf c → Type 0
Strides rs ws ws₁ i r ρ s c t = Ran rs ws ws₁ i c (stride c ρ s t).0 (stride c ρ s t).1 × (r ≡ (stride c ρ s t).2)

abbrev Gives : List ℕ → List ℕ → List ℕ → ℕ → Bool → (c : Code) → TaskOf c × Store × Bool → Type 0
Gives rs ws ws₁ i r c q = Ran rs ws ws₁ i c q.0 q.1 × (r ≡ q.2)

module _ (rs ws ws₁ : List ℕ) (i : ℕ) (env : List ℕ) (d : ℕ) (z : Unhanded rs ws i) (a : ℕ) (m : Bool) (ea : a ≡ op_a rs i) (ha : StrideOk rs ws ws₁ a env d m) where
  left : StrideOk rs ws ws₁ (op_a rs i) env d m
  left = subst (λ a. StrideOk rs ws ws₁ a env d m) ea ha

  -- 44
  pub stride_next : OfKind rs i (task_k next_k) → StrideOk rs ws ws₁ i env d m
  unfolding stride
  stride_next q c k Σ Γ τ s ρ t y w g =
      on_next_before rs ws d i Σ Γ (λ c t τ. Strides rs ws ws₁ i m ρ s c t) z q
      (λ a b t σ υ k g y x. let p = strode left k.1 y w g.1 in (next_still (waits rs ws d i a b t (inr k) g) p.ran, p.flag)) c k τ t y g

  module _ (f : Found) (hv : ValueOk rs ws₁ a f) where
    left_value : ValueOk rs ws₁ (op_a rs i) f
    left_value = subst (λ a. ValueOk rs ws₁ a f) ea hv

    -- 43: without a value the step waits
    pub step_waits : OfKind rs i (task_k then_k) → f ≡ None → StrideOk rs ws ws₁ i env d m
    unfolding stride go_on_with
    step_waits q n c k Σ Γ τ s ρ t y w g =
        on_then_before rs ws d i Σ Γ (λ c t τ. Strides rs ws ws₁ i m ρ s c t) z q
        (λ a b t σ υ k g y x.
        let p = strode left k.1 y w g.1 in
        let r = stride a ρ s t in
        let e = found_none (value a r.0 r.1) (valued left_value k.1 p) n in
        subst
        (λ o. Gives rs ws ws₁ i m (then a b) (go_on_with o r.0 r.1 r.2 (λ v. evaluate b (v ∷ ρ) r.1) (λ v q. overflows_task b (v ∷ ρ) r.1 || failing b (v ∷ ρ) q.1 q.0)))
        (sym e) (then_still (waits rs ws d i a b t (inl k) g) p.ran, p.flag))
        c k τ t y g

    -- with one, its right side is tried
    module _ (ws₂ : List ℕ) (u r : Bool) (er : r ≡ (u || m)) where
      tried_on : {a b : Code} {t t₁ : TaskOf a} {s₁ : Store} {m₁ : Bool} (v : Val) (q : TaskOf b × Store) (x : Bool) → Waits rs ws d i a b t → Ran rs ws ws₁ (op_a rs i) a t₁ s₁ → m ≡ m₁
          → Attempted rs ws₁ ws₂ i env d u a b v q x → Gives rs ws ws₂ i r (then a b) (go_on v t₁ s₁ m₁ q x)
      unfolding go_on
      tried_on {a} {b} {t₁ = t₁} {s₁ = s₁} v q true p n f h = (subst (λ w. Ran rs ws w i (then a b) (before t₁) s₁) (sym h.1) (then_still p n), er ∙ ap (λ u. u || m) h.0 ∙ f)
      tried_on v q false p n f h =
          let o = h.1 in
          (record { holds = o.holds; stores = o.stores; same = same_trans (same_weak p.kids.up_a n.same) o.same }, er ∙ ap (λ u. u || m) h.0)

      pub step_tries : {x : Value} → OfKind rs i (task_k then_k) → f ≡ Some x → AttemptOk rs ws₁ ws₂ i env d x u → StrideOk rs ws ws₂ i env d r
      unfolding stride go_on_with
      step_tries q n hu c k Σ Γ τ s ρ t y w g =
          on_then_before rs ws d i Σ Γ (λ c t τ. Strides rs ws ws₂ i r ρ s c t) z q
          (λ a b t σ υ k g y x.
          let p = strode left k.1 y w g.1 in
          let n₁ = stride a ρ s t in
          let h = found_some (value a n₁.0 n₁.1) (valued left_value k.1 p) n in
          let l = waits rs ws d i a b t (inl k) g in
          let v = h.0 in
          subst
          (λ o. Gives rs ws ws₂ i r (then a b) (go_on_with o n₁.0 n₁.1 n₁.2 (λ v. evaluate b (v ∷ ρ) n₁.1) (λ v q. overflows_task b (v ∷ ρ) n₁.1 || failing b (v ∷ ρ) q.1 q.0)))
          (sym h.1)
          (tried_on v (evaluate b (v ∷ ρ) n₁.1) (right_fails b (v ∷ ρ) n₁.1) l p.ran p.flag
          (hu a b (inl k) Σ Γ σ υ n₁.1 ρ n₁.0 v h.2 (option_is (value_type p.task p.world.store_typed) h.1) p.task x p.world (then_still l p.ran).holds)))
          c k τ t y g

    -- 47: the left, strided, has a value: it replaces the choice
    pub choose_left_lem : (ws₂ ws₃ : List ℕ) (b : ℕ) → OfKind rs i (task_k or_k) → is_some f ≡ true → b ≡ op_b rs i → ClearOk rs ws₁ ws₂ b → Laid ws₂ ws₃ i (one ∷ []) → StrideOk rs ws ws₃ i env d true
    unfolding stride choose_left
    choose_left_lem ws₂ ws₃ b₀ q n eb hc l c k Σ Γ τ s ρ t y w g =
        on_either rs ws d i Σ Γ (λ c t τ. Strides rs ws ws₃ i true ρ s c t) z q
        (λ a b t u σ k g y x.
        let p = strode left k.1 y w g.1 in
        let r = stride a ρ s t in
        let h = found_one (value a r.0 r.1) (valued left_value k.1 p) n in
        let o = kids_or rs d i a b k in
        let e = subst (λ b. ClearOk rs ws₁ ws₂ b) eb hc d b k.2 in
        subst (λ v. Gives rs ws ws₃ i true (or a b) (choose_left v r.0 u r.1 r.2 (λ s u. stride b ρ s u) (λ u s. value b u s))) (sym h.1) (
          record {
            holds = (
              l.row,
              holds_kept rs ws₂ ws₃ (op_a rs i) a r.0 (holds_kept rs ws₁ ws₂ (op_a rs i) a r.0 p.ran.holds (keeps o.foot_a e.1)) (keeps_laid o.off_a l),
              clear_kept e.0 (keeps_laid o.off_b l),
            );
            stores = stores_laid (stores_kept p.ran.stores o.cell_b e.1) o.cell_i l;
            same = same_trans (same_weak o.up_a p.ran.same) (same_trans (same_weak (λ j n. o.up_b j (inl n)) e.1) (laid_same l o.up_i));
          },
          refl,
        ))
        c k τ t y g

-- ---- two parts strided, the right from the left's store

record Two (rs ws ws₁ ws₂ : List ℕ) (i : ℕ) (env : List ℕ) (d : ℕ) (m n : Bool) (Σ Γ : List Ty) (a b : Code) (τ υ : Ty) (ρ : Env) (r : TaskOf a × Store × Bool) (q : TaskOf b × Store × Bool) : Type 0 where
  pub left : Strode rs ws ws₁ (op_a rs i) env d m Σ Γ a τ ρ r
  pub right : Strode rs ws₁ ws₂ (op_b rs i) env d n Σ Γ b υ ρ q
  pub row : Row ws₂ i (own ∷ [])
  pub holds : Holds rs ws₂ (op_a rs i) a r.0
  pub same : Same (Reach rs i (fork 1 (tree_of a) 2 (tree_of b))) ws ws₂

module _ (rs ws ws₁ ws₂ : List ℕ) (i : ℕ) (env : List ℕ) (d : ℕ) (a b : ℕ) (m n : Bool) (ea : a ≡ op_a rs i) (eb : b ≡ op_b rs i) (ha : StrideOk rs ws ws₁ a env d m) (hb : StrideOk rs ws₁ ws₂ b env d n) where
  left_of : StrideOk rs ws ws₁ (op_a rs i) env d m
  left_of = subst (λ a. StrideOk rs ws ws₁ a env d m) ea ha

  right_of : StrideOk rs ws₁ ws₂ (op_b rs i) env d n
  right_of = subst (λ b. StrideOk rs ws₁ ws₂ b env d n) eb hb

  two : {Σ Γ : List Ty} {a b : Code} {τ υ : Ty} {s : Store} {ρ : Env} {t : TaskOf a} {u : TaskOf b} → Kids rs i 1 (tree_of a) 2 (tree_of b) → Sits rs d (op_a rs i) a → Sits rs d (op_b rs i) b
      → TaskType Σ Γ a t τ → TaskType Σ Γ b u υ → World rs ws env d Σ Γ s ρ → Row ws i (own ∷ []) → Holds rs ws (op_a rs i) a t → Holds rs ws (op_b rs i) b u
      → Two rs ws ws₁ ws₂ i env d m n Σ Γ a b τ υ ρ (stride a ρ s t) (stride b ρ (stride a ρ s t).1 u)
  two {a = a} {b = b} {s = s} {ρ = ρ} {t = t} {u = u} o ka kb y x w g gA gB =
      let p = strode left_of ka y w gA in
      let q = strode right_of kb x p.world (holds_kept rs ws ws₁ (op_b rs i) b u gB (keeps o.a_b p.ran.same)) in
      record {
        left = p;
        right = q;
        row = same_row q.ran.same o.i_b (same_row p.ran.same o.i_a g);
        holds = holds_kept rs ws₁ ws₂ (op_a rs i) a (stride a ρ s t).0 p.ran.holds (keeps o.b_a q.ran.same);
        same = same_trans (same_weak o.up_a p.ran.same) (same_weak o.up_b q.ran.same);
      }

  -- 46
  pub stride_both : (r : Bool) → OfKind rs i (task_k and_k) → r ≡ (m || n) → StrideOk rs ws ws₂ i env d r
  unfolding stride
  stride_both r q e c k Σ Γ τ s ρ t y w g =
      on_both rs ws d i Σ Γ (λ c t τ. Strides rs ws ws₂ i r ρ s c t) q
      (λ a b t u σ υ k g y x l.
      let p = two (kids_and rs d i a b k) k.1 k.2 y x w g.0 g.1 g.2 in
      (record { holds = (p.row, p.holds, p.right.ran.holds); stores = p.right.ran.stores; same = p.same }, e ∙ ap₂ ◌||◌ p.left.flag p.right.flag))
      c k τ t y g

  -- 47: the left has no value
  module _ (z : Unhanded rs ws i) (f f₁ : Found) (hv : ValueOk rs ws₁ a f) (hw : ValueOk rs ws₂ b f₁) (q : OfKind rs i (task_k or_k)) (x₀ : is_some f ≡ false) where
    -- nor has the right
    pub choose_none : (r : Bool) → is_some f₁ ≡ false → r ≡ (m || n) → StrideOk rs ws ws₂ i env d r
    unfolding stride choose_left choose_right
    choose_none r x₁ e c k Σ Γ τ s ρ t y w g =
        on_either rs ws d i Σ Γ (λ c t τ. Strides rs ws ws₂ i r ρ s c t) z q
        (λ a b t u σ k g y x.
        let p = two (kids_or rs d i a b k) k.1 k.2 y x w g.0 g.1 g.2 in
        let l = stride a ρ s t in
        let o = stride b ρ l.1 u in
        let v = found_not (value a l.0 l.1) (valued (subst (λ a. ValueOk rs ws₁ a f) ea hv) k.1 p.left) x₀ in
        let v₁ = found_not (value b o.0 o.1) (valued (subst (λ b. ValueOk rs ws₂ b f₁) eb hw) k.2 p.right) x₁ in
        subst (λ v. Gives rs ws ws₂ i r (or a b) (choose_left v l.0 u l.1 l.2 (λ s u. stride b ρ s u) (λ u s. value b u s))) (sym v)
        (subst (λ v. Gives rs ws ws₂ i r (or a b) (choose_right v l.0 o.0 o.1 (l.2 || o.2))) (sym v₁)
        (record { holds = (p.row, p.holds, p.right.ran.holds); stores = p.right.ran.stores; same = p.same }, e ∙ ap₂ ◌||◌ p.left.flag p.right.flag)))
        c k τ t y g

    -- the right has: it replaces the choice
    pub choose_right_lem : (ws₃ ws₄ : List ℕ) → is_some f₁ ≡ true → ClearOk rs ws₂ ws₃ a → Laid ws₃ ws₄ i (other ∷ []) → StrideOk rs ws ws₄ i env d true
    unfolding stride choose_left choose_right
    choose_right_lem ws₃ ws₄ x₁ hc l c k Σ Γ τ s ρ t y w g =
        on_either rs ws d i Σ Γ (λ c t τ. Strides rs ws ws₄ i true ρ s c t) z q
        (λ a b t u σ k g y x.
        let o = kids_or rs d i a b k in
        let p = two o k.1 k.2 y x w g.0 g.1 g.2 in
        let r = stride a ρ s t in
        let r₁ = stride b ρ r.1 u in
        let v = found_not (value a r.0 r.1) (valued (subst (λ a. ValueOk rs ws₁ a f) ea hv) k.1 p.left) x₀ in
        let h = found_one (value b r₁.0 r₁.1) (valued (subst (λ b. ValueOk rs ws₂ b f₁) eb hw) k.2 p.right) x₁ in
        let e = subst (λ a. ClearOk rs ws₂ ws₃ a) ea hc d a k.1 in
        subst (λ v. Gives rs ws ws₄ i true (or a b) (choose_left v r.0 u r.1 r.2 (λ s u. stride b ρ s u) (λ u s. value b u s))) (sym v)
        (subst (λ v. Gives rs ws ws₄ i true (or a b) (choose_right v r.0 r₁.0 r₁.1 (r.2 || r₁.2))) (sym h.1) (
          record {
            holds = (
              l.row,
              clear_kept e.0 (keeps_laid o.off_a l),
              holds_kept rs ws₃ ws₄ (op_b rs i) b r₁.0 (holds_kept rs ws₂ ws₃ (op_b rs i) b r₁.0 p.right.ran.holds (keeps o.foot_b e.1)) (keeps_laid o.off_b l),
            );
            stores = stores_laid (stores_kept p.right.ran.stores o.cell_a e.1) o.cell_i l;
            same = same_trans p.same (same_trans (same_weak (λ j n. o.up_a j (inl n)) e.1) (laid_same l o.up_i));
          },
          refl,
        )))
        c k τ t y g

-- ---- the rest stay

module _ (rs ws : List ℕ) (i : ℕ) (env : List ℕ) (d : ℕ) (z : Unhanded rs ws i) where
  stays : {c : Code} {t : TaskOf c} {s : Store} → Holds rs ws i c t → Stores rs ws s → Ran rs ws ws i c t s
  stays g w = record { holds = g; stores = w; same = same_refl }

  -- 45, 48, 49 and editors; 25, 31 and 50 hand on
  pub stride_none : (OfKind rs i (task_k then_k) → ⊥) → (OfKind rs i (task_k next_k) → ⊥) → (OfKind rs i (task_k and_k) → ⊥) → (OfKind rs i (task_k or_k) → ⊥) → StrideOk rs ws ws i env d false
  unfolding stride
  stride_none n₃ n₄ n₆ n₇ (edit e) k Σ Γ τ s ρ t y w g = (stays g w.stores, refl)
  stride_none n₃ n₄ n₆ n₇ (enter υ) k Σ Γ τ s ρ t y w g = (stays g w.stores, refl)
  stride_none n₃ n₄ n₆ n₇ (update j) k Σ Γ τ s ρ t y w g = (stays g w.stores, refl)
  stride_none n₃ n₄ n₆ n₇ (then a b) k Σ Γ τ s ρ t y w g = absurd (n₃ k.0)
  stride_none n₃ n₄ n₆ n₇ (next a b) k Σ Γ τ s ρ t y w g = absurd (n₄ k.0)
  stride_none n₃ n₄ n₆ n₇ (fail υ) k Σ Γ τ s ρ t y w g = (stays g w.stores, refl)
  stride_none n₃ n₄ n₆ n₇ (and a b) k Σ Γ τ s ρ t y w g = absurd (n₆ k.0)
  stride_none n₃ n₄ n₆ n₇ (or a b) k Σ Γ τ s ρ t y w g = absurd (n₇ k.0)
  stride_none n₃ n₄ n₆ n₇ (xor a b) k Σ Γ τ s ρ t y w g =
      on_unpicked rs ws d i Σ Γ (λ c t τ. Strides rs ws ws i false ρ s c t) z k.0 (λ a b σ k g y x. (stays g w.stores, refl)) (xor a b) k τ t y g
  stride_none n₃ n₄ n₆ n₇ (view e) k Σ Γ τ s ρ t y w g = (stays g w.stores, refl)
  stride_none n₃ n₄ n₆ n₇ (gate r m b) k Σ Γ τ s ρ t y w g = on_no_gate rs ws d i Σ Γ (λ c t τ. Strides rs ws ws i false ρ s c t) z k.0 (gate r m b) k τ t y g
  stride_none n₃ n₄ n₆ n₇ (if e a b) k Σ Γ τ s ρ t y w g = on_no_if rs ws d i Σ Γ (λ c t τ. Strides rs ws ws i false ρ s c t) z k.0 (if e a b) k τ t y g
  stride_none n₃ n₄ n₆ n₇ (let' e b) k Σ Γ τ s ρ t y w g = on_no_let rs ws d i Σ Γ (λ c t τ. Strides rs ws ws i false ρ s c t) z k.0 (let' e b) k τ t y g
