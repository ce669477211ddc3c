-- What each arm of `evaluate` ensures, from what the calls in it ensure. What stands at a row after its parts have been run and
-- the row laid is said once for each shape of tree; the arms are one law a kind. Rests on crate state's frames, on what crate eval
-- says of expressions, and on the calculus' preservation of types.
use mathlib.Core.Path.{◌≡◌, refl, sym, ap, ap₂, ◌∙◌, subst}
use mathlib.Core.Bool.{Bool, true, false, ◌||◌}
use mathlib.Core.Logic.{◌⊎◌, inl, inr}
use mathlib.Core.List.{List, [], ◌∷◌}
use Prim.Native.Nat.{ℕ, ◌+◌}
use native.Mathlib.Omega.{arith}
use Rattle.tophat.specs.Syntax.{Ty, Exp, Code, edit, enter, update, then, next, fail, and, or, xor, view, if, let', Env, Store, gate}
use Rattle.tophat.specs.Syntax.{TaskOf, if_true, if_false}
use Rattle.tophat.specs.Typing.{HasType, CodeType, t_edit, t_view, t_then, t_next, t_and, t_or, t_if_task, t_let_task, t_gate}
use Rattle.tophat.proofs.ComputeEvaluation.{is_true, eval, overflows, evaluate, overflows_task}
use Rattle.tophat.proofs.TaskEvaluationAgrees.{evaluate_good}
use Rattle.rows.specs.Kinds.{either_k, if_k, let_k, task_k, edit_k, then_k, next_k, fail_k, and_k, or_k, xor_k, view_k, number_of, gate_k}
use Rattle.rows.specs.Rows.{word, op_a, op_b, op_c, OfKind, FromKind, BelowKind}
use Rattle.match_laws.proofs.Ranges.{in_range}
use Rattle.value.specs.declared.Evaluation.{Evaluation}
use Rattle.value.specs.Values.{first_number}
use Rattle.value.proofs.Meaning.{leaf_word, true_value}
use Rattle.value.proofs.Operators.{differ}
use Rattle.state.specs.Layout.{own, one, other, value_words, touch_words}
use Rattle.state.specs.Holds.{Tree, under, fork, tree_of, Cell, SitsExp, Sits, Row, Clear, Holds, Stores, Same, World, Ran}
use Rattle.state.specs.Words.{words_of, Laid}
use Rattle.state.specs.Ensured.{EvalOk, EvaluateAt, EvaluateOk}
use Rattle.state.proofs.Words.{value_at_lem, laid_as}
use Rattle.state.proofs.Frames.{same_trans, same_weak, same_row, laid_same, foot_self, keeps, keeps_laid, clear_kept, holds_kept, stores_laid, Reach, Kids, kids_then, kids_next, kids_and, kids_or, kids_xor, kids_if, kid_let, world_after, world_push, kid_gate}
use Rattle.state.proofs.Sites.{on_code}
use Rattle.eval.proofs.Arms.{after, branch_both, at_row}
use Rattle.running.specs.Hands.{Bound}
use Rattle.running.proofs.Forms.{OfContent}

-- ---- what is clear

module _ {rs ws : List ℕ} {i k : ℕ} {x : Tree} where
  clear_only : Clear rs ws i (under k x) → Clear rs ws (word rs i k) x
  clear_only h = record { dead = λ j f. h.dead j (inr f) }

  module _ {l : ℕ} {y : Tree} where
    clear_first : Clear rs ws i (fork k x l y) → Clear rs ws (word rs i k) x
    clear_first h = record { dead = λ j f. h.dead j (inr (inl f)) }

    clear_second : Clear rs ws i (fork k x l y) → Clear rs ws (word rs i l) y
    clear_second h = record { dead = λ j f. h.dead j (inr (inr f)) }

-- ---- rows after their parts have been run, by the shape of the tree

-- what stands at row i, the store, and what may differ
record Stands (H : Type 0) (rs : List ℕ) (i : ℕ) (x : Tree) (ws ws₁ : List ℕ) (s : Store) : Type 0 where
  holds : H
  stores : Stores rs ws₁ s
  same : Same (Reach rs i x) ws ws₁

module _ {rs : List ℕ} {i k l : ℕ} (a b : Code) (o : Kids rs i k (tree_of a) l (tree_of b)) where
  -- the first is run
  first_run : {ws ws₁ ws₂ xs : List ℕ} (t : TaskOf a) (s : Store) → Clear rs ws (word rs i l) (tree_of b) → Ran rs ws ws₁ (word rs i k) a t s → Laid ws₁ ws₂ i xs
      → Stands (Row ws₂ i xs × Holds rs ws₂ (word rs i k) a t × Clear rs ws₂ (word rs i l) (tree_of b)) rs i (fork k (tree_of a) l (tree_of b)) ws ws₂ s
  first_run {ws₁ = ws₁} {ws₂ = ws₂} t s h r p = record {
    holds = (p.row, holds_kept rs ws₁ ws₂ (word rs i k) a t r.holds (keeps_laid o.off_a p), clear_kept (clear_kept h (keeps o.a_b r.same)) (keeps_laid o.off_b p));
    stores = stores_laid r.stores o.cell_i p;
    same = same_trans (same_weak o.up_a r.same) (laid_same p o.up_i);
  }

  -- the second is run
  second_run : {ws ws₁ ws₂ xs : List ℕ} (u : TaskOf b) (s : Store) → Clear rs ws (word rs i k) (tree_of a) → Ran rs ws ws₁ (word rs i l) b u s → Laid ws₁ ws₂ i xs
      → Stands (Row ws₂ i xs × Clear rs ws₂ (word rs i k) (tree_of a) × Holds rs ws₂ (word rs i l) b u) rs i (fork k (tree_of a) l (tree_of b)) ws ws₂ s
  second_run {ws₁ = ws₁} {ws₂ = ws₂} u s h r p = record {
    holds = (p.row, clear_kept (clear_kept h (keeps o.b_a r.same)) (keeps_laid o.off_a p), holds_kept rs ws₁ ws₂ (word rs i l) b u r.holds (keeps_laid o.off_b p));
    stores = stores_laid r.stores o.cell_i p;
    same = same_trans (same_weak o.up_b r.same) (laid_same p o.up_i);
  }

  -- both are, the first before the second
  both_run : {ws ws₁ ws₂ ws₃ xs : List ℕ} (t : TaskOf a) (s : Store) (u : TaskOf b) (s₁ : Store) → Ran rs ws ws₁ (word rs i k) a t s → Ran rs ws₁ ws₂ (word rs i l) b u s₁ → Laid ws₂ ws₃ i xs
      → Stands (Row ws₃ i xs × Holds rs ws₃ (word rs i k) a t × Holds rs ws₃ (word rs i l) b u) rs i (fork k (tree_of a) l (tree_of b)) ws ws₃ s₁
  both_run {ws₁ = ws₁} {ws₂ = ws₂} {ws₃ = ws₃} t s u s₁ r q p = record {
    holds = (
      p.row,
      holds_kept rs ws₂ ws₃ (word rs i k) a t (holds_kept rs ws₁ ws₂ (word rs i k) a t r.holds (keeps o.b_a q.same)) (keeps_laid o.off_a p),
      holds_kept rs ws₂ ws₃ (word rs i l) b u q.holds (keeps_laid o.off_b p),
    );
    stores = stores_laid q.stores o.cell_i p;
    same = same_trans (same_weak o.up_a r.same) (same_trans (same_weak o.up_b q.same) (laid_same p o.up_i));
  }

  -- both are clear after a change of cells, and the change is within reach
  clear_cells : {ws ws₁ : List ℕ} → Clear rs ws i (fork k (tree_of a) l (tree_of b)) → Same (Cell rs) ws ws₁ → Clear rs ws₁ (word rs i k) (tree_of a) × Clear rs ws₁ (word rs i l) (tree_of b)
  clear_cells h q = (clear_kept (clear_first h) (keeps (λ j f c. o.cell_a j c f) q), clear_kept (clear_second h) (keeps (λ j f c. o.cell_b j c f) q))

-- the world after a task has been evaluated
task_after : {rs ws ws₁ env : List ℕ} {d i : ℕ} {Σ Γ : List Ty} {τ : Ty} {s : Store} {ρ : Env} (c : Code)
    → CodeType Σ Γ c τ → World rs ws env d Σ Γ s ρ → Ran rs ws ws₁ i c (evaluate c ρ s).0 (evaluate c ρ s).1 → World rs ws₁ env d Σ Γ (evaluate c ρ s).1 ρ
task_after {s = s} {ρ = ρ} c y w r = world_after w r.stores (evaluate_good y ρ s w.binders_typed w.store_typed).store

-- ---- the arms

module _ (rs : List ℕ) (i : ℕ) (env : List ℕ) (d : ℕ) where
  run_at : {ws ws₁ : List ℕ} {a b : ℕ} {x : Bool} → a ≡ b → EvaluateOk rs ws ws₁ a env d x → EvaluateOk rs ws ws₁ b env d x
  run_at {ws} {ws₁} {x = x} q h = subst (λ k. EvaluateOk rs ws ws₁ k env d x) q h

  -- 40 and 49
  module _ (ws ws₁ ws₂ : List ℕ) (a : ℕ) (x : Evaluation) (ea : a ≡ op_a rs i) (ha : EvalOk rs ws ws₁ a env d x) (l : Laid ws₁ ws₂ i (own ∷ words_of x.value)) where
    -- the content is A's value, in either
    content : {Σ Γ : List Ty} {τ : Ty} {s : Store} {ρ : Env} (e : Exp) → SitsExp rs d (op_a rs i) e → (Cell rs i → ⊥) → HasType Σ Γ e τ → World rs ws env d Σ Γ s ρ
        → Row ws₂ i (own ∷ value_words (eval e ρ s).0) × Stores rs ws₂ (eval e ρ s).1 × Same (λ j. (j ≡ i) ⊎ Cell rs j) ws ws₂ × (x.over ≡ overflows e ρ s)
    content {Σ} {Γ} {τ} {s} {ρ} e z n y w =
        let p = at_row rs i env d ea ha e z Σ Γ τ s ρ y w in
        ((laid_as (eval e ρ s).0 l p.answer).row, stores_laid p.stores n l, same_trans (same_weak (λ j c. inr c) p.same) (laid_same l (inl refl)), p.over)

    pub evaluate_content : OfContent rs i → EvaluateOk rs ws ws₂ i env d x.over
    unfolding evaluate overflows_task
    evaluate_content (inl q) = on_code rs d i (task_k edit_k) (EvaluateAt rs ws ws₂ i env d x.over) q by
      where
        by : (e : Exp) → Sits rs d i (edit e) → EvaluateAt rs ws ws₂ i env d x.over (edit e)
        by e z Σ Γ τ s ρ (t_edit y) w cl = let r = content e z.1 (λ c. omega arith) y w in (record { holds = r.0; stores = r.1; same = r.2 }, r.3)
    evaluate_content (inr q) = on_code rs d i (task_k view_k) (EvaluateAt rs ws ws₂ i env d x.over) q by
      where
        by : (e : Exp) → Sits rs d i (view e) → EvaluateAt rs ws ws₂ i env d x.over (view e)
        by e z Σ Γ τ s ρ (t_view y) w cl = let r = content e z.1 (λ c. omega arith) y w in (record { holds = r.0; stores = r.1; same = r.2 }, r.3)

  -- 43 and 44
  module _ (ws ws₁ ws₂ : List ℕ) (a : ℕ) (x : Bool) (ea : a ≡ op_a rs i) (ha : EvaluateOk rs ws ws₁ a env d x) (l : Laid ws₁ ws₂ i (own ∷ [])) where
    evaluate_then : OfKind rs i (task_k then_k) → EvaluateOk rs ws ws₂ i env d x
    unfolding evaluate overflows_task
    evaluate_then q = on_code rs d i (task_k then_k) (EvaluateAt rs ws ws₂ i env d x) q by
      where
        by : (a b : Code) → Sits rs d i (then a b) → EvaluateAt rs ws ws₂ i env d x (then a b)
        by a b z Σ Γ τ s ρ (t_then y k) w cl =
            let (r, f) = run_at ea ha a z.1 Σ Γ _ s ρ y w (clear_first cl) in
            let p = first_run a b (kids_then rs d i a b z) (evaluate a ρ s).0 (evaluate a ρ s).1 (clear_second cl) r l in
            (record { holds = p.holds; stores = p.stores; same = p.same }, f)

    evaluate_next : OfKind rs i (task_k next_k) → EvaluateOk rs ws ws₂ i env d x
    unfolding evaluate overflows_task
    evaluate_next q = on_code rs d i (task_k next_k) (EvaluateAt rs ws ws₂ i env d x) q by
      where
        by : (a b : Code) → Sits rs d i (next a b) → EvaluateAt rs ws ws₂ i env d x (next a b)
        by a b z Σ Γ τ s ρ (t_next y k) w cl =
            let (r, f) = run_at ea ha a z.1 Σ Γ _ s ρ y w (clear_first cl) in
            let p = first_run a b (kids_next rs d i a b z) (evaluate a ρ s).0 (evaluate a ρ s).1 (clear_second cl) r l in
            (record { holds = p.holds; stores = p.stores; same = p.same }, f)

    pub evaluate_step : FromKind rs i (task_k then_k) → BelowKind rs i (task_k fail_k) → EvaluateOk rs ws ws₂ i env d x
    evaluate_step h g = in_range (λ n. word rs i 0 ≡ n → EvaluateOk rs ws ws₂ i env d x) (number_of (task_k then_k)) 2 (evaluate_then, (evaluate_next, tt)) h g refl

  -- 46 and 47
  module _ (ws ws₁ ws₂ ws₃ : List ℕ) (a b : ℕ) (x y : Bool) (ea : a ≡ op_a rs i) (eb : b ≡ op_b rs i) (ha : EvaluateOk rs ws ws₁ a env d x) (hb : EvaluateOk rs ws₁ ws₂ b env d y) (l : Laid ws₂ ws₃ i (own ∷ [])) where
    evaluate_and : OfKind rs i (task_k and_k) → EvaluateOk rs ws ws₃ i env d (x || y)
    unfolding evaluate overflows_task
    evaluate_and q = on_code rs d i (task_k and_k) (EvaluateAt rs ws ws₃ i env d (x || y)) q by
      where
        by : (a b : Code) → Sits rs d i (and a b) → EvaluateAt rs ws ws₃ i env d (x || y) (and a b)
        by a b z Σ Γ τ s ρ (t_and y k n) w cl =
            let o = kids_and rs d i a b z in
            let (r, f) = run_at ea ha a z.1 Σ Γ _ s ρ y w (clear_first cl) in
            let (u, g) = run_at eb hb b z.2 Σ Γ _ (evaluate a ρ s).1 ρ k (task_after a y w r) (clear_kept (clear_second cl) (keeps o.a_b r.same)) in
            let p = both_run a b o (evaluate a ρ s).0 (evaluate a ρ s).1 (evaluate b ρ (evaluate a ρ s).1).0 (evaluate b ρ (evaluate a ρ s).1).1 r u l in
            (record { holds = p.holds; stores = p.stores; same = p.same }, ap₂ ◌||◌ f g)

    evaluate_or : OfKind rs i (task_k or_k) → EvaluateOk rs ws ws₃ i env d (x || y)
    unfolding evaluate overflows_task
    evaluate_or q = on_code rs d i (task_k or_k) (EvaluateAt rs ws ws₃ i env d (x || y)) q by
      where
        by : (a b : Code) → Sits rs d i (or a b) → EvaluateAt rs ws ws₃ i env d (x || y) (or a b)
        by a b z Σ Γ τ s ρ (t_or y k) w cl =
            let o = kids_or rs d i a b z in
            let (r, f) = run_at ea ha a z.1 Σ Γ _ s ρ y w (clear_first cl) in
            let (u, g) = run_at eb hb b z.2 Σ Γ _ (evaluate a ρ s).1 ρ k (task_after a y w r) (clear_kept (clear_second cl) (keeps o.a_b r.same)) in
            let p = both_run a b o (evaluate a ρ s).0 (evaluate a ρ s).1 (evaluate b ρ (evaluate a ρ s).1).0 (evaluate b ρ (evaluate a ρ s).1).1 r u l in
            (record { holds = p.holds; stores = p.stores; same = p.same }, ap₂ ◌||◌ f g)

    pub evaluate_two : FromKind rs i (task_k and_k) → BelowKind rs i (task_k xor_k) → EvaluateOk rs ws ws₃ i env d (x || y)
    evaluate_two h g = in_range (λ n. word rs i 0 ≡ n → EvaluateOk rs ws ws₃ i env d (x || y)) (number_of (task_k and_k)) 2 (evaluate_and, (evaluate_or, tt)) h g refl

  -- 25: the side that the condition names
  module _ (ws ws₁ ws₂ ws₃ : List ℕ) (x : Evaluation) (x₁ b : Bool) (e : b ≡ is_true (first_number x.value)) (a k : ℕ) (q : OfKind rs i (either_k if_k)) (ea : a ≡ op_a rs i) (ha : EvalOk rs ws ws₁ a env d x)
      (hk : EvaluateOk rs ws₁ ws₂ k env d x₁) where
    if_at : (c : Exp) (m n : Code) → Sits rs d i (if c m n)
        → (b ≡ true → (word rs i 2 ≡ k) × Laid ws₂ ws₃ i (one ∷ [])) → (b ≡ false → (word rs i 3 ≡ k) × Laid ws₂ ws₃ i (other ∷ [])) → EvaluateAt rs ws ws₃ i env d (x.over || x₁) (if c m n)
    unfolding evaluate overflows_task
    if_at c m n z ht hf Σ Γ τ s ρ (t_if_task y u v) w cl =
        let o = kids_if rs d i c m n z in
        let p = at_row rs i env d ea ha c z.1 Σ Γ _ s ρ y w in
        let g = after c y w p in
        let dead = clear_cells m n o cl p.same in
        let early = same_weak o.up_c p.same in
        let same : b ≡ is_true (eval c ρ s).0 = e ∙ ap (λ x. is_true (first_number x)) p.answer ∙ true_value _ (leaf_word g.typed) in
        branch_both {Y = TaskOf (if c m n) × Store} (is_true (eval c ρ s).0) (λ s. (if_true (evaluate m ρ s).0, (evaluate m ρ s).1)) (λ s. (if_false (evaluate n ρ s).0, (evaluate n ρ s).1))
        (λ s. overflows_task m ρ s) (λ s. overflows_task n ρ s) (eval c ρ s).1 (λ r f. Ran rs ws ws₃ i (if c m n) r.0 r.1 × (x.over || x₁ ≡ overflows c ρ s || f))
        (λ v₁. let t = same ∙ v₁ in let (r, h) = run_at (sym (ht t).0) hk m z.2 Σ Γ τ _ ρ u g.world dead.0 in
        let f = first_run m n o (evaluate m ρ (eval c ρ s).1).0 (evaluate m ρ (eval c ρ s).1).1 dead.1 r (ht t).1 in
        (record { holds = f.holds; stores = f.stores; same = same_trans early f.same }, ap₂ ◌||◌ p.over h))
        (λ v₁. let t = same ∙ v₁ in let (r, h) = run_at (sym (hf t).0) hk n z.3 Σ Γ τ _ ρ v g.world dead.1 in
        let f = second_run m n o (evaluate n ρ (eval c ρ s).1).0 (evaluate n ρ (eval c ρ s).1).1 dead.0 r (hf t).1 in
        (record { holds = f.holds; stores = f.stores; same = same_trans early f.same }, ap₂ ◌||◌ p.over h))

    pub evaluate_true : b ≡ true → k ≡ op_b rs i → Laid ws₂ ws₃ i (one ∷ []) → EvaluateOk rs ws ws₃ i env d (x.over || x₁)
    evaluate_true t ek l = on_code rs d i (either_k if_k) (EvaluateAt rs ws ws₃ i env d (x.over || x₁)) q (λ c m n z. if_at c m n z (λ _. (sym ek, l)) (λ f. differ (sym t ∙ f)))

    pub evaluate_false : b ≡ false → k ≡ op_c rs i → Laid ws₂ ws₃ i (other ∷ []) → EvaluateOk rs ws ws₃ i env d (x.over || x₁)
    evaluate_false f ek l = on_code rs d i (either_k if_k) (EvaluateAt rs ws ws₃ i env d (x.over || x₁)) q (λ c m n z. if_at c m n z (λ t. differ (sym t ∙ f)) (λ _. (sym ek, l)))

  -- 31: the value is laid, then the part is run under it
  module _ (ws ws₁ ws₂ ws₃ env₁ : List ℕ) (d₁ : ℕ) (x : Evaluation) (x₁ : Bool) (a b : ℕ) (ea : a ≡ op_a rs i) (eb : b ≡ op_b rs i) (ha : EvalOk rs ws ws₁ a env d x) (l : Laid ws₁ ws₂ i (one ∷ words_of x.value))
      (n : Bound ws₂ i env env₁ d d₁) (hb : EvaluateOk rs ws₂ ws₃ b env₁ d₁ x₁) where
    pub evaluate_let : OfKind rs i (either_k let_k) → EvaluateOk rs ws ws₃ i env d (x.over || x₁)
    unfolding evaluate overflows_task
    evaluate_let q = on_code rs d i (either_k let_k) (EvaluateAt rs ws ws₃ i env d (x.over || x₁)) q by
      where
        by : (e : Exp) (b : Code) → Sits rs d i (let' e b) → EvaluateAt rs ws ws₃ i env d (x.over || x₁) (let' e b)
        by e c z Σ Γ τ s ρ (t_let_task y k) w cl =
            let o = kid_let rs d i e c z in
            let p = at_row rs i env d ea ha e z.1 Σ Γ _ s ρ y w in
            let g = after e y w p in
            let m = laid_as (eval e ρ s).0 l p.answer in
            let f = n.pushed z.4 in
            let w₁ = world_after g.world (stores_laid p.stores o.cell_i l) g.world.store_typed in
            let u = world_push (eval e ρ s).0 w₁ f.1 (value_at_lem m.row g.typed g.small) g.typed g.small in
            let dead = clear_kept (clear_kept (clear_only cl) (keeps (λ j f c. o.cell_b j c f) p.same)) (keeps_laid o.off l) in
            let (r, h) = subst (λ k. EvaluateOk rs ws₂ ws₃ k env₁ (d + 1) x₁) eb (subst (λ d. EvaluateOk rs ws₂ ws₃ b env₁ d x₁) f.0 hb) c z.2 Σ _ τ _ _ k u dead in (
              record {
                holds = (same_row r.same o.out m.row, r.holds);
                stores = r.stores;
                same = same_trans (same_weak o.up_c p.same) (same_trans (laid_same l o.up_i) (same_weak o.up_b r.same));
              },
              ap₂ ◌||◌ p.over h,
            )

  -- 50: all its touches are laid, then the part is run
  module _ (ws ws₁ ws₂ : List ℕ) (b m : ℕ) (x : Bool) (eb : b ≡ op_b rs i) (em : m ≡ op_c rs i) (l : Laid ws ws₁ i (own ∷ touch_words m)) (hb : EvaluateOk rs ws₁ ws₂ b env d x) where
    pub evaluate_gate : OfKind rs i (task_k gate_k) → EvaluateOk rs ws ws₂ i env d x
    unfolding evaluate overflows_task
    evaluate_gate q = on_code rs d i (task_k gate_k) (EvaluateAt rs ws ws₂ i env d x) q by
      where
        by : (r n : ℕ) (b : Code) → Sits rs d i (gate r n b) → EvaluateAt rs ws ws₂ i env d x (gate r n b)
        by r n c z Σ Γ τ s ρ (t_gate y) w cl =
            let o = kid_gate rs d i r n c z in
            let p = subst (λ m. Row ws₁ i (own ∷ touch_words m)) (em ∙ z.2) l.row in
            let w₁ = world_after w (stores_laid w.stores o.cell_i l) w.store_typed in
            let (u, h) = run_at eb hb c z.3 Σ Γ τ s ρ y w₁ (clear_kept (clear_only cl) (keeps_laid o.off l)) in
            (record { holds = (same_row u.same o.out p, u.holds); stores = u.stores; same = same_trans (laid_same l o.up_i) (same_weak o.up_b u.same) }, h)

  -- 41, 42, 45 and 48, of which nothing is run
  module _ (ws ws₁ : List ℕ) (l : Laid ws ws₁ i (own ∷ [])) where
    laid_only : (c : Code) (t : TaskOf c) (s : Store) → (Cell rs i → ⊥) → Holds rs ws₁ i c t → Stores rs ws s → Ran rs ws ws₁ i c t s
    laid_only c t s n h st = record { holds = h; stores = stores_laid st n l; same = laid_same l (inl (foot_self rs i (tree_of c))) }

    pub evaluate_tag : (OfKind rs i (either_k if_k) → ⊥) → (OfKind rs i (either_k let_k) → ⊥) → (OfContent rs i → ⊥) → (OfKind rs i (task_k gate_k) → ⊥) → (FromKind rs i (task_k then_k) → BelowKind rs i (task_k fail_k) → ⊥) → (FromKind rs i (task_k and_k) → BelowKind rs i (task_k xor_k) → ⊥)
        → EvaluateOk rs ws ws₁ i env d false
    unfolding evaluate overflows_task
    evaluate_tag x₂ x₃ x₀ x₅ x₄ x₆ (edit e) z Σ Γ τ s ρ y w cl = absurd (x₀ (inl z.0))
    evaluate_tag x₂ x₃ x₀ x₅ x₄ x₆ (enter υ) z Σ Γ τ s ρ y w cl = (laid_only (enter υ) _ s (λ c. let q = z.0 in omega arith) l.row w.stores, refl)
    evaluate_tag x₂ x₃ x₀ x₅ x₄ x₆ (update k) z Σ Γ τ s ρ y w cl = (laid_only (update k) _ s (λ c. let q = z.0 in omega arith) l.row w.stores, refl)
    evaluate_tag x₂ x₃ x₀ x₅ x₄ x₆ (then a b) z Σ Γ τ s ρ y w cl = absurd (let q = z.0 in x₄ (omega arith) (omega arith))
    evaluate_tag x₂ x₃ x₀ x₅ x₄ x₆ (next a b) z Σ Γ τ s ρ y w cl = absurd (let q = z.0 in x₄ (omega arith) (omega arith))
    evaluate_tag x₂ x₃ x₀ x₅ x₄ x₆ (fail υ) z Σ Γ τ s ρ y w cl = (laid_only (fail υ) _ s (λ c. omega arith) l.row w.stores, refl)
    evaluate_tag x₂ x₃ x₀ x₅ x₄ x₆ (and a b) z Σ Γ τ s ρ y w cl = absurd (let q = z.0 in x₆ (omega arith) (omega arith))
    evaluate_tag x₂ x₃ x₀ x₅ x₄ x₆ (or a b) z Σ Γ τ s ρ y w cl = absurd (let q = z.0 in x₆ (omega arith) (omega arith))
    evaluate_tag x₂ x₃ x₀ x₅ x₄ x₆ (xor a b) z Σ Γ τ s ρ y w cl =
        let o = kids_xor rs d i a b z in
        (laid_only (xor a b) _ s o.cell_i (l.row, clear_kept (clear_first cl) (keeps_laid o.off_a l), clear_kept (clear_second cl) (keeps_laid o.off_b l)) w.stores, refl)
    evaluate_tag x₂ x₃ x₀ x₅ x₄ x₆ (view e) z Σ Γ τ s ρ y w cl = absurd (x₀ (inr z.0))
    evaluate_tag x₂ x₃ x₀ x₅ x₄ x₆ (gate r n b) z Σ Γ τ s ρ y w cl = absurd (x₅ z.0)
    evaluate_tag x₂ x₃ x₀ x₅ x₄ x₆ (if e a b) z Σ Γ τ s ρ y w cl = absurd (x₂ z.0)
    evaluate_tag x₂ x₃ x₀ x₅ x₄ x₆ (let' e b) z Σ Γ τ s ρ y w cl = absurd (x₃ z.0)
