-- What each arm of `eval` ensures, from what the calls in it ensure: one law a kind. Rests on crate state's laws of frames and
-- on the calculus' preservation of types by evaluation.
use mathlib.Core.Path.{◌≡◌, refl, sym, ap, ap₂, ◌∙◌, subst}
use mathlib.Core.Bool.{Bool, true, false, ◌||◌}
use mathlib.Core.List.{List, ◌∷◌}
use mathlib.Core.Logic.{⊎_elim}
use Prim.Native.Nat.{ℕ, ◌+◌, ◌≤◌, ◌<◌}
use native.Mathlib.Nat.{eq-or-lt_of_le}
use native.Mathlib.Omega.{arith}
use lib.Dec.{eqb}
use lib.ListN.{length}
use mir.Syntax.{w32}
use mir.Val.{to_z}
use Rattle.tophat.specs.Syntax.{max_leaves, Ty, pair, leaves, Op, Exp, ebinder, eop, eif, epair, efst, esnd, ederef, eassign, elet}
use Rattle.tophat.specs.Syntax.{Val, vunit, vtruth, vnumber, vpair, Env, Store}
use Rattle.tophat.specs.Typing.{At, here, there, HasType, t_var, t_op, t_if, t_pair, t_fst, t_snd, t_deref, t_assign, t_let, ValueType, v_pair, ValueTypes, v_cons, type_of, v_nil}
use Rattle.tophat.proofs.ComputeEvaluation.{is_true, first_part, second_part, branch, eval, overflows}
use Rattle.tophat.proofs.EvaluationAgrees.{look_up, eval_good}
use Rattle.tophat.proofs.Leaves.{type_of_lem}
use Rattle.tophat.proofs.TypeLeaves.{at_leaves, type_leaves}
use Rattle.rows.specs.Kinds.{plain_k, eunit_k, etruth_k, enumber_k, ebinder_k, eop_k, epair_k, efst_k, esnd_k, ederef_k, eassign_k, either_k, if_k, let_k, task_k, view_k, number_of}
use Rattle.rows.specs.Rows.{word, op_a, op_b, op_c, OfKind, FromKind, UpToKind}
use Rattle.rows.specs.Enclosing.{max_binders}
use Rattle.rows.specs.Trees.{operator_of}
use Rattle.value.specs.declared.Value.{Value}
use Rattle.value.specs.declared.Evaluation.{Evaluation}
use Rattle.value.specs.Values.{as_value, first_number, pair_value, first_value, second_value}
use Rattle.value.specs.Evaluations.{sure_of, after_over, applied}
use Rattle.value.proofs.Operators.{differ}
use Rattle.value.proofs.Meaning.{leaf_word, true_value, applied_value, pair_value_lem, first_value_lem, second_value_lem}
use Rattle.state.specs.Layout.{own}
use Rattle.state.specs.Holds.{Cell, World}
use Rattle.state.specs.Words.{words_of, Laid, value_at, binder_at, Pushed}
use Rattle.state.specs.Ensured.{Fine, Evaluated, EvalAt, EvalOk}
use Rattle.state.proofs.Calls.{low_a, low_b, low_c, fine_at}
use Rattle.state.proofs.Frames.{same_refl, same_trans, laid_same, stores_set, world_after, world_push}
use Rattle.state.proofs.Words.{value_at_lem, laid_as}
use Rattle.state.proofs.Binders.{binder_at_lem}
use Rattle.state.proofs.Sites.{on_exp, on_no_exp}

-- ---- what a call at an operand asks: a lower row, so that the measure falls, and `Fine` of it

module _ {rs : List ℕ} {i d t : ℕ} (f : (i ≡ t) × Fine rs i d) (k a : ℕ) (e : k ≡ word rs i 0) where
  abbrev pub Call : Type 0
  Call = (a < t) × Fine rs a d

  call : a < i → Call
  call h = (omega (arith, f.0), fine_at f.1 a d (omega arith) f.1.room)

  pub call_a : a ≡ word rs i 1 → number_of (either_k if_k) ≤ k → k ≤ number_of (task_k view_k) → Call
  call_a z h u = call (low_a f.1 k a e z h u)

  pub call_b : a ≡ word rs i 2 → number_of (plain_k eop_k) ≤ k → Call
  call_b z h = call (low_b f.1 k a e z h)

  pub call_c : a ≡ word rs i 3 → number_of (plain_k eop_k) ≤ k → k ≤ number_of (task_k view_k) → Call
  call_c z h u = call (low_c f.1 k a e z h u)

-- ---- what a typed expression leaves to the next: a value of its type, and a world

pub record After (rs ws env : List ℕ) (d : ℕ) (Σ Γ : List Ty) (e : Exp) (τ : Ty) (s : Store) (ρ : Env) : Type 0 where
  pub typed : ValueType (eval e ρ s).0 τ
  pub small : leaves τ ≤ max_leaves
  pub world : World rs ws env d Σ Γ (eval e ρ s).1 ρ

pub after : {rs ws ws₁ env : List ℕ} {d : ℕ} {Σ Γ : List Ty} {τ : Ty} {s : Store} {ρ : Env} {x : Evaluation} (e : Exp)
    → HasType Σ Γ e τ → World rs ws env d Σ Γ s ρ → Evaluated rs ws ws₁ x (eval e ρ s).0 (eval e ρ s).1 (overflows e ρ s) → After rs ws₁ env d Σ Γ e τ s ρ
after {s = s} {ρ = ρ} e t w p =
    let g = eval_good t ρ s w.binders_typed w.store_typed in
    record { typed = g.typed; small = type_leaves t w.store_small w.binders_small; world = world_after w p.stores g.kept }

-- two branches by one truth
pub branch_both : {X Y Z : Type 0} (c : Bool) (f g : X → Y) (h k : X → Z) (x : X) (P : Y → Z → Type 0) → (c ≡ true → P (f x) (h x)) → (c ≡ false → P (g x) (k x)) → P (branch c f g x) (branch c h k x)
unfolding branch
branch_both true f g h k x P p q = p refl
branch_both false f g h k x P p q = q refl

-- a flag with one that is not set
or_none : (x : Bool) → x || false ≡ x
or_none true = refl
or_none false = refl

-- a typed place is in the list
pub in_list : {vs : List Val} {τs : List Ty} {n : ℕ} {τ : Ty} → ValueTypes vs τs → At τs n τ → n < length vs
in_list v_nil d = elim d [ ]
in_list (v_cons h hs) here = omega arith
in_list (v_cons h hs) (there d) = let l = in_list hs d in omega arith

-- two typed values have as many leaves as their types
small_parts : {v w : Val} {τ υ : Ty} → ValueType v τ → ValueType w υ → leaves τ + leaves υ ≤ max_leaves → leaves (type_of v) + leaves (type_of w) ≤ max_leaves
small_parts g h l = subst (λ n. n ≤ max_leaves) (sym (ap₂ (λ τ υ. leaves τ + leaves υ) (type_of_lem g) (type_of_lem h))) l

module _ (rs : List ℕ) (i : ℕ) (env : List ℕ) (d : ℕ) where
  -- what holds of a row holds of it by any name
  pub at_row : {ws ws₁ : List ℕ} {a b : ℕ} {x : Evaluation} → a ≡ b → EvalOk rs ws ws₁ a env d x → EvalOk rs ws ws₁ b env d x
  at_row {ws} {ws₁} {x = x} q h = subst (λ k. EvalOk rs ws ws₁ k env d x) q h

  -- ---- constants and binders

  pub eval_unit : (r : Value) → OfKind rs i (plain_k eunit_k) → r ≡ as_value vunit → (ws : List ℕ) → EvalOk rs ws ws i env d (sure_of r)
  unfolding eval overflows
  eval_unit r q e ws = on_exp rs d i (plain_k eunit_k) (EvalAt rs ws ws i env d (sure_of r)) q (λ p Σ Γ τ s ρ t w. record { answer = e; over = refl; stores = w.stores; same = same_refl })

  pub eval_truth : (r : Value) (a : ℕ) → OfKind rs i (plain_k etruth_k) → a ≡ op_a rs i → r ≡ as_value (vtruth (eqb a 1)) → (ws : List ℕ) → EvalOk rs ws ws i env d (sure_of r)
  unfolding eval overflows
  eval_truth r a q z e ws = on_exp rs d i (plain_k etruth_k) (EvalAt rs ws ws i env d (sure_of r)) q (λ b p Σ Γ τ s ρ t w. record {
    answer = e ∙ ap (λ b. as_value (vtruth b)) (ap (λ a. eqb a 1) z ∙ p.1);
    over = refl;
    stores = w.stores;
    same = same_refl;
  })

  pub eval_number : (r : Value) (a : ℕ) → OfKind rs i (plain_k enumber_k) → a ≡ op_a rs i → r ≡ as_value (vnumber (to_z w32 a)) → (ws : List ℕ) → EvalOk rs ws ws i env d (sure_of r)
  unfolding eval overflows
  eval_number r a q z e ws = on_exp rs d i (plain_k enumber_k) (EvalAt rs ws ws i env d (sure_of r)) q (λ n p Σ Γ τ s ρ t w. record {
    answer = e ∙ ap (λ n. as_value (vnumber n)) (ap (to_z w32) z ∙ p.1);
    over = refl;
    stores = w.stores;
    same = same_refl;
  })

  binder_value : (r : Value) (ws : List ℕ) (k : ℕ) → r ≡ binder_at env d k → EvalAt rs ws ws i env d (sure_of r) (ebinder k)
  unfolding eval overflows
  binder_value r ws k e Σ Γ τ s ρ (t_var h) w = record {
    answer = e ∙ binder_at_lem w.binders (let l = in_list w.binders_typed h in let c = w.binders.count in omega arith) (look_up w.binders_typed h).1 (at_leaves h w.binders_small);
    over = refl;
    stores = w.stores;
    same = same_refl;
  }

  pub eval_binder : (r : Value) (a : ℕ) → OfKind rs i (plain_k ebinder_k) → a ≡ op_a rs i → r ≡ binder_at env d a → (ws : List ℕ) → EvalOk rs ws ws i env d (sure_of r)
  eval_binder r a q z e ws = on_exp rs d i (plain_k ebinder_k) (EvalAt rs ws ws i env d (sure_of r)) q (λ k p. binder_value r ws k (e ∙ ap (binder_at env d) (z ∙ p.1)))

  -- ---- one operand or two, left to right

  module _ (ws ws₁ ws₂ : List ℕ) (x y r : Evaluation) where
    -- what an operator on the two answers
    abbrev Op-result : Op → Type 0
    Op-result o = r ≡ after_over x.over (after_over y.over (applied o (first_number x.value) (first_number y.value)))

    abbrev Pair-result : Type 0
    Pair-result = r ≡ after_over x.over (after_over y.over (sure_of (pair_value x.value y.value)))

    op_value : (o : Op) (a b : Exp) → EvalAt rs ws ws₁ i env d x a → EvalAt rs ws₁ ws₂ i env d y b → Op-result o → EvalAt rs ws ws₂ i env d r (eop o a b)
    unfolding eval overflows
    op_value o a b ha hb e Σ Γ τ s ρ (t_op h ta tb) w =
        let p = ha Σ Γ _ s ρ ta w in
        let q = after a ta w p in
        let p₁ = hb Σ Γ _ _ ρ tb q.world in
        let q₁ = after b tb q.world p₁ in
        let z = ap₂ (λ x y. applied o (first_number x) (first_number y)) p.answer p₁.answer ∙ applied_value o _ _ (leaf_word q.typed) (leaf_word q₁.typed) in
        record {
          answer = ap (λ r. r.value) e ∙ ap (λ r. r.value) z;
          over = ap (λ r. r.over) e ∙ (λ j. p.over j || (p₁.over j || (z j).over));
          stores = p₁.stores;
          same = same_trans p.same p₁.same;
        }

    pub eval_op : (b c o : ℕ) → OfKind rs i (plain_k eop_k) → b ≡ op_b rs i → c ≡ op_c rs i → o ≡ op_a rs i → EvalOk rs ws ws₁ b env d x → EvalOk rs ws₁ ws₂ c env d y
        → Op-result (operator_of o) → EvalOk rs ws ws₂ i env d r
    eval_op b c o q eb ec eo hb hc e = on_exp rs d i (plain_k eop_k) (EvalAt rs ws ws₂ i env d r) q (λ o₁ a₁ b₁ p.
        op_value o₁ a₁ b₁ (at_row eb hb a₁ p.2) (at_row ec hc b₁ p.3) (subst Op-result (ap operator_of eo ∙ p.1) e))

    pair_at : (a b : Exp) → EvalAt rs ws ws₁ i env d x a → EvalAt rs ws₁ ws₂ i env d y b → Pair-result → EvalAt rs ws ws₂ i env d r (epair a b)
    unfolding eval overflows leaves
    pair_at a b ha hb e Σ Γ τ s ρ (t_pair {τ = τ₁} {υ = υ₁} ta tb l) w =
        let p = ha Σ Γ _ s ρ ta w in
        let q = after a ta w p in
        let p₁ = hb Σ Γ _ _ ρ tb q.world in
        let q₁ = after b tb q.world p₁ in
        record {
          answer = ap (λ r. r.value) e ∙ ap₂ pair_value p.answer p₁.answer ∙ pair_value_lem _ _ (small_parts q.typed q₁.typed l);
          over = ap (λ r. r.over) e ∙ ap₂ ◌||◌ p.over (or_none y.over ∙ p₁.over);
          stores = p₁.stores;
          same = same_trans p.same p₁.same;
        }

    pub eval_pair : (a b : ℕ) → OfKind rs i (plain_k epair_k) → a ≡ op_a rs i → b ≡ op_b rs i → EvalOk rs ws ws₁ a env d x → EvalOk rs ws₁ ws₂ b env d y → Pair-result → EvalOk rs ws ws₂ i env d r
    eval_pair a b q ea eb ha hb e = on_exp rs d i (plain_k epair_k) (EvalAt rs ws ws₂ i env d r) q (λ a₁ b₁ p. pair_at a₁ b₁ (at_row ea ha a₁ p.1) (at_row eb hb b₁ p.2) e)

  module _ (ws ws₁ : List ℕ) (x : Evaluation) (v : Value) where
    -- what a part of the pair that x is answers
    abbrev Part-result : Evaluation
    Part-result = after_over x.over (sure_of v)

    first_of_pair : (u : Val) {τ υ : Ty} → ValueType u (pair τ υ) → leaves (pair τ υ) ≤ max_leaves → x.value ≡ as_value u → v ≡ first_value x.value → v ≡ as_value (first_part u)
    unfolding first_part leaves
    first_of_pair vunit d l e f = elim d [ ]
    first_of_pair (vtruth _) d l e f = elim d [ ]
    first_of_pair (vnumber _) d l e f = elim d [ ]
    first_of_pair (vpair u w) (v_pair g h) l e f =
        f ∙ ap first_value e ∙ first_value_lem u w (small_parts g h l)

    second_of_pair : (u : Val) {τ υ : Ty} → ValueType u (pair τ υ) → leaves (pair τ υ) ≤ max_leaves → x.value ≡ as_value u → v ≡ second_value x.value → v ≡ as_value (second_part u)
    unfolding second_part leaves
    second_of_pair vunit d l e f = elim d [ ]
    second_of_pair (vtruth _) d l e f = elim d [ ]
    second_of_pair (vnumber _) d l e f = elim d [ ]
    second_of_pair (vpair u w) (v_pair g h) l e f =
        f ∙ ap second_value e ∙ second_value_lem u w (small_parts g h l)

    first_at : (a : Exp) → EvalAt rs ws ws₁ i env d x a → v ≡ first_value x.value → EvalAt rs ws ws₁ i env d Part-result (efst a)
    unfolding eval overflows
    first_at a ha e Σ Γ τ s ρ (t_fst ta) w =
        let p = ha Σ Γ _ s ρ ta w in
        let q = after a ta w p in
        record { answer = first_of_pair _ q.typed q.small p.answer e; over = or_none x.over ∙ p.over; stores = p.stores; same = p.same }

    second_at : (a : Exp) → EvalAt rs ws ws₁ i env d x a → v ≡ second_value x.value → EvalAt rs ws ws₁ i env d Part-result (esnd a)
    unfolding eval overflows
    second_at a ha e Σ Γ τ s ρ (t_snd ta) w =
        let p = ha Σ Γ _ s ρ ta w in
        let q = after a ta w p in
        record { answer = second_of_pair _ q.typed q.small p.answer e; over = or_none x.over ∙ p.over; stores = p.stores; same = p.same }

    module _ (r : Evaluation) (z : r ≡ Part-result) where
      eval_first : (a : ℕ) → OfKind rs i (plain_k efst_k) → a ≡ op_a rs i → EvalOk rs ws ws₁ a env d x → v ≡ first_value x.value → EvalOk rs ws ws₁ i env d r
      eval_first a q ea ha e = on_exp rs d i (plain_k efst_k) (EvalAt rs ws ws₁ i env d r) q (λ a₁ p. subst (λ r. EvalAt rs ws ws₁ i env d r (efst a₁)) (sym z) (first_at a₁ (at_row ea ha a₁ p.1) e))

      eval_second : (a : ℕ) → OfKind rs i (plain_k esnd_k) → a ≡ op_a rs i → EvalOk rs ws ws₁ a env d x → v ≡ second_value x.value → EvalOk rs ws ws₁ i env d r
      eval_second a q ea ha e = on_exp rs d i (plain_k esnd_k) (EvalAt rs ws ws₁ i env d r) q (λ a₁ p. subst (λ r. EvalAt rs ws ws₁ i env d r (esnd a₁)) (sym z) (second_at a₁ (at_row ea ha a₁ p.1) e))

      -- kinds 27 and 28
      pub eval_part : (a k : ℕ) → k ≡ word rs i 0 → number_of (plain_k efst_k) ≤ k → k < number_of (plain_k ederef_k) → a ≡ op_a rs i → EvalOk rs ws ws₁ a env d x
          → (k ≡ number_of (plain_k efst_k) → v ≡ first_value x.value) × (k ≡ number_of (plain_k esnd_k) → v ≡ second_value x.value) → EvalOk rs ws ws₁ i env d r
      eval_part a k q l h ea ha e = ⊎_elim
          (λ z. eval_first a (sym q ∙ sym z) ea ha (e.0 (sym z)))
          (λ z. let y : k ≡ number_of (plain_k esnd_k) = omega arith in eval_second a (sym q ∙ y) ea ha (e.1 y))
          (eq-or-lt_of_le l)

  -- ---- a test, and the branch that it names

  module _ (ws ws₁ ws₂ : List ℕ) (x y r : Evaluation) (f : r ≡ after_over x.over y) (b : Bool) (e : b ≡ is_true (first_number x.value)) where
    if_at : (u v w : Exp) → EvalAt rs ws ws₁ i env d x u → (b ≡ true → EvalAt rs ws₁ ws₂ i env d y v) → (b ≡ false → EvalAt rs ws₁ ws₂ i env d y w) → EvalAt rs ws ws₂ i env d r (eif u v w)
    unfolding eval overflows
    if_at u v w hu hv hw Σ Γ τ s ρ (t_if tu tv tw) o =
        let p = hu Σ Γ _ s ρ tu o in
        let q = after u tu o p in
        let z : b ≡ is_true (eval u ρ s).0 = e ∙ ap (λ x. is_true (first_number x)) p.answer ∙ true_value _ (leaf_word q.typed) in
        let side : (v : Exp) → Evaluated rs ws₁ ws₂ y (eval v ρ (eval u ρ s).1).0 (eval v ρ (eval u ρ s).1).1 (overflows v ρ (eval u ρ s).1)
        → Evaluated rs ws ws₂ r (eval v ρ (eval u ρ s).1).0 (eval v ρ (eval u ρ s).1).1 (overflows u ρ s || overflows v ρ (eval u ρ s).1)
        = λ v p₁. record { answer = ap (λ r. r.value) f ∙ p₁.answer; over = ap (λ r. r.over) f ∙ ap₂ ◌||◌ p.over p₁.over; stores = p₁.stores; same = same_trans p.same p₁.same } in
        branch_both (is_true (eval u ρ s).0) (λ s. eval v ρ s) (λ s. eval w ρ s) (λ s. overflows v ρ s) (λ s. overflows w ρ s) (eval u ρ s).1
        (λ y z. Evaluated rs ws ws₂ r y.0 y.1 (overflows u ρ s || z))
        (λ c. side v (hv (z ∙ c) Σ Γ _ _ ρ tv q.world))
        (λ c. side w (hw (z ∙ c) Σ Γ _ _ ρ tw q.world))

    module _ (a k : ℕ) (q : OfKind rs i (either_k if_k)) (ea : a ≡ op_a rs i) (ha : EvalOk rs ws ws₁ a env d x) (hk : EvalOk rs ws₁ ws₂ k env d y) where
      pub eval_if_true : b ≡ true → k ≡ op_b rs i → EvalOk rs ws ws₂ i env d r
      eval_if_true c ek = on_exp rs d i (either_k if_k) (EvalAt rs ws ws₂ i env d r) q (λ u v w p.
          if_at u v w (at_row ea ha u p.1) (λ _. at_row ek hk v p.2) (λ f. differ (sym c ∙ f)))

      pub eval_if_false : b ≡ false → k ≡ op_c rs i → EvalOk rs ws ws₂ i env d r
      eval_if_false c ek = on_exp rs d i (either_k if_k) (EvalAt rs ws ws₂ i env d r) q (λ u v w p.
          if_at u v w (at_row ea ha u p.1) (λ t. differ (sym t ∙ c)) (λ _. at_row ek hk w p.3))

  -- ---- cells

  content_at : (ws : List ℕ) (r : Value) (k : ℕ) → Cell rs k → r ≡ value_at ws k → EvalAt rs ws ws i env d (sure_of r) (ederef k)
  unfolding eval overflows
  content_at ws r k c e Σ Γ τ s ρ (t_deref h) w = record {
    answer = e ∙ value_at_lem (w.stores.cells k c) (look_up w.store_typed h).1 (at_leaves h w.store_small);
    over = refl;
    stores = w.stores;
    same = same_refl;
  }

  pub eval_content : (ws : List ℕ) (r : Value) (a : ℕ) → OfKind rs i (plain_k ederef_k) → a ≡ op_a rs i → r ≡ value_at ws a → EvalOk rs ws ws i env d (sure_of r)
  eval_content ws r a q ea e = on_exp rs d i (plain_k ederef_k) (EvalAt rs ws ws i env d (sure_of r)) q (λ k p. content_at ws r k p.2 (e ∙ ap (value_at ws) (ea ∙ p.1)))

  module _ (ws ws₁ ws₂ : List ℕ) (x r : Evaluation) where
    -- what an assignment of x answers
    abbrev Assigned : Type 0
    Assigned = r ≡ after_over x.over (sure_of (as_value vunit))

    assign_at : (k : ℕ) (a : Exp) → Cell rs k → EvalAt rs ws ws₁ i env d x a → Laid ws₁ ws₂ k (own ∷ words_of x.value) → Assigned → EvalAt rs ws ws₂ i env d r (eassign k a)
    unfolding eval overflows
    assign_at k a c ha l e Σ Γ τ s ρ (t_assign h ta) w =
        let p = ha Σ Γ _ s ρ ta w in
        let q = after a ta w p in
        let l₁ = laid_as (eval a ρ s).0 l p.answer in
        record {
          answer = ap (λ r. r.value) e;
          over = ap (λ r. r.over) e ∙ or_none x.over ∙ p.over;
          stores = stores_set (eval a ρ s).1 k (eval a ρ s).0 p.stores l₁ (in_list q.world.store_typed h);
          same = same_trans p.same (laid_same l₁ c);
        }

    pub eval_assign : (a b : ℕ) → OfKind rs i (plain_k eassign_k) → a ≡ op_a rs i → b ≡ op_b rs i → EvalOk rs ws ws₁ b env d x → Laid ws₁ ws₂ a (own ∷ words_of x.value) → Assigned → EvalOk rs ws ws₂ i env d r
    eval_assign a b q ea eb hb l e = on_exp rs d i (plain_k eassign_k) (EvalAt rs ws ws₂ i env d r) q (λ k a₁ p.
        assign_at k a₁ p.2 (at_row eb hb a₁ p.3) (subst (λ k. Laid ws₁ ws₂ k (own ∷ words_of x.value)) (ea ∙ p.1) l) e)

  -- ---- a binder

  module _ (ws ws₁ ws₂ env₁ : List ℕ) (x y r : Evaluation) (f : r ≡ after_over x.over y) where
    let_at : (a b : Exp) → EvalAt rs ws ws₁ i env d x a → Pushed env env₁ d x.value → EvalAt rs ws₁ ws₂ i env₁ (d + 1) y b → EvalAt rs ws ws₂ i env d r (elet a b)
    unfolding eval overflows
    let_at a b ha u hb Σ Γ τ s ρ (t_let ta tb) w =
        let p = ha Σ Γ _ s ρ ta w in
        let q = after a ta w p in
        let p₁ = hb Σ _ _ _ _ tb (world_push (eval a ρ s).0 q.world u p.answer q.typed q.small) in
        record { answer = ap (λ r. r.value) f ∙ p₁.answer; over = ap (λ r. r.over) f ∙ ap₂ ◌||◌ p.over p₁.over; stores = p₁.stores; same = same_trans p.same p₁.same }

    pub eval_let : (a b : ℕ) → OfKind rs i (either_k let_k) → a ≡ op_a rs i → b ≡ op_b rs i → EvalOk rs ws ws₁ a env d x → Pushed env env₁ d x.value → EvalOk rs ws₁ ws₂ b env₁ (d + 1) y → EvalOk rs ws ws₂ i env d r
    eval_let a b q ea eb ha u hb = on_exp rs d i (either_k let_k) (EvalAt rs ws ws₂ i env d r) q (λ a₁ b₁ p.
        let_at a₁ b₁ (at_row ea ha a₁ p.1) u (subst (λ k. EvalOk rs ws₁ ws₂ k env₁ (d + 1) y) eb hb b₁ p.2))

  -- no expression sits under more binders than there may be, nor at a row of another kind
  pub eval_deep : (ws ws₁ : List ℕ) (r : Evaluation) → OfKind rs i (either_k let_k) → max_binders ≤ d → EvalOk rs ws ws₁ i env d r
  eval_deep ws ws₁ r q h = on_exp rs d i (either_k let_k) (EvalAt rs ws ws₁ i env d r) q (λ a b p. absurd (let l = p.3 in omega arith))

  pub eval_none : (ws : List ℕ) (r : Evaluation) → (FromKind rs i (plain_k eunit_k) → UpToKind rs i (either_k let_k) → ⊥) → EvalOk rs ws ws i env d r
  eval_none ws r n = on_no_exp rs d i (EvalAt rs ws ws i env d r) n
