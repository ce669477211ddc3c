-- Evaluation of tasks: a typed task evaluates by the rules to what `evaluate` gives, a running task of its type, unless
-- `overflows_task` says that it leaves the words; then the rules say so too. And what the rules derive is what the functions give,
-- typed or not. Rests on EvaluationAgrees.
use mathlib.Core.Path.{◌≡◌, refl}
use mathlib.Core.Bool.{Bool, true, false, ◌||◌}
use mathlib.Core.Logic.{◌⊎◌, inl, inr}
use mathlib.Core.List.{List}
use native.Mathlib.Omega.{arith}
use Rattle.tophat.specs.Syntax.{Ty, truth, Exp, Code, if, Val, vunit, vtruth, vnumber, vpair, Env, Store, TaskOf, if_true, if_false}
use Rattle.tophat.specs.Typing.{HasType, CodeType, t_edit, t_enter, t_update, t_then, t_next, t_fail, t_and, t_or, t_xor, t_view, t_gate, t_if_task, t_let_task}
use Rattle.tophat.specs.Typing.{ValueType, v_truth, ValueTypes, v_cons}
use Rattle.tophat.specs.Typing.{TaskType, k_filled, k_blank, k_shared, k_then_before, k_next_before, k_failed, k_both, k_either, k_unpicked, k_viewed, k_gated, k_if_true, k_if_false, k_bound}
use Rattle.tophat.specs.Evaluation.{EvaluatesTask, e_edit, e_enter, e_update, e_then, e_next, e_fail, e_and, e_or, e_xor, e_view, e_gate, e_if_true_task, e_if_false_task, e_let_task}
use Rattle.tophat.specs.Evaluation.{OverflowsTask, o_edit, o_view, o_gate, o_then, o_next, o_and_left, o_and_right, o_or_left, o_or_right, o_if_task, o_if_true_task, o_if_false_task, o_let_task, o_let_task_body}
use Rattle.tophat.proofs.Basics.{apart, by_truth, or_false, or_true}
use Rattle.tophat.proofs.ComputeEvaluation.{leaf, is_true, branch, overflows, evaluate, overflows_task}
use Rattle.tophat.proofs.EvaluationAgrees.{Good, eval_good, eval_is, overflows_is}

-- what evaluating a task gives is derived, or that it leaves the words; it is a task of the type, and keeps the cells' types
pub record GoodTask (Σ Γ : List Ty) (c : Code) (ρ : Env) (s : Store) (τ : Ty) (r : TaskOf c × Store) (x : Bool) : Type 0 where
  pub derived : x ≡ false → EvaluatesTask c ρ s r.0 r.1
  pub over : x ≡ true → OverflowsTask c ρ s
  pub task : TaskType Σ Γ c r.0 τ
  pub store : ValueTypes r.1 Σ

sure : {Σ Γ : List Ty} {c : Code} {ρ : Env} {s : Store} {τ : Ty} {r : TaskOf c × Store} → EvaluatesTask c ρ s r.0 r.1 → TaskType Σ Γ c r.0 τ → ValueTypes r.1 Σ → GoodTask Σ Γ c ρ s τ r false
sure d t k = record { derived = λ h. d; over = λ h. apart h refl; task = t; store = k }

if_good : {Σ Γ : List Ty} {ρ : Env} {s : Store} {e : Exp} {a b : Code} {τ : Ty} {r : Val × Store} (x : Bool)
    → HasType Σ Γ e truth → CodeType Σ Γ a τ → CodeType Σ Γ b τ → Good Σ ρ s e truth r x → ValueType r.0 truth
    → GoodTask Σ Γ a ρ r.1 τ (evaluate a ρ r.1) (overflows_task a ρ r.1) → GoodTask Σ Γ b ρ r.1 τ (evaluate b ρ r.1) (overflows_task b ρ r.1)
    → GoodTask Σ Γ (if e a b) ρ s τ
    (branch (is_true r.0) (λ s. (if_true (evaluate a ρ s).0, (evaluate a ρ s).1)) (λ s. (if_false (evaluate b ρ s).0, (evaluate b ρ s).1)) r.1)
    (x || branch (is_true r.0) (λ s. overflows_task a ρ s) (λ s. overflows_task b ρ s) r.1)
unfolding branch is_true leaf
if_good {ρ = ρ} {a = a} {r = (vtruth true, s₁)} x h k l c (v_truth {b = true}) p q = record {
  derived = λ z. let (i, j) = or_false x (overflows_task a ρ s₁) z in e_if_true_task (c.derived i) (p.derived j);
  over = λ z. or_true x (overflows_task a ρ s₁) z (λ i. o_if_task (c.over i)) (λ i j. o_if_true_task (c.derived i) (p.over j));
  task = k_if_true h p.task l;
  store = p.store;
}
if_good {r = (vunit, s₁)} x h k l c d p q = elim d [ ]
if_good {r = (vnumber _, s₁)} x h k l c d p q = elim d [ ]
if_good {r = (vpair _ _, s₁)} x h k l c d p q = elim d [ ]
if_good {ρ = ρ} {b = b} {r = (vtruth false, s₁)} x h k l c (v_truth {b = false}) p q = record {
  derived = λ z. let (i, j) = or_false x (overflows_task b ρ s₁) z in e_if_false_task (c.derived i) (q.derived j);
  over = λ z. or_true x (overflows_task b ρ s₁) z (λ i. o_if_task (c.over i)) (λ i j. o_if_false_task (c.derived i) (q.over j));
  task = k_if_false h k q.task;
  store = q.store;
}

-- soundness and preservation in one
pub evaluate_good : {Σ Γ : List Ty} {c : Code} {τ : Ty} → CodeType Σ Γ c τ → (ρ : Env) (s : Store) → ValueTypes ρ Γ → ValueTypes s Σ → GoodTask Σ Γ c ρ s τ (evaluate c ρ s) (overflows_task c ρ s)
unfolding evaluate overflows_task
evaluate_good (t_edit d) ρ s g h = let p = eval_good d ρ s g h in record { derived = λ z. e_edit (p.derived z); over = λ z. o_edit (p.over z); task = k_filled d p.typed; store = p.kept }
evaluate_good (t_enter l) ρ s g h = sure e_enter (k_blank l) h
evaluate_good (t_update d) ρ s g h = sure e_update (k_shared d) h
evaluate_good (t_then d e) ρ s g h = let p = evaluate_good d ρ s g h in record { derived = λ z. e_then (p.derived z); over = λ z. o_then (p.over z); task = k_then_before p.task e; store = p.store }
evaluate_good (t_next d e) ρ s g h = let p = evaluate_good d ρ s g h in record { derived = λ z. e_next (p.derived z); over = λ z. o_next (p.over z); task = k_next_before p.task e; store = p.store }
evaluate_good (t_fail l) ρ s g h = sure e_fail (k_failed l) h
evaluate_good (t_and {a = a} d e l) ρ s g h =
    let p = evaluate_good d ρ s g h in
    let q = evaluate_good e ρ _ g p.store in
    record {
      derived = λ z. let (i, j) = or_false (overflows_task a ρ s) _ z in e_and (p.derived i) (q.derived j);
      over = λ z. or_true (overflows_task a ρ s) _ z (λ i. o_and_left (p.over i)) (λ i j. o_and_right (p.derived i) (q.over j));
      task = k_both p.task q.task l;
      store = q.store;
    }
evaluate_good (t_or {a = a} d e) ρ s g h =
    let p = evaluate_good d ρ s g h in
    let q = evaluate_good e ρ _ g p.store in
    record {
      derived = λ z. let (i, j) = or_false (overflows_task a ρ s) _ z in e_or (p.derived i) (q.derived j);
      over = λ z. or_true (overflows_task a ρ s) _ z (λ i. o_or_left (p.over i)) (λ i j. o_or_right (p.derived i) (q.over j));
      task = k_either p.task q.task;
      store = q.store;
    }
evaluate_good (t_xor d e) ρ s g h = sure e_xor (k_unpicked d e) h
evaluate_good (t_view d) ρ s g h = let p = eval_good d ρ s g h in record { derived = λ z. e_view (p.derived z); over = λ z. o_view (p.over z); task = k_viewed d p.typed; store = p.kept }
evaluate_good (t_gate {n = n} d) ρ s g h = let p = evaluate_good d ρ s g h in record { derived = λ z. e_gate (p.derived z); over = λ z. o_gate (p.over z); task = k_gated {n = n} {k = n} (omega arith) p.task; store = p.store }
evaluate_good (t_if_task x d e) ρ s g h =
    let p = eval_good x ρ s g h in
    if_good _ x d e p p.typed (evaluate_good d ρ _ g p.kept) (evaluate_good e ρ _ g p.kept)
evaluate_good (t_let_task {e = e} x d) ρ s g h =
    let p = eval_good x ρ s g h in
    let q = evaluate_good d _ _ (v_cons p.typed g) p.kept in
    record {
      derived = λ z. let (i, j) = or_false (overflows e ρ s) _ z in e_let_task (p.derived i) (q.derived j);
      over = λ z. or_true (overflows e ρ s) _ z (λ i. o_let_task (p.over i)) (λ i j. o_let_task_body (p.derived i) (q.over j));
      task = k_bound x p.typed q.task;
      store = q.store;
    }

-- completeness, with no types: what is derived is what the functions give, so there is at most one task and one store, and a task
-- that evaluates does not leave the words
pub evaluate_is : {c : Code} {ρ : Env} {s s₁ : Store} {t : TaskOf c} → EvaluatesTask c ρ s t s₁ → (evaluate c ρ s ≡ (t, s₁)) × (overflows_task c ρ s ≡ false)
unfolding evaluate overflows_task branch is_true leaf
evaluate_is (e_edit d) = let (p, x) = eval_is d in (rw p, x)
evaluate_is e_enter = (refl, refl)
evaluate_is e_update = (refl, refl)
evaluate_is (e_then d) = let (p, x) = evaluate_is d in (rw p, x)
evaluate_is (e_next d) = let (p, x) = evaluate_is d in (rw p, x)
evaluate_is e_fail = (refl, refl)
evaluate_is (e_and d d₁) = let (p, x) = evaluate_is d in let (q, y) = evaluate_is d₁ in (rw (p, q), rw (p, x, y))
evaluate_is (e_or d d₁) = let (p, x) = evaluate_is d in let (q, y) = evaluate_is d₁ in (rw (p, q), rw (p, x, y))
evaluate_is e_xor = (refl, refl)
evaluate_is (e_view d) = let (p, x) = eval_is d in (rw p, x)
evaluate_is (e_gate d) = let (p, x) = evaluate_is d in (rw p, x)
evaluate_is (e_if_true_task c d) = let (p, x) = eval_is c in let (q, y) = evaluate_is d in (rw (p, q), rw (p, x, y))
evaluate_is (e_if_false_task c d) = let (p, x) = eval_is c in let (q, y) = evaluate_is d in (rw (p, q), rw (p, x, y))
evaluate_is (e_let_task c d) = let (p, x) = eval_is c in let (q, y) = evaluate_is d in (rw (p, q), rw (p, x, y))

pub overflows_task_is : {c : Code} {ρ : Env} {s : Store} → OverflowsTask c ρ s → overflows_task c ρ s ≡ true
unfolding overflows_task branch is_true leaf
overflows_task_is (o_edit d) = overflows_is d
overflows_task_is (o_view d) = overflows_is d
overflows_task_is (o_gate d) = overflows_task_is d
overflows_task_is (o_then d) = overflows_task_is d
overflows_task_is (o_next d) = overflows_task_is d
overflows_task_is (o_and_left d) = let x = overflows_task_is d in rw x
overflows_task_is (o_and_right d e) = let (p, x) = evaluate_is d in let y = overflows_task_is e in rw (p, x, y)
overflows_task_is (o_or_left d) = let x = overflows_task_is d in rw x
overflows_task_is (o_or_right d e) = let (p, x) = evaluate_is d in let y = overflows_task_is e in rw (p, x, y)
overflows_task_is (o_if_task d) = let x = overflows_is d in rw x
overflows_task_is (o_if_true_task d e) = let (p, x) = eval_is d in let y = overflows_task_is e in rw (p, x, y)
overflows_task_is (o_if_false_task d e) = let (p, x) = eval_is d in let y = overflows_task_is e in rw (p, x, y)
overflows_task_is (o_let_task d) = let x = overflows_is d in rw x
overflows_task_is (o_let_task_body d e) = let (p, x) = eval_is d in let y = overflows_task_is e in rw (p, x, y)

-- of a typed code exactly one of the two is derived: a task and a store, or that it leaves the words
pub evaluates_or_overflows : {Σ Γ : List Ty} {c : Code} {τ : Ty} → CodeType Σ Γ c τ → (ρ : Env) (s : Store) → ValueTypes ρ Γ → ValueTypes s Σ
    → ((t : TaskOf c) × (s₁ : Store) × EvaluatesTask c ρ s t s₁) ⊎ OverflowsTask c ρ s
evaluates_or_overflows {c = c} d ρ s g h = let k = evaluate_good d ρ s g h in by_truth (overflows_task c ρ s) (λ o. inr (k.over o)) (λ o. inl (_, _, k.derived o))

pub overflows_alone : {c : Code} {ρ : Env} {s s₁ : Store} {t : TaskOf c} → EvaluatesTask c ρ s t s₁ → OverflowsTask c ρ s → ⊥
overflows_alone d o = apart (overflows_task_is o) (evaluate_is d).1
