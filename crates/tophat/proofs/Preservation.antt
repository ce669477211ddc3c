-- Types are kept by evaluating, striding and normalising, for what the rules derive; and for the functions, by a stride. A typed
-- running task is one of a typed code, and its value is of its type. Rests on TaskEvaluationAgrees and NormalisingComplete.
use mathlib.Core.Path.{◌≡◌}
use mathlib.Core.Bool.{Bool, true, false}
use mathlib.Core.Option.{Option, none, some}
use mathlib.Core.List.{List, [], ◌∷◌}
use Prim.Native.Nat.{ℕ}
use native.Mathlib.Omega.{arith}
use Rattle.tophat.specs.Syntax.{Ty, pair, Exp, Code, then, or, Val, Env, Store, TaskOf}
use Rattle.tophat.specs.Typing.{HasType, CodeType, t_edit, t_enter, t_update, t_then, t_next, t_fail, t_and, t_or, t_xor, t_view}
use Rattle.tophat.specs.Typing.{ValueType, v_pair, ValueTypes, v_cons}
use Rattle.tophat.specs.Typing.{TaskType, k_filled, k_blank, k_entered, k_shared, k_then_before, k_then_after, k_next_before, k_failed, k_both, k_either, k_or_left, k_or_right}
use Rattle.tophat.specs.Typing.{k_unpicked, k_viewed}
use Rattle.tophat.specs.Evaluation.{Evaluates, EvaluatesTask}
use Rattle.tophat.specs.Normalising.{pair_of, first_of, value, Strides, Normalises, n_done, n_repeat}
use Rattle.tophat.proofs.ComputeNormalising.{go_on, go_on_with, choose_right, choose_left, stride}
use Rattle.tophat.proofs.Became.{alike, Formed, of_wraps, of_edit, of_enter, of_update, of_then, of_next, of_fail, of_and, of_or, of_xor, of_view, formed, inner}
use Rattle.tophat.proofs.EvaluationAgrees.{look_up, eval_good, eval_is}
use Rattle.tophat.proofs.TaskEvaluationAgrees.{evaluate_good, evaluate_is}
use Rattle.tophat.proofs.NormalisingComplete.{strides_as}

code_typed : {Σ : List Ty} {c : Code} {ρ : Env} {t : TaskOf c} {Γ : List Ty} {τ : Ty} → Formed c ρ t → TaskType Σ Γ c t τ → CodeType Σ Γ c τ
code_typed (of_wraps {u = u} b d) k = let i = inner b u k in i.code (code_typed d i.task)
code_typed of_edit (k_filled e v) = t_edit e
code_typed of_enter (k_blank l) = t_enter l
code_typed of_enter (k_entered l v) = t_enter l
code_typed of_update (k_shared d) = t_update d
code_typed (of_then d f) (k_then_before k e) = t_then (code_typed d k) e
code_typed (of_next d f) (k_next_before k e) = t_next (code_typed d k) e
code_typed of_fail (k_failed l) = t_fail l
code_typed (of_and d e) (k_both k m l) = t_and (code_typed d k) (code_typed e m) l
code_typed (of_or d e) (k_either k m) = t_or (code_typed d k) (code_typed e m)
code_typed (of_xor d e) (k_unpicked k m) = t_xor k m
code_typed of_view (k_viewed e v) = t_view e

-- the code of a typed running task is typed
pub task_code : {Σ Γ : List Ty} {c : Code} {t : TaskOf c} {τ : Ty} → TaskType Σ Γ c t τ → CodeType Σ Γ c τ
task_code {c = c} {t = t} k = code_typed (formed c [] t) k

-- a value of the type, if there is one
pub data OptionType : Option Val → Ty → Type 0 where
  o_none : {τ : Ty} → OptionType none τ
  o_some : {v : Val} {τ : Ty} → ValueType v τ → OptionType (some v) τ

pub option_is : {o : Option Val} {τ : Ty} {v : Val} → OptionType o τ → o ≡ some v → ValueType v τ
option_is o_none e = let z : ◌≡◌ {A = ℕ} 0 1 = cc in absurd (omega arith)
option_is {v = w} (o_some {v = v} h) e = let p : v ≡ w = cc in rw p at h

pair_type : {x y : Option Val} {τ υ : Ty} → OptionType x τ → OptionType y υ → OptionType (pair_of x y) (pair τ υ)
unfolding pair_of
pair_type o_none h = o_none
pair_type (o_some g) o_none = o_none
pair_type (o_some g) (o_some h) = o_some (v_pair g h)

first_type : {x y : Option Val} {τ : Ty} → OptionType x τ → OptionType y τ → OptionType (first_of x y) τ
unfolding first_of
first_type o_none h = h
first_type (o_some g) h = o_some g

value_typed : {Σ : List Ty} {c : Code} {ρ : Env} {t : TaskOf c} {Γ : List Ty} {τ : Ty} {s : Store} → Formed c ρ t → TaskType Σ Γ c t τ → ValueTypes s Σ → OptionType (value c t s) τ
unfolding value
value_typed {s = s} (of_wraps {u = u} b d) k h = rw ((alike b).values s u) (value_typed d (inner b u k).task h)
value_typed of_edit (k_filled e v) h = o_some v
value_typed of_enter (k_blank l) h = o_none
value_typed of_enter (k_entered l v) h = o_some v
value_typed of_update (k_shared d) h = o_some (look_up h d).1
value_typed (of_then d f) k h = o_none
value_typed (of_next d f) k h = o_none
value_typed of_fail k h = o_none
value_typed (of_and d e) (k_both k m l) h = pair_type (value_typed d k h) (value_typed e m h)
value_typed (of_or d e) (k_either k m) h = first_type (value_typed d k h) (value_typed e m h)
value_typed (of_xor d e) k h = o_none
value_typed of_view (k_viewed e v) h = o_some v

-- a typed task's value is of its type
pub value_type : {Σ Γ : List Ty} {c : Code} {t : TaskOf c} {τ : Ty} {s : Store} → TaskType Σ Γ c t τ → ValueTypes s Σ → OptionType (value c t s) τ
value_type {c = c} {t = t} k h = value_typed (formed c [] t) k h

-- a task of the type, in a store of the cells' types
pub record Kept (Σ Γ : List Ty) (c : Code) (τ : Ty) (t : TaskOf c) (s : Store) : Type 0 where
  pub task : TaskType Σ Γ c t τ
  pub store : ValueTypes s Σ

-- the same of what a stride gives
abbrev pub KeptBy : (Σ Γ : List Ty) (c : Code) → Ty → TaskOf c × Store × Bool → Type 0
KeptBy Σ Γ c τ r = Kept Σ Γ c τ r.0 r.1

module _ {Σ Γ : List Ty} {a b : Code} where
  go_on_kept : {τ υ : Ty} {t : TaskOf a} {s : Store} {v : Val} (m : Bool) (r : TaskOf b × Store) (x : Bool)
      → TaskType Σ Γ a t τ → ValueTypes s Σ → CodeType Σ (τ ∷ Γ) b υ → ValueType v τ → Kept Σ (τ ∷ Γ) b υ r.0 r.1
      → KeptBy Σ Γ (then a b) υ (go_on v t s m r x)
  unfolding go_on
  go_on_kept m r true d h e k q = record { task = k_then_before d e; store = h }
  go_on_kept m r false d h e k q = record { task = k_then_after (task_code d) k q.task; store = q.store }

  go_on_with_kept : {τ υ : Ty} {t : TaskOf a} {s : Store} {o : Option Val} (m : Bool) (E : Val → TaskOf b × Store) (F : Val → TaskOf b × Store → Bool)
      → TaskType Σ Γ a t τ → ValueTypes s Σ → CodeType Σ (τ ∷ Γ) b υ → OptionType o τ → ((v : Val) → ValueType v τ → Kept Σ (τ ∷ Γ) b υ (E v).0 (E v).1)
      → KeptBy Σ Γ (then a b) υ (go_on_with o t s m E F)
  unfolding go_on_with
  go_on_with_kept m E F d h e o_none q = record { task = k_then_before d e; store = h }
  go_on_with_kept m E F d h e (o_some {v = v} k) q = go_on_kept m (E v) (F v (E v)) d h e k (q v k)

  right_kept : {τ : Ty} {t : TaskOf a} {u : TaskOf b} {s : Store} (m : Bool) (o : Option Val)
      → TaskType Σ Γ a t τ → TaskType Σ Γ b u τ → ValueTypes s Σ → KeptBy Σ Γ (or a b) τ (choose_right o t u s m)
  unfolding choose_right
  right_kept m none d e h = record { task = k_either d e; store = h }
  right_kept m (some w) d e h = record { task = k_or_right (task_code d) e; store = h }

  left_kept : {τ : Ty} {t : TaskOf a} {u : TaskOf b} {s : Store} (m : Bool) (o : Option Val) (G : Store → TaskOf b → TaskOf b × Store × Bool) (W : TaskOf b → Store → Option Val)
      → TaskType Σ Γ a t τ → TaskType Σ Γ b u τ → ValueTypes s Σ → KeptBy Σ Γ b τ (G s u) → KeptBy Σ Γ (or a b) τ (choose_left o t u s m G W)
  unfolding choose_left
  left_kept m none G W d e h q = right_kept _ _ d q.task q.store
  left_kept m (some v) G W d e h q = record { task = k_or_left d (task_code e); store = h }

kept : {Σ : List Ty} {c : Code} {ρ : Env} {t : TaskOf c} {Γ : List Ty} {τ : Ty} → Formed c ρ t → TaskType Σ Γ c t τ → (s : Store) → ValueTypes ρ Γ → ValueTypes s Σ → KeptBy Σ Γ c τ (stride c ρ s t)
unfolding stride
kept (of_wraps {u = u} b d) k s g h =
    let i = inner b u k in
    let p = kept d i.task s (i.env g) h in
    rw ((alike b).strides s u) (record { task = i.back p.task; store = p.store })
kept of_edit k s g h = record { task = k; store = h }
kept of_enter k s g h = record { task = k; store = h }
kept of_update k s g h = record { task = k; store = h }
kept (of_then {ρ = ρ} d f) (k_then_before k e) s g h =
    let p = kept d k s g h in
    go_on_with_kept _ _ _ p.task p.store e (value_type p.task p.store)
    (λ v k. let q = evaluate_good e (v ∷ ρ) _ (v_cons k g) p.store in record { task = q.task; store = q.store })
kept (of_next d f) (k_next_before k e) s g h = let p = kept d k s g h in record { task = k_next_before p.task e; store = p.store }
kept of_fail k s g h = record { task = k; store = h }
kept (of_and d e) (k_both k m l) s g h =
    let p = kept d k s g h in
    let q = kept e m _ g p.store in
    record { task = k_both p.task q.task l; store = q.store }
kept (of_or d e) (k_either k m) s g h = let p = kept d k s g h in left_kept _ _ _ _ p.task m p.store (kept e m _ g p.store)
kept (of_xor d e) k s g h = record { task = k; store = h }
kept of_view k s g h = record { task = k; store = h }

-- a stride keeps types
pub stride_kept : {Σ Γ : List Ty} {c : Code} {t : TaskOf c} {τ : Ty} → TaskType Σ Γ c t τ → (ρ : Env) (s : Store) → ValueTypes ρ Γ → ValueTypes s Σ → KeptBy Σ Γ c τ (stride c ρ s t)
stride_kept {c = c} {t = t} k ρ s g h = kept (formed c ρ t) k s g h

-- Preservation, for what the rules derive: a typed expression evaluates to a value of its type
pub evaluates_kept : {Σ Γ : List Ty} {ρ : Env} {s s₁ : Store} {e : Exp} {v : Val} {τ : Ty}
    → HasType Σ Γ e τ → ValueTypes ρ Γ → ValueTypes s Σ → Evaluates ρ s e v s₁ → ValueType v τ × ValueTypes s₁ Σ
evaluates_kept {ρ = ρ} {s = s} d g h x = let (p, o) = eval_is x in let q = rw p at (eval_good d ρ s g h) in (q.typed, q.kept)

-- a typed code to a task of its type
pub evaluates_task_kept : {Σ Γ : List Ty} {c : Code} {ρ : Env} {s s₁ : Store} {t : TaskOf c} {τ : Ty}
    → CodeType Σ Γ c τ → ValueTypes ρ Γ → ValueTypes s Σ → EvaluatesTask c ρ s t s₁ → Kept Σ Γ c τ t s₁
evaluates_task_kept {ρ = ρ} {s = s} d g h x = let (p, o) = evaluate_is x in let q = rw p at (evaluate_good d ρ s g h) in record { task = q.task; store = q.store }

-- a typed task strides to one of its type
pub strides_kept : {Σ Γ : List Ty} {c : Code} {ρ : Env} {s s₁ : Store} {t t₁ : TaskOf c} {τ : Ty}
    → TaskType Σ Γ c t τ → ValueTypes ρ Γ → ValueTypes s Σ → Strides c ρ s t t₁ s₁ → Kept Σ Γ c τ t₁ s₁
strides_kept {ρ = ρ} {s = s} d g h x = let (m, p) = strides_as x in rw p at (stride_kept d ρ s g h)

-- and normalises to one
pub normalises_kept : {Σ Γ : List Ty} {c : Code} {ρ : Env} {s s₁ : Store} {t t₁ : TaskOf c} {n : ℕ} {τ : Ty}
    → TaskType Σ Γ c t τ → ValueTypes ρ Γ → ValueTypes s Σ → Normalises c ρ s t t₁ s₁ n → Kept Σ Γ c τ t₁ s₁
normalises_kept d g h (n_done x) = record { task = d; store = h }
normalises_kept d g h (n_repeat x y r) = let p = strides_kept d g h x in normalises_kept p.task g p.store r
