-- Every rest of three choices grouped one way, whether start reaches it or not, goes together with a rest of them grouped the other way, and
-- back: the task is turned and renamed, or the reverse, and the store is the other's first contents with the shared cells' contents put in
-- their places. Both are of their types, and the other strides where the one does, so it is at rest too. A failed start goes together with
-- the other's. Rests on RegroupedStates, on RegroupedStarts, and on the calculus' RenamingTyped and Regrouping.
use mathlib.Core.Path.{◌≡◌, refl, sym, ap, subst, ◌∙◌}
use mathlib.Core.Bool.{Bool, true, false}
use mathlib.Core.List.{List, []}
use Prim.Native.Nat.{ℕ, zero, suc, ◌<◌}
use native.Mathlib.Decide.{ℕ_discrete}
use native.Mathlib.Omega.{arith}
use borrow.Table.Steps.{cases}
use lib.IntN.{ℤ}
use lib.ListN.{length, get_or, set}
use lib.Seq.{get_or-set_same, get_or-set_other}
use Rattle.tophat.specs.Syntax.{Ty, unit, TaskOf, Val, vunit, Store}
use Rattle.tophat.specs.Typing.{TaskType, ValueType, ValueTypes}
use Rattle.tophat.specs.Redrawn.{turned, path_in}
use Rattle.tophat.specs.Renamed.{renamed_task, Apart, Agrees}
use Rattle.tophat.proofs.Basics.{apart}
use Rattle.tophat.proofs.ComputeEvaluation.{overflows_task}
use Rattle.tophat.proofs.ComputeNormalising.{stride}
use Rattle.tophat.proofs.EvaluationAgrees.{put}
use Rattle.tophat.proofs.TaskEvaluationAgrees.{overflows_task_is}
use Rattle.tophat.proofs.Regrouping.{unturned, turned_unturned, typed_turned, typed_unturned}
use Rattle.tophat.proofs.RenamingTyped.{at_inside, task_typed_like, task_typed_back, unrenamed_task, renamed_unrenamed}
use Rattle.state.proofs.OneState.{typed_at, types_length}
use Rattle.call_definitions.specs.Memory.{state_of, failed_of}
use Rattle.call_definitions.specs.States.{FlowState, task_state, AtRest}
use Rattle.call_definitions.specs.Answers.{WritesTask, Writes, as_task, as_failed, IsRest}
use Rattle.call_definitions.proofs.Opening.{first_typed, same_first, unmoved, still_of}
use Rattle.mirror.specs.Regrouped.{Flagged, Regroups, code_one, code_other, tasks, Stand}
use Rattle.mirror.proofs.RegroupedStates.{CellSet, code_there, image, named_other, overflows_same, stride_same}
use Rattle.mirror.proofs.RegroupedStates.{type_there, inside, inside_there, cell_types, code_there_lem, types_same}
use Rattle.mirror.proofs.RegroupedStarts.{failed_stand}

-- ---- a store with given contents: at place f k the value w k, for each k with its flag set; elsewhere as in s

module _ {Σ : List Ty} {s : Store} (h : ValueTypes s Σ) (b : ℕ → Bool) (f : ℕ → ℕ) (w : ℕ → Val) (far : Apart f (Flagged b))
    (in_it : (k : ℕ) → Flagged b k → f k < length Σ) (fits : (k : ℕ) → Flagged b k → ValueType (w k) (get_or Σ (f k) unit)) where
  -- those k below n done
  record Filled (n : ℕ) : Type 0 where
    store : Store
    stored : ValueTypes store Σ
    content : (k : ℕ) → k < n → Flagged b k → get_or store (f k) vunit ≡ w k

  -- the next, by its flag
  module _ (n : ℕ) (p : Filled n) where
    with_it : Flagged b n → (k : ℕ) → k < suc n → Flagged b k → Dec (k ≡ n) → get_or (set p.store (f n) (w n)) (f k) vunit ≡ w k
    with_it e k l m (yes q) =
        rw q (get_or-set_same p.store (f n) (w n) vunit (subst (λ z. f n < z) (sym (types_length p.stored)) (in_it n e)))
    with_it e k l m (no q) = get_or-set_other p.store (f n) (f k) (w n) vunit (λ z. q (far k n m e z)) ∙ p.content k (omega (arith, l, q)) m

    without : b n ≡ false → (k : ℕ) → k < suc n → Flagged b k → Dec (k ≡ n) → get_or p.store (f k) vunit ≡ w k
    without e k l m (yes q) = apart (subst (Flagged b) q m) e
    without e k l m (no q) = p.content k (omega (arith, l, q)) m

    one_more : Filled (suc n)
    one_more = cases (b n)
        (λ e. record {
          store = set p.store (f n) (w n);
          stored = put p.stored (at_inside Σ (f n) (in_it n e)) (fits n e);
          content = λ k l m. with_it e k l m (ℕ_discrete k n);
        })
        (λ e. record { store = p.store; stored = p.stored; content = λ k l m. without e k l m (ℕ_discrete k n) })

  filled : (n : ℕ) → Filled n
  filled zero = record { store = s; stored = h; content = λ k l m. absurd (omega (arith, l)) }
  filled (suc n) = one_more n (filled n)

module _ {rows rows₁ : List ℤ} (g : Regroups rows rows₁) where
  -- ---- two stores that agree, from one

  agree : {s s₁ : Store} → ValueTypes s g.cells → ValueTypes s₁ g.cells₁
      → ((k : ℕ) → CellSet g k → get_or s₁ (g.place k) vunit ≡ get_or s k vunit) → Agrees g.place (CellSet g) s s₁
  agree h h₁ e = record {
    content = e;
    inside = λ k m. subst (λ n. k < n) (sym (types_length h)) (inside g k m);
    inside₁ = λ k m. subst (λ n. g.place k < n) (sym (types_length h₁)) (inside_there g k m);
  }

  store_there : {s : Store} → ValueTypes s g.cells → (s₁ : Store) × ValueTypes s₁ g.cells₁ × Agrees g.place (CellSet g) s s₁
  store_there {s} h =
      let r = filled (first_typed g.flow₁) g.shared g.place (λ k. get_or s k vunit) g.apart (inside_there g)
      (λ k m. subst (ValueType (get_or s k vunit)) (sym (type_there g k m)) (typed_at h k)) (length g.cells) in
      (r.store, r.stored, agree h r.stored (λ k m. r.content k (inside g k m) m))

  store_back : {s₁ : Store} → ValueTypes s₁ g.cells₁ → (s : Store) × ValueTypes s g.cells × Agrees g.place (CellSet g) s s₁
  store_back {s₁} h₁ =
      let r = filled (first_typed g.flow) g.shared (λ k. k) (λ k. get_or s₁ (g.place k) vunit) (λ j k m n e. e) (inside g)
      (λ k m. subst (ValueType (get_or s₁ (g.place k) vunit)) (type_there g k m) (typed_at h₁ (g.place k))) (length g.cells) in
      (r.store, r.stored, agree r.stored h₁ (λ k m. sym (r.content k (inside g k m) m)))

  -- ---- tasks and their types

  typed_there : {t : TaskOf (code_one g)} → TaskType g.cells [] (code_one g) t g.type
      → TaskType g.cells₁ [] (code_there g) (image g t) g.type₁
  typed_there {t} k = subst (TaskType g.cells₁ [] (code_there g) (image g t)) (sym (types_same g))
      (task_typed_like (cell_types g) (typed_turned g.a g.b g.c t k) (named_other g))

  typed_back : {t : TaskOf (code_one g)} → TaskType g.cells₁ [] (code_there g) (image g t) g.type₁
      → TaskType g.cells [] (code_one g) t g.type
  typed_back {t} k = typed_unturned g.a g.b g.c t (task_typed_back (cell_types g) (code_there_lem g) (named_other g) (turned t)
      (subst (TaskType g.cells₁ [] (code_there g) (image g t)) (types_same g) k))

  -- each task of the other is the image of one
  abbrev preimage : TaskOf (code_there g) → TaskOf (code_one g)
  preimage t₁ = unturned (unrenamed_task g.place (code_other g) t₁)

  image_preimage : (t₁ : TaskOf (code_there g)) → image g (preimage t₁) ≡ t₁
  image_preimage t₁ =
      ap (renamed_task g.place (code_other g)) (turned_unturned (unrenamed_task g.place (code_other g) t₁))
      ∙ renamed_unrenamed g.place (code_other g) t₁

  -- ---- two rests

  module _ {ws ws₁ : List ℤ} {t : TaskOf (code_one g)} {s s₁ : Store} where
    -- where the one does not stride, neither does the other
    tasks_stand : WritesTask rows ws (code_one g) g.cells g.type t s
        → WritesTask rows₁ ws₁ (code_there g) g.cells₁ g.type₁ (image g t) s₁ → Agrees g.place (CellSet g) s s₁
        → (stride (code_one g) [] s t).2 ≡ false → Stand g ws ws₁
    tasks_stand w w₁ k e = record {
      rest = record { state = task_state (code_one g) t s; writes = as_task w; still = still_of g.flow w.typed w.stored e };
      rest₁ = record {
        state = task_state (code_there g) (image g t) s₁;
        writes = as_task w₁;
        still = still_of g.flow₁ w₁.typed w₁.stored ((stride_same g k t).third ∙ e);
      };
      path = path_in t;
      alike = tasks k;
    }

  -- by what the words write, and whether it is at rest
  by_writes : {ws : List ℤ} {y : FlowState} → Writes rows ws (code_one g) g.cells g.type y → AtRest y → (ws₁ : List ℤ) × Stand g ws ws₁
  by_writes (as_task {t} {s} w) d =
      let (s₁, h₁, k) = store_there w.stored in
      let e = unmoved g.flow w.typed w.stored d in
      (state_of rows₁ (code_there g) (image g t) s₁, tasks_stand w (record { typed = typed_there w.typed; stored = h₁; written = refl }) k e)
  by_writes (as_failed f o e) d =
      let q = same_first g.flow f in
      let x : overflows_task (code_one g) [] g.flow.first ≡ true = ap (overflows_task (code_one g) []) (sym q) ∙ overflows_task_is o in
      let ws₁ = failed_of rows₁ g.flow₁.first in
      (ws₁, subst (λ ws. Stand g ws ws₁) (sym (e ∙ ap (failed_of rows) q)) (failed_stand g x (overflows_same g g.firsts ∙ x)))

  pub rests_there : {ws : List ℤ} → IsRest rows ws (code_one g) g.cells g.type → (ws₁ : List ℤ) × Stand g ws ws₁
  rests_there r = by_writes r.writes r.still

  -- a task of the other as an image
  by_image : {ws₁ : List ℤ} {s₁ : Store} (t : TaskOf (code_one g)) → WritesTask rows₁ ws₁ (code_there g) g.cells₁ g.type₁ (image g t) s₁
      → AtRest (task_state (code_there g) (image g t) s₁) → (ws : List ℤ) × Stand g ws ws₁
  by_image t w₁ d =
      let (s, h, k) = store_back w₁.stored in
      let e = sym (stride_same g k t).third ∙ unmoved g.flow₁ w₁.typed w₁.stored d in
      (state_of rows (code_one g) t s, tasks_stand (record { typed = typed_back w₁.typed; stored = h; written = refl }) w₁ k e)

  by_writes_there : {ws₁ : List ℤ} {y : FlowState} → Writes rows₁ ws₁ (code_there g) g.cells₁ g.type₁ y → AtRest y
      → (ws : List ℤ) × Stand g ws ws₁
  by_writes_there {ws₁} (as_task {t} {s} w) d =
      subst (λ u. WritesTask rows₁ ws₁ (code_there g) g.cells₁ g.type₁ u s → AtRest (task_state (code_there g) u s)
      → (ws : List ℤ) × Stand g ws ws₁)
      (image_preimage t) (by_image (preimage t)) w d
  by_writes_there (as_failed f o e) d =
      let q = same_first g.flow₁ f in
      let x : overflows_task (code_there g) [] g.flow₁.first ≡ true = ap (overflows_task (code_there g) []) (sym q) ∙ overflows_task_is o in
      let ws = failed_of rows g.flow.first in
      (ws, subst (λ ws₁. Stand g ws ws₁) (sym (e ∙ ap (failed_of rows₁) q)) (failed_stand g (sym (overflows_same g g.firsts) ∙ x) x))

  pub rests_back : {ws₁ : List ℤ} → IsRest rows₁ ws₁ (code_there g) g.cells₁ g.type₁ → (ws : List ℤ) × Stand g ws ws₁
  rests_back r = by_writes_there r.writes r.still
