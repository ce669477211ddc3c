-- What `handle` answers for a typed task is derived by the rules and keeps types. Rests on Leaves, Preservation and
-- NormalisingSound.
use mathlib.Core.Path.{◌≡◌, refl, ap, subst}
use mathlib.Core.Bool.{Bool, true, false}
use mathlib.Core.Option.{Option, none, some}
use mathlib.Core.List.{List, [], ◌∷◌}
use Prim.Native.Nat.{ℕ, ◌-◌}
use native.Mathlib.Omega.{arith}
use lib.ListN.{get_or}
use Rattle.decimal.specs.Path.{first, second, Path}
use Rattle.tophat.specs.Syntax.{Ty, pair, GateT, Code, edit, enter, update, next, and, or, xor, Val, vunit, Env, Store}
use Rattle.tophat.specs.Syntax.{TaskOf, filled, blank, entered, shared, before, after, both, either, unpicked, picked_left, picked_right, gated}
use Rattle.tophat.specs.Typing.{CodeType, ValueType, ValueTypes, v_cons, type_of}
use Rattle.tophat.specs.Typing.{TaskType, k_filled, k_blank, k_entered, k_shared, k_then_before, k_next_before, k_next_after, k_both, k_either}
use Rattle.tophat.specs.Typing.{k_unpicked, k_picked_left, k_picked_right, k_gated}
use Rattle.tophat.specs.Evaluation.{EvaluatesTask}
use Rattle.tophat.specs.Normalising.{value, w_became, w_gate, Fails, Normalises}
use Rattle.tophat.specs.Roles.{Gate}
use Rattle.tophat.specs.Handling.{h_became, h_gate}
use Rattle.tophat.specs.Handling.{continue, left, right, Action, give, press, Handles, h_change, h_fill, h_update, h_pass_then, h_pass_next, h_next}
use Rattle.tophat.specs.Leaves.{Given, Gives, given}
use Rattle.tophat.specs.Handling.{h_first_and, h_second_and, h_first_or, h_second_or, h_pick_left, h_pick_right}
use Rattle.tophat.proofs.Basics.{or_false, All, all_none, all_some}
use Rattle.tophat.proofs.ComputeEvaluation.{evaluate, overflows_task}
use Rattle.tophat.proofs.ComputeNormalising.{failing, settle, branch_fails}
use Rattle.tophat.proofs.ComputeHandling.{Taken, map_task, pass_gate, then_some, at_editor, at_mark, at_sides, at_continue, unless_failing, handle}
use Rattle.tophat.proofs.Became.{touched_alike, Formed, of_wraps, of_edit, of_enter, of_update, of_then, of_next, of_fail, of_and, of_or, of_xor, of_view, formed, inner}
use Rattle.tophat.proofs.EvaluationAgrees.{look_up, put}
use Rattle.tophat.proofs.TaskEvaluationAgrees.{evaluate_good}
use Rattle.tophat.proofs.Preservation.{task_code, option_is, value_type}
use Rattle.tophat.proofs.NormalisingSound.{fails_sound, normalise_sound, right_tried}
use Rattle.tophat.proofs.Leaves.{type_of_lem, given_gives}

-- a handling that is derived, and keeps types
pub record GoodHandling (Σ Γ : List Ty) (τ : Ty) (c : Code) (ρ : Env) (s : Store) (t : TaskOf c) (p : Path) (x : Action) (r : Taken (TaskOf c)) : Type 0 where
  pub derived : Handles c ρ s t p x r.0 r.1 r.2
  pub task : TaskType Σ Γ c r.0 τ
  pub store : ValueTypes r.1 Σ

module _ {X : Type 0} where
  given_all : {P : X → Type 0} {ls : List Given} (τ : Ty) (o : Option Val) (K : Val → X) → given τ ls ≡ o → ((v : Val) → Gives ls τ v → P (K v)) → All P (then_some o K)
  unfolding then_some
  given_all τ none K e h = all_none
  given_all τ (some v) K e h = all_some (h v (given_gives τ e))

  editor_all : (P : Path → Action → X → Type 0) (p : Path) (x : Action) (f : List Given → Option X) → ((ls : List Given) → All (P [] (give ls)) (f ls)) → All (P p x) (at_editor p x f)
  unfolding at_editor
  editor_all P [] (give ls) f h = h ls
  editor_all P [] (press b) f h = all_none
  editor_all P (m ∷ p) x f h = all_none

  mark_all : (P : Path → X → Type 0) (p : Path) (f g : Path → Option X) → ((q : Path) → All (P (first ∷ q)) (f q)) → ((q : Path) → All (P (second ∷ q)) (g q)) → All (P p) (at_mark p f g)
  unfolding at_mark
  mark_all P [] f g h k = all_none
  mark_all P (first ∷ p) f g h k = h p
  mark_all P (second ∷ p) f g h k = k p

  sides_all : (P : Path → Action → X → Type 0) (p : Path) (x : Action) (f g : Unit {0} → Option X) → All (P [] (press left)) (f tt) → All (P [] (press right)) (g tt) → All (P p x) (at_sides p x f g)
  unfolding at_sides
  sides_all P [] (give ls) f g h k = all_none
  sides_all P [] (press continue) f g h k = all_none
  sides_all P [] (press left) f g h k = h
  sides_all P [] (press right) f g h k = k
  sides_all P (m ∷ p) x f g h k = all_none

  continue_all : (P : Path → Action → X → Type 0) (p : Path) (x : Action) (o : Option Val) (f : Val → Option X) (g : Unit {0} → Option X)
      → ((v : Val) → o ≡ some v → All (P [] (press continue)) (f v)) → All (P p x) (g tt) → All (P p x) (at_continue p x o f g)
  unfolding at_continue
  continue_all P [] (give ls) o f g h k = k
  continue_all P [] (press continue) none f g h k = k
  continue_all P [] (press continue) (some v) f g h k = h v refl
  continue_all P [] (press left) o f g h k = k
  continue_all P [] (press right) o f g h k = k
  continue_all P (m ∷ p) x o f g h k = k

map_all : {A C : Type 0} {P : Taken A → Type 0} {Q : Taken C → Type 0} {o : Option (Taken A)} (K : A → C) → All P o → ((t : A) (s : Store) (gs : List Gate) → P (t, s, gs) → Q (K t, s, gs)) → All Q (map_task K o)
unfolding map_task
map_all K all_none h = all_none
map_all K (all_some {x = r} p) h = all_some (h r.0 r.1 r.2 p)

gate_all : {A : Type 0} {P : Taken A → Type 0} {Q : Taken (GateT A) → Type 0} {o : Option (Taken A)} (r k : ℕ) → All P o → ((t : A) (s : Store) (gs : List Gate) → P (t, s, gs) → Q (gated (k - 1) t, s, (r, k) ∷ gs))
    → All Q (pass_gate r k o)
unfolding pass_gate
gate_all r k all_none h = all_none
gate_all r k (all_some {x = q} p) h = all_some (h q.0 q.1 q.2 p)

unless_all : {A C : Type 0} {Q : Taken C → Type 0} (y : Bool) (K : A → C) (t : A) (s : Store) → (y ≡ false → Q (K t, s, [])) → All Q (unless_failing y K t s)
unfolding unless_failing
unless_all true K t s h = all_none
unless_all false K t s h = all_some (h refl)

-- leaves that give a value of a content's type give one of the type that the content has
fits : {w v : Val} {τ : Ty} {ls : List Given} → ValueType w τ → Gives ls (type_of w) v → Gives ls τ v
fits h g = rw (type_of_lem h) at g

-- a branch settled: where it does not fail, its evaluation and its normal form are derived
record Settled (Σ Γ : List Ty) (c : Code) (τ : Ty) (ρ : Env) (s : Store) : Type 0 where
  task : TaskType Σ Γ c (settle c ρ s).0 τ
  store : ValueTypes (settle c ρ s).1 Σ
  goes : branch_fails c ρ s ≡ false → EvaluatesTask c ρ s (evaluate c ρ s).0 (evaluate c ρ s).1
      × Normalises c ρ (evaluate c ρ s).1 (evaluate c ρ s).0 (settle c ρ s).0 (settle c ρ s).1 (settle c ρ s).2 × Fails c ρ (settle c ρ s).1 (settle c ρ s).0 false

module _ {Σ : List Ty} where
  settled : {Γ : List Ty} {c : Code} {τ : Ty} (ρ : Env) (s : Store) → CodeType Σ Γ c τ → ValueTypes ρ Γ → ValueTypes s Σ → Settled Σ Γ c τ ρ s
  unfolding settle
  settled {c = c} ρ s d g h =
      let k = evaluate_good d ρ s g h in
      let m = normalise_sound c ρ _ _ k.task g k.store in
      let (t, s₁, n) = settle c ρ s in
      record {
        task = m.task;
        store = m.store;
        goes = λ z.
            let (i, j) = or_false (overflows_task c ρ s) (failing c ρ s₁ t) z in
            (k.derived i, m.derived, subst (λ x. Fails c ρ s₁ t x) j (fails_sound c ρ s₁ t m.task g m.store));
      }

  good : {c : Code} {ρ : Env} {t : TaskOf c} {Γ : List Ty} {τ : Ty} → Formed c ρ t → (s : Store) (p : Path) (x : Action) → TaskType Σ Γ c t τ → ValueTypes ρ Γ → ValueTypes s Σ → All (GoodHandling Σ Γ τ c ρ s t p x) (handle c ρ s t p x)
  unfolding handle settle
  good (of_wraps w_gate f) s p x (k_gated {r = r} {n = n} {k = k} l d) g h =
      gate_all r k (good f s p x d g h) (λ t s gs q. record { derived = h_gate q.derived; task = k_gated {n = n} (omega arith) q.task; store = q.store })
  good (of_wraps {K = K} {u = u} (w_became b) f) s p x k g h =
      let i = inner (w_became b) u k in
      rw (ap (λ f. f p x) ((touched_alike b).handles s u)) (map_all K (good f s p x i.task (i.env g) h) (λ t s gs q. record { derived = h_became b q.derived; task = i.back q.task; store = q.store }))
  good {Γ = Γ} {τ = τ} (of_edit {ρ = ρ} {e = e} {v = w}) s p x (k_filled d k) g h =
      editor_all (GoodHandling Σ Γ τ (edit e) ρ s (filled w)) p x _
      (λ ls. given_all (type_of w) _ _ refl (λ v z. let y = fits k z in record { derived = h_change k y; task = k_filled d y.typed; store = h }))
  good {Γ = Γ} (of_enter {ρ = ρ} {τ = τ}) s p x (k_blank l) g h =
      editor_all (GoodHandling Σ Γ τ (enter τ) ρ s blank) p x _
      (λ ls. given_all τ _ _ refl (λ v z. record { derived = h_fill z; task = k_entered l z.typed; store = h }))
  good {Γ = Γ} (of_enter {ρ = ρ} {τ = τ}) s p x (k_entered {v = w} l k) g h =
      editor_all (GoodHandling Σ Γ τ (enter τ) ρ s (entered w)) p x _
      (λ ls. given_all τ _ _ refl (λ v z. record { derived = h_fill z; task = k_entered l z.typed; store = h }))
  good {Γ = Γ} {τ = τ} (of_update {ρ = ρ} {n = n}) s p x (k_shared d) g h =
      let (i, k) = look_up h d in
      editor_all (GoodHandling Σ Γ τ (update n) ρ s shared) p x _
      (λ ls. given_all (type_of (get_or s n vunit)) _ _ refl (λ v z. let y = fits k z in record { derived = h_update i k y; task = k_shared d; store = put h d y.typed }))
  good (of_then f f₁) s p x (k_then_before d e) g h =
      map_all before (good f s p x d g h) (λ t s gs q. record { derived = h_pass_then q.derived; task = k_then_before q.task e; store = q.store })
  good {Γ = Γ} {τ = τ} (of_next {ρ = ρ} {a = a} {b = b} {t = t} f f₁) s p x (k_next_before d e) g h =
      continue_all (GoodHandling Σ Γ τ (next a b) ρ s (before t)) p x (value a t s) _ _
      (λ v z.
      let k = option_is (value_type d h) z in
      let q = evaluate_good e (v ∷ ρ) s (v_cons k g) h in
      let l = right_tried b (v ∷ ρ) s e (v_cons k g) h in
      unless_all _ (after v) _ _ (λ y. record { derived = h_next z (l.goes y).0 (l.goes y).1; task = k_next_after (task_code d) k q.task; store = q.store }))
      (map_all before (good f s p x d g h) (λ t s gs q. record { derived = h_pass_next q.derived; task = k_next_before q.task e; store = q.store }))
  good of_fail s p x d g h = all_none
  good {Γ = Γ} (of_and {ρ = ρ} {a = a} {b = b} {t = t} {u = u} f f₁) s p x (k_both {τ = τ} {υ = υ} d e l) g h =
      mark_all (λ p. GoodHandling Σ Γ (pair τ υ) (and a b) ρ s (both t u) p x) p _ _
      (λ q. map_all (λ t. both t u) (good f s q x d g h) (λ t s gs r. record { derived = h_first_and r.derived; task = k_both r.task e l; store = r.store }))
      (λ q. map_all (λ u. both t u) (good f₁ s q x e g h) (λ u s gs r. record { derived = h_second_and r.derived; task = k_both d r.task l; store = r.store }))
  good {Γ = Γ} {τ = τ} (of_or {ρ = ρ} {a = a} {b = b} {t = t} {u = u} f f₁) s p x (k_either d e) g h =
      mark_all (λ p. GoodHandling Σ Γ τ (or a b) ρ s (either t u) p x) p _ _
      (λ q. map_all (λ t. either t u) (good f s q x d g h) (λ t s gs r. record { derived = h_first_or r.derived; task = k_either r.task e; store = r.store }))
      (λ q. map_all (λ u. either t u) (good f₁ s q x e g h) (λ u s gs r. record { derived = h_second_or r.derived; task = k_either d r.task; store = r.store }))
  good {Γ = Γ} {τ = τ} (of_xor {ρ = ρ} {a = a} {b = b} f f₁) s p x (k_unpicked d e) g h =
      let k = settled ρ s d g h in
      let l = settled ρ s e g h in
      sides_all (GoodHandling Σ Γ τ (xor a b) ρ s unpicked) p x _ _
      (unless_all _ picked_left _ _ (λ z. let (i, m, f) = k.goes z in record { derived = h_pick_left i m f; task = k_picked_left k.task e; store = k.store }))
      (unless_all _ picked_right _ _ (λ z. let (i, m, f) = l.goes z in record { derived = h_pick_right i m f; task = k_picked_right d l.task; store = l.store }))
  good of_view s p x d g h = all_none

  -- what `handle` answers for a typed task is derived, and keeps types
  pub handles_sound : (c : Code) {Γ : List Ty} {τ : Ty} (ρ : Env) (s : Store) (t : TaskOf c) (p : Path) (x : Action) → TaskType Σ Γ c t τ → ValueTypes ρ Γ → ValueTypes s Σ → All (GoodHandling Σ Γ τ c ρ s t p x) (handle c ρ s t p x)
  handles_sound c ρ s t p x k g h = good (formed c ρ t) s p x k g h
