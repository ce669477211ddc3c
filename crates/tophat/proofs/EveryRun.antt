-- The theorem on all lists of look and handle calls, on trees (01, "Four lines on the contracts", 3).
-- A rest is a task and a store of the code's types that normalising does not change. In every rest (`rest_stands`) the
-- rules accept or refuse each event, and an accepted one they carry to a normal form, in at most one stride more than the
-- code has rows of kind 43 and 47; they give each role, and anyone, a list of entries, which covers exactly the events that
-- are accepted from them, each by one entry; anyone's list is empty exactly when the task is quiet, and then all are (CR 6). A
-- typed code, evaluated and normalised in a store of the cells' types, comes to a rest (`started_rest`). From a rest every list
-- of calls runs, and ends in a rest (`every_run`); it ends in no other state (`run_one`), so whatever run the rules derive ends
-- in a rest (`run_stands`).
-- Rests on HandlingSound, HandlingComplete, EntriesAgree, EntriesCover, EntriesQuiet and Bound.
use mathlib.Core.Path.{◌≡◌, refl, subst}
use mathlib.Core.Bool.{true, false}
use mathlib.Core.Logic.{◌⊎◌, inl, inr, ◌↔◌}
use mathlib.Core.Option.{Option, none, some}
use mathlib.Core.List.{List, [], ◌∷◌}
use Prim.Native.Nat.{ℕ, ◌+◌, ◌≤◌}
use Rattle.decimal.specs.Path.{Path}
use Rattle.tophat.specs.Syntax.{moves, Ty, leaves, max_leaves, Code, fail, Store, TaskOf, failed}
use Rattle.tophat.specs.Typing.{CodeType, v_nil, ValueTypes, k_failed}
use Rattle.tophat.specs.Evaluation.{EvaluatesTask, OverflowsTask}
use Rattle.tophat.specs.Normalising.{Fails, s_fail, Normalises, n_done}
use Rattle.tophat.specs.Quiet.{Quiet}
use Rattle.tophat.specs.Handling.{Action, Handles}
use Rattle.tophat.specs.Roles.{Gate, Who, anyone, is, admits}
use Rattle.tophat.specs.Runs.{Call, look, touch, Accepts, Refuses, Leaves, l_look, l_taken, l_refused, Runs, r_end, r_call, Rest, Stands}
use Rattle.tophat.proofs.Basics.{by_truth, All, all_none, all_some, all_is}
use Rattle.tophat.proofs.ComputeEvaluation.{overflows_task}
use Rattle.tophat.proofs.ComputeNormalising.{failing, settle}
use Rattle.tophat.proofs.ComputeHandling.{Taken, handle}
use Rattle.tophat.proofs.ComputeEntries.{entries}
use Rattle.tophat.proofs.TaskEvaluationAgrees.{evaluate_good}
use Rattle.tophat.proofs.NormalisingSound.{fails_sound, normalise_sound}
use Rattle.tophat.proofs.NormalisingComplete.{fails_is, normalises_one}
use Rattle.tophat.proofs.Bound.{normalises_bound, normal_rest}
use Rattle.tophat.proofs.HandlingComplete.{handles_is, handles_one, refuses, keeps_out}
use Rattle.tophat.proofs.HandlingSound.{GoodHandling, handles_sound}
use Rattle.tophat.proofs.Lights.{Covered}
use Rattle.tophat.proofs.EntriesCover.{covered_taken, taken_covered, covered_once}
use Rattle.tophat.proofs.EntriesQuiet.{failing_empty, quiet_empty, empty_quiet}
use Rattle.tophat.proofs.EntriesAgree.{shows_is, shows_sound}

module _ {Σ : List Ty} {c : Code} {τ : Ty} {t : TaskOf c} {s : Store} (r : Rest Σ c τ t s) where
  -- what `handle` answers in a rest
  handled : (p : Path) (x : Action) → All (GoodHandling Σ [] τ c [] s t p x) (handle c [] s t p x)
  handled p x = handles_sound c [] s t p x r.task v_nil r.store

  decide : (w : Who) (p : Path) (x : Action) (o : Option (Taken (TaskOf c))) → handle c [] s t p x ≡ o → All (GoodHandling Σ [] τ c [] s t p x) o → Accepts w c t s p x ⊎ Refuses w c t s p x
  decide w p x none e all_none = inr (refuses w c s t p x e)
  decide w p x (some q) e (all_some g) = by_truth (admits w q.2) (λ a. inl (q.0, q.1, q.2, g.derived, a)) (λ n. inr (keeps_out w c s t p x e n))

  follow : (p : Path) (x : Action) (t₁ : TaskOf c) (s₁ : Store) (gs : List Gate) → Handles c [] s t p x t₁ s₁ gs → (t₂ : TaskOf c) × (s₂ : Store) × (n : ℕ) × Normalises c [] s₁ t₁ t₂ s₂ n × (n ≤ 1 + moves c)
  follow p x t₁ s₁ gs d =
      let g = all_is (handled p x) (handles_is d) in
      let n = normalise_sound c [] s₁ t₁ g.task v_nil g.store in
      (_, _, _, n.derived, normalises_bound n.derived)

  accepted_covered : (w : Who) (p : Path) (x : Action) → Accepts w c t s p x ↔ Covered (entries w c [] s t) p x
  accepted_covered w p x = (
    λ (t₁, s₁, gs, d, a). taken_covered w c [] s t (handles_is d) a,
    λ (i, e, a, k). let (q, h, y) = covered_taken w c [] s t a k in let g = all_is (handled p x) h in (q.0, q.1, q.2, g.derived, y),
  )

  fails : Fails c [] s t (failing c [] s t)
  fails = fails_sound c [] s t r.task v_nil r.store

  empty_iff_quiet : (entries anyone c [] s t ≡ []) ↔ Quiet c [] s t
  empty_iff_quiet = (empty_quiet c [] s t r.task v_nil r.store, quiet_empty anyone)

  fails_decided : Fails c [] s t true ⊎ Fails c [] s t false
  fails_decided =
      by_truth (failing c [] s t)
      (λ h. inl (subst (λ x. Fails c [] s t x) h fails))
      (λ h. inr (subst (λ x. Fails c [] s t x) h fails))

  -- what holds of every rest
  pub rest_stands : Stands Σ c τ t s
  rest_stands = record {
    rest = r;
    decided = λ w p x. decide w p x _ refl (handled p x);
    one = λ p x t₁ t₂ s₁ s₂ gs hs d e. handles_one d e;
    outcome = follow;
    shown = λ w. entries w c [] s t;
    shows = λ w. shows_sound c [] s t r.task v_nil r.store;
    sole = λ w es d. shows_is d;
    accepted_iff_covered = accepted_covered;
    covered_once = λ w i j e f p x d k g h. covered_once w c [] s t d k g h;
    empty_iff_quiet = empty_iff_quiet;
    quiet_empty = λ q w. quiet_empty w q;
    fails_decided = fails_decided;
    failing_quiet = λ d. empty_iff_quiet.0 (failing_empty anyone c [] s t (fails_is d));
  }

  -- what one call leaves is a rest
  abbrev Left : Call → Type 0
  Left k = (t₁ : TaskOf c) × (s₁ : Store) × Leaves c t s k t₁ s₁ × Rest Σ c τ t₁ s₁

  taken_rest : (m : ℕ) (p : Path) (x : Action) → Accepts (is m) c t s p x ⊎ Refuses (is m) c t s p x → Left (touch m p x)
  taken_rest m p x (inr n) = (t, s, l_refused n, r)
  taken_rest m p x (inl (t₁, s₁, gs, d, a)) =
      let g = all_is (handled p x) (handles_is d) in
      let n = normalise_sound c [] s₁ t₁ g.task v_nil g.store in
      (_, _, l_taken d a n.derived, record { task = n.task; store = n.store; still = normal_rest n.derived })

  -- every call leaves a rest
  call_rest : (k : Call) → Left k
  call_rest look = (t, s, l_look, r)
  call_rest (touch m p x) = taken_rest m p x (decide (is m) p x _ refl (handled p x))

-- a typed code that does not leave the words, evaluated and normalised in a store of the cells' types, is at rest
pub started_rest : {Σ : List Ty} {c : Code} {τ : Ty} → CodeType Σ [] c τ → (s : Store) → ValueTypes s Σ → overflows_task c [] s ≡ false
    → let (t₁, s₁, n) = settle c [] s in (t₀ : TaskOf c) × (s₀ : Store) × EvaluatesTask c [] s t₀ s₀ × Normalises c [] s₀ t₀ t₁ s₁ n × Rest Σ c τ t₁ s₁
unfolding settle
started_rest {c = c} d s h o =
    let k = evaluate_good d [] s v_nil h in
    let n = normalise_sound c [] _ _ k.task v_nil k.store in
    (_, _, k.derived o, n.derived, record { task = n.task; store = n.store; still = normal_rest n.derived })

-- one that does is 45 of its type in the store from before (CR 3), which is a rest too
pub started_failed : {Σ : List Ty} {c : Code} {τ : Ty} → CodeType Σ [] c τ → leaves τ ≤ max_leaves → (s : Store) → ValueTypes s Σ → overflows_task c [] s ≡ true
    → OverflowsTask c [] s × Rest Σ (fail τ) τ failed s
started_failed d l s h o = ((evaluate_good d [] s v_nil h).over o, record { task = k_failed l; store = h; still = n_done s_fail })

-- from a rest every list of calls runs, and what it leaves stands
pub every_run : {Σ : List Ty} {c : Code} {τ : Ty} {t : TaskOf c} {s : Store} → Rest Σ c τ t s → (ks : List Call) → (t₁ : TaskOf c) × (s₁ : Store) × Runs c t s ks t₁ s₁ × Stands Σ c τ t₁ s₁
every_run {t = t} {s = s} r [] = (t, s, r_end, rest_stands r)
every_run {t = t} {s = s} r (k ∷ ks) =
    let (t₁, s₁, l, q) = call_rest r k in
    let (t₂, s₂, d, z) = every_run {t = t₁} {s = s₁} q ks in
    (t₂, s₂, r_call l d, z)

-- a call leaves one state
leaves_one : {c : Code} {t t₁ t₂ : TaskOf c} {s s₁ s₂ : Store} {k : Call} → Leaves c t s k t₁ s₁ → Leaves c t s k t₂ s₂ → (t₁ ≡ t₂) × (s₁ ≡ s₂)
leaves_one l_look l_look = (refl, refl)
leaves_one (l_taken d a n) (l_taken e b m) =
    let (p, q, _) = handles_one d e in
    let (i, j, k) = normalises_one (rw (p, q) at n) m in
    (i, j)
leaves_one (l_taken d a n) (l_refused r) = absurd (r _ _ _ d a)
leaves_one (l_refused r) (l_taken d a n) = absurd (r _ _ _ d a)
leaves_one (l_refused r) (l_refused q) = (refl, refl)

-- a list of calls has one end
pub run_one : {c : Code} {t t₁ t₂ : TaskOf c} {s s₁ s₂ : Store} {ks : List Call} → Runs c t s ks t₁ s₁ → Runs c t s ks t₂ s₂ → (t₁ ≡ t₂) × (s₁ ≡ s₂)
run_one r_end r_end = (refl, refl)
run_one (r_call l d) (r_call k e) =
    let (p, q) = leaves_one l k in
    run_one (rw (p, q) at d) e

-- so whatever run is derived from a rest leaves what stands
pub run_stands : {Σ : List Ty} {c : Code} {τ : Ty} {t t₁ : TaskOf c} {s s₁ : Store} {ks : List Call} → Rest Σ c τ t s → Runs c t s ks t₁ s₁ → Stands Σ c τ t₁ s₁
run_stands {ks = ks} r d =
    let (t₂, s₂, e, z) = every_run r ks in
    let (p, q) = run_one e d in
    rw (p, q) at z
