-- `open`, each way out: the number is the one that `opened` gives, and in a rest the words hold its task and store. Rests on SiteLaws,
-- call_definitions' Grounds, and the contracts of `accepted_rows`, `held` and `stride`.
use Rattle.std.specs.Prelude.{Some, None}
use mathlib.Core.Path.{◌≡◌, refl, sym, ap, subst, ◌∙◌}
use mathlib.Core.Bool.{Bool, true, false, not, cond, ◌&&◌}
use mathlib.Core.List.{List, []}
use Prim.Native.Nat.{ℕ, ◌*◌, ◌-◌, ◌≤◌}
use native.Mathlib.Omega.{arith}
use borrow.Author.Tests.{not-true, not-false}
use borrow.Table.Steps.{cases}
use lib.Dec.{eqb}
use lib.IntN.{ℤ}
use lib.ListN.{length, get_or}
use Rattle.std.specs.Prelude.{Result, Ok, Err}
use Rattle.word.specs.Word.{AllWords}
use Rattle.word.specs.Decides.{Decides}
use Rattle.tophat.specs.Syntax.{Ty, Code, TaskOf, Store}
use Rattle.tophat.specs.Typing.{v_nil}
use Rattle.tophat.specs.Normalising.{s_fail, n_done}
use Rattle.tophat.proofs.Basics.{apart}
use Rattle.tophat.proofs.ComputeEvaluation.{overflows_task}
use Rattle.tophat.proofs.ComputeNormalising.{stride}
use Rattle.tophat.proofs.TaskEvaluationAgrees.{evaluate_good, overflows_task_is}
use Rattle.rows.specs.declared.ground.Ground.{Ground}
use Rattle.rows.specs.declared.ground.Ground.TheVariants.{NotAccepted, WrongMemory, NotState, NotAtRest}
use Rattle.rows.specs.GroundNumbers.{number_of_ground, wrong_memory, not_accepted}
use Rattle.rows.specs.Rows.{max_rows}
use Rattle.rows.specs.Lent.{own_rows, row_count}
use Rattle.rows.proofs.Basics.{no}
use Rattle.rows.proofs.LentLaws.{zeros_after, own_bits}
use Rattle.sheet.specs.Accepted.{accepts_rows, accepted_count}
use Rattle.state.specs.Layout.{state_words}
use Rattle.state.specs.Lent.{own_of, state_size, own_state}
use Rattle.state.specs.Ensured.{Fine, StrideOk}
use Rattle.state.proofs.LentLaws.{own_length}
use Rattle.state.specs.Writing.{Writing, WritingFailed}
use Rattle.state_check.specs.States.{State, ZerosAfter, HeldOk}
use Rattle.flow.specs.declared.open.Rest.{Rest}
use Rattle.flow.specs.declared.open.Rest.TheVariants.{Task, Failed}
use Rattle.call_definitions.specs.Memory.{failed_of}
use Rattle.call_definitions.specs.States.{FlowState, task_state, failed_state}
use Rattle.call_definitions.specs.Answers.{WritesTask, Writes, as_task, as_failed, shut_22, shut_23}
use Rattle.call_definitions.specs.Calls.{Opened, refused_by, rest_of, opened}
use Rattle.call_definitions.proofs.Flows.{accepts_loads, flow_of}
use Rattle.call_definitions.proofs.Opening.{flow_rows, past, opens, unmoved, still_of, same_first, first_typed}
use Rattle.call_definitions.proofs.Grounds.{shut_only, opened_20, opened_misfit}
use Rattle.flow.specs.Opens.{Site, Ready, OpensTo, to_task, to_failed, Opens, OpenOk}
use Rattle.flow.specs.Failed.{IsFailedOk}
use Rattle.flow.proofs.SiteLaws.{here, there, some_rows, few_rows, room_is, sits, is_fine, around, written_in, copied_in}
use Rattle.flow.proofs.FailedLaws.{failed_in, failed_copied}

-- ---- ground 20

module _ (rows : List ℤ) where
  pub counted_no : None ≡ accepted_count rows → accepts_rows rows ≡ false
  counted_no e = cases (accepts_rows rows) (λ t. let k : accepted_count rows ≡ Some (row_count rows) = rw t refl in cc) (λ f. f)

  module _ (n : ℕ) (e : Some n ≡ accepted_count rows) where
    pub counted_yes : (accepts_rows rows ≡ true) × (n ≡ row_count rows)
    counted_yes = cases (accepts_rows rows)
        (λ t. let k : accepted_count rows ≡ Some (row_count rows) = rw t refl in (t, cc))
        (λ f. let k : accepted_count rows ≡ None = rw f refl in cc)

    -- accepted rows, copied in
    pub site_of : {own : List ℕ} → own ≡ own_rows rows → AllWords rows → (c : Code) × (Σ : List Ty) × (τ : Ty) × Site rows own n c Σ τ
    site_of o w =
        let (t, k) = counted_yes in
        let (c, Σ, τ, a) = flow_of (accepts_loads w t) in
        (c, Σ, τ, record { flow = a; count = k; rows_in = o })

-- ---- the ways out

-- a test of memory that is known
fitted : (b : Bool) → Decides b (b ≡ true)
fitted b = record { yes = λ e. e; no = λ e f. no (sym e ∙ f) }

module _ (rows ws : List ℤ) (own words : List ℕ) (fits : Bool) where
  abbrev Answers : Result Rest Ground → Type 0
  Answers r = OpenOk rows ws fits own words r

  by_ground : (g : Ground) → opened rows ws fits ≡ refused_by (number_of_ground g) → Answers (Err g)
  by_ground g q = subst (Opens rows ws own words (Err g)) (sym q) refl

  pub open_20 : None ≡ accepted_count rows → Answers (Err NotAccepted)
  open_20 e = by_ground NotAccepted (opened_20 rows ws (Unit {0}) (counted_no rows e) fits)

  module _ (n : ℕ) {c : Code} {Σ : List Ty} {τ : Ty} (z : Site rows own n c Σ τ) (wr : AllWords rows) where
    pub open_length : (length ws ≡ n * state_words → ⊥) → Answers (Err WrongMemory)
    open_length l = by_ground WrongMemory (opened_misfit rows ws fits z.flow.loads (λ m f. l (m ∙ ap (λ k. k * state_words) (sym z.count))))

    pub open_misfit : not fits ≡ true → Answers (Err WrongMemory)
    open_misfit f = by_ground WrongMemory (opened_misfit rows ws fits z.flow.loads (λ m g. no (sym (not-true fits f) ∙ g)))

    module _ (f : not fits ≡ false) (l : length ws ≡ n * state_words) (ww : AllWords ws) (e : words ≡ own_state n ws) where
      fit : fits ≡ true
      fit = not-false fits f

      -- zeros stand after the state's words
      pub ends : ZerosAfter n words
      ends k g =
          let m = own_length n ws ∙ l in
          ap (λ w. get_or w k 0) e ∙ zeros_after (own_of n ws) (state_size - n * state_words) k (omega (arith, m, g))

      module _ (b : Bool) (work : List ℕ) (h : HeldOk own n words work b) where
        held_here : HeldOk (own_rows rows) (row_count rows) words work b
        held_here = there z (λ o k. HeldOk o k words work b) h

        -- no task's writing: the last row failed as a whole, or ground 22
        module _ (y : not b ≡ true) (x : Bool) (k : IsFailedOk own n words x) where
          abbrev first : Store
          first = z.flow.first

          failed_here : Decides x ((overflows_task c [] first ≡ true) × WritingFailed (own_rows rows) (row_count rows - 1) first words)
          failed_here = there z (λ o k. IsFailedOk o k words x) k (flow_rows z.flow) (past z.flow) (own_bits rows wr)

          no_state : {q : FlowState} → Writes rows ws c Σ τ q → x ≡ false → ⊥
          no_state (as_task {t} {s} w) g =
              (held_here (flow_rows z.flow) (past z.flow)).0.no (not-true b y)
              (record { task = t; store = s; typed = w.typed; stored = w.stored; writing = there z (λ o k. Writing o (k - 1) c t s words) (written_in z w e) })
          no_state (as_failed f o d) g =
              let q = same_first z.flow f in
              failed_here.no g (ap (overflows_task c []) (sym q) ∙ overflows_task_is o, failed_in z (d ∙ ap (failed_of rows) q) e)

          pub open_22 : x ≡ false → Answers (Err NotState)
          open_22 g = by_ground NotState (shut_only rows ws (fits ≡ true) wr ww fits (fitted fits) (shut_22 z.flow (room_is z ws l) fit (λ q w. no_state w g)))

          pub open_failed : x ≡ true → Answers (Ok Failed)
          open_failed g =
              let (o, v) = failed_here.yes g in
              let over = (evaluate_good z.flow.flow.typed [] first v_nil (first_typed z.flow)).over o in
              let w : Writes rows ws c Σ τ (failed_state τ first) = as_failed z.flow.flow over (failed_copied z v l ww e) in
              subst (Opens rows ws own words (Ok Failed)) (sym (ap (opened rows ws) fit ∙ opens z.flow w (n_done s_fail))) to_failed

        module _ (y : not b ≡ false) (moved : Bool) (after env : List ℕ) (m : StrideOk own work after (n - 1) env 0 moved) where
          state : State (own_rows rows) (row_count rows) (flow_rows z.flow) words
          state = (held_here (flow_rows z.flow) (past z.flow)).0.yes (not-false b y)

          writing : Writing own (n - 1) c state.task state.store words
          writing = here z (λ o k. Writing o (k - 1) c state.task state.store words) state.writing

          writes : WritesTask rows ws c Σ τ state.task state.store
          writes = copied_in z state.typed state.stored writing l ww e

          flag : moved ≡ (stride c [] state.store state.task).2
          flag =
              let u = subst (λ ws. StrideOk own ws after (n - 1) env 0 moved) ((held_here (flow_rows z.flow) (past z.flow)).1 (not-false b y)) m in
              (u c (sits z) Σ [] τ state.store [] state.task state.typed (around z writing.stores state.stored) writing.holds).1

          pub open_23 : moved ≡ true → Answers (Err NotAtRest)
          open_23 q = by_ground NotAtRest (shut_only rows ws (fits ≡ true) wr ww fits (fitted fits)
              (shut_23 z.flow fit (as_task writes) (λ d. apart (sym flag ∙ q) (unmoved z.flow state.typed state.stored d))))

          pub open_0 : moved ≡ false → Answers (Ok (Task n))
          open_0 q =
              let d = still_of z.flow state.typed state.stored (sym flag ∙ q) in
              subst (Opens rows ws own words (Ok (Task n))) (sym (ap (opened rows ws) fit ∙ opens z.flow (as_task writes) d))
              (to_task (record { cells = Σ; type = τ; site = z; writes = writes; state_in = e }))

-- what stands where a task is opened
pub opened_ready : {rows ws : List ℤ} {own words : List ℕ} {n : ℕ} (P : FlowState → Type 0)
    → ((c : Code) (t : TaskOf c) (s : Store) → Ready rows ws own words n c t s → P (task_state c t s)) → {z : FlowState} → OpensTo rows ws own words (Task n) z → P z
opened_ready P f (to_task {c = c} {t = t} {s = s} y) = f c t s y

pub opened_failed : {rows ws : List ℤ} {own words : List ℕ} (P : FlowState → Type 0) → ((τ : Ty) (s : Store) → P (failed_state τ s)) → {z : FlowState} → OpensTo rows ws own words Failed z → P z
opened_failed P f (to_failed {τ} {s}) = f τ s

-- what a caller that gets a task may ask for
pub opened_fine : (rows ws : List ℤ) (fits : Bool) (own words : List ℕ) (n : ℕ) → OpenOk rows ws fits own words (Ok (Task n)) → (1 ≤ n) × (n ≤ max_rows) × Fine own (n - 1) 0
opened_fine rows ws fits own words n h = by (opened rows ws fits) h
  where
    by : (o : Opened) → Opens rows ws own words (Ok (Task n)) o → (1 ≤ n) × (n ≤ max_rows) × Fine own (n - 1) 0
    by (refused_by g) x = absurd x
    by (rest_of z) x = opened_ready (λ z. (1 ≤ n) × (n ≤ max_rows) × Fine own (n - 1) 0) (λ c t s y. (some_rows y.site, few_rows y.site, is_fine y.site)) x

-- where a rest is opened, the other memories fit
pub opened_fits : (rows ws : List ℤ) (fits : Bool) {z : FlowState} → opened rows ws fits ≡ rest_of z → fits ≡ true
unfolding opened
opened_fits rows ws true e = refl
opened_fits rows ws false e = no (sym (by (accepts_rows rows) (eqb (length ws) (row_count rows * state_words)) _) ∙ ap is_rest e)
  where
    is_rest : Opened → Bool
    is_rest (refused_by g) = false
    is_rest (rest_of z) = true

    by : (x y : Bool) (o : Opened) → is_rest (cond x (cond (y && false) o (refused_by wrong_memory)) (refused_by not_accepted)) ≡ false
    by true true o = refl
    by true false o = refl
    by false y o = refl
