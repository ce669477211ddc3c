-- Grounds 20 to 23 of look and handle, exactly (01, "Grounds in the state"), for every rows memory and every state memory of words: what they
-- open to is the ground that the rules derive, and no other, or a rest of an accepted flow. Rests on Opening.
use mathlib.Core.Path.{◌≡◌, refl, sym, ap, subst, ◌∙◌}
use mathlib.Core.Bool.{Bool, true, false, ◌&&◌}
use mathlib.Core.Logic.{◌↔◌}
use mathlib.Core.Option.{Option, none, some}
use mathlib.Core.List.{List, []}
use Prim.Native.Nat.{ℕ, ◌*◌}
use native.Mathlib.Omega.{arith}
use borrow.Author.Tests.{eq-eqb, eqb-true}
use borrow.Table.Steps.{cases}
use lib.Dec.{eqb}
use lib.IntN.{ℤ}
use lib.ListN.{length}
use Rattle.word.specs.Word.{AllWords}
use Rattle.tophat.specs.Syntax.{Ty, Code, TaskOf, Store}
use Rattle.tophat.specs.Normalising.{s_fail, n_done}
use Rattle.tophat.proofs.Basics.{apart}
use Rattle.tophat.proofs.ComputeNormalising.{stride}
use Rattle.rows.specs.GroundNumbers.{not_accepted, wrong_memory, not_state, not_at_rest}
use Rattle.rows.specs.Lent.{row_count}
use Rattle.rows.proofs.Basics.{no}
use Rattle.word.specs.Decides.{Decides}
use Rattle.sheet.specs.Accepted.{accepts_rows}
use Rattle.state.specs.Layout.{state_words}
use Rattle.call_definitions.specs.States.{FlowState, task_state, failed_state, AtRest}
use Rattle.call_definitions.specs.Answers.{Loads, AcceptedFlow, HasRoom, WritesTask, Writes, as_task, as_failed, IsRest, Shut, shut_20, shut_21, shut_22, shut_23}
use Rattle.call_definitions.specs.Calls.{Opened, refused_by, rest_of, at_rest, decoded, opened}
use Rattle.call_definitions.proofs.Flows.{loads_accepts, accepts_loads, accepts_not, flow_of}
use Rattle.call_definitions.proofs.Opening.{decoded_from, opened_is, unmoved, still_of, moved_not, rest_of_lem, opens, state_room, decodes, decoded_writes, held_failed, failed_opens, failed_writes, unwritten}

decided : {b : Bool} {P : Type 0} → Decides b P → P → b ≡ true
decided {b} d p = cases b (λ t. t) (λ f. absurd (d.no f p))

-- none of them is 0
pub shut_not_0 : {rows ws : List ℤ} {Fits : Type 0} {g : ℕ} → Shut rows ws Fits g → g ≡ 0 → ⊥
shut_not_0 (shut_20 n) e = omega (arith, e)
shut_not_0 (shut_21 l n) e = omega (arith, e)
shut_not_0 (shut_22 a l f n) e = omega (arith, e)
shut_not_0 (shut_23 a f w n) e = omega (arith, e)

module _ (rows ws : List ℤ) (Fits : Type 0) where
  -- what rows and words open to
  pub data Opens : Opened → Type 0 where
    open_shut : {g : ℕ} → Shut rows ws Fits g → Opens (refused_by g)
    open_rest : {c : Code} {Σ : List Ty} {τ : Ty} → AcceptedFlow rows c Σ τ → Fits → (r : IsRest rows ws c Σ τ) → Opens (rest_of r.state)

  -- ---- by the tests

  pub opened_20 : accepts_rows rows ≡ false → (b : Bool) → opened rows ws b ≡ refused_by not_accepted
  unfolding opened
  opened_20 h b = rw h

  opened_21 : accepts_rows rows ≡ true → (b : Bool) → (eqb (length ws) (row_count rows * state_words) && b) ≡ false → opened rows ws b ≡ refused_by wrong_memory
  unfolding opened
  opened_21 h b e = rw (h, e)

  both_false : (x y : Bool) → (x ≡ true → y ≡ true → ⊥) → (x && y) ≡ false
  both_false true true h = absurd (h refl refl)
  both_false true false h = refl
  both_false false y h = refl

  module _ (wr : AllWords rows) (ww : AllWords ws) where
    -- ---- what is opened is derived

    module _ {c : Code} {Σ : List Ty} {τ : Ty} (a : AcceptedFlow rows c Σ τ) (l : HasRoom rows ws) (fits : Fits) where
      by_flag : (t : TaskOf c) (s : Store) → WritesTask rows ws c Σ τ t s → (m : Bool) → (stride c [] s t).2 ≡ m → Opens (at_rest c t s)
      unfolding at_rest
      by_flag t s w true e = rw e (open_shut (shut_23 a fits (as_task w) (λ d. apart e (unmoved a w.typed w.stored d))))
      by_flag t s w false e = rw e (open_rest a fits (record { state = task_state c t s; writes = as_task w; still = still_of a w.typed w.stored e }))

      -- nothing is decoded: the words hold the last row as failed whole where it is a state, or are none
      by_failed : decoded_from a ws ≡ none → (x : Bool) → held_failed a ws ≡ x → Opens (decoded rows ws c none)
      by_failed e true h = subst Opens (sym (failed_opens a ws true h)) (open_rest a fits (record { state = failed_state τ a.first; writes = failed_writes a l ww h; still = n_done s_fail }))
      by_failed e false h = subst Opens (sym (failed_opens a ws false h)) (open_shut (shut_22 a l fits (λ z w. unwritten a e h w)))

      by_read : (o : Option (TaskOf c × Store)) → decoded_from a ws ≡ o → Opens (decoded rows ws c o)
      unfolding decoded
      by_read none e = by_failed e (held_failed a ws) refl
      by_read (some q) e = by_flag q.0 q.1 (decoded_writes a l ww e) _ refl

    pub opened_derived : (b : Bool) → Decides b Fits → Opens (opened rows ws b)
    opened_derived b d = cases (accepts_rows rows)
        (λ t.
        let l = accepts_loads wr t in
        let (c, Σ, τ, a) = flow_of l in
        cases (eqb (length ws) (row_count rows * state_words) && b)
        (λ y. by_fit t a y)
        (λ n. subst Opens (sym (opened_21 t b n)) (open_shut (shut_21 l (λ (r, f). no (sym n ∙ fitting r f))))))
        (λ f. subst Opens (sym (opened_20 f b)) (open_shut (shut_20 (λ l. no (sym f ∙ loads_accepts l)))))
      where
        fitting : HasRoom rows ws → Fits → (eqb (length ws) (row_count rows * state_words) && b) ≡ true
        fitting r f = rw (eq-eqb _ _ r, decided d f)

        split : (x y : Bool) → (x && y) ≡ true → (x ≡ true) × (y ≡ true)
        split true y h = (refl, h)
        split false y h = no h

        by_fit : accepts_rows rows ≡ true → {c : Code} {Σ : List Ty} {τ : Ty} → AcceptedFlow rows c Σ τ → (eqb (length ws) (row_count rows * state_words) && b) ≡ true → Opens (opened rows ws b)
        by_fit t a y =
            let (p, q) = split _ b y in
            let r = eqb-true _ _ p in
            subst Opens (sym (ap (opened rows ws) q ∙ opened_is a ws r)) (by_read a r (d.yes q) (decoded_from a ws) refl)

    -- ---- and no other ground

    module _ {c : Code} {Σ : List Ty} {τ : Ty} (a : AcceptedFlow rows c Σ τ) where
      no_state : HasRoom rows ws → ((z : FlowState) → Writes rows ws c Σ τ z → ⊥) → decoded rows ws c (decoded_from a ws) ≡ refused_by not_state
      no_state l n = by (decoded_from a ws) refl
        where
          by : (o : Option (TaskOf c × Store)) → decoded_from a ws ≡ o → decoded rows ws c o ≡ refused_by not_state
          by none e = cases (held_failed a ws) (λ h. absurd (n _ (failed_writes a l ww h))) (λ h. failed_opens a ws false h)
          by (some q) e = absurd (n _ (as_task (decoded_writes a l ww e)))

      -- a state that is not at rest is a task, and strides
      no_rest : (b : Bool) → b ≡ true → {z : FlowState} → Writes rows ws c Σ τ z → (AtRest z → ⊥) → opened rows ws b ≡ refused_by not_at_rest
      unfolding decoded at_rest
      no_rest b f (as_task {t} {s} w) n =
          let o : decoded_from a ws ≡ some (t, s) = ap (decoded_from a) w.written ∙ decodes a w.typed w.stored in
          let y : (stride c [] s t).2 ≡ true = cases (stride c [] s t).2 (λ y. y) (λ f. absurd (n (still_of a w.typed w.stored f))) in
          ap (opened rows ws) f ∙ opened_is a ws (state_room a (as_task w)) ∙ ap (decoded rows ws c) o ∙ rw y
      no_rest b f (as_failed g o e) n = absurd (n (n_done s_fail))

    pub shut_only : {g : ℕ} (b : Bool) → Decides b Fits → Shut rows ws Fits g → opened rows ws b ≡ refused_by g
    shut_only b d (shut_20 n) = opened_20 (accepts_not n wr) b
    shut_only b d (shut_21 l n) = opened_21 (loads_accepts l) b (both_false _ b (λ p q. n (eqb-true _ _ p, d.yes q)))
    shut_only b d (shut_22 a l f n) = ap (opened rows ws) (decided d f) ∙ opened_is a ws l ∙ no_state a l n
    shut_only b d (shut_23 a f w n) = no_rest a b (decided d f) w n

-- ground 22, exactly: accepted rows and words of the right length are no state exactly where they are the writing of none
pub ground_22_exactly : {rows ws : List ℤ} {c : Code} {Σ : List Ty} {τ : Ty} → AllWords rows → AllWords ws → AcceptedFlow rows c Σ τ → HasRoom rows ws
    → (opened rows ws true ≡ refused_by not_state) ↔ ((z : FlowState) → Writes rows ws c Σ τ z → ⊥)
ground_22_exactly {rows} {ws} {c} {Σ} {τ} wr ww a l = (by, (λ n. shut_only rows ws (Unit {0}) wr ww true always (shut_22 a l tt n)))
  where
    always : Decides true (Unit {0})
    always = record { yes = λ e. tt; no = λ e u. no (sym e) }

    ground_is : Opened → ℕ
    ground_is (refused_by g) = g
    ground_is (rest_of z) = 0

    shuts : refused_by not_at_rest ≡ refused_by not_state → ⊥
    shuts e = let n = ap ground_is e in omega (arith, n)

    rests : {z : FlowState} → rest_of z ≡ refused_by not_state → ⊥
    rests e = let n = ap ground_is e in omega (arith, n)

    -- a state is opened to itself, or gets 23
    by : opened rows ws true ≡ refused_by not_state → (z : FlowState) → Writes rows ws c Σ τ z → ⊥
    by e z w = cases (stride z.code [] z.store z.task).2
        (λ m. shuts (sym (shut_only rows ws (Unit {0}) wr ww true always (shut_23 a tt w (λ d. apart m (moved_not a w d)))) ∙ e))
        (λ m. rests (sym (opens a w (rest_of_lem a w m)) ∙ e))

-- accepted rows, where a memory does not fit
pub opened_misfit : (rows ws : List ℤ) (b : Bool) → Loads rows → (HasRoom rows ws → b ≡ true → ⊥) → opened rows ws b ≡ refused_by wrong_memory
opened_misfit rows ws b l n = opened_21 rows ws (Unit {0}) (loads_accepts l) b (both_false rows ws (Unit {0}) _ b (λ p q. n (eqb-true _ _ p) q))
