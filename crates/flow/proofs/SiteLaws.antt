-- The rows of an accepted flow, copied in, and the words of a state of it: all that the engine's functions ask of them, and what stands in lent
-- memory when the words are copied out. Rests on call_definitions' Opening and on crate state's laws of writing.
use mathlib.Core.Path.{◌≡◌, refl, sym, ap, subst, ◌∙◌}
use mathlib.Core.List.{List, [], ◌++◌}
use Prim.Native.Nat.{ℕ, ◌*◌, ◌-◌, ◌≤◌}
use native.Mathlib.Omega.{arith}
use lib.IntN.{ℤ}
use lib.ListN.{length, take, replicate}
use lib.Seq.{take_at, length-take-le}
use Rattle.word.specs.Word.{AllWords}
use Rattle.tophat.specs.Syntax.{Ty, Code, TaskOf, Store, moves, task_rows}
use Rattle.tophat.specs.Typing.{TaskType, ValueTypes, AllSmall, v_nil, small_nil}
use Rattle.tophat.specs.Showing.{MarksFit}
use Rattle.rows.specs.Rows.{max_rows, movers}
use Rattle.rows.specs.Lent.{own_rows, row_count}
use Rattle.rows.proofs.CellsAt.{cells_small}
use Rattle.state.specs.Layout.{state_words, encode}
use Rattle.state.specs.Lent.{own_of, lent_of, state_size}
use Rattle.state.specs.Holds.{Sits, Stores, World}
use Rattle.state.specs.Ensured.{Fine}
use Rattle.state.proofs.LentLaws.{own_length, lent_own}
use Rattle.state.specs.Writing.{Writing}
use Rattle.state.proofs.Encode.{writing_same, padded_same, taken_same}
use Rattle.state.proofs.SitsOf.{last_sits, within, fine, state_writing, state_is}
use Rattle.call_definitions.specs.Memory.{state_of}
use Rattle.call_definitions.specs.Answers.{AcceptedFlow, HasRoom, WritesTask}
use Rattle.call_definitions.proofs.Flows.{loads_passed}
use Rattle.call_definitions.proofs.Opening.{flow_rows, past, moving, marks_fit, state_length, state_own}
use Rattle.flow.specs.Opens.{Site, Ready}
use Rattle.flow.proofs.TaskRows.{task_rows_few}

module _ {rows : List ℤ} {own : List ℕ} {n : ℕ} {c : Code} {Σ : List Ty} {τ : Ty} (z : Site rows own n c Σ τ) where
  abbrev a : AcceptedFlow rows c Σ τ
  a = z.flow

  -- what holds of the flow's own rows holds here, and the other way
  pub here : (P : List ℕ → ℕ → Type 0) → P (own_rows rows) (row_count rows) → P own n
  here P p = subst (λ o. P o n) (sym z.rows_in) (subst (P (own_rows rows)) (sym z.count) p)

  pub there : (P : List ℕ → ℕ → Type 0) → P own n → P (own_rows rows) (row_count rows)
  there P p = subst (P (own_rows rows)) z.count (subst (λ o. P o n) z.rows_in p)

  pub some_rows : 1 ≤ n
  some_rows = let e = z.count in let l = (loads_passed a.loads).some_rows in omega (arith, e, l)

  pub few_rows : n ≤ max_rows
  few_rows = let e = z.count in let l = (loads_passed a.loads).few in omega (arith, e, l)

  pub room_is : (ws : List ℤ) → length ws ≡ n * state_words → HasRoom rows ws
  room_is ws l = l ∙ ap (λ k. k * state_words) z.count

  pub writes_room : {ws : List ℤ} {t : TaskOf c} {s : Store} → WritesTask rows ws c Σ τ t s → length ws ≡ n * state_words
  writes_room w = ap length w.written ∙ state_length a w.typed w.stored ∙ ap (λ k. k * state_words) (sym z.count)

  -- ---- what the engine's functions ask

  pub sits : Sits own 0 (n - 1) c
  sits = here (λ o k. Sits o 0 (k - 1) c) (last_sits (own_rows rows) (row_count rows) (flow_rows a))

  pub is_fine : Fine own (n - 1) 0
  is_fine = here (λ o k. Fine o (k - 1) 0)
      (let l = loads_passed a.loads in let f = l.few in let o = l.some_rows in fine (own_rows rows) (row_count rows) (flow_rows a) (past a) (row_count rows - 1) 0 (omega arith) (omega arith))

  pub around : {ws env : List ℕ} {s : Store} → Stores own ws s → ValueTypes s Σ → World own ws env 0 Σ [] s []
  around {ws} {env} {s} h v = record {
    stores = h;
    binders = record { count = refl; values = λ k m l. absurd (omega arith) };
    store_typed = v;
    binders_typed = v_nil;
    store_small = cells_small a.flow.cells;
    binders_small = small_nil;
  }

  pub small : AllSmall Σ
  small = cells_small a.flow.cells

  pub moves_are : moves c ≡ movers (own_rows rows) (row_count rows)
  moves_are = moving a

  pub marks : MarksFit 0 c
  marks = marks_fit a

  pub tasks_rows : task_rows c ≤ n
  tasks_rows = let e = z.count in let t = task_rows_few (own_rows rows) (row_count rows) (flow_rows a) (loads_passed a.loads).some_rows in omega (arith, e, t)

  pub few_tasks : task_rows c ≤ max_rows
  few_tasks = let t = tasks_rows in let f = few_rows in omega (arith, t, f)

  -- ---- words that write a state, and lent memory

  module _ {words : List ℕ} {t : TaskOf c} {s : Store} where
    -- the words of the lent state, copied in
    pub written_in : {ws : List ℤ} → WritesTask rows ws c Σ τ t s → words ≡ own_of n ws ++ replicate (state_size - n * state_words) 0 → Writing own (n - 1) c t s words
    written_in {ws} w e =
        let o : own_of (row_count rows) ws ≡ encode (own_rows rows) (row_count rows) c t s = ap (own_of (row_count rows)) w.written ∙ state_own a w.typed w.stored in
        let v = (state_writing (own_rows rows) (row_count rows) (flow_rows a) (past a) w.typed w.stored).0 in
        let u : words ≡ own_of (row_count rows) ws ++ replicate (state_size - n * state_words) 0 = e ∙ ap (λ k. own_of k ws ++ replicate (state_size - n * state_words) 0) z.count in
        here (λ o k. Writing o (k - 1) c t s words)
        (subst (Writing (own_rows rows) (row_count rows - 1) c t s) (sym u)
        (writing_same (padded_same (own_of (row_count rows) ws) (state_size - n * state_words)) (subst (Writing (own_rows rows) (row_count rows - 1) c t s) (sym o) v)))

    module _ (k : TaskType Σ [] c t τ) (h : ValueTypes s Σ) (v : Writing own (n - 1) c t s words) where
      -- the first words of them are the state's
      front_is : {us : List ℕ} → take (n * state_words) words ≡ us → length us ≡ n * state_words → us ≡ encode (own_rows rows) (row_count rows) c t s
      front_is {us} e l =
          let u : Writing (own_rows rows) (row_count rows - 1) c t s words = there (λ o k. Writing o (k - 1) c t s words) v in
          let q = taken_same 0 (within (own_rows rows) (row_count rows) (flow_rows a) (past a)) (last_sits (own_rows rows) (row_count rows) (flow_rows a)) u in
          let f : take (row_count rows * state_words) words ≡ us = ap (λ k. take (k * state_words) words) (sym z.count) ∙ e in
          state_is (own_rows rows) (row_count rows) (flow_rows a) (past a) k h (l ∙ ap (λ k. k * state_words) z.count) (subst (Writing (own_rows rows) (row_count rows - 1) c t s) f (writing_same q u))

      -- copied out over all of a lent state
      pub copied_out : length words ≡ state_size → lent_of n (take (n * state_words) words) ≡ state_of rows c t s
      unfolding state_of
      copied_out l =
          let f = few_rows in
          ap (λ us. lent_of n us) (front_is refl (length-take-le (n * state_words) words (omega (arith, l, f)))) ∙ ap (λ k. lent_of k (encode (own_rows rows) (row_count rows) c t s)) z.count

      -- lent words that were copied in are the writing of what the words hold
      pub copied_in : {ws : List ℤ} → length ws ≡ n * state_words → AllWords ws → words ≡ own_of n ws ++ replicate (state_size - n * state_words) 0 → WritesTask rows ws c Σ τ t s
      unfolding state_of
      copied_in {ws} l w e =
          let m = own_length n ws ∙ l in
          let o = front_is (ap (take (n * state_words)) e ∙ take_at (own_of n ws) (replicate (state_size - n * state_words) 0) (n * state_words) m) m in
          record { typed = k; stored = h; written = sym (lent_own n ws l w) ∙ ap (lent_of n) o ∙ ap (λ k. lent_of k (encode (own_rows rows) (row_count rows) c t s)) z.count }

-- a state that is opened is written in the words
pub ready_writing : {rows ws : List ℤ} {own words : List ℕ} {n : ℕ} {c : Code} {t : TaskOf c} {s : Store} (y : Ready rows ws own words n c t s) → Writing own (n - 1) c t s words
ready_writing y = written_in y.site y.writes y.state_in
