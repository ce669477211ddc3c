-- A last row that failed as a whole: what `write_failed` leaves, what `is_failed` tells, and the lent words of such a state. Rests on state's
-- Failed, on the contract of evaluate, and on SiteLaws.
use mathlib.Core.Path.{◌≡◌, refl, sym, ap, subst, ◌∙◌}
use mathlib.Core.Bool.{Bool, true, false, not, false≢true}
use mathlib.Core.List.{List, [], ◌∷◌, ◌++◌}
use Prim.Native.Nat.{ℕ, ◌*◌, ◌-◌, ◌≤◌, ◌<◌}
use native.Mathlib.Decide.{ℕ_discrete}
use native.Mathlib.Omega.{arith}
use borrow.Author.Tests.{not-true, not-false}
use lib.IntN.{ℤ}
use lib.ListN.{length, get_or, take, replicate}
use lib.Seq.{take_at, length-take-le}
use Rattle.word.specs.Word.{words, AllWords}
use Rattle.word.specs.Decides.{Decides}
use Rattle.tophat.specs.Syntax.{Ty, Code, vunit}
use Rattle.tophat.proofs.ComputeEvaluation.{evaluate, overflows_task}
use Rattle.rows.specs.Rows.{word}
use Rattle.rows.specs.Accepted.{AcceptedRows}
use Rattle.rows.specs.Lent.{own_rows, row_count}
use Rattle.rows.specs.ComputeTrees.{first_store}
use Rattle.rows.proofs.TreesAgree.{cells_are}
use Rattle.rows.proofs.CellsAt.{store_typed}
use Rattle.state.specs.Layout.{state_words, own, whole, value_words, encode_failed}
use Rattle.state.specs.Lent.{own_of, lent_of, state_size}
use Rattle.state.specs.Holds.{tree_of, Cell, Row, Clear, Stores, Ran}
use Rattle.state.specs.Words.{Laid}
use Rattle.state.specs.Writing.{WritingFailed}
use Rattle.state.specs.Ensured.{EvaluateOk}
use Rattle.state.proofs.Words.{zero_words}
use Rattle.state.proofs.Frames.{same_row, stores_laid, foot_cell}
use Rattle.state.proofs.Encode.{zero_row, padded_same, words_at}
use Rattle.state.proofs.LentLaws.{own_length, lent_own}
use Rattle.state.proofs.SitsOf.{last_sits, within, world}
use Rattle.state.proofs.Failed.{failed_same, failed_alike, failed_front, last_no_cell, flow_failed, flow_failed_is}
use Rattle.state_check.specs.States.{Alike, ZerosAfter}
use Rattle.state_check.proofs.Deciding.{alike_all, same_ends}
use Rattle.call_definitions.specs.Memory.{failed_of}
use Rattle.call_definitions.specs.Answers.{AcceptedFlow}
use Rattle.call_definitions.proofs.Opening.{flow_rows, past, first_typed, failed_own}
use Rattle.flow.specs.Opens.{Site}
use Rattle.flow.specs.Firsts.{CellsFirst}
use Rattle.flow.specs.Failed.{WriteFailedOk, IsFailedOk}
use Rattle.flow.proofs.SiteLaws.{few_rows}

-- ---- words with the cells' first contents, and no task row

module _ (rs : List ℕ) (n : ℕ) (a : AcceptedRows rs n) (rest : (j : ℕ) → n ≤ j → word rs j 0 ≡ 0) where
  pub firsts_stored : {z w : List ℕ} → CellsFirst rs z w n → Stores rs w a.store
  firsts_stored {w = w} f =
      let q : a.store ≡ first_store rs n = (cells_are a.flow.cells).1 in
      record { cells = λ j k. subst (λ s. Row w j (own ∷ value_words (get_or s j vunit))) (sym q) (f.cells j (within rs n a rest j (omega (arith, k))) k) }

  -- all else is as in the zeros
  pub firsts_rest : {z w : List ℕ} → z ≡ zero_words state_size → CellsFirst rs z w n → (j : ℕ) → (Cell rs j → ⊥) → Row w j []
  firsts_rest zs f j k = same_row f.same (λ c. k c.0) (subst (λ z. Row z j []) (sym zs) (zero_row state_size j))

  pub no_task : {w : List ℕ} → ((j : ℕ) → (Cell rs j → ⊥) → Row w j []) → Clear rs w (n - 1) (tree_of a.code)
  no_task h = record { dead = λ j g. h j (λ k. foot_cell rs 0 (n - 1) a.code (last_sits rs n a) j k g) }

  -- the last row evaluated there
  pub evaluated_there : {w w₁ env : List ℕ} {x : Bool} → ((k : ℕ) → get_or rs k 0 < words) → Stores rs w a.store → ((j : ℕ) → (Cell rs j → ⊥) → Row w j []) → EvaluateOk rs w w₁ (n - 1) env 0 x
      → Ran rs w w₁ (n - 1) a.code (evaluate a.code [] a.store).0 (evaluate a.code [] a.store).1 × (x ≡ overflows_task a.code [] a.store)
  evaluated_there bs st h ev = ev a.code (last_sits rs n a) a.cells [] a.type a.store [] a.flow.typed (world rs n a st (store_typed bs a.flow.cells)) (no_task h)

-- ---- write_failed

pub writes_failed : {rs : List ℕ} {n : ℕ} {z w w₁ : List ℕ} → z ≡ zero_words state_size → CellsFirst rs z w n → Laid w w₁ (n - 1) (whole ∷ []) → WriteFailedOk rs n w₁
writes_failed {rs} {n} zs f l a rest bs = record {
  row = l.row;
  stores = stores_laid (firsts_stored rs n a rest f) (last_no_cell rs n a) l;
  rest = λ j o k. same_row l.same o (firsts_rest rs n a rest zs f j k);
}

-- ---- is_failed

module _ {rs : List ℕ} {n : ℕ} {ws w : List ℕ} (wf : WriteFailedOk rs n w) {b : Bool} (d : Decides b (Alike ws w (n * state_words))) where
  -- words that are not alike do not hold it
  pub failed_differ : not b ≡ true → IsFailedOk rs n ws false
  failed_differ e a rest bs = record {
    yes = λ z. absurd (false≢true z);
    no = λ z (o, v). d.no (not-true b e) (λ j l. words_at ws w (failed_alike v (wf a rest bs)) j);
  }

  -- words that are hold it: whether start leaves the words is tried with the row cleared
  module _ (e : not b ≡ false) (long : length ws ≡ length w) (ends : ZerosAfter n ws) {w₁ : List ℕ} (l : Laid w w₁ (n - 1) []) {w₂ env : List ℕ} {x : Bool} (ev : EvaluateOk rs w₁ w₂ (n - 1) env 0 x) where
    pub failed_tried : IsFailedOk rs n ws x
    failed_tried a rest bs =
        let v = wf a rest bs in
        let same : ws ≡ w = alike_all n long ends (same_ends n (failed_front rs n a rest v)) (d.yes (not-false b e)) in
        let clear : (j : ℕ) → (Cell rs j → ⊥) → Row w₁ j [] = λ j k. by v j k (ℕ_discrete j (n - 1)) in
        let q = (evaluated_there rs n a rest bs (stores_laid v.stores (last_no_cell rs n a) l) clear ev).1 in
        record { yes = λ z. (sym q ∙ z, subst (WritingFailed rs (n - 1) a.store) (sym same) v); no = λ z (o, u). false≢true (sym z ∙ q ∙ o) }
      where
        by : WritingFailed rs (n - 1) a.store w → (j : ℕ) → (Cell rs j → ⊥) → Dec (j ≡ n - 1) → Row w₁ j []
        by v j k (yes p) = rw p l.row
        by v j k (no o) = same_row l.same o (v.rest j o k)

-- ---- lent words

module _ {rows : List ℤ} {own : List ℕ} {n : ℕ} {c : Code} {Σ : List Ty} {τ : Ty} (z : Site rows own n c Σ τ) where
  abbrev a : AcceptedFlow rows c Σ τ
  a = z.flow

  -- the words of the lent state, copied in
  pub failed_in : {ws : List ℤ} {words : List ℕ} → ws ≡ failed_of rows a.first → words ≡ own_of n ws ++ replicate (state_size - n * state_words) 0 → WritingFailed (own_rows rows) (row_count rows - 1) a.first words
  failed_in {ws} {words} e i =
      let o : own_of (row_count rows) ws ≡ encode_failed (own_rows rows) (row_count rows) a.first = ap (own_of (row_count rows)) e ∙ failed_own a in
      let u : words ≡ own_of (row_count rows) ws ++ replicate (state_size - n * state_words) 0 = i ∙ ap (λ k. own_of k ws ++ replicate (state_size - n * state_words) 0) z.count in
      let v = (flow_failed (own_rows rows) (row_count rows) (flow_rows a) (past a) (first_typed a)).0 in
      subst (WritingFailed (own_rows rows) (row_count rows - 1) a.first) (sym u)
      (failed_same (padded_same (own_of (row_count rows) ws) (state_size - n * state_words)) (subst (WritingFailed (own_rows rows) (row_count rows - 1) a.first) (sym o) v))

  module _ {words : List ℕ} (v : WritingFailed (own_rows rows) (row_count rows - 1) a.first words) where
    -- the first words of them are the state's
    front_failed : {us : List ℕ} → take (n * state_words) words ≡ us → length us ≡ n * state_words → us ≡ encode_failed (own_rows rows) (row_count rows) a.first
    front_failed {us} e l =
        let q = failed_front (own_rows rows) (row_count rows) (flow_rows a) (past a) v in
        let f : take (row_count rows * state_words) words ≡ us = ap (λ k. take (k * state_words) words) (sym z.count) ∙ e in
        flow_failed_is (own_rows rows) (row_count rows) (flow_rows a) (past a) (first_typed a) (l ∙ ap (λ k. k * state_words) z.count)
        (subst (WritingFailed (own_rows rows) (row_count rows - 1) a.first) f (failed_same q v))

    -- copied out over all of a lent state
    pub failed_out : length words ≡ state_size → lent_of n (take (n * state_words) words) ≡ failed_of rows a.first
    unfolding failed_of
    failed_out l =
        let f = few_rows z in
        ap (λ us. lent_of n us) (front_failed refl (length-take-le (n * state_words) words (omega (arith, l, f)))) ∙ ap (λ k. lent_of k (encode_failed (own_rows rows) (row_count rows) a.first)) z.count

    -- lent words that were copied in are such a state
    pub failed_copied : {ws : List ℤ} → length ws ≡ n * state_words → AllWords ws → words ≡ own_of n ws ++ replicate (state_size - n * state_words) 0 → ws ≡ failed_of rows a.first
    unfolding failed_of
    failed_copied {ws} l w e =
        let m = own_length n ws ∙ l in
        let o = front_failed (ap (take (n * state_words)) e ∙ take_at (own_of n ws) (replicate (state_size - n * state_words) 0) (n * state_words) m) m in
        sym (lent_own n ws l w) ∙ ap (lent_of n) o ∙ ap (λ k. lent_of k (encode_failed (own_rows rows) (row_count rows) a.first)) z.count
