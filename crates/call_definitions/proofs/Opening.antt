-- What look and handle find in an accepted flow's rows and in the writing of a well-typed rest: that task in that store
-- (01, grounds 20 to 23 do not hold). Rests on Flows, state's theorem of ground 22, and Bits.
use mathlib.Core.Path.{◌≡◌, refl, sym, ap, subst, ◌∙◌}
use mathlib.Core.Bool.{Bool, true, false, cond, ◌&&◌}
use mathlib.Core.Option.{Option, none, some}
use mathlib.Core.List.{List, []}
use Prim.Native.Nat.{ℕ, ◌*◌, ◌-◌, ◌≤◌}
use native.Mathlib.Omega.{arith}
use borrow.Author.Tests.{eq-eqb}
use lib.IntN.{ℤ}
use lib.ListN.{length}
use Rattle.word.specs.Word.{AllWords}
use Rattle.tophat.specs.Syntax.{max_leaves, Ty, leaves, Code, TaskOf, Store, moves}
use Rattle.tophat.specs.Typing.{v_nil, TaskType, k_failed, ValueTypes, small_nil}
use Rattle.tophat.specs.Evaluation.{OverflowsTask}
use Rattle.tophat.specs.Normalising.{Normalises, n_done, Strides, s_fail}
use Rattle.tophat.specs.Showing.{MarksFit}
use Rattle.tophat.proofs.Basics.{apart, no_some, and_left, and_right}
use Rattle.tophat.proofs.ComputeTyping.{infer_task}
use Rattle.tophat.proofs.ComputeEvaluation.{overflows_task}
use Rattle.tophat.proofs.ComputeNormalising.{stride}
use Rattle.tophat.proofs.TypingAgrees.{infer_task_is}
use Rattle.tophat.proofs.TypeLeaves.{task_type_leaves}
use Rattle.tophat.proofs.TaskEvaluationAgrees.{evaluate_good, overflows_task_is}
use Rattle.tophat.proofs.Progress.{flag_is}
use Rattle.tophat.proofs.NormalisingSound.{strides_sound}
use Rattle.tophat.proofs.NormalisingComplete.{strides_is}
use Rattle.tophat.proofs.Bound.{normal_still}
use Rattle.rows.specs.GroundNumbers.{not_state}
use Rattle.rows.specs.Rows.{word, movers}
use Rattle.rows.specs.Lent.{own_rows, row_count}
use Rattle.rows.specs.ComputeTrees.{cell_types}
use Rattle.rows.specs.Accepted.{AcceptedRows}
use Rattle.rows.proofs.Accepted.{facts}
use Rattle.rows.proofs.TreesAgree.{code_is, cells_are}
use Rattle.rows.specs.Trees.{Flow}
use Rattle.rows.proofs.CellsAt.{cells_small, store_typed}
use Rattle.rows.proofs.LentLaws.{own_past, own_bits}
use Rattle.rows.proofs.GroundZero.{one_flow}
use Rattle.sheet.specs.Accepted.{accepts_rows}
use Rattle.state.specs.Layout.{state_words, encode, encode_failed}
use Rattle.state.specs.Writing.{Writing}
use Rattle.state.specs.Lent.{own_of, lent_of}
use Rattle.state.specs.Reading.{same, decode}
use Rattle.state.proofs.LentLaws.{lent_length, own_lent, lent_own}
use Rattle.state.proofs.SitsOf.{state_writing, state_one}
use Rattle.state.proofs.Reading.{same_true, same_self, decode_is, decode_sound}
use Rattle.state.proofs.Failed.{failed_apart, flow_failed}
use Rattle.call_definitions.specs.Memory.{state_of, failed_of}
use Rattle.call_definitions.specs.States.{FlowState, task_state, failed_state, TypedState, AtRest}
use Rattle.call_definitions.specs.Answers.{AcceptedFlow, HasRoom, WritesTask, Writes, as_task, as_failed}
use Rattle.call_definitions.specs.Calls.{refused_by, rest_of, first_of, at_rest, failed_as, decoded, read_with, code_of, opened}
use Rattle.call_definitions.proofs.Bits.{encode_bits, failed_bits}
use Rattle.call_definitions.proofs.Flows.{loads_passed, loads_words, loads_accepts}

module _ {rows : List ℤ} {c : Code} {Σ : List Ty} {τ : Ty} (a : AcceptedFlow rows c Σ τ) where
  abbrev rs : List ℕ
  rs = own_rows rows

  abbrev n : ℕ
  n = row_count rows

  -- ground 20 does not hold
  pub accepts : accepts_rows rows ≡ true
  accepts = loads_accepts a.loads

  -- these rows as an accepted flow, with this code, these cells' types and this type, and what the grounds leave of them
  abbrev pub flow_rows : AcceptedRows rs n
  flow_rows = let p = loads_passed a.loads in record { some = p.some_rows; ground_is = p.ground_is; code = c; cells = Σ; store = a.first; type = τ; flow = a.flow }

  pub marks_fit : MarksFit 0 c
  marks_fit = (facts flow_rows).marks

  pub moving : moves c ≡ movers rs n
  moving = (facts flow_rows).moving

  -- past the last row there is none
  pub past : (j : ℕ) → n ≤ j → word rs j 0 ≡ 0
  past = own_past rows n (loads_passed a.loads).whole

  pub code_found : code_of rows ≡ some c
  code_found = let l = (loads_passed a.loads).some_rows in code_is a.flow.code n (omega arith)

  -- what is decoded from lent words
  abbrev pub decoded_from : List ℤ → Option (TaskOf c × Store)
  decoded_from ws = decode rs n c (cell_types rs n) (own_of n ws)

  types : cell_types rs n ≡ Σ
  types = sym (cells_are a.flow.cells).0

  -- ---- a state of the flow

  module _ {t : TaskOf c} {s : Store} (k : TaskType Σ [] c t τ) (h : ValueTypes s Σ) where
    writing_length : length (encode rs n c t s) ≡ n * state_words
    writing_length = (state_writing rs n flow_rows past k h).1

    -- 16 words a row
    pub state_length : HasRoom rows (state_of rows c t s)
    unfolding state_of
    state_length = lent_length n (encode rs n c t s) ∙ writing_length

    -- lent memory gives the writing back
    pub state_own : own_of n (state_of rows c t s) ≡ encode rs n c t s
    unfolding state_of
    state_own = own_lent n (encode rs n c t s) writing_length (encode_bits rs n c t s (own_bits rows (loads_words a.loads)) a.flow.code (cells_small a.flow.cells) k h)

    -- ground 22 does not hold
    pub decodes : decoded_from (state_of rows c t s) ≡ some (t, s)
    decodes =
        ap (λ Σ. decode rs n c Σ (own_of n (state_of rows c t s))) types
        ∙ decode_is rs n flow_rows (own_of n (state_of rows c t s)) past (record { typed = k; stored = h; writing = state_own })

    -- nor ground 23 in a rest
    pub unmoved : Normalises c [] s t t s 1 → (stride c [] s t).2 ≡ false
    unmoved d = (flag_is c [] s t).1 (strides_is (normal_still d))

    pub still_of : (stride c [] s t).2 ≡ false → Normalises c [] s t t s 1
    still_of e =
        let (p, q) = (flag_is c [] s t).0 e in
        let d : Strides c [] s t (stride c [] s t).0 (stride c [] s t).1 = strides_sound c [] s t k v_nil h in
        n_done (subst (λ s₁. Strides c [] s t t s₁) q (subst (λ t₁. Strides c [] s t t₁ (stride c [] s t).1) p d))

  -- what look and handle find: the decoded words, where the memories fit
  pub opened_is : (ws : List ℤ) → HasRoom rows ws → opened rows ws true ≡ decoded rows ws c (decoded_from ws)
  unfolding opened read_with
  opened_is ws l =
      let p = accepts in
      let q = eq-eqb (length ws) (n * state_words) l in
      let r = code_found in
      rw (p, q, r)

  -- what is decoded from words is a task that they write; from no writing of one nothing is
  module _ {ws : List ℤ} where
    pub decoded_writes : {t : TaskOf c} {s : Store} → HasRoom rows ws → AllWords ws → decoded_from ws ≡ some (t, s) → WritesTask rows ws c Σ τ t s
    unfolding state_of
    decoded_writes {t} {s} l w e =
        let k = decode_sound rs n flow_rows (own_of n ws) (ap (λ Σ. decode rs n c Σ (own_of n ws)) (sym types) ∙ e) in
        record { typed = k.typed; stored = k.stored; written = sym (lent_own n ws l w) ∙ ap (lent_of n) k.writing }

    pub undecoded : {t : TaskOf c} {s : Store} → decoded_from ws ≡ none → WritesTask rows ws c Σ τ t s → ⊥
    undecoded e w = no_some (sym e ∙ ap decoded_from w.written ∙ decodes w.typed w.stored)

  -- ---- a last row that failed as a whole (CR 3)

  -- the first contents, as the definitions have them
  pub firsts : first_of rows ≡ a.first
  firsts = sym (cells_are a.flow.cells).1

  -- and of any reading of the flow
  pub same_first : {s : Store} → Flow rs n c Σ s τ → s ≡ a.first
  same_first f = (one_flow f a.flow).store

  -- they are of the cells' types
  pub first_typed : ValueTypes a.first Σ
  first_typed = store_typed (own_bits rows (loads_words a.loads)) a.flow.cells

  type_small : leaves τ ≤ max_leaves
  type_small = task_type_leaves a.flow.typed (cells_small a.flow.cells) small_nil

  failed_length : length (failed_of rows a.first) ≡ n * state_words
  unfolding failed_of
  failed_length = lent_length n (encode_failed rs n a.first) ∙ (flow_failed rs n flow_rows past first_typed).1

  pub failed_own : own_of n (failed_of rows a.first) ≡ encode_failed rs n a.first
  unfolding failed_of
  failed_own = own_lent n (encode_failed rs n a.first) (flow_failed rs n flow_rows past first_typed).1 (failed_bits rs n a.first (cells_small a.flow.cells) first_typed)

  -- no task is decoded from it
  failed_undecoded : decoded_from (failed_of rows a.first) ≡ none
  failed_undecoded = by (decoded_from (failed_of rows a.first)) refl
    where
      by : (o : Option (TaskOf c × Store)) → decoded_from (failed_of rows a.first) ≡ o → o ≡ none
      by none e = refl
      by (some q) e =
          let k = decode_sound rs n flow_rows (own_of n (failed_of rows a.first)) (ap (λ Σ. decode rs n c Σ (own_of n (failed_of rows a.first))) (sym types) ∙ e) in
          let w = (state_writing rs n flow_rows past k.typed k.stored).0 in
          absurd (failed_apart rs (encode_failed rs n a.first) (flow_failed rs n flow_rows past first_typed).0 (subst (Writing rs (n - 1) c q.0 q.1) (sym k.writing ∙ failed_own) w))

  -- start leaves the words, and these words hold that
  abbrev pub held_failed : List ℤ → Bool
  held_failed ws = overflows_task c [] a.first && same (encode_failed rs n a.first) (own_of n ws)

  -- what stands where nothing is decoded
  pub failed_opens : (ws : List ℤ) (x : Bool) → held_failed ws ≡ x
      → decoded rows ws c none ≡ cond x (rest_of (failed_state τ a.first)) (refused_by not_state)
  unfolding decoded failed_as
  failed_opens ws x e =
      let i : infer_task (cell_types rs n) [] c ≡ some τ = ap (λ Σ. infer_task Σ [] c) types ∙ infer_task_is a.flow.typed in
      ap (failed_as rows ws c) i
      ∙ ap (λ s. cond (overflows_task c [] s && same (encode_failed rs n s) (own_of n ws)) (rest_of (failed_state τ s)) (refused_by not_state)) firsts
      ∙ ap (λ x. cond x (rest_of (failed_state τ a.first)) (refused_by not_state)) e

  -- ---- states

  -- a state has room, and is of the flow's type
  pub state_room : {z : FlowState} {ws : List ℤ} → Writes rows ws c Σ τ z → HasRoom rows ws
  state_room (as_task w) = ap length w.written ∙ state_length w.typed w.stored
  state_room (as_failed f o e) = ap length (e ∙ ap (failed_of rows) (same_first f)) ∙ failed_length

  pub state_typed : {z : FlowState} {ws : List ℤ} → Writes rows ws c Σ τ z → TypedState Σ τ z
  state_typed (as_task w) = (w.typed, w.stored)
  state_typed (as_failed f o e) = (k_failed type_small, subst (λ s. ValueTypes s Σ) (sym (same_first f)) first_typed)

  -- its task moves no more rows than the flow's, and nests no more marks
  pub state_moves : {z : FlowState} {ws : List ℤ} → Writes rows ws c Σ τ z → moves z.code ≤ movers rs n
  unfolding moves
  state_moves (as_task w) = let m = moving in omega (arith, m)
  state_moves (as_failed f o e) = omega arith

  pub state_marks : {z : FlowState} {ws : List ℤ} → Writes rows ws c Σ τ z → MarksFit 0 z.code
  state_marks (as_task w) = marks_fit
  state_marks (as_failed f o e) = tt

  -- where start leaves the words, the words that hold that are the ones that the definition tests for
  failed_held : {s : Store} {ws : List ℤ} → Flow rs n c Σ s τ → OverflowsTask c [] s → ws ≡ failed_of rows s → (ws ≡ failed_of rows a.first) × (held_failed ws ≡ true)
  failed_held {ws = ws} f o e =
      let q = same_first f in
      let e₁ : ws ≡ failed_of rows a.first = e ∙ ap (failed_of rows) q in
      let x : overflows_task c [] a.first ≡ true = ap (overflows_task c []) (sym q) ∙ overflows_task_is o in
      let y : same (encode_failed rs n a.first) (own_of n ws) ≡ true = ap (λ ws. same (encode_failed rs n a.first) (own_of n ws)) e₁ ∙ ap (same (encode_failed rs n a.first)) failed_own ∙ same_self (encode_failed rs n a.first) in
      (e₁, rw (x, y))

  -- words of which nothing is decoded, and that do not hold it, are no state
  pub unwritten : {z : FlowState} {ws : List ℤ} → decoded_from ws ≡ none → held_failed ws ≡ false → Writes rows ws c Σ τ z → ⊥
  unwritten e h (as_task w) = undecoded e w
  unwritten e h (as_failed f o d) = apart (failed_held f o d).1 h

  -- whether it strides tells whether it is at rest
  pub moved_not : {z : FlowState} {ws : List ℤ} → Writes rows ws c Σ τ z → AtRest z → (stride z.code [] z.store z.task).2 ≡ false
  unfolding stride
  moved_not (as_task w) d = unmoved w.typed w.stored d
  moved_not (as_failed f o e) d = refl

  pub rest_of_lem : {z : FlowState} {ws : List ℤ} → Writes rows ws c Σ τ z → (stride z.code [] z.store z.task).2 ≡ false → AtRest z
  rest_of_lem (as_task w) e = still_of w.typed w.stored e
  rest_of_lem (as_failed f o d) e = n_done s_fail

  -- in a rest it is what is opened
  pub opens : {z : FlowState} {ws : List ℤ} → Writes rows ws c Σ τ z → AtRest z → opened rows ws true ≡ rest_of z
  unfolding decoded at_rest
  opens {ws = ws} (as_task {t} {s} w) d =
      let o : decoded_from ws ≡ some (t, s) = ap decoded_from w.written ∙ decodes w.typed w.stored in
      let f = unmoved w.typed w.stored d in
      opened_is ws (ap length w.written ∙ state_length w.typed w.stored) ∙ rw (o, f)
  opens {ws = ws} (as_failed f o e) d =
      let (e₁, h) = failed_held f o e in
      opened_is ws (ap length e₁ ∙ failed_length) ∙ ap (decoded rows ws c) (ap decoded_from e₁ ∙ failed_undecoded) ∙ failed_opens ws true h ∙ ap (λ s. rest_of (failed_state τ s)) (sym (same_first f))

  -- words are the writing of one state
  pub state_once : {y z : FlowState} {ws : List ℤ} → Writes rows ws c Σ τ y → Writes rows ws c Σ τ z → y ≡ z
  state_once (as_task v) (as_task w) =
      let (p, q) = state_one rs n flow_rows past v.typed w.typed v.stored w.stored
      (sym (state_own v.typed v.stored) ∙ ap (own_of n) (sym v.written ∙ w.written) ∙ state_own w.typed w.stored) in
      λ i. task_state c (p i) (q i)
  state_once (as_task v) (as_failed f o e) = absurd (undecoded (ap decoded_from (e ∙ ap (failed_of rows) (same_first f)) ∙ failed_undecoded) v)
  state_once (as_failed f o e) (as_task w) = absurd (undecoded (ap decoded_from (e ∙ ap (failed_of rows) (same_first f)) ∙ failed_undecoded) w)
  state_once (as_failed f o e) (as_failed g p h) = ap (failed_state τ) (same_first f ∙ sym (same_first g))

  -- words that hold it where it is one
  pub failed_writes : {ws : List ℤ} → HasRoom rows ws → AllWords ws → held_failed ws ≡ true → Writes rows ws c Σ τ (failed_state τ a.first)
  unfolding failed_of
  failed_writes {ws} l w e =
      let o = and_left (overflows_task c [] a.first) _ e in
      let m = same_true (encode_failed rs n a.first) (own_of n ws) (and_right (overflows_task c [] a.first) _ e) in
      as_failed a.flow ((evaluate_good a.flow.typed [] a.first v_nil first_typed).over o) (sym (lent_own n ws l w) ∙ ap (lent_of n) (sym m))
