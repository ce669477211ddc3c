-- A last row that failed as a whole (CR 3): `encode_failed` is the one list of words that holds that and a store, and is 0 elsewhere; and it is the
-- writing of no task. Rests on Encode.
use mathlib.Core.Path.{◌≡◌, sym, ◌∙◌}
use mathlib.Core.List.{List, [], ◌∷◌}
use Prim.Native.Nat.{ℕ, ◌*◌, ◌-◌, ◌≤◌}
use native.Mathlib.Decide.{ℕ_discrete}
use native.Mathlib.Omega.{arith}
use lib.ListN.{length, take, length-replicate}
use Rattle.tophat.specs.Syntax.{Code, edit, enter, update, then, next, fail, and, or, xor, view, gate, if, let', Store}
use Rattle.tophat.specs.Syntax.{TaskOf, filled, blank, entered, shared, before, after, failed, both, either, or_left, or_right, unpicked, picked_left, picked_right, gated, if_true, if_false, bound}
use Rattle.tophat.specs.Typing.{ValueTypes}
use Rattle.rows.specs.Kinds.{cell_k, number_of}
use Rattle.rows.specs.Rows.{word}
use Rattle.rows.specs.Accepted.{AcceptedRows}
use Rattle.rows.proofs.CellsAt.{cells_small}
use Rattle.state.specs.Layout.{state_words, at, other, whole, write_cells, encode_failed}
use Rattle.state.specs.Holds.{tree_of, Cell, Holds, Stores, Same}
use Rattle.state.specs.Writing.{Writing, WritingFailed}
use Rattle.state.proofs.Words.{zero_words}
use Rattle.state.proofs.Frames.{same_row, stores_kept, stores_laid, foot_self, foot_cell}
use Rattle.state.proofs.Writes.{put_long, put_laid}
use Rattle.state.proofs.Encode.{zero_row, write_cells_lem, front_same, Alike, alike, words_one}
use Rattle.state.proofs.Typed.{store_short}
use Rattle.state.proofs.SitsOf.{last_sits, within}

-- ---- one writing

-- two that hold it hold the same
pub failed_alike : {rs x y : List ℕ} {i : ℕ} {s : Store} → WritingFailed rs i s x → WritingFailed rs i s y → (j : ℕ) → Alike x y j
failed_alike {rs} {x} {y} {i} v w j = by (ℕ_discrete j i) (ℕ_discrete (word rs j 0) (number_of cell_k))
  where
    by : Dec (j ≡ i) → Dec (Cell rs j) → Alike x y j
    by (yes e) d = rw e (alike v.row w.row)
    by (no o) (yes k) = alike (v.stores.cells j k) (w.stores.cells j k)
    by (no o) (no k) = alike (v.rest j o k) (w.rest j o k)

-- a list of the same words is one too
pub failed_same : {rs x y : List ℕ} {i : ℕ} {s : Store} → Same (λ j. ⊥) x y → WritingFailed rs i s x → WritingFailed rs i s y
failed_same q w = record { row = same_row q (λ z. z) w.row; stores = stores_kept w.stores (λ j k z. z) q; rest = λ j o k. same_row q (λ z. z) (w.rest j o k) }

-- ---- no task's writing

module _ (rs ws : List ℕ) where
  -- the tag of a row that holds a task
  holds_tag : (i : ℕ) (c : Code) (t : TaskOf c) → Holds rs ws i c t → at ws i 0 ≤ other
  holds_tag i (edit e) (filled v) p = let h = p.words 0 (omega arith) in omega (arith, h)
  holds_tag i (enter τ) blank p = let h = p.words 0 (omega arith) in omega (arith, h)
  holds_tag i (enter τ) (entered v) p = let h = p.words 0 (omega arith) in omega (arith, h)
  holds_tag i (update n) shared p = let h = p.words 0 (omega arith) in omega (arith, h)
  holds_tag i (then a b) (before t) p = let h = p.0.words 0 (omega arith) in omega (arith, h)
  holds_tag i (then a b) (after v u) p = let h = p.0.words 0 (omega arith) in omega (arith, h)
  holds_tag i (next a b) (before t) p = let h = p.0.words 0 (omega arith) in omega (arith, h)
  holds_tag i (next a b) (after v u) p = let h = p.0.words 0 (omega arith) in omega (arith, h)
  holds_tag i (fail τ) failed p = let h = p.words 0 (omega arith) in omega (arith, h)
  holds_tag i (and a b) (both t u) p = let h = p.0.words 0 (omega arith) in omega (arith, h)
  holds_tag i (or a b) (either t u) p = let h = p.0.words 0 (omega arith) in omega (arith, h)
  holds_tag i (or a b) (or_left t) p = let h = p.0.words 0 (omega arith) in omega (arith, h)
  holds_tag i (or a b) (or_right u) p = let h = p.0.words 0 (omega arith) in omega (arith, h)
  holds_tag i (xor a b) unpicked p = let h = p.0.words 0 (omega arith) in omega (arith, h)
  holds_tag i (xor a b) (picked_left t) p = let h = p.0.words 0 (omega arith) in omega (arith, h)
  holds_tag i (xor a b) (picked_right u) p = let h = p.0.words 0 (omega arith) in omega (arith, h)
  holds_tag i (view e) (filled v) p = let h = p.words 0 (omega arith) in omega (arith, h)
  holds_tag i (gate r n b) (gated k u) p = let h = p.0.words 0 (omega arith) in omega (arith, h)
  holds_tag i (if e a b) (if_true t) p = let h = p.0.words 0 (omega arith) in omega (arith, h)
  holds_tag i (if e a b) (if_false u) p = let h = p.0.words 0 (omega arith) in omega (arith, h)
  holds_tag i (let' e b) (bound v u) p = let h = p.0.words 0 (omega arith) in omega (arith, h)

  pub failed_apart : {i : ℕ} {c : Code} {t : TaskOf c} {s s₁ : Store} → WritingFailed rs i s ws → Writing rs i c t s₁ ws → ⊥
  failed_apart {i} {c} {t} v w = let h = holds_tag i c t w.holds in let k = v.row.words 0 (omega arith) in omega (arith, h, k)

-- ---- accepted rows, in an array whose other rows are of kind 0

module _ (rs : List ℕ) (n : ℕ) (a : AcceptedRows rs n) where
  pub last_no_cell : Cell rs (n - 1) → ⊥
  last_no_cell k = foot_cell rs 0 (n - 1) a.code (last_sits rs n a) (n - 1) k (foot_self rs (n - 1) (tree_of a.code))

  module _ (rest : (j : ℕ) → n ≤ j → word rs j 0 ≡ 0) where
    -- zeros stand after the words of the n rows
    pub failed_front : {ws : List ℕ} {s : Store} → WritingFailed rs (n - 1) s ws → Same (λ j. ⊥) ws (take (n * state_words) ws)
    failed_front {ws} w =
        let o = a.some in
        front_same ws n (λ j k. w.rest j (λ e. k (omega (arith, e, o))) (λ c. k (within rs n a rest j (omega (arith, c)))))

    module _ {s : Store} (h : ValueTypes s a.cells) where
      pub flow_failed : WritingFailed rs (n - 1) s (encode_failed rs n s) × (length (encode_failed rs n s) ≡ n * state_words)
      unfolding encode_failed
      flow_failed =
          let o = a.some in
          let z = length-replicate {A = ℕ} (n * state_words) 0 in
          let w = write_cells_lem rs n s (store_short h (cells_small a.flow.cells)) n (omega arith) in
          let ws = write_cells rs n s (zero_words (n * state_words)) in
          let dead = same_row w.same (λ k. last_no_cell k.0) (zero_row (n * state_words) (n - 1)) in
          let p = put_laid (whole ∷ []) n (omega arith) (w.long ∙ z) (omega (arith, o)) dead in
          let cells : Stores rs ws s = record { cells = λ j k. w.holds j (within rs n a rest j (omega (arith, k))) k } in (
            record { row = p.row; stores = stores_laid cells last_no_cell p; rest = λ j o k. same_row p.same o (same_row w.same (λ c. k c.0) (zero_row (n * state_words) j)) },
            put_long (whole ∷ []) ws (n - 1) 0 ∙ w.long ∙ z,
          )

      -- what holds them is that list
      pub flow_failed_is : {ws : List ℕ} → length ws ≡ n * state_words → WritingFailed rs (n - 1) s ws → ws ≡ encode_failed rs n s
      flow_failed_is {ws} l w = let (v, m) = flow_failed in words_one ws (encode_failed rs n s) (l ∙ sym m) (failed_alike w v)
