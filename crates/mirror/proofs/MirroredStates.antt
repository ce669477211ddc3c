-- The states of rows whose last row is of kind 46, and of the same rows with its A and B exchanged: one writing is a state of both, whose
-- task has its parts exchanged; what words are decoded to is so exchanged. Rests on MirroredRows and state's theorem of ground 22.
use mathlib.Core.Path.{◌≡◌, refl, sym, ap, ◌∙◌}
use mathlib.Core.Logic.{inl, inr, ⊎_elim}
use mathlib.Core.Option.{Option, none, some}
use mathlib.Core.List.{List, [], ◌∷◌}
use Prim.Native.Nat.{ℕ, zero, suc, ◌*◌, ◌-◌, ◌<◌, ◌≤◌}
use native.Mathlib.Omega.{arith}
use lib.ListN.{length, length-replicate}
use Rattle.tophat.specs.Syntax.{Ty, pair, Code, and, TaskOf, both, Store}
use Rattle.tophat.specs.Typing.{TaskType, ValueTypes, small_nil}
use Rattle.tophat.specs.Redrawn.{exchanged}
use Rattle.tophat.proofs.Basics.{no_some}
use Rattle.tophat.proofs.Mirroring.{code_exchanged, typed_exchanged}
use Rattle.rows.specs.Rows.{word, op_a, op_b}
use Rattle.rows.specs.Trees.{ReadsCode, r_and, Flow}
use Rattle.rows.specs.Accepted.{AcceptedRows}
use Rattle.rows.specs.Ground.{ground_of_rows, rows_0}
use Rattle.rows.proofs.GroundZero.{zero_flow, ground_only}
use Rattle.rows.proofs.CellsAt.{cells_small}
use Rattle.state.specs.Layout.{state_words, own, whole, tagged, write_task, write_cells, encode, encode_failed}
use Rattle.state.specs.Holds.{tree_of, fork, Foot, Split, Sits, Clear, Stores, Same, Area}
use Rattle.state.specs.Writing.{Writing}
use Rattle.state.specs.Reading.{decode}
use Rattle.state.proofs.Words.{zero_words}
use Rattle.state.proofs.Frames.{same_trans, same_weak, same_row, stores_kept, foot_cell}
use Rattle.state.proofs.Writes.{Fits, Within, two, write_task_lem}
use Rattle.state.proofs.Encode.{zero_row, write_cells_lem}
use Rattle.state.proofs.Typed.{fits_typed, store_short}
use Rattle.state.proofs.SitsOf.{last_sits, within, state_is}
use Rattle.state.proofs.Reading.{decode_is, decode_sound}
use Rattle.mirror.proofs.Below.{write_below}
use Rattle.mirror.proofs.MirroredRows.{Exchanged, exchanged_back, exchanged_below, kinds, well_formed, small, mirrored_flow}

-- ---- the cells are written alike

cells_written : {rs rs₁ : List ℕ} {m : ℕ} (x : Exchanged rs rs₁ m) (n : ℕ) (s : Store) (ws : List ℕ) → write_cells rs₁ n s ws ≡ write_cells rs n s ws
unfolding write_cells
cells_written x zero s ws = refl
cells_written x (suc i) s ws = rw (kinds x i, cells_written x i s ws) refl

-- ---- n rows of the one, and of the other

pub record Two (rs rs₁ : List ℕ) (n : ℕ) (a b : Code) (Σ : List Ty) (s₀ : Store) (τ υ : Ty) : Type 0 where
  pub some_rows : 1 ≤ n
  pub exchange : Exchanged rs rs₁ (n - 1)
  pub ground_is : ground_of_rows rs n ≡ 0
  pub ground₁ : ground_of_rows rs₁ n ≡ 0
  pub flow : Flow rs n (and a b) Σ s₀ (pair τ υ)
  pub flow₁ : Flow rs₁ n (and b a) Σ s₀ (pair υ τ)
  pub past : (j : ℕ) → n ≤ j → word rs j 0 ≡ 0

-- where the ones get no ground, neither do the others
pub two_of : {rs rs₁ : List ℕ} {n : ℕ} {a b : Code} {Σ : List Ty} {s₀ : Store} {τ υ : Ty} → 1 ≤ n → Exchanged rs rs₁ (n - 1) → ground_of_rows rs n ≡ 0
    → Flow rs n (and a b) Σ s₀ (pair τ υ) → ((j : ℕ) → n ≤ j → word rs j 0 ≡ 0) → Two rs rs₁ n a b Σ s₀ τ υ
two_of {rs} {rs₁} {n} {a} {b} {Σ} {s₀} {τ} {υ} l x z f past =
    let e : n ≡ suc (n - 1) = omega (arith, l) in
    let (w, k, i) = zero_flow rs n l z in
    let w₁ = rw (sym e) at (well_formed x (rw e at w)) in
    let k₁ = rw (sym e) at (small x (rw e at k)) in
    let f₁ : Flow rs₁ n (and b a) Σ s₀ (pair υ τ) = rw (sym e) at (mirrored_flow x f.code (rw e at f.cells) (code_exchanged f.typed)) in
    record {
      some_rows = l;
      exchange = x;
      ground_is = z;
      ground₁ = ground_only rs₁ n l (rows_0 w₁ k₁ (record { code = and b a; cells = Σ; store = s₀; type = pair υ τ; flow = f₁ }));
      flow = f;
      flow₁ = f₁;
      past = past;
    }

-- and the other way round
pub flip : {rs rs₁ : List ℕ} {n : ℕ} {a b : Code} {Σ : List Ty} {s₀ : Store} {τ υ : Ty} → Two rs rs₁ n a b Σ s₀ τ υ → Two rs₁ rs n b a Σ s₀ υ τ
flip d = record {
  some_rows = d.some_rows;
  exchange = exchanged_back d.exchange;
  ground_is = d.ground₁;
  ground₁ = d.ground_is;
  flow = d.flow₁;
  flow₁ = d.flow;
  past = λ j l. kinds d.exchange j ∙ d.past j l;
}

module _ {rs rs₁ : List ℕ} {n : ℕ} {a b : Code} {Σ : List Ty} {s₀ : Store} {τ υ : Ty} (d : Two rs rs₁ n a b Σ s₀ τ υ) where
  abbrev i : ℕ
  i = n - 1

  abbrev rows_of : AcceptedRows rs n
  rows_of = record { some = d.some_rows; ground_is = d.ground_is; code = and a b; cells = Σ; store = s₀; type = pair τ υ; flow = d.flow }

  abbrev rows_of₁ : AcceptedRows rs₁ n
  rows_of₁ = record { some = d.some_rows; ground_is = d.ground₁; code = and b a; cells = Σ; store = s₀; type = pair υ τ; flow = d.flow₁ }

  -- a last row that failed as a whole
  pub failed_alike : (s : Store) → encode_failed rs₁ n s ≡ encode_failed rs n s
  unfolding encode_failed
  failed_alike s = ap (λ ws. tagged ws i whole) (cells_written d.exchange n s _)

  -- ---- B's task written before A's

  -- the words that the other sheet writes, by the rows of this one
  abbrev swapped : TaskOf a → TaskOf b → Store → List ℕ
  swapped t u s = write_task rs (op_a rs i) a t (write_task rs (op_b rs i) b u (tagged (write_cells rs n s (zero_words (n * state_words))) i own))

  other_words : (t : TaskOf a) (u : TaskOf b) (s : Store) → encode rs₁ n (and b a) (both u t) s ≡ swapped t u s
  unfolding encode write_task
  other_words t u s = by d.flow.code
    where
      by : ReadsCode rs i (and a b) → encode rs₁ n (and b a) (both u t) s ≡ swapped t u s
      by (r_and k p q g h) =
          let x = d.exchange in
          let y = exchanged_below x in
          rw (cells_written x n s (zero_words (n * state_words)), x.last_a, x.last_b, write_below y q h u (tagged (write_cells rs n s (zero_words (n * state_words))) i own))
          (write_below y p g t _)

  module _ {t : TaskOf a} {u : TaskOf b} {s : Store} (k : TaskType Σ [] (and a b) (both t u) (pair τ υ)) (h : ValueTypes s Σ) where
    sits : Sits rs 0 i (and a b)
    sits = last_sits rs n rows_of

    inside : Within rs n
    inside = within rs n rows_of d.past

    fits : Fits (and a b) (both t u)
    fits = fits_typed k (cells_small d.flow.cells) small_nil

    -- the rows below A and below B, in either order
    turn : (j : ℕ) → Foot rs i (fork 2 (tree_of b) 1 (tree_of a)) j → Foot rs i (tree_of (and a b)) j
    turn j = ⊎_elim inl (λ f. inr (⊎_elim inr inl f))

    split : Split rs i 2 (tree_of b) 1 (tree_of a)
    split = let o = sits.3 in record { off_a = o.off_b; off_b = o.off_a; apart = λ j f g. o.apart j g f }

    swapped_writing : Writing rs i (and a b) (both t u) s (swapped t u s) × (length (swapped t u s) ≡ n * state_words)
    swapped_writing =
        let zs = zero_words (n * state_words) in
        let z = length-replicate {A = ℕ} (n * state_words) 0 in
        let w = write_cells_lem rs n s (store_short h (cells_small d.flow.cells)) n (omega arith) in
        let ws = write_cells rs n s zs in
        let l : i < n = let o = d.some_rows in omega (arith, o) in
        let dead : Clear rs ws i (fork 2 (tree_of b) 1 (tree_of a)) =
        record { dead = λ j f. same_row w.same (λ c. foot_cell rs 0 i (and a b) sits j c.0 (turn j f)) (zero_row (n * state_words) j) } in
        let q = two rs n i l (own ∷ []) (omega arith) 2 1 b a split ws (w.long ∙ z) dead u t
        (write_task_lem rs n inside 0 (op_b rs i) b u sits.2 fits.1) (write_task_lem rs n inside 0 (op_a rs i) a t sits.1 fits.0) in
        let cells : Stores rs ws s = record { cells = λ j c. w.holds j (inside j (omega (arith, c))) c } in
        let same : Same (Area rs i (and a b)) zs (swapped t u s) =
        same_trans (same_weak (λ j c. inr c.0) w.same) (same_weak (λ j f. inl (turn j f)) q.same) in (
          record {
            holds = (q.holds.0, q.holds.2, q.holds.1);
            stores = stores_kept cells (λ j c f. foot_cell rs 0 i (and a b) sits j c (turn j f)) q.same;
            rest = λ j o. same_row same o (zero_row (n * state_words) j);
          },
          q.long ∙ w.long ∙ z,
        )

    encode_both : encode rs₁ n (and b a) (both u t) s ≡ encode rs n (and a b) (both t u) s
    encode_both = other_words t u s ∙ (let (w, l) = swapped_writing in state_is rs n rows_of d.past k h l w)

  -- one writing for both
  pub encode_exchanged : {s : Store} (t : TaskOf (and a b)) → TaskType Σ [] (and a b) t (pair τ υ) → ValueTypes s Σ
      → encode rs₁ n (and b a) (exchanged t) s ≡ encode rs n (and a b) t s
  unfolding exchanged
  encode_exchanged (both t u) k h = encode_both k h

  -- what is decoded
  pub decode_to : (ws : List ℕ) {t : TaskOf (and a b)} {s : Store} → decode rs n (and a b) Σ ws ≡ some (t, s) → decode rs₁ n (and b a) Σ ws ≡ some (exchanged t, s)
  decode_to ws {t} {s} e =
      let w = decode_sound rs n rows_of ws e in
      decode_is rs₁ n rows_of₁ ws (flip d).past (record { typed = typed_exchanged w.typed; stored = w.stored; writing = w.writing ∙ sym (encode_exchanged t w.typed w.stored) })

-- the task of what is decoded
unfoldable pub on_task : {A B : Type 0} → (A → B) → Option (A × Store) → Option (B × Store)
on_task f none = none
on_task f (some q) = some (f q.0, q.1)

pub decode_exchanged : {rs rs₁ : List ℕ} {n : ℕ} {a b : Code} {Σ : List Ty} {s₀ : Store} {τ υ : Ty} (d : Two rs rs₁ n a b Σ s₀ τ υ) (ws : List ℕ)
    → decode rs₁ n (and b a) Σ ws ≡ on_task exchanged (decode rs n (and a b) Σ ws)
unfolding on_task
decode_exchanged {rs} {rs₁} {n} {a} {b} {Σ} d ws = by (decode rs n (and a b) Σ ws) (decode rs₁ n (and b a) Σ ws) refl refl
  where
    by : (o : Option (TaskOf (and a b) × Store)) (o₁ : Option (TaskOf (and b a) × Store)) → decode rs n (and a b) Σ ws ≡ o
        → decode rs₁ n (and b a) Σ ws ≡ o₁ → o₁ ≡ on_task exchanged o
    by none none e f = refl
    by none (some q) e f = no_some (sym e ∙ decode_to (flip d) ws f)
    by (some q) o₁ e f = sym f ∙ decode_to d ws e
