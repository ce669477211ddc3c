-- `encode` is the one list of words that holds a task and a store and is 0 elsewhere. Rests on Writes.
use mathlib.Core.Path.{◌≡◌, refl, sym, ap, ◌∙◌, subst}
use mathlib.Core.Bool.{Bool, true, false, cond}
use mathlib.Core.Logic.{◌⊎◌, inl, inr, ⊎_elim}
use mathlib.Core.List.{List, [], ◌∷◌, ◌++◌}
use Prim.Native.Nat.{ℕ, zero, suc, ◌*◌, ◌-◌, ◌/◌, ◌%◌, ◌≤◌, ◌<◌}
use native.Mathlib.Decide.{ℕ_discrete, dec_lt}
use native.Mathlib.Omega.{arith}
use lib.Dec.{eqb, T, eqb→eq, eqb_refl}
use lib.ListN.{length, get_or, length-replicate, take, length-take, get_or-eq_default}
use lib.Seq.{get_or-take, ext_get_or}
use Rattle.tophat.specs.Syntax.{Code, edit, enter, update, then, next, fail, and, or, xor, view, gate, if, let', vunit, Store}
use Rattle.tophat.specs.Syntax.{TaskOf, filled, blank, entered, shared, before, after, failed, both, either, or_left, or_right, unpicked, picked_left, picked_right, gated, if_true, if_false, bound}
use Rattle.rows.specs.Kinds.{cell_k, number_of}
use Rattle.rows.specs.Rows.{word, op_a, op_b, op_c, is_kind}
use Rattle.state.specs.Layout.{state_words, place, at, value_words, own, put_words, valued, write_task, write_cells, encode}
use Rattle.state.specs.Holds.{Tree, leaf, under, fork, tree_of, Foot, Cell, Sits, Row, Clear, Holds, Stores, Same, Area, Ran}
use Rattle.state.specs.Writing.{Writing}
use Rattle.state.proofs.Words.{zero_words, padding}
use Rattle.state.proofs.Frames.{same_refl, same_trans, same_weak, same_row, laid_same, stores_kept, foot_cell, keeps, holds_kept, foot_high, placed}
use Rattle.state.proofs.Writes.{put_long, put_laid, Short, Fits, Wrote, Within, write_task_lem}

-- ---- the cells written into rows of zeros

pub zero_row : (n j : ℕ) → Row (zero_words n) j []
zero_row n j = record { words = λ m h. padding [] n (place j m) }

below_or_at : {P : ℕ → Type 0} (k : ℕ) → P k → ((j : ℕ) → j < k → P j) → (j : ℕ) → j < suc k → P j
below_or_at {P} k here there j h = by (ℕ_discrete j k)
  where
    by : Dec (j ≡ k) → P j
    by (yes e) = subst P (sym e) here
    by (no n) = there j (omega arith)

module _ (rs : List ℕ) (n : ℕ) (s : Store) (short : (k : ℕ) → Short (get_or s k vunit)) where
  abbrev CellRow : List ℕ → ℕ → Type 0
  CellRow ws j = Cell rs j → Row ws j (own ∷ value_words (get_or s j vunit))

  -- cells below k
  abbrev Below : ℕ → ℕ → Type 0
  Below k j = Cell rs j × (j < k)

  abbrev Cells : ℕ → List ℕ → Type 0
  Cells k ws = Wrote ((j : ℕ) → j < k → CellRow ws j) (Below k) (zero_words (n * state_words)) ws

  one_cell : (k : ℕ) (ws : List ℕ) (b : Bool) → is_kind rs k cell_k ≡ b → k < n → Cells k ws → Cells (suc k) (cond b (valued ws k own (get_or s k vunit)) ws)
  one_cell k ws true e l w =
      let c : Cell rs k = eqb→eq (word rs k 0) (number_of cell_k) (subst T (sym e) tt) in
      let xs = own ∷ value_words (get_or s k vunit) in
      let dead = same_row w.same (λ z. let g = z.1 in omega arith) (zero_row (n * state_words) k) in
      let p = put_laid xs n (short k) (w.long ∙ length-replicate {A = ℕ} (n * state_words) 0) l dead in
      record {
        holds = below_or_at {P = CellRow (put_words ws k 0 xs)} k (λ z. p.row) (λ j h z. same_row p.same (λ q. omega arith) (w.holds j h z));
        same = same_trans (same_weak (λ j z. (z.0, let g = z.1 in omega arith)) w.same) (laid_same p (c, omega arith));
        long = put_long xs ws k 0 ∙ w.long;
      }
  one_cell k ws false e l w = record {
    holds = below_or_at {P = CellRow ws} k (λ z. absurd (subst T (ap (λ m. eqb m (number_of cell_k)) (sym z) ∙ e) (eqb_refl (number_of cell_k)))) (λ j h z. w.holds j h z);
    same = same_weak (λ j z. (z.0, let g = z.1 in omega arith)) w.same;
    long = w.long;
  }

  pub write_cells_lem : (k : ℕ) → k ≤ n → Cells k (write_cells rs k s (zero_words (n * state_words)))
  unfolding write_cells
  write_cells_lem zero h = record { holds = λ j l. absurd (omega arith); same = same_refl; long = refl }
  write_cells_lem (suc k) h = one_cell k (write_cells rs k s (zero_words (n * state_words))) (is_kind rs k cell_k) refl (omega arith) (write_cells_lem k (omega arith))

-- ---- one writing

-- what encode writes
pub encode_writing : (rs : List ℕ) (n d : ℕ) (c : Code) (t : TaskOf c) (s : Store) → Within rs n → Sits rs d (n - 1) c → Fits c t → ((k : ℕ) → Short (get_or s k vunit))
    → Writing rs (n - 1) c t s (encode rs n c t s) × (length (encode rs n c t s) ≡ n * state_words)
unfolding encode
encode_writing rs n d c t s within sits fits short =
    let i = n - 1 in
    let zs = zero_words (n * state_words) in
    let z = length-replicate {A = ℕ} (n * state_words) 0 in
    let w = write_cells_lem rs n s short n (omega arith) in
    let ws = write_cells rs n s zs in
    let dead : Clear rs ws i (tree_of c) = record { dead = λ j f. same_row w.same (λ k. foot_cell rs d i c sits j k.0 f) (zero_row (n * state_words) j) } in
    let q = write_task_lem rs n within d i c t sits fits ws (w.long ∙ z) dead in
    let cells : Stores rs ws s = record { cells = λ j k. w.holds j (within j (omega arith)) k } in
    let same : Same (Area rs i c) zs (write_task rs i c t ws) = same_trans (same_weak (λ j k. inr k.0) w.same) (same_weak (λ j f. inl f) q.same) in (
      record { holds = q.holds; stores = stores_kept cells (λ j k f. foot_cell rs d i c sits j k f) q.same; rest = λ j o. same_row same o (zero_row (n * state_words) j) },
      q.long ∙ w.long ∙ z,
    )

-- a call takes a writing to a writing
pub writing_ran : {rs ws ws₁ : List ℕ} {i : ℕ} {c : Code} {t t₁ : TaskOf c} {s s₁ : Store} → Writing rs i c t s ws → Ran rs ws ws₁ i c t₁ s₁ → Writing rs i c t₁ s₁ ws₁
writing_ran w r = record { holds = r.holds; stores = r.stores; rest = λ j o. same_row r.same o (w.rest j o) }

-- so does a list of the same words: with zeros after it, or without them
pub writing_same : {rs x y : List ℕ} {i : ℕ} {c : Code} {t : TaskOf c} {s : Store} → Same (λ j. ⊥) x y → Writing rs i c t s x → Writing rs i c t s y
writing_same {rs} {x} {y} {i} {c} {t} q w = record {
  holds = holds_kept rs x y i c t w.holds (keeps (λ j f z. z) q);
  stores = stores_kept w.stores (λ j k z. z) q;
  rest = λ j o. same_row q (λ z. z) (w.rest j o);
}

pub padded_same : (ws : List ℕ) (n : ℕ) → Same (λ j. ⊥) ws (ws ++ zero_words n)
padded_same ws n = record { words = λ j m h o. padding ws n (place j m) }

pub front_same : (ws : List ℕ) (n : ℕ) → ((j : ℕ) → (j < n → ⊥) → Row ws j []) → Same (λ j. ⊥) ws (take (n * state_words) ws)
front_same ws n out = record { words = λ j m h o. by j m h (dec_lt j n) }
  where
    by : (j m : ℕ) → m < state_words → Dec (j < n) → at (take (n * state_words) ws) j m ≡ at ws j m
    by j m h (yes k) = get_or-take (n * state_words) ws (place j m) 0 (omega arith)
    by j m h (no k) = get_or-eq_default (take (n * state_words) ws) 0 (let e = length-take (n * state_words) ws in omega arith) ∙ sym ((out j k).words m h)

pub taken_same : {rs ws : List ℕ} {n i : ℕ} {c : Code} {t : TaskOf c} {s : Store} (d : ℕ) → Within rs n → Sits rs d i c → Writing rs i c t s ws → Same (λ j. ⊥) ws (take (n * state_words) ws)
taken_same {rs} {ws} {n} {i} {c} d within sits w = front_same ws n (λ j k. w.rest j (out j k))
  where
    out : (j : ℕ) → (j < n → ⊥) → Area rs i c j → ⊥
    out j k = ⊎_elim (λ f. k (within j (let g = foot_high rs i (tree_of c) (placed rs d i c sits) j f in omega arith))) (λ e. k (within j (omega arith)))

-- two lists that hold the same
abbrev pub Alike : List ℕ → List ℕ → ℕ → Type 0
Alike x y j = (m : ℕ) → m < state_words → at x j m ≡ at y j m

pub alike : {x y : List ℕ} {j : ℕ} {xs : List ℕ} → Row x j xs → Row y j xs → Alike x y j
alike p q m h = p.words m h ∙ sym (q.words m h)

pub words_at : (x y : List ℕ) → ((j : ℕ) → Alike x y j) → (k : ℕ) → get_or x k 0 ≡ get_or y k 0
words_at x y row k =
    let e : k ≡ place (k / state_words) (k % state_words) = omega arith in
    ap (λ z. get_or x z 0) e ∙ row (k / state_words) (k % state_words) (omega arith) ∙ sym (ap (λ z. get_or y z 0) e)

pub words_one : (x y : List ℕ) → length x ≡ length y → ((j : ℕ) → Alike x y j) → x ≡ y
words_one x y l row = ext_get_or 0 x y l (λ k h. words_at x y row k)

module _ (rs x y : List ℕ) where
  here : {i j : ℕ} {xs : List ℕ} → Row x i xs → Row y i xs → j ≡ i → Alike x y j
  here p q e = subst (Alike x y) (sym e) (alike p q)

  three : {i j : ℕ} {xs : List ℕ} {F G : Type 0} → Row x i xs → Row y i xs → (F → Alike x y j) → (G → Alike x y j) → (j ≡ i) ⊎ (F ⊎ G) → Alike x y j
  three p q f g = ⊎_elim (here p q) (⊎_elim f g)

  dead_alike : (i : ℕ) (a : Tree) → Clear rs x i a → Clear rs y i a → (j : ℕ) → Foot rs i a j → Alike x y j
  dead_alike i a p q j f = alike (p.dead j f) (q.dead j f)

  holds_alike : (i : ℕ) (c : Code) (t : TaskOf c) → Holds rs x i c t → Holds rs y i c t → (j : ℕ) → Foot rs i (tree_of c) j → Alike x y j
  holds_alike i (edit e) (filled v) p q j = here p q
  holds_alike i (enter τ) blank p q j = here p q
  holds_alike i (enter τ) (entered v) p q j = here p q
  holds_alike i (update k) shared p q j = here p q
  holds_alike i (then a b) (before t) p q j = three p.0 q.0 (holds_alike (op_a rs i) a t p.1 q.1 j) (dead_alike (op_b rs i) (tree_of b) p.2 q.2 j)
  holds_alike i (then a b) (after v u) p q j = three p.0 q.0 (dead_alike (op_a rs i) (tree_of a) p.1 q.1 j) (holds_alike (op_b rs i) b u p.2 q.2 j)
  holds_alike i (next a b) (before t) p q j = three p.0 q.0 (holds_alike (op_a rs i) a t p.1 q.1 j) (dead_alike (op_b rs i) (tree_of b) p.2 q.2 j)
  holds_alike i (next a b) (after v u) p q j = three p.0 q.0 (dead_alike (op_a rs i) (tree_of a) p.1 q.1 j) (holds_alike (op_b rs i) b u p.2 q.2 j)
  holds_alike i (fail τ) failed p q j = here p q
  holds_alike i (and a b) (both t u) p q j = three p.0 q.0 (holds_alike (op_a rs i) a t p.1 q.1 j) (holds_alike (op_b rs i) b u p.2 q.2 j)
  holds_alike i (or a b) (either t u) p q j = three p.0 q.0 (holds_alike (op_a rs i) a t p.1 q.1 j) (holds_alike (op_b rs i) b u p.2 q.2 j)
  holds_alike i (or a b) (or_left t) p q j = three p.0 q.0 (holds_alike (op_a rs i) a t p.1 q.1 j) (dead_alike (op_b rs i) (tree_of b) p.2 q.2 j)
  holds_alike i (or a b) (or_right u) p q j = three p.0 q.0 (dead_alike (op_a rs i) (tree_of a) p.1 q.1 j) (holds_alike (op_b rs i) b u p.2 q.2 j)
  holds_alike i (xor a b) unpicked p q j = three p.0 q.0 (dead_alike (op_a rs i) (tree_of a) p.1 q.1 j) (dead_alike (op_b rs i) (tree_of b) p.2 q.2 j)
  holds_alike i (xor a b) (picked_left t) p q j = three p.0 q.0 (holds_alike (op_a rs i) a t p.1 q.1 j) (dead_alike (op_b rs i) (tree_of b) p.2 q.2 j)
  holds_alike i (xor a b) (picked_right u) p q j = three p.0 q.0 (dead_alike (op_a rs i) (tree_of a) p.1 q.1 j) (holds_alike (op_b rs i) b u p.2 q.2 j)
  holds_alike i (view e) (filled v) p q j = here p q
  holds_alike i (gate r n b) (gated k u) p q j = ⊎_elim (here p.0 q.0) (holds_alike (op_b rs i) b u p.1 q.1 j)
  holds_alike i (if e a b) (if_true t) p q j = three p.0 q.0 (holds_alike (op_b rs i) a t p.1 q.1 j) (dead_alike (op_c rs i) (tree_of b) p.2 q.2 j)
  holds_alike i (if e a b) (if_false u) p q j = three p.0 q.0 (dead_alike (op_b rs i) (tree_of a) p.1 q.1 j) (holds_alike (op_c rs i) b u p.2 q.2 j)
  holds_alike i (let' e b) (bound v u) p q j = ⊎_elim (here p.0 q.0) (holds_alike (op_b rs i) b u p.1 q.1 j)

either_of : {A B : Type 0} → Dec A → Dec B → Dec (A ⊎ B)
either_of (yes a) d = yes (inl a)
either_of (no n) (yes b) = yes (inr b)
either_of (no n) (no m) = no (⊎_elim n m)

-- is a row in the tree?
foot? : (rs : List ℕ) (i : ℕ) (x : Tree) (j : ℕ) → Dec (Foot rs i x j)
foot? rs i leaf j = ℕ_discrete j i
foot? rs i (under k x) j = either_of (ℕ_discrete j i) (foot? rs (word rs i k) x j)
foot? rs i (fork k x l y) j = either_of (ℕ_discrete j i) (either_of (foot? rs (word rs i k) x j) (foot? rs (word rs i l) y j))

-- two writings are one
pub writing_one : {rs : List ℕ} {i : ℕ} {c : Code} {t : TaskOf c} {s : Store} {x y : List ℕ} → length x ≡ length y → Writing rs i c t s x → Writing rs i c t s y → x ≡ y
writing_one {rs} {i} {c} {t} {s} {x} {y} l p q = words_one x y l (λ j. row j (foot? rs i (tree_of c) j) (ℕ_discrete (word rs j 0) (number_of cell_k)))
  where
    row : (j : ℕ) → Dec (Foot rs i (tree_of c) j) → Dec (Cell rs j) → Alike x y j
    row j (yes f) d = holds_alike rs x y i c t p.holds q.holds j f
    row j (no n) (yes k) = alike (p.stores.cells j k) (q.stores.cells j k)
    row j (no n) (no m) = alike (p.rest j (⊎_elim n m)) (q.rest j (⊎_elim n m))
