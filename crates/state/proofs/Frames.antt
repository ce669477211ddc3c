-- What is the same after a call, and what is kept by it: rows that differ nowhere but in P hold what they held where P is
-- not. A task's rows, the rows below its operands and the cells are apart. Over the three shapes of trees, not over kinds.
-- Rests on specs/Holds and Words.
use mathlib.Core.Path.{◌≡◌, refl, sym, ap, ◌∙◌, subst}
use mathlib.Core.Logic.{◌⊎◌, inl, inr, ⊎_elim}
use mathlib.Core.List.{List, ◌∷◌}
use Prim.Native.Nat.{ℕ, ◌+◌, ◌≤◌, ◌<◌}
use native.Mathlib.Decide.{ℕ_discrete}
use native.Mathlib.Omega.{arith}
use lib.ListN.{length, get_or, set}
use lib.Seq.{get_or-set_same, get_or-set_other}
use Rattle.tophat.specs.Syntax.{max_leaves, Ty, leaves, Exp, Code, edit, enter, update, then, next, fail, and, or, xor, view, gate, if, let', Val, vunit, Env, Store}
use Rattle.tophat.specs.Syntax.{TaskOf, filled, blank, entered, shared, before, after, failed, both, either, or_left, or_right, unpicked, picked_left, picked_right, gated, if_true, if_false, bound}
use Rattle.tophat.specs.Typing.{ValueType, ValueTypes, v_cons, small_cons}
use Rattle.rows.specs.Kinds.{either_k, if_k, number_of}
use Rattle.rows.specs.Rows.{word, op_a, op_b, op_c, FromKind}
use Rattle.value.specs.declared.Value.{Value}
use Rattle.value.specs.Values.{as_value}
use Rattle.state.specs.Layout.{own, value_words}
use Rattle.state.specs.Holds.{Tree, leaf, under, fork, tree_of, Foot, Off, Split, Cell, Sits, Row, Clear, Holds, Stores, Same, World}
use Rattle.state.specs.Words.{Laid, Pushed}
use Rattle.state.proofs.Binders.{binders_push}

-- ---- frames

pub same_refl : {P : ℕ → Type 0} {x : List ℕ} → Same P x x
same_refl = record { words = λ j m h n. refl }

pub same_trans : {P : ℕ → Type 0} {x y z : List ℕ} → Same P x y → Same P y z → Same P x z
same_trans p q = record { words = λ j m h n. q.words j m h n ∙ p.words j m h n }

pub same_weak : {P Q : ℕ → Type 0} {x y : List ℕ} → ((j : ℕ) → P j → Q j) → Same P x y → Same Q x y
same_weak f p = record { words = λ j m h n. p.words j m h (λ q. n (f j q)) }

pub same_row : {P : ℕ → Type 0} {x y : List ℕ} {j : ℕ} {xs : List ℕ} → Same P x y → (P j → ⊥) → Row x j xs → Row y j xs
same_row {j = j} p n r = record { words = λ m h. p.words j m h n ∙ r.words m h }

-- a row laid is a frame of that row
pub laid_same : {P : ℕ → Type 0} {x y : List ℕ} {i : ℕ} {xs : List ℕ} → Laid x y i xs → P i → Same P x y
laid_same {P} p q = same_weak (λ j e. subst P (sym e) q) p.same

-- ---- what a frame keeps: rows in F hold what they held

pub record Keeps (F : ℕ → Type 0) (ws ws₁ : List ℕ) : Type 0 where
  pub row : {j : ℕ} {xs : List ℕ} → F j → Row ws j xs → Row ws₁ j xs

pub keeps : {P F : ℕ → Type 0} {x y : List ℕ} → ((j : ℕ) → F j → P j → ⊥) → Same P x y → Keeps F x y
keeps n p = record { row = λ {j} f r. same_row p (n j f) r }

pub keeps_weak : {F G : ℕ → Type 0} {x y : List ℕ} → ((j : ℕ) → F j → G j) → Keeps G x y → Keeps F x y
keeps_weak h k = record { row = λ {j} f r. k.row (h j f) r }

pub keeps_laid : {F : ℕ → Type 0} {x y : List ℕ} {i : ℕ} {xs : List ℕ} → ((j : ℕ) → F j → j ≡ i → ⊥) → Laid x y i xs → Keeps F x y
keeps_laid n p = keeps n p.same

pub clear_kept : {rs : List ℕ} {i : ℕ} {a : Tree} {x y : List ℕ} → Clear rs x i a → Keeps (Foot rs i a) x y → Clear rs y i a
clear_kept h k = record { dead = λ j f. k.row f (h.dead j f) }

in_a : {I A B : ℕ → Type 0} {x y : List ℕ} → Keeps (λ j. I j ⊎ (A j ⊎ B j)) x y → Keeps A x y
in_a k = keeps_weak (λ j f. inr (inl f)) k

in_b : {I A B : ℕ → Type 0} {x y : List ℕ} → Keeps (λ j. I j ⊎ (A j ⊎ B j)) x y → Keeps B x y
in_b k = keeps_weak (λ j f. inr (inr f)) k

pub holds_kept : (rs x y : List ℕ) (i : ℕ) (c : Code) (t : TaskOf c) → Holds rs x i c t → Keeps (Foot rs i (tree_of c)) x y → Holds rs y i c t
holds_kept rs x y i (edit e) (filled v) h k = k.row refl h
holds_kept rs x y i (enter τ) blank h k = k.row refl h
holds_kept rs x y i (enter τ) (entered v) h k = k.row refl h
holds_kept rs x y i (update n) shared h k = k.row refl h
holds_kept rs x y i (then a b) (before t) h k = (k.row (inl refl) h.0, holds_kept rs x y (op_a rs i) a t h.1 (in_a k), clear_kept h.2 (in_b k))
holds_kept rs x y i (then a b) (after v u) h k = (k.row (inl refl) h.0, clear_kept h.1 (in_a k), holds_kept rs x y (op_b rs i) b u h.2 (in_b k))
holds_kept rs x y i (next a b) (before t) h k = (k.row (inl refl) h.0, holds_kept rs x y (op_a rs i) a t h.1 (in_a k), clear_kept h.2 (in_b k))
holds_kept rs x y i (next a b) (after v u) h k = (k.row (inl refl) h.0, clear_kept h.1 (in_a k), holds_kept rs x y (op_b rs i) b u h.2 (in_b k))
holds_kept rs x y i (fail τ) failed h k = k.row refl h
holds_kept rs x y i (and a b) (both t u) h k = (k.row (inl refl) h.0, holds_kept rs x y (op_a rs i) a t h.1 (in_a k), holds_kept rs x y (op_b rs i) b u h.2 (in_b k))
holds_kept rs x y i (or a b) (either t u) h k = (k.row (inl refl) h.0, holds_kept rs x y (op_a rs i) a t h.1 (in_a k), holds_kept rs x y (op_b rs i) b u h.2 (in_b k))
holds_kept rs x y i (or a b) (or_left t) h k = (k.row (inl refl) h.0, holds_kept rs x y (op_a rs i) a t h.1 (in_a k), clear_kept h.2 (in_b k))
holds_kept rs x y i (or a b) (or_right u) h k = (k.row (inl refl) h.0, clear_kept h.1 (in_a k), holds_kept rs x y (op_b rs i) b u h.2 (in_b k))
holds_kept rs x y i (xor a b) unpicked h k = (k.row (inl refl) h.0, clear_kept h.1 (in_a k), clear_kept h.2 (in_b k))
holds_kept rs x y i (xor a b) (picked_left t) h k = (k.row (inl refl) h.0, holds_kept rs x y (op_a rs i) a t h.1 (in_a k), clear_kept h.2 (in_b k))
holds_kept rs x y i (xor a b) (picked_right u) h k = (k.row (inl refl) h.0, clear_kept h.1 (in_a k), holds_kept rs x y (op_b rs i) b u h.2 (in_b k))
holds_kept rs x y i (view e) (filled v) h k = k.row refl h
holds_kept rs x y i (gate r n b) (gated m u) h k = (k.row (inl refl) h.0, holds_kept rs x y (op_b rs i) b u h.1 (keeps_weak (λ j f. inr f) k))
holds_kept rs x y i (if e a b) (if_true t) h k = (k.row (inl refl) h.0, holds_kept rs x y (op_b rs i) a t h.1 (in_a k), clear_kept h.2 (in_b k))
holds_kept rs x y i (if e a b) (if_false u) h k = (k.row (inl refl) h.0, clear_kept h.1 (in_a k), holds_kept rs x y (op_c rs i) b u h.2 (in_b k))
holds_kept rs x y i (let' e b) (bound v u) h k = (k.row (inl refl) h.0, holds_kept rs x y (op_b rs i) b u h.1 (keeps_weak (λ j f. inr f) k))

-- ---- stores

pub stores_kept : {P : ℕ → Type 0} {rs x y : List ℕ} {s : Store} → Stores rs x s → ((j : ℕ) → Cell rs j → P j → ⊥) → Same P x y → Stores rs y s
stores_kept h n p = record { cells = λ j k. same_row p (n j k) (h.cells j k) }

-- a row that is no cell is laid
pub stores_laid : {rs x y : List ℕ} {s : Store} {i : ℕ} {xs : List ℕ} → Stores rs x s → (Cell rs i → ⊥) → Laid x y i xs → Stores rs y s
stores_laid {rs} h n p = stores_kept h (λ j k e. n (subst (Cell rs) e k)) p.same

-- a cell is written
pub stores_set : {rs x y : List ℕ} (s : Store) (k : ℕ) (v : Val) → Stores rs x s → Laid x y k (own ∷ value_words v) → k < length s → Stores rs y (set s k v)
stores_set {rs} {x} {y} s k v h p l = record { cells = λ j c. cell j c (ℕ_discrete j k) }
  where
    cell : (j : ℕ) → Cell rs j → Dec (j ≡ k) → Row y j (own ∷ value_words (get_or (set s k v) j vunit))
    cell j c (yes e) =
        subst (λ u. Row y j (own ∷ value_words u)) (sym (ap (λ m. get_or (set s k v) m vunit) e ∙ get_or-set_same s k v vunit l))
        (subst (λ m. Row y m (own ∷ value_words v)) (sym e) p.row)
    cell j c (no n) = subst (λ u. Row y j (own ∷ value_words u)) (sym (get_or-set_other s k j v vunit n)) (same_row p.same n (h.cells j c))

-- ---- trees: where the rows of a task stand, of whatever kinds

-- no row of a task is a cell, and the rows below are apart
abbrev pub Placed : List ℕ → ℕ → Tree → Type 0
Placed rs i leaf = FromKind rs i (either_k if_k)
Placed rs i (under k x) = FromKind rs i (either_k if_k) × Placed rs (word rs i k) x × Off rs i k x
Placed rs i (fork k x l y) = FromKind rs i (either_k if_k) × Placed rs (word rs i k) x × Placed rs (word rs i l) y × Split rs i k x l y

high : {k n : ℕ} → k ≡ n → number_of (either_k if_k) ≤ n → number_of (either_k if_k) ≤ k
high e h = omega arith

pub placed : (rs : List ℕ) (d i : ℕ) (c : Code) → Sits rs d i c → Placed rs i (tree_of c)
placed rs d i (edit e) s = high s.0 (omega arith)
placed rs d i (enter τ) s = high s.0 (omega arith)
placed rs d i (update n) s = high s.0 (omega arith)
placed rs d i (then a b) s = (high s.0 (omega arith), placed rs d (op_a rs i) a s.1, placed rs (d + 1) (op_b rs i) b s.2, s.3)
placed rs d i (next a b) s = (high s.0 (omega arith), placed rs d (op_a rs i) a s.1, placed rs (d + 1) (op_b rs i) b s.2, s.3)
placed rs d i (fail τ) s = high s (omega arith)
placed rs d i (and a b) s = (high s.0 (omega arith), placed rs d (op_a rs i) a s.1, placed rs d (op_b rs i) b s.2, s.3)
placed rs d i (or a b) s = (high s.0 (omega arith), placed rs d (op_a rs i) a s.1, placed rs d (op_b rs i) b s.2, s.3)
placed rs d i (xor a b) s = (high s.0 (omega arith), placed rs d (op_a rs i) a s.1, placed rs d (op_b rs i) b s.2, s.3)
placed rs d i (view e) s = high s.0 (omega arith)
placed rs d i (gate r n b) s = (high s.0 (omega arith), placed rs d (op_b rs i) b s.3, s.4)
placed rs d i (if e a b) s = (high s.0 (omega arith), placed rs d (op_b rs i) a s.2, placed rs d (op_c rs i) b s.3, s.4)
placed rs d i (let' e b) s = (high s.0 (omega arith), placed rs (d + 1) (op_b rs i) b s.2, s.3)

pub foot_self : (rs : List ℕ) (i : ℕ) (x : Tree) → Foot rs i x i
foot_self rs i leaf = refl
foot_self rs i (under k x) = inl refl
foot_self rs i (fork k x l y) = inl refl

at_row : (rs : List ℕ) (i j : ℕ) → FromKind rs i (either_k if_k) → j ≡ i → FromKind rs j (either_k if_k)
at_row rs i j h e = subst (λ j. FromKind rs j (either_k if_k)) (sym e) h

pub foot_high : (rs : List ℕ) (i : ℕ) (x : Tree) → Placed rs i x → (j : ℕ) → Foot rs i x j → FromKind rs j (either_k if_k)
foot_high rs i leaf p j f = at_row rs i j p f
foot_high rs i (under k x) p j f = ⊎_elim (at_row rs i j p.0) (foot_high rs (word rs i k) x p.1 j) f
foot_high rs i (fork k x l y) p j f = ⊎_elim (at_row rs i j p.0) (⊎_elim (foot_high rs (word rs i k) x p.1 j) (foot_high rs (word rs i l) y p.2 j)) f

-- a task's row is no cell
pub foot_no_cell : (rs : List ℕ) (i : ℕ) (x : Tree) → Placed rs i x → (j : ℕ) → Cell rs j → Foot rs i x j → ⊥
foot_no_cell rs i x p j k f = let h = foot_high rs i x p j f in omega arith

pub foot_cell : (rs : List ℕ) (d i : ℕ) (c : Code) → Sits rs d i c → (j : ℕ) → Cell rs j → Foot rs i (tree_of c) j → ⊥
foot_cell rs d i c s = foot_no_cell rs i (tree_of c) (placed rs d i c s)

-- the rows of a tree, and the cells: what a task may change
abbrev pub Reach : List ℕ → ℕ → Tree → ℕ → Type 0
Reach rs i x j = Foot rs i x j ⊎ Cell rs j

-- a row and the two trees below it: A at operand k, B at operand l
pub record Kids (rs : List ℕ) (i k : ℕ) (x : Tree) (l : ℕ) (y : Tree) : Type 0 where
  -- rows of A and B are not row i
  pub off_a : (j : ℕ) → Foot rs (word rs i k) x j → j ≡ i → ⊥
  pub off_b : (j : ℕ) → Foot rs (word rs i l) y j → j ≡ i → ⊥
  -- nor each other's
  pub foot_a : (j : ℕ) → Foot rs (word rs i k) x j → Foot rs (word rs i l) y j → ⊥
  pub foot_b : (j : ℕ) → Foot rs (word rs i l) y j → Foot rs (word rs i k) x j → ⊥
  -- A is out of B's reach, B out of A's, row i out of both
  pub b_a : (j : ℕ) → Foot rs (word rs i k) x j → Reach rs (word rs i l) y j → ⊥
  pub a_b : (j : ℕ) → Foot rs (word rs i l) y j → Reach rs (word rs i k) x j → ⊥
  pub i_a : Reach rs (word rs i k) x i → ⊥
  pub i_b : Reach rs (word rs i l) y i → ⊥
  -- none is a cell
  pub cell_a : (j : ℕ) → Cell rs j → Foot rs (word rs i k) x j → ⊥
  pub cell_b : (j : ℕ) → Cell rs j → Foot rs (word rs i l) y j → ⊥
  pub cell_i : Cell rs i → ⊥
  -- each is within the whole's reach
  pub up_a : (j : ℕ) → Reach rs (word rs i k) x j → Reach rs i (fork k x l y) j
  pub up_b : (j : ℕ) → Reach rs (word rs i l) y j → Reach rs i (fork k x l y) j
  pub up_i : Reach rs i (fork k x l y) i
  pub up_c : (j : ℕ) → Cell rs j → Reach rs i (fork k x l y) j

pub kids : (rs : List ℕ) (i k : ℕ) (x : Tree) (l : ℕ) (y : Tree) → Placed rs i (fork k x l y) → Kids rs i k x l y
kids rs i k x l y p =
    let s = p.3 in
    let no_cell : Cell rs i → ⊥ = (λ c. let h = p.0 in omega arith) in
    let c_a = foot_no_cell rs (word rs i k) x p.1 in
    let c_b = foot_no_cell rs (word rs i l) y p.2 in
    record {
      off_a = s.off_a;
      off_b = s.off_b;
      foot_a = s.apart;
      foot_b = λ j f g. s.apart j g f;
      b_a = λ j f. ⊎_elim (λ g. s.apart j f g) (λ c. c_a j c f);
      a_b = λ j f. ⊎_elim (λ g. s.apart j g f) (λ c. c_b j c f);
      i_a = ⊎_elim (λ f. s.off_a i f refl) no_cell;
      i_b = ⊎_elim (λ f. s.off_b i f refl) no_cell;
      cell_a = c_a;
      cell_b = c_b;
      cell_i = no_cell;
      up_a = λ j. ⊎_elim (λ f. inl (inr (inl f))) inr;
      up_b = λ j. ⊎_elim (λ f. inl (inr (inr f))) inr;
      up_i = inl (inl refl);
      up_c = λ j c. inr c;
    }

-- a row and the one tree below it
pub record Kid (rs : List ℕ) (i k : ℕ) (x : Tree) : Type 0 where
  pub off : (j : ℕ) → Foot rs (word rs i k) x j → j ≡ i → ⊥
  pub out : Reach rs (word rs i k) x i → ⊥
  pub cell_b : (j : ℕ) → Cell rs j → Foot rs (word rs i k) x j → ⊥
  pub cell_i : Cell rs i → ⊥
  pub up_b : (j : ℕ) → Reach rs (word rs i k) x j → Reach rs i (under k x) j
  pub up_i : Reach rs i (under k x) i
  pub up_c : (j : ℕ) → Cell rs j → Reach rs i (under k x) j

pub kid : (rs : List ℕ) (i k : ℕ) (x : Tree) → Placed rs i (under k x) → Kid rs i k x
kid rs i k x p =
    let no_cell : Cell rs i → ⊥ = (λ c. let h = p.0 in omega arith) in
    record {
      off = p.2.off;
      out = ⊎_elim (λ f. p.2.off i f refl) no_cell;
      cell_b = foot_no_cell rs (word rs i k) x p.1;
      cell_i = no_cell;
      up_b = λ j. ⊎_elim (λ f. inl (inr f)) inr;
      up_i = inl (inl refl);
      up_c = λ j c. inr c;
    }

-- of each kind with rows below it
module _ (rs : List ℕ) (d i : ℕ) where
  pub kids_then : (a b : Code) → Sits rs d i (then a b) → Kids rs i 1 (tree_of a) 2 (tree_of b)
  kids_then a b s = kids rs i 1 (tree_of a) 2 (tree_of b) (placed rs d i (then a b) s)

  pub kids_next : (a b : Code) → Sits rs d i (next a b) → Kids rs i 1 (tree_of a) 2 (tree_of b)
  kids_next a b s = kids rs i 1 (tree_of a) 2 (tree_of b) (placed rs d i (next a b) s)

  pub kids_and : (a b : Code) → Sits rs d i (and a b) → Kids rs i 1 (tree_of a) 2 (tree_of b)
  kids_and a b s = kids rs i 1 (tree_of a) 2 (tree_of b) (placed rs d i (and a b) s)

  pub kids_or : (a b : Code) → Sits rs d i (or a b) → Kids rs i 1 (tree_of a) 2 (tree_of b)
  kids_or a b s = kids rs i 1 (tree_of a) 2 (tree_of b) (placed rs d i (or a b) s)

  pub kids_xor : (a b : Code) → Sits rs d i (xor a b) → Kids rs i 1 (tree_of a) 2 (tree_of b)
  kids_xor a b s = kids rs i 1 (tree_of a) 2 (tree_of b) (placed rs d i (xor a b) s)

  pub kids_if : (e : Exp) (a b : Code) → Sits rs d i (if e a b) → Kids rs i 2 (tree_of a) 3 (tree_of b)
  kids_if e a b s = kids rs i 2 (tree_of a) 3 (tree_of b) (placed rs d i (if e a b) s)

  pub kid_let : (e : Exp) (b : Code) → Sits rs d i (let' e b) → Kid rs i 2 (tree_of b)
  kid_let e b s = kid rs i 2 (tree_of b) (placed rs d i (let' e b) s)

  pub kid_gate : (r n : ℕ) (b : Code) → Sits rs d i (gate r n b) → Kid rs i 2 (tree_of b)
  kid_gate r n b s = kid rs i 2 (tree_of b) (placed rs d i (gate r n b) s)

-- ---- worlds

-- the world after a call that left the words y and the store s₁
pub world_after : {rs x y env : List ℕ} {d : ℕ} {Σ Γ : List Ty} {s s₁ : Store} {ρ : Env} → World rs x env d Σ Γ s ρ → Stores rs y s₁ → ValueTypes s₁ Σ → World rs y env d Σ Γ s₁ ρ
world_after w h t = record { stores = h; binders = w.binders; store_typed = t; binders_typed = w.binders_typed; store_small = w.store_small; binders_small = w.binders_small }

-- the world under one more binder
pub world_push : {rs x env env₁ : List ℕ} {d : ℕ} {Σ Γ : List Ty} {s : Store} {ρ : Env} {v : Value} (u : Val) {τ : Ty}
    → World rs x env d Σ Γ s ρ → Pushed env env₁ d v → v ≡ as_value u → ValueType u τ → leaves τ ≤ max_leaves → World rs x env₁ (d + 1) Σ (τ ∷ Γ) s (u ∷ ρ)
world_push u w p e t l = record {
  stores = w.stores;
  binders = binders_push w.binders p e;
  store_typed = w.store_typed;
  binders_typed = v_cons t w.binders_typed;
  store_small = w.store_small;
  binders_small = small_cons l w.binders_small;
}
