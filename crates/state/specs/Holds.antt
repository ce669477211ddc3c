-- How code over words meets trees: where a code sits in the rows, which words hold a task and a store, and what is the same
-- after a call. These are the terms of the engine's contracts; Layout's `encode` is the list that they fix (proofs/Encode).
-- Rests on Layout.
-- For contracts only: tied to Layout's `encode` by `encode_writing` and `writing_one` (proofs/Encode).
use Rattle.std.specs.Prelude.{◌≡◌, ◌⊎◌, List, [], ◌∷◌, ℕ, ◌+◌, ◌*◌, ◌-◌, ◌<◌, eqb, length, get_or}
use Rattle.std.specs.Int.{w32}
use Rattle.std.proofs.Common.{to_z}
use Rattle.tophat.specs.Syntax.{max_leaves, Ty, Exp, eunit, etruth, enumber, ebinder, eop, eif, epair, efst, esnd, ederef, eassign, elet}
use Rattle.tophat.specs.Syntax.{Code, edit, enter, update, then, next, fail, and, or, xor, view, gate, if, let', vunit, Env, Store}
use Rattle.tophat.specs.Syntax.{TaskOf, filled, blank, entered, shared, before, after, failed, both, either, or_left, or_right, unpicked, picked_left, picked_right, gated, if_true, if_false, bound}
use Rattle.tophat.specs.Typing.{ValueTypes, AllSmall}
use Rattle.rows.specs.Kinds.{cell_k, plain_k, eunit_k, etruth_k, enumber_k, ebinder_k, eop_k, epair_k, efst_k, esnd_k, ederef_k, eassign_k, either_k, if_k, let_k, task_k, edit_k, enter_k, update_k, then_k, next_k, fail_k, and_k, or_k, xor_k, view_k, gate_k}
use Rattle.rows.specs.Rows.{word, op_a, op_b, op_c, OfKind}
use Rattle.rows.specs.Enclosing.{max_binders}
use Rattle.rows.specs.Trees.{ReadsType, operator_of}
use Rattle.state.specs.Layout.{state_words, at, own, one, other, value_words, touch_words}

-- ---- rows that a task takes

-- the task rows below a row, and by which operands they are named
pub data Tree : Type 0 where
  leaf : Tree
  under : ℕ → Tree → Tree
  fork : ℕ → Tree → ℕ → Tree → Tree

abbrev pub tree_of : Code → Tree
tree_of (edit e) = leaf
tree_of (enter τ) = leaf
tree_of (update n) = leaf
tree_of (then a b) = fork 1 (tree_of a) 2 (tree_of b)
tree_of (next a b) = fork 1 (tree_of a) 2 (tree_of b)
tree_of (fail τ) = leaf
tree_of (and a b) = fork 1 (tree_of a) 2 (tree_of b)
tree_of (or a b) = fork 1 (tree_of a) 2 (tree_of b)
tree_of (xor a b) = fork 1 (tree_of a) 2 (tree_of b)
tree_of (view e) = leaf
tree_of (gate r n b) = under 2 (tree_of b)
tree_of (if e a b) = fork 2 (tree_of a) 3 (tree_of b)
tree_of (let' e b) = under 2 (tree_of b)

-- row j is one of them
abbrev pub Foot : List ℕ → ℕ → Tree → ℕ → Type 0
Foot rs i leaf j = j ≡ i
Foot rs i (under k x) j = (j ≡ i) ⊎ Foot rs (word rs i k) x j
Foot rs i (fork k x l y) j = (j ≡ i) ⊎ (Foot rs (word rs i k) x j ⊎ Foot rs (word rs i l) y j)

-- a row and the rows below each operand are apart
pub record Off (rs : List ℕ) (i k : ℕ) (x : Tree) : Type 0 where
  pub off : (j : ℕ) → Foot rs (word rs i k) x j → j ≡ i → ⊥

pub record Split (rs : List ℕ) (i k : ℕ) (x : Tree) (l : ℕ) (y : Tree) : Type 0 where
  pub off_a : (j : ℕ) → Foot rs (word rs i k) x j → j ≡ i → ⊥
  pub off_b : (j : ℕ) → Foot rs (word rs i l) y j → j ≡ i → ⊥
  pub apart : (j : ℕ) → Foot rs (word rs i k) x j → Foot rs (word rs i l) y j → ⊥

-- ---- where a code sits: row i is the expression e, the code c, under d binders

abbrev pub Cell : List ℕ → ℕ → Type 0
Cell rs j = OfKind rs j cell_k

abbrev pub SitsExp : List ℕ → ℕ → ℕ → Exp → Type 0
SitsExp rs d i eunit = OfKind rs i (plain_k eunit_k)
SitsExp rs d i (etruth b) = OfKind rs i (plain_k etruth_k) × (eqb (op_a rs i) 1 ≡ b)
SitsExp rs d i (enumber z) = OfKind rs i (plain_k enumber_k) × (to_z w32 (op_a rs i) ≡ z)
SitsExp rs d i (ebinder k) = OfKind rs i (plain_k ebinder_k) × (op_a rs i ≡ k)
SitsExp rs d i (eop o a b) = OfKind rs i (plain_k eop_k) × (operator_of (op_a rs i) ≡ o) × SitsExp rs d (op_b rs i) a × SitsExp rs d (op_c rs i) b
SitsExp rs d i (eif e a b) = OfKind rs i (either_k if_k) × SitsExp rs d (op_a rs i) e × SitsExp rs d (op_b rs i) a × SitsExp rs d (op_c rs i) b
SitsExp rs d i (epair a b) = OfKind rs i (plain_k epair_k) × SitsExp rs d (op_a rs i) a × SitsExp rs d (op_b rs i) b
SitsExp rs d i (efst a) = OfKind rs i (plain_k efst_k) × SitsExp rs d (op_a rs i) a
SitsExp rs d i (esnd a) = OfKind rs i (plain_k esnd_k) × SitsExp rs d (op_a rs i) a
SitsExp rs d i (ederef k) = OfKind rs i (plain_k ederef_k) × (op_a rs i ≡ k) × Cell rs k
SitsExp rs d i (eassign k a) = OfKind rs i (plain_k eassign_k) × (op_a rs i ≡ k) × Cell rs k × SitsExp rs d (op_b rs i) a
SitsExp rs d i (elet a b) = OfKind rs i (either_k let_k) × SitsExp rs d (op_a rs i) a × SitsExp rs (d + 1) (op_b rs i) b × (d < max_binders)

abbrev pub Sits : List ℕ → ℕ → ℕ → Code → Type 0
Sits rs d i (edit e) = OfKind rs i (task_k edit_k) × SitsExp rs d (op_a rs i) e
Sits rs d i (enter τ) = OfKind rs i (task_k enter_k) × ReadsType rs (op_a rs i) τ
Sits rs d i (update k) = OfKind rs i (task_k update_k) × (op_a rs i ≡ k) × Cell rs k
Sits rs d i (then a b) = OfKind rs i (task_k then_k) × Sits rs d (op_a rs i) a × Sits rs (d + 1) (op_b rs i) b × Split rs i 1 (tree_of a) 2 (tree_of b) × (d < max_binders)
Sits rs d i (next a b) = OfKind rs i (task_k next_k) × Sits rs d (op_a rs i) a × Sits rs (d + 1) (op_b rs i) b × Split rs i 1 (tree_of a) 2 (tree_of b) × (d < max_binders)
Sits rs d i (fail τ) = OfKind rs i (task_k fail_k)
Sits rs d i (and a b) = OfKind rs i (task_k and_k) × Sits rs d (op_a rs i) a × Sits rs d (op_b rs i) b × Split rs i 1 (tree_of a) 2 (tree_of b)
Sits rs d i (or a b) = OfKind rs i (task_k or_k) × Sits rs d (op_a rs i) a × Sits rs d (op_b rs i) b × Split rs i 1 (tree_of a) 2 (tree_of b)
Sits rs d i (xor a b) = OfKind rs i (task_k xor_k) × Sits rs d (op_a rs i) a × Sits rs d (op_b rs i) b × Split rs i 1 (tree_of a) 2 (tree_of b)
Sits rs d i (view e) = OfKind rs i (task_k view_k) × SitsExp rs d (op_a rs i) e
Sits rs d i (gate r n b) = OfKind rs i (task_k gate_k) × (op_a rs i ≡ r) × (op_c rs i ≡ n) × Sits rs d (op_b rs i) b × Off rs i 2 (tree_of b)
Sits rs d i (if e a b) = OfKind rs i (either_k if_k) × SitsExp rs d (op_a rs i) e × Sits rs d (op_b rs i) a × Sits rs d (op_c rs i) b × Split rs i 2 (tree_of a) 3 (tree_of b)
Sits rs d i (let' e b) = OfKind rs i (either_k let_k) × SitsExp rs d (op_a rs i) e × Sits rs (d + 1) (op_b rs i) b × Off rs i 2 (tree_of b) × (d < max_binders)

-- ---- words that hold a task and a store

-- the words of row i are xs, and 0 after them
pub record Row (ws : List ℕ) (i : ℕ) (xs : List ℕ) : Type 0 where
  pub words : (m : ℕ) → m < state_words → at ws i m ≡ get_or xs m 0

-- no row of the tree is live
pub record Clear (rs ws : List ℕ) (i : ℕ) (x : Tree) : Type 0 where
  pub dead : (j : ℕ) → Foot rs i x j → Row ws j []

abbrev pub Holds : List ℕ → List ℕ → ℕ → (c : Code) → TaskOf c → Type 0
Holds rs ws i (edit e) (filled v) = Row ws i (own ∷ value_words v)
Holds rs ws i (enter τ) blank = Row ws i (own ∷ [])
Holds rs ws i (enter τ) (entered v) = Row ws i (one ∷ value_words v)
Holds rs ws i (update n) shared = Row ws i (own ∷ [])
Holds rs ws i (then a b) (before t) = Row ws i (own ∷ []) × Holds rs ws (op_a rs i) a t × Clear rs ws (op_b rs i) (tree_of b)
Holds rs ws i (then a b) (after v u) = Row ws i (one ∷ value_words v) × Clear rs ws (op_a rs i) (tree_of a) × Holds rs ws (op_b rs i) b u
Holds rs ws i (next a b) (before t) = Row ws i (own ∷ []) × Holds rs ws (op_a rs i) a t × Clear rs ws (op_b rs i) (tree_of b)
Holds rs ws i (next a b) (after v u) = Row ws i (one ∷ value_words v) × Clear rs ws (op_a rs i) (tree_of a) × Holds rs ws (op_b rs i) b u
Holds rs ws i (fail τ) failed = Row ws i (own ∷ [])
Holds rs ws i (and a b) (both t u) = Row ws i (own ∷ []) × Holds rs ws (op_a rs i) a t × Holds rs ws (op_b rs i) b u
Holds rs ws i (or a b) (either t u) = Row ws i (own ∷ []) × Holds rs ws (op_a rs i) a t × Holds rs ws (op_b rs i) b u
Holds rs ws i (or a b) (or_left t) = Row ws i (one ∷ []) × Holds rs ws (op_a rs i) a t × Clear rs ws (op_b rs i) (tree_of b)
Holds rs ws i (or a b) (or_right u) = Row ws i (other ∷ []) × Clear rs ws (op_a rs i) (tree_of a) × Holds rs ws (op_b rs i) b u
Holds rs ws i (xor a b) unpicked = Row ws i (own ∷ []) × Clear rs ws (op_a rs i) (tree_of a) × Clear rs ws (op_b rs i) (tree_of b)
Holds rs ws i (xor a b) (picked_left t) = Row ws i (one ∷ []) × Holds rs ws (op_a rs i) a t × Clear rs ws (op_b rs i) (tree_of b)
Holds rs ws i (xor a b) (picked_right u) = Row ws i (other ∷ []) × Clear rs ws (op_a rs i) (tree_of a) × Holds rs ws (op_b rs i) b u
Holds rs ws i (view e) (filled v) = Row ws i (own ∷ value_words v)
Holds rs ws i (gate r n b) (gated k u) = Row ws i (own ∷ touch_words k) × Holds rs ws (op_b rs i) b u
Holds rs ws i (if e a b) (if_true t) = Row ws i (one ∷ []) × Holds rs ws (op_b rs i) a t × Clear rs ws (op_c rs i) (tree_of b)
Holds rs ws i (if e a b) (if_false u) = Row ws i (other ∷ []) × Clear rs ws (op_b rs i) (tree_of a) × Holds rs ws (op_c rs i) b u
Holds rs ws i (let' e b) (bound v u) = Row ws i (one ∷ value_words v) × Holds rs ws (op_b rs i) b u

-- each cell's row holds its content
pub record Stores (rs ws : List ℕ) (s : Store) : Type 0 where
  pub cells : (j : ℕ) → Cell rs j → Row ws j (own ∷ value_words (get_or s j vunit))

-- nothing but rows in P differs
pub record Same (P : ℕ → Type 0) (ws ws₁ : List ℕ) : Type 0 where
  pub words : (j m : ℕ) → m < state_words → (P j → ⊥) → at ws₁ j m ≡ at ws j m

-- the rows of a task, and the cells
abbrev pub Area : List ℕ → ℕ → Code → ℕ → Type 0
Area rs i c j = Foot rs i (tree_of c) j ⊎ Cell rs j

-- ---- environments: the value of the binder at depth k stands at its place among binder values, the outermost first

-- words of a value: its shape and its leaves
abbrev pub value_length : ℕ
value_length = 1 + max_leaves

-- where word m of the value in slot k stands, and the word
abbrev pub slot_place : ℕ → ℕ → ℕ
slot_place k m = k * value_length + m

abbrev pub slot : List ℕ → ℕ → ℕ → ℕ
slot env k m = get_or env (slot_place k m) 0

pub record Binders (env : List ℕ) (d : ℕ) (ρ : Env) : Type 0 where
  pub count : length ρ ≡ d
  pub values : (k m : ℕ) → k < d → m < value_length → slot env (d - 1 - k) m ≡ get_or (value_words (get_or ρ k vunit)) m 0

-- ---- what a call is given, and what it leaves

-- the store that the words hold, the values that env holds, and their types
pub record World (rs ws env : List ℕ) (d : ℕ) (Σ Γ : List Ty) (s : Store) (ρ : Env) : Type 0 where
  pub stores : Stores rs ws s
  pub binders : Binders env d ρ
  pub store_typed : ValueTypes s Σ
  pub binders_typed : ValueTypes ρ Γ
  pub store_small : AllSmall Σ
  pub binders_small : AllSmall Γ

-- ws₁ comes from ws, holds t at row i and the store s, and differs in the task's rows and the cells alone
pub record Ran (rs ws ws₁ : List ℕ) (i : ℕ) (c : Code) (t : TaskOf c) (s : Store) : Type 0 where
  pub holds : Holds rs ws₁ i c t
  pub stores : Stores rs ws₁ s
  pub same : Same (Area rs i c) ws ws₁
