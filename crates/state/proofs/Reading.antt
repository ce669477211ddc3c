-- `decode` reads a state from its writing, and from nothing else (01, ground 22): it gives a task and a store exactly where
-- they are well typed and the words are their writing. Rests on SitsOf, Encode, OneState and the calculus' typing.
use mathlib.Core.Path.{◌≡◌, refl, sym, ap, ap₂, ◌∙◌, subst}
use mathlib.Core.Bool.{Bool, true, false, ◌&&◌, cond, false≢true}
use mathlib.Core.Option.{Option, none, some, bind}
use mathlib.Core.Logic.{⊎_elim}
use mathlib.Core.List.{List, [], ◌∷◌, ◌++◌}
use Prim.Native.Nat.{ℕ, zero, suc, ◌-◌, ◌≤◌, ◌<◌}
use native.Mathlib.Nat.{eq-or-lt_of_le, le_of_suc-le-suc}
use native.Mathlib.Omega.{arith}
use lib.Dec.{eqb, leb}
use lib.ListN.{length, get_or, take, length-append, get_or-append}
use lib.Seq.{take_all, take-suc, get_or-append_seam}
use borrow.Author.Tests.{eqb-true, eq-eqb, leb-true, le-leb}
use Rattle.match_laws.proofs.Ranges.{and_left, and_right}
use Rattle.tophat.specs.Syntax.{max_leaves, Ty, unit, truth, number, leaves, Code, edit, enter, update, then, next, fail, and, or, xor, view, gate, if, let', Val, vunit, Store, TaskOf}
use Rattle.tophat.specs.Typing.{CodeType, t_edit, t_enter, t_update, t_then, t_next, t_fail, t_and, t_or, t_xor, t_view, t_gate, t_if_task, t_let_task, ValueType, v_unit, ValueTypes, v_nil, AllSmall, small_nil, small_cons}
use Rattle.tophat.specs.Typing.{TaskType, k_filled, k_blank, k_entered, k_shared, k_then_before, k_then_after, k_next_before, k_next_after, k_failed, k_both, k_either, k_or_left, k_or_right}
use Rattle.tophat.specs.Typing.{k_unpicked, k_picked_left, k_picked_right, k_viewed, k_gated, k_if_true, k_if_false, k_bound}
use Rattle.tophat.proofs.Basics.{All, all_none, all_some, all_is}
use Rattle.tophat.proofs.TypingAgrees.{infer_is, infer_task_is, bind_all}
use Rattle.tophat.proofs.TypeLeaves.{type_leaves, task_type_leaves}
use Rattle.tophat.proofs.Leaves.{given_gives}
use Rattle.shape.specs.Shape.{as_shape}
use Rattle.value.specs.Fits.{value_in}
use Rattle.value.proofs.Fitting.{value_in_lem}
use Rattle.rows.specs.Kinds.{type_k, truth_k, cell_k}
use Rattle.rows.specs.Rows.{word, op_a, op_b, op_c, is_kind}
use Rattle.rows.specs.ComputeTrees.{cell_type, cell_types}
use Rattle.rows.proofs.CellsAt.{more_values, cells_small}
use Rattle.rows.proofs.TreesAgree.{cells_are}
use Rattle.rows.specs.Accepted.{AcceptedRows}
use Rattle.state.specs.Layout.{at, own, one, other, value_words, touch_words, encode}
use Rattle.state.specs.Holds.{Row, Holds, Stores}
use Rattle.state.specs.Words.{value_at}
use Rattle.state.specs.Reading.{read_value, read_touches, by_tag, read_task, cell_at, read_store, same, decode}
use Rattle.state.proofs.Words.{value_at_lem}
use Rattle.state.specs.Writing.{Writing}
use Rattle.state.proofs.OneState.{typed_at, only_unit, types_length}
use Rattle.state.proofs.SitsOf.{state_writing}

-- ---- answers

all_of : {X : Type 0} {P : X → Type 0} (o : Option X) → ((x : X) → o ≡ some x → P x) → All P o
all_of none h = all_none
all_of (some x) h = all_some (h x refl)

cond_all : {X : Type 0} {P : X → Type 0} {x y : Option X} (b : Bool) → (b ≡ true → All P x) → (b ≡ false → All P y) → All P (cond b x y)
cond_all true f g = f refl
cond_all false f g = g refl

-- ---- a value

value_all : (ws : List ℕ) (i : ℕ) (τ : Ty) → All (λ v. ValueType v τ) (read_value ws i τ)
unfolding read_value value_in
value_all ws i τ = cond_all (eqb (value_at ws i).shape (as_shape τ)) (λ e. all_of _ (λ v h. (given_gives τ h).typed)) (λ e. all_none)

-- what a row holds is read
pub value_read : {ws : List ℕ} {i x : ℕ} {v : Val} {τ : Ty} → Row ws i (x ∷ value_words v) → ValueType v τ → leaves τ ≤ max_leaves → read_value ws i τ ≡ some v
unfolding read_value
value_read {ws} {i} {v = v} {τ = τ} r t l = value_in_lem (value_at ws i) τ v t (value_at_lem r t l)

-- ---- touches left

touches_all : (ws : List ℕ) (i n : ℕ) → All (λ k. k ≤ n) (read_touches ws i n)
unfolding read_touches
touches_all ws i n =
    cond_all (eqb (at ws i 1) (as_shape number) && leb (at ws i 2) n) (λ e. all_some (leb-true (at ws i 2) n (and_right (eqb (at ws i 1) (as_shape number)) _ e))) (λ e. all_none)

pub touches_read : {ws : List ℕ} {i k n : ℕ} → Row ws i (own ∷ touch_words k) → k ≤ n → read_touches ws i n ≡ some k
unfolding read_touches
touches_read {ws} {i} {k} {n} r l =
    let e = r.words 1 (omega arith) in
    let f = r.words 2 (omega arith) in
    let u = eq-eqb (as_shape number) (as_shape number) refl in
    rw (e, f, le-leb k n l, u)

-- ---- a task

tag_all : {X : Type 0} {x y z : Option X} {P : X → Type 0} (ws : List ℕ) (i : ℕ) → All P x → All P y → All P z → All P (by_tag ws i x y z)
unfolding by_tag
tag_all ws i p q r = cond_all (eqb (at ws i 0) own) (λ e. p) (λ e. cond_all (eqb (at ws i 0) one) (λ e. q) (λ e. cond_all (eqb (at ws i 0) other) (λ e. r) (λ e. all_none)))

tag : {ws : List ℕ} {i x : ℕ} {xs : List ℕ} → Row ws i (x ∷ xs) → at ws i 0 ≡ x
tag r = r.words 0 (omega arith)

module _ (rs ws : List ℕ) {Σ : List Ty} where
  read_all : {Γ : List Ty} {τ : Ty} (i : ℕ) {c : Code} → CodeType Σ Γ c τ → All (λ t. TaskType Σ Γ c t τ) (read_task rs ws Σ Γ i c)
  unfolding read_task bind
  read_all i (t_edit d) = tag_all ws i (let q = infer_is d in rw q (bind_all (value_all ws i _) λ v k. all_some (k_filled d k))) all_none all_none
  read_all i (t_enter l) = tag_all ws i (all_some (k_blank l)) (bind_all (value_all ws i _) λ v k. all_some (k_entered l k)) all_none
  read_all i (t_update h) = tag_all ws i (all_some (k_shared h)) all_none all_none
  read_all i (t_then d e) = tag_all ws i
      (bind_all (read_all (op_a rs i) d) λ t k. all_some (k_then_before k e))
      (let q = infer_task_is d in rw q (bind_all (value_all ws i _) λ v p. bind_all (read_all (op_b rs i) e) λ u k. all_some (k_then_after d p k)))
      all_none
  read_all i (t_next d e) = tag_all ws i
      (bind_all (read_all (op_a rs i) d) λ t k. all_some (k_next_before k e))
      (let q = infer_task_is d in rw q (bind_all (value_all ws i _) λ v p. bind_all (read_all (op_b rs i) e) λ u k. all_some (k_next_after d p k)))
      all_none
  read_all i (t_fail l) = tag_all ws i (all_some (k_failed l)) all_none all_none
  read_all i (t_and d e l) = tag_all ws i (bind_all (read_all (op_a rs i) d) λ t k. bind_all (read_all (op_b rs i) e) λ u m. all_some (k_both k m l)) all_none all_none
  read_all i (t_or d e) = tag_all ws i
      (bind_all (read_all (op_a rs i) d) λ t k. bind_all (read_all (op_b rs i) e) λ u m. all_some (k_either k m))
      (bind_all (read_all (op_a rs i) d) λ t k. all_some (k_or_left k e))
      (bind_all (read_all (op_b rs i) e) λ u m. all_some (k_or_right d m))
  read_all i (t_xor d e) = tag_all ws i
      (all_some (k_unpicked d e))
      (bind_all (read_all (op_a rs i) d) λ t k. all_some (k_picked_left k e))
      (bind_all (read_all (op_b rs i) e) λ u m. all_some (k_picked_right d m))
  read_all i (t_view d) = tag_all ws i (let q = infer_is d in rw q (bind_all (value_all ws i _) λ v k. all_some (k_viewed d k))) all_none all_none
  read_all i (t_gate {n = n} d) = tag_all ws i (bind_all (touches_all ws i n) λ k l. bind_all (read_all (op_b rs i) d) λ u m. all_some (k_gated l m)) all_none all_none
  read_all i (t_if_task x d e) = tag_all ws i
      all_none
      (bind_all (read_all (op_b rs i) d) λ t k. all_some (k_if_true x k e))
      (bind_all (read_all (op_c rs i) e) λ u m. all_some (k_if_false x d m))
  read_all i (t_let_task d e) = tag_all ws i
      all_none
      (let q = infer_is d in rw q (bind_all (value_all ws i _) λ v p. bind_all (read_all (op_b rs i) e) λ u k. all_some (k_bound d p k)))
      all_none

  -- a task that is read is well typed
  pub read_typed : {Γ : List Ty} {τ : Ty} (i : ℕ) {c : Code} {t : TaskOf c} → CodeType Σ Γ c τ → read_task rs ws Σ Γ i c ≡ some t → TaskType Σ Γ c t τ
  read_typed i d e = all_is (read_all i d) e

  -- a well-typed task that the words hold is read
  module _ (g : AllSmall Σ) where
    pub holds_read : {Γ : List Ty} {τ : Ty} (i : ℕ) (c : Code) {t : TaskOf c} → TaskType Σ Γ c t τ → AllSmall Γ → Holds rs ws i c t → read_task rs ws Σ Γ i c ≡ some t
    unfolding read_task by_tag bind
    holds_read i (edit e) (k_filled d v) h p = let k = tag p in let q = infer_is d in let r = value_read p v (type_leaves d g h) in rw (k, q, r)
    holds_read i (enter τ) (k_blank l) h p = let k = tag p in rw k
    holds_read i (enter τ) (k_entered l v) h p = let k = tag p in let r = value_read p v l in rw (k, r)
    holds_read i (update n) (k_shared d) h p = let k = tag p in rw k
    holds_read i (then a b) (k_then_before d e) h p = let k = tag p.0 in let q = holds_read (op_a rs i) a d h p.1 in rw (k, q)
    holds_read i (then a b) (k_then_after d v e) h p =
        let l = task_type_leaves d g h in
        let k = tag p.0 in
        let q = infer_task_is d in
        let r = value_read p.0 v l in
        let u = holds_read (op_b rs i) b e (small_cons l h) p.2 in
        rw (k, q, r, u)
    holds_read i (next a b) (k_next_before d e) h p = let k = tag p.0 in let q = holds_read (op_a rs i) a d h p.1 in rw (k, q)
    holds_read i (next a b) (k_next_after d v e) h p =
        let l = task_type_leaves d g h in
        let k = tag p.0 in
        let q = infer_task_is d in
        let r = value_read p.0 v l in
        let u = holds_read (op_b rs i) b e (small_cons l h) p.2 in
        rw (k, q, r, u)
    holds_read i (fail τ) (k_failed l) h p = let k = tag p in rw k
    holds_read i (and a b) (k_both d e l) h p = let k = tag p.0 in let q = holds_read (op_a rs i) a d h p.1 in let r = holds_read (op_b rs i) b e h p.2 in rw (k, q, r)
    holds_read i (or a b) (k_either d e) h p = let k = tag p.0 in let q = holds_read (op_a rs i) a d h p.1 in let r = holds_read (op_b rs i) b e h p.2 in rw (k, q, r)
    holds_read i (or a b) (k_or_left d e) h p = let k = tag p.0 in let q = holds_read (op_a rs i) a d h p.1 in rw (k, q)
    holds_read i (or a b) (k_or_right d e) h p = let k = tag p.0 in let q = holds_read (op_b rs i) b e h p.2 in rw (k, q)
    holds_read i (xor a b) (k_unpicked d e) h p = let k = tag p.0 in rw k
    holds_read i (xor a b) (k_picked_left d e) h p = let k = tag p.0 in let q = holds_read (op_a rs i) a d h p.1 in rw (k, q)
    holds_read i (xor a b) (k_picked_right d e) h p = let k = tag p.0 in let q = holds_read (op_b rs i) b e h p.2 in rw (k, q)
    holds_read i (view e) (k_viewed d v) h p = let k = tag p in let q = infer_is d in let r = value_read p v (type_leaves d g h) in rw (k, q, r)
    holds_read i (gate r n b) (k_gated l d) h p = let k = tag p.0 in let q = touches_read p.0 l in let u = holds_read (op_b rs i) b d h p.1 in rw (k, q, u)
    holds_read i (if x a b) (k_if_true z d e) h p = let k = tag p.0 in let q = holds_read (op_b rs i) a d h p.1 in rw (k, q)
    holds_read i (if x a b) (k_if_false z d e) h p = let k = tag p.0 in let q = holds_read (op_c rs i) b e h p.2 in rw (k, q)
    holds_read i (let' x b) (k_bound d v e) h p =
        let l = type_leaves d g h in
        let k = tag p.0 in
        let q = infer_is d in
        let r = value_read p.0 v l in
        let u = holds_read (op_b rs i) b e (small_cons l h) p.1 in
        rw (k, q, r, u)

-- ---- a store

module _ (rs ws : List ℕ) where
  no_cell : (i : ℕ) → is_kind rs i cell_k ≡ false → cell_type rs i ≡ unit
  unfolding cell_type
  no_cell i e = rw e

  pub cell_small : (i : ℕ) → leaves (cell_type rs i) ≤ max_leaves
  unfolding cell_type leaves
  cell_small i = by (is_kind rs i cell_k) (is_kind rs (op_a rs i) (type_k truth_k))
    where
      by : (x y : Bool) → leaves (cond x (cond y truth number) unit) ≤ max_leaves
      by true true = omega arith
      by true false = omega arith
      by false y = omega arith

  cell_all : (i : ℕ) → All (λ v. ValueType v (cell_type rs i)) (cell_at rs ws i)
  cell_all i = cond_all (is_kind rs i cell_k) (λ e. value_all ws i (cell_type rs i)) (λ e. all_some (subst (ValueType vunit) (sym (no_cell i e)) v_unit))

  store_all : (n : ℕ) → All (λ s. ValueTypes s (cell_types rs n)) (read_store rs ws n)
  unfolding read_store cell_types
  store_all zero = all_some v_nil
  store_all (suc i) = bind_all (store_all i) λ s p. bind_all (cell_all i) λ v q. all_some (more_values p q)

  -- a store that is read is of the cells' types
  pub store_typed : (n : ℕ) {s : Store} → read_store rs ws n ≡ some s → ValueTypes s (cell_types rs n)
  store_typed n e = all_is (store_all n) e

  cells_long : (n : ℕ) → length (cell_types rs n) ≡ n
  unfolding cell_types
  cells_long zero = refl
  cells_long (suc i) = length-append (cell_types rs i) (cell_type rs i ∷ []) ∙ (let e = cells_long i in omega arith)

  pub cell_type_at : (n k : ℕ) → k < n → get_or (cell_types rs n) k unit ≡ cell_type rs k
  unfolding cell_types
  cell_type_at zero k l = absurd (omega arith)
  cell_type_at (suc i) k l = ⊎_elim
      (λ (e : k ≡ i). ap (λ m. get_or (cell_types rs i ++ cell_type rs i ∷ []) m unit) (e ∙ sym (cells_long i)) ∙ get_or-append_seam (cell_types rs i) (cell_type rs i) [] unit ∙ ap (cell_type rs) (sym e))
      (λ (h : k < i). get_or-append (cell_types rs i) (cell_type rs i ∷ []) unit k (let e = cells_long i in omega arith) ∙ cell_type_at i k h)
      (eq-or-lt_of_le (le_of_suc-le-suc l))

  -- a store of the cells' types that the words hold is read
  module _ (n : ℕ) {s : Store} (h : ValueTypes s (cell_types rs n)) (w : Stores rs ws s) where
    long : length s ≡ n
    long = types_length h ∙ cells_long n

    cell_held : (k : ℕ) → k < n → cell_at rs ws k ≡ some (get_or s k vunit)
    cell_held k l = by (is_kind rs k cell_k) refl
      where
        typed : ValueType (get_or s k vunit) (cell_type rs k)
        typed = subst (ValueType (get_or s k vunit)) (cell_type_at n k l) (typed_at h k)

        by : (b : Bool) → is_kind rs k cell_k ≡ b → cond b (read_value ws k (cell_type rs k)) (some vunit) ≡ some (get_or s k vunit)
        by true e = value_read (w.cells k (eqb-true _ _ e)) typed (cell_small k)
        by false e = ap some (sym (only_unit typed (no_cell k e)))

    front_read : (k : ℕ) → k ≤ n → read_store rs ws k ≡ some (take k s)
    unfolding read_store bind
    front_read zero l = refl
    front_read (suc k) l = let p = front_read k (omega arith) in let q = cell_held k l in rw (p, q) (ap some (sym (take-suc s k vunit (let e = long in omega arith))))

    pub stores_read : read_store rs ws n ≡ some s
    stores_read = front_read n (omega arith) ∙ ap some (take_all n s (let e = long in omega arith))

-- ---- words that are the same

pub same_true : (xs ys : List ℕ) → same xs ys ≡ true → xs ≡ ys
unfolding same
same_true [] [] e = refl
same_true [] (y ∷ ys) e = absurd (false≢true e)
same_true (x ∷ xs) [] e = absurd (false≢true e)
same_true (x ∷ xs) (y ∷ ys) e = ap₂ ◌∷◌ (eqb-true x y (and_left (eqb x y) (same xs ys) e)) (same_true xs ys (and_right (eqb x y) (same xs ys) e))

pub same_self : (xs : List ℕ) → same xs xs ≡ true
unfolding same
same_self [] = refl
same_self (x ∷ xs) = let e = same_self xs in let f = eq-eqb x x refl in rw (f, e)

-- ---- states

-- the cells' types of accepted rows, computed
pub cells_types : {rs : List ℕ} {n : ℕ} (a : AcceptedRows rs n) → a.cells ≡ cell_types rs n
cells_types a = (cells_are a.flow.cells).0

module _ (rs : List ℕ) (n : ℕ) (a : AcceptedRows rs n) (ws : List ℕ) where
  -- the words are the writing of a well-typed task and store
  pub record Written (t : TaskOf a.code) (s : Store) : Type 0 where
    pub typed : TaskType a.cells [] a.code t a.type
    pub stored : ValueTypes s a.cells
    pub writing : ws ≡ encode rs n a.code t s

  decode_all : All (λ q. Written q.0 q.1) (decode rs n a.code a.cells ws)
  unfolding decode
  decode_all = bind_all (store_all rs ws n) λ s p. bind_all (read_all rs ws (n - 1) a.flow.typed) λ t k. cond_all (same (encode rs n a.code t s) ws)
      (λ e. all_some (record { typed = k; stored = subst (ValueTypes s) (sym (cells_types a)) p; writing = sym (same_true _ _ e) })) (λ e. all_none)

  -- what is decoded is well typed, and these are its words
  pub decode_sound : {t : TaskOf a.code} {s : Store} → decode rs n a.code a.cells ws ≡ some (t, s) → Written t s
  decode_sound e = all_is decode_all e

  module _ (rest : (j : ℕ) → n ≤ j → word rs j 0 ≡ 0) where
    -- the words of a well-typed state are decoded to it
    pub decode_is : {t : TaskOf a.code} {s : Store} → Written t s → decode rs n a.code a.cells ws ≡ some (t, s)
    unfolding decode bind
    decode_is {t} {s} w =
        let v : Writing rs (n - 1) a.code t s ws = subst (Writing rs (n - 1) a.code t s) (sym w.writing) (state_writing rs n a rest w.typed w.stored).0 in
        let g = cells_small a.flow.cells in
        let p = stores_read rs ws n (subst (ValueTypes s) (cells_types a) w.stored) v.stores in
        let q = holds_read rs ws g (n - 1) a.code w.typed small_nil v.holds in
        let e : same (encode rs n a.code t s) ws ≡ true = ap (same (encode rs n a.code t s)) w.writing ∙ same_self (encode rs n a.code t s) in
        rw (p, q, e)
