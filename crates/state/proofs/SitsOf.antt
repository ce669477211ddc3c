-- In accepted rows the code of the last row sits there, and whatever safety asks is so: what the calls of a flow start from.
-- Rests on rows' Accepted.
use mathlib.Core.Path.{◌≡◌, refl, sym, ◌∙◌, subst}
use mathlib.Core.Logic.{inl, inr, ⊎_elim}
use mathlib.Core.List.{List, []}
use Prim.Native.Nat.{ℕ, suc, ◌+◌, ◌*◌, ◌-◌, ◌≤◌, ◌<◌}
use native.Mathlib.Decide.{dec_lt}
use native.Mathlib.Omega.{arith}
use native.Mathlib.Numerals.{add-one}
use lib.ListN.{length}
use Rattle.tophat.specs.Syntax.{Ty, Exp, Code, edit, enter, update, then, next, fail, and, or, xor, view, gate, if, let', TaskOf, Store}
use Rattle.tophat.specs.Typing.{ValueTypes, v_nil, TaskType, small_nil}
use Rattle.rows.specs.Rows.{max_rows, word, op_a, op_b, op_c, LowWords}
use Rattle.rows.specs.Enclosing.{max_binders}
use Rattle.rows.specs.Trees.{ReadsCell, r_cell, ReadsExp, r_eunit, r_etruth, r_enumber, r_ebinder, r_eop, r_eif, r_epair, r_efst, r_esnd, r_ederef, r_eassign, r_elet}
use Rattle.rows.specs.Trees.{ReadsCode, r_edit, r_enter, r_update, r_then, r_next, r_fail, r_and, r_or, r_xor, r_view, r_gate, r_if, r_let}
use Rattle.rows.specs.Fits.{FitsExp, FitsCode}
use Rattle.rows.proofs.TaskFoot.{TaskFoot, Split as Apart, Splits}
use Rattle.rows.proofs.CellsAt.{cells_small}
use Rattle.rows.specs.Accepted.{AcceptedRows}
use Rattle.rows.proofs.Accepted.{facts}
use Rattle.state.specs.Layout.{state_words, encode}
use Rattle.state.specs.Holds.{tree_of, Foot, Split, Cell, SitsExp, Sits, Stores, World}
use Rattle.state.specs.Ensured.{Fine}
use Rattle.state.proofs.Writes.{Within}
use Rattle.state.proofs.Encode.{encode_writing, writing_one}
use Rattle.state.specs.Writing.{Writing}
use Rattle.state.proofs.OneState.{holds_one, stores_one}
use Rattle.state.proofs.Typed.{fits_typed, store_short}

under_binder : (d : ℕ) (b : Code) → FitsCode (suc d) b → FitsCode (d + 1) b
under_binder d b f = subst (λ m. FitsCode m b) (sym (add-one d)) f

module _ (rs : List ℕ) where
  cell : {i : ℕ} {τ : Ty} → ReadsCell rs i τ → Cell rs i
  cell (r_cell k x d) = k

  pub sits_exp : (d : ℕ) {i : ℕ} {e : Exp} → ReadsExp rs i e → FitsExp d e → SitsExp rs d i e
  sits_exp d (r_eunit k) f = k
  sits_exp d (r_etruth k) f = (k, refl)
  sits_exp d (r_enumber k) f = (k, refl)
  sits_exp d (r_ebinder k) f = (k, refl)
  sits_exp d (r_eop k x y a b) f = (k, refl, sits_exp d a f.0, sits_exp d b f.1)
  sits_exp d (r_eif k x y z e a b) f = (k, sits_exp d e f.0, sits_exp d a f.1, sits_exp d b f.2)
  sits_exp d (r_epair k x y a b) f = (k, sits_exp d a f.0, sits_exp d b f.1)
  sits_exp d (r_efst k x a) f = (k, sits_exp d a f)
  sits_exp d (r_esnd k x a) f = (k, sits_exp d a f)
  sits_exp d (r_ederef k x c) f = (k, refl, cell c)
  sits_exp d (r_eassign k x y c a) f = (k, refl, cell c, sits_exp d a f)
  sits_exp d (r_elet {b = b} k x y a g) f = (k, sits_exp d a f.0, sits_exp (d + 1) g (subst (λ m. FitsExp m b) (sym (add-one d)) f.2), f.1)

  -- the rows of a tree are the task rows of its code
  tree_foot : (i : ℕ) (c : Code) (j : ℕ) → Foot rs i (tree_of c) j → TaskFoot rs i c j
  tree_foot i (edit e) j f = f
  tree_foot i (enter τ) j f = f
  tree_foot i (update k) j f = f
  tree_foot i (then a b) j f = ⊎_elim inl (λ g. inr (⊎_elim (λ h. inl (tree_foot (op_a rs i) a j h)) (λ h. inr (tree_foot (op_b rs i) b j h)) g)) f
  tree_foot i (next a b) j f = ⊎_elim inl (λ g. inr (⊎_elim (λ h. inl (tree_foot (op_a rs i) a j h)) (λ h. inr (tree_foot (op_b rs i) b j h)) g)) f
  tree_foot i (fail τ) j f = f
  tree_foot i (and a b) j f = ⊎_elim inl (λ g. inr (⊎_elim (λ h. inl (tree_foot (op_a rs i) a j h)) (λ h. inr (tree_foot (op_b rs i) b j h)) g)) f
  tree_foot i (or a b) j f = ⊎_elim inl (λ g. inr (⊎_elim (λ h. inl (tree_foot (op_a rs i) a j h)) (λ h. inr (tree_foot (op_b rs i) b j h)) g)) f
  tree_foot i (xor a b) j f = ⊎_elim inl (λ g. inr (⊎_elim (λ h. inl (tree_foot (op_a rs i) a j h)) (λ h. inr (tree_foot (op_b rs i) b j h)) g)) f
  tree_foot i (view e) j f = f
  tree_foot i (gate r n b) j f = ⊎_elim inl (λ g. inr (tree_foot (op_b rs i) b j g)) f
  tree_foot i (if e a b) j f = ⊎_elim inl (λ g. inr (⊎_elim (λ h. inl (tree_foot (op_b rs i) a j h)) (λ h. inr (tree_foot (op_c rs i) b j h)) g)) f
  tree_foot i (let' e b) j f = ⊎_elim inl (λ g. inr (tree_foot (op_b rs i) b j g)) f

  split : (i k l : ℕ) (a b : Code) → Apart rs i (word rs i k) (word rs i l) a b → Split rs i k (tree_of a) l (tree_of b)
  split i k l a b s = record {
    off_a = λ j f. s.left j (tree_foot (word rs i k) a j f);
    off_b = λ j f. s.right j (tree_foot (word rs i l) b j f);
    apart = λ j f g. s.apart j (tree_foot (word rs i k) a j f) (tree_foot (word rs i l) b j g);
  }

  pub sits : (d : ℕ) {i : ℕ} {c : Code} → ReadsCode rs i c → FitsCode d c → Splits rs i c → Sits rs d i c
  sits d (r_edit k x a) f s = (k, sits_exp d a f)
  sits d (r_enter k x t) f s = (k, t)
  sits d (r_update k x c) f s = (k, refl, cell c)
  sits d {i} (r_then {a = a} {b = b} k x y g h) f s = (k, sits d g f.0 s.1, sits (d + 1) h (under_binder d b f.2) s.2, split i 1 2 a b s.0, f.1)
  sits d {i} (r_next {a = a} {b = b} k x y g h) f s = (k, sits d g f.0 s.1, sits (d + 1) h (under_binder d b f.2) s.2, split i 1 2 a b s.0, f.1)
  sits d (r_fail k x t) f s = k
  sits d {i} (r_and {a = a} {b = b} k x y g h) f s = (k, sits d g f.0 s.1, sits d h f.1 s.2, split i 1 2 a b s.0)
  sits d {i} (r_or {a = a} {b = b} k x y g h) f s = (k, sits d g f.0 s.1, sits d h f.1 s.2, split i 1 2 a b s.0)
  sits d {i} (r_xor {a = a} {b = b} k x y g h) f s = (k, sits d g f.0 s.1, sits d h f.1 s.2, split i 1 2 a b s.0)
  sits d (r_view k x a) f s = (k, sits_exp d a f)
  sits d {i} (r_gate {b = b} k x g) f s = (k, refl, refl, sits d g f s.1, record { off = λ j h. s.0.below j (tree_foot (op_b rs i) b j h) })
  sits d {i} (r_if {b = a} {c = b} k x y z e g h) f s = (k, sits_exp d e f.0, sits d g f.1 s.1, sits d h f.2 s.2, split i 2 3 a b s.0)
  sits d {i} (r_let {b = b} k x y e g) f s =
      (k, sits_exp d e f.0, sits (d + 1) g (under_binder d b f.2) s.1, record { off = λ j h. s.0.below j (tree_foot (op_b rs i) b j h) }, f.1)

-- ---- accepted rows, in an array whose other rows are of kind 0

module _ (rs : List ℕ) (n : ℕ) (a : AcceptedRows rs n) where
  pub last_sits : Sits rs 0 (n - 1) a.code
  last_sits = sits rs 0 a.flow.code (facts a).binders (facts a).apart

  module _ (rest : (j : ℕ) → n ≤ j → word rs j 0 ≡ 0) where
    pub within : Within rs n
    within j h = by (dec_lt j n)
      where
        by : Dec (j < n) → j < n
        by (yes l) = l
        by (no m) = absurd (omega (arith, rest j (omega arith)))

    pub fine : (i d : ℕ) → i < max_rows → d ≤ max_binders → Fine rs i d
    fine i d l h = record { low = l; room = h; lower = λ j m. by j (dec_lt j n) }
      where
        by : (j : ℕ) → Dec (j < n) → LowWords rs j
        by j (yes k) = (facts a).low j k
        by j (no m) =
            let z = rest j (omega arith) in
            record { low_a = λ h u. absurd (omega arith); low_b = λ h. absurd (omega arith); low_c = λ h u. absurd (omega arith) }

    -- a state of the flow is written in one way
    module _ {t : TaskOf a.code} {s : Store} {τ : Ty} (k : TaskType a.cells [] a.code t τ) (h : ValueTypes s a.cells) where
      pub state_writing : Writing rs (n - 1) a.code t s (encode rs n a.code t s) × (length (encode rs n a.code t s) ≡ n * state_words)
      state_writing =
          let g = cells_small a.flow.cells in
          encode_writing rs n 0 a.code t s within last_sits (fits_typed k g small_nil) (store_short h g)

      pub state_is : {ws : List ℕ} → length ws ≡ n * state_words → Writing rs (n - 1) a.code t s ws → ws ≡ encode rs n a.code t s
      state_is l w = let (v, m) = state_writing in writing_one (l ∙ sym m) w v

    -- and is the state of one task and one store
    pub state_one : {t t₁ : TaskOf a.code} {s s₁ : Store} {τ τ₁ : Ty} → TaskType a.cells [] a.code t τ → TaskType a.cells [] a.code t₁ τ₁
        → ValueTypes s a.cells → ValueTypes s₁ a.cells → encode rs n a.code t s ≡ encode rs n a.code t₁ s₁ → (t ≡ t₁) × (s ≡ s₁)
    state_one {t₁ = t₁} {s₁ = s₁} k k₁ h h₁ e =
        let ws = encode rs n a.code t₁ s₁ in
        let w = subst (Writing rs (n - 1) a.code _ _) e (state_writing k h).0 in
        let w₁ = (state_writing k₁ h₁).0 in
        (holds_one rs ws (cells_small a.flow.cells) (n - 1) a.code k k₁ small_nil small_nil w.holds w₁.holds, stores_one a.flow.cells h h₁ w.stores w₁.stores)

  -- the world of a flow: the cells' types, and no binder
  pub world : {ws env : List ℕ} {s : Store} → Stores rs ws s → ValueTypes s a.cells → World rs ws env 0 a.cells [] s []
  world h t = record {
    stores = h;
    binders = record { count = refl; values = λ k m l. absurd (omega arith) };
    store_typed = t;
    binders_typed = v_nil;
    store_small = cells_small a.flow.cells;
    binders_small = small_nil;
  }
