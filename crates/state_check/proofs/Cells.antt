-- Copying a value and the cells: what copy_value, copy_cell and copy_cells give. Rests on Copying and crate
-- value's fits.
use mathlib.Core.Path.{◌≡◌, refl, sym, ap, subst, ◌∙◌}
use mathlib.Core.Bool.{Bool, true, false, not, cond, false≢true}
use mathlib.Core.Logic.{⊎_elim}
use mathlib.Core.Option.{Option, none, some, bind}
use mathlib.Core.List.{List, [], ◌∷◌, ◌++◌}
use Prim.Native.Nat.{ℕ, zero, suc, ◌+◌, ◌-◌, ◌<◌, ◌≤◌}
use native.Mathlib.Nat.{eq-or-lt_of_le, le_of_suc-le-suc}
use native.Mathlib.Numerals.{add-one}
use native.Mathlib.Omega.{arith}
use lib.ListN.{get_or, length-append, get_or-append}
use lib.Seq.{get_or-append_seam}
use borrow.Author.Tests.{not-true, not-false, eq-eqb, ne_eqb, le-leb, lt-leb}
use Rattle.word.specs.Word.{AllBits}
use Rattle.tophat.specs.Syntax.{number, Val, vunit, Store}
use Rattle.shape.specs.Shape.{as_shape}
use Rattle.rows.specs.Kinds.{cell_k, number_of}
use Rattle.rows.specs.Rows.{word}
use Rattle.rows.specs.ComputeTrees.{content_type, cell_type}
use Rattle.value.specs.declared.Value.{Value}
use Rattle.value.specs.Values.{as_value}
use Rattle.value.specs.Fits.{Got, got_none, got_some, value_for, fits_in}
use Rattle.value.proofs.Fitting.{fits_got}
use Rattle.state.specs.Layout.{at, own, value_words, touch_words}
use Rattle.state.specs.Holds.{Cell, Row}
use Rattle.state.specs.Words.{words_of, Laid, value_at}
use Rattle.state.specs.Reading.{read_value, read_touches, read_store}
use Rattle.state.proofs.Words.{laid_as}
use Rattle.state.proofs.Frames.{same_refl, same_trans, same_weak, same_row}
use Rattle.state.proofs.Reading.{cell_small}
use Rattle.state_check.specs.Copies.{ValueOk, TouchesOk, CopyCell, CellOk, CopyCells, CellsOk}
use Rattle.state_check.proofs.Copying.{got_map, got_bind, got_as, value_ok}

-- ---- a value

module _ (ws : List ℕ) (i s : ℕ) {v : Value} {q : Bool} (h : v ≡ value_at ws i) (w : q ≡ true → AllBits v.leaves) (f : q ≡ fits_in v s) where
  -- what the row holds is what v is
  read_in : Got q (λ u. v ≡ as_value u) (value_for (value_at ws i) s)
  read_in = subst (λ o. Got q (λ u. v ≡ as_value u) (value_for o s)) h (fits_got v s q w f)

  pub copy_value_yes : {y y₁ : List ℕ} {x : ℕ} → q ≡ true → Laid y y₁ i (x ∷ words_of v) → ValueOk ws y y₁ i x s true
  copy_value_yes e l = record { got = got_as e (λ u g. laid_as u l g) read_in }

  pub copy_value_no : {y : List ℕ} {x : ℕ} → q ≡ false → ValueOk ws y y i x s false
  copy_value_no e = record { got = no read_in }
    where
      no : {X : Type 0} {Q R : X → Type 0} {o : Option X} → Got q Q o → Got false R o
      no (got_none z) = got_none refl
      no (got_some z g) = absurd (false≢true (sym e ∙ z))

-- ---- touches left

module _ (ws : List ℕ) (i n : ℕ) {s : ℕ} (hs : s ≡ at ws i 1) where
  shape_off : (s ≡ as_shape number → ⊥) → read_touches ws i n ≡ none
  unfolding read_touches
  shape_off o = let e = ne_eqb (at ws i 1) (as_shape number) (λ z. o (hs ∙ z)) in rw e

  pub touches_shape : {y : List ℕ} → (s ≡ as_shape number → ⊥) → TouchesOk ws y y i n false
  touches_shape {y} o = record { got = subst (Got false (λ k. Laid y y i (own ∷ touch_words k))) (sym (shape_off o)) (got_none refl) }

  module _ {k : ℕ} (hk : k ≡ at ws i 2) (is : s ≡ as_shape number) where
    pub touches_more : {y : List ℕ} → n < k → TouchesOk ws y y i n false
    unfolding read_touches
    touches_more {y} l = record { got = subst (Got false (λ k. Laid y y i (own ∷ touch_words k))) (sym none_read) (got_none refl) }
      where
        none_read : read_touches ws i n ≡ none
        none_read = let e = eq-eqb (at ws i 1) (as_shape number) (sym hs ∙ is) in let f = lt-leb (at ws i 2) n (subst (λ m. n < m) hk l) in rw (e, f)

    pub touches_yes : {y y₁ : List ℕ} → k ≤ n → Laid y y₁ i (own ∷ touch_words k) → TouchesOk ws y y₁ i n true
    unfolding read_touches
    touches_yes {y} {y₁} l p = record { got = subst (Got true (λ k. Laid y y₁ i (own ∷ touch_words k))) (sym some_read) (got_some refl p) }
      where
        some_read : read_touches ws i n ≡ some k
        some_read = let e = eq-eqb (at ws i 1) (as_shape number) (sym hs ∙ is) in let f = le-leb (at ws i 2) n (subst (λ m. m ≤ n) hk l) in rw (e, f) (ap some (sym hk))

-- ---- a cell

module _ (rs : List ℕ) (i : ℕ) where
  cell_shape_is : Cell rs i → as_shape (content_type rs i) ≡ as_shape (cell_type rs i)
  unfolding cell_type
  cell_shape_is c = let e = eq-eqb (word rs i 0) (number_of cell_k) c in rw e

  module _ (ws : List ℕ) where
    pub copy_cell_is : {y y₁ : List ℕ} {t : ℕ} {r : Bool} → Cell rs i → t ≡ as_shape (content_type rs i) → ValueOk ws y y₁ i own t r → CellOk rs ws y y₁ i r
    copy_cell_is {y} {y₁} {t} {r} c z f =
        let b = eq-eqb (word rs i 0) (number_of cell_k) c in
        let g : Got r (CopyCell rs y y₁ i) (read_value ws i (cell_type rs i)) = got_as refl (λ v l. record { row = λ _. l.row; same = same_weak (λ j q. (subst (Cell rs) (sym q) c, q)) l.same }) (value_ok (cell_type rs i) (cell_small rs ws i) (z ∙ cell_shape_is c) f) in
        subst (λ b. Got r (CopyCell rs y y₁ i) (cond b (read_value ws i (cell_type rs i)) (some vunit))) (sym b) g

    pub copy_cell_none : {y : List ℕ} → (Cell rs i → ⊥) → CellOk rs ws y y i true
    copy_cell_none {y} n =
        let b = ne_eqb (word rs i 0) (number_of cell_k) n in
        subst (λ b. Got true (CopyCell rs y y i) (cond b (read_value ws i (cell_type rs i)) (some vunit))) (sym b) (got_some refl (record { row = λ c. absurd (n c); same = same_refl }))

-- ---- the cells

pub no_cells : (rs ws y : List ℕ) → CellsOk rs ws y y 0 true
unfolding read_store
no_cells rs ws y = got_some refl (record { long = refl; cells = λ j l. absurd (omega arith); same = same_refl })

module _ {rs y z y₁ : List ℕ} {i : ℕ} where
  pub more_cells : {s : Store} {v : Val} → CopyCells rs y z i s → CopyCell rs z y₁ i v → CopyCells rs y y₁ (suc i) (s ++ v ∷ [])
  more_cells {s} {v} a c = record {
    long = length-append s (v ∷ []) ∙ (let e = a.long in omega arith);
    cells = λ j l k. ⊎_elim (λ (e : j ≡ i). at_end j e k) (λ (h : j < i). before j h k) (eq-or-lt_of_le (le_of_suc-le-suc l));
    same = same_trans (same_weak (λ j q. (q.0, let h = q.1 in omega arith)) a.same) (same_weak (λ j q. (q.0, let h = q.1 in omega arith)) c.same);
  }
    where
      at_end : (j : ℕ) → j ≡ i → Cell rs j → Row y₁ j (own ∷ value_words (get_or (s ++ v ∷ []) j vunit))
      at_end j e k =
          let q : get_or (s ++ v ∷ []) j vunit ≡ v = ap (λ m. get_or (s ++ v ∷ []) m vunit) (e ∙ sym a.long) ∙ get_or-append_seam s v [] vunit in
          subst (λ u. Row y₁ j (own ∷ value_words u)) (sym q) (subst (λ m. Row y₁ m (own ∷ value_words v)) (sym e) (c.row (subst (Cell rs) e k)))

      before : (j : ℕ) → j < i → Cell rs j → Row y₁ j (own ∷ value_words (get_or (s ++ v ∷ []) j vunit))
      before j h k =
          let q = get_or-append s (v ∷ []) vunit j (let e = a.long in omega arith) in
          subst (λ u. Row y₁ j (own ∷ value_words u)) (sym q) (same_row c.same (λ g. let e = g.1 in omega arith) (a.cells j h k))

  pub one_more_cell : (ws : List ℕ) {r : Bool} → CellsOk rs ws y z i true → CellOk rs ws z y₁ i r → CellsOk rs ws y y₁ (i + 1) r
  unfolding read_store
  one_more_cell ws {r} a c =
      subst (λ m. CellsOk rs ws y y₁ m r) (sym (add-one i)) (got_bind a (λ e. absurd (false≢true (sym e))) (λ _ s p. got_map (λ v. s ++ v ∷ []) (λ v q. more_cells p q) c))

pub next_cells : (ws : List ℕ) {rs y z y₁ : List ℕ} {i : ℕ} {r : Bool} → CellsOk rs ws y z i true → CellOk rs ws z y₁ i r → not r ≡ false → CellsOk rs ws y y₁ (i + 1) true
next_cells ws {r = r} a c e = got_as (not-false r e) (λ _ p. p) (one_more_cell ws a c)

pub all_cells : (ws : List ℕ) {rs y z : List ℕ} {i n : ℕ} {r : Bool} → CellsOk rs ws y z i r → i ≡ n → CellsOk rs ws y z n r
all_cells ws {rs} {y} {z} {r = r} a e = subst (λ i. CellsOk rs ws y z i r) e a

-- a cell that is none leaves no store
none_of : {X : Type 0} {Q : X → Type 0} {o : Option X} → Got false Q o → o ≡ none
none_of (got_none e) = refl
none_of (got_some e q) = absurd (false≢true e)

none_on : (rs ws : List ℕ) (k m : ℕ) → read_store rs ws k ≡ none → read_store rs ws (m + k) ≡ none
unfolding read_store bind
none_on rs ws k zero e = let z : 0 + k ≡ k = omega arith in ap (read_store rs ws) z ∙ e
none_on rs ws k (suc m) e = let z : suc m + k ≡ suc (m + k) = omega arith in let q = none_on rs ws k m e in ap (read_store rs ws) z ∙ rw q

pub no_more_cells : (rs ws : List ℕ) {y z y₁ : List ℕ} (i n : ℕ) {r : Bool} → CellsOk rs ws y z i true → i < n → CellOk rs ws z y₁ i r → not r ≡ true → CellsOk rs ws y y₁ n false
no_more_cells rs ws {y} {z} {y₁} i n {r} a l c e =
    let q = none_of (got_as (not-true r e) (λ _ p. p) (one_more_cell ws a c)) in
    let m : (n - (i + 1)) + (i + 1) ≡ n = omega arith in
    let t : read_store rs ws n ≡ none = ap (read_store rs ws) (sym m) ∙ none_on rs ws (i + 1) (n - (i + 1)) q in
    subst (Got false (CopyCells rs y y₁ n)) (sym t) (got_none refl)
