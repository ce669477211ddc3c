-- What `alike` and `held` answer: copying goes through and the copy is the same words exactly where the words are the writing
-- of a well-typed state. Rests on Cells, Copying and crate state's Reading.
use mathlib.Core.Path.{◌≡◌, refl, sym, ap, subst, ◌∙◌}
use mathlib.Core.Bool.{Bool, true, false, false≢true}
use mathlib.Core.Logic.{inl, inr, ⊎_elim}
use mathlib.Core.Option.{Option, some}
use mathlib.Core.List.{List, []}
use Prim.Native.Nat.{ℕ, ◌+◌, ◌*◌, ◌-◌, ◌/◌, ◌%◌, ◌≤◌, ◌<◌}
use native.Mathlib.Decide.{dec_lt}
use native.Mathlib.Nat.{eq-or-lt_of_le}
use native.Mathlib.Omega.{arith}
use lib.ListN.{length, get_or, replicate, take, length-take, get_or-eq_default}
use lib.Seq.{ext_get_or}
use Rattle.word.specs.Decides.{Decides}
use Rattle.tophat.specs.Syntax.{TaskOf, Store}
use Rattle.tophat.specs.Typing.{ValueTypes, small_nil}
use Rattle.tophat.proofs.Basics.{no_some, some_is}
use Rattle.tophat.proofs.ComputeTyping.{nth}
use Rattle.rows.specs.Rows.{word}
use Rattle.rows.specs.Enclosing.{max_binders}
use Rattle.rows.proofs.CellsAt.{cells_small}
use Rattle.rows.specs.Accepted.{AcceptedRows}
use Rattle.rows.proofs.Accepted.{facts}
use Rattle.typing.proofs.Cells.{cell_known}
use Rattle.value.specs.Fits.{Got, got_none, got_some}
use Rattle.state.specs.Holds.{tree_of, Row, Clear, Same}
use Rattle.state.specs.Layout.{state_words, place}
use Rattle.state.specs.Reading.{read_task, read_store}
use Rattle.state.proofs.Words.{zero_words}
use Rattle.state.proofs.Frames.{same_row, foot_cell}
use Rattle.state.proofs.Encode.{zero_row, writing_one, taken_same}
use Rattle.state.specs.Writing.{Writing}
use Rattle.state.proofs.SitsOf.{last_sits, within}
use Rattle.state.proofs.Reading.{read_typed, holds_read, store_typed, stores_read, cells_types}
use Rattle.state_check.specs.Copies.{Sheet, Site, Copy, CopyOk, CopyCells, CellsOk}
use Rattle.state_check.specs.States.{State, Alike, ZerosAfter, HeldOk}

-- ---- the same words

pub alike_none : (x y : List ℕ) → Alike x y 0
alike_none x y j l = absurd (omega arith)

pub alike_more : (x y : List ℕ) (k : ℕ) → Alike x y k → get_or x k 0 ≡ get_or y k 0 → Alike x y (k + 1)
alike_more x y k h e j l = ⊎_elim (λ (q : j ≡ k). ap (λ m. get_or x m 0) q ∙ e ∙ sym (ap (λ m. get_or y m 0) q)) (λ (q : j < k). h j q) (eq-or-lt_of_le (let m : j ≤ k = omega arith in m))

pub alike_yes : (x y : List ℕ) (k m : ℕ) → Alike x y k → m ≤ k → Decides true (Alike x y m)
alike_yes x y k m h g = record { yes = λ _ j q. h j (omega arith); no = λ e. absurd (false≢true (sym e)) }

pub alike_no : (x y : List ℕ) (k m : ℕ) → k < m → (get_or x k 0 ≡ get_or y k 0 → ⊥) → Decides false (Alike x y m)
alike_no x y k m l n = record { yes = λ e. absurd (false≢true e); no = λ _ h. n (h k l) }

-- words that are the same in n rows, and zeros after them
pub alike_all : {x y : List ℕ} (n : ℕ) → length x ≡ length y → ZerosAfter n x → ZerosAfter n y → Alike x y (n * state_words) → x ≡ y
alike_all {x} {y} n l p q h = ext_get_or 0 x y l (λ j _. by j (dec_lt j (n * state_words)))
  where
    by : (j : ℕ) → Dec (j < n * state_words) → get_or x j 0 ≡ get_or y j 0
    by j (yes k) = h j k
    by j (no k) = p j (omega arith) ∙ sym (q j (omega arith))

-- words that are those of n rows alone
pub same_ends : {y : List ℕ} (n : ℕ) → Same (λ j. ⊥) y (take (n * state_words) y) → ZerosAfter n y
same_ends {y} n s k h =
    let e : k ≡ place (k / state_words) (k % state_words) = omega arith in
    let l = length-take (n * state_words) y in
    ap (λ z. get_or y z 0) e ∙ sym (s.words (k / state_words) (k % state_words) (omega arith) (λ z. z)) ∙ get_or-eq_default (take (n * state_words) y) 0 (omega arith)

-- ---- states

-- what was read
record Taken {X : Type 0} (Q : X → Type 0) (o : Option X) : Type 0 where
  val : X
  is : o ≡ some val
  has : Q val

taken : {X : Type 0} {q : Bool} {Q : X → Type 0} {o : Option X} → q ≡ true → Got q Q o → Taken Q o
taken e (got_none z) = absurd (false≢true (sym z ∙ e))
taken e (got_some z h) = record { val = _; is = refl; has = h }

nothing_there : {X : Type 0} {q : Bool} {Q : X → Type 0} {o : Option X} {x : X} → q ≡ false → Got q Q o → o ≡ some x → ⊥
nothing_there e (got_none z) h = no_some h
nothing_there e (got_some z g) h = false≢true (sym e ∙ z)

module _ (rs : List ℕ) (n : ℕ) (ws : List ℕ) (l : 1 ≤ n) (a : AcceptedRows rs n) (rest : (j : ℕ) → n ≤ j → word rs j 0 ≡ 0) where
  -- a state is read
  store_there : (st : State rs n a ws) → read_store rs ws n ≡ some st.store
  store_there st = stores_read rs ws n (subst (ValueTypes st.store) (cells_types a) st.stored) st.writing.stores

  task_there : (st : State rs n a ws) → read_task rs ws a.cells [] (n - 1) a.code ≡ some st.task
  task_there st = holds_read rs ws (cells_small a.flow.cells) (n - 1) a.code st.typed small_nil st.writing.holds

  sheet : Sheet rs n a.cells
  sheet = record { known = λ i τ h r. ap (λ Σ. nth Σ i) (cells_types a) ∙ cell_known rs n (facts a).sorted i τ h r; small = λ i τ h r. (facts a).small.types h r }

  last : Site rs n [] (replicate max_binders 0) 0 (n - 1) a.code
  last = record {
    low = omega arith;
    reads = a.flow.code;
    fits = (facts a).binders;
    sits = last_sits rs n a;
    depth = refl;
    around = record { long = refl; few = omega arith; held = tt };
  }

  module _ {zs y : List ℕ} (zero : (j : ℕ) → Row zs j []) where
    -- no row of the task is live after the cells
    clear : {s : Store} → CopyCells rs zs y n s → Clear rs y (n - 1) (tree_of a.code)
    clear c = record { dead = λ j f. same_row c.same (λ q. foot_cell rs 0 (n - 1) a.code (last_sits rs n a) j q.0 f) (zero j) }

    -- what is copied is a writing
    written : {y₁ : List ℕ} {s : Store} {t : TaskOf a.code} → CopyCells rs zs y n s → Copy rs y y₁ (n - 1) a.code t → Writing rs (n - 1) a.code t s y₁
    written c k = record {
      holds = k.holds;
      stores = record { cells = λ j h. same_row k.same (λ f. foot_cell rs 0 (n - 1) a.code (last_sits rs n a) j h f) (c.cells j (within rs n a rest j (omega arith)) h) };
      rest = λ j o. same_row k.same (λ f. o (inl f)) (same_row c.same (λ q. o (inr q.0)) (zero j));
    }

    module _ {q : Bool} (cells : CellsOk rs ws zs y n q) where
      no_store : q ≡ false → State rs n a ws → ⊥
      no_store e st = nothing_there e cells (store_there st)

      module _ (e : q ≡ true) {y₁ : List ℕ} {p : Bool} (ok : CopyOk rs ws y y₁ (n - 1) (replicate max_binders 0) 0 p) where
        c : Taken (CopyCells rs zs y n) (read_store rs ws n)
        c = taken e cells

        tasks : Got p (Copy rs y y₁ (n - 1) a.code) (read_task rs ws a.cells [] (n - 1) a.code)
        tasks = ok n a.cells [] a.code sheet last (clear c.has)

        no_task : p ≡ false → State rs n a ws → ⊥
        no_task h st = nothing_there h tasks (task_there st)

-- copied under no binders
pub unbound : (rs ws y y₁ : List ℕ) (i : ℕ) (env : List ℕ) (d : ℕ) {p : Bool} → env ≡ replicate max_binders 0 → d ≡ 0 → CopyOk rs ws y y₁ i env d p → CopyOk rs ws y y₁ i (replicate max_binders 0) 0 p
unbound rs ws y y₁ i env d {p} e h ok = subst (λ d. CopyOk rs ws y y₁ i (replicate max_binders 0) d p) h (subst (λ e. CopyOk rs ws y y₁ i e d p) e ok)

-- words of zeros have no live row
pub zero_rows : {zs : List ℕ} (n : ℕ) → zs ≡ zero_words n → (j : ℕ) → Row zs j []
zero_rows n e j = subst (λ zs. Row zs j []) (sym e) (zero_row n j)

-- what `held` returns
module _ {rs ws zs y : List ℕ} {n : ℕ} {q : Bool} (l : 1 ≤ n) (zero : (j : ℕ) → Row zs j []) (cells : CellsOk rs ws zs y n q) where
  pub held_no_cells : q ≡ false → HeldOk rs n ws y false
  held_no_cells e a rest = (record { yes = λ z. absurd (false≢true z); no = λ _ st. no_store rs n ws l a rest zero cells e st }, λ z. absurd (false≢true z))

  module _ (e : q ≡ true) {y₁ : List ℕ} {p : Bool} (ok : CopyOk rs ws y y₁ (n - 1) (replicate max_binders 0) 0 p) where
    pub held_no_task : p ≡ false → HeldOk rs n ws y₁ false
    held_no_task h a rest = (record { yes = λ z. absurd (false≢true z); no = λ _ st. no_task rs n ws l a rest zero cells e ok h st }, λ z. absurd (false≢true z))

    pub held_same : {r : Bool} → p ≡ true → ZerosAfter n ws → length ws ≡ length y₁ → Decides r (Alike ws y₁ (n * state_words)) → HeldOk rs n ws y₁ r
    held_same {r} h d m s a rest =
        let k = taken e cells in
        let t = taken h (tasks rs n ws l a rest zero cells e ok) in
        let w = written rs n ws l a rest zero k.has t.has in
        let ends = same_ends n (taken_same 0 (within rs n a rest) (last_sits rs n a) w) in
        let whole : r ≡ true → ws ≡ y₁ = λ z. alike_all n m d ends (s.yes z) in (
          record {
            yes = λ z. record {
              task = t.val;
              store = k.val;
              typed = read_typed rs ws (n - 1) a.flow.typed t.is;
              stored = subst (ValueTypes k.val) (sym (cells_types a)) (store_typed rs ws n k.is);
              writing = subst (Writing rs (n - 1) a.code t.val k.val) (sym (whole z)) w;
            };
            no = λ z st.
                let x : t.val ≡ st.task = some_is (sym t.is ∙ task_there rs n ws l a rest st) in
                let v : k.val ≡ st.store = some_is (sym k.is ∙ store_there rs n ws l a rest st) in
                let w₁ = subst (λ s. Writing rs (n - 1) a.code st.task s y₁) v (subst (λ t. Writing rs (n - 1) a.code t k.val y₁) x w) in
                s.no z (λ j _. ap (λ v. get_or v j 0) (writing_one m st.writing w₁));
          },
          λ z. sym (whole z),
        )

-- ---- words that are no state are given up

pub held_yes : {rs ws y : List ℕ} {n : ℕ} {r : Bool} {A : Type 0} → HeldOk rs n ws y r → r ≡ true → HeldOk rs n ws y true × (true ≡ false → A)
held_yes {rs} {ws} {y} {n} h e = (subst (HeldOk rs n ws y) e h, (λ z. absurd (false≢true (sym z))))

pub held_no : {rs ws y z : List ℕ} {n : ℕ} {r : Bool} → HeldOk rs n ws y r → r ≡ false → HeldOk rs n ws z false
held_no {rs} {ws} {y} {n = n} h e a past = ((subst (HeldOk rs n ws y) e h a past).0, (λ z. absurd (false≢true z)))
