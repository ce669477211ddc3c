-- The words of a state of narrow types (CR 4: "State memory keeps 16 words a row"): where what a flow holds has at most k leaves, each row is 0
-- behind its tag, a shape and k leaves. What stands before is written as it was, so a flow whose types have at most four leaves has the
-- states that it had when a type had no more, and one that was kept then is read now. Rests on Typed.
use mathlib.Core.Path.{◌≡◌, refl, ap, ◌∙◌}
use mathlib.Core.Bool.{Bool, true, false, cond}
use mathlib.Core.List.{List, [], ◌∷◌}
use Prim.Native.Nat.{ℕ, zero, suc, ◌+◌, ◌*◌, ◌-◌, ◌≤◌, ◌<◌}
use native.Mathlib.Decide.{ℕ_discrete}
use native.Mathlib.Omega.{arith}
use lib.IntN.{pos}
use lib.ListN.{length, get_or, set, get_or-eq_default}
use lib.Seq.{get_or-set_other}
use mir.Syntax.{w32}
use mir.Val.{of_z}
use Rattle.tophat.specs.Syntax.{max_leaves, Ty, leaves, Code, edit, enter, update, then, next, fail, and, or, xor, view, gate, if, let', Val, vunit, Store}
use Rattle.tophat.specs.Syntax.{TaskOf, filled, blank, entered, before, after, both, either, or_left, or_right, unpicked, picked_left, picked_right, gated, if_true, if_false, bound}
use Rattle.tophat.specs.Typing.{type_of, ValueTypes, TaskType}
use Rattle.tophat.specs.Leaves.{leaves_of}
use Rattle.value.proofs.Meaning.{leaves_length, leaf_at}
use Rattle.rows.specs.Kinds.{cell_k}
use Rattle.rows.specs.Rows.{op_a, op_b, op_c, is_kind}
use Rattle.state.specs.Layout.{state_words, place, at, value_words, touch_words, own, one, other, whole, put_words, tagged, valued, write_task, write_cells, encode, encode_failed}
use Rattle.state.proofs.Words.{zero_words, padding, place_one}
use Rattle.state.proofs.Writes.{Each}
use Rattle.state.proofs.Typed.{Narrow, NarrowCells, each_narrow, store_narrow, short}

-- ---- words put before word b of a row

-- every row is 0 from word b on
pub record ZeroFrom (b : ℕ) (ws : List ℕ) : Type 0 where
  pub words : (i m : ℕ) → b ≤ m → m < state_words → at ws i m ≡ 0

set_zero : (ws : List ℕ) (p : ℕ) → get_or (set ws p 0) p 0 ≡ 0
set_zero [] p = refl
set_zero (w ∷ ws) zero = refl
set_zero (w ∷ ws) (suc p) = set_zero ws p

module _ (b : ℕ) where
  zero_set : {ws : List ℕ} (i m x : ℕ) → m < state_words → (b ≤ m → x ≡ 0) → ZeroFrom b ws → ZeroFrom b (set ws (place i m) x)
  zero_set {ws} i m x h z g = record { words = λ j k p q. by j k p q (ℕ_discrete (place j k) (place i m)) }
    where
      by : (j k : ℕ) → b ≤ k → k < state_words → Dec (place j k ≡ place i m) → at (set ws (place i m) x) j k ≡ 0
      by j k p q (yes e) =
          let (_, r) = place_one j i k m q h e in
          rw (e, z (omega (arith, p, r))) (set_zero ws (place i m))
      by j k p q (no n) = get_or-set_other ws (place i m) (place j k) x 0 n ∙ g.words j k p q

  zero_put : (xs : List ℕ) {ws : List ℕ} (i m : ℕ) → m + length xs ≤ state_words → ((q : ℕ) → b ≤ m + q → get_or xs q 0 ≡ 0) → ZeroFrom b ws → ZeroFrom b (put_words ws i m xs)
  unfolding put_words
  zero_put [] i m h z g = g
  zero_put (x ∷ xs) i m h z g = zero_put xs i (suc m) (omega arith) (λ q l. z (suc q) (omega arith)) (zero_set i m x (omega arith) (λ l. z 0 (omega arith)) g)

-- ---- a task and cells whose values have at most k leaves

abbrev AtMost : ℕ → Val → Type 0
AtMost k v = leaves (type_of v) ≤ k

module _ (k : ℕ) (some : 1 ≤ k) (most : k ≤ max_leaves) where
  -- each row is 0 behind a tag, a shape and k leaves
  abbrev ZeroBehind : List ℕ → Type 0
  ZeroBehind ws = ZeroFrom (2 + k) ws

  leaf_zero : (v : Val) → AtMost k v → (q : ℕ) → 2 + k ≤ q → (x : ℕ) → get_or (x ∷ value_words v) q 0 ≡ 0
  unfolding value_words
  leaf_zero v l zero h x = absurd (omega arith)
  leaf_zero v l (suc zero) h x = absurd (omega arith)
  leaf_zero v l (suc (suc q)) h x = leaf_at v q ∙ ap (of_z w32) (get_or-eq_default (leaves_of v) (pos 0) (let e = leaves_length v in omega arith))

  tag_behind : {ws : List ℕ} (i x : ℕ) → ZeroBehind ws → ZeroBehind (tagged ws i x)
  tag_behind i x g = zero_put (2 + k) (x ∷ []) i 0 (omega arith) (λ q h. none q (omega arith)) g
    where
      none : (q : ℕ) → 2 + k ≤ q → get_or (x ∷ []) q 0 ≡ 0
      none zero h = absurd (omega arith)
      none (suc q) h = refl

  value_behind : {ws : List ℕ} (i x : ℕ) (v : Val) → AtMost k v → ZeroBehind ws → ZeroBehind (valued ws i x v)
  value_behind i x v l g = zero_put (2 + k) (x ∷ value_words v) i 0 (let s = short v (omega arith) in omega arith) (λ q h. leaf_zero v l q (omega arith) x) g

  touches_behind : {ws : List ℕ} (i m : ℕ) → ZeroBehind ws → ZeroBehind (put_words ws i 0 (own ∷ touch_words m))
  touches_behind i m g = zero_put (2 + k) (own ∷ touch_words m) i 0 (omega arith) (λ q h. none q (omega arith)) g
    where
      none : (q : ℕ) → 2 + k ≤ q → get_or (own ∷ touch_words m) q 0 ≡ 0
      none zero h = absurd (omega arith)
      none (suc zero) h = absurd (omega arith)
      none (suc (suc zero)) h = absurd (omega arith)
      none (suc (suc (suc q))) h = refl

  module _ (rs : List ℕ) where
    task_behind : (i : ℕ) (c : Code) (t : TaskOf c) {ws : List ℕ} → Each (AtMost k) c t → ZeroBehind ws → ZeroBehind (write_task rs i c t ws)
    unfolding write_task
    task_behind i (edit e) (filled v) f g = value_behind i own v f g
    task_behind i (enter τ) blank f g = tag_behind i own g
    task_behind i (enter τ) (entered v) f g = value_behind i one v f g
    task_behind i (update n) t f g = tag_behind i own g
    task_behind i (then a b) (before t) f g = task_behind (op_a rs i) a t f (tag_behind i own g)
    task_behind i (then a b) (after v u) f g = task_behind (op_b rs i) b u f.1 (value_behind i one v f.0 g)
    task_behind i (next a b) (before t) f g = task_behind (op_a rs i) a t f (tag_behind i own g)
    task_behind i (next a b) (after v u) f g = task_behind (op_b rs i) b u f.1 (value_behind i one v f.0 g)
    task_behind i (fail τ) t f g = tag_behind i own g
    task_behind i (and a b) (both t u) f g = task_behind (op_b rs i) b u f.1 (task_behind (op_a rs i) a t f.0 (tag_behind i own g))
    task_behind i (or a b) (either t u) f g = task_behind (op_b rs i) b u f.1 (task_behind (op_a rs i) a t f.0 (tag_behind i own g))
    task_behind i (or a b) (or_left t) f g = task_behind (op_a rs i) a t f (tag_behind i one g)
    task_behind i (or a b) (or_right u) f g = task_behind (op_b rs i) b u f (tag_behind i other g)
    task_behind i (xor a b) unpicked f g = tag_behind i own g
    task_behind i (xor a b) (picked_left t) f g = task_behind (op_a rs i) a t f (tag_behind i one g)
    task_behind i (xor a b) (picked_right u) f g = task_behind (op_b rs i) b u f (tag_behind i other g)
    task_behind i (view e) (filled v) f g = value_behind i own v f g
    task_behind i (gate r n b) (gated m u) f g = task_behind (op_b rs i) b u f (touches_behind i m g)
    task_behind i (if e a b) (if_true t) f g = task_behind (op_b rs i) a t f (tag_behind i one g)
    task_behind i (if e a b) (if_false u) f g = task_behind (op_c rs i) b u f (tag_behind i other g)
    task_behind i (let' e b) (bound v u) f g = task_behind (op_b rs i) b u f.1 (value_behind i one v f.0 g)

    cell_behind : (b : Bool) (i : ℕ) (v : Val) {ws : List ℕ} → AtMost k v → ZeroBehind ws → ZeroBehind (cond b (valued ws i own v) ws)
    cell_behind true i v l g = value_behind i own v l g
    cell_behind false i v l g = g

    cells_behind : (n : ℕ) (s : Store) {ws : List ℕ} → ((j : ℕ) → AtMost k (get_or s j vunit)) → ZeroBehind ws → ZeroBehind (write_cells rs n s ws)
    unfolding write_cells
    cells_behind zero s f g = g
    cells_behind (suc n) s f g = cell_behind (is_kind rs n cell_k) n (get_or s n vunit) (f n) (cells_behind n s f g)

    -- ---- a state of a flow of narrow types

    module _ {Σ : List Ty} (cells : NarrowCells k Σ) (n : ℕ) {s : Store} (h : ValueTypes s Σ) where
      first_behind : ZeroBehind (write_cells rs n s (zero_words (n * state_words)))
      first_behind = cells_behind n s (store_narrow (AtMost k) (λ v l. l) some h cells) (record { words = λ i m p q. padding [] (n * state_words) (place i m) })

      pub narrow_words : {c : Code} {t : TaskOf c} {τ : Ty} → Narrow k Σ [] c → TaskType Σ [] c t τ → ZeroBehind (encode rs n c t s)
      unfolding encode
      narrow_words {c} {t} d e = task_behind (n - 1) c t (each_narrow (AtMost k) (λ v l. l) d e) first_behind

      pub narrow_words_failed : ZeroBehind (encode_failed rs n s)
      unfolding encode_failed
      narrow_words_failed = tag_behind (n - 1) whole first_behind

-- ---- CR 4: types of at most four leaves

-- words 6 to 15 of every row are 0
pub same_words_under_4 : {Σ : List Ty} {c : Code} {t : TaskOf c} {s : Store} {τ : Ty} → Narrow 4 Σ [] c → NarrowCells 4 Σ → TaskType Σ [] c t τ → ValueTypes s Σ
    → (rs : List ℕ) (n i m : ℕ) → 6 ≤ m → m < state_words → at (encode rs n c t s) i m ≡ 0
same_words_under_4 d g e h rs n = (narrow_words 4 (omega arith) (omega arith) rs g n h d e).words
