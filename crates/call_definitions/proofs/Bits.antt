-- The words of a state's writing are 32 bits each: tags, shapes and leaves of what is well typed. So lent memory that holds the
-- writing gives it back. Rests on state's Layout, rows' Trees, the calculus' typing and shapes.
use mathlib.Core.Path.{subst, sym}
use mathlib.Core.Bool.{Bool, true, false, cond}
use mathlib.Core.List.{List, [], ◌∷◌, ◌++◌}
use Prim.Native.Nat.{ℕ, zero, suc, ◌+◌, ◌*◌, ◌-◌, ◌<◌, ◌≤◌}
use native.Mathlib.Omega.{arith}
use lib.Dec.{lit<}
use lib.IntN.{pos}
use lib.ListN.{length, get_or, set, replicate}
use Rattle.word.specs.Word.{words, AllWords, AllBits}
use Rattle.word.proofs.Lists.{words_append, bits_bits, bits_replicate}
use Rattle.tophat.specs.Syntax.{max_leaves, Ty, leaves, Code, Val, vunit, TaskOf, Store, number}
use Rattle.tophat.specs.Typing.{ValueType, v_unit, ValueTypes, v_nil, v_cons, TaskType, k_filled, k_blank, k_entered, k_shared, k_then_before, k_then_after, k_next_before, k_next_after, AllSmall, small_nil, small_cons}
use Rattle.tophat.specs.Typing.{k_failed, k_both, k_either, k_or_left, k_or_right, k_unpicked, k_picked_left, k_picked_right, k_viewed, k_gated, k_if_true, k_if_false, k_bound}
use Rattle.tophat.specs.Leaves.{leaves_of, padded}
use Rattle.tophat.proofs.Leaves.{type_of_lem}
use Rattle.tophat.proofs.TypeLeaves.{type_leaves, task_type_leaves}
use Rattle.shape.specs.Shape.{as_shape}
use Rattle.shape.proofs.Puts.{shape_range}
use Rattle.shape.proofs.Laws.{width_fits}
use Rattle.value.specs.Values.{leaf_bits}
use Rattle.value.proofs.Meaning.{leaves_words}
use Rattle.rows.specs.Kinds.{cell_k}
use Rattle.rows.specs.Rows.{row_words, is_kind}
use Rattle.rows.specs.Trees.{ReadsCode, r_edit, r_enter, r_update, r_then, r_next, r_fail, r_and, r_or, r_xor, r_view, r_gate, r_if, r_let}
use Rattle.state.specs.Layout.{state_words, place, own, value_words, touch_words, put_words, valued, write_task, write_cells, encode, encode_failed}

-- a list of bits, by name
record Bits (l : List ℕ) : Type 0 where
  bits : AllBits l

-- ---- values

words_zero : (n : ℕ) → AllWords (replicate n (pos 0))
words_zero zero i = lit< tt
words_zero (suc n) zero = lit< tt
words_zero (suc n) (suc i) = words_zero n i

leaf_bits_lem : {v : Val} {τ : Ty} → ValueType v τ → Bits (leaf_bits v)
unfolding leaf_bits padded
leaf_bits_lem {v} t =
    let zs = replicate (max_leaves - length (leaves_of v)) (pos 0) in
    record { bits = bits_bits (leaves_of v ++ zs) (words_append (leaves_of v) zs (leaves_words t) (words_zero (max_leaves - length (leaves_of v)))) }

-- the largest type's number is a word
shape_small : (τ : Ty) → leaves τ ≤ max_leaves → as_shape τ < words
shape_small τ l = let h = (shape_range τ).0 in let k = width_fits (leaves τ) l in omega (arith, h, k)

cons_at : {x : ℕ} {xs : List ℕ} → x < words → Bits xs → (i : ℕ) → get_or (x ∷ xs) i 0 < words
cons_at h k zero = h
cons_at h k (suc i) = k.bits i

bits_cons : {x : ℕ} {xs : List ℕ} → x < words → Bits xs → Bits (x ∷ xs)
bits_cons h k = record { bits = cons_at h k }

bits_none : Bits []
bits_none = record { bits = λ i. lit< tt }

bits_tail : {x : ℕ} {xs : List ℕ} → Bits (x ∷ xs) → Bits xs
bits_tail h = record { bits = λ i. h.bits (suc i) }

value_bits : {v : Val} {τ : Ty} → ValueType v τ → leaves τ ≤ max_leaves → Bits (value_words v)
unfolding value_words
value_bits {v} {τ} t l = bits_cons (subst (λ τ. as_shape τ < words) (sym (type_of_lem t)) (shape_small τ l)) (leaf_bits_lem t)

-- ---- rows

set_bits : (ws : List ℕ) (k : ℕ) {x : ℕ} → Bits ws → x < words → Bits (set ws k x)
set_bits [] k h l = h
set_bits (y ∷ ws) zero h l = bits_cons l (bits_tail h)
set_bits (y ∷ ws) (suc k) h l = bits_cons (h.bits 0) (set_bits ws k (bits_tail h) l)

put_bits : {ws : List ℕ} (i m : ℕ) (xs : List ℕ) → Bits ws → Bits xs → Bits (put_words ws i m xs)
unfolding put_words
put_bits i m [] h k = h
put_bits {ws = ws} i m (x ∷ xs) h k = put_bits {ws = set ws (place i m) x} i (suc m) xs (set_bits _ (place i m) h (k.bits 0)) (bits_tail k)

tag_bits : {ws : List ℕ} (i : ℕ) {x : ℕ} → x < words → Bits ws → Bits (put_words ws i 0 (x ∷ []))
tag_bits i {x} l h = put_bits i 0 (x ∷ []) h (bits_cons l bits_none)

valued_bits : {ws : List ℕ} {v : Val} {τ : Ty} (i : ℕ) {x : ℕ} → x < words → ValueType v τ → leaves τ ≤ max_leaves → Bits ws → Bits (valued ws i x v)
valued_bits {v = v} i {x} l t k h = put_bits i 0 (x ∷ value_words v) h (bits_cons l (value_bits t k))

number_leaf_lem : leaves number ≤ max_leaves
unfolding leaves
number_leaf_lem = omega arith

-- touches left are at most those of the row
touches_bits : {ws : List ℕ} (i : ℕ) {x k n : ℕ} → x < words → n < words → k ≤ n → Bits ws → Bits (put_words ws i 0 (x ∷ touch_words k))
touches_bits i {x} {k} l b m h = put_bits i 0 (x ∷ touch_words k) h (bits_cons l (bits_cons (shape_small number number_leaf_lem) (bits_cons (omega (arith, m, b)) bits_none)))

module _ (rs : List ℕ) (b : AllBits rs) {Σ : List Ty} (g : AllSmall Σ) where
  task_bits : {i : ℕ} {c : Code} → ReadsCode rs i c → {Γ : List Ty} {τ : Ty} {t : TaskOf c} {ws : List ℕ} → TaskType Σ Γ c t τ → AllSmall Γ → Bits ws → Bits (write_task rs i c t ws)
  unfolding write_task
  task_bits {i} (r_edit k m r) (k_filled d v) h w = valued_bits i (lit< tt) v (type_leaves d g h) w
  task_bits {i} (r_enter k m r) (k_blank l) h w = tag_bits i (lit< tt) w
  task_bits {i} (r_enter k m r) (k_entered l v) h w = valued_bits i (lit< tt) v l w
  task_bits {i} (r_update k m r) (k_shared d) h w = tag_bits i (lit< tt) w
  task_bits {i} (r_then k m n p q) (k_then_before d e) h w = task_bits p d h (tag_bits i (lit< tt) w)
  task_bits {i} (r_then k m n p q) (k_then_after d v e) h w = let l = task_type_leaves d g h in task_bits q e (small_cons l h) (valued_bits i (lit< tt) v l w)
  task_bits {i} (r_next k m n p q) (k_next_before d e) h w = task_bits p d h (tag_bits i (lit< tt) w)
  task_bits {i} (r_next k m n p q) (k_next_after d v e) h w = let l = task_type_leaves d g h in task_bits q e (small_cons l h) (valued_bits i (lit< tt) v l w)
  task_bits {i} (r_fail k m r) (k_failed l) h w = tag_bits i (lit< tt) w
  task_bits {i} (r_and k m n p q) (k_both d e l) h w = task_bits q e h (task_bits p d h (tag_bits i (lit< tt) w))
  task_bits {i} (r_or k m n p q) (k_either d e) h w = task_bits q e h (task_bits p d h (tag_bits i (lit< tt) w))
  task_bits {i} (r_or k m n p q) (k_or_left d e) h w = task_bits p d h (tag_bits i (lit< tt) w)
  task_bits {i} (r_or k m n p q) (k_or_right d e) h w = task_bits q e h (tag_bits i (lit< tt) w)
  task_bits {i} (r_xor k m n p q) (k_unpicked d e) h w = tag_bits i (lit< tt) w
  task_bits {i} (r_xor k m n p q) (k_picked_left d e) h w = task_bits p d h (tag_bits i (lit< tt) w)
  task_bits {i} (r_xor k m n p q) (k_picked_right d e) h w = task_bits q e h (tag_bits i (lit< tt) w)
  task_bits {i} (r_view k m r) (k_viewed d v) h w = valued_bits i (lit< tt) v (type_leaves d g h) w
  task_bits {i} (r_gate k m p) (k_gated l d) h w = task_bits p d h (touches_bits i (lit< tt) (b (i * row_words + 3)) l w)
  task_bits {i} (r_if k m n o r p q) (k_if_true c d e) h w = task_bits p d h (tag_bits i (lit< tt) w)
  task_bits {i} (r_if k m n o r p q) (k_if_false c d e) h w = task_bits q e h (tag_bits i (lit< tt) w)
  task_bits {i} (r_let k m n r q) (k_bound c v e) h w = let l = type_leaves c g h in task_bits q e (small_cons l h) (valued_bits i (lit< tt) v l w)

-- ---- cells

at_bits : {s : Store} {Σ : List Ty} → ValueTypes s Σ → AllSmall Σ → (k : ℕ) → Bits (value_words (get_or s k vunit))
unfolding leaves
at_bits v_nil small_nil k = value_bits v_unit (omega arith)
at_bits (v_cons t d) (small_cons l g) zero = value_bits t l
at_bits (v_cons t d) (small_cons l g) (suc k) = at_bits d g k

pick_bits : (b : Bool) (xs ys : List ℕ) → Bits xs → Bits ys → Bits (cond b xs ys)
pick_bits true xs ys h k = h
pick_bits false xs ys h k = k

cells_bits : (rs : List ℕ) {Σ : List Ty} {s : Store} {ws : List ℕ} → AllSmall Σ → ValueTypes s Σ → (n : ℕ) → Bits ws → Bits (write_cells rs n s ws)
unfolding write_cells
cells_bits rs g h zero w = w
cells_bits rs {s = s} g h (suc i) w =
    let p = cells_bits rs g h i w in
    pick_bits (is_kind rs i cell_k) _ _ (put_bits i 0 (own ∷ value_words (get_or s i vunit)) p (bits_cons (lit< tt) (at_bits h g i))) p

-- a state's writing
pub encode_bits : (rs : List ℕ) (n : ℕ) {Σ : List Ty} (c : Code) (t : TaskOf c) (s : Store) {τ : Ty} → AllBits rs → ReadsCode rs (n - 1) c → AllSmall Σ → TaskType Σ [] c t τ → ValueTypes s Σ → AllBits (encode rs n c t s)
unfolding encode
encode_bits rs n c t s b r g k h = (task_bits rs b g r k small_nil (cells_bits rs g h n (record { bits = bits_replicate (n * state_words) 0 (lit< tt) }))).bits

pub failed_bits : (rs : List ℕ) (n : ℕ) {Σ : List Ty} (s : Store) → AllSmall Σ → ValueTypes s Σ → AllBits (encode_failed rs n s)
unfolding encode_failed
failed_bits rs n s g h = (tag_bits (n - 1) (lit< tt) (cells_bits rs g h n (record { bits = bits_replicate (n * state_words) 0 (lit< tt) }))).bits
