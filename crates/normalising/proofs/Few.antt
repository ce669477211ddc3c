-- A code that sits in 256 rows has at most 256 moves: its task rows are apart, and each is one of the 256. So the limit on strides
-- is never met. Rests on the frames of crate state.
use mathlib.Core.Path.{◌≡◌, refl, subst}
use mathlib.Core.Bool.{Bool, true, false, ◌||◌}
use mathlib.Core.Logic.{◌⊎◌, inl, inr, ⊎_elim}
use mathlib.Core.List.{List}
use Prim.Native.Nat.{ℕ, zero, suc, ◌+◌, ◌≤◌, ◌<◌}
use native.Mathlib.Nat.{eq-or-lt_of_le, le_of_suc-le-suc}
use native.Mathlib.Omega.{arith}
use lib.Dec.{T, eqb, eqb→eq, eqb_refl}
use Rattle.tophat.specs.Syntax.{moves, Code, edit, enter, update, then, next, fail, and, or, xor, view, if, let', gate}
use Rattle.rows.specs.Kinds.{either_k, if_k, number_of, task_k, view_k}
use Rattle.rows.specs.Rows.{max_rows, word, op_a, op_b, op_c, count, LowWords}
use Rattle.state.specs.Holds.{Tree, leaf, under, fork, tree_of, Foot, Sits}
use Rattle.state.specs.Ensured.{Fine}
use Rattle.state.proofs.Frames.{Placed, placed}

-- ---- rows counted

unfoldable counted : (ℕ → Bool) → ℕ → ℕ
counted f zero = 0
counted f (suc n) = count (f n) + counted f n

count_one : (b : Bool) → count b ≤ 1
count_one true = omega arith
count_one false = omega arith

counted_le : (f : ℕ → Bool) (n : ℕ) → counted f n ≤ n
unfolding counted
counted_le f zero = omega arith
counted_le f (suc n) = let h = counted_le f n in let k = count_one (f n) in omega arith

count_or : (a b : Bool) → (T a → T b → ⊥) → count (a || b) ≡ count a + count b
count_or false b p = omega arith
count_or true false p = refl
count_or true true p = absurd (p tt tt)

counted_or : (f g : ℕ → Bool) → ((j : ℕ) → T (f j) → T (g j) → ⊥) → (n : ℕ) → counted (λ j. f j || g j) n ≡ counted f n + counted g n
unfolding counted
counted_or f g p zero = refl
counted_or f g p (suc n) = let e = count_or (f n) (g n) (p n) in let k = counted_or f g p n in omega arith

count_true : (b : Bool) → T b → count b ≡ 1
count_true true h = refl
count_true false h = absurd h

counted_self : (i n : ℕ) → i < n → 1 ≤ counted (λ j. eqb j i) n
unfolding counted
counted_self i zero h = absurd (omega arith)
counted_self i (suc n) h = at (eq-or-lt_of_le (le_of_suc-le-suc h)) (counted_self i n)
  where
    at : (i ≡ n) ⊎ (i < n) → (i < n → 1 ≤ counted (λ j. eqb j i) n) → 1 ≤ count (eqb n i) + counted (λ j. eqb j i) n
    at (inl e) k = let z = count_true (eqb n i) (subst (λ m. T (eqb m i)) e (eqb_refl i)) in omega arith
    at (inr l) k = let z = k l in omega arith

-- ---- the rows of a tree

unfoldable in_foot : List ℕ → ℕ → Tree → ℕ → Bool
in_foot rs i leaf j = eqb j i
in_foot rs i (under k x) j = eqb j i || in_foot rs (word rs i k) x j
in_foot rs i (fork k x l y) j = eqb j i || (in_foot rs (word rs i k) x j || in_foot rs (word rs i l) y j)

or_in : {A B : Type 0} (a b : Bool) → (T a → A) → (T b → B) → T (a || b) → A ⊎ B
or_in true b f g t = inl (f tt)
or_in false b f g t = inr (g t)

in_foot_lem : (rs : List ℕ) (i : ℕ) (x : Tree) (j : ℕ) → T (in_foot rs i x j) → Foot rs i x j
unfolding in_foot
in_foot_lem rs i leaf j h = eqb→eq j i h
in_foot_lem rs i (under k x) j h = or_in (eqb j i) (in_foot rs (word rs i k) x j) (eqb→eq j i) (in_foot_lem rs (word rs i k) x j) h
in_foot_lem rs i (fork k x l y) j h =
    or_in (eqb j i) (in_foot rs (word rs i k) x j || in_foot rs (word rs i l) y j) (eqb→eq j i)
    (or_in (in_foot rs (word rs i k) x j) (in_foot rs (word rs i l) y j) (in_foot_lem rs (word rs i k) x j) (in_foot_lem rs (word rs i l) y j)) h

unfoldable size : Tree → ℕ
size leaf = 1
size (under k x) = 1 + size x
size (fork k x l y) = 1 + (size x + size y)

-- ---- a code's rows are among the 256, since operands are lower

abbrev Inside : List ℕ → ℕ → Tree → Type 0
Inside rs i leaf = i < max_rows
Inside rs i (under k x) = (i < max_rows) × Inside rs (word rs i k) x
Inside rs i (fork k x l y) = (i < max_rows) × Inside rs (word rs i k) x × Inside rs (word rs i l) y

module _ (rs : List ℕ) (low : (i : ℕ) → i < max_rows → LowWords rs i) where
  module _ {i n : ℕ} (l : i < max_rows) (e : word rs i 0 ≡ n) (h : number_of (either_k if_k) ≤ n) where
    in_a : n ≤ number_of (task_k view_k) → word rs i 1 < max_rows
    in_a u = let z = (low i l).low_a (omega arith) (omega arith) in omega arith

    in_b : word rs i 2 < max_rows
    in_b = let z = (low i l).low_b (omega arith) in omega arith

    in_c : n ≤ number_of (task_k view_k) → word rs i 3 < max_rows
    in_c u = let z = (low i l).low_c (omega arith) (omega arith) in omega arith

  inside : (d i : ℕ) (c : Code) → i < max_rows → Sits rs d i c → Inside rs i (tree_of c)
  inside d i (edit e) l s = l
  inside d i (enter τ) l s = l
  inside d i (update n) l s = l
  inside d i (then a b) l s = (l, inside d (op_a rs i) a (in_a l s.0 (omega arith) (omega arith)) s.1, inside (d + 1) (op_b rs i) b (in_b l s.0 (omega arith)) s.2)
  inside d i (next a b) l s = (l, inside d (op_a rs i) a (in_a l s.0 (omega arith) (omega arith)) s.1, inside (d + 1) (op_b rs i) b (in_b l s.0 (omega arith)) s.2)
  inside d i (fail τ) l s = l
  inside d i (and a b) l s = (l, inside d (op_a rs i) a (in_a l s.0 (omega arith) (omega arith)) s.1, inside d (op_b rs i) b (in_b l s.0 (omega arith)) s.2)
  inside d i (or a b) l s = (l, inside d (op_a rs i) a (in_a l s.0 (omega arith) (omega arith)) s.1, inside d (op_b rs i) b (in_b l s.0 (omega arith)) s.2)
  inside d i (xor a b) l s = (l, inside d (op_a rs i) a (in_a l s.0 (omega arith) (omega arith)) s.1, inside d (op_b rs i) b (in_b l s.0 (omega arith)) s.2)
  inside d i (view e) l s = l
  inside d i (gate r n b) l s = (l, inside d (op_b rs i) b (in_b l s.0 (omega arith)) s.3)
  inside d i (if e a b) l s = (l, inside d (op_b rs i) a (in_b l s.0 (omega arith)) s.2, inside d (op_c rs i) b (in_c l s.0 (omega arith) (omega arith)) s.3)
  inside d i (let' e b) l s = (l, inside (d + 1) (op_b rs i) b (in_b l s.0 (omega arith)) s.2)

-- ---- so it has at most 256

module _ (rs : List ℕ) where
  size_counted : (i : ℕ) (x : Tree) → Placed rs i x → Inside rs i x → size x ≤ counted (in_foot rs i x) max_rows
  unfolding size in_foot
  size_counted i leaf p l = counted_self i max_rows l
  size_counted i (under k x) p n =
      let h = size_counted (word rs i k) x p.1 n.1 in
      let o = counted_self i max_rows n.0 in
      let e = counted_or (λ j. eqb j i) (in_foot rs (word rs i k) x) (λ j u v. p.2.off j (in_foot_lem rs (word rs i k) x j v) (eqb→eq j i u)) max_rows in
      omega arith
  size_counted i (fork k x l y) p n =
      let h = size_counted (word rs i k) x p.1 n.1 in
      let g = size_counted (word rs i l) y p.2 n.2 in
      let o = counted_self i max_rows n.0 in
      let a = in_foot_lem rs (word rs i k) x in
      let b = in_foot_lem rs (word rs i l) y in
      let e = counted_or (in_foot rs (word rs i k) x) (in_foot rs (word rs i l) y) (λ j u v. p.3.apart j (a j u) (b j v)) max_rows in
      let f = counted_or (λ j. eqb j i) (λ j. in_foot rs (word rs i k) x j || in_foot rs (word rs i l) y j)
      (λ j u v. ⊎_elim (λ m. p.3.off_a j m (eqb→eq j i u)) (λ m. p.3.off_b j m (eqb→eq j i u)) (or_in (in_foot rs (word rs i k) x j) (in_foot rs (word rs i l) y j) (a j) (b j) v)) max_rows in
      omega arith

  moves_size : (c : Code) → moves c ≤ size (tree_of c)
  unfolding moves size
  moves_size (edit e) = omega arith
  moves_size (enter τ) = omega arith
  moves_size (update n) = omega arith
  moves_size (then a b) = omega (arith, moves_size a, moves_size b)
  moves_size (next a b) = omega (arith, moves_size a, moves_size b)
  moves_size (fail τ) = omega arith
  moves_size (and a b) = omega (arith, moves_size a, moves_size b)
  moves_size (or a b) = omega (arith, moves_size a, moves_size b)
  moves_size (xor a b) = omega (arith, moves_size a, moves_size b)
  moves_size (view e) = omega arith
  moves_size (gate r n b) = omega (arith, moves_size b)
  moves_size (if e a b) = omega (arith, moves_size a, moves_size b)
  moves_size (let' e b) = omega (arith, moves_size b)

  pub few_moves : (d d₁ i : ℕ) (c : Code) → Fine rs i d₁ → Sits rs d i c → moves c ≤ max_rows
  few_moves d d₁ i c f s =
      let h = moves_size c in
      let k = size_counted i (tree_of c) (placed rs d i c s) (inside rs f.lower d i c f.low s) in
      let l = counted_le (in_foot rs i (tree_of c)) max_rows in
      omega arith
