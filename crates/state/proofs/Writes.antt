-- A task written into rows of zeros (`write_task`): the rows of the task hold it, and no other row differs. Rests on Frames.
use mathlib.Core.Path.{◌≡◌, refl, sym, ◌∙◌, subst}
use mathlib.Core.Logic.{inl, inr}
use mathlib.Core.List.{List, [], ◌∷◌, ◌++◌, append-nil}
use Prim.Native.Nat.{ℕ, suc, ◌+◌, ◌*◌, ◌≤◌, ◌<◌}
use native.Mathlib.Omega.{arith}
use lib.ListN.{length, set, length-set, length-append}
use lib.Seq.{get_or-set_same, append_snoc}
use Rattle.tophat.specs.Syntax.{Code, edit, enter, update, then, next, fail, and, or, xor, view, gate, if, let', Val}
use Rattle.tophat.specs.Syntax.{TaskOf, filled, blank, entered, shared, before, after, failed, both, either, or_left, or_right, unpicked, picked_left, picked_right, gated, if_true, if_false, bound}
use Rattle.rows.specs.Kinds.{cell_k}
use Rattle.rows.specs.Rows.{word, op_a, op_b, op_c, FromKind}
use Rattle.state.specs.Layout.{state_words, place, value_words, touch_words, own, one, other, put_words, write_task}
use Rattle.state.specs.Holds.{leaf, under, fork, tree_of, Foot, Off, Split, Sits, Row, Clear, Holds, Same}
use Rattle.state.specs.Words.{Laid}
use Rattle.state.proofs.Words.{place_in, put_is, laid_more}
use Rattle.state.proofs.Frames.{same_refl, same_trans, same_weak, same_row, laid_same, keeps, keeps_laid, clear_kept, holds_kept, placed, foot_self, foot_high}

-- ---- a row of zeros, and words put into it

pub put_long : (xs : List ℕ) (ws : List ℕ) (i m : ℕ) → length (put_words ws i m xs) ≡ length ws
unfolding put_words
put_long [] ws i m = refl
put_long (x ∷ xs) ws i m = put_long xs (set ws (place i m) x) i (suc m) ∙ length-set ws (place i m) x

-- words put into a row of zeros
pub put_laid : (xs : List ℕ) {ws : List ℕ} {i : ℕ} (n : ℕ) → length xs ≤ state_words → length ws ≡ n * state_words → i < n → Row ws i [] → Laid ws (put_words ws i 0 xs) i xs
unfolding put_words
put_laid xs {ws} {i} n h e l r = after [] xs ws 0 refl (omega arith) e (record { row = r; same = same_refl })
  where
    -- after the words ys
    after : (ys zs : List ℕ) (ws₁ : List ℕ) (m : ℕ) → m ≡ length ys → m + length zs ≤ state_words → length ws₁ ≡ n * state_words → Laid ws ws₁ i ys → Laid ws (put_words ws₁ i m zs) i (ys ++ zs)
    after ys [] ws₁ m k g z p = subst (Laid ws ws₁ i) (sym (append-nil ys)) p
    after ys (x ∷ zs) ws₁ m k g z p =
        let ws₂ = set ws₁ (place i m) x in
        let q : Laid ws ws₂ i (ys ++ x ∷ []) = laid_more k (put_is (omega arith) refl (get_or-set_same ws₁ (place i m) x 0 (subst (λ v. place i m < v) (sym z) (place_in n i m l (omega arith))))) p in
        let w = length-append ys (x ∷ []) in
        subst (Laid ws (put_words ws₂ i (suc m) zs) i) (append_snoc ys x zs) (after (ys ++ x ∷ []) zs ws₂ (suc m) (omega arith) (omega arith) (length-set ws₁ (place i m) x ∙ z) q)

-- ---- values that fit their row

-- P holds of every value that a task has: contents and bound values
abbrev pub Each : (Val → Type 0) → (c : Code) → TaskOf c → Type 0
Each P (edit e) (filled v) = P v
Each P (enter τ) blank = Unit {0}
Each P (enter τ) (entered v) = P v
Each P (update n) t = Unit {0}
Each P (then a b) (before t) = Each P a t
Each P (then a b) (after v u) = P v × Each P b u
Each P (next a b) (before t) = Each P a t
Each P (next a b) (after v u) = P v × Each P b u
Each P (fail τ) t = Unit {0}
Each P (and a b) (both t u) = Each P a t × Each P b u
Each P (or a b) (either t u) = Each P a t × Each P b u
Each P (or a b) (or_left t) = Each P a t
Each P (or a b) (or_right u) = Each P b u
Each P (xor a b) unpicked = Unit {0}
Each P (xor a b) (picked_left t) = Each P a t
Each P (xor a b) (picked_right u) = Each P b u
Each P (view e) (filled v) = P v
Each P (gate r n b) (gated k u) = Each P b u
Each P (if e a b) (if_true t) = Each P a t
Each P (if e a b) (if_false u) = Each P b u
Each P (let' e b) (bound v u) = P v × Each P b u

-- the values of a task have words enough in a row
abbrev pub Short : Val → Type 0
Short v = length (own ∷ value_words v) ≤ state_words

abbrev pub Fits : (c : Code) → TaskOf c → Type 0
Fits c t = Each Short c t

-- ---- a task written into rows of zeros

-- what was written, H, into rows of F
pub record Wrote (H : Type 0) (F : ℕ → Type 0) (ws ws₁ : List ℕ) : Type 0 where
  pub holds : H
  pub same : Same F ws ws₁
  pub long : length ws₁ ≡ length ws

abbrev pub Writes : List ℕ → ℕ → ℕ → (c : Code) → TaskOf c → Type 0
Writes rs n i c t = (ws : List ℕ) → length ws ≡ n * state_words → Clear rs ws i (tree_of c) → Wrote (Holds rs (write_task rs i c t ws) i c t) (Foot rs i (tree_of c)) ws (write_task rs i c t ws)

module _ (rs : List ℕ) (n i : ℕ) (l : i < n) (xs : List ℕ) (h : length xs ≤ state_words) where
  -- the row, with nothing below it
  alone : (ws : List ℕ) → length ws ≡ n * state_words → Clear rs ws i leaf → Wrote (Row (put_words ws i 0 xs) i xs) (λ j. j ≡ i) ws (put_words ws i 0 xs)
  alone ws e c = let p = put_laid xs n h e l (c.dead i refl) in record { holds = p.row; same = p.same; long = put_long xs ws i 0 }

  -- the row, and the task below it
  module _ (k : ℕ) (b : Code) (u : TaskOf b) (o : Off rs i k (tree_of b)) (wb : Writes rs n (word rs i k) b u) (ws : List ℕ) (e : length ws ≡ n * state_words) (c : Clear rs ws i (under k (tree_of b))) where
    below : let ws₁ = put_words ws i 0 xs in let ws₂ = write_task rs (word rs i k) b u ws₁ in
        Wrote (Row ws₂ i xs × Holds rs ws₂ (word rs i k) b u) (Foot rs i (under k (tree_of b))) ws ws₂
    below =
        let p = put_laid xs n h e l (c.dead i (inl refl)) in
        let z = put_long xs ws i 0 in
        let c_b : Clear rs ws (word rs i k) (tree_of b) = record { dead = λ j f. c.dead j (inr f) } in
        let q = wb (put_words ws i 0 xs) (z ∙ e) (clear_kept c_b (keeps_laid o.off p)) in
        record {
          holds = (same_row q.same (λ f. o.off i f refl) p.row, q.holds);
          same = same_trans (laid_same p (inl refl)) (same_weak (λ j f. inr f) q.same);
          long = q.long ∙ z;
        }

  -- the row, and the task of A, of B, of both or of none
  module _ (k m : ℕ) (a b : Code) (o : Split rs i k (tree_of a) m (tree_of b)) (ws : List ℕ) (e : length ws ≡ n * state_words) (c : Clear rs ws i (fork k (tree_of a) m (tree_of b))) where
    abbrev FootF : ℕ → Type 0
    FootF = Foot rs i (fork k (tree_of a) m (tree_of b))

    abbrev first : List ℕ
    first = put_words ws i 0 xs

    long₁ : length first ≡ length ws
    long₁ = put_long xs ws i 0

    p : Laid ws first i xs
    p = put_laid xs n h e l (c.dead i (inl refl))

    clear_a : Clear rs first (word rs i k) (tree_of a)
    clear_a = clear_kept (record { dead = λ j f. c.dead j (inr (inl f)) }) (keeps_laid o.off_a p)

    clear_b : Clear rs first (word rs i m) (tree_of b)
    clear_b = clear_kept (record { dead = λ j f. c.dead j (inr (inr f)) }) (keeps_laid o.off_b p)

    up_a : {x y : List ℕ} → Same (Foot rs (word rs i k) (tree_of a)) x y → Same FootF x y
    up_a q = same_weak (λ j f. inr (inl f)) q

    up_b : {x y : List ℕ} → Same (Foot rs (word rs i m) (tree_of b)) x y → Same FootF x y
    up_b q = same_weak (λ j f. inr (inr f)) q

    neither : Wrote (Row first i xs × Clear rs first (word rs i k) (tree_of a) × Clear rs first (word rs i m) (tree_of b)) FootF ws first
    neither = record { holds = (p.row, clear_a, clear_b); same = laid_same p (inl refl); long = long₁ }

    left : (t : TaskOf a) → Writes rs n (word rs i k) a t → let ws₂ = write_task rs (word rs i k) a t first in
        Wrote (Row ws₂ i xs × Holds rs ws₂ (word rs i k) a t × Clear rs ws₂ (word rs i m) (tree_of b)) FootF ws ws₂
    left t wa =
        let q = wa first (long₁ ∙ e) clear_a in
        record {
          holds = (same_row q.same (λ f. o.off_a i f refl) p.row, q.holds, clear_kept clear_b (keeps (λ j f g. o.apart j g f) q.same));
          same = same_trans (laid_same p (inl refl)) (up_a q.same);
          long = q.long ∙ long₁;
        }

    right : (u : TaskOf b) → Writes rs n (word rs i m) b u → let ws₂ = write_task rs (word rs i m) b u first in
        Wrote (Row ws₂ i xs × Clear rs ws₂ (word rs i k) (tree_of a) × Holds rs ws₂ (word rs i m) b u) FootF ws ws₂
    right u wb =
        let q = wb first (long₁ ∙ e) clear_b in
        record {
          holds = (same_row q.same (λ f. o.off_b i f refl) p.row, clear_kept clear_a (keeps o.apart q.same), q.holds);
          same = same_trans (laid_same p (inl refl)) (up_b q.same);
          long = q.long ∙ long₁;
        }

    pub two : (t : TaskOf a) (u : TaskOf b) → Writes rs n (word rs i k) a t → Writes rs n (word rs i m) b u
        → let ws₂ = write_task rs (word rs i k) a t first in let ws₃ = write_task rs (word rs i m) b u ws₂ in
        Wrote (Row ws₃ i xs × Holds rs ws₃ (word rs i k) a t × Holds rs ws₃ (word rs i m) b u) FootF ws ws₃
    two t u wa wb =
        let q = left t wa in
        let ws₂ = write_task rs (word rs i k) a t first in
        let r = wb ws₂ (q.long ∙ e) q.holds.2 in
        record {
          holds = (same_row r.same (λ f. o.off_b i f refl) q.holds.0, holds_kept rs ws₂ (write_task rs (word rs i m) b u ws₂) (word rs i k) a t q.holds.1 (keeps o.apart r.same), r.holds);
          same = same_trans q.same (up_b r.same);
          long = r.long ∙ q.long;
        }

-- the rows of kind 10 or more are among the first n
abbrev pub Within : List ℕ → ℕ → Type 0
Within rs n = (j : ℕ) → FromKind rs j cell_k → j < n

module _ (rs : List ℕ) (n : ℕ) (within : Within rs n) where
  low : (d i : ℕ) (c : Code) → Sits rs d i c → i < n
  low d i c s = let h = foot_high rs i (tree_of c) (placed rs d i c s) i (foot_self rs i (tree_of c)) in within i (omega arith)

  pub write_task_lem : (d i : ℕ) (c : Code) (t : TaskOf c) → Sits rs d i c → Fits c t → Writes rs n i c t
  unfolding write_task
  write_task_lem d i (edit e) (filled v) s f = alone rs n i (low d i (edit e) s) (own ∷ value_words v) f
  write_task_lem d i (enter τ) blank s f = alone rs n i (low d i (enter τ) s) (own ∷ []) (omega arith)
  write_task_lem d i (enter τ) (entered v) s f = alone rs n i (low d i (enter τ) s) (one ∷ value_words v) f
  write_task_lem d i (update k) shared s f = alone rs n i (low d i (update k) s) (own ∷ []) (omega arith)
  write_task_lem d i (then a b) (before t) s f = λ ws e c. left rs n i (low d i (then a b) s) (own ∷ []) (omega arith) 1 2 a b s.3 ws e c t (write_task_lem d (op_a rs i) a t s.1 f)
  write_task_lem d i (then a b) (after v u) s f = λ ws e c. right rs n i (low d i (then a b) s) (one ∷ value_words v) f.0 1 2 a b s.3 ws e c u (write_task_lem (d + 1) (op_b rs i) b u s.2 f.1)
  write_task_lem d i (next a b) (before t) s f = λ ws e c. left rs n i (low d i (next a b) s) (own ∷ []) (omega arith) 1 2 a b s.3 ws e c t (write_task_lem d (op_a rs i) a t s.1 f)
  write_task_lem d i (next a b) (after v u) s f = λ ws e c. right rs n i (low d i (next a b) s) (one ∷ value_words v) f.0 1 2 a b s.3 ws e c u (write_task_lem (d + 1) (op_b rs i) b u s.2 f.1)
  write_task_lem d i (fail τ) failed s f = alone rs n i (low d i (fail τ) s) (own ∷ []) (omega arith)
  write_task_lem d i (and a b) (both t u) s f = λ ws e c.
      two rs n i (low d i (and a b) s) (own ∷ []) (omega arith) 1 2 a b s.3 ws e c t u (write_task_lem d (op_a rs i) a t s.1 f.0) (write_task_lem d (op_b rs i) b u s.2 f.1)
  write_task_lem d i (or a b) (either t u) s f = λ ws e c.
      two rs n i (low d i (or a b) s) (own ∷ []) (omega arith) 1 2 a b s.3 ws e c t u (write_task_lem d (op_a rs i) a t s.1 f.0) (write_task_lem d (op_b rs i) b u s.2 f.1)
  write_task_lem d i (or a b) (or_left t) s f = λ ws e c. left rs n i (low d i (or a b) s) (one ∷ []) (omega arith) 1 2 a b s.3 ws e c t (write_task_lem d (op_a rs i) a t s.1 f)
  write_task_lem d i (or a b) (or_right u) s f = λ ws e c. right rs n i (low d i (or a b) s) (other ∷ []) (omega arith) 1 2 a b s.3 ws e c u (write_task_lem d (op_b rs i) b u s.2 f)
  write_task_lem d i (xor a b) unpicked s f = λ ws e c. neither rs n i (low d i (xor a b) s) (own ∷ []) (omega arith) 1 2 a b s.3 ws e c
  write_task_lem d i (xor a b) (picked_left t) s f = λ ws e c. left rs n i (low d i (xor a b) s) (one ∷ []) (omega arith) 1 2 a b s.3 ws e c t (write_task_lem d (op_a rs i) a t s.1 f)
  write_task_lem d i (xor a b) (picked_right u) s f = λ ws e c. right rs n i (low d i (xor a b) s) (other ∷ []) (omega arith) 1 2 a b s.3 ws e c u (write_task_lem d (op_b rs i) b u s.2 f)
  write_task_lem d i (view e) (filled v) s f = alone rs n i (low d i (view e) s) (own ∷ value_words v) f
  write_task_lem d i (gate r m b) (gated k u) s f = below rs n i (low d i (gate r m b) s) (own ∷ touch_words k) (omega arith) 2 b u s.4 (write_task_lem d (op_b rs i) b u s.3 f)
  write_task_lem d i (if x a b) (if_true t) s f = λ ws e c. left rs n i (low d i (if x a b) s) (one ∷ []) (omega arith) 2 3 a b s.4 ws e c t (write_task_lem d (op_b rs i) a t s.2 f)
  write_task_lem d i (if x a b) (if_false u) s f = λ ws e c. right rs n i (low d i (if x a b) s) (other ∷ []) (omega arith) 2 3 a b s.4 ws e c u (write_task_lem d (op_c rs i) b u s.3 f)
  write_task_lem d i (let' x b) (bound v u) s f = below rs n i (low d i (let' x b) s) (one ∷ value_words v) f.0 2 b u s.3 (write_task_lem (d + 1) (op_b rs i) b u s.2 f.1)
