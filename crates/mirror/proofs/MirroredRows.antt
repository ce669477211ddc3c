-- Rows whose last row is of kind 46, and the same rows with its A and B exchanged: where the ones get no ground, neither do the others, and
-- they read as the same two parts, cells and types, the parts exchanged. Rests on Below and rows' grounds.
use mathlib.Core.Path.{◌≡◌, refl, sym, ap, subst, ◌∙◌}
use mathlib.Core.Bool.{true, ◌&&◌}
use mathlib.Core.Logic.{⊎_elim}
use mathlib.Core.List.{List, [], ◌∷◌, ◌++◌}
use Prim.Native.Nat.{ℕ, zero, suc, ◌+◌, ◌-◌, ◌<◌, ◌≤◌}
use native.Mathlib.Nat.{eq-or-lt_of_le, le_of_suc-le-suc}
use native.Mathlib.Decide.{ℕ_discrete}
use native.Mathlib.Omega.{arith}
use lib.Dec.{eqb}
use lib.ListN.{get_or}
use mir.Syntax.{w32}
use mir.Val.{to_z}
use Rattle.tophat.specs.Syntax.{Ty, truth, number, pair, Code, and, vtruth, vnumber, Store}
use Rattle.tophat.specs.Typing.{CodeType}
use Rattle.tophat.proofs.Basics.{and_left, and_right}
use Rattle.rows.specs.Kinds.{task_k, and_k, Ask, a_task, unused, no_s, task_s, Own, is, Around, nothing, mark, Asks, asks, no_asks, asks_of}
use Rattle.rows.specs.Rows.{row_words, word, asks_at, op_a, op_b, op_c, OfKind, every, listed, listed_as, row_listed, truth_cell, sorts, sorted_as, sorted, row_sorted, same_sort, names, names_by, names_in, namings, named_once, last_fits, fits_last}
use Rattle.rows.specs.Enclosing.{marks_by, binders_by, Under, here, in_a, in_b, in_c}
use Rattle.rows.specs.Trees.{ReadsType, r_unit, r_truth, r_number, r_pair, ReadsCell, r_cell, ReadsCode, r_and, Cells, c_none, c_truth, c_number, c_other, Flow}
use Rattle.rows.specs.Ground.{WellFormed, Small, passes3, passes4, passes5}
use Rattle.rows.proofs.Basics.{both, every_at, every_of}
use Rattle.mirror.proofs.Below.{SameBelow, is_a, is_b, is_c, type_below, cell_below, code_below}

-- the last row of rs, row m, is of kind 46; rs₁ are the same rows, but for its A and B, which are exchanged
pub record Exchanged (rs rs₁ : List ℕ) (m : ℕ) : Type 0 where
  pub last : OfKind rs m (task_k and_k)
  pub others : (i k : ℕ) → (i ≡ m → ⊥) → k < row_words → word rs₁ i k ≡ word rs i k
  pub last_kind : word rs₁ m 0 ≡ word rs m 0
  pub last_a : op_a rs₁ m ≡ op_b rs m
  pub last_b : op_b rs₁ m ≡ op_a rs m
  pub last_c : op_c rs₁ m ≡ op_c rs m

module _ {rs rs₁ : List ℕ} {m : ℕ} (x : Exchanged rs rs₁ m) where
  pub exchanged_below : SameBelow rs rs₁ m
  exchanged_below = record { same = λ i k l h. x.others i k (λ e. omega (arith, e)) h }

  exchanged_below_back : SameBelow rs₁ rs m
  exchanged_below_back = record { same = λ i k l h. sym (x.others i k (λ e. omega (arith, e)) h) }

  -- the other way round
  pub exchanged_back : Exchanged rs₁ rs m
  exchanged_back = record {
    last = x.last_kind ∙ x.last;
    others = λ i k o h. sym (x.others i k o h);
    last_kind = sym x.last_kind;
    last_a = sym x.last_b;
    last_b = sym x.last_a;
    last_c = sym x.last_c;
  }

  -- every row keeps its kind
  pub kinds : (i : ℕ) → word rs₁ i 0 ≡ word rs i 0
  kinds i = by (ℕ_discrete i m)
    where
      by : Dec (i ≡ m) → word rs₁ i 0 ≡ word rs i 0
      by (yes e) = rw e x.last_kind
      by (no o) = x.others i 0 o (omega arith)

  same_C : (i : ℕ) → op_c rs₁ i ≡ op_c rs i
  same_C i = by (ℕ_discrete i m)
    where
      by : Dec (i ≡ m) → op_c rs₁ i ≡ op_c rs i
      by (yes e) = rw e x.last_c
      by (no o) = x.others i 3 o (omega arith)

  -- ---- ground 3

  truth_same : (i : ℕ) → i < m → truth_cell rs₁ i ≡ truth_cell rs i
  unfolding truth_cell
  truth_same i l = rw (kinds i, is_a exchanged_below l, is_b exchanged_below l, kinds (op_a rs i)) refl

  -- 46 lists two tasks, and asks nothing of them here
  last_truth : truth_cell rs₁ m ≡ truth_cell rs m
  unfolding truth_cell
  last_truth = rw (x.last_kind, x.last) refl

  last_listed : row_listed rs₁ m ≡ row_listed rs m
  unfolding row_listed listed listed_as asks_of
  last_listed = rw (x.last_kind, x.last, x.last_c, last_truth) refl

  at_rows : {X : Type 0} (f g : ℕ → X) → f m ≡ g m → ((i : ℕ) → i < m → f i ≡ g i) → (i : ℕ) → i < suc m → f i ≡ g i
  at_rows f g p q i l = ⊎_elim (λ (e : i ≡ m). rw e p) (q i) (eq-or-lt_of_le (le_of_suc-le-suc l))

  listed_same : (i : ℕ) → i < suc m → row_listed rs₁ i ≡ row_listed rs i
  unfolding row_listed
  listed_same = at_rows (row_listed rs₁) (row_listed rs) last_listed (λ i l. rw (kinds i, is_a exchanged_below l, is_b exchanged_below l, is_c exchanged_below l, truth_same i l) refl)

  -- ---- ground 4

  sorts_same : (i : ℕ) → i ≤ m → sorts rs₁ i ≡ sorts rs i
  unfolding sorts
  sorts_same zero l = refl
  sorts_same (suc i) l = rw (sorts_same i (omega arith), kinds i, is_b exchanged_below {i = i} (omega arith)) refl

  -- 46 asks for two tasks
  last_sorted : row_sorted rs m ≡ true → row_sorted rs₁ m ≡ true
  unfolding row_sorted sorted sorted_as asks_of
  last_sorted h =
      let a = same_sort (get_or (sorts rs m) (op_a rs m) no_s) task_s in
      let b = same_sort (get_or (sorts rs m) (op_b rs m) no_s) task_s in
      let g : (a && (b && true)) ≡ true = rw x.last at h in
      rw (x.last_kind, x.last, x.last_a, x.last_b, sorts_same m (omega arith)) (both (and_left b true (and_right a (b && true) g)) (both (and_left a (b && true) g) refl))

  sorted_same : (i : ℕ) → i < m → row_sorted rs₁ i ≡ row_sorted rs i
  unfolding row_sorted
  sorted_same i l = rw (kinds i, is_a exchanged_below l, is_b exchanged_below l, is_c exchanged_below l, sorts_same i (omega arith)) refl

  -- ---- ground 5

  names_same : (i j : ℕ) → j < m → names_in rs₁ i j ≡ names_in rs i j
  unfolding names_in
  names_same i j l = rw (kinds j, is_a exchanged_below l, is_b exchanged_below l, is_c exchanged_below l) refl

  last_names : (i : ℕ) → names_in rs₁ i m ≡ names_in rs i m
  unfolding names_in names_by names asks_of
  last_names i = rw (x.last_kind, x.last, x.last_a, x.last_b) (omega arith)

  namings_same : (i j : ℕ) → j ≤ m → namings rs₁ i j ≡ namings rs i j
  unfolding namings
  namings_same i zero l = refl
  namings_same i (suc j) l = rw (namings_same i j (omega arith), names_same i j (omega arith)) refl

  all_namings : (i : ℕ) → namings rs₁ i (suc m) ≡ namings rs i (suc m)
  unfolding namings
  all_namings i = rw (namings_same i m (omega arith), last_names i) refl

  named_same : (i : ℕ) → named_once rs₁ (suc m) i ≡ named_once rs (suc m) i
  unfolding named_once
  named_same i = rw (kinds i, all_namings i) refl

  pub well_formed : WellFormed rs (suc m) → WellFormed rs₁ (suc m)
  unfolding passes3 passes4 passes5 last_fits
  well_formed f = record {
    listed = every_of (suc m) (row_listed rs₁) (λ i l. listed_same i l ∙ every_at (suc m) (row_listed rs) f.listed i l);
    sorted = every_of (suc m) (row_sorted rs₁) (λ i l. ⊎_elim
        (λ (e : i ≡ m). rw e (last_sorted (every_at (suc m) (row_sorted rs) f.sorted m (omega arith))))
        (λ (b : i < m). sorted_same i b ∙ every_at (suc m) (row_sorted rs) f.sorted i l)
        (eq-or-lt_of_le (le_of_suc-le-suc l)));
    named = both
        (every_of (suc m) (named_once rs₁ (suc m)) (λ i l. named_same i ∙ every_at (suc m) (named_once rs (suc m)) (and_left _ _ f.named) i l))
        (ap (λ w. fits_last w) (kinds (suc m - 1)) ∙ and_right (every (suc m) (named_once rs (suc m))) _ f.named);
  }

  -- ---- ground 6

  asks_46 : asks_at rs m ≡ asks a_task a_task unused (is task_s) mark
  unfolding asks_of
  asks_46 = rw x.last refl

  -- what a row of kind 46 puts around: a mark, on either side
  marks_46 : {p q r : Ask} {o : Own} {y : Around} → asks_at rs₁ m ≡ asks p q r o y → y ≡ mark
  marks_46 e = ap around (sym e ∙ ap asks_of x.last_kind ∙ asks_46)
    where
      around : Asks → Around
      around (asks p q r o y) = y
      around no_asks = nothing

  same_asks : (j : ℕ) {p q r : Ask} {o : Own} {y : Around} → asks_at rs₁ j ≡ asks p q r o y → asks_at rs j ≡ asks p q r o y
  same_asks j e = ap asks_of (sym (kinds j)) ∙ e

  module _ (j : ℕ) {i b k : ℕ} {p q r : Ask} {o : Own} {y : Around} (e : asks_at rs₁ j ≡ asks p q r o y) where
    under_A : names p ≡ true → Under rs (op_a rs₁ j) i b k → Under rs j i b (marks_by y + k)
    unfolding marks_by binders_by names
    under_A h u = by (ℕ_discrete j m)
      where
        at_last : j ≡ m → Under rs (op_a rs₁ j) i b k → Under rs m i b (marks_by y + k)
        at_last d v =
            let z = marks_46 (ap (asks_at rs₁) (sym d) ∙ e) in
            let n : binders_by mark + b ≡ b = omega arith in
            rw z (subst (λ c. Under rs m i c (marks_by mark + k)) n (in_b asks_46 refl (rw (d, x.last_a) at v)))

        by : Dec (j ≡ m) → Under rs j i b (marks_by y + k)
        by (yes d) = subst (λ j. Under rs j i b (marks_by y + k)) (sym d) (at_last d u)
        by (no n) = in_a (same_asks j e) h (rw (x.others j 1 n (omega arith)) at u)

    under_B : names q ≡ true → Under rs (op_b rs₁ j) i b k → Under rs j i (binders_by y + b) (marks_by y + k)
    unfolding marks_by binders_by names
    under_B h u = by (ℕ_discrete j m)
      where
        at_last : j ≡ m → Under rs (op_b rs₁ j) i b k → Under rs m i (binders_by y + b) (marks_by y + k)
        at_last d v =
            let z = marks_46 (ap (asks_at rs₁) (sym d) ∙ e) in
            let n : b ≡ binders_by mark + b = omega arith in
            rw z (subst (λ c. Under rs m i c (marks_by mark + k)) n (in_a asks_46 refl (rw (d, x.last_b) at v)))

        by : Dec (j ≡ m) → Under rs j i (binders_by y + b) (marks_by y + k)
        by (yes d) = subst (λ j. Under rs j i (binders_by y + b) (marks_by y + k)) (sym d) (at_last d u)
        by (no n) = in_b (same_asks j e) h (rw (x.others j 2 n (omega arith)) at u)

    under_C : names r ≡ true → Under rs (op_c rs₁ j) i b k → Under rs j i b k
    under_C h u = in_c (same_asks j e) h (rw (same_C j) at u)

  under_same : {j i b k : ℕ} → Under rs₁ j i b k → Under rs j i b k
  under_same here = here
  under_same {j} (in_a e h u) = under_A j e h (under_same u)
  under_same {j} (in_b e h u) = under_B j e h (under_same u)
  under_same {j} (in_c e h u) = under_C j e h (under_same u)

  -- the last row is no type
  type_same : {i : ℕ} {τ : Ty} → i < suc m → ReadsType rs₁ i τ → ReadsType rs i τ
  type_same {i} {τ} l r = ⊎_elim (λ (e : i ≡ m). absurd (no_type (subst (λ i. ReadsType rs₁ i τ) e r))) (λ (b : i < m). type_below (exchanged_below_back) b r) (eq-or-lt_of_le (le_of_suc-le-suc l))
    where
      no_type : {υ : Ty} → ReadsType rs₁ m υ → ⊥
      no_type (r_unit k) = let h = x.last in let g = x.last_kind in omega (arith, k, h, g)
      no_type (r_truth k) = let h = x.last in let g = x.last_kind in omega (arith, k, h, g)
      no_type (r_number k) = let h = x.last in let g = x.last_kind in omega (arith, k, h, g)
      no_type (r_pair k a b c d) = let h = x.last in let g = x.last_kind in omega (arith, k, h, g)

  pub small : Small rs (suc m) → Small rs₁ (suc m)
  small s = record { types = λ l r. s.types l (type_same l r); binders = λ l u. s.binders l (under_same u); marks = λ l u. s.marks l (under_same u) }

  -- ---- ground 7

  cell_same : {i : ℕ} {τ : Ty} → ReadsCell rs i τ → i ≤ m → ReadsCell rs₁ i τ
  cell_same {i} {τ} r l = ⊎_elim (λ (e : i ≡ m). absurd (no_cell (subst (λ i. ReadsCell rs i τ) e r))) (λ (b : i < m). cell_below exchanged_below b r) (eq-or-lt_of_le l)
    where
      no_cell : {υ : Ty} → ReadsCell rs m υ → ⊥
      no_cell (r_cell k a b) = let h = x.last in omega (arith, k, h)

  cell_B : {i : ℕ} {τ : Ty} → ReadsCell rs i τ → suc i ≤ suc m → op_b rs₁ i ≡ op_b rs i
  cell_B {i} {τ} (r_cell k a b) l = x.others i 2 (λ e. let h = x.last in let g : word rs m 0 ≡ 10 = subst (λ i. word rs i 0 ≡ 10) e k in omega (arith, g, h)) (omega arith)

  cells_same : {n : ℕ} {Σ : List Ty} {s : Store} → n ≤ suc m → Cells rs n Σ s → Cells rs₁ n Σ s
  cells_same l c_none = c_none
  cells_same l (c_truth {i} {Σ} {s} d c) = subst (λ w. Cells rs₁ (suc i) (Σ ++ truth ∷ []) (s ++ vtruth (eqb w 1) ∷ [])) (cell_B c l) (c_truth (cells_same (omega arith) d) (cell_same c (omega arith)))
  cells_same l (c_number {i} {Σ} {s} d c) = subst (λ w. Cells rs₁ (suc i) (Σ ++ number ∷ []) (s ++ vnumber (to_z w32 w) ∷ [])) (cell_B c l) (c_number (cells_same (omega arith) d) (cell_same c (omega arith)))
  cells_same l (c_other {i} d c) = c_other (cells_same (omega arith) d) (λ k. c (sym (kinds i) ∙ k))

  -- the two parts exchanged
  pub code_exchanged : {a b : Code} → ReadsCode rs m (and a b) → ReadsCode rs₁ m (and b a)
  code_exchanged (r_and {a = a} {b = b} k p q g h) = r_and {a = b} {b = a}
      (x.last_kind ∙ k) (rw x.last_a q) (rw x.last_b p)
      (rw x.last_a (code_below exchanged_below q h)) (rw x.last_b (code_below exchanged_below p g))

  pub mirrored_flow : {a b : Code} {Σ : List Ty} {s : Store} {τ υ : Ty} → ReadsCode rs m (and a b) → Cells rs (suc m) Σ s → CodeType Σ [] (and b a) (pair υ τ)
      → Flow rs₁ (suc m) (and b a) Σ s (pair υ τ)
  mirrored_flow {a} {b} r d k =
      let e : m ≡ suc m - 1 = omega arith in
      record { code = subst (λ i. ReadsCode rs₁ i (and b a)) e (code_exchanged r); cells = cells_same (omega arith) d; typed = k }
