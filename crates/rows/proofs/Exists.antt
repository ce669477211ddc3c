-- Rows that pass ground 4 read as trees, each row as its sort says; so do their cells. Rests on Trees and KindNumbers.
use mathlib.Core.Path.{◌≡◌, refl, sym, ap, subst, ◌∙◌}
use mathlib.Core.Bool.{true, ◌&&◌, ◌||◌}
use mathlib.Core.Logic.{⊎_elim}
use mathlib.Core.List.{List, [], ◌∷◌}
use Prim.Native.Nat.{ℕ, zero, suc, ◌<◌, ◌≤◌}
use native.Mathlib.Omega.{arith}
use lib.ListN.{get_or}
use borrow.Author.Tests.{eqb-true}
use Rattle.match_laws.proofs.Ranges.{and_left, and_right}
use Rattle.tophat.specs.Syntax.{Ty, truth, number, Exp, Code, Store}
use Rattle.rows.specs.Kinds.{Kind, type_k, unit_k, truth_k, number_k, pair_k, cell_k, plain_k, eunit_k, etruth_k, enumber_k, ebinder_k, eop_k, epair_k, efst_k, esnd_k, ederef_k, eassign_k}
use Rattle.rows.specs.Kinds.{either_k, if_k, let_k, task_k, edit_k, enter_k, update_k, then_k, next_k, fail_k, and_k, or_k, xor_k, view_k, gate_k}
use Rattle.rows.specs.Kinds.{Sort, type_s, basic_s, cell_s, plain_s, task_s, no_s, asks_of, number_of}
use Rattle.rows.specs.Rows.{word, OfKind, op_a, op_b, op_c, sort_by, sorts, sort_below, sort_number, same_sort, sorted_as, sorted, row_sorted}
use Rattle.rows.specs.Trees.{ReadsType, r_unit, r_truth, r_number, r_pair, ReadsCell, r_cell, Cells, c_none, c_truth, c_number, c_other}
use Rattle.rows.specs.Trees.{ReadsExp, r_eunit, r_etruth, r_enumber, r_ebinder, r_eop, r_eif, r_epair, r_efst, r_esnd, r_ederef, r_eassign, r_elet}
use Rattle.rows.specs.Trees.{ReadsCode, r_edit, r_enter, r_update, r_then, r_next, r_fail, r_and, r_or, r_xor, r_view, r_gate, r_if, r_let}
use Rattle.rows.proofs.Basics.{no, or_cases, le_or_lt, made_past}
use Rattle.rows.proofs.KindNumbers.{by_kind, no_asks_lem}
use Rattle.rows.proofs.SortsBelow.{sort_at, made, sort_below_lem}

-- ---- sorts

abbrev sort_of : ℕ → Sort
sort_of k = get_or (no_s ∷ type_s ∷ basic_s ∷ cell_s ∷ plain_s ∷ task_s ∷ []) k no_s

sort_of_lem : (s : Sort) → sort_of (sort_number s) ≡ s
unfolding sort_number
sort_of_lem type_s = refl
sort_of_lem basic_s = refl
sort_of_lem cell_s = refl
sort_of_lem plain_s = refl
sort_of_lem task_s = refl
sort_of_lem no_s = refl

pub same_sort_lem : (s t : Sort) → same_sort s t ≡ true → s ≡ t
same_sort_lem s t h = sym (sort_of_lem s) ∙ ap sort_of (eqb-true (sort_number s) (sort_number t) h) ∙ sort_of_lem t

-- a sort that a row has
abbrev pub Known : Sort → Type 0
Known type_s = Unit {0}
Known basic_s = Unit {0}
Known cell_s = Unit {0}
Known plain_s = Unit {0}
Known task_s = Unit {0}
Known no_s = ⊥

-- what a cell may hold
pub data Basic : Ty → Type 0 where
  is_truth : Basic truth
  is_number : Basic number

module _ (rs : List ℕ) where
  pub sort_past : (i w : ℕ) → i ≤ w → sort_below rs i w ≡ no_s
  unfolding sorts
  sort_past = made_past no_s (made rs) (sorts rs) refl (λ i. refl)

  -- a row that has a sort for row i is lower
  pub lower_of : (i w : ℕ) (s : Sort) → Known s → sort_below rs i w ≡ s → w < i
  lower_of i w s k e = ⊎_elim (λ l. absurd (subst Known (sym e ∙ sort_past i w l) k)) (λ l. l) (le_or_lt i w)

  -- what row i reads as, by its sort
  pub data Has (i : ℕ) : Sort → Type 0 where
    has_type : {τ : Ty} → ReadsType rs i τ → Has i type_s
    has_basic : {τ : Ty} → Basic τ → ReadsType rs i τ → Has i basic_s
    has_cell : {τ : Ty} → Basic τ → ReadsCell rs i τ → Has i cell_s
    has_plain : {a : Exp} → ReadsExp rs i a → Has i plain_s
    has_task : {c : Code} → ReadsCode rs i c → Has i task_s

  module _ (i : ℕ) (below : (w : ℕ) → w < i → Has w (sort_at rs w)) where
    operand : (w : ℕ) (s : Sort) → Known s → sort_below rs i w ≡ s → (w < i) × Has w s
    operand w s k e = let l = lower_of i w s k e in (l, subst (Has w) (sym (sort_below_lem rs i w l) ∙ e) (below w l))

    -- what an operand that is asked to be of a sort reads as
    a_basic : (w : ℕ) → sort_below rs i w ≡ basic_s → (w < i) × (τ : Ty) × Basic τ × ReadsType rs w τ
    a_basic w e = let (l, d) = operand w basic_s tt e in let (τ, b, f) = by d in (l, τ, b, f)
      where
        by : Has w basic_s → (τ : Ty) × Basic τ × ReadsType rs w τ
        by (has_basic b d) = (_, b, d)

    a_type : (w : ℕ) → (same_sort (sort_below rs i w) type_s || same_sort (sort_below rs i w) basic_s) ≡ true → (w < i) × (τ : Ty) × ReadsType rs w τ
    a_type w h = ⊎_elim
        (λ p. let (l, d) = operand w type_s tt (same_sort_lem _ type_s p) in let (τ, f) = by d in (l, τ, f))
        (λ p. let (l, τ, b, f) = a_basic w (same_sort_lem _ basic_s p) in (l, τ, f)) (or_cases _ _ h)
      where
        by : Has w type_s → (τ : Ty) × ReadsType rs w τ
        by (has_type d) = (_, d)

    a_cell : (w : ℕ) → same_sort (sort_below rs i w) cell_s ≡ true → (w < i) × (τ : Ty) × ReadsCell rs w τ
    a_cell w h = let (l, d) = operand w cell_s tt (same_sort_lem _ cell_s h) in let (τ, f) = by d in (l, τ, f)
      where
        by : Has w cell_s → (τ : Ty) × ReadsCell rs w τ
        by (has_cell b d) = (_, d)

    a_plain : (w : ℕ) → same_sort (sort_below rs i w) plain_s ≡ true → (w < i) × (a : Exp) × ReadsExp rs w a
    a_plain w h = let (l, d) = operand w plain_s tt (same_sort_lem _ plain_s h) in let (a, f) = by d in (l, a, f)
      where
        by : Has w plain_s → (a : Exp) × ReadsExp rs w a
        by (has_plain d) = (_, d)

    a_task : (w : ℕ) → same_sort (sort_below rs i w) task_s ≡ true → (w < i) × (c : Code) × ReadsCode rs w c
    a_task w h = let (l, d) = operand w task_s tt (same_sort_lem _ task_s h) in let (c, f) = by d in (l, c, f)
      where
        by : Has w task_s → (c : Code) × ReadsCode rs w c
        by (has_task d) = (_, d)

    abbrev a : Sort
    a = sort_below rs i (op_a rs i)

    abbrev b : Sort
    b = sort_below rs i (op_b rs i)

    abbrev c : Sort
    c = sort_below rs i (op_c rs i)

    plains : (same_sort a plain_s && (same_sort b plain_s && true)) ≡ true → (op_a rs i < i) × (op_b rs i < i) × (x : Exp) × (y : Exp) × ReadsExp rs (op_a rs i) x × ReadsExp rs (op_b rs i) y
    plains h = let (l, x, p) = a_plain (op_a rs i) (and_left _ _ h) in
        let (m, y, q) = a_plain (op_b rs i) (and_left _ _ (and_right (same_sort a plain_s) _ h)) in (l, m, x, y, p, q)

    tasks : (same_sort a task_s && (same_sort b task_s && true)) ≡ true → (op_a rs i < i) × (op_b rs i < i) × (x : Code) × (y : Code) × ReadsCode rs (op_a rs i) x × ReadsCode rs (op_b rs i) y
    tasks h = let (l, x, p) = a_task (op_a rs i) (and_left _ _ h) in
        let (m, y, q) = a_task (op_b rs i) (and_left _ _ (and_right (same_sort a task_s) _ h)) in (l, m, x, y, p, q)

    -- 25 and 31, by the sort of B
    if_has : OfKind rs i (either_k if_k) → same_sort a plain_s ≡ true → (same_sort b plain_s || same_sort b task_s) ≡ true → same_sort c b ≡ true → Has i b
    if_has k p h m = let (l, x, d) = a_plain (op_a rs i) p in ⊎_elim
        (λ q. let (n, y, f) = a_plain (op_b rs i) q in
        let (o, z, g) = a_plain (op_c rs i) (subst (λ s. same_sort c s ≡ true) (same_sort_lem b plain_s q) m) in
        subst (Has i) (sym (same_sort_lem b plain_s q)) (has_plain (r_eif k l n o d f g)))
        (λ q. let (n, y, f) = a_task (op_b rs i) q in
        let (o, z, g) = a_task (op_c rs i) (subst (λ s. same_sort c s ≡ true) (same_sort_lem b task_s q) m) in
        subst (Has i) (sym (same_sort_lem b task_s q)) (has_task (r_if k l n o d f g)))
        (or_cases _ _ h)

    let_has : OfKind rs i (either_k let_k) → same_sort a plain_s ≡ true → (same_sort b plain_s || same_sort b task_s) ≡ true → Has i b
    let_has k p h = let (l, x, d) = a_plain (op_a rs i) p in ⊎_elim
        (λ q. let (n, y, f) = a_plain (op_b rs i) q in subst (Has i) (sym (same_sort_lem b plain_s q)) (has_plain (r_elet k l n d f)))
        (λ q. let (n, y, f) = a_task (op_b rs i) q in subst (Has i) (sym (same_sort_lem b task_s q)) (has_task (r_let k l n d f)))
        (or_cases _ _ h)

    row_has : (k : Kind) → OfKind rs i k → sorted (asks_of (number_of k)) a b c ≡ true → Has i (sort_by (asks_of (number_of k)) b)
    unfolding asks_of sorted sorted_as sort_by
    row_has (type_k unit_k) k h = has_type (r_unit k)
    row_has (type_k truth_k) k h = has_basic is_truth (r_truth k)
    row_has (type_k number_k) k h = has_basic is_number (r_number k)
    row_has (type_k pair_k) k h =
        let (l, τ, d) = a_type (op_a rs i) (and_left _ _ h) in
        let (m, υ, e) = a_type (op_b rs i) (and_left _ _ (and_right (same_sort a type_s || same_sort a basic_s) _ h)) in has_type (r_pair k l m d e)
    row_has cell_k k h = let (l, τ, t, d) = a_basic (op_a rs i) (same_sort_lem _ basic_s (and_left _ _ h)) in has_cell t (r_cell k l d)
    row_has (plain_k eunit_k) k h = has_plain (r_eunit k)
    row_has (plain_k etruth_k) k h = has_plain (r_etruth k)
    row_has (plain_k enumber_k) k h = has_plain (r_enumber k)
    row_has (plain_k ebinder_k) k h = has_plain (r_ebinder k)
    row_has (plain_k eop_k) k h =
        let (l, x, d) = a_plain (op_b rs i) (and_left _ _ h) in
        let (m, y, e) = a_plain (op_c rs i) (and_right (same_sort b plain_s) _ h) in has_plain (r_eop k l m d e)
    row_has (either_k if_k) k h =
        let r = and_right (same_sort a plain_s) _ h in
        if_has k (and_left _ _ h) (and_left _ _ r) (and_right (same_sort b plain_s || same_sort b task_s) _ r)
    row_has (plain_k epair_k) k h = let (l, m, x, y, d, e) = plains h in has_plain (r_epair k l m d e)
    row_has (plain_k efst_k) k h = let (l, x, d) = a_plain (op_a rs i) (and_left _ _ h) in has_plain (r_efst k l d)
    row_has (plain_k esnd_k) k h = let (l, x, d) = a_plain (op_a rs i) (and_left _ _ h) in has_plain (r_esnd k l d)
    row_has (plain_k ederef_k) k h = let (l, τ, d) = a_cell (op_a rs i) (and_left _ _ h) in has_plain (r_ederef k l d)
    row_has (plain_k eassign_k) k h =
        let (l, τ, d) = a_cell (op_a rs i) (and_left _ _ h) in
        let (m, y, e) = a_plain (op_b rs i) (and_left _ _ (and_right (same_sort a cell_s) _ h)) in has_plain (r_eassign k l m d e)
    row_has (either_k let_k) k h = let_has k (and_left _ _ h) (and_left _ _ (and_right (same_sort a plain_s) _ h))
    row_has (task_k edit_k) k h = let (l, x, d) = a_plain (op_a rs i) (and_left _ _ h) in has_task (r_edit k l d)
    row_has (task_k enter_k) k h = let (l, τ, d) = a_type (op_a rs i) (and_left _ _ h) in has_task (r_enter k l d)
    row_has (task_k update_k) k h = let (l, τ, d) = a_cell (op_a rs i) (and_left _ _ h) in has_task (r_update k l d)
    row_has (task_k then_k) k h = let (l, m, x, y, d, e) = tasks h in has_task (r_then k l m d e)
    row_has (task_k next_k) k h = let (l, m, x, y, d, e) = tasks h in has_task (r_next k l m d e)
    row_has (task_k fail_k) k h = let (l, τ, d) = a_type (op_a rs i) (and_left _ _ h) in has_task (r_fail k l d)
    row_has (task_k and_k) k h = let (l, m, x, y, d, e) = tasks h in has_task (r_and k l m d e)
    row_has (task_k or_k) k h = let (l, m, x, y, d, e) = tasks h in has_task (r_or k l m d e)
    row_has (task_k xor_k) k h = let (l, m, x, y, d, e) = tasks h in has_task (r_xor k l m d e)
    row_has (task_k view_k) k h = let (l, x, d) = a_plain (op_a rs i) (and_left _ _ h) in has_task (r_view k l d)
    row_has (task_k gate_k) k h = let (l, x, d) = a_task (op_b rs i) (and_left _ _ h) in has_task (r_gate k l d)

    -- a row that is sorted is of some kind
    some_row : (w : ℕ) → word rs i 0 ≡ w → sorted (asks_of w) a b c ≡ true → Has i (sort_by (asks_of w) b)
    unfolding sorted
    some_row = by_kind (λ w. word rs i 0 ≡ w → sorted (asks_of w) a b c ≡ true → Has i (sort_by (asks_of w) b))
        (λ w e q h. no (subst (λ s. sorted s a b c ≡ true) (no_asks_lem w e) h)) row_has

-- ---- the theorem

-- the rows below n pass ground 4
abbrev pub Sorted : List ℕ → ℕ → Type 0
Sorted rs n = (i : ℕ) → i < n → row_sorted rs i ≡ true

module _ (rs : List ℕ) (n : ℕ) (q : Sorted rs n) where
  by_rows : (m i : ℕ) → i < m → m ≤ n → Has rs i (sort_at rs i)
  unfolding sort_at row_sorted
  by_rows zero i l h = absurd (omega arith)
  by_rows (suc m) i l h = some_row rs i (λ w b. by_rows m w (omega arith) (omega arith)) (word rs i 0) refl (q i (omega arith))

  -- each row reads as its sort
  pub exists : (i : ℕ) → i < n → Has rs i (sort_at rs i)
  exists i l = by_rows n i l (omega arith)

  pub code_exists : (i : ℕ) → i < n → sort_at rs i ≡ task_s → (c : Code) × ReadsCode rs i c
  code_exists i l e = by (subst (Has rs i) e (exists i l))
    where
      by : Has rs i task_s → (c : Code) × ReadsCode rs i c
      by (has_task d) = (_, d)

  -- the cells
  not_cell : (i : ℕ) (s : Sort) → sort_at rs i ≡ s → (s ≡ cell_s → ⊥) → OfKind rs i cell_k → ⊥
  unfolding sort_at sort_by asks_of
  not_cell i s e z k = z (sym e ∙ ap (λ w. sort_by (asks_of w) (sort_below rs i (op_b rs i))) k)

  more_cells : (i : ℕ) {Σ : List Ty} {s : Store} → Cells rs i Σ s → {t : Sort} → sort_at rs i ≡ t → Has rs i t → (Σ₁ : List Ty) × (s₁ : Store) × Cells rs (suc i) Σ₁ s₁
  more_cells i d e (has_type h) = (_, _, c_other d (not_cell i type_s e (λ x. let z : ◌≡◌ {A = ℕ} 0 1 = cc in omega arith)))
  more_cells i d e (has_basic b h) = (_, _, c_other d (not_cell i basic_s e (λ x. let z : ◌≡◌ {A = ℕ} 0 1 = cc in omega arith)))
  more_cells i d e (has_cell is_truth h) = (_, _, c_truth d h)
  more_cells i d e (has_cell is_number h) = (_, _, c_number d h)
  more_cells i d e (has_plain h) = (_, _, c_other d (not_cell i plain_s e (λ x. let z : ◌≡◌ {A = ℕ} 0 1 = cc in omega arith)))
  more_cells i d e (has_task h) = (_, _, c_other d (not_cell i task_s e (λ x. let z : ◌≡◌ {A = ℕ} 0 1 = cc in omega arith)))

  cells_below : (m : ℕ) → m ≤ n → (Σ : List Ty) × (s : Store) × Cells rs m Σ s
  cells_below zero h = (_, _, c_none)
  cells_below (suc m) h = let (Σ, s, d) = cells_below m (omega arith) in more_cells m d refl (exists m (omega arith))

  pub cells_exist : (Σ : List Ty) × (s : Store) × Cells rs n Σ s
  cells_exist = cells_below n (omega arith)
