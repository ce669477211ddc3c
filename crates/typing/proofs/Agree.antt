-- The type of a row by shapes is the shape of the type that the calculus gives the tree which the row reads as; so in rows
-- that pass grounds 4 and 6 the last row's is that of the flow's own type. Rests on Steps, Cells, TypeRows and TaskLaws.
use mathlib.Core.Path.{◌≡◌, refl, sym, ap, subst, ◌∙◌}
use mathlib.Core.Bool.{Bool, true, false, cond, ◌&&◌}
use mathlib.Core.Option.{none, some, bind}
use mathlib.Core.List.{List, [], ◌∷◌}
use Prim.Native.Nat.{ℕ, suc, ◌-◌, ◌<◌, ◌≤◌}
use native.Mathlib.Decide.{dec_le}
use native.Mathlib.Omega.{arith}
use lib.Dec.{ltb}
use lib.ListN.{length, replicate}
use lib.IntN.{pos, negsuc}
use lib.Signed.{mag}
use mir.Syntax.{w32}
use mir.Val.{to_z, sel}
use borrow.Author.Tests.{lt-ltb, ltb-true, ltb-false}
use Rattle.word.specs.Word.{half, IsWord}
use Rattle.tophat.specs.Syntax.{max_leaves, Ty, number, pair, leaves, Exp, Code}
use Rattle.tophat.proofs.ComputeTyping.{ask, nth, number_to, type_to, infer, infer_task}
use Rattle.tophat.proofs.TypingAgrees.{type_to_lem}
use Rattle.shape.specs.Shape.{put, as_shape, maybe_shape}
use Rattle.shape.proofs.Puts.{by_test}
use Rattle.rows.specs.Kinds.{Sort, task_s, type_k, unit_k, truth_k, number_k, pair_k, cell_k, plain_k, eunit_k, etruth_k, enumber_k, ebinder_k, eop_k, epair_k, efst_k, esnd_k, ederef_k, eassign_k, either_k, if_k, let_k, task_k, edit_k, enter_k, update_k, then_k, next_k, fail_k, and_k, or_k, xor_k, view_k, gate_k}
use Rattle.rows.specs.Rows.{op_a, op_b, op_c, same_sort, sort_number, row_sorted}
use Rattle.rows.specs.Enclosing.{max_binders}
use Rattle.rows.specs.Trees.{ReadsType, r_unit, r_truth, r_number, r_pair, ReadsCell, r_cell}
use Rattle.rows.specs.Trees.{ReadsExp, r_eunit, r_etruth, r_enumber, r_ebinder, r_eop, r_eif, r_epair, r_efst, r_esnd, r_ederef, r_eassign, r_elet}
use Rattle.rows.specs.Trees.{ReadsCode, r_edit, r_enter, r_update, r_then, r_next, r_fail, r_and, r_or, r_xor, r_view, r_gate, r_if, r_let}
use Rattle.rows.specs.ComputeTrees.{code_at, cell_types}
use Rattle.rows.specs.Ground.{flow_type, passes4, passes6}
use Rattle.rows.proofs.Basics.{every_at}
use Rattle.rows.proofs.Exists.{Sorted, Has, has_type, has_basic, has_cell, has_plain, has_task, exists, same_sort_lem, code_exists}
use Rattle.rows.proofs.SortsBelow.{sort_at}
use Rattle.rows.proofs.TreesAgree.{code_is}
use Rattle.rows.proofs.CodeRead.{type_none, cell_none, exp_none}
use Rattle.rows.proofs.Most.{small_of}
use Rattle.rows.proofs.Binders.{code_fits}
use Rattle.rows.specs.Fits.{FitsExp, FitsCode}
use Rattle.typing.specs.BinderShapes.{BinderShapes}
use Rattle.typing.specs.RowTypes.{type_of, is_task, flow_shape}
use Rattle.typing.specs.declared.Node.{Node}
use Rattle.typing.proofs.TaskLaws.{task_sort}
use Rattle.typing.proofs.Cells.{cell_known}
use Rattle.typing.proofs.TypeRows.{row_is}
use Rattle.typing.proofs.Steps.{Good, good_by, op_good, same_good, assign_good, if_good, pair_good, first_good, second_good, binder_good, bind_good}

-- ---- every word is one

word_is : (w : ℕ) → IsWord (to_z w32 w)
word_is w = by (ltb w half) (λ e. ltb-true w half e) (λ e. ltb-false w half e)
  where
    by : (b : Bool) → (b ≡ true → w < half) → (b ≡ false → half ≤ w) → IsWord (sel b (pos w) (negsuc (4294967296 - suc w)))
    by true p q = p refl
    by false p q = let h = q refl in omega arith

number_good : (w : ℕ) → Good (number_to (to_z w32 w)) 3
unfolding number_to ask maybe_shape as_shape put leaves
number_good w = by (dec_le (suc (mag (to_z w32 w))) half) (word_is w)
  where
    by : (d : Dec (IsWord (to_z w32 w))) → IsWord (to_z w32 w) → Good (ask d (some number)) 3
    by (yes p) h = record { is = refl; small = omega arith }
    by (no n) h = absurd (n h)

-- ---- a row by its kind

module _ (rs : List ℕ) where
  is1 : (i a : ℕ) (x : Node) → a < i → cond (ltb a i) (some x) none ≡ some x
  is1 i a x p = rw (lt-ltb a i p)

  is2 : (i a b : ℕ) (x : Node) → a < i → b < i → cond (ltb a i && ltb b i) (some x) none ≡ some x
  is2 i a b x p q = rw (lt-ltb a i p, lt-ltb b i q)

  is3 : (i a b c : ℕ) (x : Node) → a < i → b < i → c < i → cond (ltb a i && ltb b i && ltb c i) (some x) none ≡ some x
  is3 i a b c x p q r = rw (lt-ltb a i p, lt-ltb b i q, lt-ltb c i r)

  module _ (N : ℕ) (cells : List Ty) (known : (i : ℕ) (τ : Ty) → i < N → ReadsCell rs i τ → nth cells i ≡ some τ) (small : (i : ℕ) (τ : Ty) → i < N → ReadsType rs i τ → leaves τ ≤ max_leaves) where
    pub type_good : {i : ℕ} {τ : Ty} → ReadsType rs i τ → i < N → (env : List ℕ) (n : ℕ) → Good (some τ) (type_of rs env n i)
    unfolding maybe_shape as_shape put leaves bind
    type_good (r_unit {i = i} k) l env n = record { is = row_is rs env n i (type_k unit_k) _ k refl; small = omega arith }
    type_good (r_truth {i = i} k) l env n = record { is = row_is rs env n i (type_k truth_k) _ k refl; small = omega arith }
    type_good (r_number {i = i} k) l env n = record { is = row_is rs env n i (type_k number_k) _ k refl; small = omega arith }
    type_good (r_pair {i = i} {τ = τ} {υ = υ} k p q d d₁) l env n =
        let h = small i (pair τ υ) l (r_pair k p q d d₁) in
        let g = pair_good (type_good d (omega arith) env n) (type_good d₁ (omega arith) env n) in
        record { is = row_is rs env n i (type_k pair_k) _ k (is2 i (op_a rs i) (op_b rs i) _ p q) ∙ g.is ∙ ap maybe_shape (type_to_lem (pair τ υ) h); small = h }

    row_good : {i : ℕ} {τ : Ty} → ReadsType rs i τ → i < N → (env : List ℕ) (n : ℕ) → Good (type_to τ) (type_of rs env n i)
    row_good {i = i} {τ = τ} d l env n = subst (λ o. Good o (type_of rs env n i)) (sym (type_to_lem τ (small i τ l d))) (type_good d l env n)

    cell_good : {i : ℕ} {τ : Ty} → ReadsCell rs i τ → i < N → (env : List ℕ) (n : ℕ) → Good (nth cells i) (type_of rs env n i)
    cell_good {τ = τ} (r_cell {i = i} k p d) l env n =
        subst (λ o. Good o (type_of rs env n i)) (sym (known i τ l (r_cell k p d))) (good_by (row_is rs env n i cell_k _ k (is1 i (op_a rs i) _ p)) (type_good d (omega arith) env n))

    pub exp_good : {i : ℕ} {a : Exp} → ReadsExp rs i a → i < N → (env : List ℕ) (Γ : List Ty) → BinderShapes env Γ → FitsExp (length Γ) a → Good (infer cells Γ a) (type_of rs env (length Γ) i)
    unfolding infer maybe_shape as_shape put leaves
    exp_good (r_eunit {i = i} k) b env Γ h f = record { is = row_is rs env (length Γ) i (plain_k eunit_k) _ k refl; small = omega arith }
    exp_good (r_etruth {i = i} k) b env Γ h f = record { is = row_is rs env (length Γ) i (plain_k etruth_k) _ k refl; small = omega arith }
    exp_good (r_enumber {i = i} k) b env Γ h f = good_by (row_is rs env (length Γ) i (plain_k enumber_k) _ k refl) (number_good (op_a rs i))
    exp_good (r_ebinder {i = i} k) b env Γ h f = good_by (row_is rs env (length Γ) i (plain_k ebinder_k) _ k refl) (binder_good env Γ (op_a rs i) h.held h.few)
    exp_good (r_eop {i = i} k p q d d₁) b env Γ h f =
        good_by (row_is rs env (length Γ) i (plain_k eop_k) _ k (is2 i (op_b rs i) (op_c rs i) _ p q))
        (op_good (op_a rs i) (exp_good d (omega arith) env Γ h f.0) (exp_good d₁ (omega arith) env Γ h f.1))
    exp_good (r_eif {i = i} k p q r d d₁ d₂) b env Γ h f =
        good_by (row_is rs env (length Γ) i (either_k if_k) _ k (is3 i (op_a rs i) (op_b rs i) (op_c rs i) _ p q r))
        (if_good (exp_good d (omega arith) env Γ h f.0) (exp_good d₁ (omega arith) env Γ h f.1) (exp_good d₂ (omega arith) env Γ h f.2))
    exp_good (r_epair {i = i} k p q d d₁) b env Γ h f =
        good_by (row_is rs env (length Γ) i (plain_k epair_k) _ k (is2 i (op_a rs i) (op_b rs i) _ p q)) (pair_good (exp_good d (omega arith) env Γ h f.0) (exp_good d₁ (omega arith) env Γ h f.1))
    exp_good (r_efst {i = i} k p d) b env Γ h f = good_by (row_is rs env (length Γ) i (plain_k efst_k) _ k (is1 i (op_a rs i) _ p)) (first_good (exp_good d (omega arith) env Γ h f))
    exp_good (r_esnd {i = i} k p d) b env Γ h f = good_by (row_is rs env (length Γ) i (plain_k esnd_k) _ k (is1 i (op_a rs i) _ p)) (second_good (exp_good d (omega arith) env Γ h f))
    exp_good (r_ederef {i = i} k p d) b env Γ h f = good_by (row_is rs env (length Γ) i (plain_k ederef_k) _ k (is1 i (op_a rs i) _ p)) (cell_good d (omega arith) env (length Γ))
    exp_good (r_eassign {i = i} k p q c d) b env Γ h f =
        good_by (row_is rs env (length Γ) i (plain_k eassign_k) _ k (is2 i (op_a rs i) (op_b rs i) _ p q)) (assign_good (cell_good c (omega arith) env (length Γ)) (exp_good d (omega arith) env Γ h f))
    exp_good (r_elet {i = i} {b = e₁} k p q d d₁) b env Γ h f =
        good_by (row_is rs env (length Γ) i (either_k let_k) _ k (is2 i (op_a rs i) (op_b rs i) _ p q))
        (bind_good env Γ (λ τ. infer cells (τ ∷ Γ) e₁) (λ e m. type_of rs e m (op_b rs i)) h.long f.1 h.held
        (λ e τ el eh. exp_good d₁ (omega arith) e (τ ∷ Γ) (record { long = el; few = f.1; held = eh }) f.2) (exp_good d (omega arith) env Γ h f.0))

    pub code_good : {i : ℕ} {c : Code} → ReadsCode rs i c → i < N → (env : List ℕ) (Γ : List Ty) → BinderShapes env Γ → FitsCode (length Γ) c → Good (infer_task cells Γ c) (type_of rs env (length Γ) i)
    unfolding infer_task
    code_good (r_edit {i = i} k p d) b env Γ h f = good_by (row_is rs env (length Γ) i (task_k edit_k) _ k (is1 i (op_a rs i) _ p)) (exp_good d (omega arith) env Γ h f)
    code_good (r_enter {i = i} k p d) b env Γ h f = good_by (row_is rs env (length Γ) i (task_k enter_k) _ k (is1 i (op_a rs i) _ p)) (row_good d (omega arith) env (length Γ))
    code_good (r_update {i = i} k p d) b env Γ h f = good_by (row_is rs env (length Γ) i (task_k update_k) _ k (is1 i (op_a rs i) _ p)) (cell_good d (omega arith) env (length Γ))
    code_good (r_fail {i = i} k p d) b env Γ h f = good_by (row_is rs env (length Γ) i (task_k fail_k) _ k (is1 i (op_a rs i) _ p)) (row_good d (omega arith) env (length Γ))
    code_good (r_and {i = i} k p q d d₁) b env Γ h f =
        good_by (row_is rs env (length Γ) i (task_k and_k) _ k (is2 i (op_a rs i) (op_b rs i) _ p q)) (pair_good (code_good d (omega arith) env Γ h f.0) (code_good d₁ (omega arith) env Γ h f.1))
    code_good (r_or {i = i} k p q d d₁) b env Γ h f =
        good_by (row_is rs env (length Γ) i (task_k or_k) _ k (is2 i (op_a rs i) (op_b rs i) _ p q)) (same_good (code_good d (omega arith) env Γ h f.0) (code_good d₁ (omega arith) env Γ h f.1))
    code_good (r_xor {i = i} k p q d d₁) b env Γ h f =
        good_by (row_is rs env (length Γ) i (task_k xor_k) _ k (is2 i (op_a rs i) (op_b rs i) _ p q)) (same_good (code_good d (omega arith) env Γ h f.0) (code_good d₁ (omega arith) env Γ h f.1))
    code_good (r_view {i = i} k p d) b env Γ h f = good_by (row_is rs env (length Γ) i (task_k view_k) _ k (is1 i (op_a rs i) _ p)) (exp_good d (omega arith) env Γ h f)
    code_good (r_gate {i = i} k p d) b env Γ h f = good_by (row_is rs env (length Γ) i (task_k gate_k) _ k (is1 i (op_b rs i) _ p)) (code_good d (omega arith) env Γ h f)
    code_good (r_if {i = i} k p q r d d₁ d₂) b env Γ h f =
        good_by (row_is rs env (length Γ) i (either_k if_k) _ k (is3 i (op_a rs i) (op_b rs i) (op_c rs i) _ p q r))
        (if_good (exp_good d (omega arith) env Γ h f.0) (code_good d₁ (omega arith) env Γ h f.1) (code_good d₂ (omega arith) env Γ h f.2))
    code_good (r_then {i = i} {b = e₁} k p q d d₁) b env Γ h f =
        good_by (row_is rs env (length Γ) i (task_k then_k) _ k (is2 i (op_a rs i) (op_b rs i) _ p q))
        (bind_good env Γ (λ τ. infer_task cells (τ ∷ Γ) e₁) (λ e m. type_of rs e m (op_b rs i)) h.long f.1 h.held
        (λ e τ el eh. code_good d₁ (omega arith) e (τ ∷ Γ) (record { long = el; few = f.1; held = eh }) f.2) (code_good d (omega arith) env Γ h f.0))
    code_good (r_next {i = i} {b = e₁} k p q d d₁) b env Γ h f =
        good_by (row_is rs env (length Γ) i (task_k next_k) _ k (is2 i (op_a rs i) (op_b rs i) _ p q))
        (bind_good env Γ (λ τ. infer_task cells (τ ∷ Γ) e₁) (λ e m. type_of rs e m (op_b rs i)) h.long f.1 h.held
        (λ e τ el eh. code_good d₁ (omega arith) e (τ ∷ Γ) (record { long = el; few = f.1; held = eh }) f.2) (code_good d (omega arith) env Γ h f.0))
    code_good (r_let {i = i} {b = e₁} k p q d d₁) b env Γ h f =
        good_by (row_is rs env (length Γ) i (either_k let_k) _ k (is2 i (op_a rs i) (op_b rs i) _ p q))
        (bind_good env Γ (λ τ. infer_task cells (τ ∷ Γ) e₁) (λ e m. type_of rs e m (op_b rs i)) h.long f.1 h.held
        (λ e τ el eh. code_good d₁ (omega arith) e (τ ∷ Γ) (record { long = el; few = f.1; held = eh }) f.2) (exp_good d (omega arith) env Γ h f.0))

-- ---- the last row

no_true : {P : Type 0} → same_sort task_s task_s ≡ false → P
unfolding sort_number
no_true e = let z : ◌≡◌ {A = ℕ} 0 1 = cc in absurd (omega arith)

module _ (rs : List ℕ) (n : ℕ) (h : 1 ≤ n) (p : passes4 rs n ≡ true) (q : passes6 rs n ≡ true) where
  sorted_rows : Sorted rs n
  unfolding passes4
  sorted_rows = every_at n (λ i. row_sorted rs i) p

  task_type : (c : Code) → ReadsCode rs (n - 1) c → type_of rs (replicate max_binders 0) 0 (n - 1) ≡ maybe_shape (flow_type rs n)
  unfolding passes6 flow_type bind
  task_type c d =
      let s = small_of rs n sorted_rows q in
      let g = code_good rs n (cell_types rs n) (cell_known rs n sorted_rows) (λ i τ l r. s.types l r) d (omega arith) (replicate max_binders 0) [] (record { long = refl; few = omega arith; held = tt }) (code_fits rs n sorted_rows q (omega arith) d) in
      let e = code_is d n (omega arith) in
      g.is ∙ ap maybe_shape (sym (rw e))

  -- a last row that is no task has no code
  no_code : {s : Sort} → same_sort s task_s ≡ false → Has rs (n - 1) s → code_at rs n (n - 1) ≡ none
  no_code e (has_type d) = type_none n d
  no_code e (has_basic b d) = type_none n d
  no_code e (has_cell b d) = cell_none n d
  no_code e (has_plain d) = exp_none n d
  no_code e (has_task d) = absurd (no_true e)

  pub flow_agrees : flow_shape rs n ≡ maybe_shape (flow_type rs n)
  unfolding flow_shape flow_type bind maybe_shape
  flow_agrees =
      by_test (λ r. r ≡ maybe_shape (flow_type rs n)) (is_task rs (n - 1))
      (λ t. let (c, d) = code_exists rs n sorted_rows (n - 1) (omega arith) (same_sort_lem (sort_at rs (n - 1)) task_s (sym (task_sort rs (n - 1)) ∙ t)) in task_type c d)
      (λ f. let z = no_code (sym (task_sort rs (n - 1)) ∙ f) (exists rs n sorted_rows (n - 1) (omega arith)) in sym (rw z))
