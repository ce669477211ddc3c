-- What a code adds up to: each task row has a share of its own, and a code's total is its own share and its parts' totals. Over rows that
-- keep the naming rule, the last row's total is the sum of all rows' shares. Rests on TreeSum and CodeRead.
use mathlib.Core.Path.{◌≡◌, sym, ap, subst, ◌∙◌}
use mathlib.Core.Bool.{cond}
use mathlib.Core.Option.{Option, none, some}
use mathlib.Core.List.{List}
use Prim.Native.Nat.{ℕ, zero, suc, ◌+◌, ◌-◌, ◌<◌, ◌≤◌}
use native.Mathlib.Omega.{arith}
use Rattle.tophat.specs.Syntax.{Ty, Exp, Code, edit, enter, update, then, next, fail, and, or, xor, view, gate, if, let'}
use Rattle.rows.specs.Kinds.{Kind, eunit_k, etruth_k, enumber_k, ebinder_k, eop_k, if_k, epair_k, efst_k, esnd_k, ederef_k, eassign_k, let_k}
use Rattle.rows.specs.Kinds.{edit_k, enter_k, update_k, then_k, next_k, fail_k, and_k, or_k, xor_k, view_k, gate_k, Sort, plain_k, either_k, task_k, asks_of, number_of}
use Rattle.rows.specs.Rows.{op_a, op_b, op_c, names, OfKind, FromKind, BelowKind, first_expression}
use Rattle.rows.specs.Trees.{ReadsType, ReadsCell, r_cell}
use Rattle.rows.specs.Trees.{ReadsExp, r_eunit, r_etruth, r_enumber, r_ebinder, r_eop, r_eif, r_epair, r_efst, r_esnd, r_ederef, r_eassign, r_elet}
use Rattle.rows.specs.Trees.{ReadsCode, r_edit, r_enter, r_update, r_then, r_next, r_fail, r_and, r_or, r_xor, r_view, r_gate, r_if, r_let}
use Rattle.rows.specs.ComputeTrees.{code_at}
use Rattle.rows.proofs.TreesAgree.{code_is}
use Rattle.rows.proofs.Exists.{Has, has_type, has_basic, has_cell, has_plain, has_task, Sorted, exists}
use Rattle.rows.proofs.CodeRead.{type_none, cell_none, exp_none}
use Rattle.rows.proofs.Places.{place_a, place_b, place_c, ask_at, type_low}
use Rattle.rows.proofs.Named.{NamedOnce}
use Rattle.rows.proofs.TaskFoot.{code_high}
use Rattle.rows.proofs.TreeSum.{sum_to, sum_below, tree_sum}

-- what a code's parts add up to
unfoldable pub parts : (Code → ℕ) → Code → ℕ
parts F (edit x) = 0
parts F (enter τ) = 0
parts F (update k) = 0
parts F (then a b) = F a + F b
parts F (next a b) = F a + F b
parts F (fail τ) = 0
parts F (and a b) = F a + F b
parts F (or a b) = F a + F b
parts F (xor a b) = F a + F b
parts F (view x) = 0
parts F (gate r k b) = F b
parts F (if x a b) = F a + F b
parts F (let' x b) = F b

-- a code's total is its own share and its parts' totals
abbrev pub Adds : (Code → ℕ) → (Code → ℕ) → Type 0
Adds F share = (c : Code) → F c ≡ share c + parts F c

-- what a row names, by the number of its kind
abbrev below_by : ℕ → ℕ → ℕ → ℕ → ℕ
below_by w a b c = cond (names (ask_at (asks_of w) place_a)) a 0 + cond (names (ask_at (asks_of w) place_b)) b 0 + cond (names (ask_at (asks_of w) place_c)) c 0

-- 0 where there is no code
unfoldable pub of : (Code → ℕ) → Option Code → ℕ
of F none = 0
of F (some c) = F c

module _ (F share : Code → ℕ) (m : Adds F share) (rs : List ℕ) (n : ℕ) where
  -- the total and the share of row i's code
  unfoldable pub total_at : ℕ → ℕ
  total_at i = of F (code_at rs n i)

  unfoldable pub share_at : ℕ → ℕ
  share_at i = of share (code_at rs n i)

  pub code_total : {i : ℕ} {c : Code} → i < n → ReadsCode rs i c → (total_at i ≡ F c) × (share_at i ≡ share c)
  unfolding total_at share_at of
  code_total l d = (ap (of F) (code_is d n l), ap (of share) (code_is d n l))

  pub type_total : {i : ℕ} {τ : Ty} → ReadsType rs i τ → (total_at i ≡ 0) × (share_at i ≡ 0)
  unfolding total_at share_at of
  type_total d = (ap (of F) (type_none n d), ap (of share) (type_none n d))

  pub cell_total : {i : ℕ} {τ : Ty} → ReadsCell rs i τ → (total_at i ≡ 0) × (share_at i ≡ 0)
  unfolding total_at share_at of
  cell_total d = (ap (of F) (cell_none n d), ap (of share) (cell_none n d))

  pub exp_total : {i : ℕ} {a : Exp} → ReadsExp rs i a → (total_at i ≡ 0) × (share_at i ≡ 0)
  unfolding total_at share_at of
  exp_total d = (ap (of F) (exp_none n d), ap (of share) (exp_none n d))

  -- what each row makes of its share and of the rows that it names
  row : (i : ℕ) (k : Kind) → OfKind rs i k → total_at i ≡ share_at i + below_by (number_of k) (total_at (op_a rs i)) (total_at (op_b rs i)) (total_at (op_c rs i))
      → total_at i ≡ share_at i + sum_below rs total_at i
  row i k e h = h ∙ sym (ap (λ x. share_at i + x) (ap (λ w. below_by w (total_at (op_a rs i)) (total_at (op_b rs i)) (total_at (op_c rs i))) e))

  exp_row : {i : ℕ} {a : Exp} → total_at i ≡ 0 → share_at i ≡ 0 → ReadsExp rs i a → total_at i ≡ share_at i + sum_below rs total_at i
  unfolding asks_of names
  exp_row {i} z o (r_eunit k) = row i (plain_k eunit_k) k (omega arith)
  exp_row {i} z o (r_etruth k) = row i (plain_k etruth_k) k (omega arith)
  exp_row {i} z o (r_enumber k) = row i (plain_k enumber_k) k (omega arith)
  exp_row {i} z o (r_ebinder k) = row i (plain_k ebinder_k) k (omega arith)
  exp_row {i} z o (r_eop k x y d e) = row i (plain_k eop_k) k (omega (arith, (exp_total d).0, (exp_total e).0))
  exp_row {i} z o (r_eif k x y w d e f) = row i (either_k if_k) k (omega (arith, (exp_total d).0, (exp_total e).0, (exp_total f).0))
  exp_row {i} z o (r_epair k x y d e) = row i (plain_k epair_k) k (omega (arith, (exp_total d).0, (exp_total e).0))
  exp_row {i} z o (r_efst k x d) = row i (plain_k efst_k) k (omega (arith, (exp_total d).0))
  exp_row {i} z o (r_esnd k x d) = row i (plain_k esnd_k) k (omega (arith, (exp_total d).0))
  exp_row {i} z o (r_ederef k x c) = row i (plain_k ederef_k) k (omega (arith, (cell_total c).0))
  exp_row {i} z o (r_eassign k x y c d) = row i (plain_k eassign_k) k (omega (arith, (cell_total c).0, (exp_total d).0))
  exp_row {i} z o (r_elet k x y d e) = row i (either_k let_k) k (omega (arith, (exp_total d).0, (exp_total e).0))

  code_row : {i : ℕ} {c : Code} → i < n → total_at i ≡ F c → share_at i ≡ share c → F c ≡ share c + parts F c → ReadsCode rs i c → total_at i ≡ share_at i + sum_below rs total_at i
  unfolding asks_of names parts
  code_row {i} l z o h (r_edit k x d) = row i (task_k edit_k) k (omega (arith, (exp_total d).0))
  code_row {i} l z o h (r_enter k x d) = row i (task_k enter_k) k (omega (arith, (type_total d).0))
  code_row {i} l z o h (r_update k x c) = row i (task_k update_k) k (omega (arith, (cell_total c).0))
  code_row {i} l z o h (r_then k x y d e) = row i (task_k then_k) k (omega (arith, (code_total (omega arith) d).0, (code_total (omega arith) e).0))
  code_row {i} l z o h (r_next k x y d e) = row i (task_k next_k) k (omega (arith, (code_total (omega arith) d).0, (code_total (omega arith) e).0))
  code_row {i} l z o h (r_fail k x d) = row i (task_k fail_k) k (omega (arith, (type_total d).0))
  code_row {i} l z o h (r_and k x y d e) = row i (task_k and_k) k (omega (arith, (code_total (omega arith) d).0, (code_total (omega arith) e).0))
  code_row {i} l z o h (r_or k x y d e) = row i (task_k or_k) k (omega (arith, (code_total (omega arith) d).0, (code_total (omega arith) e).0))
  code_row {i} l z o h (r_xor k x y d e) = row i (task_k xor_k) k (omega (arith, (code_total (omega arith) d).0, (code_total (omega arith) e).0))
  code_row {i} l z o h (r_view k x d) = row i (task_k view_k) k (omega (arith, (exp_total d).0))
  code_row {i} l z o h (r_gate k x d) = row i (task_k gate_k) k (omega (arith, (code_total (omega arith) d).0))
  code_row {i} l z o h (r_if k x y w d e f) = row i (either_k if_k) k (omega (arith, (exp_total d).0, (code_total (omega arith) e).0, (code_total (omega arith) f).0))
  code_row {i} l z o h (r_let k x y d e) = row i (either_k let_k) k (omega (arith, (exp_total d).0, (code_total (omega arith) e).0))

  high_row : (i : ℕ) → i < n → FromKind rs i first_expression → {s : Sort} → Has rs i s → total_at i ≡ share_at i + sum_below rs total_at i
  high_row i l h (has_type d) = absurd (omega (arith, type_low d))
  high_row i l h (has_basic b d) = absurd (omega (arith, type_low d))
  high_row i l h (has_cell b (r_cell k x d)) = absurd (omega arith)
  high_row i l h (has_plain d) = exp_row (exp_total d).0 (exp_total d).1 d
  high_row i l h (has_task d) = code_row l (code_total l d).0 (code_total l d).1 (m _) d

  low_row : (i : ℕ) → i < n → BelowKind rs i first_expression → {s : Sort} → Has rs i s → (total_at i ≡ 0) × (share_at i ≡ 0)
  low_row i l h (has_type d) = type_total d
  low_row i l h (has_basic b d) = type_total d
  low_row i l h (has_cell b d) = cell_total d
  low_row i l h (has_plain d) = exp_total d
  low_row i l h (has_task d) = absurd (omega (arith, code_high d))

-- the total of the last row's code is the sum of the rows' shares
pub total_is : (F share : Code → ℕ) (m : Adds F share) (rs : List ℕ) (n : ℕ) {c : Code} → 1 ≤ n → Sorted rs n → NamedOnce rs n → ReadsCode rs (n - 1) c
    → F c ≡ sum_to n (share_at F share m rs n)
total_is F share m rs zero l q t d = absurd (omega arith)
total_is F share m rs (suc k) {c} l q t d =
    let z : suc k - 1 ≡ k = omega arith in
    sym (code_total F share m rs (suc k) (omega arith) (subst (λ i. ReadsCode rs i c) z d)).0
    ∙ tree_sum rs k q t (total_at F share m rs (suc k)) (share_at F share m rs (suc k))
    (λ i b h. high_row F share m rs (suc k) i b h (exists rs (suc k) q i b)) (λ i b h. low_row F share m rs (suc k) i b h (exists rs (suc k) q i b))
