-- Which rows are tasks: `is_task` follows the B of 25 and 31. Rests on RowTypes, and on the crates match_laws and rows.
use Rattle.std.proofs.Common.{Option as Answer, None}
use mathlib.Core.Path.{◌≡◌, refl, sym, ap, ◌∙◌}
use mathlib.Core.Bool.{Bool, true, false, not}
use mathlib.Core.List.{List, [], ◌∷◌}
use Prim.Native.Nat.{ℕ, suc, ◌-◌, ◌<◌, ◌≤◌}
use native.Mathlib.Omega.{arith}
use lib.ListN.{replicate}
use types.Run.{OneOf}
use borrow.Author.Tests.{not-true}
use Rattle.match_laws.proofs.Ranges.{one_of, NoneOf, within}
use Rattle.shape.specs.Shape.{shape_or_none}
use Rattle.rows.specs.Kinds.{Sort, task_s, either_k, if_k, let_k, task_k, edit_k, asks_of, number_of, kind_limit}
use Rattle.rows.specs.Rows.{word, op_b, sort_by, sort_below, sort_number, same_sort}
use Rattle.rows.specs.Enclosing.{max_binders}
use Rattle.rows.proofs.KindNumbers.{no_asks_lem, kind_past}
use Rattle.rows.proofs.Exists.{sort_past}
use Rattle.rows.proofs.SortsBelow.{sort_at, sort_below_lem}
use Rattle.typing.specs.RowTypes.{type_of, is_task, flow_shape}

-- a kind with a B of sort s is a task
abbrev task_by : ℕ → Sort → Bool
task_by k s = same_sort (sort_by (asks_of k) s) task_s

-- the two that are what their B is
abbrev eithers : List ℕ
eithers = number_of (either_k if_k) ∷ number_of (either_k let_k) ∷ []

branch_task : (s : Sort) (k : ℕ) → OneOf eithers k → task_by k s ≡ same_sort s task_s
unfolding asks_of sort_by
branch_task s k h = one_of (λ k. task_by k s ≡ same_sort s task_s) eithers (refl, (refl, tt)) h

-- the tasks' own kinds are the last of the table
own_task : (s : Sort) (k : ℕ) → number_of (task_k edit_k) ≤ k → k < kind_limit → task_by k s ≡ true
unfolding asks_of sort_by sort_number
own_task s k l h = within (λ k. task_by k s) (number_of (task_k edit_k)) (kind_limit - number_of (task_k edit_k)) [] k refl l (omega arith) tt

no_task : (s : Sort) (k : ℕ) → k < number_of (task_k edit_k) → NoneOf (eithers ∷ []) k → task_by k s ≡ false
unfolding asks_of sort_by sort_number
no_task s k h g = not-true _ (within (λ k. not (task_by k s)) 0 (number_of (task_k edit_k)) (eithers ∷ []) k refl (omega arith) (omega arith) g)

past_task : (s : Sort) (k : ℕ) → kind_limit ≤ k → task_by k s ≡ false
unfolding sort_by sort_number
past_task s k h = ap (λ x. same_sort (sort_by x s) task_s) (no_asks_lem k (kind_past k h))

module _ (rs : List ℕ) (i : ℕ) where
  -- by the sort of the row, and by its kind and the sort of its B
  pub task_sort : is_task rs i ≡ same_sort (sort_at rs i) task_s
  unfolding is_task
  task_sort = ap (λ s. same_sort s task_s) (sort_below_lem rs (suc i) i (omega arith))

  task_by_lem : (k : ℕ) → k ≡ word rs i 0 → is_task rs i ≡ task_by k (sort_below rs i (op_b rs i))
  unfolding sort_at
  task_by_lem k e = task_sort ∙ sym (ap (λ k. task_by k (sort_below rs i (op_b rs i))) e)

  module _ (k : ℕ) (e : k ≡ word rs i 0) where
    pub task_branch : (b : ℕ) (r : Bool) → OneOf eithers k → b ≡ op_b rs i → b < i → r ≡ is_task rs b → r ≡ is_task rs i
    unfolding is_task
    task_branch b r h f l g =
        g ∙ ap (λ s. same_sort s task_s) (sort_below_lem rs (suc b) b (omega arith) ∙ sym (sort_below_lem rs i b l) ∙ ap (sort_below rs i) f) ∙ sym (task_by_lem k e ∙ branch_task (sort_below rs i (op_b rs i)) k h)

    pub task_high : (b : ℕ) → OneOf eithers k → b ≡ op_b rs i → i ≤ b → false ≡ is_task rs i
    unfolding sort_number
    task_high b h f l = sym (task_by_lem k e ∙ branch_task (sort_below rs i (op_b rs i)) k h ∙ ap (λ s. same_sort s task_s) (ap (sort_below rs i) (sym f) ∙ sort_past rs i b l))

    pub task_own : number_of (task_k edit_k) ≤ k → k < kind_limit → true ≡ is_task rs i
    task_own l h = sym (task_by_lem k e ∙ own_task (sort_below rs i (op_b rs i)) k l h)

    pub task_none : k < number_of (task_k edit_k) → NoneOf (eithers ∷ []) k → false ≡ is_task rs i
    task_none h g = sym (task_by_lem k e ∙ no_task (sort_below rs i (op_b rs i)) k h g)

    pub task_past : kind_limit ≤ k → false ≡ is_task rs i
    task_past h = sym (task_by_lem k e ∙ past_task (sort_below rs i (op_b rs i)) k h)

-- ---- flow_type

module _ (rs : List ℕ) (n : ℕ) (b : Bool) (e : b ≡ is_task rs (n - 1)) where
  pub flow_yes : {r : Answer ℕ} (env : List ℕ) (m : ℕ) → b ≡ true → env ≡ replicate max_binders 0 → m ≡ 0 → r ≡ shape_or_none (type_of rs env m (n - 1)) → r ≡ shape_or_none (flow_shape rs n)
  unfolding flow_shape
  flow_yes env m t p q h = let z = sym e ∙ t in h ∙ (λ i. shape_or_none (type_of rs (p i) (q i) (n - 1))) ∙ sym (rw z)

  pub flow_no : b ≡ false → None ≡ shape_or_none (flow_shape rs n)
  unfolding flow_shape
  flow_no t = let z = sym e ∙ t in sym (rw z)
