-- The entries of a well-typed task can be written: in a code whose marks fit, no path has over 16, and each entry has a leaf kind for
-- each leaf. So a list has 35 bytes an entry, and at most one entry a task row. Rests on ListsRead, and on the calculus' typing.
use mathlib.Core.Path.{◌≡◌, refl, sym, subst}
use mathlib.Core.Bool.{Bool, true, false, not}
use mathlib.Core.Option.{Option, none, some}
use mathlib.Core.List.{List, [], ◌∷◌, ◌++◌}
use Prim.Native.Nat.{ℕ, suc, ◌*◌, ◌-◌, ◌≤◌}
use native.Mathlib.Omega.{arith}
use lib.ListN.{length, replicate, length-append, length-replicate}
use Rattle.decimal.specs.Path.{Mark, max_marks}
use Rattle.tophat.specs.Syntax.{task_rows, max_leaves, Ty, leaves, Code, Val, TaskOf, Env, Store}
use Rattle.tophat.specs.Typing.{type_of, ValueType, ValueTypes, AllSmall, small_nil, small_cons}
use Rattle.tophat.specs.Typing.{TaskType, k_filled, k_blank, k_entered, k_shared, k_then_before, k_then_after, k_next_before, k_next_after}
use Rattle.tophat.specs.Typing.{k_failed, k_both, k_either, k_or_left, k_or_right, k_unpicked, k_picked_left, k_picked_right, k_viewed, k_gated, k_if_true, k_if_false, k_bound}
use Rattle.tophat.specs.Leaves.{padded, Leaf, no_leaf, leaf_kinds}
use Rattle.tophat.specs.Roles.{Who, opens}
use Rattle.tophat.specs.Handling.{Button, continue, left, right}
use Rattle.tophat.specs.Showing.{fill, button, Entry, marked, offers, button_if, entries_if, MarksFit}
use Rattle.tophat.proofs.ComputeEntries.{continue_if, entries}
use Rattle.tophat.proofs.EntriesBound.{entries_bound}
use Rattle.tophat.proofs.EvaluationAgrees.{look_up}
use Rattle.tophat.proofs.Leaves.{type_of_lem, length_kinds}
use Rattle.tophat.proofs.TypeLeaves.{at_leaves, type_leaves, task_type_leaves}
use Rattle.formats.specs.Touches.{entry_bytes}
use Rattle.formats.specs.Lists.{offer_kinds, list_text, Fits, fit_none, fit_more}
use Rattle.formats.proofs.ListsRead.{list_length}

pub fit_both : {m : ℕ} {es fs : List Entry} → Fits m es → Fits m fs → Fits m (es ++ fs)
fit_both fit_none k = k
fit_both (fit_more l w h) k = fit_more l w (fit_both h k)

fit_marked : {m : ℕ} {es : List Entry} (x : Mark) → Fits (suc m) es → Fits m (marked x es)
unfolding marked
fit_marked x fit_none = fit_none
fit_marked x (fit_more {e} l w h) = fit_more {e = (x ∷ e.0, e.1)} (omega arith) w (fit_marked x h)

fit_fewer : {m : ℕ} {es : List Entry} → Fits (suc m) es → Fits m es
fit_fewer fit_none = fit_none
fit_fewer (fit_more {e} l w h) = fit_more {e = e} (omega arith) w (fit_fewer h)

fit_offers : {m : ℕ} (τ : Ty) → m ≤ max_marks → leaves τ ≤ max_leaves → Fits m (offers τ)
unfolding offers padded offer_kinds
fit_offers τ l h =
    let ks = leaf_kinds τ in
    let zs = replicate (max_leaves - length ks) no_leaf in
    let a = length-append ks zs in
    let b = length-replicate {A = Leaf} (max_leaves - length ks) no_leaf in
    let c = length_kinds τ in
    fit_more {e = ([], fill (ks ++ zs))} (omega arith) (omega (arith, a, b, c, h)) fit_none

fit_button : {m : ℕ} (x : Bool) (b : Button) → m ≤ max_marks → Fits m (button_if x b)
unfolding button_if offer_kinds
fit_button true b l = fit_more {e = ([], button b)} (omega arith) refl fit_none
fit_button false b l = fit_none

fit_continue : {m : ℕ} (o : Option Val) (F : Val → Bool) → m ≤ max_marks → Fits m (continue_if o F)
unfolding continue_if
fit_continue none F l = fit_none
fit_continue (some v) F l = fit_button (not (F v)) continue l

fit_open : {m : ℕ} {es : List Entry} (b : Bool) → Fits m es → Fits m (entries_if b es)
unfolding entries_if
fit_open true h = h
fit_open false h = fit_none

of_type : {m : ℕ} {v : Val} {τ : Ty} → ValueType v τ → m ≤ max_marks → leaves τ ≤ max_leaves → Fits m (offers (type_of v))
of_type {m} t l h = subst (λ τ. Fits m (offers τ)) (sym (type_of_lem t)) (fit_offers _ l h)

module _ (w : Who) {Σ : List Ty} {s : Store} (g : AllSmall Σ) (q : ValueTypes s Σ) where
  pub entries_fit : {Γ : List Ty} {τ : Ty} {c : Code} {t : TaskOf c} (m : ℕ) (ρ : Env) → TaskType Σ Γ c t τ → AllSmall Γ → m ≤ max_marks → MarksFit m c → Fits m (entries w c ρ s t)
  unfolding entries
  entries_fit m ρ (k_filled d v) h l f = of_type v l (type_leaves d g h)
  entries_fit m ρ (k_blank z) h l f = fit_offers _ l z
  entries_fit m ρ (k_entered z v) h l f = fit_offers _ l z
  entries_fit m ρ (k_shared d) h l f = of_type (look_up q d).1 l (at_leaves d g)
  entries_fit m ρ (k_then_before d e) h l f = entries_fit m ρ d h l f.0
  entries_fit m ρ (k_then_after d v e) h l f = entries_fit m _ e (small_cons (task_type_leaves d g h) h) l f.1
  entries_fit m ρ (k_next_before d e) h l f = fit_both (entries_fit m ρ d h l f.0) (fit_continue _ _ l)
  entries_fit m ρ (k_next_after d v e) h l f = entries_fit m _ e (small_cons (task_type_leaves d g h) h) l f.1
  entries_fit m ρ (k_failed z) h l f = fit_none
  entries_fit m ρ (k_both d e z) h l f = fit_both (fit_marked _ (entries_fit (suc m) ρ d h f.0 f.1)) (fit_marked _ (entries_fit (suc m) ρ e h f.0 f.2))
  entries_fit m ρ (k_either d e) h l f = fit_both (fit_marked _ (entries_fit (suc m) ρ d h f.0 f.1)) (fit_marked _ (entries_fit (suc m) ρ e h f.0 f.2))
  entries_fit m ρ (k_or_left d e) h l f = fit_fewer (entries_fit (suc m) ρ d h f.0 f.1)
  entries_fit m ρ (k_or_right d e) h l f = fit_fewer (entries_fit (suc m) ρ e h f.0 f.2)
  entries_fit m ρ (k_unpicked d e) h l f = fit_both (fit_button _ left l) (fit_button _ right l)
  entries_fit m ρ (k_picked_left d e) h l f = entries_fit m ρ d h l f.0
  entries_fit m ρ (k_picked_right d e) h l f = entries_fit m ρ e h l f.1
  entries_fit m ρ (k_viewed d v) h l f = fit_none
  entries_fit m ρ (k_gated {r = r} {k = k} z d) h l f = fit_open (opens w (r, k)) (entries_fit m ρ d h l f)
  entries_fit m ρ (k_if_true b d e) h l f = entries_fit m ρ d h l f.0
  entries_fit m ρ (k_if_false b d e) h l f = entries_fit m ρ e h l f.1
  entries_fit m ρ (k_bound b v e) h l f = entries_fit m _ e (small_cons (type_leaves b g h) h) l f

  -- 35 bytes an entry
  pub entries_bytes : {τ : Ty} {c : Code} {t : TaskOf c} → TaskType Σ [] c t τ → MarksFit 0 c → length (list_text (entries w c [] s t)) ≡ length (entries w c [] s t) * entry_bytes
  entries_bytes k f = list_length (entries_fit 0 [] k small_nil (omega arith) f)

  -- at most 35 bytes a task row
  pub bytes_most : {τ : Ty} {c : Code} {t : TaskOf c} → TaskType Σ [] c t τ → MarksFit 0 c → length (list_text (entries w c [] s t)) ≤ task_rows c * entry_bytes
  bytes_most {c = c} {t = t} k f = let e = entries_bytes k f in let b = entries_bound w c [] s t in omega (arith, e, b)
