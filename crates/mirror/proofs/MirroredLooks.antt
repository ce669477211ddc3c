-- Look on a flow and on the flow mirrored: the same number and flags, the halves of the value exchanged, and the two blocks of the list, for
-- every role, state memory, value memory and list memory. Rests on MirroredOpening, MirroredValues and the calculus' Mirroring.
use mathlib.Core.Path.{◌≡◌, refl, ap, ◌∙◌}
use mathlib.Core.Bool.{true, cond}
use mathlib.Core.Option.{Option, none, some}
use mathlib.Core.List.{List, [], ◌++◌}
use Prim.Native.Nat.{ℕ, ◌*◌}
use native.Mathlib.Omega.{arith}
use borrow.Table.Steps.{cases}
use lib.Dec.{leb, eqb}
use lib.IntN.{ℤ}
use lib.ListN.{length, length-append}
use Rattle.decimal.specs.Path.{first, second}
use Rattle.tophat.specs.Syntax.{max_leaves, Ty, pair, leaves, Code, and, TaskOf, both, Val, Store}
use Rattle.tophat.specs.Typing.{k_both, small_nil}
use Rattle.tophat.specs.Normalising.{pair_of, value}
use Rattle.tophat.specs.Showing.{Entry, marked}
use Rattle.tophat.specs.Redrawn.{exchanged}
use Rattle.tophat.proofs.ComputeEntries.{entries}
use Rattle.tophat.proofs.EntriesBound.{length_marked}
use Rattle.tophat.proofs.Preservation.{OptionType, value_type}
use Rattle.tophat.proofs.Mirroring.{value_exchanged, entries_exchanged, failing_exchanged}
use Rattle.tophat.specs.Roles.{is_role, is}
use Rattle.formats.specs.Touches.{entry_bytes}
use Rattle.formats.specs.Lists.{Fits, fit_none}
use Rattle.formats.proofs.EntriesFit.{entries_fit}
use Rattle.rows.specs.GroundNumbers.{event_not_read, list_too_short}
use Rattle.rows.proofs.CellsAt.{cells_small}
use Rattle.call_definitions.specs.Memory.{LookAnswer, look_refusal, has_one}
use Rattle.call_definitions.specs.States.{task_state}
use Rattle.call_definitions.specs.Answers.{AcceptedFlow}
use Rattle.call_definitions.specs.Calls.{Opened, look_rest, look_in, look_call}
use Rattle.call_definitions.proofs.Opening.{marks_fit}
use Rattle.mirror.specs.Mirrored.{mirrored, writeless, LooksMirrored}
use Rattle.mirror.proofs.MirroredOpening.{Found, neither, rests, failures, found}
use Rattle.mirror.proofs.MirroredValues.{value_words, small, looks_failed}

-- ---- the value's flag

value_flag : (o o₁ : Option Val) → has_one (pair_of o₁ o) ≡ has_one (pair_of o o₁)
unfolding has_one pair_of
value_flag none none = refl
value_flag none (some v) = refl
value_flag (some v) none = refl
value_flag (some v) (some u) = refl

-- ---- the list's blocks

blocks_length : (es gs : List Entry) → length (marked first gs ++ marked second es) ≡ length (marked first es ++ marked second gs)
blocks_length es gs =
    let p = length-append (marked first gs) (marked second es) in let q = length-append (marked first es) (marked second gs) in
    let a = length_marked first gs in let b = length_marked second es in let c = length_marked first es in let d = length_marked second gs in
    omega (arith, p, q, a, b, c, d)

-- ---- two looks

-- both are refused
refused_looks : (m n g : ℕ) (values : List ℤ) (list : List ℕ) → (g ≡ 0 → ⊥) → LooksMirrored m n list (look_refusal g values list) (look_refusal g values list)
refused_looks m n g values list z = record {
  number = refl;
  has_value = refl;
  fails = refl;
  refused = λ h. refl;
  value = λ e. absurd (z e);
  of_a = [];
  of_b = [];
  fits_a = fit_none;
  fits_b = fit_none;
  part = λ e. absurd (z e);
  part_mirrored = λ e. absurd (z e);
  list_mirrored = λ e. absurd (z e);
}

module _ {rows : List ℤ} {a b : Code} {Σ : List Ty} {τ υ : Ty} (f : AcceptedFlow rows (and a b) Σ (pair τ υ)) (w : writeless rows ≡ true) (role : ℕ) (values : List ℤ) (list : List ℕ) where
  abbrev Mirror : LookAnswer → LookAnswer → Type 0
  Mirror x y = LooksMirrored (leaves τ) (leaves υ) list x y

  -- at a rest
  looks_both : (t : TaskOf a) (u : TaskOf b) (s : Store) → OptionType (value a t s) τ → OptionType (value b u s) υ → Fits 1 (entries (is role) a [] s t)
      → Fits 1 (entries (is role) b [] s u)
      → Mirror (look_rest role values list (task_state (and a b) (both t u) s)) (look_rest role values list (task_state (and b a) (exchanged (both t u)) s))
  unfolding look_rest
  looks_both t u s k h p q =
      let es = entries (is role) a [] s t in let gs = entries (is role) b [] s u in
      let (v, v₁) = value_exchanged a b t u s in
      let (e, e₁) = entries_exchanged a b [] (is role) s t u in
      let l = ap (λ n. leb (n * entry_bytes) (length list)) (blocks_length es gs) in
      rw (v, v₁, e, e₁, failing_exchanged a b [] s (both t u)) (cases (leb (length (marked first es ++ marked second gs) * entry_bytes) (length list))
      (λ y. rw (y, l ∙ y) (record {
        number = refl;
        has_value = value_flag (value a t s) (value b u s);
        fails = refl;
        refused = λ h. absurd (h refl);
        value = λ e. value_words (small f w role values list) k h;
        of_a = es;
        of_b = gs;
        fits_a = p;
        fits_b = q;
        part = λ e. refl;
        part_mirrored = λ e. refl;
        list_mirrored = λ e. refl;
      }))
      (λ o. rw (o, l ∙ o) (refused_looks (leaves τ) (leaves υ) list_too_short values list (λ e. omega (arith, e)))))

  -- in a role of 1 to 8, or not
  by_role : {x y : LookAnswer} → Mirror x y → Mirror (cond (is_role role) x (look_refusal event_not_read values list)) (cond (is_role role) y (look_refusal event_not_read values list))
  by_role m = cases (is_role role)
      (λ i. rw i m)
      (λ n. rw n (refused_looks (leaves τ) (leaves υ) event_not_read values list (λ e. omega (arith, e))))

  looks_found : {o o₁ : Opened} → Found f w o o₁ → Mirror (look_in role values list o) (look_in role values list o₁)
  unfolding look_in
  looks_found (neither {g = g} z) = refused_looks (leaves τ) (leaves υ) g values list z
  looks_found (rests {s = s} (k_both {t = t} {u = u} k h l) g) =
      let (o, m, n) = marks_fit f in
      let c = cells_small f.flow.cells in
      by_role (looks_both t u s (value_type k g) (value_type h g) (entries_fit (is role) c g 1 [] k small_nil (omega arith) m) (entries_fit (is role) c g 1 [] h small_nil (omega arith) n))
  looks_found (failures {s = s}) = by_role (looks_failed f w role values list s)

  pub looks_mirrored : (ws : List ℤ) → Mirror (look_call rows ws role values list) (look_call (mirrored rows) ws role values list)
  unfolding look_call
  looks_mirrored ws = looks_found (found f w ws (eqb (length values) max_leaves))
