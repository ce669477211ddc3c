-- From the outermost row: how many bytes the entries of a task are, and that they stand at the front of a list that has room for them. Rests
-- on crate formats' EntriesFit.
use mathlib.Core.Path.{refl, sym, subst}
use mathlib.Core.List.{List, []}
use Prim.Native.Nat.{ℕ, ◌≤◌}
use native.Mathlib.Omega.{arith}
use lib.ListN.{length}
use Rattle.decimal.specs.Path.{marks_from, path_of}
use Rattle.tophat.specs.Syntax.{task_rows, Ty, Code, Store, TaskOf}
use Rattle.tophat.specs.Typing.{TaskType, small_nil}
use Rattle.tophat.specs.Roles.{Who}
use Rattle.tophat.specs.Showing.{MarksFit}
use Rattle.tophat.proofs.ComputeEntries.{entries}
use Rattle.rows.specs.Rows.{max_rows}
use Rattle.state.specs.Holds.{Sits, Holds, World}
use Rattle.formats.specs.Lists.{list_text}
use Rattle.formats.proofs.EntriesFit.{entries_fit, bytes_most}
use Rattle.entries.specs.Listing.{list_bytes, Counted, AtPath, EntriesOk}
use Rattle.entries.proofs.Texts.{under_none}

pub at_start : AtPath 0 1
unfolding marks_from
at_start = record { unit_is = refl; few = omega arith }

-- from the outermost row: how many bytes the entries of the task are; where the list has room they stand at its front
pub entries_counted : (who : Who) {rs ws : List ℕ} {i : ℕ} {env : List ℕ} {list l₁ : List ℕ} {n : ℕ} → EntriesOk who rs ws i env 0 (path_of 0) list l₁ n → (c : Code) → Sits rs 0 i c → MarksFit 0 c
    → (Σ : List Ty) (τ : Ty) (s : Store) (t : TaskOf c) → TaskType Σ [] c t τ → World rs ws env 0 Σ [] s [] → Holds rs ws i c t → task_rows c ≤ max_rows
    → Counted list l₁ n (list_text (entries who c [] s t))
unfolding marks_from
entries_counted who {list = list} {l₁ = l₁} {n = n} f c k m Σ τ s t y w g h =
    let e = under_none (entries who c [] s t) in
    let l : length (list_text (entries who c [] s t)) ≤ list_bytes = let b = bytes_most who w.store_small w.store_typed y m in omega (arith, b, h) in
    subst (λ es. Counted list l₁ n (list_text es)) e
    (f c k Σ [] τ s [] t y w g (entries_fit who w.store_small w.store_typed 0 [] y small_nil (omega arith) m) (subst (λ es. length (list_text es) ≤ list_bytes) (sym e) l))
