-- `state::clear` meets its contract, an arm by the law of its kinds. Assumes nothing.
use Rattle.std.proofs.Common.{◌≡◌, refl, sym, ℕ, ◌<◌, List, [], ◌∷◌, Bool, arith, rules}
use mathlib.Core.Logic.{⊎_elim}
use borrow.Author.Tests.{leb-true}
use lib.Dec.{leb}
use Rattle.rows.specs.Kinds.{plain_k, eop_k, either_k, if_k, task_k, view_k, number_of}
use Rattle.rows.specs.declared.kinds.Kind.TheVariants.{Let, Gate}
use Rattle.rows.proofs.KindsRead.{of_kind, of_kinds_test, one_among, IsNoneOf, other_arm, other_none}
use Rattle.state.specs.Ensured.{Fine}
use Rattle.state.proofs.Calls.{low_a, low_b, low_c, fine_at}
use Rattle.state.proofs.Clearing.{forks, with_rows, clear_fork, clear_if, clear_let, clear_gate, clear_leaf}
use Rattle.state.proofs.+clear.Goals as goal
use Rattle.state.proofs.+clear.Goals.{in-If, in-Let, in-Then, in_default-kind}

lower : {rs : List ℕ} {i t : ℕ} → i ≡ t → Fine rs i 0 → (a : ℕ) → a < i → (a < t) × Fine rs a 0
lower q f a h = (omega (arith, q), fine_at f a 0 (omega arith) f.room)

-- the kinds with a row at B
abbrev from_operator : ℕ → Bool
from_operator w = leb (number_of (plain_k eop_k)) w

pub clear-requires : goal.clear-requires
clear-requires t c = lower c.decreases c.requires _ (low_b c.requires _ _ (sym (of_kind c.in-Some.ensures c.in-If.is)) c.operand.ensures (omega arith))

pub clear-requires-in-If : goal.clear-requires-in-If
clear-requires-in-If t c = lower c.decreases c.requires _ (low_c c.requires _ _ (sym (of_kind c.in-Some.ensures c.in-If.is)) c.operand-in-If.ensures (omega arith) (omega arith))

pub clear-requires-in-Let : goal.clear-requires-in-Let
clear-requires-in-Let t c =
    let e = leb-true _ _ (of_kinds_test (Let ∷ Gate ∷ []) from_operator c.in-Some.kind c.in-Some.ensures c.in-Let.is refl) in
    lower c.decreases c.requires _ (low_b c.requires _ _ refl c.operand-in-Let.ensures e)

pub clear-requires-in-Then : goal.clear-requires-in-Then
clear-requires-in-Then t c =
    let e = leb-true _ _ (of_kinds_test forks (λ w. leb (number_of (either_k if_k)) w) c.in-Some.kind c.in-Some.ensures c.in-Then.is refl) in
    let h = leb-true _ _ (of_kinds_test forks (λ w. leb w (number_of (task_k view_k))) c.in-Some.kind c.in-Some.ensures c.in-Then.is refl) in
    lower c.decreases c.requires _ (low_a c.requires _ _ refl c.operand-in-Then.ensures e h)

pub clear-requires-in-Then-2 : goal.clear-requires-in-Then-2
clear-requires-in-Then-2 t c =
    let e = leb-true _ _ (of_kinds_test forks from_operator c.in-Some.kind c.in-Some.ensures c.in-Then.is refl) in
    lower c.decreases c.requires _ (low_b c.requires _ _ refl c.operand-in-Then-2.ensures e)

pub returns-in_default : goal.returns-in_default
returns-in_default t c = clear_leaf _ _ (other_none with_rows c.in_default.ensures) c.clear_row.ensures

pub returns : goal.returns
returns t c =
    let e = c.in-Some.ensures in
    elim c.match-kind.branch [
      | in-If w ↦ clear_if _ _ (of_kind e w.in-If.is) w.operand.ensures w.operand-in-If.ensures w.clear.ensures w.clear-in-If.ensures (rw w.state-is at c.clear_row-2.ensures)
      | in-Let w ↦
          let p = rw w.state-is at c.clear_row-2.ensures in
          ⊎_elim (λ q. clear_let _ _ (of_kind e q) w.operand-in-Let.ensures w.clear-in-Let.ensures p) (λ q. clear_gate _ _ (of_kind e q) w.operand-in-Let.ensures w.clear-in-Let.ensures p) w.in-Let.is
      | in-Then w ↦
          clear_fork _ _ c.in-Some.kind e (one_among forks c.in-Some.kind w.in-Then.is) w.operand-in-Then.ensures w.operand-in-Then-2.ensures w.clear-in-Then.ensures w.clear-in-Then-2.ensures
          (rw w.state-is at c.clear_row-2.ensures)
      | in_default-kind w ↦
          let n : IsNoneOf with_rows c.in-Some.kind = search rules in
          clear_leaf _ _ (other_arm with_rows c.in-Some.kind e n) (rw w.state-is at c.clear_row-2.ensures)
    ]
