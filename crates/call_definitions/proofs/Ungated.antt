-- Rows of which none is of kind 50 read as a code without one, and an event at a rest of theirs passes none. Rests on rows' readings and the
-- calculus' Ungated; EveryTouch uses it.
use mathlib.Core.Path.{◌≡◌}
use mathlib.Core.Bool.{true, not}
use mathlib.Core.List.{List, []}
use Prim.Native.Nat.{ℕ, ◌<◌}
use native.Mathlib.Omega.{arith}
use borrow.Author.Tests.{eq-eqb, not-true}
use lib.IntN.{ℤ}
use Rattle.decimal.specs.Path.{Path}
use Rattle.tophat.specs.Syntax.{Ty, Code}
use Rattle.tophat.specs.Handling.{Action}
use Rattle.tophat.specs.Roles.{Gate}
use Rattle.tophat.proofs.Basics.{apart}
use Rattle.tophat.proofs.Ungated.{Ungated, handles_ungated}
use Rattle.rows.specs.Kinds.{task_k, gate_k, number_of}
use Rattle.rows.specs.Rows.{word, is_kind, OfKind}
use Rattle.rows.specs.Lent.{own_rows, row_count}
use Rattle.rows.specs.Trees.{ReadsCode, r_edit, r_enter, r_update, r_then, r_next, r_fail, r_and, r_or, r_xor, r_view, r_gate, r_if, r_let}
use Rattle.rows.proofs.Basics.{every_at}
use Rattle.call_definitions.specs.States.{FlowState, PassesIn}
use Rattle.call_definitions.specs.Answers.{AcceptedFlow, Writes, as_task, as_failed}
use Rattle.call_definitions.specs.Touches.{ungated}
use Rattle.call_definitions.proofs.Flows.{loads_passed}

module _ {rs : List ℕ} {n : ℕ} (none : (i : ℕ) → i < n → OfKind rs i (task_k gate_k) → ⊥) where
  code_ungated : {i : ℕ} {c : Code} → i < n → ReadsCode rs i c → Ungated c
  code_ungated l (r_edit k x a) = tt
  code_ungated l (r_enter k x t) = tt
  code_ungated l (r_update k x c) = tt
  code_ungated l (r_then k x y a b) = (code_ungated (omega (arith, x)) a, code_ungated (omega (arith, y)) b)
  code_ungated l (r_next k x y a b) = (code_ungated (omega (arith, x)) a, code_ungated (omega (arith, y)) b)
  code_ungated l (r_fail k x t) = tt
  code_ungated l (r_and k x y a b) = (code_ungated (omega (arith, x)) a, code_ungated (omega (arith, y)) b)
  code_ungated l (r_or k x y a b) = (code_ungated (omega (arith, x)) a, code_ungated (omega (arith, y)) b)
  code_ungated l (r_xor k x y a b) = (code_ungated (omega (arith, x)) a, code_ungated (omega (arith, y)) b)
  code_ungated l (r_view k x a) = tt
  code_ungated {i} l (r_gate k y b) = none i l k
  code_ungated l (r_if k x y z e a b) = (code_ungated (omega (arith, y)) a, code_ungated (omega (arith, z)) b)
  code_ungated l (r_let k x y e a) = code_ungated (omega (arith, y)) a

module _ {rows : List ℤ} {c : Code} {Σ : List Ty} {τ : Ty} (a : AcceptedFlow rows c Σ τ) (u : ungated rows ≡ true) where
  flow_ungated : Ungated c
  unfolding ungated
  flow_ungated =
      let p = (loads_passed a.loads).some_rows in
      code_ungated
      (λ i h k. apart (eq-eqb (word (own_rows rows) i 0) (number_of (task_k gate_k)) k) (not-true _ (every_at (row_count rows) (λ i. not (is_kind (own_rows rows) i (task_k gate_k))) u i h)))
      (omega (arith, p)) a.flow.code

  -- of the state's code too, which is the flow's own or 45
  state_ungated : {z : FlowState} {ws : List ℤ} → Writes rows ws c Σ τ z → Ungated z.code
  state_ungated (as_task w) = flow_ungated
  state_ungated (as_failed f o e) = tt

  pub passes_none : {z : FlowState} {ws : List ℤ} → Writes rows ws c Σ τ z → {p : Path} {x : Action} {gs : List Gate} → PassesIn z p x gs → gs ≡ []
  passes_none w (t₁, s₁, h) = handles_ungated h (state_ungated w)
