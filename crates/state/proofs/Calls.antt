-- What calls ask: that an operand is a lower row, and `Fine` of it. Rests on specs/Ensured.
use mathlib.Core.Path.{◌≡◌}
use mathlib.Core.List.{List}
use Prim.Native.Nat.{ℕ, ◌≤◌, ◌<◌}
use native.Mathlib.Omega.{arith}
use Rattle.rows.specs.Kinds.{plain_k, eop_k, either_k, if_k, task_k, view_k, number_of}
use Rattle.rows.specs.Rows.{word}
use Rattle.rows.specs.Enclosing.{max_binders}
use Rattle.state.specs.Ensured.{Fine}

module _ {rs : List ℕ} {i d : ℕ} (f : Fine rs i d) (k a : ℕ) (e : k ≡ word rs i 0) where
  pub low_a : a ≡ word rs i 1 → number_of (either_k if_k) ≤ k → k ≤ number_of (task_k view_k) → a < i
  low_a z h u = let l = (f.lower i f.low).low_a (omega arith) (omega arith) in omega arith

  pub low_b : a ≡ word rs i 2 → number_of (plain_k eop_k) ≤ k → a < i
  low_b z h = let l = (f.lower i f.low).low_b (omega arith) in omega arith

  pub low_c : a ≡ word rs i 3 → number_of (plain_k eop_k) ≤ k → k ≤ number_of (task_k view_k) → a < i
  low_c z h u = let l = (f.lower i f.low).low_c (omega arith) (omega arith) in omega arith

-- a lower row, at any depth
pub fine_at : {rs : List ℕ} {i d : ℕ} → Fine rs i d → (a d₁ : ℕ) → a ≤ i → d₁ ≤ max_binders → Fine rs a d₁
fine_at f a d₁ h r = record { low = let l = f.low in omega arith; room = r; lower = f.lower }
