-- The foot of a row: the row and the rows under it. Rests on Steps.
use mathlib.Core.Path.{◌≡◌, refl, sym}
use mathlib.Core.Logic.{⊎_elim, ◌⊎◌, inl, inr}
use mathlib.Core.List.{List}
use Prim.Native.Nat.{ℕ, ◌<◌, ◌≤◌}
use native.Mathlib.Omega.{arith}
use Rattle.rows.specs.Rows.{FromKind, first_expression}
use Rattle.rows.specs.Enclosing.{Under, here}
use Rattle.rows.proofs.Exists.{Sorted}
use Rattle.rows.proofs.Places.{Place, op_at, Names, lower, above}
use Rattle.rows.proofs.Steps.{under_step, under_elim, under_le}

-- row i is row j or stands under it, whatever is around it
pub record Foot (rs : List ℕ) (j i : ℕ) : Type 0 where
  pub binders : ℕ
  pub marks : ℕ
  pub under : Under rs j i binders marks

pub foot_here : {rs : List ℕ} {j : ℕ} → Foot rs j j
foot_here = record { binders = 0; marks = 0; under = here }

pub foot_up : {rs : List ℕ} {i : ℕ} (j : ℕ) (p : Place) → Names rs j p → Foot rs (op_at rs j p) i → Foot rs j i
foot_up j p h f = record { binders = _; marks = _; under = under_step j p h f.under }

-- row i is named at a place of a row of the foot
pub record NamedIn (rs : List ℕ) (j i : ℕ) : Type 0 where
  pub by : ℕ
  pub place : Place
  pub within : Foot rs j by
  pub names : Names rs by place
  pub is : op_at rs by place ≡ i

-- a row of a foot is its top, or named in it
pub foot_cases : {rs : List ℕ} {j i : ℕ} → Foot rs j i → (i ≡ j) ⊎ NamedIn rs j i
foot_cases {rs} f = under_elim (λ j i b m. (i ≡ j) ⊎ NamedIn rs j i) (λ j. inl refl)
    (λ j i b m p h d r. inr (⊎_elim
    (λ e. record { by = j; place = p; within = foot_here; names = h; is = sym e })
    (λ s. record { by = s.by; place = s.place; within = foot_up j p h s.within; names = s.names; is = s.is }) r))
    f.under

module _ (rs : List ℕ) (n : ℕ) (q : Sorted rs n) where
  -- no row of a foot is above its top
  pub foot_le : {j i : ℕ} → j < n → Foot rs j i → i ≤ j
  foot_le l f = under_le rs n q l f.under

  -- a row with a row of kind 20 or more in its foot is of kind 20 or more
  pub foot_high : {j i : ℕ} → j < n → Foot rs j i → FromKind rs i first_expression → FromKind rs j first_expression
  foot_high l f h = under_elim (λ j i b m. j < n → FromKind rs i first_expression → FromKind rs j first_expression) (λ j l h. h)
      (λ j i b m p g d r l h. let w = lower rs n q j l p g in above rs n q j l p g (r (omega arith) h)) f.under l h
