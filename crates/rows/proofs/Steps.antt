-- `Under` by operand places: one step for all three, an eliminator, and that rows under a row are not above it. Rests on
-- Enclosing and Places.
use mathlib.Core.Path.{◌≡◌, refl, sym, subst}
use mathlib.Core.Bool.{true}
use mathlib.Core.List.{List}
use Prim.Native.Nat.{ℕ, ◌+◌, ◌<◌, ◌≤◌}
use native.Mathlib.Omega.{arith}
use Rattle.rows.specs.Kinds.{Asks, asks, no_asks}
use Rattle.rows.specs.Rows.{names, asks_at}
use Rattle.rows.specs.Enclosing.{binders_by, marks_by, Under, here, in_a, in_b, in_c}
use Rattle.rows.proofs.Basics.{no}
use Rattle.rows.proofs.Exists.{Sorted}
use Rattle.rows.proofs.Places.{Place, place_a, place_b, place_c, op_at, ask_at, Names, lower}

-- v binders or marks and those that a row puts around the row named at a place
abbrev pub binders_at : Asks → Place → ℕ → ℕ
binders_at (asks p q r o x) place_a v = v
binders_at (asks p q r o x) place_b v = binders_by x + v
binders_at (asks p q r o x) place_c v = v
binders_at no_asks p v = v

abbrev pub marks_at : Asks → Place → ℕ → ℕ
marks_at (asks p q r o x) place_a v = marks_by x + v
marks_at (asks p q r o x) place_b v = marks_by x + v
marks_at (asks p q r o x) place_c v = v
marks_at no_asks p v = v

module _ {rs : List ℕ} where
  step_by : (j : ℕ) {i b m : ℕ} (s : Asks) → asks_at rs j ≡ s → (p : Place) → names (ask_at s p) ≡ true → Under rs (op_at rs j p) i b m → Under rs j i (binders_at s p b) (marks_at s p m)
  unfolding names
  step_by j (asks a b c o x) e place_a h d = in_a e h d
  step_by j (asks a b c o x) e place_b h d = in_b e h d
  step_by j (asks a b c o x) e place_c h d = in_c e h d
  step_by j no_asks e place_a h d = no h
  step_by j no_asks e place_b h d = no h
  step_by j no_asks e place_c h d = no h

  -- what stands under a named row stands under the row that names it
  pub under_step : (j : ℕ) {i b m : ℕ} (p : Place) → Names rs j p → Under rs (op_at rs j p) i b m → Under rs j i (binders_at (asks_at rs j) p b) (marks_at (asks_at rs j) p m)
  under_step j p h d = step_by j (asks_at rs j) refl p h d

  -- and every row under a row is there by such steps
  module _ (P : ℕ → ℕ → ℕ → ℕ → Type 0) (z : (j : ℕ) → P j j 0 0)
      (s : (j i b m : ℕ) (p : Place) → Names rs j p → Under rs (op_at rs j p) i b m → P (op_at rs j p) i b m → P j i (binders_at (asks_at rs j) p b) (marks_at (asks_at rs j) p m)) where
    at : (j i b m : ℕ) (t : Asks) → asks_at rs j ≡ t → (p : Place) → names (ask_at t p) ≡ true → Under rs (op_at rs j p) i b m → P (op_at rs j p) i b m → P j i (binders_at t p b) (marks_at t p m)
    at j i b m t e p h d k =
        subst (λ t. P j i (binders_at t p b) (marks_at t p m)) e (s j i b m p (subst (λ t. names (ask_at t p) ≡ true) (sym e) h) d k)

    pub under_elim : {j i b m : ℕ} → Under rs j i b m → P j i b m
    under_elim here = z _
    under_elim (in_a e h d) = at _ _ _ _ _ e place_a h d (under_elim d)
    under_elim (in_b e h d) = at _ _ _ _ _ e place_b h d (under_elim d)
    under_elim (in_c e h d) = at _ _ _ _ _ e place_c h d (under_elim d)

-- in rows that pass ground 4 a row under a row is not above it
pub under_le : (rs : List ℕ) (n : ℕ) → Sorted rs n → {j i b m : ℕ} → j < n → Under rs j i b m → i ≤ j
under_le rs n q l d = under_elim (λ j i b m. j < n → i ≤ j) (λ j l. omega arith)
    (λ j i b m p h d f l. let w = lower rs n q j l p h in let u = f (omega arith) in omega arith) d l
