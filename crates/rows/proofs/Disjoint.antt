-- Rows that keep the naming rule are a tree: rows of kind 20 or more under two different places of a row are different, and
-- none of them is the row itself. Rests on Named and Foot.
use mathlib.Core.Path.{◌≡◌, sym, subst, ◌∙◌}
use mathlib.Core.Logic.{⊎_elim, ◌⊎◌, inl, inr}
use mathlib.Core.List.{List}
use Prim.Native.Nat.{ℕ, zero, suc, ◌+◌, ◌<◌, ◌≤◌}
use native.Mathlib.Omega.{arith}
use Rattle.rows.specs.Rows.{FromKind, first_expression}
use Rattle.rows.proofs.Exists.{Sorted}
use Rattle.rows.proofs.Places.{Place, op_at, Names, lower, above}
use Rattle.rows.proofs.Foot.{Foot, NamedIn, foot_cases, foot_le, foot_high}
use Rattle.rows.proofs.Named.{NamedOnce, one_place}

module _ (rs : List ℕ) (n : ℕ) (q : Sorted rs n) (t : NamedOnce rs n) where
  -- two feet with a row of kind 20 or more in common: the top of one is in the other
  module _ (x y : ℕ) (l : x < n) (m : y < n) where
    cases : (i : ℕ) → Foot rs x i → Foot rs y i → (NamedIn rs x i → NamedIn rs y i → Foot rs x y ⊎ Foot rs y x) → Foot rs x y ⊎ Foot rs y x
    cases i f g up = ⊎_elim (λ e. inr (subst (Foot rs y) e g)) (λ r. ⊎_elim (λ e. inl (subst (Foot rs x) e f)) (λ s. up r s) (foot_cases g)) (foot_cases f)

    meet : (k i : ℕ) → x ≤ i + k → FromKind rs i first_expression → Foot rs x i → Foot rs y i → Foot rs x y ⊎ Foot rs y x
    meet zero i z h f g = cases i f g (λ r s.
        let u = foot_le rs n q l r.within in let v = lower rs n q r.by (omega arith) r.place r.names in let e = r.is in absurd (omega arith))
    meet (suc k) i z h f g = cases i f g (λ r s.
        let u = foot_le rs n q l r.within in let v = foot_le rs n q m s.within in let e = r.is in
        let a = lower rs n q r.by (omega arith) r.place r.names in
        let c = subst (λ w. FromKind rs w first_expression) (sym r.is) h in
        let o = one_place rs n t q r.by s.by r.place s.place (omega arith) (omega arith) r.names s.names (r.is ∙ sym s.is) c in
        meet k r.by (omega arith) (above rs n q r.by (omega arith) r.place r.names c) r.within (subst (Foot rs y) (sym o.0) s.within))

  -- a named row of kind 20 or more is not in the foot of another place
  not_in : (j : ℕ) (p r : Place) → j < n → Names rs j p → Names rs j r → (p ≡ r → ⊥) → FromKind rs (op_at rs j r) first_expression → Foot rs (op_at rs j p) (op_at rs j r) → ⊥
  not_in j p r l g h z u f = ⊎_elim (λ e. z (sym (one_place rs n t q j j r p l l h g e u).1))
      (λ s.
      let w = lower rs n q j l p g in let v = foot_le rs n q (omega arith) s.within in
      let o = (one_place rs n t q j s.by r s.place l (omega arith) h s.names (sym s.is) u).0 in omega arith)
      (foot_cases f)

  -- rows of kind 20 or more under two different places of a row are different
  pub apart : (j : ℕ) (p r : Place) → j < n → Names rs j p → Names rs j r → (p ≡ r → ⊥) → (i : ℕ) → FromKind rs i first_expression → Foot rs (op_at rs j p) i → Foot rs (op_at rs j r) i → ⊥
  apart j p r l g h z i u a b =
      let x = lower rs n q j l p g in let y = lower rs n q j l r h in
      ⊎_elim (λ f. not_in j p r l g h z (foot_high rs n q (omega arith) b u) f)
      (λ f. not_in j r p l h g (λ e. z (sym e)) (foot_high rs n q (omega arith) a u) f)
      (meet (op_at rs j p) (op_at rs j r) (omega arith) (omega arith) (op_at rs j p) i (omega arith) u a b)

  -- and are not the row itself
  pub not_self : (j : ℕ) (p : Place) → j < n → Names rs j p → Foot rs (op_at rs j p) j → ⊥
  not_self j p l h f = let w = lower rs n q j l p h in let u = foot_le rs n q (omega arith) f in omega arith
