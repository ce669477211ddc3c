-- When a step shows Continue: its left side has a value, and its right side, tried under it, does not fail. Rests on crate normalising's
-- `attempt`.
use mathlib.Core.Path.{◌≡◌, refl, sym, ap, ◌∙◌, subst}
use mathlib.Core.Bool.{Bool, true, false, not}
use mathlib.Core.Logic.{inr}
use mathlib.Core.Option.{Option, none, some}
use mathlib.Core.List.{List, ◌∷◌}
use Prim.Native.Nat.{ℕ}
use Rattle.tophat.specs.Syntax.{Ty, Code, Val, TaskOf, Env, Store}
use Rattle.tophat.specs.Typing.{CodeType, TaskType, ValueType}
use Rattle.tophat.specs.Normalising.{value}
use Rattle.tophat.specs.Handling.{continue}
use Rattle.tophat.specs.Showing.{button_if}
use Rattle.tophat.proofs.ComputeEvaluation.{evaluate}
use Rattle.tophat.proofs.ComputeNormalising.{right_fails}
use Rattle.tophat.proofs.ComputeEntries.{continue_if}
use Rattle.tophat.proofs.Preservation.{option_is, value_type}
use Rattle.rows.specs.Rows.{op_a}
use Rattle.std.specs.Prelude.{Some, None}
use Rattle.std.proofs.lemmas.Option.{none-some, same_Some}
use Rattle.value.specs.declared.Value.{Value}
use Rattle.value.specs.Values.{as_value}
use Rattle.value.specs.Found.{Found, as_found}
use Rattle.state.specs.Holds.{World}
use Rattle.state.specs.Ensured.{ValueOk}
use Rattle.normalising.specs.Trying.{Attempted, AttemptOk}
use Rattle.normalising.proofs.Trying.{Waits, waits}
use Rattle.entries.specs.Listing.{GoesOnOk}

module _ (rs ws : List ℕ) (i : ℕ) (env : List ℕ) (d a : ℕ) (e : a ≡ op_a rs i) (f : Found) (hv : ValueOk rs ws a f) where
  left_value : ValueOk rs ws (op_a rs i) f
  left_value = subst (λ a. ValueOk rs ws a f) e hv

  pub goes_none : f ≡ None → GoesOnOk rs ws i env d false
  unfolding as_found continue_if button_if
  goes_none n a b k Σ Γ τ υ s ρ t y x w g = by _ (value a t s) (left_value d a k.1 Σ Γ τ s t y w.store_typed w.store_small w.binders_small g.1 w.stores)
    where
      by : (F : Val → Bool) (o : Option Val) → f ≡ as_found o → button_if false continue ≡ continue_if o F
      by F none p = refl
      by F (some v) p = absurd (none-some _ (sym n ∙ p))

  -- what is asked of the right side, evaluated under the value, decides it
  pub goes_asked : {x : Value} (y : Bool) → f ≡ Some x
      → ((a b : Code) (t : TaskOf a) (Σ Γ : List Ty) (τ υ : Ty) (s : Store) (ρ : Env) (v : Val) → Waits rs ws d i a b t → x ≡ as_value v → ValueType v τ → TaskType Σ Γ a t τ → CodeType Σ (τ ∷ Γ) b υ
      → World rs ws env d Σ Γ s ρ → y ≡ right_fails b (v ∷ ρ) s) → GoesOnOk rs ws i env d (not y)
  unfolding as_found continue_if
  goes_asked y n h a b k Σ Γ τ υ s ρ t z x w g =
      by (value a t s) (left_value d a k.1 Σ Γ τ s t z w.store_typed w.store_small w.binders_small g.1 w.stores) (λ v q. option_is (value_type z w.store_typed) q)
    where
      by : (o : Option Val) → f ≡ as_found o → ((v : Val) → o ≡ some v → ValueType v τ) → button_if (not y) continue ≡ continue_if o (λ v. right_fails b (v ∷ ρ) s)
      by none p m = absurd (none-some _ (sym p ∙ n))
      by (some v) p m = ap (λ r. button_if (not r) continue) (h a b t Σ Γ τ υ s ρ v (waits rs ws d i a b t (inr k) g) (same_Some _ _ (sym n ∙ p)) (m v refl) z x w)

  pub goes_tried : {x : Value} (ws₁ : List ℕ) (r : Bool) → f ≡ Some x → AttemptOk rs ws ws₁ i env d x r → GoesOnOk rs ws i env d r
  unfolding as_found continue_if
  goes_tried ws₁ r n h a b k Σ Γ τ υ s ρ t y x w g =
      by (value a t s) (left_value d a k.1 Σ Γ τ s t y w.store_typed w.store_small w.binders_small g.1 w.stores) (λ v q. option_is (value_type y w.store_typed) q)
    where
      flag : (v : Val) (q : TaskOf b × Store) (x : Bool) → Attempted rs ws ws₁ i env d r a b v q x → r ≡ not x
      flag v q true p = p.0
      flag v q false p = p.0

      by : (o : Option Val) → f ≡ as_found o → ((v : Val) → o ≡ some v → ValueType v τ) → button_if r continue ≡ continue_if o (λ v. right_fails b (v ∷ ρ) s)
      by none p m = absurd (none-some _ (sym p ∙ n))
      by (some v) p m = ap (λ z. button_if z continue) (flag v (evaluate b (v ∷ ρ) s) (right_fails b (v ∷ ρ) s) (h a b (inr k) Σ Γ τ υ s ρ t v (same_Some _ _ (sym n ∙ p)) (m v refl) y x w g))
