-- The grounds in their order. Rests on rows, shape and Accepted.
use Rattle.std.proofs.Common.{Option as Answer, Some, None}
use Rattle.std.specs.Option.{is_some as has_value}
use mathlib.Core.Path.{◌≡◌, refl, sym, ap, ◌∙◌}
use mathlib.Core.Bool.{Bool, true, false, not, cond, false≢true}
use mathlib.Core.Option.{Option, none, some}
use mathlib.Core.List.{List}
use Prim.Native.Nat.{ℕ}
use native.Mathlib.Omega.{arith}
use Rattle.tophat.specs.Syntax.{Ty}
use Rattle.shape.specs.Shape.{maybe_shape, shape_or_none}
use Rattle.shape.proofs.Coded.{shape_not}
use Rattle.shape.proofs.Puts.{shape_pos}
use Rattle.rows.specs.GroundNumbers.{not_typed, number_of_ground}
use Rattle.rows.specs.declared.ground.Ground.{Ground}
use Rattle.rows.proofs.GroundNumbers.{some_number}
use Rattle.rows.specs.Ground.{flow_type, is_some, passes3, passes4, passes5, passes6, passes7, first_ground, ground_of_rows}
use Rattle.grounds.specs.Accepted.{ground_of_form}

-- grounds 3 to 6, then ground 7
abbrev form_by : Bool → Bool → Bool → Bool → ℕ
form_by a b c d = first_ground a b c d true

by_form : (a b c d e : Bool) → (form_by a b c d ≡ 0 → ⊥) → form_by a b c d ≡ first_ground a b c d e
by_form false b c d e h = refl
by_form true false c d e h = refl
by_form true true false d e h = refl
by_form true true true false e h = refl
by_form true true true true e h = absurd (h refl)

by_last : (a b c d e : Bool) → form_by a b c d ≡ 0 → cond e 0 not_typed ≡ first_ground a b c d e
by_last false b c d e h = absurd (omega arith)
by_last true false c d e h = absurd (omega arith)
by_last true true false d e h = absurd (omega arith)
by_last true true true false e h = absurd (omega arith)
by_last true true true true true h = refl
by_last true true true true false h = refl

by_sorted : (a b c d : Bool) → form_by a b c d ≡ 0 → b ≡ true
by_sorted false b c d h = absurd (omega arith)
by_sorted true false c d h = absurd (omega arith)
by_sorted true true c d h = refl

by_small : (a b c d : Bool) → form_by a b c d ≡ 0 → d ≡ true
by_small false b c d h = absurd (omega arith)
by_small true false c d h = absurd (omega arith)
by_small true true false d h = absurd (omega arith)
by_small true true true false h = absurd (omega arith)
by_small true true true true h = refl

none_of : (o : Answer ℕ) → has_value o ≡ false → o ≡ None
none_of None e = refl
none_of (Some s) e = absurd (false≢true (sym e))

-- a shape is 0 where there is no type
typed : (o : Option Ty) → (maybe_shape o ≡ 0 → ⊥) → is_some o ≡ true
unfolding maybe_shape is_some
typed none h = absurd (h refl)
typed (some τ) h = refl

untyped : (o : Option Ty) → maybe_shape o ≡ 0 → is_some o ≡ false
unfolding maybe_shape is_some
untyped none h = refl
untyped (some τ) h = absurd (shape_pos τ h)

module _ (rs : List ℕ) (n : ℕ) where
  pub ground_form : (g : Ground) → number_of_ground g ≡ ground_of_form rs n → number_of_ground g ≡ ground_of_rows rs n
  unfolding ground_of_form ground_of_rows
  ground_form g e = e ∙ by_form (passes3 rs n) (passes4 rs n) (passes5 rs n) (passes6 rs n) (passes7 rs n) (λ z. some_number g (e ∙ z))

  module _ (t : Answer ℕ) (e : 0 ≡ ground_of_form rs n) (f : passes4 rs n ≡ true → passes6 rs n ≡ true → t ≡ shape_or_none (maybe_shape (flow_type rs n))) where
    type_is : t ≡ shape_or_none (maybe_shape (flow_type rs n))
    unfolding ground_of_form
    type_is = f (by_sorted (passes3 rs n) (passes4 rs n) (passes5 rs n) (passes6 rs n) (sym e)) (by_small (passes3 rs n) (passes4 rs n) (passes5 rs n) (passes6 rs n) (sym e))

    last : (b : Bool) → passes7 rs n ≡ b → cond b 0 not_typed ≡ ground_of_rows rs n
    unfolding ground_of_form ground_of_rows
    last b g = ap (λ b. cond b 0 not_typed) (sym g) ∙ by_last (passes3 rs n) (passes4 rs n) (passes5 rs n) (passes6 rs n) (passes7 rs n) (sym e)

    pub ground_7 : {b : Bool} → has_value t ≡ not b → b ≡ true → not_typed ≡ ground_of_rows rs n
    unfolding passes7
    ground_7 q g = last false (untyped (flow_type rs n) (shape_not (sym (none_of t (q ∙ ap not g)) ∙ type_is)))

    pub ground_0 : {b : Bool} → has_value t ≡ not b → b ≡ false → 0 ≡ ground_of_rows rs n
    unfolding passes7
    ground_0 q g = last true (typed (flow_type rs n) (λ z. false≢true (ap has_value (sym (type_is ∙ ap shape_or_none z)) ∙ q ∙ ap not g)))
