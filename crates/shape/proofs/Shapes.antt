-- What the functions of this crate give at the shapes of types of at most max_leaves leaves, and at 0, which is the shape
-- of none. Rests on Puts and Counts.
use mathlib.Core.Path.{◌≡◌, refl, sym, ap, ap₂}
use mathlib.Core.Option.{Option, none, some, bind}
use mathlib.Core.List.{map}
use Prim.Native.Nat.{◌≤◌}
use Rattle.tophat.specs.Syntax.{max_leaves, Ty, pair, leaves}
use Rattle.tophat.specs.Leaves.{padded, leaf_kinds, leaf_number}
use Rattle.tophat.proofs.ComputeTyping.{type_to, first_to, second_to}
use Rattle.shape.specs.Shape.{as_shape, maybe_shape, as_type, pair_shape, first_shape, second_shape, kinds_in, kinds_of}
use Rattle.shape.proofs.Puts.{shape_pos, as_type_lem}
use Rattle.shape.proofs.Counts.{by_type}

-- a type of at most max_leaves leaves, or none
abbrev pub SmallO : Option Ty → Type 0
SmallO none = Unit {0}
SmallO (some τ) = leaves τ ≤ max_leaves

pub no_type : as_type 0 ≡ none
no_type = by_type 0 (λ o. o ≡ none) refl (λ τ e l. absurd (shape_pos τ (sym e)))

pub as_type_again : (o : Option Ty) → SmallO o → as_type (maybe_shape o) ≡ o
unfolding maybe_shape
as_type_again none h = no_type
as_type_again (some τ) h = as_type_lem τ h

module _ (o : Option Ty) (h : SmallO o) where
  pub first_of : first_shape (maybe_shape o) ≡ maybe_shape (bind o first_to)
  unfolding first_shape
  first_of = ap (λ x. maybe_shape (bind x first_to)) (as_type_again o h)

  pub second_of : second_shape (maybe_shape o) ≡ maybe_shape (bind o second_to)
  unfolding second_shape
  second_of = ap (λ x. maybe_shape (bind x second_to)) (as_type_again o h)

  pub pair_of : (p : Option Ty) → SmallO p → pair_shape (maybe_shape o) (maybe_shape p) ≡ maybe_shape (bind o λ τ. bind p λ υ. type_to (pair τ υ))
  unfolding pair_shape
  pair_of p g = ap₂ (λ x y. maybe_shape (bind x λ τ. bind y λ υ. type_to (pair τ υ))) (as_type_again o h) (as_type_again p g)

pub kinds_of_lem : (τ : Ty) → leaves τ ≤ max_leaves → kinds_of (as_shape τ) ≡ padded 0 (map leaf_number (leaf_kinds τ))
unfolding kinds_of kinds_in
kinds_of_lem τ h = ap kinds_in (as_type_lem τ h)
