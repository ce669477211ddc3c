-- Blank leaves of the engine's events (CR 2): which value leaves give, by whether a leaf of the type is blank. Rests on the calculus'
-- laws of blanks.
use mathlib.Core.Path.{◌≡◌, refl, sym, ap, ◌∙◌}
use mathlib.Core.Bool.{Bool, true, false, false≢true}
use mathlib.Core.Option.{none, some}
use mathlib.Core.List.{List, [], ◌∷◌, map}
use Prim.Native.Nat.{ℕ, zero, suc, ◌<◌}
use native.Mathlib.Omega.{arith}
use lib.IntN.{pos}
use lib.ListN.{get_or, take}
use mir.Syntax.{w32}
use mir.Val.{to_z}
use Rattle.std.specs.Prelude.{Option as Maybe, Some, None, is_some}
use Rattle.std.specs.List.{list_all}
use Rattle.tophat.specs.Syntax.{Ty, leaves}
use Rattle.tophat.specs.Leaves.{given}
use Rattle.tophat.proofs.Blanks.{zeroed, blank_refused, given_zeroed}
use Rattle.handle.specs.Events.{bits_of, leaves_by}

-- none of the first n leaves is blank
abbrev pub none_blank : List (Maybe ℕ) → ℕ → Bool
none_blank ls n = list_all (λ l. is_some l) (take n ls)

-- one of them is
some_blank : (ls : List (Maybe ℕ)) (n : ℕ) → none_blank ls n ≡ false → (j : ℕ) × (j < n) × (get_or (leaves_by ls) j (some (pos 0)) ≡ none)
unfolding leaves_by
some_blank ls zero e = absurd (false≢true (sym e))
some_blank [] (suc n) e = absurd (false≢true (sym e))
some_blank (None ∷ ls) (suc n) e = (0, omega arith, refl)
some_blank (Some x ∷ ls) (suc n) e = let (j, l, h) = some_blank ls n e in (suc j, omega arith, h)

-- or none is
no_blank : (ls : List (Maybe ℕ)) (n j : ℕ) → none_blank ls n ≡ true → j < n → get_or (leaves_by ls) j (some (pos 0)) ≡ none → ⊥
unfolding leaves_by
no_blank ls zero j e l h = omega arith
no_blank [] (suc n) j e l h = let z : ◌≡◌ {A = ℕ} 0 1 = cc in omega arith
no_blank (None ∷ ls) (suc n) j e l h = false≢true e
no_blank (Some x ∷ ls) (suc n) zero e l h = let z : ◌≡◌ {A = ℕ} 0 1 = cc in omega arith
no_blank (Some x ∷ ls) (suc n) (suc j) e l h = no_blank ls n j e (omega arith) h

-- with a 0 for each blank they are the bits' numbers
zeroed_by : (ls : List (Maybe ℕ)) → map zeroed (leaves_by ls) ≡ map some (map (to_z w32) (map bits_of ls))
unfolding leaves_by zeroed
zeroed_by [] = refl
zeroed_by (None ∷ ls) = ap (λ zs. some (pos 0) ∷ zs) (zeroed_by ls)
zeroed_by (Some x ∷ ls) = ap (λ zs. some (to_z w32 x) ∷ zs) (zeroed_by ls)

module _ (τ : Ty) (ls : List (Maybe ℕ)) where
  -- a blank where the type has a leaf
  pub given_blank : none_blank ls (leaves τ) ≡ false → given τ (leaves_by ls) ≡ none
  given_blank e = let (j, l, h) = some_blank ls (leaves τ) e in blank_refused τ (leaves_by ls) j l (λ k. h)

  -- none
  pub given_bits : none_blank ls (leaves τ) ≡ true → given τ (leaves_by ls) ≡ given τ (map some (map (to_z w32) (map bits_of ls)))
  given_bits e = sym (given_zeroed τ (leaves_by ls) (λ j l h. no_blank ls (leaves τ) j e l h)) ∙ ap (given τ) (zeroed_by ls)
