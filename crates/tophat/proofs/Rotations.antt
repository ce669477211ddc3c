-- Rotating the marks of three choices regrouped is one for one: the way back. Rests on the definition of `rotate` alone.
use mathlib.Core.Path.{◌≡◌, refl}
use mathlib.Core.List.{[], ◌∷◌}
use Rattle.decimal.specs.Path.{first, second, Path}
use Rattle.tophat.specs.Redrawn.{rotate}

unfoldable pub rotate_back : Path → Path
rotate_back [] = []
rotate_back (first ∷ p) = first ∷ first ∷ p
rotate_back (second ∷ []) = first ∷ []
rotate_back (second ∷ first ∷ p) = first ∷ second ∷ p
rotate_back (second ∷ second ∷ p) = second ∷ p

pub rotate_rotate_back : (p : Path) → rotate (rotate_back p) ≡ p
unfolding rotate rotate_back
rotate_rotate_back [] = refl
rotate_rotate_back (first ∷ p) = refl
rotate_rotate_back (second ∷ []) = refl
rotate_rotate_back (second ∷ first ∷ p) = refl
rotate_rotate_back (second ∷ second ∷ p) = refl

pub rotate_back_rotate : (p : Path) → rotate_back (rotate p) ≡ p
unfolding rotate rotate_back
rotate_back_rotate [] = refl
rotate_back_rotate (first ∷ []) = refl
rotate_back_rotate (first ∷ first ∷ p) = refl
rotate_back_rotate (first ∷ second ∷ p) = refl
rotate_back_rotate (second ∷ p) = refl
