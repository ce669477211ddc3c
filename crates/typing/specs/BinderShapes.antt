-- How the shapes of the binders around a row stand in an array of 16: Γ has their types, the nearest first, env their shapes, the
-- outermost first. Rests on the crates shape and rows.
-- For contracts only: tied to the calculus' typing by `code_good` (proofs/Agree).
use Rattle.std.specs.Prelude.{◌≡◌, List, [], ◌∷◌, ℕ, ◌≤◌, length, get_or}
use Rattle.tophat.specs.Syntax.{max_leaves, Ty, leaves}
use Rattle.shape.specs.Shape.{as_shape}
use Rattle.rows.specs.Enclosing.{max_binders}

abbrev pub EnvOf : List ℕ → List Ty → Type 0
EnvOf env [] = Unit {0}
EnvOf env (τ ∷ Γ) = (get_or env (length Γ) 0 ≡ as_shape τ) × (leaves τ ≤ max_leaves) × EnvOf env Γ

pub record BinderShapes (env : List ℕ) (Γ : List Ty) : Type 0 where
  pub long : length env ≡ max_binders
  pub few : length Γ ≤ max_binders
  pub held : EnvOf env Γ
