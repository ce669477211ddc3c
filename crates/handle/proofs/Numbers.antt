-- Events at the path's end and past a mark: which path a number is, and which action is chosen. Rests on specs/Events and on crate
-- decimal's paths.
use mathlib.Core.Path.{◌≡◌, refl}
use Prim.Native.Nat.{ℕ, ◌-◌, ◌/◌}
use native.Mathlib.Omega.{arith}
use Rattle.decimal.specs.Path.{front_mark, path_of}
use Rattle.decimal.proofs.PathNumbers.{path_front}
use mathlib.Core.List.{◌∷◌}
use Rattle.tophat.specs.declared.Action.{Action as Chosen}
use Rattle.tophat.specs.declared.Action.TheVariants.{Value, Continue, Left, Right}

-- ---- paths

-- a number but 0 is a path of at least one mark
pub some_marks : (n : ℕ) → (n ≡ 0 → ⊥) → path_of n ≡ front_mark n ∷ path_of ((n - 1) / 2)
some_marks n h = path_front n (omega arith)

-- ---- actions

-- by which one it is
pub by_action : {P : Type 0} (a : Chosen) → (a ≡ Value → P) → (a ≡ Continue → P) → (a ≡ Left → P) → (a ≡ Right → P) → P
by_action Value f g h k = f refl
by_action Continue f g h k = g refl
by_action Left f g h k = h refl
by_action Right f g h k = k refl
