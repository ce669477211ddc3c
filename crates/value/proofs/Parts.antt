-- A value made of its shape and its leaves. Rests on specs/Values.
use mathlib.Core.Path.{◌≡◌}
use mathlib.Core.List.{List}
use Prim.Native.Nat.{ℕ}
use Rattle.value.specs.declared.Value.{Value}

pub made : {s t : ℕ} {l m : List ℕ} → s ≡ t → l ≡ m → ◌≡◌ {A = Value} (record { shape = s; leaves = l }) (record { shape = t; leaves = m })
made e f = λ i. record { shape = e i; leaves = f i }
