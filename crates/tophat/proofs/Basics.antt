-- Truths and optional answers: what every file of proofs uses of them. Rests on crate word's `by_truth`.
use mathlib.Core.Path.{◌≡◌, refl, sym, ◌∙◌}
use mathlib.Core.Bool.{Bool, true, false, ◌&&◌, ◌||◌}
use mathlib.Core.Option.{Option, none, some}
use Prim.Native.Nat.{ℕ}
use native.Mathlib.Omega.{arith}
pub use Rattle.word.proofs.Order.{by_truth}

pub apart : {P : Type 0} {x : Bool} → x ≡ true → x ≡ false → P
apart e k = let z : true ≡ false = sym e ∙ k in let z : ◌≡◌ {A = ℕ} 0 1 = cc in absurd (omega arith)

pub and_left : (x y : Bool) → x && y ≡ true → x ≡ true
and_left true y e = refl
and_left false y e = e

pub and_right : (x y : Bool) → x && y ≡ true → y ≡ true
and_right true y e = e
and_right false y e = apart e refl

pub or_false : (x y : Bool) → x || y ≡ false → (x ≡ false) × (y ≡ false)
or_false true y e = apart refl e
or_false false y e = (refl, e)

pub or_true : {P : Type 0} (x y : Bool) → x || y ≡ true → (x ≡ true → P) → (x ≡ false → y ≡ true → P) → P
or_true true y e f g = f refl
or_true false y e f g = g refl e

module _ {X : Type 0} where
  pub no_some : {P : Type 0} {x : X} → ◌≡◌ {A = Option X} none (some x) → P
  no_some e = let z : ◌≡◌ {A = ℕ} 0 1 = cc in absurd (omega arith)

  pub some_is : {x y : X} → some x ≡ some y → x ≡ y
  some_is e = cc

-- P holds of the answer, where there is one
pub data All {X : Type 0} (P : X → Type 0) : Option X → Type 0 where
  all_none : All P none
  all_some : {x : X} → P x → All P (some x)

pub all_is : {X : Type 0} {P : X → Type 0} {o : Option X} {x : X} → All P o → o ≡ some x → P x
all_is all_none e = no_some e
all_is (all_some p) e = let z = some_is e in rw (← z) p

pub all_map : {X : Type 0} {P Q : X → Type 0} {o : Option X} → ((x : X) → P x → Q x) → All P o → All Q o
all_map f all_none = all_none
all_map f (all_some p) = all_some (f _ p)
