-- Counts that stop. Rests on Tables.
use mathlib.Core.Path.{◌≡◌, sym, ap, ◌∙◌}
use mathlib.Core.Bool.{Bool, true, false, cond}
use mathlib.Core.Logic.{⊎_elim}
use Prim.Native.Nat.{ℕ, suc, ◌+◌, ◌<◌, ◌≤◌, max}
use native.Mathlib.Nat.{le-max_left, le-max_right}
use native.Mathlib.Omega.{arith}
use lib.Dec.{leb, eqb}
use borrow.Author.Tests.{le-leb, lt-leb, ne_eqb}
use Rattle.rows.proofs.Basics.{le_or_lt}
use Rattle.grounds.specs.Tables.{stop}

pub stop_low : (m n : ℕ) → n ≤ m → stop m n ≡ n
unfolding stop
stop_low m n h = rw (le-leb n m h)

pub stop_high : (m n : ℕ) → m ≤ n → stop m n ≡ m
unfolding stop
stop_high m n h = ⊎_elim (λ (l : n ≤ m). rw (le-leb n m l) (omega arith)) (λ (l : m < n). rw (lt-leb n m l)) (le_or_lt n m)

-- it never passes m
pub stop_bound : (m n : ℕ) → stop m n ≤ m
stop_bound m n = ⊎_elim (λ (l : n ≤ m). omega (arith, stop_low m n l)) (λ (l : m < n). omega (arith, stop_high m n (omega arith))) (le_or_lt n m)

-- a count that has not reached m is the number itself
pub stop_under : (m n : ℕ) → stop m n < m → n < m
stop_under m n h = ⊎_elim (λ (l : m ≤ n). absurd (omega (arith, stop_high m n l))) (λ l. l) (le_or_lt m n)

pub stop_reached : (m n : ℕ) → m ≤ stop m n → m ≤ n
stop_reached m n h = ⊎_elim (λ l. l) (λ (l : n < m). absurd (omega (arith, stop_low m n (omega arith)))) (le_or_lt m n)

-- a test below m is the same of both
pub stop_eqb : (m n k : ℕ) → k < m → eqb (stop m n) k ≡ eqb n k
stop_eqb m n k h = ⊎_elim (λ (l : n ≤ m). ap (λ x. eqb x k) (stop_low m n l))
    (λ (l : m < n). ap (λ x. eqb x k) (stop_high m n (omega arith)) ∙ ne_eqb m k (λ e. omega arith) ∙ sym (ne_eqb n k (λ e. omega arith))) (le_or_lt n m)

pub stop_leb : (m n : ℕ) → leb (stop (suc m) n) m ≡ leb n m
stop_leb m n = ⊎_elim (λ (l : n ≤ suc m). ap (λ x. leb x m) (stop_low (suc m) n l))
    (λ (l : suc m < n). ap (λ x. leb x m) (stop_high (suc m) n (omega arith)) ∙ lt-leb (suc m) m (omega arith) ∙ sym (lt-leb n m (omega arith))) (le_or_lt n (suc m))

-- ---- two numbers that stop alike: sums, greatest and choices of such do

module _ (m : ℕ) where
  abbrev pub Alike : ℕ → ℕ → Type 0
  Alike x y = stop m x ≡ stop m y

  pub alike_stop : (x y : ℕ) → x ≡ stop m y → Alike x y
  alike_stop x y e = ap (stop m) e ∙ stop_low m (stop m y) (stop_bound m y)

  alike_cases : {P : Type 0} (x y : ℕ) → Alike x y → (x ≡ y → P) → (m ≤ x → m ≤ y → P) → P
  alike_cases x y e f g = ⊎_elim
      (λ (l : m ≤ x). g l (stop_reached m y (omega (arith, stop_high m x l))))
      (λ (l : x < m).
      let k = stop_low m x (omega arith) in let h = stop_under m y (omega arith) in
      f (omega (arith, stop_low m y (omega arith)))) (le_or_lt m x)

  reached : (x y : ℕ) → m ≤ x → m ≤ y → Alike x y
  reached x y h g = stop_high m x h ∙ sym (stop_high m y g)

  pub alike_add : (x y u v : ℕ) → Alike x y → Alike u v → Alike (x + u) (y + v)
  alike_add x y u v e f = alike_cases x y e
      (λ p. alike_cases u v f (λ q. ap (stop m) (omega arith)) (λ h g. reached (x + u) (y + v) (omega arith) (omega arith)))
      (λ h g. reached (x + u) (y + v) (omega arith) (omega arith))

  pub alike_max : (x y u v : ℕ) → Alike x y → Alike u v → Alike (max x u) (max y v)
  alike_max x y u v e f = alike_cases x y e
      (λ p. alike_cases u v f (λ q i. stop m (max (p i) (q i)))
      (λ h g. reached (max x u) (max y v) (omega (arith, le-max_right x u)) (omega (arith, le-max_right y v))))
      (λ h g. reached (max x u) (max y v) (omega (arith, le-max_left x u)) (omega (arith, le-max_left y v)))

  pub alike_cond : (b : Bool) (x y u v : ℕ) → Alike x y → Alike u v → Alike (cond b x u) (cond b y v)
  alike_cond true x y u v e f = e
  alike_cond false x y u v e f = f
