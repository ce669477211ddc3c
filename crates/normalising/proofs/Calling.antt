-- What calls in the cycle ask: that the measure falls, six times the row and a number for each function, and `Fine` of the row; and
-- what tests tell. Rests on crate state's Calls and on the view of rows that hand on.
use mathlib.Core.Path.{◌≡◌, refl, sym, ap, ◌∙◌}
use mathlib.Core.Bool.{Bool, true, false, not, ◌||◌}
use mathlib.Core.Logic.{⊎_elim}
use mathlib.Core.List.{List}
use Prim.Native.Nat.{ℕ, ◌+◌, ◌*◌, ◌≤◌, ◌<◌}
use native.Mathlib.Nat.{eq-or-lt_of_le}
use native.Mathlib.Omega.{arith}
use Rattle.rows.specs.Kinds.{either_k, if_k, number_of, task_k, view_k}
use Rattle.rows.specs.Rows.{word}
use Rattle.rows.specs.Enclosing.{max_binders}
use Rattle.rows.proofs.Basics.{no}
use Rattle.state.specs.Ensured.{Fine}
use Rattle.state.proofs.Calls.{low_a, low_b, fine_at}
use Rattle.running.specs.Hands.{HandsOn}
use Rattle.running.proofs.Handing.{low_part}

module _ (rs : List ℕ) (i d : ℕ) (t n : ℕ) (f : (6 * i + n ≡ t) × Fine rs i d) (m : ℕ) where
  -- at the row itself, of a function that comes before
  pub call_same : m < n → (6 * i + m < t) × Fine rs i d
  call_same h = (let e = f.0 in omega arith, f.1)

  module _ (l : m ≤ 5) where
    -- at a lower row
    lower : (a d₁ : ℕ) → a < i → d₁ ≤ max_binders → (6 * a + m < t) × Fine rs a d₁
    lower a d₁ h r = (let e = f.0 in omega arith, fine_at f.1 a d₁ (omega arith) r)

    -- at an operand, of a row of kind 25 to 49
    pub call_a : (k a : ℕ) → k ≡ word rs i 0 → a ≡ word rs i 1 → number_of (either_k if_k) ≤ k → k ≤ number_of (task_k view_k) → (6 * a + m < t) × Fine rs a d
    call_a k a e z h u = lower a d (low_a f.1 k a e z h u) f.1.room

    pub call_b : (k a d₁ : ℕ) → k ≡ word rs i 0 → a ≡ word rs i 2 → number_of (either_k if_k) ≤ k → d₁ ≤ max_binders → (6 * a + m < t) × Fine rs a d₁
    call_b k a d₁ e z h r = lower a d₁ (low_b f.1 k a e z (omega arith)) r

    -- at the row that the row hands on to
    pub call_part : {x k : ℕ} (a d₁ : ℕ) → HandsOn (word rs i 0) x k → a ≡ word rs i k → d₁ ≤ max_binders → (6 * a + m < t) × Fine rs a d₁
    call_part a d₁ h z r = lower a d₁ (low_part rs i f.1 h z) r

-- the same where no measure is asked
module _ (rs : List ℕ) (i d : ℕ) (f : Fine rs i d) (k a : ℕ) (e : k ≡ word rs i 0) where
  pub fine_a : a ≡ word rs i 1 → number_of (either_k if_k) ≤ k → k ≤ number_of (task_k view_k) → Fine rs a 0
  fine_a z h u = let l = low_a f k a e z h u in fine_at f a 0 (omega arith) (omega arith)

  pub fine_b : (d₁ : ℕ) → a ≡ word rs i 2 → number_of (either_k if_k) ≤ k → d₁ ≤ max_binders → Fine rs a d₁
  fine_b d₁ z h r = let l = low_b f k a e z (omega arith) in fine_at f a d₁ (omega arith) r

pub not_t : (b : Bool) → not b ≡ true → b ≡ false
not_t false e = refl
not_t true e = no e

pub not_f : (b : Bool) → not b ≡ false → b ≡ true
not_f true e = refl
not_f false e = no (sym e)

-- the flag of two that the code gives: the first where it is true, else the second
pub hands_or_left : {m : Bool} (n : Bool) → m ≡ true → m ≡ (m || n)
hands_or_left n e = e ∙ sym (ap (λ m. m || n) e)

pub hands_or_right : {m n : Bool} → m ≡ false → n ≡ (m || n)
hands_or_right {n = n} e = sym (ap (λ m. m || n) e)

-- past a number that it is not
pub past : {k n : ℕ} → k ≤ n → (n ≡ k → ⊥) → k + 1 ≤ n
past h f = ⊎_elim (λ e. absurd (f (sym e))) (λ l. omega arith) (eq-or-lt_of_le h)
