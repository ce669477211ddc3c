-- `tabulate`: its length and its elements, a list as the table of its elements, and a list that a loop fills place by place.
-- Assumes nothing.
use mathlib.Core.Path.{◌≡◌, refl, sym, ap, ap₂, ◌∙◌}
use mathlib.Core.List.{List, [], ◌∷◌, map}
use Prim.Native.Nat.{ℕ, zero, suc, ◌+◌, ◌≤◌, ◌<◌, zero-le, suc-le-suc}
use native.Mathlib.Decide.{ℕ_discrete}
use native.Mathlib.Nat.{le_of_suc-le-suc}
use native.Mathlib.Omega.{arith}
use lib.ListN.{length, get_or, set}
use lib.Seq.{get_or-set_same, get_or-set_other}
use Rattle.word.specs.Tabulate.{tabulate}

module _ {A : Type 0} where
  pub length_tabulate : (n : ℕ) (f : ℕ → A) → length (tabulate n f) ≡ n
  unfolding tabulate
  length_tabulate zero f = refl
  length_tabulate (suc n) f = ap suc (length_tabulate n (λ i. f (suc i)))

  pub get_d_tabulate : (n : ℕ) (f : ℕ → A) (i : ℕ) (d : A) → i < n → get_or (tabulate n f) i d ≡ f i
  unfolding tabulate
  get_d_tabulate zero f i d h = absurd (omega arith)
  get_d_tabulate (suc n) f zero d h = refl
  get_d_tabulate (suc n) f (suc i) d h = get_d_tabulate n (λ i. f (suc i)) i d (le_of_suc-le-suc h)

  -- a list of n elements is their table
  pub tabulate_is : (n : ℕ) (f : ℕ → A) (l : List A) (d : A) → length l ≡ n → ((i : ℕ) → i < n → get_or l i d ≡ f i) → tabulate n f ≡ l
  unfolding tabulate
  tabulate_is zero f [] d e h = refl
  tabulate_is zero f (x ∷ l) d e h = absurd (omega arith)
  tabulate_is (suc n) f [] d e h = absurd (omega arith)
  tabulate_is (suc n) f (x ∷ l) d e h =
      ap₂ ◌∷◌ (sym (h 0 (suc-le-suc zero-le))) (tabulate_is n (λ i. f (suc i)) l d (omega arith) (λ i g. h (suc i) (suc-le-suc g)))

  -- tables of the same elements are one
  pub tabulate_same : (n : ℕ) (f g : ℕ → A) → ((i : ℕ) → i < n → f i ≡ g i) → tabulate n f ≡ tabulate n g
  unfolding tabulate
  tabulate_same zero f g h = refl
  tabulate_same (suc n) f g h = ap₂ ◌∷◌ (h 0 (suc-le-suc zero-le)) (tabulate_same n (λ i. f (suc i)) (λ i. g (suc i)) (λ i k. h (suc i) (suc-le-suc k)))

  -- the places below k of a list hold f's: what a loop that fills it place by place knows
  abbrev pub FilledTo : (ℕ → A) → A → ℕ → List A → Type 0
  FilledTo f d k l = (i : ℕ) → i < k → get_or l i d ≡ f i

  pub filled_more : (f : ℕ → A) (d : A) (l : List A) (k : ℕ) (x : A) → k < length l → x ≡ f k → FilledTo f d k l → FilledTo f d (k + 1) (set l k x)
  filled_more f d l k x h e g i m = by (ℕ_discrete i k)
    where
      by : Dec (i ≡ k) → get_or (set l k x) i d ≡ f i
      by (yes p) = ap (λ j. get_or (set l k x) j d) p ∙ get_or-set_same l k x d h ∙ e ∙ ap f (sym p)
      by (no n) = get_or-set_other l k i x d n ∙ g i (omega arith)

  -- filled to its end
  pub filled_all : (f : ℕ → A) (d : A) (n k : ℕ) (l : List A) → length l ≡ n → n ≤ k → FilledTo f d k l → l ≡ tabulate n f
  filled_all f d n k l e h g = sym (tabulate_is n f l d e (λ i m. g i (omega arith)))

-- each element by a function
pub map_tabulate : {A B : Type 0} (g : A → B) (n : ℕ) (f : ℕ → A) → map g (tabulate n f) ≡ tabulate n (λ i. g (f i))
unfolding tabulate
map_tabulate g zero f = refl
map_tabulate g (suc n) f = ap (λ l. g (f 0) ∷ l) (map_tabulate g n (λ i. f (suc i)))
