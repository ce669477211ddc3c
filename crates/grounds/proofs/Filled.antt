-- Tables that are filled from below: the first i entries are a list's, mapped. Rests on nothing.
use mathlib.Core.Path.{◌≡◌, sym, ap, ap₂, ◌∙◌}
use mathlib.Core.List.{List, [], ◌∷◌, ◌++◌, map, map-append}
use Prim.Native.Nat.{ℕ, ◌+◌, ◌<◌}
use native.Mathlib.Numerals.{add-one}
use lib.ListN.{length, get_or, set, take, get_or-map}
use lib.Seq.{take-suc-set}

module _ {A : Type 0} (g : A → ℕ) where
  -- an entry that is read, at a row that is lower or not
  pub entry_is : (d : A) → g d ≡ 0 → (t : List ℕ) (l : List A) (i w : ℕ) → take i t ≡ map g l → get_or (take i t) w 0 ≡ g (get_or l w d)
  entry_is d z t l i w e = ap (λ m. get_or m w 0) e ∙ ap (λ k. get_or (map g l) w k) (sym z) ∙ get_or-map g l w d

  -- an entry that is written
  pub one_more : (t : List ℕ) (l : List A) (i v : ℕ) (x : A) → take i t ≡ map g l → i < length t → v ≡ g x → take (i + 1) (set t i v) ≡ map g (l ++ x ∷ [])
  one_more t l i v x e h f = rw add-one (take-suc-set t i v h ∙ ap₂ (λ m k. m ++ k ∷ []) e f ∙ sym (map-append g l (x ∷ [])))
