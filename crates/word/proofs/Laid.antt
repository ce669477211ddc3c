-- `laid`: what a loop that copies element by element has done, when it is done, and what then stands where. Assumes nothing.
use mathlib.Core.Path.{◌≡◌, refl, sym, ap, ◌∙◌}
use mathlib.Core.List.{List, [], ◌∷◌, ◌++◌, map, append-nil}
use Prim.Native.Nat.{ℕ, suc, ◌+◌, ◌-◌, ◌≤◌, ◌<◌}
use native.Mathlib.Numerals.{add-one}
use native.Mathlib.Nat.{le_of_lt}
use native.Mathlib.Omega.{arith}
use lib.ListN.{length, take, drop, get_or, set, length-map, length-append, length-drop, length-take, drop_of_length-le}
use lib.Seq.{take-suc, drop-cons, set_at, append_snoc, length-take-le, take_all}
use Rattle.word.specs.Laid.{laid}

module _ {A B : Type 0} (f : A → B) where
  pub map-append : (l m : List A) → map f (l ++ m) ≡ map f l ++ map f m
  map-append [] m = refl
  map-append (x ∷ l) m = ap (λ r. f x ∷ r) (map-append l m)

  front_length : (from : List A) (i : ℕ) → i ≤ length from → length (map f (take i from)) ≡ i
  front_length from i h = length-map (take i from) f ∙ length-take-le i from h

  -- a turn of the copying loop: a and b are what lists of A and B read as past their end
  pub laid_more : (from : List A) (to now : List B) (i : ℕ) (a : A) (b v : B) → i < length from → i < length to
      → now ≡ map f (take i from) ++ drop i to → v ≡ f (get_or from i a) → set now i v ≡ map f (take (i + 1) from) ++ drop (i + 1) to
  laid_more from to now i a b v h g e q =
      ap (λ l. set l i v) (e ∙ ap (λ l. map f (take i from) ++ l) (drop-cons to i b g))
      ∙ set_at (map f (take i from)) (get_or to i b) (drop (suc i) to) v i (front_length from i (le_of_lt h))
      ∙ sym (append_snoc (map f (take i from)) v (drop (suc i) to))
      ∙ ap (λ l. l ++ drop (suc i) to) (ap (λ w. map f (take i from) ++ w ∷ []) q ∙ sym (map-append (take i from) (get_or from i a ∷ [])) ∙ ap (map f) (sym (take-suc from i a h)))
      ∙ rw add-one

-- the loop is done at i: all of `from` is read, or all of `to` is written
module _ {A B : Type 0} (from : List A) (to : List B) (i : ℕ) where
  abbrev Done : Type 0
  Done = (take i from ≡ take (length to) from) × (drop i to ≡ drop (length from) to)

  pub all_read : length from ≤ i → i ≤ length from → i ≤ length to → Done
  all_read h g k = (take_all i from h ∙ sym (take_all (length to) from (omega arith)), ap (λ n. drop n to) {x = i} {y = length from} (omega arith))

  pub all_written : length to ≤ i → i ≤ length to → i ≤ length from → Done
  all_written h g k = (ap (λ n. take n from) {x = i} {y = length to} (omega arith), drop_of_length-le to {i = i} h ∙ sym (drop_of_length-le to {i = length from} (omega arith)))

  pub laid_done : (f : A → B) (now : List B) → Done → now ≡ map f (take i from) ++ drop i to → now ≡ laid f from to
  unfolding laid
  laid_done f now d e = e ∙ (λ j. map f (d.0 j) ++ d.1 j)

-- what stands where
module _ {A B : Type 0} (f : A → B) (from : List A) (to : List B) where
  -- all of a shorter list, and the rest of `to`; as much as `to` has of a longer one
  pub laid_front : length from ≤ length to → laid f from to ≡ map f from ++ drop (length from) to
  unfolding laid
  laid_front h = ap (λ l. map f l ++ drop (length from) to) (take_all (length to) from h)

  pub laid_full : length to ≤ length from → laid f from to ≡ map f (take (length to) from)
  unfolding laid
  laid_full h = ap (λ l. map f (take (length to) from) ++ l) (drop_of_length-le to {i = length from} h) ∙ append-nil (map f (take (length to) from))

  pub laid_length : length (laid f from to) ≡ length to
  unfolding laid
  laid_length =
      length-append (map f (take (length to) from)) (drop (length from) to)
      ∙ (λ j. length-map (take (length to) from) f j + length-drop (length from) to j) ∙ ap (λ n. n + (length to - length from)) (length-take (length to) from) ∙ omega arith
