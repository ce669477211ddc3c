-- The laws of `each`: one more, one that nothing is made of, how many, and all; and of the three functions that it is used with. Rests on the
-- definitions of Records and Touches alone.
use mathlib.Core.Path.{◌≡◌, refl, sym, ap, ◌∙◌}
use mathlib.Core.Option.{Option, none, some, bind, bind-eq-some_iff}
use mathlib.Core.List.{List, [], ◌∷◌, ◌++◌, map}
use Prim.Native.Nat.{ℕ, zero, suc, ◌<◌}
use native.Mathlib.Omega.{arith}
use lib.IntN.{ℤ}
use lib.ListN.{length, get_or, take}
use lib.Seq.{take-suc}
use Rattle.decimal.specs.Field.{Field, number, blank, unreadable}
use Rattle.tophat.proofs.Basics.{no_some, some_is}
use Rattle.formats.specs.Records.{number_said, each}

module _ {X Y : Type 0} (f : X → Option Y) where
  -- the first of several, and the others
  pub record First (x : X) (xs : List X) (ys : List Y) : Type 0 where
    pub first : Y
    pub others : List Y
    pub made : f x ≡ some first
    pub rest : each f xs ≡ some others
    pub both : first ∷ others ≡ ys

  pub first_of : (x : X) (xs : List X) {ys : List Y} → each f (x ∷ xs) ≡ some ys → First x xs ys
  unfolding each
  first_of x xs h =
      let (y, e, g) = (bind-eq-some_iff (f x) _).0 h in
      let (zs, k, q) = (bind-eq-some_iff (each f xs) _).0 g in
      record { first = y; others = zs; made = e; rest = k; both = some_is q }

  pub none_first : {ys : List Y} → each f [] ≡ some ys → ys ≡ []
  unfolding each
  none_first h = sym (some_is h)

  -- as many as there are
  pub each_length : (xs : List X) {ys : List Y} → each f xs ≡ some ys → length ys ≡ length xs
  each_length [] h = ap length (none_first h)
  each_length (x ∷ xs) h = let g = first_of x xs h in ap length (sym g.both) ∙ ap suc (each_length xs g.rest)

  -- each by its place
  pub each_at : (xs : List X) {ys : List Y} → each f xs ≡ some ys → (k : ℕ) → k < length xs → (d : X) (e : Y) → f (get_or xs k d) ≡ some (get_or ys k e)
  each_at [] h k l d e = absurd (omega arith)
  each_at (x ∷ xs) h zero l d e = let g = first_of x xs h in g.made ∙ ap (λ ys. some (get_or ys 0 e)) g.both
  each_at (x ∷ xs) h (suc k) l d e = let g = first_of x xs h in each_at xs g.rest k (omega arith) d e ∙ ap (λ ys. some (get_or ys (suc k) e)) g.both

  -- one more
  pub each_last : (xs : List X) {ys : List Y} {x : X} {y : Y} → each f xs ≡ some ys → f x ≡ some y → each f (xs ++ x ∷ []) ≡ some (ys ++ y ∷ [])
  unfolding each bind
  each_last [] {ys} {x} {y} h e = let q = none_first h in rw (e, q)
  each_last (z ∷ xs) {ys} {x} {y} h e =
      let g = first_of z xs h in
      let a = g.made in
      let b = each_last xs g.rest e in
      rw (a, b) (ap (λ l. some (l ++ y ∷ [])) g.both)

  pub each_more : (xs : List X) (k : ℕ) (d : X) {ys : List Y} {y : Y} → k < length xs → each f (take k xs) ≡ some ys → f (get_or xs k d) ≡ some y → each f (take (suc k) xs) ≡ some (ys ++ y ∷ [])
  each_more xs k d l h e = ap (each f) (take-suc xs k d l) ∙ each_last (take k xs) h e

  -- one that nothing is made of
  pub each_none : (xs : List X) (k : ℕ) (d : X) → k < length xs → f (get_or xs k d) ≡ none → each f xs ≡ none
  unfolding each bind
  each_none [] k d l e = absurd (omega arith)
  each_none (x ∷ xs) zero d l e = rw e
  each_none (x ∷ xs) (suc k) d l e = let r = each_none xs k d (omega arith) e in rw r (by (f x))
    where
      by : (o : Option Y) → bind o (λ y. bind {A = List Y} {B = List Y} none λ ys. some (y ∷ ys)) ≡ none
      by none = refl
      by (some y) = refl

  abbrev pub Missing : X → List X → Type 0
  Missing d xs = (k : ℕ) × (k < length xs) × (f (get_or xs k d) ≡ none)

  -- and such a one, where nothing is made of all
  pub each_not : (xs : List X) (d : X) → each f xs ≡ none → Missing d xs
  unfolding each bind
  each_not [] d h = no_some (sym h)
  each_not (x ∷ xs) d h = by (f x) refl (each f xs) refl (each_not xs d)
    where
      by : (o : Option Y) → f x ≡ o → (p : Option (List Y)) → each f xs ≡ p → (each f xs ≡ none → Missing d xs) → Missing d (x ∷ xs)
      by none e p g r = (0, omega arith, e)
      by (some y) e none g r = let (k, l, q) = r g in (suc k, omega (arith, l), q)
      by (some y) e (some ys) g r = let m : each f (x ∷ xs) ≡ some (y ∷ ys) = rw (e, g) in no_some (sym h ∙ m)

  -- all, where each is made
  pub each_all : (d : X) (b : Y) (xs : List X) (ys : List Y) → length xs ≡ length ys → ((k : ℕ) → k < length xs → f (get_or xs k d) ≡ some (get_or ys k b)) → each f xs ≡ some ys
  unfolding each bind
  each_all d b [] [] l h = refl
  each_all d b [] (y ∷ ys) l h = absurd (omega (arith, l))
  each_all d b (x ∷ xs) [] l h = absurd (omega (arith, l))
  each_all d b (x ∷ xs) (y ∷ ys) l h =
      let e = h 0 (omega arith) in
      let g = each_all d b xs ys (omega (arith, l)) (λ k m. h (suc k) (omega (arith, m))) in
      rw (e, g)

-- ---- numbers and leaves

pub number_said_lem : (f : Field) {z : ℤ} → number_said f ≡ some z → f ≡ number z
unfolding number_said
number_said_lem (number y) h = ap number (some_is h)
number_said_lem blank h = no_some h
number_said_lem unreadable h = no_some h

-- fields that say numbers
pub numbers_said : (zs : List ℤ) → each number_said (map number zs) ≡ some zs
unfolding each number_said bind
numbers_said [] = refl
numbers_said (z ∷ zs) = let e = numbers_said zs in rw e
