-- What the code of this crate does at each way, against its definitions. Rests on Puts and Counts.
use mathlib.Core.Path.{◌≡◌, refl, sym, ap, subst, ◌∙◌}
use mathlib.Core.Option.{Option, none, some, bind}
use Prim.Native.Nat.{ℕ, zero, suc, ◌+◌, ◌-◌, ◌*◌, ◌/◌, ◌%◌, ◌^◌, ◌<◌, ◌≤◌, max}
use native.Mathlib.Nat.{pow-suc, mod-eq_of_lt, div-eq_of_lt, add-mul-div_left, add-mul-mod_self_left}
use native.Mathlib.Numerals.{sub-one}
use native.Mathlib.Omega.{arith}
use borrow.Author.Tests.{eq-eqb, ne_eqb}
use Rattle.tophat.specs.Syntax.{max_leaves, Ty, unit, truth, number, pair, leaves}
use Rattle.tophat.proofs.ComputeTyping.{first_to, second_to}
use Rattle.tophat.proofs.TypingAgrees.{type_to_lem}
use Rattle.shape.specs.Shape.{put, as_shape, maybe_shape, as_type, pair_shape, first_shape, second_shape, leaves_in, shape_leaves}
use Rattle.shape.specs.Digits.{max_digits, count, width}
use Rattle.shape.proofs.Puts.{leaves_pos, put_split, shape_pair, shape_range, too_big, as_type_lem}
use Rattle.shape.proofs.Counts.{count_first, by_type, leaves_is, leaves_not, of_leaves}

-- ---- count_leaves

module _ (d k c : ℕ) where
  pub count_none : k ≡ 0 → 0 ≡ count d k c
  unfolding count
  count_none z = sym (subst (λ k. count d k c ≡ 0) (sym z) (go d))
    where
      go : (d : ℕ) → count d 0 c ≡ 0
      go zero = refl
      go (suc d) = refl

  pub count_short : (k ≡ 0 → ⊥) → d ≡ 0 → max_leaves + 1 ≡ count d k c
  unfolding count
  count_short z e = sym (subst (λ d. count d k c ≡ max_leaves + 1) (sym e) (rw (ne_eqb k 0 z)))

pub count_pair : (d k c r : ℕ) → (k ≡ 0 → ⊥) → (d ≡ 0 → ⊥) → c % 4 ≡ 0 → r ≡ count (d - 1) (k + 1) (c / 4) → r ≡ count d k c
unfolding count
count_pair zero k c r z y x e = absurd (y refl)
count_pair (suc d) k c r z y x e = e ∙ sym (rw (ne_eqb k 0 z, eq-eqb (c % 4) 0 x, sub-one))

pub count_leaf : (d k c r : ℕ) → (k ≡ 0 → ⊥) → (d ≡ 0 → ⊥) → (c % 4 ≡ 0 → ⊥) → r ≡ count (d - 1) (k - 1) (c / 4) → 1 + r ≡ count d k c
unfolding count
count_leaf zero k c r z y x e = absurd (y refl)
count_leaf (suc d) k c r z y x e = let w : suc d - 1 ≡ d = omega arith in ap (λ r. 1 + r) e ∙ sym (rw (ne_eqb k 0 z, ne_eqb (c % 4) 0 x, w))

-- ---- width_of

-- a leaf has a digit, and each leaf more another two
width_suc : (n : ℕ) → width (suc n) ≡ 4 ^ suc (2 * n)
unfolding width
width_suc zero = refl
width_suc (suc n) =
    let e : suc (2 * suc n) ≡ suc (suc (suc (2 * n))) = omega arith in
    ap (λ x. 16 * x) (width_suc n) ∙ omega (arith, pow-suc 4 (suc (2 * n)), pow-suc 4 (suc (suc (2 * n)))) ∙ ap (λ k. 4 ^ k) (sym e)

pub width_power : (n m : ℕ) → m ≡ max n 1 → 4 ^ (2 * m - 1) ≡ width n
unfolding width
width_power zero m h = ap (λ m. 4 ^ (2 * m - 1)) h
width_power (suc n) m h = let e : 2 * m - 1 ≡ suc (2 * n) = omega arith in ap (λ k. 4 ^ k) e ∙ sym (width_suc n)

width_next : (n : ℕ) → width n ≤ width (suc n)
unfolding width
width_next zero = omega arith
width_next (suc n) = omega arith

width_grows : (n k : ℕ) → width n ≤ width (n + k)
width_grows n zero = let e : n + zero ≡ n = omega arith in omega (arith, ap width e)
width_grows n (suc k) = let e : n + suc k ≡ suc (n + k) = omega arith in omega (arith, ap width e, width_grows n k, width_next (n + k))

-- a width of at most max_leaves leaves is the greatest at most
pub width_most : (n : ℕ) → n ≤ max_leaves → width n ≤ width max_leaves
width_most n h = let e : n + (max_leaves - n) ≡ max_leaves = omega arith in omega (arith, ap width e, width_grows n (max_leaves - n))

pub width_fits : (n : ℕ) → n ≤ max_leaves → width n < 2 ^ 32
unfolding width
width_fits n h = let e : width max_leaves < 2 ^ 32 = omega arith in omega (arith, width_most n h)

-- ---- leaves_of

module _ (c n : ℕ) (e : n ≡ count max_digits 1 c) where
  pub leaves_yes : n ≤ max_leaves → c < width n → n ≡ shape_leaves c
  leaves_yes h g = let w = ap width e in e ∙ sym (leaves_is c (omega arith) (omega arith))

  pub leaves_over : max_leaves < n → 0 ≡ shape_leaves c
  leaves_over h = sym (leaves_not c (λ p q. omega arith))

  pub leaves_wide : width n ≤ c → 0 ≡ shape_leaves c
  leaves_wide h = let w = ap width e in sym (leaves_not c (λ p q. omega arith))

-- ---- pair_shape

-- what a number with leaves, or without, is read as
pub read_none : (c : ℕ) → shape_leaves c ≡ 0 → as_type c ≡ none
unfolding shape_leaves leaves_in
read_none c = by_type c (λ o. leaves_in o ≡ 0 → o ≡ none) (λ h. refl) (λ τ e l h. absurd (omega (arith, leaves_pos τ)))

pub read_some : (c : ℕ) → (shape_leaves c ≡ 0 → ⊥) → (τ : Ty) × (c ≡ as_shape τ) × (leaves τ ≤ max_leaves) × (leaves τ ≡ shape_leaves c) × (as_type c ≡ some τ)
read_some c h = let (τ, e, l, n) = of_leaves c h in (τ, e, l, n, ap as_type e ∙ as_type_lem τ l)

module _ (a b : ℕ) where
  pub pair_left : shape_leaves a ≡ 0 → 0 ≡ pair_shape a b
  unfolding pair_shape bind maybe_shape
  pair_left h = let e = read_none a h in sym (rw e)

  pub pair_right : shape_leaves b ≡ 0 → 0 ≡ pair_shape a b
  unfolding pair_shape bind maybe_shape
  pair_right h = let e = read_none b h in sym (rw e (go (as_type a)))
    where
      go : (o : Option Ty) → maybe_shape (bind o λ τ. none) ≡ 0
      go none = refl
      go (some τ) = refl

module _ (a b m n : ℕ) (h : m ≡ shape_leaves a) (g : n ≡ shape_leaves b) (y : m ≡ 0 → ⊥) (z : n ≡ 0 → ⊥) where
  pub pair_over : max_leaves < m + n → 0 ≡ pair_shape a b
  unfolding pair_shape bind maybe_shape leaves
  pair_over l =
      let (τ, p, _, k, q) = read_some a (λ e. y (h ∙ e)) in
      let (υ, r, _, j, s) = read_some b (λ e. z (g ∙ e)) in
      let t = too_big (pair τ υ) (λ (u : leaves τ + leaves υ ≤ max_leaves). omega arith) in
      sym (rw (q, s, t))

  -- it is the shape of the pair, and fits
  pub pair_is : (w : ℕ) → w ≡ width m → m + n ≤ max_leaves → (τ : Ty) × (leaves τ ≤ max_leaves) × ((a + w * b) * 4 ≡ as_shape τ) × (pair_shape a b ≡ as_shape τ)
  unfolding pair_shape bind maybe_shape leaves
  pair_is w x l =
      let (τ, p, _, k, q) = read_some a (λ e. y (h ∙ e)) in
      let (υ, r, _, j, s) = read_some b (λ e. z (g ∙ e)) in
      let t = type_to_lem (pair τ υ) (omega arith) in
      let v : w ≡ width (leaves τ) = x ∙ ap width (h ∙ sym k) in
      let e : (a + w * b) * 4 ≡ (as_shape τ + width (leaves τ) * as_shape υ) * 4 = (λ i. (p i + v i * r i) * 4) in
      (pair τ υ, omega arith, e ∙ sym (shape_pair τ υ), rw (q, s, t))

  pub pair_yes : (w : ℕ) → w ≡ width m → m + n ≤ max_leaves → (a + w * b) * 4 ≡ pair_shape a b
  pair_yes w x l = let (τ, _, p, q) = pair_is w x l in p ∙ sym q

  pub pair_fits : (w : ℕ) → w ≡ width m → m + n ≤ max_leaves → (a + w * b) * 4 < 2 ^ 32
  pair_fits w x l = let (τ, k, p, q) = pair_is w x l in omega (arith, (shape_range τ).0, width_fits (leaves τ) k)

-- ---- components

-- a shape of two leaves or more is a pair's
pair_of : (c : ℕ) → 2 ≤ shape_leaves c → (τ : Ty) × (υ : Ty) × (leaves τ + leaves υ ≤ max_leaves) × (c / 4 ≡ put τ (as_shape υ)) × (as_type c ≡ some (pair τ υ))
unfolding as_shape put leaves
pair_of c h = let (τ, e, l, n, q) = read_some c (λ z. omega arith) in go τ e l n q
  where
    go : (τ : Ty) → c ≡ as_shape τ → leaves τ ≤ max_leaves → leaves τ ≡ shape_leaves c → as_type c ≡ some τ → (τ : Ty) × (υ : Ty) × (leaves τ + leaves υ ≤ max_leaves) × (c / 4 ≡ put τ (as_shape υ)) × (as_type c ≡ some (pair τ υ))
    go unit e l n q = absurd (omega arith)
    go truth e l n q = absurd (omega arith)
    go number e l n q = absurd (omega arith)
    go (pair τ υ) e l n q = (τ, υ, l, ap (λ x. x / 4) e ∙ omega arith, q)

pub first_leaves : (c : ℕ) → 2 ≤ shape_leaves c → count max_digits 1 (c / 4) ≤ max_leaves
first_leaves c h = let (τ, υ, l, e, _) = pair_of c h in let k = ap (count max_digits 1) e ∙ count_first τ (as_shape υ) (omega arith) in omega arith

one_leaf : (f : Ty → Option Ty) → f unit ≡ none → f truth ≡ none → f number ≡ none → (c : ℕ) → shape_leaves c < 2 → maybe_shape (bind (as_type c) f) ≡ 0
unfolding shape_leaves leaves_in bind maybe_shape leaves
one_leaf f x y z c = by_type c (λ o. leaves_in o < 2 → maybe_shape (bind o f) ≡ 0) (λ h. refl) (λ τ e l h. go τ h)
  where
    go : (τ : Ty) → leaves τ < 2 → maybe_shape (f τ) ≡ 0
    go unit h = ap maybe_shape x
    go truth h = ap maybe_shape y
    go number h = ap maybe_shape z
    go (pair τ υ) h = absurd (omega (arith, leaves_pos τ, leaves_pos υ))

pub first_no : (c : ℕ) → shape_leaves c < 2 → 0 ≡ first_shape c
unfolding first_shape first_to
first_no c h = sym (one_leaf first_to refl refl refl c h)

pub second_no : (c : ℕ) → shape_leaves c < 2 → 0 ≡ second_shape c
unfolding second_shape second_to
second_no c h = sym (one_leaf second_to refl refl refl c h)

module _ (c w : ℕ) (h : 2 ≤ shape_leaves c) (e : w ≡ width (count max_digits 1 (c / 4))) where
  pub split : (τ : Ty) × (υ : Ty) × (c / 4 ≡ as_shape τ + w * as_shape υ) × (as_shape τ < w) × (as_type c ≡ some (pair τ υ))
  split =
      let (τ, υ, l, p, q) = pair_of c h in
      let k : w ≡ width (leaves τ) = e ∙ ap width (ap (count max_digits 1) p ∙ count_first τ (as_shape υ) (omega arith)) in
      (τ, υ, p ∙ put_split τ (as_shape υ) ∙ ap (λ x. as_shape τ + x * as_shape υ) (sym k), omega (arith, (shape_range τ).0), q)

  pub first_yes : c / 4 % w ≡ first_shape c
  unfolding first_shape bind first_to maybe_shape
  first_yes = let (τ, υ, p, l, q) = split in ap (λ x. x % w) p ∙ add-mul-mod_self_left (as_shape τ) w (as_shape υ) ∙ mod-eq_of_lt l ∙ sym (rw q)

  pub second_yes : c / 4 / w ≡ second_shape c
  unfolding second_shape bind second_to maybe_shape
  second_yes =
      let (τ, υ, p, l, q) = split in
      let z : 0 + as_shape υ ≡ as_shape υ = omega arith in
      ap (λ x. x / w) p ∙ add-mul-div_left (as_shape τ) (as_shape υ) (omega arith) ∙ ap (λ x. x + as_shape υ) (div-eq_of_lt l) ∙ z ∙ sym (rw q)
