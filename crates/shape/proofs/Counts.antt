-- Counting the leaves of a number's first types, against types: a shape's leaves are counted right, and what is counted
-- within max_leaves is a row of types. So `leaves_of` tells shapes from other numbers. Rests on Puts.
use mathlib.Core.Path.{◌≡◌, refl, sym, ap, ap₂, subst, ◌∙◌}
use mathlib.Core.Option.{Option, none, some}
use mathlib.Core.List.{List, [], ◌∷◌}
use Prim.Native.Nat.{ℕ, zero, suc, ◌+◌, ◌-◌, ◌*◌, ◌/◌, ◌%◌, ◌<◌, ◌≤◌}
use native.Mathlib.Nat.{mul-suc}
use native.Mathlib.Numerals.{add-one}
use native.Mathlib.Omega.{arith}
use lib.Dec.{eqb}
use lib.ListN.{length}
use borrow.Author.Tests.{ne_eqb, eqb-true, eqb-false}
use Rattle.tophat.specs.Syntax.{max_leaves, Ty, unit, truth, number, pair, leaves}
use Rattle.shape.specs.Shape.{put, as_shape, leaf_of, as_type, leaves_in, shape_leaves}
use Rattle.shape.specs.Digits.{max_digits, count, width}
use Rattle.shape.proofs.Puts.{by_test, leaf_back, put_split, shape_range, as_type_lem, as_shape_lem}
use Rattle.match_laws.proofs.Ranges.{in_range}

-- ---- the leaves of a type are counted

unfoldable pub digits : Ty → ℕ
digits unit = 1
digits truth = 1
digits number = 1
digits (pair τ υ) = suc (digits τ + digits υ)

pub digits_are : (τ : Ty) → suc (digits τ) ≡ 2 * leaves τ
unfolding digits leaves
digits_are unit = refl
digits_are truth = refl
digits_are number = refl
digits_are (pair τ υ) = omega (arith, digits_are τ, digits_are υ)

leaf_count : (d k c j : ℕ) → 1 ≤ j → j < 4 → count (suc d) (suc k) (c * 4 + j) ≡ 1 + count d k c
unfolding count
leaf_count d k c j p q =
    let x : (c * 4 + j) % 4 ≡ j = omega arith in
    let y : (c * 4 + j) / 4 ≡ c = omega arith in
    let z : suc k - 1 ≡ k = omega arith in
    rw (x, y, ne_eqb (suc k) 0 (λ e. omega arith), ne_eqb j 0 (λ e. omega arith), z)

pair_count : (d k p : ℕ) → count (suc d) (suc k) (p * 4) ≡ count d (suc (suc k)) p
unfolding count
pair_count d k p =
    let x : p * 4 % 4 ≡ 0 = omega arith in
    let y : p * 4 / 4 ≡ p = omega arith in
    rw (x, y, ne_eqb (suc k) 0 (λ e. omega arith), add-one)

count_put : (τ : Ty) (d k c : ℕ) → count (digits τ + d) (suc k) (put τ c) ≡ leaves τ + count d k c
unfolding digits put leaves
count_put unit d k c = let e : 1 + d ≡ suc d = omega arith in ap (λ x. count x (suc k) (c * 4 + 1)) e ∙ leaf_count d k c 1 (omega arith) (omega arith)
count_put truth d k c = let e : 1 + d ≡ suc d = omega arith in ap (λ x. count x (suc k) (c * 4 + 2)) e ∙ leaf_count d k c 2 (omega arith) (omega arith)
count_put number d k c = let e : 1 + d ≡ suc d = omega arith in ap (λ x. count x (suc k) (c * 4 + 3)) e ∙ leaf_count d k c 3 (omega arith) (omega arith)
count_put (pair τ υ) d k c =
    let e : suc (digits τ + digits υ) + d ≡ suc (digits τ + (digits υ + d)) = omega arith in
    let p = count_put τ (digits υ + d) (suc k) (put υ c) in
    let q = count_put υ d k c in
    ap (λ x. count x (suc k) (put τ (put υ c) * 4)) e ∙ pair_count (digits τ + (digits υ + d)) k (put τ (put υ c)) ∙ omega arith

no_count : (d c : ℕ) → count d 0 c ≡ 0
unfolding count
no_count zero c = refl
no_count (suc d) c = refl

pub count_first : (τ : Ty) (c : ℕ) → leaves τ ≤ max_leaves → count max_digits 1 (put τ c) ≡ leaves τ
count_first τ c h =
    let e : max_digits ≡ digits τ + (max_digits - digits τ) = omega (arith, digits_are τ) in
    ap (λ d. count d 1 (put τ c)) e ∙ count_put τ (max_digits - digits τ) 0 c ∙ omega (arith, no_count (max_digits - digits τ) c)

-- ---- what is counted is types

unfoldable puts : List Ty → ℕ → ℕ
puts [] c = c
puts (τ ∷ τs) c = put τ (puts τs c)

unfoldable total : List Ty → ℕ
total [] = 0
total (τ ∷ τs) = leaves τ + total τs

-- k types of n leaves stand first in c
record Types (k c n : ℕ) : Type 0 where
  types : List Ty
  rest : ℕ
  as_many : length types ≡ k
  stand : c ≡ puts types rest
  have : total types ≡ n

no_types : (c : ℕ) → Types 0 c 0
unfolding puts total
no_types c = record { types = []; rest = c; as_many = refl; stand = refl; have = refl }

leaf_one : (j : ℕ) → 1 ≤ j → j < 4 → leaves (leaf_of j) ≡ 1
unfolding leaves leaf_of
leaf_one j p q = in_range (λ j. leaves (leaf_of j) ≡ 1) 1 3 (refl, (refl, (refl, tt))) p (omega arith)

leaf_more : (k c n : ℕ) → (c % 4 ≡ 0 → ⊥) → Types k (c / 4) n → Types (suc k) c (1 + n)
unfolding puts total
leaf_more k c n h t =
    record { types = leaf_of (c % 4) ∷ t.types; rest = t.rest; as_many = ap suc t.as_many; stand = leaf_back c (c % 4) (omega (arith, h)) (omega arith) (omega arith) ∙ ap (put (leaf_of (c % 4))) t.stand; have = ap₂ ◌+◌ (leaf_one (c % 4) (omega (arith, h)) (omega arith)) t.have }

pair_more : (k c p n r : ℕ) (τs : List Ty) → c ≡ p * 4 → length τs ≡ suc (suc k) → p ≡ puts τs r → total τs ≡ n → Types (suc k) c n
unfolding puts total put leaves
pair_more k c p n r [] e l s t = absurd (omega arith)
pair_more k c p n r (τ ∷ []) e l s t = absurd (omega arith)
pair_more k c p n r (τ ∷ υ ∷ τs) e l s t = record { types = pair τ υ ∷ τs; rest = r; as_many = omega arith; stand = e ∙ ap (λ x. x * 4) s; have = omega arith }

counted : (d k c : ℕ) → count d k c ≤ max_leaves → Types k c (count d k c)
unfolding count
counted zero zero c h = no_types c
counted zero (suc k) c h = absurd (let z : max_leaves + 1 ≤ max_leaves = rw (ne_eqb (suc k) 0 (λ e. omega arith)) at h in omega arith)
counted (suc d) zero c h = no_types c
counted (suc d) (suc k) c h =
    by_test (λ n. n ≤ max_leaves → Types (suc k) c n) (eqb (suc k) 0) (λ t g. absurd (omega (arith, eqb-true (suc k) 0 t)))
    (λ t. by_test (λ n. n ≤ max_leaves → Types (suc k) c n) (eqb (c % 4) 0)
    (λ t g. let u = counted d (suc k + 1) (c / 4) g in pair_more k c (c / 4) _ u.rest u.types (omega (arith, eqb-true (c % 4) 0 t)) (u.as_many ∙ add-one (suc k)) u.stand u.have)
    (λ f g. let u = counted d (suc k - 1) (c / 4) (omega arith) in subst (λ j. Types (suc j) c (1 + count d (suc k - 1) (c / 4))) (omega arith) (leaf_more (suc k - 1) c (count d (suc k - 1) (c / 4)) (eqb-false (c % 4) 0 f) u))) h

only_type : (c n r : ℕ) (τs : List Ty) → length τs ≡ 1 → c ≡ puts τs r → total τs ≡ n → (τ : Ty) × (c ≡ put τ r) × (leaves τ ≡ n)
unfolding puts total
only_type c n r [] l s t = absurd (omega arith)
only_type c n r (τ ∷ []) l s t = (τ, s, omega arith)
only_type c n r (τ ∷ υ ∷ τs) l s t = absurd (omega arith)

-- a number within the width of the leaves that are counted is a shape
pub counted_shape : (c : ℕ) → count max_digits 1 c ≤ max_leaves → c < width (count max_digits 1 c) → (τ : Ty) × (c ≡ as_shape τ) × (leaves τ ≡ count max_digits 1 c)
unfolding as_shape
counted_shape c h g = let t = counted max_digits 1 c h in let (τ, e, l) = only_type c _ t.rest t.types t.as_many t.stand t.have in (τ, e ∙ ap (put τ) (nothing_after t.rest τ e l), l)
  where
    nothing_after : (r : ℕ) (τ : Ty) → c ≡ put τ r → leaves τ ≡ count max_digits 1 c → r ≡ 0
    nothing_after zero τ e l = refl
    nothing_after (suc r) τ e l =
        let p = put_split τ (suc r) in
        let q = mul-suc (width (leaves τ)) r in
        let w = ap width l in
        absurd (omega arith)

-- ---- shape_leaves

-- a number is read as no type, or is the shape of one
pub by_type : (c : ℕ) (P : Option Ty → Type 0) → P none → ((τ : Ty) → c ≡ as_shape τ → leaves τ ≤ max_leaves → P (some τ)) → P (as_type c)
by_type c P p q = go (as_type c) refl
  where
    go : (o : Option Ty) → as_type c ≡ o → P o
    go none e = p
    go (some τ) e = let (a, b) = as_shape_lem c τ e in q τ a b

pub shape_leaves_lem : (τ : Ty) → leaves τ ≤ max_leaves → shape_leaves (as_shape τ) ≡ leaves τ
unfolding shape_leaves leaves_in
shape_leaves_lem τ h = ap leaves_in (as_type_lem τ h)

pub leaves_is : (c : ℕ) → count max_digits 1 c ≤ max_leaves → c < width (count max_digits 1 c) → shape_leaves c ≡ count max_digits 1 c
leaves_is c h g = let (τ, e, l) = counted_shape c h g in ap shape_leaves e ∙ shape_leaves_lem τ (omega arith) ∙ l

pub leaves_not : (c : ℕ) → (count max_digits 1 c ≤ max_leaves → c < width (count max_digits 1 c) → ⊥) → shape_leaves c ≡ 0
unfolding shape_leaves leaves_in as_shape
leaves_not c h =
    by_type c (λ o. leaves_in o ≡ 0) refl
    (λ τ e l. let n = ap (count max_digits 1) e ∙ count_first τ 0 l in let w = ap width n in absurd (h (omega arith) (omega (arith, (shape_range τ).0))))

-- a number with leaves is a shape, and one without is none
pub of_leaves : (c : ℕ) → (shape_leaves c ≡ 0 → ⊥) → (τ : Ty) × (c ≡ as_shape τ) × (leaves τ ≤ max_leaves) × (leaves τ ≡ shape_leaves c)
unfolding shape_leaves leaves_in
of_leaves c h = go (as_type c) refl
  where
    go : (o : Option Ty) → as_type c ≡ o → (τ : Ty) × (c ≡ as_shape τ) × (leaves τ ≤ max_leaves) × (leaves τ ≡ shape_leaves c)
    go none e = absurd (h (ap leaves_in e))
    go (some τ) e = let (a, b) = as_shape_lem c τ e in (τ, a, b, sym (ap shape_leaves a ∙ shape_leaves_lem τ b))
