-- Shapes against types: a shape is within the width of its leaves, different types have different shapes, and a number
-- is read back as the type whose shape it is, and as no other. Rests on Shape and Digits.
use mathlib.Core.Path.{◌≡◌, refl, ap, ap₂, subst, ◌∙◌}
use mathlib.Core.Bool.{Bool, true, false, cond}
use mathlib.Core.Option.{Option, none, some, bind}
use Prim.Native.Nat.{ℕ, zero, suc, ◌+◌, ◌*◌, ◌/◌, ◌%◌, ◌<◌, ◌≤◌}
use native.Mathlib.Nat.{mul-add, mul_assoc, mul-suc, mul_left_comm, mul-le-mul_left}
use native.Mathlib.Omega.{arith}
use lib.Dec.{eqb}
use borrow.Author.Tests.{ne_eqb, eqb-true, eqb-false}
use Rattle.tophat.specs.Syntax.{max_leaves, Ty, unit, truth, number, pair, leaves}
use Rattle.tophat.proofs.ComputeTyping.{ask, type_to}
use Rattle.tophat.proofs.TypingAgrees.{type_to_lem}
use Rattle.shape.specs.Shape.{put, as_shape, leaf_of, front, as_type}
use Rattle.shape.specs.Digits.{width}
use Rattle.match_laws.proofs.Ranges.{in_range}

pub by_test : {A : Type 0} (P : A → Type 0) (b : Bool) {x y : A} → (b ≡ true → P x) → (b ≡ false → P y) → P (cond b x y)
by_test P true p q = p refl
by_test P false p q = q refl

pub leaves_pos : (τ : Ty) → 1 ≤ leaves τ
unfolding leaves
leaves_pos unit = omega arith
leaves_pos truth = omega arith
leaves_pos number = omega arith
leaves_pos (pair τ υ) = omega (arith, leaves_pos τ, leaves_pos υ)

-- ---- widths

pub width_pos : (n : ℕ) → 4 ≤ width n
unfolding width
width_pos zero = omega arith
width_pos (suc zero) = omega arith
width_pos (suc (suc n)) = omega (arith, width_pos (suc n))

width_add : (l m : ℕ) → 1 ≤ l → 1 ≤ m → width (l + m) ≡ 4 * (width l * width m)
unfolding width
width_add zero m h g = absurd (omega arith)
width_add (suc zero) zero h g = absurd (omega arith)
width_add (suc zero) (suc m) h g = let e : suc zero + suc m ≡ suc (suc m) = omega arith in ap width e ∙ omega arith
width_add (suc (suc l)) m h g =
    let e : suc (suc l) + m ≡ suc (suc (l + m)) = omega arith in
    let f : suc (l + m) ≡ suc l + m = omega arith in
    let p = mul_assoc 16 (width (suc l)) (width m) in
    ap width e ∙ ap (λ x. 16 * x) (ap width f ∙ width_add (suc l) m (omega arith) g) ∙ omega arith

pub width_pair : (τ υ : Ty) → width (leaves τ + leaves υ) ≡ 4 * (width (leaves τ) * width (leaves υ))
width_pair τ υ = width_add (leaves τ) (leaves υ) (leaves_pos τ) (leaves_pos υ)

-- ---- what stands after a type is a multiple of its width

pub put_split : (τ : Ty) (c : ℕ) → put τ c ≡ as_shape τ + width (leaves τ) * c
unfolding put as_shape width leaves
put_split unit c = omega arith
put_split truth c = omega arith
put_split number c = omega arith
put_split (pair τ υ) c =
    let p = put_split τ (put υ c) in
    let r = put_split τ (put υ 0) in
    let v = width (leaves τ) in
    let w = width (leaves υ) in
    let q : v * put υ c ≡ v * put υ 0 + v * (w * c) = ap (λ x. v * x) (put_split υ c) ∙ mul-add v (put υ 0) (w * c) in
    let s : 4 * (v * w) * c ≡ 4 * (v * (w * c)) = mul_assoc 4 (v * w) c ∙ ap (λ x. 4 * x) (mul_assoc v w c) in
    let t : width (leaves τ + leaves υ) * c ≡ 4 * (v * w) * c = ap (λ x. x * c) (width_pair τ υ) in
    omega arith

pub shape_pair : (τ υ : Ty) → as_shape (pair τ υ) ≡ (as_shape τ + width (leaves τ) * as_shape υ) * 4
unfolding put as_shape
shape_pair τ υ = ap (λ x. x * 4) (put_split τ (put υ 0))

pub shape_range : (τ : Ty) → (as_shape τ < width (leaves τ)) × (width (leaves τ) ≤ 4 * as_shape τ)
unfolding put as_shape width leaves
shape_range unit = (omega arith, omega arith)
shape_range truth = (omega arith, omega arith)
shape_range number = (omega arith, omega arith)
shape_range (pair τ υ) =
    let e = shape_pair τ υ in
    let (p, q) = shape_range τ in
    let (r, s) = shape_range υ in
    let d = width_pair τ υ in
    let v = width (leaves τ) in
    let u : v * suc (put υ 0) ≤ v * width (leaves υ) = mul-le-mul_left v r in
    let z = mul-suc v (put υ 0) in
    let w : v * width (leaves υ) ≤ v * (4 * put υ 0) = mul-le-mul_left v s in
    let x = mul_left_comm v 4 (put υ 0) in
    (omega arith, omega arith)

pub shape_pos : (τ : Ty) → as_shape τ ≡ 0 → ⊥
shape_pos τ e = let (p, q) = shape_range τ in let w = width_pos (leaves τ) in omega arith

-- ---- different types have different shapes

pub put_inj : (τ υ : Ty) (c d : ℕ) → put τ c ≡ put υ d → (τ ≡ υ) × (c ≡ d)
unfolding put
put_inj unit unit c d e = (refl, omega arith)
put_inj unit truth c d e = absurd (omega arith)
put_inj unit number c d e = absurd (omega arith)
put_inj unit (pair τ₁ υ₁) c d e = absurd (omega arith)
put_inj truth unit c d e = absurd (omega arith)
put_inj truth truth c d e = (refl, omega arith)
put_inj truth number c d e = absurd (omega arith)
put_inj truth (pair τ₁ υ₁) c d e = absurd (omega arith)
put_inj number unit c d e = absurd (omega arith)
put_inj number truth c d e = absurd (omega arith)
put_inj number number c d e = (refl, omega arith)
put_inj number (pair τ₁ υ₁) c d e = absurd (omega arith)
put_inj (pair τ υ) unit c d e = absurd (omega arith)
put_inj (pair τ υ) truth c d e = absurd (omega arith)
put_inj (pair τ υ) number c d e = absurd (omega arith)
put_inj (pair τ υ) (pair τ₁ υ₁) c d e = let (p, q) = put_inj τ τ₁ (put υ c) (put υ₁ d) (omega arith) in let (r, s) = put_inj υ υ₁ c d q in (ap₂ pair p r, s)

pub shape_inj : (τ υ : Ty) → as_shape τ ≡ as_shape υ → τ ≡ υ
unfolding as_shape
shape_inj τ υ e = (put_inj τ υ 0 0 e).0

-- ---- a shape is read back as its type

leaf_front : (d k c : ℕ) → 1 ≤ k → k < 4 → front (suc d) (c * 4 + k) ≡ some (leaf_of k, c)
unfolding front
leaf_front d k c p q =
    let x : (c * 4 + k) % 4 ≡ k = omega arith in
    let y : (c * 4 + k) / 4 ≡ c = omega arith in
    rw (x, y, ne_eqb k 0 (λ e. omega arith))

pair_front : (d c p : ℕ) (τ υ : Ty) → front d p ≡ some (τ, put υ c) → front d (put υ c) ≡ some (υ, c) → front (suc d) (p * 4) ≡ some (pair τ υ, c)
unfolding front bind
pair_front d c p τ υ e f =
    let x : p * 4 % 4 ≡ 0 = omega arith in
    let y : p * 4 / 4 ≡ p = omega arith in
    rw (x, y, e, f)

pub front_put : (τ : Ty) (d c : ℕ) → leaves τ ≤ d → front d (put τ c) ≡ some (τ, c)
unfolding put leaves leaf_of
front_put τ zero c h = absurd (omega (arith, leaves_pos τ))
front_put unit (suc d) c h = leaf_front d 1 c (omega arith) (omega arith)
front_put truth (suc d) c h = leaf_front d 2 c (omega arith) (omega arith)
front_put number (suc d) c h = leaf_front d 3 c (omega arith) (omega arith)
front_put (pair τ υ) (suc d) c h =
    pair_front d c (put τ (put υ c)) τ υ (front_put τ d (put υ c) (omega (arith, leaves_pos υ))) (front_put υ d c (omega (arith, leaves_pos τ)))

-- and what is read is what was put
abbrev Back : Option (Ty × ℕ) → ℕ → Type 0
Back none c = Unit {0}
Back (some x) c = c ≡ put x.0 x.1

pub leaf_back : (c k : ℕ) → 1 ≤ k → k < 4 → c ≡ c / 4 * 4 + k → c ≡ put (leaf_of k) (c / 4)
unfolding put leaf_of
leaf_back c k p q = in_range (λ k. c ≡ c / 4 * 4 + k → c ≡ put (leaf_of k) (c / 4)) 1 3 (λ e. e, (λ e. e, (λ e. e, tt))) p (omega arith)

second_back : (c p : ℕ) (τ : Ty) (o : Option (Ty × ℕ)) (r : ℕ) → c ≡ p * 4 → p ≡ put τ r → Back o r → Back (bind o λ y. some (pair τ y.0, y.1)) c
unfolding bind put
second_back c p τ none r e f h = tt
second_back c p τ (some y) r e f h = e ∙ ap (λ x. x * 4) (f ∙ ap (put τ) h)

first_back : (d c p : ℕ) (o : Option (Ty × ℕ)) → c ≡ p * 4 → Back o p → ((r : ℕ) → Back (front d r) r) → Back (bind o λ x. bind (front d x.1) λ y. some (pair x.0 y.0, y.1)) c
unfolding bind
first_back d c p none e h k = tt
first_back d c p (some x) e h k = second_back c p x.0 (front d x.1) x.1 e h (k x.1)

front_back : (d c : ℕ) → Back (front d c) c
unfolding front
front_back zero c = tt
front_back (suc d) c =
    by_test (λ o. Back o c) (eqb (c % 4) 0)
    (λ t. first_back d c (c / 4) (front d (c / 4)) (omega (arith, eqb-true (c % 4) 0 t)) (front_back d (c / 4)) (λ r. front_back d r))
    (λ f. leaf_back c (c % 4) (omega (arith, eqb-false (c % 4) 0 f)) (omega arith) (omega arith))

-- ---- so for numbers and types of at most max_leaves leaves

ask_no : {P X : Type 0} (d : Dec P) (o : Option X) → (P → ⊥) → ask d o ≡ none
unfolding ask
ask_no (yes p) o h = absurd (h p)
ask_no (no p) o h = refl

pub too_big : (τ : Ty) → (leaves τ ≤ max_leaves → ⊥) → type_to τ ≡ none
unfolding type_to
too_big τ h = ask_no _ (some τ) h

pub as_type_lem : (τ : Ty) → leaves τ ≤ max_leaves → as_type (as_shape τ) ≡ some τ
unfolding as_type as_shape bind
as_type_lem τ h = let e = front_put τ max_leaves 0 h in rw e (type_to_lem τ h)

-- a number that is read as a type is its shape
abbrev IsShape : Option Ty → ℕ → Type 0
IsShape none c = Unit {0}
IsShape (some τ) c = (c ≡ as_shape τ) × (leaves τ ≤ max_leaves)

type_shape : (τ : Ty) (c : ℕ) (d : Dec (leaves τ ≤ max_leaves)) → c ≡ as_shape τ → IsShape (ask d (some τ)) c
unfolding ask
type_shape τ c (yes p) e = (e, p)
type_shape τ c (no p) e = tt

whole_shape : (c : ℕ) (o : Option (Ty × ℕ)) → Back o c → IsShape (bind o λ x. cond (eqb x.1 0) (type_to x.0) none) c
unfolding bind type_to as_shape
whole_shape c none h = tt
whole_shape c (some x) h =
    by_test (λ o. IsShape o c) (eqb x.1 0) (λ t. type_shape x.0 c _ (h ∙ ap (put x.0) (eqb-true x.1 0 t))) (λ f. tt)

is_shape : (c : ℕ) → IsShape (as_type c) c
unfolding as_type
is_shape c = whole_shape c (front max_leaves c) (front_back max_leaves c)

pub as_shape_lem : (c : ℕ) (τ : Ty) → as_type c ≡ some τ → (c ≡ as_shape τ) × (leaves τ ≤ max_leaves)
as_shape_lem c τ e = subst (λ o. IsShape o c) e (is_shape c)
