-- Each step of typing, on shapes and on types: what it gives is the shape of what the calculus gives. Rests on RowTypes,
-- and on the crate shape.
use mathlib.Core.Path.{◌≡◌, refl, sym, ap, ap₂, ◌∙◌}
use mathlib.Core.Bool.{Bool, true, false, cond}
use mathlib.Core.Option.{Option, none, some, bind}
use mathlib.Core.Logic.{⊎_elim}
use mathlib.Core.List.{List, [], ◌∷◌}
use Prim.Native.Nat.{ℕ, zero, suc, ◌-◌, ◌<◌, ◌≤◌}
use native.Mathlib.Numerals.{add-one}
use native.Mathlib.Decide.{dec_le}
use native.Mathlib.Omega.{arith}
use lib.Dec.{eqb}
use lib.ListN.{length, get_or, set, length-set}
use lib.Seq.{get_or-set_same, get_or-set_other}
use borrow.Author.Tests.{lt-ltb, le-ltb, le-leb, eq-eqb, ne_eqb}
use Rattle.tophat.specs.Syntax.{max_leaves, Ty, unit, truth, number, pair, Ty-discrete, leaves, Op, sum, difference, product, less, less_equal, equal, and_op, or_op}
use Rattle.tophat.proofs.ComputeTyping.{ask, nth, takes, gives, op_to, same_to, if_to, type_to, first_to, second_to, assign_to}
use Rattle.shape.specs.Shape.{as_shape, maybe_shape, pair_shape, first_shape, second_shape}
use Rattle.shape.proofs.Puts.{shape_pos, shape_inj}
use Rattle.shape.proofs.Shapes.{SmallO, pair_of, first_of, second_of}
use Rattle.rows.specs.Enclosing.{max_binders}
use Rattle.rows.specs.Trees.{operator_of}
use Rattle.rows.proofs.Basics.{le_or_lt}
use Rattle.typing.specs.BinderShapes.{EnvOf, BinderShapes}
use Rattle.typing.specs.RowTypes.{both_are, op_shape, same_shape, if_shape, assign_shape, binder_shape, bind_shape}

-- r is the shape of the type, of at most max_leaves leaves, or 0 for none
pub record Good (o : Option Ty) (r : ℕ) : Type 0 where
  pub is : r ≡ maybe_shape o
  pub small : SmallO o

pub good_by : {o : Option Ty} {x y : ℕ} → x ≡ y → Good o y → Good o x
good_by e g = record { is = e ∙ g.is; small = g.small }

pub if_zero : (b : Bool) → ◌≡◌ {A = ℕ} (cond b 0 0) 0
if_zero true = refl
if_zero false = refl

-- a step of two types, known at shapes and at 0
module _ (g : ℕ → ℕ → ℕ) (h : Ty → Ty → Option Ty) (z : (y : ℕ) → g 0 y ≡ 0) (w : (τ : Ty) → g (as_shape τ) 0 ≡ 0) (k : (τ υ : Ty) → leaves τ ≤ max_leaves → Good (h τ υ) (g (as_shape τ) (as_shape υ))) where
  lift2 : {o p : Option Ty} {x y : ℕ} → Good o x → Good p y → Good (bind o λ τ. bind p λ υ. h τ υ) (g x y)
  unfolding bind maybe_shape
  lift2 {o = none} {x = x} {y = y} a b = record { is = ap (λ x. g x y) a.is ∙ z y; small = tt }
  lift2 {o = some τ} {p = none} a b = record { is = ap₂ g a.is b.is ∙ w τ; small = tt }
  lift2 {o = some τ} {p = some υ} a b = good_by (ap₂ g a.is b.is) (k τ υ a.small)

-- ---- tests of equal types

small_ask : {P : Type 0} (d : Dec P) (o : Option Ty) → SmallO o → SmallO (ask d o)
unfolding ask
small_ask (yes p) o h = h
small_ask (no p) o h = tt

eq_shape : (τ υ : Ty) (d : Dec (τ ≡ υ)) (o : Option Ty) → cond (eqb (as_shape τ) (as_shape υ)) (maybe_shape o) 0 ≡ maybe_shape (ask d o)
unfolding ask maybe_shape
eq_shape τ υ (yes p) o = rw (eq-eqb (as_shape τ) (as_shape υ) (ap as_shape p))
eq_shape τ υ (no n) o = rw (ne_eqb (as_shape τ) (as_shape υ) (λ e. n (shape_inj τ υ e)))

-- the test the other way round
eq_shape' : (τ υ : Ty) (d : Dec (υ ≡ τ)) (o : Option Ty) → cond (eqb (as_shape τ) (as_shape υ)) (maybe_shape o) 0 ≡ maybe_shape (ask d o)
unfolding ask maybe_shape
eq_shape' τ υ (yes p) o = rw (eq-eqb (as_shape τ) (as_shape υ) (ap as_shape (sym p)))
eq_shape' τ υ (no n) o = rw (ne_eqb (as_shape τ) (as_shape υ) (λ e. n (sym (shape_inj τ υ e))))

-- ---- operators

small_gives : (o : Op) → leaves (gives o) ≤ max_leaves
unfolding gives leaves
small_gives sum = omega arith
small_gives difference = omega arith
small_gives product = omega arith
small_gives less = omega arith
small_gives less_equal = omega arith
small_gives equal = omega arith
small_gives and_op = omega arith
small_gives or_op = omega arith

op_step : (o : ℕ) (τ υ : Ty) → leaves τ ≤ max_leaves → Good (op_to (operator_of o) τ υ) (op_shape o (as_shape τ) (as_shape υ))
unfolding op_to op_shape maybe_shape
op_step o τ υ l =
    let x = takes (operator_of o) in
    let r = some (gives (operator_of o)) in
    record { is = ap (λ y. cond (eqb (as_shape τ) (as_shape x)) y 0) (eq_shape υ x (Ty-discrete υ x) r) ∙ eq_shape τ x (Ty-discrete τ x) (ask (Ty-discrete υ x) r); small = small_ask _ _ (small_ask _ r (small_gives (operator_of o))) }

none_both : (x r y : ℕ) → (x ≡ 0 → ⊥) → both_are 0 y x r ≡ 0
none_both x r y h = rw (ne_eqb 0 x (λ e. h (sym e)))

pub op_none : (o y : ℕ) → op_shape o 0 y ≡ 0
unfolding op_shape
op_none o y = none_both (as_shape (takes (operator_of o))) (as_shape (gives (operator_of o))) y (shape_pos (takes (operator_of o)))

pub op_none' : (o x : ℕ) → op_shape o x 0 ≡ 0
unfolding op_shape
op_none' o x =
    let t = as_shape (takes (operator_of o)) in
    ap (λ y. cond (eqb x t) y 0) (rw (ne_eqb 0 t (λ e. shape_pos (takes (operator_of o)) (sym e)))) ∙ if_zero (eqb x t)

pub op_good : (o : ℕ) {p q : Option Ty} {x y : ℕ} → Good p x → Good q y → Good (bind p λ τ. bind q λ υ. op_to (operator_of o) τ υ) (op_shape o x y)
op_good o a b = lift2 (op_shape o) (op_to (operator_of o)) (op_none o) (λ τ. op_none' o (as_shape τ)) (op_step o) a b

-- ---- one type, writes, conditions

same_none : (τ : Ty) → same_shape (as_shape τ) 0 ≡ 0
same_none τ = rw (ne_eqb (as_shape τ) 0 (shape_pos τ))

same_step : (τ υ : Ty) → leaves τ ≤ max_leaves → Good (same_to τ υ) (same_shape (as_shape τ) (as_shape υ))
unfolding same_to maybe_shape
same_step τ υ l = record { is = eq_shape' τ υ (Ty-discrete υ τ) (some τ); small = small_ask _ (some τ) l }

pub same_good : {p q : Option Ty} {x y : ℕ} → Good p x → Good q y → Good (bind p λ τ. bind q λ υ. same_to τ υ) (same_shape x y)
same_good a b = lift2 same_shape same_to (λ y. if_zero (eqb 0 y)) same_none same_step a b

assign_step : (τ υ : Ty) → leaves τ ≤ max_leaves → Good (assign_to τ υ) (assign_shape (as_shape τ) (as_shape υ))
unfolding assign_to assign_shape maybe_shape leaves
assign_step τ υ l = record { is = rw (ne_eqb (as_shape τ) 0 (shape_pos τ)) (eq_shape' τ υ (Ty-discrete υ τ) (some unit)); small = small_ask _ (some unit) (omega arith) }

assign_none : (τ : Ty) → assign_shape (as_shape τ) 0 ≡ 0
unfolding assign_shape
assign_none τ = rw (ne_eqb (as_shape τ) 0 (shape_pos τ))

pub assign_good : {p q : Option Ty} {x y : ℕ} → Good p x → Good q y → Good (bind p λ τ. bind q λ υ. assign_to τ υ) (assign_shape x y)
unfolding assign_shape
assign_good a b = lift2 assign_shape assign_to (λ y. refl) assign_none assign_step a b

if_step : (κ τ υ : Ty) → leaves τ ≤ max_leaves → Good (if_to κ τ υ) (if_shape (as_shape κ) (as_shape τ) (as_shape υ))
unfolding if_to if_shape maybe_shape
if_step κ τ υ l =
    let g = same_step τ υ l in
    record { is = ap (λ y. cond (eqb (as_shape κ) (as_shape truth)) y 0) g.is ∙ eq_shape κ truth (Ty-discrete κ truth) (same_to τ υ); small = small_ask _ (same_to τ υ) g.small }

-- no type in a branch, none of the condition
pub if_none : (x t u : ℕ) → same_shape t u ≡ 0 → if_shape x t u ≡ 0
unfolding if_shape
if_none x t u e = ap (λ y. cond (eqb x (as_shape truth)) y 0) e ∙ if_zero (eqb x (as_shape truth))

pub if_zero_first : (t u : ℕ) → if_shape 0 t u ≡ 0
unfolding if_shape
if_zero_first t u = rw (ne_eqb 0 (as_shape truth) (λ e. shape_pos truth (sym e)))

pub if_good : {m o p : Option Ty} {s x y : ℕ} → Good m s → Good o x → Good p y → Good (bind m λ κ. bind o λ τ. bind p λ υ. if_to κ τ υ) (if_shape s x y)
unfolding bind maybe_shape
if_good {m = none} {x = x} {y = y} c a b = record { is = ap (λ s. if_shape s x y) c.is ∙ if_zero_first x y; small = tt }
if_good {m = some κ} {o = none} {s = s} {x = x} {y = y} c a b = record { is = if_none s x y (ap (λ x. same_shape x y) a.is ∙ if_zero (eqb 0 y)); small = tt }
if_good {m = some κ} {o = some τ} {p = none} {s = s} {x = x} {y = y} c a b = record { is = if_none s x y (ap₂ same_shape a.is b.is ∙ same_none τ); small = tt }
if_good {m = some κ} {o = some τ} {p = some υ} c a b = good_by (λ i. if_shape (c.is i) (a.is i) (b.is i)) (if_step κ τ υ a.small)

-- ---- pairs and components

small_type : (τ : Ty) → SmallO (type_to τ)
unfolding type_to ask
small_type τ = by (dec_le (leaves τ) max_leaves)
  where
    by : (d : Dec (leaves τ ≤ max_leaves)) → SmallO (ask d (some τ))
    by (yes p) = p
    by (no n) = tt

small_pair : (o p : Option Ty) → SmallO (bind o λ τ. bind p λ υ. type_to (pair τ υ))
unfolding bind
small_pair none p = tt
small_pair (some τ) none = tt
small_pair (some τ) (some υ) = small_type (pair τ υ)

pub pair_good : {o p : Option Ty} {x y : ℕ} → Good o x → Good p y → Good (bind o λ τ. bind p λ υ. type_to (pair τ υ)) (pair_shape x y)
pair_good {o} {p} a b = record { is = ap₂ pair_shape a.is b.is ∙ pair_of o a.small p b.small; small = small_pair o p }

small_first : (o : Option Ty) → SmallO o → SmallO (bind o first_to)
unfolding bind first_to leaves
small_first none h = tt
small_first (some unit) h = tt
small_first (some truth) h = tt
small_first (some number) h = tt
small_first (some (pair τ υ)) h = omega arith

small_second : (o : Option Ty) → SmallO o → SmallO (bind o second_to)
unfolding bind second_to leaves
small_second none h = tt
small_second (some unit) h = tt
small_second (some truth) h = tt
small_second (some number) h = tt
small_second (some (pair τ υ)) h = omega arith

pub first_good : {o : Option Ty} {x : ℕ} → Good o x → Good (bind o first_to) (first_shape x)
first_good {o} a = record { is = ap first_shape a.is ∙ first_of o a.small; small = small_first o a.small }

pub second_good : {o : Option Ty} {x : ℕ} → Good o x → Good (bind o second_to) (second_shape x)
second_good {o} a = record { is = ap second_shape a.is ∙ second_of o a.small; small = small_second o a.small }

-- ---- binders

nth_in : (env : List ℕ) (Γ : List Ty) (a : ℕ) → EnvOf env Γ → a < length Γ → (τ : Ty) × (nth Γ a ≡ some τ) × (get_or env (length Γ - 1 - a) 0 ≡ as_shape τ) × (leaves τ ≤ max_leaves)
unfolding nth
nth_in env [] a h l = absurd (omega arith)
nth_in env (τ ∷ Γ) zero h l = (τ, refl, ap (λ k. get_or env k 0) (omega arith) ∙ h.0, h.1)
nth_in env (τ ∷ Γ) (suc a) h l = let (υ, p, q, r) = nth_in env Γ a h.2 (omega arith) in (υ, p, ap (λ k. get_or env k 0) (omega arith) ∙ q, r)

nth_out : (Γ : List Ty) (a : ℕ) → length Γ ≤ a → nth Γ a ≡ none
unfolding nth
nth_out [] a l = refl
nth_out (τ ∷ Γ) zero l = absurd (omega arith)
nth_out (τ ∷ Γ) (suc a) l = nth_out Γ a (omega arith)

pub binder_good : (env : List ℕ) (Γ : List Ty) (a : ℕ) → EnvOf env Γ → length Γ ≤ max_binders → Good (nth Γ a) (binder_shape env (length Γ) a)
unfolding maybe_shape
binder_good env Γ a h l =
    ⊎_elim (λ (g : length Γ ≤ a). let e = nth_out Γ a g in record { is = rw (le-ltb a (length Γ) g, e); small = rw e tt })
    (λ (g : a < length Γ). let (τ, e, p, q) = nth_in env Γ a h g in record { is = rw (lt-ltb a (length Γ) g, le-leb (length Γ) max_binders l, e) p; small = rw e q }) (le_or_lt (length Γ) a)

env_set : (env : List ℕ) (Γ : List Ty) (k x : ℕ) → length Γ ≤ k → EnvOf env Γ → EnvOf (set env k x) Γ
env_set env [] k x l h = tt
env_set env (τ ∷ Γ) k x l h = (get_or-set_other env k (length Γ) x 0 (λ e. omega arith) ∙ h.0, h.1, env_set env Γ k x (omega arith) h.2)

env_more : (env : List ℕ) (Γ : List Ty) (τ : Ty) → length env ≡ max_binders → length Γ < max_binders → leaves τ ≤ max_leaves → EnvOf env Γ → EnvOf (set env (length Γ) (as_shape τ)) (τ ∷ Γ)
env_more env Γ τ e l s h = (get_or-set_same env (length Γ) (as_shape τ) 0 (omega arith), s, env_set env Γ (length Γ) (as_shape τ) (omega arith) h)

pub around_more : {env : List ℕ} {Γ : List Ty} (τ : Ty) → length Γ < max_binders → leaves τ ≤ max_leaves → BinderShapes env Γ → BinderShapes (set env (length Γ) (as_shape τ)) (τ ∷ Γ)
around_more {env} {Γ} τ l s h = record { long = length-set env (length Γ) (as_shape τ) ∙ h.long; few = l; held = env_more env Γ τ h.long l s h.held }

-- a binder more
module _ (env : List ℕ) (Γ : List Ty) (h : Ty → Option Ty) (f : List ℕ → ℕ → ℕ) (el : length env ≡ max_binders) (l : length Γ < max_binders) (eh : EnvOf env Γ) (k : (e : List ℕ) (τ : Ty) → length e ≡ max_binders → EnvOf e (τ ∷ Γ) → Good (h τ) (f e (suc (length Γ)))) where
  pub bind_good : {o : Option Ty} {x : ℕ} → Good o x → Good (bind o h) (bind_shape f env (length Γ) x)
  unfolding bind maybe_shape
  bind_good {o = none} g = record { is = ap (bind_shape f env (length Γ)) g.is; small = tt }
  bind_good {o = some τ} g =
      good_by (ap (bind_shape f env (length Γ)) g.is ∙ rw (ne_eqb (as_shape τ) 0 (shape_pos τ), lt-ltb (length Γ) max_binders l, add-one))
      (k (set env (length Γ) (as_shape τ)) τ (length-set env (length Γ) (as_shape τ) ∙ el) (env_more env Γ τ el l g.small eh))
