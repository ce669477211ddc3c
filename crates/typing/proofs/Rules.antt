-- The ways of `row_type`: what it gives by the node, and none where a row that the node names has no type. Rests on TypeLaws, Steps
-- and on the crate shape.
use Rattle.std.proofs.Common.{Option as Answer, Some, None, IsTrue, ◌⊎◌}
use Rattle.std.specs.Bool.{then_some}
use Rattle.std.proofs.lemmas.Option.{same_Some}
use Rattle.word.specs.Options.{in_code}
use mathlib.Core.Path.{◌≡◌, refl, sym, ap, ◌∙◌}
use mathlib.Core.Bool.{Bool, true, false, cond, false≢true}
use mathlib.Core.Option.{Option, none, some, bind}
use mathlib.Core.Logic.{inl, inr, ⊎_elim}
use mathlib.Core.List.{List}
use Prim.Native.Nat.{ℕ, ◌+◌, ◌<◌, ◌≤◌}
use lib.Dec.{eqb}
use lib.ListN.{set}
use borrow.Author.Tests.{lt-ltb, le-ltb, eq-eqb, ne_eqb, eqb-true}
use Rattle.tophat.specs.Syntax.{Ty, unit, truth}
use Rattle.shape.specs.Shape.{as_shape, maybe_shape, as_type, shape_or_none, pair_shape, first_shape, second_shape}
use Rattle.shape.proofs.Puts.{by_test, shape_pos}
use Rattle.shape.proofs.Shapes.{no_type}
use Rattle.shape.proofs.Coded.{some_shape, shape_is, shape_not}
use Rattle.rows.proofs.Basics.{le_or_lt}
use Rattle.rows.specs.Enclosing.{max_binders}
use Rattle.typing.specs.Nodes.{node_of}
use Rattle.typing.specs.RowTypes.{same_shape, if_shape, assign_shape, bind_shape, type_node, type_row, type_of}
use Rattle.typing.specs.declared.Node.{Node}
use Rattle.typing.proofs.Steps.{if_zero, if_none}
use Rattle.typing.proofs.TypeLaws.{type_is}

-- ---- by the node

node_some : (o : Option Node) {x y : Node} → Some x ≡ in_code o → x ≡ y → o ≡ some y
node_some none h e = absurd (cc)
node_some (some z) h e = ap some (sym (same_Some _ _ h) ∙ e)

node_none : (o : Option Node) → None ≡ in_code o → o ≡ none
node_none none h = refl
node_none (some z) h = absurd (cc)

module _ (rs env : List ℕ) (n i : ℕ) where
  pub by_node : {x y : Node} {r : Answer ℕ} → Some x ≡ in_code (node_of rs i) → x ≡ y → r ≡ shape_or_none (type_node (λ e m j. type_of rs e m j) env n y) → r ≡ shape_or_none (type_of rs env n i)
  by_node h e g = g ∙ ap shape_or_none (sym (type_is rs env n i ∙ ap (type_row (λ e m j. type_of rs e m j) env n) (node_some (node_of rs i) h e)))

  pub no_node : {r : Answer ℕ} → r ≡ None → None ≡ in_code (node_of rs i) → r ≡ shape_or_none (type_of rs env n i)
  no_node e h = e ∙ ap shape_or_none (sym (type_is rs env n i ∙ ap (type_row (λ e m j. type_of rs e m j) env n) (node_none (node_of rs i) h)))

-- ---- by the types of the rows that it names

pub after1 : (f : ℕ → ℕ) {r : Answer ℕ} (x : ℕ) {t : ℕ} → r ≡ shape_or_none (f t) → Some t ≡ shape_or_none x → r ≡ shape_or_none (f x)
after1 f x e p = e ∙ ap (λ t. shape_or_none (f t)) (shape_is p).0

pub after2 : (f : ℕ → ℕ → ℕ) {r : Answer ℕ} (x y : ℕ) {t u : ℕ} → r ≡ shape_or_none (f t u) → Some t ≡ shape_or_none x → Some u ≡ shape_or_none y → r ≡ shape_or_none (f x y)
after2 f x y {t} {u} e p q = after1 (f x) y (after1 (λ t. f t u) x e p) q

pub after3 : (f : ℕ → ℕ → ℕ → ℕ) {r : Answer ℕ} (w x y : ℕ) {s t u : ℕ} → r ≡ shape_or_none (f s t u) → Some s ≡ shape_or_none w → Some t ≡ shape_or_none x → Some u ≡ shape_or_none y → r ≡ shape_or_none (f w x y)
after3 f w x y {s} {t} {u} e o p q = after2 (f w) x y (after1 (λ s. f s t u) w e o) p q

-- none without one of them
pub no_only : (f : ℕ → ℕ) {r : Answer ℕ} (x : ℕ) → f 0 ≡ 0 → r ≡ None → None ≡ shape_or_none x → r ≡ shape_or_none (f x)
no_only f x z e p = e ∙ ap shape_or_none (sym (ap f (shape_not p) ∙ z))

pub no_left : (f : ℕ → ℕ → ℕ) {r : Answer ℕ} (x y : ℕ) → ((y : ℕ) → f 0 y ≡ 0) → r ≡ None → None ≡ shape_or_none x → r ≡ shape_or_none (f x y)
no_left f x y z e p = no_only (λ x. f x y) x (z y) e p

pub no_right : (f : ℕ → ℕ → ℕ) {r : Answer ℕ} (x y : ℕ) → ((x : ℕ) → f x 0 ≡ 0) → r ≡ None → None ≡ shape_or_none y → r ≡ shape_or_none (f x y)
no_right f x y z e p = no_only (f x) y (z x) e p

pub no_first : (f : ℕ → ℕ → ℕ → ℕ) {r : Answer ℕ} (w x y : ℕ) → ((x y : ℕ) → f 0 x y ≡ 0) → r ≡ None → None ≡ shape_or_none w → r ≡ shape_or_none (f w x y)
no_first f w x y z e p = no_only (λ w. f w x y) w (z x y) e p

pub no_second : (f : ℕ → ℕ → ℕ → ℕ) {r : Answer ℕ} (w x y : ℕ) → ((w y : ℕ) → f w 0 y ≡ 0) → r ≡ None → None ≡ shape_or_none x → r ≡ shape_or_none (f w x y)
no_second f w x y z e p = no_only (λ x. f w x y) x (z w y) e p

pub no_third : (f : ℕ → ℕ → ℕ → ℕ) {r : Answer ℕ} (w x y : ℕ) → ((w x : ℕ) → f w x 0 ≡ 0) → r ≡ None → None ≡ shape_or_none y → r ≡ shape_or_none (f w x y)
no_third f w x y z e p = no_only (f w x) y (z w x) e p

-- ---- which needs all of them

pub same_left : (u : ℕ) → same_shape 0 u ≡ 0
same_left u = if_zero (eqb 0 u)

pub same_right : (t : ℕ) → same_shape t 0 ≡ 0
same_right t = by_test (λ r. r ≡ 0) (eqb t 0) (λ e. eqb-true t 0 e) (λ e. refl)

pub assign_right : (t : ℕ) → assign_shape t 0 ≡ 0
unfolding assign_shape
assign_right t = by_test (λ r. r ≡ 0) (eqb t 0) (λ e. refl) (λ e. ap (λ b. cond b (as_shape unit) 0) e)

pub assign_left : (u : ℕ) → assign_shape 0 u ≡ 0
unfolding assign_shape
assign_left u = refl

pub if_second : (s u : ℕ) → if_shape s 0 u ≡ 0
if_second s u = if_none s 0 u (if_zero (eqb 0 u))

pub if_third : (s t : ℕ) → if_shape s t 0 ≡ 0
if_third s t = if_none s t 0 (same_right t)

pub pair_left : (u : ℕ) → pair_shape 0 u ≡ 0
unfolding pair_shape bind maybe_shape
pair_left u = rw no_type refl

pub pair_right : (t : ℕ) → pair_shape t 0 ≡ 0
unfolding pair_shape bind maybe_shape
pair_right t = rw no_type (by (as_type t))
  where
    by : (o : Option Ty) → maybe_shape (bind o λ τ. none) ≡ 0
    by none = refl
    by (some τ) = refl

pub first_zero : first_shape 0 ≡ 0
unfolding first_shape bind maybe_shape
first_zero = rw no_type refl

pub second_zero : second_shape 0 ≡ 0
unfolding second_shape bind maybe_shape
second_zero = rw no_type refl

-- ---- tests of types

same_by : (b : Bool) (t : ℕ) → (t ≡ 0 → ⊥) → then_some b t ≡ shape_or_none (cond b t 0)
same_by true t h = some_shape refl h
same_by false t h = refl

module _ (x y : ℕ) {t u : ℕ} {r : Answer ℕ} (p : Some t ≡ shape_or_none x) (q : Some u ≡ shape_or_none y) where
  pub same_typed : r ≡ then_some (eqb t u) t → r ≡ shape_or_none (same_shape x y)
  same_typed e = after2 same_shape x y (e ∙ same_by (eqb t u) t (shape_is p).1) p q

  pub assign_typed : r ≡ then_some (eqb t u) (as_shape unit) → r ≡ shape_or_none (assign_shape x y)
  unfolding assign_shape
  assign_typed e =
      let z : assign_shape t u ≡ cond (eqb t u) (as_shape unit) 0 = rw (ne_eqb t 0 (shape_is p).1) in
      after2 assign_shape x y (e ∙ same_by (eqb t u) (as_shape unit) (shape_pos unit) ∙ ap shape_or_none (sym z)) p q

  pub if_typed : (w : ℕ) {s : ℕ} {b : Bool} → Some s ≡ shape_or_none w → ((s ≡ as_shape truth) × (b ≡ eqb t u)) ⊎ ((s ≡ as_shape truth → ⊥) × (b ≡ eqb s (as_shape truth))) → r ≡ then_some b t → r ≡ shape_or_none (if_shape w x y)
  unfolding if_shape
  if_typed w {s} {b} o h e = after3 if_shape w x y (e ∙ by h) o p q
    where
      by : ((s ≡ as_shape truth) × (b ≡ eqb t u)) ⊎ ((s ≡ as_shape truth → ⊥) × (b ≡ eqb s (as_shape truth))) → then_some b t ≡ shape_or_none (if_shape s t u)
      by (inl (f, g)) =
          let z : if_shape s t u ≡ cond (eqb t u) t 0 = rw (eq-eqb s (as_shape truth) f) in
          ap (λ b. then_some b t) g ∙ same_by (eqb t u) t (shape_is p).1 ∙ ap shape_or_none (sym z)
      by (inr (f, g)) =
          let z : if_shape s t u ≡ 0 = rw (ne_eqb s (as_shape truth) f) in
          ap (λ b. then_some b t) (g ∙ ne_eqb s (as_shape truth) f) ∙ ap shape_or_none (sym z)

-- ---- under a binder more

pub not_full : {b : Bool} (n m : ℕ) → b ≡ false → (m ≤ n → IsTrue b) → n < m
not_full n m e h = ⊎_elim (λ g. absurd (false≢true (sym e ∙ h g))) (λ l. l) (le_or_lt m n)

module _ (f : List ℕ → ℕ → ℕ) (env : List ℕ) (n t x : ℕ) (p : Some t ≡ shape_or_none x) where
  pub bind_full : max_binders ≤ n → None ≡ shape_or_none (bind_shape f env n x)
  bind_full l =
      let z : bind_shape f env n x ≡ 0 = rw (ne_eqb x 0 (λ z. (shape_is p).1 ((shape_is p).0 ∙ z)), le-ltb n max_binders l) in
      ap shape_or_none (sym z)

  pub bind_more : {r : Answer ℕ} (e : List ℕ) (m : ℕ) → n < max_binders → e ≡ set env n t → m ≡ n + 1 → r ≡ shape_or_none (f e m) → r ≡ shape_or_none (bind_shape f env n x)
  bind_more e m l q k h =
      let z : bind_shape f env n x ≡ f (set env n x) (n + 1) = rw (ne_eqb x 0 (λ z. (shape_is p).1 ((shape_is p).0 ∙ z)), lt-ltb n max_binders l) in
      h ∙ (λ j. shape_or_none (f (q j) (k j))) ∙ (λ j. shape_or_none (f (set env n ((shape_is p).0 j)) (n + 1)))
      ∙ ap shape_or_none (sym z)
