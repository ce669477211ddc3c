-- What the code does at each way, against RowTypes: a row's type is that of its node, whatever rows deep it is looked
-- for. Rests on RowTypes and NodeLaws.
use Rattle.std.proofs.Common.{Option as Answer, ◌⊎◌}
use Rattle.std.specs.Bool.{then_some}
use mathlib.Core.Path.{◌≡◌, refl, sym, ap, subst, ◌∙◌}
use mathlib.Core.Bool.{Bool, true, false, cond}
use mathlib.Core.Logic.{inl, inr}
use mathlib.Core.Option.{Option, none, some}
use mathlib.Core.List.{List}
use Prim.Native.Nat.{ℕ, zero, suc, ◌+◌, ◌<◌, ◌≤◌}
use native.Mathlib.Omega.{arith}
use lib.Dec.{ltb, eqb}
use lib.ListN.{set}
use borrow.Author.Tests.{eq-eqb, ne_eqb}
use Rattle.match_laws.proofs.Ranges.{in_range, past}
use Rattle.tophat.specs.Syntax.{Ty, sum}
use Rattle.tophat.proofs.ComputeTyping.{takes, gives}
use Rattle.shape.specs.Shape.{put, as_shape, shape_or_none}
use Rattle.shape.proofs.Puts.{shape_pos}
use Rattle.shape.proofs.Coded.{some_shape}
use Rattle.rows.specs.Enclosing.{max_binders}
use Rattle.rows.specs.Trees.{operators, operator_of}
use Rattle.typing.specs.Nodes.{node_of, Below}
use Rattle.typing.specs.RowTypes.{both_are, op_shape, bind_shape, type_node, type_row, type_within, type_of}
use Rattle.typing.specs.declared.Node.{Node}
use Rattle.typing.specs.declared.Node.TheVariants.{Unit, Truth, Number, Binder, Op, If, Pair, First, Second, Through, Assign, Bind, Same}
use Rattle.typing.proofs.NodeLaws.{AllBelow, below_of}

-- ---- operators

-- the shapes that an operator takes and gives
abbrev sides : ℕ → ℕ × ℕ
sides o = (as_shape (takes (operator_of o)), as_shape (gives (operator_of o)))

module _ (o : ℕ) (p : ℕ × ℕ) where
  abbrev SidesAre : ℕ → Type 0
  SidesAre o = p ≡ sides o

  pub op_number : o < 4 → p ≡ (3, 3) → p ≡ sides o
  unfolding operator_of takes gives as_shape put
  op_number h e = in_range SidesAre 0 4 (e, (e, (e, (e, tt)))) (omega arith) h

  pub op_test : 4 ≤ o → o < 7 → p ≡ (3, 2) → p ≡ sides o
  unfolding operator_of takes gives as_shape put
  op_test h g e = in_range SidesAre 4 3 (e, (e, (e, tt))) h g

  pub op_truth : 7 ≤ o → o < 9 → p ≡ (2, 2) → p ≡ sides o
  unfolding operator_of takes gives as_shape put
  op_truth h g e = in_range SidesAre 7 2 (e, (e, tt)) h g

  pub op_past : 9 ≤ o → p ≡ (3, 3) → p ≡ sides o
  unfolding operator_of takes gives as_shape put
  op_past h e = e ∙ sym (ap (λ x. (as_shape (takes x), as_shape (gives x))) (past operators sum o h))

-- what is given where both sides are taken
both_by : (t u x : ℕ) (υ : Ty) (b : Bool) → ((t ≡ x) × (b ≡ eqb u x)) ⊎ ((t ≡ x → ⊥) × (b ≡ eqb t x)) → then_some b (as_shape υ) ≡ shape_or_none (both_are t u x (as_shape υ))
both_by t u x υ b (inl (e, f)) = rw (eq-eqb t x e, f) (by (eqb u x))
  where
    by : (b : Bool) → then_some b (as_shape υ) ≡ shape_or_none (cond b (as_shape υ) 0)
    by true = some_shape refl (shape_pos υ)
    by false = refl
both_by t u x υ b (inr (e, f)) = rw (f, ne_eqb t x e) refl

pub op_by : (o t u : ℕ) (p : ℕ × ℕ) (b : Bool) {r : Answer ℕ} → r ≡ then_some b p.1 → ((t ≡ p.0) × (b ≡ eqb u p.0)) ⊎ ((t ≡ p.0 → ⊥) × (b ≡ eqb t p.0)) → p ≡ sides o → r ≡ shape_or_none (op_shape o t u)
unfolding op_shape
op_by o t u p b e h g =
    e ∙ ap (λ p. then_some b p.1) g
    ∙ both_by t u (sides o).0 (gives (operator_of o)) b (subst (λ (p : ℕ × ℕ). ((t ≡ p.0) × (b ≡ eqb u p.0)) ⊎ ((t ≡ p.0 → ⊥) × (b ≡ eqb t p.0))) g h)

-- ---- any number of rows deep that is enough gives one type

same_node : (f g : List ℕ → ℕ → ℕ → ℕ) (i : ℕ) → ((e : List ℕ) (m j : ℕ) → j < i → f e m j ≡ g e m j) → (env : List ℕ) (n : ℕ) (x : Node) → Below x i → type_node f env n x ≡ type_node g env n x
same_node f g i h env n Unit b = refl
same_node f g i h env n Truth b = refl
same_node f g i h env n Number b = refl
same_node f g i h env n (Binder a) b = refl
same_node f g i h env n (Op o p q) b = rw (h env n p b.0, h env n q b.1)
same_node f g i h env n (If p q r) b = rw (h env n p b.0, h env n q b.1, h env n r b.2)
same_node f g i h env n (Pair p q) b = rw (h env n p b.0, h env n q b.1)
same_node f g i h env n (First p) b = rw (h env n p b)
same_node f g i h env n (Second p) b = rw (h env n p b)
same_node f g i h env n (Through p) b = h env n p b
same_node f g i h env n (Assign p q) b = rw (h env n p b.0, h env n q b.1)
same_node f g i h env n (Bind p q) b =
    ap (λ t. bind_shape (λ e m. f e m q) env n t) (h env n p b.0) ∙ ap (λ y. cond (eqb (g env n p) 0) 0 (cond (ltb n max_binders) y 0)) (h (set env n (g env n p)) (n + 1) q b.1)
same_node f g i h env n (Same p q) b = rw (h env n p b.0, h env n q b.1)

same_row : (f g : List ℕ → ℕ → ℕ → ℕ) (i : ℕ) → ((e : List ℕ) (m j : ℕ) → j < i → f e m j ≡ g e m j) → (env : List ℕ) (n : ℕ) (o : Option Node) → AllBelow o i → type_row f env n o ≡ type_row g env n o
same_row f g i h env n none b = refl
same_row f g i h env n (some x) b = same_node f g i h env n x b

same_type : (k j : ℕ) (rs env : List ℕ) (n i : ℕ) → i < k → i < j → type_within k rs env n i ≡ type_within j rs env n i
unfolding type_within
same_type zero j rs env n i h g = absurd (omega arith)
same_type (suc k) zero rs env n i h g = absurd (omega arith)
same_type (suc k) (suc j) rs env n i h g =
    same_row (λ e m l. type_within k rs e m l) (λ e m l. type_within j rs e m l) i (λ e m l b. same_type k j rs e m l (omega arith) (omega arith)) env n (node_of rs i) (below_of rs i)

pub type_is : (rs env : List ℕ) (n i : ℕ) → type_of rs env n i ≡ type_row (λ e m j. type_of rs e m j) env n (node_of rs i)
unfolding type_within
type_is rs env n i =
    same_row (λ e m l. type_within i rs e m l) (λ e m l. type_of rs e m l) i (λ e m l b. same_type i (suc l) rs e m l b (omega arith)) env n (node_of rs i) (below_of rs i)
