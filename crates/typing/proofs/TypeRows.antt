-- The type of a type row is its own shape, whatever binders are around. Rests on TypeLaws.
use mathlib.Core.Path.{◌≡◌, refl, ap, ap₂, ◌∙◌}
use mathlib.Core.Option.{some, bind}
use mathlib.Core.List.{List}
use Prim.Native.Nat.{ℕ, ◌≤◌}
use native.Mathlib.Omega.{arith}
use borrow.Author.Tests.{lt-ltb}
use Rattle.tophat.specs.Syntax.{max_leaves, Ty, pair, leaves}
use Rattle.tophat.proofs.TypingAgrees.{type_to_lem}
use Rattle.shape.specs.Shape.{put, as_shape, maybe_shape, pair_shape}
use Rattle.shape.proofs.Shapes.{pair_of}
use Rattle.rows.specs.Kinds.{Kind, type_k, unit_k, truth_k, number_k, pair_k}
use Rattle.rows.specs.Rows.{op_a, op_b, op_c, OfKind}
use Rattle.rows.specs.Trees.{ReadsType, r_unit, r_truth, r_number, r_pair}
use Rattle.rows.proofs.KindNumbers.{kind_at_lem}
use Rattle.typing.specs.Nodes.{lower, node_by, node_of}
use Rattle.typing.specs.RowTypes.{type_node, type_row, type_of}
use Rattle.typing.specs.declared.Node.{Node}
use Rattle.typing.specs.declared.Node.TheVariants.{Pair}
use Rattle.typing.proofs.TypeLaws.{type_is}

-- a row is typed as the node of its kind is, if what it names is lower
pub row_is : (rs env : List ℕ) (n i : ℕ) (k : Kind) (x : Node) → OfKind rs i k → lower i (node_by (some k) (op_a rs i) (op_b rs i) (op_c rs i)) ≡ some x → type_of rs env n i ≡ type_node (λ e m j. type_of rs e m j) env n x
unfolding node_of
row_is rs env n i k x e h = type_is rs env n i ∙ ap (type_row (λ e m j. type_of rs e m j) env n) (ap (λ o. lower i (node_by o (op_a rs i) (op_b rs i) (op_c rs i))) (kind_at_lem rs i k e) ∙ h)

pair_is : (τ υ : Ty) → leaves (pair τ υ) ≤ max_leaves → pair_shape (as_shape τ) (as_shape υ) ≡ as_shape (pair τ υ)
unfolding leaves bind maybe_shape
pair_is τ υ l = pair_of (some τ) (omega arith) (some υ) (omega arith) ∙ ap maybe_shape (type_to_lem (pair τ υ) l)

pub type_shape : {rs : List ℕ} {i : ℕ} {τ : Ty} → ReadsType rs i τ → leaves τ ≤ max_leaves → (env : List ℕ) (n : ℕ) → type_of rs env n i ≡ as_shape τ
unfolding as_shape put leaves
type_shape {rs} (r_unit {i = i} k) l env n = row_is rs env n i (type_k unit_k) _ k refl
type_shape {rs} (r_truth {i = i} k) l env n = row_is rs env n i (type_k truth_k) _ k refl
type_shape {rs} (r_number {i = i} k) l env n = row_is rs env n i (type_k number_k) _ k refl
type_shape {rs} (r_pair {i = i} {τ = τ} {υ = υ} k p q d d₁) l env n =
    let e : lower i (some (Pair (op_a rs i) (op_b rs i))) ≡ some (Pair (op_a rs i) (op_b rs i)) = rw (lt-ltb (op_a rs i) i p, lt-ltb (op_b rs i) i q) in
    row_is rs env n i (type_k pair_k) _ k e
    ∙ ap₂ pair_shape (type_shape d (omega arith) env n) (type_shape d₁ (omega arith) env n)
    ∙ pair_is τ υ l
