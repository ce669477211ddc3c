-- The type of a row as a shape, 0 for none (01, "The sheet", as the calculus' rules have it), under n binders whose shapes
-- env holds, the outermost first. proofs/Agree ties it to the calculus. Rests on Nodes, and on the crates shape and rows.
-- For contracts only: tied to rows' `flow_type` by `flow_agrees` (proofs/Agree).
use Rattle.std.specs.Prelude.{Bool, cond, List, ℕ, zero, suc, ◌+◌, ◌-◌, leb, ltb, eqb, get_or, set, replicate}
use Rattle.std.proofs.Math.Option.{Option, none, some}
use Rattle.tophat.specs.Syntax.{unit, truth}
use Rattle.tophat.proofs.ComputeTyping.{takes, gives}
use Rattle.shape.specs.Shape.{as_shape, pair_shape, first_shape, second_shape}
use Rattle.rows.specs.Kinds.{no_s, task_s}
use Rattle.rows.specs.Rows.{sorts, same_sort}
use Rattle.rows.specs.Enclosing.{max_binders}
use Rattle.rows.specs.Trees.{operator_of}
use Rattle.typing.specs.Nodes.{node_of}
use Rattle.typing.specs.declared.Node.{Node}
use Rattle.typing.specs.declared.Node.TheVariants.{Unit, Truth, Number, Binder, Op, If, Pair, First, Second, Through, Assign, Bind, Same}

-- ---- each step, on shapes

-- r where both are x
abbrev pub both_are : ℕ → ℕ → ℕ → ℕ → ℕ
both_are t u x r = cond (eqb t x) (cond (eqb u x) r 0) 0

unfoldable pub op_shape : ℕ → ℕ → ℕ → ℕ
op_shape o t u = both_are t u (as_shape (takes (operator_of o))) (as_shape (gives (operator_of o)))

abbrev pub same_shape : ℕ → ℕ → ℕ
same_shape t u = cond (eqb t u) t 0

unfoldable pub if_shape : ℕ → ℕ → ℕ → ℕ
if_shape x t u = cond (eqb x (as_shape truth)) (same_shape t u) 0

unfoldable pub assign_shape : ℕ → ℕ → ℕ
assign_shape t u = cond (eqb t 0) 0 (cond (eqb t u) (as_shape unit) 0)

-- 01: "value of binder A, counted outward, 0 the nearest"
abbrev pub binder_shape : List ℕ → ℕ → ℕ → ℕ
binder_shape env n a = cond (ltb a n) (cond (leb n max_binders) (get_or env (n - 1 - a) 0) 0) 0

-- what f gives with a binder of shape t more; none without t, nor past max_binders
abbrev pub bind_shape : (List ℕ → ℕ → ℕ) → List ℕ → ℕ → ℕ → ℕ
bind_shape f env n t = cond (eqb t 0) 0 (cond (ltb n max_binders) (f (set env n t) (n + 1)) 0)

-- ---- rows

-- by what typing does with the row, where f types the rows that it names
abbrev pub type_node : (List ℕ → ℕ → ℕ → ℕ) → List ℕ → ℕ → Node → ℕ
type_node f env n Unit = 1
type_node f env n Truth = 2
type_node f env n Number = 3
type_node f env n (Binder a) = binder_shape env n a
type_node f env n (Op o b c) = op_shape o (f env n b) (f env n c)
type_node f env n (If a b c) = if_shape (f env n a) (f env n b) (f env n c)
type_node f env n (Pair a b) = pair_shape (f env n a) (f env n b)
type_node f env n (First a) = first_shape (f env n a)
type_node f env n (Second a) = second_shape (f env n a)
type_node f env n (Through a) = f env n a
type_node f env n (Assign a b) = assign_shape (f env n a) (f env n b)
type_node f env n (Bind a b) = bind_shape (λ e m. f e m b) env n (f env n a)
type_node f env n (Same a b) = same_shape (f env n a) (f env n b)

-- 0 without a node
abbrev pub type_row : (List ℕ → ℕ → ℕ → ℕ) → List ℕ → ℕ → Option Node → ℕ
type_row f env n none = 0
type_row f env n (some x) = type_node f env n x

-- at most d rows deep
unfoldable pub type_within : ℕ → List ℕ → List ℕ → ℕ → ℕ → ℕ
type_within zero rs env n i = 0
type_within (suc d) rs env n i = type_row (λ e m j. type_within d rs e m j) env n (node_of rs i)

-- the type of row i; the rows below it are enough
abbrev pub type_of : List ℕ → List ℕ → ℕ → ℕ → ℕ
type_of rs env n i = type_within (suc i) rs env n i

-- row i is a task
unfoldable pub is_task : List ℕ → ℕ → Bool
is_task rs i = same_sort (get_or (sorts rs (suc i)) i no_s) task_s

-- the type of the last of n rows as a task
unfoldable pub flow_shape : List ℕ → ℕ → ℕ
flow_shape rs n = cond (is_task rs (n - 1)) (type_of rs (replicate max_binders 0) 0 (n - 1)) 0
