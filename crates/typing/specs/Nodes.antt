-- A row by what typing does with it: 13 ways for all kinds. A type row's type is itself, so types and cells are typed
-- like all other rows. An operand that is not a lower row leaves none. Rests on Kinds and Rows.
-- For contracts only: tied to the calculus' typing by `code_good` (proofs/Agree).
use Rattle.std.specs.Prelude.{Bool, true, ◌&&◌, cond, List, ℕ, ◌<◌, ltb}
use Rattle.std.proofs.Math.Option.{Option, none, some}
use Rattle.rows.specs.Kinds.{Kind, type_k, unit_k, truth_k, number_k, pair_k, cell_k, plain_k, eunit_k, etruth_k, enumber_k, ebinder_k, eop_k, epair_k, efst_k, esnd_k, ederef_k, eassign_k}
use Rattle.rows.specs.Kinds.{either_k, if_k, let_k, task_k, edit_k, enter_k, update_k, then_k, next_k, fail_k, and_k, or_k, xor_k, view_k, gate_k, kind_of}
use Rattle.rows.specs.Rows.{word, op_a, op_b, op_c}
use Rattle.typing.specs.declared.Node.{Node}
use Rattle.typing.specs.declared.Node.TheVariants.{Unit, Truth, Number, Binder, Op, If, Pair, First, Second, Through, Assign, Bind, Same}

-- a row of a kind, or of none, with operands a, b, c
abbrev pub node_by : Option Kind → ℕ → ℕ → ℕ → Option Node
node_by none a b c = none
node_by (some (type_k unit_k)) a b c = some Unit
node_by (some (type_k truth_k)) a b c = some Truth
node_by (some (type_k number_k)) a b c = some Number
node_by (some (type_k pair_k)) a b c = some (Pair a b)
node_by (some cell_k) a b c = some (Through a)
node_by (some (plain_k eunit_k)) a b c = some Unit
node_by (some (plain_k etruth_k)) a b c = some Truth
node_by (some (plain_k enumber_k)) a b c = some Number
node_by (some (plain_k ebinder_k)) a b c = some (Binder a)
node_by (some (plain_k eop_k)) a b c = some (Op a b c)
node_by (some (either_k if_k)) a b c = some (If a b c)
node_by (some (plain_k epair_k)) a b c = some (Pair a b)
node_by (some (plain_k efst_k)) a b c = some (First a)
node_by (some (plain_k esnd_k)) a b c = some (Second a)
node_by (some (plain_k ederef_k)) a b c = some (Through a)
node_by (some (plain_k eassign_k)) a b c = some (Assign a b)
node_by (some (either_k let_k)) a b c = some (Bind a b)
node_by (some (task_k edit_k)) a b c = some (Through a)
node_by (some (task_k enter_k)) a b c = some (Through a)
node_by (some (task_k update_k)) a b c = some (Through a)
node_by (some (task_k then_k)) a b c = some (Bind a b)
node_by (some (task_k next_k)) a b c = some (Bind a b)
node_by (some (task_k fail_k)) a b c = some (Through a)
node_by (some (task_k and_k)) a b c = some (Pair a b)
node_by (some (task_k or_k)) a b c = some (Same a b)
node_by (some (task_k xor_k)) a b c = some (Same a b)
node_by (some (task_k view_k)) a b c = some (Through a)
node_by (some (task_k gate_k)) a b c = some (Through b)

-- the rows that it names are lower than row i
abbrev pub names_lower : ℕ → Node → Bool
names_lower i Unit = true
names_lower i Truth = true
names_lower i Number = true
names_lower i (Binder a) = true
names_lower i (Op o b c) = ltb b i && ltb c i
names_lower i (If a b c) = ltb a i && ltb b i && ltb c i
names_lower i (Pair a b) = ltb a i && ltb b i
names_lower i (First a) = ltb a i
names_lower i (Second a) = ltb a i
names_lower i (Through a) = ltb a i
names_lower i (Assign a b) = ltb a i && ltb b i
names_lower i (Bind a b) = ltb a i && ltb b i
names_lower i (Same a b) = ltb a i && ltb b i

-- the node, if the rows that it names are lower than row i
abbrev pub lower : ℕ → Option Node → Option Node
lower i none = none
lower i (some x) = cond (names_lower i x) (some x) none

unfoldable pub node_of : List ℕ → ℕ → Option Node
node_of rs i = lower i (node_by (kind_of (word rs i 0)) (op_a rs i) (op_b rs i) (op_c rs i))

-- the rows that it names are lower
abbrev pub Below : Node → ℕ → Type 0
Below Unit i = Prim.Unit {0}
Below Truth i = Prim.Unit {0}
Below Number i = Prim.Unit {0}
Below (Binder a) i = Prim.Unit {0}
Below (Op o b c) i = (b < i) × (c < i)
Below (If a b c) i = (a < i) × (b < i) × (c < i)
Below (Pair a b) i = (a < i) × (b < i)
Below (First a) i = a < i
Below (Second a) i = a < i
Below (Through a) i = a < i
Below (Assign a b) i = (a < i) × (b < i)
Below (Bind a b) i = (a < i) × (b < i)
Below (Same a b) i = (a < i) × (b < i)
