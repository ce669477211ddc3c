-- The layout of a state (docs/STATE.md): 16 words a row, one writing per state. Word 0 of a row is its tag, word 1 the shape
-- of a value, and the value's leaves stand from word 2 on; every other word, and every word of a row that is not live, is 0.
-- `encode` writes a state. Rests on the calculus' syntax, on rows and on shapes.
-- Believed, but for `at`: for contracts only.
use Rattle.std.specs.Prelude.{cond, List, [], ◌∷◌, ℕ, zero, suc, ◌+◌, ◌*◌, ◌-◌, get_or, set, replicate}
use Rattle.tophat.specs.Syntax.{number, Code, edit, enter, update, then, next, fail, and, or, xor, view, gate, if, let', Val, vunit, Store}
use Rattle.tophat.specs.Syntax.{TaskOf, filled, blank, entered, before, after, both, either, or_left, or_right, unpicked, picked_left, picked_right, gated, if_true, if_false, bound}
use Rattle.tophat.specs.Typing.{type_of}
use Rattle.shape.specs.Shape.{as_shape}
use Rattle.value.specs.Values.{leaf_bits}
use Rattle.rows.specs.Kinds.{cell_k}
use Rattle.rows.specs.Rows.{op_a, op_b, op_c, is_kind}

-- 01: "A state is 16 words a row"
abbrev pub state_words : ℕ
state_words = 16

-- where word m of row i stands: the one place that knows the order of the words
abbrev pub place : ℕ → ℕ → ℕ
place i m = i * state_words + m

abbrev pub at : List ℕ → ℕ → ℕ → ℕ
at ws i m = get_or ws (place i m) 0

-- the words of a value: its shape, and its leaves' bits, unused ones 0
unfoldable pub value_words : Val → List ℕ
value_words v = as_shape (type_of v) ∷ leaf_bits v

-- the words of the touches that a row of kind 50 has left: those of a number (CR 6)
abbrev pub touch_words : ℕ → List ℕ
touch_words k = as_shape number ∷ k ∷ []

-- tags: 1, the row's own form; 2 and 3, the first and the second of two things that it may have become; 4, the last row where it failed as
-- a whole (CR 3)
abbrev pub own : ℕ
own = 1

abbrev pub one : ℕ
one = 2

abbrev pub other : ℕ
other = 3

abbrev pub whole : ℕ
whole = 4

-- the words xs stored from word m of row i on
unfoldable pub put_words : List ℕ → ℕ → ℕ → List ℕ → List ℕ
put_words ws i m [] = ws
put_words ws i m (x ∷ xs) = put_words (set ws (place i m) x) i (suc m) xs

-- row i made live: its tag, and its tag and a value
abbrev pub tagged : List ℕ → ℕ → ℕ → List ℕ
tagged ws i x = put_words ws i 0 (x ∷ [])

abbrev pub valued : List ℕ → ℕ → ℕ → Val → List ℕ
valued ws i x v = put_words ws i 0 (x ∷ value_words v)

-- the task t of row i, written into ws (01, "A task of a row is")
unfoldable pub write_task : List ℕ → ℕ → (c : Code) → TaskOf c → List ℕ → List ℕ
write_task rs i (edit e) (filled v) ws = valued ws i own v
write_task rs i (enter τ) blank ws = tagged ws i own
write_task rs i (enter τ) (entered v) ws = valued ws i one v
write_task rs i (update n) t ws = tagged ws i own
write_task rs i (then a b) (before t) ws = write_task rs (op_a rs i) a t (tagged ws i own)
write_task rs i (then a b) (after v u) ws = write_task rs (op_b rs i) b u (valued ws i one v)
write_task rs i (next a b) (before t) ws = write_task rs (op_a rs i) a t (tagged ws i own)
write_task rs i (next a b) (after v u) ws = write_task rs (op_b rs i) b u (valued ws i one v)
write_task rs i (fail τ) t ws = tagged ws i own
write_task rs i (and a b) (both t u) ws = write_task rs (op_b rs i) b u (write_task rs (op_a rs i) a t (tagged ws i own))
write_task rs i (or a b) (either t u) ws = write_task rs (op_b rs i) b u (write_task rs (op_a rs i) a t (tagged ws i own))
write_task rs i (or a b) (or_left t) ws = write_task rs (op_a rs i) a t (tagged ws i one)
write_task rs i (or a b) (or_right u) ws = write_task rs (op_b rs i) b u (tagged ws i other)
write_task rs i (xor a b) unpicked ws = tagged ws i own
write_task rs i (xor a b) (picked_left t) ws = write_task rs (op_a rs i) a t (tagged ws i one)
write_task rs i (xor a b) (picked_right u) ws = write_task rs (op_b rs i) b u (tagged ws i other)
write_task rs i (view e) (filled v) ws = valued ws i own v
write_task rs i (gate r n b) (gated k u) ws = write_task rs (op_b rs i) b u (put_words ws i 0 (own ∷ touch_words k))
write_task rs i (if e a b) (if_true t) ws = write_task rs (op_b rs i) a t (tagged ws i one)
write_task rs i (if e a b) (if_false u) ws = write_task rs (op_c rs i) b u (tagged ws i other)
write_task rs i (let' e b) (bound v u) ws = write_task rs (op_b rs i) b u (valued ws i one v)

-- the cells among the first n rows, written into ws: a cell's row holds its content
unfoldable pub write_cells : List ℕ → ℕ → Store → List ℕ → List ℕ
write_cells rs zero s ws = ws
write_cells rs (suc i) s ws = cond (is_kind rs i cell_k) (valued (write_cells rs i s ws) i own (get_or s i vunit)) (write_cells rs i s ws)

-- the state of n rows whose last row is the code c: the cells' contents s, and the task t
unfoldable pub encode : List ℕ → ℕ → (c : Code) → TaskOf c → Store → List ℕ
encode rs n c t s = write_task rs (n - 1) c t (write_cells rs n s (replicate (n * state_words) 0))

-- the state of n rows whose last row failed as a whole, with the cells' contents s (CR 3)
unfoldable pub encode_failed : List ℕ → ℕ → Store → List ℕ
encode_failed rs n s = tagged (write_cells rs n s (replicate (n * state_words) 0)) (n - 1) whole
