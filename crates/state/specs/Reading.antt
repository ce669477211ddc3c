-- Which words are the writing of a state (01, ground 22): `decode` reads the cells and the task of the last row from them,
-- each content by its row's type, and asks that nothing else stands there. Rests on Layout, on Words and on typing.
-- For contracts only: tied to the rules by `decode_sound` and `decode_is` (proofs/Reading).
use Rattle.std.specs.Prelude.{Bool, true, false, ◌&&◌, cond, List, [], ◌∷◌, ◌++◌, ℕ, zero, suc, ◌-◌, eqb, leb}
use Rattle.std.proofs.Math.Option.{Option, none, some, bind}
use Rattle.tophat.specs.Syntax.{Ty, number, Code, edit, enter, update, then, next, fail, and, or, xor, view, gate, if, let', Val, vunit, Store}
use Rattle.tophat.specs.Syntax.{TaskOf, filled, blank, entered, shared, before, after, failed, both, either, or_left, or_right, unpicked, picked_left, picked_right, gated, if_true, if_false, bound}
use Rattle.tophat.proofs.ComputeTyping.{infer, infer_task}
use Rattle.shape.specs.Shape.{as_shape}
use Rattle.value.specs.Fits.{value_in}
use Rattle.rows.specs.Kinds.{cell_k}
use Rattle.rows.specs.Rows.{op_a, op_b, op_c, is_kind}
use Rattle.rows.specs.ComputeTrees.{cell_type}
use Rattle.state.specs.Layout.{at, own, one, other, encode}
use Rattle.state.specs.Words.{value_at}

-- the value of the type that row i holds
unfoldable pub read_value : List ℕ → ℕ → Ty → Option Val
read_value ws i τ = value_in (value_at ws i) τ

-- the touches left that row i holds, at most n (CR 6)
unfoldable pub read_touches : List ℕ → ℕ → ℕ → Option ℕ
read_touches ws i n = cond (eqb (at ws i 1) (as_shape number) && leb (at ws i 2) n) (some (at ws i 2)) none

-- one of three readings, by the row's tag
unfoldable pub by_tag : {X : Type 0} → List ℕ → ℕ → Option X → Option X → Option X → Option X
by_tag ws i x y z = cond (eqb (at ws i 0) own) x (cond (eqb (at ws i 0) one) y (cond (eqb (at ws i 0) other) z none))

-- the task of row i, under binders of the types Γ
unfoldable pub read_task : List ℕ → List ℕ → List Ty → List Ty → ℕ → (c : Code) → Option (TaskOf c)
read_task rs ws Σ Γ i (edit e) = by_tag ws i (bind (infer Σ Γ e) λ τ. bind (read_value ws i τ) λ v. some (filled v)) none none
read_task rs ws Σ Γ i (enter τ) = by_tag ws i (some blank) (bind (read_value ws i τ) λ v. some (entered v)) none
read_task rs ws Σ Γ i (update n) = by_tag ws i (some shared) none none
read_task rs ws Σ Γ i (then a b) = by_tag ws i
    (bind (read_task rs ws Σ Γ (op_a rs i) a) λ t. some (before t))
    (bind (infer_task Σ Γ a) λ τ. bind (read_value ws i τ) λ v. bind (read_task rs ws Σ (τ ∷ Γ) (op_b rs i) b) λ u. some (after v u))
    none
read_task rs ws Σ Γ i (next a b) = by_tag ws i
    (bind (read_task rs ws Σ Γ (op_a rs i) a) λ t. some (before t))
    (bind (infer_task Σ Γ a) λ τ. bind (read_value ws i τ) λ v. bind (read_task rs ws Σ (τ ∷ Γ) (op_b rs i) b) λ u. some (after v u))
    none
read_task rs ws Σ Γ i (fail τ) = by_tag ws i (some failed) none none
read_task rs ws Σ Γ i (and a b) = by_tag ws i
    (bind (read_task rs ws Σ Γ (op_a rs i) a) λ t. bind (read_task rs ws Σ Γ (op_b rs i) b) λ u. some (both t u)) none none
read_task rs ws Σ Γ i (or a b) = by_tag ws i
    (bind (read_task rs ws Σ Γ (op_a rs i) a) λ t. bind (read_task rs ws Σ Γ (op_b rs i) b) λ u. some (either t u))
    (bind (read_task rs ws Σ Γ (op_a rs i) a) λ t. some (or_left t))
    (bind (read_task rs ws Σ Γ (op_b rs i) b) λ u. some (or_right u))
read_task rs ws Σ Γ i (xor a b) = by_tag ws i
    (some unpicked)
    (bind (read_task rs ws Σ Γ (op_a rs i) a) λ t. some (picked_left t))
    (bind (read_task rs ws Σ Γ (op_b rs i) b) λ u. some (picked_right u))
read_task rs ws Σ Γ i (view e) = by_tag ws i (bind (infer Σ Γ e) λ τ. bind (read_value ws i τ) λ v. some (filled v)) none none
read_task rs ws Σ Γ i (gate r n b) = by_tag ws i (bind (read_touches ws i n) λ k. bind (read_task rs ws Σ Γ (op_b rs i) b) λ u. some (gated k u)) none none
read_task rs ws Σ Γ i (if e a b) = by_tag ws i
    none
    (bind (read_task rs ws Σ Γ (op_b rs i) a) λ t. some (if_true t))
    (bind (read_task rs ws Σ Γ (op_c rs i) b) λ u. some (if_false u))
read_task rs ws Σ Γ i (let' e b) = by_tag ws i
    none
    (bind (infer Σ Γ e) λ τ. bind (read_value ws i τ) λ v. bind (read_task rs ws Σ (τ ∷ Γ) (op_b rs i) b) λ u. some (bound v u))
    none

-- the content of row i: a cell's value, unit at any other row
abbrev pub cell_at : List ℕ → List ℕ → ℕ → Option Val
cell_at rs ws i = cond (is_kind rs i cell_k) (read_value ws i (cell_type rs i)) (some vunit)

-- the contents of the first n rows
unfoldable pub read_store : List ℕ → List ℕ → ℕ → Option Store
read_store rs ws zero = some []
read_store rs ws (suc i) = bind (read_store rs ws i) λ s. bind (cell_at rs ws i) λ v. some (s ++ v ∷ [])

unfoldable pub same : List ℕ → List ℕ → Bool
same [] [] = true
same [] (y ∷ ys) = false
same (x ∷ xs) [] = false
same (x ∷ xs) (y ∷ ys) = eqb x y && same xs ys

-- the state that the words of n rows write, whose last row is the code c and whose cells have the types Σ
unfoldable pub decode : List ℕ → ℕ → (c : Code) → List Ty → List ℕ → Option (TaskOf c × Store)
decode rs n c Σ ws =
    bind (read_store rs ws n) λ s.
    bind (read_task rs ws Σ [] (n - 1) c) λ t.
    cond (same (encode rs n c t s) ws) (some (t, s)) none
