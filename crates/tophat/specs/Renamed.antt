-- Cells renamed: a code that names the cell π n where another names n, its running tasks, and stores that hold at π n what another holds
-- at n. A running task names no cell, so its contents stay as they are. proofs/Renaming shows that such codes compute alike. Rests on Typing.
-- Believed, but for `SameTypes`, which the laws on trees name (proofs/RenamingTyped).
use Rattle.std.specs.Prelude.{◌≡◌, List, ℕ, ◌<◌, length, get_or}
use Rattle.tophat.specs.Syntax.{Ty, Exp, eunit, etruth, enumber, ebinder, eop, eif, epair, efst, esnd, ederef, eassign, elet}
use Rattle.tophat.specs.Syntax.{Code, edit, enter, update, then, next, fail, and, or, xor, view, gate, if, let', vunit, Store}
use Rattle.tophat.specs.Syntax.{TaskOf, before, after, both, either, or_left, or_right, unpicked, picked_left, picked_right, gated, if_true, if_false, bound}
use Rattle.tophat.specs.Typing.{At}

-- an expression with its cells renamed
abbrev pub renamed_exp : (ℕ → ℕ) → Exp → Exp
renamed_exp π eunit = eunit
renamed_exp π (etruth b) = etruth b
renamed_exp π (enumber n) = enumber n
renamed_exp π (ebinder i) = ebinder i
renamed_exp π (eop o a b) = eop o (renamed_exp π a) (renamed_exp π b)
renamed_exp π (eif e a b) = eif (renamed_exp π e) (renamed_exp π a) (renamed_exp π b)
renamed_exp π (epair a b) = epair (renamed_exp π a) (renamed_exp π b)
renamed_exp π (efst a) = efst (renamed_exp π a)
renamed_exp π (esnd a) = esnd (renamed_exp π a)
renamed_exp π (ederef n) = ederef (π n)
renamed_exp π (eassign n a) = eassign (π n) (renamed_exp π a)
renamed_exp π (elet a b) = elet (renamed_exp π a) (renamed_exp π b)

-- a code with its cells renamed
abbrev pub renamed : (ℕ → ℕ) → Code → Code
renamed π (edit e) = edit (renamed_exp π e)
renamed π (enter τ) = enter τ
renamed π (update n) = update (π n)
renamed π (then a b) = then (renamed π a) (renamed π b)
renamed π (next a b) = next (renamed π a) (renamed π b)
renamed π (fail τ) = fail τ
renamed π (and a b) = and (renamed π a) (renamed π b)
renamed π (or a b) = or (renamed π a) (renamed π b)
renamed π (xor a b) = xor (renamed π a) (renamed π b)
renamed π (view e) = view (renamed_exp π e)
renamed π (gate r n b) = gate r n (renamed π b)
renamed π (if e a b) = if (renamed_exp π e) (renamed π a) (renamed π b)
renamed π (let' e b) = let' (renamed_exp π e) (renamed π b)

-- a running task, the same, as one of the renamed code
unfoldable pub renamed_task : (π : ℕ → ℕ) (c : Code) → TaskOf c → TaskOf (renamed π c)
renamed_task π (edit e) t = t
renamed_task π (enter τ) t = t
renamed_task π (update n) t = t
renamed_task π (then a b) (before t) = before (renamed_task π a t)
renamed_task π (then a b) (after v u) = after v (renamed_task π b u)
renamed_task π (next a b) (before t) = before (renamed_task π a t)
renamed_task π (next a b) (after v u) = after v (renamed_task π b u)
renamed_task π (fail τ) t = t
renamed_task π (and a b) (both t u) = both (renamed_task π a t) (renamed_task π b u)
renamed_task π (or a b) (either t u) = either (renamed_task π a t) (renamed_task π b u)
renamed_task π (or a b) (or_left t) = or_left (renamed_task π a t)
renamed_task π (or a b) (or_right u) = or_right (renamed_task π b u)
renamed_task π (xor a b) unpicked = unpicked
renamed_task π (xor a b) (picked_left t) = picked_left (renamed_task π a t)
renamed_task π (xor a b) (picked_right u) = picked_right (renamed_task π b u)
renamed_task π (view e) t = t
renamed_task π (gate r n b) (gated k u) = gated k (renamed_task π b u)
renamed_task π (if e a b) (if_true t) = if_true (renamed_task π a t)
renamed_task π (if e a b) (if_false u) = if_false (renamed_task π b u)
renamed_task π (let' e b) (bound v u) = bound v (renamed_task π b u)

-- every cell that the expression names is in P
abbrev pub NamesExp : (ℕ → Type 0) → Exp → Type 0
NamesExp P eunit = Unit {0}
NamesExp P (etruth b) = Unit {0}
NamesExp P (enumber n) = Unit {0}
NamesExp P (ebinder i) = Unit {0}
NamesExp P (eop o a b) = NamesExp P a × NamesExp P b
NamesExp P (eif e a b) = NamesExp P e × NamesExp P a × NamesExp P b
NamesExp P (epair a b) = NamesExp P a × NamesExp P b
NamesExp P (efst a) = NamesExp P a
NamesExp P (esnd a) = NamesExp P a
NamesExp P (ederef n) = P n
NamesExp P (eassign n a) = P n × NamesExp P a
NamesExp P (elet a b) = NamesExp P a × NamesExp P b

-- every cell that the code names is in P
abbrev pub CellsIn : (ℕ → Type 0) → Code → Type 0
CellsIn P (edit e) = NamesExp P e
CellsIn P (enter τ) = Unit {0}
CellsIn P (update n) = P n
CellsIn P (then a b) = CellsIn P a × CellsIn P b
CellsIn P (next a b) = CellsIn P a × CellsIn P b
CellsIn P (fail τ) = Unit {0}
CellsIn P (and a b) = CellsIn P a × CellsIn P b
CellsIn P (or a b) = CellsIn P a × CellsIn P b
CellsIn P (xor a b) = CellsIn P a × CellsIn P b
CellsIn P (view e) = NamesExp P e
CellsIn P (gate r n b) = CellsIn P b
CellsIn P (if e a b) = NamesExp P e × CellsIn P a × CellsIn P b
CellsIn P (let' e b) = NamesExp P e × CellsIn P b

-- no two cells of P get one name
abbrev pub Apart : (ℕ → ℕ) → (ℕ → Type 0) → Type 0
Apart π P = (j k : ℕ) → P j → P k → π j ≡ π k → j ≡ k

-- s₁ holds at π k what s holds at k, for the cells in P; of the rest, and of the lengths, nothing is said
pub record Agrees (π : ℕ → ℕ) (P : ℕ → Type 0) (s s₁ : Store) : Type 0 where
  pub content : (k : ℕ) → P k → get_or s₁ (π k) vunit ≡ get_or s k vunit
  pub inside : (k : ℕ) → P k → k < length s
  pub inside₁ : (k : ℕ) → P k → π k < length s₁

-- Σ₁ has at π k the type that Σ has at k, for the cells in P
pub record SameTypes (π : ℕ → ℕ) (P : ℕ → Type 0) (Σ Σ₁ : List Ty) : Type 0 where
  pub cell : (k : ℕ) (τ : Ty) → P k → At Σ k τ → At Σ₁ (π k) τ
