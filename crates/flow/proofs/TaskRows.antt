-- The code of rows that keep the naming rule has no more task rows than there are rows, so that 256 entries are the most.
-- Rests on Totals of crate rows.
use mathlib.Core.Path.{refl}
use mathlib.Core.Option.{Option, none, some}
use mathlib.Core.List.{List}
use Prim.Native.Nat.{ℕ, zero, suc, ◌≤◌}
use native.Mathlib.Omega.{arith}
use Rattle.tophat.specs.Syntax.{Code, edit, enter, update, then, next, fail, and, or, xor, view, gate, if, let', task_rows}
use Rattle.rows.specs.ComputeTrees.{code_at}
use Rattle.rows.proofs.TreeSum.{sum_to}
use Rattle.rows.proofs.Totals.{parts, Adds, of, share_at, total_is}
use Rattle.rows.specs.Accepted.{AcceptedRows}
use Rattle.rows.proofs.Accepted.{facts}

-- each task row counts 1
abbrev one : Code → ℕ
one c = 1

adds : Adds task_rows one
unfolding task_rows parts
adds (edit x) = refl
adds (enter τ) = refl
adds (update k) = refl
adds (then a b) = omega arith
adds (next a b) = omega arith
adds (fail τ) = refl
adds (and a b) = omega arith
adds (or a b) = omega arith
adds (xor a b) = omega arith
adds (view x) = refl
adds (gate r n b) = omega arith
adds (if x a b) = omega arith
adds (let' x b) = omega arith

one_most : (o : Option Code) → of one o ≤ 1
unfolding of
one_most none = omega arith
one_most (some c) = omega arith

share_most : (rs : List ℕ) (n i : ℕ) → share_at task_rows one adds rs n i ≤ 1
unfolding share_at
share_most rs n i = one_most (code_at rs n i)

sum_most : (n : ℕ) (f : ℕ → ℕ) → ((i : ℕ) → f i ≤ 1) → sum_to n f ≤ n
unfolding sum_to
sum_most zero f h = omega arith
sum_most (suc n) f h = let a = sum_most n f h in let b = h n in omega (arith, a, b)

-- in accepted rows
pub task_rows_few : (rs : List ℕ) (n : ℕ) (a : AcceptedRows rs n) → 1 ≤ n → task_rows a.code ≤ n
task_rows_few rs n a l =
    let e = total_is task_rows one adds rs n l (facts a).sorted (facts a).named a.flow.code in
    let m = sum_most n (share_at task_rows one adds rs n) (share_most rs n) in
    omega (arith, e, m)
