-- What the grounds leave of an accepted flow's rows, in one record. Rests on GroundZero, Named, Binders, TaskFoot, LowWords and Moves.
use mathlib.Core.Path.{◌≡◌}
use mathlib.Core.Bool.{true}
use mathlib.Core.List.{List}
use Prim.Native.Nat.{ℕ, ◌-◌, ◌<◌, ◌≤◌}
use native.Mathlib.Omega.{arith}
use Rattle.match_laws.proofs.Ranges.{and_left, and_right}
use Rattle.tophat.specs.Syntax.{Code, moves}
use Rattle.rows.specs.Rows.{every, row_listed, named_once, last_fits, movers, LowWords}
use Rattle.rows.specs.Fits.{FitsCode}
use Rattle.rows.specs.Accepted.{AcceptedRows}
use Rattle.rows.specs.Ground.{Small, passes3, passes5, ground_of_rows}
use Rattle.tophat.specs.Showing.{MarksFit}
use Rattle.rows.proofs.Basics.{every_at}
use Rattle.rows.proofs.Exists.{Sorted}
use Rattle.rows.proofs.Most.{of_small}
use Rattle.rows.proofs.Named.{NamedOnce}
use Rattle.rows.proofs.Binders.{code_fits, code_marks}
use Rattle.rows.proofs.TaskFoot.{Splits, splits}
use Rattle.rows.proofs.LowWords.{Listed, low_words}
use Rattle.rows.proofs.Moves.{moves_are}
use Rattle.rows.proofs.GroundZero.{sorted_of, zero_flow}

-- of rows whose last row reads as the code c
pub record Facts (rs : List ℕ) (n : ℕ) (c : Code) : Type 0 where
  pub listed : Listed rs n
  pub sorted : Sorted rs n
  pub named : NamedOnce rs n
  pub last : last_fits rs (n - 1) ≡ true
  pub small : Small rs n
  pub low : (i : ℕ) → i < n → LowWords rs i
  pub binders : FitsCode 0 c
  pub marks : MarksFit 0 c
  pub apart : Splits rs (n - 1) c
  pub moving : moves c ≡ movers rs n

pub facts : {rs : List ℕ} {n : ℕ} (a : AcceptedRows rs n) → Facts rs n a.code
unfolding passes3 passes5
facts {rs} {n} a =
    let l = a.some in
    let (p, k, f) = zero_flow rs n l a.ground_is in
    let g = every_at n (λ i. row_listed rs i) p.listed in
    let q = sorted_of rs n p.sorted in
    let t = every_at n (λ i. named_once rs n i) (and_left _ _ p.named) in
    let six = of_small rs n q k in
    record {
      listed = g;
      sorted = q;
      named = t;
      last = and_right (every n (λ i. named_once rs n i)) _ p.named;
      small = k;
      low = low_words rs n g q;
      binders = code_fits rs n q six (omega arith) a.flow.code;
      marks = code_marks rs n q six (omega arith) a.flow.code;
      apart = splits rs n q t (omega arith) a.flow.code;
      moving = moves_are rs n l q t a.flow.code;
    }

-- rows that get 0 are an accepted flow
pub accepted : (rs : List ℕ) (n : ℕ) → 1 ≤ n → ground_of_rows rs n ≡ 0 → AcceptedRows rs n
accepted rs n l h =
    let f = (zero_flow rs n l h).2 in
    record { some = l; ground_is = h; code = f.code; cells = f.cells; store = f.store; type = f.type; flow = f.flow }
