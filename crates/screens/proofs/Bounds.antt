-- The numbers on a screen have at most 4 digits: grounds are at most 31, and strides at most 1 more than the rows. Rests on the
-- definitions of the calls.
use mathlib.Core.Path.{◌≡◌, subst, sym, ◌∙◌}
use mathlib.Core.Bool.{Bool, true, false, ◌&&◌, cond}
use mathlib.Core.Option.{Option, none, some}
use mathlib.Core.List.{List, []}
use Prim.Native.Nat.{ℕ, ◌*◌, ◌<◌}
use native.Mathlib.Omega.{arith}
use borrow.Table.Steps.{cases}
use lib.Dec.{eqb}
use lib.IntN.{ℤ}
use lib.ListN.{length}
use Rattle.decimal.specs.Path.{Path}
use Rattle.tophat.specs.Syntax.{Ty, Code, TaskOf, Store}
use Rattle.tophat.specs.Roles.{other_role, no_touch, of_role, touches_left, verdict}
use Rattle.tophat.specs.Handling.{Action}
use Rattle.tophat.proofs.ComputeEvaluation.{overflows_task}
use Rattle.tophat.proofs.ComputeNormalising.{stride}
use Rattle.tophat.proofs.ComputeHandling.{Taken}
use Rattle.formats.specs.Touches.{event_of}
use Rattle.rows.specs.GroundNumbers.{not_state}
use Rattle.rows.specs.Lent.{own_rows, row_count}
use Rattle.rows.proofs.Moves.{movers_few}
use Rattle.sheet.specs.Accepted.{accepts_rows}
use Rattle.sheet.proofs.AcceptedRows.{passed_of}
use Rattle.state.specs.Layout.{state_words, encode_failed}
use Rattle.state.specs.Lent.{own_of}
use Rattle.state.specs.Reading.{same}
use Rattle.call_definitions.specs.Memory.{CallAnswer, refusal}
use Rattle.call_definitions.specs.States.{FlowState, failed_state}
use Rattle.call_definitions.specs.Calls as calls
use Rattle.call_definitions.specs.Touches.{Bounded}
use Rattle.std.specs.Prelude.{Result}
use Rattle.rows.specs.declared.ground.Ground.{Ground}
use Rattle.rows.specs.GroundNumbers.{answer_number}
use Rattle.flow.specs.Starts.{strides_of, Answered}
use Rattle.screens.specs.Heads.{four_digits}

-- ---- strides

strides_few : (rows : List ℤ) (n : ℕ) → accepts_rows rows ≡ true → Bounded rows n → n < four_digits
strides_few rows n h b = let m = movers_few (own_rows rows) (row_count rows) in let k = (passed_of rows h).few in omega (arith, k, b, m)

-- ---- start

either : {A : Type 0} (P : A → Type 0) (b : Bool) (x y : A) → P x → P y → P (cond b x y)
either P true x y p q = p
either P false x y p q = q

abbrev Low : CallAnswer → Type 0
Low a = a.number < four_digits

started_low : (rows ws : List ℤ) (o : Option Code) → Low (calls.start_with rows ws o)
unfolding calls.start_with
started_low rows ws none = omega arith
started_low rows ws (some c) = either Low (overflows_task c [] (calls.first_of rows)) _ _ (omega arith) (omega arith)

start_low : (rows ws : List ℤ) → Low (calls.start_call rows ws)
unfolding calls.start_call
start_low rows ws = either Low (accepts_rows rows) _ _ (either Low (eqb (length ws) (row_count rows * state_words)) _ _ (started_low rows ws (calls.code_of rows)) (omega arith)) (omega arith)

pub start_few : (rows ws : List ℤ) (a : Result ℕ Ground) (ws₁ : List ℤ) → Answered (calls.start_call rows ws) a ws₁ → Bounded rows (strides_of a) → (answer_number a < four_digits) × (strides_of a < four_digits)
unfolding calls.start_call
start_few rows ws a ws₁ q b = (
  subst (λ n. n < four_digits) (sym q.0) (start_low rows ws),
  cases (accepts_rows rows) (λ e. strides_few rows (strides_of a) e b) (λ e. let z : strides_of a ≡ 0 = rw e at q.1 in omega (arith, z)),
)

-- ---- handle

abbrev LowGround : calls.Opened → Type 0
LowGround (calls.refused_by g) = g < four_digits
LowGround (calls.rest_of z) = Unit {0}

rest_low : (c : Code) (t : TaskOf c) (s : Store) → LowGround (calls.at_rest c t s)
unfolding calls.at_rest
rest_low c t s = either LowGround (stride c [] s t).2 _ _ (omega arith) tt

failed_low : (rows ws : List ℤ) (c : Code) (o : Option Ty) → LowGround (calls.failed_as rows ws c o)
unfolding calls.failed_as
failed_low rows ws c none = omega arith
failed_low rows ws c (some τ) =
    let held = overflows_task c [] (calls.first_of rows) && same (encode_failed (own_rows rows) (row_count rows) (calls.first_of rows)) (own_of (row_count rows) ws) in
    either LowGround held (calls.rest_of (failed_state τ (calls.first_of rows))) (calls.refused_by not_state) tt (omega arith)

decoded_low : (rows ws : List ℤ) (c : Code) (o : Option (TaskOf c × Store)) → LowGround (calls.decoded rows ws c o)
unfolding calls.decoded
decoded_low rows ws c none = failed_low rows ws c _
decoded_low rows ws c (some r) = rest_low c r.0 r.1

read_low : (rows ws : List ℤ) (o : Option Code) → LowGround (calls.read_with rows ws o)
unfolding calls.read_with
read_low rows ws none = omega arith
read_low rows ws (some c) = decoded_low rows ws c _

opened_low : (rows ws : List ℤ) (fits : Bool) → LowGround (calls.opened rows ws fits)
unfolding calls.opened
opened_low rows ws fits =
    either LowGround (accepts_rows rows) _ _
    (either LowGround (eqb (length ws) (row_count rows * state_words) && fits) _ _ (read_low rows ws (calls.code_of rows)) (omega arith)) (omega arith)

handled_low : (rows ws : List ℤ) (c : Code) (role : ℕ) (o : Option (Taken (TaskOf c))) → Low (calls.handled rows ws c role o)
unfolding calls.handled calls.settled verdict
handled_low rows ws c role none = omega arith
handled_low rows ws c role (some r) = by (of_role role r.2) (touches_left r.2)
  where
    by : (a b : Bool) → let v = cond a (cond b 0 no_touch) other_role in Low (cond (eqb v 0) (calls.settled rows c r.0 r.1) (refusal v ws))
    by true true = omega arith
    by true false = omega arith
    by false b = omega arith

read_event_low : (rows ws : List ℤ) (z : FlowState) (o : Option (ℕ × Path × Action)) → Low (calls.handle_read rows ws z o)
unfolding calls.handle_read
read_event_low rows ws z none = omega arith
read_event_low rows ws z (some e) = handled_low rows ws z.code e.0 _

handle_in_low : (rows ws : List ℤ) (e : Option (ℕ × Path × Action)) (o : calls.Opened) → LowGround o → Low (calls.handle_in rows ws e o)
unfolding calls.handle_in
handle_in_low rows ws e (calls.refused_by g) l = l
handle_in_low rows ws e (calls.rest_of z) l = read_event_low rows ws z e

-- rows that are not accepted count no stride
shut_strides : (rows ws : List ℤ) (event : List ℕ) → accepts_rows rows ≡ false → (calls.handle_call rows ws event).strides ≡ 0
unfolding calls.handle_call calls.opened calls.handle_in
shut_strides rows ws event e = rw e

pub handle_few : (rows ws : List ℤ) (event : List ℕ) (a : Result ℕ Ground) (ws₁ : List ℤ) → Answered (calls.handle_call rows ws event) a ws₁ → Bounded rows (strides_of a)
    → (answer_number a < four_digits) × (strides_of a < four_digits)
unfolding calls.handle_call
handle_few rows ws event a ws₁ q b = (
  subst (λ n. n < four_digits) (sym q.0) (handle_in_low rows ws (event_of event) (calls.opened rows ws true) (opened_low rows ws true)),
  cases (accepts_rows rows) (λ e. strides_few rows (strides_of a) e b) (λ e. let z = q.1 ∙ shut_strides rows ws event e in omega (arith, z)),
)
