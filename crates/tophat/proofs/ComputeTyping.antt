-- Typing as functions that compute: the type of a plain expression and of a task as a sheet has it, or none. Rests on
-- Syntax; TypingAgrees ties them to the rules.
use mathlib.Core.Option.{Option, none, some, bind}
use mathlib.Core.List.{List, [], ◌∷◌}
use Prim.Native.Nat.{ℕ, zero, suc}
use native.Mathlib.Decide.{dec_le}
use lib.IntN.{ℤ}
use lib.Signed.{mag}
use Rattle.word.specs.Word.{half}
use Rattle.tophat.specs.Syntax.{max_leaves, Ty, unit, truth, number, pair, Ty-discrete, leaves, Op, sum, difference, product, less, less_equal, equal, and_op, or_op}
use Rattle.tophat.specs.Syntax.{Exp, eunit, etruth, enumber, ebinder, eop, eif, epair, efst, esnd, ederef, eassign, elet}
use Rattle.tophat.specs.Syntax.{Code, edit, enter, update, then, next, fail, and, or, xor, view, gate, if, let'}

-- an answer, where something decided holds
unfoldable pub ask : {P X : Type 0} → Dec P → Option X → Option X
ask (yes p) o = o
ask (no p) o = none

unfoldable pub nth : {X : Type 0} → List X → ℕ → Option X
nth [] n = none
nth (x ∷ xs) zero = some x
nth (x ∷ xs) (suc n) = nth xs n

-- what an operator takes on both sides, and gives
unfoldable pub takes : Op → Ty
takes sum = number
takes difference = number
takes product = number
takes less = number
takes less_equal = number
takes equal = number
takes and_op = truth
takes or_op = truth

unfoldable pub gives : Op → Ty
gives sum = number
gives difference = number
gives product = number
gives less = truth
gives less_equal = truth
gives equal = truth
gives and_op = truth
gives or_op = truth

-- the steps of the functions, on the types of the parts
unfoldable pub number_to : ℤ → Option Ty
number_to n = ask (dec_le (suc (mag n)) half) (some number)

unfoldable pub op_to : Op → Ty → Ty → Option Ty
op_to o τ υ = ask (Ty-discrete τ (takes o)) (ask (Ty-discrete υ (takes o)) (some (gives o)))

unfoldable pub same_to : Ty → Ty → Option Ty
same_to τ υ = ask (Ty-discrete υ τ) (some τ)

unfoldable pub if_to : Ty → Ty → Ty → Option Ty
if_to κ τ υ = ask (Ty-discrete κ truth) (same_to τ υ)

unfoldable pub type_to : Ty → Option Ty
type_to τ = ask (dec_le (leaves τ) max_leaves) (some τ)

unfoldable pub first_to : Ty → Option Ty
first_to unit = none
first_to truth = none
first_to number = none
first_to (pair τ υ) = some τ

unfoldable pub second_to : Ty → Option Ty
second_to unit = none
second_to truth = none
second_to number = none
second_to (pair τ υ) = some υ

unfoldable pub assign_to : Ty → Ty → Option Ty
assign_to τ υ = ask (Ty-discrete υ τ) (some unit)

-- plain expressions
unfoldable pub infer : List Ty → List Ty → Exp → Option Ty
infer Σ Γ eunit = some unit
infer Σ Γ (etruth b) = some truth
infer Σ Γ (enumber n) = number_to n
infer Σ Γ (ebinder i) = nth Γ i
infer Σ Γ (eop o a b) = bind (infer Σ Γ a) λ τ. bind (infer Σ Γ b) λ υ. op_to o τ υ
infer Σ Γ (eif e a b) = bind (infer Σ Γ e) λ κ. bind (infer Σ Γ a) λ τ. bind (infer Σ Γ b) λ υ. if_to κ τ υ
infer Σ Γ (epair a b) = bind (infer Σ Γ a) λ τ. bind (infer Σ Γ b) λ υ. type_to (pair τ υ)
infer Σ Γ (efst a) = bind (infer Σ Γ a) first_to
infer Σ Γ (esnd a) = bind (infer Σ Γ a) second_to
infer Σ Γ (ederef n) = nth Σ n
infer Σ Γ (eassign n a) = bind (nth Σ n) λ τ. bind (infer Σ Γ a) λ υ. assign_to τ υ
infer Σ Γ (elet a b) = bind (infer Σ Γ a) λ τ. infer Σ (τ ∷ Γ) b

-- tasks
unfoldable pub infer_task : List Ty → List Ty → Code → Option Ty
infer_task Σ Γ (edit e) = infer Σ Γ e
infer_task Σ Γ (enter τ) = type_to τ
infer_task Σ Γ (update n) = nth Σ n
infer_task Σ Γ (then a b) = bind (infer_task Σ Γ a) λ τ. infer_task Σ (τ ∷ Γ) b
infer_task Σ Γ (next a b) = bind (infer_task Σ Γ a) λ τ. infer_task Σ (τ ∷ Γ) b
infer_task Σ Γ (fail τ) = type_to τ
infer_task Σ Γ (and a b) = bind (infer_task Σ Γ a) λ τ. bind (infer_task Σ Γ b) λ υ. type_to (pair τ υ)
infer_task Σ Γ (or a b) = bind (infer_task Σ Γ a) λ τ. bind (infer_task Σ Γ b) λ υ. same_to τ υ
infer_task Σ Γ (xor a b) = bind (infer_task Σ Γ a) λ τ. bind (infer_task Σ Γ b) λ υ. same_to τ υ
infer_task Σ Γ (view e) = infer Σ Γ e
infer_task Σ Γ (gate r n b) = infer_task Σ Γ b
infer_task Σ Γ (if e a b) = bind (infer Σ Γ e) λ κ. bind (infer_task Σ Γ a) λ τ. bind (infer_task Σ Γ b) λ υ. if_to κ τ υ
infer_task Σ Γ (let' e b) = bind (infer Σ Γ e) λ τ. infer_task Σ (τ ∷ Γ) b
