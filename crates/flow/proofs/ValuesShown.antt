-- THE PROMISE ON VALUES: a look at a rest of an accepted flow that answers 0 with the value flag 1 leaves in its value memory the words of a
-- value of the flow's own type. Said of `look_call`, which the contracts of `look`, `fill` and the export are equations with. Rests on the calls'
-- theorem (`stands`) and on tophat's value_type.
use mathlib.Core.Path.{◌≡◌, refl, subst}
use mathlib.Core.Option.{Option}
use mathlib.Core.List.{List}
use Prim.Native.Nat.{ℕ}
use native.Mathlib.Omega.{arith}
use lib.IntN.{ℤ}
use Rattle.tophat.specs.Syntax.{Ty, Code, Val}
use Rattle.tophat.specs.Normalising.{value}
use Rattle.tophat.proofs.Preservation.{OptionType, o_none, o_some, value_type}
use Rattle.call_definitions.specs.Memory.{LookAnswer, value_memory, has_one}
use Rattle.call_definitions.specs.States.{FlowState, value_in}
use Rattle.call_definitions.specs.Answers.{AcceptedFlow, Writes, as_task, as_failed, IsRest, LookAnswers, look_shut, look_8, look_24, look_0}
use Rattle.call_definitions.specs.Calls.{look_call}
use Rattle.call_definitions.proofs.Flows.{flow_one}
use Rattle.call_definitions.proofs.Grounds.{shut_not_0}
use Rattle.call_definitions.proofs.Standing.{stands}
use Rattle.flow.specs.Values.{HoldsValue}

-- a state's value is of the flow's type
typed_value : {rows ws : List ℤ} {c : Code} {Σ : List Ty} {τ : Ty} {z : FlowState} → Writes rows ws c Σ τ z → OptionType (value_in z) τ
unfolding value
typed_value (as_task w) = value_type w.typed w.stored
typed_value (as_failed f o e) = o_none

held : {o : Option Val} {τ : Ty} → OptionType o τ → has_one o ≡ 1 → HoldsValue τ (value_memory o)
unfolding has_one
held o_none h = absurd (omega (arith, h))
held (o_some {v = v} k) h = record { value = v; typed = k; words = refl }

module _ {rows ws : List ℤ} {c : Code} {Σ : List Ty} {τ : Ty} (a : AcceptedFlow rows c Σ τ) where
  looked_holds : {role : ℕ} {values : List ℤ} {list : List ℕ} {r : LookAnswer} → LookAnswers rows ws role values list r → r.number ≡ 0 → r.has_value ≡ 1 → HoldsValue τ r.value
  looked_holds (look_shut d) e h = absurd (shut_not_0 d e)
  looked_holds (look_8 b r l n) e h = absurd (omega (arith, e))
  looked_holds (look_24 b r l i d m) e h = absurd (omega (arith, e))
  looked_holds (look_0 b r l i d m f) e h = let q = (flow_one b a).type in subst (λ υ. HoldsValue υ (value_memory (value_in r.state))) q (held (typed_value r.writes) h)

  pub look_holds : IsRest rows ws c Σ τ → (role : ℕ) (values : List ℤ) (list : List ℕ)
      → (look_call rows ws role values list).number ≡ 0 → (look_call rows ws role values list).has_value ≡ 1 → HoldsValue τ (look_call rows ws role values list).value
  look_holds z role values list e h = looked_holds ((stands a z).looked role values list) e h
