-- Quiet tasks (CR 1), which are those that show no entry to anyone (proofs/EntriesQuiet). A task that fails is quiet; a quiet one need not fail:
-- the list shown speaks of the one, the failing flag of the other. Rests on Normalising.
-- Believed.
use Rattle.std.specs.Prelude.{◌≡◌, true, ◌∷◌}
use Rattle.std.proofs.Math.Option.{none, some}
use Rattle.tophat.specs.Syntax.{Ty, Exp, Code, then, next, fail, and, or, xor, view, Val, Env, Store}
use Rattle.tophat.specs.Syntax.{TaskOf, before, both, either, unpicked}
use Rattle.tophat.specs.Normalising.{value, Wraps, Fails, RightFails}

-- `Quiet c ρ s t`: t in s is quiet. CR 1: "45, 49, a 46 or 47 of quiet parts, a 43 with quiet A, a 44 with quiet A whose Continue is not
-- takable, or a failing 48"
pub data Quiet : (c : Code) → Env → Store → TaskOf c → Type 0 where
  q_fail : {ρ : Env} {s : Store} {τ : Ty} {t : TaskOf (fail τ)} → Quiet (fail τ) ρ s t
  q_view : {ρ : Env} {s : Store} {e : Exp} {t : TaskOf (view e)} → Quiet (view e) ρ s t
  q_and : {ρ : Env} {s : Store} {a b : Code} {t : TaskOf a} {u : TaskOf b}
      → Quiet a ρ s t → Quiet b ρ s u → Quiet (and a b) ρ s (both t u)
  q_or : {ρ : Env} {s : Store} {a b : Code} {t : TaskOf a} {u : TaskOf b}
      → Quiet a ρ s t → Quiet b ρ s u → Quiet (or a b) ρ s (either t u)
  q_then : {ρ : Env} {s : Store} {a b : Code} {t : TaskOf a} → Quiet a ρ s t → Quiet (then a b) ρ s (before t)
  -- Continue is not takable: A has no value, or B, evaluated under it, fails
  q_next_none : {ρ : Env} {s : Store} {a b : Code} {t : TaskOf a}
      → Quiet a ρ s t → value a t s ≡ none → Quiet (next a b) ρ s (before t)
  q_next_fails : {ρ : Env} {s : Store} {a b : Code} {t : TaskOf a} {v : Val}
      → Quiet a ρ s t → value a t s ≡ some v → RightFails b (v ∷ ρ) s true → Quiet (next a b) ρ s (before t)
  q_xor : {ρ : Env} {s : Store} {a b : Code} → Fails (xor a b) ρ s unpicked true → Quiet (xor a b) ρ s unpicked
  -- what has been taken, named or picked, and 25 and 31, is quiet as the task that it became, and 50 as its own
  q_wraps : {ρ ρ₁ : Env} {s : Store} {c c₁ : Code} {K : TaskOf c₁ → TaskOf c} {u : TaskOf c₁}
      → Wraps c ρ c₁ ρ₁ K → Quiet c₁ ρ₁ s u → Quiet c ρ s (K u)
