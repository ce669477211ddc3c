-- What the rules derive on normalising: at most one stride more than the code has rows of kind 43 and 47; it ends at a rest, which
-- normalises to itself in one; and it does not change whether a task fails. Typed or not. Rests on NormalisingComplete and FailingKept.
use mathlib.Core.Path.{◌≡◌, sym, ◌∙◌}
use mathlib.Core.Bool.{Bool, false}
use mathlib.Core.Option.{some}
use Prim.Native.Nat.{ℕ, ◌+◌, ◌≤◌, ◌<◌}
use native.Mathlib.Omega.{arith}
use Rattle.tophat.specs.Syntax.{moves, Code, Val, Env, Store, TaskOf}
use Rattle.tophat.specs.Normalising.{value, Fails, Strides, Normalises, n_done, n_repeat}
use Rattle.tophat.proofs.ComputeNormalising.{remaining, normalise}
use Rattle.tophat.proofs.NormalisingComplete.{repeat_fewer, fails_is, strides_as, normalises_is, normalises_one}
use Rattle.tophat.proofs.Progress.{remaining_moves}
use Rattle.tophat.proofs.FailingKept.{value_lives, stride_failing, normalise_failing, normalise_lives}

-- the last stride counts
pub normalises_counted : {c : Code} {ρ : Env} {s s₁ : Store} {t t₁ : TaskOf c} {n : ℕ} → Normalises c ρ s t t₁ s₁ n → 1 ≤ n
normalises_counted (n_done d) = omega arith
normalises_counted (n_repeat d x r) = omega arith

-- at most one more than the rows of kind 43 and 47 that can still move
pub normalises_few : {c : Code} {ρ : Env} {s s₁ : Store} {t t₁ : TaskOf c} {n : ℕ} → Normalises c ρ s t t₁ s₁ n → n ≤ 1 + remaining c t
normalises_few (n_done d) = omega arith
normalises_few (n_repeat {ρ = ρ} {c = c} d x r) = let h = repeat_fewer c ρ (strides_as d) x in let k = normalises_few r in omega arith

-- at most one more than the rows of kind 43 and 47
pub normalises_bound : {c : Code} {ρ : Env} {s s₁ : Store} {t t₁ : TaskOf c} {n : ℕ} → Normalises c ρ s t t₁ s₁ n → n ≤ 1 + moves c
normalises_bound {c} {t = t} d = let h = normalises_few d in let k = remaining_moves c t in omega arith

-- a normal form is a rest: a stride changes nothing
pub normal_still : {c : Code} {ρ : Env} {s s₁ : Store} {t t₁ : TaskOf c} {n : ℕ} → Normalises c ρ s t t₁ s₁ n → Strides c ρ s₁ t₁ t₁ s₁
normal_still (n_done d) = d
normal_still (n_repeat d x r) = normal_still r

-- it normalises to itself, in one stride
pub normal_rest : {c : Code} {ρ : Env} {s s₁ : Store} {t t₁ : TaskOf c} {n : ℕ} → Normalises c ρ s t t₁ s₁ n → Normalises c ρ s₁ t₁ t₁ s₁ 1
normal_rest d = n_done (normal_still d)

-- and to nothing else
pub rest_normal : {c : Code} {ρ : Env} {s s₁ : Store} {t t₁ : TaskOf c} {n : ℕ} → Strides c ρ s t t s → Normalises c ρ s t t₁ s₁ n → (t₁ ≡ t) × (s₁ ≡ s) × (n ≡ 1)
rest_normal d e = normalises_one e (n_done d)

-- so normalising a normal form counts 1 and changes nothing
pub normalise_normal : {c : Code} {ρ : Env} {s s₁ : Store} {t t₁ : TaskOf c} {n : ℕ} → Normalises c ρ s t t₁ s₁ n → normalise c ρ s₁ t₁ ≡ (t₁, s₁, 1)
normalise_normal d = normalises_is (normal_rest d)

-- a task with a value does not fail
pub value_not_fails : {c : Code} {ρ : Env} {s : Store} {t : TaskOf c} {v : Val} {x : Bool} → value c t s ≡ some v → Fails c ρ s t x → x ≡ false
value_not_fails {c} {ρ} {s} {t} {v} e d = sym (fails_is d) ∙ value_lives c ρ s t v e

-- a stride does not change whether a task fails
pub strides_fails : {c : Code} {ρ : Env} {s s₁ : Store} {t t₁ : TaskOf c} {x y : Bool} → Strides c ρ s t t₁ s₁ → Fails c ρ s t x → Fails c ρ s₁ t₁ y → x ≡ y
strides_fails {c} {ρ} {s} {t = t} d p q =
    let (m, e) = strides_as d in
    let k = rw e at (stride_failing c ρ s t) in
    sym (fails_is p) ∙ sym k ∙ fails_is q

-- nor does normalising
pub normalises_fails : {c : Code} {ρ : Env} {s s₁ : Store} {t t₁ : TaskOf c} {n : ℕ} {x y : Bool} → Normalises c ρ s t t₁ s₁ n → Fails c ρ s t x → Fails c ρ s₁ t₁ y → x ≡ y
normalises_fails {c} {ρ} {s} {t = t} d p q =
    let e = normalises_is d in
    let k = rw e at (normalise_failing c ρ s t) in
    sym (fails_is p) ∙ sym k ∙ fails_is q

-- what took more than one stride does not fail
pub normalises_not_fails : {c : Code} {ρ : Env} {s s₁ : Store} {t t₁ : TaskOf c} {n : ℕ} {x : Bool} → Normalises c ρ s t t₁ s₁ n → 1 < n → Fails c ρ s₁ t₁ x → x ≡ false
normalises_not_fails {c} {ρ} {s} {t = t} d l q =
    let e = normalises_is d in
    let k = rw e at (normalise_lives c ρ s t) in
    sym (fails_is q) ∙ k l
