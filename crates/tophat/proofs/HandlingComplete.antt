-- What the rules derive on handling is what `handle` answers, so an event has at most one outcome, and is refused where
-- `handle` answers none. No typing is needed. Rests on EntriesCover and NormalisingComplete.
use mathlib.Core.Path.{◌≡◌, refl, sym, ap, ◌∙◌}
use mathlib.Core.Option.{Option, none, some}
use mathlib.Core.Bool.{false}
use mathlib.Core.List.{List, [], ◌∷◌}
use Rattle.decimal.specs.Path.{Path}
use Rattle.tophat.specs.Syntax.{Ty, Code, fail, Val, Env, Store, TaskOf}
use Rattle.tophat.specs.Normalising.{value}
use Rattle.tophat.specs.Handling.{h_became, h_gate}
use Rattle.tophat.specs.Handling.{continue, left, right, Action, give, press, Handles, h_change, h_fill, h_update, h_pass_then, h_pass_next, h_next}
use Rattle.tophat.specs.Handling.{h_first_and, h_second_and, h_first_or, h_second_or, h_pick_left, h_pick_right}
use Rattle.tophat.specs.Roles.{Gate, Who, admits}
use Rattle.tophat.specs.Runs.{Refuses}
use Rattle.tophat.proofs.Basics.{no_some, some_is, apart}
use Rattle.tophat.proofs.ComputeNormalising.{settle}
use Rattle.tophat.proofs.ComputeHandling.{Taken, map_task, pass_gate, then_some, at_editor, at_mark, at_sides, at_continue, unless_failing, handle}
use Rattle.tophat.proofs.Became.{touched_alike}
use Rattle.tophat.proofs.EvaluationAgrees.{at_get_d}
use Rattle.tophat.proofs.TaskEvaluationAgrees.{evaluate_is}
use Rattle.tophat.proofs.NormalisingComplete.{fails_is, normalises_is}
use Rattle.tophat.proofs.Leaves.{type_of_lem, gives_given}
use Rattle.tophat.proofs.EntriesCover.{valued_no_continue}

-- a 44 passes what its A takes: where A takes Continue, it has no value
passes : {X : Type 0} {q : Option X} {r : X} (p : Path) (x : Action) (o : Option Val) (f : Val → Option X)
    → ((v : Val) → o ≡ some v → p ≡ [] → x ≡ press continue → ⊥) → q ≡ some r → at_continue p x o f (λ _. q) ≡ some r
unfolding at_continue
passes [] (give ls) o f n h = h
passes [] (press continue) none f n h = h
passes [] (press continue) (some v) f n h = absurd (n v refl refl refl)
passes [] (press left) o f n h = h
passes [] (press right) o f n h = h
passes (m ∷ p) x o f n h = h

no_continue : (c : Code) (ρ : Env) (s : Store) (t : TaskOf c) (p : Path) (x : Action) {r : Taken (TaskOf c)} {v : Val} → handle c ρ s t p x ≡ some r → value c t s ≡ some v → p ≡ [] → x ≡ press continue → ⊥
no_continue c ρ s t p x h e k l = no_some (sym (valued_no_continue c ρ s t e) ∙ (rw (k, l) at h))

-- a derived handling is what `handle` answers
pub handles_is : {c : Code} {ρ : Env} {s s₁ : Store} {t t₁ : TaskOf c} {p : Path} {x : Action} {gs : List Gate} → Handles c ρ s t p x t₁ s₁ gs → handle c ρ s t p x ≡ some (t₁, s₁, gs)
unfolding handle then_some map_task pass_gate at_editor at_mark at_sides at_continue unless_failing settle
handles_is (h_change h g) = let e = type_of_lem h in let f = gives_given g in rw (e, f)
handles_is (h_fill g) = let f = gives_given g in rw f
handles_is (h_update d h g) = let k = at_get_d d in let e = type_of_lem h in let f = gives_given g in rw (k, e, f)
handles_is (h_pass_then d) = let e = handles_is d in rw e
handles_is (h_pass_next {ρ = ρ} {s = s} {a = a} {t = t} {p = p} {x = x} d) =
    let e = handles_is d in
    passes p x (value a t s) _ (λ v. no_continue a ρ s t p x e) (rw e)
handles_is (h_next h d f) = let (e, o) = evaluate_is d in let k = fails_is f in rw (h, e, o, k)
handles_is (h_first_and d) = let e = handles_is d in rw e
handles_is (h_second_and d) = let e = handles_is d in rw e
handles_is (h_first_or d) = let e = handles_is d in rw e
handles_is (h_second_or d) = let e = handles_is d in rw e
handles_is (h_pick_left d n f) = let (e, o) = evaluate_is d in let k = normalises_is n in let l = fails_is f in rw (e, k, o, l)
handles_is (h_pick_right d n f) = let (e, o) = evaluate_is d in let k = normalises_is n in let l = fails_is f in rw (e, k, o, l)
handles_is (h_became {s = s} {u = u} {p = p} {x = x} b d) = let q = ap (λ f. f p x) ((touched_alike b).handles s u) in let e = handles_is d in rw (q, e)
handles_is (h_gate d) = let e = handles_is d in rw e

-- an event has at most one outcome
pub handles_one : {c : Code} {ρ : Env} {s s₁ s₂ : Store} {t t₁ t₂ : TaskOf c} {p : Path} {x : Action} {gs hs : List Gate}
    → Handles c ρ s t p x t₁ s₁ gs → Handles c ρ s t p x t₂ s₂ hs → (t₁ ≡ t₂) × (s₁ ≡ s₂) × (gs ≡ hs)
handles_one {c} {s₁ = s₁} {s₂ = s₂} {t₁ = t₁} {t₂ = t₂} {gs = gs} {hs = hs} d e =
    let h = handles_is d in
    let k = handles_is e in
    let p : ◌≡◌ {A = Taken (TaskOf c)} (t₁, s₁, gs) (t₂, s₂, hs) = cc in
    (ap (λ r. r.0) p, ap (λ r. r.1) p, ap (λ r. r.2) p)

-- an event that `handle` does not take is refused, whoever touches
pub refuses : (w : Who) (c : Code) (s : Store) (t : TaskOf c) (p : Path) (x : Action) → handle c [] s t p x ≡ none → Refuses w c t s p x
refuses w c s t p x h = λ t₁ s₁ gs d a. no_some (sym h ∙ handles_is d)

-- and one that it takes, where a row of kind 50 passed does not admit them
pub keeps_out : (w : Who) (c : Code) (s : Store) (t : TaskOf c) (p : Path) (x : Action) {q : Taken (TaskOf c)} → handle c [] s t p x ≡ some q → admits w q.2 ≡ false → Refuses w c t s p x
keeps_out w c s t p x h n = λ t₁ s₁ gs d a. apart a (ap (λ r. admits w r.2) (some_is (sym (handles_is d) ∙ h)) ∙ n)

-- 45 takes no event
pub fail_refuses : {τ : Ty} {ρ : Env} {s s₁ : Store} {t t₁ : TaskOf (fail τ)} {p : Path} {x : Action} {gs : List Gate} → Handles (fail τ) ρ s t p x t₁ s₁ gs → ⊥
unfolding handle
fail_refuses d = no_some (handles_is d)
