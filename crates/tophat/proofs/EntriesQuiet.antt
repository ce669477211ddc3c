-- A task shows anyone nothing exactly when it is quiet, and a task that is quiet or fails shows no role anything. Where A is quiet, a 44 is quiet exactly when no
-- handling rule derives a step for Continue. Rests on EntriesAgree, HandlingComplete and FailingKept.
use mathlib.Core.Path.{◌≡◌, refl, sym, ap₂, subst, ◌∙◌}
use mathlib.Core.Bool.{Bool, true, false, not}
use mathlib.Core.Logic.{◌↔◌}
use mathlib.Core.Option.{Option, none, some}
use mathlib.Core.List.{List, [], ◌∷◌, ◌++◌, cons≢nil}
use Rattle.decimal.specs.Path.{Mark, first, second}
use Rattle.tophat.specs.Syntax.{Ty, Code, next, xor, Val, Env, Store}
use Rattle.tophat.specs.Syntax.{TaskOf, before, unpicked}
use Rattle.tophat.specs.Typing.{At, ValueTypes, v_cons}
use Rattle.tophat.specs.Typing.{TaskType, k_then_before, k_next_before, k_both, k_either, k_unpicked, k_gated}
use Rattle.tophat.specs.Normalising.{value, w_became, w_gate, BranchFails, RightFails, r_evaluated, f_xor}
use Rattle.tophat.specs.Quiet.{Quiet, q_fail, q_view, q_and, q_or, q_then, q_next_none, q_next_fails, q_xor, q_wraps}
use Rattle.tophat.specs.Roles.{Gate, Who, anyone, opens}
use Rattle.tophat.specs.Handling.{Button, continue, left, right, press, Handles, h_next}
use Rattle.tophat.specs.Showing.{Entry, marked, offers, button_if, entries_if}
use Rattle.tophat.proofs.Basics.{apart, and_left, and_right, no_some}
use Rattle.tophat.proofs.ComputeNormalising.{failing, normalise, settle, right_fails, branch_fails}
use Rattle.tophat.proofs.ComputeEntries.{continue_if, entries}
use Rattle.tophat.proofs.Became.{alike, touched_alike, Formed, of_wraps, of_edit, of_enter, of_update, of_then, of_next, of_fail, of_and, of_or, of_xor, of_view, formed, inner}
use Rattle.tophat.proofs.FailingKept.{value_lives}
use Rattle.tophat.proofs.Preservation.{option_is, value_type}
use Rattle.tophat.proofs.NormalisingSound.{right_sound, branch_sound}
use Rattle.tophat.proofs.NormalisingComplete.{fails_is, right_is}
use Rattle.tophat.proofs.HandlingComplete.{handles_is}
use Rattle.tophat.proofs.Admitted.{admits_anyone}
use Rattle.tophat.proofs.Lights.{nowhere}
use Rattle.tophat.proofs.EntriesCover.{taken_covered}

-- ---- lists without an entry

nil_parts : {X : Type 0} (xs : List X) {ys : List X} → xs ++ ys ≡ [] → (xs ≡ []) × (ys ≡ [])
nil_parts [] e = (refl, e)
nil_parts (x ∷ xs) e = absurd (cons≢nil e)

marked_nil : (m : Mark) (es : List Entry) → (marked m es ≡ []) ↔ (es ≡ [])
unfolding marked
marked_nil m [] = (λ e. refl, λ e. refl)
marked_nil m (x ∷ es) = (λ e. absurd (cons≢nil e), λ e. absurd (cons≢nil e))

button_nil : (x : Bool) (b : Button) → (button_if (not x) b ≡ []) ↔ (x ≡ true)
unfolding button_if
button_nil true b = (λ e. refl, λ e. refl)
button_nil false b = (λ e. absurd (cons≢nil e), λ e. apart e refl)

gate_nil : {es : List Entry} (b : Bool) → es ≡ [] → entries_if b es ≡ []
unfolding entries_if
gate_nil true e = e
gate_nil false e = refl

-- of a 46 or 47
nil_marks : {es gs : List Entry} → es ≡ [] → gs ≡ [] → marked first es ++ marked second gs ≡ []
nil_marks {es} {gs} p q = ap₂ ◌++◌ ((marked_nil first es).1 p) ((marked_nil second gs).1 q)

marks_nil : (es gs : List Entry) → marked first es ++ marked second gs ≡ [] → (es ≡ []) × (gs ≡ [])
marks_nil es gs e = let (p, q) = nil_parts (marked first es) e in ((marked_nil first es).0 p, (marked_nil second gs).0 q)

nil_continue : (o : Option Val) (F : Val → Bool) → ((v : Val) → o ≡ some v → F v ≡ true) → continue_if o F ≡ []
unfolding continue_if
nil_continue none F h = refl
nil_continue (some v) F h = (button_nil (F v) continue).1 (h v refl)

-- ---- a task that fails shows nothing

none_shown : (w : Who) {c : Code} {ρ : Env} {t : TaskOf c} → Formed c ρ t → (s : Store) → failing c ρ s t ≡ true → entries w c ρ s t ≡ []
unfolding entries failing settle normalise
none_shown w (of_wraps {u = u} (w_became b) d) s h = (touched_alike b).shows w s u ∙ none_shown w d s (sym ((alike (w_became b)).fails s u) ∙ h)
none_shown w (of_wraps (w_gate {r = r} {k = k}) d) s h = gate_nil (opens w (r, k)) (none_shown w d s h)
none_shown w of_edit s h = apart h refl
none_shown w of_enter s h = apart h refl
none_shown w of_update s h = apart h refl
none_shown w (of_then d f) s h = none_shown w d s h
none_shown w (of_next {ρ = ρ} {a = a} {b = b} {t = t} d f) s h =
    ap₂ ◌++◌ (none_shown w d s h) (nil_continue (value a t s) (λ v. right_fails b (v ∷ ρ) s) (λ v e. apart h (value_lives a ρ s t v e)))
none_shown w of_fail s h = refl
none_shown w (of_and {ρ = ρ} {a = a} {b = b} {t = t} {u = u} d e) s h =
    nil_marks (none_shown w d s (and_left (failing a ρ s t) (failing b ρ s u) h)) (none_shown w e s (and_right (failing a ρ s t) (failing b ρ s u) h))
none_shown w (of_or {ρ = ρ} {a = a} {b = b} {t = t} {u = u} d e) s h =
    nil_marks (none_shown w d s (and_left (failing a ρ s t) (failing b ρ s u) h)) (none_shown w e s (and_right (failing a ρ s t) (failing b ρ s u) h))
none_shown w (of_xor {ρ = ρ} {a = a} {b = b} d e) s h =
    ap₂ ◌++◌
    ((button_nil (branch_fails a ρ s) left).1 (and_left (branch_fails a ρ s) (branch_fails b ρ s) h))
    ((button_nil (branch_fails b ρ s) right).1 (and_right (branch_fails a ρ s) (branch_fails b ρ s) h))
none_shown w of_view s h = refl

pub failing_empty : (w : Who) (c : Code) (ρ : Env) (s : Store) (t : TaskOf c) → failing c ρ s t ≡ true → entries w c ρ s t ≡ []
failing_empty w c ρ s t = none_shown w (formed c ρ t) s

-- ---- a quiet task shows nothing

pub quiet_empty : (w : Who) {c : Code} {ρ : Env} {s : Store} {t : TaskOf c} → Quiet c ρ s t → entries w c ρ s t ≡ []
unfolding entries continue_if
quiet_empty w q_fail = refl
quiet_empty w q_view = refl
quiet_empty w (q_and d e) = nil_marks (quiet_empty w d) (quiet_empty w e)
quiet_empty w (q_or d e) = nil_marks (quiet_empty w d) (quiet_empty w e)
quiet_empty w (q_then d) = quiet_empty w d
quiet_empty w (q_next_none d h) = ap₂ ◌++◌ (quiet_empty w d) (nil_continue _ _ (λ v e. no_some (sym h ∙ e)))
quiet_empty w (q_next_fails d h r) = ap₂ ◌++◌ (quiet_empty w d) (rw h ((button_nil _ continue).1 (right_is r)))
quiet_empty w (q_xor {ρ = ρ} {s = s} {a = a} {b = b} f) = failing_empty w (xor a b) ρ s unpicked (fails_is f)
quiet_empty w (q_wraps {s = s} {u = u} (w_became b) d) = (touched_alike b).shows w s u ∙ quiet_empty w d
quiet_empty w (q_wraps (w_gate {r = r} {k = k}) d) = gate_nil (opens w (r, k)) (quiet_empty w d)

-- ---- a typed task that shows nothing is quiet

-- a 44 with quiet A whose Continue is not takable, by the value of A
next_quiet : {a b : Code} {ρ : Env} {s : Store} {t : TaskOf a} (o : Option Val) → value a t s ≡ o → Quiet a ρ s t → ((v : Val) → o ≡ some v → RightFails b (v ∷ ρ) s true)
    → Quiet (next a b) ρ s (before t)
next_quiet none e q k = q_next_none q e
next_quiet (some v) e q k = q_next_fails q e (k v refl)

-- no Continue is shown only where B fails under A's value
continue_nil : (o : Option Val) (F : Val → Bool) → continue_if o F ≡ [] → (v : Val) → o ≡ some v → F v ≡ true
unfolding continue_if
continue_nil none F h v e = no_some e
continue_nil (some w) F h v e = subst (λ o. continue_if o F ≡ [] → F v ≡ true) (sym e) (button_nil (F v) continue).0 h

-- where no rule takes Continue under A's value, B fails
tried : {a b : Code} {ρ : Env} {s : Store} {t : TaskOf a} (v : Val) → value a t s ≡ some v → (x : Bool) → RightFails b (v ∷ ρ) s x
    → ((u : TaskOf (next a b)) (s₁ : Store) (gs : List Gate) → Handles (next a b) ρ s (before t) [] (press continue) u s₁ gs → ⊥) → RightFails b (v ∷ ρ) s true
tried v z true r n = r
tried v z false (r_evaluated d f) n = absurd (n _ _ _ (h_next z d f))

module _ {Σ : List Ty} where
  quiet_of : {c : Code} {ρ : Env} {t : TaskOf c} {Γ : List Ty} {τ : Ty} → Formed c ρ t → (s : Store) → TaskType Σ Γ c t τ → ValueTypes ρ Γ → ValueTypes s Σ → entries anyone c ρ s t ≡ [] → Quiet c ρ s t
  unfolding entries offers entries_if opens
  quiet_of (of_wraps {u = u} (w_became b) d) s k g h n = let i = inner (w_became b) u k in q_wraps (w_became b) (quiet_of d s i.task (i.env g) h (sym ((touched_alike b).shows anyone s u) ∙ n))
  quiet_of (of_wraps w_gate d) s (k_gated l k) g h n = q_wraps w_gate (quiet_of d s k g h n)
  quiet_of of_edit s k g h n = absurd (cons≢nil n)
  quiet_of of_enter s k g h n = absurd (cons≢nil n)
  quiet_of of_update s k g h n = absurd (cons≢nil n)
  quiet_of (of_then d f) s (k_then_before k e) g h n = q_then (quiet_of d s k g h n)
  quiet_of (of_next {ρ = ρ} {a = a} {b = b} {t = t} d f) s (k_next_before k e) g h n =
      let (p, q) = nil_parts (entries anyone a ρ s t) n in
      next_quiet (value a t s) refl (quiet_of d s k g h p)
      (λ v z. subst (λ x. RightFails b (v ∷ ρ) s x) (continue_nil (value a t s) (λ v. right_fails b (v ∷ ρ) s) q v z) (right_sound b (v ∷ ρ) s e (v_cons (option_is (value_type k h) z) g) h))
  quiet_of of_fail s k g h n = q_fail
  quiet_of (of_and {ρ = ρ} {a = a} {b = b} {t = t} {u = u} d e) s (k_both k m l) g h n = let (p, q) = marks_nil (entries anyone a ρ s t) (entries anyone b ρ s u) n in q_and (quiet_of d s k g h p) (quiet_of e s m g h q)
  quiet_of (of_or {ρ = ρ} {a = a} {b = b} {t = t} {u = u} d e) s (k_either k m) g h n = let (p, q) = marks_nil (entries anyone a ρ s t) (entries anyone b ρ s u) n in q_or (quiet_of d s k g h p) (quiet_of e s m g h q)
  quiet_of (of_xor {ρ = ρ} {a = a} {b = b} d e) s (k_unpicked k m) g h n =
      let (p, q) = nil_parts (button_if (not (branch_fails a ρ s)) left) n in
      let x = subst (λ x. BranchFails a ρ s x) ((button_nil (branch_fails a ρ s) left).0 p) (branch_sound a ρ s k g h) in
      let y = subst (λ y. BranchFails b ρ s y) ((button_nil (branch_fails b ρ s) right).0 q) (branch_sound b ρ s m g h) in
      q_xor (f_xor x y refl)
  quiet_of of_view s k g h n = q_view

  pub empty_quiet : (c : Code) {Γ : List Ty} {τ : Ty} (ρ : Env) (s : Store) (t : TaskOf c) → TaskType Σ Γ c t τ → ValueTypes ρ Γ → ValueTypes s Σ → entries anyone c ρ s t ≡ [] → Quiet c ρ s t
  empty_quiet c ρ s t = quiet_of (formed c ρ t) s

  -- CR 1's words on a 44: where A is quiet, it is quiet exactly when Continue is not takable, by any rule
  pub next_quiet_is : (a b : Code) {Γ : List Ty} {τ : Ty} (ρ : Env) (s : Store) (t : TaskOf a) → TaskType Σ Γ (next a b) (before t) τ → ValueTypes ρ Γ → ValueTypes s Σ → Quiet a ρ s t
      → Quiet (next a b) ρ s (before t) ↔ ((u : TaskOf (next a b)) (s₁ : Store) (gs : List Gate) → Handles (next a b) ρ s (before t) [] (press continue) u s₁ gs → ⊥)
  next_quiet_is a b ρ s t (k_next_before k e) g h q = (
    λ d u s₁ gs r. let (i, f, p, z) = taken_covered anyone (next a b) ρ s (before t) (handles_is r) (admits_anyone gs) in nowhere (subst (λ es. At es i f) (quiet_empty anyone d) p),
    λ n. next_quiet (value a t s) refl q (λ v z. tried v z (right_fails b (v ∷ ρ) s) (right_sound b (v ∷ ρ) s e (v_cons (option_is (value_type k h) z) g) h) n),
  )
