-- `entries` against the rules of Showing: for a typed task its answer is derived, and what is derived is its answer, typed
-- or not, so a task shows one list. Rests on Leaves, NormalisingSound and NormalisingComplete.
use mathlib.Core.Path.{◌≡◌, refl, sym, ap, ◌∙◌}
use mathlib.Core.Option.{Option, none, some}
use mathlib.Core.List.{List, ◌∷◌, ◌++◌, append-nil}
use Rattle.tophat.specs.Syntax.{Ty, Code, next, Val, Env, Store}
use Rattle.tophat.specs.Syntax.{TaskOf, before}
use Rattle.tophat.specs.Typing.{ValueTypes, v_cons}
use Rattle.tophat.specs.Typing.{TaskType, k_filled, k_shared, k_then_before, k_next_before, k_both, k_either}
use Rattle.tophat.specs.Typing.{k_unpicked, k_gated}
use Rattle.tophat.specs.Normalising.{value, w_became, w_gate, RightFails}
use Rattle.tophat.specs.Roles.{Who, opens}
use Rattle.tophat.specs.Showing.{entries_if, i_became, i_gate}
use Rattle.tophat.specs.Showing.{Entry, Shows, i_edit, i_enter, i_update, i_then, i_next_none, i_next, i_fail, i_and, i_or}
use Rattle.tophat.specs.Showing.{i_xor, i_view}
use Rattle.tophat.proofs.ComputeNormalising.{right_fails}
use Rattle.tophat.proofs.ComputeEntries.{continue_if, entries}
use Rattle.tophat.proofs.Became.{touched_alike, Formed, of_wraps, of_edit, of_enter, of_update, of_then, of_next, of_fail, of_and, of_or, of_xor, of_view, formed, inner}
use Rattle.tophat.proofs.EvaluationAgrees.{look_up, at_get_d}
use Rattle.tophat.proofs.Preservation.{option_is, value_type}
use Rattle.tophat.proofs.NormalisingSound.{right_sound, branch_sound}
use Rattle.tophat.proofs.NormalisingComplete.{right_is, branch_is}
use Rattle.tophat.proofs.Leaves.{type_of_lem}

-- what is derived is what `entries` answers
pub shows_is : {w : Who} {c : Code} {ρ : Env} {s : Store} {t : TaskOf c} {es : List Entry} → Shows w c ρ s t es → entries w c ρ s t ≡ es
unfolding entries continue_if
shows_is (i_edit h) = let e = type_of_lem h in rw e
shows_is i_enter = refl
shows_is (i_update d h) = let k = at_get_d d in let e = type_of_lem h in rw (k, e)
shows_is (i_then d) = shows_is d
shows_is (i_next_none {es = es} d h) = let e = shows_is d in rw (e, h) (append-nil es)
shows_is (i_next d h k) = let e = shows_is d in let f = right_is k in rw (e, h, f)
shows_is i_fail = refl
shows_is (i_and d e) = let p = shows_is d in let q = shows_is e in rw (p, q)
shows_is (i_or d e) = let p = shows_is d in let q = shows_is e in rw (p, q)
shows_is (i_xor k l) = let p = branch_is k in let q = branch_is l in rw (p, q)
shows_is i_view = refl
shows_is {w} (i_became {s = s} {u = u} b d) = (touched_alike b).shows w s u ∙ shows_is d
shows_is {w} (i_gate {r = r} {k = k} d) = ap (entries_if (opens w (r, k))) (shows_is d)

-- a task shows one list
pub shows_one : {w : Who} {c : Code} {ρ : Env} {s : Store} {t : TaskOf c} {es gs : List Entry} → Shows w c ρ s t es → Shows w c ρ s t gs → es ≡ gs
shows_one d e = sym (shows_is d) ∙ shows_is e

-- a 44 before its Continue, by the value of its A
next_shows : {w : Who} {a b : Code} {ρ : Env} {s : Store} {t : TaskOf a} {es : List Entry} (o : Option Val) → value a t s ≡ o → Shows w a ρ s t es
    → ((v : Val) → o ≡ some v → RightFails b (v ∷ ρ) s (right_fails b (v ∷ ρ) s))
    → Shows w (next a b) ρ s (before t) (es ++ continue_if o (λ v. right_fails b (v ∷ ρ) s))
unfolding continue_if
next_shows {es = es} none e d k = rw (append-nil es) (i_next_none d e)
next_shows (some v) e d k = i_next d e (k v refl)

module _ {Σ : List Ty} {w : Who} where
  shown : {c : Code} {ρ : Env} {t : TaskOf c} {Γ : List Ty} {τ : Ty} → Formed c ρ t → (s : Store) → TaskType Σ Γ c t τ → ValueTypes ρ Γ → ValueTypes s Σ → Shows w c ρ s t (entries w c ρ s t)
  unfolding entries
  shown (of_wraps {u = u} (w_became b) f) s k g h = let i = inner (w_became b) u k in rw ((touched_alike b).shows w s u) (i_became b (shown f s i.task (i.env g) h))
  shown (of_wraps w_gate f) s (k_gated l k) g h = i_gate (shown f s k g h)
  shown of_edit s (k_filled d k) g h = rw (type_of_lem k) (i_edit k)
  shown of_enter s d g h = i_enter
  shown of_update s (k_shared d) g h = let (i, k) = look_up h d in rw (type_of_lem k) (i_update i k)
  shown (of_then f f₁) s (k_then_before d e) g h = i_then (shown f s d g h)
  shown (of_next {ρ = ρ} {a = a} {b = b} {t = t} f f₁) s (k_next_before d e) g h =
      next_shows (value a t s) refl (shown f s d g h)
      (λ v z. right_sound b (v ∷ ρ) s e (v_cons (option_is (value_type d h) z) g) h)
  shown of_fail s d g h = i_fail
  shown (of_and f f₁) s (k_both d e l) g h = i_and (shown f s d g h) (shown f₁ s e g h)
  shown (of_or f f₁) s (k_either d e) g h = i_or (shown f s d g h) (shown f₁ s e g h)
  shown (of_xor {ρ = ρ} {a = a} {b = b} f f₁) s (k_unpicked d e) g h = i_xor (branch_sound a ρ s d g h) (branch_sound b ρ s e g h)
  shown of_view s d g h = i_view

  -- what `entries` answers for a typed task is derived
  pub shows_sound : (c : Code) {Γ : List Ty} {τ : Ty} (ρ : Env) (s : Store) (t : TaskOf c) → TaskType Σ Γ c t τ → ValueTypes ρ Γ → ValueTypes s Σ → Shows w c ρ s t (entries w c ρ s t)
  shows_sound c ρ s t k g h = shown (formed c ρ t) s k g h
