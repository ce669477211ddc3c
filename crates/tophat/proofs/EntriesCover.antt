-- A task's entries and what it takes: `handle` takes an event, and the rows of kind 50 passed admit them, exactly where an entry that they are
-- shown covers it, and then just one does. No typing is needed. Rests on Lights and Admitted.
use mathlib.Core.Path.{◌≡◌, refl, sym, ap, subst₂, ◌∙◌}
use mathlib.Core.Bool.{Bool, true, false}
use mathlib.Core.Option.{Option, none, some}
use mathlib.Core.List.{List, []}
use Prim.Native.Nat.{ℕ}
use lib.ListN.{get_or, set}
use Rattle.decimal.specs.Path.{Path}
use Rattle.tophat.specs.Syntax.{Ty, Code, Val, vunit, Env, Store}
use Rattle.tophat.specs.Syntax.{TaskOf, filled, entered, shared, before, after, both, either, picked_left, picked_right}
use Rattle.tophat.specs.Typing.{At, type_of}
use Rattle.tophat.specs.Leaves.{given}
use Rattle.tophat.specs.Normalising.{value, w_became, w_gate}
use Rattle.tophat.specs.Handling.{continue, Action, press}
use Rattle.tophat.specs.Roles.{Who, opens, admits}
use Rattle.tophat.specs.Showing.{Entry, Covers, offers}
use Rattle.tophat.proofs.Basics.{no_some}
use Rattle.tophat.proofs.ComputeHandling.{Taken, map_task, pass_gate, then_some, at_editor, at_mark, unless_failing, handle}
use Rattle.tophat.proofs.ComputeEntries.{entries}
use Rattle.tophat.proofs.Became.{alike, touched_alike, Formed, of_wraps, of_edit, of_enter, of_update, of_then, of_next, of_fail, of_and, of_or, of_xor, of_view, formed}
use Rattle.tophat.proofs.Admitted.{admitted, admitted_is, is_admitted, admit_map, admit_gate, admit_editor, admit_given, admit_mark, admit_sides, admit_continue}
use Rattle.tophat.proofs.Lights.{Covered, Lights, same_light, gate_lights, Open, opened, shut, editor_lights, none_lights, marks_light, sides_light, next_lights, map_lights, map_none}

no_continue : {c : Code} {ρ : Env} {t : TaskOf c} → Formed c ρ t → (s : Store) {v : Val} → value c t s ≡ some v → handle c ρ s t [] (press continue) ≡ none
unfolding value handle at_editor at_mark map_task pass_gate
no_continue (of_wraps {u = u} (w_became b) d) s h =
    let k = ap (λ f. f [] (press continue)) ((touched_alike b).handles s u) in
    let e = no_continue d s (sym ((alike (w_became b)).values s u) ∙ h) in
    rw (k, e)
no_continue (of_wraps w_gate d) s h = let e = no_continue d s h in rw e
no_continue of_edit s h = refl
no_continue of_enter s h = refl
no_continue of_update s h = refl
no_continue (of_then d f) s h = no_some h
no_continue (of_next d f) s h = no_some h
no_continue of_fail s h = refl
no_continue (of_and d e) s h = refl
no_continue (of_or d e) s h = refl
no_continue (of_xor d e) s h = no_some h
no_continue of_view s h = refl

-- where a task has a value, it takes no Continue
pub valued_no_continue : (c : Code) (ρ : Env) (s : Store) (t : TaskOf c) {v : Val} → value c t s ≡ some v → handle c ρ s t [] (press continue) ≡ none
valued_no_continue c ρ s t h = no_continue (formed c ρ t) s h

module _ (w : Who) where
  -- the entries shown to them against what is taken where they are admitted
  abbrev Lit : (c : Code) (ρ : Env) (s : Store) (t : TaskOf c) → Type 0
  Lit c ρ s t = Lights (entries w c ρ s t) (λ p x. admitted w (handle c ρ s t p x))

  map_lit : {A C : Type 0} {es : List Entry} (f : Path → Action → Option (Taken A)) (K : A → C) → Lights es (λ p x. admitted w (f p x)) → Lights es (λ p x. admitted w (map_task K (f p x)))
  map_lit f K l = same_light (map_lights K l) (λ p x. admit_map w K (f p x))

  editor_lit : {A : Type 0} (τ : Ty) (K : Val → A) (S : Val → Store) → Lights (offers τ) (λ p x. admitted w (at_editor p x λ ls. then_some (given τ ls) (λ v. (K v, S v, []))))
  editor_lit τ K S = same_light (editor_lights τ _) (λ p x. admit_editor w p x _ (λ ls. admit_given w (given τ ls) K S))

  as_lit : {A : Type 0} {es gs : List Entry} {f g : Path → Action → Option (Taken A)} → es ≡ gs → f ≡ g → Lights gs (λ p x. admitted w (g p x)) → Lights es (λ p x. admitted w (f p x))
  as_lit {A} e k l = subst₂ (λ es (f : Path → Action → Option (Taken A)). Lights es (λ p x. admitted w (f p x))) (sym e) (sym k) l

  -- what a test lets be taken passes no 50
  unless_lit : {A C : Type 0} (y : Bool) (K : A → C) (t : A) (s : Store) → Open y (admitted w (unless_failing y K t s))
  unfolding unless_failing admitted admits
  unless_lit true K t s = shut
  unless_lit false K t s = opened

  light : {c : Code} {ρ : Env} {t : TaskOf c} → Formed c ρ t → (s : Store) → Lit c ρ s t
  unfolding entries handle admitted
  light (of_wraps {K = K} {u = u} (w_became b) d) s = as_lit ((touched_alike b).shows w s u) ((touched_alike b).handles s u) (map_lit _ K (light d s))
  light (of_wraps {u = u} (w_gate {ρ = ρ} {r = r} {k = k} {b = c}) d) s = same_light (gate_lights r k (opens w (r, k)) (light d s)) (λ p x. admit_gate w r k (handle c ρ s u p x))
  light (of_edit {v = v}) s = editor_lit (type_of v) filled (λ v. s)
  light (of_enter {τ = τ}) s = editor_lit τ entered (λ v. s)
  light (of_update {n = n}) s = editor_lit (type_of (get_or s n vunit)) (λ v. shared) (λ v. set s n v)
  light (of_then d f) s = map_lit _ before (light d s)
  light (of_next {ρ = ρ} {a = a} {t = t} d f) s =
      same_light (next_lights _ _ (value a t s) (map_lit _ before (light d s)) (λ v. unless_lit _ (after v) _ _) (λ v h. ap (admitted w) (map_none before (valued_no_continue a ρ s t h))))
      (λ p x. admit_continue w p x (value a t s) _ _)
  light of_fail s = none_lights
  light (of_and {t = t} {u = u} d e) s = same_light (marks_light (map_lit _ (λ t. both t u) (light d s)) (map_lit _ (λ u. both t u) (light e s))) (λ p x. admit_mark w p _ _)
  light (of_or {t = t} {u = u} d e) s = same_light (marks_light (map_lit _ (λ t. either t u) (light d s)) (map_lit _ (λ u. either t u) (light e s))) (λ p x. admit_mark w p _ _)
  light (of_xor d e) s = same_light (sides_light (unless_lit _ picked_left _ _) (unless_lit _ picked_right _ _)) (λ p x. admit_sides w p x _ _)
  light of_view s = none_lights

  -- what a task shows is what it takes
  entries_light : (c : Code) (ρ : Env) (s : Store) (t : TaskOf c) → Lit c ρ s t
  entries_light c ρ s t = light (formed c ρ t) s

  module _ (c : Code) (ρ : Env) (s : Store) (t : TaskOf c) {p : Path} {x : Action} where
    -- an event that an entry covers is taken, and they are admitted
    pub covered_taken : {i : ℕ} {e : Entry} → At (entries w c ρ s t) i e → Covers e p x → (q : Taken (TaskOf c)) × (handle c ρ s t p x ≡ some q) × (admits w q.2 ≡ true)
    covered_taken d k = let (q, h) = (entries_light c ρ s t).taken d k in let (e, a) = is_admitted w (handle c ρ s t p x) h in (q, e, a)

    -- an event that is taken, where they are admitted, is covered by an entry
    pub taken_covered : {q : Taken (TaskOf c)} → handle c ρ s t p x ≡ some q → admits w q.2 ≡ true → Covered (entries w c ρ s t) p x
    taken_covered h a = (entries_light c ρ s t).covered p x (admitted_is w h a)

    -- and by one only
    pub covered_once : {i j : ℕ} {e f : Entry} → At (entries w c ρ s t) i e → At (entries w c ρ s t) j f → Covers e p x → Covers f p x → i ≡ j
    covered_once d k g h = (entries_light c ρ s t).once d k g h
