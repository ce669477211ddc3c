-- Cells renamed: a running task takes the same events and shows the same entries as in the renamed code, from stores that agree on the
-- cells that the code names; what takes an event becomes the same, in stores that agree. Rests on RenamingSteps.
use mathlib.Core.Path.{◌≡◌, refl, sym, ap, ap₂, ◌∙◌}
use mathlib.Core.Bool.{Bool, true, false, not}
use mathlib.Core.Option.{Option, none, some}
use mathlib.Core.List.{List, [], ◌∷◌, ◌++◌}
use Prim.Native.Nat.{ℕ, ◌-◌}
use lib.ListN.{get_or}
use Rattle.decimal.specs.Path.{first, second, Path}
use Rattle.tophat.specs.Syntax.{GateT, Code, edit, enter, update, next, and, or, xor, Val, vunit, Env, Store}
use Rattle.tophat.specs.Syntax.{TaskOf, before, after, both, either, picked_left, picked_right, gated}
use Rattle.tophat.specs.Typing.{type_of}
use Rattle.tophat.specs.Leaves.{Given, given}
use Rattle.tophat.specs.Normalising.{value, w_became, w_gate}
use Rattle.tophat.specs.Roles.{Who, opens}
use Rattle.tophat.specs.Handling.{continue, left, right, Action, give, press}
use Rattle.tophat.specs.Showing.{marked, offers, button_if, entries_if}
use Rattle.tophat.specs.Renamed.{renamed, renamed_task, CellsIn, Apart, Agrees}
use Rattle.tophat.proofs.ComputeEvaluation.{evaluate}
use Rattle.tophat.proofs.ComputeNormalising.{settle, right_fails, branch_fails}
use Rattle.tophat.proofs.ComputeHandling.{Taken, map_task, pass_gate, then_some, at_editor, at_mark, at_sides, at_continue, unless_failing, handle}
use Rattle.tophat.proofs.ComputeEntries.{continue_if, entries}
use Rattle.tophat.proofs.Became.{touched_alike, Formed, of_wraps, of_edit, of_enter, of_update, of_then, of_next, of_fail, of_and, of_or, of_xor, of_view, formed}
use Rattle.tophat.proofs.Renaming.{LikeWith, put_agrees, evaluate_like}
use Rattle.tophat.proofs.RenamingSteps.{renamed_became, value_like, settle_like, right_fails_like, branch_fails_like}

-- answers that correspond where there are any, and none where there is none
pub data LikeOption {A B : Type 0} (π : ℕ → ℕ) (P : ℕ → Type 0) (f : A → B) : Option (Taken A) → Option (Taken B) → Type 0 where
  like_none : LikeOption π P f none none
  like_some : {r : Taken A} {r₁ : Taken B} → LikeWith π P f r r₁ → LikeOption π P f (some r) (some r₁)

module _ {π : ℕ → ℕ} {P : ℕ → Type 0} where
  map_like : {A B C D : Type 0} {f : A → B} {h : C → D} {o : Option (Taken A)} {o₁ : Option (Taken B)} (K : A → C) (L : B → D)
      → ((t : A) → L (f t) ≡ h (K t)) → LikeOption π P f o o₁ → LikeOption π P h (map_task K o) (map_task L o₁)
  unfolding map_task
  map_like K L e like_none = like_none
  map_like K L e (like_some p) = like_some (record { made = ap L p.made ∙ e _; store = p.store; third = p.third })

  gate_like : {A B : Type 0} {f : A → B} {h : GateT A → GateT B} {o : Option (Taken A)} {o₁ : Option (Taken B)} (r k : ℕ)
      → ((t : A) → gated (k - 1) (f t) ≡ h (gated (k - 1) t)) → LikeOption π P f o o₁ → LikeOption π P h (pass_gate r k o) (pass_gate r k o₁)
  unfolding pass_gate
  gate_like r k e like_none = like_none
  gate_like r k e (like_some p) = like_some (record { made = ap (gated (k - 1)) p.made ∙ e _; store = p.store; third = ap (λ gs. (r, k) ∷ gs) p.third })

  module _ {C D : Type 0} (h : C → D) where
    then_like : {A : Type 0} (o : Option A) (F : A → Taken C) (F₁ : A → Taken D) → ((a : A) → LikeWith π P h (F a) (F₁ a))
        → LikeOption π P h (then_some o F) (then_some o F₁)
    unfolding then_some
    then_like none F F₁ k = like_none
    then_like (some a) F F₁ k = like_some (k a)

    editor_like : (p : Path) (x : Action) (F : List Given → Option (Taken C)) (F₁ : List Given → Option (Taken D))
        → ((ls : List Given) → LikeOption π P h (F ls) (F₁ ls)) → LikeOption π P h (at_editor p x F) (at_editor p x F₁)
    unfolding at_editor
    editor_like [] (give ls) F F₁ k = k ls
    editor_like [] (press b) F F₁ k = like_none
    editor_like (m ∷ p) x F F₁ k = like_none

    mark_like : (p : Path) (F G : Path → Option (Taken C)) (F₁ G₁ : Path → Option (Taken D))
        → ((q : Path) → LikeOption π P h (F q) (F₁ q)) → ((q : Path) → LikeOption π P h (G q) (G₁ q)) → LikeOption π P h (at_mark p F G) (at_mark p F₁ G₁)
    unfolding at_mark
    mark_like [] F G F₁ G₁ k l = like_none
    mark_like (first ∷ p) F G F₁ G₁ k l = k p
    mark_like (second ∷ p) F G F₁ G₁ k l = l p

    sides_like : (p : Path) (x : Action) (F G : Unit {0} → Option (Taken C)) (F₁ G₁ : Unit {0} → Option (Taken D))
        → LikeOption π P h (F tt) (F₁ tt) → LikeOption π P h (G tt) (G₁ tt) → LikeOption π P h (at_sides p x F G) (at_sides p x F₁ G₁)
    unfolding at_sides
    sides_like [] (give ls) F G F₁ G₁ k l = like_none
    sides_like [] (press continue) F G F₁ G₁ k l = like_none
    sides_like [] (press left) F G F₁ G₁ k l = k
    sides_like [] (press right) F G F₁ G₁ k l = l
    sides_like (m ∷ p) x F G F₁ G₁ k l = like_none

    continue_like : (p : Path) (x : Action) (o : Option Val) (F : Val → Option (Taken C)) (G : Unit {0} → Option (Taken C)) (F₁ : Val → Option (Taken D)) (G₁ : Unit {0} → Option (Taken D))
        → ((v : Val) → LikeOption π P h (F v) (F₁ v)) → LikeOption π P h (G tt) (G₁ tt) → LikeOption π P h (at_continue p x o F G) (at_continue p x o F₁ G₁)
    unfolding at_continue
    continue_like [] (give ls) o F G F₁ G₁ k l = l
    continue_like [] (press continue) none F G F₁ G₁ k l = l
    continue_like [] (press continue) (some v) F G F₁ G₁ k l = k v
    continue_like [] (press left) o F G F₁ G₁ k l = l
    continue_like [] (press right) o F G F₁ G₁ k l = l
    continue_like (m ∷ p) x o F G F₁ G₁ k l = l

    unless_like : {A B : Type 0} (x : Bool) {x₁ : Bool} (K : A → C) (L : B → D) {t : A} {t₁ : B} {s s₁ : Store}
        → x₁ ≡ x → L t₁ ≡ h (K t) → Agrees π P s s₁ → LikeOption π P h (unless_failing x K t s) (unless_failing x₁ L t₁ s₁)
    unfolding unless_failing
    unless_like true K L e d g = rw e like_none
    unless_like false K L e d g = rw e (like_some (record { made = d; store = g; third = refl }))

-- a branch picked, and a right side continued with, where it does not fail
abbrev picked : {C : Type 0} (c : Code) → (TaskOf c → C) → Env → Store → Option (Taken C)
picked c K ρ s = let (t, s₁, n) = settle c ρ s in unless_failing (branch_fails c ρ s) K t s₁

abbrev continued : {C : Type 0} (b : Code) → (TaskOf b → C) → Env → Store → Option (Taken C)
continued b K ρ s = let (u, s₁) = evaluate b ρ s in unless_failing (right_fails b ρ s) K u s₁

module _ {π : ℕ → ℕ} {P : ℕ → Type 0} (apart : Apart π P) where
  handles : {c : Code} {ρ : Env} {t : TaskOf c} → Formed c ρ t → CellsIn P c → (s s₁ : Store) → Agrees π P s s₁ → (p : Path) (x : Action)
      → LikeOption π P (renamed_task π c) (handle c ρ s t p x) (handle (renamed π c) ρ s₁ (renamed_task π c t) p x)
  unfolding handle renamed_task
  handles (of_wraps (w_gate {r = r} {k = k}) d) w s s₁ g p x = gate_like r k (λ t. refl) (handles d w s s₁ g p x)
  handles (of_wraps {c = c} {c₁ = c₁} {ρ = ρ} {K = K} {u = u} (w_became b) d) w s s₁ g p x =
      let k = renamed_became π P b in
      let e = k.same_task u in
      let i = (touched_alike b).handles s u in
      let j = (touched_alike k.became).handles s₁ (renamed_task π c₁ u) in
      rw (e, i, j) (map_like K k.into (λ t. sym (k.same_task t)) (handles d (k.cells w) s s₁ g p x))
  handles (of_edit {e = e} {v = v}) w s s₁ g p x =
      editor_like (renamed_task π (edit e)) p x _ _ (λ ls. then_like (renamed_task π (edit e)) (given (type_of v) ls) _ _ (λ v. record { made = refl; store = g; third = refl }))
  handles (of_enter {τ = τ}) w s s₁ g p x = editor_like (renamed_task π (enter τ)) p x _ _ (λ ls. then_like (renamed_task π (enter τ)) (given τ ls) _ _ (λ v. record { made = refl; store = g; third = refl }))
  handles (of_update {n = n}) w s s₁ g p x =
      let e = g.content n w in
      rw e (editor_like (renamed_task π (update n)) p x _ _
      (λ ls. then_like (renamed_task π (update n)) (given (type_of (get_or s n vunit)) ls) _ _ (λ v. record { made = refl; store = put_agrees apart n v w g; third = refl })))
  handles (of_then d f) w s s₁ g p x = map_like before before (λ t. refl) (handles d w.0 s s₁ g p x)
  handles (of_next {ρ = ρ} {a = a} {b = b} {t = t} d f) w s s₁ g p x =
      let e = value_like a w.0 t g in
      rw e (continue_like (renamed_task π (next a b)) p x (value a t s)
      (λ v. continued b (after v) (v ∷ ρ) s) (λ _. map_task before (handle a ρ s t p x))
      (λ v. continued (renamed π b) (after v) (v ∷ ρ) s₁) (λ _. map_task before (handle (renamed π a) ρ s₁ (renamed_task π a t) p x))
      (λ v. let q = evaluate_like apart b w.1 (v ∷ ρ) s s₁ g in unless_like (renamed_task π (next a b)) _
      (after v) (after v) (right_fails_like apart b w.1 (v ∷ ρ) s s₁ g) (ap (after v) q.made) q.store)
      (map_like before before (λ t. refl) (handles d w.0 s s₁ g p x)))
  handles of_fail w s s₁ g p x = like_none
  handles (of_and {a = a} {b = b} {t = t} {u = u} d e) w s s₁ g p x =
      mark_like (renamed_task π (and a b)) p _ _ _ _
      (λ q. map_like (λ t. both t u) (λ t. both t (renamed_task π b u)) (λ t. refl) (handles d w.0 s s₁ g q x))
      (λ q. map_like (λ u. both t u) (λ u. both (renamed_task π a t) u) (λ u. refl) (handles e w.1 s s₁ g q x))
  handles (of_or {a = a} {b = b} {t = t} {u = u} d e) w s s₁ g p x =
      mark_like (renamed_task π (or a b)) p _ _ _ _
      (λ q. map_like (λ t. either t u) (λ t. either t (renamed_task π b u)) (λ t. refl) (handles d w.0 s s₁ g q x))
      (λ q. map_like (λ u. either t u) (λ u. either (renamed_task π a t) u) (λ u. refl) (handles e w.1 s s₁ g q x))
  handles (of_xor {ρ = ρ} {a = a} {b = b} d e) w s s₁ g p x =
      let q = settle_like apart a w.0 ρ s s₁ g in
      let r = settle_like apart b w.1 ρ s s₁ g in
      sides_like (renamed_task π (xor a b)) p x
      (λ _. picked a picked_left ρ s) (λ _. picked b picked_right ρ s) (λ _. picked (renamed π a) picked_left ρ s₁) (λ _. picked (renamed π b) picked_right ρ s₁)
      (unless_like (renamed_task π (xor a b)) _ picked_left picked_left (branch_fails_like apart a w.0 ρ s s₁ g) (ap picked_left q.made) q.store)
      (unless_like (renamed_task π (xor a b)) _ picked_right picked_right (branch_fails_like apart b w.1 ρ s s₁ g) (ap picked_right r.made) r.store)
  handles of_view w s s₁ g p x = like_none

  -- an event is taken by both or by neither; what takes it becomes the same, in stores that agree
  pub handle_like : (c : Code) → CellsIn P c → (ρ : Env) (s s₁ : Store) (t : TaskOf c) (p : Path) (x : Action) → Agrees π P s s₁
      → LikeOption π P (renamed_task π c) (handle c ρ s t p x) (handle (renamed π c) ρ s₁ (renamed_task π c t) p x)
  handle_like c w ρ s s₁ t p x g = handles (formed c ρ t) w s s₁ g p x

  continue_if_lem : (o : Option Val) {o₁ : Option Val} (F F₁ : Val → Bool) → o₁ ≡ o → ((v : Val) → F₁ v ≡ F v) → continue_if o₁ F₁ ≡ continue_if o F
  unfolding continue_if
  continue_if_lem none F F₁ e h = rw e refl
  continue_if_lem (some v) F F₁ e h = rw e (ap (λ x. button_if (not x) continue) (h v))

  shows : (m : Who) {c : Code} {ρ : Env} {t : TaskOf c} → Formed c ρ t → CellsIn P c → (s s₁ : Store) → Agrees π P s s₁
      → entries m (renamed π c) ρ s₁ (renamed_task π c t) ≡ entries m c ρ s t
  unfolding entries renamed_task
  shows m (of_wraps (w_gate {r = r} {k = k}) d) w s s₁ g = ap (entries_if (opens m (r, k))) (shows m d w s s₁ g)
  shows m (of_wraps {c = c} {c₁ = c₁} {ρ = ρ} {u = u} (w_became b) d) w s s₁ g =
      let k = renamed_became π P b in
      ap (entries m (renamed π c) ρ s₁) (k.same_task u) ∙ (touched_alike k.became).shows m s₁ (renamed_task π c₁ u) ∙ shows m d (k.cells w) s s₁ g ∙ sym ((touched_alike b).shows m s u)
  shows m of_edit w s s₁ g = refl
  shows m of_enter w s s₁ g = refl
  shows m (of_update {n = n}) w s s₁ g = ap (λ v. offers (type_of v)) (g.content n w)
  shows m (of_then d f) w s s₁ g = shows m d w.0 s s₁ g
  shows m (of_next {ρ = ρ} {a = a} {b = b} {t = t} d f) w s s₁ g =
      ap₂ ◌++◌ (shows m d w.0 s s₁ g) (continue_if_lem (value a t s) _ _ (value_like a w.0 t g) (λ v. right_fails_like apart b w.1 (v ∷ ρ) s s₁ g))
  shows m of_fail w s s₁ g = refl
  shows m (of_and d e) w s s₁ g = ap₂ (λ es fs. marked first es ++ marked second fs) (shows m d w.0 s s₁ g) (shows m e w.1 s s₁ g)
  shows m (of_or d e) w s s₁ g = ap₂ (λ es fs. marked first es ++ marked second fs) (shows m d w.0 s s₁ g) (shows m e w.1 s s₁ g)
  shows m (of_xor {ρ = ρ} {a = a} {b = b} d e) w s s₁ g =
      ap₂ (λ x y. button_if (not x) left ++ button_if (not y) right) (branch_fails_like apart a w.0 ρ s s₁ g) (branch_fails_like apart b w.1 ρ s s₁ g)
  shows m of_view w s s₁ g = refl

  -- the entries are the same
  pub entries_like : (m : Who) (c : Code) → CellsIn P c → (ρ : Env) (s s₁ : Store) (t : TaskOf c) → Agrees π P s s₁
      → entries m (renamed π c) ρ s₁ (renamed_task π c t) ≡ entries m c ρ s t
  entries_like m c w ρ s s₁ t g = shows m (formed c ρ t) w s s₁ g
