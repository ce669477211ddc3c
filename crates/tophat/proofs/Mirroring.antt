-- Both parts of a 46 exchanged, in a flow without writes: evaluation and strides leave the store, so each part strides as it would alone,
-- and value, failing, strides, handling and entries are those of the other with its parts exchanged. Rests on StrideMaps.
use mathlib.Core.Path.{◌≡◌, refl, sym, ap, ◌∙◌}
use mathlib.Core.Bool.{Bool, true, false, ◌||◌, and_comm, or_comm}
use mathlib.Core.Option.{Option, none, some}
use mathlib.Core.List.{List, [], ◌∷◌, ◌++◌}
use Prim.Native.Nat.{suc}
use native.Mathlib.Omega.{arith}
use Rattle.decimal.specs.Path.{first, second, Path}
use Rattle.tophat.specs.Syntax.{Exp, eunit, etruth, enumber, ebinder, eop, eif, epair, efst, esnd, ederef, eassign, elet}
use Rattle.tophat.specs.Syntax.{Ty, pair, leaves, moves, Code, edit, enter, update, then, next, fail, and, or, xor, view, gate, if, let', Val, Env, Store}
use Rattle.tophat.specs.Syntax.{TaskOf, before, after, both, either, or_left, or_right, unpicked, picked_left, picked_right, gated, if_true, if_false, bound}
use Rattle.tophat.specs.Typing.{CodeType, t_and, TaskType, k_both}
use Rattle.tophat.specs.Normalising.{pair_of, value}
use Rattle.tophat.specs.Roles.{Who}
use Rattle.tophat.specs.Handling.{Action}
use Rattle.tophat.specs.Showing.{marked}
use Rattle.tophat.specs.Redrawn.{exchanged, mirror_path}
use Rattle.tophat.proofs.ComputeEvaluation.{is_true, branch, eval, evaluate, overflows_task}
use Rattle.tophat.proofs.ComputeNormalising.{strides, go_on, go_on_with, choose_right, choose_left, failing, stride, normalise, settle}
use Rattle.tophat.proofs.ComputeHandling.{map_task, at_mark, handle}
use Rattle.tophat.proofs.ComputeEntries.{entries}
use Rattle.tophat.proofs.StrideMaps.{on_task, strides_map, map_two}

-- no row of kind 30
abbrev pub Reads : Exp → Type 0
Reads eunit = Unit {0}
Reads (etruth b) = Unit {0}
Reads (enumber n) = Unit {0}
Reads (ebinder i) = Unit {0}
Reads (eop o a b) = Reads a × Reads b
Reads (eif e a b) = Reads e × Reads a × Reads b
Reads (epair a b) = Reads a × Reads b
Reads (efst a) = Reads a
Reads (esnd a) = Reads a
Reads (ederef n) = Unit {0}
Reads (eassign n a) = ⊥
Reads (elet a b) = Reads a × Reads b

abbrev pub Writeless : Code → Type 0
Writeless (edit e) = Reads e
Writeless (enter τ) = Unit {0}
Writeless (update n) = Unit {0}
Writeless (then a b) = Writeless a × Writeless b
Writeless (next a b) = Writeless a × Writeless b
Writeless (fail τ) = Unit {0}
Writeless (and a b) = Writeless a × Writeless b
Writeless (or a b) = Writeless a × Writeless b
Writeless (xor a b) = Writeless a × Writeless b
Writeless (view e) = Reads e
Writeless (gate r n b) = Writeless b
Writeless (if e a b) = Reads e × Writeless a × Writeless b
Writeless (let' e b) = Reads e × Writeless b

branch_store : {X : Type 0} (x : Bool) (f g : Store → X × Store) (s s₁ : Store) → s ≡ s₁ → ((s : Store) → (f s).1 ≡ s) → ((s : Store) → (g s).1 ≡ s)
    → (branch x f g s).1 ≡ s₁
unfolding branch
branch_store true f g s s₁ e h k = h s ∙ e
branch_store false f g s s₁ e h k = k s ∙ e

pub eval_store : (e : Exp) → Reads e → (ρ : Env) (s : Store) → (eval e ρ s).1 ≡ s
unfolding eval
eval_store eunit r ρ s = refl
eval_store (etruth b) r ρ s = refl
eval_store (enumber n) r ρ s = refl
eval_store (ebinder i) r ρ s = refl
eval_store (eop o a b) r ρ s = eval_store b r.1 ρ _ ∙ eval_store a r.0 ρ s
eval_store (eif e a b) r ρ s = branch_store (is_true (eval e ρ s).0) _ _ _ s (eval_store e r.0 ρ s) (eval_store a r.1 ρ) (eval_store b r.2 ρ)
eval_store (epair a b) r ρ s = eval_store b r.1 ρ _ ∙ eval_store a r.0 ρ s
eval_store (efst a) r ρ s = eval_store a r ρ s
eval_store (esnd a) r ρ s = eval_store a r ρ s
eval_store (ederef n) r ρ s = refl
eval_store (eassign n a) r ρ s = absurd r
eval_store (elet a b) r ρ s = eval_store b r.1 _ _ ∙ eval_store a r.0 ρ s

pub evaluate_store : (c : Code) → Writeless c → (ρ : Env) (s : Store) → (evaluate c ρ s).1 ≡ s
unfolding evaluate
evaluate_store (edit e) w ρ s = eval_store e w ρ s
evaluate_store (enter τ) w ρ s = refl
evaluate_store (update n) w ρ s = refl
evaluate_store (then a b) w ρ s = evaluate_store a w.0 ρ s
evaluate_store (next a b) w ρ s = evaluate_store a w.0 ρ s
evaluate_store (fail τ) w ρ s = refl
evaluate_store (and a b) w ρ s = evaluate_store b w.1 ρ _ ∙ evaluate_store a w.0 ρ s
evaluate_store (or a b) w ρ s = evaluate_store b w.1 ρ _ ∙ evaluate_store a w.0 ρ s
evaluate_store (xor a b) w ρ s = refl
evaluate_store (view e) w ρ s = eval_store e w ρ s
evaluate_store (gate r n b) w ρ s = evaluate_store b w ρ s
evaluate_store (if e a b) w ρ s = branch_store (is_true (eval e ρ s).0) _ _ _ s (eval_store e w.0 ρ s) (evaluate_store a w.1 ρ) (evaluate_store b w.2 ρ)
evaluate_store (let' e b) w ρ s = evaluate_store b w.1 _ _ ∙ eval_store e w.0 ρ s

module _ {A B : Type 0} where
  go_on_store : (v : Val) (t : A) (s s₁ : Store) (m : Bool) (r : B × Store) (x : Bool) → s ≡ s₁ → r.1 ≡ s → (go_on v t s m r x).1 ≡ s₁
  unfolding go_on
  go_on_store v t s s₁ m r true e f = e
  go_on_store v t s s₁ m r false e f = f ∙ e

  go_with_store : (o : Option Val) (t : A) (s s₁ : Store) (m : Bool) (E : Val → B × Store) (F : Val → B × Store → Bool) → s ≡ s₁
      → ((v : Val) → (E v).1 ≡ s) → (go_on_with o t s m E F).1 ≡ s₁
  unfolding go_on_with
  go_with_store none t s s₁ m E F e f = e
  go_with_store (some v) t s s₁ m E F e f = go_on_store v t s s₁ m (E v) (F v (E v)) e (f v)

  right_store : (o : Option Val) (t : A) (u : B) (s s₁ : Store) (m : Bool) → s ≡ s₁ → (choose_right o t u s m).1 ≡ s₁
  unfolding choose_right
  right_store none t u s s₁ m e = e
  right_store (some v) t u s s₁ m e = e

  left_store : (o : Option Val) (t : A) (u : B) (s s₁ : Store) (m : Bool) (G : Store → B → B × Store × Bool) (W : B → Store → Option Val) → s ≡ s₁
      → (G s u).1 ≡ s → (choose_left o t u s m G W).1 ≡ s₁
  unfolding choose_left
  left_store none t u s s₁ m G W e f = right_store _ _ _ _ s₁ _ (f ∙ e)
  left_store (some v) t u s s₁ m G W e f = e

pub stride_store : (c : Code) → Writeless c → (ρ : Env) (s : Store) (t : TaskOf c) → (stride c ρ s t).1 ≡ s
unfolding stride
stride_store (edit e) w ρ s t = refl
stride_store (enter τ) w ρ s t = refl
stride_store (update n) w ρ s t = refl
stride_store (then a b) w ρ s (before t) = go_with_store _ _ _ s _ _ _ (stride_store a w.0 ρ s t) (λ v. evaluate_store b w.1 (v ∷ ρ) _)
stride_store (then a b) w ρ s (after v u) = stride_store b w.1 (v ∷ ρ) s u
stride_store (next a b) w ρ s (before t) = stride_store a w.0 ρ s t
stride_store (next a b) w ρ s (after v u) = stride_store b w.1 (v ∷ ρ) s u
stride_store (fail τ) w ρ s t = refl
stride_store (and a b) w ρ s (both t u) = stride_store b w.1 ρ _ u ∙ stride_store a w.0 ρ s t
stride_store (or a b) w ρ s (either t u) = left_store _ _ _ _ s _ _ _ (stride_store a w.0 ρ s t) (stride_store b w.1 ρ _ u)
stride_store (or a b) w ρ s (or_left t) = stride_store a w.0 ρ s t
stride_store (or a b) w ρ s (or_right u) = stride_store b w.1 ρ s u
stride_store (xor a b) w ρ s unpicked = refl
stride_store (xor a b) w ρ s (picked_left t) = stride_store a w.0 ρ s t
stride_store (xor a b) w ρ s (picked_right u) = stride_store b w.1 ρ s u
stride_store (view e) w ρ s t = refl
stride_store (gate r n b) w ρ s (gated k u) = stride_store b w ρ s u
stride_store (if e a b) w ρ s (if_true t) = stride_store a w.1 ρ s t
stride_store (if e a b) w ρ s (if_false u) = stride_store b w.2 ρ s u
stride_store (let' e b) w ρ s (bound v u) = stride_store b w.1 (v ∷ ρ) s u

-- ---- the parts exchanged

module _ {a b : Code} {Σ Γ : List Ty} {τ υ : Ty} where
  pub code_exchanged : CodeType Σ Γ (and a b) (pair τ υ) → CodeType Σ Γ (and b a) (pair υ τ)
  unfolding leaves
  code_exchanged (t_and f g l) = t_and g f (omega (arith, l))

  pub typed_exchanged : {t : TaskOf (and a b)} → TaskType Σ Γ (and a b) t (pair τ υ) → TaskType Σ Γ (and b a) (exchanged t) (pair υ τ)
  unfolding leaves exchanged
  typed_exchanged (k_both f g l) = k_both g f (omega (arith, l))

module _ (a b : Code) where
  -- the halves of the value
  pub value_exchanged : (t : TaskOf a) (u : TaskOf b) (s : Store)
      → (value (and a b) (both t u) s ≡ pair_of (value a t s) (value b u s)) × (value (and b a) (exchanged (both t u)) s ≡ pair_of (value b u s) (value a t s))
  unfolding value exchanged
  value_exchanged t u s = (refl, refl)

  module _ (ρ : Env) where
    pub handle_exchanged : (s : Store) (t : TaskOf (and a b)) (p : Path) (x : Action)
        → handle (and b a) ρ s (exchanged t) (mirror_path p) x ≡ map_task exchanged (handle (and a b) ρ s t p x)
    unfolding handle exchanged mirror_path at_mark map_task
    handle_exchanged s (both t u) [] x = refl
    handle_exchanged s (both t u) (first ∷ p) x = sym (map_two _ _ (handle a ρ s t p x))
    handle_exchanged s (both t u) (second ∷ p) x = sym (map_two _ _ (handle b ρ s u p x))

    -- the two blocks of the list
    pub entries_exchanged : (w : Who) (s : Store) (t : TaskOf a) (u : TaskOf b)
        → (entries w (and a b) ρ s (both t u) ≡ marked first (entries w a ρ s t) ++ marked second (entries w b ρ s u))
        × (entries w (and b a) ρ s (exchanged (both t u)) ≡ marked first (entries w b ρ s u) ++ marked second (entries w a ρ s t))
    unfolding entries exchanged
    entries_exchanged w s t u = (refl, refl)

    pub failing_exchanged : (s : Store) (t : TaskOf (and a b)) → failing (and b a) ρ s (exchanged t) ≡ failing (and a b) ρ s t
    unfolding failing exchanged
    failing_exchanged s (both t u) = and_comm (failing b ρ s u) (failing a ρ s t)

    module _ (w : Writeless (and a b)) where
      pub evaluate_exchanged : (s : Store) → let (t, s₁) = evaluate (and a b) ρ s in evaluate (and b a) ρ s ≡ (exchanged t, s₁)
      unfolding evaluate exchanged
      evaluate_exchanged s =
          let e = evaluate_store a w.0 ρ s in
          let f = evaluate_store b w.1 ρ s in
          (λ i. (both (evaluate b ρ s).0 (evaluate a ρ (f i)).0, (evaluate a ρ (f i)).1))
          ∙ ap (λ z. (both (evaluate b ρ s).0 (evaluate a ρ s).0, z)) (e ∙ sym f)
          ∙ sym (λ i. (both (evaluate b ρ (e i)).0 (evaluate a ρ s).0, (evaluate b ρ (e i)).1))

      -- CR 3: it leaves the words in both or in none
      pub overflows_exchanged : (s : Store) → overflows_task (and b a) ρ s ≡ overflows_task (and a b) ρ s
      unfolding overflows_task
      overflows_exchanged s =
          let e = evaluate_store a w.0 ρ s in
          let f = evaluate_store b w.1 ρ s in
          rw (e, f) (or_comm (overflows_task b ρ s) (overflows_task a ρ s))

      pub stride_exchanged : (s : Store) (t : TaskOf (and a b)) → stride (and b a) ρ s (exchanged t) ≡ on_task exchanged (stride (and a b) ρ s t)
      unfolding stride exchanged
      stride_exchanged s (both t u) =
          let e = stride_store a w.0 ρ s t in
          let f = stride_store b w.1 ρ s u in
          (λ i. (both (stride b ρ s u).0 (stride a ρ (f i) t).0, (stride a ρ (f i) t).1, (stride b ρ s u).2 || (stride a ρ (f i) t).2))
          ∙ (λ i. (both (stride b ρ s u).0 (stride a ρ s t).0, (e ∙ sym f) i, or_comm (stride b ρ s u).2 (stride a ρ s t).2 i))
          ∙ sym (λ i. (both (stride b ρ (e i) u).0 (stride a ρ s t).0, (stride b ρ (e i) u).1, (stride a ρ s t).2 || (stride b ρ (e i) u).2))

      pub normalise_exchanged : (s : Store) (t : TaskOf (and a b)) → normalise (and b a) ρ s (exchanged t) ≡ on_task exchanged (normalise (and a b) ρ s t)
      unfolding normalise moves
      normalise_exchanged s t =
          let e : suc (moves (and b a)) ≡ suc (moves (and a b)) = omega arith in
          ap (λ n. strides (λ s t. stride (and b a) ρ s t) n s (exchanged t)) e
          ∙ strides_map exchanged (λ s t. stride (and a b) ρ s t) (λ s t. stride (and b a) ρ s t) stride_exchanged (suc (moves (and a b))) s t

      pub settle_exchanged : (s : Store) → settle (and b a) ρ s ≡ on_task exchanged (settle (and a b) ρ s)
      unfolding settle
      settle_exchanged s = let e = evaluate_exchanged s in rw e (normalise_exchanged _ _)
