-- Three choices regrouped, (a, b), c against a, (b, c): the tasks of the other are those of the one, turned, and value, failing,
-- stride, evaluation, overflow, normalising with its strides and types are the same, with writes or without. RegroupingTouches has
-- handling and entries. Rests on StrideMaps and TypedParts.
use mathlib.Core.Path.{◌≡◌, refl, sym, ap, ◌∙◌}
use mathlib.Core.Bool.{Bool, ◌||◌, and_assoc, or_assoc}
use mathlib.Core.Option.{Option, none, some}
use mathlib.Core.List.{List}
use Prim.Native.Nat.{suc}
use native.Mathlib.Omega.{arith}
use Rattle.tophat.specs.Syntax.{moves, Ty, Code, edit, enter, update, then, next, fail, and, or, xor, view, gate, if, let', Val, Env, Store}
use Rattle.tophat.specs.Syntax.{OrT, TaskOf, filled, blank, entered, before, after, both, either, or_left, or_right}
use Rattle.tophat.specs.Syntax.{unpicked, picked_left, picked_right, gated, if_true, if_false, bound}
use Rattle.tophat.specs.Typing.{CodeType, t_or, TaskType, k_either, k_or_left, k_or_right}
use Rattle.tophat.specs.Normalising.{pair_of, first_of, value}
use Rattle.tophat.specs.Redrawn.{turned}
use Rattle.tophat.proofs.Basics.{no_some}
use Rattle.tophat.proofs.ComputeEvaluation.{evaluate, overflows_task}
use Rattle.tophat.proofs.ComputeNormalising.{strides, choose_right, choose_left, failing, stride, normalise, settle}
use Rattle.tophat.proofs.TypedParts.{or_typed, either_typed, left_typed, right_typed}
use Rattle.tophat.proofs.StrideMaps.{on_task, strides_map}

-- ---- whether a task has a value does not depend on the store

pair_none : (o p o₁ p₁ : Option Val) → (o ≡ none → o₁ ≡ none) → (p ≡ none → p₁ ≡ none) → pair_of o p ≡ none → pair_of o₁ p₁ ≡ none
unfolding pair_of
pair_none none p o₁ p₁ h k e = rw (h refl)
pair_none (some v) none none p₁ h k e = refl
pair_none (some v) none (some w) p₁ h k e = rw (k refl)
pair_none (some v) (some w) o₁ p₁ h k e = no_some (sym e)

first_none : (o p o₁ p₁ : Option Val) → (o ≡ none → o₁ ≡ none) → (p ≡ none → p₁ ≡ none) → first_of o p ≡ none → first_of o₁ p₁ ≡ none
unfolding first_of
first_none none p o₁ p₁ h k e = rw (h refl) (k e)
first_none (some v) p o₁ p₁ h k e = no_some (sym e)

pub none_kept : (c : Code) (t : TaskOf c) (s s₁ : Store) → value c t s ≡ none → value c t s₁ ≡ none
unfolding value
none_kept (edit e) (filled v) s s₁ h = no_some (sym h)
none_kept (enter τ) blank s s₁ h = refl
none_kept (enter τ) (entered v) s s₁ h = no_some (sym h)
none_kept (update n) t s s₁ h = no_some (sym h)
none_kept (then a b) (before t) s s₁ h = refl
none_kept (then a b) (after v u) s s₁ h = none_kept b u s s₁ h
none_kept (next a b) (before t) s s₁ h = refl
none_kept (next a b) (after v u) s s₁ h = none_kept b u s s₁ h
none_kept (fail τ) t s s₁ h = refl
none_kept (and a b) (both t u) s s₁ h = pair_none (value a t s) (value b u s) _ _ (none_kept a t s s₁) (none_kept b u s s₁) h
none_kept (or a b) (either t u) s s₁ h = first_none (value a t s) (value b u s) _ _ (none_kept a t s s₁) (none_kept b u s s₁) h
none_kept (or a b) (or_left t) s s₁ h = none_kept a t s s₁ h
none_kept (or a b) (or_right u) s s₁ h = none_kept b u s s₁ h
none_kept (xor a b) unpicked s s₁ h = refl
none_kept (xor a b) (picked_left t) s s₁ h = none_kept a t s s₁ h
none_kept (xor a b) (picked_right u) s s₁ h = none_kept b u s s₁ h
none_kept (view e) (filled v) s s₁ h = no_some (sym h)
none_kept (gate r n b) (gated k u) s s₁ h = none_kept b u s s₁ h
none_kept (if e a b) (if_true t) s s₁ h = none_kept a t s s₁ h
none_kept (if e a b) (if_false u) s s₁ h = none_kept b u s s₁ h
none_kept (let' e b) (bound v u) s s₁ h = none_kept b u s s₁ h

-- ---- each task of a, (b, c) is one of (a, b), c, turned

module _ {A B C : Type 0} where
  unfoldable pub unturned : OrT A (OrT B C) → OrT (OrT A B) C
  unturned (either t (either u w)) = either (either t u) w
  unturned (either t (or_left u)) = or_left (either t u)
  unturned (either t (or_right w)) = either (or_left t) w
  unturned (or_left t) = or_left (or_left t)
  unturned (or_right (either u w)) = either (or_right u) w
  unturned (or_right (or_left u)) = or_left (or_right u)
  unturned (or_right (or_right w)) = or_right w

  pub turned_unturned : (t : OrT A (OrT B C)) → turned (unturned t) ≡ t
  unfolding turned unturned
  turned_unturned (either t (either u w)) = refl
  turned_unturned (either t (or_left u)) = refl
  turned_unturned (either t (or_right w)) = refl
  turned_unturned (or_left t) = refl
  turned_unturned (or_right (either u w)) = refl
  turned_unturned (or_right (or_left u)) = refl
  turned_unturned (or_right (or_right w)) = refl

-- ---- (a, b), c against a, (b, c)

first_assoc : (x y z : Option Val) → first_of x (first_of y z) ≡ first_of (first_of x y) z
unfolding first_of
first_assoc none y z = refl
first_assoc (some v) y z = refl

module _ (a b c : Code) where
  -- typed alike
  module _ {Σ Γ : List Ty} {τ : Ty} where
    pub code_turned : CodeType Σ Γ (or (or a b) c) τ → CodeType Σ Γ (or a (or b c)) τ
    code_turned (t_or (t_or d e) k) = t_or d (t_or e k)

    pub typed_turned : (t : TaskOf (or (or a b) c)) → TaskType Σ Γ (or (or a b) c) t τ → TaskType Σ Γ (or a (or b c)) (turned t) τ
    unfolding turned
    typed_turned (either (either t u) w) h = let (g, k) = either_typed h in let (d, e) = either_typed g in k_either d (k_either e k)
    typed_turned (either (or_left t) w) h = let (g, k) = either_typed h in let (d, e) = left_typed g in k_either d (k_or_right e k)
    typed_turned (either (or_right u) w) h = let (g, k) = either_typed h in let (d, e) = right_typed g in k_or_right d (k_either e k)
    typed_turned (or_left (either t u)) h = let (g, k) = left_typed h in let (d, e) = either_typed g in k_either d (k_or_left e k)
    typed_turned (or_left (or_left t)) h = let (g, k) = left_typed h in let (d, e) = left_typed g in k_or_left d (t_or e k)
    typed_turned (or_left (or_right u)) h = let (g, k) = left_typed h in let (d, e) = right_typed g in k_or_right d (k_or_left e k)
    typed_turned (or_right w) h = let (g, k) = right_typed h in let (d, e) = or_typed g in k_or_right d (k_or_right e k)

    pub typed_unturned : (t : TaskOf (or (or a b) c)) → TaskType Σ Γ (or a (or b c)) (turned t) τ → TaskType Σ Γ (or (or a b) c) t τ
    unfolding turned
    typed_unturned (either (either t u) w) h = let (d, g) = either_typed h in let (e, k) = either_typed g in k_either (k_either d e) k
    typed_unturned (either (or_left t) w) h = let (d, g) = either_typed h in let (e, k) = right_typed g in k_either (k_or_left d e) k
    typed_unturned (either (or_right u) w) h = let (d, g) = right_typed h in let (e, k) = either_typed g in k_either (k_or_right d e) k
    typed_unturned (or_left (either t u)) h = let (d, g) = either_typed h in let (e, k) = left_typed g in k_or_left (k_either d e) k
    typed_unturned (or_left (or_left t)) h = let (d, g) = left_typed h in let (e, k) = or_typed g in k_or_left (k_or_left d e) k
    typed_unturned (or_left (or_right u)) h = let (d, g) = right_typed h in let (e, k) = left_typed g in k_or_left (k_or_right d e) k
    typed_unturned (or_right w) h = let (d, g) = right_typed h in let (e, k) = right_typed g in k_or_right (t_or d e) k

  pub value_turned : (t : TaskOf (or (or a b) c)) (s : Store) → value (or a (or b c)) (turned t) s ≡ value (or (or a b) c) t s
  unfolding value turned
  value_turned (either (either t u) w) s = first_assoc (value a t s) (value b u s) (value c w s)
  value_turned (either (or_left t) w) s = refl
  value_turned (either (or_right u) w) s = refl
  value_turned (or_left (either t u)) s = refl
  value_turned (or_left (or_left t)) s = refl
  value_turned (or_left (or_right u)) s = refl
  value_turned (or_right w) s = refl

  module _ (ρ : Env) where
    pub failing_turned : (s : Store) (t : TaskOf (or (or a b) c)) → failing (or a (or b c)) ρ s (turned t) ≡ failing (or (or a b) c) ρ s t
    unfolding failing turned
    failing_turned s (either (either t u) w) = sym (and_assoc (failing a ρ s t) (failing b ρ s u) (failing c ρ s w))
    failing_turned s (either (or_left t) w) = refl
    failing_turned s (either (or_right u) w) = refl
    failing_turned s (or_left (either t u)) = refl
    failing_turned s (or_left (or_left t)) = refl
    failing_turned s (or_left (or_right u)) = refl
    failing_turned s (or_right w) = refl

    -- evaluation: neither choice is made, and the stores are the same
    pub evaluate_turned : (s : Store) → let (t, s₁) = evaluate (or (or a b) c) ρ s in evaluate (or a (or b c)) ρ s ≡ (turned t, s₁)
    unfolding evaluate turned
    evaluate_turned s = refl

    pub overflows_turned : (s : Store) → overflows_task (or a (or b c)) ρ s ≡ overflows_task (or (or a b) c) ρ s
    unfolding overflows_task evaluate
    overflows_turned s = sym (or_assoc (overflows_task a ρ s) _ _)

    -- an answer of a stride is that of the other, turned
    abbrev Turns : TaskOf (or a (or b c)) × Store × Bool → TaskOf (or (or a b) c) × Store × Bool → Type 0
    Turns r q = r ≡ on_task turned q

    -- a stride where no choice is made: by the values of a, of b and of c, each strided where those before it have none
    by_c : (t : TaskOf a) (u : TaskOf b) (w : TaskOf c) (s : Store) (m n k : Bool) (o : Option Val) → value c w s ≡ o → value b u s ≡ none
        → Turns (let (y, s₁, l) = choose_right o u w s (n || k) in choose_right (value (or b c) y s₁) t y s₁ (m || l))
        (choose_right o (either t u) w s ((m || n) || k))
    unfolding choose_right value turned first_of
    by_c t u w s m n k none e f = rw (f, e, sym (or_assoc m n k))
    by_c t u w s m n k (some v) e f = rw e

    by_b : (t : TaskOf a) (u : TaskOf b) (w : TaskOf c) (s s₁ : Store) (m n : Bool) (o : Option Val) → value a t s₁ ≡ none → value b u s ≡ o
        → let (y, s₂, l) = choose_left o u w s n (λ s w. stride c ρ s w) (λ w s. value c w s) in
        let (z, s₃, k) = choose_right o t u s (m || n) in
        Turns (choose_right (value (or b c) y s₂) t y s₂ (m || l))
        (choose_left (value (or a b) z s₃) z w s₃ k (λ s w. stride c ρ s w) (λ w s. value c w s))
    unfolding choose_left choose_right value turned first_of
    by_b t u w s s₁ m n none e f =
        let g = none_kept a t s₁ s e in
        let (w₁, s₂, k) = stride c ρ s w in
        rw (g, f) (by_c t u w₁ s₂ m n k (value c w₁ s₂) refl (none_kept b u s s₂ f))
    by_b t u w s s₁ m n (some v) e f = rw f

    by_a : (t : TaskOf a) (u : TaskOf b) (w : TaskOf c) (s : Store) (m : Bool) (o : Option Val) → value a t s ≡ o
        → let (y, s₁, k) = choose_left o t u s m (λ s u. stride b ρ s u) (λ u s. value b u s) in
        Turns (choose_left o t (either u w) s m (λ s y. stride (or b c) ρ s y) (λ y s. value (or b c) y s))
        (choose_left (value (or a b) y s₁) y w s₁ k (λ s w. stride c ρ s w) (λ w s. value c w s))
    unfolding choose_left value turned stride
    by_a t u w s m none e = let (u₁, s₁, n) = stride b ρ s u in by_b t u₁ w s₁ s m n (value b u₁ s₁) e refl
    by_a t u w s m (some v) e = rw e

    -- one of the two choices made
    right_a_c : (t : TaskOf a) (w : TaskOf c) (s : Store) (m : Bool) (o : Option Val)
        → Turns (choose_right o t (or_right w) s m) (choose_right o (or_left t) w s m)
    unfolding choose_right turned
    right_a_c t w s m none = refl
    right_a_c t w s m (some v) = refl

    left_a_c : (t : TaskOf a) (w : TaskOf c) (s : Store) (m : Bool) (o : Option Val)
        → Turns (choose_left o t (or_right w) s m (λ s y. stride (or b c) ρ s y) (λ y s. value (or b c) y s))
        (choose_left o (or_left t) w s m (λ s w. stride c ρ s w) (λ w s. value c w s))
    unfolding choose_left turned stride value
    left_a_c t w s m none = let (w₁, s₁, k) = stride c ρ s w in right_a_c t w₁ s₁ (m || k) (value c w₁ s₁)
    left_a_c t w s m (some v) = refl

    right_b_c : (u : TaskOf b) (w : TaskOf c) (s : Store) (m : Bool) (o : Option Val)
        → Turns (on_task or_right (choose_right o u w s m)) (choose_right o (or_right u) w s m)
    unfolding choose_right turned
    right_b_c u w s m none = refl
    right_b_c u w s m (some v) = refl

    left_b_c : (u : TaskOf b) (w : TaskOf c) (s : Store) (m : Bool) (o : Option Val)
        → Turns (on_task or_right (choose_left o u w s m (λ s w. stride c ρ s w) (λ w s. value c w s)))
        (choose_left o (or_right u) w s m (λ s w. stride c ρ s w) (λ w s. value c w s))
    unfolding choose_left turned
    left_b_c u w s m none = let (w₁, s₁, k) = stride c ρ s w in right_b_c u w₁ s₁ (m || k) (value c w₁ s₁)
    left_b_c u w s m (some v) = refl

    right_a_b : (t : TaskOf a) (u : TaskOf b) (s : Store) (m : Bool) (o : Option Val)
        → Turns (choose_right o t (or_left u) s m) (on_task or_left (choose_right o t u s m))
    unfolding choose_right turned
    right_a_b t u s m none = refl
    right_a_b t u s m (some v) = refl

    left_a_b : (t : TaskOf a) (u : TaskOf b) (s : Store) (m : Bool) (o : Option Val)
        → Turns (choose_left o t (or_left u) s m (λ s y. stride (or b c) ρ s y) (λ y s. value (or b c) y s))
        (on_task or_left (choose_left o t u s m (λ s u. stride b ρ s u) (λ u s. value b u s)))
    unfolding choose_left turned stride value
    left_a_b t u s m none = let (u₁, s₁, n) = stride b ρ s u in right_a_b t u₁ s₁ (m || n) (value b u₁ s₁)
    left_a_b t u s m (some v) = refl

    pub stride_turned : (s : Store) (t : TaskOf (or (or a b) c))
        → stride (or a (or b c)) ρ s (turned t) ≡ on_task turned (stride (or (or a b) c) ρ s t)
    unfolding stride turned value
    stride_turned s (either (either t u) w) = let (t₁, s₁, m) = stride a ρ s t in by_a t₁ u w s₁ m (value a t₁ s₁) refl
    stride_turned s (either (or_left t) w) = let (t₁, s₁, m) = stride a ρ s t in left_a_c t₁ w s₁ m (value a t₁ s₁)
    stride_turned s (either (or_right u) w) = let (u₁, s₁, m) = stride b ρ s u in left_b_c u₁ w s₁ m (value b u₁ s₁)
    stride_turned s (or_left (either t u)) = let (t₁, s₁, m) = stride a ρ s t in left_a_b t₁ u s₁ m (value a t₁ s₁)
    stride_turned s (or_left (or_left t)) = refl
    stride_turned s (or_left (or_right u)) = refl
    stride_turned s (or_right w) = refl

    -- so normalising leaves the same, in as many strides
    pub normalise_turned : (s : Store) (t : TaskOf (or (or a b) c))
        → normalise (or a (or b c)) ρ s (turned t) ≡ on_task turned (normalise (or (or a b) c) ρ s t)
    unfolding normalise moves
    normalise_turned s t =
        let n = suc (moves (or (or a b) c)) in
        let e : suc (moves (or a (or b c))) ≡ n = omega arith in
        ap (λ n. strides (λ s t. stride (or a (or b c)) ρ s t) n s (turned t)) e
        ∙ strides_map turned (λ s t. stride (or (or a b) c) ρ s t) (λ s t. stride (or a (or b c)) ρ s t) stride_turned n s t

    pub settle_turned : (s : Store) → settle (or a (or b c)) ρ s ≡ on_task turned (settle (or (or a b) c) ρ s)
    unfolding settle
    settle_turned s =
        let (t, s₁) = evaluate (or (or a b) c) ρ s in
        let e = evaluate_turned s in
        rw e (normalise_turned s₁ t)
