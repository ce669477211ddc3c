-- A task and what it comes to: `Later` says which parts of a task are still live in a later one, and what touches their rows of kind 50 then
-- have. Of each row of kind 50 that is live in a later task it tells what that was before (`was`), and what is later than a later task is later
-- (`later_then`); striding and normalising come to a later task and use no touch. Rests on TouchesLeft; TouchesUsed uses it.
use mathlib.Core.Path.{◌≡◌, refl, ap, subst, ◌∙◌}
use mathlib.Core.Bool.{Bool, false, cond}
use mathlib.Core.Logic.{◌⊎◌, inl, inr, ⊎_elim}
use mathlib.Core.List.{[], ◌∷◌}
use Prim.Native.Nat.{ℕ, ◌-◌}
use Rattle.decimal.specs.Path.{Path}
use Rattle.tophat.specs.Syntax.{Ty, Exp, Code, edit, enter, update, then, next, fail, and, or, xor, view, gate, if, let', Val, Env, Store}
use Rattle.tophat.specs.Syntax.{TaskOf, before, after, both, either, or_left, or_right, unpicked, picked_left, picked_right, gated, if_true, if_false, bound}
use Rattle.tophat.specs.Evaluation.{EvaluatesTask, e_edit, e_enter, e_update, e_then, e_next, e_fail, e_and, e_or, e_xor, e_view, e_gate, e_if_true_task, e_if_false_task, e_let_task}
use Rattle.tophat.specs.Normalising.{b_then, b_next, b_or_left, b_or_right, b_xor_left, b_xor_right, b_if_true, b_if_false, b_let, Wraps, w_became, w_gate}
use Rattle.tophat.specs.Normalising.{Strides, s_edit, s_fill, s_update, s_fail, s_then_stay, s_then_fail, s_then_cont, s_next, s_and, s_or_left, s_or_right, s_or_none, s_xor, s_view, s_wraps}
use Rattle.tophat.specs.Normalising.{Normalises, n_done, n_repeat}
use Rattle.tophat.specs.TouchesLeft.{Operand, in_a, in_b, in_c, Place, LiveGate, live_here, live_below}
use Rattle.tophat.specs.TouchesLeft.{Part, of_then, of_then_after, of_next, of_next_after, of_and_first, of_and_second, of_or_first, of_or_second, of_or_left, of_or_right}
use Rattle.tophat.specs.TouchesLeft.{of_xor_left, of_xor_right, of_gate, of_if_true, of_if_false, of_let}

-- ---- live rows of kind 50

-- a row of these kinds has no operand that is a task
pub edit_whole : {A : Type 0} {e : Exp} {t : TaskOf (edit e)} {m : Path} {o : Operand} {d : Code} {u : TaskOf d} → Part (edit e) t m o d u → A
edit_whole p = elim p [ ]

pub enter_whole : {A : Type 0} {τ : Ty} {t : TaskOf (enter τ)} {m : Path} {o : Operand} {d : Code} {u : TaskOf d} → Part (enter τ) t m o d u → A
enter_whole p = elim p [ ]

pub update_whole : {A : Type 0} {n : ℕ} {t : TaskOf (update n)} {m : Path} {o : Operand} {d : Code} {u : TaskOf d} → Part (update n) t m o d u → A
update_whole p = elim p [ ]

fail_whole : {A : Type 0} {τ : Ty} {t : TaskOf (fail τ)} {m : Path} {o : Operand} {d : Code} {u : TaskOf d} → Part (fail τ) t m o d u → A
fail_whole p = elim p [ ]

view_whole : {A : Type 0} {e : Exp} {t : TaskOf (view e)} {m : Path} {o : Operand} {d : Code} {u : TaskOf d} → Part (view e) t m o d u → A
view_whole p = elim p [ ]

pub unpicked_whole : {A : Type 0} {a b : Code} {m : Path} {o : Operand} {d : Code} {u : TaskOf d} → Part (xor a b) unpicked m o d u → A
unpicked_whole p = elim p [ ]

-- an operand is one task
data SameTask : (d : Code) → TaskOf d → (d₁ : Code) → TaskOf d₁ → Type 0 where
  same_task : {d : Code} {u : TaskOf d} → SameTask d u d u

part_one : {c d d₁ : Code} {t : TaskOf c} {u : TaskOf d} {u₁ : TaskOf d₁} {m m₁ : Path} {o : Operand} → Part c t m o d u → Part c t m₁ o d₁ u₁ → SameTask d u d₁ u₁
part_one of_then of_then = same_task
part_one of_then_after of_then_after = same_task
part_one of_next of_next = same_task
part_one of_next_after of_next_after = same_task
part_one of_and_first of_and_first = same_task
part_one of_and_second of_and_second = same_task
part_one of_or_first of_or_first = same_task
part_one of_or_second of_or_second = same_task
part_one of_or_left of_or_left = same_task
part_one of_or_right of_or_right = same_task
part_one of_xor_left of_xor_left = same_task
part_one of_xor_right of_xor_right = same_task
part_one of_gate of_gate = same_task
part_one of_if_true of_if_true = same_task
part_one of_if_false of_if_false = same_task
part_one of_let of_let = same_task

-- what is live below an operand is live in its task
same_live : {d d₁ : Code} {u : TaskOf d} {u₁ : TaskOf d₁} {q : Place} {n k : ℕ} → SameTask d u d₁ u₁ → LiveGate d₁ u₁ q n k → LiveGate d u q n k
same_live same_task l = l

pub live_part : {c d : Code} {t : TaskOf c} {u : TaskOf d} {m : Path} {o : Operand} {q : Place} {n k : ℕ} → Part c t m o d u → LiveGate c t (o ∷ q) n k → LiveGate d u q n k
live_part p (live_below p₁ l) = same_live (part_one p p₁) l

-- a place has one
pub live_one : {c : Code} {t : TaskOf c} {q : Place} {n m k j : ℕ} → LiveGate c t q n k → LiveGate c t q m j → k ≡ j
live_one live_here live_here = refl
live_one (live_below p l) h = live_one l (live_part p h)

-- all have C
abbrev pub Full : (c : Code) → TaskOf c → Type 0
Full c t = (q : Place) (n k : ℕ) → LiveGate c t q n k → k ≡ n

-- CR 6: "C when the row is evaluated"
evaluated : {c : Code} {ρ : Env} {s s₁ : Store} {t : TaskOf c} {q : Place} {n k : ℕ} → EvaluatesTask c ρ s t s₁ → LiveGate c t q n k → k ≡ n
evaluated (e_edit d) (live_below p l) = edit_whole p
evaluated e_enter (live_below p l) = enter_whole p
evaluated e_update (live_below p l) = update_whole p
evaluated (e_then d) (live_below of_then l) = evaluated d l
evaluated (e_next d) (live_below of_next l) = evaluated d l
evaluated e_fail (live_below p l) = fail_whole p
evaluated (e_and d e) (live_below of_and_first l) = evaluated d l
evaluated (e_and d e) (live_below of_and_second l) = evaluated e l
evaluated (e_or d e) (live_below of_or_first l) = evaluated d l
evaluated (e_or d e) (live_below of_or_second l) = evaluated e l
evaluated e_xor (live_below p l) = unpicked_whole p
evaluated (e_view d) (live_below p l) = view_whole p
evaluated (e_gate d) live_here = refl
evaluated (e_gate d) (live_below of_gate l) = evaluated d l
evaluated (e_if_true_task h d) (live_below of_if_true l) = evaluated d l
evaluated (e_if_false_task h d) (live_below of_if_false l) = evaluated d l
evaluated (e_let_task h d) (live_below of_let l) = evaluated d l

pub full : {c : Code} {ρ : Env} {s s₁ : Store} {t : TaskOf c} → EvaluatesTask c ρ s t s₁ → Full c t
full d q n k l = evaluated d l

-- ---- later tasks

-- `Later c on t t₁`: t comes to t₁, where its rows of kind 50 at the places `on` have one touch less, and what is evaluated on the way has C
pub data Later : (c : Code) → (Place → Bool) → TaskOf c → TaskOf c → Type 0 where
  l_edit : {on : Place → Bool} {e : Exp} {t t₁ : TaskOf (edit e)} → Later (edit e) on t t₁
  l_enter : {on : Place → Bool} {τ : Ty} {t t₁ : TaskOf (enter τ)} → Later (enter τ) on t t₁
  l_update : {on : Place → Bool} {n : ℕ} {t t₁ : TaskOf (update n)} → Later (update n) on t t₁
  l_fail : {on : Place → Bool} {τ : Ty} {t t₁ : TaskOf (fail τ)} → Later (fail τ) on t t₁
  l_view : {on : Place → Bool} {e : Exp} {t t₁ : TaskOf (view e)} → Later (view e) on t t₁
  l_then : {on : Place → Bool} {a b : Code} {t t₁ : TaskOf a} → Later a (λ q. on (in_a ∷ q)) t t₁ → Later (then a b) on (before t) (before t₁)
  l_then_taken : {on : Place → Bool} {a b : Code} {t : TaskOf a} {v : Val} {u : TaskOf b} → Full b u → Later (then a b) on (before t) (after v u)
  l_then_after : {on : Place → Bool} {a b : Code} {v : Val} {u u₁ : TaskOf b} → Later b (λ q. on (in_b ∷ q)) u u₁ → Later (then a b) on (after v u) (after v u₁)
  l_next : {on : Place → Bool} {a b : Code} {t t₁ : TaskOf a} → Later a (λ q. on (in_a ∷ q)) t t₁ → Later (next a b) on (before t) (before t₁)
  l_next_taken : {on : Place → Bool} {a b : Code} {t : TaskOf a} {v : Val} {u : TaskOf b} → Full b u → Later (next a b) on (before t) (after v u)
  l_next_after : {on : Place → Bool} {a b : Code} {v : Val} {u u₁ : TaskOf b} → Later b (λ q. on (in_b ∷ q)) u u₁ → Later (next a b) on (after v u) (after v u₁)
  l_and : {on : Place → Bool} {a b : Code} {t t₁ : TaskOf a} {u u₁ : TaskOf b}
      → Later a (λ q. on (in_a ∷ q)) t t₁ → Later b (λ q. on (in_b ∷ q)) u u₁ → Later (and a b) on (both t u) (both t₁ u₁)
  l_or : {on : Place → Bool} {a b : Code} {t t₁ : TaskOf a} {u u₁ : TaskOf b}
      → Later a (λ q. on (in_a ∷ q)) t t₁ → Later b (λ q. on (in_b ∷ q)) u u₁ → Later (or a b) on (either t u) (either t₁ u₁)
  l_or_goes_left : {on : Place → Bool} {a b : Code} {t t₁ : TaskOf a} {u : TaskOf b} → Later a (λ q. on (in_a ∷ q)) t t₁ → Later (or a b) on (either t u) (or_left t₁)
  l_or_goes_right : {on : Place → Bool} {a b : Code} {t : TaskOf a} {u u₁ : TaskOf b} → Later b (λ q. on (in_b ∷ q)) u u₁ → Later (or a b) on (either t u) (or_right u₁)
  l_or_left : {on : Place → Bool} {a b : Code} {t t₁ : TaskOf a} → Later a (λ q. on (in_a ∷ q)) t t₁ → Later (or a b) on (or_left t) (or_left t₁)
  l_or_right : {on : Place → Bool} {a b : Code} {u u₁ : TaskOf b} → Later b (λ q. on (in_b ∷ q)) u u₁ → Later (or a b) on (or_right u) (or_right u₁)
  l_xor : {on : Place → Bool} {a b : Code} → Later (xor a b) on unpicked unpicked
  l_xor_picks_left : {on : Place → Bool} {a b : Code} {t : TaskOf a} → Full a t → Later (xor a b) on unpicked (picked_left t)
  l_xor_picks_right : {on : Place → Bool} {a b : Code} {u : TaskOf b} → Full b u → Later (xor a b) on unpicked (picked_right u)
  l_xor_left : {on : Place → Bool} {a b : Code} {t t₁ : TaskOf a} → Later a (λ q. on (in_a ∷ q)) t t₁ → Later (xor a b) on (picked_left t) (picked_left t₁)
  l_xor_right : {on : Place → Bool} {a b : Code} {u u₁ : TaskOf b} → Later b (λ q. on (in_b ∷ q)) u u₁ → Later (xor a b) on (picked_right u) (picked_right u₁)
  l_gate : {on : Place → Bool} {r n k j : ℕ} {b : Code} {u u₁ : TaskOf b}
      → j ≡ cond (on []) (k - 1) k → Later b (λ q. on (in_b ∷ q)) u u₁ → Later (gate r n b) on (gated k u) (gated j u₁)
  l_if_true : {on : Place → Bool} {e : Exp} {a b : Code} {t t₁ : TaskOf a} → Later a (λ q. on (in_b ∷ q)) t t₁ → Later (if e a b) on (if_true t) (if_true t₁)
  l_if_false : {on : Place → Bool} {e : Exp} {a b : Code} {u u₁ : TaskOf b} → Later b (λ q. on (in_c ∷ q)) u u₁ → Later (if e a b) on (if_false u) (if_false u₁)
  l_let : {on : Place → Bool} {e : Exp} {b : Code} {v : Val} {u u₁ : TaskOf b} → Later b (λ q. on (in_b ∷ q)) u u₁ → Later (let' e b) on (bound v u) (bound v u₁)

-- at no place
abbrev pub nowhere : Place → Bool
nowhere q = false

-- what a row of kind 50 that is live in the later task was in t: live, with a touch more where `on` says so; or not live, and it has C
abbrev pub Was : (c : Code) → (Place → Bool) → TaskOf c → Place → ℕ → ℕ → Type 0
Was c on t q n j = ((k : ℕ) × LiveGate c t q n k × (j ≡ cond (on q) (k - 1) k)) ⊎ ((j ≡ n) × ((m k : ℕ) → LiveGate c t q m k → ⊥))

was_part : {c d : Code} {t : TaskOf c} {u : TaskOf d} {m : Path} {o : Operand} {q : Place} {n j : ℕ} (on : Place → Bool) → Part c t m o d u → Was d (λ q. on (o ∷ q)) u q n j → Was c on t (o ∷ q) n j
was_part on p (inl (k, l, e)) = inl (k, live_below p l, e)
was_part on p (inr (e, f)) = inr (e, λ m k l. f m k (live_part p l))

not_yet_then : {a b : Code} {t : TaskOf a} {q : Place} {n k : ℕ} → LiveGate (then a b) (before t) (in_b ∷ q) n k → ⊥
not_yet_then (live_below p l) = elim p [ ]

not_yet_next : {a b : Code} {t : TaskOf a} {q : Place} {n k : ℕ} → LiveGate (next a b) (before t) (in_b ∷ q) n k → ⊥
not_yet_next (live_below p l) = elim p [ ]

unpicked_none : {a b : Code} {q : Place} {n k : ℕ} → LiveGate (xor a b) unpicked q n k → ⊥
unpicked_none (live_below p l) = unpicked_whole p

pub was : {c : Code} {on : Place → Bool} {t t₁ : TaskOf c} {q : Place} {n j : ℕ} → Later c on t t₁ → LiveGate c t₁ q n j → Was c on t q n j
was l_edit (live_below p l) = edit_whole p
was l_enter (live_below p l) = enter_whole p
was l_update (live_below p l) = update_whole p
was l_fail (live_below p l) = fail_whole p
was l_view (live_below p l) = view_whole p
was {on = on} (l_then d) (live_below of_then l) = was_part on of_then (was d l)
was (l_then_taken f) (live_below of_then_after l) = inr (f _ _ _ l, λ m k h. not_yet_then h)
was {on = on} (l_then_after d) (live_below of_then_after l) = was_part on of_then_after (was d l)
was {on = on} (l_next d) (live_below of_next l) = was_part on of_next (was d l)
was (l_next_taken f) (live_below of_next_after l) = inr (f _ _ _ l, λ m k h. not_yet_next h)
was {on = on} (l_next_after d) (live_below of_next_after l) = was_part on of_next_after (was d l)
was {on = on} (l_and d e) (live_below of_and_first l) = was_part on of_and_first (was d l)
was {on = on} (l_and d e) (live_below of_and_second l) = was_part on of_and_second (was e l)
was {on = on} (l_or d e) (live_below of_or_first l) = was_part on of_or_first (was d l)
was {on = on} (l_or d e) (live_below of_or_second l) = was_part on of_or_second (was e l)
was {on = on} (l_or_goes_left d) (live_below of_or_left l) = was_part on of_or_first (was d l)
was {on = on} (l_or_goes_right d) (live_below of_or_right l) = was_part on of_or_second (was d l)
was {on = on} (l_or_left d) (live_below of_or_left l) = was_part on of_or_left (was d l)
was {on = on} (l_or_right d) (live_below of_or_right l) = was_part on of_or_right (was d l)
was l_xor (live_below p l) = unpicked_whole p
was (l_xor_picks_left f) (live_below of_xor_left l) = inr (f _ _ _ l, λ m k h. unpicked_none h)
was (l_xor_picks_right f) (live_below of_xor_right l) = inr (f _ _ _ l, λ m k h. unpicked_none h)
was {on = on} (l_xor_left d) (live_below of_xor_left l) = was_part on of_xor_left (was d l)
was {on = on} (l_xor_right d) (live_below of_xor_right l) = was_part on of_xor_right (was d l)
was (l_gate {k = k} e d) live_here = inl (k, live_here, e)
was {on = on} (l_gate e d) (live_below of_gate l) = was_part on of_gate (was d l)
was {on = on} (l_if_true d) (live_below of_if_true l) = was_part on of_if_true (was d l)
was {on = on} (l_if_false d) (live_below of_if_false l) = was_part on of_if_false (was d l)
was {on = on} (l_let d) (live_below of_let l) = was_part on of_let (was d l)

-- it says so of no place
abbrev pub Off : (Place → Bool) → Type 0
Off on = (q : Place) → on q ≡ false

pub later_full : {c : Code} {on : Place → Bool} {t t₁ : TaskOf c} → Later c on t t₁ → Off on → Full c t → Full c t₁
later_full d z f q n j l = ⊎_elim (λ (k, h, e). e ∙ ap (λ b. cond b (k - 1) k) (z q) ∙ f q n k h) (λ (e, h). e) (was d l)

-- ---- one after another

pub later_then : {c : Code} {on off : Place → Bool} {t t₁ t₂ : TaskOf c} → Later c on t t₁ → Later c off t₁ t₂ → Off off → Later c on t t₂
later_then l_edit l_edit z = l_edit
later_then l_enter l_enter z = l_enter
later_then l_update l_update z = l_update
later_then l_fail l_fail z = l_fail
later_then l_view l_view z = l_view
later_then (l_then d) (l_then e) z = l_then (later_then d e (λ q. z (in_a ∷ q)))
later_then (l_then d) (l_then_taken f) z = l_then_taken f
later_then (l_then_taken f) (l_then_after e) z = l_then_taken (later_full e (λ q. z (in_b ∷ q)) f)
later_then (l_then_after d) (l_then_after e) z = l_then_after (later_then d e (λ q. z (in_b ∷ q)))
later_then (l_next d) (l_next e) z = l_next (later_then d e (λ q. z (in_a ∷ q)))
later_then (l_next d) (l_next_taken f) z = l_next_taken f
later_then (l_next_taken f) (l_next_after e) z = l_next_taken (later_full e (λ q. z (in_b ∷ q)) f)
later_then (l_next_after d) (l_next_after e) z = l_next_after (later_then d e (λ q. z (in_b ∷ q)))
later_then (l_and d d₁) (l_and e e₁) z = l_and (later_then d e (λ q. z (in_a ∷ q))) (later_then d₁ e₁ (λ q. z (in_b ∷ q)))
later_then (l_or d d₁) (l_or e e₁) z = l_or (later_then d e (λ q. z (in_a ∷ q))) (later_then d₁ e₁ (λ q. z (in_b ∷ q)))
later_then (l_or d d₁) (l_or_goes_left e) z = l_or_goes_left (later_then d e (λ q. z (in_a ∷ q)))
later_then (l_or d d₁) (l_or_goes_right e) z = l_or_goes_right (later_then d₁ e (λ q. z (in_b ∷ q)))
later_then (l_or_goes_left d) (l_or_left e) z = l_or_goes_left (later_then d e (λ q. z (in_a ∷ q)))
later_then (l_or_goes_right d) (l_or_right e) z = l_or_goes_right (later_then d e (λ q. z (in_b ∷ q)))
later_then (l_or_left d) (l_or_left e) z = l_or_left (later_then d e (λ q. z (in_a ∷ q)))
later_then (l_or_right d) (l_or_right e) z = l_or_right (later_then d e (λ q. z (in_b ∷ q)))
later_then l_xor l_xor z = l_xor
later_then l_xor (l_xor_picks_left f) z = l_xor_picks_left f
later_then l_xor (l_xor_picks_right f) z = l_xor_picks_right f
later_then (l_xor_picks_left f) (l_xor_left e) z = l_xor_picks_left (later_full e (λ q. z (in_a ∷ q)) f)
later_then (l_xor_picks_right f) (l_xor_right e) z = l_xor_picks_right (later_full e (λ q. z (in_b ∷ q)) f)
later_then (l_xor_left d) (l_xor_left e) z = l_xor_left (later_then d e (λ q. z (in_a ∷ q)))
later_then (l_xor_right d) (l_xor_right e) z = l_xor_right (later_then d e (λ q. z (in_b ∷ q)))
later_then (l_gate i d) (l_gate {k = k} j e) z = l_gate (j ∙ ap (λ b. cond b (k - 1) k) (z []) ∙ i) (later_then d e (λ q. z (in_b ∷ q)))
later_then (l_if_true d) (l_if_true e) z = l_if_true (later_then d e (λ q. z (in_b ∷ q)))
later_then (l_if_false d) (l_if_false e) z = l_if_false (later_then d e (λ q. z (in_c ∷ q)))
later_then (l_let d) (l_let e) z = l_let (later_then d e (λ q. z (in_b ∷ q)))

-- a task comes to itself
pub stays : (c : Code) (t : TaskOf c) → Later c nowhere t t
stays (edit e) t = l_edit
stays (enter τ) t = l_enter
stays (update n) t = l_update
stays (then a b) (before t) = l_then (stays a t)
stays (then a b) (after v u) = l_then_after (stays b u)
stays (next a b) (before t) = l_next (stays a t)
stays (next a b) (after v u) = l_next_after (stays b u)
stays (fail τ) t = l_fail
stays (and a b) (both t u) = l_and (stays a t) (stays b u)
stays (or a b) (either t u) = l_or (stays a t) (stays b u)
stays (or a b) (or_left t) = l_or_left (stays a t)
stays (or a b) (or_right u) = l_or_right (stays b u)
stays (xor a b) unpicked = l_xor
stays (xor a b) (picked_left t) = l_xor_left (stays a t)
stays (xor a b) (picked_right u) = l_xor_right (stays b u)
stays (view e) t = l_view
stays (gate r n b) (gated k u) = l_gate refl (stays b u)
stays (if e a b) (if_true t) = l_if_true (stays a t)
stays (if e a b) (if_false u) = l_if_false (stays b u)
stays (let' e b) (bound v u) = l_let (stays b u)

-- ---- striding

wraps_later : {c d : Code} {ρ ρ₁ : Env} {K : TaskOf d → TaskOf c} {u u₁ : TaskOf d} → Wraps c ρ d ρ₁ K → Later d nowhere u u₁ → Later c nowhere (K u) (K u₁)
wraps_later (w_became b_then) d = l_then_after d
wraps_later (w_became b_next) d = l_next_after d
wraps_later (w_became b_or_left) d = l_or_left d
wraps_later (w_became b_or_right) d = l_or_right d
wraps_later (w_became b_xor_left) d = l_xor_left d
wraps_later (w_became b_xor_right) d = l_xor_right d
wraps_later (w_became b_if_true) d = l_if_true d
wraps_later (w_became b_if_false) d = l_if_false d
wraps_later (w_became b_let) d = l_let d
wraps_later w_gate d = l_gate refl d

strides_later : {c : Code} {ρ : Env} {s s₁ : Store} {t t₁ : TaskOf c} → Strides c ρ s t t₁ s₁ → Later c nowhere t t₁
strides_later s_edit = l_edit
strides_later s_fill = l_enter
strides_later s_update = l_update
strides_later s_fail = l_fail
strides_later (s_then_stay d h) = l_then (strides_later d)
strides_later (s_then_fail d h f) = l_then (strides_later d)
strides_later (s_then_cont d h e f) = l_then_taken (full e)
strides_later (s_next d) = l_next (strides_later d)
strides_later (s_and d e) = l_and (strides_later d) (strides_later e)
strides_later (s_or_left d h) = l_or_goes_left (strides_later d)
strides_later (s_or_right d h e k) = l_or_goes_right (strides_later e)
strides_later (s_or_none d h e k) = l_or (strides_later d) (strides_later e)
strides_later s_xor = l_xor
strides_later s_view = l_view
strides_later {c} {t = t} (s_wraps {K = K} {u₁ = u₁} w e e₁ d) = subst (λ z. Later c nowhere t z) e₁ (subst (λ z. Later c nowhere z (K u₁)) e (wraps_later w (strides_later d)))

pub normalises_later : {c : Code} {ρ : Env} {s s₁ : Store} {t t₁ : TaskOf c} {n : ℕ} → Normalises c ρ s t t₁ s₁ n → Later c nowhere t t₁
normalises_later (n_done d) = strides_later d
normalises_later (n_repeat d h e) = later_then (strides_later d) (normalises_later e) (λ q. refl)
