-- CR 6's sentence on touches, on trees: an event that is taken leaves each row of kind 50 on its way, from the last row to the row that takes it,
-- with one touch less; every other one that is live before and after as it was; and one that was not live before with C. So by handling alone
-- (`handles_uses`; those on the way all stay live, `passed_live`), and by handling and normalising (`touches_used`). One row takes an event
-- (`taken_one`), and where the event is accepted each on the way had a touch left (`touch_left`). Rests on LaterTasks and Admitted.
use mathlib.Core.Path.{◌≡◌, refl, sym, ap, ap₂, subst, ◌∙◌}
use mathlib.Core.Bool.{Bool, true, cond}
use mathlib.Core.Logic.{⊎_elim}
use mathlib.Core.Option.{none}
use mathlib.Core.List.{List, [], ◌∷◌, ◌++◌, append-nil, cons≢nil}
use Prim.Native.Nat.{ℕ, ◌-◌, ◌<◌}
use native.Mathlib.Omega.{arith}
use borrow.Author.Tests.{ltb-true}
use lib.Dec.{ltb}
use Rattle.decimal.specs.Path.{Mark, first, second, Path}
use Rattle.tophat.specs.Syntax.{Code, gate, Env, Store, TaskOf, gated}
use Rattle.tophat.specs.Normalising.{value, Became, b_then, b_next, b_or_left, b_or_right, b_xor_left, b_xor_right, b_if_true, b_if_false, b_let, Normalises}
use Rattle.tophat.specs.Roles.{Gate, of_role, touches_left, is, admits}
use Rattle.tophat.specs.Handling.{continue, press, Action, Handles, h_change, h_fill, h_update, h_pass_then, h_pass_next, h_next}
use Rattle.tophat.specs.Handling.{h_first_and, h_second_and, h_first_or, h_second_or, h_pick_left, h_pick_right, h_became, h_gate}
use Rattle.tophat.specs.TouchesLeft.{Operand, in_a, in_b, in_c, same_operand, Place, on_way, LiveGate, live_here, live_below}
use Rattle.tophat.specs.TouchesLeft.{Part, of_then, of_then_after, of_next, of_next_after, of_and_first, of_and_second, of_or_first, of_or_second, of_or_left, of_or_right}
use Rattle.tophat.specs.TouchesLeft.{of_xor_left, of_xor_right, of_gate, of_if_true, of_if_false, of_let}
use Rattle.tophat.specs.TouchesLeft.{TakenAt, by_edit, by_enter, by_update, by_next, by_xor_left, by_xor_right, by_part, own_gate, GatesTo, gates_end, gates_below, UsesTouches}
use Rattle.tophat.proofs.Basics.{and_left, and_right, no_some, apart}
use Rattle.tophat.proofs.Admitted.{admits_role}
use Rattle.tophat.proofs.LaterTasks.{edit_whole, enter_whole, update_whole, unpicked_whole, live_part, live_one, full, Later, l_edit, l_enter, l_update, l_then, l_then_after, l_next, l_next_taken, l_next_after, l_and, l_or, l_or_left, l_or_right}
use Rattle.tophat.proofs.LaterTasks.{l_xor_picks_left, l_xor_picks_right, l_xor_left, l_xor_right, l_gate, l_if_true, l_if_false, l_let, nowhere, was, later_full, later_then, stays, normalises_later}

-- ---- handling

-- what a handling does: the place of the row that takes the event, the rows of kind 50 on the way to it, and a later task, where these rows are
-- live with one touch less
record Passes (c : Code) (s : Store) (t : TaskOf c) (p : Path) (x : Action) (gs : List Gate) (t₁ : TaskOf c) : Type 0 where
  taker : Place
  takes : TakenAt c s t p x taker
  passed : GatesTo c t taker gs
  later : Later c (λ q. on_way q taker) t t₁
  live : (q : Place) {n k : ℕ} → on_way q taker ≡ true → LiveGate c t q n k → LiveGate c t₁ q n (k - 1)

same_is : (o i : Operand) → same_operand o i ≡ true → o ≡ i
unfolding same_operand
same_is in_a in_a e = refl
same_is in_a in_b e = apart refl (sym e)
same_is in_a in_c e = apart refl (sym e)
same_is in_b in_a e = apart refl (sym e)
same_is in_b in_b e = refl
same_is in_b in_c e = apart refl (sym e)
same_is in_c in_a e = apart refl (sym e)
same_is in_c in_b e = apart refl (sym e)
same_is in_c in_c e = refl

-- a row of kind 50 on the way to w, below an operand: the operand is the way's, and the row is on the rest of it
on_below : {c d : Code} {t : TaskOf c} {u : TaskOf d} {m : Path} {a o : Operand} {q : Place} {n k : ℕ} (w : Place)
    → Part c t m o d u → on_way (a ∷ q) (o ∷ w) ≡ true → LiveGate c t (a ∷ q) n k → (a ≡ o) × (on_way q w ≡ true) × LiveGate d u q n k
unfolding on_way
on_below {c} {t = t} {a = a} {o = o} {q = q} {n = n} {k = k} w i e l =
    let z = same_is a o (and_left (same_operand a o) _ e) in
    (z, and_right (same_operand a o) _ e, live_part i (subst (λ a. LiveGate c t (a ∷ q) n k) z l))

-- a row of another kind has no touches
no_own : {A : Type 0} {c : Code} {t : TaskOf c} {n k : ℕ} → own_gate c t ≡ [] → LiveGate c t [] n k → A
unfolding own_gate
no_own e live_here = absurd (cons≢nil e)

-- at the row that takes it, which is not of kind 50
ends : {s : Store} {x : Action} {c : Code} {t t₁ : TaskOf c} {p : Path}
    → TakenAt c s t p x [] → own_gate c t ≡ [] → Later c (λ q. on_way q []) t t₁ → Passes c s t p x [] t₁
unfolding on_way
ends {c = c} {t = t} {t₁ = t₁} i g l = record { taker = []; takes = i; passed = subst (GatesTo c t []) g gates_end; later = l; live = by }
  where
    by : (q : Place) {n k : ℕ} → on_way q [] ≡ true → LiveGate c t q n k → LiveGate c t₁ q n (k - 1)
    by [] w h = no_own g h
    by (a ∷ q) w h = apart refl (sym w)

-- a row of kind 50 itself
gate_used : {r m j n k : ℕ} {b : Code} {u u₁ : TaskOf b} → LiveGate (gate r m b) (gated j u) [] n k → LiveGate (gate r m b) (gated (j - 1) u₁) [] n (k - 1)
gate_used live_here = live_here

module _ {s : Store} {x : Action} {c d : Code} {t t₁ : TaskOf c} {u u₁ : TaskOf d} {m p : Path} {o : Operand} {gs : List Gate} where
  -- through an operand
  through : (e : Passes d s u p x gs u₁) → Part c t m o d u → Part c t₁ m o d u₁ → Later c (λ q. on_way q (o ∷ e.taker)) t t₁
      → ((n k : ℕ) → LiveGate c t [] n k → LiveGate c t₁ [] n (k - 1)) → Passes c s t (m ++ p) x (own_gate c t ++ gs) t₁
  unfolding on_way
  through e i i₁ l top = record { taker = o ∷ e.taker; takes = by_part i e.takes; passed = gates_below i e.passed; later = l; live = by }
    where
      by : (q : Place) {n k : ℕ} → on_way q (o ∷ e.taker) ≡ true → LiveGate c t q n k → LiveGate c t₁ q n (k - 1)
      by [] w h = top _ _ h
      by (a ∷ q) {n} {k} w h =
          let (z, v, l) = on_below e.taker i w h in
          subst (λ a. LiveGate c t₁ (a ∷ q) n (k - 1)) (sym z) (live_below i₁ (e.live q v l))

  -- of a row that is not of kind 50
  onward : own_gate c t ≡ [] → (e : Passes d s u p x gs u₁) → Part c t m o d u → Part c t₁ m o d u₁ → Later c (λ q. on_way q (o ∷ e.taker)) t t₁ → Passes c s t (m ++ p) x gs t₁
  onward g e i i₁ l = subst (λ hs. Passes c s t (m ++ p) x (hs ++ gs) t₁) g (through e i i₁ l (λ n k h. no_own g h))

became_passes : {s : Store} {x : Action} {c d : Code} {ρ ρ₁ : Env} {K : TaskOf d → TaskOf c} {u u₁ : TaskOf d} {p : Path} {gs : List Gate}
    → Became c ρ d ρ₁ K → Passes d s u p x gs u₁ → Passes c s (K u) p x gs (K u₁)
unfolding own_gate on_way same_operand
became_passes b_then e = onward refl e of_then_after of_then_after (l_then_after e.later)
became_passes b_next e = onward refl e of_next_after of_next_after (l_next_after e.later)
became_passes b_or_left e = onward refl e of_or_left of_or_left (l_or_left e.later)
became_passes b_or_right e = onward refl e of_or_right of_or_right (l_or_right e.later)
became_passes b_xor_left e = onward refl e of_xor_left of_xor_left (l_xor_left e.later)
became_passes b_xor_right e = onward refl e of_xor_right of_xor_right (l_xor_right e.later)
became_passes b_if_true e = onward refl e of_if_true of_if_true (l_if_true e.later)
became_passes b_if_false e = onward refl e of_if_false of_if_false (l_if_false e.later)
became_passes b_let e = onward refl e of_let of_let (l_let e.later)

passes : {c : Code} {ρ : Env} {s s₁ : Store} {t t₁ : TaskOf c} {p : Path} {x : Action} {gs : List Gate} → Handles c ρ s t p x t₁ s₁ gs → Passes c s t p x gs t₁
unfolding own_gate on_way same_operand
passes (h_change h k) = ends by_edit refl l_edit
passes (h_fill k) = ends by_enter refl l_enter
passes (h_update i h k) = ends by_update refl l_update
passes (h_pass_then d) = let e = passes d in onward refl e of_then of_then (l_then e.later)
passes (h_pass_next d) = let e = passes d in onward refl e of_next of_next (l_next e.later)
passes (h_next h d f) = ends (by_next h) refl (l_next_taken (full d))
passes (h_first_and {b = b} {u = u} d) = let e = passes d in onward refl e of_and_first of_and_first (l_and e.later (stays b u))
passes (h_second_and {a = a} {t = t} d) = let e = passes d in onward refl e of_and_second of_and_second (l_and (stays a t) e.later)
passes (h_first_or {b = b} {u = u} d) = let e = passes d in onward refl e of_or_first of_or_first (l_or e.later (stays b u))
passes (h_second_or {a = a} {t = t} d) = let e = passes d in onward refl e of_or_second of_or_second (l_or (stays a t) e.later)
passes (h_pick_left d n f) = ends by_xor_left refl (l_xor_picks_left (later_full (normalises_later n) (λ q. refl) (full d)))
passes (h_pick_right d n f) = ends by_xor_right refl (l_xor_picks_right (later_full (normalises_later n) (λ q. refl) (full d)))
passes (h_became b d) = became_passes b (passes d)
passes (h_gate d) = let e = passes d in through e of_gate of_gate (l_gate refl e.later) (λ n k l. gate_used l)

-- ---- one row takes an event

continue_none : {c : Code} {s : Store} {t : TaskOf c} {p : Path} {w : Place} → TakenAt c s t p (press continue) w → p ≡ [] → value c t s ≡ none
unfolding value
continue_none (by_next h) e = refl
continue_none (by_part of_then d) e = refl
continue_none (by_part of_then_after d) e = continue_none d e
continue_none (by_part of_next d) e = refl
continue_none (by_part of_next_after d) e = continue_none d e
continue_none (by_part of_and_first d) e = absurd (cons≢nil e)
continue_none (by_part of_and_second d) e = absurd (cons≢nil e)
continue_none (by_part of_or_first d) e = absurd (cons≢nil e)
continue_none (by_part of_or_second d) e = absurd (cons≢nil e)
continue_none (by_part of_or_left d) e = continue_none d e
continue_none (by_part of_or_right d) e = continue_none d e
continue_none (by_part of_xor_left d) e = continue_none d e
continue_none (by_part of_xor_right d) e = continue_none d e
continue_none (by_part of_gate d) e = continue_none d e
continue_none (by_part of_if_true d) e = continue_none d e
continue_none (by_part of_if_false d) e = continue_none d e
continue_none (by_part of_let d) e = continue_none d e

-- the same operand, for the rest of the path
data SamePart : Operand → (d : Code) → TaskOf d → Path → Operand → (d₁ : Code) → TaskOf d₁ → Path → Type 0 where
  same_part : {o : Operand} {d : Code} {u : TaskOf d} {p p₁ : Path} → p ≡ p₁ → SamePart o d u p o d u p₁

tail_is : {m : Mark} {p q : Path} → m ∷ p ≡ m ∷ q → p ≡ q
tail_is e = cc

first_second : {A : Type 0} {p q : Path} → first ∷ p ≡ second ∷ q → A
first_second e = let z : ◌≡◌ {A = ℕ} 0 1 = cc in absurd (omega arith)

which : {c d d₁ : Code} {t : TaskOf c} {u : TaskOf d} {u₁ : TaskOf d₁} {m m₁ p p₁ : Path} {o o₁ : Operand}
    → Part c t m o d u → Part c t m₁ o₁ d₁ u₁ → m ++ p ≡ m₁ ++ p₁ → SamePart o d u p o₁ d₁ u₁ p₁
which of_then of_then e = same_part e
which of_then_after of_then_after e = same_part e
which of_next of_next e = same_part e
which of_next_after of_next_after e = same_part e
which of_and_first of_and_first e = same_part (tail_is e)
which of_and_first of_and_second e = first_second e
which of_and_second of_and_second e = same_part (tail_is e)
which of_and_second of_and_first e = first_second (sym e)
which of_or_first of_or_first e = same_part (tail_is e)
which of_or_first of_or_second e = first_second e
which of_or_second of_or_second e = same_part (tail_is e)
which of_or_second of_or_first e = first_second (sym e)
which of_or_left of_or_left e = same_part e
which of_or_right of_or_right e = same_part e
which of_xor_left of_xor_left e = same_part e
which of_xor_right of_xor_right e = same_part e
which of_gate of_gate e = same_part e
which of_if_true of_if_true e = same_part e
which of_if_false of_if_false e = same_part e
which of_let of_let e = same_part e

same_taken : {s : Store} {x : Action} {d d₁ : Code} {u : TaskOf d} {u₁ : TaskOf d₁} {p p₁ : Path} {o o₁ : Operand} {w : Place}
    → SamePart o d u p o₁ d₁ u₁ p₁ → TakenAt d₁ s u₁ p₁ x w → (o ≡ o₁) × (p ≡ p₁) × TakenAt d s u p₁ x w
same_taken (same_part e) d = (refl, e, d)

taken_at : {c : Code} {s : Store} {t : TaskOf c} {p p₁ : Path} {x : Action} {w w₁ : Place} → TakenAt c s t p x w → TakenAt c s t p₁ x w₁ → p ≡ p₁ → w ≡ w₁
taken_at by_edit by_edit q = refl
taken_at by_edit (by_part i e) q = edit_whole i
taken_at by_enter by_enter q = refl
taken_at by_enter (by_part i e) q = enter_whole i
taken_at by_update by_update q = refl
taken_at by_update (by_part i e) q = update_whole i
taken_at (by_next h) (by_next k) q = refl
taken_at (by_next h) (by_part of_next e) q = no_some (sym (continue_none e (sym q)) ∙ h)
taken_at by_xor_left by_xor_left q = refl
taken_at by_xor_left (by_part i e) q = unpicked_whole i
taken_at by_xor_right by_xor_right q = refl
taken_at by_xor_right (by_part i e) q = unpicked_whole i
taken_at (by_part i d) by_edit q = edit_whole i
taken_at (by_part i d) by_enter q = enter_whole i
taken_at (by_part i d) by_update q = update_whole i
taken_at (by_part of_next d) (by_next h) q = no_some (sym (continue_none d q) ∙ h)
taken_at (by_part i d) by_xor_left q = unpicked_whole i
taken_at (by_part i d) by_xor_right q = unpicked_whole i
taken_at (by_part i d) (by_part j e) q = let (o, r, f) = same_taken (which i j q) e in ap₂ ◌∷◌ o (taken_at d f r)

pub taken_one : {c : Code} {s : Store} {t : TaskOf c} {p : Path} {x : Action} {w w₁ : Place} → TakenAt c s t p x w → TakenAt c s t p x w₁ → w ≡ w₁
taken_one d e = taken_at d e refl

-- ---- what an event uses

-- a row of kind 50 that is live before and after
used_at : {c : Code} {on : Place → Bool} {t t₁ : TaskOf c} {q : Place} {n m k j : ℕ} → Later c on t t₁ → LiveGate c t q n k → LiveGate c t₁ q m j → j ≡ cond (on q) (k - 1) k
used_at {on = on} {q = q} d l h = ⊎_elim (λ (i, g, e). e ∙ ap (λ k. cond (on q) (k - 1) k) (live_one g l)) (λ (e, f). absurd (f _ _ l)) (was d h)

uses : {c : Code} {s : Store} {t t₁ t₂ : TaskOf c} {p : Path} {x : Action} {gs : List Gate} → Passes c s t p x gs t₁ → Later c nowhere t₁ t₂ → UsesTouches c s t p x gs t₂
uses e d =
    let l = later_then e.later d (λ q. refl) in
    record {
      taker = e.taker;
      takes = e.takes;
      passed = e.passed;
      used = λ q n m k j w h i. used_at l h i ∙ ap (λ b. cond b (k - 1) k) w;
      kept = λ q n m k j w h i. used_at l h i ∙ ap (λ b. cond b (k - 1) k) w;
      fresh = λ q n k f h. ⊎_elim (λ (i, g, e). absurd (f _ _ g)) (λ (e, f). e) (was l h);
    }

own_left : {c : Code} {t : TaskOf c} {n k : ℕ} (gs : List Gate) → LiveGate c t [] n k → touches_left (own_gate c t ++ gs) ≡ true → 0 < k
unfolding own_gate touches_left
own_left {k = k} gs live_here e = ltb-true 0 k (and_left (ltb 0 k) _ e)

rest_left : (hs gs : List Gate) → touches_left (hs ++ gs) ≡ true → touches_left gs ≡ true
unfolding touches_left
rest_left [] gs e = e
rest_left (h ∷ hs) gs e = rest_left hs gs (and_right (ltb 0 h.1) _ e)

way_left : {c : Code} {t : TaskOf c} {w : Place} {gs : List Gate} {n k : ℕ} → GatesTo c t w gs → touches_left gs ≡ true → (q : Place) → on_way q w ≡ true → LiveGate c t q n k → 0 < k
unfolding on_way
way_left {c} {t} gates_end e [] o l = own_left [] l (ap touches_left (append-nil (own_gate c t)) ∙ e)
way_left gates_end e (a ∷ q) o l = apart refl (sym o)
way_left (gates_below {gs = gs} i g) e [] o l = own_left gs l e
way_left {c} {t} (gates_below {w = w} {gs = gs} i g) e (a ∷ q) o l = let (z, v, h) = on_below w i o l in way_left g (rest_left (own_gate c t) gs e) q v h

-- of an event that is accepted, each row on the way had a touch left, so that it is left with one less
pub touch_left : {c : Code} {s : Store} {t t₁ : TaskOf c} {p : Path} {x : Action} {gs : List Gate} (z : UsesTouches c s t p x gs t₁) (role : ℕ) → admits (is role) gs ≡ true
    → (q : Place) (n k : ℕ) → on_way q z.taker ≡ true → LiveGate c t q n k → 0 < k
touch_left {gs = gs} z role e q n k o l = way_left z.passed (and_right (of_role role gs) _ (sym (admits_role role gs) ∙ e)) q o l

module _ {c : Code} {ρ : Env} {s s₁ : Store} {t t₁ : TaskOf c} {p : Path} {x : Action} {gs : List Gate} (d : Handles c ρ s t p x t₁ s₁ gs) where
  -- by handling alone
  pub handles_uses : UsesTouches c s t p x gs t₁
  handles_uses = uses (passes d) (stays c t₁)

  -- where each row of kind 50 on the way stays live
  pub passed_live : {w : Place} → TakenAt c s t p x w → (q : Place) (n k : ℕ) → on_way q w ≡ true → LiveGate c t q n k → LiveGate c t₁ q n (k - 1)
  passed_live i q n k e l = let p = passes d in p.live q (ap (on_way q) (taken_one p.takes i) ∙ e) l

  -- by handling and normalising
  pub touches_used : {s₂ : Store} {t₂ : TaskOf c} {n : ℕ} → Normalises c ρ s₁ t₁ t₂ s₂ n → UsesTouches c s t p x gs t₂
  touches_used n = uses (passes d) (normalises_later n)
