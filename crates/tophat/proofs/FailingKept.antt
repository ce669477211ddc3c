-- Striding and normalising do not change whether a task fails: one with a value does not fail, one that fails does not
-- move, and what has moved does not fail, in the store that it leaves. Rests on Progress.
use mathlib.Core.Path.{◌≡◌, refl, sym, ap, ap₂, ◌∙◌}
use mathlib.Core.Bool.{Bool, true, false, ◌&&◌, ◌||◌}
use mathlib.Core.Option.{Option, none, some}
use mathlib.Core.List.{◌∷◌}
use Prim.Native.Nat.{ℕ, zero, suc, ◌<◌}
use native.Mathlib.Omega.{arith}
use Rattle.tophat.specs.Syntax.{moves, Code, then, or, xor, Val, Env, Store}
use Rattle.tophat.specs.Syntax.{TaskOf, unpicked}
use Rattle.tophat.specs.Normalising.{pair_of, first_of, value}
use Rattle.tophat.proofs.Basics.{apart, by_truth, and_left, and_right, or_false, no_some}
use Rattle.tophat.proofs.ComputeEvaluation.{evaluate, overflows_task}
use Rattle.tophat.proofs.ComputeNormalising.{unless_still, strides, go_on, go_on_with, choose_right, choose_left, failing, stride, normalise, settle, right_fails}
use Rattle.tophat.proofs.Became.{alike, Formed, of_wraps, of_edit, of_enter, of_update, of_then, of_next, of_fail, of_and, of_or, of_xor, of_view, formed}
use Rattle.tophat.proofs.Progress.{flag_is}

right_false : (x y : Bool) → y ≡ false → x && y ≡ false
right_false true y e = e
right_false false y e = refl

paired : (o p : Option Val) (x y : Bool) {v : Val} → ((w : Val) → o ≡ some w → x ≡ false) → pair_of o p ≡ some v → x && y ≡ false
unfolding pair_of
paired none p x y h e = no_some e
paired (some w) p x y h e = let k = h w refl in rw k

chosen : (o p : Option Val) (x y : Bool) {v : Val} → ((w : Val) → o ≡ some w → x ≡ false) → ((w : Val) → p ≡ some w → y ≡ false) → first_of o p ≡ some v → x && y ≡ false
unfolding first_of
chosen none p x y {v} h k e = right_false x y (k v e)
chosen (some w) p x y h k e = let l = h w refl in rw l

lives : {c : Code} {ρ : Env} {t : TaskOf c} → Formed c ρ t → (s : Store) (v : Val) → value c t s ≡ some v → failing c ρ s t ≡ false
unfolding value failing
lives (of_wraps {u = u} b d) s v h = (alike b).fails s u ∙ lives d s v (sym ((alike b).values s u) ∙ h)
lives of_edit s v h = refl
lives of_enter s v h = refl
lives of_update s v h = refl
lives (of_then d e) s v h = no_some h
lives (of_next d e) s v h = no_some h
lives of_fail s v h = no_some h
lives (of_and d e) s v h = paired _ _ _ _ (λ w k. lives d s w k) h
lives (of_or d e) s v h = chosen _ _ _ _ (λ w k. lives d s w k) (λ w k. lives e s w k) h
lives (of_xor d e) s v h = no_some h
lives of_view s v h = refl

-- a task with a value does not fail
pub value_lives : (c : Code) (ρ : Env) (s : Store) (t : TaskOf c) (v : Val) → value c t s ≡ some v → failing c ρ s t ≡ false
value_lives c ρ s t = lives (formed c ρ t) s

none_else : (o : Option Val) → ((v : Val) → o ≡ some v → none ≡ some v) → o ≡ none
none_else none f = refl
none_else (some v) f = no_some (f v refl)

-- so a task that fails and does not move has no value where its stride leaves it
no_value : (c : Code) (ρ : Env) (s : Store) (t : TaskOf c) → failing c ρ s t ≡ true → (stride c ρ s t).2 ≡ false → value c (stride c ρ s t).0 (stride c ρ s t).1 ≡ none
no_value c ρ s t h k = let q = (flag_is c ρ s t).0 k in ap₂ (value c) q.0 q.1 ∙ none_else (value c t s) (λ v e. apart h (value_lives c ρ s t v e))

still : {c : Code} {ρ : Env} {t : TaskOf c} → Formed c ρ t → (s : Store) → failing c ρ s t ≡ true → (stride c ρ s t).2 ≡ false
unfolding failing stride go_on_with choose_left choose_right
still (of_wraps {u = u} b d) s h = ap (λ r. r.2) ((alike b).strides s u) ∙ still d s (sym ((alike b).fails s u) ∙ h)
still of_edit s h = refl
still of_enter s h = refl
still of_update s h = refl
still (of_then {ρ = ρ} {a = a} {t = t} d e) s h = let k = still d s h in let e = no_value a ρ s t h k in rw (e, k)
still (of_next d e) s h = still d s h
still of_fail s h = refl
still (of_and {ρ = ρ} {a = a} {b = b} {t = t} {u = u} d e) s h =
    let k = still d s (and_left (failing a ρ s t) (failing b ρ s u) h) in
    let i = ((flag_is a ρ s t).0 k).1 in
    let l = still e s (and_right (failing a ρ s t) (failing b ρ s u) h) in
    rw (k, i, l)
still (of_or {ρ = ρ} {a = a} {b = b} {t = t} {u = u} d e) s h =
    let f = and_left (failing a ρ s t) (failing b ρ s u) h in
    let g = and_right (failing a ρ s t) (failing b ρ s u) h in
    let k = still d s f in
    let l = still e s g in
    let i = no_value a ρ s t f k in
    let j = no_value b ρ s u g l in
    let m = ((flag_is a ρ s t).0 k).1 in
    rw (i, m, j, k, l)
still (of_xor d e) s h = refl
still of_view s h = refl

-- a task that fails does not move
pub failing_still : (c : Code) (ρ : Env) (s : Store) (t : TaskOf c) → failing c ρ s t ≡ true → (stride c ρ s t).2 ≡ false
failing_still c ρ s t = still (formed c ρ t) s

-- what a stride leaves, where it moved
abbrev LivesIfMoved : (c : Code) → Env → TaskOf c × Store × Bool → Type 0
LivesIfMoved c ρ r = r.2 ≡ true → failing c ρ r.1 r.0 ≡ false

module _ (a b : Code) (ρ : Env) where
  go_on_lem : (v : Val) (t : TaskOf a) (s : Store) (m : Bool) (r : TaskOf b × Store) (x : Bool) → (x ≡ false → failing b (v ∷ ρ) r.1 r.0 ≡ false)
      → LivesIfMoved a ρ (t, s, m) → LivesIfMoved (then a b) ρ (go_on v t s m r x)
  unfolding go_on failing
  go_on_lem v t s m r true f h = h
  go_on_lem v t s m r false f h = λ e. f refl

  go_on_with_lem : (o : Option Val) (t : TaskOf a) (s : Store) (m : Bool) → LivesIfMoved a ρ (t, s, m)
      → LivesIfMoved (then a b) ρ (go_on_with o t s m (λ v. evaluate b (v ∷ ρ) s) (λ v r. overflows_task b (v ∷ ρ) s || failing b (v ∷ ρ) r.1 r.0))
  unfolding go_on_with failing
  go_on_with_lem none t s m h = h
  go_on_with_lem (some v) t s m h = go_on_lem v t s m (evaluate b (v ∷ ρ) s) _ (λ e. (or_false (overflows_task b (v ∷ ρ) s) _ e).1) h

  -- two parts, the second at u in s and strided from there: if it did not move, the store is still s
  two : (t : TaskOf a) (s : Store) (m : Bool) (u : TaskOf b) → LivesIfMoved a ρ (t, s, m) → LivesIfMoved b ρ (stride b ρ s u) → m || (stride b ρ s u).2 ≡ true
      → failing a ρ (stride b ρ s u).1 t && failing b ρ (stride b ρ s u).1 (stride b ρ s u).0 ≡ false
  two t s m u h k e =
      by_truth (stride b ρ s u).2
      (λ f. right_false (failing a ρ (stride b ρ s u).1 t) (failing b ρ (stride b ρ s u).1 (stride b ρ s u).0) (k f))
      (λ f. let g = ((flag_is b ρ s u).0 f).1 in let l : m ≡ true = moved m (stride b ρ s u).2 f e in let i = h l in rw (g, i))
    where
      moved : (x y : Bool) → y ≡ false → x || y ≡ true → x ≡ true
      moved true y f e = refl
      moved false y f e = apart e f

  choose_right_lem : (o : Option Val) (t : TaskOf a) (s : Store) (m : Bool) (u : TaskOf b) → value b (stride b ρ s u).0 (stride b ρ s u).1 ≡ o
      → LivesIfMoved a ρ (t, s, m) → LivesIfMoved b ρ (stride b ρ s u)
      → LivesIfMoved (or a b) ρ (choose_right o t (stride b ρ s u).0 (stride b ρ s u).1 (m || (stride b ρ s u).2))
  unfolding choose_right failing
  choose_right_lem none t s m u f h k = two t s m u h k
  choose_right_lem (some w) t s m u f h k = λ e. value_lives b ρ (stride b ρ s u).1 (stride b ρ s u).0 w f

  choose_left_lem : (o : Option Val) (t : TaskOf a) (s : Store) (m : Bool) (u : TaskOf b) → value a t s ≡ o → LivesIfMoved a ρ (t, s, m)
      → LivesIfMoved b ρ (stride b ρ s u) → LivesIfMoved (or a b) ρ (choose_left o t u s m (λ s u. stride b ρ s u) (λ u s. value b u s))
  unfolding choose_left failing
  choose_left_lem none t s m u f h k = choose_right_lem (value b (stride b ρ s u).0 (stride b ρ s u).1) t s m u refl h k
  choose_left_lem (some v) t s m u f h k = λ e. value_lives a ρ s t v f

goes : {c : Code} {ρ : Env} {t : TaskOf c} → Formed c ρ t → (s : Store) → LivesIfMoved c ρ (stride c ρ s t)
unfolding failing stride
goes (of_wraps {u = u} b d) s h =
    let e = (alike b).strides s u in
    let k = goes d s (sym (ap (λ r. r.2) e) ∙ h) in
    rw e ((alike b).fails _ _ ∙ k)
goes of_edit s h = refl
goes of_enter s h = refl
goes of_update s h = refl
goes (of_then {ρ = ρ} {a = a} {b = b} {t = t} d e) s h =
    go_on_with_lem a b ρ (value a (stride a ρ s t).0 (stride a ρ s t).1) (stride a ρ s t).0 (stride a ρ s t).1 (stride a ρ s t).2 (λ k. goes d s k) h
goes (of_next d e) s h = goes d s h
goes of_fail s h = sym h
goes (of_and {ρ = ρ} {a = a} {b = b} {t = t} {u = u} d e) s h = two a b ρ (stride a ρ s t).0 (stride a ρ s t).1 (stride a ρ s t).2 u (λ k. goes d s k) (λ k. goes e (stride a ρ s t).1 k) h
goes (of_or {ρ = ρ} {a = a} {b = b} {t = t} {u = u} d e) s h =
    choose_left_lem a b ρ (value a (stride a ρ s t).0 (stride a ρ s t).1) (stride a ρ s t).0 (stride a ρ s t).1 (stride a ρ s t).2 u refl (λ k. goes d s k) (λ k. goes e (stride a ρ s t).1 k) h
goes (of_xor d e) s h = apart h refl
goes of_view s h = refl

-- a stride that moved leaves a task that does not fail, in the store that it leaves
pub moved_lives : (c : Code) (ρ : Env) (s : Store) (t : TaskOf c) → (stride c ρ s t).2 ≡ true → failing c ρ (stride c ρ s t).1 (stride c ρ s t).0 ≡ false
moved_lives c ρ s t = goes (formed c ρ t) s

module _ (c : Code) (ρ : Env) where
  -- a stride does not change whether a task fails
  pub stride_failing : (s : Store) (t : TaskOf c) → failing c ρ (stride c ρ s t).1 (stride c ρ s t).0 ≡ failing c ρ s t
  stride_failing s t =
      by_truth (stride c ρ s t).2
      (λ m. moved_lives c ρ s t m ∙ by_truth (failing c ρ s t) (λ h. apart m (failing_still c ρ s t h)) sym)
      (λ m. let q = (flag_is c ρ s t).0 m in ap₂ (failing c ρ) q.1 q.0)

  unless_failing : (m : Bool) (t : TaskOf c) (s : Store) (x : Bool) (k : TaskOf c → Store → TaskOf c × Store × ℕ) → failing c ρ s t ≡ x
      → failing c ρ (k t s).1 (k t s).0 ≡ failing c ρ s t → failing c ρ (unless_still m t s k).1 (unless_still m t s k).0 ≡ x
  unfolding unless_still
  unless_failing false t s x k e h = e
  unless_failing true t s x k e h = h ∙ e

  -- nor do strides, up to any limit
  pub strides_failing : (n : ℕ) (s : Store) (t : TaskOf c) → let r = strides (λ s t. stride c ρ s t) n s t in failing c ρ r.1 r.0 ≡ failing c ρ s t
  unfolding strides
  strides_failing zero s t = refl
  strides_failing (suc n) s t =
      unless_failing (stride c ρ s t).2 (stride c ρ s t).0 (stride c ρ s t).1 (failing c ρ s t) (λ t s. strides (λ s t. stride c ρ s t) n s t)
      (stride_failing s t) (strides_failing n (stride c ρ s t).1 (stride c ρ s t).0)

  unless_lives : (m : Bool) (t : TaskOf c) (s : Store) (k : TaskOf c → Store → TaskOf c × Store × ℕ) → LivesIfMoved c ρ (t, s, m)
      → failing c ρ (k t s).1 (k t s).0 ≡ failing c ρ s t → 1 < (unless_still m t s k).2 → failing c ρ (unless_still m t s k).1 (unless_still m t s k).0 ≡ false
  unfolding unless_still
  unless_lives false t s k h e l = absurd (omega arith)
  unless_lives true t s k h e l = e ∙ h refl

  -- strides of which more than one are counted leave a task that does not fail
  pub strides_live : (n : ℕ) (s : Store) (t : TaskOf c) → let r = strides (λ s t. stride c ρ s t) n s t in 1 < r.2 → failing c ρ r.1 r.0 ≡ false
  unfolding strides
  strides_live zero s t l = absurd (omega arith)
  strides_live (suc n) s t l =
      unless_lives (stride c ρ s t).2 (stride c ρ s t).0 (stride c ρ s t).1 (λ t s. strides (λ s t. stride c ρ s t) n s t)
      (moved_lives c ρ s t) (strides_failing n (stride c ρ s t).1 (stride c ρ s t).0) l

  -- normalising does not change whether a task fails
  pub normalise_failing : (s : Store) (t : TaskOf c) → let r = normalise c ρ s t in failing c ρ r.1 r.0 ≡ failing c ρ s t
  unfolding normalise
  normalise_failing s t = strides_failing (suc (moves c)) s t

  -- a normalisation of more than one stride leaves a task that does not fail
  pub normalise_lives : (s : Store) (t : TaskOf c) → let r = normalise c ρ s t in 1 < r.2 → failing c ρ r.1 r.0 ≡ false
  unfolding normalise
  normalise_lives s t l = strides_live (suc (moves c)) s t l

  -- the same where a code is evaluated first
  pub settle_lives : (s : Store) → let r = settle c ρ s in 1 < r.2 → failing c ρ r.1 r.0 ≡ false
  unfolding settle
  settle_lives s l = normalise_lives (evaluate c ρ s).1 (evaluate c ρ s).0 l

-- an unpicked choice fails exactly where both branches, evaluated and not yet strided, do
pub xor_failing : (a b : Code) (ρ : Env) (s : Store)
    → failing (xor a b) ρ s unpicked ≡ right_fails a ρ s && right_fails b ρ s
unfolding failing
xor_failing a b ρ s =
    ap₂ (λ x y. (overflows_task a ρ s || x) && (overflows_task b ρ s || y))
    (strides_failing a ρ (suc (moves a)) (evaluate a ρ s).1 (evaluate a ρ s).0)
    (strides_failing b ρ (suc (moves b)) (evaluate b ρ s).1 (evaluate b ρ s).0)
