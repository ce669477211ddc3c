-- A stride's flag tells whether it changed anything, and one that did leaves fewer rows of kind 43 and 47 that can still
-- move: so the strides end, and a limit above that number does not show. Rests on ComputeNormalising.
use mathlib.Core.Path.{◌≡◌, refl, ap, ap₂, ◌∙◌}
use mathlib.Core.Bool.{Bool, true, false, ◌||◌}
use mathlib.Core.Option.{Option, none, some}
use mathlib.Core.Logic.{◌⊎◌, inl, inr, ◌↔◌}
use mathlib.Core.List.{[]}
use Prim.Native.Nat.{ℕ, zero, suc, ◌+◌, ◌≤◌, ◌<◌}
use native.Mathlib.Omega.{arith}
use Rattle.tophat.specs.Syntax.{moves, Code, then, next, and, or, Val, Env, Store}
use Rattle.tophat.specs.Syntax.{TaskOf, before, both, either}
use Rattle.tophat.specs.Normalising.{value}
use Rattle.tophat.proofs.Basics.{apart}
use Rattle.tophat.proofs.ComputeNormalising.{unless_still, strides, go_on, go_on_with, choose_right, choose_left, stride, normalise, remaining}
use Rattle.tophat.proofs.Became.{alike, Formed, of_wraps, of_edit, of_enter, of_update, of_then, of_next, of_fail, of_and, of_or, of_xor, of_view, formed}

held : {c : Code} {ρ : Env} {t : TaskOf c} → Formed c ρ t → remaining c t ≤ moves c
unfolding remaining moves
held (of_wraps {u = u} b d) = let h = held d in let e = (alike b).remains u in let k = (alike b).moved in omega arith
held of_edit = omega arith
held of_enter = omega arith
held of_update = omega arith
held (of_then d f) = let h = held d in omega arith
held (of_next d f) = let h = held d in omega arith
held of_fail = omega arith
held (of_and d e) = let h = held d in let k = held e in omega arith
held (of_or d e) = let h = held d in let k = held e in omega arith
held (of_xor d e) = omega arith
held of_view = omega arith

-- no more can still move than the code has
pub remaining_moves : (c : Code) (t : TaskOf c) → remaining c t ≤ moves c
remaining_moves c t = held (formed c [] t)

-- what a stride does: nothing, and it says so; or it moves, and fewer can still move
pub record Still (c : Code) (t : TaskOf c) (s : Store) (r : TaskOf c × Store × Bool) : Type 0 where
  pub flag : r.2 ≡ false
  pub task : r.0 ≡ t
  pub store : r.1 ≡ s

pub record Moved (c : Code) (t : TaskOf c) (r : TaskOf c × Store × Bool) : Type 0 where
  pub flag : r.2 ≡ true
  pub fewer : remaining c r.0 < remaining c t

abbrev pub Progress : (c : Code) → TaskOf c → Store → TaskOf c × Store × Bool → Type 0
Progress c t s r = Still c t s r ⊎ Moved c t r

no_more : (c : Code) (t : TaskOf c) (s : Store) (r : TaskOf c × Store × Bool) → Progress c t s r → remaining c r.0 ≤ remaining c t
no_more c t s r (inl p) = rw p.task (omega arith)
no_more c t s r (inr h) = let k = h.fewer in omega arith

-- what hands on to a part progresses as the part does
lift : (a c : Code) (K : TaskOf a → TaskOf c) → ((t : TaskOf a) → remaining c (K t) ≡ remaining a t) → (t : TaskOf a) (s : Store) (r : TaskOf a × Store × Bool)
    → Progress a t s r → Progress c (K t) s (K r.0, r.1, r.2)
lift a c K e t s r (inl p) = inl (record { flag = p.flag; task = ap K p.task; store = p.store })
lift a c K e t s r (inr h) = inr (record { flag = h.flag; fewer = rw (e t, e r.0) h.fewer })

module _ (a b : Code) where
  stays : (t : TaskOf a) (s : Store) (r : TaskOf a × Store × Bool) → Progress a t s r → Progress (then a b) (before t) s (before r.0, r.1, r.2)
  unfolding remaining
  stays t s r (inl p) = inl (record { flag = p.flag; task = ap before p.task; store = p.store })
  stays t s r (inr h) = inr (record { flag = h.flag; fewer = let k = h.fewer in omega arith })

  go_on_lem : (t : TaskOf a) (s : Store) (r : TaskOf a × Store × Bool) (v : Val) (u : TaskOf b × Store) (x : Bool)
      → Progress a t s r → Progress (then a b) (before t) s (go_on v r.0 r.1 r.2 u x)
  unfolding go_on remaining
  go_on_lem t s r v u true p = stays t s r p
  go_on_lem t s r v u false p = let k = remaining_moves b u.0 in inr (record { flag = refl; fewer = omega arith })

  go_on_with_lem : (t : TaskOf a) (s : Store) (r : TaskOf a × Store × Bool) (o : Option Val) (E : Val → TaskOf b × Store) (F : Val → TaskOf b × Store → Bool)
      → Progress a t s r → Progress (then a b) (before t) s (go_on_with o r.0 r.1 r.2 E F)
  unfolding go_on_with
  go_on_with_lem t s r none E F p = stays t s r p
  go_on_with_lem t s r (some v) E F p = go_on_lem t s r v (E v) (F v (E v)) p

  -- two parts, the second from the first's store
  join : (c : Code) (K : TaskOf a → TaskOf b → TaskOf c) (i : ℕ) → ((t : TaskOf a) (u : TaskOf b) → remaining c (K t u) ≡ i + remaining a t + remaining b u)
      → (t : TaskOf a) (u : TaskOf b) (s : Store) (r : TaskOf a × Store × Bool) (q : TaskOf b × Store × Bool)
      → Progress a t s r → Progress b u r.1 q → Progress c (K t u) s (K r.0 q.0, q.1, r.2 || q.2)
  join c K i e t u s r q (inl p) (inl o) = inl (record { flag = ap₂ ◌||◌ p.flag o.flag; task = ap₂ K p.task o.task; store = o.store ∙ p.store })
  join c K i e t u s r q (inl p) (inr o) =
      let h = no_more a t s r (inl p) in
      let k = o.fewer in
      inr (record { flag = ap₂ ◌||◌ p.flag o.flag; fewer = rw (e t u, e r.0 q.0) (omega arith) })
  join c K i e t u s r q (inr p) o =
      let k = p.fewer in
      let h = no_more b u r.1 q o in
      inr (record { flag = ap (λ x. x || q.2) p.flag; fewer = rw (e t u, e r.0 q.0) (omega arith) })

  choose_right_lem : (t : TaskOf a) (u : TaskOf b) (s : Store) (r : TaskOf a × Store × Bool) (q : TaskOf b × Store × Bool) (o : Option Val)
      → Progress a t s r → Progress b u r.1 q → Progress (or a b) (either t u) s (choose_right o r.0 q.0 q.1 (r.2 || q.2))
  unfolding choose_right remaining
  choose_right_lem t u s r q none p k = join (or a b) either 1 (λ t u. refl) t u s r q p k
  choose_right_lem t u s r q (some w) p k = let h = no_more b u r.1 q k in inr (record { flag = refl; fewer = omega arith })

  choose_left_lem : (t : TaskOf a) (u : TaskOf b) (s : Store) (r : TaskOf a × Store × Bool) (o : Option Val) (G : Store → TaskOf b → TaskOf b × Store × Bool) (W : TaskOf b → Store → Option Val)
      → Progress a t s r → ((s : Store) → Progress b u s (G s u)) → Progress (or a b) (either t u) s (choose_left o r.0 u r.1 r.2 G W)
  unfolding choose_left remaining
  choose_left_lem t u s r none G W p k = choose_right_lem t u s r (G r.1 u) (W (G r.1 u).0 (G r.1 u).1) p (k r.1)
  choose_left_lem t u s r (some v) G W p k = let h = no_more a t s r p in inr (record { flag = refl; fewer = omega arith })

goes : {c : Code} {ρ : Env} {t : TaskOf c} → Formed c ρ t → (s : Store) → Progress c t s (stride c ρ s t)
unfolding stride remaining
goes (of_wraps {c = c} {c₁ = c₁} {ρ₁ = ρ₁} {K = K} {u = u} b d) s = rw ((alike b).strides s u) (lift c₁ c K (alike b).remains u s (stride c₁ ρ₁ s u) (goes d s))
goes of_edit s = inl (record { flag = refl; task = refl; store = refl })
goes of_enter s = inl (record { flag = refl; task = refl; store = refl })
goes of_update s = inl (record { flag = refl; task = refl; store = refl })
goes (of_then {ρ = ρ} {a = a} {b = b} {t = t} d f) s = go_on_with_lem a b t s (stride a ρ s t) (value a (stride a ρ s t).0 (stride a ρ s t).1) _ _ (goes d s)
goes (of_next {ρ = ρ} {a = a} {b = b} {t = t} d f) s = lift a (next a b) before (λ t. refl) t s (stride a ρ s t) (goes d s)
goes of_fail s = inl (record { flag = refl; task = refl; store = refl })
goes (of_and {ρ = ρ} {a = a} {b = b} {t = t} {u = u} d e) s = join a b (and a b) both 0 (λ t u. omega arith) t u s (stride a ρ s t) (stride b ρ (stride a ρ s t).1 u) (goes d s) (goes e (stride a ρ s t).1)
goes (of_or {ρ = ρ} {a = a} {b = b} {t = t} {u = u} d e) s = choose_left_lem a b t u s (stride a ρ s t) (value a (stride a ρ s t).0 (stride a ρ s t).1) (λ s u. stride b ρ s u) (λ u s. value b u s) (goes d s) (λ s. goes e s)
goes (of_xor d e) s = inl (record { flag = refl; task = refl; store = refl })
goes of_view s = inl (record { flag = refl; task = refl; store = refl })

-- every stride changes nothing, and says so, or moves and leaves fewer that can
pub progress : (c : Code) (ρ : Env) (s : Store) (t : TaskOf c) → Progress c t s (stride c ρ s t)
progress c ρ s t = goes (formed c ρ t) s

flag_of : (c : Code) (t : TaskOf c) (s : Store) (r : TaskOf c × Store × Bool) → Progress c t s r → (r.2 ≡ false) ↔ ((r.0 ≡ t) × (r.1 ≡ s))
flag_of c t s r (inl p) = ((λ e. (p.task, p.store)), (λ q. p.flag))
flag_of c t s r (inr h) = (
  (λ e. apart h.flag e),
  (λ q. let k = h.fewer in let e : remaining c r.0 ≡ remaining c t = ap (remaining c) q.0 in absurd (omega arith)),
)

-- the flag is false exactly where a stride changes neither task nor store
pub flag_is : (c : Code) (ρ : Env) (s : Store) (t : TaskOf c) → ((stride c ρ s t).2 ≡ false) ↔ (((stride c ρ s t).0 ≡ t) × ((stride c ρ s t).1 ≡ s))
flag_is c ρ s t = flag_of c t s (stride c ρ s t) (progress c ρ s t)

-- where strides from t end: where a stride does not move, after one at least, and at most one more than can still move
pub record Ends (c : Code) (ρ : Env) (t : TaskOf c) (r : TaskOf c × Store × ℕ) : Type 0 where
  pub rest : (stride c ρ r.1 r.0).2 ≡ false
  pub counted : 1 ≤ r.2
  pub few : r.2 ≤ 1 + remaining c t

module _ (c : Code) (ρ : Env) where
  ends_unless : (t t₁ : TaskOf c) (s s₁ : Store) (m : Bool) (k : TaskOf c → Store → TaskOf c × Store × ℕ) → Progress c t s (t₁, s₁, m) → (stride c ρ s t).2 ≡ m
      → (remaining c t₁ < remaining c t → Ends c ρ t₁ (k t₁ s₁)) → Ends c ρ t (unless_still m t₁ s₁ k)
  unfolding unless_still
  ends_unless t t₁ s s₁ false k (inl p) q h = record { rest = ap₂ (λ s t. (stride c ρ s t).2) p.store p.task ∙ q; counted = omega arith; few = omega arith }
  ends_unless t t₁ s s₁ true k (inl p) q h = apart refl p.flag
  ends_unless t t₁ s s₁ false k (inr p) q h = apart p.flag refl
  ends_unless t t₁ s s₁ true k (inr p) q h = let r = h p.fewer in let u = p.fewer in let w = r.few in record { rest = r.rest; counted = omega arith; few = omega arith }

  -- with a limit above what can still move, the strides end
  pub strides_end : (n : ℕ) (s : Store) (t : TaskOf c) → remaining c t < n → Ends c ρ t (strides (λ s t. stride c ρ s t) n s t)
  unfolding strides
  strides_end zero s t h = absurd (omega arith)
  strides_end (suc n) s t h =
      ends_unless t (stride c ρ s t).0 s (stride c ρ s t).1 (stride c ρ s t).2 (λ t s. strides (λ s t. stride c ρ s t) n s t) (progress c ρ s t) refl
      (λ l. strides_end n (stride c ρ s t).1 (stride c ρ s t).0 (omega arith))

  free_unless : (t t₁ : TaskOf c) (s s₁ : Store) (x : Bool) (k l : TaskOf c → Store → TaskOf c × Store × ℕ) → Progress c t s (t₁, s₁, x)
      → (remaining c t₁ < remaining c t → k t₁ s₁ ≡ l t₁ s₁) → unless_still x t₁ s₁ k ≡ unless_still x t₁ s₁ l
  unfolding unless_still
  free_unless t t₁ s s₁ false k l p h = refl
  free_unless t t₁ s s₁ true k l (inl p) h = apart refl p.flag
  free_unless t t₁ s s₁ true k l (inr p) h = let e = h p.fewer in rw e

  -- and such limits all give the same
  pub limit_free : (m n : ℕ) (s : Store) (t : TaskOf c) → remaining c t < m → remaining c t < n
      → strides (λ s t. stride c ρ s t) m s t ≡ strides (λ s t. stride c ρ s t) n s t
  unfolding strides
  limit_free zero n s t h k = absurd (omega arith)
  limit_free (suc m) zero s t h k = absurd (omega arith)
  limit_free (suc m) (suc n) s t h k =
      free_unless t (stride c ρ s t).0 s (stride c ρ s t).1 (stride c ρ s t).2 (λ t s. strides (λ s t. stride c ρ s t) m s t) (λ t s. strides (λ s t. stride c ρ s t) n s t) (progress c ρ s t)
      (λ l. limit_free m n (stride c ρ s t).1 (stride c ρ s t).0 (omega arith) (omega arith))

  -- normalising ends
  pub normalise_ends : (s : Store) (t : TaskOf c) → Ends c ρ t (normalise c ρ s t)
  unfolding normalise
  normalise_ends s t = let k = remaining_moves c t in strides_end (suc (moves c)) s t (omega arith)

  -- and any limit above the code's rows of kind 43 and 47 gives what normalising gives
  pub normalise_limit : (n : ℕ) (s : Store) (t : TaskOf c) → moves c < n → strides (λ s t. stride c ρ s t) n s t ≡ normalise c ρ s t
  unfolding normalise
  normalise_limit n s t h = let k = remaining_moves c t in limit_free n (suc (moves c)) s t (omega arith) (omega arith)
