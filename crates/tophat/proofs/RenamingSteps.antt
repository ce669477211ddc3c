-- Cells renamed: a running task has the value, fails, strides and normalises as it does in the renamed code, from stores that agree on
-- the cells that the code names, and leaves stores that agree. Rests on Renaming and Became.
use mathlib.Core.Path.{◌≡◌, refl, sym, ap, ap₂, ◌∙◌}
use mathlib.Core.Bool.{Bool, true, false, ◌&&◌, ◌||◌}
use mathlib.Core.Option.{Option, none, some}
use mathlib.Core.List.{◌∷◌}
use Prim.Native.Nat.{ℕ, zero, suc, ◌+◌}
use Rattle.tophat.specs.Syntax.{moves, Code, edit, enter, update, then, next, fail, and, or, xor, view, gate, if, let', Val, Env, Store}
use Rattle.tophat.specs.Syntax.{TaskOf, filled, blank, entered, before, after, both, either, or_left, or_right, unpicked, picked_left, picked_right, gated, if_true, if_false, bound}
use Rattle.tophat.specs.Normalising.{pair_of, first_of, value, Became, b_then, b_next, b_or_left, b_or_right, b_xor_left, b_xor_right, b_if_true, b_if_false, b_let, w_became, w_gate}
use Rattle.tophat.specs.Renamed.{renamed, renamed_task, CellsIn, Apart, Agrees}
use Rattle.tophat.proofs.ComputeEvaluation.{evaluate, overflows_task}
use Rattle.tophat.proofs.ComputeNormalising.{unless_still, strides, go_on, go_on_with, choose_right, choose_left, failing, stride, normalise, settle, right_fails, branch_fails}
use Rattle.tophat.proofs.Became.{alike, Formed, of_wraps, of_edit, of_enter, of_update, of_then, of_next, of_fail, of_and, of_or, of_xor, of_view, formed}
use Rattle.tophat.proofs.Renaming.{Like, LikeWith, evaluate_like, overflows_task_like}

-- what has become another has so with its cells renamed
pub record RenamedBecame (π : ℕ → ℕ) (P : ℕ → Type 0) (c : Code) (ρ : Env) (c₁ : Code) (ρ₁ : Env) (K : TaskOf c₁ → TaskOf c) : Type 0 where
  pub into : TaskOf (renamed π c₁) → TaskOf (renamed π c)
  pub became : Became (renamed π c) ρ (renamed π c₁) ρ₁ into
  pub same_task : (u : TaskOf c₁) → renamed_task π c (K u) ≡ into (renamed_task π c₁ u)
  pub cells : CellsIn P c → CellsIn P c₁

pub renamed_became : (π : ℕ → ℕ) (P : ℕ → Type 0) {c c₁ : Code} {ρ ρ₁ : Env} {K : TaskOf c₁ → TaskOf c} → Became c ρ c₁ ρ₁ K → RenamedBecame π P c ρ c₁ ρ₁ K
unfolding renamed_task
renamed_became π P (b_then {v = v}) = record { into = after v; became = b_then; same_task = λ u. refl; cells = λ w. w.1 }
renamed_became π P (b_next {v = v}) = record { into = after v; became = b_next; same_task = λ u. refl; cells = λ w. w.1 }
renamed_became π P b_or_left = record { into = or_left; became = b_or_left; same_task = λ u. refl; cells = λ w. w.0 }
renamed_became π P b_or_right = record { into = or_right; became = b_or_right; same_task = λ u. refl; cells = λ w. w.1 }
renamed_became π P b_xor_left = record { into = picked_left; became = b_xor_left; same_task = λ u. refl; cells = λ w. w.0 }
renamed_became π P b_xor_right = record { into = picked_right; became = b_xor_right; same_task = λ u. refl; cells = λ w. w.1 }
renamed_became π P b_if_true = record { into = if_true; became = b_if_true; same_task = λ u. refl; cells = λ w. w.1 }
renamed_became π P b_if_false = record { into = if_false; became = b_if_false; same_task = λ u. refl; cells = λ w. w.2 }
renamed_became π P (b_let {v = v}) = record { into = bound v; became = b_let; same_task = λ u. refl; cells = λ w. w.1 }

-- the rows that bound the strides are as many
pub moves_same : (π : ℕ → ℕ) (c : Code) → moves (renamed π c) ≡ moves c
unfolding moves
moves_same π (edit e) = refl
moves_same π (enter τ) = refl
moves_same π (update n) = refl
moves_same π (then a b) = λ i. 1 + moves_same π a i + moves_same π b i
moves_same π (next a b) = λ i. moves_same π a i + moves_same π b i
moves_same π (fail τ) = refl
moves_same π (and a b) = λ i. moves_same π a i + moves_same π b i
moves_same π (or a b) = λ i. 1 + moves_same π a i + moves_same π b i
moves_same π (xor a b) = λ i. moves_same π a i + moves_same π b i
moves_same π (view e) = refl
moves_same π (gate r n b) = moves_same π b
moves_same π (if e a b) = λ i. moves_same π a i + moves_same π b i
moves_same π (let' e b) = moves_same π b

-- strides that correspond, repeated, correspond
module _ {X Y : Type 0} {π : ℕ → ℕ} {P : ℕ → Type 0} (f : X → Y) where
  unless_like : (m : Bool) {m₁ : Bool} {t : X} {t₁ : Y} {s s₁ : Store} (k : X → Store → X × Store × ℕ) (k₁ : Y → Store → Y × Store × ℕ)
      → m₁ ≡ m → t₁ ≡ f t → Agrees π P s s₁ → LikeWith π P f (k t s) (k₁ (f t) s₁) → LikeWith π P f (unless_still m t s k) (unless_still m₁ t₁ s₁ k₁)
  unfolding unless_still
  unless_like false k k₁ e d g h = rw e (record { made = d; store = g; third = refl })
  unless_like true k k₁ e d g h = rw (e, d) (record { made = h.made; store = h.store; third = ap suc h.third })

  pub strides_like : (F : Store → X → X × Store × Bool) (G : Store → Y → Y × Store × Bool)
      → ((s s₁ : Store) (t : X) → Agrees π P s s₁ → LikeWith π P f (F s t) (G s₁ (f t)))
      → (n : ℕ) (s s₁ : Store) (t : X) → Agrees π P s s₁ → LikeWith π P f (strides F n s t) (strides G n s₁ (f t))
  unfolding strides
  strides_like F G h zero s s₁ t g = record { made = refl; store = g; third = refl }
  strides_like F G h (suc n) s s₁ t g =
      let p = h s s₁ t g in
      unless_like (F s t).2 (λ t s. strides F n s t) (λ t s. strides G n s t) p.third p.made p.store (strides_like F G h n (F s t).1 (G s₁ (f t)).1 (F s t).0 p.store)

-- the value of a running task
module _ {π : ℕ → ℕ} {P : ℕ → Type 0} where
  pub value_like : (c : Code) → CellsIn P c → (t : TaskOf c) {s s₁ : Store} → Agrees π P s s₁ → value (renamed π c) (renamed_task π c t) s₁ ≡ value c t s
  unfolding value renamed_task
  value_like (edit e) w (filled v) g = refl
  value_like (enter τ) w blank g = refl
  value_like (enter τ) w (entered v) g = refl
  value_like (update n) w t g = ap some (g.content n w)
  value_like (then a b) w (before t) g = refl
  value_like (then a b) w (after v u) g = value_like b w.1 u g
  value_like (next a b) w (before t) g = refl
  value_like (next a b) w (after v u) g = value_like b w.1 u g
  value_like (fail τ) w t g = refl
  value_like (and a b) w (both t u) g = ap₂ pair_of (value_like a w.0 t g) (value_like b w.1 u g)
  value_like (or a b) w (either t u) g = ap₂ first_of (value_like a w.0 t g) (value_like b w.1 u g)
  value_like (or a b) w (or_left t) g = value_like a w.0 t g
  value_like (or a b) w (or_right u) g = value_like b w.1 u g
  value_like (xor a b) w unpicked g = refl
  value_like (xor a b) w (picked_left t) g = value_like a w.0 t g
  value_like (xor a b) w (picked_right u) g = value_like b w.1 u g
  value_like (view e) w (filled v) g = refl
  value_like (gate r n b) w (gated k u) g = value_like b w u g
  value_like (if e a b) w (if_true t) g = value_like a w.1 t g
  value_like (if e a b) w (if_false u) g = value_like b w.2 u g
  value_like (let' e b) w (bound v u) g = value_like b w.1 u g

  -- a step whose A has strided
  go_on_like : (a b : Code) (v : Val) (t : TaskOf a) {t₁ : TaskOf (renamed π a)} {s s₁ : Store} {m m₁ : Bool} {r : TaskOf b × Store} {r₁ : TaskOf (renamed π b) × Store} (x : Bool)
      {x₁ : Bool} → t₁ ≡ renamed_task π a t → Agrees π P s s₁ → m₁ ≡ m → Like π P (renamed_task π b) r r₁ → x₁ ≡ x → LikeWith π P (renamed_task π (then a b)) (go_on v t s m r x) (go_on v t₁ s₁ m₁ r₁ x₁)
  unfolding go_on renamed_task
  go_on_like a b v t true d g f h e = rw e (record { made = ap before d; store = g; third = f })
  go_on_like a b v t false d g f h e = rw e (record { made = ap (after v) h.made; store = h.store; third = refl })

  go_on_with_like : (a b : Code) (o : Option Val) {o₁ : Option Val} (t : TaskOf a) {t₁ : TaskOf (renamed π a)} {s s₁ : Store} {m m₁ : Bool}
      (E : Val → TaskOf b × Store) (E₁ : Val → TaskOf (renamed π b) × Store) (F : Val → TaskOf b × Store → Bool) (F₁ : Val → TaskOf (renamed π b) × Store → Bool)
      → o₁ ≡ o → t₁ ≡ renamed_task π a t → Agrees π P s s₁ → m₁ ≡ m → ((v : Val) → Like π P (renamed_task π b) (E v) (E₁ v)) → ((v : Val) → F₁ v (E₁ v) ≡ F v (E v))
      → LikeWith π P (renamed_task π (then a b)) (go_on_with o t s m E F) (go_on_with o₁ t₁ s₁ m₁ E₁ F₁)
  unfolding go_on_with renamed_task
  go_on_with_like a b none t E E₁ F F₁ e d g f h k = rw e (record { made = ap before d; store = g; third = f })
  go_on_with_like a b (some v) t E E₁ F F₁ e d g f h k = rw e (go_on_like a b v t (F v (E v)) d g f (h v) (k v))

  -- a choice whose parts have strided
  choose_right_like : (a b : Code) (o : Option Val) {o₁ : Option Val} (t : TaskOf a) {t₁ : TaskOf (renamed π a)} (u : TaskOf b) {u₁ : TaskOf (renamed π b)} {s s₁ : Store} {m m₁ : Bool}
      → o₁ ≡ o → t₁ ≡ renamed_task π a t → u₁ ≡ renamed_task π b u → Agrees π P s s₁ → m₁ ≡ m
      → LikeWith π P (renamed_task π (or a b)) (choose_right o t u s m) (choose_right o₁ t₁ u₁ s₁ m₁)
  unfolding choose_right renamed_task
  choose_right_like a b none t u e d h g f = rw e (record { made = ap₂ either d h; store = g; third = f })
  choose_right_like a b (some v) t u e d h g f = rw e (record { made = ap or_right h; store = g; third = refl })

  choose_left_like : (a b : Code) (o : Option Val) {o₁ : Option Val} (t : TaskOf a) {t₁ : TaskOf (renamed π a)} (u : TaskOf b) {s s₁ : Store} {m m₁ : Bool}
      (G : Store → TaskOf b → TaskOf b × Store × Bool) (G₁ : Store → TaskOf (renamed π b) → TaskOf (renamed π b) × Store × Bool) → CellsIn P b
      → o₁ ≡ o → t₁ ≡ renamed_task π a t → Agrees π P s s₁ → m₁ ≡ m → LikeWith π P (renamed_task π b) (G s u) (G₁ s₁ (renamed_task π b u))
      → LikeWith π P (renamed_task π (or a b)) (choose_left o t u s m G (λ u s. value b u s)) (choose_left o₁ t₁ (renamed_task π b u) s₁ m₁ G₁ (λ u s. value (renamed π b) u s))
  unfolding choose_left renamed_task
  choose_left_like a b none t u {s} {s₁} G G₁ w e d g f h =
      rw e (choose_right_like a b (value b (G s u).0 (G s u).1) t (G s u).0
      (ap (λ x. value (renamed π b) x (G₁ s₁ (renamed_task π b u)).1) h.made ∙ value_like b w (G s u).0 h.store) d h.made h.store (ap₂ ◌||◌ f h.third))
  choose_left_like a b (some v) t u G G₁ w e d g f h = rw e (record { made = ap or_left d; store = g; third = refl })

  -- a task whose strides correspond, normalised
  normal_like : (c : Code) (ρ : Env)
      → ((s s₁ : Store) (t : TaskOf c) → Agrees π P s s₁ → LikeWith π P (renamed_task π c) (stride c ρ s t) (stride (renamed π c) ρ s₁ (renamed_task π c t)))
      → (s s₁ : Store) (t : TaskOf c) {t₁ : TaskOf (renamed π c)} → t₁ ≡ renamed_task π c t → Agrees π P s s₁
      → LikeWith π P (renamed_task π c) (strides (λ s t. stride c ρ s t) (suc (moves c)) s t) (strides (λ s t. stride (renamed π c) ρ s t) (suc (moves (renamed π c))) s₁ t₁)
  normal_like c ρ h s s₁ t e g =
      let f = moves_same π c in
      rw (e, f) (strides_like (renamed_task π c) (λ s t. stride c ρ s t) (λ s t. stride (renamed π c) ρ s t) h (suc (moves c)) s s₁ t g)

-- whether a right side that was evaluated from s to r fails
abbrev tried_fails : (b : Code) → Env → Store → TaskOf b × Store → Bool
tried_fails b ρ s r = overflows_task b ρ s || failing b ρ r.1 r.0

-- whether a task fails is one, and its strides correspond
record Goes (π : ℕ → ℕ) (P : ℕ → Type 0) (c : Code) (ρ : Env) (s s₁ : Store) (t : TaskOf c) : Type 0 where
  fails : failing (renamed π c) ρ s₁ (renamed_task π c t) ≡ failing c ρ s t
  strides : LikeWith π P (renamed_task π c) (stride c ρ s t) (stride (renamed π c) ρ s₁ (renamed_task π c t))

module _ {π : ℕ → ℕ} {P : ℕ → Type 0} (apart : Apart π P) where
  goes : {c : Code} {ρ : Env} {t : TaskOf c} → Formed c ρ t → CellsIn P c → (s s₁ : Store) → Agrees π P s s₁ → Goes π P c ρ s s₁ t
  unfolding failing stride renamed_task
  goes (of_wraps (w_gate {k = k}) d) w s s₁ g =
      let p = goes d w s s₁ g in
      record { fails = p.fails; strides = record { made = ap (gated k) p.strides.made; store = p.strides.store; third = p.strides.third } }
  goes (of_wraps {c = c} {c₁ = c₁} {ρ = ρ} {u = u} (w_became b) d) w s s₁ g =
      let k = renamed_became π P b in
      let p = goes d (k.cells w) s s₁ g in
      let e = k.same_task u in
      let i = (alike (w_became b)).strides s u in
      let j = (alike (w_became k.became)).strides s₁ (renamed_task π c₁ u) in
      record {
        fails = ap (failing (renamed π c) ρ s₁) e ∙ (alike (w_became k.became)).fails s₁ (renamed_task π c₁ u) ∙ p.fails ∙ sym ((alike (w_became b)).fails s u);
        strides = rw (e, i, j) (record { made = ap k.into p.strides.made ∙ sym (k.same_task _); store = p.strides.store; third = p.strides.third });
      }
  goes of_edit w s s₁ g = record { fails = refl; strides = record { made = refl; store = g; third = refl } }
  goes of_enter w s s₁ g = record { fails = refl; strides = record { made = refl; store = g; third = refl } }
  goes of_update w s s₁ g = record { fails = refl; strides = record { made = refl; store = g; third = refl } }
  goes (of_then {ρ = ρ} {a = a} {b = b} {t = t} d f) w s s₁ g =
      let p = goes d w.0 s s₁ g in
      let q = p.strides in
      let s₂ = (stride a ρ s t).1 in
      let s₃ = (stride (renamed π a) ρ s₁ (renamed_task π a t)).1 in
      record {
        fails = p.fails;
        strides = go_on_with_like a b _ (stride a ρ s t).0 (λ v. evaluate b (v ∷ ρ) s₂) (λ v. evaluate (renamed π b) (v ∷ ρ) s₃)
            (λ v. tried_fails b (v ∷ ρ) s₂) (λ v. tried_fails (renamed π b) (v ∷ ρ) s₃)
            (ap (λ x. value (renamed π a) x s₃) q.made ∙ value_like a w.0 _ q.store) q.made q.store q.third
            (λ v. evaluate_like apart b w.1 (v ∷ ρ) s₂ s₃ q.store)
            (λ v. let r = evaluate_like apart b w.1 (v ∷ ρ) s₂ s₃ q.store in
            ap₂ ◌||◌ (overflows_task_like apart b w.1 (v ∷ ρ) s₂ s₃ q.store)
            (ap (failing (renamed π b) (v ∷ ρ) (evaluate (renamed π b) (v ∷ ρ) s₃).1) r.made ∙ (goes (f v _) w.1 _ _ r.store).fails));
      }
  goes (of_next d f) w s s₁ g =
      let p = goes d w.0 s s₁ g in
      record { fails = p.fails; strides = record { made = ap before p.strides.made; store = p.strides.store; third = p.strides.third } }
  goes of_fail w s s₁ g = record { fails = refl; strides = record { made = refl; store = g; third = refl } }
  goes (of_and d e) w s s₁ g =
      let p = goes d w.0 s s₁ g in
      let q = (goes e w.1 _ _ p.strides.store).strides in
      record {
        fails = ap₂ ◌&&◌ p.fails (goes e w.1 s s₁ g).fails;
        strides = record { made = ap₂ both p.strides.made q.made; store = q.store; third = ap₂ ◌||◌ p.strides.third q.third };
      }
  goes (of_or {ρ = ρ} {a = a} {b = b} {t = t} {u = u} d e) w s s₁ g =
      let p = goes d w.0 s s₁ g in
      let q = p.strides in
      let s₃ = (stride (renamed π a) ρ s₁ (renamed_task π a t)).1 in
      record {
        fails = ap₂ ◌&&◌ p.fails (goes e w.1 s s₁ g).fails;
        strides = choose_left_like a b _ _ u _ _ w.1 (ap (λ x. value (renamed π a) x s₃) q.made ∙ value_like a w.0 _ q.store) q.made q.store q.third
            (goes e w.1 _ _ q.store).strides;
      }
  goes (of_xor {ρ = ρ} {a = a} {b = b} d e) w s s₁ g =
      let p = evaluate_like apart a w.0 ρ s s₁ g in
      let q = evaluate_like apart b w.1 ρ s s₁ g in
      let x = normal_like a ρ (λ s s₁ t g. (goes (d t) w.0 s s₁ g).strides) _ _ _ p.made p.store in
      let y = normal_like b ρ (λ s s₁ u g. (goes (e u) w.1 s s₁ g).strides) _ _ _ q.made q.store in
      record {
        fails = ap₂ ◌&&◌
            (ap₂ ◌||◌ (overflows_task_like apart a w.0 ρ s s₁ g) (ap (failing (renamed π a) ρ _) x.made ∙ (goes (d _) w.0 _ _ x.store).fails))
            (ap₂ ◌||◌ (overflows_task_like apart b w.1 ρ s s₁ g) (ap (failing (renamed π b) ρ _) y.made ∙ (goes (e _) w.1 _ _ y.store).fails));
        strides = record { made = refl; store = g; third = refl };
      }
  goes of_view w s s₁ g = record { fails = refl; strides = record { made = refl; store = g; third = refl } }

  -- whether a task fails is one
  pub failing_like : (c : Code) → CellsIn P c → (ρ : Env) (s s₁ : Store) (t : TaskOf c) → Agrees π P s s₁
      → failing (renamed π c) ρ s₁ (renamed_task π c t) ≡ failing c ρ s t
  failing_like c w ρ s s₁ t g = (goes (formed c ρ t) w s s₁ g).fails

  -- strides correspond: the task is renamed, whether it moved is one, the stores agree
  pub stride_like : (c : Code) → CellsIn P c → (ρ : Env) (s s₁ : Store) (t : TaskOf c) → Agrees π P s s₁
      → LikeWith π P (renamed_task π c) (stride c ρ s t) (stride (renamed π c) ρ s₁ (renamed_task π c t))
  stride_like c w ρ s s₁ t g = (goes (formed c ρ t) w s s₁ g).strides

  -- so does normalising, in as many strides
  pub normalise_like : (c : Code) → CellsIn P c → (ρ : Env) (s s₁ : Store) (t : TaskOf c) → Agrees π P s s₁
      → LikeWith π P (renamed_task π c) (normalise c ρ s t) (normalise (renamed π c) ρ s₁ (renamed_task π c t))
  unfolding normalise
  normalise_like c w ρ s s₁ t g = normal_like c ρ (λ s s₁ t g. stride_like c w ρ s s₁ t g) s s₁ t refl g

  -- and the same where a code is evaluated first
  pub settle_like : (c : Code) → CellsIn P c → (ρ : Env) (s s₁ : Store) → Agrees π P s s₁ → LikeWith π P (renamed_task π c) (settle c ρ s) (settle (renamed π c) ρ s₁)
  unfolding settle normalise
  settle_like c w ρ s s₁ g = let p = evaluate_like apart c w ρ s s₁ g in normal_like c ρ (λ s s₁ t g. stride_like c w ρ s s₁ t g) _ _ _ p.made p.store

  -- whether a right side, and a branch, fail is one
  pub right_fails_like : (b : Code) → CellsIn P b → (ρ : Env) (s s₁ : Store) → Agrees π P s s₁ → right_fails (renamed π b) ρ s₁ ≡ right_fails b ρ s
  right_fails_like b w ρ s s₁ g =
      let p = evaluate_like apart b w ρ s s₁ g in
      ap₂ ◌||◌ (overflows_task_like apart b w ρ s s₁ g) (ap (failing (renamed π b) ρ _) p.made ∙ failing_like b w ρ _ _ _ p.store)

  pub branch_fails_like : (c : Code) → CellsIn P c → (ρ : Env) (s s₁ : Store) → Agrees π P s s₁ → branch_fails (renamed π c) ρ s₁ ≡ branch_fails c ρ s
  branch_fails_like c w ρ s s₁ g =
      let p = settle_like c w ρ s s₁ g in
      ap₂ ◌||◌ (overflows_task_like apart c w ρ s s₁ g) (ap (failing (renamed π c) ρ _) p.made ∙ failing_like c w ρ _ _ _ p.store)
