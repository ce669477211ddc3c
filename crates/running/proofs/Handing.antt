-- What the engine's functions give at a row that hands on, from what they give at its part: one law for each function, whatever
-- the form. Rests on Hands.
use mathlib.Core.Path.{◌≡◌, refl, sym, ap, ◌∙◌, subst}
use mathlib.Core.Bool.{Bool}
use mathlib.Core.Option.{Option, none, some}
use mathlib.Core.List.{List, [], ◌∷◌}
use Prim.Native.Nat.{ℕ, ◌<◌, ◌≤◌}
use native.Mathlib.Omega.{arith}
use Rattle.decimal.specs.Path.{Path}
use Rattle.tophat.specs.Syntax.{Ty, Code, Val, TaskOf, Env, Store}
use Rattle.tophat.specs.Typing.{TaskType}
use Rattle.tophat.specs.Handling.{Action}
use Rattle.tophat.specs.Normalising.{value}
use Rattle.tophat.proofs.ComputeNormalising.{failing, stride}
use Rattle.tophat.proofs.Became.{alike, touched_alike}
use Rattle.tophat.proofs.ComputeHandling.{Taken, handle, map_task}
use Rattle.rows.specs.Kinds.{task_k, gate_k, number_of}
use Rattle.rows.specs.Rows.{word, LowWords}
use Rattle.rows.specs.Enclosing.{max_binders}
use Rattle.value.specs.Found.{Found, as_found}
use Rattle.state.specs.Layout.{at}
use Rattle.state.specs.Holds.{Sits, Binders, World, Ran}
use Rattle.state.specs.Ensured.{Fine, ValueOk, FailingOk, StrideOk, Handled, HandleOk}
use Rattle.state.proofs.Binders.{binders_push}
use Rattle.state.proofs.Calls.{fine_at}
use Rattle.running.specs.Hands.{HandsOn, hands_if_true, hands_if_false, let_bound, then_after, next_after, hands_or_left, hands_or_right, xor_left, xor_right, gate_on, Under}
use Rattle.running.proofs.Hands.{inside, deeper, Pushes, Reads, Hands, hands}

-- ---- what a call at the part asks

low_by : {rs : List ℕ} {i n x k : ℕ} → HandsOn n x k → word rs i 0 ≡ n → LowWords rs i → word rs i k < i
low_by hands_if_true q l = l.low_b (omega arith)
low_by hands_if_false q l = l.low_c (omega arith) (omega arith)
low_by let_bound q l = l.low_b (omega arith)
low_by then_after q l = l.low_b (omega arith)
low_by next_after q l = l.low_b (omega arith)
low_by hands_or_left q l = l.low_a (omega arith) (omega arith)
low_by hands_or_right q l = l.low_b (omega arith)
low_by xor_left q l = l.low_a (omega arith) (omega arith)
low_by xor_right q l = l.low_b (omega arith)
low_by gate_on q l = l.low_b (omega arith)

pub low_part : (rs : List ℕ) (i : ℕ) {d x k a : ℕ} → Fine rs i d → HandsOn (word rs i 0) x k → a ≡ word rs i k → a < i
low_part rs i f h e = subst (λ a. a < i) (sym e) (low_by h refl (f.lower i f.low))

pub fine_part : (rs : List ℕ) (i : ℕ) {d d₁ x k a : ℕ} → Fine rs i d → HandsOn (word rs i 0) x k → a ≡ word rs i k → d₁ ≤ max_binders → Fine rs a d₁
fine_part rs i {d₁ = d₁} {a = a} f h e r = let l = low_part rs i f h e in fine_at f a d₁ (omega arith) r

-- ---- the world at the part

depth_in : {ws env env₁ : List ℕ} {i n d d₁ : ℕ} (o : Option Val) → Pushes n d o → Under ws i n env env₁ d d₁ → d₁ ≡ deeper o d
depth_in none p u = (u.plain p).0
depth_in (some v) p u = ((u.binds p.0).pushed p.1).0

binders_in : {ws env env₁ : List ℕ} {i n d d₁ : ℕ} {ρ : Env} (o : Option Val) → Pushes n d o → Under ws i n env env₁ d d₁ → Reads ws i o → Binders env d ρ → Binders env₁ d₁ (inside o ρ)
binders_in {env₁ = env₁} {d = d} {ρ = ρ} none p u r b =
    let e = u.plain p in
    subst (λ m. Binders env₁ m ρ) (sym e.0) (subst (λ x. Binders x d ρ) (sym e.1) b)
binders_in {env₁ = env₁} {ρ = ρ} (some v) p u r b =
    let e = (u.binds p.0).pushed p.1 in
    subst (λ m. Binders env₁ m (v ∷ ρ)) (sym e.0) (binders_push b e.1 r)

module _ {rs ws : List ℕ} {d i k : ℕ} {c : Code} {t : TaskOf c} (v : Hands rs ws d i k c t) {env env₁ : List ℕ} {d₁ : ℕ} (u : Under ws i (word rs i 0) env env₁ d d₁) where
  pub sits_in : Sits rs d₁ (word rs i k) v.part
  sits_in = subst (λ m. Sits rs m (word rs i k) v.part) (sym (depth_in v.binder v.pushes u)) v.sits

  pub world_in : {Σ Γ : List Ty} {τ : Ty} {s : Store} {ρ : Env} (y : TaskType Σ Γ c t τ) → World rs ws env d Σ Γ s ρ → World rs ws env₁ d₁ Σ (v.inner y).types s (inside v.binder ρ)
  world_in {ρ = ρ} y w =
      let p = v.inner y in
      record {
        stores = w.stores;
        binders = binders_in v.binder v.pushes u (p.reads w.store_small w.binders_small) w.binders;
        store_typed = w.store_typed;
        binders_typed = p.values ρ w.binders_typed;
        store_small = w.store_small;
        binders_small = p.small w.store_small w.binders_small;
      }

-- ---- the functions, at row i from the part's row a

module _ (rs ws : List ℕ) (i : ℕ) {k a : ℕ} (h : HandsOn (word rs i 0) (at ws i 0) k) (e : a ≡ word rs i k) where
  pub value_hands : (r : Found) → ValueOk rs ws a r → ValueOk rs ws i r
  value_hands r f d c z Σ Γ τ s t y st gs gb g w =
      let v = hands rs ws d i h c z t g in
      let p = v.inner y in
      subst (λ a. ValueOk rs ws a r) e f (deeper v.binder d) v.part v.sits Σ p.types τ s v.task p.typed st gs (p.small gs gb) v.holds w
      ∙ ap as_found (sym (ap (λ t. value c t s) v.is ∙ (alike (v.wraps {ρ = []})).values s v.task))

  module _ (env env₁ : List ℕ) (d d₁ : ℕ) (u : Under ws i (word rs i 0) env env₁ d d₁) where
    pub failing_hands : (r : Bool) → FailingOk rs ws a env₁ d₁ r → FailingOk rs ws i env d r
    failing_hands r f c z Σ Γ τ s ρ t y w g =
        let v = hands rs ws d i h c z t g in
        let p = v.inner y in
        subst (λ a. FailingOk rs ws a env₁ d₁ r) e f v.part (sits_in v u) Σ p.types τ s (inside v.binder ρ) v.task p.typed (world_in v u y w) v.holds
        ∙ sym (ap (failing c ρ s) v.is ∙ (alike v.wraps).fails s v.task)

    pub stride_hands : (ws₁ : List ℕ) (r : Bool) → StrideOk rs ws ws₁ a env₁ d₁ r → StrideOk rs ws ws₁ i env d r
    stride_hands ws₁ r f c z Σ Γ τ s ρ t y w g =
        let v = hands rs ws d i h c z t g in
        let p = v.inner y in
        let q = subst (λ a. StrideOk rs ws ws₁ a env₁ d₁ r) e f v.part (sits_in v u) Σ p.types τ s (inside v.binder ρ) v.task p.typed (world_in v u y w) v.holds in
        let n = ap (stride c ρ s) v.is ∙ (alike v.wraps).strides s v.task in
        (subst (λ x. Ran rs ws ws₁ i c x.0 x.1) (sym n) (v.ran _ _ q.0), q.1 ∙ sym (ap (λ x. x.2) n))

    -- what has become another task handles as that one
    pub handle_hands : (ws₁ : List ℕ) (role : ℕ) (p : Path) (x : Action) (r : ℕ) → (word rs i 0 ≡ number_of (task_k gate_k) → ⊥) → HandleOk rs ws ws₁ a env₁ d₁ role p x r → HandleOk rs ws ws₁ i env d role p x r
    unfolding map_task
    handle_hands ws₁ role p x r o f c z Σ Γ τ s ρ t y w g =
        let v = hands rs ws d i h c z t g in
        let n = v.inner y in
        let q = subst (λ a. HandleOk rs ws ws₁ a env₁ d₁ role p x r) e f v.part (sits_in v u) Σ n.types τ s (inside v.binder ρ) v.task n.typed (world_in v u y w) v.holds in
        subst (Handled rs ws ws₁ i env d c role r) (sym (ap (λ t. handle c ρ s t p x) v.is ∙ ap (λ f. f p x) ((touched_alike (v.became o)).handles s v.task))) (mapped v (handle v.part (inside v.binder ρ) s v.task p x) q)
      where
        mapped : {c : Code} {t : TaskOf c} (v : Hands rs ws d i k c t) (o : Option (Taken (TaskOf v.part)))
            → Handled rs ws ws₁ (word rs i k) env₁ d₁ v.part role r o → Handled rs ws ws₁ i env d c role r (map_task v.wrap o)
        mapped v none q = q
        mapped v (some y) q = (q.0, v.ran _ _ q.1)
