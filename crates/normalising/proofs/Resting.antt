-- What `normalise` ensures: its loop is what the calculus' normalising does, stride by stride, and its limit is never met. Rests on
-- Few, and on the calculus' Preservation and Progress.
use mathlib.Core.Path.{◌≡◌, refl, sym, ap, ◌∙◌, subst}
use mathlib.Core.Bool.{Bool, true, false}
use mathlib.Core.List.{List}
use Prim.Native.Nat.{ℕ, suc, ◌+◌, ◌-◌, ◌<◌}
use native.Mathlib.Omega.{arith}
use Rattle.tophat.specs.Syntax.{Ty, Code, TaskOf, Env, Store}
use Rattle.tophat.specs.Typing.{TaskType}
use Rattle.tophat.proofs.ComputeNormalising.{unless_still, strides, stride}
use Rattle.tophat.proofs.Preservation.{stride_kept}
use Rattle.tophat.proofs.Progress.{normalise_limit}
use Rattle.state.specs.Holds.{Sits, Holds, World, Ran}
use Rattle.state.specs.Ensured.{Fine, StrideOk, NormaliseOk}
use Rattle.state.proofs.Frames.{same_refl, world_after}
use Rattle.normalising.specs.Trying.{max_strides}
use Rattle.normalising.proofs.Few.{few_moves}
use Rattle.normalising.proofs.Trying.{ran_after}

-- k strides more
abbrev more : {X : Type 0} → ℕ → X × Store × ℕ → X × Store × ℕ
more k r = (r.0, r.1, k + r.2)

module _ {X : Type 0} (f : Store → X → X × Store × Bool) where
  moved : (n : ℕ) (s : Store) (t : X) → (f s t).2 ≡ true → strides f (suc n) s t ≡ more 1 (strides f n (f s t).1 (f s t).0)
  unfolding strides unless_still
  moved n s t e =
      let r = strides f n (f s t).1 (f s t).0 in
      ap (λ b. unless_still b (f s t).0 (f s t).1 (λ t s. strides f n s t)) e ∙ ap (λ k. (r.0, r.1, k)) (let h : suc r.2 ≡ 1 + r.2 = omega arith in h)

  still : (n : ℕ) (s : Store) (t : X) → (f s t).2 ≡ false → strides f (suc n) s t ≡ ((f s t).0, (f s t).1, 1)
  unfolding strides unless_still
  still n s t e = ap (λ b. unless_still b (f s t).0 (f s t).1 (λ t s. strides f n s t)) e

  one_less : (k : ℕ) (s : Store) (t : X) → k < max_strides → strides f (max_strides - k) s t ≡ strides f (suc (max_strides - (k + 1))) s t
  one_less k s t h = ap (λ n. strides f n s t) (let e : max_strides - k ≡ suc (max_strides - (k + 1)) = omega arith in e)

  none_left : (k : ℕ) (s : Store) (t : X) → k ≡ max_strides → strides f (max_strides - k) s t ≡ (t, s, 0)
  unfolding strides
  none_left k s t h = ap (λ n. strides f n s t) (let e : max_strides - k ≡ 0 = omega arith in e)

  counts : (k : ℕ) (s : Store) (t : X) (n : ℕ) → more k (more 1 (strides f n s t)) ≡ more (k + 1) (strides f n s t)
  counts k s t n = let r = strides f n s t in ap (λ j. (r.0, r.1, j)) (let e : k + (1 + r.2) ≡ k + 1 + r.2 = omega arith in e)

-- after k strides, all of which moved: the present task and store, and what is still to come
pub record Midway (rs ws ws₁ : List ℕ) (i : ℕ) (env : List ℕ) (d : ℕ) (Σ Γ : List Ty) (c : Code) (τ : Ty) (s : Store) (ρ : Env) (t : TaskOf c) (k : ℕ) : Type 0 where
  pub task : TaskOf c
  pub store : Store
  pub ran : Ran rs ws ws₁ i c task store
  pub typed : TaskType Σ Γ c task τ
  pub world : World rs ws₁ env d Σ Γ store ρ
  pub rest : strides (λ s t. stride c ρ s t) max_strides s t ≡ more k (strides (λ s t. stride c ρ s t) (max_strides - k) store task)

abbrev pub Mid : List ℕ → List ℕ → List ℕ → ℕ → List ℕ → ℕ → ℕ → Type 0
Mid rs ws ws₁ i env d k = (c : Code) → Sits rs d i c → (Σ Γ : List Ty) (τ : Ty) (s : Store) (ρ : Env) (t : TaskOf c) → TaskType Σ Γ c t τ → World rs ws env d Σ Γ s ρ → Holds rs ws i c t
    → Midway rs ws ws₁ i env d Σ Γ c τ s ρ t k

pub mid_0 : (rs ws : List ℕ) (i : ℕ) (env : List ℕ) (d : ℕ) → Mid rs ws ws i env d 0
mid_0 rs ws i env d c z Σ Γ τ s ρ t y w g =
    let r = strides (λ s t. stride c ρ s t) max_strides s t in
    record {
      task = t;
      store = s;
      ran = record { holds = g; stores = w.stores; same = same_refl };
      typed = y;
      world = w;
      rest = ap (λ k. (r.0, r.1, k)) (let e : r.2 ≡ 0 + r.2 = omega arith in e);
    }

module _ (rs ws ws₁ ws₂ : List ℕ) (i : ℕ) (env : List ℕ) (d k : ℕ) (m : Bool) (h : Mid rs ws ws₁ i env d k) (q : StrideOk rs ws₁ ws₂ i env d m) (l : k < max_strides) where
  pub mid_more : m ≡ true → Mid rs ws ws₂ i env d (k + 1)
  mid_more e c z Σ Γ τ s ρ t y w g =
      let p = h c z Σ Γ τ s ρ t y w g in
      let f : Store → TaskOf c → TaskOf c × Store × Bool = λ s t. stride c ρ s t in
      let n = q c z Σ Γ τ p.store ρ p.task p.typed p.world p.ran.holds in
      let v = stride_kept p.typed ρ p.store w.binders_typed p.world.store_typed in
      let r = f p.store p.task in
      record {
        task = r.0;
        store = r.1;
        ran = ran_after p.ran n.0;
        typed = v.task;
        world = world_after p.world n.0.stores v.store;
        rest = p.rest ∙ ap (more k) (one_less f k p.store p.task l ∙ moved f (max_strides - (k + 1)) p.store p.task (sym n.1 ∙ e)) ∙ counts f k r.1 r.0 (max_strides - (k + 1));
      }

  pub mid_stop : Fine rs i d → m ≡ false → NormaliseOk rs ws ws₂ i env d (k + 1)
  mid_stop fine e c z Σ Γ τ s ρ t y w g =
      let p = h c z Σ Γ τ s ρ t y w g in
      let f : Store → TaskOf c → TaskOf c × Store × Bool = λ s t. stride c ρ s t in
      let n = q c z Σ Γ τ p.store ρ p.task p.typed p.world p.ran.holds in
      let b = few_moves rs d d i c fine z in
      let o = sym (normalise_limit c ρ max_strides s t (omega arith)) ∙ p.rest ∙ ap (more k) (one_less f k p.store p.task l ∙ still f (max_strides - (k + 1)) p.store p.task (sym n.1 ∙ e)) in
      subst (λ r. Ran rs ws ws₂ i c r.0 r.1 × (k + 1 ≡ r.2)) (sym o) (ran_after p.ran n.0, refl)

pub mid_end : (rs ws ws₁ : List ℕ) (i : ℕ) (env : List ℕ) (d k : ℕ) → Fine rs i d → Mid rs ws ws₁ i env d k → k ≡ max_strides → NormaliseOk rs ws ws₁ i env d k
mid_end rs ws ws₁ i env d k fine h e c z Σ Γ τ s ρ t y w g =
    let p = h c z Σ Γ τ s ρ t y w g in
    let b = few_moves rs d d i c fine z in
    let o = sym (normalise_limit c ρ max_strides s t (omega arith)) ∙ p.rest ∙ ap (more k) (none_left (λ s t. stride c ρ s t) k p.store p.task e) in
    subst (λ r. Ran rs ws ws₁ i c r.0 r.1 × (k ≡ r.2)) (sym o) (p.ran, omega arith)
