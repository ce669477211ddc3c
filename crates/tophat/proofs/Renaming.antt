-- Cells renamed: a code whose cells are renamed evaluates as the code does, from stores that agree on the cells that it names, and leaves
-- stores that agree. RenamingSteps, RenamingTouches and RenamingTyped have the rest: strides, handling and what is shown, types. Rests on
-- ComputeEvaluation.
use mathlib.Core.Path.{◌≡◌, refl, sym, ap, ap₂, ◌∙◌}
use mathlib.Core.Bool.{Bool, true, false, ◌||◌}
use mathlib.Core.List.{◌∷◌}
use Prim.Native.Nat.{ℕ}
use native.Mathlib.Decide.{ℕ_discrete}
use lib.ListN.{get_or, set, length-set}
use lib.Seq.{get_or-set_same, get_or-set_other}
use Rattle.tophat.specs.Syntax.{Exp, eunit, etruth, enumber, ebinder, eop, eif, epair, efst, esnd, ederef, eassign, elet}
use Rattle.tophat.specs.Syntax.{Code, edit, enter, update, then, next, fail, and, or, xor, view, gate, if, let', Val, vunit, vpair, Env, Store}
use Rattle.tophat.specs.Syntax.{filled, before, both, either, gated, if_true, if_false, bound}
use Rattle.tophat.specs.Renamed.{renamed_exp, renamed, renamed_task, NamesExp, CellsIn, Apart, Agrees}
use Rattle.tophat.proofs.ComputeEvaluation.{is_true, apply, exceeds, first_part, second_part, branch, eval, overflows, evaluate, overflows_task}

-- an answer and a store, the answer of the one carried by f
pub record Like {A B : Type 0} (π : ℕ → ℕ) (P : ℕ → Type 0) (f : A → B) (r : A × Store) (r₁ : B × Store) : Type 0 where
  pub made : r₁.0 ≡ f r.0
  pub store : Agrees π P r.1 r₁.1

-- the same with a third part, which is one
pub record LikeWith {A B X : Type 0} (π : ℕ → ℕ) (P : ℕ → Type 0) (f : A → B) (r : A × Store × X) (r₁ : B × Store × X) : Type 0 where
  pub made : r₁.0 ≡ f r.0
  pub store : Agrees π P r.1 r₁.1
  pub third : r₁.2 ≡ r.2

-- a value as it is
abbrev pub same : Val → Val
same v = v

branch_by : {X X₁ Y Y₁ : Type 0} (R : Y → Y₁ → Type 0) (x : Bool) (F G : X → Y) (F₁ G₁ : X₁ → Y₁) (s : X) (s₁ : X₁) → R (F s) (F₁ s₁)
    → R (G s) (G₁ s₁) → R (branch x F G s) (branch x F₁ G₁ s₁)
unfolding branch
branch_by R true F G F₁ G₁ s s₁ p q = p
branch_by R false F G F₁ G₁ s s₁ p q = q

-- what is related on both sides is related by a value, taken as a truth, that is one
branch_like : {X X₁ Y Y₁ : Type 0} (R : Y → Y₁ → Type 0) (F G : X → Y) (F₁ G₁ : X₁ → Y₁) (s : X) (s₁ : X₁) {v v₁ : Val} → v₁ ≡ v
    → R (F s) (F₁ s₁) → R (G s) (G₁ s₁) → R (branch (is_true v) F G s) (branch (is_true v₁) F₁ G₁ s₁)
branch_like R F G F₁ G₁ s s₁ {v} e p q = rw e (branch_by R (is_true v) F G F₁ G₁ s s₁ p q)

-- the same under a value that is one
under : {A B : Type 0} {π : ℕ → ℕ} {P : ℕ → Type 0} {f : A → B} {r : A × Store} (F : Val → B × Store) {v v₁ : Val} → v₁ ≡ v → Like π P f r (F v)
    → Like π P f r (F v₁)
under F e p = rw e p

module _ {π : ℕ → ℕ} {P : ℕ → Type 0} (apart : Apart π P) where
  put_content : {s s₁ : Store} (n : ℕ) (v : Val) → P n → Agrees π P s s₁ → (k : ℕ) → P k → Dec (k ≡ n) → get_or (set s₁ (π n) v) (π k) vunit ≡ get_or (set s n v) k vunit
  put_content {s} {s₁} n v p g k q (yes e) = rw e (get_or-set_same s₁ (π n) v vunit (g.inside₁ n p) ∙ sym (get_or-set_same s n v vunit (g.inside n p)))
  put_content {s} {s₁} n v p g k q (no x) =
      get_or-set_other s₁ (π n) (π k) v vunit (λ e. x (apart k n q p e)) ∙ g.content k q ∙ sym (get_or-set_other s n k v vunit x)

  -- a cell of P that is written
  pub put_agrees : {s s₁ : Store} (n : ℕ) (v : Val) → P n → Agrees π P s s₁ → Agrees π P (set s n v) (set s₁ (π n) v)
  put_agrees {s} {s₁} n v p g = record {
    content = λ k q. put_content n v p g k q (ℕ_discrete k n);
    inside = λ k q. rw (length-set s n v) (g.inside k q);
    inside₁ = λ k q. rw (length-set s₁ (π n) v) (g.inside₁ k q);
  }

  -- an expression has the same value
  pub eval_like : (e : Exp) → NamesExp P e → (ρ : Env) (s s₁ : Store) → Agrees π P s s₁ → Like π P same (eval e ρ s) (eval (renamed_exp π e) ρ s₁)
  unfolding eval
  eval_like eunit w ρ s s₁ g = record { made = refl; store = g }
  eval_like (etruth b) w ρ s s₁ g = record { made = refl; store = g }
  eval_like (enumber n) w ρ s s₁ g = record { made = refl; store = g }
  eval_like (ebinder i) w ρ s s₁ g = record { made = refl; store = g }
  eval_like (eop o a b) w ρ s s₁ g =
      let p = eval_like a w.0 ρ s s₁ g in
      let q = eval_like b w.1 ρ _ _ p.store in
      record { made = ap₂ (apply o) p.made q.made; store = q.store }
  eval_like (eif e a b) w ρ s s₁ g =
      let p = eval_like e w.0 ρ s s₁ g in
      branch_like (Like π P same) _ _ _ _ _ _ p.made (eval_like a w.1 ρ _ _ p.store) (eval_like b w.2 ρ _ _ p.store)
  eval_like (epair a b) w ρ s s₁ g =
      let p = eval_like a w.0 ρ s s₁ g in
      let q = eval_like b w.1 ρ _ _ p.store in
      record { made = ap₂ vpair p.made q.made; store = q.store }
  eval_like (efst a) w ρ s s₁ g = let p = eval_like a w ρ s s₁ g in record { made = ap first_part p.made; store = p.store }
  eval_like (esnd a) w ρ s s₁ g = let p = eval_like a w ρ s s₁ g in record { made = ap second_part p.made; store = p.store }
  eval_like (ederef n) w ρ s s₁ g = record { made = g.content n w; store = g }
  eval_like (eassign n a) w ρ s s₁ g =
      let p = eval_like a w.1 ρ s s₁ g in
      let e = p.made in
      record { made = refl; store = rw e (put_agrees n _ w.0 p.store) }
  eval_like (elet a b) w ρ s s₁ g =
      let p = eval_like a w.0 ρ s s₁ g in
      under (λ v. eval (renamed_exp π b) (v ∷ ρ) (eval (renamed_exp π a) ρ s₁).1) p.made (eval_like b w.1 (_ ∷ ρ) _ _ p.store)

  -- and leaves the words where it did
  pub overflows_like : (e : Exp) → NamesExp P e → (ρ : Env) (s s₁ : Store) → Agrees π P s s₁ → overflows (renamed_exp π e) ρ s₁ ≡ overflows e ρ s
  unfolding overflows
  overflows_like eunit w ρ s s₁ g = refl
  overflows_like (etruth b) w ρ s s₁ g = refl
  overflows_like (enumber n) w ρ s s₁ g = refl
  overflows_like (ebinder i) w ρ s s₁ g = refl
  overflows_like (eop o a b) w ρ s s₁ g =
      let p = eval_like a w.0 ρ s s₁ g in
      let q = eval_like b w.1 ρ _ _ p.store in
      ap₂ ◌||◌ (overflows_like a w.0 ρ s s₁ g) (ap₂ ◌||◌ (overflows_like b w.1 ρ _ _ p.store) (ap₂ (exceeds o) p.made q.made))
  overflows_like (eif e a b) w ρ s s₁ g =
      let p = eval_like e w.0 ρ s s₁ g in
      ap₂ ◌||◌ (overflows_like e w.0 ρ s s₁ g)
      (branch_like (λ x y. y ≡ x) _ _ _ _ _ _ p.made (overflows_like a w.1 ρ _ _ p.store) (overflows_like b w.2 ρ _ _ p.store))
  overflows_like (epair a b) w ρ s s₁ g =
      let p = eval_like a w.0 ρ s s₁ g in
      ap₂ ◌||◌ (overflows_like a w.0 ρ s s₁ g) (overflows_like b w.1 ρ _ _ p.store)
  overflows_like (efst a) w ρ s s₁ g = overflows_like a w ρ s s₁ g
  overflows_like (esnd a) w ρ s s₁ g = overflows_like a w ρ s s₁ g
  overflows_like (ederef n) w ρ s s₁ g = refl
  overflows_like (eassign n a) w ρ s s₁ g = overflows_like a w.1 ρ s s₁ g
  overflows_like (elet a b) w ρ s s₁ g =
      let p = eval_like a w.0 ρ s s₁ g in
      ap₂ ◌||◌ (overflows_like a w.0 ρ s s₁ g) (ap (λ v. overflows (renamed_exp π b) (v ∷ ρ) (eval (renamed_exp π a) ρ s₁).1) p.made ∙ overflows_like b w.1 (_ ∷ ρ) _ _ p.store)

  -- a code evaluates to the same task
  pub evaluate_like : (c : Code) → CellsIn P c → (ρ : Env) (s s₁ : Store) → Agrees π P s s₁
      → Like π P (renamed_task π c) (evaluate c ρ s) (evaluate (renamed π c) ρ s₁)
  unfolding evaluate renamed_task
  evaluate_like (edit e) w ρ s s₁ g = let p = eval_like e w ρ s s₁ g in record { made = ap filled p.made; store = p.store }
  evaluate_like (enter τ) w ρ s s₁ g = record { made = refl; store = g }
  evaluate_like (update n) w ρ s s₁ g = record { made = refl; store = g }
  evaluate_like (then a b) w ρ s s₁ g = let p = evaluate_like a w.0 ρ s s₁ g in record { made = ap before p.made; store = p.store }
  evaluate_like (next a b) w ρ s s₁ g = let p = evaluate_like a w.0 ρ s s₁ g in record { made = ap before p.made; store = p.store }
  evaluate_like (fail τ) w ρ s s₁ g = record { made = refl; store = g }
  evaluate_like (and a b) w ρ s s₁ g =
      let p = evaluate_like a w.0 ρ s s₁ g in
      let q = evaluate_like b w.1 ρ _ _ p.store in
      record { made = ap₂ both p.made q.made; store = q.store }
  evaluate_like (or a b) w ρ s s₁ g =
      let p = evaluate_like a w.0 ρ s s₁ g in
      let q = evaluate_like b w.1 ρ _ _ p.store in
      record { made = ap₂ either p.made q.made; store = q.store }
  evaluate_like (xor a b) w ρ s s₁ g = record { made = refl; store = g }
  evaluate_like (view e) w ρ s s₁ g = let p = eval_like e w ρ s s₁ g in record { made = ap filled p.made; store = p.store }
  evaluate_like (gate r n b) w ρ s s₁ g = let p = evaluate_like b w ρ s s₁ g in record { made = ap (gated n) p.made; store = p.store }
  evaluate_like (if e a b) w ρ s s₁ g =
      let p = eval_like e w.0 ρ s s₁ g in
      let q = evaluate_like a w.1 ρ _ _ p.store in
      let r = evaluate_like b w.2 ρ _ _ p.store in
      branch_like (Like π P (renamed_task π (if e a b))) _ _ _ _ _ _ p.made (record { made = ap if_true q.made; store = q.store }) (record { made = ap if_false r.made; store = r.store })
  evaluate_like (let' e b) w ρ s s₁ g =
      let p = eval_like e w.0 ρ s s₁ g in
      let q = evaluate_like b w.1 (_ ∷ ρ) _ _ p.store in
      under (λ v. let (u, s₂) = evaluate (renamed π b) (v ∷ ρ) (eval (renamed_exp π e) ρ s₁).1 in (bound v u, s₂)) p.made (record { made = ap (bound (eval e ρ s).0) q.made; store = q.store })

  -- and leaves the words where it did
  pub overflows_task_like : (c : Code) → CellsIn P c → (ρ : Env) (s s₁ : Store) → Agrees π P s s₁ → overflows_task (renamed π c) ρ s₁ ≡ overflows_task c ρ s
  unfolding overflows_task
  overflows_task_like (edit e) w ρ s s₁ g = overflows_like e w ρ s s₁ g
  overflows_task_like (enter τ) w ρ s s₁ g = refl
  overflows_task_like (update n) w ρ s s₁ g = refl
  overflows_task_like (then a b) w ρ s s₁ g = overflows_task_like a w.0 ρ s s₁ g
  overflows_task_like (next a b) w ρ s s₁ g = overflows_task_like a w.0 ρ s s₁ g
  overflows_task_like (fail τ) w ρ s s₁ g = refl
  overflows_task_like (and a b) w ρ s s₁ g = ap₂ ◌||◌ (overflows_task_like a w.0 ρ s s₁ g) (overflows_task_like b w.1 ρ _ _ (evaluate_like a w.0 ρ s s₁ g).store)
  overflows_task_like (or a b) w ρ s s₁ g = ap₂ ◌||◌ (overflows_task_like a w.0 ρ s s₁ g) (overflows_task_like b w.1 ρ _ _ (evaluate_like a w.0 ρ s s₁ g).store)
  overflows_task_like (xor a b) w ρ s s₁ g = refl
  overflows_task_like (view e) w ρ s s₁ g = overflows_like e w ρ s s₁ g
  overflows_task_like (gate r n b) w ρ s s₁ g = overflows_task_like b w ρ s s₁ g
  overflows_task_like (if e a b) w ρ s s₁ g =
      let p = eval_like e w.0 ρ s s₁ g in
      ap₂ ◌||◌ (overflows_like e w.0 ρ s s₁ g)
      (branch_like (λ x y. y ≡ x) _ _ _ _ _ _ p.made (overflows_task_like a w.1 ρ _ _ p.store) (overflows_task_like b w.2 ρ _ _ p.store))
  overflows_task_like (let' e b) w ρ s s₁ g =
      let p = eval_like e w.0 ρ s s₁ g in
      ap₂ ◌||◌ (overflows_like e w.0 ρ s s₁ g)
      (ap (λ v. overflows_task (renamed π b) (v ∷ ρ) (eval (renamed_exp π e) ρ s₁).1) p.made ∙ overflows_task_like b w.1 (_ ∷ ρ) _ _ p.store)
