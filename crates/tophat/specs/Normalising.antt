-- The value of a task (the paper's Fig. 9), failing (Fig. 10), striding (Fig. 12) and normalising with the number of
-- strides (Fig. 11). Failing asks for normal forms, normalising for strides, striding for failing: one mutual definition.
-- What has been taken, named or picked, and 25 and 31, hand on to the task that they became, and 50 to its own. Rests on Evaluation.
-- Believed.
use Rattle.std.specs.Prelude.{◌≡◌, Bool, true, false, ◌&&◌, ◌∷◌, ℕ, suc, get_or}
use Rattle.std.proofs.Math.Option.{Option, none, some}
use Rattle.tophat.specs.Syntax.{Ty, Exp, Code, edit, enter, update, then, next, fail, and, or, xor, view, gate, if, let', Val, vunit, vpair, Env, Store}
use Rattle.tophat.specs.Syntax.{TaskOf, filled, blank, entered, before, after, both, either, or_left, or_right, unpicked, picked_left, picked_right, gated, if_true, if_false, bound}
use Rattle.tophat.specs.Evaluation.{EvaluatesTask, OverflowsTask}

-- 46: two values are paired, else there is none
unfoldable pub pair_of : Option Val → Option Val → Option Val
pair_of none y = none
pair_of (some v) none = none
pair_of (some v) (some w) = some (vpair v w)

-- 47: the left value, else the right
unfoldable pub first_of : Option Val → Option Val → Option Val
first_of none y = y
first_of (some v) y = some v

-- the paper's 𝒱(t, s)
unfoldable pub value : (c : Code) → TaskOf c → Store → Option Val
value (edit e) (filled v) s = some v
value (enter τ) blank s = none
value (enter τ) (entered v) s = some v
value (update n) t s = some (get_or s n vunit)
value (then a b) (before t) s = none
value (then a b) (after v u) s = value b u s
value (next a b) (before t) s = none
value (next a b) (after v u) s = value b u s
value (fail τ) t s = none
value (and a b) (both t u) s = pair_of (value a t s) (value b u s)
value (or a b) (either t u) s = first_of (value a t s) (value b u s)
value (or a b) (or_left t) s = value a t s
value (or a b) (or_right u) s = value b u s
value (xor a b) unpicked s = none
value (xor a b) (picked_left t) s = value a t s
value (xor a b) (picked_right u) s = value b u s
value (view e) (filled v) s = some v
value (gate r n b) (gated k u) s = value b u s
value (if e a b) (if_true t) s = value a t s
value (if e a b) (if_false u) s = value b u s
value (let' e b) (bound v u) s = value b u s

-- `Became c ρ c₁ ρ₁ K`: K u, a task of c under ρ, has become u, a task of c₁ under ρ₁
pub data Became : (c : Code) → Env → (c₁ : Code) → Env → (TaskOf c₁ → TaskOf c) → Type 0 where
  b_then : {ρ : Env} {a b : Code} {v : Val} → Became (then a b) ρ b (v ∷ ρ) (after v)
  b_next : {ρ : Env} {a b : Code} {v : Val} → Became (next a b) ρ b (v ∷ ρ) (after v)
  b_or_left : {ρ : Env} {a b : Code} → Became (or a b) ρ a ρ or_left
  b_or_right : {ρ : Env} {a b : Code} → Became (or a b) ρ b ρ or_right
  b_xor_left : {ρ : Env} {a b : Code} → Became (xor a b) ρ a ρ picked_left
  b_xor_right : {ρ : Env} {a b : Code} → Became (xor a b) ρ b ρ picked_right
  b_if_true : {ρ : Env} {e : Exp} {a b : Code} → Became (if e a b) ρ a ρ if_true
  b_if_false : {ρ : Env} {e : Exp} {a b : Code} → Became (if e a b) ρ b ρ if_false
  b_let : {ρ : Env} {e : Exp} {b : Code} {v : Val} → Became (let' e b) ρ b (v ∷ ρ) (bound v)

-- `Wraps c ρ c₁ ρ₁ K`: K u, a task of c under ρ, has its value from u, a task of c₁ under ρ₁, and fails and strides as u does: it has
-- become u, or is a 50 around it (CR 6: "type, value, failing, quiet, stride and path are those of B")
pub data Wraps : (c : Code) → Env → (c₁ : Code) → Env → (TaskOf c₁ → TaskOf c) → Type 0 where
  w_became : {ρ ρ₁ : Env} {c c₁ : Code} {K : TaskOf c₁ → TaskOf c} → Became c ρ c₁ ρ₁ K → Wraps c ρ c₁ ρ₁ K
  w_gate : {ρ : Env} {r n k : ℕ} {b : Code} → Wraps (gate r n b) ρ b ρ (gated k)

mutual
  -- `Fails c ρ s t x`: the paper's ℱ(t, s) is x
  pub data Fails : (c : Code) → Env → Store → TaskOf c → Bool → Type 0 where
    f_edit : {ρ : Env} {s : Store} {e : Exp} {t : TaskOf (edit e)} → Fails (edit e) ρ s t false
    f_enter : {ρ : Env} {s : Store} {τ : Ty} {t : TaskOf (enter τ)} → Fails (enter τ) ρ s t false
    f_update : {ρ : Env} {s : Store} {n : ℕ} {t : TaskOf (update n)} → Fails (update n) ρ s t false
    f_then : {ρ : Env} {s : Store} {a b : Code} {t : TaskOf a} {x : Bool}
        → Fails a ρ s t x → Fails (then a b) ρ s (before t) x
    f_next : {ρ : Env} {s : Store} {a b : Code} {t : TaskOf a} {x : Bool}
        → Fails a ρ s t x → Fails (next a b) ρ s (before t) x
    f_fail : {ρ : Env} {s : Store} {τ : Ty} {t : TaskOf (fail τ)} → Fails (fail τ) ρ s t true
    f_and : {ρ : Env} {s : Store} {a b : Code} {t : TaskOf a} {u : TaskOf b} {x y z : Bool}
        → Fails a ρ s t x → Fails b ρ s u y → x && y ≡ z → Fails (and a b) ρ s (both t u) z
    f_or : {ρ : Env} {s : Store} {a b : Code} {t : TaskOf a} {u : TaskOf b} {x y z : Bool}
        → Fails a ρ s t x → Fails b ρ s u y → x && y ≡ z → Fails (or a b) ρ s (either t u) z
    -- 01: "48 if both branches, each normalised from the present store, fail"
    f_xor : {ρ : Env} {s : Store} {a b : Code} {x y z : Bool}
        → BranchFails a ρ s x → BranchFails b ρ s y → x && y ≡ z → Fails (xor a b) ρ s unpicked z
    f_view : {ρ : Env} {s : Store} {e : Exp} {t : TaskOf (view e)} → Fails (view e) ρ s t false
    f_wraps : {ρ ρ₁ : Env} {s : Store} {c c₁ : Code} {K : TaskOf c₁ → TaskOf c} {t : TaskOf c} {u : TaskOf c₁} {x : Bool}
        → Wraps c ρ c₁ ρ₁ K → K u ≡ t → Fails c₁ ρ₁ s u x → Fails c ρ s t x

  -- `RightFails b ρ s x`: whether the right side b of a step, evaluated from s, fails is x
  pub data RightFails : Code → Env → Store → Bool → Type 0 where
    r_evaluated : {ρ : Env} {s s₁ : Store} {b : Code} {u : TaskOf b} {x : Bool}
        → EvaluatesTask b ρ s u s₁ → Fails b ρ s₁ u x → RightFails b ρ s x
    -- CR 3
    r_overflow : {ρ : Env} {s : Store} {b : Code} → OverflowsTask b ρ s → RightFails b ρ s true

  -- `BranchFails c ρ s x`: whether the branch c of a 48, evaluated from s and normalised, fails is x
  pub data BranchFails : Code → Env → Store → Bool → Type 0 where
    b_normalised : {ρ : Env} {s s₁ s₂ : Store} {c : Code} {t t₁ : TaskOf c} {n : ℕ} {x : Bool}
        → EvaluatesTask c ρ s t s₁ → Normalises c ρ s₁ t t₁ s₂ n → Fails c ρ s₂ t₁ x → BranchFails c ρ s x
    -- CR 3
    b_overflow : {ρ : Env} {s : Store} {c : Code} → OverflowsTask c ρ s → BranchFails c ρ s true

  -- `Strides c ρ s t t₁ s₁`: one stride takes t in s to t₁ in s₁
  pub data Strides : (c : Code) → Env → Store → TaskOf c → TaskOf c → Store → Type 0 where
    s_edit : {ρ : Env} {s : Store} {e : Exp} {t : TaskOf (edit e)} → Strides (edit e) ρ s t t s
    s_fill : {ρ : Env} {s : Store} {τ : Ty} {t : TaskOf (enter τ)} → Strides (enter τ) ρ s t t s
    s_update : {ρ : Env} {s : Store} {n : ℕ} {t : TaskOf (update n)} → Strides (update n) ρ s t t s
    s_fail : {ρ : Env} {s : Store} {τ : Ty} {t : TaskOf (fail τ)} → Strides (fail τ) ρ s t t s
    s_then_stay : {ρ : Env} {s s₁ : Store} {a b : Code} {t t₁ : TaskOf a}
        → Strides a ρ s t t₁ s₁ → value a t₁ s₁ ≡ none → Strides (then a b) ρ s (before t) (before t₁) s₁
    -- 01: "if that fails, its store is dropped and the step waits"
    s_then_fail : {ρ : Env} {s s₁ : Store} {a b : Code} {t t₁ : TaskOf a} {v : Val}
        → Strides a ρ s t t₁ s₁ → value a t₁ s₁ ≡ some v → RightFails b (v ∷ ρ) s₁ true → Strides (then a b) ρ s (before t) (before t₁) s₁
    s_then_cont : {ρ : Env} {s s₁ s₂ : Store} {a b : Code} {t t₁ : TaskOf a} {u : TaskOf b} {v : Val}
        → Strides a ρ s t t₁ s₁ → value a t₁ s₁ ≡ some v → EvaluatesTask b (v ∷ ρ) s₁ u s₂ → Fails b (v ∷ ρ) s₂ u false
        → Strides (then a b) ρ s (before t) (after v u) s₂
    s_next : {ρ : Env} {s s₁ : Store} {a b : Code} {t t₁ : TaskOf a}
        → Strides a ρ s t t₁ s₁ → Strides (next a b) ρ s (before t) (before t₁) s₁
    s_and : {ρ : Env} {s s₁ s₂ : Store} {a b : Code} {t t₁ : TaskOf a} {u u₁ : TaskOf b}
        → Strides a ρ s t t₁ s₁ → Strides b ρ s₁ u u₁ s₂ → Strides (and a b) ρ s (both t u) (both t₁ u₁) s₂
    s_or_left : {ρ : Env} {s s₁ : Store} {a b : Code} {t t₁ : TaskOf a} {u : TaskOf b} {v : Val}
        → Strides a ρ s t t₁ s₁ → value a t₁ s₁ ≡ some v → Strides (or a b) ρ s (either t u) (or_left t₁) s₁
    s_or_right : {ρ : Env} {s s₁ s₂ : Store} {a b : Code} {t t₁ : TaskOf a} {u u₁ : TaskOf b} {v : Val}
        → Strides a ρ s t t₁ s₁ → value a t₁ s₁ ≡ none → Strides b ρ s₁ u u₁ s₂ → value b u₁ s₂ ≡ some v
        → Strides (or a b) ρ s (either t u) (or_right u₁) s₂
    s_or_none : {ρ : Env} {s s₁ s₂ : Store} {a b : Code} {t t₁ : TaskOf a} {u u₁ : TaskOf b}
        → Strides a ρ s t t₁ s₁ → value a t₁ s₁ ≡ none → Strides b ρ s₁ u u₁ s₂ → value b u₁ s₂ ≡ none
        → Strides (or a b) ρ s (either t u) (either t₁ u₁) s₂
    s_xor : {ρ : Env} {s : Store} {a b : Code} → Strides (xor a b) ρ s unpicked unpicked s
    s_view : {ρ : Env} {s : Store} {e : Exp} {t : TaskOf (view e)} → Strides (view e) ρ s t t s
    s_wraps : {ρ ρ₁ : Env} {s s₁ : Store} {c c₁ : Code} {K : TaskOf c₁ → TaskOf c} {t t₁ : TaskOf c} {u u₁ : TaskOf c₁}
        → Wraps c ρ c₁ ρ₁ K → K u ≡ t → K u₁ ≡ t₁ → Strides c₁ ρ₁ s u u₁ s₁ → Strides c ρ s t t₁ s₁

  -- `Normalises c ρ s t t₁ s₁ n`: n strides, the last included, take t in s to rest at t₁ in s₁
  pub data Normalises : (c : Code) → Env → Store → TaskOf c → TaskOf c → Store → ℕ → Type 0 where
    n_done : {ρ : Env} {s : Store} {c : Code} {t : TaskOf c} → Strides c ρ s t t s → Normalises c ρ s t t s 1
    n_repeat : {ρ : Env} {s s₁ s₂ : Store} {c : Code} {t t₁ t₂ : TaskOf c} {n : ℕ}
        → Strides c ρ s t t₁ s₁ → ¬ ((t ≡ t₁) × (s ≡ s₁)) → Normalises c ρ s₁ t₁ t₂ s₂ n → Normalises c ρ s t t₂ s₂ (suc n)
