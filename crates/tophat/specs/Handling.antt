-- Events and handling (the paper's Fig. 14 and the cases H-.. of its appendix, where our copies leave Fig. 16 blank; 01,
-- "Handling" and "Touches and what is shown"). Rests on Leaves, Roles and Normalising.
-- Believed.
use Rattle.std.specs.Prelude.{◌≡◌, false, List, [], ◌∷◌, ℕ, ◌-◌, set}
use Rattle.std.proofs.Math.Option.{some}
use Rattle.decimal.specs.Path.{first, second, Path}
use Rattle.tophat.specs.Syntax.{Ty, Exp, Code, edit, enter, update, then, next, and, or, xor, gate}
use Rattle.tophat.specs.Syntax.{Val, Env, Store}
use Rattle.tophat.specs.Syntax.{TaskOf, filled, entered, shared, before, after, both, either, unpicked, picked_left, picked_right, gated}
use Rattle.tophat.specs.Typing.{At, ValueType}
use Rattle.tophat.specs.Leaves.{Given, Gives}
use Rattle.tophat.specs.Roles.{Gate}
use Rattle.tophat.specs.Evaluation.{EvaluatesTask}
use Rattle.tophat.specs.Normalising.{value, Became, Fails, Normalises}

-- 01: Continue, Left and Right
pub data Button : Type 0 where
  continue left right : Button

-- 01: "action (1 value, 2 Continue, 3 Left, 4 Right)"
pub data Act : Type 0 where
  giving : Act
  pressing : Button → Act

-- their numbers, in events and in entries
abbrev pub act_number : Act → ℕ
act_number giving = 1
act_number (pressing continue) = 2
act_number (pressing left) = 3
act_number (pressing right) = 4

-- all of them
abbrev pub act_table : List Act
act_table = giving ∷ pressing continue ∷ pressing left ∷ pressing right ∷ []

-- an action with what it carries: a value is given by its leaves, some of which may be blank (CR 2)
pub data Action : Type 0 where
  give : List Given → Action
  press : Button → Action

-- `Handles c ρ s t p x t₁ s₁ gs`: t in s takes the action x at the path p, and is t₁ in s₁ before it is normalised; gs are the rows of kind 50 that x
-- passes on its way, the outermost first (CR 6), roles and touches left aside
pub data Handles : (c : Code) → Env → Store → TaskOf c → Path → Action → TaskOf c → Store → List Gate → Type 0 where
  h_change : {ρ : Env} {s : Store} {e : Exp} {w v : Val} {τ : Ty} {ls : List Given}
      → ValueType w τ → Gives ls τ v → Handles (edit e) ρ s (filled w) [] (give ls) (filled v) s []
  h_fill : {ρ : Env} {s : Store} {τ : Ty} {t : TaskOf (enter τ)} {v : Val} {ls : List Given}
      → Gives ls τ v → Handles (enter τ) ρ s t [] (give ls) (entered v) s []
  h_update : {ρ : Env} {s : Store} {n : ℕ} {t : TaskOf (update n)} {w v : Val} {τ : Ty} {ls : List Given}
      → At s n w → ValueType w τ → Gives ls τ v → Handles (update n) ρ s t [] (give ls) shared (set s n v) []
  h_pass_then : {ρ : Env} {s s₁ : Store} {a b : Code} {t t₁ : TaskOf a} {p : Path} {x : Action} {gs : List Gate}
      → Handles a ρ s t p x t₁ s₁ gs → Handles (then a b) ρ s (before t) p x (before t₁) s₁ gs
  -- 01: "43 and 44 pass events to A", Continue among them (the paper's H-PassNext leaves it out)
  h_pass_next : {ρ : Env} {s s₁ : Store} {a b : Code} {t t₁ : TaskOf a} {p : Path} {x : Action} {gs : List Gate}
      → Handles a ρ s t p x t₁ s₁ gs → Handles (next a b) ρ s (before t) p x (before t₁) s₁ gs
  -- 01: "44 takes Continue if A has a value v and B evaluated under v does not fail"
  h_next : {ρ : Env} {s s₁ : Store} {a b : Code} {t : TaskOf a} {u : TaskOf b} {v : Val}
      → value a t s ≡ some v → EvaluatesTask b (v ∷ ρ) s u s₁ → Fails b (v ∷ ρ) s₁ u false
      → Handles (next a b) ρ s (before t) [] (press continue) (after v u) s₁ []
  h_first_and : {ρ : Env} {s s₁ : Store} {a b : Code} {t t₁ : TaskOf a} {u : TaskOf b} {p : Path} {x : Action} {gs : List Gate}
      → Handles a ρ s t p x t₁ s₁ gs → Handles (and a b) ρ s (both t u) (first ∷ p) x (both t₁ u) s₁ gs
  h_second_and : {ρ : Env} {s s₁ : Store} {a b : Code} {t : TaskOf a} {u u₁ : TaskOf b} {p : Path} {x : Action} {gs : List Gate}
      → Handles b ρ s u p x u₁ s₁ gs → Handles (and a b) ρ s (both t u) (second ∷ p) x (both t u₁) s₁ gs
  h_first_or : {ρ : Env} {s s₁ : Store} {a b : Code} {t t₁ : TaskOf a} {u : TaskOf b} {p : Path} {x : Action} {gs : List Gate}
      → Handles a ρ s t p x t₁ s₁ gs → Handles (or a b) ρ s (either t u) (first ∷ p) x (either t₁ u) s₁ gs
  h_second_or : {ρ : Env} {s s₁ : Store} {a b : Code} {t : TaskOf a} {u u₁ : TaskOf b} {p : Path} {x : Action} {gs : List Gate}
      → Handles b ρ s u p x u₁ s₁ gs → Handles (or a b) ρ s (either t u) (second ∷ p) x (either t u₁) s₁ gs
  -- 01: "48 takes Left or Right if that branch, normalised, does not fail"
  h_pick_left : {ρ : Env} {s s₁ s₂ : Store} {a b : Code} {t t₁ : TaskOf a} {n : ℕ}
      → EvaluatesTask a ρ s t s₁ → Normalises a ρ s₁ t t₁ s₂ n → Fails a ρ s₂ t₁ false → Handles (xor a b) ρ s unpicked [] (press left) (picked_left t₁) s₂ []
  h_pick_right : {ρ : Env} {s s₁ s₂ : Store} {a b : Code} {u u₁ : TaskOf b} {n : ℕ}
      → EvaluatesTask b ρ s u s₁ → Normalises b ρ s₁ u u₁ s₂ n → Fails b ρ s₂ u₁ false → Handles (xor a b) ρ s unpicked [] (press right) (picked_right u₁) s₂ []
  h_became : {ρ ρ₁ : Env} {s s₁ : Store} {c c₁ : Code} {K : TaskOf c₁ → TaskOf c} {u u₁ : TaskOf c₁} {p : Path} {x : Action} {gs : List Gate}
      → Became c ρ c₁ ρ₁ K → Handles c₁ ρ₁ s u p x u₁ s₁ gs → Handles c ρ s (K u) p x (K u₁) s₁ gs
  -- CR 6: "uses one touch of each kind 50 row"; the step is derived where none is left too, and is refused by 31
  h_gate : {ρ : Env} {s s₁ : Store} {r n k : ℕ} {b : Code} {u u₁ : TaskOf b} {p : Path} {x : Action} {gs : List Gate}
      → Handles b ρ s u p x u₁ s₁ gs → Handles (gate r n b) ρ s (gated k u) p x (gated (k - 1) u₁) s₁ ((r, k) ∷ gs)
