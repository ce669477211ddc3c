-- Lists of look and handle calls on trees (01, "Four lines on the contracts", 3), and what holds after any of them.
-- proofs/EveryRun is the theorem; the crate `call_definitions` carries it to bytes and words. Rests on Showing.
-- Believed: `Accepts` and `Refuses`. The rest says the theorem on trees, which no promise on the calls names.
use Rattle.std.specs.Prelude.{◌≡◌, true, false, ◌⊎◌, ◌↔◌, List, [], ◌∷◌, ℕ, ◌+◌, ◌≤◌}
use Rattle.decimal.specs.Path.{Path}
use Rattle.tophat.specs.Syntax.{Ty, Code, TaskOf, Store, moves}
use Rattle.tophat.specs.Typing.{At, ValueTypes, TaskType}
use Rattle.tophat.specs.Normalising.{Fails, Normalises}
use Rattle.tophat.specs.Quiet.{Quiet}
use Rattle.tophat.specs.Roles.{Gate, Who, anyone, is, admits}
use Rattle.tophat.specs.Handling.{Action, Handles}
use Rattle.tophat.specs.Showing.{Entry, Covers, Shows}

pub data Call : Type 0 where
  look : Call
  touch : (role : ℕ) → Path → Action → Call

-- some handling rule derives a step, and the rows of kind 50 passed admit them; of anyone, just the former
abbrev pub Accepts : Who → (c : Code) → TaskOf c → Store → Path → Action → Type 0
Accepts w c t s p x = (t₁ : TaskOf c) × (s₁ : Store) × (gs : List Gate) × Handles c [] s t p x t₁ s₁ gs × (admits w gs ≡ true)

-- no handling rule derives such a step. Of anyone: no handling rule derives a step (01, ground 9)
abbrev pub Refuses : Who → (c : Code) → TaskOf c → Store → Path → Action → Type 0
Refuses w c t s p x = (t₁ : TaskOf c) (s₁ : Store) (gs : List Gate) → Handles c [] s t p x t₁ s₁ gs → admits w gs ≡ true → ⊥

-- what one call leaves (the paper's Fig. 13: handle, then normalise)
pub data Leaves (c : Code) : TaskOf c → Store → Call → TaskOf c → Store → Type 0 where
  l_look : {t : TaskOf c} {s : Store} → Leaves c t s look t s
  l_taken : {t t₁ t₂ : TaskOf c} {s s₁ s₂ : Store} {r : ℕ} {p : Path} {x : Action} {gs : List Gate} {n : ℕ}
      → Handles c [] s t p x t₁ s₁ gs → admits (is r) gs ≡ true → Normalises c [] s₁ t₁ t₂ s₂ n → Leaves c t s (touch r p x) t₂ s₂
  l_refused : {t : TaskOf c} {s : Store} {r : ℕ} {p : Path} {x : Action}
      → Refuses (is r) c t s p x → Leaves c t s (touch r p x) t s

-- what a list of calls leaves
pub data Runs (c : Code) : TaskOf c → Store → List Call → TaskOf c → Store → Type 0 where
  r_end : {t : TaskOf c} {s : Store} → Runs c t s [] t s
  r_call : {t t₁ t₂ : TaskOf c} {s s₁ s₂ : Store} {k : Call} {ks : List Call}
      → Leaves c t s k t₁ s₁ → Runs c t₁ s₁ ks t₂ s₂ → Runs c t s (k ∷ ks) t₂ s₂

-- 01: a rest is a state that normalising does not change; here with its type
pub record Rest (Σ : List Ty) (c : Code) (τ : Ty) (t : TaskOf c) (s : Store) : Type 0 where
  pub task : TaskType Σ [] c t τ
  pub store : ValueTypes s Σ
  pub still : Normalises c [] s t t s 1

-- what holds of t in s after any list of calls (01, demand 3), for everyone who may look or touch
pub record Stands (Σ : List Ty) (c : Code) (τ : Ty) (t : TaskOf c) (s : Store) : Type 0 where
  pub rest : Rest Σ c τ t s
  -- every event is accepted or refused, by the rules
  pub decided : (w : Who) (p : Path) (x : Action) → Accepts w c t s p x ⊎ Refuses w c t s p x
  -- in one way
  pub one : (p : Path) (x : Action) (t₁ t₂ : TaskOf c) (s₁ s₂ : Store) (gs hs : List Gate) → Handles c [] s t p x t₁ s₁ gs → Handles c [] s t p x t₂ s₂ hs → (t₁ ≡ t₂) × (s₁ ≡ s₂) × (gs ≡ hs)
  -- an accepted event has an outcome, reached in at most one more stride than the rows of kind 43 and 47
  pub outcome : (p : Path) (x : Action) (t₁ : TaskOf c) (s₁ : Store) (gs : List Gate) → Handles c [] s t p x t₁ s₁ gs
      → (t₂ : TaskOf c) × (s₂ : Store) × (n : ℕ) × Normalises c [] s₁ t₁ t₂ s₂ n × (n ≤ 1 + moves c)
  -- the list shown
  pub shown : Who → List Entry
  pub shows : (w : Who) → Shows w c [] s t (shown w)
  pub sole : (w : Who) (es : List Entry) → Shows w c [] s t es → shown w ≡ es
  -- it covers exactly the accepted events
  pub accepted_iff_covered : (w : Who) (p : Path) (x : Action) → Accepts w c t s p x ↔ ((i : ℕ) × (e : Entry) × At (shown w) i e × Covers e p x)
  -- each by just one entry
  pub covered_once : (w : Who) (i j : ℕ) (e f : Entry) (p : Path) (x : Action) → At (shown w) i e → At (shown w) j f → Covers e p x → Covers f p x → i ≡ j
  -- anyone's is empty exactly when the task is quiet, and then it is for all roles
  pub empty_iff_quiet : (shown anyone ≡ []) ↔ Quiet c [] s t
  pub quiet_empty : Quiet c [] s t → (w : Who) → shown w ≡ []
  -- the rules say whether the task fails, and one that fails is quiet
  pub fails_decided : Fails c [] s t true ⊎ Fails c [] s t false
  pub failing_quiet : Fails c [] s t true → Quiet c [] s t
