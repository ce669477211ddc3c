-- What a task shows (the paper's inputs, Fig. 15, in 01's order: "A before B, A's entries before Continue, Left before
-- Right"), to whom (CR 6), and which events an entry covers (01, "Touches and what is shown"). Rests on Handling.
-- Believed, but for `Covers`, on trees what formats' `CoversBytes` is on bytes, and `MarksFit`: for proofs only.
use Rattle.std.specs.Prelude.{◌≡◌, Bool, true, false, not, List, [], ◌∷◌, ◌++◌, ℕ, suc, ◌<◌}
use Rattle.std.proofs.Math.Option.{none, some}
use Rattle.decimal.specs.Path.{Mark, first, second, Path, max_marks}
use Rattle.tophat.specs.Syntax.{Ty, Exp, Code, edit, enter, update, then, next, fail, and, or, xor, view, gate, if, let', Val, Env, Store}
use Rattle.tophat.specs.Syntax.{TaskOf, filled, before, both, either, unpicked, gated}
use Rattle.tophat.specs.Typing.{At, ValueType}
use Rattle.tophat.specs.Normalising.{value, Became, RightFails, BranchFails}
use Rattle.tophat.specs.Leaves.{Given, padded, Leaf, no_leaf, leaf_kinds, Meets}
use Rattle.tophat.specs.Roles.{Who, opens}
use Rattle.tophat.specs.Handling.{Button, continue, left, right, Action, give, press}

-- what an entry offers: a value whose leaves are of these kinds, or a button
pub data Offer : Type 0 where
  fill : List Leaf → Offer
  button : Button → Offer

-- 01: a list entry, a path and what is offered there
abbrev pub Entry : Type 0
Entry = Path × Offer

-- 01: "An entry covers a readable event of its path and action whose leaves meet its leaf kinds"
pub data Covers : Entry → Path → Action → Type 0 where
  c_fill : {p : Path} {ks : List Leaf} {ls : List Given} → Meets ks ls → Covers (p, fill ks) p (give ls)
  c_button : {p : Path} {b : Button} → Covers (p, button b) p (press b)

-- entries behind a mark
unfoldable pub marked : Mark → List Entry → List Entry
marked m [] = []
marked m (e ∷ es) = (m ∷ e.0, e.1) ∷ marked m es

-- an editor of the type offers a value of it
unfoldable pub offers : Ty → List Entry
offers τ = ([], fill (padded no_leaf (leaf_kinds τ))) ∷ []

-- the entry of a button, where it can be pressed
unfoldable pub button_if : Bool → Button → List Entry
button_if true b = ([], button b) ∷ []
button_if false b = []

-- entries, where their row of kind 50 is open
unfoldable pub entries_if : Bool → List Entry → List Entry
entries_if true es = es
entries_if false es = []

-- `Shows w c ρ s t es`: t in s shows w the entries es, in this order
pub data Shows (w : Who) : (c : Code) → Env → Store → TaskOf c → List Entry → Type 0 where
  i_edit : {ρ : Env} {s : Store} {e : Exp} {v : Val} {τ : Ty}
      → ValueType v τ → Shows w (edit e) ρ s (filled v) (offers τ)
  i_enter : {ρ : Env} {s : Store} {τ : Ty} {t : TaskOf (enter τ)} → Shows w (enter τ) ρ s t (offers τ)
  i_update : {ρ : Env} {s : Store} {n : ℕ} {t : TaskOf (update n)} {v : Val} {τ : Ty}
      → At s n v → ValueType v τ → Shows w (update n) ρ s t (offers τ)
  i_then : {ρ : Env} {s : Store} {a b : Code} {t : TaskOf a} {es : List Entry}
      → Shows w a ρ s t es → Shows w (then a b) ρ s (before t) es
  -- Continue is shown where A has a value and B, evaluated under it, does not fail
  i_next_none : {ρ : Env} {s : Store} {a b : Code} {t : TaskOf a} {es : List Entry}
      → Shows w a ρ s t es → value a t s ≡ none → Shows w (next a b) ρ s (before t) es
  i_next : {ρ : Env} {s : Store} {a b : Code} {t : TaskOf a} {v : Val} {x : Bool} {es : List Entry}
      → Shows w a ρ s t es → value a t s ≡ some v → RightFails b (v ∷ ρ) s x → Shows w (next a b) ρ s (before t) (es ++ button_if (not x) continue)
  i_fail : {ρ : Env} {s : Store} {τ : Ty} {t : TaskOf (fail τ)} → Shows w (fail τ) ρ s t []
  i_and : {ρ : Env} {s : Store} {a b : Code} {t : TaskOf a} {u : TaskOf b} {es fs : List Entry}
      → Shows w a ρ s t es → Shows w b ρ s u fs → Shows w (and a b) ρ s (both t u) (marked first es ++ marked second fs)
  i_or : {ρ : Env} {s : Store} {a b : Code} {t : TaskOf a} {u : TaskOf b} {es fs : List Entry}
      → Shows w a ρ s t es → Shows w b ρ s u fs → Shows w (or a b) ρ s (either t u) (marked first es ++ marked second fs)
  -- Left and Right are shown where that branch, normalised from the present store, does not fail
  i_xor : {ρ : Env} {s : Store} {a b : Code} {x y : Bool}
      → BranchFails a ρ s x → BranchFails b ρ s y → Shows w (xor a b) ρ s unpicked (button_if (not x) left ++ button_if (not y) right)
  i_view : {ρ : Env} {s : Store} {e : Exp} {t : TaskOf (view e)} → Shows w (view e) ρ s t []
  i_became : {ρ ρ₁ : Env} {s : Store} {c c₁ : Code} {K : TaskOf c₁ → TaskOf c} {u : TaskOf c₁} {es : List Entry}
      → Became c ρ c₁ ρ₁ K → Shows w c₁ ρ₁ s u es → Shows w c ρ s (K u) es
  -- CR 6: "lists just what that role may do now"
  i_gate : {ρ : Env} {s : Store} {r n k : ℕ} {b : Code} {u : TaskOf b} {es : List Entry}
      → Shows w b ρ s u es → Shows w (gate r n b) ρ s (gated k u) (entries_if (opens w (r, k)) es)

-- under m marks, no more than 16 stand around a part of the code (01: "at most 16 rows of kind 46 or 47, enclose a row"), so that the
-- paths of its entries have a column for each mark
abbrev pub MarksFit : ℕ → Code → Type 0
MarksFit m (edit a) = Unit {0}
MarksFit m (enter τ) = Unit {0}
MarksFit m (update c) = Unit {0}
MarksFit m (then a b) = MarksFit m a × MarksFit m b
MarksFit m (next a b) = MarksFit m a × MarksFit m b
MarksFit m (fail τ) = Unit {0}
MarksFit m (and a b) = (m < max_marks) × MarksFit (suc m) a × MarksFit (suc m) b
MarksFit m (or a b) = (m < max_marks) × MarksFit (suc m) a × MarksFit (suc m) b
MarksFit m (xor a b) = MarksFit m a × MarksFit m b
MarksFit m (view a) = Unit {0}
MarksFit m (gate r n b) = MarksFit m b
MarksFit m (if e a b) = MarksFit m a × MarksFit m b
MarksFit m (let' e b) = MarksFit m b
