-- Typing rules (the paper's Fig. 5 and appendix; 01, "The sheet"), with 01's limits: of plain expressions, of tasks as a
-- sheet has them, and of running tasks. Σ gives the cells' types, Γ the binders', the nearest first. Rests on Syntax.
-- Believed, but for `AllSmall`: for contracts only.
use Rattle.std.specs.Prelude.{Bool, List, [], ◌∷◌, ℕ, zero, suc, ◌≤◌, ℤ}
use Rattle.word.specs.Word.{IsWord}
use Rattle.tophat.specs.Syntax.{max_leaves, Ty, unit, truth, number, pair, leaves, Op, sum, difference, product, less, less_equal, equal, and_op, or_op}
use Rattle.tophat.specs.Syntax.{Exp, eunit, etruth, enumber, ebinder, eop, eif, epair, efst, esnd, ederef, eassign, elet}
use Rattle.tophat.specs.Syntax.{Code, edit, enter, update, then, next, fail, and, or, xor, view, gate, if, let', Val, vunit, vtruth, vnumber, vpair}
use Rattle.tophat.specs.Syntax.{TaskOf, filled, blank, entered, shared, before, after, failed, both, either, or_left, or_right, unpicked, picked_left, picked_right, gated, if_true, if_false, bound}

-- x stands at place n of the list
pub data At {X : Type 0} : List X → ℕ → X → Type 0 where
  here : {x : X} {xs : List X} → At (x ∷ xs) zero x
  there : {x y : X} {xs : List X} {n : ℕ} → At xs n y → At (x ∷ xs) (suc n) y

-- what an operator takes on both sides, and gives
pub data OpType : Op → Ty → Ty → Type 0 where
  o_sum : OpType sum number number
  o_difference : OpType difference number number
  o_product : OpType product number number
  o_less : OpType less number truth
  o_less_equal : OpType less_equal number truth
  o_equal : OpType equal number truth
  o_and : OpType and_op truth truth
  o_or : OpType or_op truth truth

-- plain expressions. 01, with CR 4's 8 in place of 4: an expression whose type passes 8 leaves has no type
pub data HasType (Σ : List Ty) : List Ty → Exp → Ty → Type 0 where
  t_unit : {Γ : List Ty} → HasType Σ Γ eunit unit
  t_truth : {Γ : List Ty} {b : Bool} → HasType Σ Γ (etruth b) truth
  t_number : {Γ : List Ty} {n : ℤ} → IsWord n → HasType Σ Γ (enumber n) number
  t_var : {Γ : List Ty} {i : ℕ} {τ : Ty} → At Γ i τ → HasType Σ Γ (ebinder i) τ
  t_op : {Γ : List Ty} {o : Op} {a b : Exp} {τ υ : Ty}
      → OpType o τ υ → HasType Σ Γ a τ → HasType Σ Γ b τ → HasType Σ Γ (eop o a b) υ
  t_if : {Γ : List Ty} {e a b : Exp} {τ : Ty}
      → HasType Σ Γ e truth → HasType Σ Γ a τ → HasType Σ Γ b τ → HasType Σ Γ (eif e a b) τ
  t_pair : {Γ : List Ty} {a b : Exp} {τ υ : Ty}
      → HasType Σ Γ a τ → HasType Σ Γ b υ → leaves (pair τ υ) ≤ max_leaves → HasType Σ Γ (epair a b) (pair τ υ)
  t_fst : {Γ : List Ty} {a : Exp} {τ υ : Ty} → HasType Σ Γ a (pair τ υ) → HasType Σ Γ (efst a) τ
  t_snd : {Γ : List Ty} {a : Exp} {τ υ : Ty} → HasType Σ Γ a (pair τ υ) → HasType Σ Γ (esnd a) υ
  t_deref : {Γ : List Ty} {n : ℕ} {τ : Ty} → At Σ n τ → HasType Σ Γ (ederef n) τ
  t_assign : {Γ : List Ty} {n : ℕ} {a : Exp} {τ : Ty}
      → At Σ n τ → HasType Σ Γ a τ → HasType Σ Γ (eassign n a) unit
  t_let : {Γ : List Ty} {a b : Exp} {τ υ : Ty}
      → HasType Σ Γ a τ → HasType Σ (τ ∷ Γ) b υ → HasType Σ Γ (elet a b) υ

-- tasks: `CodeType Σ Γ c τ` is the paper's Γ, Σ ⊢ c : Task τ. 01: "fail at type A"; "46 has the pair type"
pub data CodeType (Σ : List Ty) : List Ty → Code → Ty → Type 0 where
  t_edit : {Γ : List Ty} {e : Exp} {τ : Ty} → HasType Σ Γ e τ → CodeType Σ Γ (edit e) τ
  t_enter : {Γ : List Ty} {τ : Ty} → leaves τ ≤ max_leaves → CodeType Σ Γ (enter τ) τ
  t_update : {Γ : List Ty} {n : ℕ} {τ : Ty} → At Σ n τ → CodeType Σ Γ (update n) τ
  t_then : {Γ : List Ty} {a b : Code} {τ υ : Ty}
      → CodeType Σ Γ a τ → CodeType Σ (τ ∷ Γ) b υ → CodeType Σ Γ (then a b) υ
  t_next : {Γ : List Ty} {a b : Code} {τ υ : Ty}
      → CodeType Σ Γ a τ → CodeType Σ (τ ∷ Γ) b υ → CodeType Σ Γ (next a b) υ
  t_fail : {Γ : List Ty} {τ : Ty} → leaves τ ≤ max_leaves → CodeType Σ Γ (fail τ) τ
  t_and : {Γ : List Ty} {a b : Code} {τ υ : Ty}
      → CodeType Σ Γ a τ → CodeType Σ Γ b υ → leaves (pair τ υ) ≤ max_leaves → CodeType Σ Γ (and a b) (pair τ υ)
  t_or : {Γ : List Ty} {a b : Code} {τ : Ty} → CodeType Σ Γ a τ → CodeType Σ Γ b τ → CodeType Σ Γ (or a b) τ
  t_xor : {Γ : List Ty} {a b : Code} {τ : Ty} → CodeType Σ Γ a τ → CodeType Σ Γ b τ → CodeType Σ Γ (xor a b) τ
  t_view : {Γ : List Ty} {e : Exp} {τ : Ty} → HasType Σ Γ e τ → CodeType Σ Γ (view e) τ
  t_gate : {Γ : List Ty} {r n : ℕ} {b : Code} {τ : Ty} → CodeType Σ Γ b τ → CodeType Σ Γ (gate r n b) τ
  t_if_task : {Γ : List Ty} {e : Exp} {a b : Code} {τ : Ty}
      → HasType Σ Γ e truth → CodeType Σ Γ a τ → CodeType Σ Γ b τ → CodeType Σ Γ (if e a b) τ
  t_let_task : {Γ : List Ty} {e : Exp} {b : Code} {τ υ : Ty}
      → HasType Σ Γ e τ → CodeType Σ (τ ∷ Γ) b υ → CodeType Σ Γ (let' e b) υ

-- values, and lists of values: stores and environments
pub data ValueType : Val → Ty → Type 0 where
  v_unit : ValueType vunit unit
  v_truth : {b : Bool} → ValueType (vtruth b) truth
  v_number : {n : ℤ} → IsWord n → ValueType (vnumber n) number
  v_pair : {v w : Val} {τ υ : Ty} → ValueType v τ → ValueType w υ → ValueType (vpair v w) (pair τ υ)

-- the one type that a value can have
unfoldable pub type_of : Val → Ty
type_of vunit = unit
type_of (vtruth b) = truth
type_of (vnumber n) = number
type_of (vpair v w) = pair (type_of v) (type_of w)

pub data ValueTypes : List Val → List Ty → Type 0 where
  v_nil : ValueTypes [] []
  v_cons : {v : Val} {τ : Ty} {vs : List Val} {τs : List Ty}
      → ValueType v τ → ValueTypes vs τs → ValueTypes (v ∷ vs) (τ ∷ τs)

-- CR 4: "A type may have 8 leaves"; of the cells' and the binders' types
pub data AllSmall : List Ty → Type 0 where
  small_nil : AllSmall []
  small_cons : {τ : Ty} {τs : List Ty} → leaves τ ≤ max_leaves → AllSmall τs → AllSmall (τ ∷ τs)

-- running tasks: the rules above with contents, values and sides in place (01, "A state's task is well typed when"), where
-- each content has its row's type and each value its binder's ("All contents have their row's type")
pub data TaskType (Σ : List Ty) : List Ty → (c : Code) → TaskOf c → Ty → Type 0 where
  k_filled : {Γ : List Ty} {e : Exp} {v : Val} {τ : Ty}
      → HasType Σ Γ e τ → ValueType v τ → TaskType Σ Γ (edit e) (filled v) τ
  k_blank : {Γ : List Ty} {τ : Ty} → leaves τ ≤ max_leaves → TaskType Σ Γ (enter τ) blank τ
  k_entered : {Γ : List Ty} {v : Val} {τ : Ty}
      → leaves τ ≤ max_leaves → ValueType v τ → TaskType Σ Γ (enter τ) (entered v) τ
  k_shared : {Γ : List Ty} {n : ℕ} {τ : Ty} → At Σ n τ → TaskType Σ Γ (update n) shared τ
  k_then_before : {Γ : List Ty} {a b : Code} {t : TaskOf a} {τ υ : Ty}
      → TaskType Σ Γ a t τ → CodeType Σ (τ ∷ Γ) b υ → TaskType Σ Γ (then a b) (before t) υ
  k_then_after : {Γ : List Ty} {a b : Code} {v : Val} {u : TaskOf b} {τ υ : Ty}
      → CodeType Σ Γ a τ → ValueType v τ → TaskType Σ (τ ∷ Γ) b u υ → TaskType Σ Γ (then a b) (after v u) υ
  k_next_before : {Γ : List Ty} {a b : Code} {t : TaskOf a} {τ υ : Ty}
      → TaskType Σ Γ a t τ → CodeType Σ (τ ∷ Γ) b υ → TaskType Σ Γ (next a b) (before t) υ
  k_next_after : {Γ : List Ty} {a b : Code} {v : Val} {u : TaskOf b} {τ υ : Ty}
      → CodeType Σ Γ a τ → ValueType v τ → TaskType Σ (τ ∷ Γ) b u υ → TaskType Σ Γ (next a b) (after v u) υ
  k_failed : {Γ : List Ty} {τ : Ty} → leaves τ ≤ max_leaves → TaskType Σ Γ (fail τ) failed τ
  k_both : {Γ : List Ty} {a b : Code} {t : TaskOf a} {u : TaskOf b} {τ υ : Ty}
      → TaskType Σ Γ a t τ → TaskType Σ Γ b u υ → leaves (pair τ υ) ≤ max_leaves → TaskType Σ Γ (and a b) (both t u) (pair τ υ)
  k_either : {Γ : List Ty} {a b : Code} {t : TaskOf a} {u : TaskOf b} {τ : Ty}
      → TaskType Σ Γ a t τ → TaskType Σ Γ b u τ → TaskType Σ Γ (or a b) (either t u) τ
  k_or_left : {Γ : List Ty} {a b : Code} {t : TaskOf a} {τ : Ty}
      → TaskType Σ Γ a t τ → CodeType Σ Γ b τ → TaskType Σ Γ (or a b) (or_left t) τ
  k_or_right : {Γ : List Ty} {a b : Code} {u : TaskOf b} {τ : Ty}
      → CodeType Σ Γ a τ → TaskType Σ Γ b u τ → TaskType Σ Γ (or a b) (or_right u) τ
  k_unpicked : {Γ : List Ty} {a b : Code} {τ : Ty}
      → CodeType Σ Γ a τ → CodeType Σ Γ b τ → TaskType Σ Γ (xor a b) unpicked τ
  k_picked_left : {Γ : List Ty} {a b : Code} {t : TaskOf a} {τ : Ty}
      → TaskType Σ Γ a t τ → CodeType Σ Γ b τ → TaskType Σ Γ (xor a b) (picked_left t) τ
  k_picked_right : {Γ : List Ty} {a b : Code} {u : TaskOf b} {τ : Ty}
      → CodeType Σ Γ a τ → TaskType Σ Γ b u τ → TaskType Σ Γ (xor a b) (picked_right u) τ
  k_viewed : {Γ : List Ty} {e : Exp} {v : Val} {τ : Ty}
      → HasType Σ Γ e τ → ValueType v τ → TaskType Σ Γ (view e) (filled v) τ
  -- CR 6: "the touches left, 0 to C"
  k_gated : {Γ : List Ty} {r n k : ℕ} {b : Code} {u : TaskOf b} {τ : Ty}
      → k ≤ n → TaskType Σ Γ b u τ → TaskType Σ Γ (gate r n b) (gated k u) τ
  k_if_true : {Γ : List Ty} {e : Exp} {a b : Code} {t : TaskOf a} {τ : Ty}
      → HasType Σ Γ e truth → TaskType Σ Γ a t τ → CodeType Σ Γ b τ → TaskType Σ Γ (if e a b) (if_true t) τ
  k_if_false : {Γ : List Ty} {e : Exp} {a b : Code} {u : TaskOf b} {τ : Ty}
      → HasType Σ Γ e truth → CodeType Σ Γ a τ → TaskType Σ Γ b u τ → TaskType Σ Γ (if e a b) (if_false u) τ
  k_bound : {Γ : List Ty} {e : Exp} {b : Code} {v : Val} {u : TaskOf b} {τ υ : Ty}
      → HasType Σ Γ e τ → ValueType v τ → TaskType Σ (τ ∷ Γ) b u υ → TaskType Σ Γ (let' e b) (bound v u) υ
