-- Evaluation rules (the paper's appendix; 01, "The rules"): of plain expressions and of tasks as a sheet has them, left to
-- right, carrying the store. Where a sum, difference or product leaves the words (CR 3), no value is derived: `Overflows` and
-- `OverflowsTask` say so of the whole expression. Rests on Syntax and on Typing's At.
-- Believed.
use Rattle.std.specs.Prelude.{Bool, true, false, ◌&&◌, ◌||◌, ◌∷◌, ℕ, ℤ, ◌+ℤ◌, ◌-ℤ◌, ◌*ℤ◌, set}
use Rattle.std.specs.Int.Signed.{lt_z, le_z}
use Rattle.word.specs.Word.{IsWord, eq_z}
use Rattle.tophat.specs.Syntax.{Ty, Op, sum, difference, product, less, less_equal, equal, and_op, or_op, Env, Store}
use Rattle.tophat.specs.Syntax.{Exp, eunit, etruth, enumber, ebinder, eop, eif, epair, efst, esnd, ederef, eassign, elet}
use Rattle.tophat.specs.Syntax.{Code, edit, enter, update, then, next, fail, and, or, xor, view, gate, if, let', Val, vunit, vtruth, vnumber, vpair}
use Rattle.tophat.specs.Syntax.{TaskOf, filled, blank, shared, before, failed, both, either, unpicked, gated, if_true, if_false, bound}
use Rattle.tophat.specs.Typing.{At}

-- operators 1 to 3: the exact result, which need not be a word
pub data Reckons : Op → ℤ → ℤ → ℤ → Type 0 where
  sums : {x y : ℤ} → Reckons sum x y (x +ℤ y)
  differs : {x y : ℤ} → Reckons difference x y (x -ℤ y)
  multiplies : {x y : ℤ} → Reckons product x y (x *ℤ y)

-- operators on values
pub data Applies : Op → Val → Val → Val → Type 0 where
  a_reckon : {o : Op} {x y z : ℤ} → Reckons o x y z → IsWord z → Applies o (vnumber x) (vnumber y) (vnumber z)
  a_less : {x y : ℤ} → Applies less (vnumber x) (vnumber y) (vtruth (lt_z x y))
  a_less_equal : {x y : ℤ} → Applies less_equal (vnumber x) (vnumber y) (vtruth (le_z x y))
  a_equal : {x y : ℤ} → Applies equal (vnumber x) (vnumber y) (vtruth (eq_z x y))
  a_and : {x y : Bool} → Applies and_op (vtruth x) (vtruth y) (vtruth (x && y))
  a_or : {x y : Bool} → Applies or_op (vtruth x) (vtruth y) (vtruth (x || y))

-- CR 3: "a sum, difference or product leaves the signed 32 bits"
pub data Exceeds : Op → Val → Val → Type 0 where
  x_reckon : {o : Op} {x y z : ℤ} → Reckons o x y z → ¬ IsWord z → Exceeds o (vnumber x) (vnumber y)

-- `Evaluates ρ s e v s₁` is the paper's e, s ↓ v, s₁, with the values of e's binders in ρ
pub data Evaluates : Env → Store → Exp → Val → Store → Type 0 where
  e_unit : {ρ : Env} {s : Store} → Evaluates ρ s eunit vunit s
  e_truth : {ρ : Env} {s : Store} {b : Bool} → Evaluates ρ s (etruth b) (vtruth b) s
  e_number : {ρ : Env} {s : Store} {n : ℤ} → Evaluates ρ s (enumber n) (vnumber n) s
  e_var : {ρ : Env} {s : Store} {i : ℕ} {v : Val} → At ρ i v → Evaluates ρ s (ebinder i) v s
  e_op : {ρ : Env} {s s₁ s₂ : Store} {o : Op} {a b : Exp} {v w x : Val}
      → Evaluates ρ s a v s₁ → Evaluates ρ s₁ b w s₂ → Applies o v w x → Evaluates ρ s (eop o a b) x s₂
  e_if_true : {ρ : Env} {s s₁ s₂ : Store} {e a b : Exp} {v : Val}
      → Evaluates ρ s e (vtruth true) s₁ → Evaluates ρ s₁ a v s₂ → Evaluates ρ s (eif e a b) v s₂
  e_if_false : {ρ : Env} {s s₁ s₂ : Store} {e a b : Exp} {v : Val}
      → Evaluates ρ s e (vtruth false) s₁ → Evaluates ρ s₁ b v s₂ → Evaluates ρ s (eif e a b) v s₂
  e_pair : {ρ : Env} {s s₁ s₂ : Store} {a b : Exp} {v w : Val}
      → Evaluates ρ s a v s₁ → Evaluates ρ s₁ b w s₂ → Evaluates ρ s (epair a b) (vpair v w) s₂
  e_fst : {ρ : Env} {s s₁ : Store} {a : Exp} {v w : Val}
      → Evaluates ρ s a (vpair v w) s₁ → Evaluates ρ s (efst a) v s₁
  e_snd : {ρ : Env} {s s₁ : Store} {a : Exp} {v w : Val}
      → Evaluates ρ s a (vpair v w) s₁ → Evaluates ρ s (esnd a) w s₁
  e_deref : {ρ : Env} {s : Store} {n : ℕ} {v : Val} → At s n v → Evaluates ρ s (ederef n) v s
  e_assign : {ρ : Env} {s s₁ : Store} {n : ℕ} {a : Exp} {v : Val}
      → Evaluates ρ s a v s₁ → Evaluates ρ s (eassign n a) vunit (set s₁ n v)
  -- the paper's E-App: let x = a in b is (λ x. b) a
  e_let : {ρ : Env} {s s₁ s₂ : Store} {a b : Exp} {v w : Val}
      → Evaluates ρ s a v s₁ → Evaluates (v ∷ ρ) s₁ b w s₂ → Evaluates ρ s (elet a b) w s₂

-- `Overflows ρ s e`: evaluating e from s comes to an operator whose result is no word (CR 3)
pub data Overflows : Env → Store → Exp → Type 0 where
  o_op : {ρ : Env} {s s₁ s₂ : Store} {o : Op} {a b : Exp} {v w : Val} → Evaluates ρ s a v s₁ → Evaluates ρ s₁ b w s₂ → Exceeds o v w → Overflows ρ s (eop o a b)
  o_op_left : {ρ : Env} {s : Store} {o : Op} {a b : Exp} → Overflows ρ s a → Overflows ρ s (eop o a b)
  o_op_right : {ρ : Env} {s s₁ : Store} {o : Op} {a b : Exp} {v : Val} → Evaluates ρ s a v s₁ → Overflows ρ s₁ b → Overflows ρ s (eop o a b)
  o_if : {ρ : Env} {s : Store} {e a b : Exp} → Overflows ρ s e → Overflows ρ s (eif e a b)
  o_if_true : {ρ : Env} {s s₁ : Store} {e a b : Exp} → Evaluates ρ s e (vtruth true) s₁ → Overflows ρ s₁ a → Overflows ρ s (eif e a b)
  o_if_false : {ρ : Env} {s s₁ : Store} {e a b : Exp} → Evaluates ρ s e (vtruth false) s₁ → Overflows ρ s₁ b → Overflows ρ s (eif e a b)
  o_pair_left : {ρ : Env} {s : Store} {a b : Exp} → Overflows ρ s a → Overflows ρ s (epair a b)
  o_pair_right : {ρ : Env} {s s₁ : Store} {a b : Exp} {v : Val} → Evaluates ρ s a v s₁ → Overflows ρ s₁ b → Overflows ρ s (epair a b)
  o_fst : {ρ : Env} {s : Store} {a : Exp} → Overflows ρ s a → Overflows ρ s (efst a)
  o_snd : {ρ : Env} {s : Store} {a : Exp} → Overflows ρ s a → Overflows ρ s (esnd a)
  o_assign : {ρ : Env} {s : Store} {n : ℕ} {a : Exp} → Overflows ρ s a → Overflows ρ s (eassign n a)
  o_let : {ρ : Env} {s : Store} {a b : Exp} → Overflows ρ s a → Overflows ρ s (elet a b)
  o_let_body : {ρ : Env} {s s₁ : Store} {a b : Exp} {v : Val} → Evaluates ρ s a v s₁ → Overflows (v ∷ ρ) s₁ b → Overflows ρ s (elet a b)

-- tasks. 01: "Steps evaluate A only; 48 evaluates neither branch"
pub data EvaluatesTask : (c : Code) → Env → Store → TaskOf c → Store → Type 0 where
  e_edit : {ρ : Env} {s s₁ : Store} {e : Exp} {v : Val}
      → Evaluates ρ s e v s₁ → EvaluatesTask (edit e) ρ s (filled v) s₁
  e_enter : {ρ : Env} {s : Store} {τ : Ty} → EvaluatesTask (enter τ) ρ s blank s
  e_update : {ρ : Env} {s : Store} {n : ℕ} → EvaluatesTask (update n) ρ s shared s
  e_then : {ρ : Env} {s s₁ : Store} {a b : Code} {t : TaskOf a}
      → EvaluatesTask a ρ s t s₁ → EvaluatesTask (then a b) ρ s (before t) s₁
  e_next : {ρ : Env} {s s₁ : Store} {a b : Code} {t : TaskOf a}
      → EvaluatesTask a ρ s t s₁ → EvaluatesTask (next a b) ρ s (before t) s₁
  e_fail : {ρ : Env} {s : Store} {τ : Ty} → EvaluatesTask (fail τ) ρ s failed s
  e_and : {ρ : Env} {s s₁ s₂ : Store} {a b : Code} {t : TaskOf a} {u : TaskOf b}
      → EvaluatesTask a ρ s t s₁ → EvaluatesTask b ρ s₁ u s₂ → EvaluatesTask (and a b) ρ s (both t u) s₂
  e_or : {ρ : Env} {s s₁ s₂ : Store} {a b : Code} {t : TaskOf a} {u : TaskOf b}
      → EvaluatesTask a ρ s t s₁ → EvaluatesTask b ρ s₁ u s₂ → EvaluatesTask (or a b) ρ s (either t u) s₂
  e_xor : {ρ : Env} {s : Store} {a b : Code} → EvaluatesTask (xor a b) ρ s unpicked s
  e_view : {ρ : Env} {s s₁ : Store} {e : Exp} {v : Val}
      → Evaluates ρ s e v s₁ → EvaluatesTask (view e) ρ s (filled v) s₁
  -- CR 6: "C when the row is evaluated"
  e_gate : {ρ : Env} {s s₁ : Store} {r n : ℕ} {b : Code} {u : TaskOf b}
      → EvaluatesTask b ρ s u s₁ → EvaluatesTask (gate r n b) ρ s (gated n u) s₁
  e_if_true_task : {ρ : Env} {s s₁ s₂ : Store} {e : Exp} {a b : Code} {t : TaskOf a}
      → Evaluates ρ s e (vtruth true) s₁ → EvaluatesTask a ρ s₁ t s₂ → EvaluatesTask (if e a b) ρ s (if_true t) s₂
  e_if_false_task : {ρ : Env} {s s₁ s₂ : Store} {e : Exp} {a b : Code} {u : TaskOf b}
      → Evaluates ρ s e (vtruth false) s₁ → EvaluatesTask b ρ s₁ u s₂ → EvaluatesTask (if e a b) ρ s (if_false u) s₂
  e_let_task : {ρ : Env} {s s₁ s₂ : Store} {e : Exp} {b : Code} {v : Val} {u : TaskOf b}
      → Evaluates ρ s e v s₁ → EvaluatesTask b (v ∷ ρ) s₁ u s₂ → EvaluatesTask (let' e b) ρ s (bound v u) s₂

-- `OverflowsTask c ρ s`: evaluating c as a whole leaves the words, so that it evaluates as fail, with the store s (CR 3)
pub data OverflowsTask : Code → Env → Store → Type 0 where
  o_edit : {ρ : Env} {s : Store} {e : Exp} → Overflows ρ s e → OverflowsTask (edit e) ρ s
  o_view : {ρ : Env} {s : Store} {e : Exp} → Overflows ρ s e → OverflowsTask (view e) ρ s
  o_gate : {ρ : Env} {s : Store} {r n : ℕ} {b : Code} → OverflowsTask b ρ s → OverflowsTask (gate r n b) ρ s
  o_then : {ρ : Env} {s : Store} {a b : Code} → OverflowsTask a ρ s → OverflowsTask (then a b) ρ s
  o_next : {ρ : Env} {s : Store} {a b : Code} → OverflowsTask a ρ s → OverflowsTask (next a b) ρ s
  o_and_left : {ρ : Env} {s : Store} {a b : Code} → OverflowsTask a ρ s → OverflowsTask (and a b) ρ s
  o_and_right : {ρ : Env} {s s₁ : Store} {a b : Code} {t : TaskOf a} → EvaluatesTask a ρ s t s₁ → OverflowsTask b ρ s₁ → OverflowsTask (and a b) ρ s
  o_or_left : {ρ : Env} {s : Store} {a b : Code} → OverflowsTask a ρ s → OverflowsTask (or a b) ρ s
  o_or_right : {ρ : Env} {s s₁ : Store} {a b : Code} {t : TaskOf a} → EvaluatesTask a ρ s t s₁ → OverflowsTask b ρ s₁ → OverflowsTask (or a b) ρ s
  o_if_task : {ρ : Env} {s : Store} {e : Exp} {a b : Code} → Overflows ρ s e → OverflowsTask (if e a b) ρ s
  o_if_true_task : {ρ : Env} {s s₁ : Store} {e : Exp} {a b : Code} → Evaluates ρ s e (vtruth true) s₁ → OverflowsTask a ρ s₁ → OverflowsTask (if e a b) ρ s
  o_if_false_task : {ρ : Env} {s s₁ : Store} {e : Exp} {a b : Code} → Evaluates ρ s e (vtruth false) s₁ → OverflowsTask b ρ s₁ → OverflowsTask (if e a b) ρ s
  o_let_task : {ρ : Env} {s : Store} {e : Exp} {b : Code} → Overflows ρ s e → OverflowsTask (let' e b) ρ s
  o_let_task_body : {ρ : Env} {s s₁ : Store} {e : Exp} {b : Code} {v : Val} → Evaluates ρ s e v s₁ → OverflowsTask b (v ∷ ρ) s₁ → OverflowsTask (let' e b) ρ s
