-- The view of a row that hands on: its task wraps a task of its part, and what the calculus' functions give of the one they give of
-- the other, under one more binder where the row binds. Ten forms, one record; and the laws of the engine's functions at such a
-- row. Rests on specs/Hands, and on the frames and sites of crate state.
use mathlib.Core.Path.{◌≡◌, refl, sym, ◌∙◌}
use mathlib.Core.Logic.{inl, inr}
use mathlib.Core.Option.{Option, none, some}
use mathlib.Core.List.{List, ◌∷◌}
use Prim.Native.Nat.{ℕ, ◌+◌, ◌<◌, ◌≤◌}
use native.Mathlib.Omega.{arith}
use Rattle.tophat.specs.Syntax.{max_leaves, Ty, leaves, Exp, Code, then, next, or, xor, gate, if, let', Val, Env, Store}
use Rattle.tophat.specs.Syntax.{TaskOf, before, after, either, or_left, or_right, unpicked, picked_left, picked_right, gated, if_true, if_false, bound}
use Rattle.tophat.specs.Typing.{ValueType, ValueTypes, v_cons, AllSmall, small_cons}
use Rattle.tophat.specs.Typing.{TaskType, k_then_after, k_next_after, k_or_left, k_or_right, k_picked_left, k_picked_right, k_gated, k_if_true, k_if_false, k_bound}
use Rattle.tophat.specs.Normalising.{Became, b_then, b_next, b_or_left, b_or_right, b_xor_left, b_xor_right, b_if_true, b_if_false, b_let, Wraps, w_became, w_gate}
use Rattle.tophat.proofs.TypeLeaves.{type_leaves, task_type_leaves}
use Rattle.rows.specs.Kinds.{either_k, if_k, let_k, task_k, then_k, next_k, or_k, xor_k, gate_k, number_of}
use Rattle.rows.specs.Rows.{word}
use Rattle.rows.specs.Enclosing.{max_binders}
use Rattle.value.specs.Values.{as_value}
use Rattle.state.specs.Layout.{at, one, other, value_words}
use Rattle.state.specs.Holds.{Tree, Sits, Row, Clear, Holds, Same, Ran}
use Rattle.state.specs.Words.{value_at}
use Rattle.state.proofs.Words.{value_at_lem}
use Rattle.state.proofs.Frames.{same_weak, same_row, keeps, clear_kept, Reach, Kids, kids_then, kids_next, kids_or, kids_xor, kids_if, kid_let, kid_gate}
use Rattle.state.proofs.Sites.{on_code}
use Rattle.running.specs.Hands.{HandsOn, hands_if_true, hands_if_false, let_bound, then_after, next_after, hands_or_left, hands_or_right, xor_left, xor_right, gate_on, Binds}

-- ---- around a part: the value that the row binds, if it binds one

abbrev pub inside : Option Val → Env → Env
inside none ρ = ρ
inside (some v) ρ = v ∷ ρ

abbrev pub deeper : Option Val → ℕ → ℕ
deeper none d = d
deeper (some v) d = d + 1

-- a row of kind n, under d binders, binds it
abbrev pub Pushes : ℕ → ℕ → Option Val → Type 0
Pushes n d none = Binds n → ⊥
Pushes n d (some v) = Binds n × (d < max_binders)

-- row i holds it
abbrev pub Reads : List ℕ → ℕ → Option Val → Type 0
Reads ws i none = Unit {0}
Reads ws i (some v) = value_at ws i ≡ as_value v

-- ---- types: of the part's task under the types of the binders around it, and back

pub record Inner (ws : List ℕ) (i : ℕ) (o : Option Val) (Σ Γ : List Ty) (c part : Code) (wrap : TaskOf part → TaskOf c) (u : TaskOf part) (τ : Ty) : Type 0 where
  pub types : List Ty
  pub typed : TaskType Σ types part u τ
  pub back : (u₁ : TaskOf part) → TaskType Σ types part u₁ τ → TaskType Σ Γ c (wrap u₁) τ
  pub values : (ρ : Env) → ValueTypes ρ Γ → ValueTypes (inside o ρ) types
  pub small : AllSmall Σ → AllSmall Γ → AllSmall types
  pub reads : AllSmall Σ → AllSmall Γ → Reads ws i o

module _ {ws : List ℕ} {i : ℕ} {Σ Γ : List Ty} {c part : Code} {wrap : TaskOf part → TaskOf c} {u : TaskOf part} {τ : Ty} where
  plain : TaskType Σ Γ part u τ → ((u₁ : TaskOf part) → TaskType Σ Γ part u₁ τ → TaskType Σ Γ c (wrap u₁) τ) → Inner ws i none Σ Γ c part wrap u τ
  plain d f = record { types = Γ; typed = d; back = f; values = λ ρ h. h; small = λ g h. h; reads = λ g h. tt }

  under_binder : {υ : Ty} {v : Val} → TaskType Σ (υ ∷ Γ) part u τ → ((u₁ : TaskOf part) → TaskType Σ (υ ∷ Γ) part u₁ τ → TaskType Σ Γ c (wrap u₁) τ)
      → ValueType v υ → (AllSmall Σ → AllSmall Γ → leaves υ ≤ max_leaves) → Row ws i (one ∷ value_words v) → Inner ws i (some v) Σ Γ c part wrap u τ
  under_binder {υ} d f k l r = record {
    types = υ ∷ Γ;
    typed = d;
    back = f;
    values = λ ρ h. v_cons k h;
    small = λ g h. small_cons (l g h) h;
    reads = λ g h. value_at_lem r k (l g h);
  }

-- ---- the view: at row i, whose operand k names the part's row

pub record Hands (rs ws : List ℕ) (d i k : ℕ) (c : Code) (t : TaskOf c) : Type 0 where
  pub part : Code
  pub task : TaskOf part
  pub wrap : TaskOf part → TaskOf c
  pub is : t ≡ wrap task
  pub binder : Option Val
  pub pushes : Pushes (word rs i 0) d binder
  pub sits : Sits rs (deeper binder d) (word rs i k) part
  pub holds : Holds rs ws (word rs i k) part task
  pub inner : {Σ Γ : List Ty} {τ : Ty} → TaskType Σ Γ c t τ → Inner ws i binder Σ Γ c part wrap task τ
  pub ran : {ws₁ : List ℕ} (u : TaskOf part) (s : Store) → Ran rs ws ws₁ (word rs i k) part u s → Ran rs ws ws₁ i c (wrap u) s
  pub wraps : {ρ : Env} → Wraps c ρ part (inside binder ρ) wrap
  pub became : (word rs i 0 ≡ number_of (task_k gate_k) → ⊥) → {ρ : Env} → Became c ρ part (inside binder ρ) wrap

-- ---- its ten instances

tag_of : {ws : List ℕ} {i x y : ℕ} {xs : List ℕ} → at ws i 0 ≡ x → Row ws i (y ∷ xs) → x ≡ y
tag_of e r = sym e ∙ r.words 0 (omega arith)

module _ {rs ws : List ℕ} {i : ℕ} {xs : List ℕ} where
  -- the row and the other part are as they were after the left, or the right, part has run
  module _ {k l : ℕ} {x y : Tree} (o : Kids rs i k x l y) (r : Row ws i xs) where
    beside_left : {ws₁ : List ℕ} → Clear rs ws (word rs i l) y → Same (Reach rs (word rs i k) x) ws ws₁ → Row ws₁ i xs × Clear rs ws₁ (word rs i l) y
    beside_left h q = (same_row q o.i_a r, clear_kept h (keeps o.a_b q))

    beside_right : {ws₁ : List ℕ} → Clear rs ws (word rs i k) x → Same (Reach rs (word rs i l) y) ws ws₁ → Row ws₁ i xs × Clear rs ws₁ (word rs i k) x
    beside_right h q = (same_row q o.i_b r, clear_kept h (keeps o.b_a q))

-- a row of none of the kinds that bind binds nothing
no_binder : {m n : ℕ} → m ≡ n → (n ≡ number_of (either_k let_k) → ⊥) → (n ≡ number_of (task_k then_k) → ⊥) → (n ≡ number_of (task_k next_k) → ⊥) → Binds m → ⊥
no_binder q x y z (inl e) = x (sym q ∙ e)
no_binder q x y z (inr (inl e)) = y (sym q ∙ e)
no_binder q x y z (inr (inr e)) = z (sym q ∙ e)

then_hands : {rs ws : List ℕ} {d i : ℕ} (a b : Code) → at ws i 0 ≡ one → Sits rs d i (then a b) → (t : TaskOf (then a b)) → Holds rs ws i (then a b) t → Hands rs ws d i 2 (then a b) t
then_hands a b e z (before t) h = absurd (let n = tag_of e h.0 in omega arith)
then_hands {rs} {ws} {d} {i} a b e z (after v u) h = record {
  part = b;
  task = u;
  wrap = after v;
  is = refl;
  binder = some v;
  pushes = (inr (inl z.0), z.4);
  sits = z.2;
  holds = h.2;
  inner = typed;
  ran = λ u s q. let k = kids_then rs d i a b z in let p = beside_right k h.0 h.1 q.same in record { holds = (p.0, p.1, q.holds); stores = q.stores; same = same_weak k.up_b q.same };
  wraps = w_became b_then;
  became = λ o. b_then;
}
  where
    typed : {Σ Γ : List Ty} {τ : Ty} → TaskType Σ Γ (then a b) (after v u) τ → Inner ws i (some v) Σ Γ (then a b) b (after v) u τ
    typed (k_then_after d k f) = under_binder f (λ u₁ g. k_then_after d k g) k (λ g h. task_type_leaves d g h) h.0

next_hands : {rs ws : List ℕ} {d i : ℕ} (a b : Code) → at ws i 0 ≡ one → Sits rs d i (next a b) → (t : TaskOf (next a b)) → Holds rs ws i (next a b) t → Hands rs ws d i 2 (next a b) t
next_hands a b e z (before t) h = absurd (let n = tag_of e h.0 in omega arith)
next_hands {rs} {ws} {d} {i} a b e z (after v u) h = record {
  part = b;
  task = u;
  wrap = after v;
  is = refl;
  binder = some v;
  pushes = (inr (inr z.0), z.4);
  sits = z.2;
  holds = h.2;
  inner = typed;
  ran = λ u s q. let k = kids_next rs d i a b z in let p = beside_right k h.0 h.1 q.same in record { holds = (p.0, p.1, q.holds); stores = q.stores; same = same_weak k.up_b q.same };
  wraps = w_became b_next;
  became = λ o. b_next;
}
  where
    typed : {Σ Γ : List Ty} {τ : Ty} → TaskType Σ Γ (next a b) (after v u) τ → Inner ws i (some v) Σ Γ (next a b) b (after v) u τ
    typed (k_next_after d k f) = under_binder f (λ u₁ g. k_next_after d k g) k (λ g h. task_type_leaves d g h) h.0

or_left_hands : {rs ws : List ℕ} {d i : ℕ} (a b : Code) → at ws i 0 ≡ one → Sits rs d i (or a b) → (t : TaskOf (or a b)) → Holds rs ws i (or a b) t → Hands rs ws d i 1 (or a b) t
or_left_hands a b e z (either t u) h = absurd (let n = tag_of e h.0 in omega arith)
or_left_hands a b e z (or_right u) h = absurd (let n = tag_of e h.0 in omega arith)
or_left_hands {rs} {ws} {d} {i} a b e z (or_left t) h = record {
  part = a;
  task = t;
  wrap = or_left;
  is = refl;
  binder = none;
  pushes = no_binder z.0 (λ e. omega arith) (λ e. omega arith) (λ e. omega arith);
  sits = z.1;
  holds = h.1;
  inner = typed;
  ran = λ u s q. let k = kids_or rs d i a b z in let p = beside_left k h.0 h.2 q.same in record { holds = (p.0, q.holds, p.1); stores = q.stores; same = same_weak k.up_a q.same };
  wraps = w_became b_or_left;
  became = λ o. b_or_left;
}
  where
    typed : {Σ Γ : List Ty} {τ : Ty} → TaskType Σ Γ (or a b) (or_left t) τ → Inner ws i none Σ Γ (or a b) a or_left t τ
    typed (k_or_left d e) = plain d (λ u₁ g. k_or_left g e)

or_right_hands : {rs ws : List ℕ} {d i : ℕ} (a b : Code) → at ws i 0 ≡ other → Sits rs d i (or a b) → (t : TaskOf (or a b)) → Holds rs ws i (or a b) t → Hands rs ws d i 2 (or a b) t
or_right_hands a b e z (either t u) h = absurd (let n = tag_of e h.0 in omega arith)
or_right_hands a b e z (or_left t) h = absurd (let n = tag_of e h.0 in omega arith)
or_right_hands {rs} {ws} {d} {i} a b e z (or_right u) h = record {
  part = b;
  task = u;
  wrap = or_right;
  is = refl;
  binder = none;
  pushes = no_binder z.0 (λ e. omega arith) (λ e. omega arith) (λ e. omega arith);
  sits = z.2;
  holds = h.2;
  inner = typed;
  ran = λ u s q. let k = kids_or rs d i a b z in let p = beside_right k h.0 h.1 q.same in record { holds = (p.0, p.1, q.holds); stores = q.stores; same = same_weak k.up_b q.same };
  wraps = w_became b_or_right;
  became = λ o. b_or_right;
}
  where
    typed : {Σ Γ : List Ty} {τ : Ty} → TaskType Σ Γ (or a b) (or_right u) τ → Inner ws i none Σ Γ (or a b) b or_right u τ
    typed (k_or_right d e) = plain e (λ u₁ g. k_or_right d g)

xor_left_hands : {rs ws : List ℕ} {d i : ℕ} (a b : Code) → at ws i 0 ≡ one → Sits rs d i (xor a b) → (t : TaskOf (xor a b)) → Holds rs ws i (xor a b) t → Hands rs ws d i 1 (xor a b) t
xor_left_hands a b e z unpicked h = absurd (let n = tag_of e h.0 in omega arith)
xor_left_hands a b e z (picked_right u) h = absurd (let n = tag_of e h.0 in omega arith)
xor_left_hands {rs} {ws} {d} {i} a b e z (picked_left t) h = record {
  part = a;
  task = t;
  wrap = picked_left;
  is = refl;
  binder = none;
  pushes = no_binder z.0 (λ e. omega arith) (λ e. omega arith) (λ e. omega arith);
  sits = z.1;
  holds = h.1;
  inner = typed;
  ran = λ u s q. let k = kids_xor rs d i a b z in let p = beside_left k h.0 h.2 q.same in record { holds = (p.0, q.holds, p.1); stores = q.stores; same = same_weak k.up_a q.same };
  wraps = w_became b_xor_left;
  became = λ o. b_xor_left;
}
  where
    typed : {Σ Γ : List Ty} {τ : Ty} → TaskType Σ Γ (xor a b) (picked_left t) τ → Inner ws i none Σ Γ (xor a b) a picked_left t τ
    typed (k_picked_left d e) = plain d (λ u₁ g. k_picked_left g e)

xor_right_hands : {rs ws : List ℕ} {d i : ℕ} (a b : Code) → at ws i 0 ≡ other → Sits rs d i (xor a b) → (t : TaskOf (xor a b)) → Holds rs ws i (xor a b) t → Hands rs ws d i 2 (xor a b) t
xor_right_hands a b e z unpicked h = absurd (let n = tag_of e h.0 in omega arith)
xor_right_hands a b e z (picked_left t) h = absurd (let n = tag_of e h.0 in omega arith)
xor_right_hands {rs} {ws} {d} {i} a b e z (picked_right u) h = record {
  part = b;
  task = u;
  wrap = picked_right;
  is = refl;
  binder = none;
  pushes = no_binder z.0 (λ e. omega arith) (λ e. omega arith) (λ e. omega arith);
  sits = z.2;
  holds = h.2;
  inner = typed;
  ran = λ u s q. let k = kids_xor rs d i a b z in let p = beside_right k h.0 h.1 q.same in record { holds = (p.0, p.1, q.holds); stores = q.stores; same = same_weak k.up_b q.same };
  wraps = w_became b_xor_right;
  became = λ o. b_xor_right;
}
  where
    typed : {Σ Γ : List Ty} {τ : Ty} → TaskType Σ Γ (xor a b) (picked_right u) τ → Inner ws i none Σ Γ (xor a b) b picked_right u τ
    typed (k_picked_right d e) = plain e (λ u₁ g. k_picked_right d g)

if_true_hands : {rs ws : List ℕ} {d i : ℕ} (x : Exp) (a b : Code) → at ws i 0 ≡ one → Sits rs d i (if x a b) → (t : TaskOf (if x a b)) → Holds rs ws i (if x a b) t → Hands rs ws d i 2 (if x a b) t
if_true_hands x a b e z (if_false u) h = absurd (let n = tag_of e h.0 in omega arith)
if_true_hands {rs} {ws} {d} {i} x a b e z (if_true t) h = record {
  part = a;
  task = t;
  wrap = if_true;
  is = refl;
  binder = none;
  pushes = no_binder z.0 (λ e. omega arith) (λ e. omega arith) (λ e. omega arith);
  sits = z.2;
  holds = h.1;
  inner = typed;
  ran = λ u s q. let k = kids_if rs d i x a b z in let p = beside_left k h.0 h.2 q.same in record { holds = (p.0, q.holds, p.1); stores = q.stores; same = same_weak k.up_a q.same };
  wraps = w_became b_if_true;
  became = λ o. b_if_true;
}
  where
    typed : {Σ Γ : List Ty} {τ : Ty} → TaskType Σ Γ (if x a b) (if_true t) τ → Inner ws i none Σ Γ (if x a b) a if_true t τ
    typed (k_if_true f d e) = plain d (λ u₁ g. k_if_true f g e)

if_false_hands : {rs ws : List ℕ} {d i : ℕ} (x : Exp) (a b : Code) → at ws i 0 ≡ other → Sits rs d i (if x a b) → (t : TaskOf (if x a b)) → Holds rs ws i (if x a b) t → Hands rs ws d i 3 (if x a b) t
if_false_hands x a b e z (if_true t) h = absurd (let n = tag_of e h.0 in omega arith)
if_false_hands {rs} {ws} {d} {i} x a b e z (if_false u) h = record {
  part = b;
  task = u;
  wrap = if_false;
  is = refl;
  binder = none;
  pushes = no_binder z.0 (λ e. omega arith) (λ e. omega arith) (λ e. omega arith);
  sits = z.3;
  holds = h.2;
  inner = typed;
  ran = λ u s q. let k = kids_if rs d i x a b z in let p = beside_right k h.0 h.1 q.same in record { holds = (p.0, p.1, q.holds); stores = q.stores; same = same_weak k.up_b q.same };
  wraps = w_became b_if_false;
  became = λ o. b_if_false;
}
  where
    typed : {Σ Γ : List Ty} {τ : Ty} → TaskType Σ Γ (if x a b) (if_false u) τ → Inner ws i none Σ Γ (if x a b) b if_false u τ
    typed (k_if_false f d e) = plain e (λ u₁ g. k_if_false f d g)

let_hands : {rs ws : List ℕ} {d i : ℕ} (x : Exp) (b : Code) → at ws i 0 ≡ one → Sits rs d i (let' x b) → (t : TaskOf (let' x b)) → Holds rs ws i (let' x b) t → Hands rs ws d i 2 (let' x b) t
let_hands {rs} {ws} {d} {i} x b e z (bound v u) h = record {
  part = b;
  task = u;
  wrap = bound v;
  is = refl;
  binder = some v;
  pushes = (inl z.0, z.4);
  sits = z.2;
  holds = h.1;
  inner = typed;
  ran = λ u s q. let k = kid_let rs d i x b z in record { holds = (same_row q.same k.out h.0, q.holds); stores = q.stores; same = same_weak k.up_b q.same };
  wraps = w_became b_let;
  became = λ o. b_let;
}
  where
    typed : {Σ Γ : List Ty} {τ : Ty} → TaskType Σ Γ (let' x b) (bound v u) τ → Inner ws i (some v) Σ Γ (let' x b) b (bound v) u τ
    typed (k_bound d k f) = under_binder f (λ u₁ g. k_bound d k g) k (λ g h. type_leaves d g h) h.0

gate_hands : {rs ws : List ℕ} {d i : ℕ} (r n : ℕ) (b : Code) → Sits rs d i (gate r n b) → (t : TaskOf (gate r n b)) → Holds rs ws i (gate r n b) t → Hands rs ws d i 2 (gate r n b) t
gate_hands {rs} {ws} {d} {i} r n b z (gated m u) h = record {
  part = b;
  task = u;
  wrap = gated m;
  is = refl;
  binder = none;
  pushes = no_binder z.0 (λ e. omega arith) (λ e. omega arith) (λ e. omega arith);
  sits = z.3;
  holds = h.1;
  inner = typed;
  ran = λ u s q. let k = kid_gate rs d i r n b z in record { holds = (same_row q.same k.out h.0, q.holds); stores = q.stores; same = same_weak k.up_b q.same };
  wraps = w_gate;
  became = λ o. absurd (o z.0);
}
  where
    typed : {Σ Γ : List Ty} {τ : Ty} → TaskType Σ Γ (gate r n b) (gated m u) τ → Inner ws i none Σ Γ (gate r n b) b (gated m) u τ
    typed (k_gated l d) = plain d (λ u₁ g. k_gated l g)

-- the view of any such row
hands_by : (rs ws : List ℕ) (d i : ℕ) {n x k : ℕ} → HandsOn n x k → word rs i 0 ≡ n → at ws i 0 ≡ x → (c : Code) → Sits rs d i c → (t : TaskOf c) → Holds rs ws i c t → Hands rs ws d i k c t
hands_by rs ws d i hands_if_true q e = on_code rs d i (either_k if_k) _ q (λ x a b z. if_true_hands x a b e z)
hands_by rs ws d i hands_if_false q e = on_code rs d i (either_k if_k) _ q (λ x a b z. if_false_hands x a b e z)
hands_by rs ws d i let_bound q e = on_code rs d i (either_k let_k) _ q (λ x b z. let_hands x b e z)
hands_by rs ws d i then_after q e = on_code rs d i (task_k then_k) _ q (λ a b z. then_hands a b e z)
hands_by rs ws d i next_after q e = on_code rs d i (task_k next_k) _ q (λ a b z. next_hands a b e z)
hands_by rs ws d i hands_or_left q e = on_code rs d i (task_k or_k) _ q (λ a b z. or_left_hands a b e z)
hands_by rs ws d i hands_or_right q e = on_code rs d i (task_k or_k) _ q (λ a b z. or_right_hands a b e z)
hands_by rs ws d i xor_left q e = on_code rs d i (task_k xor_k) _ q (λ a b z. xor_left_hands a b e z)
hands_by rs ws d i xor_right q e = on_code rs d i (task_k xor_k) _ q (λ a b z. xor_right_hands a b e z)
hands_by rs ws d i gate_on q e = on_code rs d i (task_k gate_k) _ q (λ r n b z. gate_hands r n b z)

pub hands : (rs ws : List ℕ) (d i : ℕ) {k : ℕ} → HandsOn (word rs i 0) (at ws i 0) k → (c : Code) → Sits rs d i c → (t : TaskOf c) → Holds rs ws i c t → Hands rs ws d i k c t
hands rs ws d i h = hands_by rs ws d i h refl refl
