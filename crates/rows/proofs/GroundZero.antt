-- Which ground rows get, by the rules: the one computed is derived, and no other. A flow's code, cells, first store and type are unique.
-- Rests on TreesAgree, CodeRead, Most and the calculus' typing.
use mathlib.Core.Path.{◌≡◌, refl, sym, ap, subst, ◌∙◌}
use mathlib.Core.Bool.{Bool, true, false}
use mathlib.Core.Option.{Option, none, some, bind}
use mathlib.Core.List.{List, []}
use Prim.Native.Nat.{ℕ, ◌-◌, ◌≤◌}
use native.Mathlib.Omega.{arith}
use borrow.Table.Steps.{cases}
use Rattle.tophat.specs.Syntax.{Ty, Code, Store}
use Rattle.tophat.proofs.Basics.{no_some}
use Rattle.tophat.proofs.ComputeTyping.{infer_task}
use Rattle.tophat.proofs.TypingAgrees.{infer_task_is, infer_task_sound, one_task_type}
use Rattle.rows.specs.Rows.{row_sorted}
use Rattle.rows.specs.Trees.{Flow}
use Rattle.rows.specs.ComputeTrees.{code_at, cell_types}
use Rattle.rows.specs.Ground.{WellFormed, Small, IsFlow, Untyped, RowsGround, rows_3, rows_4, rows_5, rows_6, rows_7, rows_0, flow_type, is_some, passes3, passes4, passes5, passes6, passes7, first_ground, ground_of_rows}
use Rattle.rows.proofs.Basics.{no, every_at}
use Rattle.rows.proofs.TreesAgree.{code_is, one_code, cells_are, one_cells}
use Rattle.rows.proofs.Exists.{Sorted, cells_exist}
use Rattle.rows.proofs.Most.{small_of, of_small}
use Rattle.rows.proofs.CodeRead.{none_some, code_read}

-- ---- a flow is unique

pub record SameFlow (c c₁ : Code) (Σ Σ₁ : List Ty) (s s₁ : Store) (τ τ₁ : Ty) : Type 0 where
  pub code : c ≡ c₁
  pub cells : Σ ≡ Σ₁
  pub store : s ≡ s₁
  pub type : τ ≡ τ₁

pub one_flow : {rs : List ℕ} {n : ℕ} {c c₁ : Code} {Σ Σ₁ : List Ty} {s s₁ : Store} {τ τ₁ : Ty} → Flow rs n c Σ s τ → Flow rs n c₁ Σ₁ s₁ τ₁ → SameFlow c c₁ Σ Σ₁ s s₁ τ τ₁
one_flow f g =
    let p = one_code f.code g.code in let q = one_cells f.cells g.cells in
    record { code = p; cells = q.0; store = q.1; type = one_task_type (rw (p, q.0) at f.typed) g.typed }

-- ---- what is computed of the last row

bind_some : {X Y : Type 0} (o : Option X) (f : X → Option Y) {y : Y} → bind o f ≡ some y → (x : X) × (o ≡ some x) × (f x ≡ some y)
unfolding bind
bind_some none f h = no_some h
bind_some (some x) f h = (x, refl, h)

bind_is : {X Y : Type 0} (o : Option X) (f : X → Option Y) {x : X} → o ≡ some x → bind o f ≡ f x
unfolding bind
bind_is o f e = rw e

some_of : {X : Type 0} (o : Option X) → is_some o ≡ true → (x : X) × (o ≡ some x)
unfolding is_some
some_of none h = no h
some_of (some x) h = (x, refl)

none_or_some : {X : Type 0} (o : Option X) → ((x : X) → o ≡ some x → ⊥) → is_some o ≡ false
unfolding is_some
none_or_some none h = refl
none_or_some (some x) h = absurd (h x refl)

is_none : {X : Type 0} (o : Option X) → is_some o ≡ false → o ≡ none
unfolding is_some
is_none none h = refl
is_none (some x) h = no (sym h)

-- ---- the first ground that holds

module _ (rs : List ℕ) (n : ℕ) where
  pub sorted_of : passes4 rs n ≡ true → Sorted rs n
  unfolding passes4
  sorted_of h = every_at n (λ i. row_sorted rs i) h

  small_at : passes4 rs n ≡ true → passes6 rs n ≡ true → Small rs n
  unfolding passes6
  small_at f h = small_of rs n (sorted_of f) h

  six_of : passes4 rs n ≡ true → Small rs n → passes6 rs n ≡ true
  unfolding passes6
  six_of f k = of_small rs n (sorted_of f) k

  module _ (l : 1 ≤ n) where
    pub flow_type_is : {c : Code} {Σ : List Ty} {s : Store} {τ : Ty} → Flow rs n c Σ s τ → flow_type rs n ≡ some τ
    unfolding flow_type
    flow_type_is {c = c} {τ = τ} f =
        let e = (cells_are f.cells).0 in
        bind_is (code_at rs n (n - 1)) (λ c. infer_task (cell_types rs n) [] c) (code_is f.code n (omega arith)) ∙ subst (λ Σ. infer_task Σ [] c ≡ some τ) e (infer_task_is f.typed)

    pub flow_of_type : passes4 rs n ≡ true → {τ : Ty} → flow_type rs n ≡ some τ → (c : Code) × (Σ : List Ty) × (s : Store) × Flow rs n c Σ s τ
    unfolding flow_type
    flow_of_type h e =
        let q = sorted_of h in
        let (c, x, y) = bind_some (code_at rs n (n - 1)) (λ c. infer_task (cell_types rs n) [] c) e in
        let (Σ, s, d) = cells_exist rs n q in
        let p = (cells_are d).0 in
        (c, Σ, s, record { code = code_read rs n (n - 1) n c q (omega arith) (omega arith) x; cells = d; typed = infer_task_sound Σ [] c (rw p y) })

    -- the last row has a type exactly where the rows are a flow
    seven_flow : passes4 rs n ≡ true → passes7 rs n ≡ true → IsFlow rs n
    unfolding passes7
    seven_flow f h =
        let (τ, t) = some_of (flow_type rs n) h in
        let (c, Σ, s, k) = flow_of_type f t in
        record { code = c; cells = Σ; store = s; type = τ; flow = k }

    flow_seven : IsFlow rs n → passes7 rs n ≡ true
    unfolding passes7 is_some
    flow_seven f = ap is_some (flow_type_is f.flow)

    seven_untyped : passes7 rs n ≡ false → Untyped rs n
    unfolding passes7
    seven_untyped h c r Σ s d τ k = none_some (is_none (flow_type rs n) h) (flow_type_is (record { code = r; cells = d; typed = k }))

    untyped_seven : passes4 rs n ≡ true → Untyped rs n → passes7 rs n ≡ false
    unfolding passes7
    untyped_seven f u = none_or_some (flow_type rs n) (λ τ e. let (c, Σ, s, k) = flow_of_type f e in u c k.code Σ s k.cells τ k.typed)

    -- the rules derive the ground that is computed
    pub ground_derived : RowsGround rs n (ground_of_rows rs n)
    unfolding ground_of_rows
    ground_derived = by (passes3 rs n) (passes4 rs n) (passes5 rs n) (passes6 rs n) (passes7 rs n) refl refl refl refl refl
      where
        by : (a b c d e : Bool) → passes3 rs n ≡ a → passes4 rs n ≡ b → passes5 rs n ≡ c → passes6 rs n ≡ d → passes7 rs n ≡ e → RowsGround rs n (first_ground a b c d e)
        by false b c d e p q r t u = rows_3 p
        by true false c d e p q r t u = rows_4 p q
        by true true false d e p q r t u = rows_5 p q r
        by true true true false e p q r t u = rows_6 (record { listed = p; sorted = q; named = r }) (λ k. no (sym t ∙ six_of q k))
        by true true true true false p q r t u = rows_7 (record { listed = p; sorted = q; named = r }) (small_at q t) (seven_untyped u)
        by true true true true true p q r t u = rows_0 (record { listed = p; sorted = q; named = r }) (small_at q t) (seven_flow q u)

    firsts : {a b c d e : Bool} → passes3 rs n ≡ a → passes4 rs n ≡ b → passes5 rs n ≡ c → passes6 rs n ≡ d → passes7 rs n ≡ e → ground_of_rows rs n ≡ first_ground a b c d e
    unfolding ground_of_rows
    firsts p q r t u = λ j. first_ground (p j) (q j) (r j) (t j) (u j)

    -- and no other
    pub ground_only : {g : ℕ} → RowsGround rs n g → ground_of_rows rs n ≡ g
    ground_only (rows_3 p) = firsts p refl refl refl refl
    ground_only (rows_4 p q) = firsts p q refl refl refl
    ground_only (rows_5 p q r) = firsts p q r refl refl
    ground_only (rows_6 f k) = cases (passes6 rs n) (λ t. absurd (k (small_at f.sorted t))) (λ t. firsts f.listed f.sorted f.named t refl)
    ground_only (rows_7 f k u) = firsts f.listed f.sorted f.named (six_of f.sorted k) (untyped_seven f.sorted u)
    ground_only (rows_0 f k i) = firsts f.listed f.sorted f.named (six_of f.sorted k) (flow_seven i)

    -- what rows that get 0 are
    pub zero_flow : ground_of_rows rs n ≡ 0 → WellFormed rs n × Small rs n × IsFlow rs n
    zero_flow h = by (subst (RowsGround rs n) h ground_derived)
      where
        by : RowsGround rs n 0 → WellFormed rs n × Small rs n × IsFlow rs n
        by (rows_0 f k i) = (f, k, i)
