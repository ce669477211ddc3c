-- What a choice of kind 48 ensures: Left or Right at the path's end picks the side that, settled, does not fail; and rows that take no
-- event at all. Rests on Numbers, on the forms of rows and on the frames of crate state.
use mathlib.Core.Path.{◌≡◌, refl, sym, ◌∙◌, subst, ap}
use mathlib.Core.Bool.{Bool, true, false}
use mathlib.Core.List.{List, [], ◌∷◌}
use Prim.Native.Nat.{ℕ}
use native.Mathlib.Decide.{ℕ_discrete}
use native.Mathlib.Omega.{arith}
use Rattle.decimal.specs.Path.{Path}
use Rattle.decimal.proofs.PathNumbers.{path_0}
use Rattle.tophat.specs.Syntax.{Ty, Code, edit, enter, update, then, next, fail, and, or, xor, view, gate, if, let', Env, Store}
use Rattle.tophat.specs.Syntax.{TaskOf, unpicked, picked_left, picked_right}
use Rattle.tophat.specs.Typing.{CodeType}
use Rattle.tophat.specs.Handling.{continue, left, right, Action, give, press}
use Rattle.tophat.proofs.Admitted.{verdict_none}
use Rattle.tophat.proofs.ComputeNormalising.{settle}
use Rattle.tophat.proofs.ComputeHandling.{at_sides, unless_failing, handle}
use Rattle.rows.specs.GroundNumbers.{not_handled}
use Rattle.rows.specs.Kinds.{task_k, edit_k, next_k, and_k, xor_k}
use Rattle.rows.specs.Rows.{op_a, op_b, OfKind, FromKind, UpToKind}
use Rattle.state.specs.Layout.{one, other}
use Rattle.state.specs.Holds.{Sits, Holds, World}
use Rattle.state.specs.Words.{Laid}
use Rattle.state.specs.Ensured.{Handled, HandleOk}
use Rattle.state.proofs.Frames.{same_trans, same_weak, laid_same, keeps, keeps_laid, clear_kept, holds_kept, stores_laid, kids_xor}
use Rattle.running.proofs.Forms.{on_unpicked, on_no_if, on_no_let, on_no_gate}
use Rattle.running.specs.Hands.{Unhanded}
use Rattle.normalising.specs.Trying.{SettleOk}
use Rattle.handle.specs.declared.Event.{Event}
use Rattle.handle.specs.Events.{action_by, leaves_by, event_path, event_action}
use Rattle.handle.specs.Taking.{Picked, PickOk, answer_of}
use Rattle.handle.proofs.Numbers.{some_marks, by_action}
use Rattle.tophat.specs.declared.Action.TheVariants.{Left, Right}

-- ---- side, way by way

module _ (rs ws ws₂ : List ℕ) (i a x : ℕ) (env : List ℕ) (d : ℕ) where
  pub side_fails : (r : Bool) → SettleOk rs ws a env d ws₂ r → r ≡ true → PickOk rs ws ws i a x env d false
  side_fails r h e c z Σ Γ τ s ρ y w g =
      let q = h c z Σ Γ τ s ρ y w g in
      subst (Picked rs ws ws i a x env d c false (settle c ρ s).0 (settle c ρ s).1) (sym e ∙ q.0) (refl, refl)

  pub side_lives : (ws₁ : List ℕ) (r : Bool) → SettleOk rs ws a env d ws₂ r → r ≡ false → Laid ws₂ ws₁ i (x ∷ []) → PickOk rs ws ws₁ i a x env d true
  side_lives ws₁ r h e l c z Σ Γ τ s ρ y w g =
      let q = h c z Σ Γ τ s ρ y w g in
      subst (Picked rs ws ws₁ i a x env d c true (settle c ρ s).0 (settle c ρ s).1) (sym e ∙ q.0) (refl, (ws₂, q.1 e, l))

-- ---- the arm

module _ (rs ws ws₁ : List ℕ) (i : ℕ) (env : List ℕ) (d role : ℕ) (r : Bool) (a b : Code) (z : Sits rs d i (xor a b)) (h : Holds rs ws i (xor a b) unpicked) where
  picked_left_lem : (t : TaskOf a) (s : Store) (x : Bool) → Picked rs ws ws₁ i (op_a rs i) one env d a r t s x → Handled rs ws ws₁ i env d (xor a b) role (answer_of r) (unless_failing x picked_left t s)
  unfolding unless_failing
  picked_left_lem t s true p = (ap answer_of p.0, p.1)
  picked_left_lem t s false (e, (ws₂, q, l)) =
      let k = kids_xor rs d i a b z in (
        ap answer_of e ∙ sym (verdict_none role),
        record {
          holds = (l.row, holds_kept rs ws₂ ws₁ (op_a rs i) a t q.holds (keeps_laid k.off_a l), clear_kept (clear_kept h.2 (keeps k.a_b q.same)) (keeps_laid k.off_b l));
          stores = stores_laid q.stores k.cell_i l;
          same = same_trans (same_weak k.up_a q.same) (laid_same l k.up_i);
        },
      )

  picked_right_lem : (u : TaskOf b) (s : Store) (x : Bool) → Picked rs ws ws₁ i (op_b rs i) other env d b r u s x → Handled rs ws ws₁ i env d (xor a b) role (answer_of r) (unless_failing x picked_right u s)
  unfolding unless_failing
  picked_right_lem u s true p = (ap answer_of p.0, p.1)
  picked_right_lem u s false (e, (ws₂, q, l)) =
      let k = kids_xor rs d i a b z in (
        ap answer_of e ∙ sym (verdict_none role),
        record {
          holds = (l.row, clear_kept (clear_kept h.1 (keeps k.b_a q.same)) (keeps_laid k.off_a l), holds_kept rs ws₂ ws₁ (op_b rs i) b u q.holds (keeps_laid k.off_b l));
          stores = stores_laid q.stores k.cell_i l;
          same = same_trans (same_weak k.up_b q.same) (laid_same l k.up_i);
        },
      )

module _ (rs ws ws₁ : List ℕ) (i : ℕ) (env : List ℕ) (d : ℕ) (r : Bool) (e : Event) (v : Unhanded rs ws i) (q : OfKind rs i (task_k xor_k)) where
  -- by what the event is
  module _ (p : Path) (x : Action) (ep : event_path e ≡ p) (ex : event_action e ≡ x) where
    chosen : ((a b : Code) (τ : Ty) (Σ Γ : List Ty) (s : Store) (ρ : Env) → Sits rs d i (xor a b) → Holds rs ws i (xor a b) unpicked → CodeType Σ Γ a τ → CodeType Σ Γ b τ → World rs ws env d Σ Γ s ρ
        → Handled rs ws ws₁ i env d (xor a b) e.role (answer_of r) (handle (xor a b) ρ s unpicked p x)) → HandleOk rs ws ws₁ i env d e.role (event_path e) (event_action e) (answer_of r)
    chosen f c z Σ Γ τ s ρ t y w h =
        on_unpicked rs ws d i Σ Γ (λ c t τ. Handled rs ws ws₁ i env d c e.role (answer_of r) (handle c ρ s t (event_path e) (event_action e))) v q
        (λ a b τ z h y n. subst (λ p. Handled rs ws ws₁ i env d (xor a b) e.role (answer_of r) (handle (xor a b) ρ s unpicked p (event_action e))) (sym ep)
        (subst (λ x. Handled rs ws ws₁ i env d (xor a b) e.role (answer_of r) (handle (xor a b) ρ s unpicked p x)) (sym ex) (f a b τ Σ Γ s ρ z h y n w))) c z τ t y h

  pub handle_left : (a : ℕ) → (e.path ≡ 0) × (e.action ≡ Left) → a ≡ op_a rs i → PickOk rs ws ws₁ i a one env d r → HandleOk rs ws ws₁ i env d e.role (event_path e) (event_action e) (answer_of r)
  unfolding handle at_sides
  handle_left a (ep, en) ea h = chosen [] (press left) (path_0 e.path ep) (ap (λ a. action_by a (leaves_by e.leaves)) en)
      (λ a₁ b₁ τ Σ Γ s ρ z g y n w. picked_left_lem rs ws ws₁ i env d e.role r a₁ b₁ z g _ _ _ (subst (λ a. PickOk rs ws ws₁ i a one env d r) ea h a₁ z.1 Σ Γ τ s ρ y w g.1))

  pub handle_right : (b : ℕ) → (e.path ≡ 0) × (e.action ≡ Right) → b ≡ op_b rs i → PickOk rs ws ws₁ i b other env d r → HandleOk rs ws ws₁ i env d e.role (event_path e) (event_action e) (answer_of r)
  unfolding handle at_sides
  handle_right b (ep, en) eb h = chosen [] (press right) (path_0 e.path ep) (ap (λ a. action_by a (leaves_by e.leaves)) en)
      (λ a₁ b₁ τ Σ Γ s ρ z g y n w. picked_right_lem rs ws ws₁ i env d e.role r a₁ b₁ z g _ _ _ (subst (λ b. PickOk rs ws ws₁ i b other env d r) eb h b₁ z.2 Σ Γ τ s ρ n w g.2))

module _ (rs ws : List ℕ) (i : ℕ) (env : List ℕ) (d : ℕ) (e : Event) (v : Unhanded rs ws i) (q : OfKind rs i (task_k xor_k)) where
  -- a mark is left over, a value, or Continue
  pub handle_unpicked : (e.path ≡ 0 → e.action ≡ Left → ⊥) → (e.path ≡ 0 → e.action ≡ Right → ⊥) → HandleOk rs ws ws i env d e.role (event_path e) (event_action e) not_handled
  unfolding handle at_sides
  handle_unpicked h g = by (ℕ_discrete e.path 0)
    where
      by : Dec (e.path ≡ 0) → HandleOk rs ws ws i env d e.role (event_path e) (event_action e) not_handled
      by (no n) = chosen rs ws ws i env d false e v q _ _ (some_marks e.path n) refl (λ a b τ Σ Γ s ρ z g y n w. (refl, refl))
      by (yes p) = by_action e.action
          (λ k. chosen rs ws ws i env d false e v q [] (give (leaves_by e.leaves)) (path_0 e.path p) (ap (λ a. action_by a (leaves_by e.leaves)) k) (λ a b τ Σ Γ s ρ z g y n w. (refl, refl)))
          (λ k. chosen rs ws ws i env d false e v q [] (press continue) (path_0 e.path p) (ap (λ a. action_by a (leaves_by e.leaves)) k) (λ a b τ Σ Γ s ρ z g y n w. (refl, refl)))
          (λ k. absurd (h p k)) (λ k. absurd (g p k))

-- ---- rows that take no event: 45, 49, and what is no task

pub handle_none : (rs ws : List ℕ) (i : ℕ) (env : List ℕ) (d role : ℕ) (p : Path) (x : Action) → Unhanded rs ws i → (FromKind rs i (task_k edit_k) → UpToKind rs i (task_k next_k) → ⊥) → (FromKind rs i (task_k and_k) → UpToKind rs i (task_k xor_k) → ⊥)
    → HandleOk rs ws ws i env d role p x not_handled
unfolding handle
handle_none rs ws i env d role p x v l h (edit e) z Σ Γ τ s ρ t y w g = absurd (let k = z.0 in l (omega arith) (omega arith))
handle_none rs ws i env d role p x v l h (enter υ) z Σ Γ τ s ρ t y w g = absurd (let k = z.0 in l (omega arith) (omega arith))
handle_none rs ws i env d role p x v l h (update j) z Σ Γ τ s ρ t y w g = absurd (let k = z.0 in l (omega arith) (omega arith))
handle_none rs ws i env d role p x v l h (then a b) z Σ Γ τ s ρ t y w g = absurd (let k = z.0 in l (omega arith) (omega arith))
handle_none rs ws i env d role p x v l h (next a b) z Σ Γ τ s ρ t y w g = absurd (let k = z.0 in l (omega arith) (omega arith))
handle_none rs ws i env d role p x v l h (fail υ) z Σ Γ τ s ρ t y w g = (refl, refl)
handle_none rs ws i env d role p x v l h (and a b) z Σ Γ τ s ρ t y w g = absurd (let k = z.0 in h (omega arith) (omega arith))
handle_none rs ws i env d role p x v l h (or a b) z Σ Γ τ s ρ t y w g = absurd (let k = z.0 in h (omega arith) (omega arith))
handle_none rs ws i env d role p x v l h (xor a b) z Σ Γ τ s ρ t y w g = absurd (let k = z.0 in h (omega arith) (omega arith))
handle_none rs ws i env d role p x v l h (view e) z Σ Γ τ s ρ t y w g = (refl, refl)
handle_none rs ws i env d role p x v l h (gate r n b) z Σ Γ τ s ρ t y w g =
    on_no_gate rs ws d i Σ Γ (λ c t τ. Handled rs ws ws i env d c role not_handled (handle c ρ s t p x)) v z.0 (gate r n b) z τ t y g
handle_none rs ws i env d role p x v l h (if e a b) z Σ Γ τ s ρ t y w g =
    on_no_if rs ws d i Σ Γ (λ c t τ. Handled rs ws ws i env d c role not_handled (handle c ρ s t p x)) v z.0 (if e a b) z τ t y g
handle_none rs ws i env d role p x v l h (let' e b) z Σ Γ τ s ρ t y w g =
    on_no_let rs ws d i Σ Γ (λ c t τ. Handled rs ws ws i env d c role not_handled (handle c ρ s t p x)) v z.0 (let' e b) z τ t y g
