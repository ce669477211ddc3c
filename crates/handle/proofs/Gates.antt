-- Rows that hand on, and what a row of kind 50 makes of its part's answer (CR 6): the verdict of the rows passed, and a touch used. Rests on
-- specs/Taking, on crate running's laws of rows that hand on and on the frames of crate state.
use mathlib.Core.Path.{◌≡◌, refl, sym, ap, ◌∙◌, subst}
use mathlib.Core.Bool.{Bool, true, false, ◌&&◌, cond}
use mathlib.Core.Option.{Option, none, some}
use mathlib.Core.List.{List, ◌∷◌}
use Prim.Native.Nat.{ℕ, zero, suc, ◌-◌}
use native.Mathlib.Decide.{ℕ_discrete}
use native.Mathlib.Omega.{arith}
use lib.Dec.{eqb}
use borrow.Author.Tests.{eq-eqb, ne_eqb, lt-ltb}
use Rattle.decimal.specs.Path.{Path}
use Rattle.tophat.specs.Syntax.{Code, gate, TaskOf, gated}
use Rattle.tophat.specs.Typing.{k_gated}
use Rattle.tophat.specs.Roles.{Gate, other_role, no_touch, of_role, touches_left, verdict}
use Rattle.tophat.specs.Handling.{Action}
use Rattle.tophat.proofs.Admitted.{verdict_told}
use Rattle.tophat.proofs.ComputeHandling.{Taken, pass_gate, handle}
use Rattle.rows.specs.GroundNumbers.{not_handled}
use Rattle.rows.specs.Kinds.{task_k, gate_k, number_of}
use Rattle.rows.specs.Rows.{word, op_a, op_b, OfKind}
use Rattle.state.specs.Layout.{at, own, touch_words}
use Rattle.state.specs.Holds.{Sits, Holds}
use Rattle.state.specs.Words.{Laid}
use Rattle.state.specs.Ensured.{Handled, HandleAt, HandleOk}
use Rattle.state.proofs.Frames.{same_trans, same_weak, same_row, laid_same, keeps_laid, holds_kept, stores_laid, kid_gate}
use Rattle.state.proofs.Sites.{on_code}
use Rattle.running.specs.Hands.{HandsOn, Under}
use Rattle.running.proofs.Handed.{gate_part, under_gate}
use Rattle.running.proofs.Handing.{handle_hands}
use Rattle.handle.specs.Taking.{gate_verdict, PassOk}

-- ---- verdicts

-- the code's way to a verdict is the calculus'
pub gate_verdict_lem : (role r k : ℕ) (gs : List Gate) → verdict role ((r, k) ∷ gs) ≡ gate_verdict role r k (verdict role gs)
unfolding verdict of_role touches_left gate_verdict
gate_verdict_lem role r zero gs = by (eqb role r) (of_role role gs) (touches_left gs)
  where
    by : (a b c : Bool) → cond (a && b) no_touch other_role ≡ cond a (cond (eqb (cond b (cond c 0 no_touch) other_role) other_role) (cond b (cond c 0 no_touch) other_role) no_touch) other_role
    by true true true = refl
    by true true false = refl
    by true false c = refl
    by false b c = refl
gate_verdict_lem role r (suc k) gs = let e = ne_eqb (suc k) 0 (λ z. omega arith) in let f = lt-ltb 0 (suc k) (omega arith) in rw (e, f) (by (eqb role r) (of_role role gs) (touches_left gs))
  where
    by : (a b c : Bool) → cond (a && b) (cond c 0 no_touch) other_role
        ≡ cond a (cond (eqb (cond b (cond c 0 no_touch) other_role) other_role) (cond b (cond c 0 no_touch) other_role) (cond b (cond c 0 no_touch) other_role)) other_role
    by true true true = refl
    by true true false = refl
    by true false c = refl
    by false b c = refl

-- ---- gate_verdict, way by way

module _ (role r k v : ℕ) where
  pub verdict_other : (role ≡ r → ⊥) → other_role ≡ gate_verdict role r k v
  unfolding gate_verdict
  verdict_other n = let e = ne_eqb role r n in rw e

  module _ (e : role ≡ r) where
    pub verdict_below : v ≡ other_role → v ≡ gate_verdict role r k v
    unfolding gate_verdict
    verdict_below h = rw (eq-eqb role r e, eq-eqb v other_role h)

    pub verdict_spent : (v ≡ other_role → ⊥) → k ≡ 0 → no_touch ≡ gate_verdict role r k v
    unfolding gate_verdict
    verdict_spent n h = rw (eq-eqb role r e, ne_eqb v other_role n, eq-eqb k 0 h)

    pub verdict_open : (v ≡ other_role → ⊥) → (k ≡ 0 → ⊥) → v ≡ gate_verdict role r k v
    unfolding gate_verdict
    verdict_open n h = rw (eq-eqb role r e, ne_eqb v other_role n, ne_eqb k 0 h)

-- ---- pass, way by way

module _ {rs ws : List ℕ} {i role a : ℕ} where
  pub pass_other : (OfKind rs i (task_k gate_k) → ⊥) → PassOk rs ws ws i role a a
  pass_other n = record { other = λ o. (refl, refl); none = λ e. (refl, refl); gate = λ q. absurd (n q) }

  pub pass_none : a ≡ not_handled → PassOk rs ws ws i role a a
  pass_none e = record { other = λ o. (refl, refl); none = λ e. (refl, refl); gate = λ q n. absurd (n e) }

  pub pass_gate_lem : {ws₁ : List ℕ} {r k m o : ℕ} → OfKind rs i (task_k gate_k) → (a ≡ not_handled → ⊥) → o ≡ op_a rs i → k ≡ at ws i 2 → m ≡ k - 1 → Laid ws ws₁ i (own ∷ touch_words m) → r ≡ gate_verdict role o k a
      → PassOk rs ws ws₁ i role a r
  pass_gate_lem {ws₁} q n eo ek em l h = record {
    other = λ o. absurd (o q);
    none = λ e. absurd (n e);
    gate = λ _ _. (h ∙ (λ t. gate_verdict role (eo t) (ek t) a), subst (λ m. Laid ws ws₁ i (own ∷ touch_words m)) (em ∙ ap (λ k. k - 1) ek) l);
  }

-- ---- a row that hands on, from its part's row

module _ (rs ws ws₁ ws₂ : List ℕ) (i : ℕ) (env : List ℕ) (d role : ℕ) (p : Path) (x : Action) (v r : ℕ) (f : PassOk rs ws₁ ws₂ i role v r) where
  -- a 50: its part is its B, under the same binders
  gate_handled : OfKind rs i (task_k gate_k) → HandleOk rs ws ws₁ (op_b rs i) env d role p x v → HandleOk rs ws ws₂ i env d role p x r
  unfolding handle pass_gate
  gate_handled q h = on_code rs d i (task_k gate_k) (HandleAt rs ws ws₂ i env d role p x r) q by
    where
      passed : (g n : ℕ) (b : Code) (k : ℕ) (u : TaskOf b) → Sits rs d i (gate g n b) → Holds rs ws i (gate g n b) (gated k u) → (o : Option (Taken (TaskOf b)))
          → Handled rs ws ws₁ (op_b rs i) env d b role v o → Handled rs ws ws₂ i env d (gate g n b) role r (pass_gate g k o)
      passed g n b k u z y none (e, s) = let (m, l) = f.none e in (m ∙ e, l ∙ s)
      passed g n b k u z y (some (t, s, gs)) (e, w) =
          let o = kid_gate rs d i g n b z in
          let here = same_row w.same o.out y.0 in
          let two : at ws₁ i 2 ≡ k = here.words 2 (omega arith) in
          let (m, l) = f.gate q (λ c. verdict_told role gs (sym e ∙ c)) in
          let l₁ = subst (λ k. Laid ws₁ ws₂ i (own ∷ touch_words (k - 1))) two l in (
            m ∙ (λ j. gate_verdict role (z.1 j) (two j) (e j)) ∙ sym (gate_verdict_lem role g k gs),
            record {
              holds = (l₁.row, holds_kept rs ws₁ ws₂ (op_b rs i) b t w.holds (keeps_laid o.off l₁));
              stores = stores_laid w.stores o.cell_i l₁;
              same = same_trans (same_weak o.up_b w.same) (laid_same l₁ o.up_i);
            },
          )

      by : (g n : ℕ) (b : Code) → Sits rs d i (gate g n b) → HandleAt rs ws ws₂ i env d role p x r (gate g n b)
      by g n b z Σ Γ τ s ρ (gated k u) (k_gated l y) w m = passed g n b k u z m (handle b ρ s u p x) (h b z.3 Σ Γ τ s ρ u y w m.1)

  -- any row that hands on
  pub handle_part : {k a : ℕ} → HandsOn (word rs i 0) (at ws i 0) k → a ≡ word rs i k → (env₁ : List ℕ) (d₁ : ℕ) → Under ws i (word rs i 0) env env₁ d d₁ → HandleOk rs ws ws₁ a env₁ d₁ role p x v
      → HandleOk rs ws ws₂ i env d role p x r
  handle_part {k} {a} h e env₁ d₁ u g = by (ℕ_discrete (word rs i 0) (number_of (task_k gate_k)))
    where
      by : Dec (OfKind rs i (task_k gate_k)) → HandleOk rs ws ws₂ i env d role p x r
      by (yes q) =
          let (m, n) = u.plain (under_gate q) in
          gate_handled q (subst (λ a. HandleOk rs ws ws₁ a env d role p x v) (e ∙ ap (word rs i) (gate_part h q)) (subst (λ d. HandleOk rs ws ws₁ a env d role p x v) m (subst (λ env. HandleOk rs ws ws₁ a env d₁ role p x v) n g)))
      by (no o) =
          let (m, n) = f.other o in
          subst (λ r. HandleOk rs ws ws₂ i env d role p x r) (sym m) (subst (λ ws₂. HandleOk rs ws ws₂ i env d role p x v) (sym n) (handle_hands rs ws i h e env env₁ d d₁ u ws₁ role p x v o g))
