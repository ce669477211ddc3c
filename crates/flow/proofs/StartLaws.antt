-- `start`, each way out, and what the functions below it leave. Rests on OpenLaws, FailedLaws and the contracts of evaluate and normalise.
use Rattle.std.specs.Prelude.{None}
use mathlib.Core.Path.{◌≡◌, refl, sym, ap, subst, ◌∙◌}
use mathlib.Core.Bool.{Bool, true, false}
use mathlib.Core.Logic.{inr}
use mathlib.Core.List.{List, []}
use Prim.Native.Nat.{ℕ, ◌*◌, ◌-◌}
use native.Mathlib.Omega.{arith}
use lib.IntN.{ℤ}
use lib.ListN.{length, take}
use Rattle.tophat.specs.Syntax.{Ty, Code, TaskOf, Store, moves}
use Rattle.tophat.specs.Typing.{v_nil}
use Rattle.tophat.specs.Normalising.{Normalises}
use Rattle.tophat.proofs.Basics.{apart}
use Rattle.tophat.proofs.ComputeEvaluation.{evaluate}
use Rattle.tophat.proofs.ComputeNormalising.{settle}
use Rattle.tophat.proofs.TaskEvaluationAgrees.{evaluate_good}
use Rattle.tophat.proofs.NormalisingSound.{normalise_sound}
use Rattle.tophat.proofs.Bound.{normalises_bound}
use Rattle.std.specs.Prelude.{Ok, Err}
use Rattle.rows.specs.declared.ground.Ground.{Ground}
use Rattle.rows.specs.declared.ground.Ground.TheVariants.{NotAccepted, WrongMemory}
use Rattle.rows.specs.GroundNumbers.{number_of_ground}
use Rattle.rows.specs.Rows.{movers}
use Rattle.rows.specs.Lent.{own_rows, row_count}
use Rattle.rows.proofs.CellsAt.{store_typed}
use Rattle.rows.proofs.LentLaws.{own_bits}
use Rattle.sheet.specs.Accepted.{accepted_count}
use Rattle.state.specs.Layout.{state_words}
use Rattle.state.specs.Lent.{lent_of, state_size}
use Rattle.state.specs.Ensured.{EvaluateOk, NormaliseOk}
use Rattle.state.specs.Writing.{Writing}
use Rattle.state.proofs.Words.{zero_words}
use Rattle.state.proofs.Frames.{same_row}
use Rattle.state.proofs.SitsOf.{last_sits, world}
use Rattle.call_definitions.specs.Memory.{CallAnswer, refusal}
use Rattle.call_definitions.specs.Calls.{start_call}
use Rattle.call_definitions.specs.Touches.{Bounded}
use Rattle.call_definitions.proofs.Flows.{loads_words, loads_accepts}
use Rattle.call_definitions.proofs.Opening.{flow_rows, past}
use Rattle.call_definitions.proofs.StartAnswered.{start_20_is, start_21_is, start_is, by_start}
use Rattle.flow.specs.Opens.{Site}
use Rattle.flow.specs.Firsts.{CellsFirst}
use Rattle.flow.specs.Failed.{WriteFailedOk}
use Rattle.flow.specs.Starts.{Answered, BeginOk}
use Rattle.flow.proofs.SiteLaws.{here, there, room_is, moves_are, copied_out}
use Rattle.flow.proofs.FailedLaws.{firsts_stored, firsts_rest, evaluated_there, failed_out}
use Rattle.flow.proofs.OpenLaws.{counted_no}

-- ---- evaluated and normalised

-- the last row does not leave the words
pub begins : (rs : List ℕ) (n : ℕ) (z w₀ w₁ w₂ env : List ℕ) (x : Bool) (r : ℕ) → z ≡ zero_words state_size → CellsFirst rs z w₀ n → EvaluateOk rs w₀ w₁ (n - 1) env 0 x → x ≡ false → NormaliseOk rs w₁ w₂ (n - 1) env 0 r
    → BeginOk rs n w₂ r
unfolding settle
begins rs n z w₀ w₁ w₂ env x r zs f ev e nm a past bs =
    let c = a.code in
    let s = a.store in
    let st = firsts_stored rs n a past f in
    let (o, q) = evaluated_there rs n a past bs st (firsts_rest rs n a past zs f) ev in
    let g = evaluate_good a.flow.typed [] s v_nil (store_typed bs a.flow.cells) in
    let y = nm c (last_sits rs n a) a.cells [] a.type (evaluate c [] s).1 [] (evaluate c [] s).0 g.task (world rs n a o.stores g.store) o.holds in (
      (λ n. (
        record {
          holds = y.0.holds;
          stores = y.0.stores;
          rest = λ j u. same_row y.0.same u (same_row o.same u (firsts_rest rs _ a past zs f j (λ k. u (inr k))));
        },
        y.1,
      )),
      (λ n. apart n (sym q ∙ e)),
    )

-- it does, and is written as failed whole
pub begins_failed : (rs : List ℕ) (n : ℕ) (z w₀ w₁ w₂ env : List ℕ) (x : Bool) → z ≡ zero_words state_size → CellsFirst rs z w₀ n → EvaluateOk rs w₀ w₁ (n - 1) env 0 x → x ≡ true → WriteFailedOk rs n w₂ → BeginOk rs n w₂ 1
begins_failed rs n z w₀ w₁ w₂ env x zs f ev e wf a past bs =
    let (o, q) = evaluated_there rs n a past bs (firsts_stored rs n a past f) (firsts_rest rs n a past zs f) ev in
    ((λ n. apart (sym q ∙ e) n), (λ n. (wf a past bs, refl)))

-- ---- the bound on strides

-- a refusal counts none
pub zero_bounded : (rows : List ℤ) → Bounded rows 0
zero_bounded rows = omega arith

-- what normalising counts
pub bounded_by : (rows : List ℤ) {c : Code} {s s₁ : Store} {t t₁ : TaskOf c} {n j : ℕ} → Normalises c [] s t t₁ s₁ n → moves c ≡ movers (own_rows rows) (row_count rows) → j ≡ n → Bounded rows j
bounded_by rows d m e = let b = normalises_bound d in omega (arith, b, m, e)

-- ---- start

-- a refusal, as the code answers it
pub refused_as : (rows ws : List ℤ) {a : CallAnswer} (g : Ground) → a ≡ refusal (number_of_ground g) ws → Answered a (Err g) ws × Bounded rows 0
refused_as rows ws g e = ((sym (ap (λ a. a.number) e), sym (ap (λ a. a.strides) e), sym (ap (λ a. a.state) e)), zero_bounded rows)

module _ (rows ws : List ℤ) where
  pub start_20 : None ≡ accepted_count rows → Answered (start_call rows ws) (Err NotAccepted) ws × Bounded rows 0
  start_20 e = refused_as rows ws NotAccepted (start_20_is rows ws (counted_no rows e))

  module _ {own : List ℕ} {n : ℕ} {c : Code} {Σ : List Ty} {τ : Ty} (z : Site rows own n c Σ τ) where
    pub start_21 : (length ws ≡ n * state_words → ⊥) → Answered (start_call rows ws) (Err WrongMemory) ws × Bounded rows 0
    start_21 l = refused_as rows ws WrongMemory (start_21_is rows ws (loads_accepts z.flow.loads) (λ m. l (m ∙ ap (λ k. k * state_words) (sym z.count))))

-- what is begun, copied out
pub start_0 : {rows : List ℤ} (ws out : List ℤ) {own : List ℕ} (words : List ℕ) {n : ℕ} (j : ℕ) {c : Code} {Σ : List Ty} {τ : Ty} (z : Site rows own n c Σ τ) → length ws ≡ n * state_words → BeginOk own n words j → length words ≡ state_size
    → out ≡ lent_of n (take (n * state_words) words) → Answered (start_call rows ws) (Ok j) out × Bounded rows j
unfolding settle
start_0 {rows} ws out {own} words {n} j {c} {Σ} {τ} z l b m o =
    let a = z.flow in
    let w = own_bits rows (loads_words a.loads) in
    let y = there z (λ o k. BeginOk o k words j) b (flow_rows a) (past a) w in
    let g = evaluate_good a.flow.typed [] a.first v_nil (store_typed w a.flow.cells) in
    let d = normalise_sound c [] _ _ g.task v_nil g.store in
    subst (λ r. Answered r (Ok j) out × Bounded rows j) (sym (start_is a ws (room_is z ws l)))
    (by_start a (λ r. Answered r (Ok j) out × Bounded rows j)
    (λ e. let (v, k) = y.1 e in ((refl, k, o ∙ failed_out z v m), omega (arith, k)))
    (λ e.
    let (u, k) = y.0 e in
    let p = copied_out z d.task d.store (here z (λ o k. Writing o (k - 1) c (settle c [] a.first).0 (settle c [] a.first).1 words) u) m in
    ((refl, k, o ∙ p), bounded_by rows d.derived (moves_are z) k)))
