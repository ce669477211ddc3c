-- THE THEOREM ON MIRRORED SHEETS (CR 5).
--
-- Take any rows that an accepted sheet loads to, whose last row is of kind 46 and of which none is of kind 30. Exchange A and B of the last
-- row, and 1 and 2 in the first digit of each event's path. Then (`Mirrors`, specs/Mirrored):
--
-- - the mirrored rows are accepted too, and each text that loads to the rows loads, with A and B of its last line exchanged, to the mirrored
--   ones, into every rows memory;
-- - start answers the same number and strides, and leaves the same words, in every state memory; so does handle, for every state memory and
--   every event, whether it can be read or not, is taken or refused; so does every list of look and handle calls;
-- - look, with every role, state memory, value memory and list memory, answers the same number and flags; in its value the first m words and the n
--   after them have changed places, where m and n are the leaves of A's type and of B's; its list is B's entries behind mark 1, then A's
--   behind mark 2, where it was A's behind mark 1, then B's behind mark 2, each block in its own order. What it refuses it refuses alike.
--
-- State words that are no state or no rest are meant too: both sheets refuse them with the same number. The exchanged event says the event
-- with the first mark of its path exchanged (MirroredEvents). Rests on MirroredCalls, MirroredLooks and MirroredText.
use mathlib.Core.Path.{◌≡◌, refl, ap, ◌∙◌}
use mathlib.Core.Bool.{true}
use mathlib.Core.List.{List, [], ◌∷◌, map}
use Prim.Native.Nat.{ℕ, ◌-◌}
use native.Mathlib.Omega.{arith}
use lib.IntN.{ℤ}
use Rattle.tophat.specs.Syntax.{Ty, leaves, Code, and}
use Rattle.tophat.specs.Typing.{CodeType, t_and}
use Rattle.rows.specs.Kinds.{task_k, and_k}
use Rattle.rows.specs.Rows.{OfKind}
use Rattle.rows.specs.Lent.{own_rows, row_count}
use Rattle.rows.specs.Trees.{ReadsCode, r_edit, r_enter, r_update, r_then, r_next, r_fail, r_and, r_or, r_xor, r_view, r_if, r_let, r_gate}
use Rattle.call_definitions.specs.Answers.{Loads, AcceptedFlow}
use Rattle.call_definitions.specs.Touches.{Call, look, handle, after, run}
use Rattle.call_definitions.proofs.Flows.{flow_of}
use Rattle.mirror.specs.Mirrored.{mirrored, writeless, mirrored_call, Halves, Mirrors}
use Rattle.mirror.proofs.MirroredEvents.{mirrored_event_lem, mirrored_twice}
use Rattle.mirror.proofs.MirroredText.{mirrored_loads}
use Rattle.mirror.proofs.MirroredFlow.{last_kind_lem, two_flows, mirrored_accepts}
use Rattle.mirror.proofs.MirroredCalls.{starts_mirrored, touches_mirrored}
use Rattle.mirror.proofs.MirroredLooks.{looks_mirrored}

-- accepted rows whose last row is of kind 46 have two halves
pub halves : {rows : List ℤ} → Loads rows → OfKind (own_rows rows) (row_count rows - 1) (task_k and_k) → (τ : Ty) × (υ : Ty) × Halves rows τ υ
halves {rows} l h = let (c, Σ, τ, f) = flow_of l in by f f.flow.code h
  where
    typed : {a b : Code} {Σ : List Ty} {σ : Ty} (f : AcceptedFlow rows (and a b) Σ σ) → CodeType Σ [] (and a b) σ → (τ : Ty) × (υ : Ty) × Halves rows τ υ
    typed {a} {b} {Σ} f (t_and {τ = τ} {υ = υ} p q k) = (τ, υ, record { a = a; b = b; cells = Σ; flow = f })

    by : {i : ℕ} {c : Code} {Σ : List Ty} {σ : Ty} → AcceptedFlow rows c Σ σ → ReadsCode (own_rows rows) i c → OfKind (own_rows rows) i (task_k and_k)
        → (τ : Ty) × (υ : Ty) × Halves rows τ υ
    by f (r_and k x y g e) h = typed f f.flow.typed
    by f (r_edit k x g) h = absurd (omega (arith, k, h))
    by f (r_enter k x g) h = absurd (omega (arith, k, h))
    by f (r_update k x g) h = absurd (omega (arith, k, h))
    by f (r_then k x y g e) h = absurd (omega (arith, k, h))
    by f (r_next k x y g e) h = absurd (omega (arith, k, h))
    by f (r_fail k x g) h = absurd (omega (arith, k, h))
    by f (r_or k x y g e) h = absurd (omega (arith, k, h))
    by f (r_xor k x y g e) h = absurd (omega (arith, k, h))
    by f (r_view k x g) h = absurd (omega (arith, k, h))
    by f (r_gate k y g) h = absurd (omega (arith, k, h))
    by f (r_if k x y z g e d) h = absurd (omega (arith, k, h))
    by f (r_let k x y g e) h = absurd (omega (arith, k, h))

module _ {rows : List ℤ} {τ υ : Ty} (h : Halves rows τ υ) (w : writeless rows ≡ true) where
  -- a call, and its mirror image
  after_mirrored : (ws : List ℤ) (k : Call) → after (mirrored rows) ws (mirrored_call k) ≡ after rows ws k
  unfolding after mirrored_call
  after_mirrored ws (look role values list) = refl
  after_mirrored ws (handle event) = ap (λ r. r.state) (touches_mirrored h.flow w ws event)

  runs_mirrored : (ws : List ℤ) (ks : List Call) → run (mirrored rows) ws (map mirrored_call ks) ≡ run rows ws ks
  unfolding run
  runs_mirrored ws [] = refl
  runs_mirrored ws (k ∷ ks) = ap (λ ws. run (mirrored rows) ws (map mirrored_call ks)) (after_mirrored ws k) ∙ runs_mirrored (after rows ws k) ks

  pub mirror : Mirrors rows (leaves τ) (leaves υ)
  mirror = record {
    says = mirrored_event_lem;
    twice = mirrored_twice;
    accepts = mirrored_accepts h.flow;
    loads = λ text memory e. mirrored_loads text memory rows e (last_kind_lem h.flow) (two_flows h.flow).ground₁;
    starts = starts_mirrored h.flow w;
    touches = touches_mirrored h.flow w;
    looks = λ ws role values list. looks_mirrored h.flow w role values list ws;
    runs = runs_mirrored;
  }
