-- The value that look hands out on a flow and on the flow mirrored: its halves are exchanged. And the looks at a start that left the range,
-- where there is no value. Rests on Exchanged.
use mathlib.Core.Path.{◌≡◌, refl, sym, ap, ◌∙◌}
use mathlib.Core.Bool.{true}
use mathlib.Core.Option.{Option}
use mathlib.Core.List.{List, [], ◌++◌, append_assoc}
use Prim.Native.Nat.{ℕ, ◌+◌, ◌-◌, ◌≤◌}
use native.Mathlib.Omega.{arith}
use borrow.Author.Tests.{le-leb}
use lib.Dec.{leb}
use lib.IntN.{ℤ, pos}
use lib.ListN.{length, replicate, length-append, length-replicate, replicate-append-replicate}
use Rattle.tophat.specs.Syntax.{max_leaves, Ty, pair, leaves, Code, and, Val, Store}
use Rattle.tophat.specs.Typing.{ValueType, small_nil}
use Rattle.tophat.specs.Leaves.{leaves_of, padded}
use Rattle.tophat.specs.Normalising.{pair_of, value}
use Rattle.tophat.specs.Showing.{marked}
use Rattle.tophat.proofs.ComputeNormalising.{failing}
use Rattle.tophat.proofs.ComputeEntries.{entries}
use Rattle.tophat.proofs.Leaves.{length_leaves}
use Rattle.tophat.proofs.Preservation.{OptionType, o_none, o_some}
use Rattle.tophat.proofs.TypeLeaves.{task_type_leaves}
use Rattle.formats.specs.Lists.{list_text, fit_none}
use Rattle.rows.proofs.CellsAt.{cells_small}
use Rattle.call_definitions.specs.Memory.{LookAnswer, value_memory, has_one}
use Rattle.call_definitions.specs.States.{failed_state}
use Rattle.call_definitions.specs.Answers.{AcceptedFlow}
use Rattle.call_definitions.specs.Calls.{look_rest}
use Rattle.mirror.specs.Mirrored.{exchange, writeless, LooksMirrored}
use Rattle.mirror.proofs.Exchanged.{exchange_front}

zeros_split : (m n : ℕ) → m + n ≤ max_leaves → replicate max_leaves (pos 0) ≡ replicate m (pos 0) ++ (replicate n (pos 0) ++ replicate (max_leaves - (m + n)) (pos 0))
zeros_split m n h = sym (
    ap (λ l. replicate m (pos 0) ++ l) (replicate-append-replicate n (max_leaves - (m + n)) (pos 0))
    ∙ replicate-append-replicate m (n + (max_leaves - (m + n))) (pos 0)
    ∙ ap (λ k. replicate k (pos 0)) {x = m + (n + (max_leaves - (m + n)))} {y = max_leaves} (omega (arith, h))
    )

-- no value has halves to exchange
zeros : (m n : ℕ) → m + n ≤ max_leaves → exchange 0 m n (replicate max_leaves (pos 0)) ≡ replicate max_leaves (pos 0)
zeros m n h =
    ap (exchange 0 m n) (zeros_split m n h)
    ∙ exchange_front m n (replicate m (pos 0)) (replicate n (pos 0)) (replicate (max_leaves - (m + n)) (pos 0)) (length-replicate m (pos 0)) (length-replicate n (pos 0))
    ∙ ap (λ k. replicate n (pos 0) ++ (replicate m (pos 0) ++ replicate (max_leaves - k) (pos 0))) {x = m + n} {y = n + m} (omega arith)
    ∙ sym (zeros_split n m (omega (arith, h)))

-- two values in a row
two_values : {v u : Val} {τ υ : Ty} → ValueType v τ → ValueType u υ
    → padded (pos 0) (leaves_of u ++ leaves_of v) ≡ exchange 0 (leaves τ) (leaves υ) (padded (pos 0) (leaves_of v ++ leaves_of u))
unfolding padded
two_values {v} {u} {τ} {υ} k h =
    let xs = leaves_of v in let ys = leaves_of u in
    let rest = replicate (max_leaves - length (xs ++ ys)) (pos 0) in
    let p = length-append xs ys in let q = length-append ys xs in
    let l : length (ys ++ xs) ≡ length (xs ++ ys) = omega (arith, p, q) in
    ap (λ n. (ys ++ xs) ++ replicate (max_leaves - n) (pos 0)) l ∙ append_assoc ys xs rest
    ∙ sym (exchange_front (leaves τ) (leaves υ) xs ys rest (length_leaves k) (length_leaves h))
    ∙ ap (exchange 0 (leaves τ) (leaves υ)) (sym (append_assoc xs ys rest))

pub value_words : {o o₁ : Option Val} {τ υ : Ty} → leaves τ + leaves υ ≤ max_leaves → OptionType o τ → OptionType o₁ υ
    → value_memory (pair_of o₁ o) ≡ exchange 0 (leaves τ) (leaves υ) (value_memory (pair_of o o₁))
unfolding value_memory pair_of leaves_of
value_words {τ = τ} {υ = υ} l o_none o_none = sym (zeros (leaves τ) (leaves υ) l)
value_words {τ = τ} {υ = υ} l o_none (o_some h) = sym (zeros (leaves τ) (leaves υ) l)
value_words {τ = τ} {υ = υ} l (o_some k) o_none = sym (zeros (leaves τ) (leaves υ) l)
value_words l (o_some k) (o_some h) = two_values k h

module _ {rows : List ℤ} {a b : Code} {Σ : List Ty} {τ υ : Ty} (f : AcceptedFlow rows (and a b) Σ (pair τ υ)) (w : writeless rows ≡ true) (role : ℕ) (values : List ℤ) (list : List ℕ) where
  abbrev Mirror : LookAnswer → LookAnswer → Type 0
  Mirror x y = LooksMirrored (leaves τ) (leaves υ) list x y

  pub small : leaves τ + leaves υ ≤ max_leaves
  unfolding leaves
  small = task_type_leaves f.flow.typed (cells_small f.flow.cells) small_nil

  -- at a start that left the range
  pub looks_failed : (s : Store) → Mirror (look_rest role values list (failed_state (pair τ υ) s)) (look_rest role values list (failed_state (pair υ τ) s))
  unfolding look_rest value entries failing list_text value_memory has_one marked
  looks_failed s =
      let e : leb 0 (length list) ≡ true = le-leb 0 (length list) (omega arith) in
      rw e (record {
        number = refl;
        has_value = refl;
        fails = refl;
        refused = λ h. absurd (h refl);
        value = λ e. sym (zeros (leaves τ) (leaves υ) small);
        of_a = [];
        of_b = [];
        fits_a = fit_none;
        fits_b = fit_none;
        part = λ e. refl;
        part_mirrored = λ e. refl;
        list_mirrored = λ e. refl;
      })
