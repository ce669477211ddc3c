-- What is exchanged, computed on words and bytes; and two sheets of one flow, to see that what the theorem on regrouping asks can be had: three
-- ways to give a number, grouped one way and the other, with the rows in another order and the cell at another row. Rests on Regroup.
use mathlib.Core.Path.{◌≡◌, refl, sym, ap, subst, ◌∙◌}
use mathlib.Core.Bool.{Bool, true, ◌&&◌}
use mathlib.Core.Option.{some, bind}
use mathlib.Core.List.{List, [], ◌∷◌}
use Prim.Native.Nat.{ℕ, ◌-◌}
use native.Mathlib.Decide.{dec_le}
use native.Mathlib.Omega.{arith}
use borrow.Author.Tests.{eqb-true, ltb-true}
use lib.Dec.{eqb, ltb, lit<}
use lib.IntN.{ℤ, pos}
use lib.ListN.{length, replicate, set}
use Rattle.word.specs.Word.{IsWord, AllWords}
use Rattle.word.proofs.Lists.{words_cons}
use Rattle.tophat.specs.Syntax.{number, ebinder, Code, edit, enter, update, next, or, vunit, vnumber, Store}
use Rattle.tophat.specs.Syntax as syntax
use Rattle.tophat.specs.Typing.{CodeType}
use Rattle.tophat.specs.Renamed.{Apart, Agrees}
use Rattle.tophat.proofs.Basics.{some_is, and_left, and_right}
use Rattle.tophat.proofs.ComputeTyping as compute_typing
use Rattle.rows.specs.Kinds as kinds
use Rattle.rows.specs.Rows as rules
use Rattle.rows.specs.Enclosing as enclosing
use Rattle.rows.specs.Lent.{own_rows, row_count}
use Rattle.rows.specs.Trees.{operator_of, ReadsCode}
use Rattle.rows.specs.ComputeTrees.{content_of, type_at, exp_at, code_at, cell_type, cell_types, first_store}
use Rattle.rows.specs.Accepted.{AcceptedRows}
use Rattle.rows.specs.Ground.{ground_of_rows}
use Rattle.rows.specs.Ground as ground
use Rattle.rows.proofs.TreesAgree.{code_is, cells_are}
use Rattle.sheet.proofs.AcceptedRows.{of_passed}
use Rattle.call_definitions.specs.Answers.{Loads, AcceptedFlow}
use Rattle.call_definitions.proofs.Flows.{accepts_loads, loads_found}
use Rattle.mirror.specs.Mirrored.{exchange, mirrored, mirrored_digit, mirrored_first, mirrored_event}
use Rattle.mirror.specs.Regrouped.{Flagged, Regroups, Regrouped}
use Rattle.mirror.proofs.Regroup.{regroup}

-- rows of numbers below 100
abbrev words_of : List (ℕ × ℕ × ℕ × ℕ) → List ℤ
words_of [] = []
words_of (r ∷ rs) = pos r.0 ∷ pos r.1 ∷ pos r.2 ∷ pos r.3 ∷ words_of rs

abbrev low : ℕ → Bool
low n = ltb n 100

abbrev all_low : List (ℕ × ℕ × ℕ × ℕ) → Bool
all_low [] = true
all_low (r ∷ rs) = low r.0 && (low r.1 && (low r.2 && (low r.3 && all_low rs)))

low_word : (n : ℕ) → low n ≡ true → IsWord (pos n)
low_word n h = let l = ltb-true n 100 h in omega (arith, l)

words_of_lem : (rs : List (ℕ × ℕ × ℕ × ℕ)) → all_low rs ≡ true → AllWords (words_of rs)
words_of_lem [] h = λ i. lit< tt
words_of_lem ((k, x, y, z) ∷ rs) h =
    let h₁ = and_right (low k) _ h in
    let h₂ = and_right (low x) _ h₁ in
    let h₃ = and_right (low y) _ h₂ in
    words_cons (pos k) (pos x ∷ pos y ∷ pos z ∷ words_of rs) (low_word k (and_left (low k) _ h))
    (words_cons (pos x) (pos y ∷ pos z ∷ words_of rs) (low_word x (and_left (low x) _ h₁))
    (words_cons (pos y) (pos z ∷ words_of rs) (low_word y (and_left (low y) _ h₂))
    (words_cons (pos z) (words_of rs) (low_word z (and_left (low z) _ h₃)) (words_of_lem rs (and_right (low z) _ h₃)))))

-- ---- what is exchanged: A and B of the last row alone; of a path the first digit alone, after the role and spaces; a value's first word and the two after it

pub exchanges : (mirrored (words_of ((3, 0, 0, 0) ∷ (41, 0, 0, 0) ∷ (41, 0, 0, 0) ∷ (46, 1, 2, 0) ∷ [])) ≡ words_of ((3, 0, 0, 0) ∷ (41, 0, 0, 0) ∷ (41, 0, 0, 0) ∷ (46, 2, 1, 0) ∷ []))
    × (mirrored_event (32 ∷ 49 ∷ 32 ∷ 50 ∷ 49 ∷ 32 ∷ []) ≡ (32 ∷ 49 ∷ 32 ∷ 49 ∷ 49 ∷ 32 ∷ [])) × (mirrored_event (32 ∷ 50 ∷ 32 ∷ 48 ∷ 49 ∷ []) ≡ (32 ∷ 50 ∷ 32 ∷ 48 ∷ 49 ∷ []))
    × (exchange {A = ℕ} 0 1 2 (5 ∷ 6 ∷ 7 ∷ 0 ∷ []) ≡ (6 ∷ 7 ∷ 5 ∷ 0 ∷ []))
unfolding mirrored exchange mirrored_event mirrored_first mirrored_digit
exchanges = (refl, refl, refl, refl)

-- ---- three ways: a and b ask for a number, c takes the cell's at Continue

abbrev a : Code
a = enter number

-- the third names the cell at this row
abbrev c : ℕ → Code
c k = next (update k) (edit (ebinder 0))

abbrev rows_one : List (ℕ × ℕ × ℕ × ℕ)
rows_one = (
    (3, 0, 0, 0) ∷ (10, 0, 7, 0) ∷ (41, 0, 0, 0) ∷ (41, 0, 0, 0) ∷ (47, 2, 3, 0) ∷ (42, 1, 0, 0) ∷ (23, 0, 0, 0) ∷ (40, 6, 0, 0) ∷ (44, 5, 7, 0) ∷ (47, 4, 8, 0) ∷ []
    )

abbrev rows_other : List (ℕ × ℕ × ℕ × ℕ)
rows_other = (
    (3, 0, 0, 0) ∷ (23, 0, 0, 0) ∷ (40, 1, 0, 0) ∷ (10, 0, 7, 0) ∷ (42, 3, 0, 0) ∷ (44, 4, 2, 0) ∷ (41, 0, 0, 0) ∷ (47, 6, 5, 0) ∷ (41, 0, 0, 0) ∷ (47, 8, 7, 0) ∷ []
    )

abbrev one : List ℤ
one = words_of rows_one

abbrev other : List ℤ
other = words_of rows_other

-- the contents at first: 7 at the cell's row, nothing elsewhere
abbrev cells_at : ℕ → Store
cells_at k = set (replicate 10 vunit) k (vnumber (pos 7))

-- both get no ground, and read as these codes and cells
computed : (ground_of_rows (own_rows one) 10 ≡ 0) × (code_at (own_rows one) 10 9 ≡ some (or (or a a) (c 1))) × (first_store (own_rows one) 10 ≡ cells_at 1)
    × (ground_of_rows (own_rows other) 10 ≡ 0) × (code_at (own_rows other) 10 9 ≡ some (or a (or a (c 3)))) × (first_store (own_rows other) 10 ≡ cells_at 3)
unfolding
    dec_le bind syntax.leaves compute_typing.ask compute_typing.nth compute_typing.takes compute_typing.gives compute_typing.number_to compute_typing.op_to compute_typing.same_to
    compute_typing.if_to compute_typing.type_to compute_typing.first_to compute_typing.second_to compute_typing.assign_to compute_typing.infer compute_typing.infer_task
    kinds.kind_of kinds.asks_of rules.every rules.listed_as rules.listed rules.truth_cell rules.row_listed rules.sort_by rules.sorts rules.sort_number rules.sorted_as
    rules.sorted rules.row_sorted rules.names rules.names_by rules.names_in rules.namings rules.named_once rules.last_fits enclosing.binders_by enclosing.marks_by
    enclosing.most_binders enclosing.most_marks enclosing.counts enclosing.leaves_by enclosing.row_small operator_of content_of type_at exp_at code_at cell_type cell_types first_store
    ground.passes3 ground.passes4 ground.passes5 ground.passes6 ground.flow_type ground.is_some ground.passes7 ground_of_rows
computed = (refl, refl, refl, refl, refl, refl)

-- ---- accepted, of this code

module _ (rows : List ℤ) (w : AllWords rows) (h : length rows ≡ 40) (z : ground_of_rows (own_rows rows) 10 ≡ 0) {k : Code} (e : code_at (own_rows rows) 10 9 ≡ some k) where
  loads : Loads rows
  loads =
      let n : row_count rows ≡ 10 = omega (arith, h) in
      accepts_loads w (of_passed rows (record { some_rows = omega (arith, n); few = omega (arith, n); whole = omega (arith, n, h); ground_is = ap (ground_of_rows (own_rows rows)) n ∙ z }))

  abbrev found : AcceptedRows (own_rows rows) (row_count rows)
  found = loads_found loads

  code_found : found.code ≡ k
  code_found =
      let n : row_count rows ≡ 10 = omega (arith, h) in
      some_is (sym (code_is found.flow.code (row_count rows) (omega (arith, n))) ∙ (λ j. code_at (own_rows rows) (n j) (n j - 1)) ∙ e)

  abbrev flow : AcceptedFlow rows k found.cells found.type
  flow = record {
    loads = loads;
    first = found.store;
    flow = record {
      code = subst (ReadsCode (own_rows rows) (row_count rows - 1)) code_found found.flow.code;
      cells = found.flow.cells;
      typed = subst (λ k. CodeType found.cells [] k found.type) code_found found.flow.typed;
    };
  }

  first_is : {s : Store} → first_store (own_rows rows) 10 ≡ s → found.store ≡ s
  first_is d =
      let n : row_count rows ≡ 10 = omega (arith, h) in
      (cells_are found.flow.cells).1 ∙ ap (first_store (own_rows rows)) n ∙ d

-- ---- the cell, at row 1 and at row 3

abbrev shared : ℕ → Bool
shared k = eqb k 1

one_cell : Apart (λ k. 3) (Flagged shared)
one_cell j k p q e = eqb-true j 1 p ∙ sym (eqb-true k 1 q)

cell_agrees : Agrees (λ k. 3) (Flagged shared) (cells_at 1) (cells_at 3)
cell_agrees = record {
  content = λ k p. rw (eqb-true k 1 p) refl;
  inside = λ k p. rw (eqb-true k 1 p) (lit< tt);
  inside₁ = λ k p. lit< tt;
}

pub regroups : Regroups one other
regroups =
    let (z, e, f, z₁, e₁, f₁) = computed in
    record {
      a = a;
      b = a;
      c = c 1;
      cells = _;
      type = _;
      flow = flow one (words_of_lem rows_one refl) refl z e;
      shared = shared;
      named = ((tt, tt), (refl, tt));
      place = λ k. 3;
      apart = one_cell;
      cells₁ = _;
      type₁ = _;
      flow₁ = flow other (words_of_lem rows_other refl) refl z₁ e₁;
      firsts = rw (first_is one (words_of_lem rows_one refl) refl z e f, first_is other (words_of_lem rows_other refl) refl z₁ e₁ f₁) cell_agrees;
    }

-- so all that is promised holds of them
pub regrouped : Regrouped regroups
regrouped = regroup regroups
