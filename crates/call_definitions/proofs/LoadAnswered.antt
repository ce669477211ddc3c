-- Load by the rules alone: for every text and every rows memory the relation derives what load answers and leaves, and nothing else. Rests on
-- sheet's laws of load and on rows' theorem of grounds.
use mathlib.Core.Path.{◌≡◌, refl, sym, ap, subst, ◌∙◌}
use mathlib.Core.Bool.{true}
use mathlib.Core.Option.{Option, none, some}
use mathlib.Core.List.{List}
use Prim.Native.Nat.{ℕ, zero, suc, ◌*◌, ◌/◌}
use native.Mathlib.Omega.{arith}
use borrow.Author.Tests.{eqb-true, eqb-false}
use borrow.Table.Steps.{cases}
use lib.Dec.{eqb}
use lib.IntN.{ℤ}
use lib.ListN.{length}
use Rattle.formats.specs.Lines.{line_bytes, lines_say}
use Rattle.rows.specs.Rows.{row_words}
use Rattle.rows.specs.Lent.{own_rows}
use Rattle.rows.specs.Ground.{RowsGround, rows_0, ground_of_rows}
use Rattle.rows.proofs.Basics.{no}
use Rattle.rows.proofs.GroundZero.{ground_derived, ground_only}
use Rattle.sheet.specs.Sheet.{lines, sized, leaving, loaded_lines, loaded}
use Rattle.sheet.proofs.LoadLaws.{is_sized, of_sized, loaded_1, loaded_21, by_lines}
use Rattle.call_definitions.specs.Answers.{HasLines, Reads, LoadAnswers, load_1, load_21, load_2, load_rows, load_0}

module _ (text : List ℕ) (memory : List ℤ) where
  -- ---- lines

  has_lines : sized (length text) ≡ true → HasLines text (lines text)
  has_lines h = let z = is_sized (length text) h in record { some_lines = z.some_lines; few = z.few; whole = z.whole }

  is_size : {n : ℕ} → HasLines text n → sized (length text) ≡ true
  is_size {n} l = of_sized (length text) n l.whole l.some_lines l.few

  line_count : {n : ℕ} → HasLines text n → lines text ≡ n
  line_count l = ap (λ k. k / line_bytes) l.whole ∙ omega arith

  -- ---- what load answers is derived

  abbrev Derived : ℕ × List ℤ → Type 0
  Derived r = LoadAnswers text memory r.0 r.1

  module _ (l : HasLines text (lines text)) (r : length memory ≡ lines text * row_words) where
    by_ground : (ws : List ℤ) → lines_say text (lines text) ≡ some ws → (g : ℕ) → RowsGround (own_rows ws) (lines text) g → Derived (leaving g ws memory)
    unfolding leaving
    by_ground ws e zero (rows_0 f k i) = load_0 (record { lines = l; room = r; says = e }) f k i.flow
    by_ground ws e (suc g) d = load_rows (record { lines = l; room = r; says = e }) d

    by_said : (o : Option (List ℤ)) → lines_say text (lines text) ≡ o → Derived (loaded_lines o (lines text) memory)
    unfolding loaded_lines
    by_said none e = load_2 l r e
    by_said (some ws) e = by_ground ws e (ground_of_rows (own_rows ws) (lines text)) (ground_derived (own_rows ws) (lines text) l.some_lines)

  pub load_derived : Derived (loaded text memory)
  load_derived = cases (sized (length text))
      (λ t. cases (eqb (length memory) (lines text * row_words))
      (λ r. let m = eqb-true _ _ r in subst Derived (sym (by_lines text memory t m)) (by_said (has_lines t) m (lines_say text (lines text)) refl))
      (λ f. let m = eqb-false _ _ f in subst Derived (sym (loaded_21 text memory t m)) (load_21 (has_lines t) m)))
      (λ f. subst Derived (sym (loaded_1 text memory f)) (load_1 (λ n l. no (sym f ∙ is_size l))))

  -- ---- and nothing else

  by_reads : {n : ℕ} {ws : List ℤ} → Reads text memory n ws → loaded text memory ≡ leaving (ground_of_rows (own_rows ws) n) ws memory
  unfolding loaded_lines
  by_reads {n} {ws} r =
      let l = r.lines in
      let c = line_count l in
      by_lines text memory (is_size l) (r.room ∙ ap (λ k. k * row_words) (sym c)) ∙ (λ j. loaded_lines (lines_say text (c j)) (c j) memory) ∙ ap (λ o. loaded_lines o n memory) r.says

  pub load_only : {g : ℕ} {rows : List ℤ} → LoadAnswers text memory g rows → loaded text memory ≡ (g, rows)
  unfolding loaded_lines leaving
  load_only (load_1 h) = cases (sized (length text)) (λ t. absurd (h (lines text) (has_lines t))) (λ f. loaded_1 text memory f)
  load_only (load_21 l h) = loaded_21 text memory (is_size l) (λ e. h (e ∙ ap (λ k. k * row_words) (line_count l)))
  load_only (load_2 {n} l r e) =
      let c = line_count l in
      by_lines text memory (is_size l) (r ∙ ap (λ k. k * row_words) (sym c)) ∙ (λ j. loaded_lines (lines_say text (c j)) (c j) memory) ∙ ap (λ o. loaded_lines o n memory) e
  load_only (load_rows {n} {g} {ws} r d) = by_reads r ∙ ap (λ g. leaving g ws memory) (ground_only (own_rows ws) n r.lines.some_lines d)
  load_only (load_0 {n} {ws} r f k i) = by_reads r
      ∙ ap (λ g. leaving g ws memory) (ground_only (own_rows ws) n r.lines.some_lines (rows_0 f k (record { code = _; cells = _; store = _; type = _; flow = i })))
