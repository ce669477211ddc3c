-- Accepted flows: rows memory of words passes the test of ground 20 exactly where some accepted sheet loads to it; then it is an accepted
-- flow, of one code, one list of cells' types, one first store and one type. Rests on LoadAnswered, sheet's theorem of ground 20 and rows' one-flow.
use mathlib.Core.Path.{◌≡◌, subst}
use mathlib.Core.Bool.{true, false}
use mathlib.Core.List.{List}
use borrow.Table.Steps.{cases}
use lib.IntN.{ℤ}
use Rattle.word.specs.Word.{AllWords}
use Rattle.tophat.specs.Syntax.{Ty, Code}
use Rattle.rows.specs.Lent.{own_rows, row_count}
use Rattle.rows.specs.Accepted.{AcceptedRows}
use Rattle.rows.proofs.Accepted.{accepted}
use Rattle.rows.proofs.GroundZero.{SameFlow, one_flow}
use Rattle.sheet.specs.Accepted.{accepts_rows}
use Rattle.sheet.proofs.AcceptedRows.{Passed, passed_of, of_passed, loaded_passes, passed_loads}
use Rattle.call_definitions.specs.Answers.{LoadAnswers, Loads, AcceptedFlow}
use Rattle.call_definitions.proofs.LoadAnswered.{load_derived, load_only}

module _ {rows : List ℤ} where
  pub loads_passed : Loads rows → Passed rows
  loads_passed l = (loaded_passes l.text l.memory rows (load_only l.text l.memory l.loads)).0

  -- loaded rows are words
  pub loads_words : Loads rows → AllWords rows
  loads_words l = (loaded_passes l.text l.memory rows (load_only l.text l.memory l.loads)).1

  pub loads_accepts : Loads rows → accepts_rows rows ≡ true
  loads_accepts l = of_passed rows (loads_passed l)

  pub accepts_loads : AllWords rows → accepts_rows rows ≡ true → Loads rows
  accepts_loads w h =
      let (s, e) = passed_loads rows w (passed_of rows h) in
      record { text = s; memory = rows; loads = subst (λ r. LoadAnswers s rows r.0 r.1) e (load_derived s rows) }

  pub accepts_not : (Loads rows → ⊥) → AllWords rows → accepts_rows rows ≡ false
  accepts_not n w = cases (accepts_rows rows) (λ t. absurd (n (accepts_loads w t))) (λ f. f)

  -- all that the grounds leave of them
  pub loads_found : Loads rows → AcceptedRows (own_rows rows) (row_count rows)
  loads_found l = let p = loads_passed l in accepted (own_rows rows) (row_count rows) p.some_rows p.ground_is

  -- they are an accepted flow
  pub flow_of : Loads rows → (c : Code) × (Σ : List Ty) × (τ : Ty) × AcceptedFlow rows c Σ τ
  flow_of l = let f = loads_found l in (f.code, f.cells, f.type, record { loads = l; first = f.store; flow = f.flow })

  -- of one code, list of cells' types, first store and type
  pub flow_one : {c c₁ : Code} {Σ Σ₁ : List Ty} {τ τ₁ : Ty} (a : AcceptedFlow rows c Σ τ) (b : AcceptedFlow rows c₁ Σ₁ τ₁) → SameFlow c c₁ Σ Σ₁ a.first b.first τ τ₁
  flow_one a b = one_flow a.flow b.flow
