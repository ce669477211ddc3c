-- `load`, each way out: its number is the definition's, and so are the rows at exit. Rests on LinesWords.
use Rattle.std.specs.Prelude.{Result, Ok, Err}
use mathlib.Core.Path.{◌≡◌, refl, sym, ap, subst, ◌∙◌}
use mathlib.Core.Bool.{true, false, ◌&&◌}
use mathlib.Core.Option.{Option as Maybe, none, some}
use mathlib.Core.List.{List, map}
use Prim.Native.Nat.{ℕ, zero, suc, ◌*◌, ◌-◌, ◌/◌, ◌%◌, ◌≤◌}
use native.Mathlib.Omega.{arith}
use borrow.Author.Tests.{le-leb, leb-true, eq-eqb, ne_eqb, eqb-true}
use lib.Dec.{leb, eqb}
use lib.IntN.{ℤ}
use lib.ListN.{length, take, replicate, length-map}
use lib.Seq.{take_at}
use mir.Syntax.{w32}
use mir.Val.{to_z, of_z}
use Rattle.word.specs.Laid.{laid}
use Rattle.word.proofs.Laid.{laid_full}
use Rattle.word.proofs.Lists.{numbers_bits}
use Rattle.match_laws.proofs.Ranges.{and_left, and_right}
use Rattle.formats.specs.Lines.{line_bytes, lines_say}
use Rattle.rows.specs.GroundNumbers.{number_of_ground, answer_number}
use Rattle.rows.specs.declared.ground.Ground.{Ground}
use Rattle.rows.specs.declared.ground.Ground.TheVariants.{NotSized, NotRead, WrongMemory}
use Rattle.rows.proofs.GroundNumbers.{some_number}
use Rattle.rows.specs.Rows.{max_rows, row_words}
use Rattle.rows.specs.Lent.{rows_size, own_rows}
use Rattle.rows.specs.Ground.{ground_of_rows}
use Rattle.rows.proofs.LentLaws.{own_length}
use Rattle.sheet.specs.Sheet.{lines, sized, leaving, loaded_lines, loaded}
use Rattle.sheet.specs.Scan.{LinesRead}
use Rattle.sheet.proofs.LinesWords.{lines_long, lines_words}

-- ---- ground 1

module _ (m : ℕ) where
  -- the length of a text of 1 to 256 lines
  pub record Sized : Type 0 where
    pub some_lines : 1 ≤ m / line_bytes
    pub few : m / line_bytes ≤ max_rows
    pub whole : m ≡ m / line_bytes * line_bytes

  pub is_sized : sized m ≡ true → Sized
  unfolding sized
  is_sized h =
      let a = eqb (m % line_bytes) 0 in let b = leb 1 (m / line_bytes) in let c = leb (m / line_bytes) max_rows in
      let r = and_right a (b && c) h in
      let z = eqb-true (m % line_bytes) 0 (and_left a (b && c) h) in
      record { some_lines = leb-true 1 (m / line_bytes) (and_left b c r); few = leb-true (m / line_bytes) max_rows (and_right b c r); whole = omega (arith, z) }

  pub of_sized : (n : ℕ) → m ≡ n * line_bytes → 1 ≤ n → n ≤ max_rows → sized m ≡ true
  unfolding sized
  of_sized n e o f =
      let a : m % line_bytes ≡ 0 = omega (arith, e) in
      rw (eq-eqb (m % line_bytes) 0 a, le-leb 1 (m / line_bytes) (omega (arith, e)), le-leb (m / line_bytes) max_rows (omega (arith, e)))

-- ---- the numbers, in their order

pub leaving_ground : (g : ℕ) (ws rows : List ℤ) → (g ≡ 0 → ⊥) → leaving g ws rows ≡ (g, rows)
unfolding leaving
leaving_ground zero ws rows h = absurd (h refl)
leaving_ground (suc g) ws rows h = refl

module _ (s : List ℕ) (rows : List ℤ) where
  -- what is answered and left
  abbrev pub Answers : Result Unit Ground → List ℤ → Type 0
  Answers r out = (answer_number r ≡ (loaded s rows).0) × (out ≡ (loaded s rows).1)

  answers : (r : Result Unit Ground) {out : List ℤ} → loaded s rows ≡ (answer_number r, out) → Answers r out
  answers r e = (sym (ap (λ x. x.0) e), sym (ap (λ x. x.1) e))

  pub loaded_1 : sized (length s) ≡ false → loaded s rows ≡ (1, rows)
  unfolding loaded
  loaded_1 h = rw h

  pub loaded_21 : sized (length s) ≡ true → (length rows ≡ lines s * row_words → ⊥) → loaded s rows ≡ (21, rows)
  unfolding loaded
  loaded_21 h l = rw (h, ne_eqb (length rows) (lines s * row_words) l)

  pub answers_1 : sized (length s) ≡ false → Answers (Err NotSized) rows
  answers_1 h = answers (Err NotSized) (loaded_1 h)

  pub answers_21 : sized (length s) ≡ true → (length rows ≡ lines s * row_words → ⊥) → Answers (Err WrongMemory) rows
  answers_21 h l = answers (Err WrongMemory) (loaded_21 h l)

  module _ (h : sized (length s) ≡ true) (l : length rows ≡ lines s * row_words) where
    pub by_lines : loaded s rows ≡ loaded_lines (lines_say s (lines s)) (lines s) rows
    unfolding loaded
    by_lines = rw (h, eq-eqb (length rows) (lines s * row_words) l)

    pub answers_2 : (own : List ℕ) (g : Ground) (r : Result Unit Ground) → LinesRead (lines_say s (lines s)) own (Err g) → r ≡ Err g → Answers r rows
    unfolding loaded_lines
    answers_2 own g r q e = subst (λ r. Answers r rows) (sym e) (answers (Err g) (by_lines ∙ by (lines_say s (lines s)) q))
      where
        by : (o : Maybe (List ℤ)) → LinesRead o own (Err g) → loaded_lines o (lines s) rows ≡ (number_of_ground g, rows)
        by none k = let e : g ≡ NotRead = cc in rw e refl
        by (some ws) k = cc

    -- the words that the lines say, which are the scan's own
    module _ (own : List ℕ) (q : LinesRead (lines_say s (lines s)) own (Ok tt)) where
      said : (ws : List ℤ) × (lines_say s (lines s) ≡ some ws) × (own ≡ own_rows ws)
      said = by (lines_say s (lines s)) refl q
        where
          by : (o : Maybe (List ℤ)) → lines_say s (lines s) ≡ o → LinesRead o own (Ok tt) → (ws : List ℤ) × (lines_say s (lines s) ≡ some ws) × (own ≡ own_rows ws)
          by none e k = cc
          by (some ws) e k = (ws, e, k.1)

      pub own_long : length own ≡ rows_size
      own_long =
          let (ws, e, o) = said in
          let z = (is_sized (length s) h).few in
          let m = lines_long s (lines s) e in
          ap length o ∙ own_length ws (omega (arith, m, z))

      by_rows : (g : ℕ) → g ≡ ground_of_rows own (lines s) → loaded s rows ≡ leaving g said.0 rows
      unfolding loaded_lines
      by_rows g q =
          let (ws, e, o) = said in
          by_lines ∙ ap (λ o. loaded_lines o (lines s) rows) e ∙ ap (λ g. leaving g ws rows) (sym (q ∙ ap (λ o. ground_of_rows o (lines s)) o))

      pub answers_rows : (g : Ground) (r : Result Unit Ground) → number_of_ground g ≡ ground_of_rows own (lines s) → r ≡ Err g → Answers r rows
      answers_rows g r q e = subst (λ r. Answers r rows) (sym e) (answers (Err g) (by_rows (number_of_ground g) q ∙ leaving_ground (number_of_ground g) said.0 rows (some_number g)))

      copied : laid (to_z w32) own rows ≡ said.0
      copied =
          let (ws, e, o) = said in
          let k = own_long in
          let m = lines_long s (lines s) e in
          let z = (is_sized (length s) h).few in
          laid_full (to_z w32) own rows (omega (arith, k, l, z))
          ∙ ap (map (to_z w32)) (ap (take (length rows)) o ∙ take_at (map (of_z w32) ws) (replicate (rows_size - length ws) 0) (length rows) (length-map ws (of_z w32) ∙ m ∙ sym l))
          ∙ numbers_bits ws (lines_words s (lines s) e)

      pub answers_0 : (out : List ℤ) → 0 ≡ ground_of_rows own (lines s) → out ≡ laid (to_z w32) own rows → Answers (Ok tt) out
      unfolding leaving
      answers_0 out q c = answers (Ok tt) (by_rows 0 q ∙ ap (λ ws. (0, ws)) (sym (c ∙ copied)))
