-- THE THEOREM of ground 20: rows memory of words passes its test exactly when some accepted sheet loads to it. Rests on WrittenSheet,
-- LoadLaws and the rows that get 0.
use mathlib.Core.Path.{◌≡◌, refl, sym, ap, subst, ◌∙◌}
use mathlib.Core.Bool.{Bool, true, false, not, ◌&&◌, cond}
use mathlib.Core.Option.{Option, none, some}
use mathlib.Core.List.{List, map}
use mathlib.Core.Logic.{⊎_elim}
use Prim.Native.Nat.{ℕ, zero, suc, ◌+◌, ◌*◌, ◌/◌, ◌%◌, ◌<◌, ◌≤◌}
use native.Mathlib.Omega.{arith}
use borrow.Author.Tests.{le-leb, leb-true, eq-eqb, ne_eqb, eqb-true, eqb-false, not-true}
use lib.Dec.{leb, eqb}
use lib.IntN.{ℤ, pos}
use lib.ListN.{length, get_or, length-map, get_or-append}
use mir.Syntax.{w32}
use mir.Val.{of_z}
use Rattle.match_laws.proofs.Ranges.{and_left, and_right}
use Rattle.word.specs.Word.{AllWords}
use Rattle.word.proofs.TwosComplement.{number_bits, number_low}
use Rattle.word.proofs.Lists.{bits_at}
use Rattle.decimal.specs.Field.{row_columns}
use Rattle.formats.specs.Lines.{line_bytes, lines_say}
use Rattle.formats.proofs.Items.{Fits, number_fits}
use Rattle.rows.specs.Kinds.{kind_limit}
use Rattle.rows.specs.Rows.{max_rows, row_words, word, op_a, op_b, op_c, listed, truth_cell, row_listed}
use Rattle.rows.specs.Lent.{own_rows, row_count}
use Rattle.rows.specs.Ground.{ground_of_rows, passes3}
use Rattle.rows.proofs.Basics.{no, le_or_lt, every_at}
use Rattle.rows.proofs.KindNumbers.{no_asks_lem, kind_past}
use Rattle.rows.proofs.GroundZero.{zero_flow}
use Rattle.grounds.specs.Accepted.{accepted_rows}
use Rattle.sheet.specs.Sheet.{lines, sized, leaving, loaded_lines, loaded}
use Rattle.sheet.specs.Accepted.{accepts_rows}
use Rattle.sheet.proofs.LinesWords.{lines_long, lines_words}
use Rattle.sheet.proofs.LoadLaws.{is_sized, of_sized, by_lines}
use Rattle.sheet.proofs.WrittenSheet.{sheet_text, sheet_length, sheet_says}

-- ---- a listed kind fits its columns

unlisted : (rs : List ℕ) (i : ℕ) → kind_limit ≤ word rs i 0 → row_listed rs i ≡ true → ⊥
unfolding row_listed listed
unlisted rs i h g =
    let e = subst (λ s. (listed s (op_a rs i) (op_b rs i) (op_c rs i) && truth_cell rs i) ≡ true) (no_asks_lem (word rs i 0) (kind_past (word rs i 0) h)) g in
    no (and_left false (truth_cell rs i) e)

kind_low : (rs : List ℕ) (i : ℕ) → row_listed rs i ≡ true → word rs i 0 < kind_limit
kind_low rs i h = ⊎_elim (λ (l : kind_limit ≤ word rs i 0). absurd (unlisted rs i l h)) (λ l. l) (le_or_lt kind_limit (word rs i 0))

kinds_low : (rs : List ℕ) (n : ℕ) → 1 ≤ n → ground_of_rows rs n ≡ 0 → (i : ℕ) → i < n → word rs i 0 < 10000
unfolding passes3
kinds_low rs n l h i g = let k = kind_low rs i (every_at n (λ i. row_listed rs i) (zero_flow rs n l h).0.listed i g) in omega (arith, k)

-- ---- the test

-- 1 to 256 whole rows that get no ground
pub record Passed (rows : List ℤ) : Type 0 where
  pub some_rows : 1 ≤ row_count rows
  pub few : row_count rows ≤ max_rows
  pub whole : length rows ≡ row_count rows * row_words
  pub ground_is : ground_of_rows (own_rows rows) (row_count rows) ≡ 0

positive : (n : ℕ) → (n ≡ 0 → ⊥) → 1 ≤ n
positive zero h = absurd (h refl)
positive (suc n) h = omega arith

module _ (rows : List ℤ) where
  pub passed_of : accepts_rows rows ≡ true → Passed rows
  unfolding accepts_rows accepted_rows
  passed_of h =
      let rs = own_rows rows in let n = row_count rows in
      let a = eqb (length rows) 0 in let b = leb (length rows) (max_rows * row_words) in let c = eqb (length rows % row_words) 0 in let d = eqb (ground_of_rows rs n) 0 in
      let v = and_right (not a) (b && (c && d)) h in
      let x = and_right b (c && d) v in
      let o = eqb-false (length rows) 0 (not-true a (and_left (not a) (b && (c && d)) h)) in
      let f = leb-true (length rows) (max_rows * row_words) (and_left b (c && d) v) in
      let u : length rows % row_words ≡ 0 = eqb-true (length rows % row_words) 0 (and_left c d x) in
      let e : length rows ≡ n * row_words = omega (arith, u) in
      record { some_rows = positive n (λ z. o (e ∙ ap (λ k. k * row_words) z)); few = omega (arith, f); whole = e; ground_is = eqb-true (ground_of_rows rs n) 0 (and_right c d x) }

  pub of_passed : Passed rows → accepts_rows rows ≡ true
  unfolding accepts_rows accepted_rows
  of_passed p =
      let o = p.some_rows in let f = p.few in let e = p.whole in
      let u : length rows % row_words ≡ 0 = omega (arith, e) in
      rw (
        ne_eqb (length rows) 0 (λ z. omega (arith, o, e, z)),
        le-leb (length rows) (max_rows * row_words) (omega (arith, f, e)),
        eq-eqb (length rows % row_words) 0 u,
        eq-eqb (ground_of_rows (own_rows rows) (row_count rows)) 0 p.ground_is,
      )

-- ---- rows that pass are said by a text

module _ (rows : List ℤ) (w : AllWords rows) (p : Passed rows) where
  abbrev n : ℕ
  n = row_count rows

  kind_fits : (i : ℕ) → i < n → Fits (row_columns, get_or rows (i * row_words + 0) (pos 0))
  kind_fits i l =
      let z = get_or rows (i * row_words + 0) (pos 0) in
      let e = p.whole in
      let m = length-map rows (of_z w32) in
      let b : word (own_rows rows) i 0 ≡ of_z w32 z = get_or-append (map (of_z w32) rows) _ 0 (i * row_words + 0) (omega (arith, m, e, l)) ∙ bits_at rows (i * row_words + 0) in
      let k = kinds_low (own_rows rows) n p.some_rows p.ground_is i l in
      let q : pos (of_z w32 z) ≡ z = sym (number_low (of_z w32 z) (omega (arith, b, k))) ∙ number_bits z (w (i * row_words + 0)) in
      subst (λ z. Fits (row_columns, z)) q (number_fits row_columns (of_z w32 z) (omega arith) (omega (arith, b, k)) (omega (arith, b, k)))

  pub passed_loads : (s : List ℕ) × (loaded s rows ≡ (0, rows))
  unfolding loaded_lines leaving
  passed_loads =
      let s = sheet_text rows n in
      let f = p.few in
      let l = sheet_length rows n f w kind_fits n (omega arith) in
      let c : lines s ≡ n = ap (λ k. k / line_bytes) l ∙ omega arith in
      let z = of_sized (length s) n l p.some_rows f in
      let e = sheet_says rows n f w kind_fits p.whole in
      (s, by_lines s rows z (p.whole ∙ ap (λ k. k * row_words) (sym c)) ∙ (λ j. loaded_lines (lines_say s (c j)) (c j) rows) ∙ ap (λ o. loaded_lines o n rows) e ∙ ap (λ g. leaving g rows rows) p.ground_is)

-- ---- what load leaves with 0 passes

module _ (s : List ℕ) (memory rows : List ℤ) where
  chosen : {A : Type 0} (b : Bool) (x : ℕ × List ℤ) (g : ℕ) → cond b x (g, memory) ≡ (0, rows) → (g ≡ 0 → ⊥) → (b ≡ true → x ≡ (0, rows) → A) → A
  chosen true x g h z f = f refl h
  chosen false x g h z f = absurd (z (ap (λ x. x.0) h))

  by_ground : (g : ℕ) (ws : List ℤ) → leaving g ws memory ≡ (0, rows) → (g ≡ 0) × (ws ≡ rows)
  unfolding leaving
  by_ground zero ws h = (refl, ap (λ x. x.1) h)
  by_ground (suc g) ws h = let z = ap (λ x. x.0) h in absurd (omega (arith, z))

  by_said : (n : ℕ) (o : Option (List ℤ)) → lines_say s n ≡ o → 1 ≤ n → n ≤ max_rows → loaded_lines o n memory ≡ (0, rows) → Passed rows × AllWords rows
  unfolding loaded_lines
  by_said n none e a b h = let z = ap (λ x. x.0) h in absurd (omega (arith, z))
  by_said n (some ws) e a b h =
      let (g, q) = by_ground (ground_of_rows (own_rows ws) n) ws h in
      let l : length rows ≡ n * row_words = ap length (sym q) ∙ lines_long s n e in
      let c : row_count rows ≡ n = omega (arith, l) in (
        record { some_rows = omega (arith, c); few = omega (arith, c); whole = omega (arith, c, l); ground_is = (λ j. ground_of_rows (own_rows (sym q j)) (c j)) ∙ g },
        subst AllWords q (lines_words s n e),
      )

  pub loaded_passes : loaded s memory ≡ (0, rows) → Passed rows × AllWords rows
  unfolding loaded
  loaded_passes h =
      chosen (sized (length s)) _ 1 h (λ z. omega (arith, z)) (λ a g.
      chosen (eqb (length memory) (lines s * row_words)) _ 21 g (λ z. omega (arith, z)) (λ b k.
      let z = is_sized (length s) a in
      by_said (lines s) (lines_say s (lines s)) refl z.some_lines z.few k))
