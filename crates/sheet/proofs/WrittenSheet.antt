-- Rows written as a sheet: words, four a row, whose kinds fit their columns, are what the lines of some text say. Rests on formats' laws of
-- lines.
use mathlib.Core.Path.{◌≡◌, refl, sym, ap, ◌∙◌}
use mathlib.Core.Option.{some}
use mathlib.Core.List.{List, [], ◌∷◌, ◌++◌, append-nil, append_assoc}
use mathlib.Core.Logic.{⊎_elim}
use Prim.Native.Nat.{ℕ, zero, suc, ◌+◌, ◌*◌, ◌<◌, ◌≤◌}
use native.Mathlib.Nat.{eq-or-lt_of_le, le_of_suc-le-suc}
use native.Mathlib.Omega.{arith}
use lib.IntN.{ℤ, pos}
use lib.ListN.{length, take, drop, get_or, length-append, length-drop}
use lib.Seq.{get_or-drop, take-add, take-length}
use Rattle.word.specs.Word.{AllWords}
use Rattle.decimal.specs.Field.{row_columns}
use Rattle.formats.specs.Lines.{line_bytes, line_says, lines_say, line_text}
use Rattle.formats.proofs.Items.{Fits}
use Rattle.formats.proofs.LinesRead.{line_length, line_said, lines_more}
use Rattle.rows.specs.Rows.{max_rows, row_words}

-- number k of row i, and all of them
abbrev number_at : List ℤ → ℕ → ℕ → ℤ
number_at ws i k = get_or ws (i * row_words + k) (pos 0)

abbrev row_at : List ℤ → ℕ → List ℤ
row_at ws i = number_at ws i 0 ∷ number_at ws i 1 ∷ number_at ws i 2 ∷ number_at ws i 3 ∷ []

unfoldable pub sheet_text : List ℤ → ℕ → List ℕ
sheet_text ws zero = []
sheet_text ws (suc i) = sheet_text ws i ++ line_text i (row_at ws i)

-- ---- four words more

first_row : (l : List ℤ) → row_words ≤ length l → take row_words l ≡ get_or l 0 (pos 0) ∷ get_or l 1 (pos 0) ∷ get_or l 2 (pos 0) ∷ get_or l 3 (pos 0) ∷ []
first_row [] h = absurd (omega arith)
first_row (a ∷ []) h = absurd (omega arith)
first_row (a ∷ b ∷ []) h = absurd (omega arith)
first_row (a ∷ b ∷ c ∷ []) h = absurd (omega arith)
first_row (a ∷ b ∷ c ∷ d ∷ l) h = refl

row_more : (ws : List ℤ) (i : ℕ) → suc i * row_words ≤ length ws → take (suc i * row_words) ws ≡ take (i * row_words) ws ++ row_at ws i
row_more ws i h =
    let k = i * row_words in
    ap (λ n. take n ws) {x = suc i * row_words} {y = k + row_words} (omega arith) ∙ take-add k row_words ws ∙ ap (λ r. take k ws ++ r)
    (first_row (drop k ws) (let d = length-drop k ws in omega (arith, d, h))
    ∙ (λ j. get_or-drop k ws 0 (pos 0) j ∷ get_or-drop k ws 1 (pos 0) j ∷ get_or-drop k ws 2 (pos 0) j ∷ get_or-drop k ws 3 (pos 0) j ∷ []))

-- ---- the text says them

module _ (ws : List ℤ) (n : ℕ) (few : n ≤ max_rows) (words : AllWords ws) (kinds : (i : ℕ) → i < n → Fits (row_columns, number_at ws i 0)) where
  row_length : (i : ℕ) → i < n → length (line_text i (row_at ws i)) ≡ line_bytes
  row_length i h = line_length i _ _ _ _ (omega arith) (kinds i h) (words (i * row_words + 1)) (words (i * row_words + 2)) (words (i * row_words + 3))

  pub sheet_length : (m : ℕ) → m ≤ n → length (sheet_text ws m) ≡ m * line_bytes
  unfolding sheet_text
  sheet_length zero h = refl
  sheet_length (suc m) h =
      let a = length-append (sheet_text ws m) (line_text m (row_at ws m)) in
      let b = sheet_length m (omega arith) in
      let c = row_length m (omega arith) in
      omega (arith, a, b, c)

  -- line i stands after those before it
  line_in : (m i : ℕ) → i < m → (r : List ℕ) × (sheet_text ws m ≡ sheet_text ws i ++ (line_text i (row_at ws i) ++ r))
  unfolding sheet_text
  line_in zero i h = absurd (omega arith)
  line_in (suc m) i h = ⊎_elim
      (λ (e : i ≡ m). ([], ap (λ k. sheet_text ws k ++ line_text k (row_at ws k)) (sym e) ∙ ap (λ l. sheet_text ws i ++ l) (sym (append-nil (line_text i (row_at ws i))))))
      (λ (b : i < m).
      let (r, e) = line_in m i b in
      let t = line_text i (row_at ws i) in
      let u = line_text m (row_at ws m) in
      (r ++ u, ap (λ l. l ++ u) e ∙ append_assoc (sheet_text ws i) (t ++ r) u ∙ ap (λ l. sheet_text ws i ++ l) (append_assoc t r u)))
      (eq-or-lt_of_le (le_of_suc-le-suc h))

  line_is : (i : ℕ) → i < n → line_says (sheet_text ws n) i ≡ some (row_at ws i)
  line_is i h =
      let (r, e) = line_in n i h in
      ap (λ s. line_says s i) e
      ∙ line_said i _ _ _ _ (omega arith) (kinds i h) (words (i * row_words + 1)) (words (i * row_words + 2)) (words (i * row_words + 3)) (sheet_text ws i) r (sheet_length i (omega arith))

  lines_are : length ws ≡ n * row_words → (i : ℕ) → i ≤ n → lines_say (sheet_text ws n) i ≡ some (take (i * row_words) ws)
  unfolding lines_say
  lines_are l zero h = refl
  lines_are l (suc i) h = lines_more (sheet_text ws n) i (lines_are l i (omega arith)) (line_is i (omega arith)) ∙ ap some (sym (row_more ws i (omega (arith, l))))

  pub sheet_says : length ws ≡ n * row_words → lines_say (sheet_text ws n) n ≡ some ws
  sheet_says l = lines_are l n (omega arith) ∙ ap some (ap (λ k. take k ws) (sym l) ∙ take-length ws)
