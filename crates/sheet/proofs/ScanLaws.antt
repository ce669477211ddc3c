-- The scan of lines: what the functions of src/scan.rt read and keep, each way. Rests on formats' laws of lines.
use Rattle.std.specs.Prelude.{Some, None, Err}
use Rattle.std.specs.Bool.{then_some}
use mathlib.Core.Path.{◌≡◌, refl, sym, ap, subst, ◌∙◌}
use mathlib.Core.Bool.{Bool, true, false, ◌&&◌}
use mathlib.Core.Option.{Option as Maybe, none, some}
use mathlib.Core.List.{List, [], ◌∷◌, ◌++◌, map}
use Prim.Native.Nat.{ℕ, zero, suc, ◌+◌, ◌*◌, ◌-◌, ◌<◌}
use native.Mathlib.Numerals.{add-one}
use native.Mathlib.Omega.{arith}
use borrow.Author.Tests.{eq-eqb, eqb-true, eqb-false}
use borrow.Table.Steps.{cases}
use lib.Dec.{eqb}
use lib.IntN.{ℤ, pos}
use lib.ListN.{length, get_or, set, replicate, length-map, length-append}
use lib.Seq.{sets, get_or-set_same, get_or-set_other}
use mir.Syntax.{w32}
use mir.Val.{to_z, of_z}
use Rattle.word.specs.Word.{eq_z}
use Rattle.word.proofs.TwosComplement.{bits_lt, number_bits, number_low}
use Rattle.word.proofs.Order.{equal_number, eq_z_true}
use Rattle.word.proofs.Laid.{map-append}
use Rattle.decimal.specs.Field.{Field, number, blank, unreadable, row_columns, word_columns, newline, reads_at, reading}
use Rattle.decimal.specs.declared.field.Reading.TheVariants.{Number, Blank, Unreadable}
use Rattle.decimal.proofs.Answers.{number_read, blank_said, nothing_said}
use Rattle.decimal.proofs.WriteLaws.{sets_last}
use Rattle.formats.specs.Records.{total, place_of, number_said}
use Rattle.formats.specs.Lines.{line_columns, line_bytes, meant, unused_fields, line_fields, line_says, lines_say}
use Rattle.formats.proofs.LinesRead.{meant_number, RowTo, kind_in, field_meant, no_end, no_row, no_field, row_first, row_more, row_all, kind_read, lines_more, lines_none}
use Rattle.match_laws.proofs.Ranges.{and_left, and_right}
use Rattle.rows.specs.Rows.{max_rows, row_words}
use Rattle.rows.specs.Lent.{rows_size, own_rows}
use Rattle.rows.proofs.Basics.{no}
use Rattle.rows.proofs.LentLaws.{own_length, own_more}
use Rattle.rows.specs.declared.ground.Ground.TheVariants.{NotRead}
use Rattle.sheet.specs.Scan.{says_row, is_line, word_at, word_read, LinesRead}
use Rattle.sheet.proofs.LinesWords.{line_long, lines_long}

-- ---- where word k of a row stands

pub place_operand : (k : ℕ) → (k ≡ 0 → ⊥) → k < row_words → 2 * row_columns + (k - 1) * word_columns ≡ place_of line_columns (suc k)
place_operand zero n l = absurd (n refl)
place_operand (suc zero) n l = refl
place_operand (suc (suc zero)) n l = refl
place_operand (suc (suc (suc zero))) n l = refl
place_operand (suc (suc (suc (suc k)))) n l = absurd (omega arith)

-- and it ends before its line does
pub place_in : (k : ℕ) → k < row_words → place_of line_columns (suc k) < line_bytes
place_in zero l = omega arith
place_in (suc zero) l = omega arith
place_in (suc (suc zero)) l = omega arith
place_in (suc (suc (suc zero))) l = omega arith
place_in (suc (suc (suc (suc k)))) l = absurd (omega arith)

-- ---- the row's own number

-- a word's bits are a row's number exactly where the word is
row_is : (s : List ℕ) (at i n : ℕ) → i < max_rows → Number n ≡ reading (reads_at s at row_columns) → eqb n i ≡ says_row (reads_at s at row_columns) i
row_is s at i n l e =
    let d = number_read s at row_columns n e in
    let z = to_z w32 n in
    ap (λ n. eqb n i) (sym d.bits) ∙ equal_number (of_z w32 z) i (bits_lt z d.word) (omega arith) ∙ (λ k. eq_z (number_bits z d.word k) (number_low i (omega arith) k)) ∙ ap (λ f. says_row f i) (sym d.is)

-- ---- whether line i is one; `at` is where its byte 10 stands

module _ (s : List ℕ) (i at : ℕ) (there : at ≡ i * line_bytes + total line_columns) where
  module _ (ended : get_or s at 0 ≡ newline) where
    line_ended : is_line s i ≡ says_row (reads_at s (i * line_bytes) row_columns) i
    line_ended = let e = eq-eqb (get_or s (i * line_bytes + total line_columns) 0) newline (ap (λ k. get_or s k 0) (sym there) ∙ ended) in rw e

    pub line_row : (n : ℕ) → i < max_rows → Number n ≡ reading (reads_at s (i * line_bytes) row_columns) → eqb n i ≡ is_line s i
    line_row n l e = row_is s (i * line_bytes) i n l e ∙ sym line_ended

-- ---- word k of row i, as its kind means it

module _ (s : List ℕ) (i k kind at columns : ℕ) (p : at ≡ place_of line_columns (suc k)) (c : columns ≡ get_or line_columns (suc k) 0) where
  -- the field that is read
  abbrev field : Field
  field = reads_at s (i * line_bytes + at) columns

  field_is : meant (get_or (unused_fields kind) (suc k) false) field ≡ word_at s kind i k
  field_is = (λ j. meant (get_or (unused_fields kind) (suc k) false) (reads_at s (i * line_bytes + p j) (c j)))

  pub word_number : (n : ℕ) → Number n ≡ reading field → Some n ≡ word_read (number_said (word_at s kind i k))
  unfolding word_read number_said
  word_number n e =
      let d = number_read s (i * line_bytes + at) columns n e in
      let u = get_or (unused_fields kind) (suc k) false in
      ap Some (sym d.bits) ∙ ap (λ f. word_read (number_said f)) (sym (meant_number u (to_z w32 n)) ∙ ap (meant u) (sym d.is) ∙ field_is)

  pub word_blank : (u : Bool) → Blank ≡ reading field → u ≡ get_or (unused_fields kind) (suc k) false → then_some u 0 ≡ word_read (number_said (word_at s kind i k))
  unfolding word_read number_said meant
  word_blank u e f = by u ∙ (λ j. word_read (number_said (meant (f j) (sym (blank_said field e) j)))) ∙ ap (λ f. word_read (number_said f)) field_is
    where
      by : (u : Bool) → then_some u 0 ≡ word_read (number_said (meant u blank))
      by true = refl
      by false = refl

  pub word_unread : Unreadable ≡ reading field → None ≡ word_read (number_said (word_at s kind i k))
  unfolding word_read number_said meant
  word_unread e = by (get_or (unused_fields kind) (suc k) false) ∙ ap (λ f. word_read (number_said (meant (get_or (unused_fields kind) (suc k) false) f))) (sym (nothing_said field e)) ∙ ap (λ f. word_read (number_said f)) field_is
    where
      by : (u : Bool) → None ≡ word_read (number_said (meant u unreadable))
      by true = refl
      by false = refl

-- ---- a line

-- what a word that was read is
word_said : (x : ℕ) (o : Maybe ℤ) → Some x ≡ word_read o → (z : ℤ) × (o ≡ some z) × (x ≡ of_z w32 z)
unfolding word_read
word_said x none e = cc
word_said x (some z) e = (z, refl, cc)

word_none : (o : Maybe ℤ) → None ≡ word_read o → o ≡ none
unfolding word_read
word_none none e = refl
word_none (some z) e = cc

-- the first of several words that are set
first_set : (l : List ℕ) (i v : ℕ) (vs : List ℕ) → i < length l → get_or (sets l i (v ∷ vs)) i 0 ≡ v
first_set l i v vs h = later vs (set l i v) (suc i) (omega arith) ∙ get_or-set_same l i v 0 h
  where
    later : (vs l : List ℕ) (j : ℕ) → i < j → get_or (sets l j vs) i 0 ≡ get_or l i 0
    later [] l j m = refl
    later (v ∷ vs) l j m = later vs (set l j v) (suc j) (omega arith) ∙ get_or-set_other l j i v 0 (λ e. omega (arith, e, m))

module _ (s : List ℕ) (i : ℕ) where
  -- a field that says the number i, or not
  row_said : (f : Field) → says_row f i ≡ true → f ≡ number (pos i)
  row_said (number z) h = ap number (eq_z_true z (pos i) h)
  row_said blank h = no h
  row_said unreadable h = no h

  first_none : (f : Field) → number_said (meant false f) ≡ none → reads_at s (i * line_bytes) row_columns ≡ f → number_said (get_or (line_fields s i) 0 unreadable) ≡ none
  first_none f n g = ap number_said (field_meant s i 0 (omega arith)) ∙ ap (λ f. number_said (meant false f)) (ap (λ k. reads_at s k row_columns) {x = i * line_bytes + 0} {y = i * line_bytes} (omega arith) ∙ g) ∙ n

  not_said : (f : Field) → reads_at s (i * line_bytes) row_columns ≡ f → says_row f i ≡ false → line_says s i ≡ none
  unfolding number_said meant
  not_said (number z) g h = no_row s i z g h
  not_said blank g h = no_field s i 0 (omega arith) (first_none blank refl g)
  not_said unreadable g h = no_field s i 0 (omega arith) (first_none unreadable refl g)

  -- a line that is none says nothing
  pub line_none : (b : Bool) → b ≡ is_line s i → b ≡ false → line_says s i ≡ none
  line_none b e n = cases (eqb (get_or s (i * line_bytes + total line_columns) 0) newline)
      (λ y. not_said (reads_at s (i * line_bytes) row_columns) refl (ap (λ x. x && says_row (reads_at s (i * line_bytes) row_columns) i) (sym y) ∙ sym e ∙ n))
      (λ f. no_end s i (eqb-false (get_or s (i * line_bytes + total line_columns) 0) newline f))

  module _ (own₀ : List ℕ) where
    -- line i is one, and k words of it are read and kept
    pub record Kept (k : ℕ) (own : List ℕ) : Type 0 where
      pub ended : get_or s (i * line_bytes + total line_columns) 0 ≡ newline
      pub said : List ℤ
      pub long : length said ≡ k
      pub row : RowTo s i k said
      pub kept : own ≡ sets own₀ (i * row_words) (map (of_z w32) said)

    pub kept_none : (b : Bool) → b ≡ is_line s i → b ≡ true → Kept 0 own₀
    kept_none b e n =
        let ten = eqb (get_or s (i * line_bytes + total line_columns) 0) newline in
        let field = reads_at s (i * line_bytes) row_columns in
        let h = sym e ∙ n in
        record {
          ended = eqb-true (get_or s (i * line_bytes + total line_columns) 0) newline (and_left ten (says_row field i) h);
          said = [];
          long = refl;
          row = row_first s i (row_said field (and_right ten (says_row field i) h));
          kept = refl;
        }

    -- a word is read as its own row's kind, which is kept by then, means it
    module _ {k : ℕ} {own : List ℕ} (l : k < row_words) (room : i * row_words < length own₀) (h : Kept k own) where
      kind_kept : 0 < k → get_or own (i * row_words) 0 ≡ kind_in s i
      kind_kept o = ap (λ own. get_or own (i * row_words) 0) h.kept ∙ by h.said h.long ∙ sym (kind_read s i k h.said o (omega arith) h.row)
        where
          by : (zs : List ℤ) → length zs ≡ k → get_or (sets own₀ (i * row_words) (map (of_z w32) zs)) (i * row_words) 0 ≡ of_z w32 (get_or zs 0 (pos 0))
          by [] e = absurd (omega (arith, e, o))
          by (z ∷ zs) e = first_set own₀ (i * row_words) (of_z w32 z) (map (of_z w32) zs) room

      word_is : word_at s (get_or own (i * row_words) 0) i k ≡ get_or (line_fields s i) (suc k) unreadable
      word_is = by k l (λ o. kind_kept o) ∙ sym (field_meant s i (suc k) (omega arith))
        where
          by : (k : ℕ) → k < row_words → (0 < k → get_or own (i * row_words) 0 ≡ kind_in s i) → word_at s (get_or own (i * row_words) 0) i k ≡ word_at s (kind_in s i) i k
          by zero l f = refl
          by (suc k) l f = ap (λ n. word_at s n i (suc k)) (f (omega arith))

      -- it cannot be read
      pub line_stops : None ≡ word_read (number_said (word_at s (get_or own (i * row_words) 0) i k)) → line_says s i ≡ none
      line_stops e = no_field s i (suc k) (omega arith) (ap number_said (sym word_is) ∙ word_none (number_said (word_at s (get_or own (i * row_words) 0) i k)) e)

    pub kept_more : {k : ℕ} {own : List ℕ} (l : k < row_words) (room : i * row_words < length own₀) (h : Kept k own)
        → (x : ℕ) → Some x ≡ word_read (number_said (word_at s (get_or own (i * row_words) 0) i k)) → Kept (k + 1) (set own (i * row_words + k) x)
    kept_more {k} {own} l room h x e =
        let (z, f, b) = word_said x (number_said (word_at s (get_or own (i * row_words) 0) i k)) e in
        let g : number_said (get_or (line_fields s i) (suc k) unreadable) ≡ some z = ap number_said (sym (word_is l room h)) ∙ f in
        let m = length-map h.said (of_z w32) ∙ h.long in
        record {
          ended = h.ended;
          said = h.said ++ z ∷ [];
          long = length-append h.said (z ∷ []) ∙ ap (λ n. n + 1) h.long;
          row = subst (λ j. RowTo s i j (h.said ++ z ∷ [])) (sym (add-one k)) (row_more s i k h.said z (omega arith) h.row g);
          kept =
              (λ j. set (h.kept j) (i * row_words + sym m j) (b j)) ∙ sets_last own₀ (i * row_words) (map (of_z w32) h.said) (of_z w32 z)
              ∙ ap (sets own₀ (i * row_words)) (sym (map-append (of_z w32) h.said (z ∷ [])));
        }

    line_said : {k : ℕ} {own : List ℕ} → k ≡ row_words → (h : Kept k own) → line_says s i ≡ some h.said
    line_said {k} l h = row_all s i k h.said (omega (arith, l)) h.ended h.row

-- ---- the lines

module _ (s : List ℕ) where
  -- i lines are read, and kept over zeros
  pub record Rows (i : ℕ) (own : List ℕ) : Type 0 where
    pub said : List ℤ
    pub says : lines_say s i ≡ some said
    pub kept : own ≡ own_rows said

  pub rows_none : (own : List ℕ) → own ≡ replicate rows_size 0 → Rows 0 own
  unfolding lines_say
  rows_none own e = record { said = []; says = refl; kept = e }

  -- there is room for one more
  pub rows_room : {own : List ℕ} (i : ℕ) → i < max_rows → Rows i own → i * row_words < length own
  rows_room i l r = let a = lines_long s i r.says in let b = ap length r.kept ∙ own_length r.said (omega (arith, a, l)) in omega (arith, b, l)

  pub rows_more : {own own₁ : List ℕ} (i k : ℕ) → i < max_rows → k ≡ row_words → Rows i own → Kept s i own k own₁ → Rows (i + 1) own₁
  rows_more {own} i k l m r h =
      let e = line_said s i own m h in
      let a = lines_long s i r.says in
      let b = line_long s i e in
      record {
        said = r.said ++ h.said;
        says = ap (lines_say s) (add-one i) ∙ lines_more s i r.says e;
        kept = h.kept ∙ (λ j. sets (r.kept j) (sym a j) (map (of_z w32) h.said)) ∙ own_more r.said h.said (omega (arith, a, b));
      }

  pub rows_stop : (own : List ℕ) (i n : ℕ) → i < n → line_says s i ≡ none → LinesRead (lines_say s n) own (Err NotRead)
  rows_stop own i n l e = let q = lines_none s i n l e in rw q refl
