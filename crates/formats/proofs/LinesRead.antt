-- The lines of a sheet: the text of a row is read back, and what the loops over lines and their fields have read. Rests on Records and
-- Each.
use mathlib.Core.Path.{◌≡◌, refl, sym, ap, ap₂, subst, ◌∙◌}
use mathlib.Core.Logic.{⊎_elim}
use mathlib.Core.Bool.{Bool, true, false, cond}
use mathlib.Core.Option.{Option, none, some, bind}
use mathlib.Core.List.{List, [], ◌∷◌, ◌++◌, append_assoc, map}
use Prim.Native.Nat.{ℕ, zero, suc, ◌+◌, ◌*◌, ◌<◌}
use native.Mathlib.Nat.{eq-or-lt_of_le, le_of_suc-le-suc}
use native.Mathlib.Omega.{arith}
use borrow.Author.Tests.{eq-eqb, ne_eqb}
use lib.Dec.{lit<, eqb}
use lib.IntN.{ℤ, pos}
use lib.ListN.{length, get_or, take, drop, length-append}
use lib.Seq.{get_or_at, take_all, length-take-le, get_or-take}
use mir.Syntax.{w32}
use mir.Val.{of_z}
use Rattle.word.specs.Word.{IsWord, eq_z}
use Rattle.word.proofs.Order.{eq_z_refl}
use Rattle.decimal.specs.Field.{Field, number, blank, unreadable, row_columns, newline, reads_at}
use Rattle.rows.specs.Kinds.{Asks, asks, no_asks, asks_of, unused_by}
use Rattle.formats.specs.Records.{total, place_of, fields_at, number_said, each, Item, items_text, items_in}
use Rattle.formats.specs.Lines.{line_columns, line_bytes, meant, meant_all, kind_word, unused_fields, line_fields, after_row, line_says, lines_say, line_text}
use Rattle.formats.proofs.Items.{Fits, number_fits, word_fits}
use Rattle.formats.proofs.Each.{each_at, each_more, each_none, number_said_lem, numbers_said}
use Rattle.formats.proofs.Records.{AllFit, fit_none, fit_more, items_length, items_in_lem, fields_length, field_at, OfWords, no_fields, more_fields}

-- ---- fields as they are meant

-- numbers are
pub meant_number : (u : Bool) (z : ℤ) → meant u (number z) ≡ number z
unfolding meant
meant_number true z = refl
meant_number false z = refl

meant_numbers : (us : List Bool) (zs : List ℤ) → meant_all us (map number zs) ≡ map number zs
unfolding meant_all
meant_numbers [] zs = refl
meant_numbers (u ∷ us) [] = refl
meant_numbers (u ∷ us) (z ∷ zs) = ap₂ ◌∷◌ (meant_number u z) (meant_numbers us zs)

meant_length : (us : List Bool) (fs : List Field) → length (meant_all us fs) ≡ length fs
unfolding meant_all
meant_length [] fs = refl
meant_length (u ∷ us) [] = refl
meant_length (u ∷ us) (f ∷ fs) = ap suc (meant_length us fs)

meant_at : (us : List Bool) (fs : List Field) (k : ℕ) → k < length us → k < length fs → get_or (meant_all us fs) k unreadable ≡ meant (get_or us k false) (get_or fs k unreadable)
unfolding meant_all
meant_at [] fs k l m = absurd (omega arith)
meant_at (u ∷ us) [] k l m = absurd (omega arith)
meant_at (u ∷ us) (f ∷ fs) zero l m = refl
meant_at (u ∷ us) (f ∷ fs) (suc k) l m = meant_at us fs k (omega arith) (omega arith)

-- a flag for each field of a line
pub unused_long : (n : ℕ) → length (unused_fields n) ≡ length line_columns
unfolding unused_by
unused_long n = by (asks_of n)
  where
    by : (q : Asks) → length (false ∷ false ∷ unused_by q) ≡ length line_columns
    by (asks a b c o x) = refl
    by no_asks = refl

-- row number and kind are never unused
pub number_and_kind_used : (n : ℕ) → (get_or (unused_fields n) 0 false ≡ false) × (get_or (unused_fields n) 1 false ≡ false)
number_and_kind_used n = (refl, refl)

-- words stay words
pub meant_words : (us : List Bool) {fs : List Field} → OfWords fs → OfWords (meant_all us fs)
unfolding meant_all meant
meant_words [] d = d
meant_words (u ∷ us) no_fields = no_fields
meant_words (u ∷ us) (more_fields {f} {fs} w d) = more_fields (by u f w) (meant_words us d)
  where
    by : (u : Bool) (f : Field) → ((z : ℤ) → f ≡ number z → IsWord z) → (z : ℤ) → meant u f ≡ number z → IsWord z
    by u (number y) w z e = w z (sym (meant_number u y) ∙ e)
    by true blank w z e = let q : pos 0 ≡ z = cc in subst IsWord q (lit< tt)
    by false blank w z e = let a : ◌≡◌ {A = ℕ} 0 1 = cc in absurd (omega arith)
    by true unreadable w z e = let a : ◌≡◌ {A = ℕ} 0 1 = cc in absurd (omega arith)
    by false unreadable w z e = let a : ◌≡◌ {A = ℕ} 0 1 = cc in absurd (omega arith)

-- ---- the text of a row is read back

-- row i of a kind that fits its columns, and words
module _ (i : ℕ) (k a b c : ℤ) (row : i < 10000) (kind : Fits (row_columns, k)) (wa : IsWord a) (wb : IsWord b) (wc : IsWord c) where
  abbrev said : List ℤ
  said = k ∷ a ∷ b ∷ c ∷ []

  abbrev fields : List Item
  fields = items_in line_columns (pos i ∷ said)

  fit : AllFit fields
  fit = fit_more (number_fits row_columns i (omega arith) (omega arith) (omega arith)) (fit_more kind (fit_more (word_fits a wa) (fit_more (word_fits b wb) (fit_more (word_fits c wc) fit_none))))

  pub line_length : length (line_text i said) ≡ line_bytes
  line_length = length-append (items_text fields) (newline ∷ []) ∙ ap (λ n. n + 1) (items_length fit)

  -- wherever it stands as line i
  pub line_said : (p q : List ℕ) → length p ≡ i * line_bytes → line_says (p ++ (line_text i said ++ q)) i ≡ some said
  unfolding line_says after_row bind
  line_said p q e =
      let s = p ++ (line_text i said ++ q) in
      let t = items_text fields in
      let g : s ≡ p ++ (t ++ newline ∷ q) = ap (λ l. p ++ l) (append_assoc t (newline ∷ []) q) in
      let n : length (p ++ t) ≡ i * line_bytes + total line_columns = length-append p t ∙ (λ k. e k + items_length fit k) in
      let h = eq-eqb (get_or s (i * line_bytes + total line_columns) 0) newline
      (ap (λ l. get_or l (i * line_bytes + total line_columns) 0) (g ∙ sym (append_assoc p t (newline ∷ q))) ∙ get_or_at (p ++ t) newline q 0 (i * line_bytes + total line_columns) n) in
      let f : fields_at s (i * line_bytes) line_columns ≡ map number (pos i ∷ said) = ap (λ l. fields_at l (i * line_bytes) line_columns) g ∙ items_in_lem fit p (newline ∷ q) (i * line_bytes) e in
      let r : each number_said (line_fields s i) ≡ some (pos i ∷ said) = ap (λ fs. each number_said (meant_all (unused_fields (kind_word (get_or fs 1 unreadable))) fs)) f
      ∙ ap (each number_said) (meant_numbers (unused_fields (kind_word (number k))) (pos i ∷ said)) ∙ numbers_said (pos i ∷ said) in
      let o = eq_z_refl (pos i) in
      rw (h, r, o)

-- ---- the loop over a line's fields: line i begins with its row's number, and the k after it are zs

abbrev pub RowTo : List ℕ → ℕ → ℕ → List ℤ → Type 0
RowTo s i k zs = each number_said (take (suc k) (line_fields s i)) ≡ some (pos i ∷ zs)

module _ (s : List ℕ) (i : ℕ) where
  -- the row's first word, by the field of its kind
  abbrev pub kind_in : ℕ
  kind_in = kind_word (get_or (fields_at s (i * line_bytes) line_columns) 1 unreadable)

  pub fields_long : length (line_fields s i) ≡ length line_columns
  fields_long = meant_length (unused_fields kind_in) (fields_at s (i * line_bytes) line_columns) ∙ fields_length s (i * line_bytes) line_columns

  -- field k, as it is meant
  pub field_meant : (k : ℕ) → k < length line_columns
      → get_or (line_fields s i) k unreadable ≡ meant (get_or (unused_fields kind_in) k false) (reads_at s (i * line_bytes + place_of line_columns k) (get_or line_columns k 0))
  field_meant k l =
      meant_at (unused_fields kind_in) (fields_at s (i * line_bytes) line_columns) k (omega (arith, unused_long kind_in, l)) (omega (arith, fields_length s (i * line_bytes) line_columns, l))
      ∙ ap (meant (get_or (unused_fields kind_in) k false)) (field_at s (i * line_bytes) line_columns k l)

  -- line i does not end in byte 10
  pub no_end : (get_or s (i * line_bytes + total line_columns) 0 ≡ newline → ⊥) → line_says s i ≡ none
  unfolding line_says
  no_end h = let e = ne_eqb (get_or s (i * line_bytes + total line_columns) 0) newline h in rw e

  -- a field of it cannot be read
  by_end : (b : Bool) (o : Option (List ℤ)) → o ≡ none → cond b (bind o λ zs. after_row i zs) none ≡ none
  unfolding bind
  by_end true o e = rw e
  by_end false o e = refl

  pub no_field : (k : ℕ) → k < length line_columns → number_said (get_or (line_fields s i) k unreadable) ≡ none → line_says s i ≡ none
  unfolding line_says
  no_field k l e = by_end (eqb (get_or s (i * line_bytes + total line_columns) 0) newline) (each number_said (line_fields s i)) (each_none number_said (line_fields s i) k unreadable (omega (arith, fields_long, l)) e)

  -- a blank where the field is used: row number, kind, or a used operand
  pub blank_unread : (k : ℕ) → k < length line_columns → get_or (unused_fields kind_in) k false ≡ false
      → reads_at s (i * line_bytes + place_of line_columns k) (get_or line_columns k 0) ≡ blank → line_says s i ≡ none
  unfolding meant number_said
  blank_unread k l u e = no_field k l (ap number_said (field_meant k l ∙ (λ j. meant (u j) (e j))))

  -- its first number is not i
  by_row : (b : Bool) (z : ℤ) (o : Option (List ℤ)) → eq_z z (pos i) ≡ false → cond b (bind (bind o λ zs. some (z ∷ zs)) λ zs. after_row i zs) none ≡ none
  unfolding bind after_row
  by_row true z none e = refl
  by_row true z (some zs) e = rw e
  by_row false z o e = refl

  pub no_row : (z : ℤ) → reads_at s (i * line_bytes) row_columns ≡ number z → eq_z z (pos i) ≡ false → line_says s i ≡ none
  unfolding line_says fields_at meant_all meant each number_said bind
  no_row z e h = rw e (by_row (eqb (get_or s (i * line_bytes + total line_columns) 0) newline) z (each number_said (drop 1 (line_fields s i))) h)

  -- it is, and so are the others
  pub row_first : reads_at s (i * line_bytes) row_columns ≡ number (pos i) → RowTo s i 0 []
  unfolding fields_at meant_all meant each number_said bind
  row_first e = rw e

  pub row_more : (k : ℕ) (zs : List ℤ) (z : ℤ) → suc k < length line_columns → RowTo s i k zs → number_said (get_or (line_fields s i) (suc k) unreadable) ≡ some z → RowTo s i (suc k) (zs ++ z ∷ [])
  row_more k zs z l h e = each_more number_said (line_fields s i) (suc k) unreadable (omega (arith, fields_long, l)) h e

  pub row_all : (k : ℕ) (zs : List ℤ) → length line_columns ≡ suc k → get_or s (i * line_bytes + total line_columns) 0 ≡ newline → RowTo s i k zs → line_says s i ≡ some zs
  unfolding line_says bind after_row
  row_all k zs n e h =
      let a = eq-eqb (get_or s (i * line_bytes + total line_columns) 0) newline e in
      let b : each number_said (line_fields s i) ≡ some (pos i ∷ zs) = ap (each number_said) (sym (take_all (suc k) (line_fields s i) (omega (arith, fields_long, n)))) ∙ h in
      let o = eq_z_refl (pos i) in
      rw (a, b, o)

  -- from its second field on, what the row's first word is
  pub kind_read : (k : ℕ) (zs : List ℤ) → 0 < k → k < length line_columns → RowTo s i k zs → kind_in ≡ of_z w32 (get_or zs 0 (pos 0))
  unfolding kind_word meant
  kind_read k zs o l h =
      let fs = fields_at s (i * line_bytes) line_columns in
      let a = each_at number_said (take (suc k) (line_fields s i)) h 1 (omega (arith, length-take-le (suc k) (line_fields s i) (omega (arith, fields_long, l)), o)) unreadable (pos 0) in
      let b = number_said_lem (get_or (line_fields s i) 1 unreadable) (ap number_said (sym (get_or-take (suc k) (line_fields s i) 1 unreadable (omega (arith, o)))) ∙ a) in
      by (get_or fs 1 unreadable) (sym (meant_at (unused_fields kind_in) fs 1 (omega (arith, unused_long kind_in)) (omega (arith, fields_length s (i * line_bytes) line_columns))) ∙ b)
    where
      by : (f : Field) → meant false f ≡ number (get_or zs 0 (pos 0)) → kind_word f ≡ of_z w32 (get_or zs 0 (pos 0))
      by (number z) e = let q : z ≡ get_or zs 0 (pos 0) = cc in ap (of_z w32) q
      by blank e = let a : ◌≡◌ {A = ℕ} 0 1 = cc in absurd (omega arith)
      by unreadable e = let a : ◌≡◌ {A = ℕ} 0 1 = cc in absurd (omega arith)

-- ---- the loop over lines

module _ (s : List ℕ) where
  pub lines_more : (i : ℕ) {ws zs : List ℤ} → lines_say s i ≡ some ws → line_says s i ≡ some zs → lines_say s (suc i) ≡ some (ws ++ zs)
  unfolding lines_say bind
  lines_more i e h = rw (e, h)

  by_lines : (o : Option (List ℤ)) → bind o (λ ws. bind {A = List ℤ} {B = List ℤ} none λ zs. some (ws ++ zs)) ≡ none
  unfolding bind
  by_lines none = refl
  by_lines (some ws) = refl

  -- a line that cannot be read, among n
  pub lines_none : (i n : ℕ) → i < n → line_says s i ≡ none → lines_say s n ≡ none
  unfolding lines_say bind
  lines_none i zero l h = absurd (omega arith)
  lines_none i (suc n) l h = ⊎_elim
      (λ (e : i ≡ n). let k : line_says s n ≡ none = ap (line_says s) (sym e) ∙ h in rw k (by_lines (lines_say s n)))
      (λ (m : i < n). let k = lines_none i n m h in rw k)
      (eq-or-lt_of_le (le_of_suc-le-suc l))
