-- Blank cells (CR 2), of the call load: a sheet in which any zeros of unused operands are left blank loads as the sheet itself does, number
-- and rows, in every rows memory; and a blank anywhere else, all operands of a number that is no kind among them, is ground 2. Rests on
-- formats' laws of lines.
use mathlib.Core.Path.{◌≡◌, refl, sym, ap, subst, ◌∙◌}
use mathlib.Core.Bool.{Bool, true, false, cond}
use mathlib.Core.Option.{Option, none, some, bind}
use mathlib.Core.List.{List, ◌++◌}
use Prim.Native.Nat.{ℕ, zero, suc, ◌+◌, ◌*◌, ◌/◌, ◌<◌, ◌≤◌}
use native.Mathlib.Omega.{arith}
use borrow.Author.Tests.{le-leb, eq-eqb}
use lib.Dec.{eqb}
use lib.IntN.{ℤ, pos}
use lib.ListN.{length, get_or, replicate}
use lib.Seq.{slice, ext_get_or}
use Rattle.decimal.specs.Field.{Field, number, blank, unreadable, space, newline, written, reads, reads_at}
use Rattle.decimal.proofs.Blanks.{Blanked, kept, left_blank, ZeroBlank, same, zero_blank, spaces_blank, blanked_number}
use Rattle.tophat.proofs.Basics.{no_some}
use Rattle.formats.specs.Records.{total, place_of, number_said, each}
use Rattle.formats.specs.Lines.{line_columns, line_bytes, meant, kind_word, unused_fields, line_fields, after_row, line_says, lines_say}
use Rattle.formats.proofs.Records.{field_at}
use Rattle.formats.proofs.LinesRead.{number_and_kind_used, kind_in, fields_long, field_meant, blank_unread, lines_none}
use Rattle.rows.specs.Kinds.{no_asks, asks_of}
use Rattle.rows.proofs.Unused.{unknown_uses_all}
use Rattle.rows.specs.GroundNumbers.{not_sized, not_read, wrong_memory}
use Rattle.rows.specs.Rows.{row_words}
use Rattle.sheet.specs.Sheet.{lines, sized, loaded_lines, loaded}

-- ---- terms

-- the bytes of field f of line i: 0 is the row number, 1 the kind, 2 to 4 are A, B and C
abbrev pub field_bytes : List ℕ → ℕ → ℕ → List ℕ
field_bytes s i f = let at = i * line_bytes + place_of line_columns f in slice at (at + get_or line_columns f 0) s

abbrev pub all_spaces : ℕ → List ℕ
all_spaces f = replicate (get_or line_columns f 0) space

-- whether field f of line i is an operand that the line's own kind does not use
abbrev pub unused_field : List ℕ → ℕ → ℕ → Bool
unused_field s i f = get_or (unused_fields (kind_in s i)) f false

-- what may be left blank in a field: a 0, where the operand is unused
abbrev pub zero_where : Bool → ℕ → Option (List ℕ)
zero_where u f = cond u (written (get_or line_columns f 0) (pos 0)) none

-- t is the sheet s with zeros of unused operands left blank
pub record BlankedSheet (s t : List ℕ) : Type 0 where
  pub long : length t ≡ length s
  pub ends : (i : ℕ) → i < lines s → get_or t (i * line_bytes + total line_columns) 0 ≡ get_or s (i * line_bytes + total line_columns) 0
  pub fields : (i f : ℕ) → i < lines s → f < length line_columns → Blanked (zero_where (unused_field s i f) f) (field_bytes s i f) (field_bytes t i f)

-- ---- fields

-- a field of a line is there
within : (s : List ℕ) (i f : ℕ) → i < lines s → f < length line_columns → i * line_bytes + place_of line_columns f + get_or line_columns f 0 ≤ length s
within s i zero l m = omega arith
within s i (suc zero) l m = omega arith
within s i (suc (suc zero)) l m = omega arith
within s i (suc (suc (suc zero))) l m = omega arith
within s i (suc (suc (suc (suc zero)))) l m = omega arith
within s i (suc (suc (suc (suc (suc f))))) l m = absurd (omega arith)

field_reads : (s : List ℕ) (i f : ℕ) → i < lines s → f < length line_columns → reads_at s (i * line_bytes + place_of line_columns f) (get_or line_columns f 0) ≡ reads (field_bytes s i f)
unfolding reads_at
field_reads s i f l m = rw (le-leb (i * line_bytes + place_of line_columns f + get_or line_columns f 0) (length s) (within s i f l m))

blank_is_zero : meant true blank ≡ meant true (number (pos 0))
unfolding meant
blank_is_zero = refl

-- a field that is used is the same
never_unused : (f : ℕ) {bs cs : List ℕ} → Blanked (zero_where false f) bs cs → reads cs ≡ reads bs
never_unused f kept = refl
never_unused f (left_blank e) = no_some e

-- both are meant alike
meant_alike : (u : Bool) (f : ℕ) {bs cs : List ℕ} → Blanked (zero_where u f) bs cs → meant u (reads cs) ≡ meant u (reads bs)
meant_alike true f b = by (blanked_number (get_or line_columns f 0) b)
  where
    by : {g h : Field} → ZeroBlank g h → meant true h ≡ meant true g
    by same = refl
    by zero_blank = blank_is_zero
meant_alike false f b = ap (meant false) (never_unused f b)

-- ---- a blank where nothing is meant

module _ {s t : List ℕ} (b : BlankedSheet s t) where
  same_lines : lines t ≡ lines s
  same_lines = ap (λ n. n / line_bytes) b.long

  module _ (i : ℕ) (l : i < lines s) where
    there : i < lines t
    there = omega (arith, same_lines, l)

    field_is : (f : ℕ) → f < length line_columns → unused_field s i f ≡ false → reads_at t (i * line_bytes + place_of line_columns f) (get_or line_columns f 0) ≡ reads_at s (i * line_bytes + place_of line_columns f) (get_or line_columns f 0)
    field_is f m n = field_reads t i f there m ∙ never_unused f (subst (λ u. Blanked (zero_where u f) (field_bytes s i f) (field_bytes t i f)) n (b.fields i f l m)) ∙ sym (field_reads s i f l m)

    same_kind : kind_in t i ≡ kind_in s i
    same_kind = ap kind_word (field_at t (i * line_bytes) line_columns 1 (omega arith) ∙ field_is 1 (omega arith) refl ∙ sym (field_at s (i * line_bytes) line_columns 1 (omega arith)))

    same_fields : line_fields t i ≡ line_fields s i
    same_fields = ext_get_or unreadable (line_fields t i) (line_fields s i) (fields_long t i ∙ sym (fields_long s i)) (λ f m. by f (omega (arith, fields_long t i, m)))
      where
        by : (f : ℕ) → f < length line_columns → get_or (line_fields t i) f unreadable ≡ get_or (line_fields s i) f unreadable
        by f m =
            field_meant t i f m ∙ (λ j. meant (get_or (unused_fields (same_kind j)) f false) (field_reads t i f there m j))
            ∙ meant_alike (unused_field s i f) f (b.fields i f l m) ∙ ap (meant (unused_field s i f)) (sym (field_reads s i f l m)) ∙ sym (field_meant s i f m)

    same_line : line_says t i ≡ line_says s i
    unfolding line_says
    same_line = (λ j. cond (eqb (b.ends i l j) newline) (bind (each number_said (same_fields j)) λ zs. after_row i zs) none)

  same_says : (n : ℕ) → n ≤ lines s → lines_say t n ≡ lines_say s n
  unfolding lines_say
  same_says zero l = refl
  same_says (suc i) l = (λ j. bind (same_says i (omega arith) j) λ ws. bind (same_line i (omega arith) j) λ zs. some (ws ++ zs))

  -- the same number, and the same rows
  pub blank_loads : (rows : List ℤ) → loaded t rows ≡ loaded s rows
  unfolding loaded
  blank_loads rows =
      let e : lines_say t (lines t) ≡ lines_say s (lines s) = ap (lines_say t) same_lines ∙ same_says (lines s) (omega arith) in
      (λ j. cond (sized (b.long j)) (cond (eqb (length rows) (same_lines j * row_words)) (loaded_lines (e j) (same_lines j) rows) (wrong_memory, rows)) (not_sized, rows))

-- ---- a blank where something is meant

pub blank_used : (s : List ℕ) (rows : List ℤ) → sized (length s) ≡ true → length rows ≡ lines s * row_words
    → (i f : ℕ) → i < lines s → f < length line_columns → field_bytes s i f ≡ all_spaces f → unused_field s i f ≡ false → loaded s rows ≡ (not_read, rows)
unfolding loaded loaded_lines
blank_used s rows z e i f l m h n =
    let b = lines_none s i (lines s) l (blank_unread s i f m n (field_reads s i f l m ∙ ap reads h ∙ spaces_blank (get_or line_columns f 0))) in
    let c = eq-eqb (length rows) (lines s * row_words) e in
    rw (z, c, b)

-- what is never unused: a row number, a kind, and any operand of a number that is no kind
pub row_number_used : (s : List ℕ) (i : ℕ) → unused_field s i 0 ≡ false
row_number_used s i = (number_and_kind_used (kind_in s i)).0

pub kind_used : (s : List ℕ) (i : ℕ) → unused_field s i 1 ≡ false
kind_used s i = (number_and_kind_used (kind_in s i)).1

pub no_kind_used : (s : List ℕ) (i f : ℕ) → asks_of (kind_in s i) ≡ no_asks → unused_field s i f ≡ false
no_kind_used s i zero e = refl
no_kind_used s i (suc zero) e = refl
no_kind_used s i (suc (suc k)) e = unknown_uses_all (kind_in s i) e k
