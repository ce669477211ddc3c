-- One field of text: which numbers fit how many columns, and that what is written in a field is read back. Rests on the theorems of
-- fields and paths of decimal.
use mathlib.Core.Path.{◌≡◌, refl, sym, ap, ◌∙◌}
use mathlib.Core.Option.{some}
use mathlib.Core.List.{List, [], ◌∷◌, ◌++◌, append_assoc}
use Prim.Native.Nat.{ℕ, zero, suc, ◌+◌, ◌/◌, ◌^◌, ◌<◌, ◌≤◌}
use native.Mathlib.Nat.{pow-suc}
use native.Mathlib.Omega.{arith}
use borrow.Author.Tests.{le-leb}
use lib.IntN.{ℤ, pos, negsuc}
use lib.ListN.{length, drop, length-append}
use lib.Seq.{slice, take_at, drop_at}
use Rattle.word.specs.Word.{half, IsWord}
use Rattle.decimal.specs.Field.{number, blank, decimal, text, justified, written, word_columns, reads, reads_at}
use Rattle.decimal.specs.Path.{Path, max_marks, path_columns, path_text, written_path, reads_path, reads_path_at}
use Rattle.decimal.proofs.Justified.{justified_length}
use Rattle.decimal.proofs.Fields.{written_reads}
use Rattle.decimal.proofs.Paths.{written_reads_path}
use Rattle.decimal.proofs.Blanks.{path_not_blank}
use Rattle.decimal.proofs.WriteLaws.{decimal_count, decimal_0}
use Rattle.formats.specs.Records.{text_of, path_field, Item, item_text}
use Rattle.decimal.proofs.PathLaws.{length_marks}

-- ---- how wide numbers are

digits_short : (k n : ℕ) → n < 10 ^ k → length (decimal n) ≤ k
digits_short zero n h = let e = ap length (decimal_0 n (omega (arith, h))) in omega (arith, e)
digits_short (suc k) zero h = let e = ap length (decimal_0 0 refl) in omega (arith, e)
digits_short (suc k) (suc n) h =
    let e = decimal_count (suc n) (omega arith) in
    let p = pow-suc 10 k in
    let g = digits_short k (suc n / 10) (omega (arith, h, p)) in
    omega (arith, e, g)

-- a word that its columns have room for
pub record Fits (i : Item) : Type 0 where
  pub word : IsWord i.1
  pub short : length (text i.1) ≤ i.0

-- a number below 10 to the k, in k columns
pub number_fits : (k n : ℕ) → 1 ≤ k → n < half → n < 10 ^ k → Fits (k, pos n)
unfolding text
number_fits k zero o h g = record { word = h; short = o }
number_fits k (suc n) o h g = record { word = h; short = digits_short k (suc n) g }

-- a word, in 12 columns
pub word_fits : (z : ℤ) → IsWord z → Fits (word_columns, z)
unfolding text
word_fits (pos zero) h = record { word = h; short = omega arith }
word_fits (pos (suc n)) h = record { word = h; short = let e = digits_short 10 (suc n) (omega (arith, h)) in omega (arith, e) }
word_fits (negsuc n) h = record { word = h; short = let e = digits_short 10 (suc n) (omega (arith, h)) in omega (arith, e) }

-- ---- written, and read back

-- the field t of w columns, after p and before q
field_bounds : (p t q : List ℕ) (at w : ℕ) → length p ≡ at → length t ≡ w → at + w ≤ length (p ++ t ++ q)
field_bounds p t q at w e h = let a = length-append p t in let b = length-append (p ++ t) q in omega (arith, a, b, e, h)

field_bytes : (p t q : List ℕ) (at w : ℕ) → length p ≡ at → length t ≡ w → slice at (at + w) (p ++ t ++ q) ≡ t
field_bytes p t q at w e h = ap (drop at) (take_at (p ++ t) q (at + w) (length-append p t ∙ (λ k. e k + h k))) ∙ drop_at p t at e

pub field_in : (p t q : List ℕ) (at w : ℕ) → length p ≡ at → length t ≡ w → reads_at (p ++ (t ++ q)) at w ≡ reads t
unfolding reads_at
field_in p t q at w e h =
    ap (λ s. reads_at s at w) (sym (append_assoc p t q))
    ∙ rw (le-leb (at + w) (length (p ++ t ++ q)) (field_bounds p t q at w e h)) (ap reads (field_bytes p t q at w e h))

justified_fits : (w : ℕ) (t : List ℕ) → length t ≤ w → justified w t ≡ some (text_of (justified w t))
unfolding justified text_of
justified_fits w t h = rw (le-leb (length t) w h)

module _ {i : Item} (f : Fits i) where
  pub item_written : written i.0 i.1 ≡ some (item_text i)
  item_written = justified_fits i.0 (text i.1) f.short

  pub item_length : length (item_text i) ≡ i.0
  item_length = justified_length i.0 (text i.1) (item_text i) item_written

  pub item_reads : reads (item_text i) ≡ number i.1
  item_reads = written_reads i.0 (item_text i) i.1 f.word item_written

  -- the field after p and before q
  pub item_in : (p q : List ℕ) (at : ℕ) → length p ≡ at → reads_at (p ++ (item_text i ++ q)) at i.0 ≡ number i.1
  item_in p q at e = field_in p (item_text i) q at i.0 e item_length ∙ item_reads

-- ---- paths

path_short : (p : Path) → length p ≤ max_marks → length (path_text p) ≤ path_columns
unfolding path_text
path_short [] h = omega arith
path_short (m ∷ p) h = let e = length_marks (m ∷ p) in omega arith

module _ (p : Path) (few : length p ≤ max_marks) where
  pub path_written : written_path p ≡ some (path_field p)
  path_written = justified_fits path_columns (path_text p) (path_short p few)

  pub path_length : length (path_field p) ≡ path_columns
  path_length = justified_length path_columns (path_text p) (path_field p) path_written

  pub path_in : (s q : List ℕ) (at : ℕ) → length s ≡ at → reads_path_at (s ++ (path_field p ++ q)) at ≡ some p
  unfolding reads_path_at
  path_in s q at e =
      let t = path_field p in
      ap (λ l. reads_path_at l at) (sym (append_assoc s t q))
      ∙ rw (le-leb (at + path_columns) (length (s ++ t ++ q)) (field_bounds s t q at path_columns e path_length))
      (ap reads_path (field_bytes s t q at path_columns e path_length) ∙ written_reads_path t p path_written)

  -- and the field is not blank
  pub path_shown : (s q : List ℕ) (at : ℕ) → length s ≡ at → reads_at (s ++ (path_field p ++ q)) at path_columns ≡ blank → ⊥
  path_shown s q at e h = path_not_blank (path_field p) p path_written (sym (field_in s (path_field p) q at path_columns e path_length) ∙ h)
