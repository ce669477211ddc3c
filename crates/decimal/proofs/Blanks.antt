-- Blank fields (CR 2): a field reads as blank exactly where every byte of it is a space; what becomes of a 0 left blank; and nothing that
-- is written, number or path, reads as blank. Rests on proofs/Fields.antt and proofs/Paths.antt.
use Prim.Native.Nat.{ℕ, zero, suc, ◌-◌}
use mathlib.Core.Path.{◌≡◌, refl, sym, ap, ◌∙◌}
use mathlib.Core.List.{List, [], ◌∷◌, cons≢nil}
use mathlib.Core.Option.{Option, some}
use mathlib.Core.Logic.{◌↔◌}
use native.Mathlib.Omega.{arith}
use borrow.Table.Steps.{cases}
use lib.Dec.{lit<, eqb}
use lib.IntN.{ℤ, pos, negsuc}
use lib.ListN.{length, replicate, length-replicate}
use Rattle.word.specs.Word.{half}
use Rattle.decimal.specs.Field.{Field, space, minus, nought, text, justified, written, number, blank, unreadable, trimmed, counted, positive, negative, alone, numeral, reads}
use Rattle.decimal.specs.Path.{Path, marks_text, path_text, written_path, path_in, reads_path}
use Rattle.decimal.proofs.Justified.{trimmed_blank, justified_length, justified_trimmed}
use Rattle.decimal.proofs.Digits.{head_of}
use Rattle.decimal.proofs.Fields.{text_trimmed, written_reads}
use Rattle.decimal.proofs.Paths.{path_trimmed, written_reads_path}

number_not : {z : ℤ} → number z ≡ blank → ⊥
number_not e = let z : ◌≡◌ {A = ℕ} 0 1 = cc in omega arith

unreadable_not : unreadable ≡ blank → ⊥
unreadable_not e = let z : ◌≡◌ {A = ℕ} 0 1 = cc in omega arith

-- no byte is left after the spaces
numeral_blank : (t : List ℕ) → numeral t ≡ blank → t ≡ []
unfolding numeral
numeral_blank [] h = refl
numeral_blank (b ∷ t) h = cases (eqb b minus)
    (λ e. absurd (negative_not (counted half 0 t) (rw e at h)))
    (λ e. cases (eqb b nought)
    (λ f. absurd (alone_not t (rw (e, f) at h)))
    (λ f. absurd (positive_not (counted (half - 1) 0 (b ∷ t)) (rw (e, f) at h))))
  where
    negative_not : (n : ℕ) → negative n ≡ blank → ⊥
    negative_not zero e = unreadable_not e
    negative_not (suc n) e = number_not e

    positive_not : (n : ℕ) → positive n ≡ blank → ⊥
    positive_not zero e = unreadable_not e
    positive_not (suc n) e = number_not e

    alone_not : (t : List ℕ) → alone t ≡ blank → ⊥
    alone_not [] e = number_not e
    alone_not (b ∷ t) e = unreadable_not e

-- THE THEOREM of blanks
pub reads_blank : (bs : List ℕ) → (reads bs ≡ blank) ↔ (bs ≡ replicate (length bs) space)
unfolding numeral
reads_blank bs = (λ h. (trimmed_blank bs).0 (numeral_blank (trimmed bs) h), λ h. ap numeral ((trimmed_blank bs).1 h))

-- ---- a field left blank

-- the bytes cs of a field against bs: the same, or all spaces in place of this text
pub data Blanked (t : Option (List ℕ)) (bs : List ℕ) : List ℕ → Type 0 where
  kept : Blanked t bs bs
  left_blank : t ≡ some bs → Blanked t bs (replicate (length bs) space)

pub spaces_blank : (n : ℕ) → reads (replicate n space) ≡ blank
spaces_blank n = (reads_blank (replicate n space)).1 (ap (λ n. replicate n space) (sym (length-replicate n space)))

-- a 0 and a blank, where they are not the same
pub data ZeroBlank : Field → Field → Type 0 where
  same : {f : Field} → ZeroBlank f f
  zero_blank : ZeroBlank (number (pos 0)) blank

pub blanked_number : (w : ℕ) {bs cs : List ℕ} → Blanked (written w (pos 0)) bs cs → ZeroBlank (reads bs) (reads cs)
blanked_number w kept = same
blanked_number w {bs} (left_blank e) =
    let a = written_reads w bs (pos 0) (lit< tt) e in
    let b = spaces_blank (length bs) in
    rw (a, b) zero_blank

-- the empty path is said by both
pub blanked_path : {bs cs : List ℕ} → Blanked (written_path []) bs cs → reads_path cs ≡ reads_path bs
unfolding path_in
blanked_path kept = refl
blanked_path {bs} (left_blank e) = ap path_in ((trimmed_blank (replicate (length bs) space)).1 (ap (λ n. replicate n space) (sym (length-replicate (length bs) space)))) ∙ sym (written_reads_path bs [] e)

-- ---- what is written shows its number or its path

-- a text without spaces in front, and not empty
justified_not_blank : (w : ℕ) (t bs : List ℕ) → trimmed t ≡ t → (t ≡ [] → ⊥) → justified w t ≡ some bs → reads bs ≡ blank → ⊥
justified_not_blank w t bs e n h b = n (sym ((justified_trimmed w t bs e (justified_length w t bs h)).1 h) ∙ numeral_blank (trimmed bs) b)

pub written_not_blank : (w : ℕ) (bs : List ℕ) (z : ℤ) → written w z ≡ some bs → reads bs ≡ blank → ⊥
unfolding text
written_not_blank w bs z = justified_not_blank w (text z) bs (text_trimmed z) (not_empty z)
  where
    not_empty : (z : ℤ) → text z ≡ [] → ⊥
    not_empty (pos zero) e = cons≢nil e
    not_empty (pos (suc n)) e = let h = head_of (suc n) (suc n) (omega arith) (omega arith) in cons≢nil (sym h.is ∙ e)
    not_empty (negsuc n) e = cons≢nil e

pub path_not_blank : (bs : List ℕ) (p : Path) → written_path p ≡ some bs → reads bs ≡ blank → ⊥
unfolding path_text marks_text
path_not_blank bs p = justified_not_blank _ (path_text p) bs (path_trimmed p) (not_empty p)
  where
    not_empty : (p : Path) → path_text p ≡ [] → ⊥
    not_empty [] e = cons≢nil e
    not_empty (m ∷ p) e = cons≢nil e
