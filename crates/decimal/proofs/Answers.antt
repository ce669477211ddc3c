-- What a caller learns from an answer: the cases of `Reading`, of a path's number and of `Front` turned back into fields and paths,
-- and what a write leaves to be read. Rests on proofs/Fields.antt, proofs/Paths.antt and proofs/PathNumbers.antt.
use Prim.Native.Nat.{ℕ, ◌+◌, ◌*◌, ◌^◌, ◌≤◌}
use mathlib.Core.Path.{◌≡◌, refl, sym, ap, ◌∙◌}
use mathlib.Core.Bool.{true, false}
use mathlib.Core.List.{List, [], ◌∷◌, ◌++◌}
use mathlib.Core.Option.{Option, none, some}
use native.Mathlib.Omega.{arith}
use borrow.Author.Tests.{le-leb, leb-true}
use borrow.Table.Steps.{cases}
use lib.Dec.{leb}
use lib.IntN.{ℤ}
use lib.ListN.{length, take, drop, length-append, length-drop}
use lib.Seq.{slice, length-take-le, take_at, drop_at}
use mir.Syntax.{w32}
use mir.Val.{to_z, of_z}
use mir.Facts.{to_z-of_z}
use Rattle.word.specs.Word.{IsWord}
use Rattle.decimal.specs.Field.{Field, number, blank, unreadable, text, justified, written, reads, reads_at, reading, bits_said, put_at}
use Rattle.decimal.specs.Path.{Mark, first, second, Path, path_columns, mark_number, path_text, written_path, reads_path, reads_path_at, path_number, path_of, path_reading, front}
use Rattle.decimal.specs.declared.field.Reading.TheVariants.{Number}
use Rattle.decimal.specs.declared.field.Reading.TheVariants as field
use Rattle.std.specs.Prelude.{Some, None}
use Rattle.std.proofs.lemmas.Option.{none-some}
use Rattle.decimal.specs.declared.path.Front.TheVariants.{Empty, First, Second}
use Rattle.decimal.proofs.Justified.{justified_length}
use Rattle.decimal.proofs.Fields.{reads_written, written_reads}
use Rattle.decimal.proofs.Paths.{written_reads_path}
use Rattle.decimal.proofs.PathNumbers.{path_number_lem, number_path, number_inner}

wrong : ◌≡◌ {A = ℕ} 0 1 → ⊥
wrong e = omega arith

-- ---- a number's field

-- a number that a field says is a word
pub reads_word : (bs : List ℕ) (z : ℤ) → reads bs ≡ number z → IsWord z
reads_word bs z h = ((reads_written (length bs) bs z refl).0 h).0

pub reads_at_word : (s : List ℕ) (at w : ℕ) (z : ℤ) → reads_at s at w ≡ number z → IsWord z
unfolding reads_at
reads_at_word s at w z h = cases (leb (at + w) (length s))
    (λ e. reads_word (slice at (at + w) s) z (rw e at h))
    (λ e. let g : unreadable ≡ number z = rw e at h in absurd (wrong (cc)))

-- `Number n`: the field says the number of the bits n, a word
pub record Said (f : Field) (n : ℕ) : Type 0 where
  pub is : f ≡ number (to_z w32 n)
  pub word : IsWord (to_z w32 n)
  pub bits : of_z w32 (to_z w32 n) ≡ n

number_said_lem : (f : Field) (n : ℕ) → ((z : ℤ) → f ≡ number z → IsWord z) → Number n ≡ reading f → Said f n
number_said_lem (number z) n w e =
    let g : n ≡ of_z w32 z = cc in
    let h : to_z w32 n ≡ z = ap (to_z w32) g ∙ to_z-of_z {w = w32} (record { sfits = w z refl }) in
    record { is = ap number (sym h); word = w (to_z w32 n) (ap number (sym h)); bits = ap (of_z w32) h ∙ sym g }
number_said_lem blank n w e = absurd (wrong (cc))
number_said_lem unreadable n w e = absurd (wrong (cc))

pub number_read : (s : List ℕ) (at w n : ℕ) → Number n ≡ reading (reads_at s at w) → Said (reads_at s at w) n
number_read s at w n e = number_said_lem (reads_at s at w) n (reads_at_word s at w) e

-- the bits alone
pub bits_read : (s : List ℕ) (at w n : ℕ) → Some n ≡ bits_said (reading (reads_at s at w)) → Said (reads_at s at w) n
bits_read s at w n e = number_read s at w n (by (reads_at s at w) e)
  where
    by : (f : Field) → Some n ≡ bits_said (reading f) → Number n ≡ reading f
    by (number z) e = let q : n ≡ of_z w32 z = cc in ap Number q
    by blank e = absurd (none-some n (sym e))
    by unreadable e = absurd (none-some n (sym e))

pub nothing_said : (f : Field) → field.Unreadable ≡ reading f → f ≡ unreadable
nothing_said (number z) e = absurd (wrong (cc))
nothing_said blank e = absurd (wrong (cc))
nothing_said unreadable e = refl

pub blank_said : (f : Field) → field.Blank ≡ reading f → f ≡ blank
blank_said (number z) e = absurd (wrong (cc))
blank_said blank e = refl
blank_said unreadable e = absurd (wrong (cc))

-- ---- a path's field

-- `Some n`: the field says the path of the number n
pub path_said : (o : Option Path) (n : ℕ) → Some n ≡ path_reading o → o ≡ some (path_of n)
path_said none n e = absurd (wrong (cc))
path_said (some p) n e = let g : n ≡ path_number p = cc in ap some (sym (ap path_of g ∙ path_number_lem p))

pub no_path_said : (o : Option Path) → None ≡ path_reading o → o ≡ none
no_path_said none e = refl
no_path_said (some p) e = absurd (wrong (cc))

-- ---- the outermost mark

pub front_empty : (p : Path) → Empty ≡ front p → p ≡ []
front_empty [] e = refl
front_empty (first ∷ p) e = absurd (wrong (cc))
front_empty (second ∷ p) e = absurd (wrong (cc))

pub front_one : (p : Path) (n : ℕ) → First n ≡ front p → p ≡ first ∷ path_of n
front_one [] n e = absurd (wrong (cc))
front_one (first ∷ p) n e = let g : n ≡ path_number p = cc in ap (λ q. first ∷ q) (sym (ap path_of g ∙ path_number_lem p))
front_one (second ∷ p) n e = absurd (wrong (cc))

pub front_two : (p : Path) (n : ℕ) → Second n ≡ front p → p ≡ second ∷ path_of n
front_two [] n e = absurd (wrong (cc))
front_two (first ∷ p) n e = absurd (wrong (cc))
front_two (second ∷ p) n e = let g : n ≡ path_number p = cc in ap (λ q. second ∷ q) (sym (ap path_of g ∙ path_number_lem p))

-- a mark put at the inner end of the path of a number
pub path_inner : (n : ℕ) (m : Mark) → path_of (n + mark_number m * 2 ^ length (path_of n)) ≡ path_of n ++ m ∷ []
path_inner n m =
    ap (λ k. path_of (k + mark_number m * 2 ^ length (path_of n))) (sym (number_path n))
    ∙ ap path_of (sym (number_inner (path_of n) m))
    ∙ path_number_lem (path_of n ++ m ∷ [])

-- ---- what a write leaves

module _ (s : List ℕ) (at w : ℕ) (bs : List ℕ) (l : length bs ≡ w) (h : at + w ≤ length s) where
  head_length : length (take at s) ≡ at
  head_length = length-take-le at s (omega arith)

  -- the field holds the bytes written, and the slice is as long as it was
  pub laid_field : slice at (at + w) (take at s ++ bs ++ drop (at + w) s) ≡ bs
  laid_field =
      let e : length (take at s ++ bs) ≡ at + w = omega (arith, length-append (take at s) bs, head_length) in
      ap (drop at) (take_at (take at s ++ bs) (drop (at + w) s) (at + w) e) ∙ drop_at (take at s) bs at head_length

  pub laid_length : length (take at s ++ bs ++ drop (at + w) s) ≡ length s
  laid_length = omega (arith, length-append (take at s ++ bs) (drop (at + w) s), length-append (take at s) bs, head_length, length-drop (at + w) s)

pub record Put (s : List ℕ) (at w : ℕ) (t u : List ℕ) : Type 0 where
  pub bytes : List ℕ
  pub justified_is : justified w t ≡ some bytes
  pub room : at + w ≤ length s
  pub is : u ≡ take at s ++ bytes ++ drop (at + w) s
  pub length_is : length u ≡ length s
  pub field_is : slice at (at + w) u ≡ bytes

-- a write that answers true
pub put_done : (s : List ℕ) (at w : ℕ) (t : List ℕ) → (put_at s at w (justified w t)).0 ≡ true → Put s at w t (put_at s at w (justified w t)).1
unfolding put_at
put_done s at w t h = by (justified w t) refl h
  where
    by : (o : Option (List ℕ)) → justified w t ≡ o → (put_at s at w o).0 ≡ true → Put s at w t (put_at s at w o).1
    by none e g = absurd (wrong (cc))
    by (some bs) e g = cases (leb (at + w) (length s))
        (λ r.
        let m = leb-true (at + w) (length s) r in
        let l = justified_length w t bs e in
        rw r (record { bytes = bs; justified_is = e; room = m; is = refl; length_is = laid_length s at w bs l m; field_is = laid_field s at w bs l m }))
        (λ r. let z : false ≡ true = rw r at g in absurd (wrong (cc)))

-- what was written is read back
pub write_read : (s : List ℕ) (at w : ℕ) (z : ℤ) → IsWord z → (put_at s at w (written w z)).0 ≡ true → reads_at (put_at s at w (written w z)).1 at w ≡ number z
unfolding reads_at
write_read s at w z i h =
    let p = put_done s at w (text z) h in
    rw (le-leb (at + w) (length (put_at s at w (written w z)).1) (omega (arith, p.room, p.length_is)))
    (ap reads p.field_is ∙ written_reads w p.bytes z i p.justified_is)

pub write_read_path : (s : List ℕ) (at : ℕ) (q : Path) → (put_at s at path_columns (written_path q)).0 ≡ true → reads_path_at (put_at s at path_columns (written_path q)).1 at ≡ some q
unfolding reads_path_at
write_read_path s at q h =
    let p = put_done s at path_columns (path_text q) h in
    rw (le-leb (at + path_columns) (length (put_at s at path_columns (written_path q)).1) (omega (arith, p.room, p.length_is)))
    (ap reads_path p.field_is ∙ written_reads_path p.bytes q p.justified_is)
