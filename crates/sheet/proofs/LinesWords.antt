-- What the lines of a text say: four words a line. Rests on formats' laws of fields.
use mathlib.Core.Path.{◌≡◌, sym, ap, subst, ◌∙◌}
use mathlib.Core.Bool.{Bool, true, false, cond}
use mathlib.Core.Option.{Option, none, some, bind-eq-some_iff}
use mathlib.Core.List.{List, [], ◌∷◌, ◌++◌}
use Prim.Native.Nat.{ℕ, zero, suc, ◌+◌, ◌*◌}
use native.Mathlib.Omega.{arith}
use lib.Dec.{lit<, eqb}
use lib.IntN.{ℤ, pos}
use lib.ListN.{length, get_or, length-append}
use Rattle.word.specs.Word.{IsWord, AllWords, eq_z}
use Rattle.word.proofs.Lists.{words_append}
use Rattle.decimal.specs.Field.{newline}
use Rattle.formats.specs.Records.{total, number_said, each}
use Rattle.formats.specs.Lines.{line_columns, line_bytes, unused_fields, line_fields, after_row, line_says, lines_say}
use Rattle.formats.proofs.Each.{each_length}
use Rattle.formats.proofs.Records.{fields_words, numbers_words}
use Rattle.formats.proofs.LinesRead.{meant_words, kind_in, fields_long}
use Rattle.rows.specs.Rows.{row_words}

-- a choice between something and nothing that is something
chosen : {A : Type 0} (b : Bool) (o : Option A) {a : A} → cond b o none ≡ some a → o ≡ some a
chosen true o h = h
chosen false o h = let z : ◌≡◌ {A = ℕ} 0 1 = cc in absurd (omega arith)

module _ (s : List ℕ) where
  after_row_lem : (i : ℕ) (ns : List ℤ) {zs : List ℤ} → after_row i ns ≡ some zs → (z : ℤ) × (ns ≡ z ∷ zs)
  unfolding after_row
  after_row_lem i [] h = let z : ◌≡◌ {A = ℕ} 0 1 = cc in absurd (omega arith)
  after_row_lem i (n ∷ ns) {zs} h = let e = chosen (eq_z n (pos i)) (some ns) h in let q : ns ≡ zs = cc in (n, ap (λ l. n ∷ l) q)

  -- the numbers in line i, behind its row's own
  numbers_of : (i : ℕ) {zs : List ℤ} → line_says s i ≡ some zs → (z : ℤ) × (each number_said (line_fields s i) ≡ some (z ∷ zs))
  unfolding line_says
  numbers_of i h =
      let g = chosen (eqb (get_or s (i * line_bytes + total line_columns) 0) newline) _ h in
      let (ns, e, f) = (bind-eq-some_iff (each number_said (line_fields s i)) _).0 g in
      let (z, q) = after_row_lem i ns f in
      (z, e ∙ ap some q)

  pub line_long : (i : ℕ) {zs : List ℤ} → line_says s i ≡ some zs → length zs ≡ row_words
  line_long i h = let (z, e) = numbers_of i h in let l = each_length number_said (line_fields s i) e in omega (arith, l, fields_long s i)

  line_words : (i : ℕ) {zs : List ℤ} → line_says s i ≡ some zs → AllWords zs
  line_words i h = let (z, e) = numbers_of i h in let w = numbers_words (meant_words (unused_fields (kind_in s i)) (fields_words s (i * line_bytes) line_columns)) e in λ k. w (suc k)

  pub lines_long : (n : ℕ) {ws : List ℤ} → lines_say s n ≡ some ws → length ws ≡ n * row_words
  unfolding lines_say
  lines_long zero {ws} h = let e : ws ≡ [] = cc in ap length e
  lines_long (suc i) {ws} h =
      let (us, e, f) = (bind-eq-some_iff (lines_say s i) _).0 h in
      let (zs, g, q) = (bind-eq-some_iff (line_says s i) _).0 f in
      let k : us ++ zs ≡ ws = cc in
      let a = lines_long i e in
      let b = line_long i g in
      ap length (sym k) ∙ length-append us zs ∙ omega (arith, a, b)

  pub lines_words : (n : ℕ) {ws : List ℤ} → lines_say s n ≡ some ws → AllWords ws
  unfolding lines_say
  lines_words zero {ws} h = let e : ws ≡ [] = cc in λ i. subst (λ ws. IsWord (get_or ws i (pos 0))) (sym e) (lit< tt)
  lines_words (suc i) {ws} h =
      let (us, e, f) = (bind-eq-some_iff (lines_say s i) _).0 h in
      let (zs, g, q) = (bind-eq-some_iff (line_says s i) _).0 f in
      let k : us ++ zs ≡ ws = cc in
      subst AllWords k (words_append us zs (lines_words i e) (line_words i g))
