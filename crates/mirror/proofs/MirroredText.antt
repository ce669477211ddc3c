-- A sheet's text with the fields of A and B exchanged in its last line: where that line is of kind 46, whose A and B are both used, it says
-- the rows with the words A and B of the last row exchanged, and it loads to them where they get no ground. Rests on Exchanged and on the
-- laws of formats' and sheet's lines.
use mathlib.Core.Path.{◌≡◌, refl, sym, ap, ap₂, subst, ◌∙◌}
use mathlib.Core.Bool.{Bool, true, false, cond}
use mathlib.Core.Option.{Option, none, some, bind, bind-eq-some_iff}
use mathlib.Core.List.{List, [], ◌∷◌, ◌++◌, append_assoc, map}
use Prim.Native.Nat.{ℕ, zero, suc, ◌+◌, ◌*◌, ◌-◌, ◌≤◌}
use native.Mathlib.Omega.{arith}
use borrow.Table.Steps.{cases}
use lib.Dec.{leb, eqb}
use lib.IntN.{ℤ, pos}
use lib.ListN.{length, get_or, take, drop, length-append, length-map, take-append-drop, get_or-append}
use lib.Seq.{slice, length-take-le, take_at, take-take, get_or-take, get_or-append-add}
use mir.Syntax.{w32}
use mir.Val.{of_z}
use Rattle.word.specs.Word.{eq_z}
use Rattle.word.proofs.Lists.{bits_at}
use Rattle.decimal.specs.Field.{Field, number, blank, unreadable, newline, row_columns, word_columns, reads, reads_at}
use Rattle.tophat.proofs.Basics.{no_some, some_is}
use Rattle.rows.specs.Kinds.{task_k, and_k, number_of, asks_of, is_unused, unused_by}
use Rattle.rows.specs.Rows.{row_words, word, OfKind}
use Rattle.rows.specs.Lent.{own_rows, row_count}
use Rattle.rows.specs.Ground.{ground_of_rows}
use Rattle.rows.proofs.GroundZero.{zero_flow}
use Rattle.formats.specs.Records.{total, place_of, fields_at, number_said, each}
use Rattle.formats.specs.Lines.{line_columns, line_bytes, meant, meant_all, kind_word, unused_fields, after_row, line_says, lines_say}
use Rattle.formats.proofs.Each.{number_said_lem}
use Rattle.formats.proofs.Items.{field_in}
use Rattle.formats.proofs.LinesRead.{lines_more}
use Rattle.sheet.specs.Sheet.{lines, loaded}
use Rattle.sheet.proofs.LinesWords.{line_long, lines_long}
use Rattle.call_definitions.specs.Answers.{HasLines, Reads, LoadAnswers, load_0}
use Rattle.call_definitions.proofs.LoadAnswered.{load_derived, load_only}
use Rattle.mirror.specs.Mirrored.{exchange, mirrored, mirrored_text}
use Rattle.mirror.proofs.Exchanged.{Blocks, blocks, exchange_length, mirrored_last}

-- ---- texts that begin alike

-- t is as long as s, and its first m bytes are those of s
record Begins (s t : List ℕ) (m : ℕ) : Type 0 where
  long : length t ≡ length s
  front : take m t ≡ take m s

module _ {s t : List ℕ} {m : ℕ} (same : Begins s t m) where
  front_field : (at w : ℕ) → at + w ≤ m → reads_at t at w ≡ reads_at s at w
  unfolding reads_at
  front_field at w h =
      let e : slice at (at + w) t ≡ slice at (at + w) s = ap (drop at) (sym (take-take (at + w) m t h) ∙ ap (take (at + w)) same.front ∙ take-take (at + w) m s h) in
      (λ j. cond (leb (at + w) (same.long j)) (reads (e j)) unreadable)

  front_fields : (ws : List ℕ) (at : ℕ) → at + total ws ≤ m → fields_at t at ws ≡ fields_at s at ws
  unfolding fields_at
  front_fields [] at h = refl
  front_fields (w ∷ ws) at h = ap₂ ◌∷◌ (front_field at w (omega (arith, h))) (front_fields ws (at + w) (omega (arith, h)))

  front_byte : (i : ℕ) → suc i ≤ m → get_or t i 0 ≡ get_or s i 0
  front_byte i h = sym (get_or-take m t i 0 h) ∙ ap (λ l. get_or l i 0) same.front ∙ get_or-take m s i 0 h

  front_line : (i : ℕ) → suc i * line_bytes ≤ m → line_says t i ≡ line_says s i
  unfolding line_says
  front_line i h =
      let e = front_byte (i * line_bytes + total line_columns) (omega (arith, h)) in
      let f = front_fields line_columns (i * line_bytes) (omega (arith, h)) in
      (λ j. cond (eqb (e j) newline) (bind (each number_said (meant_all (unused_fields (kind_word (get_or (f j) 1 unreadable))) (f j))) λ zs. after_row i zs) none)

  front_lines : (i : ℕ) → i * line_bytes ≤ m → lines_say t i ≡ lines_say s i
  unfolding lines_say
  front_lines zero h = refl
  front_lines (suc i) h = (λ j. bind (front_lines i (omega (arith, h)) j) λ ws. bind (front_line i h j) λ zs. some (ws ++ zs))

-- ---- a line by its fields

-- row number, kind, A, B, C
abbrev fields : Field → Field → Field → Field → Field → List Field
fields r k a b c = r ∷ k ∷ a ∷ b ∷ c ∷ []

abbrev meant_by : List Field → List Field
meant_by fs = meant_all (unused_fields (kind_word (get_or fs 1 unreadable))) fs

abbrev said_by : ℕ → List Field → Option (List ℤ)
said_by i fs = bind (each number_said (meant_by fs)) λ zs. after_row i zs

-- by what each field says
abbrev more : Option ℤ → Option (List ℤ) → Option (List ℤ)
more o os = bind o λ x. bind os λ xs. some (x ∷ xs)

abbrev said_five : ℕ → Option ℤ → Option ℤ → Option ℤ → Option ℤ → Option ℤ → Option (List ℤ)
said_five i o p q r s = bind (more o (more p (more q (more r (more s (some [])))))) λ zs. after_row i zs

-- the kind's field says the first word
kind_said : (i : ℕ) (r k : Field) (fs : List Field) {z : ℤ} {zs : List ℤ} → said_by i (r ∷ k ∷ fs) ≡ some (z ∷ zs) → k ≡ number z
unfolding meant_all each bind after_row meant
kind_said i r k fs {z} {zs} h =
    by_field k (number_said_lem (meant false k) (by (number_said (meant false r)) (number_said (meant false k)) (each number_said (drop 2 (meant_by (r ∷ k ∷ fs)))) h))
  where
    by : (x y : Option ℤ) (o : Option (List ℤ)) → bind (more x (more y o)) (λ zs. after_row i zs) ≡ some (z ∷ zs) → y ≡ some z
    by none y o h = no_some h
    by (some x) none o h = no_some h
    by (some x) (some y) none h = no_some h
    by (some x) (some y) (some ys) h = cases (eq_z x (pos i))
        (λ e. let q : y ∷ ys ≡ z ∷ zs = some_is (rw e at h) in let p : y ≡ z = cc in ap some p)
        (λ e. no_some (rw e at h))

    by_field : (k : Field) → meant false k ≡ number z → k ≡ number z
    by_field (number y) e = e
    by_field blank e = let q : ◌≡◌ {A = ℕ} 0 1 = cc in absurd (omega arith)
    by_field unreadable e = e

-- of kind 46, with A and B exchanged
fields_mirrored : (i : ℕ) (r k a b c : Field) {x y z w : ℤ} → kind_word k ≡ number_of (task_k and_k)
    → said_by i (fields r k a b c) ≡ some (x ∷ y ∷ z ∷ w ∷ []) → said_by i (fields r k b a c) ≡ some (x ∷ z ∷ y ∷ w ∷ [])
unfolding meant_all each bind after_row asks_of unused_by is_unused
fields_mirrored i r k a b c {x} {y} {z} {w} e h =
    ap (λ n. bind (each number_said (meant_all (unused_fields n) (fields r k b a c))) λ zs. after_row i zs) e
    ∙ by (number_said (meant false r)) (number_said (meant false k)) (number_said (meant false a)) (number_said (meant false b)) (number_said (meant true c))
    (ap (λ n. bind (each number_said (meant_all (unused_fields n) (fields r k a b c))) λ zs. after_row i zs) (sym e) ∙ h)
  where
    by : (o p q r s : Option ℤ) → said_five i o p q r s ≡ some (x ∷ y ∷ z ∷ w ∷ []) → said_five i o p r q s ≡ some (x ∷ z ∷ y ∷ w ∷ [])
    by none p q r s h = no_some h
    by (some n) none q r s h = no_some h
    by (some n) (some p) none r s h = no_some h
    by (some n) (some p) (some q) none s h = no_some h
    by (some n) (some p) (some q) (some r) none h = no_some h
    by (some n) (some p) (some q) (some r) (some s) h = cases (eq_z n (pos i))
        (λ e. let l : p ∷ q ∷ r ∷ s ∷ [] ≡ x ∷ y ∷ z ∷ w ∷ [] = some_is (rw e at h) in
        let f : p ≡ x = cc in let g : q ≡ y = cc in let k : r ≡ z = cc in let m : s ≡ w = cc in
        rw e (λ j. some (f j ∷ k j ∷ g j ∷ m j ∷ [])))
        (λ e. no_some (rw e at h))

-- ---- the last line

-- two operands x and y after p, and c from the third operand on
module _ (p x y c : List ℕ) (at : ℕ) (lp : length p ≡ at) (lx : length x ≡ word_columns) (ly : length y ≡ word_columns) (lc : word_columns ≤ length c) where
  operands_say : fields_at (p ++ (x ++ (y ++ c))) at (drop 2 line_columns) ≡ reads x ∷ reads y ∷ reads (take word_columns c) ∷ []
  unfolding fields_at
  operands_say =
      let w = word_columns in
      let f : p ++ (x ++ (y ++ c)) ≡ (p ++ x) ++ (y ++ c) = sym (append_assoc p x (y ++ c)) in
      let g : p ++ (x ++ (y ++ c)) ≡ ((p ++ x) ++ y) ++ (take w c ++ drop w c) = f ∙ sym (append_assoc (p ++ x) y c) ∙ ap (λ l. ((p ++ x) ++ y) ++ l) (sym (take-append-drop w c)) in
      let m : length (p ++ x) ≡ at + w = length-append p x ∙ (λ j. lp j + lx j) in
      let o : length ((p ++ x) ++ y) ≡ at + w + w = length-append (p ++ x) y ∙ (λ j. m j + ly j) in
      let a = field_in p x (y ++ c) at w lp lx in
      let b = ap (λ l. reads_at l (at + w) w) f ∙ field_in (p ++ x) y c (at + w) w m ly in
      let d = ap (λ l. reads_at l (at + w + w) w) g ∙ field_in ((p ++ x) ++ y) (take w c) (drop w c) (at + w + w) w o (length-take-le w c lc) in
      (λ j. a j ∷ b j ∷ d j ∷ [])

  end_byte : get_or (p ++ (x ++ (y ++ c))) (at + total (drop 2 line_columns)) 0 ≡ get_or c word_columns 0
  end_byte =
      ap (λ i. get_or (p ++ (x ++ (y ++ c))) i 0) {x = at + total (drop 2 line_columns)} {y = length p + (length x + (length y + word_columns))} (omega (arith, lp, lx, ly))
      ∙ get_or-append-add p (x ++ (y ++ c)) (length x + (length y + word_columns)) 0 ∙ get_or-append-add x (y ++ c) (length y + word_columns) 0 ∙ get_or-append-add y c word_columns 0

-- the text s of n + 1 lines by its last line: what stands before A, A, B, and C with byte 10
module _ (s : List ℕ) (n : ℕ) (whole : length s ≡ suc n * line_bytes) where
  abbrev at : ℕ
  at = n * line_bytes + place_of line_columns 2

  parts : Blocks at word_columns word_columns s
  parts = blocks at word_columns word_columns s (omega (arith, whole))

  text_is : mirrored_text s ≡ parts.before ++ (parts.other ++ (parts.one ++ parts.after))
  unfolding mirrored_text
  text_is = ap (λ i. exchange i word_columns word_columns s) {x = (lines s - 1) * line_bytes + place_of line_columns 2} {y = at} (omega (arith, whole)) ∙ parts.exchanged

  -- all but A and B stay
  begins : Begins s (mirrored_text s) at
  unfolding mirrored_text
  begins = record {
    long = exchange_length ((lines s - 1) * line_bytes + place_of line_columns 2) word_columns word_columns s;
    front = ap (take at) text_is ∙ take_at parts.before (parts.other ++ (parts.one ++ parts.after)) at parts.long_before
        ∙ sym (ap (take at) parts.is ∙ take_at parts.before (parts.one ++ (parts.other ++ parts.after)) at parts.long_before);
  }

  after_long : word_columns ≤ length parts.after
  after_long =
      let a = ap length parts.is in
      let b = length-append parts.before (parts.one ++ (parts.other ++ parts.after)) in
      let d = length-append parts.one (parts.other ++ parts.after) in
      let e = length-append parts.other parts.after in
      omega (arith, a, b, d, e, whole, parts.long_before, parts.long_one, parts.long_other)

  -- the fields of row number and kind, the bytes of C
  abbrev row_field : Field
  row_field = reads_at s (n * line_bytes) row_columns

  abbrev kind_field : Field
  kind_field = reads_at s (n * line_bytes + row_columns) row_columns

  abbrev last_bytes : List ℕ
  last_bytes = take word_columns parts.after

  place_is : n * line_bytes + row_columns + row_columns ≡ at
  place_is = omega arith

  fields_are : fields_at s (n * line_bytes) line_columns ≡ fields row_field kind_field (reads parts.one) (reads parts.other) (reads last_bytes)
  unfolding fields_at
  fields_are = ap (λ fs. row_field ∷ kind_field ∷ fs)
      ((λ j. fields_at (parts.is j) (place_is j) (drop 2 line_columns))
      ∙ operands_say parts.before parts.one parts.other parts.after at parts.long_before parts.long_one parts.long_other after_long)

  fields_mirrored_are : fields_at (mirrored_text s) (n * line_bytes) line_columns ≡ fields row_field kind_field (reads parts.other) (reads parts.one) (reads last_bytes)
  unfolding fields_at
  fields_mirrored_are =
      let r = front_field begins (n * line_bytes) row_columns (omega arith) in
      let k = front_field begins (n * line_bytes + row_columns) row_columns (omega arith) in
      let o = (λ j. fields_at (text_is j) (place_is j) (drop 2 line_columns))
      ∙ operands_say parts.before parts.other parts.one parts.after at parts.long_before parts.long_other parts.long_one after_long in
      (λ j. r j ∷ k j ∷ o j)

  -- byte 10 stays
  end_same : get_or (mirrored_text s) (n * line_bytes + total line_columns) 0 ≡ get_or s (n * line_bytes + total line_columns) 0
  end_same =
      let p = parts.before in let x = parts.one in let y = parts.other in let c = parts.after in
      let e : n * line_bytes + total line_columns ≡ at + total (drop 2 line_columns) = omega arith in
      (λ j. get_or (text_is j) (e j) 0) ∙ end_byte p y x c at parts.long_before parts.long_other parts.long_one after_long
      ∙ sym ((λ j. get_or (parts.is j) (e j) 0) ∙ end_byte p x y c at parts.long_before parts.long_one parts.long_other after_long)

  line_mirrored : {k a b c : ℤ} → of_z w32 k ≡ number_of (task_k and_k) → line_says s n ≡ some (k ∷ a ∷ b ∷ c ∷ [])
      → line_says (mirrored_text s) n ≡ some (k ∷ b ∷ a ∷ c ∷ [])
  unfolding line_says kind_word
  line_mirrored {k} {a} {b} {c} e h =
      (λ j. cond (eqb (end_same j) newline) (said_by n (fields_mirrored_are j)) none)
      ∙ by (eqb (get_or s (n * line_bytes + total line_columns) 0) newline) ((λ j. cond (eqb (get_or s (n * line_bytes + total line_columns) 0) newline) (said_by n (sym fields_are j)) none) ∙ h)
    where
      by : (q : Bool) → cond q (said_by n (fields row_field kind_field (reads parts.one) (reads parts.other) (reads last_bytes))) none ≡ some (k ∷ a ∷ b ∷ c ∷ [])
          → cond q (said_by n (fields row_field kind_field (reads parts.other) (reads parts.one) (reads last_bytes))) none ≡ some (k ∷ b ∷ a ∷ c ∷ [])
      by false h = no_some h
      by true h =
          let f = kind_said n row_field kind_field (reads parts.one ∷ reads parts.other ∷ reads last_bytes ∷ []) h in
          fields_mirrored n row_field kind_field (reads parts.one) (reads parts.other) (reads last_bytes) (ap kind_word f ∙ e) h

  -- ---- all lines

  lines_mirrored : {us : List ℤ} {k a b c : ℤ} → of_z w32 k ≡ number_of (task_k and_k) → lines_say s n ≡ some us → line_says s n ≡ some (k ∷ a ∷ b ∷ c ∷ [])
      → lines_say (mirrored_text s) (suc n) ≡ some (mirrored (us ++ (k ∷ a ∷ b ∷ c ∷ [])))
  lines_mirrored {us} {k} {a} {b} {c} e f g =
      lines_more (mirrored_text s) n (front_lines begins n (omega arith) ∙ f) (line_mirrored e g)
      ∙ ap some (sym (mirrored_last n us k a b c (lines_long s n f)))

-- the kind of the last of n + 1 rows
last_kind_lem : (us : List ℤ) (k a b c : ℤ) (n : ℕ) → length us ≡ n * row_words → word (own_rows (us ++ (k ∷ a ∷ b ∷ c ∷ []))) n 0 ≡ of_z w32 k
last_kind_lem us k a b c n l =
    let ws = us ++ (k ∷ a ∷ b ∷ c ∷ []) in
    let m = length-map ws (of_z w32) in
    let o = length-append us (k ∷ a ∷ b ∷ c ∷ []) in
    get_or-append (map (of_z w32) ws) _ 0 (n * row_words + 0) (omega (arith, m, o, l)) ∙ bits_at ws (n * row_words + 0)
    ∙ ap (of_z w32) (ap (λ i. get_or ws i (pos 0)) {x = n * row_words + 0} {y = length us + 0} (omega (arith, l)) ∙ get_or-append-add us (k ∷ a ∷ b ∷ c ∷ []) 0 (pos 0))

says_mirrored : (s : List ℕ) (n : ℕ) {ws : List ℤ} → length s ≡ suc n * line_bytes → lines_say s (suc n) ≡ some ws → OfKind (own_rows ws) n (task_k and_k)
    → lines_say (mirrored_text s) (suc n) ≡ some (mirrored ws)
unfolding lines_say
says_mirrored s n {ws} whole h o =
    let (us, e, f) = (bind-eq-some_iff (lines_say s n) _).0 h in
    let (zs, g, q) = (bind-eq-some_iff (line_says s n) _).0 f in
    by us zs e g (some_is q) (line_long s n g)
  where
    by : (us zs : List ℤ) → lines_say s n ≡ some us → line_says s n ≡ some zs → us ++ zs ≡ ws → length zs ≡ row_words
        → lines_say (mirrored_text s) (suc n) ≡ some (mirrored ws)
    by us [] e g q l = absurd (omega arith)
    by us (k ∷ []) e g q l = absurd (omega arith)
    by us (k ∷ a ∷ []) e g q l = absurd (omega arith)
    by us (k ∷ a ∷ b ∷ []) e g q l = absurd (omega arith)
    by us (k ∷ a ∷ b ∷ c ∷ d ∷ zs) e g q l = absurd (omega arith)
    by us (k ∷ a ∷ b ∷ c ∷ []) e g q l =
        let t : of_z w32 k ≡ number_of (task_k and_k) = sym (last_kind_lem us k a b c n (lines_long s n e)) ∙ subst (λ ws. OfKind (own_rows ws) n (task_k and_k)) (sym q) o in
        lines_mirrored s n whole t e g ∙ ap (λ ws. some (mirrored ws)) q

-- ---- the call load

mirrored_lines : {s : List ℕ} {n : ℕ} → HasLines s n → HasLines (mirrored_text s) n
unfolding mirrored_text
mirrored_lines {s} l = record {
  some_lines = l.some_lines;
  few = l.few;
  whole = exchange_length ((lines s - 1) * line_bytes + place_of line_columns 2) word_columns word_columns s ∙ l.whole;
}

mirrored_reads : {s : List ℕ} {memory : List ℤ} {n : ℕ} {ws : List ℤ} → Reads s memory n ws → OfKind (own_rows ws) (row_count ws - 1) (task_k and_k)
    → Reads (mirrored_text s) memory n (mirrored ws)
mirrored_reads {s} {memory} {n} {ws} r o =
    let a = r.lines.some_lines in
    let b = r.lines.whole in
    let c : n ≡ suc (n - 1) = omega (arith, a) in
    let l = lines_long s n r.says in
    let d : row_count ws - 1 ≡ n - 1 = omega (arith, l) in
    record {
      lines = mirrored_lines r.lines;
      room = r.room;
      says = ap (lines_say (mirrored_text s)) c
          ∙ says_mirrored s (n - 1) (omega (arith, a, b)) (ap (lines_say s) (sym c) ∙ r.says) (subst (λ i. OfKind (own_rows ws) i (task_k and_k)) d o);
    }

-- THE THEOREM of texts
pub mirrored_loads : (text : List ℕ) (memory rows : List ℤ) → loaded text memory ≡ (0, rows) → OfKind (own_rows rows) (row_count rows - 1) (task_k and_k)
    → ground_of_rows (own_rows (mirrored rows)) (row_count rows) ≡ 0 → loaded (mirrored_text text) memory ≡ (0, mirrored rows)
mirrored_loads text memory rows h o g = by (subst (λ r. LoadAnswers text memory r.0 r.1) h (load_derived text memory)) o g
  where
    by : {rs : List ℤ} → LoadAnswers text memory 0 rs → OfKind (own_rows rs) (row_count rs - 1) (task_k and_k) → ground_of_rows (own_rows (mirrored rs)) (row_count rs) ≡ 0
        → loaded (mirrored_text text) memory ≡ (0, mirrored rs)
    by (load_0 {n = n} {ws = ws} r f k i) o g =
        let l = lines_long text n r.says in
        let c : row_count ws ≡ n = omega (arith, l) in
        let (w, z, j) = zero_flow (own_rows (mirrored ws)) n r.lines.some_lines (ap (ground_of_rows (own_rows (mirrored ws))) (sym c) ∙ g) in
        load_only (mirrored_text text) memory (load_0 (mirrored_reads r o) w z j.flow)
