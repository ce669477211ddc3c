-- What stands over the front: where each number fits its columns, a head line is `head_text`. Rests on formats' laws of fields.
use mathlib.Core.Path.{◌≡◌, sym, ap, subst, ◌∙◌}
use mathlib.Core.List.{List, [], ◌∷◌, ◌++◌, append_assoc}
use Prim.Native.Nat.{ℕ, suc, ◌+◌, ◌^◌, ◌<◌, ◌≤◌}
use native.Mathlib.Omega.{arith}
use lib.ListN.{length, get_or, drop, set, length-append}
use lib.Seq.{set_at, drop-cons}
use mir.Syntax.{w32}
use mir.Val.{to_z}
use mir.Facts.{to_z_pos}
use Rattle.word.specs.Word.{half, AllBits}
use Rattle.word.proofs.TwosComplement.{number_word}
use Rattle.decimal.specs.Field.{row_columns, word_columns, newline}
use Rattle.tophat.specs.Syntax.{max_leaves}
use Rattle.formats.specs.Records.{total, Item, items_text, items_of}
use Rattle.formats.specs.Heads.{head_columns, head_bytes}
use Rattle.formats.proofs.Items.{Fits, number_fits, word_fits}
use Rattle.formats.proofs.Records.{AllFit, fit_none, fit_more, widths, items_length, put_items_lem}
use Rattle.formats.proofs.Loops.{widths_total}
use Rattle.screens.specs.declared.head.Head.{Head}
use Rattle.screens.specs.Heads.{four_digits, head_items, head_over, head_text}

-- ---- a head line's numbers

-- the bits of a number below 10 to the k, in k columns
bits_fit : (k n : ℕ) → 1 ≤ k → n < half → n < 10 ^ k → Fits (k, to_z w32 n)
bits_fit k n o h g = subst (λ z. Fits (k, z)) (sym (to_z_pos w32 {n = n} h)) (number_fits k n o h g)

leaves_fit : (ls : List ℕ) (i : Item) → AllBits ls → Fits i → AllFit (items_of word_columns ls ++ i ∷ [])
leaves_fit [] i b f = fit_more f fit_none
leaves_fit (x ∷ ls) i b f = fit_more (word_fits (to_z w32 x) (number_word x (b 0))) (leaves_fit ls i (λ k. b (suc k)) f)

pub all_fit : (h : Head) → h.answer < four_digits → h.strides < four_digits → h.fails ≤ 1 → h.valued ≤ 1 → AllBits h.leaves → h.entries < four_digits → AllFit (head_items h)
all_fit h a s f v l e =
    fit_more (bits_fit 4 h.answer (omega arith) (omega (arith, a)) a)
    (fit_more (bits_fit 4 h.strides (omega arith) (omega (arith, s)) s)
    (fit_more (bits_fit 2 h.fails (omega arith) (omega (arith, f)) (omega (arith, f)))
    (fit_more (bits_fit 2 h.valued (omega arith) (omega (arith, v)) (omega (arith, v)))
    (leaves_fit h.leaves _ l (bits_fit 4 h.entries (omega arith) (omega (arith, e)) e)))))

-- ---- its width

last_width : (is : List Item) (i : Item) → total (widths (is ++ i ∷ [])) ≡ total (widths is) + i.0
last_width [] i = omega arith
last_width (j ∷ is) i = let e = last_width is i in omega (arith, e)

head_width : (h : Head) → length h.leaves ≡ max_leaves → total (widths (head_items h)) ≡ total head_columns
head_width h l =
    let a = last_width (items_of word_columns h.leaves) (row_columns, to_z w32 h.entries) in
    let b = widths_total word_columns h.leaves in
    omega (arith, a, b, l)

-- ---- and its text

module _ (h : Head) (k : AllFit (head_items h)) (long : length h.leaves ≡ max_leaves) where
  items_are : length (items_text (head_items h)) ≡ total head_columns
  items_are = items_length k ∙ head_width h long

  pub head_length : length (head_text h) ≡ head_bytes
  head_length = length-append (items_text (head_items h)) (newline ∷ []) ∙ ap (λ n. n + 1) items_are

  pub head_text_lem : (s : List ℕ) → head_bytes ≤ length s → head_over s h ≡ head_text h ++ drop head_bytes s
  unfolding head_over
  head_text_lem s l =
      let t = items_text (head_items h) in
      let w = head_width h long in
      ap (λ v. set v (total head_columns) newline) (put_items_lem k s 0 (omega (arith, w, l)) ∙ ap (λ n. t ++ drop n s) {x = 0 + total (widths (head_items h))} {y = total head_columns} (omega (arith, w)) ∙ ap (λ v. t ++ v) (drop-cons s (total head_columns) 0 (omega (arith, l))))
      ∙ set_at t (get_or s (total head_columns) 0) (drop (suc (total head_columns)) s) newline (total head_columns) items_are
      ∙ sym (append_assoc t (newline ∷ []) (drop head_bytes s))
