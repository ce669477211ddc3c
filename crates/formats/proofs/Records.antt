-- Fields one after another: as long as their columns, read back as the numbers that they were written for, and laid over bytes. What is
-- read are words. Rests on Items and Each.
use mathlib.Core.Path.{◌≡◌, refl, sym, ap, ap₂, subst, ◌∙◌}
use mathlib.Core.Option.{none, some}
use mathlib.Core.List.{List, [], ◌∷◌, ◌++◌, append_assoc, map}
use Prim.Native.Nat.{ℕ, zero, suc, ◌+◌, ◌<◌, ◌≤◌}
use native.Mathlib.Omega.{arith}
use borrow.Author.Tests.{le-leb}
use lib.Dec.{lit<}
use lib.IntN.{ℤ, pos}
use lib.ListN.{length, get_or, take, drop, length-append, length-drop, take-append-drop}
use lib.Seq.{take_at, drop_at, drop-drop, length-take-le}
use Rattle.word.specs.Word.{IsWord, AllWords}
use Rattle.word.proofs.Lists.{words_cons}
use Rattle.decimal.specs.Field.{Field, number, blank, unreadable, written, reads_at, put_at}
use Rattle.decimal.proofs.Answers.{reads_at_word}
use Rattle.tophat.specs.Leaves.{Given}
use Rattle.tophat.proofs.Basics.{no_some, some_is}
use Rattle.formats.specs.Records.{total, place_of, fields_at, number_said, each, Item, item_text, items_text, put_items}
use Rattle.formats.specs.Touches.{leaf_said}
use Rattle.formats.proofs.Each.{none_first, first_of, number_said_lem}
use Rattle.formats.proofs.Items.{Fits, item_written, item_length, item_in}

pub data AllFit : List Item → Type 0 where
  fit_none : AllFit []
  fit_more : {i : Item} {is : List Item} → Fits i → AllFit is → AllFit (i ∷ is)

-- their widths and their numbers
abbrev pub widths : List Item → List ℕ
widths is = map (λ i. i.0) is

abbrev pub numbers : List Item → List ℤ
numbers is = map (λ i. i.1) is

pub items_length : {is : List Item} → AllFit is → length (items_text is) ≡ total (widths is)
unfolding items_text
items_length fit_none = refl
items_length (fit_more {i} {is} f k) = let a = length-append (item_text i) (items_text is) in let b = item_length f in let c = items_length k in omega (arith, a, b, c)

-- ---- read back

pub items_in_lem : {is : List Item} → AllFit is → (p q : List ℕ) (at : ℕ) → length p ≡ at → fields_at (p ++ (items_text is ++ q)) at (widths is) ≡ map number (numbers is)
unfolding items_text fields_at
items_in_lem fit_none p q at e = refl
items_in_lem (fit_more {i} {is} f k) p q at e =
    let t = item_text i in
    let r = items_text is in
    let g = ap (λ l. p ++ l) (append_assoc t r q) in
    let a = ap (λ s. reads_at s at i.0) g ∙ item_in f p (r ++ q) at e in
    let n : length (p ++ t) ≡ at + i.0 = length-append p t ∙ (λ k. e k + item_length f k) in
    let b = ap (λ s. fields_at s (at + i.0) (widths is)) (g ∙ sym (append_assoc p t (r ++ q))) ∙ items_in_lem k (p ++ t) q (at + i.0) n in
    ap₂ ◌∷◌ a b

-- ---- what is read

-- a field for each width, and where it stands
pub fields_length : (s : List ℕ) (at : ℕ) (ws : List ℕ) → length (fields_at s at ws) ≡ length ws
unfolding fields_at
fields_length s at [] = refl
fields_length s at (w ∷ ws) = ap suc (fields_length s (at + w) ws)

pub field_at : (s : List ℕ) (at : ℕ) (ws : List ℕ) (k : ℕ) → k < length ws → get_or (fields_at s at ws) k unreadable ≡ reads_at s (at + place_of ws k) (get_or ws k 0)
unfolding fields_at
field_at s at [] k l = absurd (omega arith)
field_at s at (w ∷ ws) zero l = ap (λ n. reads_at s n w) {x = at} {y = at + 0} (omega arith)
field_at s at (w ∷ ws) (suc k) l = field_at s (at + w) ws k (omega arith) ∙ ap (λ n. reads_at s n (get_or ws k 0)) {x = at + w + place_of ws k} {y = at + (w + place_of ws k)} (omega arith)

-- fields whose numbers are words: all that are read
pub data OfWords : List Field → Type 0 where
  no_fields : OfWords []
  more_fields : {f : Field} {fs : List Field} → ((z : ℤ) → f ≡ number z → IsWord z) → OfWords fs → OfWords (f ∷ fs)

pub fields_words : (s : List ℕ) (at : ℕ) (ws : List ℕ) → OfWords (fields_at s at ws)
unfolding fields_at
fields_words s at [] = no_fields
fields_words s at (w ∷ ws) = more_fields (reads_at_word s at w) (fields_words s (at + w) ws)

pub numbers_words : {fs : List Field} → OfWords fs → {zs : List ℤ} → each number_said fs ≡ some zs → AllWords zs
numbers_words no_fields {zs} h = λ i. subst (λ zs. IsWord (get_or zs i (pos 0))) (sym (none_first number_said h)) (lit< tt)
numbers_words (more_fields {f} {fs} w k) h =
    let g = first_of number_said f fs h in
    subst AllWords g.both (words_cons g.first g.others (w g.first (number_said_lem f g.made)) (numbers_words k g.rest))

-- leaves whose numbers are words
pub data GivenWords : List Given → Type 0 where
  no_leaves : GivenWords []
  blank_leaf : {ls : List Given} → GivenWords ls → GivenWords (none ∷ ls)
  number_leaf_lem : {z : ℤ} {ls : List Given} → IsWord z → GivenWords ls → GivenWords (some z ∷ ls)

pub leaves_words : {fs : List Field} → OfWords fs → {ls : List Given} → each leaf_said fs ≡ some ls → GivenWords ls
unfolding leaf_said
leaves_words no_fields h = subst GivenWords (sym (none_first leaf_said h)) no_leaves
leaves_words (more_fields {f} {fs} w k) h =
    let g = first_of leaf_said f fs h in
    subst GivenWords g.both (by f w g.first g.made (leaves_words k g.rest))
  where
    by : (f : Field) → ((z : ℤ) → f ≡ number z → IsWord z) → (l : Given) {ls : List Given} → leaf_said f ≡ some l → GivenWords ls → GivenWords (l ∷ ls)
    by (number z) w l {ls} e d = subst (λ l. GivenWords (l ∷ ls)) (some_is e) (number_leaf_lem (w z refl) d)
    by blank w l {ls} e d = subst (λ l. GivenWords (l ∷ ls)) (some_is e) (blank_leaf d)
    by unreadable w l e d = no_some e

-- ---- laid over bytes

put_item : {i : Item} → Fits i → (s : List ℕ) (at : ℕ) → at + i.0 ≤ length s → (put_at s at i.0 (written i.0 i.1)).1 ≡ take at s ++ item_text i ++ drop (at + i.0) s
unfolding put_at
put_item {i} f s at l = ap (λ o. (put_at s at i.0 o).1) (item_written f) ∙ rw (le-leb (at + i.0) (length s) l)

pub put_items_lem : {is : List Item} → AllFit is → (s : List ℕ) (at : ℕ) → at + total (widths is) ≤ length s
    → put_items s at is ≡ take at s ++ (items_text is ++ drop (at + total (widths is)) s)
unfolding put_items items_text
put_items_lem fit_none s at l = sym (take-append-drop at s) ∙ ap (λ n. take at s ++ drop n s) {x = at} {y = at + 0} (omega arith)
put_items_lem (fit_more {i} {is} f k) s at l =
    let w = i.0 in
    let n = total (widths is) in
    let front = take at s ++ item_text i in
    let u = front ++ drop (at + w) s in
    let e : length front ≡ at + w = let a = length-append (take at s) (item_text i) in let b = item_length f in let c = length-take-le at s (omega (arith, l)) in omega (arith, a, b, c) in
    let long : length u ≡ length s = let a = length-append front (drop (at + w) s) in let b = length-drop (at + w) s in omega (arith, a, b, e, l) in
    let rest : drop (at + w + n) u ≡ drop (at + (w + n)) s =
    sym (drop-drop n (at + w) u) ∙ ap (drop n) (drop_at front (drop (at + w) s) (at + w) e)
    ∙ drop-drop n (at + w) s ∙ ap (λ m. drop m s) {x = at + w + n} {y = at + (w + n)} (omega arith) in
    ap (λ v. put_items v (at + w) is) (put_item f s at (omega (arith, l)))
    ∙ put_items_lem k u (at + w) (omega (arith, long, l))
    ∙ ap₂ (λ a b. a ++ (items_text is ++ b)) (take_at front (drop (at + w) s) (at + w) e) rest
    ∙ append_assoc (take at s) (item_text i) (items_text is ++ drop (at + (w + n)) s)
    ∙ ap (λ v. take at s ++ v) (sym (append_assoc (item_text i) (items_text is) (drop (at + (w + n)) s)))

-- one field more
pub put_more : (is : List Item) (i : Item) (s : List ℕ) (at : ℕ) → put_items s at (is ++ i ∷ []) ≡ (put_at (put_items s at is) (at + total (widths is)) i.0 (written i.0 i.1)).1
unfolding put_items
put_more [] i s at = ap (λ n. (put_at s n i.0 (written i.0 i.1)).1) {x = at} {y = at + 0} (omega arith)
put_more (j ∷ is) i s at =
    let u = (put_at s at j.0 (written j.0 j.1)).1 in
    put_more is i u (at + j.0) ∙ ap (λ n. (put_at (put_items u (at + j.0) is) n i.0 (written i.0 i.1)).1) {x = at + j.0 + total (widths is)} {y = at + (j.0 + total (widths is))} (omega arith)
