-- What `write_entry` leaves: a path, an action and leaf kinds, one after another, are the bytes of an entry at the front of the list; and
-- none where there is no room. Rests on Fronts, and on crate formats' records.
use mathlib.Core.Path.{◌≡◌, refl, sym, ap, ap₂, ◌∙◌, subst}
use mathlib.Core.Bool.{Bool, true, false, not, cond}
use mathlib.Core.Option.{Option, none, some}
use mathlib.Core.List.{List, [], ◌∷◌, ◌++◌, map, append_assoc}
use Prim.Native.Nat.{ℕ, zero, suc, ◌+◌, ◌-◌, ◌<◌, ◌≤◌}
use native.Mathlib.Omega.{arith}
use lib.IntN.{pos}
use lib.ListN.{length, take, drop, set, get_or, replicate, length-append, length-drop}
use lib.Seq.{take_at, drop_at, drop-drop}
use mir.Syntax.{w32}
use mir.Val.{to_z}
use mir.Facts.{to_z_pos}
use Rattle.decimal.specs.Field.{written, action_columns, newline, put_at}
use Rattle.decimal.specs.Path.{Path, max_marks, path_columns, written_path}
use Rattle.tophat.specs.Syntax.{max_leaves, Ty}
use Rattle.tophat.specs.Leaves.{padded, Leaf, no_leaf, unit_leaf, truth_leaf, number_leaf, leaf_kinds, leaf_number}
use Rattle.tophat.specs.declared.Action.{Action}
use Rattle.tophat.specs.declared.Action.TheVariants.{Value, Continue, Left, Right}
use Rattle.tophat.specs.Actions.{number_of_action}
use Rattle.formats.specs.Records.{path_field, Item, item_text, items_text, put_items, items_of, total}
use Rattle.formats.specs.Touches.{entry_bytes, touch_text}
use Rattle.formats.specs.Lists.{no_kinds, numbers_entry}
use Rattle.formats.proofs.Items.{Fits, number_fits, item_written, item_length, path_written, path_length}
use Rattle.formats.proofs.Records.{AllFit, fit_none, fit_more, widths, items_length, put_items_lem}
use Rattle.formats.proofs.TouchesRead.{fields}
use Rattle.shape.specs.Shape.{as_type, kinds_in, kinds_of}
use Rattle.value.proofs.Operators.{differ}
use Rattle.entries.specs.Listing.{Wrote, OneDigit}
use Rattle.entries.proofs.Fronts.{Text, Front, front_none, front_next, front_byte, front_counted, wrote_none}

-- ---- numbers of one digit, in fields of 2 columns

digit_fits : (n : ℕ) → n < 10 → Fits (action_columns, pos n)
digit_fits n h = number_fits 2 n (omega arith) (omega arith) (omega arith)

-- an action's
pub action_digit : (a : Action) → number_of_action a < 10
action_digit Value = omega arith
action_digit Continue = omega arith
action_digit Left = omega arith
action_digit Right = omega arith

-- as code has them, by their bits
bits_are : (ks : List ℕ) → ((i : ℕ) → get_or ks i 0 < 10) → items_of action_columns ks ≡ fields action_columns (map pos ks)
bits_are [] h = refl
bits_are (k ∷ ks) h = ap₂ (λ z is. (action_columns, z) ∷ is) (to_z_pos w32 {n = k} (let l = h 0 in omega arith)) (bits_are ks (λ i. h (suc i)))

digits_fit : (ks : List ℕ) → ((i : ℕ) → get_or ks i 0 < 10) → AllFit (fields action_columns (map pos ks))
digits_fit [] h = fit_none
digits_fit (k ∷ ks) h = fit_more (digit_fits k (h 0)) (digits_fit ks (λ i. h (suc i)))

widths_total : (w : ℕ) (ks : List ℕ) → total (widths (fields w (map pos ks))) ≡ total (replicate (length ks) w)
widths_total w [] = refl
widths_total w (k ∷ ks) = ap (λ n. w + n) (widths_total w ks)

-- ---- fields after a front

-- l is `list` with the bytes pre in place of its first `at`: then fields from there on
items_after : {list pre : List ℕ} {at : ℕ} {l l₁ : List ℕ} (is : List Item) → AllFit is → Front list pre at l → at + total (widths is) ≤ length list → l₁ ≡ put_items l at is
    → Front list (pre ++ items_text is) (at + total (widths is)) l₁
items_after {list} {pre} {at} {l} is f p h e =
    let n = total (widths is) in
    let long : at + n ≤ length l = let a = ap length p.is in let b = length-append pre (drop at list) in let c = length-drop at list in let d = p.long in omega (arith, a, b, c, d, h) in
    record {
      long = length-append pre (items_text is) ∙ ap₂ ◌+◌ p.long (items_length f);
      is =
          e ∙ put_items_lem f l at long
          ∙ ap₂ (λ x y. x ++ (items_text is ++ y))
          (ap (take at) p.is ∙ take_at pre (drop at list) at p.long)
          (sym (drop-drop n at l) ∙ ap (λ l. drop n (drop at l)) p.is ∙ ap (drop n) (drop_at pre (drop at list) at p.long) ∙ drop-drop n at list)
          ∙ sym (append_assoc pre (items_text is) (drop (at + n) list));
    }

-- ---- an entry

module _ (p : Path) (few : length p ≤ max_marks) (action : ℕ) (small : action < 10) (ks : List ℕ) (all : length ks ≡ max_leaves) (ok : OneDigit ks) where
  digits : (i : ℕ) → get_or ks i 0 < 10
  digits i = ok i

  abbrev kinds : List Item
  kinds = fields action_columns (map pos ks)

  kinds_wide : total (widths kinds) ≡ total (replicate max_leaves action_columns)
  kinds_wide = widths_total action_columns ks ∙ ap (λ n. total (replicate n action_columns)) all

  in_order : [] ++ path_field p ++ item_text (action_columns, pos action) ++ items_text kinds ++ newline ∷ [] ≡ numbers_entry p action ks
  unfolding items_text
  in_order = simp append_assoc

  module _ (list l₁ l₂ l₃ : List ℕ) (h : entry_bytes ≤ length list) (e₁ : l₁ ≡ (put_at list 0 path_columns (written_path p)).1)
      (e₂ : l₂ ≡ (put_at l₁ path_columns action_columns (written action_columns (to_z w32 action))).1) (e₃ : l₃ ≡ put_items l₂ (path_columns + action_columns) (items_of action_columns ks)) where
    front : Front list (numbers_entry p action ks) entry_bytes (set l₃ (entry_bytes - 1) newline)
    front =
        let path : Text path_columns (written_path p) (path_field p) = record { is = path_written p few; long = path_length p few } in
        let act : Text action_columns (written action_columns (to_z w32 action)) (item_text (action_columns, pos action)) =
        record { is = ap (written action_columns) (to_z_pos w32 {n = action} (omega arith)) ∙ item_written (digit_fits action small); long = item_length (digit_fits action small) } in
        let f₁ = front_next (front_none list) path (omega arith) e₁ in
        let f₂ = front_next f₁ act (omega arith) e₂ in
        let f₃ = items_after kinds (digits_fit ks digits) f₂ (let w = kinds_wide in omega (arith, w, h)) (e₃ ∙ ap (put_items l₂ (path_columns + action_columns)) (bits_are ks digits)) in
        let f₄ = subst (λ n. Front list ([] ++ path_field p ++ item_text (action_columns, pos action) ++ items_text kinds) (path_columns + action_columns + n) l₃) kinds_wide f₃ in
        subst (λ bs. Front list bs entry_bytes (set l₃ (entry_bytes - 1) newline)) in_order (front_byte f₄ newline (omega arith))

    pub wrote_entry : Wrote list (set l₃ (entry_bytes - 1) newline) entry_bytes (numbers_entry p action ks)
    wrote_entry = record { most = omega arith; counted = front_counted front refl; short = λ g. absurd (let e = front.long in omega arith) }

  long : length (numbers_entry p action ks) ≡ entry_bytes
  unfolding items_text
  long =
      let a = length-append (touch_text p action action_columns (map pos ks)) (newline ∷ []) in
      let b = length-append (path_field p) (items_text ((action_columns, pos action) ∷ kinds)) in
      let c = path_length p few in
      let d = items_length (fit_more (digit_fits action small) (digits_fit ks digits)) in
      let w = kinds_wide in
      omega (arith, a, b, c, d, w)

  pub wrote_nothing : (list : List ℕ) → length list < entry_bytes → Wrote list list entry_bytes (numbers_entry p action ks)
  wrote_nothing list h = let e = long in record { most = omega arith; counted = record { count = sym e; fits = λ g. absurd (omega (arith, e, g, h)) }; short = λ g. refl }

-- ---- buttons

pad_digit : (n i : ℕ) → get_or (replicate n 0) i 0 < 10
pad_digit zero i = omega arith
pad_digit (suc n) zero = omega arith
pad_digit (suc n) (suc i) = pad_digit n i

-- a button's leaf kinds are 0
pub no_digits : OneDigit no_kinds
no_digits i = pad_digit max_leaves i

pub button_disabled : (list : List ℕ) (x : Bool) (bytes : List ℕ) → not x ≡ true → Wrote list list 0 (cond x bytes [])
button_disabled list true bytes e = differ (sym e)
button_disabled list false bytes e = wrote_none list

pub button_enabled : (list l₁ : List ℕ) (n : ℕ) (x : Bool) (bytes : List ℕ) → not x ≡ false → Wrote list l₁ n bytes → Wrote list l₁ n (cond x bytes [])
button_enabled list l₁ n true bytes e w = w
button_enabled list l₁ n false bytes e w = differ e

-- ---- leaf kinds are numbers of one digit

leaf_digit : (k : Leaf) → leaf_number k < 10
leaf_digit no_leaf = omega arith
leaf_digit unit_leaf = omega arith
leaf_digit truth_leaf = omega arith
leaf_digit number_leaf = omega arith

leaves_digit : (ks : List Leaf) (n i : ℕ) → get_or (map leaf_number ks ++ replicate n 0) i 0 < 10
leaves_digit [] n i = pad_digit n i
leaves_digit (k ∷ ks) n zero = leaf_digit k
leaves_digit (k ∷ ks) n (suc i) = leaves_digit ks n i

pub kinds_digit : (ks : List ℕ) (c : ℕ) → ks ≡ kinds_of c → OneDigit ks
unfolding kinds_of kinds_in padded
kinds_digit ks c e i = subst (λ ks. get_or ks i 0 < 10) (sym e) (by (as_type c))
  where
    by : (o : Option Ty) → get_or (kinds_in o) i 0 < 10
    by none = pad_digit max_leaves i
    by (some τ) = leaves_digit (leaf_kinds τ) (max_leaves - length (map leaf_number (leaf_kinds τ))) i
