-- Bytes put at the front of a list, and more after them: by fields into the same slice, and by a call that is lent the part from n
-- on. Rests on specs/Listing, and on decimal's `put_at`.
use mathlib.Core.Path.{◌≡◌, refl, sym, ap, ap₂, ◌∙◌}
use mathlib.Core.Option.{Option, some}
use mathlib.Core.List.{List, [], ◌∷◌, ◌++◌, append_assoc, append-nil}
use Prim.Native.Nat.{ℕ, ◌+◌, ◌-◌, ◌<◌, ◌≤◌}
use native.Mathlib.Omega.{arith}
use borrow.Author.Tests.{le-leb}
use borrow.Rule.Slice.PartMut.{put_mid}
use lib.ListN.{length, take, drop, set, length-append, length-drop, drop_of_length-le}
use lib.Seq.{take_all, take_at, drop_at, drop-drop, set_at}
use Rattle.decimal.specs.Field.{put_at}
use Rattle.entries.specs.Listing.{list_bytes, Counted, Lists, Wrote, Least}

-- ---- the part from a on, as `&mut list[a..]` lends it

pub tail_part : (a : ℕ) (xs : List ℕ) → take (length xs - a) (drop a xs) ≡ drop a xs
tail_part a xs = take_all (length xs - a) (drop a xs) (omega (arith, length-drop a xs))

pub tail_put : (a : ℕ) (xs ys : List ℕ) → put_mid a (length xs - a) xs ys ≡ take a xs ++ ys
tail_put a xs ys = rw (drop_of_length-le (drop a xs) {i = length xs - a} (omega (arith, length-drop a xs)), append-nil)

abbrev pub tail_of : ℕ → List ℕ → List ℕ
tail_of a xs = take (length xs - a) (drop a xs)

-- xs, and ys after them: lent the part after those already written, or one of no byte where there is no room
pub counted_after : {list l₁ l₂ : List ℕ} {n m k : ℕ} {xs ys : List ℕ} → length l₁ ≡ length list → Least n (length l₁) k → Counted list l₁ n xs → Counted (tail_of k l₁) l₂ m ys
    → Counted list (put_mid k (length l₁ - k) l₁ l₂) (n + m) (xs ++ ys)
counted_after {list} {l₁} {l₂} {n} {m} {k} {xs} {ys} kept w p q =
    let a = length-append xs ys in
    let e = p.count in
    let f = q.count in
    record {
      count = omega (arith, a, e, f);
      fits = λ h.
          let i : k ≡ n = w.first (omega (arith, a, e, h, kept)) in
          let r = p.fits (omega (arith, a, h)) in
          let part : tail_of k l₁ ≡ drop (length xs) list = tail_part k l₁ ∙ ap₂ drop i r ∙ drop_at xs (drop (length xs) list) n (sym e) in
          let t = q.fits (let z = ap length part in let y = length-drop (length xs) list in omega arith) in
          tail_put k l₁ l₂
          ∙ ap₂ ◌++◌ (ap₂ take i r ∙ take_at xs (drop (length xs) list) n (sym e)) (t ∙ ap (λ l. ys ++ drop (length ys) l) part)
          ∙ sym (append_assoc xs ys (drop (length ys) (drop (length xs) list)))
          ∙ ap (λ l. xs ++ ys ++ l) (drop-drop (length ys) (length xs) list ∙ ap (λ j. drop j list) (sym a));
    }

-- a second call after one that gave n: where its part of the list starts, and what both give, at most an entry a row
pub record After (list l₁ : List ℕ) (n m k r : ℕ) : Type 0 where
  pub kept : length l₁ ≡ length list
  pub place : Least n (length l₁) k
  pub sum : Least (n + m) list_bytes r

pub after_lists : {list l₁ l₂ : List ℕ} {n m k r : ℕ} {xs ys : List ℕ} → After list l₁ n m k r → Lists list l₁ n xs → Lists (tail_of k l₁) l₂ m ys → Lists list (put_mid k (length l₁ - k) l₁ l₂) r (xs ++ ys)
after_lists {xs = xs} {ys = ys} w f g h =
    let a = length-append xs ys in
    let p = counted_after w.kept w.place (f (omega (arith, a, h))) (g (omega (arith, a, h))) in
    let e = p.count in
    record { count = w.sum.first (omega (arith, e, h)) ∙ e; fits = p.fits }

-- nothing at all
pub lists_none : (list : List ℕ) → Lists list list 0 []
lists_none list h = record { count = refl; fits = λ g. refl }

pub wrote_none : (list : List ℕ) → Wrote list list 0 []
wrote_none list = record { most = omega arith; counted = lists_none list (omega arith); short = λ h. refl }

-- ---- fields

-- a text of w bytes
pub record Text (w : ℕ) (o : Option (List ℕ)) (t : List ℕ) : Type 0 where
  pub is : o ≡ some t
  pub long : length t ≡ w

-- l is list with the bytes pre in place of its first `at`
pub record Front (list pre : List ℕ) (at : ℕ) (l : List ℕ) : Type 0 where
  pub long : length pre ≡ at
  pub is : l ≡ pre ++ drop at list

pub front_none : (list : List ℕ) → Front list [] 0 list
front_none list = record { long = refl; is = refl }

put_some : (pre list t : List ℕ) (at w : ℕ) → length pre ≡ at → at + w ≤ length list → (put_at (pre ++ drop at list) at w (some t)).1 ≡ pre ++ t ++ drop (at + w) list
unfolding put_at
put_some pre list t at w e h =
    let l : at + w ≤ length (pre ++ drop at list) = omega (arith, length-append pre (drop at list), length-drop at list) in
    rw (le-leb (at + w) (length (pre ++ drop at list)) l)
    (ap₂ (λ x y. x ++ t ++ y) (take_at pre (drop at list) at e) (sym (drop-drop w at (pre ++ drop at list)) ∙ ap (drop w) (drop_at pre (drop at list) at e) ∙ drop-drop w at list))

module _ {list pre : List ℕ} {at : ℕ} {l : List ℕ} (f : Front list pre at l) where
  pub front_next : {w : ℕ} {o : Option (List ℕ)} {t l₁ : List ℕ} → Text w o t → at + w ≤ length list → l₁ ≡ (put_at l at w o).1 → Front list (pre ++ t) (at + w) l₁
  front_next {w} {o} {t} {l₁} x h e = record {
    long = length-append pre t ∙ ap₂ ◌+◌ f.long x.long;
    is = e ∙ ap₂ (λ l o. (put_at l at w o).1) f.is x.is ∙ put_some pre list t at w f.long h;
  }

  pub front_byte : (b : ℕ) → at < length list → Front list (pre ++ b ∷ []) (at + 1) (set l at b)
  front_byte b h = record {
    long = length-append pre (b ∷ []) ∙ ap (λ n. n + 1) f.long;
    is = by (drop at list) refl;
  }
    where
      by : (r : List ℕ) → drop at list ≡ r → set l at b ≡ pre ++ b ∷ [] ++ drop (at + 1) list
      by [] e = absurd (let z = ap length e in let y = length-drop at list in omega arith)
      by (x ∷ r) e =
          ap (λ l. set l at b) (f.is ∙ ap (λ r. pre ++ r) e)
          ∙ set_at pre x r b at f.long
          ∙ sym (append_assoc pre (b ∷ []) (drop (at + 1) list) ∙ ap (λ r. pre ++ b ∷ r) (sym (drop-drop 1 at list) ∙ ap (drop 1) e))

  pub front_counted : {n : ℕ} → n ≡ at → Counted list l n pre
  front_counted e = record { count = e ∙ sym f.long; fits = λ h. f.is ∙ ap (λ n. pre ++ drop n list) (sym f.long) }
