-- Blocks of a list that change places: what `exchange` leaves of blocks one after another, and that nothing is lost; the last row of a
-- sheet with its A and B exchanged. Rests on the definitions of specs/Mirrored alone.
use mathlib.Core.Path.{◌≡◌, refl, sym, ap, ◌∙◌}
use mathlib.Core.List.{List, [], ◌∷◌, ◌++◌}
use Prim.Native.Nat.{ℕ, suc, ◌+◌, ◌*◌, ◌-◌, ◌/◌, ◌≤◌}
use native.Mathlib.Omega.{arith}
use lib.IntN.{ℤ}
use lib.ListN.{length, take, drop, length-append, length-take, length-drop, take-append-drop}
use lib.Seq.{append_snoc, length-take-le, take-append_seam, drop-append_seam, drop-append-add}
use Rattle.rows.specs.Rows.{row_words}
use Rattle.rows.specs.Lent.{row_count}
use Rattle.mirror.specs.Mirrored.{exchange, mirrored}

-- ---- blocks

module _ {A : Type 0} where
  pub exchange_blocks : (xs ys zs ws : List A) → exchange (length xs) (length ys) (length zs) (xs ++ (ys ++ (zs ++ ws))) ≡ xs ++ (zs ++ (ys ++ ws))
  unfolding exchange
  exchange_blocks xs ys zs ws =
      let i = length xs in let m = length ys in let n = length zs in
      let all = xs ++ (ys ++ (zs ++ ws)) in
      let a = take-append_seam xs (ys ++ (zs ++ ws)) in
      let b : take n (drop (i + m) all) ≡ zs = ap (take n) (drop-append-add xs (ys ++ (zs ++ ws)) m ∙ drop-append_seam ys (zs ++ ws)) ∙ take-append_seam zs ws in
      let c : take m (drop i all) ≡ ys = ap (take m) (drop-append_seam xs (ys ++ (zs ++ ws))) ∙ take-append_seam ys (zs ++ ws) in
      let d : drop (i + m + n) all ≡ ws =
      ap (λ k. drop k all) {x = i + m + n} {y = i + (m + n)} (omega arith)
      ∙ drop-append-add xs (ys ++ (zs ++ ws)) (m + n) ∙ drop-append-add ys (zs ++ ws) n ∙ drop-append_seam zs ws in
      (λ j. a j ++ (b j ++ (c j ++ d j)))

  -- where the lengths are given by other terms
  pub exchange_at : (at m n : ℕ) (xs ys zs ws : List A) → length xs ≡ at → length ys ≡ m → length zs ≡ n
      → exchange at m n (xs ++ (ys ++ (zs ++ ws))) ≡ xs ++ (zs ++ (ys ++ ws))
  exchange_at at m n xs ys zs ws a b c = (λ j. exchange (sym a j) (sym b j) (sym c j) (xs ++ (ys ++ (zs ++ ws)))) ∙ exchange_blocks xs ys zs ws

  -- from the front
  pub exchange_front : (m n : ℕ) (ys zs ws : List A) → length ys ≡ m → length zs ≡ n → exchange 0 m n (ys ++ (zs ++ ws)) ≡ zs ++ (ys ++ ws)
  exchange_front m n ys zs ws b c = exchange_at 0 m n [] ys zs ws refl b c

  -- nothing is lost
  pub exchange_length : (at m n : ℕ) (xs : List A) → length (exchange at m n xs) ≡ length xs
  unfolding exchange
  exchange_length at m n xs =
      let a = take at xs in let b = take n (drop (at + m) xs) in let c = take m (drop at xs) in let d = drop (at + m + n) xs in
      let e = length-append a (b ++ (c ++ d)) in let f = length-append b (c ++ d) in let g = length-append c d in
      let p = length-take at xs in let q = length-take n (drop (at + m) xs) in let r = length-take m (drop at xs) in
      let s = length-drop (at + m) xs in let t = length-drop at xs in let u = length-drop (at + m + n) xs in
      omega (arith, e, f, g, p, q, r, s, t, u)

  -- a list as blocks
  pub record Blocks (at m n : ℕ) (xs : List A) : Type 0 where
    pub before : List A
    pub one : List A
    pub other : List A
    pub after : List A
    pub long_before : length before ≡ at
    pub long_one : length one ≡ m
    pub long_other : length other ≡ n
    pub is : xs ≡ before ++ (one ++ (other ++ after))
    pub exchanged : exchange at m n xs ≡ before ++ (other ++ (one ++ after))

  pub blocks : (at m n : ℕ) (xs : List A) → at + m + n ≤ length xs → Blocks at m n xs
  blocks at m n xs h =
      let a = take at xs in let b = take m (drop at xs) in let c = take n (drop m (drop at xs)) in let d = drop n (drop m (drop at xs)) in
      let p = length-drop at xs in
      let q = length-drop m (drop at xs) in
      let i : xs ≡ a ++ (b ++ (c ++ d)) =
      sym (ap (λ l. a ++ (b ++ l)) (take-append-drop n (drop m (drop at xs))) ∙ ap (λ l. a ++ l) (take-append-drop m (drop at xs)) ∙ take-append-drop at xs) in
      let e = length-take-le at xs (omega (arith, h)) in
      let f = length-take-le m (drop at xs) (omega (arith, h, p)) in
      let g = length-take-le n (drop m (drop at xs)) (omega (arith, h, p, q)) in
      record {
        before = a;
        one = b;
        other = c;
        after = d;
        long_before = e;
        long_one = f;
        long_other = g;
        is = i;
        exchanged = ap (exchange at m n) i ∙ exchange_at at m n a b c d e f g;
      }

-- ---- the last row of n + 1

pub record LastRow (rows : List ℤ) (n : ℕ) : Type 0 where
  pub front : List ℤ
  pub k : ℤ
  pub a : ℤ
  pub b : ℤ
  pub c : ℤ
  pub long : length front ≡ n * row_words
  pub is : rows ≡ front ++ (k ∷ a ∷ b ∷ c ∷ [])
  pub mirrored_is : mirrored rows ≡ front ++ (k ∷ b ∷ a ∷ c ∷ [])

-- rows by their last
pub mirrored_last : (n : ℕ) (front : List ℤ) (k a b c : ℤ) → length front ≡ n * row_words → mirrored (front ++ (k ∷ a ∷ b ∷ c ∷ [])) ≡ front ++ (k ∷ b ∷ a ∷ c ∷ [])
unfolding mirrored
mirrored_last n front k a b c l =
    let rows = front ++ (k ∷ a ∷ b ∷ c ∷ []) in
    let m = length-append front (k ∷ a ∷ b ∷ c ∷ []) in
    let o = length-append front (k ∷ []) in
    let e : (row_count rows - 1) * row_words + 1 ≡ length (front ++ (k ∷ [])) = omega (arith, m, o, l) in
    (λ j. exchange (e j) 1 1 (sym (append_snoc front k (a ∷ b ∷ c ∷ [])) j))
    ∙ exchange_blocks (front ++ (k ∷ [])) (a ∷ []) (b ∷ []) (c ∷ [])
    ∙ append_snoc front k (b ∷ a ∷ c ∷ [])

pub mirrored_split : (rows : List ℤ) (n : ℕ) → length rows ≡ suc n * row_words → LastRow rows n
mirrored_split rows n h = by (drop (n * row_words) rows) refl (length-drop (n * row_words) rows ∙ omega (arith, h))
  where
    by : (l : List ℤ) → l ≡ drop (n * row_words) rows → length l ≡ row_words → LastRow rows n
    by [] e g = absurd (omega arith)
    by (k ∷ []) e g = absurd (omega arith)
    by (k ∷ a ∷ []) e g = absurd (omega arith)
    by (k ∷ a ∷ b ∷ []) e g = absurd (omega arith)
    by (k ∷ a ∷ b ∷ c ∷ d ∷ l) e g = absurd (omega arith)
    by (k ∷ a ∷ b ∷ c ∷ []) e g =
        let f = take (n * row_words) rows in
        let l = length-take-le (n * row_words) rows (omega (arith, h)) in
        let i : rows ≡ f ++ (k ∷ a ∷ b ∷ c ∷ []) = sym (ap (λ l. f ++ l) e ∙ take-append-drop (n * row_words) rows) in
        record { front = f; k = k; a = a; b = b; c = c; long = l; is = i; mirrored_is = ap mirrored i ∙ mirrored_last n f k a b c l }

pub mirrored_length : (rows : List ℤ) → length (mirrored rows) ≡ length rows
unfolding mirrored
mirrored_length rows = exchange_length ((row_count rows - 1) * row_words + 1) 1 1 rows

-- the rows are as many
pub mirrored_count : (rows : List ℤ) → row_count (mirrored rows) ≡ row_count rows
mirrored_count rows = ap (λ n. n / row_words) (mirrored_length rows)
