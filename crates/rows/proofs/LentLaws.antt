-- The engine's own rows: how many words they are, what stands past the last row, and a row more. Rests on specs/Lent.
use mathlib.Core.Path.{◌≡◌, refl, sym, ap, ap₂, ◌∙◌}
use mathlib.Core.List.{List, [], ◌∷◌, ◌++◌, map}
use Prim.Native.Nat.{ℕ, zero, suc, ◌+◌, ◌*◌, ◌-◌, ◌≤◌}
use native.Mathlib.Omega.{arith}
use lib.Dec.{lit<}
use lib.IntN.{ℤ}
use lib.ListN.{length, get_or, drop, replicate, length-map, length-append, length-replicate, get_or-eq_default}
use lib.Seq.{sets, sets-eq, take_at, drop-append-add}
use mir.Syntax.{w32}
use mir.Val.{of_z}
use Rattle.word.proofs.Laid.{map-append}
use Rattle.word.specs.Word.{AllWords, AllBits}
use Rattle.word.proofs.Lists.{drop_zeros, bits_append, bits_bits, bits_replicate}
use Rattle.rows.specs.Rows.{max_rows, row_words, word}
use Rattle.rows.specs.Lent.{rows_size, own_rows}

pub own_length : (ws : List ℤ) → length ws ≤ rows_size → length (own_rows ws) ≡ rows_size
own_length ws l =
    let a = length-append (map (of_z w32) ws) (replicate (rows_size - length ws) 0) in
    let b = length-map ws (of_z w32) in
    let c = length-replicate {A = ℕ} (rows_size - length ws) 0 in
    omega (arith, a, b, c)

-- words have bits
pub own_bits : (ws : List ℤ) → AllWords ws → AllBits (own_rows ws)
own_bits ws w = bits_append (map (of_z w32) ws) (replicate (rows_size - length ws) 0) (bits_bits ws w) (bits_replicate (rows_size - length ws) 0 (lit< tt))

-- ---- past the last row there is none

zeros_at : (n i : ℕ) → get_or {A = ℕ} (replicate n 0) i 0 ≡ 0
zeros_at zero i = refl
zeros_at (suc n) zero = refl
zeros_at (suc n) (suc i) = zeros_at n i

pub zeros_after : (rs : List ℕ) (n i : ℕ) → length rs ≤ i → get_or (rs ++ replicate n 0) i 0 ≡ 0
zeros_after [] n i l = zeros_at n i
zeros_after (r ∷ rs) n zero l = absurd (omega arith)
zeros_after (r ∷ rs) n (suc i) l = zeros_after rs n i (omega arith)

pub own_past : (ws : List ℤ) (n : ℕ) → length ws ≡ n * row_words → (j : ℕ) → n ≤ j → word (own_rows ws) j 0 ≡ 0
own_past ws n e j l = let m = length-map ws (of_z w32) in zeros_after (map (of_z w32) ws) (rows_size - length ws) (j * row_words + 0) (omega (arith, e, m, l))

-- a row's first word; past the array's last row it is 0
pub first_word : (rs : List ℕ) (i : ℕ) → get_or rs (i * row_words) 0 ≡ word rs i 0
first_word rs i = ap (λ m. get_or rs m 0) {x = i * row_words} {y = i * row_words + 0} (omega arith)

pub word_past : (rs : List ℕ) (i k : ℕ) → length rs ≡ rows_size → max_rows ≤ i → 0 ≡ word rs i k
word_past rs i k l m = sym (get_or-eq_default rs 0 (omega arith))

-- ---- words more, set after the last

pub own_more : (ws zs : List ℤ) → length ws + length zs ≤ rows_size → sets (own_rows ws) (length ws) (map (of_z w32) zs) ≡ own_rows (ws ++ zs)
own_more ws zs l =
    let rs = map (of_z w32) ws in
    let xs = map (of_z w32) zs in
    let m = length-map ws (of_z w32) in
    let k = length-map zs (of_z w32) in
    let o = own_length ws (omega (arith, l)) in
    let tail : drop (length ws + length xs) (own_rows ws) ≡ replicate (rows_size - length (ws ++ zs)) 0 =
    ap (λ n. drop (n + length xs) (own_rows ws)) (sym m) ∙ drop-append-add rs (replicate (rows_size - length ws) 0) (length xs)
    ∙ drop_zeros (length xs) (rows_size - length ws)
    ∙ ap (λ n. replicate n 0) {x = rows_size - length ws - length xs} {y = rows_size - length (ws ++ zs)} (let a = length-append ws zs in omega (arith, a, k)) in
    sets-eq xs (own_rows ws) (length ws) (omega (arith, o, k, l))
    ∙ ap₂ (λ a b. a ++ xs ++ b) (take_at rs (replicate (rows_size - length ws) 0) (length ws) m) tail
    ∙ ap (λ a. a ++ replicate (rows_size - length (ws ++ zs)) 0) (sym (map-append (of_z w32) ws zs))
