-- Lent and own state words are two writings of one state: each is got back from the other, of the same length; and what copying them
-- leaves. Rests on specs/Lent.
use mathlib.Core.Path.{◌≡◌, ap, ◌∙◌}
use mathlib.Core.List.{List, ◌++◌, map}
use Prim.Native.Nat.{ℕ, ◌*◌, ◌-◌, ◌≤◌}
use native.Mathlib.Omega.{arith}
use lib.IntN.{ℤ}
use lib.ListN.{length, take, drop, replicate, length-map, length-replicate}
use mir.Syntax.{w32}
use mir.Val.{to_z, of_z}
use Rattle.word.specs.Word.{AllWords, AllBits}
use Rattle.word.specs.Laid.{laid}
use Rattle.word.proofs.Laid.{laid_front, laid_full}
use Rattle.word.proofs.Lists.{drop_zeros, words_whole, bits_numbers, numbers_bits}
use Rattle.rows.specs.Rows.{max_rows}
use Rattle.state.specs.Layout.{state_words}
use Rattle.state.specs.Lent.{own_of, lent_of, state_size, own_state}

pub own_length : (n : ℕ) (ws : List ℤ) → length (own_of n ws) ≡ length ws
unfolding own_of
own_length n ws = length-map ws (of_z w32)

pub lent_length : (n : ℕ) (ws : List ℕ) → length (lent_of n ws) ≡ length ws
unfolding lent_of
lent_length n ws = length-map ws (to_z w32)

pub own_lent : (n : ℕ) (ws : List ℕ) → length ws ≡ n * state_words → AllBits ws → own_of n (lent_of n ws) ≡ ws
unfolding own_of lent_of
own_lent n ws l b = bits_numbers ws b

pub lent_own : (n : ℕ) (ws : List ℤ) → length ws ≡ n * state_words → AllWords ws → lent_of n (own_of n ws) ≡ ws
unfolding own_of lent_of
lent_own n ws l w = numbers_bits ws w

-- ---- what the copying loops leave

-- over zeros
pub state_in : (n : ℕ) (ws : List ℤ) (zeros own : List ℕ) → length ws ≡ n * state_words → n ≤ max_rows → zeros ≡ replicate state_size 0
    → own ≡ laid (of_z w32) ws zeros → AllWords (take (length zeros) ws) → (own ≡ own_state n ws) × AllWords ws
unfolding own_of
state_in n ws zeros own l m z e w =
    let k : length zeros ≡ state_size = ap length z ∙ length-replicate {A = ℕ} state_size 0 in (
      e ∙ laid_front (of_z w32) ws zeros (omega (arith, k, l, m)) ∙ ap (λ r. map (of_z w32) ws ++ r) (ap (drop (length ws)) z ∙ drop_zeros (length ws) state_size ∙ ap (λ k. replicate (state_size - k) 0) l),
      words_whole (length zeros) ws (omega (arith, k, l, m)) w,
    )

-- over all of a lent state
pub state_out : (n : ℕ) (own : List ℕ) (ws out : List ℤ) → length own ≡ state_size → length ws ≡ n * state_words → n ≤ max_rows
    → out ≡ laid (to_z w32) own ws → out ≡ lent_of n (take (n * state_words) own)
unfolding lent_of
state_out n own ws out k l m e = e ∙ laid_full (to_z w32) own ws (omega (arith, k, l, m)) ∙ ap (λ k. map (to_z w32) (take k own)) l
