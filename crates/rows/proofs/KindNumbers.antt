-- The table of kinds read both ways: each kind has one number, a number past the table is no kind, and what is tested of each
-- line holds of each number. Rests on Kinds, and on the crate match_laws.
use mathlib.Core.Path.{◌≡◌, refl, sym, ap, subst, ◌∙◌}
use mathlib.Core.Bool.{Bool, true, false, ◌&&◌, ◌||◌, cond}
use mathlib.Core.Logic.{⊎_elim}
use mathlib.Core.Option.{Option, none, some}
use mathlib.Core.List.{List, [], ◌∷◌}
use Prim.Native.Nat.{ℕ, suc, ◌+◌, ◌-◌, ◌<◌, ◌≤◌}
use native.Mathlib.Omega.{arith}
use lib.Dec.{leb, eqb}
use borrow.Author.Tests.{eqb-true, leb-true}
use Rattle.match_laws.proofs.Ranges.{NoneOf, membs, test_all, within, and_left, and_right}
use Rattle.tophat.proofs.Basics.{no_some, some_is}
use Rattle.rows.specs.Kinds.{Kind, type_k, unit_k, truth_k, number_k, pair_k, cell_k, plain_k, eunit_k, etruth_k, enumber_k, ebinder_k, eop_k, epair_k, efst_k, esnd_k, ederef_k, eassign_k}
use Rattle.rows.specs.Kinds.{either_k, if_k, let_k, task_k, edit_k, enter_k, update_k, then_k, next_k, fail_k, and_k, or_k, xor_k, view_k, gate_k}
use Rattle.rows.specs.Kinds.{Asks, no_asks, Line, line, table, look_up, kind_of, asks_of, number_of, kind_limit}
use Rattle.rows.specs.Rows.{kind_at, OfKind}
use Rattle.rows.proofs.Basics.{no, le_or_lt}

-- ---- a test of each line

abbrev pub each_line : (ℕ → Kind → Asks → Bool) → List Line → Bool
each_line t [] = true
each_line t (line n k s ∷ ls) = t n k s && each_line t ls

-- what holds where there is no line, and by the test at the line of w, holds of what is read at w
lines_at : (t : ℕ → Kind → Asks → Bool) (w : ℕ) (P : Option Kind → Asks → Type 0) → P none no_asks → ((k : Kind) (s : Asks) → t w k s ≡ true → P (some k) s)
    → (ls : List Line) → each_line t ls ≡ true → P (look_up (λ k s. some k) none ls w) (look_up (λ k s. s) no_asks ls w)
lines_at t w P z f [] h = z
lines_at t w P z f (line n k s ∷ ls) h = by (eqb w n) refl (lines_at t w P z f ls (and_right (t n k s) _ h))
  where
    by : (b : Bool) → eqb w n ≡ b → P (look_up (λ k s. some k) none ls w) (look_up (λ k s. s) no_asks ls w)
        → P (cond b (some k) (look_up (λ k s. some k) none ls w)) (cond b s (look_up (λ k s. s) no_asks ls w))
    by true e p = f k s (subst (λ m. t m k s ≡ true) (sym (eqb-true w n e)) (and_left (t n k s) _ h))
    by false e p = p

pub table_at : (t : ℕ → Kind → Asks → Bool) → each_line t table ≡ true → (w : ℕ) (P : Option Kind → Asks → Type 0)
    → P none no_asks → ((k : Kind) (s : Asks) → t w k s ≡ true → P (some k) s) → P (kind_of w) (asks_of w)
unfolding kind_of asks_of
table_at t h w P z f = lines_at t w P z f table h

-- what is tested of each line, and of what no kind asks, holds of what each number asks
pub tabled : (test : ℕ → Asks → Bool) → each_line (λ n k s. test n s) table ≡ true → ((w : ℕ) → test w no_asks ≡ true) → (w : ℕ) → test w (asks_of w) ≡ true
tabled test t z w = table_at (λ n k s. test n s) t w (λ o s. test w s ≡ true) (z w) (λ k s h. h)

-- ---- kind to number

-- a kind stands at its number
pub kind_number : (w : ℕ) (k : Kind) → kind_of w ≡ some k → w ≡ number_of k
kind_number w k = table_at (λ n k s. eqb n (number_of k)) refl w (λ o s. o ≡ some k → w ≡ number_of k)
    (λ e. no_some e) (λ j s h e. eqb-true w (number_of j) h ∙ ap number_of (some_is e))

-- and each kind has a line
pub number_kind : (k : Kind) → kind_of (number_of k) ≡ some k
unfolding kind_of
number_kind (type_k unit_k) = refl
number_kind (type_k truth_k) = refl
number_kind (type_k number_k) = refl
number_kind (type_k pair_k) = refl
number_kind cell_k = refl
number_kind (plain_k eunit_k) = refl
number_kind (plain_k etruth_k) = refl
number_kind (plain_k enumber_k) = refl
number_kind (plain_k ebinder_k) = refl
number_kind (plain_k eop_k) = refl
number_kind (plain_k epair_k) = refl
number_kind (plain_k efst_k) = refl
number_kind (plain_k esnd_k) = refl
number_kind (plain_k ederef_k) = refl
number_kind (plain_k eassign_k) = refl
number_kind (either_k if_k) = refl
number_kind (either_k let_k) = refl
number_kind (task_k edit_k) = refl
number_kind (task_k enter_k) = refl
number_kind (task_k update_k) = refl
number_kind (task_k then_k) = refl
number_kind (task_k next_k) = refl
number_kind (task_k fail_k) = refl
number_kind (task_k and_k) = refl
number_kind (task_k or_k) = refl
number_kind (task_k xor_k) = refl
number_kind (task_k view_k) = refl
number_kind (task_k gate_k) = refl

-- two kinds of one number are one
pub one_kind : (j k : Kind) → number_of j ≡ number_of k → j ≡ k
one_kind j k e = some_is (sym (number_kind j) ∙ ap kind_of e ∙ number_kind k)

pub kind_at_lem : (rs : List ℕ) (i : ℕ) (k : Kind) → OfKind rs i k → kind_at rs i ≡ some k
kind_at_lem rs i k e = ap kind_of e ∙ number_kind k

-- a number is no kind, or is that of a kind
pub by_kind : (P : ℕ → Type 0) → ((w : ℕ) → kind_of w ≡ none → P w) → ((k : Kind) → P (number_of k)) → (w : ℕ) → P w
by_kind P z f w = by (kind_of w) refl
  where
    by : (o : Option Kind) → kind_of w ≡ o → P w
    by none e = z w e
    by (some k) e = subst P (sym (kind_number w k e)) (f k)

-- ---- numbers that are no kind

pub no_asks_lem : (w : ℕ) → kind_of w ≡ none → asks_of w ≡ no_asks
no_asks_lem w = table_at (λ n k s. true) refl w (λ o s. o ≡ none → s ≡ no_asks) (λ e. refl) (λ k s h e. no_some (sym e))

-- past the table
pub kind_past : (w : ℕ) → kind_limit ≤ w → kind_of w ≡ none
kind_past w l = table_at (λ n k s. leb (suc n) kind_limit) refl w (λ o s. o ≡ none) refl (λ k s h. absurd (omega (arith, leb-true (suc w) kind_limit h)))

abbrev pub unknown : Option Kind → Bool
unknown none = true
unknown (some k) = false

abbrev pub is_unknown : ℕ → Bool
is_unknown w = unknown (kind_of w)

unknown_is : (o : Option Kind) → unknown o ≡ true → o ≡ none
unknown_is none h = refl
unknown_is (some k) h = no h

-- in a range that no arm of a `match` takes, by one computed test of the range
pub kind_gap : (a n : ℕ) (kss : List (List ℕ)) (w : ℕ) → test_all (λ j. membs kss j || is_unknown j) a n ≡ true → a ≤ w → w < a + n → NoneOf kss w → kind_of w ≡ none
kind_gap a n kss w t l h g = unknown_is (kind_of w) (within is_unknown a n kss w t l h g)

-- the same from a number on
pub kind_beyond : (a : ℕ) (kss : List (List ℕ)) (w : ℕ) → test_all (λ j. membs kss j || is_unknown j) a (kind_limit - a) ≡ true → a ≤ w → NoneOf kss w → kind_of w ≡ none
kind_beyond a kss w t l g = ⊎_elim (λ (p : kind_limit ≤ w). kind_past w p) (λ (p : w < kind_limit). kind_gap a (kind_limit - a) kss w t l (omega arith) g) (le_or_lt kind_limit w)
