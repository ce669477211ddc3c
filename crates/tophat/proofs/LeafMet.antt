-- A leaf that passes `meets_leaf` meets its kind. Rests on the calculus' definitions alone.
use mathlib.Core.Path.{◌≡◌, refl, sym, subst}
use mathlib.Core.Bool.{Bool, true, false, ◌&&◌, ◌||◌, false≢true}
use mathlib.Core.Option.{none, some}
use mathlib.Core.List.{List, ◌∷◌}
use lib.Dec.{T, ltb→lt}
use lib.IntN.{ℤ, pos}
use lib.Signed.{mag}
use Rattle.word.proofs.Order.{eq_z_true}
use Rattle.word.specs.Word.{half, eq_z}
use Rattle.tophat.specs.Leaves.{Given, Leaf, no_leaf, unit_leaf, truth_leaf, number_leaf}
use Rattle.tophat.specs.Leaves.{Meets, m_none, m_blank, m_unit, m_false, m_true, m_number, meets_leaf}

-- a test that passed
passed : {b : Bool} → b ≡ true → T b
passed h = subst T (sym h) tt

pub test : (b : Bool) → T b → b ≡ true
test true h = refl
test false h = absurd h

pub both_passed : (a b : Bool) → a && b ≡ true → (a ≡ true) × (b ≡ true)
both_passed true b h = (refl, h)
both_passed false b h = absurd (false≢true h)

-- a leaf that passes the test meets its kind
truth_met : (n : ℤ) {ks : List Leaf} {ls : List Given} (x : Bool) → eq_z n (pos 0) ≡ x → x || eq_z n (pos 1) ≡ true → Meets ks ls → Meets (truth_leaf ∷ ks) (some n ∷ ls)
truth_met n {ks} {ls} true e h d = subst (λ n. Meets (truth_leaf ∷ ks) (some n ∷ ls)) (sym (eq_z_true n (pos 0) e)) (m_false d)
truth_met n {ks} {ls} false e h d = subst (λ n. Meets (truth_leaf ∷ ks) (some n ∷ ls)) (sym (eq_z_true n (pos 1) h)) (m_true d)

pub leaf_met : (k : Leaf) (l : Given) {ks : List Leaf} {ls : List Given} → meets_leaf k l ≡ true → Meets ks ls → Meets (k ∷ ks) (l ∷ ls)
unfolding meets_leaf
leaf_met no_leaf none h d = m_blank d
leaf_met no_leaf (some n) {ks} {ls} h d = subst (λ n. Meets (no_leaf ∷ ks) (some n ∷ ls)) (sym (eq_z_true n (pos 0) h)) (m_none d)
leaf_met unit_leaf none h d = absurd (false≢true h)
leaf_met unit_leaf (some n) {ks} {ls} h d = subst (λ n. Meets (unit_leaf ∷ ks) (some n ∷ ls)) (sym (eq_z_true n (pos 0) h)) (m_unit d)
leaf_met truth_leaf none h d = absurd (false≢true h)
leaf_met truth_leaf (some n) h d = truth_met n _ refl h d
leaf_met number_leaf none h d = absurd (false≢true h)
leaf_met number_leaf (some n) h d = m_number (ltb→lt (mag n) half (passed h)) d
