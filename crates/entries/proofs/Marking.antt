-- One mark more at the inner end of a path: its number, what a further mark would add, and that both fit a word. Rests on crate
-- decimal's paths.
use mathlib.Core.Path.{◌≡◌, refl, sym, ap, ◌∙◌}
use mathlib.Core.Logic.{⊎_elim}
use mathlib.Core.List.{[], ◌∷◌, ◌++◌}
use Prim.Native.Nat.{ℕ, suc, ◌+◌, ◌*◌, ◌^◌, ◌<◌, ◌≤◌}
use native.Mathlib.Nat.{eq-or-lt_of_le, pow-succ', pow-le-pow_right}
use native.Mathlib.Numerals.{add-one}
use native.Mathlib.Omega.{arith}
use borrow.Author.Tests.{leb-true, leb-false}
use borrow.Table.Steps.{cases}
use lib.Dec.{leb}
use lib.ListN.{length, length-append}
use Rattle.decimal.specs.Path.{Mark, first, second, max_marks, mark_number, path_of}
use Rattle.decimal.proofs.PathNumbers.{number_path, number_small}
use Rattle.decimal.proofs.Answers.{path_inner}
use Rattle.entries.specs.Listing.{AtPath}

-- what a mark more than 16 would add
abbrev pub most_unit : ℕ
most_unit = 2 ^ max_marks

module _ {n u : ℕ} (a : AtPath n u) where
  pub unit_most : u ≤ most_unit
  unit_most = let h : 2 ^ length (path_of n) ≤ 2 ^ max_marks = pow-le-pow_right {n = 2} (omega arith) a.few in let e = a.unit_is in omega arith

  pub path_most : n + 2 ≤ 2 * most_unit
  path_most = let h = number_small (path_of n) a.few in let e = number_path n in omega arith

  -- the path is full
  pub path_full : u ≡ most_unit → max_marks ≤ length (path_of n)
  path_full e = cases (leb max_marks (length (path_of n))) (leb-true max_marks (length (path_of n)))
      (λ f.
      let l : length (path_of n) < max_marks = leb-false max_marks (length (path_of n)) f in
      let h : 2 ^ suc (length (path_of n)) ≤ 2 ^ max_marks = pow-le-pow_right {n = 2} (omega arith) l in
      let g = pow-succ' 2 (length (path_of n)) in let i = a.unit_is in absurd (omega arith))

  -- or it has room for a mark
  path_room : (u ≡ most_unit → ⊥) → length (path_of n) < max_marks
  path_room h = ⊎_elim (λ e. absurd (h (a.unit_is ∙ ap (λ k. 2 ^ k) e))) (λ l. l) (eq-or-lt_of_le a.few)

  module _ (h : u ≡ most_unit → ⊥) where
    inner_at : (k : ℕ) (m : Mark) → k ≡ n + mark_number m * u → (path_of n ++ m ∷ [] ≡ path_of k) × AtPath k (2 * u)
    inner_at k m e =
        let p : path_of k ≡ path_of n ++ m ∷ [] = ap path_of (e ∙ ap (λ u. n + mark_number m * u) a.unit_is) ∙ path_inner n m in
        let l : length (path_of k) ≡ suc (length (path_of n)) = ap length p ∙ length-append (path_of n) (m ∷ []) ∙ add-one (length (path_of n)) in
        let r = path_room h in
        (sym p, record { unit_is = ap (λ u. 2 * u) a.unit_is ∙ sym (pow-succ' 2 (length (path_of n))) ∙ ap (λ k. 2 ^ k) (sym l); few = omega arith })

    pub at_first : (path_of n ++ first ∷ [] ≡ path_of (n + u)) × AtPath (n + u) (2 * u)
    at_first = inner_at (n + u) first (omega arith)

    pub at_second : (path_of n ++ second ∷ [] ≡ path_of (n + 2 * u)) × AtPath (n + 2 * u) (2 * u)
    at_second = inner_at (n + 2 * u) second refl
