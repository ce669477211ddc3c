-- Which operands are unused (CR 2), against ground 3: an operand is unused exactly where ground 3 admits no word but 0, so a blank that is
-- read as 0 is read as the only word that could stand there; and a number that is no kind uses all three. Rests on the table of kinds.
use mathlib.Core.Path.{◌≡◌, refl}
use mathlib.Core.Bool.{true, false}
use mathlib.Core.Logic.{◌↔◌}
use Prim.Native.Nat.{ℕ, zero, suc}
use native.Mathlib.Omega.{arith}
use borrow.Author.Tests.{eqb-true}
use lib.ListN.{get_or}
use Rattle.tophat.specs.Roles.{is_role}
use Rattle.rows.specs.Kinds.{Ask, unused, operator, truth, any_word, a_role, some_touches, a_type, a_basic, a_cell, a_plain, a_task, a_branch, like_b, no_asks, asks_of, is_unused, unused_by, unused_of}
use Rattle.rows.specs.Rows.{listed_as}
use Rattle.rows.proofs.Basics.{no}

-- 0 is all that ground 3 admits
abbrev pub OnlyZero : Ask → Type 0
OnlyZero q = (w : ℕ) → listed_as q w ≡ true → w ≡ 0

-- 1 is admitted
one_admitted : (q : Ask) {P : Type 0} → listed_as q 1 ≡ true → OnlyZero q → P
one_admitted q e h = absurd (let z = h 1 e in omega (arith, z))

pub unused_iff : (q : Ask) → (is_unused q ≡ true) ↔ OnlyZero q
unfolding is_unused listed_as is_role
unused_iff unused = (λ e w l. eqb-true w 0 l, λ h. refl)
unused_iff operator = (λ e. no e, λ h. one_admitted operator refl h)
unused_iff truth = (λ e. no e, λ h. one_admitted truth refl h)
unused_iff any_word = (λ e. no e, λ h. one_admitted any_word refl h)
unused_iff a_role = (λ e. no e, λ h. one_admitted a_role refl h)
unused_iff some_touches = (λ e. no e, λ h. one_admitted some_touches refl h)
unused_iff a_type = (λ e. no e, λ h. one_admitted a_type refl h)
unused_iff a_basic = (λ e. no e, λ h. one_admitted a_basic refl h)
unused_iff a_cell = (λ e. no e, λ h. one_admitted a_cell refl h)
unused_iff a_plain = (λ e. no e, λ h. one_admitted a_plain refl h)
unused_iff a_task = (λ e. no e, λ h. one_admitted a_task refl h)
unused_iff a_branch = (λ e. no e, λ h. one_admitted a_branch refl h)
unused_iff like_b = (λ e. no e, λ h. one_admitted like_b refl h)

-- no operand of a number that is no kind
pub unknown_uses_all : (n : ℕ) → asks_of n ≡ no_asks → (k : ℕ) → get_or (unused_of n) k false ≡ false
unfolding unused_by
unknown_uses_all n e k = rw e (by k)
  where
    by : (k : ℕ) → get_or (unused_by no_asks) k false ≡ false
    by zero = refl
    by (suc zero) = refl
    by (suc (suc zero)) = refl
    by (suc (suc (suc k))) = refl
