-- A row that reads as a type, a cell or a plain expression is computed as no code; so what is computed as a code of rows that
-- pass ground 4 is read as it. Rests on TreesAgree, Groups and Exists.
use mathlib.Core.Path.{◌≡◌, refl, sym, subst, ◌∙◌}
use mathlib.Core.Option.{Option, none, some, bind}
use mathlib.Core.List.{List}
use Prim.Native.Nat.{ℕ, zero, suc, ◌<◌}
use Rattle.tophat.specs.Syntax.{Ty, Exp, Code}
use Rattle.tophat.proofs.Basics.{no_some, some_is}
use Rattle.rows.specs.Kinds.{EitherKind, if_k, let_k, type_k, cell_k, plain_k, either_k, Sort}
use Rattle.rows.specs.Trees.{ReadsType, ReadsCell, r_cell, ReadsExp, ReadsCode}
use Rattle.rows.specs.Rows.{op_a, op_b, op_c}
use Rattle.rows.specs.ComputeTrees.{type_at, exp_at, code_by, code_at}
use Rattle.rows.proofs.KindNumbers.{kind_at_lem}
use Rattle.rows.proofs.TreesAgree.{code_is}
use Rattle.rows.proofs.Groups.{TypeRow, type_row, ExpRow, plain_row, plain_by, type_group, exp_group}
use Rattle.rows.proofs.Exists.{Has, has_type, has_basic, has_cell, has_plain, has_task, Sorted, exists}

pub bind_none : {X Y : Type 0} (o : Option X) → bind {A = X} {B = Y} o (λ x. none) ≡ none
unfolding bind
bind_none none = refl
bind_none (some x) = refl

-- 25 and 31 are no task where their B is none
no_task : (type : ℕ → Option Ty) (exp : ℕ → Option Exp) (code : ℕ → Option Code) (a b c : ℕ) (k : EitherKind) → code b ≡ none → code_by type exp code a b c (either_k k) ≡ none
unfolding bind
no_task type exp code a b c if_k e = rw e (bind_none (exp a))
no_task type exp code a b c let_k e = rw e (bind_none (exp a))

module _ {rs : List ℕ} where
  pub type_none : (n : ℕ) {i : ℕ} {τ : Ty} → ReadsType rs i τ → code_at rs n i ≡ none
  unfolding code_at bind
  type_none zero d = refl
  type_none (suc n) {i} d = by (type_group d)
    where
      by : TypeRow rs i → code_at rs (suc n) i ≡ none
      by (type_row k e) = rw (kind_at_lem rs i (type_k k) e)

  pub cell_none : (n : ℕ) {i : ℕ} {τ : Ty} → ReadsCell rs i τ → code_at rs n i ≡ none
  unfolding code_at bind
  cell_none zero d = refl
  cell_none (suc n) {i} (r_cell k p d) = rw (kind_at_lem rs i cell_k k)

  pub exp_none : (n : ℕ) {i : ℕ} {a : Exp} → ReadsExp rs i a → code_at rs n i ≡ none
  unfolding code_at bind
  exp_none zero d = refl
  exp_none (suc n) {i} d = by (λ j b d. exp_none n d) (exp_group d)
    where
      by : ((j : ℕ) (b : Exp) → ReadsExp rs j b → code_at rs n j ≡ none) → ExpRow rs i → code_at rs (suc n) i ≡ none
      by f (plain_row k e) = rw (kind_at_lem rs i (plain_k k) e)
      by f (plain_by k e d) = rw (kind_at_lem rs i (either_k k) e) (no_task (λ j. type_at rs n j) (λ j. exp_at rs n j) (λ j. code_at rs n j) (op_a rs i) (op_b rs i) (op_c rs i) k (f _ _ d))

pub none_some : {P X : Type 0} {x : X} {o : Option X} → o ≡ none → o ≡ some x → P
none_some e h = no_some (sym e ∙ h)

-- what is computed as a code is read as it
pub code_read : (rs : List ℕ) (n i m : ℕ) (c : Code) → Sorted rs n → i < n → i < m → code_at rs m i ≡ some c → ReadsCode rs i c
code_read rs n i m c q l k h = by (exists rs n q i l)
  where
    by : {s : Sort} → Has rs i s → ReadsCode rs i c
    by (has_type d) = none_some (type_none m d) h
    by (has_basic b d) = none_some (type_none m d) h
    by (has_cell b d) = none_some (cell_none m d) h
    by (has_plain d) = none_some (exp_none m d) h
    by (has_task d) = subst (ReadsCode rs i) (some_is (sym (code_is d m k) ∙ h)) d
