-- What sits at a row of a kind: an expression or a code of that kind's form alone. `on_exp` and `on_code` take a statement at a row
-- of a kind from its proof for that kind's form. Rests on specs/Holds.
use mathlib.Core.Path.{sym, ◌∙◌, subst}
use mathlib.Core.Bool.{Bool}
use mathlib.Core.List.{List}
use Prim.Native.Nat.{ℕ}
use native.Mathlib.Omega.{arith}
use lib.IntN.{ℤ}
use Rattle.tophat.specs.Syntax.{Ty, Op, Exp, eunit, etruth, enumber, ebinder, eop, eif, epair, efst, esnd, ederef, eassign, elet}
use Rattle.tophat.specs.Syntax.{Code, edit, enter, update, then, next, fail, and, or, xor, view, gate, if, let'}
use Rattle.rows.specs.Kinds.{Kind, type_k, cell_k, plain_k, eunit_k, etruth_k, enumber_k, ebinder_k, eop_k, epair_k, efst_k, esnd_k, ederef_k, eassign_k}
use Rattle.rows.specs.Kinds.{either_k, if_k, let_k, task_k, edit_k, enter_k, update_k, then_k, next_k, fail_k, and_k, or_k, xor_k, view_k, gate_k}
use Rattle.rows.specs.Rows.{OfKind, FromKind, UpToKind}
use Rattle.rows.proofs.KindNumbers.{one_kind}
use Rattle.state.specs.Holds.{SitsExp, Sits}

-- ---- expressions

-- Q of the expressions of a kind
abbrev pub OnExp : (Exp → Type 0) → Kind → Type 0
OnExp Q (plain_k eunit_k) = Q eunit
OnExp Q (plain_k etruth_k) = (b : Bool) → Q (etruth b)
OnExp Q (plain_k enumber_k) = (z : ℤ) → Q (enumber z)
OnExp Q (plain_k ebinder_k) = (k : ℕ) → Q (ebinder k)
OnExp Q (plain_k eop_k) = (o : Op) (a b : Exp) → Q (eop o a b)
OnExp Q (plain_k epair_k) = (a b : Exp) → Q (epair a b)
OnExp Q (plain_k efst_k) = (a : Exp) → Q (efst a)
OnExp Q (plain_k esnd_k) = (a : Exp) → Q (esnd a)
OnExp Q (plain_k ederef_k) = (k : ℕ) → Q (ederef k)
OnExp Q (plain_k eassign_k) = (k : ℕ) (a : Exp) → Q (eassign k a)
OnExp Q (either_k if_k) = (e a b : Exp) → Q (eif e a b)
OnExp Q (either_k let_k) = (a b : Exp) → Q (elet a b)
OnExp Q (type_k k) = Unit {0}
OnExp Q cell_k = Unit {0}
OnExp Q (task_k k) = Unit {0}

module _ (rs : List ℕ) (d i : ℕ) (k : Kind) (P : Exp → Type 0) (q : OfKind rs i k) (f : OnExp (λ e. SitsExp rs d i e → P e) k) where
  exp_as : (j : Kind) → OfKind rs i j → OnExp (λ e. SitsExp rs d i e → P e) j
  exp_as j h = subst (OnExp (λ e. SitsExp rs d i e → P e)) (one_kind k j (sym q ∙ h)) f

  pub on_exp : (e : Exp) → SitsExp rs d i e → P e
  on_exp eunit s = exp_as (plain_k eunit_k) s s
  on_exp (etruth b) s = exp_as (plain_k etruth_k) s.0 b s
  on_exp (enumber z) s = exp_as (plain_k enumber_k) s.0 z s
  on_exp (ebinder k) s = exp_as (plain_k ebinder_k) s.0 k s
  on_exp (eop o a b) s = exp_as (plain_k eop_k) s.0 o a b s
  on_exp (eif e a b) s = exp_as (either_k if_k) s.0 e a b s
  on_exp (epair a b) s = exp_as (plain_k epair_k) s.0 a b s
  on_exp (efst a) s = exp_as (plain_k efst_k) s.0 a s
  on_exp (esnd a) s = exp_as (plain_k esnd_k) s.0 a s
  on_exp (ederef k) s = exp_as (plain_k ederef_k) s.0 k s
  on_exp (eassign k a) s = exp_as (plain_k eassign_k) s.0 k a s
  on_exp (elet a b) s = exp_as (either_k let_k) s.0 a b s

-- no kind of an expression
module _ (rs : List ℕ) (d i : ℕ) (P : Exp → Type 0) where
  pub on_no_exp : (FromKind rs i (plain_k eunit_k) → UpToKind rs i (either_k let_k) → ⊥) → (e : Exp) → SitsExp rs d i e → P e
  on_no_exp n eunit s = absurd (n (omega (arith, s)) (omega (arith, s)))
  on_no_exp n (etruth b) s = absurd (n (omega (arith, s.0)) (omega (arith, s.0)))
  on_no_exp n (enumber z) s = absurd (n (omega (arith, s.0)) (omega (arith, s.0)))
  on_no_exp n (ebinder k) s = absurd (n (omega (arith, s.0)) (omega (arith, s.0)))
  on_no_exp n (eop o a b) s = absurd (n (omega (arith, s.0)) (omega (arith, s.0)))
  on_no_exp n (eif e a b) s = absurd (n (omega (arith, s.0)) (omega (arith, s.0)))
  on_no_exp n (epair a b) s = absurd (n (omega (arith, s.0)) (omega (arith, s.0)))
  on_no_exp n (efst a) s = absurd (n (omega (arith, s.0)) (omega (arith, s.0)))
  on_no_exp n (esnd a) s = absurd (n (omega (arith, s.0)) (omega (arith, s.0)))
  on_no_exp n (ederef k) s = absurd (n (omega (arith, s.0)) (omega (arith, s.0)))
  on_no_exp n (eassign k a) s = absurd (n (omega (arith, s.0)) (omega (arith, s.0)))
  on_no_exp n (elet a b) s = absurd (n (omega (arith, s.0)) (omega (arith, s.0)))

-- ---- codes

-- Q of the codes of a kind
abbrev pub OnCode : (Code → Type 0) → Kind → Type 0
OnCode Q (task_k edit_k) = (e : Exp) → Q (edit e)
OnCode Q (task_k enter_k) = (τ : Ty) → Q (enter τ)
OnCode Q (task_k update_k) = (k : ℕ) → Q (update k)
OnCode Q (task_k then_k) = (a b : Code) → Q (then a b)
OnCode Q (task_k next_k) = (a b : Code) → Q (next a b)
OnCode Q (task_k fail_k) = (τ : Ty) → Q (fail τ)
OnCode Q (task_k and_k) = (a b : Code) → Q (and a b)
OnCode Q (task_k or_k) = (a b : Code) → Q (or a b)
OnCode Q (task_k xor_k) = (a b : Code) → Q (xor a b)
OnCode Q (task_k view_k) = (e : Exp) → Q (view e)
OnCode Q (task_k gate_k) = (r n : ℕ) (b : Code) → Q (gate r n b)
OnCode Q (either_k if_k) = (e : Exp) (a b : Code) → Q (if e a b)
OnCode Q (either_k let_k) = (e : Exp) (b : Code) → Q (let' e b)
OnCode Q (type_k k) = Unit {0}
OnCode Q cell_k = Unit {0}
OnCode Q (plain_k k) = Unit {0}

module _ (rs : List ℕ) (d i : ℕ) (k : Kind) (P : Code → Type 0) (q : OfKind rs i k) (f : OnCode (λ c. Sits rs d i c → P c) k) where
  code_as : (j : Kind) → OfKind rs i j → OnCode (λ c. Sits rs d i c → P c) j
  code_as j h = subst (OnCode (λ c. Sits rs d i c → P c)) (one_kind k j (sym q ∙ h)) f

  pub on_code : (c : Code) → Sits rs d i c → P c
  on_code (edit e) s = code_as (task_k edit_k) s.0 e s
  on_code (enter τ) s = code_as (task_k enter_k) s.0 τ s
  on_code (update k) s = code_as (task_k update_k) s.0 k s
  on_code (then a b) s = code_as (task_k then_k) s.0 a b s
  on_code (next a b) s = code_as (task_k next_k) s.0 a b s
  on_code (fail τ) s = code_as (task_k fail_k) s τ s
  on_code (and a b) s = code_as (task_k and_k) s.0 a b s
  on_code (or a b) s = code_as (task_k or_k) s.0 a b s
  on_code (xor a b) s = code_as (task_k xor_k) s.0 a b s
  on_code (view e) s = code_as (task_k view_k) s.0 e s
  on_code (gate r n b) s = code_as (task_k gate_k) s.0 r n b s
  on_code (if e a b) s = code_as (either_k if_k) s.0 e a b s
  on_code (let' e b) s = code_as (either_k let_k) s.0 e b s
