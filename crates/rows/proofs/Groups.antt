-- The kind of a row that reads as a type or a plain expression is of that group, or of the two kinds that are what their B is.
-- So what is computed of a row by its kind needs only its group. Rests on Trees.
use mathlib.Core.List.{List}
use Prim.Native.Nat.{ℕ}
use Rattle.tophat.specs.Syntax.{Ty, Exp}
use Rattle.rows.specs.Kinds.{TypeKind, PlainKind, EitherKind, type_k, unit_k, truth_k, number_k, pair_k, plain_k, eunit_k, etruth_k, enumber_k, ebinder_k, eop_k, epair_k, efst_k, esnd_k, ederef_k, eassign_k}
use Rattle.rows.specs.Kinds.{either_k, if_k, let_k}
use Rattle.rows.specs.Rows.{OfKind, op_b}
use Rattle.rows.specs.Trees.{ReadsType, r_unit, r_truth, r_number, r_pair}
use Rattle.rows.specs.Trees.{ReadsExp, r_eunit, r_etruth, r_enumber, r_ebinder, r_eop, r_eif, r_epair, r_efst, r_esnd, r_ederef, r_eassign, r_elet}

module _ (rs : List ℕ) (i : ℕ) where
  pub data TypeRow : Type 0 where
    type_row : (k : TypeKind) → OfKind rs i (type_k k) → TypeRow

  pub data ExpRow : Type 0 where
    plain_row : (k : PlainKind) → OfKind rs i (plain_k k) → ExpRow
    plain_by : (k : EitherKind) {b : Exp} → OfKind rs i (either_k k) → ReadsExp rs (op_b rs i) b → ExpRow

module _ {rs : List ℕ} {i : ℕ} where
  pub type_group : {τ : Ty} → ReadsType rs i τ → TypeRow rs i
  type_group (r_unit k) = type_row unit_k k
  type_group (r_truth k) = type_row truth_k k
  type_group (r_number k) = type_row number_k k
  type_group (r_pair k p q d e) = type_row pair_k k

  pub exp_group : {a : Exp} → ReadsExp rs i a → ExpRow rs i
  exp_group (r_eunit k) = plain_row eunit_k k
  exp_group (r_etruth k) = plain_row etruth_k k
  exp_group (r_enumber k) = plain_row enumber_k k
  exp_group (r_ebinder k) = plain_row ebinder_k k
  exp_group (r_eop k p q d e) = plain_row eop_k k
  exp_group (r_epair k p q d e) = plain_row epair_k k
  exp_group (r_efst k p d) = plain_row efst_k k
  exp_group (r_esnd k p d) = plain_row esnd_k k
  exp_group (r_ederef k p c) = plain_row ederef_k k
  exp_group (r_eassign k p q c d) = plain_row eassign_k k
  exp_group (r_eif k p q r d e f) = plain_by if_k k e
  exp_group (r_elet k p q d e) = plain_by let_k k e
