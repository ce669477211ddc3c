-- A state row by what reading it does: 7 ways for the 21 forms of tasks, by the row's kind and its tag. Rests on crate state.
-- For contracts only: tied to crate state's Reading by the proof of `copy_task`.
use Rattle.std.specs.Prelude.{cond, List, ℕ, ◌<◌, eqb, Option, Some, None}
use Rattle.std.proofs.Math.Option.{Option as Maybe, none, some}
use Rattle.rows.specs.Kinds.{Kind, type_k, cell_k, plain_k, either_k, if_k, let_k, task_k, edit_k, enter_k, update_k, then_k, next_k, fail_k, and_k, or_k, xor_k, view_k, gate_k, kind_of}
use Rattle.rows.specs.Rows.{word, op_a, op_b, op_c}
use Rattle.state.specs.Layout.{own, one, other}
use Rattle.state_check.specs.declared.Part.{Part}
use Rattle.state_check.specs.declared.Part.TheVariants.{Alone, Filled, Below, Bound, Two, Gate}

-- one of three parts, by the tag, where there is one
abbrev pub tagged_part : ℕ → Option Part → Option Part → Option Part → Option Part
tagged_part x p q r = cond (eqb x own) p (cond (eqb x one) q (cond (eqb x other) r None))

-- a row of a kind, or of none, with operands a, b, c and the tag x
abbrev pub part_by : Maybe Kind → ℕ → ℕ → ℕ → ℕ → Option Part
part_by (some (either_k if_k)) x a b c = tagged_part x None (Some (Below b)) (Some (Below c))
part_by (some (either_k let_k)) x a b c = tagged_part x None (Some (Bound a b)) None
part_by (some (task_k edit_k)) x a b c = tagged_part x (Some (Filled a)) None None
part_by (some (task_k enter_k)) x a b c = tagged_part x (Some Alone) (Some (Filled a)) None
part_by (some (task_k update_k)) x a b c = tagged_part x (Some Alone) None None
part_by (some (task_k then_k)) x a b c = tagged_part x (Some (Below a)) (Some (Bound a b)) None
part_by (some (task_k next_k)) x a b c = tagged_part x (Some (Below a)) (Some (Bound a b)) None
part_by (some (task_k fail_k)) x a b c = tagged_part x (Some Alone) None None
part_by (some (task_k and_k)) x a b c = tagged_part x (Some (Two a b)) None None
part_by (some (task_k or_k)) x a b c = tagged_part x (Some (Two a b)) (Some (Below a)) (Some (Below b))
part_by (some (task_k xor_k)) x a b c = tagged_part x (Some Alone) (Some (Below a)) (Some (Below b))
part_by (some (task_k view_k)) x a b c = tagged_part x (Some (Filled a)) None None
part_by (some (task_k gate_k)) x a b c = tagged_part x (Some (Gate b c)) None None
part_by (some (type_k k)) x a b c = None
part_by (some cell_k) x a b c = None
part_by (some (plain_k k)) x a b c = None
part_by none x a b c = None

unfoldable pub part_from : ℕ → ℕ → ℕ → ℕ → ℕ → Option Part
part_from k x a b c = part_by (kind_of k) x a b c

abbrev pub part_of : List ℕ → ℕ → ℕ → Option Part
part_of rs i x = part_from (word rs i 0) x (op_a rs i) (op_b rs i) (op_c rs i)

-- the rows that it names are lower
abbrev pub Lower : Option Part → ℕ → Type 0
Lower None i = Unit {0}
Lower (Some Alone) i = Unit {0}
Lower (Some (Filled a)) i = a < i
Lower (Some (Below k)) i = k < i
Lower (Some (Bound a b)) i = (a < i) × (b < i)
Lower (Some (Two a b)) i = (a < i) × (b < i)
Lower (Some (Gate b c)) i = b < i
