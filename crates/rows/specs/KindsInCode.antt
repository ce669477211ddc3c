-- The kinds as code has them (src/kinds.rt), and the kind of the table that each is. Rests on Kinds.
-- For contracts only.
use Rattle.std.specs.Prelude.{◌≡◌, ℕ, Option, Some, None, Result, Ok, Err}
use Rattle.std.proofs.Math.Option.{none}
use Rattle.rows.specs.Kinds as table
use Rattle.rows.specs.Kinds.{type_k, unit_k, truth_k, number_k, pair_k, cell_k, plain_k, eunit_k, etruth_k, enumber_k, ebinder_k, eop_k, epair_k, efst_k, esnd_k, ederef_k, eassign_k}
use Rattle.rows.specs.Kinds.{either_k, if_k, let_k, task_k, edit_k, enter_k, update_k, then_k, next_k, fail_k, and_k, or_k, xor_k, view_k, gate_k, kind_of, number_of}
use Rattle.rows.specs.declared.kinds.Kind.{Kind}
use Rattle.rows.specs.declared.kinds.Kind.TheVariants.{UnitType, TruthType, NumberType, PairType, Cell, Unit, Truth, Number, Binder, Operator, If, Pair, First, Second, Read, Assign, Let, Edit, Enter, Update, Then, Next, Fail, And, Or, Xor, View, Gate}
use Rattle.rows.specs.declared.kinds.UnknownKind.{UnknownKind}

abbrev pub in_table : Kind → table.Kind
in_table UnitType = type_k unit_k
in_table TruthType = type_k truth_k
in_table NumberType = type_k number_k
in_table PairType = type_k pair_k
in_table Cell = cell_k
in_table Unit = plain_k eunit_k
in_table Truth = plain_k etruth_k
in_table Number = plain_k enumber_k
in_table Binder = plain_k ebinder_k
in_table Operator = plain_k eop_k
in_table If = either_k if_k
in_table Pair = plain_k epair_k
in_table First = plain_k efst_k
in_table Second = plain_k esnd_k
in_table Read = plain_k ederef_k
in_table Assign = plain_k eassign_k
in_table Let = either_k let_k
in_table Edit = task_k edit_k
in_table Enter = task_k enter_k
in_table Update = task_k update_k
in_table Then = task_k then_k
in_table Next = task_k next_k
in_table Fail = task_k fail_k
in_table And = task_k and_k
in_table Or = task_k or_k
in_table Xor = task_k xor_k
in_table View = task_k view_k
in_table Gate = task_k gate_k

-- the kind with this number, or that it is the number of none
abbrev pub IsKind : Option Kind → ℕ → Type 0
IsKind None w = kind_of w ≡ none
IsKind (Some k) w = w ≡ number_of (in_table k)

abbrev pub Decodes : ℕ → Result Kind UnknownKind → Type 0
Decodes w (Ok k) = w ≡ number_of (in_table k)
Decodes w (Err e) = (e.0 ≡ w) × (kind_of w ≡ none)
