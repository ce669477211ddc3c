-- The code's enums as the table's entries (rows, Kinds). Rests on the declarations of src/table.rt.
-- For contracts only: tied to rows' table by the contract of `asks_of`.
use Rattle.std.specs.Prelude.{Option, Some, None}
use Rattle.rows.specs.Kinds.{Ask, unused, operator, truth, any_word, a_type, a_basic, a_cell, a_plain, a_task, a_branch, like_b, a_role, some_touches}
use Rattle.rows.specs.Kinds.{Sort, type_s, basic_s, cell_s, plain_s, task_s, no_s, Own, is, as_b, Around, nothing, binder, mark, Asks, asks, no_asks}
use Rattle.grounds.specs.declared.sorted.Sort.{Sort as CodeSort}
use Rattle.grounds.specs.declared.sorted.Sort.TheVariants.{OtherType, BasicType, Cell, Plain, Task}
use Rattle.grounds.specs.declared.table.Ask.{Ask as CodeAsk}
use Rattle.grounds.specs.declared.table.Ask.TheVariants.{Unused, Operator, Truth, AnyWord, AType, ABasic, ACell, APlain, ATask, ABranch, LikeB, ARole, SomeTouches}
use Rattle.grounds.specs.declared.table.Own.{Own as CodeOwn}
use Rattle.grounds.specs.declared.table.Own.TheVariants.{OwnType, OwnBasic, OwnCell, OwnPlain, OwnTask, AsB}
use Rattle.grounds.specs.declared.table.Around.{Around as CodeAround}
use Rattle.grounds.specs.declared.table.Around.TheVariants.{Nothing, Binder, Mark}
use Rattle.grounds.specs.declared.table.Asks.{Asks as CodeAsks}

abbrev pub ask_by : CodeAsk → Ask
ask_by Unused = unused
ask_by Operator = operator
ask_by Truth = truth
ask_by AnyWord = any_word
ask_by AType = a_type
ask_by ABasic = a_basic
ask_by ACell = a_cell
ask_by APlain = a_plain
ask_by ATask = a_task
ask_by ABranch = a_branch
ask_by LikeB = like_b
ask_by ARole = a_role
ask_by SomeTouches = some_touches

-- a sort, if a row has one
abbrev pub sort_in : Option CodeSort → Sort
sort_in None = no_s
sort_in (Some OtherType) = type_s
sort_in (Some BasicType) = basic_s
sort_in (Some Cell) = cell_s
sort_in (Some Plain) = plain_s
sort_in (Some Task) = task_s

abbrev pub own_by : CodeOwn → Own
own_by OwnType = is type_s
own_by OwnBasic = is basic_s
own_by OwnCell = is cell_s
own_by OwnPlain = is plain_s
own_by OwnTask = is task_s
own_by AsB = as_b

abbrev pub around_by : CodeAround → Around
around_by Nothing = nothing
around_by Binder = binder
around_by Mark = mark

abbrev pub asks_by : Option CodeAsks → Asks
asks_by None = no_asks
asks_by (Some s) = asks (ask_by s.a) (ask_by s.b) (ask_by s.c) (own_by s.own) (around_by s.around)
