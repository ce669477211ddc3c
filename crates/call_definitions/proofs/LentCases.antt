-- The calls start, look and handle, computed on literal words and bytes: the number of each ground, which comes first where two hold, and what lent
-- memory holds at exit. It is lent full of 7s, so that what a call must leave, and what it must write, are both seen. Numbers stand here as 01 and
-- the requests write them, and not by the names of rows' GroundNumbers. Rests on the definitions of the calls.
use mathlib.Core.Path.{◌≡◌, refl}
use mathlib.Core.List.{List, [], ◌∷◌, ◌++◌}
use mathlib.Core.Option as option
use Prim.Native.Nat.{ℕ, zero, suc}
use Prim.Native.Char.{code}
use Prim.Native.String.{String, len, char_at}
use native.Mathlib.Decide.{dec_le}
use lib.IntN.{ℤ, pos}
use lib.ListN.{replicate}
use Rattle.word.specs.Word as word
use Rattle.word.specs.Tabulate as tabulate
use Rattle.decimal.specs.Field as field
use Rattle.decimal.specs.Path as paths
use Rattle.tophat.specs.Syntax as syntax
use Rattle.tophat.specs.Normalising as normalising
use Rattle.tophat.specs.Typing as typing
use Rattle.tophat.specs.Leaves as leaves
use Rattle.tophat.specs.Roles as roles
use Rattle.tophat.specs.Showing as showing
use Rattle.tophat.proofs.ComputeTyping as compute_typing
use Rattle.tophat.proofs.ComputeEvaluation as compute_evaluation
use Rattle.tophat.proofs.ComputeNormalising as compute_normalising
use Rattle.tophat.proofs.ComputeHandling as compute_handling
use Rattle.tophat.proofs.ComputeEntries as compute_entries
use Rattle.rows.specs.Kinds as kinds
use Rattle.rows.specs.Rows as rules
use Rattle.rows.specs.Enclosing as enclosing
use Rattle.rows.specs.Trees as trees
use Rattle.rows.specs.ComputeTrees as compute_trees
use Rattle.rows.specs.Ground as ground
use Rattle.grounds.specs.Accepted as grounds_accepted
use Rattle.sheet.specs.Accepted as sheet_accepted
use Rattle.shape.specs.Shape as shape
use Rattle.state.specs.Layout as layout
use Rattle.state.specs.Lent as lent
use Rattle.state.specs.Reading as reading
use Rattle.value.specs.Values as values
use Rattle.value.specs.Fits as fits
use Rattle.formats.specs.Records as records
use Rattle.formats.specs.Touches as touching
use Rattle.formats.specs.Lists as lists
use Rattle.call_definitions.specs.Memory as memories
use Rattle.call_definitions.specs.Calls as calls

-- ---- the calls, with all that is unfolded on the way

-- number, strides, and the state memory at exit
abbrev Answer : Type 0
Answer = ℕ × ℕ × List ℤ

-- number, value flag, failing flag, value memory at exit, the part handed back, and the list memory at exit
abbrev Look : Type 0
Look = ℕ × ℕ × ℕ × List ℤ × List ℕ × List ℕ

unfoldable start : List ℤ → List ℤ → Answer
unfolding
    dec_le option.bind word.is_word tabulate.tabulate field.digits field.text field.justified field.trimmed field.counted field.numeral field.reads_at
    paths.marks_text paths.path_text paths.marks paths.path_in paths.reads_path_at syntax.leaves syntax.moves syntax.task_rows
    normalising.pair_of normalising.first_of normalising.value typing.type_of leaves.leaves_of leaves.padded leaves.leaf_kinds leaves.meets_leaf leaves.meets
    leaves.value_of leaves.number_given leaves.given showing.marked showing.offers showing.button_if showing.entries_if compute_typing.ask compute_typing.nth
    compute_typing.takes compute_typing.gives compute_typing.number_to compute_typing.op_to compute_typing.same_to compute_typing.if_to compute_typing.type_to
    compute_typing.first_to compute_typing.second_to compute_typing.assign_to compute_typing.infer compute_typing.infer_task compute_evaluation.leaf
    compute_evaluation.is_true compute_evaluation.kept compute_evaluation.exact compute_evaluation.exceeds compute_evaluation.apply compute_evaluation.first_part
    compute_evaluation.second_part compute_evaluation.branch compute_evaluation.eval compute_evaluation.overflows compute_evaluation.evaluate
    compute_evaluation.overflows_task compute_normalising.unless_still compute_normalising.strides compute_normalising.go_on compute_normalising.go_on_with
    compute_normalising.choose_right compute_normalising.choose_left compute_normalising.failing compute_normalising.stride compute_normalising.normalise
    compute_normalising.settle compute_normalising.remaining compute_handling.map_task compute_handling.pass_gate compute_handling.then_some
    compute_handling.at_editor compute_handling.at_mark compute_handling.at_sides compute_handling.at_continue compute_handling.unless_failing
    compute_handling.handle compute_entries.continue_if compute_entries.entries kinds.kind_of kinds.asks_of rules.every rules.listed_as rules.listed
    rules.truth_cell rules.row_listed rules.sort_by rules.sorts rules.sort_number rules.sorted_as rules.sorted rules.row_sorted rules.names rules.names_by
    rules.names_in rules.namings rules.named_once rules.last_fits enclosing.binders_by enclosing.marks_by enclosing.most_binders enclosing.most_marks
    enclosing.counts enclosing.leaves_by enclosing.row_small trees.operator_of compute_trees.content_of compute_trees.type_at compute_trees.exp_at
    compute_trees.code_at compute_trees.cell_type compute_trees.cell_types compute_trees.first_store ground.passes3 ground.passes4 ground.passes5
    ground.passes6 ground.flow_type ground.is_some ground.passes7 ground.ground_of_rows grounds_accepted.ground_of_form grounds_accepted.accepted_rows
    sheet_accepted.accepts_rows shape.put shape.as_shape shape.maybe_shape shape.leaf_of shape.front shape.as_type
    layout.value_words layout.put_words layout.write_task layout.write_cells layout.encode layout.encode_failed lent.own_of lent.lent_of reading.read_value
    reading.read_touches reading.by_tag reading.read_task reading.read_store reading.same reading.decode values.leaf_bits values.as_value fits.value_in
    records.is_record records.fields_at records.number_said records.each records.text_of records.items_text touching.numbered touching.touch_in roles.is_role
    roles.of_role roles.touches_left roles.verdict roles.opens touching.role_said touching.leaf_said touching.is_nothing touching.all_nothing touching.allowed
    touching.event_says touching.action_of touching.event_of lists.offer_act lists.offer_kinds lists.entry_text lists.list_text lists.under
    memories.state_of memories.failed_of memories.value_memory memories.has_one calls.start_with calls.start_call calls.at_rest calls.failed_as calls.decoded
    calls.read_with calls.opened calls.settled calls.handled calls.handle_read calls.handle_in calls.handle_call calls.look_rest calls.look_in calls.look_call
start rows state = let a = calls.start_call rows state in (a.number, a.strides, a.state)

unfoldable look : List ℤ → List ℤ → ℕ → List ℤ → List ℕ → Look
unfolding start
look rows state role values list = let a = calls.look_call rows state role values list in (a.number, a.has_value, a.fails, a.value, a.part, a.list)

unfoldable handle : List ℤ → List ℤ → List ℕ → Answer
unfolding start
handle rows state event = let a = calls.handle_call rows state event in (a.number, a.strides, a.state)

-- ---- literals

-- rows: kind, A, B, C
abbrev rows_of : List (ℕ × ℕ × ℕ × ℕ) → List ℤ
rows_of [] = []
rows_of (r ∷ rs) = pos r.0 ∷ pos r.1 ∷ pos r.2 ∷ pos r.3 ∷ rows_of rs

-- rows of a state, 16 words each: the tag, the shape of the value, its first and its second leaf, then 12 words of 0 (docs/STATE.md)
abbrev state_of : List (ℕ × ℕ × ℕ × ℕ) → List ℤ
state_of [] = []
state_of (r ∷ rs) = pos r.0 ∷ pos r.1 ∷ pos r.2 ∷ pos r.3 ∷ (replicate 12 (pos 0) ++ state_of rs)

-- the words of a value memory whose first two are these, the unused 0
abbrev value_of : ℕ → ℕ → List ℤ
value_of v w = pos v ∷ pos w ∷ pos 0 ∷ pos 0 ∷ pos 0 ∷ pos 0 ∷ pos 0 ∷ pos 0 ∷ []

-- memory of n words, and of n bytes, that hold 7
abbrev words : ℕ → List ℤ
words n = replicate n (pos 7)

abbrev bytes : ℕ → List ℕ
bytes n = replicate n 7

-- the bytes of a line, byte 10 included
unfoldable bytes_from : ℕ → ℕ → String → List ℕ
bytes_from zero at s = 10 ∷ []
bytes_from (suc n) at s = code (char_at s at) ∷ bytes_from n (suc at) s

abbrev line : String → List ℕ
line s = bytes_from (len s) 0 s

-- the entry of an editor of a number at the empty path, 35 bytes
abbrev entry : List ℕ
entry = line "               0 1 3 0 0 0 0 0 0 0"

-- events of 117 bytes: a value of 12 from role 1 and from role 2, and Continue from role 1
abbrev value_1 : List ℕ
value_1 = line " 1               0 1          12           0           0           0           0           0           0           0"

abbrev value_2 : List ℕ
value_2 = line " 2               0 1          12           0           0           0           0           0           0           0"

abbrev continue_1 : List ℕ
continue_1 = line " 1               0 2           0           0           0           0           0           0           0           0"

-- ---- flows and their states

-- an editor of a number: empty, and with 12 in it
abbrev editor : List ℤ
editor = rows_of ((3, 0, 0, 0) ∷ (41, 0, 0, 0) ∷ [])

abbrev empty : List ℤ
empty = state_of ((0, 0, 0, 0) ∷ (1, 0, 0, 0) ∷ [])

abbrev twelve : List ℤ
twelve = state_of ((0, 0, 0, 0) ∷ (2, 3, 12, 0) ∷ [])

-- the same for role 2, with one touch: empty, with this number of touches left
abbrev once : List ℤ
once = rows_of ((3, 0, 0, 0) ∷ (41, 0, 0, 0) ∷ (50, 2, 1, 1) ∷ [])

abbrev once_left : ℕ → List ℤ
once_left k = state_of ((0, 0, 0, 0) ∷ (1, 0, 0, 0) ∷ (1, 3, k, 0) ∷ [])

-- a 43 from an editor filled with 5 to an editor of what it holds: before the step, which goes on, and after it
abbrev step : List ℤ
step = rows_of ((22, 5, 0, 0) ∷ (40, 0, 0, 0) ∷ (23, 0, 0, 0) ∷ (40, 2, 0, 0) ∷ (43, 1, 3, 0) ∷ [])

abbrev before : List ℤ
before = state_of ((0, 0, 0, 0) ∷ (1, 3, 5, 0) ∷ (0, 0, 0, 0) ∷ (0, 0, 0, 0) ∷ (1, 0, 0, 0) ∷ [])

abbrev after : List ℤ
after = state_of ((0, 0, 0, 0) ∷ (0, 0, 0, 0) ∷ (0, 0, 0, 0) ∷ (1, 3, 5, 0) ∷ (2, 3, 5, 0) ∷ [])

-- 3 is written into a cell of 7, then an editor of 2147483647 and 1 under this operator: the sum leaves the range (CR 3), the difference does not
abbrev reckoned : ℕ → List ℤ
reckoned o = rows_of ((3, 0, 0, 0) ∷ (10, 0, 7, 0) ∷ (22, 3, 0, 0) ∷ (30, 1, 2, 0) ∷ (22, 2147483647, 0, 0) ∷ (22, 1, 0, 0) ∷ (24, o, 4, 5) ∷ (40, 6, 0, 0) ∷ (31, 3, 7, 0) ∷ [])

-- its last row failed as a whole, beside this content of the cell
abbrev failed_whole : ℕ → List ℤ
failed_whole c = state_of ((0, 0, 0, 0) ∷ (1, 3, c, 0) ∷ (0, 0, 0, 0) ∷ (0, 0, 0, 0) ∷ (0, 0, 0, 0) ∷ (0, 0, 0, 0) ∷ (0, 0, 0, 0) ∷ (0, 0, 0, 0) ∷ (4, 0, 0, 0) ∷ [])

-- an editor of a pair of numbers that holds 12 and 5
abbrev pairs : List ℤ
pairs = rows_of ((3, 0, 0, 0) ∷ (4, 0, 0, 0) ∷ (41, 1, 0, 0) ∷ [])

abbrev pair_12_5 : List ℤ
pair_12_5 = state_of ((0, 0, 0, 0) ∷ (0, 0, 0, 0) ∷ (2, 60, 12, 5) ∷ [])

-- ---- 0: what an accepted call answers and leaves

starts : (start editor (words 32) ≡ (0, 1, empty))
    × (start once (words 48) ≡ (0, 1, once_left 1))  -- C touches when evaluated
    × (start step (words 80) ≡ (0, 2, after))  -- the step is taken, then a stride that changes nothing
    × (start (reckoned 1) (words 144) ≡ (0, 1, failed_whole 7))  -- CR 3: failed as a whole, with the cell's first content
unfolding start
starts = (refl, refl, refl, refl)

-- value memory: all 0 without a value, unused words 0. List memory: the part handed back, and the bytes after it as they were
looks : (look editor empty 1 (words 8) (bytes 40) ≡ (0, 0, 0, value_of 0 0, entry, entry ++ bytes 5))
    × (look editor twelve 8 (words 8) (bytes 40) ≡ (0, 1, 0, value_of 12 0, entry, entry ++ bytes 5))  -- the last role
    × (look pairs pair_12_5 1 (words 8) (bytes 40) ≡ (0, 1, 0, value_of 12 5, line "               0 1 3 3 0 0 0 0 0 0", line "               0 1 3 3 0 0 0 0 0 0" ++ bytes 5))
    × (look once (once_left 1) 2 (words 8) (bytes 40) ≡ (0, 0, 0, value_of 0 0, entry, entry ++ bytes 5))
    × (look once (once_left 1) 1 (words 8) (bytes 40) ≡ (0, 0, 0, value_of 0 0, [], bytes 40))  -- another role's
    × (look once (once_left 0) 2 (words 8) (bytes 40) ≡ (0, 0, 0, value_of 0 0, [], bytes 40))  -- its touches spent
    × (look step after 1 (words 8) (bytes 40) ≡ (0, 1, 0, value_of 5 0, entry, entry ++ bytes 5))
    × (look (reckoned 1) (failed_whole 7) 1 (words 8) (bytes 40) ≡ (0, 0, 1, value_of 0 0, [], bytes 40))  -- failed as a whole: fails
unfolding look bytes_from
looks = (refl, refl, refl, refl, refl, refl, refl, refl)

handles : (handle editor empty value_1 ≡ (0, 1, twelve))
    × (handle once (once_left 1) value_2 ≡ (0, 1, state_of ((0, 0, 0, 0) ∷ (2, 3, 12, 0) ∷ (1, 3, 0, 0) ∷ [])))  -- uses the touch
    × (handle step after value_2 ≡ (0, 1, state_of ((0, 0, 0, 0) ∷ (0, 0, 0, 0) ∷ (0, 0, 0, 0) ∷ (1, 3, 12, 0) ∷ (2, 3, 5, 0) ∷ [])))
unfolding handle bytes_from
handles = (refl, refl, refl)

-- ---- 20: rows that no accepted sheet loads to; before 21

-- 3 words; a word too many; a 23 that reaches no binder (7)
abbrev three : List ℤ
three = pos 45 ∷ pos 0 ∷ pos 0 ∷ []

abbrev nine : List ℤ
nine = editor ++ pos 0 ∷ []

abbrev unbound : List ℤ
unbound = rows_of ((23, 0, 0, 0) ∷ (40, 0, 0, 0) ∷ [])

starts_20 : (start three (words 16) ≡ (20, 0, words 16)) × (start nine (words 32) ≡ (20, 0, words 32)) × (start unbound (words 31) ≡ (20, 0, words 31))
unfolding start
starts_20 = (refl, refl, refl)

looks_20 : (look three (words 16) 1 (words 8) (bytes 40) ≡ (20, 0, 0, words 8, [], bytes 40))
    × (look nine empty 1 (words 8) (bytes 40) ≡ (20, 0, 0, words 8, [], bytes 40))
    × (look unbound empty 9 (words 7) (bytes 0) ≡ (20, 0, 0, words 7, [], []))
unfolding look
looks_20 = (refl, refl, refl)

handles_20 : (handle three (words 16) value_1 ≡ (20, 0, words 16)) × (handle nine empty value_1 ≡ (20, 0, empty)) × (handle unbound (words 31) (bytes 117) ≡ (20, 0, words 31))
unfolding handle bytes_from
handles_20 = (refl, refl, refl)

-- ---- 21: state or value memory not of its exact length; before 22

-- the empty editor's state a word short, and a word too long
abbrev short : List ℤ
short = state_of ((0, 0, 0, 0) ∷ []) ++ pos 1 ∷ replicate 14 (pos 0)

abbrev long : List ℤ
long = empty ++ pos 0 ∷ []

starts_21 : (start editor (words 31) ≡ (21, 0, words 31)) × (start editor (words 33) ≡ (21, 0, words 33)) × (start editor [] ≡ (21, 0, []))
unfolding start
starts_21 = (refl, refl, refl)

looks_21 : (look editor short 1 (words 8) (bytes 40) ≡ (21, 0, 0, words 8, [], bytes 40))
    × (look editor long 1 (words 8) (bytes 40) ≡ (21, 0, 0, words 8, [], bytes 40))
    × (look editor empty 1 (words 7) (bytes 40) ≡ (21, 0, 0, words 7, [], bytes 40))
    × (look editor empty 1 (words 9) (bytes 40) ≡ (21, 0, 0, words 9, [], bytes 40))
    × (look editor (words 32) 9 (words 4) (bytes 34) ≡ (21, 0, 0, words 4, [], bytes 34))  -- no state, role 9 and list too short
unfolding look
looks_21 = (refl, refl, refl, refl, refl)

handles_21 : (handle editor short value_1 ≡ (21, 0, short)) × (handle editor long value_1 ≡ (21, 0, long)) × (handle editor (words 31) (bytes 117) ≡ (21, 0, words 31))
unfolding handle bytes_from
handles_21 = (refl, refl, refl)

-- ---- 22: not the writing of a state; before 8

-- a 1 in the row of a type, which is not live; a 1 in the last word of a live row; a truth in the editor of a number
abbrev dead : List ℤ
dead = state_of ((1, 0, 0, 0) ∷ (1, 0, 0, 0) ∷ [])

abbrev behind : List ℤ
behind = state_of ((0, 0, 0, 0) ∷ []) ++ pos 1 ∷ (replicate 14 (pos 0) ++ pos 1 ∷ [])

abbrev untyped : List ℤ
untyped = state_of ((0, 0, 0, 0) ∷ (2, 2, 1, 0) ∷ [])

looks_22 : (look editor (words 32) 1 (words 8) (bytes 40) ≡ (22, 0, 0, words 8, [], bytes 40))
    × (look editor dead 1 (words 8) (bytes 40) ≡ (22, 0, 0, words 8, [], bytes 40))
    × (look editor behind 1 (words 8) (bytes 40) ≡ (22, 0, 0, words 8, [], bytes 40))
    × (look editor untyped 1 (words 8) (bytes 40) ≡ (22, 0, 0, words 8, [], bytes 40))
    × (look once (once_left 2) 2 (words 8) (bytes 40) ≡ (22, 0, 0, words 8, [], bytes 40))  -- C + 1 touches
    × (look (reckoned 1) (failed_whole 3) 1 (words 8) (bytes 40) ≡ (22, 0, 0, words 8, [], bytes 40))  -- failed as a whole, with another content of the cell
    × (look (reckoned 2) (failed_whole 7) 1 (words 8) (bytes 40) ≡ (22, 0, 0, words 8, [], bytes 40))  -- in a flow that starts well
    × (look editor (words 32) 9 (words 8) (bytes 34) ≡ (22, 0, 0, words 8, [], bytes 34))  -- role 9 and list too short
unfolding look
looks_22 = (refl, refl, refl, refl, refl, refl, refl, refl)

handles_22 : (handle editor (words 32) value_1 ≡ (22, 0, words 32))
    × (handle editor dead value_1 ≡ (22, 0, dead))
    × (handle once (once_left 2) value_2 ≡ (22, 0, once_left 2))
    × (handle (reckoned 1) (failed_whole 3) value_1 ≡ (22, 0, failed_whole 3))
    × (handle (reckoned 2) (failed_whole 7) value_1 ≡ (22, 0, failed_whole 7))
    × (handle editor (words 32) (bytes 117) ≡ (22, 0, words 32))  -- no event
unfolding handle bytes_from
handles_22 = (refl, refl, refl, refl, refl, refl)

-- ---- 23: normalising would change it; before 8

looks_23 : (look step before 1 (words 8) (bytes 40) ≡ (23, 0, 0, words 8, [], bytes 40)) × (look step before 9 (words 8) (bytes 34) ≡ (23, 0, 0, words 8, [], bytes 34))
unfolding look
looks_23 = (refl, refl)

handles_23 : (handle step before value_1 ≡ (23, 0, before)) × (handle step before (bytes 117) ≡ (23, 0, before))
unfolding handle bytes_from
handles_23 = (refl, refl)

-- ---- 8: look's role is not 1 to 8, before 24; the event cannot be read, before 9

looks_8 : (look editor empty 0 (words 8) (bytes 40) ≡ (8, 0, 0, words 8, [], bytes 40))
    × (look editor empty 0 (words 8) (bytes 34) ≡ (8, 0, 0, words 8, [], bytes 34))
    × (look editor empty 9 (words 8) (bytes 34) ≡ (8, 0, 0, words 8, [], bytes 34))
unfolding look
looks_8 = (refl, refl, refl)

handles_8 : (handle editor empty [] ≡ (8, 0, empty))
    × (handle editor empty (bytes 117) ≡ (8, 0, empty))  -- 7s
    × (handle editor empty (line "               0 1          12           0           0           0           0           0           0           0") ≡ (8, 0, empty))  -- 115 bytes, no role
    × (handle editor empty (value_1 ++ 10 ∷ []) ≡ (8, 0, empty))  -- 118 bytes
    × (handle editor empty (line " 0               0 1          12           0           0           0           0           0           0           0") ≡ (8, 0, empty))  -- role 0
    × (handle editor empty (line " 9               0 1          12           0           0           0           0           0           0           0") ≡ (8, 0, empty))  -- role 9
    × (handle editor empty (line " 1               0 5          12           0           0           0           0           0           0           0") ≡ (8, 0, empty))  -- action 5
    × (handle editor empty (line " 1               3 1          12           0           0           0           0           0           0           0") ≡ (8, 0, empty))  -- mark 3
    × (handle editor empty (line " 1               0 2          12           0           0           0           0           0           0           0") ≡ (8, 0, empty))  -- a leaf at Continue
unfolding handle bytes_from
handles_8 = (refl, refl, refl, refl, refl, refl, refl, refl, refl)

-- ---- 24: list memory under 35 bytes an entry

looks_24 : (look editor twelve 1 (words 8) (bytes 34) ≡ (24, 0, 0, words 8, [], bytes 34))
    × (look editor twelve 1 (words 8) [] ≡ (24, 0, 0, words 8, [], []))
    × (look editor twelve 1 (words 8) (bytes 35) ≡ (0, 1, 0, value_of 12 0, entry, entry))
    × (look (reckoned 1) (failed_whole 7) 1 (words 8) [] ≡ (0, 0, 1, value_of 0 0, [], []))  -- no entry
unfolding look bytes_from
looks_24 = (refl, refl, refl, refl)

-- ---- 9: no handling rule derives a step; then 30, a row passed has another role; then 31, only the touches are spent

handles_9 : (handle editor empty continue_1 ≡ (9, 0, empty)) × (handle (reckoned 1) (failed_whole 7) value_1 ≡ (9, 0, failed_whole 7)) × (handle once (once_left 0) continue_1 ≡ (9, 0, once_left 0))
unfolding handle bytes_from
handles_9 = (refl, refl, refl)

handles_30 : (handle once (once_left 1) value_1 ≡ (30, 0, once_left 1)) × (handle once (once_left 0) value_1 ≡ (30, 0, once_left 0))
unfolding handle bytes_from
handles_30 = (refl, refl)

handles_31 : handle once (once_left 0) value_2 ≡ (31, 0, once_left 0)
unfolding handle bytes_from
handles_31 = refl
