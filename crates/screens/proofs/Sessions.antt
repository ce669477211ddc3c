-- What a session prints, computed from the sheet's text and the touches' bytes to the bytes printed, by the definitions that the
-- contracts cite. All that is unfolded on the way is named here, once. Rests on the definitions of the calls and of screens.
use mathlib.Core.Bool.{Bool, true, false, ◌&&◌}
use mathlib.Core.Option as option
use mathlib.Core.List.{List, [], ◌∷◌, ◌++◌}
use Prim.Native.Nat.{ℕ, zero, suc, ◌*◌}
use Prim.Native.Char.{code}
use Prim.Native.String.{String, len, char_at}
use native.Mathlib.Decide.{dec_le}
use lib.Dec.{eqb}
use lib.IntN.{ℤ, pos}
use lib.ListN.{length, replicate}
use Rattle.word.specs.Word as word
use Rattle.word.specs.Tabulate as tabulate
use Rattle.decimal.specs.Field as field
use Rattle.decimal.specs.Path as paths
use Rattle.tophat.specs.Syntax as syntax
use Rattle.tophat.specs.Normalising as normalising
use Rattle.tophat.specs.Typing as typing
use Rattle.tophat.specs.Leaves as leaves
use Rattle.tophat.specs.Roles as roles
use Rattle.tophat.specs.Showing as showing
use Rattle.tophat.proofs.ComputeTyping as compute_typing
use Rattle.tophat.proofs.ComputeEvaluation as compute_evaluation
use Rattle.tophat.proofs.ComputeNormalising as compute_normalising
use Rattle.tophat.proofs.ComputeHandling as compute_handling
use Rattle.tophat.proofs.ComputeEntries as compute_entries
use Rattle.rows.specs.Kinds as kinds
use Rattle.rows.specs.Rows as rows
use Rattle.rows.specs.Enclosing as enclosing
use Rattle.rows.specs.Trees as trees
use Rattle.rows.specs.ComputeTrees as compute_trees
use Rattle.rows.specs.Ground as ground
use Rattle.grounds.specs.Accepted as grounds_accepted
use Rattle.sheet.specs.Sheet as sheet
use Rattle.sheet.specs.Accepted as sheet_accepted
use Rattle.shape.specs.Shape as shape
use Rattle.state.specs.Layout as layout
use Rattle.state.specs.Lent as lent
use Rattle.state.specs.Reading as reading
use Rattle.value.specs.Values as values
use Rattle.value.specs.Found as found
use Rattle.value.specs.Fits as fits
use Rattle.formats.specs.Records as records
use Rattle.formats.specs.Lines as lines
use Rattle.formats.specs.Touches as touching
use Rattle.formats.specs.Lists as lists
use Rattle.call_definitions.specs.Memory as memories
use Rattle.call_definitions.specs.Calls as calls
use Rattle.screens.specs.Heads as heads
use Rattle.screens.specs.Screens as screens
use Rattle.rows.specs.Rows.{row_words}
use Rattle.state.specs.Layout.{state_words}
use Rattle.screens.specs.Screens.{Begins, role_of, begins, touched}

-- the bytes of a text, and of lines
unfoldable pub bytes_from : ℕ → ℕ → String → List ℕ
bytes_from zero at s = []
bytes_from (suc n) at s = code (char_at s at) ∷ bytes_from n (suc at) s

abbrev pub bytes : String → List ℕ
bytes s = bytes_from (len s) 0 s

unfoldable pub text : List String → List ℕ
unfolding bytes_from
text [] = []
text (l ∷ ls) = bytes l ++ 10 ∷ text ls

-- memory for a screen, of any content
abbrev pub memory : List ℕ
memory = replicate 400 7

unfoldable pub touches : List ℤ → List ℤ → List String → List ℕ
touches rows ws [] = []
touches rows ws (e ∷ es) = let t = touched rows ws (text (e ∷ [])) memory in t.1.text ++ touches rows t.0 es

abbrev pub beginning : List String → Begins
beginning sheet = let n = length sheet in begins n (text sheet) (replicate (n * row_words) (pos 7)) (replicate (n * state_words) (pos 7)) memory

-- the bytes that a session prints
unfoldable pub session : List String → List String → List ℕ
unfolding
    dec_le option.bind word.is_word tabulate.tabulate field.digits field.text field.justified field.trimmed field.counted field.numeral
    field.reads_at field.put_at paths.marks_text paths.path_text paths.marks paths.path_in paths.reads_path_at paths.path_number paths.marks_from syntax.leaves
    syntax.moves syntax.task_rows normalising.pair_of normalising.first_of normalising.value typing.type_of leaves.leaves_of leaves.padded leaves.leaf_kinds
    leaves.meets_leaf leaves.meets leaves.value_of leaves.number_given leaves.given showing.marked showing.offers showing.button_if showing.entries_if compute_typing.ask compute_typing.nth
    compute_typing.takes compute_typing.gives compute_typing.number_to compute_typing.op_to compute_typing.same_to compute_typing.if_to compute_typing.type_to
    compute_typing.first_to compute_typing.second_to compute_typing.assign_to compute_typing.infer compute_typing.infer_task compute_evaluation.leaf
    compute_evaluation.is_true compute_evaluation.kept compute_evaluation.exact compute_evaluation.exceeds compute_evaluation.apply compute_evaluation.first_part compute_evaluation.second_part compute_evaluation.branch
    compute_evaluation.eval compute_evaluation.overflows compute_evaluation.evaluate compute_evaluation.overflows_task compute_normalising.unless_still compute_normalising.strides compute_normalising.go_on
    compute_normalising.go_on_with compute_normalising.choose_right compute_normalising.choose_left compute_normalising.failing compute_normalising.stride
    compute_normalising.normalise compute_normalising.settle compute_normalising.remaining compute_handling.map_task compute_handling.pass_gate compute_handling.then_some
    compute_handling.at_editor compute_handling.at_mark compute_handling.at_sides compute_handling.at_continue compute_handling.unless_failing
    compute_handling.handle compute_entries.continue_if compute_entries.entries kinds.kind_of kinds.asks_of kinds.is_unused kinds.unused_by rows.every rows.listed_as rows.listed
    rows.truth_cell rows.row_listed rows.sort_by rows.sorts rows.sort_number rows.sorted_as rows.sorted rows.row_sorted rows.names rows.names_by rows.names_in
    rows.namings rows.named_once rows.last_fits rows.movers enclosing.binders_by enclosing.marks_by enclosing.most_binders enclosing.most_marks
    enclosing.counts enclosing.leaves_by enclosing.row_small trees.operator_of compute_trees.content_of compute_trees.type_at compute_trees.exp_at
    compute_trees.code_at compute_trees.cell_type compute_trees.cell_types compute_trees.first_store ground.passes3 ground.passes4 ground.passes5
    ground.passes6 ground.flow_type ground.is_some ground.passes7 ground.ground_of_rows grounds_accepted.ground_of_form grounds_accepted.accepted_rows
    sheet.sized sheet.leaving sheet.loaded_lines sheet.loaded sheet_accepted.accepts_rows shape.put shape.as_shape shape.maybe_shape shape.leaf_of
    shape.front shape.as_type shape.pair_shape shape.first_shape shape.second_shape shape.leaves_in shape.shape_leaves shape.kinds_in shape.kinds_of
    layout.value_words layout.put_words layout.write_task layout.write_cells layout.encode layout.encode_failed lent.own_of lent.lent_of reading.read_value reading.read_touches reading.by_tag
    reading.read_task reading.read_store reading.same reading.decode values.leaf_bits values.as_value found.as_found fits.value_in fits.value_for
    records.is_record records.fields_at records.number_said records.each records.text_of records.items_text records.put_items lines.meant lines.meant_all lines.kind_word lines.after_row
    lines.line_says lines.lines_say touching.numbered touching.touch_in roles.is_role roles.of_role roles.touches_left roles.verdict roles.opens touching.role_said touching.leaf_said touching.is_nothing touching.all_nothing touching.allowed touching.event_says touching.action_of
    touching.event_of touching.unless_blank touching.entry_says lists.offer_act lists.offer_kinds lists.entry_text lists.list_text lists.under
    memories.state_of memories.failed_of memories.value_memory memories.has_one calls.start_with calls.start_call calls.at_rest calls.failed_as calls.decoded calls.read_with calls.opened
    calls.settled calls.handled calls.handle_read calls.handle_in calls.handle_call calls.look_rest calls.look_in calls.look_call heads.head_over screens.or_start screens.role_of screens.shown_after screens.loaded_counted
    screens.begins screens.touched
session sheet events = let b = beginning sheet in b.screen.text ++ touches b.rows b.state events

-- the state words that a sheet is started with
unfoldable pub started : List String → List ℤ
unfolding session text
started sheet = (beginning sheet).state

-- the roles that it looks in after each touch
unfoldable pub looks_in : List String → List ℕ
unfolding session text
looks_in [] = []
looks_in (e ∷ es) = role_of (text (e ∷ [])) ∷ looks_in es

unfoldable pub same : List ℕ → List ℕ → Bool
same [] [] = true
same [] (y ∷ ys) = false
same (x ∷ xs) [] = false
same (x ∷ xs) (y ∷ ys) = eqb x y && same xs ys

-- each session prints its screens: a sheet, touches, and the screens
unfoldable pub agree : List (List String × List String × List String) → Bool
unfolding session text touches same
agree [] = true
agree (c ∷ cs) = same (session c.0 c.1) (text c.2) && agree cs
