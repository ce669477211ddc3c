-- 01's proved cases, P1 to P12, one for 01's numbers, one for what Continue writes, and those of CR 1 to CR 4, as one computed check (CR 6:
-- RoleCases): what the definitions give for each flow and its touches is what 01 says. Rests on CaseScreens.
use mathlib.Core.Path.{◌≡◌, refl}
use mathlib.Core.Bool.{Bool, true, false}
use mathlib.Core.Option.{none, some, bind}
use mathlib.Core.List.{List, [], ◌∷◌, map}
use lib.IntN.{ℤ, pos, negsuc}
use native.Mathlib.Decide.{dec_le}
use Rattle.word.specs.Word.{is_word}
use Rattle.decimal.specs.Path.{first, second}
use Rattle.tophat.specs.Syntax.{leaves, moves, unit, truth, number, pair, Op, sum, difference, product, less_equal, equal, enumber, ebinder, eop, eassign}
use Rattle.tophat.specs.Syntax.{edit, enter, update, then, next, fail, and, or, xor, view, if, let', vnumber}
use Rattle.tophat.specs.Typing.{type_of}
use Rattle.tophat.specs.Leaves.{leaves_of, padded, leaf_kinds, value_of, meets_leaf, meets, number_given, given}
use Rattle.tophat.specs.Normalising.{value, pair_of}
use Rattle.tophat.specs.Roles.{of_role, touches_left, verdict}
use Rattle.tophat.specs.Handling.{continue, left, right, give}
use Rattle.tophat.specs.Showing.{marked, offers, button_if}
use Rattle.tophat.proofs.ComputeTyping.{infer_task, infer, ask, nth, number_to, op_to, takes, gives, same_to, if_to, type_to, assign_to}
use Rattle.tophat.proofs.ComputeEvaluation.{eval, branch, is_true, apply, leaf, kept, exact, exceeds, overflows, overflows_task}
use Rattle.tophat.proofs.ComputeNormalising.{failing, normalise, settle, strides, unless_still, go_on, go_on_with, choose_right, choose_left}
use Rattle.tophat.proofs.ComputeHandling.{handle, map_task, then_some, at_editor, at_mark, at_sides, at_continue, unless_failing}
use Rattle.tophat.proofs.ComputeEntries.{entries, continue_if}
use Rattle.tophat.proofs.CaseScreens.{screen, digit, line_of, flag, value_flag, value_leaves, screen_of, Case, expected, taken, screens, failed_whole, unless_refused, computed}
use Rattle.tophat.proofs.CaseScreens.{num, cell, single, giving1, giving_blank, pressed, at, value1, editor_of, editor, button_line, eight, eight_line, giving_eight, no_leaves}

-- P1 to P4: 01's session: started, value 12, value 4, Continue
abbrev pub p1_p4 : Case
p1_p4 = record {
  flow = then (enter number) (if (eop less_equal (ebinder 0) (num 9)) (edit (eop product (ebinder 0) (num 30))) (fail number));
  cells = [];
  events = value1 12 ∷ value1 4 ∷ pressed continue ∷ [];
  type = some number;
  shown =
      screen 0 1 0 0 (single (pos 0)) (editor [] ∷ [])
      ∷ screen 0 1 0 0 (single (pos 0)) (editor [] ∷ [])
      ∷ screen 0 2 0 1 (single (pos 120)) (editor [] ∷ [])
      ∷ screen 9 0 0 1 (single (pos 120)) (editor [] ∷ [])
      ∷ [];
  kept = [];
}

-- P5: choice 47 of filled 1 and 2: 1 alone
abbrev pub p5 : Case
p5 = record {
  flow = or (edit (num 1)) (edit (num 2));
  cells = [];
  events = [];
  type = some number;
  shown = screen 0 2 0 1 (single (pos 1)) (editor [] ∷ []) ∷ [];
  kept = [];
}

-- P6: of empty and filled 2: 2 alone
abbrev pub p6 : Case
p6 = record {
  flow = or (enter number) (edit (num 2));
  cells = [];
  events = [];
  type = some number;
  shown = screen 0 2 0 1 (single (pos 2)) (editor [] ∷ []) ∷ [];
  kept = [];
}

-- P7: both of two fails: failing, no entries
abbrev pub p7 : Case
p7 = record {
  flow = and (fail number) (fail number);
  cells = [];
  events = [];
  type = some (pair number number);
  shown = screen 0 1 1 0 (single (pos 0)) [] ∷ [];
  kept = [];
}

-- P8: choice 48 of filled and fail: Left only; here Right and then Left are touched
abbrev pub p8 : Case
p8 = record {
  flow = xor (edit (num 1)) (fail number);
  cells = [];
  events = pressed right ∷ pressed left ∷ [];
  type = some number;
  shown =
      screen 0 1 0 0 (single (pos 0)) (button_line 3 ∷ [])
      ∷ screen 9 0 0 0 (single (pos 0)) (button_line 3 ∷ [])
      ∷ screen 0 1 0 1 (single (pos 1)) (editor [] ∷ [])
      ∷ [];
  kept = [];
}

-- P9: filled 1, Continue to fail: one entry, the editor's; here Continue is touched
abbrev pub p9 : Case
p9 = record {
  flow = next (edit (num 1)) (fail number);
  cells = [];
  events = pressed continue ∷ [];
  type = some number;
  shown =
      screen 0 1 0 0 (single (pos 0)) (editor [] ∷ [])
      ∷ screen 9 0 0 0 (single (pos 0)) (editor [] ∷ [])
      ∷ [];
  kept = [];
}

-- P10: cell 7; filled 1, internal step that writes 3 and fails: cell 7
abbrev pub p10 : Case
p10 = record {
  flow = then (edit (num 1)) (let' (eassign 0 (num 3)) (fail number));
  cells = cell 7;
  events = [];
  type = some number;
  shown = screen 0 1 0 0 (single (pos 0)) (editor [] ∷ []) ∷ [];
  kept = cell 7;
}

-- P11: cell 0; both of (shared, step to filled 1 if the value is 1, else fail) and (filled 1, step that writes 1, then
-- filled 0): value (1, 0), 3 strides
abbrev pub p11 : Case
p11 = record {
  flow = and (then (update 0) (if (eop equal (ebinder 0) (num 1)) (edit (num 1)) (fail number))) (then (edit (num 1)) (let' (eassign 0 (num 1)) (edit (num 0))));
  cells = cell 0;
  events = [];
  type = some (pair number number);
  shown = screen 0 3 0 1 (padded (pos 0) (pos 1 ∷ pos 0 ∷ [])) (editor (1 ∷ []) ∷ editor (2 ∷ []) ∷ []) ∷ [];
  kept = cell 1;
}

-- P12 (CR 3): a filled editor of 2147483647 plus 1 fails
abbrev pub p12 : Case
p12 = record {
  flow = edit (eop sum (num 2147483647) (num 1));
  cells = [];
  events = [];
  type = some number;
  shown = screen 0 1 1 0 (single (pos 0)) [] ∷ [];
  kept = [];
}

-- 01's numbers: leaf kinds 1 and 2 (an editor of unit and one of truth, action 1), then action 2 (Continue), then 3 and 4 (Left and Right).
-- Of these P1 to P12 show 1 and 3 alone, and of the leaf kinds 3
abbrev pub buttons : Case
buttons = record {
  flow = next (and (enter unit) (enter truth)) (xor (edit (num 1)) (edit (num 2)));
  cells = [];
  events = at (first ∷ []) (giving1 0) ∷ at (second ∷ []) (giving1 1) ∷ pressed continue ∷ [];
  type = some number;
  shown =
      screen 0 1 0 0 (single (pos 0)) (editor_of 1 (1 ∷ []) ∷ editor_of 2 (2 ∷ []) ∷ [])
      ∷ screen 0 1 0 0 (single (pos 0)) (editor_of 1 (1 ∷ []) ∷ editor_of 2 (2 ∷ []) ∷ [])
      ∷ screen 0 1 0 0 (single (pos 0)) (editor_of 1 (1 ∷ []) ∷ editor_of 2 (2 ∷ []) ∷ button_line 2 ∷ [])
      ∷ screen 0 1 0 0 (single (pos 0)) (button_line 3 ∷ button_line 4 ∷ [])
      ∷ [];
  kept = [];
}

-- CR 1: both of a shown 5 and a fail: no entry, and not failing; a value given at the shown part is refused
abbrev pub quiet_both : Case
quiet_both = record {
  flow = and (view (num 5)) (fail number);
  cells = [];
  events = at (first ∷ []) (giving1 1) ∷ [];
  type = some (pair number number);
  shown =
      screen 0 1 0 0 (single (pos 0)) []
      ∷ screen 9 0 0 0 (single (pos 0)) []
      ∷ [];
  kept = [];
}

-- CR 1: a shown 1, Continue to fail: no entry, and not failing; Continue is refused
abbrev pub quiet_next : Case
quiet_next = record {
  flow = next (view (num 1)) (fail number);
  cells = [];
  events = pressed continue ∷ [];
  type = some number;
  shown =
      screen 0 1 0 0 (single (pos 0)) []
      ∷ screen 9 0 0 0 (single (pos 0)) []
      ∷ [];
  kept = [];
}

-- CR 1: a shown 5, step to its double, shown: the step goes on at once, the value stands and takes no touch
abbrev pub shown_on : Case
shown_on = record {
  flow = then (view (num 5)) (view (eop product (ebinder 0) (num 2)));
  cells = [];
  events = at [] (giving1 1) ∷ [];
  type = some number;
  shown =
      screen 0 2 0 1 (single (pos 10)) []
      ∷ screen 9 0 0 1 (single (pos 10)) []
      ∷ [];
  kept = [];
}

-- CR 2: a blank where the editor's type has a leaf is refused, a unit's too; elsewhere it is as 0
abbrev pub blanks : Case
blanks = record {
  flow = and (enter unit) (enter number);
  cells = [];
  events =
      at (first ∷ []) (giving_blank [])
      ∷ at (second ∷ []) (give (padded (some (pos 0)) (none ∷ [])))
      ∷ at (second ∷ []) (giving_blank (some (pos 7) ∷ []))
      ∷ at (first ∷ []) (giving_blank (some (pos 0) ∷ []))
      ∷ [];
  type = some (pair unit number);
  shown =
      screen 0 1 0 0 (single (pos 0)) (editor_of 1 (1 ∷ []) ∷ editor (2 ∷ []) ∷ [])
      ∷ screen 9 0 0 0 (single (pos 0)) (editor_of 1 (1 ∷ []) ∷ editor (2 ∷ []) ∷ [])
      ∷ screen 9 0 0 0 (single (pos 0)) (editor_of 1 (1 ∷ []) ∷ editor (2 ∷ []) ∷ [])
      ∷ screen 0 1 0 0 (single (pos 0)) (editor_of 1 (1 ∷ []) ∷ editor (2 ∷ []) ∷ [])
      ∷ screen 0 1 0 1 (padded (pos 0) (pos 0 ∷ pos 7 ∷ [])) (editor_of 1 (1 ∷ []) ∷ editor (2 ∷ []) ∷ [])
      ∷ [];
  kept = [];
}

-- CR 3: cell 7; what leaves the words at start is 45: the write of 3 before it is dropped, no touch is taken
abbrev pub over_start : Case
over_start = record {
  flow = let' (eassign 0 (num 3)) (and (enter number) (edit (eop product (num 65536) (num 32768))));
  cells = cell 7;
  events = at (first ∷ []) (giving1 1) ∷ [];
  type = some (pair number number);
  shown =
      screen 0 1 1 0 (single (pos 0)) []
      ∷ screen 9 0 1 0 (single (pos 0)) []
      ∷ [];
  kept = cell 7;
}

-- CR 3: cell 7; 1, internal step that writes 3 and leaves the words (P10 with an overflow): it waits, cell 7; a 0 entered, it goes on
abbrev pub over_then : Case
over_then = record {
  flow = then (edit (num 1)) (let' (eassign 0 (num 3)) (edit (eop sum (num 2147483647) (ebinder 1))));
  cells = cell 7;
  events = value1 2 ∷ value1 0 ∷ [];
  type = some number;
  shown =
      screen 0 1 0 0 (single (pos 0)) (editor [] ∷ [])
      ∷ screen 0 1 0 0 (single (pos 0)) (editor [] ∷ [])
      ∷ screen 0 2 0 1 (single (pos 2147483647)) (editor [] ∷ [])
      ∷ [];
  kept = cell 3;
}

-- CR 3: Continue to a bound difference that leaves the words, and is not used: no Continue, 9, cell 7
abbrev pub over_next : Case
over_next = record {
  flow = next (edit (num 1)) (let' (eassign 0 (num 3)) (let' (eop difference (enumber (negsuc 2147483647)) (ebinder 1)) (edit (num 0))));
  cells = cell 7;
  events = pressed continue ∷ [];
  type = some number;
  shown =
      screen 0 1 0 0 (single (pos 0)) (editor [] ∷ [])
      ∷ screen 9 0 0 0 (single (pos 0)) (editor [] ∷ [])
      ∷ [];
  kept = cell 7;
}

-- CR 3: choice 48 of a branch that leaves the words and a filled one: Right only; its second side would leave them where it is not taken
abbrev pub over_xor : Case
over_xor = record {
  flow = xor (and (edit (num 1)) (edit (eop product (num 46341) (num 46341))))
      (and (edit (num 1)) (if (eop equal (num 1) (num 1)) (edit (num 2)) (edit (eop product (num 46341) (num 46341)))));
  cells = [];
  events = pressed left ∷ pressed right ∷ [];
  type = some (pair number number);
  shown =
      screen 0 1 0 0 (single (pos 0)) (button_line 4 ∷ [])
      ∷ screen 9 0 0 0 (single (pos 0)) (button_line 4 ∷ [])
      ∷ screen 0 1 0 1 (padded (pos 0) (pos 1 ∷ pos 2 ∷ [])) (editor (1 ∷ []) ∷ editor (2 ∷ []) ∷ [])
      ∷ [];
  kept = [];
}

-- CR 4: an editor of 8 leaves of all kinds. A unit that is not 0 is refused, and so is leaf 8 left blank; all 8 are taken, and shown
abbrev pub wide : Case
wide = record {
  flow = enter eight;
  cells = [];
  events =
      at [] (giving_eight 5 (some (negsuc 17)))
      ∷ at [] (giving_eight 0 none)
      ∷ at [] (giving_eight 0 (some (negsuc 17)))
      ∷ [];
  type = some eight;
  shown =
      screen 0 1 0 0 no_leaves (eight_line [] ∷ [])
      ∷ screen 9 0 0 0 no_leaves (eight_line [] ∷ [])
      ∷ screen 9 0 0 0 no_leaves (eight_line [] ∷ [])
      ∷ screen 0 1 0 1 (pos 11 ∷ pos 1 ∷ pos 0 ∷ pos 14 ∷ pos 15 ∷ pos 0 ∷ pos 0 ∷ negsuc 17 ∷ []) (eight_line [] ∷ [])
      ∷ [];
  kept = [];
}

-- CR 4: both of 8 leaves and of one have no type
abbrev pub nine : Case
nine = record {
  flow = and (enter eight) (enter number);
  cells = [];
  events = [];
  type = none;
  shown = screen 0 1 0 0 no_leaves (eight_line (1 ∷ []) ∷ editor (2 ∷ []) ∷ []) ∷ [];
  kept = [];
}

-- cell 7; Continue keeps what B wrote
abbrev pub continue_writes : Case
continue_writes = record {
  flow = next (edit (num 1)) (let' (eassign 0 (num 3)) (edit (num 2)));
  cells = cell 7;
  events = pressed continue ∷ [];
  type = some number;
  shown = screen 0 1 0 0 (single (pos 0)) (editor [] ∷ button_line 2 ∷ []) ∷ screen 0 1 0 1 (single (pos 2)) (editor [] ∷ []) ∷ [];
  kept = cell 3;
}

unfoldable pub cases : List Case
cases = p1_p4 ∷ p5 ∷ p6 ∷ p7 ∷ p8 ∷ p9 ∷ p10 ∷ p11 ∷ p12 ∷ buttons ∷ quiet_both ∷ quiet_next ∷ shown_on ∷ blanks ∷ over_start ∷ over_then ∷ over_next ∷ over_xor ∷ wide ∷ nine ∷ continue_writes ∷ []

-- what is computed is what 01 says
pub cases_hold : map computed cases ≡ map expected cases
unfolding
    cases computed failed_whole expected screens taken unless_refused screen_of flag value_flag value_leaves line_of digit infer_task infer
    bind ask nth number_to op_to takes gives same_to if_to type_to assign_to dec_le leaves moves settle normalise strides
    unless_still go_on go_on_with choose_right choose_left failing eval branch is_true apply kept exact is_word exceeds overflows overflows_task leaf value pair_of
    leaves_of padded leaf_kinds marked offers button_if type_of value_of meets_leaf meets number_given given map_task then_some at_editor
    at_mark at_sides at_continue unless_failing handle continue_if entries of_role touches_left verdict
cases_hold = refl

-- CR 3: the ends of the words. An operator, its numbers, and whether the result leaves the words
unfoldable pub ends : List (Op × ℤ × ℤ × Bool)
ends =
    (sum, pos 2147483647, pos 0, false)
    ∷ (sum, pos 2147483647, pos 1, true)
    ∷ (sum, negsuc 2147483647, negsuc 0, true)
    ∷ (difference, negsuc 2147483647, pos 0, false)
    ∷ (difference, negsuc 2147483647, pos 1, true)
    ∷ (product, pos 46341, pos 46340, false)
    ∷ (product, pos 46341, pos 46341, true)
    ∷ (product, negsuc 65535, pos 32768, false)
    ∷ (product, pos 65536, pos 32768, true)
    ∷ (product, negsuc 2147483647, negsuc 0, true)
    ∷ []

pub ends_hold : map (λ (o, x, y, b). exceeds o (vnumber x) (vnumber y)) ends ≡ map (λ (o, x, y, b). b) ends
unfolding ends exceeds exact is_word leaf
ends_hold = refl
