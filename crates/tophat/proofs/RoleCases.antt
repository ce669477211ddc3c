-- Roles and touches (CR 6), as one computed check: what the definitions give for each flow and its touches, each seen in the role that touched,
-- is what the request says. Rests on CaseScreens.
use mathlib.Core.Path.{◌≡◌, refl}
use mathlib.Core.Option.{some, bind}
use mathlib.Core.List.{List, [], ◌∷◌, map}
use Prim.Native.Nat.{ℕ}
use lib.IntN.{pos}
use native.Mathlib.Decide.{dec_le}
use Rattle.word.specs.Word.{is_word}
use Rattle.decimal.specs.Path.{first, second, Path}
use Rattle.tophat.specs.Syntax.{leaves, moves, number, pair, less_equal, ebinder, eop}
use Rattle.tophat.specs.Syntax.{edit, enter, then, next, fail, and, or, view, gate, if}
use Rattle.tophat.specs.Typing.{type_of}
use Rattle.tophat.specs.Leaves.{leaves_of, padded, leaf_kinds, value_of, meets_leaf, meets, number_given, given}
use Rattle.tophat.specs.Normalising.{value, pair_of, first_of}
use Rattle.tophat.specs.Roles.{of_role, touches_left, verdict, opens}
use Rattle.tophat.specs.Handling.{Action, continue, left, press}
use Rattle.tophat.specs.Showing.{marked, offers, button_if, entries_if}
use Rattle.tophat.proofs.ComputeTyping.{infer_task, infer, ask, nth, number_to, op_to, takes, gives, same_to, if_to, type_to, assign_to}
use Rattle.tophat.proofs.ComputeEvaluation.{eval, branch, is_true, apply, leaf, kept, exact, exceeds, overflows, overflows_task}
use Rattle.tophat.proofs.ComputeNormalising.{failing, normalise, settle, strides, unless_still, go_on, go_on_with, choose_right, choose_left}
use Rattle.tophat.proofs.ComputeHandling.{handle, map_task, pass_gate, then_some, at_editor, at_mark, at_sides, at_continue, unless_failing}
use Rattle.tophat.proofs.ComputeEntries.{entries, continue_if}
use Rattle.tophat.proofs.CaseScreens.{Touch, screen, digit, line_of, flag, value_flag, value_leaves, screen_of, Case, expected, taken, screens, failed_whole, unless_refused, computed}
use Rattle.tophat.proofs.CaseScreens.{num, single, giving1, pressed, at, value1, editor, button_line, no_leaves}

abbrev role : ℕ → Path → Action → Touch
role r p x = (r, p, x)

-- one touch for role 2: 30 for role 1, 9 where no rule takes it, then one value, then 31, and for role 1 still 30
abbrev pub one_touch : Case
one_touch = record {
  flow = gate 2 1 (enter number);
  cells = [];
  events = value1 12 ∷ role 2 [] (press left) ∷ role 2 [] (giving1 12) ∷ role 2 [] (giving1 13) ∷ value1 13 ∷ [];
  type = some number;
  shown =
      screen 0 1 0 0 no_leaves []
      ∷ screen 30 0 0 0 no_leaves []
      ∷ screen 9 0 0 0 no_leaves (editor [] ∷ [])
      ∷ screen 0 1 0 1 (single (pos 12)) []
      ∷ screen 31 0 0 1 (single (pos 12)) []
      ∷ screen 30 0 0 1 (single (pos 12)) []
      ∷ [];
  kept = [];
}

-- a role around another: 30 for each, also where the outer one has no touch left
abbrev pub two_roles : Case
two_roles = record {
  flow = and (gate 1 3 (gate 2 3 (enter number))) (gate 1 0 (gate 2 1 (enter number)));
  cells = [];
  events = at (first ∷ []) (giving1 1) ∷ role 2 (first ∷ []) (giving1 1) ∷ at (second ∷ []) (giving1 1) ∷ [];
  type = some (pair number number);
  shown =
      screen 0 1 0 0 no_leaves []
      ∷ screen 30 0 0 0 no_leaves []
      ∷ screen 30 0 0 0 no_leaves []
      ∷ screen 30 0 0 0 no_leaves []
      ∷ [];
  kept = [];
}

-- a value uses a touch of both rows, Continue, which the 44 takes, one of the outer alone
abbrev pub around_a_step : Case
around_a_step = record {
  flow = gate 1 2 (next (gate 1 1 (edit (num 5))) (view (ebinder 0)));
  cells = [];
  events = value1 7 ∷ value1 8 ∷ pressed continue ∷ [];
  type = some number;
  shown =
      screen 0 1 0 0 no_leaves (editor [] ∷ button_line 2 ∷ [])
      ∷ screen 0 1 0 0 no_leaves (button_line 2 ∷ [])
      ∷ screen 31 0 0 0 no_leaves (button_line 2 ∷ [])
      ∷ screen 0 1 0 1 (single (pos 7)) []
      ∷ [];
  kept = [];
}

-- a right side that is dropped and evaluated again begins with its touches anew
abbrev pub touches_anew : Case
touches_anew = record {
  flow = then (enter number) (if (eop less_equal (ebinder 0) (num 1)) (gate 1 1 (enter number)) (fail number));
  cells = [];
  events = value1 5 ∷ value1 1 ∷ value1 3 ∷ value1 4 ∷ [];
  type = some number;
  shown =
      screen 0 1 0 0 no_leaves (editor [] ∷ [])
      ∷ screen 0 1 0 0 no_leaves (editor [] ∷ [])
      ∷ screen 0 2 0 0 no_leaves (editor [] ∷ [])
      ∷ screen 0 1 0 1 (single (pos 3)) []
      ∷ screen 31 0 0 1 (single (pos 3)) []
      ∷ [];
  kept = [];
}

-- a spent part of a 47 is dark but does not fail; the other part goes on
abbrev pub spent_part : Case
spent_part = record {
  flow = or (gate 1 0 (enter number)) (gate 1 1 (enter number));
  cells = [];
  events = at (first ∷ []) (giving1 1) ∷ at (second ∷ []) (giving1 2) ∷ value1 3 ∷ [];
  type = some number;
  shown =
      screen 0 1 0 0 no_leaves (editor (2 ∷ []) ∷ [])
      ∷ screen 31 0 0 0 no_leaves (editor (2 ∷ []) ∷ [])
      ∷ screen 0 2 0 1 (single (pos 2)) []
      ∷ screen 31 0 0 1 (single (pos 2)) []
      ∷ [];
  kept = [];
}

unfoldable pub cases : List Case
cases = one_touch ∷ two_roles ∷ around_a_step ∷ touches_anew ∷ spent_part ∷ []

-- what is computed is what the request says
pub cases_hold : map computed cases ≡ map expected cases
unfolding
    cases computed failed_whole expected screens taken unless_refused screen_of flag value_flag value_leaves line_of digit infer_task infer bind ask nth number_to op_to takes gives same_to if_to type_to assign_to dec_le leaves moves settle normalise strides unless_still go_on go_on_with choose_right choose_left failing eval branch is_true apply kept exact is_word exceeds overflows overflows_task leaf value pair_of leaves_of padded leaf_kinds marked offers button_if type_of value_of meets_leaf meets number_given given map_task then_some at_editor at_mark at_sides at_continue unless_failing handle continue_if entries of_role touches_left verdict pass_gate opens entries_if first_of
cases_hold = refl
