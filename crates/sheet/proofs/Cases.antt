-- Some texts and their grounds, computed: 01's session, its Edges that a text can have, and texts that are nearly right; and
-- what `load` leaves of them. Rests on the definitions.
use mathlib.Core.Path.{◌≡◌, refl}
use mathlib.Core.Bool.{Bool, true, ◌&&◌}
use mathlib.Core.List.{List, [], ◌∷◌, ◌++◌}
use Prim.Native.Nat.{ℕ, ◌*◌}
use native.Mathlib.Decide.{dec_le}
use lib.Dec.{eqb}
use lib.IntN.{ℤ, pos, negsuc}
use lib.ListN.{replicate}
use Rattle.tophat.specs.Syntax.{leaves}
use Rattle.tophat.proofs.ComputeTyping.{ask, nth, takes, gives, number_to, op_to, same_to, if_to, type_to, first_to, second_to, assign_to, infer, infer_task}
use mathlib.Core.Option.{Option, none, some, bind}
use Rattle.decimal.specs.Field.{space, newline, row_columns, word_columns, digits, text, justified, written, trimmed, counted, numeral, reads_at}
use Rattle.formats.specs.Records.{fields_at, number_said, each, text_of, items_text, items_in}
use Rattle.formats.specs.Lines.{line_columns, meant, meant_all, kind_word, after_row, line_says, lines_say}
use Rattle.rows.specs.Kinds.{kind_of, asks_of, is_unused, unused_by}
use Rattle.rows.specs.Rows.{row_words, every, listed_as, listed, truth_cell, row_listed, sort_by, sorts, sort_number, sorted_as, sorted, row_sorted, names, names_by, names_in, namings, named_once, last_fits}
use Rattle.rows.specs.Enclosing.{binders_by, marks_by, most_binders, most_marks, counts, leaves_by, row_small}
use Rattle.rows.specs.Trees.{operator_of}
use Rattle.rows.specs.ComputeTrees.{type_at, exp_at, code_at, cell_type, cell_types}
use Rattle.rows.specs.Ground.{flow_type, is_some, passes3, passes4, passes5, passes6, passes7, ground_of_rows}
use Rattle.sheet.specs.Sheet.{lines, sized, leaving, loaded_lines, loaded}

-- the number and the rows memory that a text and a rows memory come to, with all that is unfolded on the way
unfoldable load : List ℕ → List ℤ → ℕ × List ℤ
unfolding
    bind ask nth takes gives number_to op_to same_to if_to type_to first_to second_to assign_to infer infer_task leaves dec_le digits text justified trimmed
    counted numeral reads_at fields_at number_said each text_of items_text is_unused unused_by meant meant_all kind_word after_row line_says lines_say kind_of asks_of every listed_as listed truth_cell row_listed sort_by
    sorts sort_number sorted_as sorted row_sorted names names_by names_in namings named_once last_fits binders_by marks_by most_binders most_marks counts
    leaves_by row_small operator_of type_at exp_at code_at cell_type cell_types flow_type is_some passes3 passes4 passes5 passes6 passes7 ground_of_rows sized
    leaving loaded_lines loaded
load s rows = loaded s rows

-- a line of row number, kind, A, B and C, ended by a byte
abbrev ended : ℕ → ℤ → ℤ → ℤ → ℤ → ℤ → List ℕ
ended e r k a b c = items_text (items_in line_columns (r ∷ k ∷ a ∷ b ∷ c ∷ [])) ++ e ∷ []

abbrev line : ℕ → ℕ → ℕ → ℕ → ℕ → List ℕ
line r k a b c = ended newline (pos r) (pos k) (pos a) (pos b) (pos c)

-- 01, "A session in full"
abbrev session : List ℕ
session =
    line 0 3 0 0 0 ++ (line 1 41 0 0 0 ++ (line 2 23 0 0 0 ++ (line 3 22 9 0 0 ++ (line 4 24 5 2 3 ++ (line 5 23 0 0 0 ++
    (line 6 22 30 0 0 ++ (line 7 24 3 5 6 ++ (line 8 40 7 0 0 ++ (line 9 45 0 0 0 ++ (line 10 25 4 8 9 ++ line 11 43 1 10 0))))))))))

-- a line as a spreadsheet draws it: a field is a number or left blank (CR 2)
abbrev cell : ℕ → Option ℕ → List ℕ
cell w none = replicate w space
cell w (some n) = text_of (written w (pos n))

abbrev drawn : Option ℕ → Option ℕ → Option ℕ → Option ℕ → Option ℕ → List ℕ
drawn r k a b c = cell row_columns r ++ (cell row_columns k ++ (cell word_columns a ++ (cell word_columns b ++ (cell word_columns c ++ newline ∷ []))))

abbrev row : ℕ → ℕ → Option ℕ → Option ℕ → Option ℕ → List ℕ
row r k a b c = drawn (some r) (some k) a b c

-- 01's session with every unused operand blank
abbrev blank_session : List ℕ
blank_session =
    row 0 3 none none none ++ (row 1 41 (some 0) none none ++ (row 2 23 (some 0) none none ++ (row 3 22 (some 9) none none ++
    (row 4 24 (some 5) (some 2) (some 3) ++ (row 5 23 (some 0) none none ++ (row 6 22 (some 30) none none ++ (row 7 24 (some 3) (some 5) (some 6) ++
    (row 8 40 (some 7) none none ++ (row 9 45 (some 0) none none ++ (row 10 25 (some 4) (some 8) (some 9) ++ row 11 43 (some 1) (some 10) none))))))))))

-- a task of one row after its number
abbrev task : List ℕ
task = line 1 40 0 0 0

-- a ground, and a text that gets it
abbrev cases : List (ℕ × List ℕ)
cases =
    (0, session) ∷
    (1, []) ∷  -- the empty text
    (1, replicate 44 32) ∷
    (1, replicate 46 32) ∷
    (2, replicate 45 32) ∷
    (2, replicate (256 * 45) 32) ∷
    (1, replicate (257 * 45) 32) ∷
    (0, ended 10 (pos 0) (pos 22) (pos 2147483647) (pos 0) (pos 0) ++ task) ∷
    (0, ended 10 (pos 0) (pos 22) (negsuc 2147483647) (pos 0) (pos 0) ++ task) ∷
    (2, ended 10 (pos 0) (pos 22) (pos 2147483648) (pos 0) (pos 0) ++ task) ∷
    (2, ended 10 (pos 0) (pos 22) (negsuc 2147483648) (pos 0) (pos 0) ++ task) ∷
    (2, ended 13 (pos 0) (pos 22) (pos 1) (pos 0) (pos 0) ++ task) ∷  -- another byte than 10
    (2, ended 10 (pos 1) (pos 22) (pos 1) (pos 0) (pos 0) ++ task) ∷  -- a wrong row number
    (2, ended 10 (negsuc 0) (pos 22) (pos 1) (pos 0) (pos 0) ++ task) ∷
    (3, ended 10 (pos 0) (negsuc 0) (pos 1) (pos 0) (pos 0) ++ task) ∷  -- a negative kind
    (2, ended 10 (pos 0) (negsuc 0) (pos 1) (pos 0) (pos 0) ++ ended 32 (pos 1) (pos 40) (pos 0) (pos 0) (pos 0)) ∷  -- 2 over all lines before 3
    (0, blank_session) ∷
    (0, row 0 22 (some 1) none (some 0) ++ row 1 40 (some 0) (some 0) none) ∷  -- blanks and zeros mixed
    (2, row 0 22 none none none ++ task) ∷  -- a used operand blank
    (2, row 0 22 (some 1) none none ++ row 1 40 none none none) ∷  -- also where its 0 would be right
    (2, drawn none (some 22) (some 1) none none ++ task) ∷  -- a row number
    (2, drawn (some 0) none (some 1) none none ++ task) ∷  -- a kind
    (3, row 0 99 (some 0) (some 0) (some 0) ++ task) ∷  -- no kind
    (2, row 0 99 (some 0) (some 0) none ++ task) ∷  -- and an operand of it blank
    []

-- rows memory of n words
abbrev sevens : ℕ → List ℤ
sevens n = replicate n (pos 7)

abbrev agree : List (ℕ × List ℕ) → Bool
agree [] = true
agree (c ∷ cs) = eqb (load c.1 (sevens (lines c.1 * row_words))).0 c.0 && agree cs

all_agree : agree cases ≡ true
unfolding load
all_agree = refl

-- what load answers and leaves: 1 before 21 before 2, and words only where it accepts
abbrev minus5 : List ℕ
minus5 = ended 10 (pos 0) (pos 22) (negsuc 4) (pos 0) (pos 0) ++ task

all_loaded : (load [] (sevens 1) ≡ (1, sevens 1))
    × (load (replicate 45 32) (sevens 3) ≡ (21, sevens 3))
    × (load (replicate 45 32) (sevens 4) ≡ (2, sevens 4))
    × (load minus5 (sevens 9) ≡ (21, sevens 9))
    × (load minus5 (sevens 8) ≡ (0, pos 22 ∷ negsuc 4 ∷ pos 0 ∷ pos 0 ∷ pos 40 ∷ pos 0 ∷ pos 0 ∷ pos 0 ∷ []))
unfolding load
all_loaded = (refl, refl, refl, refl, refl)
