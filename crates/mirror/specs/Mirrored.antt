-- A sheet drawn the other way round (CR 5: "For a sheet without writes (kind 30) whose last row is 46, exchanging A and B exchanges the two
-- halves of the value, and the two blocks of the list with their first marks"): what the exchange does to rows, text, events, values and
-- calls, and what holds of the calls on both sheets, for every content of every memory. The theorem is proofs/Mirror. Rests on
-- call_definitions.
-- Believed.
use Rattle.std.specs.Prelude.{◌≡◌, Bool, not, cond, List, [], ◌∷◌, ◌++◌, map, ℕ, zero, suc, ◌+◌, ◌*◌, ◌-◌, eqb, ℤ, length, take, drop}
use Rattle.std.proofs.Math.Option.{Option, none, some}
use Rattle.decimal.specs.Field.{space, nought, word_columns}
use Rattle.decimal.specs.Path.{first, second, Path, mark_number, path_columns}
use Rattle.tophat.specs.Syntax.{Ty, pair, Code, and}
use Rattle.tophat.specs.Handling.{Action}
use Rattle.tophat.specs.Showing.{Entry, marked}
use Rattle.tophat.specs.Redrawn.{mirror_path}
use Rattle.formats.specs.Records.{place_of}
use Rattle.formats.specs.Lines.{line_columns, line_bytes}
use Rattle.formats.specs.Touches.{role_columns, event_of}
use Rattle.formats.specs.Lists.{list_text, Fits}
use Rattle.rows.specs.Kinds.{plain_k, eassign_k}
use Rattle.rows.specs.Rows.{row_words, is_kind, every}
use Rattle.rows.specs.Lent.{own_rows, row_count}
use Rattle.sheet.specs.Sheet.{lines, loaded}
use Rattle.call_definitions.specs.Memory.{LookAnswer}
use Rattle.call_definitions.specs.Answers.{Loads, AcceptedFlow}
use Rattle.call_definitions.specs.Calls.{start_call, handle_call, look_call}
use Rattle.call_definitions.specs.Touches.{Call, look, handle, run}

-- ---- what is exchanged

-- no row is of kind 30
unfoldable pub writeless : List ℤ → Bool
writeless rows = every (row_count rows) (λ i. not (is_kind (own_rows rows) i (plain_k eassign_k)))

-- from place `at` on, m elements and the n after them change places
unfoldable pub exchange : {A : Type 0} → ℕ → ℕ → ℕ → List A → List A
exchange at m n xs = take at xs ++ (take n (drop (at + m) xs) ++ (take m (drop at xs) ++ drop (at + m + n) xs))

-- the words A and B of the last row
unfoldable pub mirrored : List ℤ → List ℤ
mirrored rows = exchange ((row_count rows - 1) * row_words + 1) 1 1 rows

-- columns 9-20 and 21-32 of the last line
unfoldable pub mirrored_text : List ℕ → List ℕ
mirrored_text text = exchange ((lines text - 1) * line_bytes + place_of line_columns 2) word_columns word_columns text

-- the digits 1 and 2
unfoldable pub mirrored_digit : ℕ → ℕ
mirrored_digit b = cond (eqb b (nought + mark_number first)) (nought + mark_number second) (cond (eqb b (nought + mark_number second)) (nought + mark_number first) b)

-- the first byte of at most n that is no space
unfoldable pub mirrored_first : ℕ → List ℕ → List ℕ
mirrored_first zero s = s
mirrored_first (suc n) [] = []
mirrored_first (suc n) (b ∷ s) = cond (eqb b space) (b ∷ mirrored_first n s) (mirrored_digit b ∷ s)

-- an event's bytes: the first digit of its path, which stands behind the role
unfoldable pub mirrored_event : List ℕ → List ℕ
mirrored_event event = take role_columns event ++ mirrored_first path_columns (drop role_columns event)

-- what an event says, with its path moved
unfoldable pub moved_touch : (Path → Path) → Option (ℕ × Path × Action) → Option (ℕ × Path × Action)
moved_touch f none = none
moved_touch f (some e) = some (e.0, f e.1, e.2)

unfoldable pub mirrored_call : Call → Call
mirrored_call (look role values list) = look role values list
mirrored_call (handle event) = handle (mirrored_event event)

-- ---- rows whose last row is of kind 46: typing gives its A the type τ and its B the type υ

pub record Halves (rows : List ℤ) (τ υ : Ty) : Type 0 where
  pub a : Code
  pub b : Code
  pub cells : List Ty
  pub flow : AcceptedFlow rows (and a b) cells (pair τ υ)

-- ---- what two looks have of each other, where the halves of the value have m and n leaves

pub record LooksMirrored (m n : ℕ) (list : List ℕ) (x y : LookAnswer) : Type 0 where
  pub number : y.number ≡ x.number
  pub has_value : y.has_value ≡ x.has_value
  pub fails : y.fails ≡ x.fails
  pub refused : (x.number ≡ 0 → ⊥) → y ≡ x
  -- the halves of the value change places
  pub value : x.number ≡ 0 → y.value ≡ exchange 0 m n x.value
  -- the entries of A and of B, which can be written behind a mark
  pub of_a : List Entry
  pub of_b : List Entry
  pub fits_a : Fits 1 of_a
  pub fits_b : Fits 1 of_b
  pub part : x.number ≡ 0 → x.part ≡ list_text (marked first of_a ++ marked second of_b)
  pub part_mirrored : x.number ≡ 0 → y.part ≡ list_text (marked first of_b ++ marked second of_a)
  pub list_mirrored : x.number ≡ 0 → y.list ≡ y.part ++ drop (length y.part) list

-- ---- what is promised of rows whose halves have m and n leaves, and of those rows mirrored: any memory, any role, any event, any list of calls

pub record Mirrors (rows : List ℤ) (m n : ℕ) : Type 0 where
  -- the exchanged event says the event with the first mark of its path exchanged; a second exchange gives it back
  pub says : (event : List ℕ) → event_of (mirrored_event event) ≡ moved_touch mirror_path (event_of event)
  pub twice : (event : List ℕ) → mirrored_event (mirrored_event event) ≡ event
  -- the mirrored sheet is accepted
  pub accepts : Loads (mirrored rows)
  pub loads : (text : List ℕ) (memory : List ℤ) → loaded text memory ≡ (0, rows) → loaded (mirrored_text text) memory ≡ (0, mirrored rows)
  -- numbers, strides and state words are equal
  pub starts : (memory : List ℤ) → start_call (mirrored rows) memory ≡ start_call rows memory
  pub touches : (ws : List ℤ) (event : List ℕ) → handle_call (mirrored rows) ws (mirrored_event event) ≡ handle_call rows ws event
  pub looks : (ws : List ℤ) (role : ℕ) (values : List ℤ) (list : List ℕ)
      → LooksMirrored m n list (look_call rows ws role values list) (look_call (mirrored rows) ws role values list)
  pub runs : (ws : List ℤ) (ks : List Call) → run (mirrored rows) ws (map mirrored_call ks) ≡ run rows ws ks
