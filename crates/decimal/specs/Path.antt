-- Paths: which part of a screen an event is for (01, "Touches and what is shown").
-- Rests on specs/Field.antt for bytes and columns.
-- Believed down to `reads_path_at`. Paths as numbers are for contracts only: tied to paths by `path_number_lem` and `number_path` (proofs/PathNumbers).
use Rattle.std.specs.Prelude.{Option as Maybe, Some, None, ℕ, zero, suc, ◌+◌, ◌*◌, ◌/◌, ◌%◌, cond, List, [], ◌∷◌, leb, eqb, length}
use Rattle.std.proofs.Math.Option.{Option, none, some}
use Rattle.std.proofs.Math.Seq.{slice}
use Rattle.decimal.specs.Field.{nought, justified, trimmed}
use Rattle.decimal.specs.declared.path.Front.{Front}
use Rattle.decimal.specs.declared.path.Front.TheVariants.{Empty, First, Second}

-- a mark names one of two parts: the digits 1 and 2
pub data Mark : Type 0 where
  first second : Mark
  deriving Discrete as Mark-discrete

-- marks, outermost first
abbrev pub Path : Type 0
Path = List Mark

-- how many marks enclose a row at most, and so how wide a path is written
abbrev pub max_marks : ℕ
max_marks = 16

abbrev pub path_columns : ℕ
path_columns = max_marks

abbrev pub mark_number : Mark → ℕ
mark_number first = 1
mark_number second = 2

-- a path's text: a digit for each mark, "0" for the empty path
unfoldable pub marks_text : Path → List ℕ
marks_text [] = []
marks_text (m ∷ p) = (nought + mark_number m) ∷ marks_text p

unfoldable pub path_text : Path → List ℕ
path_text [] = nought ∷ []
path_text (m ∷ p) = marks_text (m ∷ p)

-- right-justified in its columns; none where there are too many marks
abbrev pub written_path : Path → Option (List ℕ)
written_path p = justified path_columns (path_text p)

-- the marks that digits 1 and 2 say; none at any other byte
abbrev pub mark_of : ℕ → Option Mark
mark_of b = cond (eqb b (nought + 1)) (some first) (cond (eqb b (nought + 2)) (some second) none)

abbrev pub outside : Option Mark → Option Path → Option Path
outside (some m) (some p) = some (m ∷ p)
outside (some m) none = none
outside none o = none

unfoldable pub marks : List ℕ → Option Path
marks [] = some []
marks (b ∷ bs) = outside (mark_of b) (marks bs)

-- a 0 stands alone
abbrev pub empty_alone : List ℕ → Option Path
empty_alone [] = some []
empty_alone (b ∷ bs) = none

-- what the bytes after the spaces say
unfoldable pub path_in : List ℕ → Option Path
path_in [] = some []  -- CR 2: a blank path is the empty one
path_in (b ∷ bs) = cond (eqb b nought) (empty_alone bs) (marks (b ∷ bs))

-- what the bytes of a path's field say; they are that path's writing, or all spaces for the empty one (proofs/Paths.antt)
abbrev pub reads_path : List ℕ → Option Path
reads_path bs = path_in (trimmed bs)

-- what the path's field from `at` on says; one that s does not have says none
unfoldable pub reads_path_at : List ℕ → ℕ → Option Path
reads_path_at s at = cond (leb (at + path_columns) (length s)) (reads_path (slice at (at + path_columns) s)) none

-- the number that is a path in code: bijective base 2, the outermost mark least. Every number is a path's
unfoldable pub path_number : Path → ℕ
path_number [] = 0
path_number (m ∷ p) = mark_number m + 2 * path_number p

-- the path of a number, at most k marks of it
abbrev pub front_mark : ℕ → Mark
front_mark n = cond (eqb (n % 2) 1) first second

unfoldable pub marks_from : ℕ → ℕ → Path
marks_from zero n = []
marks_from (suc k) zero = []
marks_from (suc k) (suc n) = front_mark (suc n) ∷ marks_from k (n / 2)

-- all of them: a number has no more marks than it is large
abbrev pub path_of : ℕ → Path
path_of n = marks_from n n

-- the code's answers: for a path's field, and for taking the outermost mark off
abbrev pub path_reading : Option Path → Maybe ℕ
path_reading (some p) = Some (path_number p)
path_reading none = None

abbrev pub front : Path → Front
front [] = Empty
front (first ∷ p) = First (path_number p)
front (second ∷ p) = Second (path_number p)
