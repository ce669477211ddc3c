-- The head line of a screen (01, "A session in full"): its columns. Rests on Records.
-- Believed, but for `head_leaves`: for proofs only.
use Rattle.std.specs.Prelude.{List, [], ◌∷◌, ◌++◌, ℕ, replicate}
use Rattle.decimal.specs.Field.{row_columns, word_columns, action_columns}
use Rattle.tophat.specs.Syntax.{max_leaves}
use Rattle.formats.specs.Records.{total, record_bytes}

-- CR 4: head lines are 112 and byte 10. 01: "answer (4), strides (4), failing (2), value flag (2)", eight leaves of 12, "entry count (4)"
abbrev pub head_front : List ℕ
head_front = row_columns ∷ row_columns ∷ action_columns ∷ action_columns ∷ []

abbrev pub head_columns : List ℕ
head_columns = head_front ++ (replicate max_leaves word_columns ++ row_columns ∷ [])

abbrev pub head_bytes : ℕ
head_bytes = record_bytes head_columns

-- where the leaves begin
abbrev pub head_leaves : ℕ
head_leaves = total head_front
