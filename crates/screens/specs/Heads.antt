-- What a head line says (01, "A session in full"), and its text. Rests on the records of formats.
-- Believed, but for `four_digits`: for contracts only.
use Rattle.std.specs.Prelude.{List, [], ◌∷◌, ◌++◌, ℕ, set}
use Rattle.std.specs.Int.{w32}
use Rattle.std.proofs.Common.{to_z}
use Rattle.decimal.specs.Field.{row_columns, word_columns, action_columns, newline}
use Rattle.formats.specs.Records.{total, Item, items_text, put_items, items_of}
use Rattle.formats.specs.Heads.{head_columns}
use Rattle.screens.specs.declared.head.Head.{Head}

-- the numbers that fit 4 columns
abbrev pub four_digits : ℕ
four_digits = 10000

-- its fields
abbrev pub head_items : Head → List Item
head_items h =
    (row_columns, to_z w32 h.answer) ∷
    (row_columns, to_z w32 h.strides) ∷
    (action_columns, to_z w32 h.fails) ∷
    (action_columns, to_z w32 h.valued) ∷
    (items_of word_columns h.leaves ++ (row_columns, to_z w32 h.entries) ∷ [])

-- the bytes s with a head line over their front
unfoldable pub head_over : List ℕ → Head → List ℕ
head_over s h = set (put_items s 0 (head_items h)) (total head_columns) newline

-- the line itself. Where each number fits its columns, this is what stands over the front (proofs/HeadText)
abbrev pub head_text : Head → List ℕ
head_text h = items_text (head_items h) ++ newline ∷ []
