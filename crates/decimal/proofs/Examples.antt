-- Fields and paths computed: what writing gives, and what reading says of bytes that are nearly right (01, "The sheet", Edges).
use mathlib.Core.Path.{◌≡◌, refl}
use mathlib.Core.List.{[], ◌∷◌}
use mathlib.Core.Option.{none, some}
use lib.IntN.{pos, negsuc}
use Rattle.decimal.specs.Field.{digits, text, justified, written, number, blank, unreadable, trimmed, counted, numeral, reads}
use Rattle.decimal.specs.Path.{first, second, marks_text, path_text, written_path, marks, path_in, reads_path, path_number, marks_from, path_of}

-- "  42", "  -7", "-2147483648" in 12 columns, and a number too wide
written_some : (written 4 (pos 42) ≡ some (32 ∷ 32 ∷ 52 ∷ 50 ∷ []))
    × (written 4 (negsuc 6) ≡ some (32 ∷ 32 ∷ 45 ∷ 55 ∷ []))
    × (written 2 (pos 0) ≡ some (32 ∷ 48 ∷ []))
    × (written 12 (negsuc 2147483647) ≡ some (32 ∷ 45 ∷ 50 ∷ 49 ∷ 52 ∷ 55 ∷ 52 ∷ 56 ∷ 51 ∷ 54 ∷ 52 ∷ 56 ∷ []))
    × (written 2 (pos 100) ≡ none)
unfolding digits text justified
written_some = (refl, refl, refl, refl, refl)

-- "  -7", " 0"; blank, "-0", "+1", "01", "1 ", " -", "-01", 2147483647, 2147483648, -2147483648
reads_some : (reads (32 ∷ 32 ∷ 45 ∷ 55 ∷ []) ≡ number (negsuc 6))
    × (reads (32 ∷ 48 ∷ []) ≡ number (pos 0))
    × (reads (32 ∷ 32 ∷ []) ≡ blank)
    × (reads (45 ∷ 48 ∷ []) ≡ unreadable)
    × (reads (43 ∷ 49 ∷ []) ≡ unreadable)
    × (reads (48 ∷ 49 ∷ []) ≡ unreadable)
    × (reads (49 ∷ 32 ∷ []) ≡ unreadable)
    × (reads (32 ∷ 45 ∷ []) ≡ unreadable)
    × (reads (45 ∷ 48 ∷ 49 ∷ []) ≡ unreadable)
    × (reads (50 ∷ 49 ∷ 52 ∷ 55 ∷ 52 ∷ 56 ∷ 51 ∷ 54 ∷ 52 ∷ 55 ∷ []) ≡ number (pos 2147483647))
    × (reads (50 ∷ 49 ∷ 52 ∷ 55 ∷ 52 ∷ 56 ∷ 51 ∷ 54 ∷ 52 ∷ 56 ∷ []) ≡ unreadable)
    × (reads (45 ∷ 50 ∷ 49 ∷ 52 ∷ 55 ∷ 52 ∷ 56 ∷ 51 ∷ 54 ∷ 52 ∷ 56 ∷ []) ≡ number (negsuc 2147483647))
unfolding trimmed counted numeral
reads_some = (refl, refl, refl, refl, refl, refl, refl, refl, refl, refl, refl, refl)

-- marks 1 2 2: the text "122", the number 1 + 2 * (2 + 2 * 2); " 0"; blank, "00", "01", "10", "1 2", "3"
paths_some : (path_text (first ∷ second ∷ second ∷ []) ≡ 49 ∷ 50 ∷ 50 ∷ [])
    × (path_number (first ∷ second ∷ second ∷ []) ≡ 13)
    × (path_of 13 ≡ first ∷ second ∷ second ∷ [])
    × (reads_path (32 ∷ 49 ∷ 50 ∷ 50 ∷ []) ≡ some (first ∷ second ∷ second ∷ []))
    × (reads_path (32 ∷ 48 ∷ []) ≡ some [])
    × (reads_path (32 ∷ 32 ∷ []) ≡ some [])
    × (reads_path (48 ∷ 48 ∷ []) ≡ none)
    × (reads_path (48 ∷ 49 ∷ []) ≡ none)
    × (reads_path (49 ∷ 48 ∷ []) ≡ none)
    × (reads_path (49 ∷ 32 ∷ 50 ∷ []) ≡ none)
    × (reads_path (32 ∷ 51 ∷ []) ≡ none)
unfolding marks_text path_text path_number marks_from marks path_in trimmed
paths_some = (refl, refl, refl, refl, refl, refl, refl, refl, refl, refl, refl)

-- 16 marks are the numbers up to 131070, and the next one has 17 and no writing
paths_edge : (written_path (path_of 131070) ≡ some (50 ∷ 50 ∷ 50 ∷ 50 ∷ 50 ∷ 50 ∷ 50 ∷ 50 ∷ 50 ∷ 50 ∷ 50 ∷ 50 ∷ 50 ∷ 50 ∷ 50 ∷ 50 ∷ []))
    × (written_path (path_of 131071) ≡ none)
unfolding marks_text path_text marks_from justified
paths_edge = (refl, refl)
