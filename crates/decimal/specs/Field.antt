-- Fields of text: a number right-justified after spaces, written and read (01, "The sheet").
-- Rests on words (`half`) and on their bits (`of_z w32`). A byte is a number below 256.
-- Believed, but for `reading` and `bits_said`, the code's answers: for contracts only.
use Rattle.std.specs.Prelude.{Option as Maybe, Some, None, ℕ, zero, suc, ◌+◌, ◌*◌, ◌-◌, ◌/◌, ◌%◌, Bool, true, false, cond, ◌&&◌, List, [], ◌∷◌, ◌++◌, leb, eqb, ℤ, pos, negsuc, length, take, drop, replicate}
use Rattle.std.proofs.Math.Option.{Option, none, some}
use Rattle.std.proofs.Math.Seq.{slice}
use Rattle.std.specs.Int.{w32}
use Rattle.std.proofs.Common.{of_z}
use Rattle.word.specs.Word.{half}
use Rattle.decimal.specs.declared.field.Reading.{Reading}
use Rattle.decimal.specs.declared.field.Reading.TheVariants.{Number, Blank, Unreadable}

-- the bytes that a number is written with: these, and a digit d as 48 + d
abbrev pub space : ℕ
space = 32

abbrev pub minus : ℕ
minus = 45

abbrev pub nought : ℕ
nought = 48

abbrev pub nine : ℕ
nine = 57

-- how wide 01's fields are: row numbers and kinds; operands and leaves; actions and leaf kinds
abbrev pub row_columns : ℕ
row_columns = 4

abbrev pub word_columns : ℕ
word_columns = 12

abbrev pub action_columns : ℕ
action_columns = 2

-- the byte that ends a line, an event and an entry
abbrev pub newline : ℕ
newline = 10

-- the decimal digits of n, at most k of them; 0 has none
unfoldable pub digits : ℕ → ℕ → List ℕ
digits zero n = []
digits (suc k) zero = []
digits (suc k) (suc n) = digits k (suc n / 10) ++ (nought + suc n % 10) ∷ []

-- all of them: a number has no more digits than it is large
abbrev pub decimal : ℕ → List ℕ
decimal n = digits n n

-- a number's text: no plus, no leading zero, no "-0"
unfoldable pub text : ℤ → List ℕ
text (pos zero) = nought ∷ []
text (pos (suc n)) = decimal (suc n)
text (negsuc n) = minus ∷ decimal (suc n)

-- t right-justified after spaces in w columns; none where it does not fit
unfoldable pub justified : ℕ → List ℕ → Option (List ℕ)
justified w t = cond (leb (length t) w) (some (replicate (w - length t) space ++ t)) none

abbrev pub written : ℕ → ℤ → Option (List ℕ)
written w z = justified w (text z)

-- what one field says
pub data Field : Type 0 where
  number : ℤ → Field
  blank : Field  -- every column a space (CR 2)
  unreadable : Field

-- bytes without the spaces in front
unfoldable pub trimmed : List ℕ → List ℕ
trimmed [] = []
trimmed (b ∷ bs) = cond (eqb b space) (trimmed bs) (b ∷ bs)

-- the number from 1 to `most` that n and the digits bs after it say; 0 where they say none: no digit, a leading zero, too large
unfoldable pub counted : ℕ → ℕ → List ℕ → ℕ
counted most n [] = n
counted most n (b ∷ bs) =
    let m = n * 10 + (b - nought) in
    cond (leb nought b && leb b nine && leb 1 m && leb m most) (counted most m bs) 0

-- the field that says n, or - n, where n is not 0
abbrev pub positive : ℕ → Field
positive zero = unreadable
positive (suc n) = number (pos (suc n))

abbrev pub negative : ℕ → Field
negative zero = unreadable
negative (suc n) = number (negsuc n)

-- a 0 stands alone
abbrev pub alone : List ℕ → Field
alone [] = number (pos 0)
alone (b ∷ bs) = unreadable

-- what the bytes after the spaces say
unfoldable pub numeral : List ℕ → Field
numeral [] = blank
numeral (b ∷ bs) =
    cond (eqb b minus) (negative (counted half 0 bs))
    (cond (eqb b nought) (alone bs) (positive (counted (half - 1) 0 (b ∷ bs))))

-- what the bytes of a field say; a number so said is a word, and they are its writing (proofs/Fields.antt)
abbrev pub reads : List ℕ → Field
reads bs = numeral (trimmed bs)

-- what the field of w columns from `at` on says; one that s does not have is unreadable
unfoldable pub reads_at : List ℕ → ℕ → ℕ → Field
reads_at s at w = cond (leb (at + w) (length s)) (reads (slice at (at + w) s)) unreadable

-- the code's answer for a field: the bits of its number
abbrev pub reading : Field → Reading
reading (number z) = Number (of_z w32 z)
reading blank = Blank
reading unreadable = Unreadable

-- and those bits alone
abbrev pub bits_said : Reading → Maybe ℕ
bits_said (Number n) = Some n
bits_said Blank = None
bits_said Unreadable = None

-- writing a text t into the field of w columns from `at` on: the answer, and the bytes at exit.
-- Without a text, or where s does not have the field: false, and s as it was
unfoldable pub put_at : List ℕ → ℕ → ℕ → Option (List ℕ) → Bool × List ℕ
put_at s at w none = (false, s)
put_at s at w (some t) = cond (leb (at + w) (length s)) (true, take at s ++ t ++ drop (at + w) s) (false, s)
