-- What evaluating gives the engine (CR 3): a value, and whether a result left the words on the way. Rests on Values.
-- For contracts only: tied to the calculus by `applied_value` (proofs/Meaning).
use Rattle.std.specs.Prelude.{Bool, false, not, ◌||◌, ℤ}
use Rattle.word.specs.Word.{is_word}
use Rattle.tophat.specs.Syntax.{Op, Val, vnumber}
use Rattle.tophat.proofs.ComputeEvaluation.{kept, exceeds, apply}
use Rattle.value.specs.declared.Value.{Value}
use Rattle.value.specs.declared.Evaluation.{Evaluation}
use Rattle.value.specs.Values.{as_value}

-- none did
abbrev pub sure_of : Value → Evaluation
sure_of v = record { over = false; value = v }

-- one did before, or on the way to e
abbrev pub after_over : Bool → Evaluation → Evaluation
after_over x e = record { over = x || e.over; value = e.value }

-- an exact result, 0 in place of one that is no word
abbrev pub exactly : ℤ → Evaluation
exactly z = record { over = not (is_word z); value = as_value (vnumber (kept z)) }

-- an operator on two values
abbrev pub applied : Op → Val → Val → Evaluation
applied o v w = record { over = exceeds o v w; value = as_value (apply o v w) }
