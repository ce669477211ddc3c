-- What a caller learns from an optional value of specs/, as code has it. Rests on Options.
use mathlib.Core.Path.{◌≡◌, refl, sym, ap}
use Rattle.std.specs.Prelude.{Some, None}
use Rattle.std.proofs.Math.Option.{Option as Maybe, none, some}
use Rattle.std.proofs.lemmas.Option.{none-some}
use Rattle.word.specs.Options.{in_code}

pub in_code_none : {X : Type 0} (o : Maybe X) → None ≡ in_code o → o ≡ none
in_code_none none e = refl
in_code_none (some x) e = absurd (none-some x e)

pub in_code_some : {X : Type 0} (o : Maybe X) (x : X) → Some x ≡ in_code o → o ≡ some x
in_code_some none x e = absurd (none-some x (sym e))
in_code_some (some y) x e = let q : x ≡ y = cc in ap some (sym q)
