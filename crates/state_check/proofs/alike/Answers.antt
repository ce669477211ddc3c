-- The first m words are the same where those parts are.
use mathlib.Core.Path.{◌≡◌, sym, ap, ◌∙◌}
use mathlib.Core.Bool.{Bool}
use mathlib.Core.List.{List}
use Prim.Native.Nat.{ℕ, ◌≤◌, ◌<◌}
use native.Mathlib.Omega.{arith}
use lib.ListN.{length, get_or, take}
use Rattle.std.proofs.Common.{get_or-take}
use lib.Seq.{ext_get_or, length-take-le}
use Rattle.std.specs.Bool.{Decides as DecidesBoth}
use Rattle.std.proofs.lemmas.Slice.Eq.{slice_eq-Decides}
use Rattle.std.proofs.lemmas.Bool.Decides.{Decides-eqb, not_from_Decides}
use Rattle.word.specs.Decides.{Decides}
use Rattle.state_check.specs.States.{Alike}
use Rattle.state_check.proofs.alike.Goals as goal

taken_alike : (x y : List ℕ) (m : ℕ) → take m x ≡ take m y → Alike x y m
taken_alike x y m e j l = sym (get_or-take m x j 0 l) ∙ ap (λ z. get_or z j 0) e ∙ get_or-take m y j 0 l

alike_taken : (x y : List ℕ) (m : ℕ) → m ≤ length x → m ≤ length y → Alike x y m → take m x ≡ take m y
alike_taken x y m p q h =
    let a = length-take-le m x p in
    let b = length-take-le m y q in
    ext_get_or 0 (take m x) (take m y) (a ∙ sym b) (λ j l. let k : j < m = omega arith in get_or-take m x j 0 k ∙ h j k ∙ sym (get_or-take m y j 0 k))

decided : (x y : List ℕ) (m : ℕ) (r : Bool) → m ≤ length x → m ≤ length y → DecidesBoth r (take m x ≡ take m y) → Decides r (Alike x y m)
decided x y m r p q d = record { yes = λ e. taken_alike x y m (d.0 e); no = λ e h. not_from_Decides r d e (alike_taken x y m p q h) }

pub returns : goal.returns
returns c =
    let x = c.args.x.now in
    let y = c.args.y.now in
    decided x y c.args.m c.eq.result c.requires.0 c.requires.1 (slice_eq-Decides Decides-eqb (take c.args.m x) (take c.args.m y) c.eq.result c.eq.ensures)
