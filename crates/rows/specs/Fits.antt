-- Trees within ground 6 (01: "At most 16 binders .. enclose a row; a binder encloses its B only"): with n binders around it, no part of the
-- tree has more than 16 around it. The same of marks is tophat's MarksFit. Rests on Enclosing's limits and on the calculus' syntax.
-- For contracts only: tied to ground 6 by `code_fits` (proofs/Binders).
use Rattle.std.specs.Prelude.{ℕ, suc, ◌<◌}
use Rattle.tophat.specs.Syntax.{Exp, eunit, etruth, enumber, ebinder, eop, eif, epair, efst, esnd, ederef, eassign, elet}
use Rattle.tophat.specs.Syntax.{Code, edit, enter, update, then, next, fail, and, or, xor, view, gate, if, let'}
use Rattle.rows.specs.Enclosing.{max_binders}

abbrev pub FitsExp : ℕ → Exp → Type 0
FitsExp n eunit = Unit {0}
FitsExp n (etruth b) = Unit {0}
FitsExp n (enumber w) = Unit {0}
FitsExp n (ebinder i) = Unit {0}
FitsExp n (eop o a b) = FitsExp n a × FitsExp n b
FitsExp n (eif c a b) = FitsExp n c × FitsExp n a × FitsExp n b
FitsExp n (epair a b) = FitsExp n a × FitsExp n b
FitsExp n (efst a) = FitsExp n a
FitsExp n (esnd a) = FitsExp n a
FitsExp n (ederef c) = Unit {0}
FitsExp n (eassign c a) = FitsExp n a
FitsExp n (elet a b) = FitsExp n a × (n < max_binders) × FitsExp (suc n) b

abbrev pub FitsCode : ℕ → Code → Type 0
FitsCode n (edit a) = FitsExp n a
FitsCode n (enter τ) = Unit {0}
FitsCode n (update c) = Unit {0}
FitsCode n (then a b) = FitsCode n a × (n < max_binders) × FitsCode (suc n) b
FitsCode n (next a b) = FitsCode n a × (n < max_binders) × FitsCode (suc n) b
FitsCode n (fail τ) = Unit {0}
FitsCode n (and a b) = FitsCode n a × FitsCode n b
FitsCode n (or a b) = FitsCode n a × FitsCode n b
FitsCode n (xor a b) = FitsCode n a × FitsCode n b
FitsCode n (view a) = FitsExp n a
FitsCode n (gate r k b) = FitsCode n b
FitsCode n (if e a b) = FitsExp n e × FitsCode n a × FitsCode n b
FitsCode n (let' e b) = FitsExp n e × (n < max_binders) × FitsCode (suc n) b
