-- A flow drawn another way (CR 5): the parts of a 46 exchanged, and three choices under a 47 regrouped, (a, b), c against a, (b, c). Which
-- task of the one stands for which of the other, and where a touch of the one is made on the other. That they answer alike is in proofs/
-- Mirroring, Regrouping and RegroupingTouches. Rests on Showing.
-- Believed, but for `exchanged`, which the laws on trees name (proofs/Mirroring).
use Rattle.std.specs.Prelude.{List, [], ◌∷◌, map}
use Rattle.decimal.specs.Path.{first, second, Path}
use Rattle.tophat.specs.Syntax.{AndT, both, OrT, either, or_left, or_right}
use Rattle.tophat.specs.Showing.{Entry}

-- ---- mirrored

-- the parts of a 46 exchanged
unfoldable pub exchanged : {A B : Type 0} → AndT A B → AndT B A
exchanged (both t u) = both u t

-- the first mark exchanged
unfoldable pub mirror_path : Path → Path
mirror_path [] = []
mirror_path (first ∷ p) = second ∷ p
mirror_path (second ∷ p) = first ∷ p

-- ---- regrouped

-- a task of (a, b), c as a task of a, (b, c): the same parts are left, in the same order
unfoldable pub turned : {A B C : Type 0} → OrT (OrT A B) C → OrT A (OrT B C)
turned (either (either t u) w) = either t (either u w)
turned (either (or_left t) w) = either t (or_right w)
turned (either (or_right u) w) = or_right (either u w)
turned (or_left (either t u)) = either t (or_left u)
turned (or_left (or_left t)) = or_left t
turned (or_left (or_right u)) = or_right (or_left u)
turned (or_right w) = or_right (or_right w)

-- CR 5: "marks 1 1, 1 2, 2 against 1, 2 1, 2 2"; a lone 1, where no part stands, goes with the lone 2
unfoldable pub rotate : Path → Path
rotate [] = []
rotate (first ∷ []) = second ∷ []
rotate (first ∷ first ∷ p) = first ∷ p
rotate (first ∷ second ∷ p) = second ∷ first ∷ p
rotate (second ∷ p) = second ∷ second ∷ p

-- where a touch of a task goes. CR 5: "until a choice is made, then equal": at most two parts are left then, and their marks are the same
unfoldable pub path_in : {A B C : Type 0} → OrT (OrT A B) C → Path → Path
path_in (either (either t u) w) p = rotate p
path_in (either (or_left t) w) p = p
path_in (either (or_right u) w) p = p
path_in (or_left y) p = p
path_in (or_right w) p = p

-- entries with their paths changed, what they offer kept
abbrev pub moved : (Path → Path) → List Entry → List Entry
moved f = map (λ e. (f e.0, e.1))
