-- Roles and touches (CR 6): the rows of kind 50 that an event passes, and whom they let touch what is below them. Rests on nothing.
-- Believed, but for `verdict`: for contracts only, tied to `admits` by `verdict_admits` (proofs/Admitted).
use Rattle.std.specs.Prelude.{Bool, true, ◌&&◌, cond, List, [], ◌∷◌, ℕ, ◌≤◌, eqb, leb, ltb}

-- CR 6: "for role A (1 to 8)"
abbrev pub max_role : ℕ
max_role = 8

abbrev pub IsRole : ℕ → Type 0
IsRole r = (1 ≤ r) × (r ≤ max_role)

unfoldable pub is_role : ℕ → Bool
is_role r = leb 1 r && leb r max_role

-- CR 6: "with C touches (0 to 99)"
abbrev pub max_touches : ℕ
max_touches = 99

-- a row of kind 50 that an event passes: its role, and the touches that it has left
abbrev pub Gate : Type 0
Gate = ℕ × ℕ

-- ---- what the rows passed say to an event of a role

-- CR 6: "30 if a rule derives a step but a row passed has another role, 31 if only the touches are spent"
abbrev pub other_role : ℕ
other_role = 30

abbrev pub no_touch : ℕ
no_touch = 31

-- all of them have the role
unfoldable pub of_role : ℕ → List Gate → Bool
of_role r [] = true
of_role r (g ∷ gs) = eqb r g.0 && of_role r gs

-- all of them have a touch left
unfoldable pub touches_left : List Gate → Bool
touches_left [] = true
touches_left (g ∷ gs) = ltb 0 g.1 && touches_left gs

-- 0 where the event may be taken. CR 6: "both after 9 and in this order"
unfoldable pub verdict : ℕ → List Gate → ℕ
verdict r gs = cond (of_role r gs) (cond (touches_left gs) 0 no_touch) other_role

-- ---- who may touch: a role, or anyone, whom no row of kind 50 keeps out

pub data Who : Type 0 where
  anyone : Who
  is : ℕ → Who

-- a row of kind 50 lets them touch what is below it
unfoldable pub opens : Who → Gate → Bool
opens anyone g = true
opens (is r) g = eqb r g.0 && ltb 0 g.1

-- all of them do
unfoldable pub admits : Who → List Gate → Bool
admits w [] = true
admits w (g ∷ gs) = opens w g && admits w gs
