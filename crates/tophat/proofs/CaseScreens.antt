-- Screens as 01 prints them, and cases: a flow, its cells and its events, with what 01 says of it and what the definitions compute. What is
-- computed has its numbers from the calculus' tables; what 01 says has them as 01 writes them, and is in 01's order. Rests on the Compute files.
use mathlib.Core.Bool.{Bool, true, false, cond}
use mathlib.Core.Option.{Option, none, some}
use mathlib.Core.List.{List, [], ◌∷◌, map}
use Prim.Native.Nat.{ℕ, zero, suc}
use lib.IntN.{ℤ, pos}
use Rattle.decimal.specs.Path.{Mark, first, second, Path}
use Rattle.tophat.specs.Syntax.{Ty, unit, truth, number, pair, Exp, enumber, Code, fail, TaskOf, failed, Val, vnumber, Store}
use Rattle.tophat.specs.Typing.{type_of}
use Rattle.tophat.specs.Leaves.{leaves_of, padded, leaf_number, Given}
use Rattle.tophat.specs.Normalising.{value}
use Rattle.tophat.specs.Roles.{verdict, is}
use Rattle.tophat.specs.Handling.{Button, giving, pressing, act_number, Action, give, press}
use Rattle.tophat.specs.Showing.{Offer, fill, button}
use Rattle.tophat.proofs.ComputeTyping.{infer_task}
use Rattle.tophat.proofs.ComputeEvaluation.{overflows_task}
use Rattle.tophat.proofs.ComputeNormalising.{failing, normalise, settle}
use Rattle.tophat.proofs.ComputeHandling.{Taken, handle}
use Rattle.tophat.proofs.ComputeEntries.{entries}

-- path, action, leaf kinds
pub data Line : Type 0 where
  line : List ℕ → ℕ → List ℕ → Line

-- answer, strides, failing, value flag, leaves, entries
pub data Screen : Type 0 where
  screen : ℕ → ℕ → ℕ → ℕ → List ℤ → List Line → Screen

unfoldable pub digit : Mark → ℕ
digit first = 1
digit second = 2

unfoldable pub line_of : Path → Offer → Line
line_of p (fill ks) = line (map digit p) (act_number giving) (map leaf_number ks)
line_of p (button b) = line (map digit p) (act_number (pressing b)) (padded 0 [])

unfoldable pub flag : Bool → ℕ
flag true = 1
flag false = 0

unfoldable pub value_flag : Option Val → ℕ
value_flag none = 0
value_flag (some v) = 1

unfoldable pub value_leaves : Option Val → List ℤ
value_leaves none = padded (pos 0) []
value_leaves (some v) = padded (pos 0) (leaves_of v)

-- as the role sees it
unfoldable pub screen_of : (c : Code) → ℕ → ℕ → ℕ → TaskOf c → Store → Screen
screen_of c role answer n t s =
    screen answer n (flag (failing c [] s t)) (value_flag (value c t s)) (value_leaves (value c t s)) (map (λ e. line_of e.0 e.1) (entries (is role) c [] s t))

-- an event: a role, a path and an action
abbrev pub Touch : Type 0
Touch = ℕ × Path × Action

-- A case: a flow, its cells and its events; and what 01 says of it: its type, the screens after start and after each event,
-- and the cells in the end.
pub record Case : Type 0 where
  pub flow : Code
  pub cells : Store
  pub events : List Touch
  pub type : Option Ty
  pub shown : List Screen
  pub kept : Store

abbrev pub Outcome : Type 0
Outcome = Option Ty × List Screen × Store

unfoldable pub expected : Case → Outcome
expected k = (k.type, k.shown, k.kept)

-- answer, strides, task and store after an event that a rule takes, or none does
unfoldable pub unless_refused : (c : Code) → TaskOf c → Store → ℕ → TaskOf c → Store → ℕ × ℕ × TaskOf c × Store
unless_refused c t s zero t₁ s₁ = let (t₂, s₂, n) = normalise c [] s₁ t₁ in (0, n, t₂, s₂)
unless_refused c t s (suc n) t₁ s₁ = (suc n, 0, t, s)

unfoldable pub taken : (c : Code) → TaskOf c → Store → ℕ → Option (Taken (TaskOf c)) → ℕ × ℕ × TaskOf c × Store
taken c t s role none = (9, 0, t, s)
taken c t s role (some q) = unless_refused c t s (verdict role q.2) q.0 q.1

-- the screen after an answer, in a role, and those of the events after it, each in its own
unfoldable pub screens : (c : Code) → ℕ → ℕ × ℕ × TaskOf c × Store → List Touch → List Screen × Store
screens c role (answer, n, t, s) [] = (screen_of c role answer n t s ∷ [], s)
screens c role (answer, n, t, s) ((r, p, x) ∷ xs) =
    let (ss, s₁) = screens c r (taken c t s r (handle c [] s t p x)) xs in
    (screen_of c role answer n t s ∷ ss, s₁)

-- 45 of the flow's type, where the start leaves the words (CR 3)
unfoldable pub failed_whole : Option Ty → Store → List Touch → List Screen × Store
failed_whole none s xs = ([], s)
failed_whole (some τ) s xs = screens (fail τ) 1 (0, 1, failed, s) xs

unfoldable pub computed : Case → Outcome
computed k =
    let c = k.flow in
    let type = infer_task (map type_of k.cells) [] c in
    let (t, s, n) = settle c [] k.cells in
    let (ss, s₁) = cond (overflows_task c [] k.cells) (failed_whole type k.cells k.events) (screens c 1 (0, n, t, s) k.events) in
    (type, ss, s₁)

-- numbers in flows, cells and events, and as the first of the leaves
abbrev pub num : ℕ → Exp
num n = enumber (pos n)

abbrev pub cell : ℕ → Store
cell n = vnumber (pos n) ∷ []

abbrev pub single : ℤ → List ℤ
single n = padded (pos 0) (n ∷ [])

-- a number given, the other leaves 0 or blank
abbrev pub giving1 : ℕ → Action
giving1 n = give (padded (some (pos 0)) (some (pos n) ∷ []))

abbrev pub giving_blank : List Given → Action
giving_blank ls = give (padded none ls)

-- events of role 1
abbrev pub pressed : Button → Touch
pressed b = (1, [], press b)

abbrev pub at : Path → Action → Touch
at p x = (1, p, x)

abbrev pub value1 : ℕ → Touch
value1 n = at [] (giving1 n)

-- the entry of an editor of one leaf of this kind at a path, of numbers; and a button's at the empty path
abbrev pub editor_of : ℕ → List ℕ → Line
editor_of k p = line p 1 (padded 0 (k ∷ []))

abbrev pub editor : List ℕ → Line
editor p = editor_of 3 p

abbrev pub button_line : ℕ → Line
button_line n = line [] n (padded 0 [])

-- a type of 8 leaves (CR 4), the entry of its editor at a path, and leaves given to it: its first unit and the last leaf, and others that fit
abbrev pub eight : Ty
eight = let four = pair (pair (pair number truth) unit) number in pair four four

abbrev pub eight_line : List ℕ → Line
eight_line p = line p 1 (3 ∷ 2 ∷ 1 ∷ 3 ∷ 3 ∷ 2 ∷ 1 ∷ 3 ∷ [])

abbrev pub giving_eight : ℕ → Given → Action
giving_eight u l = give (some (pos 11) ∷ some (pos 1) ∷ some (pos u) ∷ some (pos 14) ∷ some (pos 15) ∷ some (pos 0) ∷ some (pos 0) ∷ l ∷ [])

-- as many leaves as a screen has, without a value
abbrev pub no_leaves : List ℤ
no_leaves = pos 0 ∷ pos 0 ∷ pos 0 ∷ pos 0 ∷ pos 0 ∷ pos 0 ∷ pos 0 ∷ pos 0 ∷ []
