-- Three choices under a last row 47, grouped one way and the other (CR 5: "Regrouping three choices under a last row 47, from (a, b), c to
-- a, (b, c), gives equal values and failing flags after corresponding touches"): which two sheets are meant, which two of their states and
-- which two touches go together, and what holds of the calls on them. It holds with writes too. The theorem is proofs/Regroup. Rests on
-- Mirrored, on the calculus' Redrawn and Renamed, and on call_definitions.
-- Believed.
use Rattle.std.specs.Prelude.{◌≡◌, Bool, true, ◌⊎◌, List, [], ◌∷◌, ◌++◌, ℕ, ◌<◌, ℤ, length, drop}
use Rattle.std.proofs.Math.Option.{some}
use Rattle.decimal.specs.Path.{Path, max_marks}
use Rattle.tophat.specs.Syntax.{Ty, Code, or, TaskOf, Store}
use Rattle.tophat.specs.Handling.{Action}
use Rattle.tophat.specs.Showing.{Entry}
use Rattle.tophat.specs.Redrawn.{turned, path_in, moved}
use Rattle.tophat.specs.Renamed.{renamed, renamed_task, CellsIn, Apart, Agrees}
use Rattle.formats.specs.Touches.{event_of}
use Rattle.formats.specs.Lists.{list_text, Fits}
use Rattle.rows.specs.GroundNumbers.{not_handled}
use Rattle.call_definitions.specs.Memory.{refusal, LookAnswer}
use Rattle.call_definitions.specs.States.{FlowState, task_state, failed_state}
use Rattle.call_definitions.specs.Answers.{AcceptedFlow, HasRoom, IsRest}
use Rattle.call_definitions.specs.Calls.{start_call, handle_call, look_call}
use Rattle.call_definitions.specs.Touches.{Call, look, handle, run}
use Rattle.mirror.specs.Mirrored.{moved_touch}

-- ---- two sheets

-- of a flag for each cell, the cells whose flag is set
abbrev pub Flagged : (ℕ → Bool) → ℕ → Type 0
Flagged f k = f k ≡ true

-- both are accepted, and the last rows read as 47 (47 a b) c and as 47 a (47 b c), wherever their rows stand
pub record Regroups (rows rows₁ : List ℤ) : Type 0 where
  pub a : Code
  pub b : Code
  pub c : Code
  pub cells : List Ty
  pub type : Ty
  pub flow : AcceptedFlow rows (or (or a b) c) cells type
  -- the cells that stand in both, with all that a, b and c name among them
  pub shared : ℕ → Bool
  pub named : CellsIn (Flagged shared) (or (or a b) c)
  -- where each stands in the second: at a place of its own, with its first content
  pub place : ℕ → ℕ
  pub apart : Apart place (Flagged shared)
  pub cells₁ : List Ty
  pub type₁ : Ty
  pub flow₁ : AcceptedFlow rows₁ (renamed place (or a (or b c))) cells₁ type₁
  pub firsts : Agrees place (Flagged shared) flow.first flow₁.first

-- ---- two looks, where a path of the one is f of it in the other

pub record LooksRegrouped (f : Path → Path) (list : List ℕ) (x y : LookAnswer) : Type 0 where
  pub number : y.number ≡ x.number
  pub has_value : y.has_value ≡ x.has_value
  pub fails : y.fails ≡ x.fails
  pub value : y.value ≡ x.value
  pub refused : (x.number ≡ 0 → ⊥) → y ≡ x
  -- the entries of the one, which can be written at both places
  pub entries : List Entry
  pub fits : Fits 0 entries
  pub fits_regrouped : Fits 0 (moved f entries)
  pub part : x.number ≡ 0 → x.part ≡ list_text entries
  pub part_regrouped : x.number ≡ 0 → y.part ≡ list_text (moved f entries)
  pub list_regrouped : x.number ≡ 0 → y.list ≡ y.part ++ drop (length y.part) list

-- ---- two touches

-- what the second says is what the first says, with its path moved; both may say nothing
abbrev pub Counterpart : (Path → Path) → List ℕ → List ℕ → Type 0
Counterpart f event event₁ = event_of event₁ ≡ moved_touch f (event_of event)

-- the event can be read, and what its path would be is longer than an event can say: there, and back
abbrev pub TooLong : (Path → Path) → List ℕ → Type 0
TooLong f event = (role : ℕ) × (p : Path) × (x : Action) × (event_of event ≡ some (role, p, x)) × (max_marks < length (f p))

abbrev pub TooLongBack : (Path → Path) → List ℕ → Type 0
TooLongBack f event₁ = (role : ℕ) × (q : Path) × (x : Action) × (event_of event₁ ≡ some (role, q, x)) × ((p : Path) → f p ≡ q → max_marks < length p)

module _ {rows rows₁ : List ℤ} (g : Regroups rows rows₁) where
  -- the codes of the two
  abbrev pub code_one : Code
  code_one = or (or g.a g.b) g.c

  abbrev pub code_other : Code
  code_other = or g.a (or g.b g.c)

  -- ---- two states, and where a touch of the one goes in the other: CR 5's marks until a choice is made, then the same

  pub data Corresponds : FlowState → FlowState → (Path → Path) → Type 0 where
    tasks : {t : TaskOf code_one} {s s₁ : Store} → Agrees g.place (Flagged g.shared) s s₁
        → Corresponds (task_state code_one t s) (task_state (renamed g.place code_other) (renamed_task g.place code_other (turned t)) s₁) (path_in t)
    -- CR 3: the start of the one left the range, and so did the other's
    failures : {s s₁ : Store} → Corresponds (failed_state g.type s) (failed_state g.type₁ s₁) (λ p. p)

  pub record Stand (ws ws₁ : List ℤ) : Type 0 where
    pub rest : IsRest rows ws code_one g.cells g.type
    pub rest₁ : IsRest rows₁ ws₁ (renamed g.place code_other) g.cells₁ g.type₁
    pub path : Path → Path
    pub alike : Corresponds rest.state rest₁.state path

  -- ---- two lists of calls that go together

  pub data Together : List ℤ → List ℤ → List Call → List Call → Type 0 where
    no_more : {ws ws₁ : List ℤ} → Together ws ws₁ [] []
    both_look : {ws ws₁ values values₁ : List ℤ} {role role₁ : ℕ} {list list₁ : List ℕ} {ks ks₁ : List Call}
        → Together ws ws₁ ks ks₁ → Together ws ws₁ (look role values list ∷ ks) (look role₁ values₁ list₁ ∷ ks₁)
    both_handle : {ws ws₁ : List ℤ} {event event₁ : List ℕ} {ks ks₁ : List Call} (z : Stand ws ws₁) → Counterpart z.path event event₁
        → Together (handle_call rows ws event).state (handle_call rows₁ ws₁ event₁).state ks ks₁
        → Together ws ws₁ (handle event ∷ ks) (handle event₁ ∷ ks₁)

  -- ---- what is promised

  pub record Regrouped : Type 0 where
    pub types : g.type₁ ≡ g.type
    -- both starts answer 0, with equal strides, and leave states that go together
    pub starts : (memory memory₁ : List ℤ) → HasRoom rows memory → HasRoom rows₁ memory₁
        → ((start_call rows memory).number ≡ 0) × ((start_call rows₁ memory₁).number ≡ 0) × ((start_call rows₁ memory₁).strides ≡ (start_call rows memory).strides)
        × Stand (start_call rows memory).state (start_call rows₁ memory₁).state
    -- every rest of either sheet, whether start reaches it or not, goes together with one of the other
    pub rests : {ws : List ℤ} → IsRest rows ws code_one g.cells g.type → (ws₁ : List ℤ) × Stand ws ws₁
    pub rests_back : {ws₁ : List ℤ} → IsRest rows₁ ws₁ (renamed g.place code_other) g.cells₁ g.type₁ → (ws : List ℤ) × Stand ws ws₁
    -- look, both in one role and lent the same value memory and list memory, whatever these are
    pub looks : {ws ws₁ : List ℤ} (z : Stand ws ws₁) (role : ℕ) (values : List ℤ) (list : List ℕ)
        → LooksRegrouped z.path list (look_call rows ws role values list) (look_call rows₁ ws₁ role values list)
    -- two looks in one role with room for what they answer, each lent memories of its own
    pub shows : {ws ws₁ : List ℤ} (z : Stand ws ws₁) (role : ℕ) (values values₁ : List ℤ) (list list₁ : List ℕ)
        → (look_call rows ws role values list).number ≡ 0 → (look_call rows₁ ws₁ role values₁ list₁).number ≡ 0
        → LooksRegrouped z.path list₁ (look_call rows ws role values list) (look_call rows₁ ws₁ role values₁ list₁)
    -- touches that go together get equal numbers and strides, and leave states that go together
    pub touches : {ws ws₁ : List ℤ} (z : Stand ws ws₁) (event event₁ : List ℕ) → Counterpart z.path event event₁
        → ((handle_call rows₁ ws₁ event₁).number ≡ (handle_call rows ws event).number) × ((handle_call rows₁ ws₁ event₁).strides ≡ (handle_call rows ws event).strides)
        × Stand (handle_call rows ws event).state (handle_call rows₁ ws₁ event₁).state
    -- an event of either sheet has a counterpart, or its path would be too long in the other: then it is refused
    pub there : {ws ws₁ : List ℤ} (z : Stand ws ws₁) (event : List ℕ)
        → ((event₁ : List ℕ) × Counterpart z.path event event₁) ⊎ (TooLong z.path event × (handle_call rows ws event ≡ refusal not_handled ws))
    pub back : {ws ws₁ : List ℤ} (z : Stand ws ws₁) (event₁ : List ℕ)
        → ((event : List ℕ) × Counterpart z.path event event₁) ⊎ (TooLongBack z.path event₁ × (handle_call rows₁ ws₁ event₁ ≡ refusal not_handled ws₁))
    pub runs : {ws ws₁ : List ℤ} {ks ks₁ : List Call} → Stand ws ws₁ → Together ws ws₁ ks ks₁ → Stand (run rows ws ks) (run rows₁ ws₁ ks₁)
