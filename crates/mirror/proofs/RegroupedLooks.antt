-- Looks at three choices grouped one way and the other, in two states that go together, with any role, value memory and list memory: equal
-- numbers, flags and values, and a list whose entries are those of the one with their paths moved, in the same order. Rests on
-- RegroupedStates and on call_definitions' Opening and Grounds.
use mathlib.Core.Path.{◌≡◌, refl, sym, ap, subst, ◌∙◌}
use mathlib.Core.Bool.{Bool, true, false, cond}
use mathlib.Core.Option.{Option}
use mathlib.Core.List.{List, [], ◌++◌}
use Prim.Native.Nat.{ℕ, ◌*◌}
use native.Mathlib.Omega.{arith}
use lib.Dec.{leb, eqb}
use lib.IntN.{ℤ}
use lib.ListN.{length, drop, length-map}
use Rattle.decimal.specs.Path.{Path}
use Rattle.tophat.specs.Syntax.{max_leaves, Ty, Code, Val}
use Rattle.tophat.specs.Normalising.{value}
use Rattle.tophat.specs.Showing.{Entry}
use Rattle.tophat.specs.Redrawn.{moved}
use Rattle.tophat.proofs.ComputeNormalising.{failing}
use Rattle.tophat.proofs.ComputeEntries.{entries}
use Rattle.tophat.specs.Typing.{small_nil}
use Rattle.tophat.specs.Roles.{is_role, Who, is}
use Rattle.formats.specs.Touches.{entry_bytes}
use Rattle.formats.specs.Lists.{list_text, Fits, fit_none}
use Rattle.formats.proofs.EntriesFit.{entries_fit}
use Rattle.rows.proofs.Basics.{no}
use Rattle.rows.proofs.CellsAt.{cells_small}
use Rattle.rows.specs.GroundNumbers.{event_not_read, wrong_memory, list_too_short}
use Rattle.call_definitions.specs.Memory.{LookAnswer, look_refusal, flag, value_memory, has_one}
use Rattle.call_definitions.specs.States.{FlowState, value_in}
use Rattle.call_definitions.specs.Answers.{AcceptedFlow, IsRest}
use Rattle.call_definitions.specs.Calls.{refused_by, rest_of, opened, look_rest, look_in, look_call}
use Rattle.call_definitions.proofs.Opening.{opens, state_typed, state_marks}
use Rattle.call_definitions.proofs.Grounds.{opened_misfit}
use Rattle.mirror.specs.Regrouped.{Regroups, Corresponds, tasks, failures, Stand, LooksRegrouped}
use Rattle.mirror.proofs.RegroupedStates.{value_same, failing_same, entries_moved}

-- ---- one flow: a rest is opened where the value memory fits

opened_rest : {rows ws : List ℤ} {c : Code} {Σ : List Ty} {τ : Ty} → AcceptedFlow rows c Σ τ → (r : IsRest rows ws c Σ τ)
    → (b : Bool) → opened rows ws b ≡ cond b (rest_of r.state) (refused_by wrong_memory)
opened_rest a r true = opens a r.writes r.still
opened_rest {rows} {ws} a r false = opened_misfit rows ws false a.loads (λ m f. no f)

-- its entries can be written
shown_fit : {rows ws : List ℤ} {c : Code} {Σ : List Ty} {τ : Ty} (a : AcceptedFlow rows c Σ τ) (r : IsRest rows ws c Σ τ) (w : Who)
    → Fits 0 (entries w r.state.code [] r.state.store r.state.task)
shown_fit a r w = let (k, h) = state_typed a r.writes in entries_fit w (cells_small a.flow.cells) h 0 [] k small_nil (omega arith) (state_marks a r.writes)

-- an accepted look's answer, lent another list memory
abbrev relent : List ℕ → LookAnswer → LookAnswer
relent list x = record {
  number = x.number;
  has_value = x.has_value;
  fails = x.fails;
  value = x.value;
  part = x.part;
  list = x.part ++ drop (length x.part) list;
}

-- what it answers where it is accepted rests on the state alone
module _ (role : ℕ) (values values₁ : List ℤ) (list list₁ : List ℕ) (y : FlowState) where
  abbrev lent : List ℤ → List ℕ → Bool → LookAnswer
  lent values list b = look_in role values list (cond b (rest_of y) (refused_by wrong_memory))

  by_rooms : (room room₁ : Bool) (z : LookAnswer) → (cond room z (look_refusal list_too_short values list)).number ≡ 0
      → (cond room₁ (relent list₁ z) (look_refusal list_too_short values₁ list₁)).number ≡ 0
      → cond room₁ (relent list₁ z) (look_refusal list_too_short values₁ list₁) ≡ relent list₁ (cond room z (look_refusal list_too_short values list))
  by_rooms true true z e k = refl
  by_rooms true false z e k = absurd (omega (arith, k))
  by_rooms false room₁ z e k = absurd (omega (arith, e))

  -- in a role of 1 to 8, or not
  by_roles : (i : Bool) → (cond i (look_rest role values list y) (look_refusal event_not_read values list)).number ≡ 0
      → (cond i (look_rest role values₁ list₁ y) (look_refusal event_not_read values₁ list₁)).number ≡ 0
      → cond i (look_rest role values₁ list₁ y) (look_refusal event_not_read values₁ list₁) ≡ relent list₁ (cond i (look_rest role values list y) (look_refusal event_not_read values list))
  unfolding look_rest
  by_roles true e k = by_rooms (leb _ (length list)) (leb _ (length list₁)) _ e k
  by_roles false e k = absurd (omega (arith, e))

  by_fits : (b b₁ : Bool) → (lent values list b).number ≡ 0 → (lent values₁ list₁ b₁).number ≡ 0 → lent values₁ list₁ b₁ ≡ relent list₁ (lent values list b)
  unfolding look_in
  by_fits true true e k = by_roles (is_role role) e k
  by_fits true false e k = absurd (omega (arith, k))
  by_fits false b₁ e k = absurd (omega (arith, e))

look_relent : {rows ws : List ℤ} {c : Code} {Σ : List Ty} {τ : Ty} → AcceptedFlow rows c Σ τ → IsRest rows ws c Σ τ
    → (role : ℕ) (values values₁ : List ℤ) (list list₁ : List ℕ) → (look_call rows ws role values list).number ≡ 0 → (look_call rows ws role values₁ list₁).number ≡ 0
    → look_call rows ws role values₁ list₁ ≡ relent list₁ (look_call rows ws role values list)
unfolding look_call
look_relent a r role values values₁ list list₁ e k =
    let b = eqb (length values) max_leaves in
    let b₁ = eqb (length values₁) max_leaves in
    let h = ap (look_in role values list) (opened_rest a r b) in
    let h₁ = ap (look_in role values₁ list₁) (opened_rest a r b₁) in
    h₁ ∙ by_fits role values values₁ list list₁ r.state b b₁ (sym (ap (λ x. x.number) h) ∙ e) (sym (ap (λ x. x.number) h₁) ∙ k)
    ∙ sym (ap (relent list₁) h)

-- ---- both

module _ {rows rows₁ : List ℤ} (g : Regroups rows rows₁) where
  -- what look asks of a state
  record SeenAlike (f : Path → Path) (y y₁ : FlowState) : Type 0 where
    shown : (w : Who) → entries w y₁.code [] y₁.store y₁.task ≡ moved f (entries w y.code [] y.store y.task)
    fails : failing y₁.code [] y₁.store y₁.task ≡ failing y.code [] y.store y.task
    value : value_in y₁ ≡ value_in y

  seen_alike : {y y₁ : FlowState} {f : Path → Path} → Corresponds g y y₁ f → SeenAlike f y y₁
  unfolding entries failing value
  seen_alike (tasks {t} k) = record { shown = entries_moved g k t; fails = failing_same g k t; value = value_same g k t }
  seen_alike failures = record { shown = λ w. refl; fails = refl; value = refl }

  module _ (f : Path → Path) (role : ℕ) (values : List ℤ) (list : List ℕ) where
    -- what a look answers where the list memory has room, and where it has not
    abbrev seen : Bool → List Entry → Bool → Option Val → LookAnswer
    seen room es x v = cond room (record {
      number = 0;
      has_value = has_one v;
      fails = flag x;
      value = value_memory v;
      part = list_text es;
      list = list_text es ++ drop (length (list_text es)) list;
    }) (look_refusal list_too_short values list)

    abbrev room_for : List Entry → Bool
    room_for es = leb (length es * entry_bytes) (length list)

    both_refused : (n : ℕ) → (n ≡ 0 → ⊥) → LooksRegrouped f list (look_refusal n values list) (look_refusal n values list)
    both_refused n h = record {
      number = refl;
      has_value = refl;
      fails = refl;
      value = refl;
      refused = λ k. refl;
      entries = [];
      fits = fit_none;
      fits_regrouped = fit_none;
      part = λ e. absurd (h e);
      part_regrouped = λ e. absurd (h e);
      list_regrouped = λ e. absurd (h e);
    }

    by_room : (room : Bool) (es : List Entry) (x : Bool) (v : Option Val) → Fits 0 es → Fits 0 (moved f es)
        → LooksRegrouped f list (seen room es x v) (seen room (moved f es) x v)
    by_room true es x v p q = record {
      number = refl;
      has_value = refl;
      fails = refl;
      value = refl;
      refused = λ k. absurd (k refl);
      entries = es;
      fits = p;
      fits_regrouped = q;
      part = λ e. refl;
      part_regrouped = λ e. refl;
      list_regrouped = λ e. refl;
    }
    by_room false es x v p q = both_refused list_too_short (λ e. omega (arith, e))

    -- as many entries need as much room
    by_entries : (es : List Entry) (x : Bool) (v : Option Val) → Fits 0 es → Fits 0 (moved f es)
        → LooksRegrouped f list (seen (room_for es) es x v) (seen (room_for (moved f es)) (moved f es) x v)
    by_entries es x v p q = subst
        (λ n. LooksRegrouped f list (seen (room_for es) es x v) (seen (leb (n * entry_bytes) (length list)) (moved f es) x v))
        (sym (length-map es (λ e. (f e.0, e.1)))) (by_room (room_for es) es x v p q)

    by_seen : (y y₁ : FlowState) → SeenAlike f y y₁ → Fits 0 (entries (is role) y.code [] y.store y.task) → Fits 0 (entries (is role) y₁.code [] y₁.store y₁.task)
        → LooksRegrouped f list (look_rest role values list y) (look_rest role values list y₁)
    unfolding look_rest
    by_seen y y₁ k p q =
        let es = entries (is role) y.code [] y.store y.task in
        let x = failing y.code [] y.store y.task in
        let e : look_rest role values list y₁ ≡ seen (room_for (moved f es)) (moved f es) x (value_in y) =
        (λ j. seen (room_for (k.shown (is role) j)) (k.shown (is role) j) (k.fails j) (k.value j)) in
        subst (LooksRegrouped f list (look_rest role values list y)) (sym e) (by_entries es x (value_in y) p (subst (Fits 0) (k.shown (is role)) q))

    -- in a role of 1 to 8, or not
    by_role : (i : Bool) {x x₁ : LookAnswer} → LooksRegrouped f list x x₁
        → LooksRegrouped f list (cond i x (look_refusal event_not_read values list)) (cond i x₁ (look_refusal event_not_read values list))
    by_role true k = k
    by_role false k = both_refused event_not_read (λ e. omega (arith, e))

  module _ {ws ws₁ : List ℤ} (z : Stand g ws ws₁) (role : ℕ) (values : List ℤ) (list : List ℕ) where
    by_fit : (b : Bool) → LooksRegrouped z.path list (look_in role values list (cond b (rest_of z.rest.state) (refused_by wrong_memory)))
        (look_in role values list (cond b (rest_of z.rest₁.state) (refused_by wrong_memory)))
    unfolding look_in
    by_fit true = by_role z.path role values list (is_role role) (by_seen z.path role values list z.rest.state z.rest₁.state (seen_alike z.alike) (shown_fit g.flow z.rest (is role)) (shown_fit g.flow₁ z.rest₁ (is role)))
    by_fit false = both_refused z.path role values list wrong_memory (λ e. omega (arith, e))

    pub looks_together : LooksRegrouped z.path list (look_call rows ws role values list) (look_call rows₁ ws₁ role values list)
    unfolding look_call
    looks_together =
        let b = eqb (length values) max_leaves in
        subst (λ x. LooksRegrouped z.path list x (look_call rows₁ ws₁ role values list))
        (sym (ap (look_in role values list) (opened_rest g.flow z.rest b)))
        (subst (LooksRegrouped z.path list (look_in role values list (cond b (rest_of z.rest.state) (refused_by wrong_memory))))
        (sym (ap (look_in role values list) (opened_rest g.flow₁ z.rest₁ b))) (by_fit b))

  -- two accepted looks, each lent memories of its own
  pub shows_together : {ws ws₁ : List ℤ} (z : Stand g ws ws₁) (role : ℕ) (values values₁ : List ℤ) (list list₁ : List ℕ)
      → (look_call rows ws role values list).number ≡ 0 → (look_call rows₁ ws₁ role values₁ list₁).number ≡ 0
      → LooksRegrouped z.path list₁ (look_call rows ws role values list) (look_call rows₁ ws₁ role values₁ list₁)
  shows_together {ws} {ws₁} z role values values₁ list list₁ e k =
      let l = looks_together z role values list in
      let h = look_relent g.flow₁ z.rest₁ role values values₁ list list₁ (l.number ∙ e) k in
      subst (LooksRegrouped z.path list₁ (look_call rows ws role values list)) (sym h) (record {
        number = l.number;
        has_value = l.has_value;
        fails = l.fails;
        value = l.value;
        refused = λ n. absurd (n e);
        entries = l.entries;
        fits = l.fits;
        fits_regrouped = l.fits_regrouped;
        part = l.part;
        part_regrouped = l.part_regrouped;
        list_regrouped = λ n. refl;
      })
