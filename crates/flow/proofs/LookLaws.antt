-- `look` and the functions below it, each way out. Rests on SiteLaws, on the contract of `entries` and on formats' laws of lists.
use mathlib.Core.Path.{◌≡◌, refl, sym, ap, ap₂, subst, ◌∙◌}
use mathlib.Core.Bool.{Bool, true, false}
use mathlib.Core.Option.{Option, none, some}
use mathlib.Core.List.{List, [], ◌++◌, map, append-nil}
use Prim.Native.Nat.{ℕ, zero, suc, ◌*◌, ◌-◌, ◌≤◌}
use native.Mathlib.Omega.{arith}
use borrow.Author.Tests.{le-leb, leb-true, eqb-true, eqb-false}
use borrow.Table.Steps.{cases}
use lib.Dec.{leb, eqb}
use lib.IntN.{ℤ}
use lib.ListN.{length, take, drop, length-append, drop_of_length-le}
use lib.Seq.{take_at, length-take-le}
use mir.Syntax.{w32}
use mir.Val.{to_z}
use Rattle.word.specs.Laid.{laid}
use Rattle.word.proofs.Laid.{laid_front}
use Rattle.decimal.specs.Path.{path_of}
use Rattle.tophat.specs.Syntax.{max_leaves, Ty, Code, Val, TaskOf, Store}
use Rattle.tophat.specs.Typing.{small_nil}
use Rattle.tophat.specs.Normalising.{value}
use Rattle.tophat.proofs.Basics.{apart}
use Rattle.tophat.proofs.ComputeNormalising.{failing}
use Rattle.tophat.proofs.ComputeEntries.{entries}
use Rattle.tophat.proofs.EntriesQuiet.{failing_empty}
use Rattle.tophat.proofs.Preservation.{OptionType, o_some, value_type}
use Rattle.std.specs.Prelude.{Result, Ok, Err}
use Rattle.std.specs.Result.{ResultUnwrapsOrElse}
use Rattle.std.specs.Int.{from_bool}
use Rattle.rows.specs.declared.ground.Ground.{Ground}
use Rattle.rows.specs.declared.ground.Ground.TheVariants.{EventNotRead, ListTooShort}
use Rattle.rows.specs.GroundNumbers.{number_of_ground, answer_number}
use Rattle.value.specs.Values.{as_value, no_value}
use Rattle.std.specs.Option.{is_some, unwrap_or}
use Rattle.value.specs.Found.{Found, as_found}
use Rattle.value.proofs.Meaning.{leaves_back}
use Rattle.state.specs.Ensured.{ValueOk}
use Rattle.tophat.specs.Roles.{is_role, is}
use Rattle.formats.specs.Touches.{entry_bytes}
use Rattle.formats.specs.Lists.{list_text}
use Rattle.formats.proofs.EntriesFit.{entries_bytes, bytes_most}
use Rattle.entries.specs.Listing.{who_of, Counted, EntriesOk}
use Rattle.entries.proofs.Bounds.{entries_counted}
use Rattle.flow.specs.declared.look.Looked.{Looked}
use Rattle.flow.specs.declared.open.Rest.{Rest}
use Rattle.flow.specs.declared.open.Rest.TheVariants.{Task, Failed}
use Rattle.call_definitions.specs.Memory.{LookAnswer, look_refusal, flag, value_memory, has_one}
use Rattle.call_definitions.specs.States.{FlowState}
use Rattle.call_definitions.specs.Calls.{Opened, refused_by, rest_of, opened, look_rest, look_in, look_call}
use Rattle.flow.specs.Opens.{Ready, OpensTo, Opens, OpenOk}
use Rattle.flow.specs.Looks.{shown, Filled, FailsOk, RoomOk, ShowOk, ShowFailedOk, LookOk}
use Rattle.flow.proofs.SiteLaws.{sits, around, small, marks, tasks_rows, few_tasks, ready_writing}
use Rattle.flow.proofs.OpenLaws.{opened_ready, opened_failed, opened_fits}

-- ---- the value

value_back : {τ : Ty} (o : Option Val) → OptionType o τ → map (to_z w32) (unwrap_or (as_found o) no_value).leaves ≡ value_memory o
unfolding as_found as_value value_memory
value_back none h = refl
value_back (some v) (o_some h) = leaves_back h

value_flag : (o : Option Val) → flag (is_some (as_found o)) ≡ has_one o
unfolding as_found has_one
value_flag none = refl
value_flag (some v) = refl

laid_all : (from : List ℕ) (to : List ℤ) → length from ≡ length to → laid (to_z w32) from to ≡ map (to_z w32) from
laid_all from to e =
    laid_front (to_z w32) from to (omega (arith, e))
    ∙ ap (λ l. map (to_z w32) from ++ l) (drop_of_length-le to {i = length from} (omega (arith, e)))
    ∙ append-nil (map (to_z w32) from)

-- ---- an opened rest

-- whom a role's number stands for
who_role : (role : ℕ) → is_role role ≡ true → who_of role ≡ is role
unfolding is_role who_of
who_role zero h = apart h refl
who_role (suc n) h = refl

refused_filled : (g : Ground) (vs : List ℤ) (list : List ℕ) → Filled (look_refusal (number_of_ground g) vs list) (Err g) vs list
refused_filled g vs list = record { number = refl; has_value = refl; fails = refl; bytes = refl; value = refl; list = refl }

module _ (role : ℕ) (own words : List ℕ) (n : ℕ) where
  -- ---- room

  module _ {rows ws : List ℤ} {c : Code} {t : TaskOf c} {s : Store} (x : Ready rows ws own words n c t s) where
    text_long : length (list_text (entries (is role) c [] s t)) ≡ length (entries (is role) c [] s t) * entry_bytes
    text_long = entries_bytes (is role) (small x.site) x.writes.stored x.writes.typed (marks x.site)

    -- an entry a row is enough
    text_most : length (list_text (entries (is role) c [] s t)) ≤ n * entry_bytes
    text_most = let b = bytes_most (is role) (small x.site) x.writes.stored x.writes.typed (marks x.site) in let l = tasks_rows x.site in omega (arith, b, l)

  pub room_enough : (room : ℕ) → n * entry_bytes ≤ room → RoomOk own words n role room true
  room_enough room h rows ws c t s x i =
      let e = text_long x in
      let b = text_most x in
      sym (le-leb (length (entries (is role) c [] s t) * entry_bytes) room (omega (arith, e, b, h)))

  -- ---- what `entries` gives, lent some list
  module _ {env list list₁ : List ℕ} {bytes : ℕ} (f : EntriesOk (who_of role) own words (n - 1) env 0 (path_of 0) list list₁ bytes) where
    module _ {rows ws : List ℤ} {c : Code} {t : TaskOf c} {s : Store} (x : Ready rows ws own words n c t s) (i : is_role role ≡ true) where
      listed : Counted list list₁ bytes (list_text (entries (is role) c [] s t))
      listed =
          let v = ready_writing x in
          entries_counted (is role) (subst (λ w. EntriesOk w own words (n - 1) env 0 (path_of 0) list list₁ bytes) (who_role role i) f) c (sits x.site) (marks x.site) x.cells x.type s t x.writes.typed (around x.site v.stores x.writes.stored) v.holds (few_tasks x.site)

      counted : bytes ≡ length (entries (is role) c [] s t) * entry_bytes
      counted = listed.count ∙ text_long x

      -- the failing flag: a task that fails shows no entry
      fails_is : (b : Bool) → FailsOk own words (n - 1) bytes b → b ≡ failing c [] s t
      fails_is b h = cases (eqb bytes 0)
          (λ y. let v = ready_writing x in h.0 (eqb-true bytes 0 y) c (sits x.site) x.cells [] x.type s [] t x.writes.typed (around x.site v.stores x.writes.stored) v.holds)
          (λ y. h.1 (eqb-false bytes 0 y) ∙ sym (cases (failing c [] s t)
          (λ u. let z = ap length (failing_empty (is role) c [] s t u) in let e = counted in absurd (eqb-false bytes 0 y (omega (arith, z, e))))
          (λ u. u)))

    pub room_counted : (room : ℕ) → RoomOk own words n role room (leb bytes room)
    room_counted room rows ws c t s x i = ap (λ k. leb k room) (counted x i)

  -- ---- by whether there is room

  module _ (vs : List ℤ) (list : List ℕ) (has : Bool) (room : RoomOk own words n role (length list) has) where
    -- ground 24
    pub show_24 : has ≡ false → ShowOk own words n role vs list (Err ListTooShort) vs list
    unfolding look_rest
    show_24 z rows ws c t s x e i = let b = sym (room rows ws c t s x i) ∙ z in rw b (refused_filled ListTooShort vs list)

    module _ (z : has ≡ true) {env list₁ : List ℕ} {bytes : ℕ} (f : EntriesOk (who_of role) own words (n - 1) env 0 (path_of 0) list list₁ bytes) (found : Found) (v : ValueOk own words (n - 1) found)
        (long : length (unwrap_or found no_value).leaves ≡ max_leaves) where
      pub show_0 : {vs₁ : List ℤ} {valued b : Bool} → FailsOk own words (n - 1) bytes b → valued ≡ is_some found → vs₁ ≡ laid (to_z w32) (unwrap_or found no_value).leaves vs
          → ShowOk own words n role vs list (Ok (record { valued = valued; fails = b; bytes = bytes })) vs₁ list₁
      unfolding look_rest
      show_0 {b = b} fb q u rows ws c t s x e i =
          let w = ready_writing x in
          let d : found ≡ as_found (value c t s) = v 0 c (sits x.site) x.cells [] x.type s t x.writes.typed x.writes.stored (small x.site) small_nil w.holds w.stores in
          let y = listed f x i in
          let l = text_long x in
          let o : leb (length (entries (is role) c [] s t) * entry_bytes) (length list) ≡ true = sym (room rows ws c t s x i) ∙ z in
          let g = leb-true (length (entries (is role) c [] s t) * entry_bytes) (length list) o in
          rw o (record {
            number = refl;
            has_value = ap flag q ∙ ap (λ r. flag (is_some r)) d ∙ value_flag (value c t s);
            fails = ap flag (fails_is f x i b fb);
            bytes = y.count;
            value = u ∙ laid_all (unwrap_or found no_value).leaves vs (long ∙ sym e) ∙ ap (λ r. map (to_z w32) (unwrap_or r no_value).leaves) d ∙ value_back (value c t s) (value_type x.writes.typed x.writes.stored);
            list = y.fits (omega (arith, l, g));
          })

-- a last row that failed as a whole
pub show_failed : (vs vs₁ : List ℤ) → vs₁ ≡ laid (to_z w32) no_value.leaves vs → ShowFailedOk vs (record { valued = false; fails = true; bytes = 0 }) vs₁
unfolding look_rest entries failing value has_one list_text value_memory
show_failed vs vs₁ e role τ s list l =
    let b : leb (0 * entry_bytes) (length list) ≡ true = le-leb (0 * entry_bytes) (length list) (omega arith) in
    rw b (record { number = refl; has_value = refl; fails = refl; bytes = refl; value = e ∙ laid_all no_value.leaves vs (sym l); list = refl })

-- ---- what `open` leaves

module _ (rows ws : List ℤ) (role : ℕ) (vs : List ℤ) (list own words : List ℕ) where
  pub fill_shut : (g : Ground) → OpenOk rows ws (eqb (length vs) max_leaves) own words (Err g) → Filled (look_call rows ws role vs list) (Err g) vs list
  unfolding look_call look_in
  fill_shut g h = by (opened rows ws (eqb (length vs) max_leaves)) h
    where
      by : (o : Opened) → Opens rows ws own words (Err g) o → Filled (look_in role vs list o) (Err g) vs list
      by (refused_by k) x = record { number = x; has_value = refl; fails = refl; bytes = refl; value = refl; list = refl }
      by (rest_of q) x = absurd x

  module _ (r : Rest) (h : OpenOk rows ws (eqb (length vs) max_leaves) own words (Ok r)) where
    -- a rest is opened
    by_rest : {a : Result Looked Ground} {vs₁ : List ℤ} {list₁ : List ℕ} → ((q : FlowState) → OpensTo rows ws own words r q → length vs ≡ max_leaves → Filled (look_in role vs list (rest_of q)) a vs₁ list₁)
        → Filled (look_call rows ws role vs list) a vs₁ list₁
    unfolding look_call
    by_rest {a} {vs₁} {list₁} g = by (opened rows ws (eqb (length vs) max_leaves)) refl h
      where
        by : (o : Opened) → opened rows ws (eqb (length vs) max_leaves) ≡ o → Opens rows ws own words (Ok r) o → Filled (look_in role vs list o) a vs₁ list₁
        by (refused_by k) e x = absurd x
        by (rest_of q) e x = g q x (eqb-true (length vs) max_leaves (opened_fits rows ws (eqb (length vs) max_leaves) e))

    -- ground 8, whatever the rest shows
    pub fill_8 : is_role role ≡ false → Filled (look_call rows ws role vs list) (Err EventNotRead) vs list
    unfolding look_in
    fill_8 n = by_rest (λ q f l. rw n (refused_filled EventNotRead vs list))

    -- of a task or of a row that failed
    by_found : is_role role ≡ true → {a : Result Looked Ground} {vs₁ : List ℤ} {list₁ : List ℕ} → ((q : FlowState) → OpensTo rows ws own words r q → length vs ≡ max_leaves → Filled (look_rest role vs list q) a vs₁ list₁)
        → Filled (look_call rows ws role vs list) a vs₁ list₁
    unfolding look_in
    by_found i g = by_rest (λ q f l. rw i (g q f l))

  module _ (i : is_role role ≡ true) where
    pub fill_ready : (n : ℕ) → OpenOk rows ws (eqb (length vs) max_leaves) own words (Ok (Task n)) → (a : Result Looked Ground) (vs₁ : List ℤ) (list₁ : List ℕ) → ShowOk own words n role vs list a vs₁ list₁
        → Filled (look_call rows ws role vs list) a vs₁ list₁
    fill_ready n h a vs₁ list₁ g =
        by_found (Task n) h i (λ q f l. opened_ready (λ q. Filled (look_rest role vs list q) a vs₁ list₁) (λ c t s y. g rows ws c t s y l i) f)

    pub fill_failed : OpenOk rows ws (eqb (length vs) max_leaves) own words (Ok Failed) → (a : Looked) (vs₁ : List ℤ) → ShowFailedOk vs a vs₁ → Filled (look_call rows ws role vs list) (Ok a) vs₁ list
    fill_failed h a vs₁ g = by_found Failed h i (λ q f l. opened_failed (λ q. Filled (look_rest role vs list q) (Ok a) vs₁ list) (λ τ s. g role τ s list l) f)

-- the part that is handed back is the front of the list
abbrev Front : LookAnswer → Type 0
Front a = (length a.part ≤ length a.list) × (take (length a.part) a.list ≡ a.part)

pub part_is : (rows ws : List ℤ) (role : ℕ) (vs : List ℤ) (list : List ℕ) (a : Result Looked Ground) (vs₁ : List ℤ) (list₁ : List ℕ) → Filled (look_call rows ws role vs list) a vs₁ list₁
    → ((shown a).bytes ≤ length list₁) × (take (shown a).bytes list₁ ≡ (look_call rows ws role vs list).part)
unfolding look_call look_in look_rest
part_is rows ws role vs list a vs₁ list₁ h =
    let o = opened rows ws (eqb (length vs) max_leaves) in
    let f = front o in
    let e = h.bytes in let p = ap length h.list in let q = f.0 in
    (omega (arith, e, p, q), ap₂ take e h.list ∙ f.1)
  where
    of_rest : (z : FlowState) → Front (look_rest role vs list z)
    of_rest z =
        let es = entries (is role) z.code [] z.store z.task in
        cases (leb (length es * entry_bytes) (length list))
        (λ y. let l = length-append (list_text es) (drop (length (list_text es)) list) in rw y (omega (arith, l), take_at (list_text es) (drop (length (list_text es)) list) (length (list_text es)) refl))
        (λ y. rw y (omega arith, refl))

    front : (o : Opened) → Front (look_in role vs list o)
    front (refused_by g) = (omega arith, refl)
    front (rest_of z) = cases (is_role role) (λ y. rw y (of_rest z)) (λ y. rw y (omega arith, refl))

-- ---- the part

-- the numbers of flags
pub flag_is : (b : Bool) → from_bool b ≡ flag b
flag_is true = refl
flag_is false = refl

-- what code takes of an answer
pub shown_is : (a : Result Looked Ground) {r : Looked} → ResultUnwrapsOrElse a (λ l. (l.valued ≡ false) × ((l.fails ≡ false) × (l.bytes ≡ 0))) r → r ≡ shown a
shown_is (Ok l) e = e
shown_is (Err g) (u, (v, w)) = λ i. record { valued = u i; fails = v i; bytes = w i }

module _ (rows ws : List ℤ) (role : ℕ) (vs : List ℤ) (list : List ℕ) (a : Result Looked Ground) (vs₁ : List ℤ) (list₁ : List ℕ) (h : Filled (look_call rows ws role vs list) a vs₁ list₁) {r : Looked} (e : r ≡ shown a) where
  pub part_long : r.bytes ≡ length (take r.bytes list₁)
  part_long = rw e (sym (length-take-le (shown a).bytes list₁ (part_is rows ws role vs list a vs₁ list₁ h).0))

  pub look_is : LookOk (look_call rows ws role vs list) (take r.bytes list₁) (answer_number a) (from_bool r.valued) (from_bool r.fails) vs₁
  look_is = rw e (record {
    part_is = (part_is rows ws role vs list a vs₁ list₁ h).1;
    number_is = h.number;
    valued_is = flag_is (shown a).valued ∙ h.has_value;
    fails_is = flag_is (shown a).fails ∙ h.fails;
    value_is = h.value;
  })
