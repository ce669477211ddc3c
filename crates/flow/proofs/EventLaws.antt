-- `read_event` and the functions below it, each way out. Rests on word's comparison of bits and numbers, and on formats' laws of fields.
use mathlib.Core.Path.{◌≡◌, refl, sym, ap, ap₂, ◌∙◌, subst}
use mathlib.Core.Bool.{Bool, true, false, cond}
use mathlib.Core.Logic.{◌⊎◌, ⊎_elim}
use mathlib.Core.Option.{Option, none, some, bind}
use mathlib.Core.List.{List, [], ◌∷◌, map}
use Prim.Native.Nat.{ℕ, suc, ◌+◌, ◌-◌, ◌^◌, ◌<◌}
use borrow.Author.Tests.{eq-eqb, ne_eqb}
use lib.Dec.{lit<, eqb, ltb}
use lib.IntN.{ℤ, pos, negsuc}
use lib.ListN.{length, get_or, replicate}
use mir.Syntax.{w32}
use mir.Val.{to_z, sel}
use Rattle.std.specs.Prelude.{Option as Maybe, Some, None, unwrap_or}
use Rattle.std.specs.List.{list_all}
use Rattle.std.proofs.lemmas.Option.{none-some}
use Rattle.word.specs.Word.{words, eq_z}
use Rattle.word.specs.Options.{in_code}
use Rattle.word.proofs.Order.{equal_number}
use Rattle.word.proofs.TwosComplement.{number_bits, bits_lt}
use Rattle.word.proofs.Options.{in_code_none, in_code_some}
use Rattle.decimal.specs.Field.{Field, number, blank, unreadable, reads_at, reading, bits_said, action_columns, word_columns, newline}
use Rattle.decimal.specs.declared.field.Reading.{Reading}
use Rattle.decimal.specs.Path.{Path, path_columns, path_of, reads_path_at, path_reading}
use Rattle.decimal.proofs.Answers.{bits_read, path_said, no_path_said}
use Rattle.tophat.specs.Syntax.{max_leaves}
use Rattle.tophat.specs.declared.Action.{Action as Chosen}
use Rattle.tophat.specs.declared.Action.TheVariants.{Value, Continue, Left, Right}
use Rattle.tophat.specs.Actions.{act_of, number_of_action}
use Rattle.tophat.specs.Leaves.{Given}
use Rattle.tophat.proofs.Basics.{apart}
use Rattle.tophat.specs.Handling.{Act, giving, pressing, act_number, act_table, Action, continue, left, right}
use Rattle.formats.specs.Records.{total, is_record, fields_at, number_said, each, leaf_bits, leaves_read}
use Rattle.formats.specs.Touches.{role_columns, event_columns, event_bytes, event_role, numbered, touch_in, leaf_said, is_nothing, all_nothing, allowed, event_says, action_of, event_of}
use Rattle.formats.proofs.Records.{fields_words, GivenWords, no_leaves, blank_leaf, number_leaf_lem, leaves_words}
use Rattle.handle.specs.Events.{leaves_by, action_by}
use Rattle.flow.specs.Reads.{action_at, fields_say}

-- ---- leaves that are 0 or blank

zero_is : (x : ℕ) → eqb x 0 ≡ eq_z (to_z w32 x) (pos 0)
zero_is x = by (ltb x (2 ^ 31)) refl
  where
    by : (b : Bool) → ltb x (2 ^ 31) ≡ b → eqb x 0 ≡ eq_z (sel b (pos x) (negsuc (2 ^ 32 - suc x))) (pos 0)
    by true e = refl
    by false e = ne_eqb x 0 (λ z. apart (ap (λ x. ltb x (2 ^ 31)) z) e)

pub zero_leaves : (ls : List (Maybe ℕ)) → list_all (λ l. eqb (unwrap_or l 0) 0) ls ≡ all_nothing (leaves_by ls)
unfolding all_nothing is_nothing leaves_by
zero_leaves [] = refl
zero_leaves (None ∷ ls) = zero_leaves ls
zero_leaves (Some x ∷ ls) = let e = zero_is x in let f = zero_leaves ls in rw (e, f)

pub allowed_value : (a : Chosen) (ls : List Given) → a ≡ Value → true ≡ allowed (act_of a) ls
unfolding allowed
allowed_value a ls e = rw e

pub allowed_zero : (a : Chosen) (ls : List Given) → (a ≡ Continue) ⊎ ((a ≡ Left) ⊎ (a ≡ Right)) → all_nothing ls ≡ allowed (act_of a) ls
unfolding allowed
allowed_zero a ls e = ⊎_elim (λ e. rw e) (λ f. ⊎_elim (λ e. rw e) (λ e. rw e) f) e

-- ---- the number of an action

named : (a : Chosen) → numbered act_number act_table (to_z w32 (number_of_action a)) ≡ some (act_of a)
unfolding numbered
named Value = refl
named Continue = refl
named Left = refl
named Right = refl

-- a number, against an action's
same_number : (n k : ℕ) → n < words → k < words → to_z w32 k ≡ pos k → eqb n k ≡ eq_z (to_z w32 n) (pos k)
same_number n k h g e = equal_number n k h g ∙ ap (eq_z (to_z w32 n)) e

unnamed : (n : ℕ) → n < words → ((a : Chosen) → number_of_action a ≡ n → ⊥) → numbered act_number act_table (to_z w32 n) ≡ none
unfolding numbered
unnamed n h f =
    let p = sym (same_number n (act_number giving) h (lit< tt) refl) ∙ ne_eqb n _ (λ e. f Value (sym e)) in
    let q = sym (same_number n (act_number (pressing continue)) h (lit< tt) refl) ∙ ne_eqb n _ (λ e. f Continue (sym e)) in
    let r = sym (same_number n (act_number (pressing left)) h (lit< tt) refl) ∙ ne_eqb n _ (λ e. f Left (sym e)) in
    let u = sym (same_number n (act_number (pressing right)) h (lit< tt) refl) ∙ ne_eqb n _ (λ e. f Right (sym e)) in
    rw (p, q, r, u)

-- with the leaves it is the calculus' action
action_is : (a : Chosen) (ls : List Given) → action_of (act_of a) ls ≡ action_by a ls
unfolding action_of
action_is Value ls = refl
action_is Continue ls = refl
action_is Left ls = refl
action_is Right ls = refl

-- ---- leaves that were read: they are those of their bits

leaves_back : {ls : List Given} → GivenWords ls → leaves_by (map leaf_bits ls) ≡ ls
unfolding leaves_by leaf_bits
leaves_back no_leaves = refl
leaves_back (blank_leaf k) = ap (λ ls. none ∷ ls) (leaves_back k)
leaves_back (number_leaf_lem {z} w k) = ap₂ (λ z ls. some z ∷ ls) (number_bits z w) (leaves_back k)

-- ---- the fields, one after another

module _ (s : List ℕ) where
  -- where the path, the action and the leaves stand
  abbrev path_at : ℕ
  path_at = role_columns

  abbrev act_at : ℕ
  act_at = role_columns + path_columns

  abbrev leaves_at : ℕ
  leaves_at = role_columns + path_columns + action_columns

  abbrev leaf_fields : List Field
  leaf_fields = fields_at s leaves_at (replicate max_leaves word_columns)

  pub no_role : None ≡ in_code (event_role s) → none ≡ fields_say s
  unfolding fields_say bind
  no_role e = let h = in_code_none (event_role s) e in rw h

  module _ (k : ℕ) (i : Some k ≡ in_code (event_role s)) where
    pub no_path : None ≡ path_reading (reads_path_at s path_at) → none ≡ fields_say s
    unfolding fields_say bind
    no_path e = let r = in_code_some (event_role s) k i in let f = no_path_said (reads_path_at s path_at) e in rw (r, f)

    module _ (p : ℕ) (e : Some p ≡ path_reading (reads_path_at s path_at)) {x : Reading} (v : x ≡ reading (reads_at s act_at action_columns)) where
      pub no_number : None ≡ bits_said x → none ≡ fields_say s
      unfolding fields_say bind number_said
      no_number g =
          let r = in_code_some (event_role s) k i in
          let f = path_said (reads_path_at s path_at) p e in
          let m = by (reads_at s act_at action_columns) (g ∙ ap bits_said v) in
          rw (r, f, m)
        where
          by : (f : Field) → None ≡ bits_said (reading f) → number_said f ≡ none
          by (number z) h = absurd (none-some _ h)
          by blank h = refl
          by unreadable h = refl

      module _ (n : ℕ) (g : Some n ≡ bits_said x) where
        pub no_leaf : None ≡ leaves_read (each leaf_said leaf_fields) → none ≡ fields_say s
        unfolding fields_say bind number_said
        no_leaf h =
            let r = in_code_some (event_role s) k i in
            let f = path_said (reads_path_at s path_at) p e in
            let m = (bits_read s act_at action_columns n (g ∙ ap bits_said v)).is in
            let q = by (each leaf_said leaf_fields) h in
            rw (r, f, m, q)
          where
            by : (o : Option (List Given)) → None ≡ leaves_read o → o ≡ none
            by none h = refl
            by (some ls) h = absurd (none-some _ h)

        module _ (ls : List (Maybe ℕ)) (h : Some ls ≡ leaves_read (each leaf_said leaf_fields)) where
          -- what is left: the action of a number, with leaves that it can have
          fields_are : fields_say s ≡ bind (action_at (to_z w32 n) (leaves_by ls)) λ a. some (k, path_of p, a)
          unfolding fields_say number_said bind
          fields_are =
              let r = in_code_some (event_role s) k i in
              let f = path_said (reads_path_at s path_at) p e in
              let m = (bits_read s act_at action_columns n (g ∙ ap bits_said v)).is in
              let q = by (each leaf_said leaf_fields) (λ ls q. leaves_words (fields_words s leaves_at (replicate max_leaves word_columns)) q) h in
              rw (r, f, m, q)
            where
              by : (o : Option (List Given)) → ((ls : List Given) → o ≡ some ls → GivenWords ls) → Some ls ≡ leaves_read o → o ≡ some (leaves_by ls)
              by none w h = absurd (none-some ls (sym h))
              by (some zs) w h = let c : ls ≡ map leaf_bits zs = cc in ap some (sym (ap leaves_by c ∙ leaves_back (w zs refl)))

          pub no_action : ((a : Chosen) → number_of_action a ≡ n → ⊥) → none ≡ fields_say s
          unfolding action_at bind
          no_action q =
              let d = bits_read s act_at action_columns n (g ∙ ap bits_said v) in
              let u = unnamed n (subst (λ m. m < words) d.bits (bits_lt (to_z w32 n) d.word)) q in
              sym (fields_are ∙ rw u)

          module _ (a : Chosen) (q : number_of_action a ≡ n) where
            by_allowed : fields_say s ≡ bind (cond (allowed (act_of a) (leaves_by ls)) (some (action_by a (leaves_by ls))) none) λ a. some (k, path_of p, a)
            unfolding action_at bind
            by_allowed = let u = ap (λ m. numbered act_number act_table (to_z w32 m)) (sym q) ∙ named a in let w = action_is a (leaves_by ls) in fields_are ∙ rw (u, w)

            pub not_allowed : allowed (act_of a) (leaves_by ls) ≡ false → none ≡ fields_say s
            unfolding bind
            not_allowed u = sym (by_allowed ∙ rw u)

            pub fields_said : allowed (act_of a) (leaves_by ls) ≡ true → some (k, path_of p, action_by a (leaves_by ls)) ≡ fields_say s
            unfolding bind
            fields_said u = sym (by_allowed ∙ rw u)

-- ---- the whole event

-- a touch's fields, and its leaves allowed, in either order
abbrev Touch : Type 0
Touch = Path × Act × List Given

abbrev Said : Type 0
Said = ℕ × Path × Act × List Given

abbrev allow : ℕ → Touch → Option Said
allow r t = cond (allowed t.1 t.2) (some (r, t.0, t.1, t.2)) none

abbrev as_action : Said → Option (ℕ × Path × Action)
as_action t = some (t.0, t.1, action_of t.2 t.3)

abbrev action_in : ℕ → Path → Option Act → List Given → Option (ℕ × Path × Action)
action_in r q o ls = bind (bind o λ k. cond (allowed k ls) (some (action_of k ls)) none) λ x. some (r, q, x)

same_act : (r : ℕ) (q : Path) (o : Option Act) (ol : Option (List Given))
    → bind (bind (bind {B = Touch} o λ k. bind ol λ ls. some (q, k, ls)) (allow r)) as_action ≡ bind ol (action_in r q o)
unfolding bind
same_act r q none none = refl
same_act r q none (some ls) = refl
same_act r q (some k) none = refl
same_act r q (some k) (some ls) = by (allowed k ls)
  where
    by : (b : Bool) → bind {A = Said} (cond b (some (r, q, k, ls)) none) as_action ≡ bind {B = ℕ × Path × Action} (cond b (some (action_of k ls)) none) λ x. some (r, q, x)
    by true = refl
    by false = refl

same_touch : (or : Option ℕ) (op : Option Path) (on : Option ℤ) (ol : Option (List Given))
    → bind (bind or λ r. bind (bind {B = Touch} op λ q. bind on λ n. bind (numbered act_number act_table n) λ k. bind ol λ ls. some (q, k, ls)) (allow r)) as_action
    ≡ bind or λ r. bind op λ q. bind on λ n. bind ol (action_in r q (numbered act_number act_table n))
unfolding bind
same_touch none op on ol = refl
same_touch (some r) none on ol = refl
same_touch (some r) (some q) none ol = refl
same_touch (some r) (some q) (some n) ol = same_act r q (numbered act_number act_table n) ol

module _ (s : List ℕ) where
  pub not_long : (length s ≡ event_bytes → ⊥) → event_of s ≡ none
  unfolding event_of event_says is_record bind
  not_long h = let e = ne_eqb (length s) event_bytes h in rw e

  module _ (l : length s ≡ event_bytes) where
    pub not_ended : (get_or s (total event_columns) 0 ≡ newline → ⊥) → event_of s ≡ none
    unfolding event_of event_says is_record bind
    not_ended h = let p = eq-eqb (length s) event_bytes l in let e = ne_eqb (get_or s (total event_columns) 0) newline h in rw (p, e)

    -- it says what its fields say
    pub by_fields : get_or s (total event_columns) 0 ≡ newline → event_of s ≡ fields_say s
    unfolding event_of event_says is_record touch_in fields_say action_at bind
    by_fields n =
        let p = eq-eqb (length s) event_bytes l in let e = eq-eqb (get_or s (total event_columns) 0) newline n in
        rw (p, e) (same_touch (event_role s) (reads_path_at s role_columns) (number_said (reads_at s (role_columns + path_columns) action_columns))
        (each leaf_said (fields_at s (role_columns + path_columns + action_columns) (replicate max_leaves word_columns))))
