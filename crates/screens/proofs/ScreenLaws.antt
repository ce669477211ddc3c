-- Screens, each way out: the screen after an answer, a sheet that is refused, and one that is started. Rests on specs/Screens and on
-- the contracts of the calls.
use mathlib.Core.Path.{◌≡◌, refl, sym, ap, ap₂, subst, ◌∙◌}
use mathlib.Core.Bool.{Bool, true, false}
use mathlib.Core.Option.{Option, none, some}
use Rattle.std.specs.Prelude.{Option as Maybe, unwrap_or}
use Rattle.word.specs.Options.{in_code}
use mathlib.Core.List.{List, [], ◌++◌, map, append-nil}
use Prim.Native.Nat.{ℕ, zero, suc, ◌+◌, ◌*◌, ◌/◌, ◌-◌, ◌<◌, ◌≤◌}
use native.Mathlib.Omega.{arith}
use borrow.Author.Tests.{eq-eqb, ne_eqb}
use borrow.Table.Steps.{cases}
use borrow.Rule.Slice.PartMut.{put_mid}
use lib.Dec.{leb}
use lib.IntN.{ℤ, pos}
use lib.ListN.{length, take, drop, replicate, length-append, length-drop, length-map, drop_of_length-le}
use lib.Seq.{length-take-le, take_at, drop_at, take-add}
use mir.Syntax.{w32}
use mir.Val.{of_z}
use Rattle.word.specs.Laid.{laid}
use Rattle.word.specs.Word.{AllWords}
use Rattle.word.proofs.Laid.{laid_front}
use Rattle.word.proofs.Lists.{bits_replicate, bits_bits, words_whole}
use Rattle.tophat.specs.Syntax.{max_leaves, Val}
use Rattle.call_definitions.specs.States.{FlowState, value_in}
use Rattle.tophat.proofs.ComputeNormalising.{failing}
use Rattle.tophat.proofs.ComputeEntries.{entries}
use Rattle.rows.specs.Rows.{max_rows}
use Rattle.rows.specs.GroundNumbers.{not_sized, event_not_read, list_too_short}
use Rattle.formats.specs.Lines.{line_bytes}
use Rattle.formats.specs.Touches.{event_bytes, entry_bytes, event_role}
use Rattle.tophat.specs.Roles.{is_role, is}
use Rattle.formats.specs.Lists.{list_text}
use Rattle.formats.specs.Heads.{head_bytes}
use Rattle.formats.proofs.Records.{AllFit}
use Rattle.sheet.specs.Sheet.{loaded}
use Rattle.entries.proofs.Fronts.{tail_part, tail_put}
use Rattle.flow.specs.declared.look.Looked.{Looked}
use Rattle.std.specs.Prelude.{Result}
use Rattle.rows.specs.declared.ground.Ground.{Ground}
use Rattle.rows.specs.GroundNumbers.{answer_number}
use Rattle.std.specs.Int.{from_bool}
use Rattle.flow.proofs.LookLaws.{flag_is}
use Rattle.call_definitions.specs.Memory.{CallAnswer, LookAnswer, look_refusal, flag, has_one}
use Rattle.call_definitions.specs.Calls as calls
use Rattle.flow.specs.Looks.{shown, Filled}
use Rattle.flow.specs.Starts.{strides_of, Answered}
use Rattle.screens.specs.declared.head.Head.{Head}
use Rattle.screens.specs.declared.turn.Begun.{Begun}
use Rattle.screens.specs.Heads.{four_digits, head_items, head_over, head_text}
use Rattle.screens.proofs.HeadText.{all_fit, head_text_lem, head_length}
use Rattle.screens.specs.Screens.{screen_bytes, Drawn, Beginning, head_of, refused_head, refused_screen, start_role, or_start, role_of, shown_after, loaded_counted, started_by, begun_by, begins, touched}

-- a front of a list
front : (n : ℕ) (l : List ℕ) → n ≤ length l → (n ≤ length l) × (n ≡ length (take n l))
front n l h = (h, sym (length-take-le n l h))

-- n bytes and m more
take_after : (xs ys : List ℕ) (n m : ℕ) → length xs ≡ n → take (n + m) (xs ++ ys) ≡ xs ++ take m ys
take_after xs ys n m e = take-add n m (xs ++ ys) ∙ ap₂ (λ a b. a ++ take m b) (take_at xs ys n e) (drop_at xs ys n e)

-- ---- what look shows

-- the part stands in the list, and is its front; the flags are 0 or 1
flag_small : (b : Bool) → flag b ≤ 1
flag_small true = omega arith
flag_small false = omega arith

one_small : (o : Option Val) → has_one o ≤ 1
unfolding has_one
one_small none = omega arith
one_small (some v) = omega arith

pub record Plain (a : LookAnswer) : Type 0 where
  pub within : length a.part ≤ length a.list
  pub fronts : take (length a.part) a.list ≡ a.part
  pub fails : a.fails ≤ 1
  pub valued : a.has_value ≤ 1

plain_refusal : (g : ℕ) (vs : List ℤ) (list : List ℕ) → Plain (look_refusal g vs list)
plain_refusal g vs list = record { within = omega arith; fronts = refl; fails = omega arith; valued = omega arith }

module _ (role : ℕ) (vs : List ℤ) (list : List ℕ) where
  plain_rest : (z : FlowState) → Plain (calls.look_rest role vs list z)
  unfolding calls.look_rest
  plain_rest z =
      let es = entries (is role) z.code [] z.store z.task in
      cases (leb (length es * entry_bytes) (length list))
      (λ e. rw e (record {
        within = let f = length-append (list_text es) (drop (length (list_text es)) list) in omega (arith, f);
        fronts = take_at (list_text es) (drop (length (list_text es)) list) (length (list_text es)) refl;
        fails = flag_small (failing z.code [] z.store z.task);
        valued = one_small (value_in z);
      }))
      (λ e. rw e (plain_refusal list_too_short vs list))

  plain_in : (o : calls.Opened) → Plain (calls.look_in role vs list o)
  unfolding calls.look_in
  plain_in (calls.refused_by g) = plain_refusal g vs list
  plain_in (calls.rest_of z) = cases (is_role role) (λ e. rw e (plain_rest z)) (λ e. rw e (plain_refusal event_not_read vs list))

  plain : (rows ws : List ℤ) → Plain (calls.look_call rows ws role vs list)
  unfolding calls.look_call
  plain rows ws = plain_in _

bits_whole : (vs : List ℤ) (own : List ℕ) → length vs ≡ length own → laid (of_z w32) vs own ≡ map (of_z w32) vs
bits_whole vs own e =
    laid_front (of_z w32) vs own (omega (arith, e))
    ∙ ap (λ l. map (of_z w32) vs ++ l) (drop_of_length-le own {i = length vs} (omega (arith, e)))
    ∙ append-nil (map (of_z w32) vs)

-- ---- the screen after an answer

-- what code has for the head line
pub head_in_code : (looked : Result Looked Ground) {answer strides a b f v : ℕ} {d : Looked} {leaves : List ℕ} → a ≡ answer → b ≡ strides → f ≡ from_bool d.fails → v ≡ from_bool d.valued → d ≡ shown looked
    → ◌≡◌ {A = Head} (record { answer = a; strides = b; fails = f; valued = v; leaves = leaves; entries = d.bytes / entry_bytes })
    (record { answer = answer; strides = strides; fails = flag (shown looked).fails; valued = flag (shown looked).valued; leaves = leaves; entries = (shown looked).bytes / entry_bytes })
head_in_code looked {leaves = leaves} x y z w e =
    let f = z ∙ ap (λ d. from_bool d.fails) e ∙ flag_is (shown looked).fails in
    let v = w ∙ ap (λ d. from_bool d.valued) e ∙ flag_is (shown looked).valued in
    λ i. record { answer = x i; strides = y i; fails = f i; valued = v i; leaves = leaves; entries = (e i).bytes / entry_bytes }

module _ (rows ws : List ℤ) (role answer strides : ℕ) (out : List ℕ) (long : length out ≡ screen_bytes) (looked : Result Looked Ground) (vs : List ℤ) (list : List ℕ)
    (kept : length list ≡ length (take (length out - head_bytes) (drop head_bytes out)))
    (e : Filled (calls.look_call rows ws role (replicate max_leaves (pos 0)) (take (length out - head_bytes) (drop head_bytes out))) looked vs list) where
  seen : LookAnswer
  seen = calls.look_call rows ws role (replicate max_leaves (pos 0)) (drop head_bytes out)

  filled : Filled seen looked vs list
  unfolding seen
  filled = subst (λ b. Filled (calls.look_call rows ws role (replicate max_leaves (pos 0)) b) looked vs list) (tail_part head_bytes out) e

  list_length : length list ≡ max_rows * entry_bytes
  list_length = kept ∙ ap length (tail_part head_bytes out) ∙ length-drop head_bytes out ∙ omega (arith, long)

  pub bytes_few : (shown looked).bytes ≤ max_rows * entry_bytes
  unfolding seen
  bytes_few =
      let a = (plain role (replicate max_leaves (pos 0)) (drop head_bytes out) rows ws).within in
      let b = filled.bytes in let d = ap length filled.list in let f = list_length in
      omega (arith, a, b, d, f)

  memory : List ℕ
  memory = take head_bytes out ++ list

  memory_length : length memory ≡ screen_bytes
  unfolding memory
  memory_length = let a = length-append (take head_bytes out) list in let b = length-take-le head_bytes out (omega (arith, long)) in let f = list_length in omega (arith, a, b, f)

  head_is : (leaves : List ℕ) → leaves ≡ map (of_z w32) vs
      → ◌≡◌ {A = Head} (record { answer = answer; strides = strides; fails = flag (shown looked).fails; valued = flag (shown looked).valued; leaves = leaves; entries = (shown looked).bytes / entry_bytes }) (head_of answer strides seen)
  head_is leaves l =
      let q = l ∙ ap (map (of_z w32)) filled.value in
      λ i. record { answer = answer; strides = strides; fails = filled.fails i; valued = filled.has_value i; leaves = q i; entries = filled.bytes i / entry_bytes }

  head : Head
  head = head_of answer strides seen

  fits : length vs ≡ max_leaves → AllWords (take max_leaves vs) → answer < four_digits → strides < four_digits → AllFit (head_items head)
  unfolding seen head
  fits four w a b =
      let f = plain role (replicate max_leaves (pos 0)) (drop head_bytes out) rows ws in
      let l = bits_bits seen.value (subst AllWords filled.value (words_whole max_leaves vs (omega (arith, four)) w)) in
      all_fit head a b f.fails f.valued l (let k = bytes_few in let e = filled.bytes in omega (arith, k, e))

  -- the head line, and the part after it
  text_printed : AllFit (head_items head) → length vs ≡ max_leaves → take (head_bytes + length seen.part) (head_over (take head_bytes out ++ seen.list) head) ≡ head_text head ++ seen.part
  unfolding seen head
  text_printed k four =
      let n = length-map seen.value (of_z w32) ∙ sym (ap length filled.value) ∙ four in
      let m = take head_bytes out ++ seen.list in
      let e = length-take-le head_bytes out (omega (arith, long)) in
      let g = length-append (take head_bytes out) seen.list in
      let f = plain role (replicate max_leaves (pos 0)) (drop head_bytes out) rows ws in
      ap (take (head_bytes + length seen.part)) (head_text_lem head k n m (omega (arith, e, g)) ∙ ap (λ l. head_text head ++ l) (drop_at (take head_bytes out) seen.list head_bytes e))
      ∙ take_after (head_text head) seen.list head_bytes (length seen.part) (head_length head k n)
      ∙ ap (λ l. head_text head ++ l) f.fronts

  pub drawn : answer < four_digits → strides < four_digits → length vs ≡ max_leaves → AllWords (take max_leaves vs) → (leaves out₁ : List ℕ) → leaves ≡ laid (of_z w32) vs (replicate max_leaves 0)
      → length out₁ ≡ length (put_mid head_bytes (length out - head_bytes) out list)
      → out₁ ≡ head_over (put_mid head_bytes (length out - head_bytes) out list) (record { answer = answer; strides = strides; fails = flag (shown looked).fails; valued = flag (shown looked).valued; leaves = leaves; entries = (shown looked).bytes / entry_bytes })
      → Drawn (shown_after rows ws role answer strides out) (head_bytes + (shown looked).bytes) out₁
  unfolding shown_after seen memory head
  drawn x y four w leaves out₁ l n o =
      let p = tail_put head_bytes out list in
      let h = head_is leaves (l ∙ bits_whole vs (replicate max_leaves 0) four) in
      let g = n ∙ ap length p ∙ memory_length in
      let b = bytes_few in
      let c = ap (λ k. head_bytes + k) filled.bytes in
      let m = o ∙ (λ i. head_over (p i) (h i)) ∙ ap (λ m. head_over (take head_bytes out ++ m) (head_of answer strides seen)) filled.list in
      record {
        bytes = c;
        memory = m;
        within = front (head_bytes + (shown looked).bytes) out₁ (omega (arith, g, b));
        printed = (λ i. take (c i) (m i)) ∙ text_printed (fits four w x y) four;
      }

-- the one line of a sheet that is refused
pub drawn_refused : (g : ℕ) (out out₁ : List ℕ) → g < four_digits → length out ≡ screen_bytes → length out₁ ≡ length out → out₁ ≡ head_over out (refused_head g) → Drawn (refused_screen g out) head_bytes out₁
drawn_refused g out out₁ x long k e =
    let h = refused_head g in
    let f = all_fit h x (omega arith) (omega arith) (omega arith) (bits_replicate max_leaves 0 (omega arith)) (omega arith) in
    record {
      bytes = refl;
      memory = e;
      within = front head_bytes out₁ (omega (arith, long, k));
      printed = ap (take head_bytes) (e ∙ head_text_lem h f refl out (omega (arith, long))) ∙ take_at (head_text h) (drop head_bytes out) head_bytes (head_length h f refl);
    }

-- ---- a sheet of n counted lines

module _ (n : ℕ) (text : List ℕ) (rows : List ℤ) where
  pub not_met : (length text ≡ n * line_bytes → ⊥) → loaded_counted n text rows ≡ (not_sized, rows)
  unfolding loaded_counted
  not_met h = rw (ne_eqb (length text) (n * line_bytes) h)

  pub met : length text ≡ n * line_bytes → loaded_counted n text rows ≡ loaded text rows
  unfolding loaded_counted
  met h = rw (eq-eqb (length text) (n * line_bytes) h)

-- ---- the first screen

refused_by : (g : ℕ) (rows ws : List ℤ) (out : List ℕ) → (g ≡ 0 → ⊥) → begun_by g rows ws out ≡ record { started = false; rows = rows; state = ws; screen = refused_screen g out }
refused_by zero rows ws out h = absurd (h refl)
refused_by (suc g) rows ws out h = refl

unstarted_by : (g : ℕ) (rows : List ℤ) (out : List ℕ) (a : CallAnswer) → (g ≡ 0 → ⊥) → started_by g rows out a ≡ record { started = false; rows = rows; state = a.state; screen = refused_screen g out }
unstarted_by zero rows out a h = absurd (h refl)
unstarted_by (suc g) rows out a h = refl

started_by_lem : (g : ℕ) (rows : List ℤ) (out : List ℕ) (a : CallAnswer) → g ≡ 0
    → started_by g rows out a ≡ record { started = true; rows = rows; state = a.state; screen = shown_after rows a.state start_role a.number a.strides out }
started_by_lem zero rows out a h = refl
started_by_lem (suc g) rows out a h = absurd (omega (arith, h))

module _ (n : ℕ) (text : List ℕ) (rows ws : List ℤ) (out : List ℕ) (g : ℕ) (rows₁ : List ℤ) (e : g ≡ (loaded_counted n text rows).0) (f : rows₁ ≡ (loaded_counted n text rows).1) where
  begun : begins n text rows ws out ≡ begun_by g rows₁ ws out
  unfolding begins
  begun = sym (λ i. begun_by (e i) (f i) ws out)

  pub begin_refused : (g ≡ 0 → ⊥) → (r : Begun) (out₁ : List ℕ) → (r.started ≡ false) × Drawn (refused_screen g out) r.bytes out₁
      → Beginning (begins n text rows ws out) r rows₁ ws out₁
  begin_refused h r out₁ d = subst (λ b. Beginning b r rows₁ ws out₁) (sym (begun ∙ refused_by g rows₁ ws out h))
      (record { started = d.0; rows = refl; state = refl; drawn = d.1 })

  module _ (z : g ≡ 0) (a : Result ℕ Ground) (ws₁ : List ℤ) (q : Answered (calls.start_call rows₁ ws) a ws₁) where
    started : begins n text rows ws out ≡ started_by (answer_number a) rows₁ out (calls.start_call rows₁ ws)
    started = begun ∙ ap (λ k. begun_by k rows₁ ws out) z ∙ ap (λ k. started_by k rows₁ out (calls.start_call rows₁ ws)) (sym q.0)

    pub begin_unstarted : ((answer_number a) ≡ 0 → ⊥) → (r : Begun) (out₁ : List ℕ) → (r.started ≡ false) × Drawn (refused_screen (answer_number a) out) r.bytes out₁
        → Beginning (begins n text rows ws out) r rows₁ ws₁ out₁
    begin_unstarted h r out₁ d = subst (λ b. Beginning b r rows₁ ws₁ out₁) (sym (started ∙ unstarted_by (answer_number a) rows₁ out (calls.start_call rows₁ ws) h))
        (record { started = d.0; rows = refl; state = q.2; drawn = d.1 })

    pub begin_started : (answer_number a) ≡ 0 → (bytes : ℕ) (out₁ : List ℕ) → Drawn (shown_after rows₁ ws₁ start_role (answer_number a) (strides_of a) out) bytes out₁
        → Beginning (begins n text rows ws out) (record { started = true; bytes = bytes }) rows₁ ws₁ out₁
    begin_started h bytes out₁ d = subst (λ b. Beginning b (record { started = true; bytes = bytes }) rows₁ ws₁ out₁) (sym (started ∙ started_by_lem (answer_number a) rows₁ out (calls.start_call rows₁ ws) h))
        (record { started = refl; rows = refl; state = q.2; drawn = subst (λ s. Drawn s bytes out₁) (λ i. shown_after rows₁ (q.2 i) start_role (q.0 i) (q.1 i) out) d })

-- ---- an event

-- the role that is looked in after it, each way out of `role_of`
module _ (event : List ℕ) where
  pub role_short : (length event ≡ event_bytes → ⊥) → start_role ≡ role_of event
  unfolding role_of
  role_short h = let e = ne_eqb (length event) event_bytes h in rw e

  pub role_looked : length event ≡ event_bytes → (r : Maybe ℕ) → r ≡ in_code (event_role event) → unwrap_or r start_role ≡ role_of event
  unfolding role_of or_start
  role_looked l r e = let q = eq-eqb (length event) event_bytes l in rw q (ap (λ r. unwrap_or r start_role) e ∙ by (event_role event))
    where
      by : (o : Option ℕ) → unwrap_or (in_code o) start_role ≡ or_start o
      by none = refl
      by (some role) = refl

module _ (rows ws : List ℤ) (event out : List ℕ) (a : Result ℕ Ground) (ws₁ : List ℤ) (q : Answered (calls.handle_call rows ws event) a ws₁) where
  pub touch_state : ws₁ ≡ (touched rows ws event out).0
  unfolding touched
  touch_state = q.2

  pub touch_drawn : (role : ℕ) → role ≡ role_of event → (bytes : ℕ) (out₁ : List ℕ) → Drawn (shown_after rows ws₁ role (answer_number a) (strides_of a) out) bytes out₁ → Drawn (touched rows ws event out).1 bytes out₁
  unfolding touched
  touch_drawn role e bytes out₁ d = subst (λ s. Drawn s bytes out₁) (λ i. shown_after rows (q.2 i) (e i) (q.0 i) (q.1 i) out) d
