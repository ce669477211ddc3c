-- Roles (CR 6): which numbers are roles, that every role is read back, and what `read_role` cites. Rests on Items.
use mathlib.Core.Path.{◌≡◌, refl, ap, subst, ◌∙◌}
use mathlib.Core.Bool.{true, false}
use mathlib.Core.Option.{some}
use Rattle.std.specs.Prelude.{Some, None}
use Rattle.std.specs.Bool.{then_some}
use Rattle.std.proofs.lemmas.Option.{none-some}
use mathlib.Core.List.{List}
use Prim.Native.Nat.{ℕ, ◌<◌}
use native.Mathlib.Omega.{arith}
use borrow.Author.Tests.{le-leb, leb-true}
use borrow.Table.Steps.{cases}
use lib.Dec.{leb}
use lib.IntN.{pos, negsuc}
use mir.Syntax.{w32}
use mir.Val.{to_z}
use Rattle.word.specs.Word.{words}
use Rattle.word.proofs.TwosComplement.{bits_lt, number_low, number_high, halves}
use Rattle.word.specs.Options.{in_code}
use Rattle.decimal.specs.Field.{Field, number, blank, unreadable, reads_at, reading, bits_said}
use Rattle.decimal.specs.declared.field.Reading.{Reading}
use Rattle.decimal.proofs.Answers.{bits_read}
use Rattle.tophat.specs.Roles.{max_role}
use Rattle.tophat.proofs.Basics.{apart, no_some, some_is, and_left, and_right}
use Rattle.tophat.specs.Roles.{IsRole, is_role}
use Rattle.formats.specs.Touches.{role_columns, role_said, event_role}
use Rattle.formats.proofs.Items.{Fits, number_fits}

-- ---- which numbers are roles

pub is_role_lem : (r : ℕ) → IsRole r → is_role r ≡ true
unfolding is_role
is_role_lem r (l, m) = rw (le-leb 1 r l, le-leb r max_role m)

pub role_is : (r : ℕ) → is_role r ≡ true → IsRole r
unfolding is_role
role_is r e = (leb-true 1 r (and_left (leb 1 r) (leb r max_role) e), leb-true r max_role (and_right (leb 1 r) (leb r max_role) e))

pub not_role : (r : ℕ) → (IsRole r → ⊥) → is_role r ≡ false
not_role r n = cases (is_role r) (λ e. absurd (n (role_is r e))) (λ e. e)

-- by whether it is one
pub by_role : {P : Type 0} (r : ℕ) → (IsRole r → P) → ((IsRole r → ⊥) → P) → P
by_role r f g = cases (is_role r) (λ e. f (role_is r e)) (λ e. g (λ h. apart (is_role_lem r h) e))

-- ---- a role's field

pub role_fits : (r : ℕ) → IsRole r → Fits (role_columns, pos r)
role_fits r (l, m) = number_fits role_columns r (omega arith) (omega (arith, m)) (omega (arith, m))

pub role_said_lem : (r : ℕ) → IsRole r → role_said (number (pos r)) ≡ some r
unfolding role_said
role_said_lem r h = let e = is_role_lem r h in rw e

-- what is said is a role
pub said_role : (f : Field) {r : ℕ} → role_said f ≡ some r → IsRole r
unfolding role_said
said_role (number (pos n)) {r} h = cases (is_role n) (λ e. subst IsRole (some_is (rw e at h)) (role_is n e)) (λ e. no_some (rw e at h))
said_role (number (negsuc n)) h = no_some h
said_role blank h = no_some h
said_role unreadable h = no_some h

-- ---- the role of an event

module _ (s : List ℕ) {r : Reading} (e : r ≡ reading (reads_at s 0 role_columns)) where
  -- a number may be a role
  pub role_bits : (n : ℕ) → Some n ≡ bits_said r → then_some (is_role n) n ≡ in_code (event_role s)
  unfolding role_said
  role_bits n h =
      let d = bits_read s 0 role_columns n (h ∙ ap bits_said e) in
      let f = d.is in
      let g : n < words = subst (λ m. m < words) d.bits (bits_lt (to_z w32 n) d.word) in
      halves n
      (λ l. let z = number_low n l in rw (f, z) (cases (is_role n) (λ t. rw t) (λ t. rw t)))
      (λ l. let z = number_high n l g in let t = not_role n (λ r. let m = r.1 in omega arith) in rw (f, z, t))

  -- anything else is none
  pub role_none : None ≡ bits_said r → None ≡ in_code (event_role s)
  unfolding role_said
  role_none h = by (reads_at s 0 role_columns) (h ∙ ap bits_said e)
    where
      by : (f : Field) → None ≡ bits_said (reading f) → None ≡ in_code (role_said f)
      by (number z) h = absurd (none-some _ h)
      by blank h = refl
      by unreadable h = refl
