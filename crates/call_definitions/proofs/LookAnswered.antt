-- Look by the rules alone: for every rows memory and state memory of words, every role, value memory and list memory, the relation derives
-- what look answers and leaves, and nothing else. Rests on Grounds and Looking.
use mathlib.Core.Path.{◌≡◌, refl, sym, ap, subst}
use mathlib.Core.Bool.{Bool}
use mathlib.Core.List.{List, []}
use Prim.Native.Nat.{ℕ, ◌*◌}
use borrow.Author.Tests.{leb-true, leb-false, eqb-true, eqb-false}
use borrow.Table.Steps.{cases}
use lib.Dec.{leb, eqb}
use lib.IntN.{ℤ}
use lib.ListN.{length}
use Rattle.word.specs.Word.{AllWords}
use Rattle.word.specs.Decides.{Decides}
use Rattle.tophat.specs.Syntax.{max_leaves, Ty, Code}
use Rattle.tophat.specs.Typing.{v_nil}
use Rattle.tophat.specs.Showing.{Entry}
use Rattle.tophat.proofs.ComputeNormalising.{failing}
use Rattle.tophat.proofs.ComputeEntries.{entries}
use Rattle.tophat.proofs.NormalisingSound.{fails_sound}
use Rattle.tophat.proofs.EntriesAgree.{shows_sound}
use Rattle.tophat.specs.Roles.{is}
use Rattle.formats.specs.Touches.{entry_bytes}
use Rattle.formats.proofs.Roles.{by_role}
use Rattle.call_definitions.specs.Memory.{LookAnswer}
use Rattle.call_definitions.specs.States.{FlowState, FailsIn, ShowsIn}
use Rattle.call_definitions.specs.Answers.{AcceptedFlow, IsRest, LookAnswers, look_shut, look_8, look_24, look_0}
use Rattle.call_definitions.specs.Calls.{Opened, refused_by, rest_of, opened, look_in, look_call}
use Rattle.call_definitions.proofs.Opening.{state_typed}
use Rattle.call_definitions.proofs.Grounds.{Opens, open_shut, open_rest, opened_derived, shut_only}
use Rattle.call_definitions.proofs.Looking.{rest_look, answer_8, answer_24, answer_0}

module _ {rows ws : List ℤ} {c : Code} {Σ : List Ty} {τ : Ty} (a : AcceptedFlow rows c Σ τ) (r : IsRest rows ws c Σ τ) (role : ℕ) (values : List ℤ) (list : List ℕ) (l : length values ≡ max_leaves) where
  abbrev z : FlowState
  z = r.state

  abbrev es : List Entry
  es = entries (is role) z.code [] z.store z.task

  shows : ShowsIn (is role) z es
  shows = let (k, h) = state_typed a r.writes in shows_sound z.code [] z.store z.task k v_nil h

  fails : FailsIn z (failing z.code [] z.store z.task)
  fails = let (k, h) = state_typed a r.writes in fails_sound z.code [] z.store z.task k v_nil h

  -- ---- at a rest, with value memory of its size

  pub rest_looked : LookAnswers rows ws role values list (look_call rows ws role values list)
  rest_looked = by_role role
      (λ i. cases (leb (length es * entry_bytes) (length list))
      (λ y. let m = leb-true _ _ y in subst (LookAnswers rows ws role values list) (sym (answer_0 a r role values list l i shows m fails)) (look_0 a r l i shows m fails))
      (λ n. let m = leb-false _ _ n in subst (LookAnswers rows ws role values list) (sym (answer_24 a r role values list l i shows m)) (look_24 a r l i shows m)))
      (λ n. subst (LookAnswers rows ws role values list) (sym (answer_8 a r role values list l n)) (look_8 a r l n))

-- ---- every memory

fitting : (values : List ℤ) → Decides (eqb (length values) max_leaves) (length values ≡ max_leaves)
fitting values = record { yes = λ e. eqb-true (length values) max_leaves e; no = λ e l. eqb-false (length values) max_leaves e l }

module _ (rows ws : List ℤ) (role : ℕ) (values : List ℤ) (list : List ℕ) (wr : AllWords rows) (ww : AllWords ws) where
  abbrev fits : Bool
  fits = eqb (length values) max_leaves

  by_opened : (o : Opened) → opened rows ws fits ≡ o → Opens rows ws (length values ≡ max_leaves) o → LookAnswers rows ws role values list (look_in role values list o)
  unfolding look_in
  by_opened (refused_by g) e (open_shut d) = look_shut d
  by_opened (rest_of z) e (open_rest a l r) = subst (LookAnswers rows ws role values list) (rest_look a r role values list l) (rest_looked a r role values list l)

  -- what look answers is derived
  pub look_derived : LookAnswers rows ws role values list (look_call rows ws role values list)
  unfolding look_call
  look_derived = by_opened (opened rows ws fits) refl (opened_derived rows ws (length values ≡ max_leaves) wr ww fits (fitting values))

  -- and nothing else
  pub look_only : {r : LookAnswer} → LookAnswers rows ws role values list r → look_call rows ws role values list ≡ r
  unfolding look_call look_in
  look_only (look_shut d) = ap (look_in role values list) (shut_only rows ws (length values ≡ max_leaves) wr ww fits (fitting values) d)
  look_only (look_8 a r l n) = answer_8 a r role values list l n
  look_only (look_24 a r l i d m) = answer_24 a r role values list l i d m
  look_only (look_0 a r l i d m f) = answer_0 a r role values list l i d m f
