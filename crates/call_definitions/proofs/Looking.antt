-- What look answers at a rest with a value memory of its size: grounds 8 and 24, and a look with room. Rests on Opening.
use mathlib.Core.Path.{◌≡◌, refl, ap, ◌∙◌}
use mathlib.Core.Bool.{Bool, true, false}
use mathlib.Core.List.{List, [], ◌++◌}
use Prim.Native.Nat.{ℕ, ◌*◌, ◌<◌, ◌≤◌}
use borrow.Author.Tests.{le-leb, lt-leb, eq-eqb}
use lib.Dec.{leb}
use lib.IntN.{ℤ}
use lib.ListN.{length, drop}
use Rattle.tophat.specs.Syntax.{max_leaves, Ty, Code}
use Rattle.tophat.specs.Showing.{Entry}
use Rattle.tophat.proofs.ComputeEntries.{entries}
use Rattle.tophat.proofs.NormalisingComplete.{fails_is}
use Rattle.tophat.proofs.EntriesAgree.{shows_is}
use Rattle.tophat.specs.Roles.{IsRole, is}
use Rattle.formats.specs.Touches.{entry_bytes}
use Rattle.formats.specs.Lists.{list_text}
use Rattle.formats.proofs.Roles.{is_role_lem, not_role}
use Rattle.rows.specs.GroundNumbers.{event_not_read, list_too_short}
use Rattle.call_definitions.specs.Memory.{LookAnswer, look_refusal, flag, value_memory, has_one}
use Rattle.call_definitions.specs.States.{FlowState, value_in, FailsIn, ShowsIn}
use Rattle.call_definitions.specs.Answers.{AcceptedFlow, IsRest}
use Rattle.call_definitions.specs.Calls.{rest_of, opened, look_rest, look_in, look_call}
use Rattle.call_definitions.proofs.Opening.{opens}

-- what a look with room answers
abbrev pub looking : FlowState → List Entry → Bool → List ℕ → LookAnswer
looking z es x list = record {
  number = 0;
  has_value = has_one (value_in z);
  fails = flag x;
  value = value_memory (value_in z);
  part = list_text es;
  list = list_text es ++ drop (length (list_text es)) list;
}

module _ {rows ws : List ℤ} {c : Code} {Σ : List Ty} {τ : Ty} (a : AcceptedFlow rows c Σ τ) (r : IsRest rows ws c Σ τ) (role : ℕ) (values : List ℤ) (list : List ℕ) (l : length values ≡ max_leaves) where
  abbrev z : FlowState
  z = r.state

  abbrev es : List Entry
  es = entries (is role) z.code [] z.store z.task

  pub rest_look : look_call rows ws role values list ≡ look_in role values list (rest_of z)
  unfolding look_call
  rest_look = ap (λ b. look_in role values list (opened rows ws b)) (eq-eqb (length values) max_leaves l) ∙ ap (look_in role values list) (opens a r.writes r.still)

  pub answer_8 : (IsRole role → ⊥) → look_call rows ws role values list ≡ look_refusal event_not_read values list
  unfolding look_in
  answer_8 n = let b = not_role role n in rest_look ∙ rw b refl

  module _ (i : IsRole role) {xs : List Entry} (d : ShowsIn (is role) z xs) where
    role_look : look_call rows ws role values list ≡ look_rest role values list z
    unfolding look_in
    role_look = let b = is_role_lem role i in rest_look ∙ rw b refl

    pub answer_24 : length list < length xs * entry_bytes → look_call rows ws role values list ≡ look_refusal list_too_short values list
    unfolding look_rest
    answer_24 m =
        let b : leb (length es * entry_bytes) (length list) ≡ false = ap (λ es. leb (length es * entry_bytes) (length list)) (shows_is d) ∙ lt-leb _ _ m in
        role_look ∙ rw b refl

    pub answer_0 : {x : Bool} → length xs * entry_bytes ≤ length list → FailsIn z x → look_call rows ws role values list ≡ looking z xs x list
    unfolding look_rest
    answer_0 m f =
        let b : leb (length es * entry_bytes) (length list) ≡ true = ap (λ es. leb (length es * entry_bytes) (length list)) (shows_is d) ∙ le-leb _ _ m in
        role_look ∙ rw b (λ j. looking z (shows_is d j) (fails_is f j) list)
