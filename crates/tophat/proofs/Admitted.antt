-- Roles and touches as functions that compute: what is taken where the rows of kind 50 passed admit them, how the forms of `handle` keep that,
-- and what a verdict says (CR 6). Rests on ComputeHandling.
use mathlib.Core.Path.{◌≡◌, refl, sym, ap, ◌∙◌}
use mathlib.Core.Bool.{Bool, true, false, ◌&&◌, cond}
use mathlib.Core.Logic.{◌↔◌}
use mathlib.Core.Option.{Option, none, some}
use mathlib.Core.List.{List, [], ◌∷◌}
use Prim.Native.Nat.{ℕ}
use native.Mathlib.Omega.{arith}
use lib.Dec.{eqb, ltb}
use Rattle.decimal.specs.Path.{first, second, Path}
use Rattle.tophat.specs.Syntax.{GateT, Val, Store}
use Rattle.tophat.specs.Roles.{Gate, other_role, no_touch, of_role, touches_left, verdict, Who, anyone, is, opens, admits}
use Rattle.tophat.specs.Handling.{continue, left, right, Action, give, press}
use Rattle.tophat.specs.Leaves.{Given}
use Rattle.tophat.proofs.Basics.{no_some, some_is, apart}
use Rattle.tophat.proofs.ComputeHandling.{Taken, map_task, pass_gate, then_some, at_editor, at_mark, at_sides, at_continue}

-- ---- what is taken, where the rows of kind 50 passed admit them

unfoldable pub admitted : {A : Type 0} → Who → Option (Taken A) → Option (Taken A)
admitted w none = none
admitted w (some q) = cond (admits w q.2) (some q) none

module _ {A : Type 0} (w : Who) where
  pub admitted_is : {o : Option (Taken A)} {q : Taken A} → o ≡ some q → admits w q.2 ≡ true → admitted w o ≡ some q
  unfolding admitted
  admitted_is e h = rw (e, h)

  pub is_admitted : (o : Option (Taken A)) {q : Taken A} → admitted w o ≡ some q → (o ≡ some q) × (admits w q.2 ≡ true)
  unfolding admitted
  is_admitted none h = no_some h
  is_admitted (some q) h = by (admits w q.2) refl h
    where
      by : (b : Bool) {r : Taken A} → admits w q.2 ≡ b → cond b (some q) none ≡ some r → (some q ≡ some r) × (admits w r.2 ≡ true)
      by true e h = (h, ap (λ r. admits w r.2) (sym (some_is h)) ∙ e)
      by false e h = no_some h

  -- the forms of `handle`
  pub admit_map : {C : Type 0} (K : A → C) (o : Option (Taken A)) → map_task K (admitted w o) ≡ admitted w (map_task K o)
  unfolding admitted map_task
  admit_map K none = refl
  admit_map K (some q) = by (admits w q.2)
    where
      by : (b : Bool) → map_task K (cond b (some q) none) ≡ cond b (some (K q.0, q.1, q.2)) none
      by true = refl
      by false = refl

  pub admit_gate : (r k : ℕ) (o : Option (Taken A)) → cond (opens w (r, k)) (pass_gate r k (admitted w o)) none ≡ admitted w (pass_gate r k o)
  unfolding admitted pass_gate admits
  admit_gate r k none = by (opens w (r, k))
    where
      by : (b : Bool) → ◌≡◌ {A = Option (Taken (GateT A))} (cond b none none) none
      by true = refl
      by false = refl
  admit_gate r k (some q) = by (opens w (r, k)) (admits w q.2)
    where
      by : (b d : Bool) → cond b (pass_gate r k (cond d (some q) none)) none ≡ cond (b && d) (pass_gate r k (some q)) none
      by true true = refl
      by true false = refl
      by false d = refl

  pub admit_editor : (p : Path) (x : Action) (f : List Given → Option (Taken A)) → ((ls : List Given) → f ls ≡ admitted w (f ls)) → at_editor p x f ≡ admitted w (at_editor p x f)
  unfolding admitted at_editor
  admit_editor [] (give ls) f h = h ls
  admit_editor [] (press b) f h = refl
  admit_editor (m ∷ p) x f h = refl

  pub admit_given : (o : Option Val) (K : Val → A) (S : Val → Store) → then_some o (λ v. (K v, S v, [])) ≡ admitted w (then_some o (λ v. (K v, S v, [])))
  unfolding admitted then_some admits
  admit_given none K S = refl
  admit_given (some v) K S = refl

  pub admit_mark : (p : Path) (f g : Path → Option (Taken A)) → at_mark p (λ q. admitted w (f q)) (λ q. admitted w (g q)) ≡ admitted w (at_mark p f g)
  unfolding admitted at_mark
  admit_mark [] f g = refl
  admit_mark (first ∷ p) f g = refl
  admit_mark (second ∷ p) f g = refl

  pub admit_sides : (p : Path) (x : Action) (f g : Unit {0} → Option (Taken A)) → at_sides p x (λ i. admitted w (f i)) (λ i. admitted w (g i)) ≡ admitted w (at_sides p x f g)
  unfolding admitted at_sides
  admit_sides [] (give ls) f g = refl
  admit_sides [] (press continue) f g = refl
  admit_sides [] (press left) f g = refl
  admit_sides [] (press right) f g = refl
  admit_sides (m ∷ p) x f g = refl

  pub admit_continue : (p : Path) (x : Action) (o : Option Val) (f : Val → Option (Taken A)) (g : Unit {0} → Option (Taken A))
      → at_continue p x o (λ v. admitted w (f v)) (λ i. admitted w (g i)) ≡ admitted w (at_continue p x o f g)
  unfolding at_continue
  admit_continue [] (give ls) o f g = refl
  admit_continue [] (press continue) none f g = refl
  admit_continue [] (press continue) (some v) f g = refl
  admit_continue [] (press left) o f g = refl
  admit_continue [] (press right) o f g = refl
  admit_continue (m ∷ p) x o f g = refl

-- ---- verdicts

-- anyone is admitted
pub admits_anyone : (gs : List Gate) → admits anyone gs ≡ true
unfolding admits opens
admits_anyone [] = refl
admits_anyone (g ∷ gs) = admits_anyone gs

-- a role is admitted where all have the role, and a touch left
pub admits_role : (r : ℕ) (gs : List Gate) → admits (is r) gs ≡ of_role r gs && touches_left gs
unfolding admits opens of_role touches_left
admits_role r [] = refl
admits_role r (g ∷ gs) = let e = admits_role r gs in rw e (by (eqb r g.0) (ltb 0 g.1) (of_role r gs) (touches_left gs))
  where
    by : (a b c d : Bool) → (a && b) && (c && d) ≡ (a && c) && (b && d)
    by true true c d = refl
    by true false true d = refl
    by true false false d = refl
    by false b c d = refl

-- ... which is the verdict 0
pub verdict_admits : (r : ℕ) (gs : List Gate) → (verdict r gs ≡ 0) ↔ (admits (is r) gs ≡ true)
unfolding verdict
verdict_admits r gs = let e = admits_role r gs in rw e (by (of_role r gs) (touches_left gs))
  where
    by : (a b : Bool) → (cond a (cond b 0 no_touch) other_role ≡ 0) ↔ (a && b ≡ true)
    by true true = (λ h. refl, λ h. refl)
    by true false = (λ h. absurd (omega arith), λ h. apart h refl)
    by false b = (λ h. absurd (omega arith), λ h. apart h refl)

-- no verdict is 9
pub verdict_told : (r : ℕ) (gs : List Gate) → verdict r gs ≡ 9 → ⊥
unfolding verdict
verdict_told r gs = by (of_role r gs) (touches_left gs)
  where
    by : (a b : Bool) → cond a (cond b 0 no_touch) other_role ≡ 9 → ⊥
    by true true h = omega arith
    by true false h = omega arith
    by false b h = omega arith

-- where no row of kind 50 is passed, it is 0
pub verdict_none : (r : ℕ) → verdict r [] ≡ 0
unfolding verdict of_role touches_left
verdict_none r = refl
