-- Blank leaves (CR 2): an event that is taken is taken alike with a 0 in place of any blank; a blank where the editor's type has a leaf
-- gives no value, and elsewhere it is as 0. Rests on Leaves.
use mathlib.Core.Path.{◌≡◌, refl, sym, ap, ap₂, ◌∙◌, subst}
use mathlib.Core.Bool.{◌&&◌, cond}
use mathlib.Core.Option.{Option, none, some}
use mathlib.Core.List.{List, [], ◌∷◌, ◌++◌, map}
use Prim.Native.Nat.{ℕ, zero, suc, ◌-◌, ◌<◌, ◌≤◌}
use native.Mathlib.Omega.{arith}
use borrow.Author.Tests.{leb-true, leb-false}
use borrow.Table.Steps.{cases}
use lib.Dec.{leb}
use lib.IntN.{ℤ, pos}
use lib.ListN.{length, get_or, replicate, length-append, length-map}
use Rattle.decimal.specs.Path.{Path}
use Rattle.tophat.specs.Syntax.{max_leaves, Ty, leaves, Code, Val, Env, Store, TaskOf}
use Rattle.tophat.specs.Leaves.{leaves_of, padded, Given, Unused, u_end, u_zero, u_blank, Gives, Leaf, no_leaf, unit_leaf, truth_leaf, number_leaf, leaf_kinds, Meets, m_end, m_none, m_blank, m_unit, m_false, m_true, m_number, value_of, meets_leaf, meets, number_given, given}
use Rattle.tophat.specs.Roles.{Gate}
use Rattle.tophat.specs.Handling.{Button, Action, give, press, Handles, h_change, h_fill, h_update, h_pass_then, h_pass_next, h_next}
use Rattle.tophat.specs.Handling.{h_first_and, h_second_and, h_first_or, h_second_or, h_pick_left, h_pick_right, h_became, h_gate}
use Rattle.tophat.proofs.Leaves.{length_kinds, length_leaves, given_gives}

-- ---- any zeros left blank

pub data Blanked : List Given → List Given → Type 0 where
  all : Blanked [] []
  kept : (l : Given) {ls ms : List Given} → Blanked ls ms → Blanked (l ∷ ls) (l ∷ ms)
  left_blank : {ls ms : List Given} → Blanked ls ms → Blanked (some (pos 0) ∷ ls) (none ∷ ms)

pub data BlankedAction : Action → Action → Type 0 where
  in_leaves : {ls ms : List Given} → Blanked ls ms → BlankedAction (give ls) (give ms)
  in_none : {b : Button} → BlankedAction (press b) (press b)

-- what is taken with blanks is taken with the zeros, and comes to the same

unused_filled : {n : ℕ} {ls ms : List Given} → Unused n ms → Blanked ls ms → Unused n ls
unused_filled u_end all = u_end
unused_filled (u_zero u) (kept _ d) = u_zero (unused_filled u d)
unused_filled (u_blank u) (kept _ d) = u_blank (unused_filled u d)
unused_filled (u_blank u) (left_blank d) = u_zero (unused_filled u d)

record Behind (ns : List ℤ) (us ls : List Given) : Type 0 where
  rest : List Given
  is : ls ≡ map some ns ++ rest
  blanked : Blanked rest us

behind : (ns : List ℤ) (us : List Given) {ls : List Given} → Blanked ls (map some ns ++ us) → Behind ns us ls
behind [] us {ls} d = record { rest = ls; is = refl; blanked = d }
behind (n ∷ ns) us (kept _ d) = let p = behind ns us d in record { rest = p.rest; is = ap (λ ls. some n ∷ ls) p.is; blanked = p.blanked }

gives_filled : {ls ms : List Given} {τ : Ty} {v : Val} → Gives ms τ v → Blanked ls ms → Gives ls τ v
gives_filled {ls} {v = v} g d =
    let p = behind (leaves_of v) g.others (subst (Blanked ls) g.split d) in
    record { typed = g.typed; others = p.rest; split = p.is; unused = unused_filled g.unused p.blanked }

pub handles_filled : {c : Code} {ρ : Env} {s s₁ : Store} {t t₁ : TaskOf c} {p : Path} {x y : Action} {gs : List Gate} → Handles c ρ s t p y t₁ s₁ gs → BlankedAction x y → Handles c ρ s t p x t₁ s₁ gs
handles_filled (h_change h g) (in_leaves d) = h_change h (gives_filled g d)
handles_filled (h_fill g) (in_leaves d) = h_fill (gives_filled g d)
handles_filled (h_update a h g) (in_leaves d) = h_update a h (gives_filled g d)
handles_filled (h_pass_then k) b = h_pass_then (handles_filled k b)
handles_filled (h_pass_next k) b = h_pass_next (handles_filled k b)
handles_filled (h_next v e f) in_none = h_next v e f
handles_filled (h_first_and k) b = h_first_and (handles_filled k b)
handles_filled (h_second_and k) b = h_second_and (handles_filled k b)
handles_filled (h_first_or k) b = h_first_or (handles_filled k b)
handles_filled (h_second_or k) b = h_second_or (handles_filled k b)
handles_filled (h_pick_left e n f) in_none = h_pick_left e n f
handles_filled (h_pick_right e n f) in_none = h_pick_right e n f
handles_filled (h_became m k) b = h_became m (handles_filled k b)
handles_filled (h_gate k) b = h_gate (handles_filled k b)

-- leaves that meet kinds meet them still, where only leaves of kind 0 are left blank
pub meets_blanked : {ks : List Leaf} {ls ms : List Given} → Meets ks ls → Blanked ls ms → ((j : ℕ) → get_or ms j (some (pos 0)) ≡ none → get_or ks j no_leaf ≡ no_leaf) → Meets ks ms
meets_blanked m_end all h = m_end
meets_blanked (m_none d) (kept _ b) h = m_none (meets_blanked d b (λ j. h (suc j)))
meets_blanked (m_none d) (left_blank b) h = m_blank (meets_blanked d b (λ j. h (suc j)))
meets_blanked (m_blank d) (kept _ b) h = m_blank (meets_blanked d b (λ j. h (suc j)))
meets_blanked (m_unit d) (kept _ b) h = m_unit (meets_blanked d b (λ j. h (suc j)))
meets_blanked (m_unit d) (left_blank b) h = let e = h 0 refl in let z : ◌≡◌ {A = ℕ} 0 1 = cc in absurd (omega arith)
meets_blanked (m_false d) (kept _ b) h = m_false (meets_blanked d b (λ j. h (suc j)))
meets_blanked (m_false d) (left_blank b) h = let e = h 0 refl in let z : ◌≡◌ {A = ℕ} 0 1 = cc in absurd (omega arith)
meets_blanked (m_true d) (kept _ b) h = m_true (meets_blanked d b (λ j. h (suc j)))
meets_blanked (m_number w d) (kept _ b) h = m_number w (meets_blanked d b (λ j. h (suc j)))
meets_blanked (m_number w d) (left_blank b) h = let e = h 0 refl in let z : ◌≡◌ {A = ℕ} 0 1 = cc in absurd (omega arith)

-- ---- a blank where the type has a leaf gives no value

leaf_there : (ns : List ℤ) (ls : List Given) (j : ℕ) → j < length ns → get_or (map some ns ++ ls) j (some (pos 0)) ≡ none → ⊥
leaf_there [] ls j l e = omega arith
leaf_there (n ∷ ns) ls zero l e = let z : ◌≡◌ {A = ℕ} 0 1 = cc in omega arith
leaf_there (n ∷ ns) ls (suc j) l e = leaf_there ns ls j (omega arith) e

pub blank_refused : (τ : Ty) (ls : List Given) (j : ℕ) → j < leaves τ → (j < length ls → get_or ls j (some (pos 0)) ≡ none) → given τ ls ≡ none
blank_refused τ ls j l e = by (given τ ls) refl
  where
    by : (o : Option Val) → given τ ls ≡ o → o ≡ none
    by none h = refl
    by (some v) h =
        let g = given_gives τ h in
        let n = length_leaves g.typed in
        let m = ap length g.split ∙ length-append (map some (leaves_of v)) g.others in
        let k = length-map (leaves_of v) some in
        absurd (leaf_there (leaves_of v) g.others j (omega (arith, n, l)) (ap (λ ls. get_or ls j (some (pos 0))) (sym g.split) ∙ e (omega (arith, n, m, k, l))))

-- ---- elsewhere it is as 0

-- a 0 in place of each blank
unfoldable pub zeroed : Given → Given
zeroed none = some (pos 0)
zeroed (some n) = some n

same_leaf : (k : Leaf) (l : Given) → (l ≡ none → k ≡ no_leaf) → meets_leaf k (zeroed l) ≡ meets_leaf k l
unfolding meets_leaf zeroed
same_leaf no_leaf none h = refl
same_leaf unit_leaf none h = let e = h refl in let z : ◌≡◌ {A = ℕ} 0 1 = cc in absurd (omega arith)
same_leaf truth_leaf none h = let e = h refl in let z : ◌≡◌ {A = ℕ} 0 1 = cc in absurd (omega arith)
same_leaf number_leaf none h = let e = h refl in let z : ◌≡◌ {A = ℕ} 0 1 = cc in absurd (omega arith)
same_leaf k (some n) h = refl

same_meets : (ks : List Leaf) (ls : List Given) → ((j : ℕ) → get_or ls j (some (pos 0)) ≡ none → get_or ks j no_leaf ≡ no_leaf) → meets ks (map zeroed ls) ≡ meets ks ls
unfolding meets
same_meets [] [] h = refl
same_meets [] (l ∷ ls) h = refl
same_meets (k ∷ ks) [] h = refl
same_meets (k ∷ ks) (l ∷ ls) h = ap₂ ◌&&◌ (same_leaf k l (h 0)) (same_meets ks ls (λ j. h (suc j)))

same_numbers : (ls : List Given) → map number_given (map zeroed ls) ≡ map number_given ls
unfolding number_given zeroed
same_numbers [] = refl
same_numbers (none ∷ ls) = ap (λ ms. pos 0 ∷ ms) (same_numbers ls)
same_numbers (some n ∷ ls) = ap (λ ms. n ∷ ms) (same_numbers ls)

past_end : {X : Type 0} (xs : List X) (n : ℕ) (d : X) (j : ℕ) → length xs ≤ j → get_or (xs ++ replicate n d) j d ≡ d
past_end [] zero d j l = refl
past_end [] (suc n) d zero l = refl
past_end [] (suc n) d (suc j) l = past_end [] n d j (omega arith)
past_end (x ∷ xs) n d zero l = absurd (omega arith)
past_end (x ∷ xs) n d (suc j) l = past_end xs n d j (omega arith)

pub given_zeroed : (τ : Ty) (ls : List Given) → ((j : ℕ) → j < leaves τ → get_or ls j (some (pos 0)) ≡ none → ⊥) → given τ (map zeroed ls) ≡ given τ ls
unfolding given padded
given_zeroed τ ls h =
    let ks = leaf_kinds τ in
    let m = same_meets (ks ++ replicate (max_leaves - length ks) no_leaf) ls (λ j e. past_end ks (max_leaves - length ks) no_leaf j (by j e)) in
    ap₂ (λ b ns. cond b (some (value_of τ ns)) none) m (same_numbers ls)
  where
    by : (j : ℕ) → get_or ls j (some (pos 0)) ≡ none → length (leaf_kinds τ) ≤ j
    by j e = let n = length (leaf_kinds τ) in cases (leb n j) (λ y. leb-true n j y) (λ y. absurd (h j (omega (arith, length_kinds τ, leb-false n j y)) e))
