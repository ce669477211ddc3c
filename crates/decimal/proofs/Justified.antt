-- Right-justified texts: one lemma over the width says which bytes they are, whatever the text (01, "right-justified after spaces").
-- Rests on the definitions of specs/Field.antt alone.
use Prim.Native.Nat.{ℕ, zero, suc, ◌+◌, ◌-◌}
use mathlib.Core.Path.{◌≡◌, refl, sym, ap, ◌∙◌}
use mathlib.Core.List.{List, [], ◌∷◌, ◌++◌, append-nil}
use mathlib.Core.Option.{Option, none, some, some-injective}
use mathlib.Core.Logic.{◌↔◌}
use native.Mathlib.Omega.{arith}
use borrow.Author.Tests.{eqb-true, le-leb, leb-true}
use borrow.Table.Steps.{cases}
use lib.Dec.{leb, eqb}
use lib.ListN.{length, replicate, length-append, length-replicate}
use Rattle.decimal.specs.Field.{space, trimmed, justified}

-- spaces in front are taken off
pub trimmed_spaces : (k : ℕ) (t : List ℕ) → trimmed (replicate k space ++ t) ≡ trimmed t
unfolding trimmed
trimmed_spaces zero t = refl
trimmed_spaces (suc k) t = trimmed_spaces k t

-- and nothing else is
pub trimmed_rest : (bs : List ℕ) → (k : ℕ) × (bs ≡ replicate k space ++ trimmed bs)
unfolding trimmed
trimmed_rest [] = (0, refl)
trimmed_rest (b ∷ bs) = cases (eqb b space)
    (λ e. let r = trimmed_rest bs in (suc r.0, rw e ((λ i. eqb-true b space e i ∷ r.1 i))))
    (λ e. (0, rw e refl))

-- nothing is left exactly of bytes that are spaces
pub trimmed_blank : (bs : List ℕ) → (trimmed bs ≡ []) ↔ (bs ≡ replicate (length bs) space)
unfolding trimmed
trimmed_blank bs = (there, back)
  where
    there : trimmed bs ≡ [] → bs ≡ replicate (length bs) space
    there h =
        let (k, e) = trimmed_rest bs in
        let g : bs ≡ replicate k space = e ∙ ap (λ t. replicate k space ++ t) h ∙ append-nil (replicate k space) in
        g ∙ ap (λ n. replicate n space) (sym (ap length g ∙ length-replicate k space))

    back : bs ≡ replicate (length bs) space → trimmed bs ≡ []
    back h = ap trimmed (h ∙ sym (append-nil (replicate (length bs) space))) ∙ trimmed_spaces (length bs) []

-- a text in its columns
pub justified_is : (k : ℕ) (t : List ℕ) → justified (k + length t) t ≡ some (replicate k space ++ t)
unfolding justified
justified_is k t =
    let e : k + length t - length t ≡ k = omega arith in
    rw (le-leb (length t) (k + length t) (omega arith), e)

pub justified_only : (w : ℕ) (t bs : List ℕ) → justified w t ≡ some bs → (k : ℕ) × (w ≡ k + length t) × (bs ≡ replicate k space ++ t)
unfolding justified
justified_only w t bs h = cases (leb (length t) w)
    (λ e. (w - length t, omega (arith, leb-true (length t) w e), sym (some-injective _ _ (rw e at h))))
    (λ e. absurd (none_some (rw e at h)))
  where
    none_some : ◌≡◌ {A = Option (List ℕ)} none (some bs) → ⊥
    none_some p = let z : ◌≡◌ {A = ℕ} 0 1 = cc in omega arith

-- what a text is justified to has the field's width
pub justified_length : (w : ℕ) (t bs : List ℕ) → justified w t ≡ some bs → length bs ≡ w
justified_length w t bs h =
    let j = justified_only w t bs h in
    ap length j.2 ∙ length-append (replicate j.0 space) t ∙ ap (λ k. k + length t) (length-replicate j.0 space) ∙ sym j.1

-- THE LEMMA over the width: bytes hold the text t after their spaces exactly where they are t justified
pub justified_trimmed : (w : ℕ) (t bs : List ℕ) → trimmed t ≡ t → length bs ≡ w → (trimmed bs ≡ t) ↔ (justified w t ≡ some bs)
justified_trimmed w t bs e l = (there, back)
  where
    there : trimmed bs ≡ t → justified w t ≡ some bs
    there h =
        let r = trimmed_rest bs in
        let g : bs ≡ replicate r.0 space ++ t = r.1 ∙ ap (λ u. replicate r.0 space ++ u) h in
        let n : w ≡ r.0 + length t = sym l ∙ ap length g ∙ length-append (replicate r.0 space) t ∙ ap (λ k. k + length t) (length-replicate r.0 space) in
        ap (λ k. justified k t) n ∙ justified_is r.0 t ∙ ap some (sym g)

    back : justified w t ≡ some bs → trimmed bs ≡ t
    back h = let j = justified_only w t bs h in ap trimmed j.2 ∙ trimmed_spaces j.0 t ∙ e
