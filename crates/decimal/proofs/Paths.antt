-- THE THEOREM of paths: in every width, 01's 16 columns among them, bytes read as a path exactly where they are what writing it gives,
-- or all spaces for the empty path (CR 2).
-- Rests on proofs/Justified.antt.
use Prim.Native.Nat.{ℕ, ◌+◌}
use mathlib.Core.Path.{◌≡◌, refl, sym, ap, ◌∙◌}
use mathlib.Core.List.{List, [], ◌∷◌}
use mathlib.Core.Option.{Option, none, some, some-injective}
use mathlib.Core.Logic.{◌↔◌, ◌⊎◌, inl, inr, ⊎_elim}
use native.Mathlib.Omega.{arith}
use borrow.Author.Tests.{eqb-true}
use borrow.Table.Steps.{cases}
use lib.Dec.{eqb}
use lib.ListN.{length, replicate}
use Rattle.decimal.specs.Field.{space, nought, justified, trimmed}
use Rattle.decimal.specs.Path.{Mark, first, second, Path, path_columns, marks_text, path_text, written_path, outside, marks, empty_alone, path_in, reads_path}
use Rattle.decimal.proofs.Justified.{trimmed_blank, justified_length, justified_trimmed}

-- ---- digits 1 and 2

pub marks_text_lem : (p : Path) → marks (marks_text p) ≡ some p
unfolding marks marks_text
marks_text_lem [] = refl
marks_text_lem (first ∷ p) = ap (outside (some first)) (marks_text_lem p)
marks_text_lem (second ∷ p) = ap (outside (some second)) (marks_text_lem p)

never : {p : Path} → ◌≡◌ {A = Option Path} none (some p) → ⊥
never e = let z : ◌≡◌ {A = ℕ} 0 1 = cc in omega arith

outside_only : (m : Mark) (o : Option Path) (p : Path) → outside (some m) o ≡ some p → (q : Path) × (o ≡ some q) × (p ≡ m ∷ q)
outside_only m none p h = absurd (never h)
outside_only m (some q) p h = (q, refl, sym (some-injective (m ∷ q) p h))

pub marks_only : (t : List ℕ) (p : Path) → marks t ≡ some p → t ≡ marks_text p
unfolding marks marks_text
marks_only [] p h = ap marks_text (some-injective [] p h)
marks_only (b ∷ t) p h = cases (eqb b (nought + 1))
    (λ e. let r = outside_only first (marks t) p (rw e at h) in
    (λ i. eqb-true b (nought + 1) e i ∷ marks_only t r.0 r.1 i) ∙ ap marks_text (sym r.2))
    (λ e. cases (eqb b (nought + 2))
    (λ f. let r = outside_only second (marks t) p (rw (e, f) at h) in
    (λ i. eqb-true b (nought + 2) f i ∷ marks_only t r.0 r.1 i) ∙ ap marks_text (sym r.2))
    (λ f. absurd (never (rw (e, f) at h))))

-- ---- texts without spaces

pub path_trimmed : (p : Path) → trimmed (path_text p) ≡ path_text p
unfolding trimmed path_text marks_text
path_trimmed [] = refl
path_trimmed (first ∷ p) = refl
path_trimmed (second ∷ p) = refl

pub path_text_lem : (p : Path) → path_in (path_text p) ≡ some p
unfolding path_in path_text marks_text
path_text_lem [] = refl
path_text_lem (first ∷ p) = marks_text_lem (first ∷ p)
path_text_lem (second ∷ p) = marks_text_lem (second ∷ p)

some_text : (b : ℕ) (t : List ℕ) (p : Path) → b ∷ t ≡ marks_text p → b ∷ t ≡ path_text p
unfolding path_text marks_text
some_text b t [] h = let z : ◌≡◌ {A = ℕ} 0 1 = cc in absurd (omega arith)
some_text b t (m ∷ p) h = h

empty_text : (t : List ℕ) (p : Path) → empty_alone t ≡ some p → nought ∷ t ≡ path_text p
unfolding path_text
empty_text [] p h = ap path_text (some-injective [] p h)
empty_text (b ∷ t) p h = absurd (never h)

-- its text, or nothing for the empty path (CR 2)
pub path_only : (t : List ℕ) (p : Path) → path_in t ≡ some p → (t ≡ path_text p) ⊎ ((t ≡ []) × (p ≡ []))
unfolding path_in
path_only [] p h = inr (refl, sym (some-injective [] p h))
path_only (b ∷ t) p h = inl (cases (eqb b nought)
    (λ e. ap (λ c. c ∷ t) (eqb-true b nought e) ∙ empty_text t p (rw e at h))
    (λ e. some_text b t p (marks_only (b ∷ t) p (rw e at h))))

-- ---- the theorem

pub reads_path_written : (w : ℕ) (bs : List ℕ) (p : Path) → length bs ≡ w
    → (reads_path bs ≡ some p) ↔ ((justified w (path_text p) ≡ some bs) ⊎ ((p ≡ []) × (bs ≡ replicate (length bs) space)))
unfolding path_in
reads_path_written w bs p l = (there, ⊎_elim back (λ h. ap path_in ((trimmed_blank bs).1 h.1) ∙ ap some (sym h.0)))
  where
    there : reads_path bs ≡ some p → (justified w (path_text p) ≡ some bs) ⊎ ((p ≡ []) × (bs ≡ replicate (length bs) space))
    there h = ⊎_elim (λ e. inl ((justified_trimmed w (path_text p) bs (path_trimmed p) l).0 e)) (λ e. inr (e.1, (trimmed_blank bs).0 e.0)) (path_only (trimmed bs) p h)

    back : justified w (path_text p) ≡ some bs → reads_path bs ≡ some p
    back h = ap path_in ((justified_trimmed w (path_text p) bs (path_trimmed p) l).1 h) ∙ path_text_lem p

-- what was written reads as the path that it was written for
pub written_reads_path : (bs : List ℕ) (p : Path) → written_path p ≡ some bs → reads_path bs ≡ some p
written_reads_path bs p h = (reads_path_written path_columns bs p (justified_length path_columns (path_text p) bs h)).1 (inl h)
