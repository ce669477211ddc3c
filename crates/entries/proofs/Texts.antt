-- The bytes of entries: a button's and an editor's entry; entries one after another, and under marks. Rests on crate formats' lists.
use mathlib.Core.Path.{◌≡◌, refl, sym, ap, ap₂, ◌∙◌}
use mathlib.Core.Bool.{Bool, true, false, cond}
use mathlib.Core.List.{List, [], ◌∷◌, ◌++◌, map, append_assoc, append-nil}
use Prim.Native.Nat.{ℕ, zero, suc, ◌+◌, ◌-◌, ◌≤◌}
use native.Mathlib.Omega.{arith}
use lib.ListN.{length, replicate, length-map}
use Rattle.decimal.specs.Path.{Mark, Path, max_marks}
use Rattle.tophat.specs.Syntax.{max_leaves, Ty, leaves}
use Rattle.tophat.specs.Handling.{Button, giving, pressing, act_number}
use Rattle.tophat.specs.Leaves.{padded, Leaf, no_leaf, leaf_kinds, leaf_number}
use Rattle.tophat.specs.Showing.{Entry, marked, offers, button_if}
use Rattle.shape.specs.Shape.{as_shape, kinds_of}
use Rattle.shape.proofs.Shapes.{kinds_of_lem}
use Rattle.formats.specs.Lists.{offer_act, offer_kinds, no_kinds, numbers_entry, entry_text, list_text, under, Fits, fit_none, fit_more}

-- ---- entries

pub button_text_lem : (p : Path) (x : Bool) (b : Button) → list_text (under p (button_if x b)) ≡ cond x (numbers_entry p (act_number (pressing b)) no_kinds) []
unfolding button_if list_text under entry_text offer_act offer_kinds
button_text_lem p true b = append-nil _ ∙ ap (λ q. numbers_entry q (act_number (pressing b)) no_kinds) (append-nil p)
button_text_lem p false b = refl

map_padded : (f : Leaf → ℕ) (n : ℕ) (xs : List Leaf) → map f (xs ++ replicate n no_leaf) ≡ map f xs ++ replicate n (f no_leaf)
map_padded f zero [] = refl
map_padded f (suc n) [] = ap (λ l. f no_leaf ∷ l) (map_padded f n [])
map_padded f n (x ∷ xs) = ap (λ l. f x ∷ l) (map_padded f n xs)

pub offer_text : (p : Path) (τ : Ty) → leaves τ ≤ max_leaves → list_text (under p (offers τ)) ≡ numbers_entry p (act_number giving) (kinds_of (as_shape τ))
unfolding offers list_text under entry_text offer_act offer_kinds padded
offer_text p τ h = append-nil _
    ∙ ap₂ (λ q ks. numbers_entry q (act_number giving) ks) (append-nil p)
    (map_padded leaf_number (max_leaves - length (leaf_kinds τ)) (leaf_kinds τ) ∙ ap (λ n. map leaf_number (leaf_kinds τ) ++ replicate (max_leaves - n) 0) (sym (length-map (leaf_kinds τ) leaf_number)) ∙ sym (kinds_of_lem τ h))

-- ---- one after another

pub text_after : (p : Path) (es fs : List Entry) → list_text (under p (es ++ fs)) ≡ list_text (under p es) ++ list_text (under p fs)
unfolding list_text under
text_after p [] fs = refl
text_after p (e ∷ es) fs = ap (λ l. entry_text (p ++ e.0, e.1) ++ l) (text_after p es fs) ∙ sym (append_assoc (entry_text (p ++ e.0, e.1)) (list_text (under p es)) (list_text (under p fs)))

pub under_mark : (p : Path) (m : Mark) (es : List Entry) → under p (marked m es) ≡ under (p ++ m ∷ []) es
unfolding under marked
under_mark p m [] = refl
under_mark p m (e ∷ es) = ap₂ (λ q es. (q, e.1) ∷ es) (sym (append_assoc p (m ∷ []) e.0)) (under_mark p m es)

pub under_none : (es : List Entry) → under [] es ≡ es
unfolding under
under_none [] = refl
under_none (e ∷ es) = ap (λ es. e ∷ es) (under_none es)

-- ---- entries that can be written

pub fit_left : (k : ℕ) (es fs : List Entry) → Fits k (es ++ fs) → Fits k es
fit_left k [] fs h = fit_none
fit_left k (e ∷ es) fs (fit_more l a h) = fit_more l a (fit_left k es fs h)

pub fit_right : (k : ℕ) (es fs : List Entry) → Fits k (es ++ fs) → Fits k fs
fit_right k [] fs h = h
fit_right k (e ∷ es) fs (fit_more l a h) = fit_right k es fs h

pub fit_inner : (k : ℕ) (m : Mark) (es : List Entry) → Fits k (marked m es) → Fits (k + 1) es
unfolding marked
fit_inner k m [] h = fit_none
fit_inner k m (e ∷ es) (fit_more l a h) = fit_more {e = e} (omega arith) a (fit_inner k m es h)

-- no mark more fits
pub fit_full : (k : ℕ) (m : Mark) (es : List Entry) → max_marks ≤ k → Fits k (marked m es) → marked m es ≡ []
unfolding marked
fit_full k m [] l h = refl
fit_full k m (e ∷ es) l (fit_more g a h) = absurd (omega arith)
