-- Touches of three choices regrouped, (a, b), c against a, (b, c): rotating the marks is one for one, a touch of the one is taken as the
-- rotated touch of the other, and the entries of the other are those of the one with their marks rotated, in the same order. Rests on
-- StrideMaps' map_two, and on no other file on regrouping.
use mathlib.Core.Path.{◌≡◌, refl, sym, ap, ap₂, ◌∙◌}
use mathlib.Core.Option.{Option}
use mathlib.Core.List.{List, [], ◌∷◌, ◌++◌, append_assoc}
use Rattle.decimal.specs.Path.{Mark, first, second, Path}
use Rattle.tophat.specs.Syntax.{Code, or, Env, Store, OrT, TaskOf, either, or_left, or_right}
use Rattle.tophat.specs.Roles.{Who}
use Rattle.tophat.specs.Handling.{Action}
use Rattle.tophat.specs.Showing.{Entry, marked}
use Rattle.tophat.specs.Redrawn.{turned, rotate, path_in, moved}
use Rattle.tophat.proofs.ComputeHandling.{Taken, map_task, at_mark, handle}
use Rattle.tophat.proofs.ComputeEntries.{entries}
use Rattle.tophat.proofs.StrideMaps.{map_two}
use Rattle.tophat.proofs.Rotations.{rotate_back, rotate_rotate_back, rotate_back_rotate}

-- ---- marks, one for one

module _ {A B C : Type 0} where
  -- from the other to the one
  unfoldable pub path_back : OrT (OrT A B) C → Path → Path
  path_back (either (either t u) w) p = rotate_back p
  path_back (either (or_left t) w) p = p
  path_back (either (or_right u) w) p = p
  path_back (or_left y) p = p
  path_back (or_right w) p = p

  pub path_in_path_back : (t : OrT (OrT A B) C) (p : Path) → path_in t (path_back t p) ≡ p
  unfolding path_in path_back
  path_in_path_back (either (either t u) w) p = rotate_rotate_back p
  path_in_path_back (either (or_left t) w) p = refl
  path_in_path_back (either (or_right u) w) p = refl
  path_in_path_back (or_left y) p = refl
  path_in_path_back (or_right w) p = refl

  pub path_back_path_in : (t : OrT (OrT A B) C) (p : Path) → path_back t (path_in t p) ≡ p
  unfolding path_in path_back
  path_back_path_in (either (either t u) w) p = rotate_back_rotate p
  path_back_path_in (either (or_left t) w) p = refl
  path_back_path_in (either (or_right u) w) p = refl
  path_back_path_in (or_left y) p = refl
  path_back_path_in (or_right w) p = refl

-- ---- lists of entries

moved_both : (f : Path → Path) (es gs : List Entry) → moved f (es ++ gs) ≡ moved f es ++ moved f gs
moved_both f [] gs = refl
moved_both f (e ∷ es) gs = ap (λ l. (f e.0, e.1) ∷ l) (moved_both f es gs)

moved_same : (es : List Entry) → moved (λ p. p) es ≡ es
moved_same [] = refl
moved_same (e ∷ es) = ap (λ l. e ∷ l) (moved_same es)

marked_both : (m : Mark) (es gs : List Entry) → marked m (es ++ gs) ≡ marked m es ++ marked m gs
unfolding marked
marked_both m [] gs = refl
marked_both m (e ∷ es) gs = ap (λ l. (m ∷ e.0, e.1) ∷ l) (marked_both m es gs)

moved_11 : (es : List Entry) → moved rotate (marked first (marked first es)) ≡ marked first es
unfolding marked rotate
moved_11 [] = refl
moved_11 (e ∷ es) = ap (λ l. (first ∷ e.0, e.1) ∷ l) (moved_11 es)

moved_12 : (es : List Entry) → moved rotate (marked first (marked second es)) ≡ marked second (marked first es)
unfolding marked rotate
moved_12 [] = refl
moved_12 (e ∷ es) = ap (λ l. (second ∷ first ∷ e.0, e.1) ∷ l) (moved_12 es)

moved_2 : (es : List Entry) → moved rotate (marked second es) ≡ marked second (marked second es)
unfolding marked rotate
moved_2 [] = refl
moved_2 (e ∷ es) = ap (λ l. (second ∷ second ∷ e.0, e.1) ∷ l) (moved_2 es)

-- the entries of two parts and of three, while neither choice is made
two : (es gs : List Entry)
    → moved rotate (marked first (marked first es ++ marked second gs)) ≡ marked first es ++ marked second (marked first gs)
two es gs =
    ap (moved rotate) (marked_both first (marked first es) (marked second gs))
    ∙ moved_both rotate (marked first (marked first es)) (marked first (marked second gs))
    ∙ ap₂ ◌++◌ (moved_11 es) (moved_12 gs)

three : (es gs hs : List Entry)
    → marked first es ++ marked second (marked first gs ++ marked second hs)
    ≡ moved rotate (marked first (marked first es ++ marked second gs) ++ marked second hs)
three es gs hs =
    ap (λ l. marked first es ++ l) (marked_both second (marked first gs) (marked second hs))
    ∙ sym (append_assoc (marked first es) (marked second (marked first gs)) (marked second (marked second hs)))
    ∙ sym (moved_both rotate (marked first (marked first es ++ marked second gs)) (marked second hs) ∙ ap₂ ◌++◌ (two es gs) (moved_2 hs))

-- ---- (a, b), c against a, (b, c)

map_three : {A B C D : Type 0} (f : A → B) (g : B → C) (h : C → D) (o : Option (Taken A))
    → map_task h (map_task g (map_task f o)) ≡ map_task (λ t. h (g (f t))) o
map_three f g h o = map_two g h (map_task f o) ∙ map_two f (λ y. h (g y)) o

module _ (a b c : Code) (ρ : Env) where
  pub handle_turned : (s : Store) (t : TaskOf (or (or a b) c)) (p : Path) (x : Action)
      → handle (or a (or b c)) ρ s (turned t) (path_in t p) x ≡ map_task turned (handle (or (or a b) c) ρ s t p x)
  unfolding handle turned path_in rotate at_mark map_task
  handle_turned s (either (either t u) w) [] x = refl
  handle_turned s (either (either t u) w) (first ∷ []) x = refl
  handle_turned s (either (either t u) w) (first ∷ first ∷ p) x = sym (map_three _ _ _ (handle a ρ s t p x))
  handle_turned s (either (either t u) w) (first ∷ second ∷ p) x =
      map_two _ _ (handle b ρ s u p x) ∙ sym (map_three _ _ _ (handle b ρ s u p x))
  handle_turned s (either (either t u) w) (second ∷ p) x = map_two _ _ (handle c ρ s w p x) ∙ sym (map_two _ _ (handle c ρ s w p x))
  handle_turned s (either (or_left t) w) [] x = refl
  handle_turned s (either (or_left t) w) (first ∷ p) x = sym (map_three _ _ _ (handle a ρ s t p x))
  handle_turned s (either (or_left t) w) (second ∷ p) x = map_two _ _ (handle c ρ s w p x) ∙ sym (map_two _ _ (handle c ρ s w p x))
  handle_turned s (either (or_right u) w) [] x = refl
  handle_turned s (either (or_right u) w) (first ∷ p) x = map_two _ _ (handle b ρ s u p x) ∙ sym (map_three _ _ _ (handle b ρ s u p x))
  handle_turned s (either (or_right u) w) (second ∷ p) x = map_two _ _ (handle c ρ s w p x) ∙ sym (map_two _ _ (handle c ρ s w p x))
  handle_turned s (or_left (either t u)) [] x = refl
  handle_turned s (or_left (either t u)) (first ∷ p) x = sym (map_three _ _ _ (handle a ρ s t p x))
  handle_turned s (or_left (either t u)) (second ∷ p) x = map_two _ _ (handle b ρ s u p x) ∙ sym (map_three _ _ _ (handle b ρ s u p x))
  handle_turned s (or_left (or_left t)) p x = sym (map_three _ _ _ (handle a ρ s t p x))
  handle_turned s (or_left (or_right u)) p x = map_two _ _ (handle b ρ s u p x) ∙ sym (map_three _ _ _ (handle b ρ s u p x))
  handle_turned s (or_right w) p x = map_two _ _ (handle c ρ s w p x) ∙ sym (map_two _ _ (handle c ρ s w p x))

  pub entries_turned : (v : Who) (s : Store) (t : TaskOf (or (or a b) c))
      → entries v (or a (or b c)) ρ s (turned t) ≡ moved (path_in t) (entries v (or (or a b) c) ρ s t)
  unfolding entries turned path_in
  entries_turned v s (either (either t u) w) = three (entries v a ρ s t) (entries v b ρ s u) (entries v c ρ s w)
  entries_turned v s (either (or_left t) w) = sym (moved_same _)
  entries_turned v s (either (or_right u) w) = sym (moved_same _)
  entries_turned v s (or_left (either t u)) = sym (moved_same _)
  entries_turned v s (or_left (or_left t)) = sym (moved_same _)
  entries_turned v s (or_left (or_right u)) = sym (moved_same _)
  entries_turned v s (or_right w) = sym (moved_same _)
