-- Ground 6's counts from below are what encloses: a row's count of binders is the most that stand around a row under it, its
-- count of marks likewise; a type row's count of leaves is that of its type. Rests on Enclosing and Places.
use mathlib.Core.Path.{◌≡◌, refl, sym, subst, ◌∙◌}
use mathlib.Core.Bool.{Bool, true, false, ◌||◌, cond}
use mathlib.Core.Logic.{⊎_elim}
use mathlib.Core.List.{List}
use Prim.Native.Nat.{ℕ, zero, suc, ◌<◌, ◌≤◌, max}
use native.Mathlib.Nat.{le-max_left, le-max_right, max-eq_left, max-eq_right, le_of_lt}
use native.Mathlib.Omega.{arith}
use lib.Dec.{leb}
use lib.ListN.{get_or}
use borrow.Author.Tests.{leb-true, le-leb}
use Rattle.match_laws.proofs.Ranges.{and_left, and_right}
use Rattle.tophat.specs.Syntax.{Ty, max_leaves, leaves}
use Rattle.rows.specs.Kinds.{is, as_b, Sort, type_s, basic_s, cell_s, plain_s, task_s, Asks, asks, no_asks, asks_of}
use Rattle.rows.specs.Rows.{op_a, op_b, op_c, every, names, sort_number, same_sort, sort_by, sort_below, asks_at}
use Rattle.rows.specs.Ground.{Small}
use Rattle.rows.specs.Enclosing.{max_binders, max_marks, Under, here, most_binders, most_marks, counts, leaves_by, row_small}
use Rattle.rows.specs.Trees.{ReadsType, r_unit, r_truth, r_number, r_pair}
use Rattle.rows.proofs.Basics.{both, le_or_lt, every_at, every_of, made_at}
use Rattle.rows.proofs.Exists.{Has, has_type, has_basic, has_cell, has_plain, has_task, Sorted, exists}
use Rattle.rows.proofs.SortsBelow.{sort_at}
use Rattle.rows.proofs.Places.{Place, place_a, place_b, place_c, op_at, ask_at, Names, lower}
use Rattle.rows.proofs.Steps.{binders_at, marks_at, under_step, under_elim}

-- the count of row j
abbrev pub count_at : (Asks → ℕ → ℕ → ℕ → ℕ) → List ℕ → ℕ → ℕ
count_at most rs j = get_or (counts most rs (suc j)) j 0

module _ (most : Asks → ℕ → ℕ → ℕ → ℕ) (rs : List ℕ) where
  abbrev made : ℕ → List ℕ → ℕ
  made i l = most (asks_at rs i) (get_or l (op_a rs i) 0) (get_or l (op_b rs i) 0) (get_or l (op_c rs i) 0)

  made_count : (i w : ℕ) → w < i → get_or (counts most rs i) w 0 ≡ made w (counts most rs w)
  unfolding counts
  made_count = made_at 0 made (counts most rs) refl (λ i. refl)

  -- a row's count is the same in each longer list
  pub count_same : (i w : ℕ) → w < i → get_or (counts most rs i) w 0 ≡ count_at most rs w
  count_same i w l = made_count i w l ∙ sym (made_count (suc w) w (omega arith))

  pub count_is : (j : ℕ) → count_at most rs j ≡ most (asks_at rs j) (get_or (counts most rs j) (op_a rs j) 0) (get_or (counts most rs j) (op_b rs j) 0) (get_or (counts most rs j) (op_c rs j) 0)
  count_is j = made_count (suc j) j (omega arith)

-- ---- the greatest of three

max_is : (P : ℕ → Type 0) (a b : ℕ) → P a → P b → P (max a b)
max_is P a b p q = ⊎_elim (λ l. subst P (sym (max-eq_right l)) q) (λ l. subst P (sym (max-eq_left (le_of_lt l))) p) (le_or_lt a b)

cond_is : (P : ℕ → Type 0) (h : Bool) (v : ℕ) → (h ≡ true → P v) → P 0 → P (cond h v 0)
cond_is P true v f z = f refl
cond_is P false v f z = z

-- the greatest over the places that name rows
abbrev greatest : (Asks → Place → ℕ → ℕ) → Asks → (Place → ℕ) → ℕ
greatest at s f = max (cond (names (ask_at s place_a)) (at s place_a (f place_a)) 0)
    (max (cond (names (ask_at s place_b)) (at s place_b (f place_b)) 0) (cond (names (ask_at s place_c)) (at s place_c (f place_c)) 0))

at_most : (at : Asks → Place → ℕ → ℕ) (s : Asks) (f : Place → ℕ) (p : Place) → names (ask_at s p) ≡ true → at s p (f p) ≤ greatest at s f
at_most at s f place_a h = rw h (le-max_left (at s place_a (f place_a)) _)
at_most at s f place_b h = rw h (second _ (at s place_b (f place_b)) _)
  where
    second : (a b c : ℕ) → b ≤ max a (max b c)
    second a b c = omega (arith, le-max_left b c, le-max_right a (max b c))
at_most at s f place_c h = rw h (third _ _ (at s place_c (f place_c)))
  where
    third : (a b c : ℕ) → c ≤ max a (max b c)
    third a b c = omega (arith, le-max_right b c, le-max_right a (max b c))

-- it is 0, or at one of the places
is_one : (P : ℕ → Type 0) (at : Asks → Place → ℕ → ℕ) (s : Asks) (f : Place → ℕ) → P 0 → ((p : Place) → names (ask_at s p) ≡ true → P (at s p (f p))) → P (greatest at s f)
is_one P at s f z g = max_is P _ _ (cond_is P _ _ (g place_a) z) (max_is P _ _ (cond_is P _ _ (g place_b) z) (cond_is P _ _ (g place_c) z))

binders_greatest : (s : Asks) (f : Place → ℕ) → most_binders s (f place_a) (f place_b) (f place_c) ≡ greatest binders_at s f
unfolding most_binders names
binders_greatest (asks p q r o x) f = refl
binders_greatest no_asks f = refl

marks_greatest : (s : Asks) (f : Place → ℕ) → most_marks s (f place_a) (f place_b) (f place_c) ≡ greatest marks_at s f
unfolding most_marks names
marks_greatest (asks p q r o x) f = refl
marks_greatest no_asks f = refl

binders_mono : (s : Asks) (p : Place) (v w : ℕ) → v ≤ w → binders_at s p v ≤ binders_at s p w
binders_mono (asks a b c o x) place_a v w h = h
binders_mono (asks a b c o x) place_b v w h = omega arith
binders_mono (asks a b c o x) place_c v w h = h
binders_mono no_asks p v w h = h

marks_mono : (s : Asks) (p : Place) (v w : ℕ) → v ≤ w → marks_at s p v ≤ marks_at s p w
marks_mono (asks a b c o x) place_a v w h = omega arith
marks_mono (asks a b c o x) place_b v w h = omega arith
marks_mono (asks a b c o x) place_c v w h = h
marks_mono no_asks p v w h = h

-- ---- the counts are the most

module _ (rs : List ℕ) (n : ℕ) (q : Sorted rs n) where
  -- once for both: a count that is the greatest over the places
  module _ (most : Asks → ℕ → ℕ → ℕ → ℕ) (at : Asks → Place → ℕ → ℕ) (g : (s : Asks) (f : Place → ℕ) → most s (f place_a) (f place_b) (f place_c) ≡ greatest at s f)
      (mono : (s : Asks) (p : Place) (v w : ℕ) → v ≤ w → at s p v ≤ at s p w) where
    abbrev below : ℕ → Place → ℕ
    below j p = get_or (counts most rs j) (op_at rs j p) 0

    count_greatest : (j : ℕ) → count_at most rs j ≡ greatest at (asks_at rs j) (below j)
    count_greatest j = count_is most rs j ∙ g (asks_at rs j) (below j)

    below_is : (j : ℕ) → j < n → (p : Place) → Names rs j p → below j p ≡ count_at most rs (op_at rs j p)
    below_is j l p h = count_same most rs j (op_at rs j p) (lower rs n q j l p h)

    count_most : (j v : ℕ) → j < n → (p : Place) → Names rs j p → v ≤ count_at most rs (op_at rs j p) → at (asks_at rs j) p v ≤ count_at most rs j
    count_most j v l p h k = omega (arith, count_greatest j, at_most at (asks_at rs j) (below j) p h, mono (asks_at rs j) p v (below j p) (omega (arith, below_is j l p h)))

    count_reached : (P : ℕ → ℕ → Type 0) → ((j : ℕ) → P j 0) → ((j v : ℕ) (p : Place) → Names rs j p → P (op_at rs j p) v → P j (at (asks_at rs j) p v))
        → (m j : ℕ) → j < m → m ≤ n → P j (count_at most rs j)
    count_reached P z s zero j l k = absurd (omega arith)
    count_reached P z s (suc m) j l k = subst (P j) (sym (count_greatest j)) (is_one (P j) at (asks_at rs j) (below j) (z j) (λ p h.
        let w = lower rs n q j (omega arith) p h in
        s j (below j p) p h (subst (P (op_at rs j p)) (sym (below_is j (omega arith) p h)) (count_reached P z s m (op_at rs j p) (omega arith) (omega arith)))))

  -- a row's count is at least that of a row it names, with what it puts around that
  pub binders_under : (j v : ℕ) → j < n → (p : Place) → Names rs j p → v ≤ count_at most_binders rs (op_at rs j p) → binders_at (asks_at rs j) p v ≤ count_at most_binders rs j
  binders_under = count_most most_binders binders_at binders_greatest binders_mono

  pub marks_under : (j v : ℕ) → j < n → (p : Place) → Names rs j p → v ≤ count_at most_marks rs (op_at rs j p) → marks_at (asks_at rs j) p v ≤ count_at most_marks rs j
  marks_under = count_most most_marks marks_at marks_greatest marks_mono

  -- no row under row j has more around it than row j's counts say
  pub most_binders_lem : {j i b m : ℕ} → j < n → Under rs j i b m → b ≤ count_at most_binders rs j
  most_binders_lem l d = under_elim (λ j i b m. j < n → b ≤ count_at most_binders rs j) (λ j l. omega arith)
      (λ j i b m p h d f l. let w = lower rs n q j l p h in binders_under j b l p h (f (omega arith))) d l

  pub most_marks_lem : {j i b m : ℕ} → j < n → Under rs j i b m → m ≤ count_at most_marks rs j
  most_marks_lem l d = under_elim (λ j i b m. j < n → m ≤ count_at most_marks rs j) (λ j l. omega arith)
      (λ j i b m p h d f l. let w = lower rs n q j l p h in marks_under j m l p h (f (omega arith))) d l

  -- and some row has as many
  pub binders_reached : (j : ℕ) → j < n → (i : ℕ) × (m : ℕ) × Under rs j i (count_at most_binders rs j) m
  binders_reached j l = count_reached most_binders binders_at binders_greatest binders_mono (λ j v. (i : ℕ) × (m : ℕ) × Under rs j i v m)
      (λ j. (j, 0, here)) (λ j v p h (i, m, d). (i, marks_at (asks_at rs j) p m, under_step j p h d)) n j l (omega arith)

  pub marks_reached : (j : ℕ) → j < n → (i : ℕ) × (b : ℕ) × Under rs j i b (count_at most_marks rs j)
  marks_reached j l = count_reached most_marks marks_at marks_greatest marks_mono (λ j v. (i : ℕ) × (b : ℕ) × Under rs j i b v)
      (λ j. (j, 0, here)) (λ j v p h (i, b, d). (i, binders_at (asks_at rs j) p b, under_step j p h d)) n j l (omega arith)

-- ---- leaves

-- a type row's count is the number of leaves of its type
pub leaves_are : {rs : List ℕ} {i : ℕ} {τ : Ty} → ReadsType rs i τ → count_at leaves_by rs i ≡ leaves τ
unfolding asks_of leaves_by leaves names sort_number
leaves_are {rs} {i} (r_unit k) = count_is leaves_by rs i ∙ rw k
leaves_are {rs} {i} (r_truth k) = count_is leaves_by rs i ∙ rw k
leaves_are {rs} {i} (r_number k) = count_is leaves_by rs i ∙ rw k
leaves_are {rs} {i} (r_pair k p q d e) =
    let x = count_same leaves_by rs i (op_a rs i) p ∙ leaves_are d in let y = count_same leaves_by rs i (op_b rs i) q ∙ leaves_are e in
    count_is leaves_by rs i ∙ rw (k, x, y)

-- another row has none
no_leaves : (s : Asks) (a b c : ℕ) (u : Sort) → (same_sort (sort_by s u) type_s || same_sort (sort_by s u) basic_s) ≡ false → leaves_by s a b c ≡ 0
unfolding leaves_by sort_by
no_leaves (asks p q r (is v) x) a b c u h = rw h
no_leaves (asks p q r as_b x) a b c u h = refl
no_leaves no_asks a b c u h = refl

-- ---- ground 6

module _ (rs : List ℕ) (n : ℕ) (q : Sorted rs n) where
  module _ (h : every n (λ i. row_small rs i) ≡ true) (i : ℕ) (l : i < n) where
    small_row : row_small rs i ≡ true
    small_row = every_at n (λ i. row_small rs i) h i l

    few_leaves : count_at leaves_by rs i ≤ max_leaves
    unfolding row_small
    few_leaves = leb-true (count_at leaves_by rs i) max_leaves (and_left _ _ small_row)

    pub few_binders : count_at most_binders rs i ≤ max_binders
    unfolding row_small
    few_binders = leb-true (count_at most_binders rs i) max_binders (and_left _ _ (and_right (leb (count_at leaves_by rs i) max_leaves) _ small_row))

    pub few_marks : count_at most_marks rs i ≤ max_marks
    unfolding row_small
    few_marks = leb-true (count_at most_marks rs i) max_marks (and_right (leb (count_at most_binders rs i) max_binders) _ (and_right (leb (count_at leaves_by rs i) max_leaves) _ small_row))

  -- ground 6 does not hold exactly where the rows are small
  pub small_of : every n (λ i. row_small rs i) ≡ true → Small rs n
  small_of h = record {
    types = λ {i} l d. omega (arith, leaves_are d, few_leaves h i l);
    binders = λ {j} l d. omega (arith, most_binders_lem rs n q l d, few_binders h j l);
    marks = λ {j} l d. omega (arith, most_marks_lem rs n q l d, few_marks h j l);
  }

  other_row : (i : ℕ) (s : Sort) → sort_at rs i ≡ s → (same_sort s type_s || same_sort s basic_s) ≡ false → count_at leaves_by rs i ≡ 0
  unfolding sort_at
  other_row i s e h = count_is leaves_by rs i ∙ no_leaves (asks_at rs i) _ _ _ (sort_below rs i (op_b rs i)) (subst (λ t. (same_sort t type_s || same_sort t basic_s) ≡ false) (sym e) h)

  leaves_by_lem : (i : ℕ) → i < n → Small rs n → {s : Sort} → sort_at rs i ≡ s → Has rs i s → count_at leaves_by rs i ≤ max_leaves
  unfolding sort_number
  leaves_by_lem i l k e (has_type d) = omega (arith, leaves_are d, k.types l d)
  leaves_by_lem i l k e (has_basic b d) = omega (arith, leaves_are d, k.types l d)
  leaves_by_lem i l k e (has_cell b d) = omega (arith, other_row i cell_s e refl)
  leaves_by_lem i l k e (has_plain d) = omega (arith, other_row i plain_s e refl)
  leaves_by_lem i l k e (has_task d) = omega (arith, other_row i task_s e refl)

  pub of_small : Small rs n → every n (λ i. row_small rs i) ≡ true
  unfolding row_small
  of_small k = every_of n (λ i. row_small rs i) (λ i l.
      let (x, m, d) = binders_reached rs n q i l in let (y, b, e) = marks_reached rs n q i l in
      both (le-leb (count_at leaves_by rs i) max_leaves (leaves_by_lem i l k refl (exists rs n q i l)))
      (both (le-leb (count_at most_binders rs i) max_binders (k.binders l d)) (le-leb (count_at most_marks rs i) max_marks (k.marks l e))))
