-- What the functions on paths cite: a path's digits one after another, as the code reads and writes them.
-- Rests on proofs/PathNumbers.antt, and on proofs/ReadLaws.antt and proofs/WriteLaws.antt for bytes.
use Prim.Native.Nat.{ℕ, suc, ◌+◌, ◌*◌, ◌-◌, ◌/◌, ◌%◌, ◌≤◌, ◌<◌}
use mathlib.Core.Path.{◌≡◌, refl, sym, ap, ◌∙◌}
use mathlib.Core.List.{List, [], ◌∷◌, ◌++◌, append_assoc, append-nil}
use mathlib.Core.Option.{Option, none, some}
use native.Mathlib.Omega.{arith}
use borrow.Author.Tests.{eqb-true, eqb-false, eq-eqb, ne_eqb, le-leb, lt-leb}
use borrow.Table.Steps.{cases}
use lib.Dec.{eqb}
use lib.ListN.{length, get_or, set, drop, take, length-append, take-append-drop}
use lib.Seq.{slice, sets, length-slice, drop-drop}
use Rattle.decimal.specs.Field.{nought, trimmed}
use Rattle.decimal.specs.Path.{Mark, first, second, Path, max_marks, path_columns, mark_number, marks_text, path_text, mark_of, outside, marks, empty_alone, path_in, reads_path_at, path_number, front_mark, path_of, path_reading, front}
use Rattle.std.specs.Prelude.{Option as Maybe, Some, None}
use Rattle.decimal.specs.declared.path.Front.TheVariants.{Empty, First, Second}
use Rattle.decimal.proofs.Paths.{marks_only}
use Rattle.decimal.proofs.PathNumbers.{front_number, path_0, path_front, number_path, path_more, number_small}
use Rattle.decimal.proofs.ReadLaws.{slice_next, slice_none}
use Rattle.decimal.proofs.WriteLaws.{sets_last}

-- ---- the outermost mark taken off

pub front_none : (n : ℕ) → n ≡ 0 → Empty ≡ front (path_of n)
front_none n e = sym (ap front (path_0 n e))

pub front_first : (n : ℕ) → (n ≡ 0 → ⊥) → n % 2 ≡ 1 → First ((n - 1) / 2) ≡ front (path_of n)
front_first n z e = sym (ap front (path_front n (omega arith)) ∙ rw (eq-eqb (n % 2) 1 e) (ap First (number_path ((n - 1) / 2))))

pub front_second : (n : ℕ) → (n ≡ 0 → ⊥) → (n % 2 ≡ 1 → ⊥) → Second ((n - 1) / 2) ≡ front (path_of n)
front_second n z e = sym (ap front (path_front n (omega arith)) ∙ rw (ne_eqb (n % 2) 1 e) (ap Second (number_path ((n - 1) / 2))))

-- ---- digits read, the innermost first

pub length_marks : (p : Path) → length (marks_text p) ≡ length p
unfolding marks_text
length_marks [] = refl
length_marks (m ∷ p) = ap suc (length_marks p)

module _ (s : List ℕ) (i end : ℕ) (k : end ≤ length s) where
  -- few columns hold few marks
  pub marks_small : (n : ℕ) → end ≤ i + max_marks → marks (slice i end s) ≡ some (path_of n) → n + 2 ≤ 131072
  marks_small n h e =
      let l : length (path_of n) ≡ end - i = sym (length_marks (path_of n)) ∙ ap length (sym (marks_only (slice i end s) (path_of n) e)) ∙ length-slice i end s k in
      omega (arith, number_path n, number_small (path_of n) (omega (arith, l)))

  pub marks_end : i ≡ end → marks (slice i end s) ≡ some (path_of 0)
  unfolding marks
  marks_end e = ap marks (slice_none s i end e) ∙ ap some (sym (path_0 0 refl))

  -- one digit more, in front of those read
  module _ (h : 0 < i) (g : i ≤ end) where
    more : slice (i - 1) end s ≡ get_or s (i - 1) 0 ∷ slice i end s
    more = let e : i - 1 + 1 ≡ i = omega arith in slice_next s (i - 1) end (omega arith) k ∙ ap (λ j. get_or s (i - 1) 0 ∷ slice j end s) e

    pub marks_more : (n : ℕ) → marks (slice i end s) ≡ some (path_of n) → nought + 1 ≤ get_or s (i - 1) 0 → get_or s (i - 1) 0 ≤ nought + 2
        → marks (slice (i - 1) end s) ≡ some (path_of (n * 2 + (get_or s (i - 1) 0 - nought)))
    unfolding marks
    marks_more n e p q = ap marks more ∙ cases (eqb (get_or s (i - 1) 0) (nought + 1))
        (λ f.
        let x : get_or s (i - 1) 0 ≡ nought + 1 = eqb-true (get_or s (i - 1) 0) (nought + 1) f in
        let y : n * 2 + (get_or s (i - 1) 0 - nought) ≡ 1 + 2 * n = omega (arith, x) in
        rw (f, e, y) (ap some (sym (path_more first n))))
        (λ f.
        let x : get_or s (i - 1) 0 ≡ nought + 2 = omega (arith, eqb-false (get_or s (i - 1) 0) (nought + 1) f) in
        let y : n * 2 + (get_or s (i - 1) 0 - nought) ≡ 2 + 2 * n = omega (arith, x) in
        rw (f, eq-eqb (get_or s (i - 1) 0) (nought + 2) x, e, y) (ap some (sym (path_more second n))))

    marks_bad : (get_or s (i - 1) 0 ≡ nought + 1 → ⊥) → (get_or s (i - 1) 0 ≡ nought + 2 → ⊥) → marks (slice (i - 1) end s) ≡ none
    unfolding marks
    marks_bad p q = ap marks more ∙ rw (ne_eqb (get_or s (i - 1) 0) (nought + 1) p, ne_eqb (get_or s (i - 1) 0) (nought + 2) q)

outside_none : (o : Option Mark) → outside o none ≡ none
outside_none none = refl
outside_none (some m) = refl

marks_after : (t u : List ℕ) → marks u ≡ none → marks (t ++ u) ≡ none
unfolding marks
marks_after [] u e = e
marks_after (b ∷ t) u e = ap (outside (mark_of b)) (marks_after t u e) ∙ outside_none (mark_of b)

-- a byte that is no such digit
pub marks_not : (s : List ℕ) (at i end : ℕ) → end ≤ length s → at < i → i ≤ end → (get_or s (i - 1) 0 ≡ nought + 1 → ⊥) → (get_or s (i - 1) 0 ≡ nought + 2 → ⊥)
    → None ≡ path_reading (marks (slice at end s))
marks_not s at i end k h g p q =
    let n : ℕ = i - 1 - at in
    let e : at + n ≡ i - 1 = omega arith in
    let d : drop n (slice at end s) ≡ slice (i - 1) end s = drop-drop n at (take end s) ∙ ap (λ j. slice j end s) e in
    let z : marks (slice at end s) ≡ none =
    ap marks (sym (take-append-drop n (slice at end s)) ∙ ap (λ u. take n (slice at end s) ++ u) d)
    ∙ marks_after (take n (slice at end s)) (slice (i - 1) end s) (marks_bad s i end k (omega arith) g p q) in
    sym (ap path_reading z)

pub marks_all : (s : List ℕ) (at i end n : ℕ) → i ≡ at → marks (slice i end s) ≡ some (path_of n) → Some n ≡ path_reading (marks (slice at end s))
marks_all s at i end n z e = sym (ap (λ j. path_reading (marks (slice j end s))) (sym z) ∙ ap path_reading e ∙ ap Some (number_path n))

-- ---- a path's text read

module _ (s : List ℕ) (at end : ℕ) where
  pub text_none : at ≡ end → Some 0 ≡ path_reading (path_in (slice at end s))
  unfolding path_in path_number
  text_none e = sym (ap (λ t. path_reading (path_in t)) (slice_none s at end e))

  pub text_alone : at < end → end ≤ length s → get_or s at 0 ≡ nought → at + 1 ≡ end → Some 0 ≡ path_reading (path_in (slice at end s))
  unfolding path_in path_number
  text_alone h k e l = sym (ap (λ t. path_reading (path_in t)) (slice_next s at end h k) ∙ rw (eq-eqb (get_or s at 0) nought e) (ap (λ t. path_reading (empty_alone t)) (slice_none s (at + 1) end l)))

  pub text_led : end ≤ length s → get_or s at 0 ≡ nought → at + 1 < end → None ≡ path_reading (path_in (slice at end s))
  unfolding path_in
  text_led k e l = sym (ap (λ t. path_reading (path_in t)) (slice_next s at end (omega arith) k) ∙ rw (eq-eqb (get_or s at 0) nought e) (ap (λ t. path_reading (empty_alone t)) (slice_next s (at + 1) end l k)))

  pub text_marks : at < end → end ≤ length s → (get_or s at 0 ≡ nought → ⊥) → marks (slice at end s) ≡ path_in (slice at end s)
  unfolding path_in
  text_marks h k e = sym (ap path_in (slice_next s at end h k) ∙ rw (ne_eqb (get_or s at 0) nought e) (ap marks (sym (slice_next s at end h k))))

pub path_nowhere : (s : List ℕ) (at : ℕ) → length s < at + path_columns → None ≡ path_reading (reads_path_at s at)
unfolding reads_path_at
path_nowhere s at h = sym (rw (lt-leb (at + path_columns) (length s) h))

pub path_read : (s : List ℕ) (at i : ℕ) (r : Maybe ℕ) → at + path_columns ≤ length s → trimmed (slice at (at + path_columns) s) ≡ slice i (at + path_columns) s
    → r ≡ path_reading (path_in (slice i (at + path_columns) s)) → r ≡ path_reading (reads_path_at s at)
unfolding reads_path_at
path_read s at i r g t h = h ∙ sym (rw (le-leb (at + path_columns) (length s) g) (ap (λ bs. path_reading (path_in bs)) t))

-- ---- digits written, the outermost first

pub text_0 : (n : ℕ) → n ≡ 0 → path_text (path_of n) ≡ nought ∷ []
unfolding path_text
text_0 n e = ap path_text (path_0 n e)

pub text_some : (n : ℕ) → (n ≡ 0 → ⊥) → path_text (path_of n) ≡ marks_text (path_of n)
unfolding path_text
text_some n h = let e = path_front n (omega arith) in ap path_text e ∙ ap marks_text (sym e)

pub text_length : (n : ℕ) → (n ≡ 0 → ⊥) → length (path_of n) ≡ length (path_text (path_of n))
text_length n h = sym (ap length (text_some n h) ∙ length_marks (path_of n))

marks_append : (p q : Path) → marks_text (p ++ q) ≡ marks_text p ++ marks_text q
unfolding marks_text
marks_append [] q = refl
marks_append (m ∷ p) q = ap (λ t. (nought + mark_number m) ∷ t) (marks_append p q)

-- the digits of n up to those of m stand from `at` up to i
pub record Laid (n m at i : ℕ) (l u : List ℕ) : Type 0 where
  pub done : Path
  pub whole : path_of n ≡ done ++ path_of m
  pub place : i ≡ at + length done
  pub is : u ≡ sets l at (marks_text done)

pub laid_0 : (n at : ℕ) (l : List ℕ) → Laid n n at at l l
unfolding marks_text
laid_0 n at l = record { done = []; whole = refl; place = omega arith; is = refl }

pub laid_room : (n m at i : ℕ) (l u : List ℕ) → Laid n m at i l u → i + length (path_of m) ≡ at + length (path_of n)
laid_room n m at i l u s = let e = ap length s.whole ∙ length-append s.done (path_of m) in omega (arith, e, s.place)

pub laid_more : (n m at i : ℕ) (l u : List ℕ) → 0 < m → Laid n m at i l u → Laid n ((m - 1) / 2) at (i + 1) l (set u i (nought + 2 - m % 2))
unfolding marks_text
laid_more n m at i l u h s =
    let d : Path = s.done ++ front_mark m ∷ [] in
    let e : nought + 2 - m % 2 ≡ nought + mark_number (front_mark m) = omega (arith, front_number m) in
    let p : i ≡ at + length (marks_text s.done) = s.place ∙ ap (λ k. at + k) (sym (length_marks s.done)) in
    record {
      done = d;
      whole = s.whole ∙ ap (λ q. s.done ++ q) (path_front m h) ∙ sym (append_assoc s.done (front_mark m ∷ []) (path_of ((m - 1) / 2)));
      place = omega (arith, s.place, length-append s.done (front_mark m ∷ []));
      is = (λ j. set (s.is j) (p j) (e j))
          ∙ sets_last l at (marks_text s.done) (nought + mark_number (front_mark m))
          ∙ ap (sets l at) (sym (marks_append s.done (front_mark m ∷ [])));
    }

pub laid_all : (n m at i : ℕ) (l u : List ℕ) → m ≡ 0 → Laid n m at i l u → u ≡ sets l at (marks_text (path_of n))
laid_all n m at i l u e s =
    s.is ∙ ap (λ p. sets l at (marks_text p)) (sym (s.whole ∙ ap (λ q. s.done ++ q) (path_0 m e) ∙ append-nil s.done))
