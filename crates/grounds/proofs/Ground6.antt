-- Ground 6: counts that stop decide as the counts themselves do. Rests on rows, Table, Counts, Filled and Stop.
use Rattle.std.specs.Prelude.{Option}
use mathlib.Core.Path.{◌≡◌, refl, sym, ap, ◌∙◌}
use mathlib.Core.Bool.{Bool, true, false, ◌&&◌, ◌||◌, cond}
use mathlib.Core.List.{List, map}
use Prim.Native.Nat.{ℕ, zero, suc, ◌+◌, ◌<◌, ◌≤◌, max}
use native.Mathlib.Numerals.{add-one}
use native.Mathlib.Omega.{arith}
use lib.Dec.{leb}
use lib.ListN.{length, get_or, set, take}
use borrow.Author.Tests.{le-leb, lt-leb}
use Rattle.rows.specs.Kinds.{is, as_b, Asks, asks, no_asks, type_s, basic_s}
use Rattle.rows.specs.Rows.{asks_at, op_a, op_b, op_c, every, names, same_sort}
use Rattle.rows.specs.Enclosing.{max_binders, binders_by, marks_by, most_binders, most_marks, leaves_by, counts, row_small}
use Rattle.rows.proofs.Most.{count_is}
use Rattle.grounds.specs.declared.table.Asks.{Asks as CodeAsks}
use Rattle.grounds.specs.declared.small.Counted.{Counted}
use Rattle.grounds.specs.declared.small.Counted.TheVariants.{Leaves, Binders, Marks}
use Rattle.grounds.specs.Table.{asks_by}
use Rattle.grounds.specs.Tables.{stop}
use Rattle.grounds.specs.Counts.{count_by, most_of, count_of, few_at, CountsTo}
use Rattle.grounds.proofs.Filled.{entry_is, one_more}
use Rattle.grounds.proofs.Stop.{stop_low, stop_bound, stop_leb, Alike, alike_stop, alike_add, alike_max, alike_cond}

-- ---- counts of counts that have stopped stop alike

module _ (m : ℕ) (a b c x y z : ℕ) (e : Alike m a x) (f : Alike m b y) (g : Alike m c z) where
  leaves_alike : (s : Asks) → Alike m (leaves_by s a b c) (leaves_by s x y z)
  unfolding leaves_by
  leaves_alike (asks p q r (is s) o) = alike_cond m (same_sort s type_s || same_sort s basic_s) (cond (names p) (a + b) 1) (cond (names p) (x + y) 1) 0 0
      (alike_cond m (names p) (a + b) (x + y) 1 1 (alike_add m a x b y e f) refl) refl
  leaves_alike (asks p q r as_b o) = refl
  leaves_alike no_asks = refl

  three_alike : (p q r : Bool) (u v k : ℕ) → Alike m u v → Alike m (max (cond p u 0) (max (cond q (k + b) 0) (cond r c 0))) (max (cond p v 0) (max (cond q (k + y) 0) (cond r z 0)))
  three_alike p q r u v k h = alike_max m (cond p u 0) (cond p v 0) (max (cond q (k + b) 0) (cond r c 0)) (max (cond q (k + y) 0) (cond r z 0)) (alike_cond m p u v 0 0 h refl)
      (alike_max m (cond q (k + b) 0) (cond q (k + y) 0) (cond r c 0) (cond r z 0)
      (alike_cond m q (k + b) (k + y) 0 0 (alike_add m k k b y refl f) refl) (alike_cond m r c z 0 0 g refl))

  binders_alike : (s : Asks) → Alike m (most_binders s a b c) (most_binders s x y z)
  unfolding most_binders
  binders_alike (asks p q r o w) = three_alike (names p) (names q) (names r) a x (binders_by w) e
  binders_alike no_asks = refl

  marks_alike : (s : Asks) → Alike m (most_marks s a b c) (most_marks s x y z)
  unfolding most_marks
  marks_alike (asks p q r o w) = three_alike (names p) (names q) (names r) (marks_by w + a) (marks_by w + x) (marks_by w) (alike_add m (marks_by w) (marks_by w) a x refl e)
  marks_alike no_asks = refl

  counts_alike : (w : Counted) (s : Asks) → Alike m (count_by w s a b c) (count_by w s x y z)
  counts_alike Leaves s = leaves_alike s
  counts_alike Binders s = binders_alike s
  counts_alike Marks s = marks_alike s

-- ---- a row's count

-- limits leave room in eight bits
pub most_small : (w : Counted) → most_of w ≤ max_binders
most_small Leaves = omega arith
most_small Binders = omega arith
most_small Marks = omega arith

module _ (w : Counted) (rs t : List ℕ) (i : ℕ) (e : CountsTo w rs t i) where
  -- the count that the table has for row v
  pub count_read : {v y a : ℕ} → v ≡ y → a ≡ get_or (take i t) v 0 → a ≡ stop (suc (most_of w)) (get_or (counts (count_by w) rs i) y 0)
  count_read {v} {y} f h = h ∙ entry_is (stop (suc (most_of w))) 0 (stop_low (suc (most_of w)) 0 (omega arith)) t (counts (count_by w) rs i) i v e
      ∙ ap (λ v. stop (suc (most_of w)) (get_or (counts (count_by w) rs i) v 0)) f

  pub count_bound : {v y a : ℕ} → v ≡ y → a ≡ get_or (take i t) v 0 → a ≤ suc (most_of w)
  count_bound {v} {y} f h = omega (arith, count_read f h, stop_bound (suc (most_of w)) (get_or (counts (count_by w) rs i) y 0))

  pub count_row : (s : Option CodeAsks) {a b c x : ℕ} → asks_by s ≡ asks_at rs i → a ≡ stop (suc (most_of w)) (get_or (counts (count_by w) rs i) (op_a rs i) 0)
      → b ≡ stop (suc (most_of w)) (get_or (counts (count_by w) rs i) (op_b rs i) 0) → c ≡ stop (suc (most_of w)) (get_or (counts (count_by w) rs i) (op_c rs i) 0)
      → x ≡ count_by w (asks_by s) a b c → stop (suc (most_of w)) x ≡ stop (suc (most_of w)) (count_of w rs i)
  count_row s {a} {b} {c} f g h k z = let m = suc (most_of w) in let l = counts (count_by w) rs i in
      ap (stop m) z ∙ counts_alike m a b c (get_or l (op_a rs i) 0) (get_or l (op_b rs i) 0) (get_or l (op_c rs i) 0) (alike_stop m a _ g) (alike_stop m b _ h) (alike_stop m c _ k) w (asks_by s)
      ∙ ap (λ s. stop m (count_by w s (get_or l (op_a rs i) 0) (get_or l (op_b rs i) 0) (get_or l (op_c rs i) 0))) f ∙ ap (stop m) (sym (count_is (count_by w) rs i))

  pub count_written : (v : ℕ) → i < length t → v ≡ stop (suc (most_of w)) (count_of w rs i) → CountsTo w rs (set t i v) (i + 1)
  unfolding counts
  count_written v h f = let l = counts (count_by w) rs i in
      one_more (stop (suc (most_of w))) t l i v (count_by w (asks_at rs i) (get_or l (op_a rs i) 0) (get_or l (op_b rs i) 0) (get_or l (op_c rs i) 0)) e h
      (f ∙ ap (stop (suc (most_of w))) (count_is (count_by w) rs i)) ∙ ap (λ k. map (stop (suc (most_of w))) (counts (count_by w) rs k)) (sym (add-one i))

pub counts_none : (w : Counted) (rs t : List ℕ) → CountsTo w rs t 0
unfolding counts
counts_none w rs t = refl

-- ---- the tests

module _ (w : Counted) (rs : List ℕ) (i x : ℕ) (e : x ≡ stop (suc (most_of w)) (count_of w rs i)) where
  few_is : leb x (most_of w) ≡ few_at w rs i
  unfolding few_at
  few_is = ap (λ x. leb x (most_of w)) e ∙ stop_leb (most_of w) (count_of w rs i)

  pub few_so : x ≤ most_of w → true ≡ few_at w rs i
  few_so h = sym (le-leb x (most_of w) h) ∙ few_is

  pub few_not : most_of w < x → false ≡ few_at w rs i
  few_not h = sym (lt-leb x (most_of w) h) ∙ few_is

and_four : (a b c d e f : Bool) → ((a && (b && c)) && (d && (e && f))) ≡ ((a && d) && ((b && e) && (c && f)))
and_four true true true d e f = refl
and_four true true false true true f = refl
and_four true true false true false f = refl
and_four true true false false e f = refl
and_four true false c true e f = refl
and_four true false c false e f = refl
and_four false b c d e f = refl

-- each row is small: each has few leaves, each few binders, each few marks
pub all_small : (rs : List ℕ) (n : ℕ) → every n (row_small rs) ≡ (every n (few_at Leaves rs) && (every n (few_at Binders rs) && every n (few_at Marks rs)))
unfolding every row_small few_at
all_small rs zero = refl
all_small rs (suc n) = ap (λ b. b && row_small rs n) (all_small rs n) ∙ and_four (every n (few_at Leaves rs)) (every n (few_at Binders rs)) (every n (few_at Marks rs)) (few_at Leaves rs n) (few_at Binders rs n) (few_at Marks rs n)
