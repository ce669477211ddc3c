-- Ground 4: the table of sorts, read and written, and a row's being sorted. Rests on rows and Tables.
use Rattle.std.specs.Prelude.{Option, None}
use mathlib.Core.Path.{◌≡◌, refl, sym, ap, ap₂, ◌∙◌}
use mathlib.Core.Bool.{Bool}
use mathlib.Core.List.{List, [], ◌∷◌, ◌++◌, map, map-append}
use Prim.Native.Nat.{ℕ, ◌+◌, ◌<◌}
use native.Mathlib.Numerals.{add-one}
use lib.ListN.{length, get_or, set, take, get_or-map}
use lib.Seq.{take-suc-set}
use Rattle.rows.specs.Kinds.{Sort, no_s}
use Rattle.rows.specs.Rows.{asks_at, op_a, op_b, op_c, sort_by, sorts, sort_below, sorted, row_sorted}
use Rattle.grounds.specs.declared.sorted.Sort.{Sort as CodeSort}
use Rattle.grounds.specs.declared.table.Asks.{Asks as CodeAsks}
use Rattle.grounds.specs.Table.{asks_by, sort_in}
use Rattle.grounds.specs.Tables.{SortsTo}

-- an entry that is read, at a row that is lower or not
entry : (l : List (Option CodeSort)) (w : ℕ) → sort_in (get_or l w None) ≡ get_or (map sort_in l) w no_s
entry l w = sym (get_or-map sort_in l w None)

module _ (rs : List ℕ) (t : List (Option CodeSort)) (i : ℕ) (e : SortsTo rs t i) where
  -- the sort that the table has for row w
  pub sort_read : {w y : ℕ} {a : Option CodeSort} → w ≡ y → a ≡ get_or (take i t) w None → sort_in a ≡ sort_below rs i y
  sort_read {w} {y} f h = ap sort_in h ∙ entry (take i t) w ∙ (λ j. get_or (e j) (f j) no_s)

  -- the table with row i's sort
  pub sort_written : (v : Option CodeSort) → i < length t → sort_in v ≡ sort_by (asks_at rs i) (sort_below rs i (op_b rs i)) → SortsTo rs (set t i v) (i + 1)
  unfolding sorts
  sort_written v h f = rw add-one (ap (map sort_in) (take-suc-set t i v h) ∙ map-append sort_in (take i t) (v ∷ []) ∙ ap₂ (λ m k. m ++ k ∷ []) e f)

pub sorts_none : (rs : List ℕ) (t : List (Option CodeSort)) → SortsTo rs t 0
unfolding sorts
sorts_none rs t = refl

module _ (rs : List ℕ) (i : ℕ) (s : Option CodeAsks) (e : asks_by s ≡ asks_at rs i) where
  pub row_sorted_is : {b : Bool} {u v w : Sort} → b ≡ sorted (asks_by s) u v w → u ≡ sort_below rs i (op_a rs i) → v ≡ sort_below rs i (op_b rs i) → w ≡ sort_below rs i (op_c rs i)
      → b ≡ row_sorted rs i
  unfolding row_sorted
  row_sorted_is h f g k = h ∙ (λ j. sorted (e j) (f j) (g j) (k j))

  pub row_sort_is : {b u : Sort} → b ≡ sort_by (asks_by s) u → u ≡ sort_below rs i (op_b rs i) → b ≡ sort_by (asks_at rs i) (sort_below rs i (op_b rs i))
  row_sort_is h f = h ∙ (λ j. sort_by (e j) (f j))
