-- What the tables in code hold: of the rows below i their sorts (ground 4), of each row a count that stops
-- (grounds 5 and 6). Rests on rows.
-- For contracts only: tied to rows' `row_sorted` and `named_once` by the contracts of `sorted` and `named`.
use Rattle.std.specs.Prelude.{◌≡◌, cond, List, map, ℕ, ◌+◌, ◌<◌, leb, length, get_or, take, Option}
use Rattle.rows.specs.Rows.{max_rows, sorts}
use Rattle.grounds.specs.declared.sorted.Sort.{Sort as CodeSort}
use Rattle.grounds.specs.Table.{sort_in}

abbrev pub SortsTo : List ℕ → List (Option CodeSort) → ℕ → Type 0
SortsTo rs table i = map sort_in (take i table) ≡ sorts rs i

-- a count that stops at m
unfoldable pub stop : ℕ → ℕ → ℕ
stop m n = cond (leb n m) n m

-- namings are told apart up to here: none, one, more
abbrev pub max_namings : ℕ
max_namings = 2

-- each row's count has grown by so many, and stops
abbrev pub Grown : List ℕ → List ℕ → (ℕ → ℕ) → Type 0
Grown old new by = (i : ℕ) → i < max_rows → (x : ℕ) → get_or old i 0 ≡ stop max_namings x → get_or new i 0 ≡ stop max_namings (x + by i)

-- the same of a table of full size, which stays so
abbrev pub More : List ℕ → List ℕ → (ℕ → ℕ) → Type 0
More old new by = length old ≡ max_rows → (length new ≡ max_rows) × Grown old new by
