-- The sort of a row, and that the sorts below a row are those of the rows below it. Rests on rows' definitions and Basics.
use Rattle.std.proofs.Common.{◌≡◌, refl, List, ℕ, ◌<◌, get_or}
use Rattle.rows.specs.Kinds.{Sort, no_s}
use Rattle.rows.specs.Rows.{asks_at, op_b, sort_by, sorts, sort_below}
use Rattle.rows.proofs.Basics.{made_at}

module _ (rs : List ℕ) where
  -- the sort of row i
  unfoldable pub sort_at : ℕ → Sort
  sort_at i = sort_by (asks_at rs i) (sort_below rs i (op_b rs i))

  abbrev pub made : ℕ → List Sort → Sort
  made i l = sort_by (asks_at rs i) (get_or l (op_b rs i) no_s)

  pub sort_below_lem : (i w : ℕ) → w < i → sort_below rs i w ≡ sort_at w
  unfolding sorts sort_at
  sort_below_lem = made_at no_s made (sorts rs) refl (λ i. refl)
