-- The tags as code has them (src/tag.rt), and their words. Rests on Layout.
-- For contracts only.
use Rattle.std.specs.Prelude.{◌≡◌, ℕ, Option, Some, None, Result, Ok, Err}
use Rattle.state.specs.declared.tag.Tag.{Tag}
use Rattle.state.specs.declared.tag.Tag.TheVariants.{Own, One, Other, Whole}
use Rattle.state.specs.declared.tag.UnknownTag.{UnknownTag}
use Rattle.state.specs.Layout.{own, one, other, whole}

abbrev pub tag_word : Tag → ℕ
tag_word Own = own
tag_word One = one
tag_word Other = other
tag_word Whole = whole

-- the word is no tag's
abbrev pub IsNoTag : ℕ → Type 0
IsNoTag w = (t : Tag) → w ≡ tag_word t → ⊥

-- the tag with this word, or that it is the word of none
abbrev pub IsTag : Option Tag → ℕ → Type 0
IsTag None w = IsNoTag w
IsTag (Some t) w = w ≡ tag_word t

abbrev pub Decodes : ℕ → Result Tag UnknownTag → Type 0
Decodes w (Ok t) = w ≡ tag_word t
Decodes w (Err e) = (e.0 ≡ w) × IsNoTag w
