-- What a slice holds after another was copied over its front. Rests on lists alone.
-- For contracts only: no promise names it.
use Rattle.std.specs.Prelude.{List, ◌++◌, map, length, take, drop}

-- `to`, with the elements of `from`, each by f, in place of its first ones: as many as both have; the rest of `to` stays
unfoldable pub laid : {A B : Type 0} → (A → B) → List A → List B → List B
laid f from to = map f (take (length to) from) ++ drop (length from) to
