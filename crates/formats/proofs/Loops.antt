-- Fields one after another: the laws of the loops that read and write them. Rests on Records.
use mathlib.Core.Path.{◌≡◌, refl, sym, ap, ap₂, ◌∙◌}
use mathlib.Core.Option.{Option, none, some}
use Rattle.std.specs.Prelude.{Option as Maybe, Some, None}
use Rattle.std.proofs.lemmas.Option.{none-some}
use mathlib.Core.List.{List, [], ◌∷◌, ◌++◌, map, map-append, append-nil}
use Prim.Native.Nat.{ℕ, zero, suc, ◌+◌, ◌*◌, ◌-◌, ◌<◌, ◌≤◌}
use native.Mathlib.Numerals.{add-one}
use native.Mathlib.Omega.{arith}
use lib.ListN.{length, get_or, take, set, replicate, get_or-replicate, length-map, length-append, length-replicate}
use lib.Seq.{take_all, take-suc, length-take-le, set_at, append_snoc}
use mir.Syntax.{w32}
use mir.Val.{to_z}
use Rattle.decimal.specs.Field.{Field, unreadable, written, reads_at, reading, put_at}
use Rattle.decimal.specs.declared.field.Reading.TheVariants.{Number, Blank, Unreadable}
use Rattle.decimal.proofs.Answers.{number_read, blank_said, nothing_said}
use Rattle.tophat.specs.Syntax.{max_leaves}
use Rattle.tophat.specs.Leaves.{padded, Given}
use Rattle.formats.specs.Records.{total, place_of, fields_at, each, Item, put_items, items_of, leaf_bits, leaf_read, leaves_read}
use Rattle.formats.specs.Touches.{leaf_said}
use Rattle.formats.proofs.Each.{each_more, each_none}
use Rattle.formats.proofs.Records.{widths, fields_length, field_at, put_more}

-- ---- fields of one width

abbrev alike : ℕ → List ℕ
alike w = replicate max_leaves w

place_is : (n k w : ℕ) → k ≤ n → place_of (replicate n w) k ≡ k * w
place_is n zero w l = omega arith
place_is zero (suc k) w l = absurd (omega arith)
place_is (suc n) (suc k) w l = let e = place_is n k w (omega arith) in omega (arith, e)

pub field_is : (s : List ℕ) (at k w : ℕ) → k < max_leaves → get_or (fields_at s at (alike w)) k unreadable ≡ reads_at s (at + k * w) w
field_is s at k w l = field_at s at (alike w) k (omega (arith, length-replicate max_leaves w, l)) ∙ (λ j. reads_at s (at + place_is max_leaves k w (omega arith) j) (get_or-replicate max_leaves k w 0 l j))

-- ---- one leaf

module _ (s : List ℕ) (at w : ℕ) where
  pub leaf_number : (n : ℕ) → Number n ≡ reading (reads_at s at w) → Some (Some n) ≡ leaf_read (leaf_said (reads_at s at w))
  unfolding leaf_said leaf_bits
  leaf_number n g =
      let d = number_read s at w n g in
      let e = d.is in
      rw e (ap (λ m. Some (Some m)) (sym d.bits))

  pub leaf_blank : Blank ≡ reading (reads_at s at w) → Some None ≡ leaf_read (leaf_said (reads_at s at w))
  unfolding leaf_said leaf_bits
  leaf_blank g = let e = blank_said (reads_at s at w) g in rw e

  pub leaf_none : Unreadable ≡ reading (reads_at s at w) → None ≡ leaf_read (leaf_said (reads_at s at w))
  unfolding leaf_said
  leaf_none g = let e = nothing_said (reads_at s at w) g in rw e

-- ---- the loop that reads: the first k fields are read, and what they say stands first

-- what stands first, and the rest as at the start
module _ {X : Type 0} (x : X) (xs : List X) (k : ℕ) (e : length xs ≡ k) (l : k < max_leaves) where
  abbrev rest : List X
  rest = replicate (max_leaves - suc k) x

  next_at : padded x xs ≡ xs ++ x ∷ rest
  unfolding padded
  next_at = ap (λ n. xs ++ replicate n x) {x = max_leaves - length xs} {y = suc (max_leaves - suc k)} (omega (arith, e, l))

  next_in : (y : X) → padded x (xs ++ y ∷ []) ≡ xs ++ y ∷ rest
  unfolding padded
  next_in y =
      let a = length-append xs (y ∷ []) in
      ap (λ n. (xs ++ y ∷ []) ++ replicate n x) {x = max_leaves - length (xs ++ y ∷ [])} {y = max_leaves - suc k} (omega (arith, a, e)) ∙ append_snoc xs y rest

  next_set : (y : X) → set (padded x xs) k y ≡ padded x (xs ++ y ∷ [])
  next_set y = ap (λ r. set r k y) next_at ∙ set_at xs x rest y k e ∙ sym (next_in y)

padded_full : {X : Type 0} (x : X) (xs : List X) → length xs ≡ max_leaves → padded x xs ≡ xs
unfolding padded
padded_full x xs e = ap (λ n. xs ++ replicate n x) {x = max_leaves - length xs} {y = 0} (omega (arith, e)) ∙ append-nil xs

module _ (s : List ℕ) (at w : ℕ) where
  abbrev read : List Field
  read = fields_at s at (alike w)

  read_long : (k : ℕ) → k < max_leaves → k < length read
  read_long k l = omega (arith, fields_length s at (alike w), length-replicate max_leaves w, l)

  pub record ReadTo (leaves : List (Maybe ℕ)) (k : ℕ) : Type 0 where
    pub said : List Given
    pub long : length said ≡ k
    pub says : each leaf_said (take k read) ≡ some said
    pub is : leaves ≡ padded None (map leaf_bits said)

  pub read_first : ReadTo (replicate max_leaves None) 0
  unfolding each padded
  read_first = record { said = []; long = refl; says = refl; is = refl }

  module _ (k : ℕ) (m : k < max_leaves) where
    -- one more leaf
    pub read_more : (leaf : Maybe ℕ) → Some leaf ≡ leaf_read (leaf_said (reads_at s (at + k * w) w)) → (leaves : List (Maybe ℕ)) → ReadTo leaves k → ReadTo (set leaves k leaf) (k + 1)
    read_more leaf e leaves r =
        let (l, f, b) = by (leaf_said (reads_at s (at + k * w) w)) e in
        let many = length-map r.said leaf_bits ∙ r.long in
        record {
          said = r.said ++ l ∷ [];
          long = length-append r.said (l ∷ []) ∙ ap (λ n. n + 1) r.long;
          says = ap (λ j. each leaf_said (take j read)) (add-one k) ∙ each_more leaf_said read k unreadable (read_long k m) r.says (ap leaf_said (field_is s at k w m) ∙ f);
          is = (λ j. set (r.is j) k (b j)) ∙ next_set None (map leaf_bits r.said) k many m (leaf_bits l) ∙ ap (padded None) (sym (map-append leaf_bits r.said (l ∷ [])));
        }
      where
        by : (o : Option Given) → Some leaf ≡ leaf_read o → (l : Given) × (o ≡ some l) × (leaf ≡ leaf_bits l)
        by none q = absurd (none-some leaf (sym q))
        by (some l) q = (l, refl, cc)

    pub read_none : None ≡ leaf_read (leaf_said (reads_at s (at + k * w) w)) → None ≡ leaves_read (each leaf_said read)
    read_none e = let q = each_none leaf_said read k unreadable (read_long k m) (ap leaf_said (field_is s at k w m) ∙ by (leaf_said (reads_at s (at + k * w) w)) e) in rw q
      where
        by : (o : Option Given) → None ≡ leaf_read o → o ≡ none
        by none q = refl
        by (some l) q = absurd (none-some (leaf_bits l) q)

  pub read_all : (leaves : List (Maybe ℕ)) (k : ℕ) → k ≡ max_leaves → ReadTo leaves k → Some leaves ≡ leaves_read (each leaf_said read)
  read_all leaves k n r =
      let long : length read ≡ k = fields_length s at (alike w) ∙ length-replicate max_leaves w ∙ sym n in
      let f : each leaf_said read ≡ some r.said = ap (each leaf_said) (sym (take_all k read (omega (arith, long)))) ∙ r.says in
      rw f (ap Some (r.is ∙ padded_full None (map leaf_bits r.said) (length-map r.said leaf_bits ∙ r.long ∙ n)))

-- ---- the loop that writes

pub widths_total : (w : ℕ) (xs : List ℕ) → total (widths (items_of w xs)) ≡ length xs * w
widths_total w [] = omega arith
widths_total w (x ∷ xs) = let e = widths_total w xs in omega (arith, e)

module _ (s : List ℕ) (at w : ℕ) (ns : List ℕ) where
  pub write_more : (k : ℕ) (u v : List ℕ) → k < length ns → u ≡ put_items s at (items_of w (take k ns)) → v ≡ (put_at u (at + k * w) w (written w (to_z w32 (get_or ns k 0)))).1
      → v ≡ put_items s at (items_of w (take (k + 1) ns))
  write_more k u v l e f =
      let i : Item = (w, to_z w32 (get_or ns k 0)) in
      let is = items_of w (take k ns) in
      let t : take (k + 1) ns ≡ take k ns ++ get_or ns k 0 ∷ [] = ap (λ j. take j ns) (add-one k) ∙ take-suc ns k 0 l in
      let m : items_of w (take (k + 1) ns) ≡ is ++ i ∷ [] = ap (items_of w) t ∙ map-append (λ n. (w, to_z w32 n)) (take k ns) (get_or ns k 0 ∷ []) in
      f ∙ ap₂ (λ u n. (put_at u n w (written w i.1)).1) e (ap (λ n. at + n) (ap (λ n. n * w) (sym (length-take-le k ns (omega arith))) ∙ sym (widths_total w (take k ns))))
      ∙ sym (put_more is i s at) ∙ ap (put_items s at) (sym m)

  pub write_all : (k : ℕ) (u : List ℕ) → length ns ≤ k → u ≡ put_items s at (items_of w (take k ns)) → u ≡ put_items s at (items_of w ns)
  write_all k u l e = e ∙ ap (λ ns. put_items s at (items_of w ns)) (take_all k ns l)
