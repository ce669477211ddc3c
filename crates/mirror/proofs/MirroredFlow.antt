-- An accepted flow whose last row is of kind 46, mirrored: the own rows are the same but for A and B of the last row, which are exchanged, and
-- it is an accepted flow of the code with its parts exchanged. Rests on Exchanged and MirroredStates, and on call_definitions' flows.
use mathlib.Core.Path.{◌≡◌, sym, ap, subst, ◌∙◌}
use mathlib.Core.Logic.{⊎_elim}
use mathlib.Core.List.{List, [], ◌∷◌, ◌++◌, map, map-append, append_assoc}
use Prim.Native.Nat.{ℕ, suc, ◌+◌, ◌*◌, ◌-◌, ◌<◌, ◌≤◌}
use native.Mathlib.Omega.{arith}
use lib.Dec.{lit<}
use lib.IntN.{ℤ, pos}
use lib.ListN.{length, get_or, replicate, length-map, get_or-append}
use lib.Seq.{get_or-append-add, take-append_seam}
use mir.Syntax.{w32}
use mir.Val.{of_z}
use Rattle.word.specs.Word.{IsWord, AllWords}
use Rattle.word.proofs.Lists.{words_cons, words_append, words_take}
use Rattle.tophat.specs.Syntax.{Ty, pair, Code, and}
use Rattle.rows.specs.Kinds.{task_k, and_k}
use Rattle.rows.specs.Rows.{row_words, word, OfKind}
use Rattle.rows.specs.Lent.{rows_size, own_rows, row_count}
use Rattle.rows.specs.Trees.{ReadsCode, r_and, Flow}
use Rattle.rows.specs.Ground.{ground_of_rows}
use Rattle.rows.proofs.Basics.{le_or_lt}
use Rattle.sheet.proofs.AcceptedRows.{Passed, of_passed}
use Rattle.call_definitions.specs.Answers.{Loads, AcceptedFlow}
use Rattle.call_definitions.proofs.Flows.{loads_passed, loads_words, accepts_loads}
use Rattle.call_definitions.proofs.Opening.{past}
use Rattle.mirror.specs.Mirrored.{mirrored}
use Rattle.mirror.proofs.Exchanged.{LastRow, mirrored_split, mirrored_length, mirrored_count}
use Rattle.mirror.proofs.MirroredRows.{Exchanged}
use Rattle.mirror.proofs.MirroredStates.{Two, two_of}

-- ---- four words after others, and more

-- a row's words after m rows, with xs after them
module _ (front : List ℕ) (m : ℕ) (long : length front ≡ m * row_words) where
  at_row : (xs : List ℕ) (j : ℕ) → word (front ++ xs) m j ≡ get_or xs j 0
  at_row xs j = ap (λ k. get_or (front ++ xs) (k + j) 0) (sym long) ∙ get_or-append-add front xs j 0

  -- the rows before it
  before_row : (xs ys : List ℕ) (i j : ℕ) → i < m → j < row_words → word (front ++ xs) i j ≡ word (front ++ ys) i j
  before_row xs ys i j l h =
      get_or-append front xs 0 (i * row_words + j) (omega (arith, long)) ∙ sym (get_or-append front ys 0 (i * row_words + j) (omega (arith, long)))

  -- and those after it
  after_row_lem : (p q r s p₁ q₁ r₁ s₁ : ℕ) (xs : List ℕ) (i j : ℕ) → m < i → word (front ++ (p ∷ q ∷ r ∷ s ∷ xs)) i j ≡ word (front ++ (p₁ ∷ q₁ ∷ r₁ ∷ s₁ ∷ xs)) i j
  after_row_lem p q r s p₁ q₁ r₁ s₁ xs i j l =
      let d = (i - suc m) * row_words + j in
      let e : i * row_words + j ≡ length front + (4 + d) = omega (arith, long, l) in
      let f : 4 + d ≡ suc (suc (suc (suc d))) = omega arith in
      ap (λ k. get_or (front ++ (p ∷ q ∷ r ∷ s ∷ xs)) k 0) e ∙ get_or-append-add front (p ∷ q ∷ r ∷ s ∷ xs) (4 + d) 0 ∙ ap (λ k. get_or (p ∷ q ∷ r ∷ s ∷ xs) k 0) f
      ∙ sym (ap (λ k. get_or (front ++ (p₁ ∷ q₁ ∷ r₁ ∷ s₁ ∷ xs)) k 0) e ∙ get_or-append-add front (p₁ ∷ q₁ ∷ r₁ ∷ s₁ ∷ xs) (4 + d) 0 ∙ ap (λ k. get_or (p₁ ∷ q₁ ∷ r₁ ∷ s₁ ∷ xs) k 0) f)

  pub exchanged_rows : (k a b c : ℕ) (xs : List ℕ) → OfKind (front ++ (k ∷ a ∷ b ∷ c ∷ xs)) m (task_k and_k)
      → Exchanged (front ++ (k ∷ a ∷ b ∷ c ∷ xs)) (front ++ (k ∷ b ∷ a ∷ c ∷ xs)) m
  exchanged_rows k a b c xs h =
      let ys = k ∷ a ∷ b ∷ c ∷ xs in
      let zs = k ∷ b ∷ a ∷ c ∷ xs in
      record {
        last = h;
        others = λ i j o l. ⊎_elim
            (λ (p : m ≤ i). after_row_lem k b a c k a b c xs i j (below p o))
            (λ (p : i < m). before_row zs ys i j p l)
            (le_or_lt m i);
        last_kind = at_row zs 0 ∙ sym (at_row ys 0);
        last_a = at_row zs 1 ∙ sym (at_row ys 2);
        last_b = at_row zs 2 ∙ sym (at_row ys 1);
        last_c = at_row zs 3 ∙ sym (at_row ys 3);
      }
    where
      below : {i : ℕ} → m ≤ i → (i ≡ m → ⊥) → m < i
      below {i} p o = ⊎_elim (λ (q : suc m ≤ i). q) (λ (q : i < suc m). absurd (o (omega arith))) (le_or_lt (suc m) i)

-- ---- words

no_words : AllWords []
no_words i = lit< tt

word_at : (xs zs : List ℤ) → AllWords (xs ++ zs) → (j : ℕ) → IsWord (get_or zs j (pos 0))
word_at xs zs w j = subst IsWord (get_or-append-add xs zs j (pos 0)) (w (length xs + j))

words_exchanged : (xs : List ℤ) (k a b c : ℤ) → AllWords (xs ++ (k ∷ a ∷ b ∷ c ∷ [])) → AllWords (xs ++ (k ∷ b ∷ a ∷ c ∷ []))
words_exchanged xs k a b c w =
    let zs = k ∷ a ∷ b ∷ c ∷ [] in
    let front : AllWords xs = subst AllWords (take-append_seam xs zs) (words_take (length xs) (xs ++ zs) (λ i l. w i)) in
    words_append xs (k ∷ b ∷ a ∷ c ∷ []) front
    (words_cons k (b ∷ a ∷ c ∷ []) (word_at xs zs w 0) (words_cons b (a ∷ c ∷ []) (word_at xs zs w 2) (words_cons a (c ∷ []) (word_at xs zs w 1) (words_cons c [] (word_at xs zs w 3) no_words))))

-- ---- the rows of a flow

module _ {rows : List ℤ} {a b : Code} {Σ : List Ty} {τ υ : Ty} (f : AcceptedFlow rows (and a b) Σ (pair τ υ)) where
  abbrev n : ℕ
  n = row_count rows

  pub last_row : LastRow rows (n - 1)
  last_row = let p = loads_passed f.loads in let o = p.some_rows in let e = p.whole in mirrored_split rows (n - 1) (omega (arith, o, e))

  -- the own rows, split so
  own_split : (front : List ℤ) (zs : List ℤ) → own_rows (front ++ zs) ≡ map (of_z w32) front ++ (map (of_z w32) zs ++ replicate (rows_size - length (front ++ zs)) 0)
  own_split front zs = ap (λ l. l ++ replicate (rows_size - length (front ++ zs)) 0) (map-append (of_z w32) front zs) ∙ append_assoc (map (of_z w32) front) (map (of_z w32) zs) _

  pub last_kind_lem : OfKind (own_rows rows) (n - 1) (task_k and_k)
  last_kind_lem = by f.flow.code
    where
      by : {i : ℕ} → ReadsCode (own_rows rows) i (and a b) → OfKind (own_rows rows) i (task_k and_k)
      by (r_and k p q g h) = k

  -- the last row's words after the front's, and zeros after them
  abbrev laid_out : List ℤ → ℤ → ℤ → ℤ → ℤ → List ℕ
  laid_out front k a b c = map (of_z w32) front ++ (of_z w32 k ∷ of_z w32 a ∷ of_z w32 b ∷ of_z w32 c ∷ replicate (rows_size - length rows) 0)

  own_laid : (front : List ℤ) (k a b c : ℤ) → length (front ++ (k ∷ a ∷ b ∷ c ∷ [])) ≡ length rows → own_rows (front ++ (k ∷ a ∷ b ∷ c ∷ [])) ≡ laid_out front k a b c
  own_laid front k a b c e = own_split front (k ∷ a ∷ b ∷ c ∷ [])
      ∙ ap (λ l. map (of_z w32) front ++ (of_z w32 k ∷ of_z w32 a ∷ of_z w32 b ∷ of_z w32 c ∷ replicate (rows_size - l) 0)) e

  pub own_exchanged : Exchanged (own_rows rows) (own_rows (mirrored rows)) (n - 1)
  own_exchanged =
      let r = last_row in
      let one = laid_out r.front r.k r.a r.b r.c in
      let e : own_rows rows ≡ one = ap own_rows r.is ∙ own_laid r.front r.k r.a r.b r.c (ap length (sym r.is)) in
      let e₁ : own_rows (mirrored rows) ≡ laid_out r.front r.k r.b r.a r.c =
      ap own_rows r.mirrored_is ∙ own_laid r.front r.k r.b r.a r.c (ap length (sym r.mirrored_is) ∙ mirrored_length rows) in
      let l : length (map (of_z w32) r.front) ≡ (n - 1) * row_words = length-map r.front (of_z w32) ∙ r.long in
      let k : OfKind one (n - 1) (task_k and_k) = subst (λ rs. OfKind rs (n - 1) (task_k and_k)) e last_kind_lem in
      let x = exchanged_rows (map (of_z w32) r.front) (n - 1) l (of_z w32 r.k) (of_z w32 r.a) (of_z w32 r.b) (of_z w32 r.c) _ k in
      subst (λ rs. Exchanged rs (own_rows (mirrored rows)) (n - 1)) (sym e) (subst (λ rs₁. Exchanged one rs₁ (n - 1)) (sym e₁) x)

  pub two_flows : Two (own_rows rows) (own_rows (mirrored rows)) n a b Σ f.first τ υ
  two_flows = let p = loads_passed f.loads in two_of p.some_rows own_exchanged p.ground_is f.flow (past f)

  -- ---- the mirrored rows are an accepted flow

  mirrored_words : AllWords (mirrored rows)
  mirrored_words =
      let r = last_row in
      subst AllWords (sym r.mirrored_is) (words_exchanged r.front r.k r.a r.b r.c (subst AllWords r.is (loads_words f.loads)))

  mirrored_passed : Passed (mirrored rows)
  mirrored_passed =
      let p = loads_passed f.loads in
      let e = mirrored_count rows in
      let l = mirrored_length rows in
      let o = p.some_rows in let w = p.few in let h = p.whole in
      record {
        some_rows = omega (arith, e, o);
        few = omega (arith, e, w);
        whole = l ∙ h ∙ ap (λ k. k * row_words) (sym e);
        ground_is = ap (ground_of_rows (own_rows (mirrored rows))) e ∙ two_flows.ground₁;
      }

  pub mirrored_accepts : Loads (mirrored rows)
  mirrored_accepts = accepts_loads mirrored_words (of_passed (mirrored rows) mirrored_passed)

  abbrev pub mirrored_flow : AcceptedFlow (mirrored rows) (and b a) Σ (pair υ τ)
  mirrored_flow = record {
    loads = mirrored_accepts;
    first = f.first;
    flow = subst (λ k. Flow (own_rows (mirrored rows)) k (and b a) Σ f.first (pair υ τ)) (sym (mirrored_count rows)) two_flows.flow₁;
  }
