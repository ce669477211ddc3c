-- Ground 5: namings counted row by row. Rests on rows, Table, Tables and Stop.
use Rattle.std.specs.Prelude.{Option, Some, None}
use mathlib.Core.Path.{◌≡◌, refl, sym, ap, subst, ◌∙◌}
use mathlib.Core.Bool.{Bool, true, false, not, ◌&&◌}
use mathlib.Core.Logic.{⊎_elim}
use mathlib.Core.List.{List}
use Prim.Native.Nat.{ℕ, ◌+◌, ◌<◌, ◌≤◌}
use native.Mathlib.Numerals.{add-one}
use native.Mathlib.Omega.{arith}
use lib.Dec.{eqb}
use lib.ListN.{get_or, set, replicate, get_or-replicate, length-replicate, length-set}
use lib.Seq.{get_or-set_same, get_or-set_other}
use borrow.Author.Tests.{le-leb, lt-leb, ne_eqb, eqb-true, eqb-false, not-true, not-false}
use Rattle.rows.specs.Kinds.{number_of}
use Rattle.rows.specs.Rows.{max_rows, word, asks_at, op_a, op_b, op_c, names, count, names_by, names_in, namings, first_expression}
use Rattle.rows.proofs.Basics.{true_or_false}
use Rattle.grounds.specs.declared.table.Asks.{Asks as CodeAsks}
use Rattle.grounds.specs.Table.{ask_by, asks_by}
use Rattle.grounds.specs.Tables.{stop, max_namings, More}
use Rattle.grounds.proofs.Stop.{stop_low, stop_high, stop_under, stop_reached}

-- ---- counts grow

pub more_none : (t : List ℕ) (f : ℕ → ℕ) → ((i : ℕ) → i < max_rows → f i ≡ 0) → More t t f
more_none t f z g = (g, λ i h x e. e ∙ ap (stop max_namings) (omega (arith, z i h)))

pub more_then : (t u v : List ℕ) (f g : ℕ → ℕ) → More t u f → More u v g → More t v (λ i. f i + g i)
more_then t u v f g a b l = let p = a l in let q = b p.0 in (q.0, λ i h x e. q.1 i h (x + f i) (p.1 i h x e) ∙ ap (stop max_namings) (omega arith))

pub more_zero : (t : List ℕ) (f : ℕ → ℕ) → More (replicate max_rows 0) t f → (i : ℕ) → i < max_rows → get_or t i 0 ≡ stop max_namings (f i)
more_zero t f m i h = (m (length-replicate {A = ℕ} max_rows 0)).1 i h 0 (get_or-replicate max_rows i 0 0 h ∙ sym (stop_low max_namings 0 (omega arith))) ∙ ap (stop max_namings) (omega arith)

-- ---- one operand

module _ (t : List ℕ) (b : Bool) (w : ℕ) where
  abbrev by : ℕ → ℕ
  by i = count (b && eqb w i)

  not_here : (i : ℕ) → eqb w i ≡ false → by i ≡ 0
  not_here i h = ap (λ x. count (b && x)) h ∙ none b
    where
      none : (b : Bool) → count (b && false) ≡ 0
      none true = refl
      none false = refl

  pub name_not : not b ≡ true → More t t by
  name_not h = more_none t by (λ i l. ap (λ x. count (x && eqb w i)) (not-true b h))

  pub name_past : max_rows ≤ w → More t t by
  name_past h = more_none t by (λ i l. not_here i (ne_eqb w i (λ e. omega arith)))

  -- a count that has stopped stays
  pub name_full : max_namings ≤ get_or t w 0 → More t t by
  name_full h g = (
    g,
    λ i l x e. ⊎_elim
        (λ (p : eqb w i ≡ true).
        let q : w ≡ i = eqb-true w i p in
        let z : get_or t w 0 ≡ get_or t i 0 = ap (λ k. get_or t k 0) q in
        let y : max_namings ≤ x = stop_reached max_namings x (omega arith) in
        e ∙ stop_high max_namings x y ∙ sym (stop_high max_namings (x + by i) (omega arith)))
        (λ p. e ∙ ap (stop max_namings) (omega (arith, not_here i p))) (true_or_false (eqb w i)),
  )

  pub name_one : not b ≡ false → w < max_rows → get_or t w 0 < max_namings → More t (set t w (get_or t w 0 + 1)) by
  name_one n g h f = (
    length-set t w (get_or t w 0 + 1) ∙ f,
    λ i l x e. ⊎_elim
        (λ (p : eqb w i ≡ true).
        let q : w ≡ i = eqb-true w i p in
        let z : get_or t w 0 ≡ get_or t i 0 = ap (λ k. get_or t k 0) q in
        let y : x < max_namings = stop_under max_namings x (omega arith) in
        let o : by i ≡ 1 = rw (not-false b n, p) in
        ap (λ k. get_or (set t w (get_or t w 0 + 1)) k 0) (sym q) ∙ get_or-set_same t w (get_or t w 0 + 1) 0 (omega arith)
        ∙ omega (arith, stop_low max_namings x (omega arith), stop_low max_namings (x + by i) (omega arith)))
        (λ p. get_or-set_other t w i (get_or t w 0 + 1) 0 (λ q. eqb-false w i p (sym q)) ∙ e ∙ ap (stop max_namings) (omega (arith, not_here i p))) (true_or_false (eqb w i)),
  )

-- ---- a row's operands, a row, the rows

module _ (t : List ℕ) (a b c : ℕ) (s : Option CodeAsks) where
  pub name_unknown : s ≡ None → More t t (λ i. names_by (asks_by s) a b c i)
  unfolding names_by
  name_unknown e = more_none t (λ i. names_by (asks_by s) a b c i) (λ i l. ap (λ s. names_by (asks_by s) a b c i) e)

  pub name_known : (u v w : List ℕ) (l : CodeAsks) → s ≡ Some l
      → More t u (λ i. count (names (ask_by l.a) && eqb a i)) → More u v (λ i. count (names (ask_by l.b) && eqb b i)) → More v w (λ i. count (names (ask_by l.c) && eqb c i))
      → More t w (λ i. names_by (asks_by s) a b c i)
  unfolding names_by
  name_known u v w l e f g h = subst (λ s. More t w (λ i. names_by (asks_by s) a b c i)) (sym e)
      (more_then t v w (λ i. count (names (ask_by l.a) && eqb a i) + count (names (ask_by l.b) && eqb b i)) (λ i. count (names (ask_by l.c) && eqb c i))
      (more_then t u v (λ i. count (names (ask_by l.a) && eqb a i)) (λ i. count (names (ask_by l.b) && eqb b i)) f g) h)

module _ (rs t : List ℕ) (j : ℕ) {k : ℕ} (e : k ≡ word rs j 0) where
  pub name_low : k < number_of first_expression → More t t (λ i. names_in rs i j)
  unfolding names_in
  name_low h = more_none t (λ i. names_in rs i j) (λ i l. rw (lt-leb (number_of first_expression) (word rs j 0) (omega arith)))

  pub name_high : number_of first_expression ≤ k → (u : List ℕ) (s : Option CodeAsks) {a b c : ℕ} → asks_by s ≡ asks_at rs j → a ≡ op_a rs j → b ≡ op_b rs j → c ≡ op_c rs j
      → More t u (λ i. names_by (asks_by s) a b c i) → More t u (λ i. names_in rs i j)
  unfolding names_in
  name_high h u s f g d c m o = ((m o).0, λ i l x z. (m o).1 i l x z ∙ ap (λ n. stop max_namings (x + n)) ((λ y. names_by (f y) (g y) (d y) (c y) i) ∙ sym (rw (le-leb (number_of first_expression) (word rs j 0) (omega arith)))))

pub name_rows_none : (rs t : List ℕ) → More t t (λ i. namings rs i 0)
unfolding namings
name_rows_none rs t = more_none t (λ i. namings rs i 0) (λ i l. refl)

pub name_rows_more : (rs t u v : List ℕ) (j : ℕ) → More t u (λ i. namings rs i j) → More u v (λ i. names_in rs i j) → More t v (λ i. namings rs i (j + 1))
unfolding namings
name_rows_more rs t u v j a b = rw add-one (more_then t u v (λ i. namings rs i j) (λ i. names_in rs i j) a b)
