-- Words put and read: where words of a state stand, a row that is cleared and then written word by word, a value read back from
-- the words that hold it. Rests on specs/Words. The first section alone knows what `place` is.
use mathlib.Core.Path.{◌≡◌, refl, sym, ap, ◌∙◌, subst}
use mathlib.Core.List.{List, [], ◌∷◌, ◌++◌, append_assoc, append-nil}
use Prim.Native.Nat.{ℕ, zero, suc, ◌+◌, ◌*◌, ◌≤◌, ◌<◌}
use native.Mathlib.Decide.{ℕ_discrete}
use native.Mathlib.Numerals.{add-one}
use native.Mathlib.Omega.{arith}
use lib.ListN.{length, get_or, set, take, replicate, length-append}
use lib.Seq.{get_or-set_other, get_or-append_seam, take-suc, take_all, length-take-le}
use Rattle.word.specs.Tabulate.{tabulate}
use Rattle.word.proofs.Tabulate.{tabulate_is, tabulate_same, FilledTo, filled_all}
use Rattle.tophat.specs.Syntax.{max_leaves, Ty, leaves, Val}
use Rattle.tophat.specs.Typing.{ValueType}
use Rattle.tophat.proofs.Leaves.{type_of_lem}
use Rattle.value.specs.declared.Value.{Value}
use Rattle.value.specs.Values.{as_value, leaf_bits}
use Rattle.value.proofs.Meaning.{leaf_count}
use Rattle.state.specs.Layout.{state_words, place, at, value_words}
use Rattle.state.specs.Holds.{value_length, Row, Same}
use Rattle.state.specs.Words.{words_of, Laid, value_by, value_at}

abbrev pub zero_words : ℕ → List ℕ
zero_words n = replicate n 0

pub padding : (xs : List ℕ) (n m : ℕ) → get_or (xs ++ zero_words n) m 0 ≡ get_or xs m 0
padding [] zero m = refl
padding [] (suc n) zero = refl
padding [] (suc n) (suc m) = padding [] n m
padding (x ∷ xs) n zero = refl
padding (x ∷ xs) n (suc m) = padding xs n m

-- ---- where words stand

-- no two words stand at one place
pub place_one : (i j m k : ℕ) → m < state_words → k < state_words → place i m ≡ place j k → (i ≡ j) × (m ≡ k)
place_one i j m k h g e = (omega arith, omega arith)

-- the words of n rows stand among the first
pub place_in : (n i m : ℕ) → i < n → m < state_words → place i m < n * state_words
place_in n i m h g = omega arith

-- ---- a word put

-- ws₁ is ws but for word m of row i, which is x
pub record Put (ws ws₁ : List ℕ) (i m x : ℕ) : Type 0 where
  pub new : at ws₁ i m ≡ x
  pub old : (j k : ℕ) → k < state_words → (j ≡ i → k ≡ m → ⊥) → at ws₁ j k ≡ at ws j k

pub put_is : {ws ws₁ : List ℕ} {i m x : ℕ} → m < state_words → ws₁ ≡ set ws (place i m) x → at ws₁ i m ≡ x → Put ws ws₁ i m x
put_is {ws} {ws₁} {i} {m} {x} h e f = record {
  new = f;
  old = λ j k g n. ap (λ v. at v j k) e ∙ get_or-set_other ws (place i m) (place j k) x 0 (λ z. let (p, q) = place_one j i k m g h z in n p q);
}

-- ---- a row cleared, and written word by word

-- ws₁ is ws but for row i, whose words below m are 0
pub record ClearTo (ws ws₁ : List ℕ) (i m : ℕ) : Type 0 where
  pub zeros : (k : ℕ) → k < m → at ws₁ i k ≡ 0
  pub same : Same (λ j. j ≡ i) ws ws₁

pub clear_none : (ws : List ℕ) (i : ℕ) → ClearTo ws ws i 0
clear_none ws i = record { zeros = λ k h. absurd (omega arith); same = record { words = λ j m h n. refl } }

pub clear_more : {ws ws₁ ws₂ : List ℕ} {i m : ℕ} → m < state_words → Put ws₁ ws₂ i m 0 → ClearTo ws ws₁ i m → ClearTo ws ws₂ i (m + 1)
clear_more {ws} {ws₁} {ws₂} {i} {m} h p c = record {
  zeros = λ k g. by k g (ℕ_discrete k m);
  same = record { words = λ j k g n. p.old j k g (λ q r. n q) ∙ c.same.words j k g n };
}
  where
    by : (k : ℕ) → k < m + 1 → Dec (k ≡ m) → at ws₂ i k ≡ 0
    by k g (yes q) = ap (at ws₂ i) q ∙ p.new
    by k g (no n) = p.old i k (omega arith) (λ q r. n r) ∙ c.zeros k (omega arith)

pub clear_all : {ws ws₁ : List ℕ} {i m : ℕ} → state_words ≤ m → ClearTo ws ws₁ i m → Laid ws ws₁ i []
clear_all h c = record { row = record { words = λ k g. c.zeros k (omega arith) }; same = c.same }

past_seam : (xs : List ℕ) (x k : ℕ) → (k ≡ length xs → ⊥) → get_or xs k 0 ≡ get_or (xs ++ x ∷ []) k 0
past_seam [] x zero n = absurd (n refl)
past_seam [] x (suc k) n = refl
past_seam (y ∷ xs) x zero n = refl
past_seam (y ∷ xs) x (suc k) n = past_seam xs x k (λ e. n (ap suc e))

-- the next word put into a row that holds xs
pub laid_more : {ws ws₁ ws₂ : List ℕ} {i : ℕ} {xs : List ℕ} {m x : ℕ} → m ≡ length xs → Put ws₁ ws₂ i m x → Laid ws ws₁ i xs → Laid ws ws₂ i (xs ++ x ∷ [])
laid_more {ws} {ws₁} {ws₂} {i} {xs} {m} {x} z p l = record {
  row = record { words = λ k g. by k g (ℕ_discrete k m) };
  same = record { words = λ j k g n. p.old j k g (λ q r. n q) ∙ l.same.words j k g n };
}
  where
    by : (k : ℕ) → k < state_words → Dec (k ≡ m) → at ws₂ i k ≡ get_or (xs ++ x ∷ []) k 0
    by k g (yes q) = ap (at ws₂ i) q ∙ p.new ∙ sym (get_or-append_seam xs x [] 0) ∙ ap (λ k. get_or (xs ++ x ∷ []) k 0) (sym (q ∙ z))
    by k g (no n) = p.old i k g (λ q r. n r) ∙ l.row.words k g ∙ past_seam xs x k (λ q. n (q ∙ sym z))

-- a loop that puts the leaves ls after the words xs of a row, m of them, has put k
abbrev pub LeavesTo : List ℕ → List ℕ → ℕ → ℕ → List ℕ → ℕ → Type 0
LeavesTo ws₀ ws₁ i m ls k = (ws xs : List ℕ) → length xs ≡ m → Laid ws ws₀ i xs → Laid ws ws₁ i (xs ++ take k ls)

pub leaves_none : (ws : List ℕ) (i m : ℕ) (ls : List ℕ) → LeavesTo ws ws i m ls 0
leaves_none ws₀ i m ls ws xs e p = subst (Laid ws ws₀ i) (sym (append-nil xs)) p

pub leaves_more : {ws₀ ws₁ ws₂ : List ℕ} {i m : ℕ} (ls : List ℕ) (k : ℕ) → k < length ls → Put ws₁ ws₂ i (m + k) (get_or ls k 0) → LeavesTo ws₀ ws₁ i m ls k → LeavesTo ws₀ ws₂ i m ls (k + 1)
leaves_more {ws₀} {ws₁} {ws₂} {i} {m} ls k h p l ws xs z q =
    let n : m + k ≡ length (xs ++ take k ls) = omega (arith, length-append xs (take k ls), length-take-le k ls (omega arith)) in
    let f : (xs ++ take k ls) ++ get_or ls k 0 ∷ [] ≡ xs ++ take (k + 1) ls = append_assoc xs (take k ls) (get_or ls k 0 ∷ []) ∙ ap (λ l. xs ++ l) (sym (take-suc ls k 0 h) ∙ ap (λ n. take n ls) (sym (add-one k))) in
    subst (Laid ws ws₂ i) f (laid_more n p (l ws xs z q))

pub leaves_all : {ws₀ ws₁ : List ℕ} {i m : ℕ} (ls : List ℕ) (k : ℕ) → length ls ≤ k → LeavesTo ws₀ ws₁ i m ls k → (ws xs : List ℕ) → length xs ≡ m → Laid ws ws₀ i xs → Laid ws ws₁ i (xs ++ ls)
leaves_all {ws₀} {ws₁} {i} ls k h p ws xs e q = subst (λ l. Laid ws ws₁ i (xs ++ l)) (take_all k ls h) (p ws xs e q)

-- ---- values

-- a value of at most max_leaves leaves has words for as many
pub length_bits : {u : Val} {τ : Ty} → ValueType u τ → leaves τ ≤ max_leaves → length (leaf_bits u) ≡ max_leaves
length_bits {u} t l = leaf_count u (subst (λ τ. leaves τ ≤ max_leaves) (sym (type_of_lem t)) l)

-- words that are a value's are read as the value
pub value_by_lem : (f : ℕ → ℕ) (u : Val) {τ : Ty} → ((m : ℕ) → m < value_length → f m ≡ get_or (value_words u) m 0) → ValueType u τ → leaves τ ≤ max_leaves → value_by f ≡ as_value u
unfolding value_words as_value
value_by_lem f u h t l =
    let e : tabulate max_leaves (λ i. f (suc i)) ≡ leaf_bits u = tabulate_is max_leaves (λ i. f (suc i)) (leaf_bits u) 0 (length_bits t l) (λ i g. sym (h (suc i) (omega arith))) in
    λ i. record { shape = h 0 (omega arith) i; leaves = e i }

-- words read one by one, the leaves from word m on
pub value_filled : (f g : ℕ → ℕ) (x k : ℕ) (ls : List ℕ) → x ≡ f 0 → ((i : ℕ) → g i ≡ f (suc i)) → length ls ≡ max_leaves → max_leaves ≤ k → FilledTo g 0 k ls → record { shape = x; leaves = ls } ≡ value_by f
value_filled f g x k ls e h l m p =
    let q : ls ≡ tabulate max_leaves (λ i. f (suc i)) = filled_all g 0 max_leaves k ls l m p ∙ tabulate_same max_leaves g (λ i. f (suc i)) (λ i _. h i) in
    λ i. record { shape = e i; leaves = q i }

-- what read_value gives of a row that holds a value
pub value_at_lem : {ws : List ℕ} {i x : ℕ} {u : Val} {τ : Ty} → Row ws i (x ∷ value_words u) → ValueType u τ → leaves τ ≤ max_leaves → value_at ws i ≡ as_value u
value_at_lem {ws} {i} {u = u} r t l = value_by_lem (λ m. at ws i (suc m)) u (λ m h. r.words (suc m) (omega arith)) t l

-- the words of a value
pub words_of_lem : {v : Value} (u : Val) → v ≡ as_value u → words_of v ≡ value_words u
unfolding value_words as_value
words_of_lem u e = ap words_of e

-- what put_value leaves, where it is given a value of the calculus
pub laid_as : {ws ws₁ : List ℕ} {i x : ℕ} {v : Value} (u : Val) → Laid ws ws₁ i (x ∷ words_of v) → v ≡ as_value u → Laid ws ws₁ i (x ∷ value_words u)
laid_as {ws} {ws₁} {i} {x} u p e = subst (λ ys. Laid ws ws₁ i (x ∷ ys)) (words_of_lem u e) p
