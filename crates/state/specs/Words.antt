-- What the leaf functions leave and return: rows of words written, values read from words, the value of a binder. Rests on
-- Layout and Holds.
-- For contracts only: tied to Holds by the proofs of the engine's functions.
use Rattle.std.specs.Prelude.{◌≡◌, cond, List, ◌∷◌, ℕ, suc, ◌+◌, ◌-◌, ◌<◌, ◌≤◌, ltb, get_or, ◌⊎◌}
use Rattle.word.specs.Tabulate.{tabulate}
use Rattle.tophat.specs.Syntax.{max_leaves}
use Rattle.value.specs.declared.Value.{Value}
use Rattle.value.specs.Values.{no_value}
use Rattle.state.specs.Layout.{at}
use Rattle.state.specs.Holds.{value_length, slot, Row, Same}

-- the words of a value as the engine passes it
abbrev pub words_of : Value → List ℕ
words_of v = v.shape ∷ v.leaves

-- ws₁ is ws but for row i, which holds xs
pub record Laid (ws ws₁ : List ℕ) (i : ℕ) (xs : List ℕ) : Type 0 where
  pub row : Row ws₁ i xs
  pub same : Same (λ j. j ≡ i) ws ws₁

-- ws₁ is ws but for the words from place p on, which are those of v
pub record LaidFrom (ws ws₁ : List ℕ) (p : ℕ) (v : Value) : Type 0 where
  pub value : (m : ℕ) → m < value_length → get_or ws₁ (p + m) 0 ≡ get_or (words_of v) m 0
  pub rest : (k : ℕ) → (k < p) ⊎ (p + value_length ≤ k) → get_or ws₁ k 0 ≡ get_or ws k 0

-- the value whose words are f's
abbrev pub value_by : (ℕ → ℕ) → Value
value_by f = record { shape = f 0; leaves = tabulate max_leaves λ i. f (suc i) }

-- the value that row i holds
abbrev pub value_at : List ℕ → ℕ → Value
value_at ws i = value_by (λ m. at ws i (suc m))

-- the value of binder k, counted outward from depth d
abbrev pub binder_at : List ℕ → ℕ → ℕ → Value
binder_at env d k = cond (ltb k d) (value_by (slot env (d - 1 - k))) no_value

-- env₁ is env but for slot d, which holds v
pub record Pushed (env env₁ : List ℕ) (d : ℕ) (v : Value) : Type 0 where
  pub value : (m : ℕ) → m < value_length → slot env₁ d m ≡ get_or (words_of v) m 0
  pub rest : (k m : ℕ) → (k ≡ d → ⊥) → m < value_length → slot env₁ k m ≡ slot env k m
