-- Rows that hand on: what has been taken, named or picked, and 25 and 31, are what the task below one operand is, and so is 50 but for
-- touches and what it shows. Rests on the layout's tags.
-- For contracts only: tied to the tasks that rows hold by the record `Hands` (proofs/Hands).
use Rattle.std.specs.Prelude.{◌≡◌, ◌⊎◌, List, ℕ, ◌+◌, ◌<◌, ◌≤◌, Option, Some, None}
use Rattle.rows.specs.Kinds.{either_k, if_k, let_k, task_k, then_k, next_k, or_k, xor_k, gate_k, number_of}
use Rattle.rows.specs.Rows.{row_words, word}
use Rattle.rows.specs.Enclosing.{max_binders}
use Rattle.state.specs.declared.tag.Tag.{Tag}
use Rattle.state.specs.declared.tag.Tag.TheVariants.{Own, One, Other, Whole}
use Rattle.state.specs.Layout.{at, one, other}
use Rattle.state.specs.Words.{value_at, Pushed}

-- a row of the kind of this number and of this tag hands on to the row that this operand names
pub data HandsOn : ℕ → ℕ → ℕ → Type 0 where
  hands_if_true : HandsOn (number_of (either_k if_k)) one 2
  hands_if_false : HandsOn (number_of (either_k if_k)) other 3
  let_bound : HandsOn (number_of (either_k let_k)) one 2
  then_after : HandsOn (number_of (task_k then_k)) one 2
  next_after : HandsOn (number_of (task_k next_k)) one 2
  hands_or_left : HandsOn (number_of (task_k or_k)) one 1
  hands_or_right : HandsOn (number_of (task_k or_k)) other 2
  xor_left : HandsOn (number_of (task_k xor_k)) one 1
  xor_right : HandsOn (number_of (task_k xor_k)) other 2
  gate_on : {x : ℕ} → HandsOn (number_of (task_k gate_k)) x 2

-- row i hands on to no operand
abbrev pub Unhanded : List ℕ → List ℕ → ℕ → Type 0
Unhanded rs ws i = (m : ℕ) → HandsOn (word rs i 0) (at ws i 0) m → ⊥

-- one of two operands, by the tag, or 0
abbrev pub taken : Option Tag → ℕ → ℕ → ℕ
taken (Some One) a b = a
taken (Some Other) a b = b
taken (Some Own) a b = 0
taken (Some Whole) a b = 0
taken None a b = 0

-- the operand of a kind's number n and tag x, or 0 where there is none
pub record Handed (n x k : ℕ) : Type 0 where
  pub low : k < row_words
  pub on : (k ≡ 0 → ⊥) → HandsOn n x k
  pub none : k ≡ 0 → (m : ℕ) → HandsOn n x m → ⊥

-- rows whose part stands under one more binder: 31, and B of 43 and 44
abbrev pub Binds : ℕ → Type 0
Binds n = (n ≡ number_of (either_k let_k)) ⊎ ((n ≡ number_of (task_k then_k)) ⊎ (n ≡ number_of (task_k next_k)))

-- one more binder, whose value row i holds: the binders' values env₁ and their number d₁, where there is room
pub record Bound (ws : List ℕ) (i : ℕ) (env env₁ : List ℕ) (d d₁ : ℕ) : Type 0 where
  pub room : d₁ ≤ max_binders
  pub pushed : d < max_binders → (d₁ ≡ d + 1) × Pushed env env₁ d (value_at ws i)
  pub full : max_binders ≤ d → (d₁ ≡ d) × (env₁ ≡ env)

-- what stands around the part of row i, of the kind of number n
pub record Under (ws : List ℕ) (i n : ℕ) (env env₁ : List ℕ) (d d₁ : ℕ) : Type 0 where
  pub room : d₁ ≤ max_binders
  pub binds : Binds n → Bound ws i env env₁ d d₁
  pub plain : (Binds n → ⊥) → (d₁ ≡ d) × (env₁ ≡ env)
