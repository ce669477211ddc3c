-- Clearing a subtree: the rows below a row are cleared, then the row. One law for each shape of tree, and one for each arm of
-- `clear`. Rests on Frames and Sites.
use mathlib.Core.Path.{◌≡◌, refl, sym, subst}
use mathlib.Core.Logic.{inl, inr, ⊎_elim}
use mathlib.Core.Bool.{true}
use mathlib.Core.List.{List, [], ◌∷◌}
use Prim.Native.Nat.{ℕ, ◌+◌}
use Rattle.tophat.specs.Syntax.{edit, enter, update, then, next, fail, and, or, xor, view, gate, if, let'}
use Rattle.rows.specs.Kinds.{either_k, if_k, let_k, task_k, gate_k, number_of}
use Rattle.rows.specs.KindsInCode.{in_table}
use Rattle.rows.specs.declared.kinds.Kind.{Kind}
use Rattle.rows.specs.declared.kinds.Kind.TheVariants.{If, Let, Edit, Enter, Update, Then, Next, Fail, And, Or, Xor, View, Gate}
use Rattle.rows.specs.Rows.{word, OfKind}
use Rattle.rows.proofs.KindsRead.{is_among, IsOther, only_among}
use Rattle.state.specs.Holds.{Tree, leaf, under, fork, tree_of, Foot, Off, Split, Row, Clear, Same}
use Rattle.state.specs.Words.{Laid}
use Rattle.state.specs.Ensured.{ClearOk}
use Rattle.state.proofs.Frames.{same_trans, same_weak, laid_same, keeps, keeps_laid, clear_kept}
use Rattle.state.proofs.Sites.{on_code}

-- ---- by the shape of the tree

abbrev Cleared : List ℕ → List ℕ → List ℕ → ℕ → Tree → Type 0
Cleared rs ws ws₁ i x = Clear rs ws₁ i x × Same (Foot rs i x) ws ws₁

dead_at : {ws ws₁ : List ℕ} {i : ℕ} → Laid ws ws₁ i [] → (j : ℕ) → j ≡ i → Row ws₁ j []
dead_at {ws₁ = ws₁} p j e = subst (λ j. Row ws₁ j []) (sym e) p.row

module _ (rs : List ℕ) (i : ℕ) where
  cleared_leaf : {ws ws₁ : List ℕ} → Laid ws ws₁ i [] → Cleared rs ws ws₁ i leaf
  cleared_leaf p = (record { dead = dead_at p }, p.same)

  cleared_under : {ws ws₁ ws₂ : List ℕ} (k : ℕ) (x : Tree) → Off rs i k x → Cleared rs ws ws₁ (word rs i k) x → Laid ws₁ ws₂ i [] → Cleared rs ws ws₂ i (under k x)
  cleared_under k x o (c, s) p = (
    record { dead = λ j. ⊎_elim (dead_at p j) ((clear_kept c (keeps_laid o.off p)).dead j) },
    same_trans (same_weak (λ j f. inr f) s) (laid_same p (inl refl)),
  )

  cleared_fork : {ws ws₁ ws₂ ws₃ : List ℕ} (k : ℕ) (x : Tree) (l : ℕ) (y : Tree) → Split rs i k x l y
      → Cleared rs ws ws₁ (word rs i k) x → Cleared rs ws₁ ws₂ (word rs i l) y → Laid ws₂ ws₃ i [] → Cleared rs ws ws₃ i (fork k x l y)
  cleared_fork k x l y o (c, s) (c₁, s₁) p =
      let c_a = clear_kept (clear_kept c (keeps o.apart s₁)) (keeps_laid o.off_a p) in
      let c_b = clear_kept c₁ (keeps_laid o.off_b p) in (
        record { dead = λ j. ⊎_elim (dead_at p j) (⊎_elim (c_a.dead j) (c_b.dead j)) },
        same_trans (same_weak (λ j f. inr (inl f)) s) (same_trans (same_weak (λ j f. inr (inr f)) s₁) (laid_same p (inl refl))),
      )

-- ---- by arm

-- what a call at an operand's row left
at_operand : (rs ws ws₁ : List ℕ) {a j : ℕ} → a ≡ j → ClearOk rs ws ws₁ a → ClearOk rs ws ws₁ j
at_operand rs ws ws₁ e h = subst (ClearOk rs ws ws₁) e h

-- the kinds of two rows below, and all that have rows below
abbrev pub forks : List Kind
forks = Then ∷ Next ∷ And ∷ Or ∷ Xor ∷ []

abbrev pub with_rows : List Kind
with_rows = If ∷ Let ∷ Gate ∷ forks

module _ (rs : List ℕ) (i : ℕ) where
  -- 43, 44, 46, 47, 48
  pub clear_fork : {ws ws₁ ws₂ ws₃ : List ℕ} {a b : ℕ} (k : Kind) → word rs i 0 ≡ number_of (in_table k) → is_among forks k ≡ true → a ≡ word rs i 1 → b ≡ word rs i 2
      → ClearOk rs ws ws₁ a → ClearOk rs ws₁ ws₂ b → Laid ws₂ ws₃ i [] → ClearOk rs ws ws₃ i
  clear_fork {ws} {ws₁} {ws₂} k q m ea eb ha hb p d (edit e) s = absurd (only_among forks k Edit m q refl s.0)
  clear_fork {ws} {ws₁} {ws₂} k q m ea eb ha hb p d (enter τ) s = absurd (only_among forks k Enter m q refl s.0)
  clear_fork {ws} {ws₁} {ws₂} k q m ea eb ha hb p d (update u) s = absurd (only_among forks k Update m q refl s.0)
  clear_fork {ws} {ws₁} {ws₂} k q m ea eb ha hb p d (then a b) s = cleared_fork rs i 1 (tree_of a) 2 (tree_of b) s.3 (at_operand rs ws ws₁ ea ha d a s.1) (at_operand rs ws₁ ws₂ eb hb (d + 1) b s.2) p
  clear_fork {ws} {ws₁} {ws₂} k q m ea eb ha hb p d (next a b) s = cleared_fork rs i 1 (tree_of a) 2 (tree_of b) s.3 (at_operand rs ws ws₁ ea ha d a s.1) (at_operand rs ws₁ ws₂ eb hb (d + 1) b s.2) p
  clear_fork {ws} {ws₁} {ws₂} k q m ea eb ha hb p d (fail τ) s = absurd (only_among forks k Fail m q refl s)
  clear_fork {ws} {ws₁} {ws₂} k q m ea eb ha hb p d (and a b) s = cleared_fork rs i 1 (tree_of a) 2 (tree_of b) s.3 (at_operand rs ws ws₁ ea ha d a s.1) (at_operand rs ws₁ ws₂ eb hb d b s.2) p
  clear_fork {ws} {ws₁} {ws₂} k q m ea eb ha hb p d (or a b) s = cleared_fork rs i 1 (tree_of a) 2 (tree_of b) s.3 (at_operand rs ws ws₁ ea ha d a s.1) (at_operand rs ws₁ ws₂ eb hb d b s.2) p
  clear_fork {ws} {ws₁} {ws₂} k q m ea eb ha hb p d (xor a b) s = cleared_fork rs i 1 (tree_of a) 2 (tree_of b) s.3 (at_operand rs ws ws₁ ea ha d a s.1) (at_operand rs ws₁ ws₂ eb hb d b s.2) p
  clear_fork {ws} {ws₁} {ws₂} k q m ea eb ha hb p d (view e) s = absurd (only_among forks k View m q refl s.0)
  clear_fork {ws} {ws₁} {ws₂} k q m ea eb ha hb p d (gate r t b) s = absurd (only_among forks k Gate m q refl s.0)
  clear_fork {ws} {ws₁} {ws₂} k q m ea eb ha hb p d (if e a b) s = absurd (only_among forks k If m q refl s.0)
  clear_fork {ws} {ws₁} {ws₂} k q m ea eb ha hb p d (let' e b) s = absurd (only_among forks k Let m q refl s.0)

  -- 25
  pub clear_if : {ws ws₁ ws₂ ws₃ : List ℕ} {b c : ℕ} → OfKind rs i (either_k if_k) → b ≡ word rs i 2 → c ≡ word rs i 3
      → ClearOk rs ws ws₁ b → ClearOk rs ws₁ ws₂ c → Laid ws₂ ws₃ i [] → ClearOk rs ws ws₃ i
  clear_if {ws} {ws₁} {ws₂} {ws₃} q eb ec hb hc p d =
      on_code rs d i (either_k if_k) (λ c. Cleared rs ws ws₃ i (tree_of c)) q
      (λ e a b s. cleared_fork rs i 2 (tree_of a) 3 (tree_of b) s.4 (at_operand rs ws ws₁ eb hb d a s.2) (at_operand rs ws₁ ws₂ ec hc d b s.3) p)

  -- 31
  pub clear_let : {ws ws₁ ws₂ : List ℕ} {b : ℕ} → OfKind rs i (either_k let_k) → b ≡ word rs i 2 → ClearOk rs ws ws₁ b → Laid ws₁ ws₂ i [] → ClearOk rs ws ws₂ i
  clear_let {ws} {ws₁} {ws₂} q eb hb p d =
      on_code rs d i (either_k let_k) (λ c. Cleared rs ws ws₂ i (tree_of c)) q (λ e b s. cleared_under rs i 2 (tree_of b) s.3 (at_operand rs ws ws₁ eb hb (d + 1) b s.2) p)

  -- 50
  pub clear_gate : {ws ws₁ ws₂ : List ℕ} {b : ℕ} → OfKind rs i (task_k gate_k) → b ≡ word rs i 2 → ClearOk rs ws ws₁ b → Laid ws₁ ws₂ i [] → ClearOk rs ws ws₂ i
  clear_gate {ws} {ws₁} {ws₂} q eb hb p d =
      on_code rs d i (task_k gate_k) (λ c. Cleared rs ws ws₂ i (tree_of c)) q (λ r n b s. cleared_under rs i 2 (tree_of b) s.4 (at_operand rs ws ws₁ eb hb d b s.3) p)

  -- any other
  pub clear_leaf : {ws ws₁ : List ℕ} → IsOther with_rows (word rs i 0) → Laid ws ws₁ i [] → ClearOk rs ws ws₁ i
  clear_leaf o p d (edit e) s = cleared_leaf rs i p
  clear_leaf o p d (enter τ) s = cleared_leaf rs i p
  clear_leaf o p d (update u) s = cleared_leaf rs i p
  clear_leaf o p d (then a b) s = absurd (o Then refl s.0)
  clear_leaf o p d (next a b) s = absurd (o Next refl s.0)
  clear_leaf o p d (fail τ) s = cleared_leaf rs i p
  clear_leaf o p d (and a b) s = absurd (o And refl s.0)
  clear_leaf o p d (or a b) s = absurd (o Or refl s.0)
  clear_leaf o p d (xor a b) s = absurd (o Xor refl s.0)
  clear_leaf o p d (view e) s = cleared_leaf rs i p
  clear_leaf o p d (gate r n b) s = absurd (o Gate refl s.0)
  clear_leaf o p d (if e a b) s = absurd (o If refl s.0)
  clear_leaf o p d (let' e b) s = absurd (o Let refl s.0)
