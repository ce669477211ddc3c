-- A row laid and the tasks below it copied: what then holds, over the shapes of trees. Rests on crate state's frames.
use mathlib.Core.Path.{refl}
use mathlib.Core.Logic.{inl, inr}
use mathlib.Core.List.{List}
use Prim.Native.Nat.{ℕ}
use Rattle.tophat.specs.Syntax.{Code, TaskOf}
use Rattle.rows.specs.Rows.{word}
use Rattle.state.specs.Holds.{under, fork, tree_of, Foot, Off, Split, Row, Clear, Holds, Same}
use Rattle.state.specs.Words.{Laid}
use Rattle.state.proofs.Frames.{same_trans, same_weak, same_row, laid_same, keeps, keeps_laid, clear_kept, holds_kept}
use Rattle.state_check.specs.Copies.{Copy}

-- the row, and the one task below it
module _ {rs y z xs : List ℕ} {i k : ℕ} (b : Code) (o : Off rs i k (tree_of b)) (p : Laid y z i xs) where
  pub clear_under : Clear rs y i (under k (tree_of b)) → Clear rs z (word rs i k) (tree_of b)
  clear_under c = clear_kept (record { dead = λ j f. c.dead j (inr f) }) (keeps_laid o.off p)

  pub below : {y₁ : List ℕ} {u : TaskOf b} → Copy rs z y₁ (word rs i k) b u → (Row y₁ i xs × Holds rs y₁ (word rs i k) b u) × Same (Foot rs i (under k (tree_of b))) y y₁
  below q = ((same_row q.same (λ f. o.off i f refl) p.row, q.holds), same_trans (laid_same p (inl refl)) (same_weak (λ j f. inr f) q.same))

-- the row, and two
module _ {rs y z xs : List ℕ} {i k m : ℕ} (a b : Code) (o : Split rs i k (tree_of a) m (tree_of b)) (p : Laid y z i xs) (c : Clear rs y i (fork k (tree_of a) m (tree_of b))) where
  abbrev Whole : List ℕ → Type 0
  Whole y₁ = Same (Foot rs i (fork k (tree_of a) m (tree_of b))) y y₁

  here : Whole z
  here = laid_same p (inl refl)

  pub clear_a : Clear rs z (word rs i k) (tree_of a)
  clear_a = clear_kept (record { dead = λ j f. c.dead j (inr (inl f)) }) (keeps_laid o.off_a p)

  pub clear_b : Clear rs z (word rs i m) (tree_of b)
  clear_b = clear_kept (record { dead = λ j f. c.dead j (inr (inr f)) }) (keeps_laid o.off_b p)

  pub neither : (Row z i xs × Clear rs z (word rs i k) (tree_of a) × Clear rs z (word rs i m) (tree_of b)) × Whole z
  neither = ((p.row, clear_a, clear_b), here)

  pub left : {y₁ : List ℕ} {t : TaskOf a} → Copy rs z y₁ (word rs i k) a t → (Row y₁ i xs × Holds rs y₁ (word rs i k) a t × Clear rs y₁ (word rs i m) (tree_of b)) × Whole y₁
  left q =
      ((same_row q.same (λ f. o.off_a i f refl) p.row, q.holds, clear_kept clear_b (keeps (λ j f g. o.apart j g f) q.same)), same_trans here (same_weak (λ j f. inr (inl f)) q.same))

  pub right : {y₁ : List ℕ} {u : TaskOf b} → Copy rs z y₁ (word rs i m) b u → (Row y₁ i xs × Clear rs y₁ (word rs i k) (tree_of a) × Holds rs y₁ (word rs i m) b u) × Whole y₁
  right q = ((same_row q.same (λ f. o.off_b i f refl) p.row, clear_kept clear_a (keeps o.apart q.same), q.holds), same_trans here (same_weak (λ j f. inr (inr f)) q.same))

  pub two : {y₁ y₂ : List ℕ} {t : TaskOf a} {u : TaskOf b} → Copy rs z y₁ (word rs i k) a t → Copy rs y₁ y₂ (word rs i m) b u
      → (Row y₂ i xs × Holds rs y₂ (word rs i k) a t × Holds rs y₂ (word rs i m) b u) × Whole y₂
  two {y₁} {y₂} {t} q r =
      let l = left q in
      ((same_row r.same (λ f. o.off_b i f refl) l.0.0, holds_kept rs y₁ y₂ (word rs i k) a t l.0.1 (keeps o.apart r.same), r.holds), same_trans l.1 (same_weak (λ j f. inr (inr f)) r.same))
