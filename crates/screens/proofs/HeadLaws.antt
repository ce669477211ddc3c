-- A head line, field by field. Rests on specs/Heads and on formats' laws of fields.
use mathlib.Core.Path.{◌≡◌, sym, ap, ◌∙◌}
use mathlib.Core.List.{List, [], ◌∷◌, ◌++◌}
use Prim.Native.Nat.{ℕ, ◌+◌, ◌*◌}
use lib.ListN.{length, set}
use mir.Syntax.{w32}
use mir.Val.{to_z}
use Rattle.decimal.specs.Field.{row_columns, word_columns, action_columns, newline, written, put_at}
use Rattle.tophat.specs.Syntax.{max_leaves}
use Rattle.formats.specs.Records.{total, put_items, items_of}
use Rattle.formats.specs.Heads.{head_columns, head_leaves}
use Rattle.formats.proofs.Records.{put_more}
use Rattle.formats.proofs.Loops.{widths_total}
use Rattle.screens.specs.declared.head.Head.{Head}
use Rattle.screens.specs.Heads.{head_over}

-- one field written
abbrev pub put : List ℕ → ℕ → ℕ → ℕ → List ℕ
put s at w n = (put_at s at w (written w (to_z w32 n))).1

-- the leaves' fields, and one after them
leaves_more : (s : List ℕ) (at : ℕ) (ls : List ℕ) (n : ℕ) → length ls ≡ max_leaves
    → put_items s at (items_of word_columns ls ++ (row_columns, to_z w32 n) ∷ []) ≡ put (put_items s at (items_of word_columns ls)) (at + max_leaves * word_columns) row_columns n
leaves_more s at ls n l =
    put_more (items_of word_columns ls) (row_columns, to_z w32 n) s at
    ∙ ap (λ k. put (put_items s at (items_of word_columns ls)) (at + k) row_columns n) (widths_total word_columns ls ∙ ap (λ k. k * word_columns) l)

pub head_written : (s l₁ l₂ l₃ l₄ l₅ l₆ l₇ : List ℕ) (h : Head) → length h.leaves ≡ max_leaves → l₁ ≡ put s 0 row_columns h.answer → l₂ ≡ put l₁ row_columns row_columns h.strides
    → l₃ ≡ put l₂ (2 * row_columns) action_columns h.fails → l₄ ≡ put l₃ (2 * row_columns + action_columns) action_columns h.valued → l₅ ≡ put_items l₄ head_leaves (items_of word_columns h.leaves)
    → l₆ ≡ put l₅ (head_leaves + max_leaves * word_columns) row_columns h.entries → l₇ ≡ set l₆ (total head_columns) newline → l₇ ≡ head_over s h
unfolding put_items head_over
head_written s l₁ l₂ l₃ l₄ l₅ l₆ l₇ h l e₁ e₂ e₃ e₄ e₅ e₆ e₇ =
    let f₂ = e₂ ∙ ap (λ l. put l row_columns row_columns h.strides) e₁ in
    let f₄ = e₄ ∙ ap (λ l. put l (2 * row_columns + action_columns) action_columns h.valued) (e₃ ∙ ap (λ l. put l (2 * row_columns) action_columns h.fails) f₂) in
    let f₅ = e₅ ∙ ap (λ l. put_items l head_leaves (items_of word_columns h.leaves)) f₄ in
    e₇ ∙ ap (λ l. set l (total head_columns) newline) (e₆ ∙ ap (λ l. put l (head_leaves + max_leaves * word_columns) row_columns h.entries) f₅ ∙ sym (leaves_more _ head_leaves h.leaves h.entries l))
