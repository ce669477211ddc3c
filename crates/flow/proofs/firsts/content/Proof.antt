-- `content` meets its contract, each way out by its law. Assumes nothing.
use mathlib.Core.Path.{refl}
use borrow.Author.Rules.{rules}
use Rattle.shape.specs.Shape.{put, as_shape}
use Rattle.flow.proofs.FirstLaws.{content_truth, content_number}
use Rattle.flow.proofs.firsts.content.Statement.{statement}
use Rattle.flow.proofs.firsts.content.Tie as tie

pub content_spec : {M : Type 1} → statement M
unfolding as_shape put
content_spec = tie.close (tie.spec
    (λ c κs. search rules)
    (λ c κs. search rules)
    (λ c κs. search rules)
    (λ c.
    let a = c.args in
    content_truth a.rows.now a.row c.cell_shape.ensures c.get-w.ensures c.if-cell_shape-eq-TRUTH.true _ refl c.truth.ensures)
    (λ c κs. search rules)
    (λ c.
    let a = c.args in
    content_number a.rows.now a.row c.cell_shape.ensures c.get-w.ensures c.if-cell_shape-eq-TRUTH.false c.number.ensures))
