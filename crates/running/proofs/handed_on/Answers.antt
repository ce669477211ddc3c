-- `running::handed_on` meets its contract, an arm by the law of its kinds. Assumes nothing.
use Rattle.std.proofs.Common.{arith, rules}
use mathlib.Core.Logic.{⊎_elim}
use Rattle.rows.proofs.KindsRead.{of_kind, IsNoneOf, other_arm, other_none}
use Rattle.running.proofs.Handed.{handed_let, handed_true, handed_false, handed_step, handed_left, handed_right, handed_gate, handed_taken, handed_once, handing, handed_other}
use Rattle.running.proofs.handed_on.Goals as goal

pub returns-in_default : goal.returns-in_default
returns-in_default c = handed_other (other_none handing c.in_default.ensures)

pub returns-in-If : goal.returns-in-If
returns-in-If c =
    let e = of_kind c.in-Some.ensures c.in-If.is in
    rw c.taken.ensures (handed_taken c.tag_at-tag.result c.tag_at-tag.ensures (handed_true e) (handed_false e) (λ g. omega arith))

pub returns-in-Let : goal.returns-in-Let
returns-in-Let c =
    rw c.taken-in-Let.ensures
    (⊎_elim
    (λ p. let e = of_kind c.in-Some.ensures p in handed_taken c.tag_at-tag.result c.tag_at-tag.ensures (handed_let e) (handed_once (λ z. omega arith) (omega arith)) (λ g. omega arith))
    (λ q. ⊎_elim
    (λ p. let e = of_kind c.in-Some.ensures p in handed_taken c.tag_at-tag.result c.tag_at-tag.ensures (handed_step (omega arith) (omega arith)) (handed_once (λ z. omega arith) (omega arith)) (λ g. omega arith))
    (λ p. let e = of_kind c.in-Some.ensures p in handed_taken c.tag_at-tag.result c.tag_at-tag.ensures (handed_step (omega arith) (omega arith)) (handed_once (λ z. omega arith) (omega arith)) (λ g. omega arith))
    q)
    c.in-Let.is)

pub returns-in-Or : goal.returns-in-Or
returns-in-Or c =
    rw c.taken-in-Or.ensures
    (⊎_elim
    (λ p. let e = of_kind c.in-Some.ensures p in handed_taken c.tag_at-tag.result c.tag_at-tag.ensures (handed_left (omega arith) (omega arith)) (handed_right (omega arith) (omega arith)) (λ g. omega arith))
    (λ p. let e = of_kind c.in-Some.ensures p in handed_taken c.tag_at-tag.result c.tag_at-tag.ensures (handed_left (omega arith) (omega arith)) (handed_right (omega arith) (omega arith)) (λ g. omega arith))
    c.in-Or.is)

pub returns-in-Gate : goal.returns-in-Gate
returns-in-Gate c = handed_gate (of_kind c.in-Some.ensures c.in-Gate.is)

pub returns-in_default-kind : goal.returns-in_default-kind
returns-in_default-kind c =
    let n : IsNoneOf handing c.in-Some.kind = search rules in
    handed_other (other_arm handing c.in-Some.kind c.in-Some.ensures n)
