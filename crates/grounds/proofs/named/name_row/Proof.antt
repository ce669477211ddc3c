-- `named::name_row`: a row of kind 20 or more counts its operands.
use borrow.Author.Rules.{rules}
use Rattle.grounds.proofs.Ground5.{name_low, name_high}
use Rattle.grounds.proofs.named.name_row.Statement.{statement}
use Rattle.grounds.proofs.named.name_row.Tie as tie

pub name_row_spec : {M : Type 1} → statement M
name_row_spec = tie.close (tie.spec
    (λ c κs. search rules)
    (λ c. name_low c.args.rows.now c.args.table.now c.args.j c.get.ensures c.if-get-lt-FIRST_EXPRESSION.true)
    (λ c κs. search rules)
    (λ c κs. search rules)
    (λ c κs. search rules)
    (λ c κs. search rules)
    (λ c κs. search rules)
    (λ c.
    name_high c.args.rows.now c.args.table.now c.args.j c.get.ensures c.if-get-lt-FIRST_EXPRESSION.false c.name_operands.new.table
    c.asks_at.result c.asks_at.ensures c.get-a.ensures c.get-b.ensures c.get-c.ensures
    c.name_operands.ensures))
