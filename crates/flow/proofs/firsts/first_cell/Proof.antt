-- `first_cell` meets its contract. Assumes nothing.
use borrow.Author.Rules.{rules}
use Rattle.flow.proofs.FirstLaws.{first_is, first_none}
use Rattle.flow.proofs.firsts.first_cell.Statement.{statement}
use Rattle.flow.proofs.firsts.first_cell.Tie as tie

get_requires' : tie.Need-get-requires
get_requires' = λ c κs. search rules

content_requires' : tie.Need-content-v-requires
content_requires' = λ c κs. search rules

put_value_requires' : tie.Need-put_value-requires
put_value_requires' = λ c κs. search rules

returns' : tie.Need-returns-then-get
returns' = λ c. let a = c.args in first_is a.rows.now a.row c.get.ensures c.if-get.true c.content-v.ensures c.put_value.ensures

returns_2' : tie.Need-returns
returns_2' = λ c. let a = c.args in first_none a.rows.now a.row c.get.ensures c.if-get.false

pub first_cell_spec : {M : Type 1} → statement M
first_cell_spec = tie.close (tie.spec get_requires' content_requires' put_value_requires' returns' returns_2')
