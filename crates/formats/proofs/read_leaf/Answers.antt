-- `read_leaf`: a variant by its law.
use Rattle.formats.proofs.Loops.{leaf_number, leaf_blank, leaf_none}
use Rattle.formats.proofs.read_leaf.Goals as goal

pub returns-in-Number : goal.returns-in-Number
returns-in-Number c = leaf_number c.args.s.now c.args.at c.args.width c.in-Number.bits c.in-Number.ensures

pub returns-in-Blank : goal.returns-in-Blank
returns-in-Blank c = leaf_blank c.args.s.now c.args.at c.args.width c.in-Blank.ensures

pub returns-in-Unreadable : goal.returns-in-Unreadable
returns-in-Unreadable c = leaf_none c.args.s.now c.args.at c.args.width c.in-Unreadable.ensures
