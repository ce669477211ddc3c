-- `name_operands`: the three operands, one after another.
use Rattle.grounds.proofs.Ground5.{name_unknown, name_known}
use Rattle.grounds.proofs.named.name_operands.Goals as goal

pub returns-in_default : goal.returns-in_default
returns-in_default c = name_unknown c.args.table.now c.args.a c.args.b c.args.c c.args.s c.in_default.is

pub returns : goal.returns
returns c =
    name_known c.args.table.now c.args.a c.args.b c.args.c c.args.s c.name.new.table c.name-2.new.table c.name-3.new.table c.in-Some.s c.in-Some.is
    c.name.ensures c.name-2.ensures c.name-3.ensures
