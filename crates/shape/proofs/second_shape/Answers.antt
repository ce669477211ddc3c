use Rattle.shape.proofs.Coded.{none_second, some_second}
use Rattle.shape.proofs.second_shape.Goals as goal

pub returns-then-leaves_of-lt2 : goal.returns-then-leaves_of-lt2
returns-then-leaves_of-lt2 c = none_second c.args.shape c.leaves_of.result c.leaves_of.ensures.0 c.if-leaves_of-lt2.true

pub returns : goal.returns
returns c =
    some_second c.args.shape c.leaves_of.result c.leaves_of.ensures.0 c.first_width-w.result c.if-leaves_of-lt2.false
    c.first_width-w.ensures.0
