-- `place_of`: an operand's field stands after those before it.
use Rattle.sheet.proofs.ScanLaws.{place_operand}
use Rattle.sheet.proofs.scan.place_of.Goals as goal

pub returns-else-k-eq0 : goal.returns-else-k-eq0
returns-else-k-eq0 c = place_operand c.args.k c.if-k-eq0.false c.requires
