-- `read_lines`: the first i lines can be read, and their rows are kept; so are the first k words of the next.
use Rattle.sheet.proofs.ScanLaws.{Kept, Rows}
use Rattle.sheet.proofs.scan.read_lines.Given as goal

abbrev pub invariant-loop-i : goal.invariant-loop-i
invariant-loop-i l = Rows l.sheet l.i l.own

abbrev pub invariant-loop-k : goal.invariant-loop-k
invariant-loop-k l = Kept l.sheet l.i l.initial.own l.k l.own
