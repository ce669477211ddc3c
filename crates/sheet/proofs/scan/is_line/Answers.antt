-- `is_line`: a row's own number.
use mathlib.Core.Path.{sym, ◌∙◌}
use Prim.Native.Nat.{◌+◌, ◌*◌, ◌-◌}
use native.Mathlib.Omega.{arith}
use Rattle.formats.specs.Lines.{line_bytes}
use Rattle.sheet.proofs.ScanLaws.{line_row}
use Rattle.sheet.proofs.scan.is_line.Goals as goal

pub returns-in-Number : goal.returns-in-Number
returns-in-Number c =
    line_row c.args.sheet.now c.args.i (c.args.i * line_bytes + (line_bytes - 1)) (omega arith) c.if-sheet-at-ne-NEWLINE.false
    c.in-Number.n c.requires.0 (sym c.in-Number.is ∙ c.read.ensures)
