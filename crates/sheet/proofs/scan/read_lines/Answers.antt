-- `read_lines`: a word is kept, or its line cannot be read.
use native.Mathlib.Omega.{arith}
use Rattle.sheet.proofs.ScanLaws.{line_none, line_stops, kept_none, kept_more, rows_none, rows_room, rows_stop, rows_more}
use Rattle.sheet.proofs.scan.read_lines.Goals as goal

pub loop-i-init : goal.loop-i-init
loop-i-init c = rows_none c.args.sheet.now c.args.own.now c.requires.own_value

pub returns-then-not-is_line : goal.returns-then-not-is_line
returns-then-not-is_line c =
    rows_stop c.args.sheet.now c.loop-i.own c.loop-i.i c.args.n c.loop-i-test.true
    (line_none c.args.sheet.now c.loop-i.i c.is_line.result c.is_line.ensures c.if-not-is_line.true)

pub loop-k-init : goal.loop-k-init
loop-k-init c = kept_none c.args.sheet.now c.loop-i.i c.loop-i.own c.is_line.result c.is_line.ensures c.if-not-is_line.false

pub returns-in_default : goal.returns-in_default
returns-in_default c =
    rows_stop c.args.sheet.now c.loop-k.own c.loop-i.i c.args.n c.loop-i-test.true
    (line_stops c.args.sheet.now c.loop-i.i c.loop-i.own c.loop-k-test.true (rows_room c.args.sheet.now c.loop-i.i (omega arith) c.loop-i.invariant) c.loop-k.invariant c.in_default.ensures)

pub loop-k-preserved : goal.loop-k-preserved
loop-k-preserved c =
    kept_more c.args.sheet.now c.loop-i.i c.loop-i.own c.loop-k-test.true (rows_room c.args.sheet.now c.loop-i.i (omega arith) c.loop-i.invariant) c.loop-k.invariant c.in-Some.word c.in-Some.ensures

pub loop-i-preserved : goal.loop-i-preserved
loop-i-preserved c = rows_more c.args.sheet.now c.loop-i.i c.loop-k.k (omega arith) (omega arith) c.loop-i.invariant c.loop-k.invariant
