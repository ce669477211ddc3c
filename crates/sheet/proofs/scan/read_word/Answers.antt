-- `read_word`: a reading, by its law.
use mathlib.Core.Path.{sym, ◌∙◌}
use native.Mathlib.Omega.{arith}
use Rattle.sheet.proofs.ScanLaws.{place_in, word_number, word_blank, word_unread}
use Rattle.sheet.proofs.scan.read_word.Goals as goal

pub overflow_add-i : goal.overflow_add-i
overflow_add-i c = let e = c.place_of.ensures in let l = place_in c.args.k c.requires.1 in record { fits = omega (arith, e, l) }

pub returns-in-Number : goal.returns-in-Number
returns-in-Number c =
    word_number c.args.sheet.now c.args.i c.args.k c.args.kind c.place_of.result c.columns_of.result c.place_of.ensures c.columns_of.ensures
    c.in-Number.bits (sym c.in-Number.is ∙ c.read.ensures)

pub returns-in-Blank : goal.returns-in-Blank
returns-in-Blank c =
    c.then_some.ensures
    ∙ word_blank c.args.sheet.now c.args.i c.args.k c.args.kind c.place_of.result c.columns_of.result c.place_of.ensures c.columns_of.ensures
    c.unused.result (sym c.in-Blank.is ∙ c.read.ensures) c.unused.ensures

pub returns-in-Unreadable : goal.returns-in-Unreadable
returns-in-Unreadable c =
    word_unread c.args.sheet.now c.args.i c.args.k c.args.kind c.place_of.result c.columns_of.result c.place_of.ensures c.columns_of.ensures
    (sym c.in-Unreadable.is ∙ c.read.ensures)
