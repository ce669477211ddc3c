-- `write_entry`: a way by its law.
use Rattle.std.proofs.Common.{◌≡◌, length, rules}
use Rattle.decimal.specs.Path.{path_of}
use Rattle.tophat.specs.Syntax.{max_leaves}
use Rattle.tophat.specs.Actions.{number_of_action}
use Rattle.entries.proofs.Writing.{action_digit, wrote_entry, wrote_nothing}
use Rattle.entries.proofs.write_entry.Goals as goal

pub returns-then-list-lt-ENTRY_BYTES : goal.returns-then-list-lt-ENTRY_BYTES
returns-then-list-lt-ENTRY_BYTES c =
    let a = c.args in
    let long : length a.kinds ≡ max_leaves = let g = c.well_formed in search rules in
    wrote_nothing (path_of a.marks) c.requires.0 (number_of_action a.action) (action_digit a.action) a.kinds long c.requires.1 a.list.now c.if-list-lt-ENTRY_BYTES.true

pub returns : goal.returns
returns c =
    let a = c.args in
    wrote_entry (path_of a.marks) c.requires.0 (number_of_action a.action) (action_digit a.action) a.kinds c.write_numbers.ensures.numbers_len c.requires.1
    a.list.now c.write.new.s c.write-2.new.s c.write_numbers.new.s
    c.if-list-lt-ENTRY_BYTES.false c.write.ensures.s_after (rw c.from.ensures at c.write-2.ensures.s_after) c.write_numbers.ensures.s_after
