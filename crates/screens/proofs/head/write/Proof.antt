-- `write` meets its contract: one field after another. Assumes nothing.
use borrow.Author.Rules.{rules}
use Rattle.screens.proofs.HeadLaws.{head_written}
use Rattle.screens.proofs.head.write.Statement.{statement}
use Rattle.screens.proofs.head.write.Tie as tie

returns : tie.Need-returns
returns c =
    let start_at = c.before.before.before.before.before.before in
    let entries = start_at in
    let leaves = entries.before.before.before.before in
    let valued = leaves.before.before.before.before.before in
    let fails = valued.before.before.before.before in
    let strides = fails.before.before.before.before in
    let answer = strides.before.before.before.before in
    let start = answer.before.before.before in
    head_written start.args.s.now answer.write.new.s strides.write-2.new.s fails.write-3.new.s valued.write-4.new.s
    leaves.write_numbers.new.s entries.write-5.new.s c.write_end.new.s start.args.h leaves.write_numbers.ensures.1
    answer.write.ensures.1 strides.write-2.ensures.1 fails.write-3.ensures.1 valued.write-4.ensures.1
    leaves.write_numbers.ensures.0 entries.write-5.ensures.1 c.write_end.ensures

pub write_spec : {M : Type 1} → statement M
write_spec = tie.close (tie.spec (λ c κs. search rules) (λ c κs. search rules) (λ c. search rules) (λ c κs. search rules) (λ c. search rules) (λ c. search rules)
    (λ c κs. search rules) (λ c κs. search rules) (λ c κs. search rules) (λ c κs. search rules) (λ c. search rules) returns)
