-- `write_numbers` meets its contract: the first i fields are written. Assumes nothing.
use mathlib.Core.Path.{◌≡◌, refl, ◌∙◌}
use Prim.Native.Nat.{◌-◌, ◌≤◌}
use native.Mathlib.Nat.{mul-le-mul_right}
use native.Mathlib.Omega.{arith}
use borrow.Author.Rules.{rules}
use lib.ListN.{length, take}
use Rattle.tophat.specs.Syntax.{max_leaves}
use Rattle.formats.specs.Records.{put_items, items_of}
use Rattle.formats.proofs.Loops.{write_more, write_all}
use Rattle.formats.proofs.write_numbers.Statement.{statement}
use Rattle.formats.proofs.write_numbers.Tie as tie

abbrev invariant-loop : tie.invariant-loop-i
invariant-loop s₀ at width numbers i₀ s i = (i ≤ max_leaves) × (length s ≡ length s₀) × (s ≡ put_items s₀ at (items_of width (take i numbers)))

abbrev decreases-loop : tie.decreases-loop-i
decreases-loop s₀ at width numbers i₀ s i = max_leaves - i

loop_holds : tie.Need-loop-i-init invariant-loop decreases-loop
unfolding put_items
loop_holds c = (search rules, refl, refl)

mul_write : tie.Need-overflow_mul-i invariant-loop decreases-loop
mul_write c =
    omega (arith, mul-le-mul_right c.args.width c.loop-i.invariant.0)

add_write : tie.Need-overflow_add-at invariant-loop decreases-loop
add_write c =
    omega (arith, mul-le-mul_right c.args.width c.loop-i.invariant.0)

loop_again : tie.Need-loop-i-preserved invariant-loop decreases-loop
loop_again c =
    let start_at = c.before.before.before.before.before in
    let loop = start_at in
    let start = loop.before.before in
    let long : length start.args.numbers ≡ max_leaves = let g = start.well_formed in search rules in
    (omega arith, c.write.auto.s ∙ loop.loop-i.invariant.1, write_more start.args.s.now start.args.at start.args.width start.args.numbers loop.loop-i.i loop.loop-i.s c.write.new.s (omega (arith, long)) loop.loop-i.invariant.2 c.write.ensures.1)

returns : tie.Need-returns invariant-loop decreases-loop
returns c =
    let start = c.before.before.before in
    let long : length start.args.numbers ≡ max_leaves = let g = start.well_formed in search rules in
    (write_all start.args.s.now start.args.at start.args.width start.args.numbers c.loop-i.i c.loop-i.s (omega (arith, long)) c.loop-i.invariant.2, long)

pub write_numbers_spec : {M : Type 1} → statement M
write_numbers_spec = tie.close (tie.spec invariant-loop decreases-loop loop_holds mul_write add_write
    (λ c. search rules) (λ c. search rules) (λ c κs. search rules) (λ c. search rules) (λ c. search rules) loop_again (λ c. search rules) returns)
