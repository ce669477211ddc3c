-- `is_failed` meets its contract, each way out by its law. Assumes nothing.
use Rattle.std.proofs.lemmas.Bool.{not_from_false, not_from_true}
use mathlib.Core.Path.{◌≡◌, sym, ◌∙◌}
use native.Mathlib.Omega.{arith}
use lib.ListN.{length}
use borrow.Author.Rules.{rules}
use Rattle.state.specs.Lent.{state_size}
use Rattle.flow.proofs.FailedLaws.{failed_differ, failed_tried}
use Rattle.flow.proofs.failed.is_failed.Statement.{statement}
use Rattle.flow.proofs.failed.is_failed.Tie as tie

-- the two arrays are of one length
long : (c : tie.After-alike-arg-3-1) → length c.args.words.now ≡ length c.write_failed.new.words
long c =
    let x : length c.args.words.now ≡ state_size = search rules in
    let y : length c.write_failed.new.words ≡ state_size = search rules in
    x ∙ sym y

returns : tie.Need-returns-then-not-alike
returns c =
    failed_differ c.write_failed.ensures c.alike.ensures (not_from_false _ c.if-not-alike.true)

returns_2 : tie.Need-returns
returns_2 c =
    failed_tried c.write_failed.ensures c.alike.ensures (not_from_true _ c.if-not-alike.false) (long c.before.before.before.before.before.before.before) c.requires.1.0 c.clear_row.ensures c.evaluate.ensures

pub is_failed_spec : {M : Type 1} → statement M
is_failed_spec = tie.close (tie.spec
    (λ c κs. let p = c.requires in (p.0, p.1.1))
    (λ c. let l = c.requires.0.0 in let h = c.requires.0.1.low in record { fits = omega arith })
    (λ c κs.
    let l = c.requires.0.0 in
    let h = c.requires.0.1.low in
    let x : length c.args.words.now ≡ state_size = search rules in
    let y : length c.write_failed.new.words ≡ state_size = search rules in
    (omega (arith, l, h, x), omega (arith, l, h, y)))
    returns
    (λ c. search rules)
    (λ c κs. search rules)
    (λ c. search rules)
    (λ c κs. c.requires.0.1)
    returns_2)
