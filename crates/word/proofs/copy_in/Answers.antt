-- `word::copy_in` meets its contract, by what its loop has laid so far. Assumes nothing.
use mathlib.Core.Path.{sym, ap, ◌∙◌}
use native.Mathlib.Omega.{arith}
use borrow.Author.Tests.{ltb-false}
use lib.IntN.{pos}
use lib.ListN.{get_or}
use Rattle.std.proofs.lemmas.List.{set-get_or}
use mir.Syntax.{w32}
use mir.Val.{of_z}
use borrow.Author.Count.{below_more}
use borrow.Author.Rules.{rules}
use Rattle.word.specs.Word.{IsWord}
use Rattle.word.proofs.TwosComplement.{number_bits}
use Rattle.word.proofs.Laid.{laid_more, laid_done, all_read, all_written}
use Rattle.word.proofs.copy_in.Goals as goal

pub returns-in_default-clause-own_after : goal.returns-in_default-clause-own_after
returns-in_default-clause-own_after c =
    let l = c.loop-i in
    set-get_or l.own l.i 0
    ∙ laid_done c.args.lent.now c.args.own.now l.i (of_z w32) l.own
    (all_read c.args.lent.now c.args.own.now l.i (ltb-false _ _ (sym c.in_default.ensures.lookup.0)) (omega arith) (omega arith)) l.invariant.1

pub loop-i-preserved : goal.loop-i-preserved
loop-i-preserved c =
    let l = c.loop-i in
    let x = c.in-Some.x.now in
    let s = c.in-Some.ensures.lookup in
    let w : IsWord x = search rules in (
      omega arith,
      laid_more (of_z w32) c.args.lent.now c.args.own.now l.own l.i x 0 c.cast_unsigned.result (omega arith) (omega arith) l.invariant.1
          (c.cast_unsigned.ensures ∙ ap (of_z w32) (number_bits x w ∙ s.1)),
      below_more (λ k. IsWord (get_or c.args.lent.now k (pos 0))) l.i l.invariant.2 (search rules),
    )

pub returns-clause-own_after : goal.returns-clause-own_after
returns-clause-own_after c =
    let l = c.loop-i in
    laid_done c.args.lent.now c.args.own.now l.i (of_z w32) l.own
    (all_written c.args.lent.now c.args.own.now l.i (omega arith) (omega arith) (omega arith)) l.invariant.1
