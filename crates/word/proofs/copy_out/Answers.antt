-- `word::copy_out` meets its contract, by what its loop has laid so far. Assumes nothing.
use mathlib.Core.Path.{sym, ap, ◌∙◌}
use native.Mathlib.Omega.{arith}
use borrow.Author.Tests.{ltb-false}
use lib.IntN.{pos}
use Rattle.std.proofs.lemmas.List.{set-get_or}
use mir.Syntax.{w32}
use mir.Val.{to_z}
use Rattle.word.proofs.TwosComplement.{number_bits}
use Rattle.word.proofs.Laid.{laid_more, laid_done, all_read, all_written}
use Rattle.word.proofs.copy_out.Goals as goal

pub returns-in_default : goal.returns-in_default
returns-in_default c =
    let l = c.loop-i in
    set-get_or l.lent l.i (pos 0)
    ∙ laid_done c.args.own.now c.args.lent.now l.i (to_z w32) l.lent
    (all_read c.args.own.now c.args.lent.now l.i (ltb-false _ _ (sym c.in_default.ensures.lookup.0)) (omega arith) (omega arith)) l.invariant.1

pub loop-i-preserved : goal.loop-i-preserved
loop-i-preserved c =
    let l = c.loop-i in
    let s = c.in-Some.ensures.lookup in (
      omega arith,
      laid_more (to_z w32) c.args.own.now c.args.lent.now l.lent l.i c.in-Some.word.now (pos 0) _ (omega arith) (omega arith) l.invariant.1
          (number_bits c.cast_signed.result c.cast_signed.type_inv ∙ c.cast_signed.ensures ∙ ap (to_z w32) s.1),
    )

pub returns : goal.returns
returns c =
    let l = c.loop-i in
    laid_done c.args.own.now c.args.lent.now l.i (to_z w32) l.lent
    (all_written c.args.own.now c.args.lent.now l.i (omega arith) (omega arith) (omega arith)) l.invariant.1
