-- `entries::offer` meets its contract, by the law of editors. Assumes nothing.
use mathlib.Core.Path.{subst}
use native.Mathlib.Omega.{arith}
use borrow.Author.Rules.{rules}
use Rattle.decimal.specs.Path.{path_of}
use Rattle.tophat.specs.Handling.{giving, act_number}
use Rattle.formats.specs.Lists.{numbers_entry}
use Rattle.entries.specs.Listing.{Wrote}
use Rattle.entries.proofs.Writing.{kinds_digit}
use Rattle.entries.proofs.Arms.{entries_offer}
use Rattle.entries.proofs.offer.Statement.{statement}
use Rattle.entries.proofs.offer.Tie as tie

pub offer_spec : {M : Type 1} → statement M
offer_spec = tie.close (tie.spec
    (λ c κs. search rules)
    (λ c κs. search rules)
    (λ c κs.
    (c.requires.3, kinds_digit c.leaf_kinds.result c.content-shape.result c.leaf_kinds.ensures))
    (λ c. search rules)
    (λ c.
    (omega (arith, c.write_entry.ensures.most), λ env d v. entries_offer v c.args.rows.now c.args.state.now c.args.row env d (path_of c.args.marks) c.args.list.now c.write_entry.new.list c.write_entry.result c.content-shape.result c.content-shape.ensures (subst (λ ks. Wrote c.args.list.now c.write_entry.new.list c.write_entry.result (numbers_entry (path_of c.args.marks) (act_number giving) ks)) c.leaf_kinds.ensures c.write_entry.ensures))))
