-- `named::name`: an operand's naming is counted, where it names a row and the count has not stopped.
use Rattle.std.proofs.lemmas.Bool.{not_from_false, not_from_true}
use mathlib.Core.Path.{◌≡◌, subst}
use mathlib.Core.Bool.{true, false, not}
use borrow.Author.Rules.{rules}
use Rattle.rows.specs.Rows.{names}
use Rattle.grounds.specs.Table.{ask_by}
use Rattle.grounds.proofs.Ground5.{name_not, name_past, name_full, name_one}
use Rattle.grounds.proofs.named.name.Statement.{statement}
use Rattle.grounds.proofs.named.name.Tie as tie

pub name_spec : {M : Type 1} → statement M
name_spec = tie.close (tie.spec
    (λ c κs. search rules)
    (λ c. name_not c.args.table.now (names (ask_by c.args.q)) c.args.w (subst (λ b. not b ≡ true) c.names_row.ensures (not_from_false _ c.if-not-names_row.true)))
    (λ c. name_past c.args.table.now (names (ask_by c.args.q)) c.args.w c.if-at-ge-MAX_ROWS.true)
    (λ c. search rules)
    (λ c.
    name_full c.args.table.now (names (ask_by c.args.q)) c.args.w c.if-x-ge-MAX_NAMINGS.true)
    (λ c. search rules)
    (λ c. search rules)
    (λ c.
    name_one c.args.table.now (names (ask_by c.args.q)) c.args.w
    (subst (λ b. not b ≡ false) c.names_row.ensures (not_from_true _ c.if-not-names_row.false)) c.if-at-ge-MAX_ROWS.false c.if-x-ge-MAX_NAMINGS.false))
