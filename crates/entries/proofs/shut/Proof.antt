-- `entries::shut` meets its contract, a way by its law. Assumes nothing.
use mathlib.Core.Path.{sym, ◌∙◌}
use native.Mathlib.Omega.{arith}
use Rattle.entries.proofs.Asking.{shut_other, shut_anyone, shut_role, shut_spent}
use Rattle.entries.proofs.shut.Statement.{statement}
use Rattle.entries.proofs.shut.Tie as tie

pub shut_spec : {M : Type 1} → statement M
shut_spec = tie.close (tie.spec
    (λ c κs. (c.requires, omega arith))
    (λ c. let s = c.args in shut_other s.rows.now s.state.now s.row s.who (λ e. c.if-get.true (c.get.ensures ∙ e)))
    (λ c. let s = c.args in shut_anyone s.rows.now s.state.now s.row s.who c.if-who-eq0.true)
    (λ c κs. (c.requires, omega arith))
    (λ c.
    let s = c.args in
    shut_role s.rows.now s.state.now s.row s.who (sym c.get.ensures ∙ c.if-get.false) c.if-who-eq0.false (λ e. c.if-get-who.true (c.get-2.ensures ∙ e)))
    (λ c κs. c.requires)
    (λ c.
    let s = c.args in
    shut_spent s.rows.now s.state.now s.row s.who (sym c.get.ensures ∙ c.if-get.false) c.if-who-eq0.false c.read_touches.result (sym c.get-2.ensures ∙ c.if-get-who.false) c.read_touches.ensures))
