-- What is left of a running task, as a task that a sheet could have: a content in its editor's place, a taken step and a binding as a
-- binding of the value in the task, a picked, named or taken side alone (01: "A state's task is well typed when the typing rules, read
-- with its contents, values, sides and right sides in place, give it a type"; proofs/ResidualTyped). Rests on Syntax.
-- Believed.
use Rattle.tophat.specs.Syntax.{Exp, eunit, etruth, enumber, epair, Code, edit, enter, update, then, next, fail, and, or, xor, view, gate, if, let'}
use Rattle.tophat.specs.Syntax.{Val, vunit, vtruth, vnumber, vpair}
use Rattle.tophat.specs.Syntax.{TaskOf, filled, blank, entered, before, after, both, either, or_left, or_right, unpicked, picked_left, picked_right, gated, if_true, if_false, bound}

-- the expression that is a value
unfoldable pub quoted : Val → Exp
quoted vunit = eunit
quoted (vtruth b) = etruth b
quoted (vnumber n) = enumber n
quoted (vpair v w) = epair (quoted v) (quoted w)

unfoldable pub residual : (c : Code) → TaskOf c → Code
residual (edit e) (filled v) = edit (quoted v)
residual (enter τ) blank = enter τ
residual (enter τ) (entered v) = edit (quoted v)
residual (update n) t = update n
residual (then a b) (before t) = then (residual a t) b
residual (then a b) (after v u) = let' (quoted v) (residual b u)
residual (next a b) (before t) = next (residual a t) b
residual (next a b) (after v u) = let' (quoted v) (residual b u)
residual (fail τ) t = fail τ
residual (and a b) (both t u) = and (residual a t) (residual b u)
residual (or a b) (either t u) = or (residual a t) (residual b u)
residual (or a b) (or_left t) = residual a t
residual (or a b) (or_right u) = residual b u
residual (xor a b) unpicked = xor a b
residual (xor a b) (picked_left t) = residual a t
residual (xor a b) (picked_right u) = residual b u
residual (view e) (filled v) = view (quoted v)
residual (gate r n b) (gated k u) = gate r k (residual b u)
residual (if e a b) (if_true t) = residual a t
residual (if e a b) (if_false u) = residual b u
residual (let' e b) (bound v u) = let' (quoted v) (residual b u)
