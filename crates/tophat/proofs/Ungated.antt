-- Tasks without a row of kind 50: an event passes none, and each role is shown what anyone is, so that its list is empty exactly when the
-- task is quiet (CR 1). Rests on Runs.
use mathlib.Core.Path.{◌≡◌, refl, sym, ◌∙◌}
use mathlib.Core.Logic.{◌↔◌}
use mathlib.Core.List.{List, []}
use Rattle.decimal.specs.Path.{Path}
use Rattle.tophat.specs.Syntax.{Ty, Code, edit, enter, update, then, next, fail, and, or, xor, view, gate, if, let', Env, Store, TaskOf}
use Rattle.tophat.specs.Normalising.{Became, b_then, b_next, b_or_left, b_or_right, b_xor_left, b_xor_right, b_if_true, b_if_false, b_let}
use Rattle.tophat.specs.Quiet.{Quiet}
use Rattle.tophat.specs.Roles.{Gate, Who, anyone}
use Rattle.tophat.specs.Handling.{Action, Handles, h_change, h_fill, h_update, h_pass_then, h_pass_next, h_next}
use Rattle.tophat.specs.Handling.{h_first_and, h_second_and, h_first_or, h_second_or, h_pick_left, h_pick_right, h_became, h_gate}
use Rattle.tophat.specs.Showing.{Entry, Shows, i_edit, i_enter, i_update, i_then, i_next_none, i_next, i_fail, i_and, i_or, i_xor, i_view, i_became, i_gate}
use Rattle.tophat.specs.Runs.{Stands}

-- no row of kind 50
abbrev pub Ungated : Code → Type 0
Ungated (edit e) = Unit {0}
Ungated (enter τ) = Unit {0}
Ungated (update n) = Unit {0}
Ungated (then a b) = Ungated a × Ungated b
Ungated (next a b) = Ungated a × Ungated b
Ungated (fail τ) = Unit {0}
Ungated (and a b) = Ungated a × Ungated b
Ungated (or a b) = Ungated a × Ungated b
Ungated (xor a b) = Ungated a × Ungated b
Ungated (view e) = Unit {0}
Ungated (gate r n b) = ⊥
Ungated (if e a b) = Ungated a × Ungated b
Ungated (let' e b) = Ungated b

-- nor in what it has become
ungated_became : {c c₁ : Code} {ρ ρ₁ : Env} {K : TaskOf c₁ → TaskOf c} → Became c ρ c₁ ρ₁ K → Ungated c → Ungated c₁
ungated_became b_then g = g.1
ungated_became b_next g = g.1
ungated_became b_or_left g = g.0
ungated_became b_or_right g = g.1
ungated_became b_xor_left g = g.0
ungated_became b_xor_right g = g.1
ungated_became b_if_true g = g.0
ungated_became b_if_false g = g.1
ungated_became b_let g = g

-- an event passes no row of kind 50
pub handles_ungated : {c : Code} {ρ : Env} {s s₁ : Store} {t t₁ : TaskOf c} {p : Path} {x : Action} {gs : List Gate} → Handles c ρ s t p x t₁ s₁ gs → Ungated c → gs ≡ []
handles_ungated (h_change h k) g = refl
handles_ungated (h_fill h) g = refl
handles_ungated (h_update i h k) g = refl
handles_ungated (h_pass_then d) g = handles_ungated d g.0
handles_ungated (h_pass_next d) g = handles_ungated d g.0
handles_ungated (h_next e d f) g = refl
handles_ungated (h_first_and d) g = handles_ungated d g.0
handles_ungated (h_second_and d) g = handles_ungated d g.1
handles_ungated (h_first_or d) g = handles_ungated d g.0
handles_ungated (h_second_or d) g = handles_ungated d g.1
handles_ungated (h_pick_left d n f) g = refl
handles_ungated (h_pick_right d n f) g = refl
handles_ungated (h_became b d) g = handles_ungated d (ungated_became b g)
handles_ungated (h_gate d) g = absurd g

-- what one is shown, all are
pub shows_ungated : {w v : Who} {c : Code} {ρ : Env} {s : Store} {t : TaskOf c} {es : List Entry} → Shows w c ρ s t es → Ungated c → Shows v c ρ s t es
shows_ungated (i_edit h) g = i_edit h
shows_ungated i_enter g = i_enter
shows_ungated (i_update i h) g = i_update i h
shows_ungated (i_then d) g = i_then (shows_ungated d g.0)
shows_ungated (i_next_none d e) g = i_next_none (shows_ungated d g.0) e
shows_ungated (i_next d e f) g = i_next (shows_ungated d g.0) e f
shows_ungated i_fail g = i_fail
shows_ungated (i_and d e) g = i_and (shows_ungated d g.0) (shows_ungated e g.1)
shows_ungated (i_or d e) g = i_or (shows_ungated d g.0) (shows_ungated e g.1)
shows_ungated (i_xor f h) g = i_xor f h
shows_ungated i_view g = i_view
shows_ungated (i_became b d) g = i_became b (shows_ungated d (ungated_became b g))
shows_ungated (i_gate d) g = absurd g

-- so each role's list is empty exactly when the task is quiet
pub ungated_quiet : {Σ : List Ty} {c : Code} {τ : Ty} {t : TaskOf c} {s : Store} (z : Stands Σ c τ t s) → Ungated c → (w : Who) → (z.shown w ≡ []) ↔ Quiet c [] s t
ungated_quiet z g w =
    let same : z.shown anyone ≡ z.shown w = z.sole anyone (z.shown w) (shows_ungated (z.shows w) g) in
    (λ e. z.empty_iff_quiet.0 (same ∙ e), λ q. sym same ∙ z.empty_iff_quiet.1 q)
