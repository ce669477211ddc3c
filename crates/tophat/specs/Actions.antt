-- The actions of events and entries as code has them (01, "Touches and what is shown"). Rests on Handling.
-- For contracts only.
use Rattle.std.specs.Prelude.{◌≡◌, ℕ, Result, MatchResult}
use Rattle.tophat.specs.declared.Action.{Action}
use Rattle.tophat.specs.declared.Action.TheVariants.{Value, Continue, Left, Right}
use Rattle.tophat.specs.declared.NoAction.{NoAction}
use Rattle.tophat.specs.Handling.{Act, giving, pressing, continue, left, right, act_number}

-- which of the calculus' it is
abbrev pub act_of : Action → Act
act_of Value = giving
act_of Continue = pressing continue
act_of Left = pressing left
act_of Right = pressing right

-- its number in 01
abbrev pub number_of_action : Action → ℕ
number_of_action a = act_number (act_of a)

-- the action of the number n, or that none has it
abbrev pub ActionNamed : ℕ → Result Action NoAction → Type 0
ActionNamed n r = MatchResult r (λ a. number_of_action a ≡ n) (λ e. (a : Action) → number_of_action a ≡ n → ⊥)
