-- What is copied are the words after the shape's.
use Rattle.std.proofs.Common.{◌≡◌, sym, ap, ◌∙◌, ℕ, suc, ◌+◌, ◌-◌, ◌<◌, ◌≤◌, List, length, get_or, take, drop, arith}
use Rattle.std.proofs.lemmas.Grind.{common_steps}
use Rattle.word.specs.Tabulate.{tabulate}
use Rattle.word.proofs.Tabulate.{tabulate_is}
use Rattle.tophat.specs.Syntax.{max_leaves}
use Rattle.value.specs.declared.Value.{Value}
use Rattle.state.specs.Holds.{value_length}
use Rattle.state.specs.Words.{value_by}
use Rattle.state.proofs.value_in.Goals as goal

copied : (ws : List ℕ) (p i : ℕ) → i < max_leaves → p + value_length ≤ length ws → get_or (take (p + value_length - (p + 1)) (drop (p + 1) ws)) i 0 ≡ get_or ws (p + suc i) 0
copied ws p i h l = grind (arith, common_steps)

value_read : (ws : List ℕ) (p : ℕ) (ls : List ℕ) → length ls ≡ max_leaves → ls ≡ take (p + value_length - (p + 1)) (drop (p + 1) ws) → p + value_length ≤ length ws
    → ◌≡◌ {A = Value} record { shape = get_or ws p 0; leaves = ls } (value_by (λ m. get_or ws (p + m) 0))
value_read ws p ls n e l =
    let q : tabulate max_leaves (λ i. get_or ws (p + suc i) 0) ≡ ls = tabulate_is max_leaves (λ i. get_or ws (p + suc i) 0) ls 0 n (λ i h. ap (λ ls. get_or ls i 0) e ∙ copied ws p i h l) in
    let f : get_or ws p 0 ≡ get_or ws (p + 0) 0 = ap (λ m. get_or ws m 0) (omega arith) in
    λ j. record { shape = f j; leaves = sym q j }

pub returns : goal.returns
returns c = value_read c.args.words.now c.args.place c.copy_from_slice.new.self c.copy_from_slice.ensures.len c.copy_from_slice.ensures.after c.requires
