-- The values of binders: one more, and one read back. Rests on Words.
use mathlib.Core.Path.{◌≡◌, sym, ap, ◌∙◌}
use mathlib.Core.Bool.{cond}
use mathlib.Core.List.{List, ◌∷◌}
use Prim.Native.Nat.{ℕ, zero, suc, ◌+◌, ◌-◌, ◌≤◌, ◌<◌}
use native.Mathlib.Omega.{arith}
use lib.ListN.{get_or}
use borrow.Author.Tests.{lt-ltb}
use Rattle.tophat.specs.Syntax.{max_leaves, Ty, leaves, Val, vunit, Env}
use Rattle.tophat.specs.Typing.{ValueType}
use Rattle.value.specs.declared.Value.{Value}
use Rattle.value.specs.Values.{as_value, no_value}
use Rattle.state.specs.Layout.{value_words}
use Rattle.state.specs.Holds.{value_length, slot, Binders}
use Rattle.state.specs.Words.{value_by, binder_at, Pushed}
use Rattle.state.proofs.Words.{value_by_lem, words_of_lem}

-- one more binder
pub binders_push : {env env₁ : List ℕ} {d : ℕ} {ρ : Env} {v : Value} {u : Val} → Binders env d ρ → Pushed env env₁ d v → v ≡ as_value u → Binders env₁ (d + 1) (u ∷ ρ)
binders_push {env} {env₁} {d} {ρ} {v} {u} b p e = record { count = let q = b.count in omega arith; values = at_binder }
  where
    at_binder : (k m : ℕ) → k < d + 1 → m < value_length → slot env₁ (d + 1 - 1 - k) m ≡ get_or (value_words (get_or (u ∷ ρ) k vunit)) m 0
    at_binder zero m g h =
        let z : d + 1 - 1 - 0 ≡ d = omega arith in
        ap (λ i. slot env₁ i m) z ∙ p.value m h ∙ ap (λ xs. get_or xs m 0) (words_of_lem u e)
    at_binder (suc k) m g h =
        let z : d + 1 - 1 - suc k ≡ d - 1 - k = omega arith in
        ap (λ i. slot env₁ i m) z ∙ p.rest (d - 1 - k) m (λ y. omega arith) h ∙ b.values k m (omega arith) h

-- ---- a binder's value read

inside : (env : List ℕ) (d k : ℕ) → k < d → value_by (slot env (d - 1 - k)) ≡ binder_at env d k
inside env d k h = ap (λ z. cond z (value_by (slot env (d - 1 - k))) no_value) (sym (lt-ltb k d h))

-- what env_get gives
pub binder_at_lem : {env : List ℕ} {d : ℕ} {ρ : Env} {k : ℕ} {τ : Ty} → Binders env d ρ → k < d → ValueType (get_or ρ k vunit) τ → leaves τ ≤ max_leaves
    → binder_at env d k ≡ as_value (get_or ρ k vunit)
binder_at_lem {env} {d} {ρ} {k} b h t l = sym (inside env d k h) ∙ value_by_lem (slot env (d - 1 - k)) (get_or ρ k vunit) (λ m g. b.values k m h g) t l
