-- What handed_on and enclose answer, way by way. Rests on specs/Hands.
use mathlib.Core.Path.{◌≡◌, refl, sym, subst}
use mathlib.Core.Logic.{inl, inr}
use mathlib.Core.List.{List, [], ◌∷◌}
use Rattle.std.specs.Prelude.{Option, Some, None}
use Prim.Native.Nat.{ℕ, suc, ◌+◌, ◌<◌, ◌≤◌}
use native.Mathlib.Omega.{arith}
use Rattle.rows.specs.Kinds.{either_k, if_k, let_k, task_k, then_k, fail_k, or_k, xor_k, gate_k, number_of}
use Rattle.rows.specs.Enclosing.{max_binders}
use Rattle.state.specs.Words.{value_at, Pushed}
use Rattle.match_laws.proofs.Ranges.{in_range}
use Rattle.value.specs.declared.Value.{Value}
use Rattle.rows.specs.declared.kinds.Kind.{Kind}
use Rattle.rows.specs.declared.kinds.Kind.TheVariants.{If, Let, Then, Next, Or, Xor, Gate}
use Rattle.rows.proofs.KindsRead.{IsOther}
use Rattle.state.specs.declared.tag.Tag.{Tag}
use Rattle.state.specs.declared.tag.Tag.TheVariants.{Own, One, Other, Whole}
use Rattle.state.specs.Tags.{tag_word, IsTag}
use Rattle.state.specs.Layout.{one, other}
use Rattle.running.specs.Hands.{taken, HandsOn, hands_if_true, hands_if_false, let_bound, then_after, next_after, hands_or_left, hands_or_right, xor_left, xor_right, gate_on, Handed, Binds, Bound, Under}

-- ---- handed_on

handed_as : {m y n x k : ℕ} → HandsOn m y k → m ≡ n → y ≡ x → (k < 4) → (k ≡ 0 → ⊥) → Handed n x k
handed_as {m} {y} {n} {x} {k} h e f l z =
    let g : HandsOn n x k = subst (λ n. HandsOn n x k) e (subst (λ x. HandsOn m x k) f h) in
    record { low = l; on = λ p. g; none = λ p. absurd (z p) }

pub handed_let : {n x : ℕ} → n ≡ number_of (either_k let_k) → x ≡ one → Handed n x 2
handed_let e f = handed_as let_bound (sym e) (sym f) (omega arith) (λ z. omega arith)

pub handed_true : {n x : ℕ} → n ≡ number_of (either_k if_k) → x ≡ one → Handed n x 2
handed_true e f = handed_as hands_if_true (sym e) (sym f) (omega arith) (λ z. omega arith)

pub handed_false : {n x : ℕ} → n ≡ number_of (either_k if_k) → x ≡ other → Handed n x 3
handed_false e f = handed_as hands_if_false (sym e) (sym f) (omega arith) (λ z. omega arith)

pub handed_step : {n x : ℕ} → number_of (task_k then_k) ≤ n → n < number_of (task_k fail_k) → x ≡ one → Handed n x 2
handed_step {n} {x} h g f = in_range (λ n. Handed n x 2) (number_of (task_k then_k)) 2 (handed_as then_after refl (sym f) (omega arith) (λ z. omega arith), (handed_as next_after refl (sym f) (omega arith) (λ z. omega arith), tt)) h g

pub handed_left : {n x : ℕ} → number_of (task_k or_k) ≤ n → n < suc (number_of (task_k xor_k)) → x ≡ one → Handed n x 1
handed_left {n} {x} h g f = in_range (λ n. Handed n x 1) (number_of (task_k or_k)) 2 (handed_as hands_or_left refl (sym f) (omega arith) (λ z. omega arith), (handed_as xor_left refl (sym f) (omega arith) (λ z. omega arith), tt)) h g

pub handed_right : {n x : ℕ} → number_of (task_k or_k) ≤ n → n < suc (number_of (task_k xor_k)) → x ≡ other → Handed n x 2
handed_right {n} {x} h g f = in_range (λ n. Handed n x 2) (number_of (task_k or_k)) 2 (handed_as hands_or_right refl (sym f) (omega arith) (λ z. omega arith), (handed_as xor_right refl (sym f) (omega arith) (λ z. omega arith), tt)) h g

pub handed_gate : {n x : ℕ} → n ≡ number_of (task_k gate_k) → Handed n x 2
handed_gate e = handed_as gate_on (sym e) refl (omega arith) (λ z. omega arith)

-- a 50 hands on to its B
pub gate_part : {n x k : ℕ} → HandsOn n x k → n ≡ number_of (task_k gate_k) → k ≡ 2
gate_part hands_if_true e = absurd (omega arith)
gate_part hands_if_false e = absurd (omega arith)
gate_part let_bound e = absurd (omega arith)
gate_part then_after e = absurd (omega arith)
gate_part next_after e = absurd (omega arith)
gate_part hands_or_left e = absurd (omega arith)
gate_part hands_or_right e = absurd (omega arith)
gate_part xor_left e = absurd (omega arith)
gate_part xor_right e = absurd (omega arith)
gate_part gate_on e = refl

-- no form has this kind and tag
pub handed_none : {n x : ℕ} → (x ≡ one → n ≡ number_of (either_k if_k) → ⊥) → (x ≡ one → n ≡ number_of (either_k let_k) → ⊥) → (x ≡ one → number_of (task_k then_k) ≤ n → n < number_of (task_k fail_k) → ⊥) → (x ≡ one → number_of (task_k or_k) ≤ n → n < suc (number_of (task_k xor_k)) → ⊥)
    → (x ≡ other → n ≡ number_of (either_k if_k) → ⊥) → (x ≡ other → number_of (task_k or_k) ≤ n → n < suc (number_of (task_k xor_k)) → ⊥) → (n ≡ number_of (task_k gate_k) → ⊥) → Handed n x 0
handed_none p q r s t u v = record { low = omega arith; on = λ z. absurd (z refl); none = λ z m h. no h p q r s t u v }
  where
    no : {n x m : ℕ} → HandsOn n x m → (x ≡ one → n ≡ number_of (either_k if_k) → ⊥) → (x ≡ one → n ≡ number_of (either_k let_k) → ⊥) → (x ≡ one → number_of (task_k then_k) ≤ n → n < number_of (task_k fail_k) → ⊥) → (x ≡ one → number_of (task_k or_k) ≤ n → n < suc (number_of (task_k xor_k)) → ⊥)
        → (x ≡ other → n ≡ number_of (either_k if_k) → ⊥) → (x ≡ other → number_of (task_k or_k) ≤ n → n < suc (number_of (task_k xor_k)) → ⊥) → (n ≡ number_of (task_k gate_k) → ⊥) → ⊥
    no hands_if_true p q r s t u v = p refl refl
    no hands_if_false p q r s t u v = t refl refl
    no let_bound p q r s t u v = q refl refl
    no then_after p q r s t u v = r refl (omega arith) (omega arith)
    no next_after p q r s t u v = r refl (omega arith) (omega arith)
    no hands_or_left p q r s t u v = s refl (omega arith) (omega arith)
    no hands_or_right p q r s t u v = u refl (omega arith) (omega arith)
    no xor_left p q r s t u v = s refl (omega arith) (omega arith)
    no xor_right p q r s t u v = u refl (omega arith) (omega arith)
    no gate_on p q r s t u v = v refl

-- a tag of neither
handed_no : {n x : ℕ} → (x ≡ one → ⊥) → (x ≡ other → ⊥) → (n ≡ number_of (task_k gate_k) → ⊥) → Handed n x 0
handed_no a b g = handed_none (λ z _. a z) (λ z _. a z) (λ z _ _. a z) (λ z _ _. a z) (λ z _. b z) (λ z _ _. b z) g

-- by the tag, in a row of another kind than 50
pub handed_taken : (o : Option Tag) {n x a b : ℕ} → IsTag o x → (x ≡ one → Handed n x a) → (x ≡ other → Handed n x b) → (n ≡ number_of (task_k gate_k) → ⊥) → Handed n x (taken o a b)
handed_taken None t f g h = handed_no (t One) (t Other) h
handed_taken (Some Own) t f g h = handed_no (λ z. omega arith) (λ z. omega arith) h
handed_taken (Some One) t f g h = f t
handed_taken (Some Other) t f g h = g t
handed_taken (Some Whole) t f g h = handed_no (λ z. omega arith) (λ z. omega arith) h

-- 31, 43 and 44 have no second thing
pub handed_once : {n x : ℕ} → (n ≡ number_of (either_k if_k) → ⊥) → n < number_of (task_k or_k) → x ≡ other → Handed n x 0
handed_once p l e = handed_none (λ z _. omega arith) (λ z _. omega arith) (λ z _ _. omega arith) (λ z _ _. omega arith) (λ z. p) (λ z h _. omega arith) (λ z. omega arith)

-- the kinds of rows that hand on
abbrev pub handing : List Kind
handing = If ∷ Let ∷ Then ∷ Next ∷ Or ∷ Xor ∷ Gate ∷ []

pub handed_other : {n x : ℕ} → IsOther handing n → Handed n x 0
handed_other {n} o =
    let step : number_of (task_k then_k) ≤ n → n < number_of (task_k fail_k) → ⊥ = λ h g. in_range (λ n. IsOther handing n → ⊥) (number_of (task_k then_k)) 2 ((λ o. o Then refl refl), ((λ o. o Next refl refl), tt)) h g o in
    let choice : number_of (task_k or_k) ≤ n → n < suc (number_of (task_k xor_k)) → ⊥ = λ h g. in_range (λ n. IsOther handing n → ⊥) (number_of (task_k or_k)) 2 ((λ o. o Or refl refl), ((λ o. o Xor refl refl), tt)) h g o in
    handed_none (λ _. o If refl) (λ _. o Let refl) (λ _. step) (λ _. choice) (λ _. o If refl) (λ _. choice) (o Gate refl)

-- a tag that is not the first's
pub not_first : (t : Tag) {x : ℕ} → x ≡ tag_word t → (t ≡ One → ⊥) → x ≡ one → ⊥
not_first Own e n z = omega arith
not_first One e n z = n refl
not_first Other e n z = omega arith
not_first Whole e n z = omega arith

-- ---- enclose

pub bound_push : {ws env env₁ : List ℕ} {i d : ℕ} {v : Value} → d < max_binders → v ≡ value_at ws i → Pushed env env₁ d v → Bound ws i env env₁ d (d + 1)
bound_push {env = env} {env₁ = env₁} {d = d} h e p = record { room = omega arith; pushed = λ l. (refl, subst (Pushed env env₁ d) e p); full = λ l. absurd (omega arith) }

pub under_let : {ws env env₁ : List ℕ} {i n d d₁ : ℕ} → n ≡ number_of (either_k let_k) → Bound ws i env env₁ d d₁ → Under ws i n env env₁ d d₁
under_let e b = record { room = b.room; binds = λ z. b; plain = λ z. absurd (z (inl e)) }

pub under_step : {ws env env₁ : List ℕ} {i n d d₁ : ℕ} → number_of (task_k then_k) ≤ n → n < number_of (task_k fail_k) → Bound ws i env env₁ d d₁ → Under ws i n env env₁ d d₁
under_step h g b = record { room = b.room; binds = λ z. b; plain = λ z. absurd (in_range (λ n. (Binds n → ⊥) → ⊥) (number_of (task_k then_k)) 2 ((λ z. z (inr (inl refl))), ((λ z. z (inr (inr refl))), tt)) h g z) }

pub under_none : {ws env : List ℕ} {i n d : ℕ} → d ≤ max_binders → (n ≡ number_of (either_k let_k) → ⊥) → (number_of (task_k then_k) ≤ n → n < number_of (task_k fail_k) → ⊥) → Under ws i n env env d d
under_none {n = n} l p q = record { room = l; binds = λ z. absurd (no z); plain = λ z. (refl, refl) }
  where
    no : Binds n → ⊥
    no (inl e) = p e
    no (inr (inl e)) = q (omega arith) (omega arith)
    no (inr (inr e)) = q (omega arith) (omega arith)

-- a 50 binds nothing
pub under_gate : {n : ℕ} → n ≡ number_of (task_k gate_k) → Binds n → ⊥
under_gate e (inl h) = omega (arith, e, h)
under_gate e (inr (inl h)) = omega (arith, e, h)
under_gate e (inr (inr h)) = omega (arith, e, h)
