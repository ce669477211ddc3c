-- Rows as nodes: the arms of `node_from`, and that the rows which a node names are lower. Rests on Nodes, and on the
-- crates match_laws and rows.
use Rattle.std.proofs.Common.{Option as Answer, Some, None}
use Rattle.std.specs.Bool.{then_some}
use Rattle.std.proofs.lemmas.Option.{same_Some}
use Rattle.word.specs.Options.{in_code}
use mathlib.Core.Path.{◌≡◌, refl, sym, ap, ◌∙◌}
use mathlib.Core.Bool.{Bool, true, false, cond, ◌&&◌, false≢true}
use mathlib.Core.Option.{Option, none, some}
use mathlib.Core.List.{List, [], ◌∷◌}
use Prim.Native.Nat.{ℕ, suc, ◌+◌, ◌<◌, ◌≤◌}
use native.Mathlib.Omega.{arith}
use lib.Dec.{ltb}
use types.Run.{OneOf}
use borrow.Author.Tests.{ltb-true}
use Rattle.match_laws.proofs.Ranges.{AllOf, one_of, Each, in_range, NoneOf, in_gap}
use Rattle.rows.specs.Kinds.{task_k, edit_k, fail_k, xor_k, kind_of, number_of}
use Rattle.rows.specs.Rows.{word, op_a, op_b, op_c}
use Rattle.rows.proofs.KindNumbers.{kind_gap, kind_beyond}
use Rattle.typing.specs.Nodes.{node_by, names_lower, lower, node_of, Below}
use Rattle.typing.specs.declared.Node.{Node}
use Rattle.typing.specs.declared.Node.TheVariants.{Unit, Truth, Number, Binder, Op, If, Pair, First, Second, Through, Assign, Bind, Same}

-- ---- the arms of node_from

-- the numbers of its arms, the last first
abbrev pub arm_keys : List (List ℕ)
arm_keys =
    (50 ∷ []) ∷ (31 ∷ []) ∷ (30 ∷ []) ∷ (10 ∷ 29 ∷ 45 ∷ 49 ∷ []) ∷ (28 ∷ []) ∷ (27 ∷ []) ∷ (4 ∷ 26 ∷ 46 ∷ []) ∷ (25 ∷ []) ∷ (24 ∷ []) ∷ (23 ∷ []) ∷
    (3 ∷ 22 ∷ []) ∷ (2 ∷ 21 ∷ []) ∷ (1 ∷ 20 ∷ []) ∷ []

module _ (a b c : ℕ) where
  abbrev pub Is : Answer Node → ℕ → Type 0
  Is x k = x ≡ in_code (node_by (kind_of k) a b c)

  pub node_one : {x : Answer Node} (ks : List ℕ) (k : ℕ) → AllOf (Is x) ks → OneOf ks k → Is x k
  node_one {x} ks k e h = one_of (Is x) ks e h

  pub node_range : {x : Answer Node} (l n k : ℕ) → Each (Is x) l n → l ≤ k → k < l + n → Is x k
  node_range {x} l n k e p q = in_range (Is x) l n e p q

  pub node_choice : {x : Answer Node} (k : ℕ) → number_of (task_k fail_k) ≤ k → k < suc (number_of (task_k xor_k)) → NoneOf arm_keys k → x ≡ Some (Same a b) → Is x k
  unfolding kind_of
  node_choice {x} k l h g e = in_gap (Is x) arm_keys (number_of (task_k fail_k)) 4 (tt, (tt, (e, (e, tt)))) l h g

  pub node_none : (k : ℕ) → k < number_of (task_k edit_k) → NoneOf arm_keys k → Is None k
  unfolding kind_of
  node_none k l g = sym (ap (λ κ. in_code (node_by κ a b c)) (kind_gap 0 (number_of (task_k edit_k)) arm_keys k refl (omega arith) (omega arith) g))

  pub node_past : (k : ℕ) → suc (number_of (task_k xor_k)) ≤ k → NoneOf arm_keys k → Is None k
  unfolding kind_of
  node_past k h g = sym (ap (λ κ. in_code (node_by κ a b c)) (kind_beyond (suc (number_of (task_k xor_k))) arm_keys k refl h g))

-- ---- the rows that a node names are lower

both_true : (s t : Bool) → s && t ≡ true → (s ≡ true) × (t ≡ true)
both_true true t e = (refl, e)
both_true false t e = absurd (false≢true e)

both_below : {a b i : ℕ} → ltb a i && ltb b i ≡ true → (a < i) × (b < i)
both_below {a} {b} {i} e = let (p, q) = both_true (ltb a i) (ltb b i) e in (ltb-true a i p, ltb-true b i q)

names_below : (i : ℕ) (x : Node) → names_lower i x ≡ true → Below x i
names_below i Unit e = tt
names_below i Truth e = tt
names_below i Number e = tt
names_below i (Binder a) e = tt
names_below i (Op o b c) e = both_below e
names_below i (If a b c) e = let (p, q) = both_true (ltb a i && ltb b i) (ltb c i) e in let (l, h) = both_below p in (l, h, ltb-true c i q)
names_below i (Pair a b) e = both_below e
names_below i (First a) e = ltb-true a i e
names_below i (Second a) e = ltb-true a i e
names_below i (Through a) e = ltb-true a i e
names_below i (Assign a b) e = both_below e
names_below i (Bind a b) e = both_below e
names_below i (Same a b) e = both_below e

-- without a node there is nothing to name
abbrev pub AllBelow : Option Node → ℕ → Type 0
AllBelow none i = Prim.Unit {0}
AllBelow (some x) i = Below x i

lower_below : (i : ℕ) (o : Option Node) → AllBelow (lower i o) i
lower_below i none = tt
lower_below i (some x) = by (names_lower i x) (names_below i x)
  where
    by : (t : Bool) → (t ≡ true → Below x i) → AllBelow (cond t (some x) none) i
    by true h = h refl
    by false h = tt

pub below_of : (rs : List ℕ) (i : ℕ) → AllBelow (node_of rs i) i
unfolding node_of
below_of rs i = lower_below i (node_by (kind_of (word rs i 0)) (op_a rs i) (op_b rs i) (op_c rs i))

-- ---- node_at

node_some : (o : Option Node) {x : Node} → Some x ≡ in_code o → o ≡ some x
node_some none h = absurd (cc)
node_some (some z) h = ap some (sym (same_Some _ _ h))

node_lost : (o : Option Node) → None ≡ in_code o → o ≡ none
node_lost none h = refl
node_lost (some z) h = absurd (cc)

module _ (rs : List ℕ) (i k a b c : ℕ) (hk : k ≡ word rs i 0) (ha : a ≡ op_a rs i) (hb : b ≡ op_b rs i) (hc : c ≡ op_c rs i) where
  node_read : (o : Option Node) → node_by (kind_of k) a b c ≡ o → in_code (lower i o) ≡ in_code (node_of rs i)
  unfolding node_of
  node_read o e = ap (λ o. in_code (lower i o)) (sym e ∙ (λ t. node_by (kind_of (hk t)) (ha t) (hb t) (hc t)))

  pub node_kept : {x : Node} {r : Answer Node} {t : Bool} → Some x ≡ in_code (node_by (kind_of k) a b c) → t ≡ names_lower i x → r ≡ then_some t x → r ≡ in_code (node_of rs i)
  node_kept {x} h g e = e ∙ ap (λ t. then_some t x) g ∙ by (names_lower i x) ∙ node_read (some x) (node_some _ h)
    where
      by : (t : Bool) → then_some t x ≡ in_code (cond t (some x) none)
      by true = refl
      by false = refl

  pub node_none_at : {r : Answer Node} → None ≡ in_code (node_by (kind_of k) a b c) → r ≡ None → r ≡ in_code (node_of rs i)
  node_none_at h e = e ∙ node_read none (node_lost _ h)
