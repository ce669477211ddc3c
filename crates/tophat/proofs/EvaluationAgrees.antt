-- Plain evaluation: a typed expression evaluates by the rules to what `eval` gives, of its type, in a store of the cells' types,
-- unless `overflows` says that it leaves the words; then the rules say so too. And what the rules derive is what the functions
-- give, typed or not. Rests on ComputeEvaluation.
use mathlib.Core.Path.{◌≡◌, refl, ap, ◌∙◌}
use mathlib.Core.Bool.{Bool, true, false, ◌||◌}
use mathlib.Core.List.{List}
use Prim.Native.Nat.{ℕ}
use borrow.Author.Tests.{not-true, not-false}
use lib.Dec.{lit<}
use lib.IntN.{ℤ}
use lib.ListN.{get_or, set}
use Rattle.word.specs.Word.{IsWord, is_word}
use Rattle.word.proofs.Results.{word_test, test_word}
use Rattle.tophat.specs.Syntax.{Ty, truth, number, pair, Op}
use Rattle.tophat.specs.Syntax.{Exp, eif, efst, esnd, Val, vunit, vtruth, vnumber, vpair, Env, Store}
use Rattle.tophat.specs.Typing.{At, here, there, OpType, o_sum, o_difference, o_product, o_less, o_less_equal, o_equal, o_and, o_or}
use Rattle.tophat.specs.Typing.{HasType, t_unit, t_truth, t_number, t_var, t_op, t_if, t_pair, t_fst, t_snd, t_deref, t_assign, t_let}
use Rattle.tophat.specs.Typing.{ValueType, v_unit, v_truth, v_number, v_pair, ValueTypes, v_nil, v_cons}
use Rattle.tophat.specs.Evaluation.{Reckons, sums, differs, multiplies, Applies, a_reckon, a_less, a_less_equal, a_equal, a_and, a_or, Exceeds, x_reckon}
use Rattle.tophat.specs.Evaluation.{Evaluates, e_unit, e_truth, e_number, e_var, e_op, e_if_true, e_if_false, e_pair, e_fst, e_snd, e_deref, e_assign, e_let}
use Rattle.tophat.specs.Evaluation.{Overflows, o_op, o_op_left, o_op_right, o_if, o_if_true, o_if_false, o_pair_left, o_pair_right, o_fst, o_snd, o_assign, o_let, o_let_body}
use Rattle.tophat.proofs.Basics.{apart, by_truth, or_false, or_true}
use Rattle.tophat.proofs.ComputeEvaluation.{leaf, is_true, kept, exact, apply, exceeds, first_part, second_part, branch, eval, overflows}

-- what is looked up stands there, and is of its type
pub look_up : {vs : List Val} {τs : List Ty} {n : ℕ} {τ : Ty} → ValueTypes vs τs → At τs n τ → At vs n (get_or vs n vunit) × ValueType (get_or vs n vunit) τ
look_up v_nil d = elim d [ ]
look_up (v_cons h hs) here = (here, h)
look_up (v_cons h hs) (there d) = let r = look_up hs d in (there r.0, r.1)

-- a cell that gets a value of its type
pub put : {vs : List Val} {τs : List Ty} {n : ℕ} {τ : Ty} {v : Val} → ValueTypes vs τs → At τs n τ → ValueType v τ → ValueTypes (set vs n v) τs
put v_nil d k = elim d [ ]
put (v_cons h hs) here k = v_cons k hs
put (v_cons h hs) (there d) k = v_cons h (put hs d k)

pub at_get_d : {vs : List Val} {n : ℕ} {v : Val} → At vs n v → get_or vs n vunit ≡ v
at_get_d here = refl
at_get_d (there d) = at_get_d d

is_true_lem : (b : Bool) → is_true (vtruth b) ≡ b
unfolding is_true leaf
is_true_lem true = refl
is_true_lem false = refl

-- ---- a number that is a word, 0 in place of any other

kept_is : (z : ℤ) → IsWord z → kept z ≡ z
unfolding kept
kept_is z h = rw (word_test z h)

kept_word : (z : ℤ) → IsWord (kept z)
unfolding kept
kept_word z = by_truth (is_word z) (λ e. rw e (test_word z e)) (λ e. rw e (lit< tt))

-- ---- operators

reckons_is : {o : Op} {x y z : ℤ} → Reckons o x y z → exact o x y ≡ z
unfolding exact
reckons_is sums = refl
reckons_is differs = refl
reckons_is multiplies = refl

reckoned : {o : Op} {x y z : ℤ} → Reckons o x y z → apply o (vnumber x) (vnumber y) ≡ vnumber (kept z)
unfolding apply leaf exact
reckoned sums = refl
reckoned differs = refl
reckoned multiplies = refl

applies_is : {o : Op} {v w x : Val} → Applies o v w x → (apply o v w ≡ x) × (exceeds o v w ≡ false)
unfolding apply exceeds exact leaf is_word
applies_is (a_reckon {z = z} r h) = let e = reckons_is r in let f = word_test z h in (reckoned r ∙ rw (kept_is z h), rw (e, f))
applies_is a_less = (refl, refl)
applies_is a_less_equal = (refl, refl)
applies_is a_equal = (refl, refl)
applies_is (a_and {x = x} {y = y}) = (rw (is_true_lem x, is_true_lem y), refl)
applies_is (a_or {x = x} {y = y}) = (rw (is_true_lem x, is_true_lem y), refl)

exceeds_is : {o : Op} {v w : Val} → Exceeds o v w → exceeds o v w ≡ true
unfolding exceeds leaf
exceeds_is (x_reckon {z = z} r n) = let e = reckons_is r in let f = by_truth (is_word z) (λ e. absurd (n (test_word z e))) (λ e. e) in rw (e, f)

-- an operator on typed values: its result is derived, or that it has none; either way `apply` gives a value of the type
record GoodApply (o : Op) (υ : Ty) (v w : Val) : Type 0 where
  derived : exceeds o v w ≡ false → Applies o v w (apply o v w)
  over : exceeds o v w ≡ true → Exceeds o v w
  typed : ValueType (apply o v w) υ

reckon_good : {o : Op} {x y z : ℤ} → Reckons o x y z → GoodApply o number (vnumber x) (vnumber y)
unfolding exceeds leaf
reckon_good {o} {x} {y} {z} r =
    let e = reckons_is r in
    let f = reckoned r in
    record {
      derived = λ h. let k = test_word z (not-false (is_word z) (rw e at h)) in rw (f ∙ ap vnumber (kept_is z k)) (a_reckon r k);
      over = λ h. let k = not-true (is_word z) (rw e at h) in x_reckon r (λ i. apart (word_test z i) k);
      typed = rw f (v_number (kept_word z));
    }

sure_good : {o : Op} {υ : Ty} {v w : Val} → exceeds o v w ≡ false → Applies o v w (apply o v w) → ValueType (apply o v w) υ → GoodApply o υ v w
sure_good e d t = record { derived = λ h. d; over = λ h. apart h e; typed = t }

apply_good : {o : Op} {τ υ : Ty} {v w : Val} → OpType o τ υ → ValueType v τ → ValueType w τ → GoodApply o υ v w
unfolding apply exceeds exact leaf is_word
apply_good o_sum (v_number h) (v_number k) = reckon_good sums
apply_good o_difference (v_number h) (v_number k) = reckon_good differs
apply_good o_product (v_number h) (v_number k) = reckon_good multiplies
apply_good o_less (v_number h) (v_number k) = sure_good refl a_less v_truth
apply_good o_less_equal (v_number h) (v_number k) = sure_good refl a_less_equal v_truth
apply_good o_equal (v_number h) (v_number k) = sure_good refl a_equal v_truth
apply_good o_and (v_truth {b = x}) (v_truth {b = y}) = sure_good refl (rw (is_true_lem x, is_true_lem y) a_and) v_truth
apply_good o_or (v_truth {b = x}) (v_truth {b = y}) = sure_good refl (rw (is_true_lem x, is_true_lem y) a_or) v_truth

-- ---- expressions

-- what evaluating gives is derived, or that it leaves the words; it is of the type, and keeps the cells' types
pub record Good (Σ : List Ty) (ρ : Env) (s : Store) (e : Exp) (τ : Ty) (r : Val × Store) (x : Bool) : Type 0 where
  pub derived : x ≡ false → Evaluates ρ s e r.0 r.1
  pub over : x ≡ true → Overflows ρ s e
  pub typed : ValueType r.0 τ
  pub kept : ValueTypes r.1 Σ

-- the same of an expression that leaves the words nowhere
sure : {Σ : List Ty} {ρ : Env} {s : Store} {e : Exp} {τ : Ty} {r : Val × Store} → Evaluates ρ s e r.0 r.1 → ValueType r.0 τ → ValueTypes r.1 Σ → Good Σ ρ s e τ r false
sure d t k = record { derived = λ h. d; over = λ h. apart h refl; typed = t; kept = k }

module _ {Σ : List Ty} {ρ : Env} {s : Store} where
  if_good : {e a b : Exp} {τ : Ty} {r : Val × Store} (x : Bool) → Good Σ ρ s e truth r x → ValueType r.0 truth
      → Good Σ ρ r.1 a τ (eval a ρ r.1) (overflows a ρ r.1) → Good Σ ρ r.1 b τ (eval b ρ r.1) (overflows b ρ r.1)
      → Good Σ ρ s (eif e a b) τ (branch (is_true r.0) (λ s. eval a ρ s) (λ s. eval b ρ s) r.1) (x || branch (is_true r.0) (λ s. overflows a ρ s) (λ s. overflows b ρ s) r.1)
  unfolding branch is_true leaf
  if_good {a = a} {r = (vtruth true, s₁)} x c (v_truth {b = true}) g h = record {
    derived = λ z. let (p, q) = or_false x (overflows a ρ s₁) z in e_if_true (c.derived p) (g.derived q);
    over = λ z. or_true x (overflows a ρ s₁) z (λ p. o_if (c.over p)) (λ p q. o_if_true (c.derived p) (g.over q));
    typed = g.typed;
    kept = g.kept;
  }
  if_good {r = (vunit, s₁)} x c d g h = elim d [ ]
  if_good {r = (vnumber _, s₁)} x c d g h = elim d [ ]
  if_good {r = (vpair _ _, s₁)} x c d g h = elim d [ ]
  if_good {b = b} {r = (vtruth false, s₁)} x c (v_truth {b = false}) g h = record {
    derived = λ z. let (p, q) = or_false x (overflows b ρ s₁) z in e_if_false (c.derived p) (h.derived q);
    over = λ z. or_true x (overflows b ρ s₁) z (λ p. o_if (c.over p)) (λ p q. o_if_false (c.derived p) (h.over q));
    typed = h.typed;
    kept = h.kept;
  }

  fst_good : {a : Exp} {τ υ : Ty} {v : Val} {s₁ : Store} {x : Bool} → Good Σ ρ s a (pair τ υ) (v, s₁) x → ValueType v (pair τ υ) → Good Σ ρ s (efst a) τ (first_part v, s₁) x
  unfolding first_part
  fst_good p (v_pair g h) = record { derived = λ z. e_fst (p.derived z); over = λ z. o_fst (p.over z); typed = g; kept = p.kept }

  snd_good : {a : Exp} {τ υ : Ty} {v : Val} {s₁ : Store} {x : Bool} → Good Σ ρ s a (pair τ υ) (v, s₁) x → ValueType v (pair τ υ) → Good Σ ρ s (esnd a) υ (second_part v, s₁) x
  unfolding second_part
  snd_good p (v_pair g h) = record { derived = λ z. e_snd (p.derived z); over = λ z. o_snd (p.over z); typed = h; kept = p.kept }

-- soundness and preservation in one
pub eval_good : {Σ Γ : List Ty} {e : Exp} {τ : Ty} → HasType Σ Γ e τ → (ρ : Env) (s : Store) → ValueTypes ρ Γ → ValueTypes s Σ → Good Σ ρ s e τ (eval e ρ s) (overflows e ρ s)
unfolding eval overflows
eval_good t_unit ρ s g h = sure e_unit v_unit h
eval_good t_truth ρ s g h = sure e_truth v_truth h
eval_good (t_number k) ρ s g h = sure e_number (v_number k) h
eval_good (t_var d) ρ s g h = let r = look_up g d in sure (e_var r.0) r.1 h
eval_good (t_op {a = a} {b = b} o d d₁) ρ s g h =
    let p = eval_good d ρ s g h in
    let q = eval_good d₁ ρ _ g p.kept in
    let r = apply_good o p.typed q.typed in
    record {
      derived = λ z. let (i, j) = or_false (overflows a ρ s) _ z in let (k, l) = or_false (overflows b ρ (eval a ρ s).1) _ j in e_op (p.derived i) (q.derived k) (r.derived l);
      over = λ z. or_true (overflows a ρ s) _ z (λ i. o_op_left (p.over i)) (λ i j. or_true (overflows b ρ (eval a ρ s).1) _ j (λ k. o_op_right (p.derived i) (q.over k)) (λ k l. o_op (p.derived i) (q.derived k) (r.over l)));
      typed = r.typed;
      kept = q.kept;
    }
eval_good (t_if d d₁ d₂) ρ s g h =
    let p = eval_good d ρ s g h in
    if_good _ p p.typed (eval_good d₁ ρ _ g p.kept) (eval_good d₂ ρ _ g p.kept)
eval_good (t_pair {a = a} d d₁ l) ρ s g h =
    let p = eval_good d ρ s g h in
    let q = eval_good d₁ ρ _ g p.kept in
    record {
      derived = λ z. let (i, j) = or_false (overflows a ρ s) _ z in e_pair (p.derived i) (q.derived j);
      over = λ z. or_true (overflows a ρ s) _ z (λ i. o_pair_left (p.over i)) (λ i j. o_pair_right (p.derived i) (q.over j));
      typed = v_pair p.typed q.typed;
      kept = q.kept;
    }
eval_good (t_fst d) ρ s g h = let p = eval_good d ρ s g h in fst_good p p.typed
eval_good (t_snd d) ρ s g h = let p = eval_good d ρ s g h in snd_good p p.typed
eval_good (t_deref d) ρ s g h = let r = look_up h d in sure (e_deref r.0) r.1 h
eval_good (t_assign d d₁) ρ s g h =
    let p = eval_good d₁ ρ s g h in
    record { derived = λ z. e_assign (p.derived z); over = λ z. o_assign (p.over z); typed = v_unit; kept = put p.kept d p.typed }
eval_good (t_let {a = a} d d₁) ρ s g h =
    let p = eval_good d ρ s g h in
    let q = eval_good d₁ _ _ (v_cons p.typed g) p.kept in
    record {
      derived = λ z. let (i, j) = or_false (overflows a ρ s) _ z in e_let (p.derived i) (q.derived j);
      over = λ z. or_true (overflows a ρ s) _ z (λ i. o_let (p.over i)) (λ i j. o_let_body (p.derived i) (q.over j));
      typed = q.typed;
      kept = q.kept;
    }

-- completeness, with no types: what is derived is what the functions give, so there is at most one value and one store, and an
-- expression that has a value does not leave the words
pub eval_is : {ρ : Env} {s s₁ : Store} {e : Exp} {v : Val} → Evaluates ρ s e v s₁ → (eval e ρ s ≡ (v, s₁)) × (overflows e ρ s ≡ false)
unfolding eval overflows branch is_true leaf first_part second_part
eval_is e_unit = (refl, refl)
eval_is e_truth = (refl, refl)
eval_is e_number = (refl, refl)
eval_is (e_var d) = (rw (at_get_d d), refl)
eval_is (e_op d d₁ a) = let (p, x) = eval_is d in let (q, y) = eval_is d₁ in let (r, z) = applies_is a in (rw (p, q, r), rw (p, q, x, y, z))
eval_is (e_if_true d d₁) = let (p, x) = eval_is d in let (q, y) = eval_is d₁ in (rw (p, q), rw (p, x, y))
eval_is (e_if_false d d₁) = let (p, x) = eval_is d in let (q, y) = eval_is d₁ in (rw (p, q), rw (p, x, y))
eval_is (e_pair d d₁) = let (p, x) = eval_is d in let (q, y) = eval_is d₁ in (rw (p, q), rw (p, x, y))
eval_is (e_fst d) = let (p, x) = eval_is d in (rw p, x)
eval_is (e_snd d) = let (p, x) = eval_is d in (rw p, x)
eval_is (e_deref d) = (rw (at_get_d d), refl)
eval_is (e_assign d) = let (p, x) = eval_is d in (rw p, x)
eval_is (e_let d d₁) = let (p, x) = eval_is d in let (q, y) = eval_is d₁ in (rw (p, q), rw (p, x, y))

pub overflows_is : {ρ : Env} {s : Store} {e : Exp} → Overflows ρ s e → overflows e ρ s ≡ true
unfolding overflows branch is_true leaf
overflows_is (o_op d d₁ a) = let (p, x) = eval_is d in let (q, y) = eval_is d₁ in let z = exceeds_is a in rw (p, q, x, y, z)
overflows_is (o_op_left d) = let x = overflows_is d in rw x
overflows_is (o_op_right d d₁) = let (p, x) = eval_is d in let y = overflows_is d₁ in rw (p, x, y)
overflows_is (o_if d) = let x = overflows_is d in rw x
overflows_is (o_if_true d d₁) = let (p, x) = eval_is d in let y = overflows_is d₁ in rw (p, x, y)
overflows_is (o_if_false d d₁) = let (p, x) = eval_is d in let y = overflows_is d₁ in rw (p, x, y)
overflows_is (o_pair_left d) = let x = overflows_is d in rw x
overflows_is (o_pair_right d d₁) = let (p, x) = eval_is d in let y = overflows_is d₁ in rw (p, x, y)
overflows_is (o_fst d) = overflows_is d
overflows_is (o_snd d) = overflows_is d
overflows_is (o_assign d) = overflows_is d
overflows_is (o_let d) = let x = overflows_is d in rw x
overflows_is (o_let_body d d₁) = let (p, x) = eval_is d in let y = overflows_is d₁ in rw (p, x, y)
