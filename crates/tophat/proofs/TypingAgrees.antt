-- The typing functions give exactly the types that the rules derive: so a type is unique, and none is derived exactly
-- where none is computed. Rests on Typing and ComputeTyping.
use mathlib.Core.Path.{◌≡◌, refl, sym, ◌∙◌}
use mathlib.Core.Option.{Option, none, some, bind}
use mathlib.Core.Logic.{◌↔◌}
use mathlib.Core.List.{List, [], ◌∷◌}
use Prim.Native.Nat.{ℕ, zero, suc, ◌≤◌}
use lib.IntN.{ℤ}
use Rattle.word.specs.Word.{IsWord}
use Rattle.tophat.specs.Syntax.{max_leaves, Ty, unit, truth, number, pair, leaves, Op, sum, difference, product, less, less_equal, equal, and_op, or_op}
use Rattle.tophat.specs.Syntax.{Exp, eunit, etruth, enumber, ebinder, eop, eif, epair, efst, esnd, ederef, eassign, elet}
use Rattle.tophat.specs.Syntax.{Code, edit, enter, update, then, next, fail, and, or, xor, view, gate, if, let'}
use Rattle.tophat.specs.Typing.{At, here, there, OpType, o_sum, o_difference, o_product, o_less, o_less_equal, o_equal, o_and, o_or}
use Rattle.tophat.specs.Typing.{HasType, t_unit, t_truth, t_number, t_var, t_op, t_if, t_pair, t_fst, t_snd, t_deref, t_assign, t_let}
use Rattle.tophat.specs.Typing.{CodeType, t_edit, t_enter, t_update, t_then, t_next, t_fail, t_and, t_or, t_xor, t_view, t_gate, t_if_task, t_let_task}
use Rattle.tophat.proofs.Basics.{no_some, some_is, All, all_none, all_some, all_is, all_map}
use Rattle.tophat.proofs.ComputeTyping.{ask, nth, takes, gives, number_to, op_to, same_to, if_to, type_to, first_to, second_to, assign_to, infer, infer_task}

pub ask_yes : {P X : Type 0} (d : Dec P) (o : Option X) → P → ask d o ≡ o
unfolding ask
ask_yes (yes p) o h = refl
ask_yes (no p) o h = absurd (p h)

pub at_nth : {X : Type 0} {xs : List X} {n : ℕ} {x : X} → At xs n x → nth xs n ≡ some x
unfolding nth
at_nth here = refl
at_nth (there d) = at_nth d

-- derived types are computed: the steps
op_to_lem : {o : Op} {τ υ : Ty} → OpType o τ υ → op_to o τ τ ≡ some υ
unfolding op_to takes gives ask
op_to_lem o_sum = refl
op_to_lem o_difference = refl
op_to_lem o_product = refl
op_to_lem o_less = refl
op_to_lem o_less_equal = refl
op_to_lem o_equal = refl
op_to_lem o_and = refl
op_to_lem o_or = refl

number_to_lem : (n : ℤ) → IsWord n → number_to n ≡ some number
unfolding number_to
number_to_lem n h = ask_yes _ _ h

same_to_lem : (τ : Ty) → same_to τ τ ≡ some τ
unfolding same_to
same_to_lem τ = ask_yes _ _ refl

if_to_lem : (τ : Ty) → if_to truth τ τ ≡ some τ
unfolding if_to
if_to_lem τ = ask_yes _ _ refl ∙ same_to_lem τ

pub type_to_lem : (τ : Ty) → leaves τ ≤ max_leaves → type_to τ ≡ some τ
unfolding type_to
type_to_lem τ h = ask_yes _ _ h

assign_to_lem : (τ : Ty) → assign_to τ τ ≡ some unit
unfolding assign_to
assign_to_lem τ = ask_yes _ _ refl

-- a derived type of a plain expression is the one computed
pub infer_is : {Σ Γ : List Ty} {e : Exp} {τ : Ty} → HasType Σ Γ e τ → infer Σ Γ e ≡ some τ
unfolding infer bind first_to second_to
infer_is t_unit = refl
infer_is t_truth = refl
infer_is (t_number h) = number_to_lem _ h
infer_is (t_var h) = at_nth h
infer_is (t_op o d d₁) = let p = infer_is d in let q = infer_is d₁ in rw (p, q) (op_to_lem o)
infer_is (t_if d d₁ d₂) = let p = infer_is d in let q = infer_is d₁ in let r = infer_is d₂ in rw (p, q, r) (if_to_lem _)
infer_is (t_pair d d₁ l) = let p = infer_is d in let q = infer_is d₁ in rw (p, q) (type_to_lem _ l)
infer_is (t_fst d) = let p = infer_is d in rw p
infer_is (t_snd d) = let p = infer_is d in rw p
infer_is (t_deref h) = at_nth h
infer_is (t_assign h d) = let p = infer_is d in let q = at_nth h in rw (q, p) (assign_to_lem _)
infer_is (t_let d d₁) = let p = infer_is d in let q = infer_is d₁ in rw (p, q)

-- and of a task
pub infer_task_is : {Σ Γ : List Ty} {c : Code} {τ : Ty} → CodeType Σ Γ c τ → infer_task Σ Γ c ≡ some τ
unfolding infer_task bind
infer_task_is (t_edit d) = infer_is d
infer_task_is (t_enter l) = type_to_lem _ l
infer_task_is (t_update h) = at_nth h
infer_task_is (t_then d d₁) = let p = infer_task_is d in let q = infer_task_is d₁ in rw (p, q)
infer_task_is (t_next d d₁) = let p = infer_task_is d in let q = infer_task_is d₁ in rw (p, q)
infer_task_is (t_fail l) = type_to_lem _ l
infer_task_is (t_and d d₁ l) = let p = infer_task_is d in let q = infer_task_is d₁ in rw (p, q) (type_to_lem _ l)
infer_task_is (t_or d d₁) = let p = infer_task_is d in let q = infer_task_is d₁ in rw (p, q) (same_to_lem _)
infer_task_is (t_xor d d₁) = let p = infer_task_is d in let q = infer_task_is d₁ in rw (p, q) (same_to_lem _)
infer_task_is (t_view d) = infer_is d
infer_task_is (t_gate d) = infer_task_is d
infer_task_is (t_if_task e d d₁) = let o = infer_is e in let p = infer_task_is d in let q = infer_task_is d₁ in rw (o, p, q) (if_to_lem _)
infer_task_is (t_let_task e d) = let o = infer_is e in let p = infer_task_is d in rw (o, p)

-- a plain expression has one type
pub one_type : {Σ Γ : List Ty} {e : Exp} {τ υ : Ty} → HasType Σ Γ e τ → HasType Σ Γ e υ → τ ≡ υ
one_type d d₁ = some_is (sym (infer_is d) ∙ infer_is d₁)

-- a task has one type
pub one_task_type : {Σ Γ : List Ty} {c : Code} {τ υ : Ty} → CodeType Σ Γ c τ → CodeType Σ Γ c υ → τ ≡ υ
one_task_type d d₁ = some_is (sym (infer_task_is d) ∙ infer_task_is d₁)

-- computed types are derived: the steps
pub bind_all : {X Y : Type 0} {P : X → Type 0} {Q : Y → Type 0} {o : Option X} {f : X → Option Y} → All P o → ((x : X) → P x → All Q (f x)) → All Q (bind o f)
unfolding bind
bind_all all_none h = all_none
bind_all (all_some p) h = h _ p

ask_all : {D X : Type 0} {P : X → Type 0} {o : Option X} (d : Dec D) → (D → All P o) → All P (ask d o)
unfolding ask
ask_all (yes p) h = h p
ask_all (no p) h = all_none

nth_all : {X : Type 0} (xs : List X) (n : ℕ) → All (At xs n) (nth xs n)
unfolding nth
nth_all [] n = all_none
nth_all (x ∷ xs) zero = all_some here
nth_all (x ∷ xs) (suc n) = all_map (λ _. there) (nth_all xs n)

op_type : (o : Op) → OpType o (takes o) (gives o)
unfolding takes gives
op_type sum = o_sum
op_type difference = o_difference
op_type product = o_product
op_type less = o_less
op_type less_equal = o_less_equal
op_type equal = o_equal
op_type and_op = o_and
op_type or_op = o_or

module _ {P : Ty → Type 0} where
  number_all : (n : ℤ) → (IsWord n → P number) → All P (number_to n)
  unfolding number_to
  number_all n f = ask_all _ λ h. all_some (f h)

  op_all : (o : Op) (τ υ : Ty) → (τ ≡ takes o → υ ≡ takes o → P (gives o)) → All P (op_to o τ υ)
  unfolding op_to
  op_all o τ υ f = ask_all _ λ g. ask_all _ λ h. all_some (f g h)

  same_all : (τ υ : Ty) → (υ ≡ τ → P τ) → All P (same_to τ υ)
  unfolding same_to
  same_all τ υ f = ask_all _ λ h. all_some (f h)

  if_all : (κ τ υ : Ty) → (κ ≡ truth → υ ≡ τ → P τ) → All P (if_to κ τ υ)
  unfolding if_to
  if_all κ τ υ f = ask_all _ λ g. same_all τ υ (f g)

  type_all : (τ : Ty) → (leaves τ ≤ max_leaves → P τ) → All P (type_to τ)
  unfolding type_to
  type_all τ f = ask_all _ λ h. all_some (f h)

  assign_all : (τ υ : Ty) → (υ ≡ τ → P unit) → All P (assign_to τ υ)
  unfolding assign_to
  assign_all τ υ f = ask_all _ λ h. all_some (f h)

first_all : {Σ Γ : List Ty} {a : Exp} (τ : Ty) → HasType Σ Γ a τ → All (HasType Σ Γ (efst a)) (first_to τ)
unfolding first_to
first_all unit d = all_none
first_all truth d = all_none
first_all number d = all_none
first_all (pair τ υ) d = all_some (t_fst d)

second_all : {Σ Γ : List Ty} {a : Exp} (τ : Ty) → HasType Σ Γ a τ → All (HasType Σ Γ (esnd a)) (second_to τ)
unfolding second_to
second_all unit d = all_none
second_all truth d = all_none
second_all number d = all_none
second_all (pair τ υ) d = all_some (t_snd d)

infer_all : (Σ Γ : List Ty) (e : Exp) → All (HasType Σ Γ e) (infer Σ Γ e)
unfolding infer
infer_all Σ Γ eunit = all_some t_unit
infer_all Σ Γ (etruth b) = all_some t_truth
infer_all Σ Γ (enumber n) = number_all n t_number
infer_all Σ Γ (ebinder i) = all_map (λ _. t_var) (nth_all Γ i)
infer_all Σ Γ (eop o a b) = bind_all (infer_all Σ Γ a) λ τ d. bind_all (infer_all Σ Γ b) λ υ d₁. op_all o τ υ λ g h. t_op (op_type o) (rw g at d) (rw h at d₁)
infer_all Σ Γ (eif e a b) =
    bind_all (infer_all Σ Γ e) λ κ d. bind_all (infer_all Σ Γ a) λ τ d₁. bind_all (infer_all Σ Γ b) λ υ d₂. if_all κ τ υ λ g h. t_if (rw g at d) d₁ (rw h at d₂)
infer_all Σ Γ (epair a b) = bind_all (infer_all Σ Γ a) λ τ d. bind_all (infer_all Σ Γ b) λ υ d₁. type_all (pair τ υ) λ h. t_pair d d₁ h
infer_all Σ Γ (efst a) = bind_all (infer_all Σ Γ a) first_all
infer_all Σ Γ (esnd a) = bind_all (infer_all Σ Γ a) second_all
infer_all Σ Γ (ederef n) = all_map (λ _. t_deref) (nth_all Σ n)
infer_all Σ Γ (eassign n a) = bind_all (nth_all Σ n) λ τ d. bind_all (infer_all Σ Γ a) λ υ d₁. assign_all τ υ λ h. t_assign d (rw h at d₁)
infer_all Σ Γ (elet a b) = bind_all (infer_all Σ Γ a) λ τ d. all_map (λ _. t_let d) (infer_all Σ (τ ∷ Γ) b)

infer_task_all : (Σ Γ : List Ty) (c : Code) → All (CodeType Σ Γ c) (infer_task Σ Γ c)
unfolding infer_task
infer_task_all Σ Γ (edit e) = all_map (λ _. t_edit) (infer_all Σ Γ e)
infer_task_all Σ Γ (enter τ) = type_all τ t_enter
infer_task_all Σ Γ (update n) = all_map (λ _. t_update) (nth_all Σ n)
infer_task_all Σ Γ (then a b) = bind_all (infer_task_all Σ Γ a) λ τ d. all_map (λ _. t_then d) (infer_task_all Σ (τ ∷ Γ) b)
infer_task_all Σ Γ (next a b) = bind_all (infer_task_all Σ Γ a) λ τ d. all_map (λ _. t_next d) (infer_task_all Σ (τ ∷ Γ) b)
infer_task_all Σ Γ (fail τ) = type_all τ t_fail
infer_task_all Σ Γ (and a b) = bind_all (infer_task_all Σ Γ a) λ τ d. bind_all (infer_task_all Σ Γ b) λ υ d₁. type_all (pair τ υ) λ h. t_and d d₁ h
infer_task_all Σ Γ (or a b) = bind_all (infer_task_all Σ Γ a) λ τ d. bind_all (infer_task_all Σ Γ b) λ υ d₁. same_all τ υ λ h. t_or d (rw h at d₁)
infer_task_all Σ Γ (xor a b) = bind_all (infer_task_all Σ Γ a) λ τ d. bind_all (infer_task_all Σ Γ b) λ υ d₁. same_all τ υ λ h. t_xor d (rw h at d₁)
infer_task_all Σ Γ (view e) = all_map (λ _. t_view) (infer_all Σ Γ e)
infer_task_all Σ Γ (gate r n b) = all_map (λ _. t_gate) (infer_task_all Σ Γ b)
infer_task_all Σ Γ (if e a b) =
    bind_all (infer_all Σ Γ e) λ κ d. bind_all (infer_task_all Σ Γ a) λ τ d₁. bind_all (infer_task_all Σ Γ b) λ υ d₂. if_all κ τ υ λ g h. t_if_task (rw g at d) d₁ (rw h at d₂)
infer_task_all Σ Γ (let' e b) = bind_all (infer_all Σ Γ e) λ τ d. all_map (λ _. t_let_task d) (infer_task_all Σ (τ ∷ Γ) b)

-- the type computed of a plain expression is derived
pub infer_sound : (Σ Γ : List Ty) (e : Exp) {τ : Ty} → infer Σ Γ e ≡ some τ → HasType Σ Γ e τ
infer_sound Σ Γ e h = all_is (infer_all Σ Γ e) h

-- and that of a task
pub infer_task_sound : (Σ Γ : List Ty) (c : Code) {τ : Ty} → infer_task Σ Γ c ≡ some τ → CodeType Σ Γ c τ
infer_task_sound Σ Γ c h = all_is (infer_task_all Σ Γ c) h

-- an answer that is exactly what a predicate holds of is none exactly where it holds of nothing
none_where : {X : Type 0} (P : X → Type 0) (o : Option X) → ((x : X) → P x → o ≡ some x) → ((x : X) → o ≡ some x → P x) → (o ≡ none) ↔ ((x : X) → P x → ⊥)
none_where P none f g = ((λ e x p. no_some (f x p)), (λ h. refl))
none_where P (some x) f g = ((λ e. no_some (sym e)), (λ h. absurd (h x (g x refl))))

-- none is computed exactly where none is derived
pub infer_none : (Σ Γ : List Ty) (e : Exp) → (infer Σ Γ e ≡ none) ↔ ((τ : Ty) → HasType Σ Γ e τ → ⊥)
infer_none Σ Γ e = none_where (HasType Σ Γ e) (infer Σ Γ e) (λ τ d. infer_is d) (λ τ h. infer_sound Σ Γ e h)

pub infer_task_none : (Σ Γ : List Ty) (c : Code) → (infer_task Σ Γ c ≡ none) ↔ ((τ : Ty) → CodeType Σ Γ c τ → ⊥)
infer_task_none Σ Γ c = none_where (CodeType Σ Γ c) (infer_task Σ Γ c) (λ τ d. infer_task_is d) (λ τ h. infer_task_sound Σ Γ c h)
