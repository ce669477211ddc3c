-- What a caller of `kind_at` knows in each arm of its `match`, said of the row's word: in an arm that names a kind, that the word is
-- its number (`of_kind`); in the arm `_`, what holds of the number of each kind that no other arm names (`other_kind`, and `other_test`
-- by one computed test); that a kind is, or is not, the one asked (`kind_read`, `not_read`). Rests on KindsInCode and KindNumbers.
use mathlib.Core.Path.{◌≡◌, refl, sym, ap, subst, ◌∙◌}
use mathlib.Core.Bool.{Bool, true, false, not, ◌&&◌, ◌||◌}
use mathlib.Core.Logic.{◌⊎◌, inl, inr}
use mathlib.Core.Option.{none}
use mathlib.Core.List.{List, [], ◌∷◌}
use Prim.Native.Nat.{ℕ, ◌+◌, ◌<◌, ◌≤◌}
use lib.Dec.{eqb}
use borrow.Author.Tests.{eqb-true, eq-eqb, ne_eqb}
use Rattle.std.specs.Prelude.{Option, Some, None}
use Rattle.match_laws.proofs.Ranges.{Unless, test_all, within, and_left, and_right}
use Rattle.tophat.proofs.Basics.{no_some}
use Rattle.rows.specs.Kinds as table
use Rattle.rows.specs.Kinds.{type_k, unit_k, truth_k, number_k, pair_k, cell_k, plain_k, eunit_k, etruth_k, enumber_k, ebinder_k, eop_k, epair_k, efst_k, esnd_k, ederef_k, eassign_k}
use Rattle.rows.specs.Kinds.{either_k, if_k, let_k, task_k, edit_k, enter_k, update_k, then_k, next_k, fail_k, and_k, or_k, xor_k, view_k, gate_k, kind_of, number_of}
use Rattle.rows.specs.KindsInCode.{in_table, IsKind}
use Rattle.rows.specs.declared.kinds.Kind.{Kind}
use Rattle.rows.specs.declared.kinds.Kind.TheVariants.{UnitType, TruthType, NumberType, PairType, Cell, Unit as UnitValue, Truth, Number, Binder, Operator, If, Pair, First, Second, Read, Assign, Let, Edit, Enter, Update, Then, Next, Fail, And, Or, Xor, View, Gate}
use Rattle.rows.proofs.KindNumbers.{one_kind, number_kind, unknown, is_unknown}

-- ---- an arm that names a kind

-- the word of a row of kind k is the number of the kind j that k is
pub of_kind : {k j : Kind} {w : ℕ} → w ≡ number_of (in_table k) → k ≡ j → w ≡ number_of (in_table j)
of_kind e q = e ∙ ap (λ k. number_of (in_table k)) q

-- ---- a kind of the table, as code has it

abbrev of_table : table.Kind → Kind
of_table (type_k unit_k) = UnitType
of_table (type_k truth_k) = TruthType
of_table (type_k number_k) = NumberType
of_table (type_k pair_k) = PairType
of_table cell_k = Cell
of_table (plain_k eunit_k) = UnitValue
of_table (plain_k etruth_k) = Truth
of_table (plain_k enumber_k) = Number
of_table (plain_k ebinder_k) = Binder
of_table (plain_k eop_k) = Operator
of_table (plain_k epair_k) = Pair
of_table (plain_k efst_k) = First
of_table (plain_k esnd_k) = Second
of_table (plain_k ederef_k) = Read
of_table (plain_k eassign_k) = Assign
of_table (either_k if_k) = If
of_table (either_k let_k) = Let
of_table (task_k edit_k) = Edit
of_table (task_k enter_k) = Enter
of_table (task_k update_k) = Update
of_table (task_k then_k) = Then
of_table (task_k next_k) = Next
of_table (task_k fail_k) = Fail
of_table (task_k and_k) = And
of_table (task_k or_k) = Or
of_table (task_k xor_k) = Xor
of_table (task_k view_k) = View
of_table (task_k gate_k) = Gate

of_table-in_table : (k : Kind) → of_table (in_table k) ≡ k
of_table-in_table UnitType = refl
of_table-in_table TruthType = refl
of_table-in_table NumberType = refl
of_table-in_table PairType = refl
of_table-in_table Cell = refl
of_table-in_table UnitValue = refl
of_table-in_table Truth = refl
of_table-in_table Number = refl
of_table-in_table Binder = refl
of_table-in_table Operator = refl
of_table-in_table If = refl
of_table-in_table Pair = refl
of_table-in_table First = refl
of_table-in_table Second = refl
of_table-in_table Read = refl
of_table-in_table Assign = refl
of_table-in_table Let = refl
of_table-in_table Edit = refl
of_table-in_table Enter = refl
of_table-in_table Update = refl
of_table-in_table Then = refl
of_table-in_table Next = refl
of_table-in_table Fail = refl
of_table-in_table And = refl
of_table-in_table Or = refl
of_table-in_table Xor = refl
of_table-in_table View = refl
of_table-in_table Gate = refl

abbrev number : Kind → ℕ
number k = number_of (in_table k)

-- two kinds of one number are one
pub same_number : (k j : Kind) → number_of (in_table k) ≡ number_of (in_table j) → k ≡ j
same_number k j e = sym (of_table-in_table k) ∙ ap of_table (one_kind (in_table k) (in_table j) e) ∙ of_table-in_table j

-- ---- no kind

-- in a range of numbers that are each a kind's, by one computed test
pub each_known : (a n : ℕ) {w : ℕ} → test_all (λ j. not (is_unknown j)) a n ≡ true → kind_of w ≡ none → a ≤ w → w < a + n → ⊥
each_known a n {w} t e l h = by (is_unknown w) (ap unknown e) (within (λ j. not (is_unknown j)) a n [] w t l h tt)
  where
    by : (b : Bool) → b ≡ true → not b ≡ true → ⊥
    by true p q = cc
    by false p q = cc

-- ---- an arm of several kinds: `A | B`

abbrev pub IsOneOf : List Kind → Kind → Type 0
IsOneOf [] k = ⊥
IsOneOf (j ∷ []) k = k ≡ j
IsOneOf (j ∷ i ∷ js) k = k ≡ j ⊎ IsOneOf (i ∷ js) k

-- what is so of the number of each kind in js
abbrev pub EachOf : List Kind → (ℕ → Type 0) → Type 0
EachOf [] P = Unit {0}
EachOf (j ∷ js) P = P (number_of (in_table j)) × EachOf js P

pub of_kinds : (js : List Kind) (P : ℕ → Type 0) (k : Kind) {w : ℕ} → w ≡ number_of (in_table k) → IsOneOf js k → EachOf js P → P w
of_kinds [] P k e o h = absurd o
of_kinds (j ∷ []) P k e o h = subst P (sym (of_kind e o)) h.0
of_kinds (j ∷ i ∷ js) P k e (inl o) h = subst P (sym (of_kind e o)) h.0
of_kinds (j ∷ i ∷ js) P k e (inr o) h = of_kinds (i ∷ js) P k e o h.1

-- the same for a test, by one computed test
abbrev pub test_of : List Kind → (ℕ → Bool) → Bool
test_of [] p = true
test_of (j ∷ js) p = p (number_of (in_table j)) && test_of js p

each_of : (js : List Kind) (p : ℕ → Bool) → test_of js p ≡ true → EachOf js (λ w. p w ≡ true)
each_of [] p h = tt
each_of (j ∷ js) p h = (and_left _ _ h, each_of js p (and_right _ _ h))

pub of_kinds_test : (js : List Kind) (p : ℕ → Bool) (k : Kind) {w : ℕ} → w ≡ number_of (in_table k) → IsOneOf js k → test_of js p ≡ true → p w ≡ true
of_kinds_test js p k e o h = of_kinds js (λ w. p w ≡ true) k e o (each_of js p h)

-- ---- the kind asked: `kind_at(rows, row) == Some(k)`

pub kind_read : {o : Option Kind} {w : ℕ} (k : Kind) → IsKind o w → w ≡ number_of (in_table k) → o ≡ Some k
kind_read {o = None} k h e = no_some (sym h ∙ ap kind_of e ∙ number_kind (in_table k))
kind_read {o = Some j} k h e = ap Some (same_number j k (sym h ∙ e))

pub not_read : {o : Option Kind} {w : ℕ} (k : Kind) → IsKind o w → (o ≡ Some k → ⊥) → w ≡ number_of (in_table k) → ⊥
not_read k h n e = n (kind_read k h e)

-- ---- the arm `_`, where the kind is none of those that the other arms name

abbrev pub IsNoneOf : List Kind → Kind → Type 0
IsNoneOf [] k = Unit {0}
IsNoneOf (j ∷ js) k = (k ≡ j → ⊥) × IsNoneOf js k

abbrev pub has_number : List Kind → ℕ → Bool
has_number [] w = false
has_number (j ∷ js) w = eqb w (number_of (in_table j)) || has_number js w

abbrev pub is_among : List Kind → Kind → Bool
is_among js k = has_number js (number_of (in_table k))

abbrev pub all_kinds : List Kind
all_kinds = UnitType ∷ TruthType ∷ NumberType ∷ PairType ∷ Cell ∷ UnitValue ∷ Truth ∷ Number ∷ Binder ∷ Operator ∷ If ∷ Pair ∷ First ∷ Second ∷ Read ∷ Assign ∷ Let ∷ Edit ∷ Enter ∷ Update ∷ Then ∷ Next ∷ Fail ∷ And ∷ Or ∷ Xor ∷ View ∷ Gate ∷ []

none_among : (js : List Kind) (k : Kind) → IsNoneOf js k → is_among js k ≡ false
none_among [] k g = refl
none_among (j ∷ js) k g = rw (ne_eqb (number k) (number j) (λ e. g.0 (same_number k j e))) (none_among js k g.1)

-- the word is the number of none of js: in the arm `_`, and where it is that of no kind
abbrev pub IsOther : List Kind → ℕ → Type 0
IsOther js w = (k : Kind) → is_among js k ≡ true → w ≡ number_of (in_table k) → ⊥

pub other_arm : (js : List Kind) (j : Kind) {w : ℕ} → w ≡ number_of (in_table j) → IsNoneOf js j → IsOther js w
other_arm js j e n k m q =
    let z : true ≡ false = sym m ∙ ap (is_among js) (sym (same_number j k (sym e ∙ q))) ∙ none_among js j n in
    cc

or_true : (b : Bool) → b || true ≡ true
or_true true = refl
or_true false = refl

pub one_among : (js : List Kind) (k : Kind) → IsOneOf js k → is_among js k ≡ true
one_among [] k o = absurd o
one_among (j ∷ []) k o = ap (λ b. b || false) (eq-eqb (number k) (number j) (ap number o))
one_among (j ∷ i ∷ js) k (inl o) = ap (λ b. b || is_among (i ∷ js) k) (eq-eqb (number k) (number j) (ap number o))
one_among (j ∷ i ∷ js) k (inr o) = ap (λ b. eqb (number k) (number j) || b) (one_among (i ∷ js) k o) ∙ or_true (eqb (number k) (number j))

-- the word of a kind of js is that of no other kind
pub only_among : (js : List Kind) (k j : Kind) {w : ℕ} → is_among js k ≡ true → w ≡ number_of (in_table k) → is_among js j ≡ false → w ≡ number_of (in_table j) → ⊥
only_among js k j m e n q =
    let z : true ≡ false = sym m ∙ ap (has_number js) (sym e ∙ q) ∙ n in
    cc

pub other_none : (js : List Kind) {w : ℕ} → kind_of w ≡ none → IsOther js w
other_none js e k m q = no_some (sym e ∙ ap kind_of q ∙ number_kind (in_table k))

-- each of the kinds in ks that is not among js
abbrev pub EachBut : List Kind → (Kind → Type 0) → List Kind → Type 0
EachBut js P [] = Unit {0}
EachBut js P (k ∷ ks) = Unless (is_among js k) (P k) × EachBut js P ks

found : (js : List Kind) (P : Kind → Type 0) (ks : List Kind) (k : Kind) → is_among ks k ≡ true → EachBut js P ks → Unless (is_among js k) (P k)
found js P [] k m e = cc
found js P (j ∷ ks) k m e = by (eqb (number k) (number j)) refl m (λ m. found js P ks k m e.1)
  where
    by : (b : Bool) → eqb (number k) (number j) ≡ b → b || is_among ks k ≡ true → (is_among ks k ≡ true → Unless (is_among js k) (P k)) → Unless (is_among js k) (P k)
    by true q m f = subst (λ i. Unless (is_among js i) (P i)) (sym (same_number k j (eqb-true (number k) (number j) q))) e.0
    by false q m f = f m

listed : (k : Kind) → is_among all_kinds k ≡ true
listed UnitType = refl
listed TruthType = refl
listed NumberType = refl
listed PairType = refl
listed Cell = refl
listed UnitValue = refl
listed Truth = refl
listed Number = refl
listed Binder = refl
listed Operator = refl
listed If = refl
listed Pair = refl
listed First = refl
listed Second = refl
listed Read = refl
listed Assign = refl
listed Let = refl
listed Edit = refl
listed Enter = refl
listed Update = refl
listed Then = refl
listed Next = refl
listed Fail = refl
listed And = refl
listed Or = refl
listed Xor = refl
listed View = refl
listed Gate = refl

-- what holds of each kind but js holds of a kind that is none of js
pub other_kind : (js : List Kind) (P : Kind → Type 0) (k : Kind) → EachBut js P all_kinds → IsNoneOf js k → P k
other_kind js P k e g = subst (λ b. Unless b (P k)) (none_among js k g) (found js P all_kinds k (listed k) e)

-- the same for a test of the number, by one computed test
abbrev pub test_each : List Kind → (ℕ → Bool) → List Kind → Bool
test_each js p [] = true
test_each js p (k ∷ ks) = (is_among js k || p (number_of (in_table k))) && test_each js p ks

tested : (js : List Kind) (p : ℕ → Bool) (ks : List Kind) → test_each js p ks ≡ true → EachBut js (λ k. p (number_of (in_table k)) ≡ true) ks
tested js p [] h = tt
tested js p (k ∷ ks) h = (by (is_among js k) (p (number k)) (and_left _ _ h), tested js p ks (and_right _ _ h))
  where
    by : (b c : Bool) → b || c ≡ true → Unless b (c ≡ true)
    by true c h = tt
    by false c h = h

pub other_test : (js : List Kind) (p : ℕ → Bool) (k : Kind) {w : ℕ} → test_each js p all_kinds ≡ true → w ≡ number_of (in_table k) → IsNoneOf js k → p w ≡ true
other_test js p k h e g = ap p e ∙ other_kind js (λ k. p (number_of (in_table k)) ≡ true) k (tested js p all_kinds h) g
