-- The arms of part_from, and that the rows a part names are lower. Rests on specs/Parts.
use mathlib.Core.Path.{◌≡◌, refl, sym, ap, subst, ◌∙◌}
use mathlib.Core.Option.{Option as Maybe, none, some}
use Rattle.std.specs.Prelude.{Option, Some, None}
use mathlib.Core.List.{List}
use Prim.Native.Nat.{ℕ, ◌<◌, ◌≤◌}
use native.Mathlib.Omega.{arith}
use lib.Dec.{eqb}
use borrow.Author.Tests.{eq-eqb, ne_eqb}
use Rattle.shape.proofs.Puts.{by_test}
use Rattle.rows.specs.Kinds.{Kind, type_k, cell_k, plain_k, either_k, if_k, let_k, task_k, edit_k, enter_k, update_k, then_k, next_k, fail_k, and_k, or_k, xor_k, view_k, gate_k, kind_of, number_of}
use Rattle.rows.specs.Rows.{word, op_a, op_b, op_c, LowWords}
use Rattle.rows.specs.Enclosing.{max_binders}
use Rattle.rows.proofs.KindNumbers.{number_kind, by_kind}
use Rattle.state.specs.Layout.{own, one, other}
use Rattle.state.specs.Ensured.{Fine}
use Rattle.state.proofs.Calls.{fine_at}
use Rattle.state_check.specs.declared.Part.{Part}
use Rattle.state_check.specs.declared.Part.TheVariants.{Alone, Filled, Below, Bound, Two, Gate}
use Rattle.state_check.specs.Parts.{tagged_part, part_by, part_from, part_of, Lower}

-- ---- by the tag

module _ (x : ℕ) (p q r : Option Part) where
  pub tag_own : x ≡ own → p ≡ tagged_part x p q r
  tag_own e = let h = eq-eqb x own e in rw h

  pub tag_one : (x ≡ own → ⊥) → x ≡ one → q ≡ tagged_part x p q r
  tag_one n e = let g = ne_eqb x own n in let h = eq-eqb x one e in rw (g, h)

  pub tag_other : (x ≡ own → ⊥) → (x ≡ one → ⊥) → x ≡ other → r ≡ tagged_part x p q r
  tag_other n m e = let f = ne_eqb x own n in let g = ne_eqb x one m in let h = eq-eqb x other e in rw (f, g, h)

  pub tag_none : (x ≡ own → ⊥) → (x ≡ one → ⊥) → (x ≡ other → ⊥) → None ≡ tagged_part x p q r
  tag_none n m o = let f = ne_eqb x own n in let g = ne_eqb x one m in let h = ne_eqb x other o in rw (f, g, h)

-- a tag of no part, whatever the kind
by_no_tag : (x a b c : ℕ) → (x ≡ own → ⊥) → (x ≡ one → ⊥) → (x ≡ other → ⊥) → (k : Kind) → part_by (some k) x a b c ≡ None
by_no_tag x a b c n m o (either_k if_k) = sym (tag_none x _ _ _ n m o)
by_no_tag x a b c n m o (either_k let_k) = sym (tag_none x _ _ _ n m o)
by_no_tag x a b c n m o (task_k edit_k) = sym (tag_none x _ _ _ n m o)
by_no_tag x a b c n m o (task_k enter_k) = sym (tag_none x _ _ _ n m o)
by_no_tag x a b c n m o (task_k update_k) = sym (tag_none x _ _ _ n m o)
by_no_tag x a b c n m o (task_k then_k) = sym (tag_none x _ _ _ n m o)
by_no_tag x a b c n m o (task_k next_k) = sym (tag_none x _ _ _ n m o)
by_no_tag x a b c n m o (task_k fail_k) = sym (tag_none x _ _ _ n m o)
by_no_tag x a b c n m o (task_k and_k) = sym (tag_none x _ _ _ n m o)
by_no_tag x a b c n m o (task_k or_k) = sym (tag_none x _ _ _ n m o)
by_no_tag x a b c n m o (task_k xor_k) = sym (tag_none x _ _ _ n m o)
by_no_tag x a b c n m o (task_k view_k) = sym (tag_none x _ _ _ n m o)
by_no_tag x a b c n m o (task_k gate_k) = sym (tag_none x _ _ _ n m o)
by_no_tag x a b c n m o (type_k k) = refl
by_no_tag x a b c n m o cell_k = refl
by_no_tag x a b c n m o (plain_k k) = refl

-- ---- the part of a kind

module _ (x a b c : ℕ) where
  -- ---- lower rows

  module _ (i : ℕ) where
    abbrev L : Option Part → Type 0
    L p = Lower p i

    by : (p q r : Option Part) → L p → L q → L r → L (tagged_part x p q r)
    by p q r h g f = by_test L (eqb x own) (λ _. h) (λ _. by_test L (eqb x one) (λ _. g) (λ _. by_test L (eqb x other) (λ _. f) (λ _. tt)))

    -- what the operands of a kind's number are: below the row, at 50 B alone
    pub record Low (k : ℕ) : Type 0 where
      pub in_b : number_of (either_k if_k) ≤ k → b < i
      pub all : number_of (either_k if_k) ≤ k → k ≤ number_of (task_k view_k) → (a < i) × (b < i) × (c < i)

    kind_lower : (k : Kind) → Low (number_of k) → L (part_by (some k) x a b c)
    kind_lower (either_k if_k) low = let l = low.all (omega arith) (omega arith) in by None (Some (Below b)) (Some (Below c)) tt l.1 l.2
    kind_lower (either_k let_k) low = let l = low.all (omega arith) (omega arith) in by None (Some (Bound a b)) None tt (l.0, l.1) tt
    kind_lower (task_k edit_k) low = let l = low.all (omega arith) (omega arith) in by (Some (Filled a)) None None l.0 tt tt
    kind_lower (task_k enter_k) low = let l = low.all (omega arith) (omega arith) in by (Some Alone) (Some (Filled a)) None tt l.0 tt
    kind_lower (task_k update_k) low = by (Some Alone) None None tt tt tt
    kind_lower (task_k then_k) low = let l = low.all (omega arith) (omega arith) in by (Some (Below a)) (Some (Bound a b)) None l.0 (l.0, l.1) tt
    kind_lower (task_k next_k) low = let l = low.all (omega arith) (omega arith) in by (Some (Below a)) (Some (Bound a b)) None l.0 (l.0, l.1) tt
    kind_lower (task_k fail_k) low = by (Some Alone) None None tt tt tt
    kind_lower (task_k and_k) low = let l = low.all (omega arith) (omega arith) in by (Some (Two a b)) None None (l.0, l.1) tt tt
    kind_lower (task_k or_k) low = let l = low.all (omega arith) (omega arith) in by (Some (Two a b)) (Some (Below a)) (Some (Below b)) (l.0, l.1) l.0 l.1
    kind_lower (task_k xor_k) low = let l = low.all (omega arith) (omega arith) in by (Some Alone) (Some (Below a)) (Some (Below b)) tt l.0 l.1
    kind_lower (task_k view_k) low = let l = low.all (omega arith) (omega arith) in by (Some (Filled a)) None None l.0 tt tt
    kind_lower (task_k gate_k) low = by (Some (Gate b c)) None None (low.in_b (omega arith)) tt tt
    kind_lower (type_k k) low = tt
    kind_lower cell_k low = tt
    kind_lower (plain_k k) low = tt

    pub part_lower : (k : ℕ) → Low k → L (part_from k x a b c)
    unfolding part_from
    part_lower = by_kind (λ k. Low k → L (part_from k x a b c))
        (λ w e low. subst (λ o. L (part_by o x a b c)) (sym e) tt)
        (λ k low. subst (λ o. L (part_by o x a b c)) (sym (number_kind k)) (kind_lower k low))

-- what part_at gives
pub part_none : (rs : List ℕ) (i x : ℕ) → kind_of (word rs i 0) ≡ none → (None ≡ part_of rs i x) × Lower None i
unfolding part_from
part_none rs i x e = (ap (λ o. part_by o x (op_a rs i) (op_b rs i) (op_c rs i)) (sym e), tt)

pub part_is : {rs : List ℕ} {i d a b c : ℕ} (k : Kind) (x : ℕ) (p : Option Part) → Fine rs i d → word rs i 0 ≡ number_of k → a ≡ op_a rs i → b ≡ op_b rs i → c ≡ op_c rs i → p ≡ part_by (some k) x a b c
    → (p ≡ part_of rs i x) × Lower p i
unfolding part_from
part_is {rs} {i} {d} {a} {b} {c} k x p f hk ha hb hc e =
    let z : p ≡ part_from (word rs i 0) x a b c = e ∙ ap (λ o. part_by o x a b c) (sym (ap kind_of hk ∙ number_kind k)) in
    (z ∙ (λ t. part_from (word rs i 0) x (ha t) (hb t) (hc t)), subst (λ q. Lower q i) (sym z) (part_lower x a b c i (word rs i 0) low))
  where
    w : LowWords rs i
    w = f.lower i f.low

    low : Low x a b c i (word rs i 0)
    low = record {
      in_b = λ h. let q = w.low_b (omega arith) in omega arith;
      all = λ h u. let p = w.low_a (omega arith) (omega arith) in let q = w.low_b (omega arith) in let r = w.low_c (omega arith) (omega arith) in (omega arith, omega arith, omega arith);
    }

-- a tag of no part, at whatever row
pub part_untagged : (rs : List ℕ) (i x : ℕ) → (x ≡ own → ⊥) → (x ≡ one → ⊥) → (x ≡ other → ⊥) → None ≡ part_of rs i x
unfolding part_from
part_untagged rs i x n m o = by (kind_of (word rs i 0))
  where
    by : (k : Maybe Kind) → None ≡ part_by k x (op_a rs i) (op_b rs i) (op_c rs i)
    by none = refl
    by (some k) = sym (by_no_tag x (op_a rs i) (op_b rs i) (op_c rs i) n m o k)

-- what a call of copy_task at a lower row asks
pub call_lower : {rs : List ℕ} {i d t : ℕ} → (i ≡ t) × Fine rs i d → (k d₁ : ℕ) → k < i → d₁ ≤ max_binders → (k < t) × Fine rs k d₁
call_lower f k d₁ l m = let e = f.0 in (omega arith, fine_at f.1 k d₁ (omega arith) m)

-- the rows that a part names, once the part is known
pub lower_as : (i : ℕ) {p q : Option Part} → Lower p i → p ≡ q → Lower q i
lower_as i h e = subst (λ p. Lower p i) e h
