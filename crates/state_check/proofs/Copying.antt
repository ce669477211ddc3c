-- Copying the task of a row: what was done at the row by its part, and the rows below it copied, answers as reading the task
-- does. Rests on Laying and on crate typing's agreement with the calculus.
use Rattle.std.specs.Prelude.{Option, Some, None}
use mathlib.Core.Path.{◌≡◌, refl, sym, ap, subst, ◌∙◌}
use mathlib.Core.Bool.{Bool, true, false, cond, false≢true}
use mathlib.Core.Option.{Option as Maybe, none, some, bind}
use mathlib.Core.List.{List, [], ◌∷◌}
use Prim.Native.Nat.{ℕ, suc, ◌+◌, ◌≤◌, ◌<◌}
use native.Mathlib.Omega.{arith}
use native.Mathlib.Numerals.{add-one}
use lib.Dec.{eqb}
use lib.ListN.{length, set}
use borrow.Author.Tests.{eqb-true}
use Rattle.tophat.specs.Syntax.{max_leaves, Ty, leaves, Code, gate, Val, TaskOf, entered, before, after, both, either, or_left, or_right, picked_left, picked_right, gated, if_true, if_false, bound}
use Rattle.tophat.proofs.ComputeTyping.{infer, infer_task}
use Rattle.shape.specs.Shape.{as_shape, maybe_shape, shape_or_none}
use Rattle.shape.proofs.Coded.{shape_is, shape_not}
use Rattle.rows.specs.Kinds.{kind_of}
use Rattle.rows.specs.Rows.{word, op_a, op_b, op_c}
use Rattle.rows.specs.Enclosing.{max_binders}
use Rattle.rows.specs.Trees.{ReadsCode, r_edit, r_enter, r_update, r_then, r_next, r_fail, r_and, r_or, r_xor, r_view, r_gate, r_if, r_let}
use Rattle.rows.specs.Fits.{FitsCode}
use Rattle.typing.specs.RowTypes.{type_of}
use Rattle.typing.specs.BinderShapes.{BinderShapes}
use Rattle.typing.proofs.Steps.{Good, around_more}
use Rattle.typing.proofs.Agree.{type_good, exp_good, code_good}
use Rattle.value.specs.Fits.{Got, got_none, got_some, value_for}
use Rattle.value.proofs.Fitting.{for_type, for_none}
use Rattle.state.specs.Layout.{at, own, one, other, value_words, touch_words}
use Rattle.state.specs.Holds.{tree_of, Sits, Clear}
use Rattle.state.specs.Words.{Laid, value_at}
use Rattle.state.specs.Reading.{read_value, read_touches, by_tag, read_task}
use Rattle.state_check.specs.declared.Part.{Part}
use Rattle.state_check.specs.declared.Part.TheVariants.{Alone, Filled, Below, Bound, Two, Gate}
use Rattle.state_check.specs.Parts.{tagged_part, part_from, part_of}
use Rattle.state_check.specs.Copies.{Sheet, Site, Copy, CopyOk, ValueOk, TouchesOk}
use Rattle.state_check.proofs.Laying.{clear_under, below, clear_a, clear_b, neither, left, right, two}

-- ---- answers

pub got_map : {X Y : Type 0} {r : Bool} {Q : X → Type 0} {R : Y → Type 0} {o : Maybe X} (K : X → Y) → ((x : X) → Q x → R (K x)) → Got r Q o → Got r R (bind o λ x. some (K x))
unfolding bind
got_map K f (got_none e) = got_none e
got_map K f (got_some e q) = got_some e (f _ q)

pub got_bind : {X Y : Type 0} {q r : Bool} {Q : X → Type 0} {R : Y → Type 0} {o : Maybe X} {f : X → Maybe Y}
    → Got q Q o → (q ≡ false → r ≡ false) → (q ≡ true → (x : X) → Q x → Got r R (f x)) → Got r R (bind o f)
unfolding bind
got_bind (got_none e) g h = got_none (g e)
got_bind (got_some e q) g h = h e _ q

pub got_as : {X : Type 0} {q r : Bool} {Q R : X → Type 0} {o : Maybe X} → q ≡ r → ((x : X) → Q x → R x) → Got q Q o → Got r R o
got_as h f (got_none e) = got_none (sym h ∙ e)
got_as h f (got_some e q) = got_some (sym h ∙ e) (f _ q)

-- a value copied, at a type's shape and at that of none
pub value_ok : {ws y y₁ : List ℕ} {i x s : ℕ} {r : Bool} (τ : Ty) → leaves τ ≤ max_leaves → s ≡ as_shape τ → ValueOk ws y y₁ i x s r → Got r (λ v. Laid y y₁ i (x ∷ value_words v)) (read_value ws i τ)
unfolding read_value
value_ok {ws} {y} {y₁} {i} {x} {s} {r} τ l q g = subst (Got r (λ v. Laid y y₁ i (x ∷ value_words v))) (for_type (value_at ws i) τ s l q) g.got

value_none : {ws y y₁ : List ℕ} {i x s : ℕ} {r : Bool} → s ≡ 0 → ValueOk ws y y₁ i x s r → r ≡ false
value_none {ws} {y} {y₁} {i} {x} {s} {r} q g = none_of (subst (Got r (λ v. Laid y y₁ i (x ∷ value_words v))) (ap (value_for (value_at ws i)) q ∙ for_none (value_at ws i)) g.got)
  where
    none_of : {Q : Val → Type 0} → Got r Q none → r ≡ false
    none_of (got_none e) = e

value_unread : {ws y : List ℕ} {i x s : ℕ} → s ≡ 0 → ValueOk ws y y i x s false
value_unread {ws} {y} {i} {x} {s} q = record { got = subst (Got false (λ v. Laid y y i (x ∷ value_words v))) (sym (ap (value_for (value_at ws i)) q ∙ for_none (value_at ws i))) (got_none refl) }

-- ---- what was done at a row

pub data Step (rs ws y y₁ : List ℕ) (i : ℕ) (env : List ℕ) (d : ℕ) (r : Bool) : Option Part → Type 0 where
  s_bad : r ≡ false → Step rs ws y y₁ i env d r None
  s_alone : r ≡ true → Laid y y₁ i (at ws i 0 ∷ []) → Step rs ws y y₁ i env d r (Some Alone)
  s_filled : {a : ℕ} → ValueOk ws y y₁ i (at ws i 0) (type_of rs env d a) r → Step rs ws y y₁ i env d r (Some (Filled a))
  s_below : {k : ℕ} {z : List ℕ} → Laid y z i (at ws i 0 ∷ []) → CopyOk rs ws z y₁ k env d r → Step rs ws y y₁ i env d r (Some (Below k))
  s_bound : {a b : ℕ} {z : List ℕ} {q : Bool} → ValueOk ws y z i (at ws i 0) (type_of rs env d a) q → (q ≡ false → r ≡ false)
      → (q ≡ true → d < max_binders → CopyOk rs ws z y₁ b (set env d (type_of rs env d a)) (d + 1) r) → Step rs ws y y₁ i env d r (Some (Bound a b))
  s_two : {a b : ℕ} {z z₁ : List ℕ} {q : Bool} → Laid y z i (at ws i 0 ∷ []) → CopyOk rs ws z z₁ a env d q → (q ≡ false → r ≡ false)
      → (q ≡ true → CopyOk rs ws z₁ y₁ b env d r) → Step rs ws y y₁ i env d r (Some (Two a b))
  s_gate : {b m : ℕ} {z : List ℕ} {q : Bool} → TouchesOk ws y z i m q → (q ≡ false → r ≡ false) → (q ≡ true → CopyOk rs ws z y₁ b env d r) → Step rs ws y y₁ i env d r (Some (Gate b m))

module _ (rs ws y y₁ : List ℕ) (i : ℕ) (env : List ℕ) (d : ℕ) (r : Bool) where
  abbrev St : Option Part → Type 0
  St p = Step rs ws y y₁ i env d r p

  module _ {X : Type 0} {Q : X → Type 0} where
    none_held : St None → Got r Q none
    none_held (s_bad e) = got_none e

    pick : {p q : Option Part} {o₁ o₂ : Maybe X} (b : Bool) → (b ≡ true → St p → Got r Q o₁) → (b ≡ false → St q → Got r Q o₂) → St (cond b p q) → Got r Q (cond b o₁ o₂)
    pick true f g s = f refl s
    pick false f g s = g refl s

    -- one of three, by the tag
    tags : {p q t : Option Part} {o₁ o₂ o₃ : Maybe X} → (at ws i 0 ≡ own → St p → Got r Q o₁) → (at ws i 0 ≡ one → St q → Got r Q o₂) → (at ws i 0 ≡ other → St t → Got r Q o₃)
        → St (tagged_part (at ws i 0) p q t) → Got r Q (by_tag ws i o₁ o₂ o₃)
    unfolding by_tag
    tags f g h s = pick (eqb (at ws i 0) own) (λ e. f (eqb-true _ _ e)) (λ _. pick (eqb (at ws i 0) one) (λ e. g (eqb-true _ _ e)) (λ _. pick (eqb (at ws i 0) other) (λ e. h (eqb-true _ _ e)) (λ _. none_held))) s

  tag_as : {z xs : List ℕ} {v : ℕ} → at ws i 0 ≡ v → Laid y z i (at ws i 0 ∷ xs) → Laid y z i (v ∷ xs)
  tag_as {z} {xs} e l = subst (λ x. Laid y z i (x ∷ xs)) e l

  alone_of : {X : Type 0} {Q : X → Type 0} {t : X} {v : ℕ} → at ws i 0 ≡ v → (Laid y y₁ i (v ∷ []) → Q t) → St (Some Alone) → Got r Q (some t)
  alone_of e f (s_alone h l) = got_some h (f (tag_as e l))

  module _ {X : Type 0} {Q : X → Type 0} {v : ℕ} where
    -- a value of the type, if there is one
    value_of : {z : List ℕ} {q : Bool} {s : ℕ} {f : Ty → Val → Maybe X} (o : Maybe Ty) → Good o s → at ws i 0 ≡ v → ValueOk ws y z i (at ws i 0) s q → (q ≡ false → r ≡ false)
        → ((τ : Ty) (w : Val) → leaves τ ≤ max_leaves → s ≡ as_shape τ → q ≡ true → Laid y z i (v ∷ value_words w) → Got r Q (f τ w)) → Got r Q (bind o λ τ. bind (read_value ws i τ) (f τ))
    unfolding bind maybe_shape
    value_of none g e h n k = got_none (n (value_none g.is h))
    value_of (some τ) g e h n k = got_bind (value_ok τ g.small g.is h) n (λ z w l. k τ w g.small g.is z (tag_as e l))

    filled_of : {a : ℕ} {f : Ty → Val → Maybe X} (o : Maybe Ty) → Good o (type_of rs env d a) → at ws i 0 ≡ v → ((τ : Ty) (w : Val) → r ≡ true → Laid y y₁ i (v ∷ value_words w) → Got r Q (f τ w))
        → St (Some (Filled a)) → Got r Q (bind o λ τ. bind (read_value ws i τ) (f τ))
    filled_of o g e k (s_filled h) = value_of o g e h (λ z. z) (λ τ w l m z p. k τ w z p)

  -- ---- the rows below

  module _ (n : ℕ) (Σ Γ : List Ty) (sh : Sheet rs n Σ) where
    abbrev Here : Code → Type 0
    Here c = Site rs n Γ env d i c

    child : {c : Code} (k : ℕ) {b : Code} → Here c → k < i → ReadsCode rs k b → FitsCode (length Γ) b → Sits rs d k b → Site rs n Γ env d k b
    child k st l g f s = record { low = let m = st.low in omega arith; reads = g; fits = f; sits = s; depth = st.depth; around = st.around }

    inner : {c : Code} (k : ℕ) {b : Code} → Here c → k < i → ReadsCode rs k b → length Γ < max_binders → FitsCode (suc (length Γ)) b → Sits rs (d + 1) k b
        → (τ : Ty) → leaves τ ≤ max_leaves → Site rs n (τ ∷ Γ) (set env d (as_shape τ)) (d + 1) k b
    inner k st l g m f s τ h = record {
      low = let o = st.low in omega arith;
      reads = g;
      fits = f;
      sits = s;
      depth = ap suc st.depth ∙ sym (add-one d);
      around = subst (λ e. BinderShapes (set env e (as_shape τ)) (τ ∷ Γ)) st.depth (around_more τ m h st.around);
    }

    at_depth : {c : Code} {o : Maybe Ty} (k : ℕ) → Here c → Good o (type_of rs env (length Γ) k) → Good o (type_of rs env d k)
    at_depth {o = o} k st g = subst (λ m. Good o (type_of rs env m k)) st.depth g

    module _ {X : Type 0} {R : X → Type 0} {v : ℕ} where
      below_of : {k : ℕ} {b : Code} (K : TaskOf b → X) → at ws i 0 ≡ v → Site rs n Γ env d k b → ((z : List ℕ) → Laid y z i (v ∷ []) → Clear rs z k (tree_of b))
          → ((z : List ℕ) (t : TaskOf b) → Laid y z i (v ∷ []) → Copy rs z y₁ k b t → R (K t)) → St (Some (Below k)) → Got r R (bind (read_task rs ws Σ Γ k b) λ t. some (K t))
      below_of {b = b} K e st cl f (s_below l ok) = let p = tag_as e l in got_map K (λ t c. f _ t p c) (ok n Σ Γ b sh st (cl _ p))

      bound_of : {A k : ℕ} {b : Code} (K : Val → TaskOf b → X) (o : Maybe Ty) → Good o (type_of rs env d A) → at ws i 0 ≡ v → d < max_binders
          → ((τ : Ty) → leaves τ ≤ max_leaves → Site rs n (τ ∷ Γ) (set env d (as_shape τ)) (d + 1) k b) → ((z xs : List ℕ) → Laid y z i xs → Clear rs z k (tree_of b))
          → ((z : List ℕ) (w : Val) (u : TaskOf b) → Laid y z i (v ∷ value_words w) → Copy rs z y₁ k b u → R (K w u))
          → St (Some (Bound A k)) → Got r R (bind o λ τ. bind (read_value ws i τ) λ w. bind (read_task rs ws Σ (τ ∷ Γ) k b) λ u. some (K w u))
      bound_of {k = k} {b = b} K o g e room st cl f (s_bound {z = z} h m ok) =
          value_of o g e h m (λ τ w l q t p. got_map (K w) (λ u c. f _ w u p c) (subst (λ s. CopyOk rs ws z y₁ k (set env d s) (d + 1) r) q (ok t room) n Σ (τ ∷ Γ) b sh (st τ l) (cl _ _ p)))

      two_of : {j k : ℕ} {a b : Code} (K : TaskOf a → TaskOf b → X) → at ws i 0 ≡ v → Site rs n Γ env d j a → Site rs n Γ env d k b → ((z : List ℕ) → Laid y z i (v ∷ []) → Clear rs z j (tree_of a))
          → ((z z₁ : List ℕ) (t : TaskOf a) → Laid y z i (v ∷ []) → Copy rs z z₁ j a t → Clear rs z₁ k (tree_of b))
          → ((z z₁ : List ℕ) (t : TaskOf a) (u : TaskOf b) → Laid y z i (v ∷ []) → Copy rs z z₁ j a t → Copy rs z₁ y₁ k b u → R (K t u))
          → St (Some (Two j k)) → Got r R (bind (read_task rs ws Σ Γ j a) λ t. bind (read_task rs ws Σ Γ k b) λ u. some (K t u))
      two_of {a = a} {b = b} K e sa sb ca cb f (s_two l ok m more) =
          let p = tag_as e l in
          got_bind (ok n Σ Γ a sh sa (ca _ p)) m (λ q t c. got_map (K t) (λ u c₁. f _ _ t u p c c₁) (more q n Σ Γ b sh sb (cb _ _ t p c)))

    gate_of : {X : Type 0} {R : X → Type 0} {k m : ℕ} {b : Code} (K : ℕ → TaskOf b → X) → Site rs n Γ env d k b → ((z xs : List ℕ) → Laid y z i xs → Clear rs z k (tree_of b))
        → ((z : List ℕ) (w : ℕ) (u : TaskOf b) → Laid y z i (own ∷ touch_words w) → Copy rs z y₁ k b u → R (K w u))
        → St (Some (Gate k m)) → Got r R (bind (read_touches ws i m) λ w. bind (read_task rs ws Σ Γ k b) λ u. some (K w u))
    gate_of {b = b} K st cl f (s_gate h m more) =
        got_bind h.got m (λ q w p. got_map (K w) (λ u c. f _ w u p c) (more q n Σ Γ b sh st (cl _ _ p)))

    -- ---- the codes

    -- the part of a row of kind k
    part_as : {k : ℕ} → word rs i 0 ≡ k → St (part_of rs i (at ws i 0)) → St (part_from k (at ws i 0) (op_a rs i) (op_b rs i) (op_c rs i))
    part_as e s = subst (λ k. St (part_from k (at ws i 0) (op_a rs i) (op_b rs i) (op_c rs i))) e s

    at_code : {c : Code} → ReadsCode rs i c → Here c → Clear rs y i (tree_of c) → St (part_of rs i (at ws i 0)) → Got r (Copy rs y y₁ i c) (read_task rs ws Σ Γ i c)
    unfolding read_task kind_of part_from bind
    at_code (r_edit {a = e} k x g) st cl s = tags
        (λ t. filled_of (infer Σ Γ e) (at_depth (op_a rs i) st (exp_good rs n Σ sh.known sh.small g (let m = st.low in omega arith) env Γ st.around st.fits)) t (λ τ w z p. got_some z (record { holds = p.row; same = p.same })))
        (λ _. none_held) (λ _. none_held) (part_as st.sits.0 s)
    at_code (r_enter {τ = τ} k x g) st cl s = tags
        (λ t. alone_of t (λ p. record { holds = p.row; same = p.same }))
        (λ t. filled_of {f = λ τ w. some (entered w)} (some τ) (type_good rs n Σ sh.known sh.small g (let m = st.low in omega arith) env d) t (λ τ w z p. got_some z (record { holds = p.row; same = p.same })))
        (λ _. none_held) (part_as st.sits.0 s)
    at_code (r_update k x g) st cl s = tags (λ t. alone_of t (λ p. record { holds = p.row; same = p.same })) (λ _. none_held) (λ _. none_held) (part_as st.sits.0 s)
    at_code (r_fail k x g) st cl s = tags (λ t. alone_of t (λ p. record { holds = p.row; same = p.same })) (λ _. none_held) (λ _. none_held) (part_as st.sits s)
    at_code (r_then {a = a} {b = b} k x l g h) st cl s = let f = st.fits in let q = st.sits in tags
        (λ e. below_of before e (child (op_a rs i) st x g f.0 q.1) (λ _ p. clear_a a b q.3 p cl) (λ _ t p c. let z = left a b q.3 p cl c in record { holds = z.0; same = z.1 }))
        (λ e. bound_of after (infer_task Σ Γ a) (at_depth (op_a rs i) st (code_good rs n Σ sh.known sh.small g (let m = st.low in omega arith) env Γ st.around f.0)) e q.4 (inner (op_b rs i) st l h f.1 f.2 q.2) (λ _ _ p. clear_b a b q.3 p cl)
        (λ _ w u p c. let z = right a b q.3 p cl c in record { holds = z.0; same = z.1 }))
        (λ _. none_held) (part_as q.0 s)
    at_code (r_next {a = a} {b = b} k x l g h) st cl s = let f = st.fits in let q = st.sits in tags
        (λ e. below_of before e (child (op_a rs i) st x g f.0 q.1) (λ _ p. clear_a a b q.3 p cl) (λ _ t p c. let z = left a b q.3 p cl c in record { holds = z.0; same = z.1 }))
        (λ e. bound_of after (infer_task Σ Γ a) (at_depth (op_a rs i) st (code_good rs n Σ sh.known sh.small g (let m = st.low in omega arith) env Γ st.around f.0)) e q.4 (inner (op_b rs i) st l h f.1 f.2 q.2) (λ _ _ p. clear_b a b q.3 p cl)
        (λ _ w u p c. let z = right a b q.3 p cl c in record { holds = z.0; same = z.1 }))
        (λ _. none_held) (part_as q.0 s)
    at_code (r_and {a = a} {b = b} k x l g h) st cl s = let f = st.fits in let q = st.sits in tags
        (λ e. two_of both e (child (op_a rs i) st x g f.0 q.1) (child (op_b rs i) st l h f.1 q.2) (λ _ p. clear_a a b q.3 p cl) (λ _ _ t p c. (left a b q.3 p cl c).0.2) (λ _ _ t u p c c₁. let z = two a b q.3 p cl c c₁ in record { holds = z.0; same = z.1 }))
        (λ _. none_held) (λ _. none_held) (part_as q.0 s)
    at_code (r_or {a = a} {b = b} k x l g h) st cl s = let f = st.fits in let q = st.sits in tags
        (λ e. two_of either e (child (op_a rs i) st x g f.0 q.1) (child (op_b rs i) st l h f.1 q.2) (λ _ p. clear_a a b q.3 p cl) (λ _ _ t p c. (left a b q.3 p cl c).0.2) (λ _ _ t u p c c₁. let z = two a b q.3 p cl c c₁ in record { holds = z.0; same = z.1 }))
        (λ e. below_of or_left e (child (op_a rs i) st x g f.0 q.1) (λ _ p. clear_a a b q.3 p cl) (λ _ t p c. let z = left a b q.3 p cl c in record { holds = z.0; same = z.1 }))
        (λ e. below_of or_right e (child (op_b rs i) st l h f.1 q.2) (λ _ p. clear_b a b q.3 p cl) (λ _ t p c. let z = right a b q.3 p cl c in record { holds = z.0; same = z.1 }))
        (part_as q.0 s)
    at_code (r_xor {a = a} {b = b} k x l g h) st cl s = let f = st.fits in let q = st.sits in tags
        (λ e. alone_of e (λ p. let z = neither a b q.3 p cl in record { holds = z.0; same = z.1 }))
        (λ e. below_of picked_left e (child (op_a rs i) st x g f.0 q.1) (λ _ p. clear_a a b q.3 p cl) (λ _ t p c. let z = left a b q.3 p cl c in record { holds = z.0; same = z.1 }))
        (λ e. below_of picked_right e (child (op_b rs i) st l h f.1 q.2) (λ _ p. clear_b a b q.3 p cl) (λ _ t p c. let z = right a b q.3 p cl c in record { holds = z.0; same = z.1 }))
        (part_as q.0 s)
    at_code (r_view {a = e} k x g) st cl s = tags
        (λ t. filled_of (infer Σ Γ e) (at_depth (op_a rs i) st (exp_good rs n Σ sh.known sh.small g (let m = st.low in omega arith) env Γ st.around st.fits)) t (λ τ w z p. got_some z (record { holds = p.row; same = p.same })))
        (λ _. none_held) (λ _. none_held) (part_as st.sits.0 s)
    at_code (r_gate {b = b} k x g) st cl s = let q = st.sits in tags
        (λ _. gate_of {R = Copy rs y y₁ i (gate (op_a rs i) (op_c rs i) b)} gated (child (op_b rs i) st x g st.fits q.3) (λ _ _ p. clear_under b q.4 p cl) (λ _ w u p c. let z = below b q.4 p c in record { holds = z.0; same = z.1 }))
        (λ _. none_held) (λ _. none_held) (part_as q.0 s)
    at_code (r_if {b = a} {c = b} k x l m z g h) st cl s = let f = st.fits in let q = st.sits in tags
        (λ _. none_held)
        (λ e. below_of if_true e (child (op_b rs i) st l g f.1 q.2) (λ _ p. clear_a a b q.4 p cl) (λ _ t p c. let z = left a b q.4 p cl c in record { holds = z.0; same = z.1 }))
        (λ e. below_of if_false e (child (op_c rs i) st m h f.2 q.3) (λ _ p. clear_b a b q.4 p cl) (λ _ t p c. let z = right a b q.4 p cl c in record { holds = z.0; same = z.1 }))
        (part_as q.0 s)
    at_code (r_let {a = a} {b = b} k x l z g) st cl s = let f = st.fits in let q = st.sits in tags
        (λ _. none_held)
        (λ e. bound_of bound (infer Σ Γ a) (at_depth (op_a rs i) st (exp_good rs n Σ sh.known sh.small z (let m = st.low in omega arith) env Γ st.around f.0)) e q.4 (inner (op_b rs i) st l g f.1 f.2 q.2) (λ _ _ p. clear_under b q.3 p cl)
        (λ _ w u p c. let z = below b q.3 p c in record { holds = z.0; same = z.1 }))
        (λ _. none_held) (part_as q.0 s)

-- ---- what copy_task returns

module _ (rs ws y : List ℕ) (i : ℕ) (env : List ℕ) (d x : ℕ) (p : Option Part) (hx : x ≡ at ws i 0) (hp : p ≡ part_of rs i x) where
  copied : {y₁ : List ℕ} {r : Bool} {p₁ : Option Part} → p ≡ p₁ → Step rs ws y y₁ i env d r p₁ → CopyOk rs ws y y₁ i env d r
  copied {y₁} {r} e s n Σ Γ c sh st cl = at_code rs ws y y₁ i env d r n Σ Γ sh st.reads st cl (subst (Step rs ws y y₁ i env d r) (sym e ∙ hp ∙ ap (part_of rs i) hx) s)

  tag_is : {z xs : List ℕ} → Laid y z i (x ∷ xs) → Laid y z i (at ws i 0 ∷ xs)
  tag_is {z} {xs} l = subst (λ x. Laid y z i (x ∷ xs)) hx l

  value_is : {z : List ℕ} {t s : ℕ} {q : Bool} → t ≡ s → ValueOk ws y z i x t q → ValueOk ws y z i (at ws i 0) s q
  value_is {z} {t} {s} {q} e h = subst (λ t. ValueOk ws y z i (at ws i 0) t q) e (subst (λ x. ValueOk ws y z i x t q) hx h)

  pub copy_bad : p ≡ None → CopyOk rs ws y y i env d false
  copy_bad e = copied e (s_bad refl)

  pub copy_alone : {y₁ : List ℕ} → p ≡ Some Alone → Laid y y₁ i (x ∷ []) → CopyOk rs ws y y₁ i env d true
  copy_alone e l = copied e (s_alone refl (tag_is l))

  pub copy_filled : {y₁ : List ℕ} {a t : ℕ} {r : Bool} → p ≡ Some (Filled a) → Some t ≡ shape_or_none (type_of rs env d a) → ValueOk ws y y₁ i x t r → CopyOk rs ws y y₁ i env d r
  copy_filled e f h = copied e (s_filled (value_is (shape_is f).0 h))

  pub copy_untyped : {a : ℕ} → p ≡ Some (Filled a) → None ≡ shape_or_none (type_of rs env d a) → CopyOk rs ws y y i env d false
  copy_untyped e f = copied e (s_filled (value_unread (shape_not f)))

  pub copy_below : {z y₁ : List ℕ} {k : ℕ} {r : Bool} → p ≡ Some (Below k) → Laid y z i (x ∷ []) → CopyOk rs ws z y₁ k env d r → CopyOk rs ws y y₁ i env d r
  copy_below e l h = copied e (s_below (tag_is l) h)

  module _ {a b : ℕ} (e : p ≡ Some (Bound a b)) where
    module _ {t : ℕ} (f : Some t ≡ shape_or_none (type_of rs env d a)) where
      pub copy_bound : {z y₁ env₁ : List ℕ} {d₁ : ℕ} {q r : Bool} → ValueOk ws y z i x t q → q ≡ true → env₁ ≡ set env d t → d₁ ≡ d + 1 → CopyOk rs ws z y₁ b env₁ d₁ r → CopyOk rs ws y y₁ i env d r
      copy_bound {z} {y₁} {d₁ = d₁} {r = r} h q g k ok =
          let s = (shape_is f).0 in
          copied e
          (s_bound (value_is s h) (λ n. absurd (false≢true (sym n ∙ q)))
          (λ _ _. subst (λ m. CopyOk rs ws z y₁ b (set env d (type_of rs env d a)) m r) k (subst (λ v. CopyOk rs ws z y₁ b v d₁ r) (g ∙ ap (set env d) s) ok)))

      pub copy_deep : {z : List ℕ} {q r : Bool} → ValueOk ws y z i x t q → max_binders ≤ d → r ≡ false → CopyOk rs ws y z i env d r
      copy_deep h l n = copied e (s_bound (value_is (shape_is f).0 h) (λ _. n) (λ _ m. absurd (omega arith)))

      pub copy_unbound : {z : List ℕ} {q r : Bool} → ValueOk ws y z i x t q → q ≡ false → r ≡ false → CopyOk rs ws y z i env d r
      copy_unbound h q n = copied e (s_bound (value_is (shape_is f).0 h) (λ _. n) (λ m _. absurd (false≢true (sym q ∙ m))))

    pub copy_unshaped : None ≡ shape_or_none (type_of rs env d a) → CopyOk rs ws y y i env d false
    copy_unshaped f = copied e (s_bound (value_unread (shape_not f)) (λ _. refl) (λ n _. absurd (false≢true n)))

  module _ {a b : ℕ} (e : p ≡ Some (Two a b)) where
    pub copy_two : {z z₁ y₁ : List ℕ} {q r : Bool} → Laid y z i (x ∷ []) → CopyOk rs ws z z₁ a env d q → q ≡ true → CopyOk rs ws z₁ y₁ b env d r → CopyOk rs ws y y₁ i env d r
    copy_two l h q ok = copied e (s_two (tag_is l) h (λ n. absurd (false≢true (sym n ∙ q))) (λ _. ok))

    pub copy_first : {z z₁ : List ℕ} {q : Bool} → Laid y z i (x ∷ []) → CopyOk rs ws z z₁ a env d q → q ≡ false → CopyOk rs ws y z₁ i env d q
    copy_first l h q = copied e (s_two (tag_is l) h (λ n. n) (λ n. absurd (false≢true (sym q ∙ n))))

  module _ {b m : ℕ} (e : p ≡ Some (Gate b m)) where
    pub copy_gate : {z y₁ : List ℕ} {q r : Bool} → TouchesOk ws y z i m q → q ≡ true → CopyOk rs ws z y₁ b env d r → CopyOk rs ws y y₁ i env d r
    copy_gate h q ok = copied e (s_gate h (λ n. absurd (false≢true (sym n ∙ q))) (λ _. ok))

    pub copy_ungated : {z : List ℕ} {q : Bool} → TouchesOk ws y z i m q → q ≡ false → CopyOk rs ws y z i env d q
    copy_ungated h q = copied e (s_gate h (λ n. n) (λ n. absurd (false≢true (sym q ∙ n))))
