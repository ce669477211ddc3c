-- Entries against a function that takes events: entries light a function where they cover exactly the events that it
-- takes, each by one entry. Each form of `handle` and `entries` keeps this. Rests on ComputeEntries and Leaves.
use mathlib.Core.Path.{◌≡◌, refl, sym, ap, ◌∙◌, subst}
use mathlib.Core.Bool.{Bool, true, false, not, cond}
use mathlib.Core.Option.{Option, none, some}
use mathlib.Core.List.{List, [], ◌∷◌, ◌++◌}
use Prim.Native.Nat.{ℕ, suc, ◌+◌}
use native.Mathlib.Omega.{arith}
use lib.ListN.{length}
use Rattle.decimal.specs.Path.{Mark, first, second, Path}
use Rattle.tophat.specs.Syntax.{Ty, GateT, Val}
use Rattle.tophat.specs.Typing.{At, here, there}
use Rattle.tophat.specs.Handling.{Button, continue, left, right, Action, give, press}
use Rattle.tophat.specs.Showing.{Entry, Covers, c_fill, c_button, marked, offers, button_if, entries_if}
use Rattle.tophat.proofs.Basics.{no_some}
use Rattle.tophat.proofs.ComputeHandling.{Taken, map_task, pass_gate, then_some, at_editor, at_mark, at_sides, at_continue}
use Rattle.tophat.specs.Leaves.{given}
use Rattle.tophat.proofs.ComputeEntries.{continue_if}
use Rattle.tophat.proofs.Leaves.{given_gives, gives_given, gives_meets, meets_gives}

-- an entry covers the event
abbrev pub Covered : List Entry → Path → Action → Type 0
Covered es p x = (i : ℕ) × (e : Entry) × At es i e × Covers e p x

-- entries cover what a function takes, each by one
pub record Lights {X : Type 0} (es : List Entry) (f : Path → Action → Option X) : Type 0 where
  pub taken : {i : ℕ} {e : Entry} {p : Path} {x : Action} → At es i e → Covers e p x → (r : X) × (f p x ≡ some r)
  pub covered : (p : Path) (x : Action) {r : X} → f p x ≡ some r → Covered es p x
  pub once : {i j : ℕ} {e g : Entry} {p : Path} {x : Action} → At es i e → At es j g → Covers e p x → Covers g p x → i ≡ j

-- Places in a list.

module _ {X : Type 0} where
  pub nowhere : {i : ℕ} {x : X} → At [] i x → ⊥
  nowhere d = elim d [ ]

  one_place : {x y z : X} {i j : ℕ} → At (x ∷ []) i y → At (x ∷ []) j z → i ≡ j
  one_place here here = refl
  one_place here (there d) = absurd (nowhere d)
  one_place (there d) k = absurd (nowhere d)

  at_left : {xs : List X} (ys : List X) {i : ℕ} {x : X} → At xs i x → At (xs ++ ys) i x
  at_left ys here = here
  at_left ys (there d) = there (at_left ys d)

  at_right : (xs : List X) {ys : List X} {i : ℕ} {x : X} → At ys i x → (j : ℕ) × At (xs ++ ys) j x
  at_right [] d = (_, d)
  at_right (x ∷ xs) d = let (j, e) = at_right xs d in (suc j, there e)

  -- a place in the first or, counted from its end, in the second
  data Side (xs ys : List X) (i : ℕ) (x : X) : Type 0 where
    on_left : At xs i x → Side xs ys i x
    on_right : {j : ℕ} → At ys j x → i ≡ length xs + j → Side xs ys i x

  side : (xs : List X) {ys : List X} {i : ℕ} {x : X} → At (xs ++ ys) i x → Side xs ys i x
  side [] d = on_right d (omega arith)
  side (y ∷ xs) here = on_left here
  side (y ∷ xs) {ys} (there {n = i} d) = on (side xs d)
    where
      on : {x : X} → Side xs ys i x → Side (y ∷ xs) ys (suc i) x
      on (on_left d) = on_left (there d)
      on (on_right d e) = on_right d (omega (arith, e))

-- an entry behind a mark
record Behind (m : Mark) (es : List Entry) (i : ℕ) (p : Path) (x : Action) : Type 0 where
  path : Path
  starts : p ≡ m ∷ path
  entry : Entry
  stands : At es i entry
  covers : Covers entry path x

behind : (m : Mark) (es : List Entry) {i : ℕ} {e : Entry} {p : Path} {x : Action} → At (marked m es) i e → Covers e p x → Behind m es i p x
unfolding marked
behind m [] d k = absurd (nowhere d)
behind m ((q, o) ∷ es) here (c_fill k) = record { path = q; starts = refl; entry = _; stands = here; covers = c_fill k }
behind m ((q, o) ∷ es) here c_button = record { path = q; starts = refl; entry = _; stands = here; covers = c_button }
behind m (e ∷ es) (there d) k =
    let u = behind m es d k in
    record { path = u.path; starts = u.starts; entry = u.entry; stands = there u.stands; covers = u.covers }

mark_covered : (m : Mark) {es : List Entry} {i : ℕ} {e : Entry} {p : Path} {x : Action} → At es i e → Covers e p x → Covered (marked m es) (m ∷ p) x
unfolding marked
mark_covered m here (c_fill k) = (0, _, here, c_fill k)
mark_covered m here c_button = (0, _, here, c_button)
mark_covered m (there d) k = let (i, e, f, l) = mark_covered m d k in (suc i, e, there f, l)

-- an answer where, and only where, a test fails
pub data Open {X : Type 0} : Bool → Option X → Type 0 where
  opened : {r : X} → Open false (some r)
  shut : Open true none

-- one answer, else the other
unfoldable or_else : {X : Type 0} → Option X → Option X → Option X
or_else none q = q
or_else (some r) q = some r

else_none : {X : Type 0} (o : Option X) → or_else o none ≡ o
unfolding or_else
else_none none = refl
else_none (some r) = refl

-- Entries and what they light.

module _ {X : Type 0} where
  pub same_light : {es : List Entry} {f g : Path → Action → Option X} → Lights es f → ((p : Path) (x : Action) → f p x ≡ g p x) → Lights es g
  same_light {es} {f} {g} l e = record { taken = λ d c. takes d c; covered = λ p x h. l.covered p x (e p x ∙ h); once = λ d k c b. l.once d k c b }
    where
      takes : {i : ℕ} {n : Entry} {p : Path} {x : Action} → At es i n → Covers n p x → (r : X) × (g p x ≡ some r)
      takes d c = let (r, h) = l.taken d c in (r, sym (e _ _) ∙ h)

  pub none_lights : Lights {X = X} [] (λ p x. none)
  none_lights = record { taken = λ d k. absurd (nowhere d); covered = λ p x h. no_some h; once = λ d k _ _. absurd (nowhere d) }

  -- an editor of a type
  pub editor_lights : (τ : Ty) (K : Val → X) → Lights (offers τ) (λ p x. at_editor p x λ ls. then_some (given τ ls) K)
  unfolding offers at_editor then_some
  editor_lights τ K = record { taken = λ d k. takes d k; covered = λ p x h. finds p x h; once = λ d k _ _. one_place d k }
    where
      takes : {i : ℕ} {e : Entry} {p : Path} {x : Action} → At (offers τ) i e → Covers e p x → (r : X) × (at_editor p x (λ ls. then_some (given τ ls) K) ≡ some r)
      takes here (c_fill m) =
          let (v, g) = meets_gives τ m in
          let e = gives_given g in
          (K v, rw e)
      takes (there d) k = absurd (nowhere d)

      some_given : (o : Option Val) {r : X} → then_some o K ≡ some r → (v : Val) × (o ≡ some v)
      some_given none h = no_some h
      some_given (some v) h = (v, refl)

      finds : (p : Path) (x : Action) {r : X} → at_editor p x (λ ls. then_some (given τ ls) K) ≡ some r → Covered (offers τ) p x
      finds [] (give ls) h = let (v, e) = some_given (given τ ls) h in (0, _, here, c_fill (gives_meets (given_gives τ e)))
      finds [] (press b) h = no_some h
      finds (m ∷ p) x h = no_some h

  -- a button, for a function that takes nothing else
  lit_lights : (b : Button) (f : Path → Action → Option X) {y : Bool} {o : Option X} → Open y o → f [] (press b) ≡ o
      → ((p : Path) (x : Action) (r : X) → f p x ≡ some r → (p ≡ []) × (x ≡ press b)) → Lights (button_if (not y) b) f
  unfolding button_if
  lit_lights b f (opened {r = r}) e only = record { taken = λ d c. takes d c; covered = λ p x h. let (k, l) = only p x _ h in rw (k, l) (0, _, here, c_button); once = λ d k _ _. one_place d k }
    where
      takes : {i : ℕ} {n : Entry} {p : Path} {x : Action} → At (button_if true b) i n → Covers n p x → (q : X) × (f p x ≡ some q)
      takes here c_button = (r, e)
      takes (there d) k = absurd (nowhere d)
  lit_lights b f shut e only = record { taken = λ d c. absurd (nowhere d); covered = λ p x h. finds p x h; once = λ d k _ _. absurd (nowhere d) }
    where
      finds : (p : Path) (x : Action) {r : X} → f p x ≡ some r → Covered [] p x
      finds p x h = let (k, l) = only p x _ h in no_some (sym e ∙ (rw (k, l) at h))

  -- entries behind a mark, for a function that takes what they light behind it
  marked_light : (m : Mark) {es : List Entry} {f : Path → Action → Option X} (g : Path → Action → Option X) → Lights es f → ((p : Path) (x : Action) → g (m ∷ p) x ≡ f p x)
      → ((p : Path) (x : Action) (r : X) → g p x ≡ some r → (q : Path) × (p ≡ m ∷ q)) → Lights (marked m es) g
  marked_light m {es} {f} g l e only = record { taken = λ d c. takes (behind m es d c); covered = λ p x h. finds p x h; once = λ d k c b. same (behind m es d c) (behind m es k b) }
    where
      takes : {i : ℕ} {p : Path} {x : Action} → Behind m es i p x → (r : X) × (g p x ≡ some r)
      takes {x = x} u = let (r, h) = l.taken u.stands u.covers in (r, ap (λ p. g p x) u.starts ∙ e u.path x ∙ h)

      finds : (p : Path) (x : Action) {r : X} → g p x ≡ some r → Covered (marked m es) p x
      finds p x h =
          let (q, k) = only p x _ h in
          let (i, n, d, c) = l.covered q x (sym (e q x) ∙ (rw k at h)) in
          rw k (mark_covered m d c)

      same : {i j : ℕ} {p : Path} {x : Action} → Behind m es i p x → Behind m es j p x → i ≡ j
      same {x = x} u v =
          let h = u.starts in
          let k = v.starts in
          let q : v.path ≡ u.path = cc in
          l.once u.stands v.stands u.covers (subst (λ p. Covers v.entry p x) q v.covers)

  -- two functions that take no common event
  join_lights : {es gs : List Entry} {f g : Path → Action → Option X} → Lights es f → Lights gs g → ((p : Path) (x : Action) (r q : X) → f p x ≡ some r → g p x ≡ some q → ⊥) → Lights (es ++ gs) (λ p x. or_else (f p x) (g p x))
  unfolding or_else
  join_lights {es} {gs} {f} {g} l k apart = record { taken = λ d c. takes (side es d) c; covered = λ p x h. finds p x (f p x) refl h; once = λ d e c b. same (side es d) (side es e) c b }
    where
      second_answer : (o q : Option X) {r : X} → ((z : X) → o ≡ some z → ⊥) → q ≡ some r → or_else o q ≡ some r
      second_answer none q n h = h
      second_answer (some z) q n h = absurd (n z refl)

      takes : {i : ℕ} {e : Entry} {p : Path} {x : Action} → Side es gs i e → Covers e p x → (r : X) × (or_else (f p x) (g p x) ≡ some r)
      takes (on_left d) c = let (r, h) = l.taken d c in (r, rw h)
      takes {p = p} {x = x} (on_right d e) c = let (r, h) = k.taken d c in (r, second_answer (f p x) (g p x) (λ z m. apart p x _ _ m h) h)

      finds : (p : Path) (x : Action) (o : Option X) {r : X} → f p x ≡ o → or_else o (g p x) ≡ some r → Covered (es ++ gs) p x
      finds p x none e h =
          let (i, n, d, c) = k.covered p x h in
          let (j, m) = at_right es d in
          (j, n, m, c)
      finds p x (some z) e h = let (i, n, d, c) = l.covered p x e in (i, n, at_left gs d, c)

      same : {i j : ℕ} {e b : Entry} {p : Path} {x : Action} → Side es gs i e → Side es gs j b → Covers e p x → Covers b p x → i ≡ j
      same (on_left d) (on_left e) c b = l.once d e c b
      same (on_left d) (on_right e h) c b = absurd (apart _ _ _ _ (l.taken d c).1 (k.taken e b).1)
      same (on_right d h) (on_left e) c b = absurd (apart _ _ _ _ (l.taken e b).1 (k.taken d c).1)
      same (on_right d h) (on_right e m) c b = let q = k.once d e c b in omega arith

  -- 46 and 47: each part's entries behind its mark
  pub marks_light : {es gs : List Entry} {f g : Path → Action → Option X} → Lights es f → Lights gs g → Lights (marked first es ++ marked second gs) (λ p x. at_mark p (λ q. f q x) (λ q. g q x))
  unfolding at_mark or_else
  marks_light {f = f} {g = g} l k = same_light (join_lights (marked_light first one l (λ p x. refl) one_first) (marked_light second two k (λ p x. refl) two_second) apart) agree
    where
      one : Path → Action → Option X
      one p x = at_mark p (λ q. f q x) (λ q. none)

      two : Path → Action → Option X
      two p x = at_mark p (λ q. none) (λ q. g q x)

      one_first : (p : Path) (x : Action) (r : X) → one p x ≡ some r → (q : Path) × (p ≡ first ∷ q)
      one_first [] x r h = no_some h
      one_first (first ∷ p) x r h = (p, refl)
      one_first (second ∷ p) x r h = no_some h

      two_second : (p : Path) (x : Action) (r : X) → two p x ≡ some r → (q : Path) × (p ≡ second ∷ q)
      two_second [] x r h = no_some h
      two_second (first ∷ p) x r h = no_some h
      two_second (second ∷ p) x r h = (p, refl)

      apart : (p : Path) (x : Action) (r q : X) → one p x ≡ some r → two p x ≡ some q → ⊥
      apart [] x r y h e = no_some h
      apart (first ∷ p) x r y h e = no_some e
      apart (second ∷ p) x r y h e = no_some h

      agree : (p : Path) (x : Action) → or_else (one p x) (two p x) ≡ at_mark p (λ q. f q x) (λ q. g q x)
      agree [] x = refl
      agree (first ∷ p) x = else_none (f p x)
      agree (second ∷ p) x = refl

  -- 48: Left and Right, each where its branch does not fail
  pub sides_light : {y z : Bool} {o q : Option X} → Open y o → Open z q → Lights (button_if (not y) left ++ button_if (not z) right) (λ p x. at_sides p x (λ _. o) (λ _. q))
  unfolding at_sides or_else
  sides_light {o = o} {q = q} l k = same_light (join_lights (lit_lights left one l refl one_left) (lit_lights right two k refl two_right) apart) agree
    where
      one : Path → Action → Option X
      one p x = at_sides p x (λ _. o) (λ _. none)

      two : Path → Action → Option X
      two p x = at_sides p x (λ _. none) (λ _. q)

      one_left : (p : Path) (x : Action) (r : X) → one p x ≡ some r → (p ≡ []) × (x ≡ press left)
      one_left [] (give ls) r h = no_some h
      one_left [] (press continue) r h = no_some h
      one_left [] (press left) r h = (refl, refl)
      one_left [] (press right) r h = no_some h
      one_left (m ∷ p) x r h = no_some h

      two_right : (p : Path) (x : Action) (r : X) → two p x ≡ some r → (p ≡ []) × (x ≡ press right)
      two_right [] (give ls) r h = no_some h
      two_right [] (press continue) r h = no_some h
      two_right [] (press left) r h = no_some h
      two_right [] (press right) r h = (refl, refl)
      two_right (m ∷ p) x r h = no_some h

      apart : (p : Path) (x : Action) (r z : X) → one p x ≡ some r → two p x ≡ some z → ⊥
      apart [] (give ls) r y h e = no_some h
      apart [] (press continue) r y h e = no_some h
      apart [] (press left) r y h e = no_some e
      apart [] (press right) r y h e = no_some h
      apart (m ∷ p) x r y h e = no_some h

      agree : (p : Path) (x : Action) → or_else (one p x) (two p x) ≡ at_sides p x (λ _. o) (λ _. q)
      agree [] (give ls) = refl
      agree [] (press continue) = refl
      agree [] (press left) = else_none o
      agree [] (press right) = refl
      agree (m ∷ p) x = refl

  -- 44: A's entries, then Continue where A has a value; then A does not take it
  pub next_lights : {es : List Entry} {f : Path → Action → Option X} (g : Val → Option X) (F : Val → Bool) (o : Option Val)
      → Lights es f → ((v : Val) → Open (F v) (g v)) → ((v : Val) → o ≡ some v → f [] (press continue) ≡ none)
      → Lights (es ++ continue_if o F) (λ p x. at_continue p x o g (λ _. f p x))
  unfolding continue_if at_continue or_else
  next_lights {f = f} g F none l k n = same_light (join_lights l none_lights (λ p x r q h e. no_some e)) agree
    where
      agree : (p : Path) (x : Action) → or_else (f p x) none ≡ at_continue p x none g (λ _. f p x)
      agree [] (give ls) = else_none (f [] (give ls))
      agree [] (press continue) = else_none (f [] (press continue))
      agree [] (press left) = else_none (f [] (press left))
      agree [] (press right) = else_none (f [] (press right))
      agree (m ∷ p) x = else_none (f (m ∷ p) x)
  next_lights {f = f} g F (some v) l k n = same_light (join_lights l (lit_lights continue two (k v) refl two_continue) apart) agree
    where
      two : Path → Action → Option X
      two p x = at_continue p x (some v) g (λ _. none)

      two_continue : (p : Path) (x : Action) (r : X) → two p x ≡ some r → (p ≡ []) × (x ≡ press continue)
      two_continue [] (give ls) r h = no_some h
      two_continue [] (press continue) r h = (refl, refl)
      two_continue [] (press left) r h = no_some h
      two_continue [] (press right) r h = no_some h
      two_continue (m ∷ p) x r h = no_some h

      apart : (p : Path) (x : Action) (r z : X) → f p x ≡ some r → two p x ≡ some z → ⊥
      apart p x r y h e = let (a, b) = two_continue p x _ e in no_some (sym (n v refl) ∙ (rw (a, b) at h))

      agree : (p : Path) (x : Action) → or_else (f p x) (two p x) ≡ at_continue p x (some v) g (λ _. f p x)
      agree [] (give ls) = else_none (f [] (give ls))
      agree [] (press continue) = let e = n v refl in rw e
      agree [] (press left) = else_none (f [] (press left))
      agree [] (press right) = else_none (f [] (press right))
      agree (m ∷ p) x = else_none (f (m ∷ p) x)

-- a task around another shows its entries and takes what it takes
pub map_lights : {A C : Type 0} {es : List Entry} {f : Path → Action → Option (Taken A)} (K : A → C) → Lights es f → Lights es (λ p x. map_task K (f p x))
unfolding map_task
map_lights {A} {C} {es} {f} K l = record { taken = λ d c. takes d c; covered = λ p x h. let (r, e) = before_map (f p x) h in l.covered p x e; once = λ d e c b. l.once d e c b }
  where
    before_map : (o : Option (Taken A)) {r : Taken C} → map_task K o ≡ some r → (q : Taken A) × (o ≡ some q)
    before_map none h = no_some h
    before_map (some q) h = (q, refl)

    takes : {i : ℕ} {e : Entry} {p : Path} {x : Action} → At es i e → Covers e p x → (r : Taken C) × (map_task K (f p x) ≡ some r)
    takes d c = let (r, h) = l.taken d c in ((K r.0, r.1, r.2), rw h)

pub map_none : {A C : Type 0} (K : A → C) {o : Option (Taken A)} → o ≡ none → map_task K o ≡ none
unfolding map_task
map_none K e = rw e

-- a 50 that is open shows the entries of its task, and takes what that takes
pub gate_lights : {A : Type 0} {es : List Entry} {f : Path → Action → Option (Taken A)} (r k : ℕ) (b : Bool) → Lights es f → Lights (entries_if b es) (λ p x. cond b (pass_gate r k (f p x)) none)
unfolding pass_gate entries_if
gate_lights r k false l = none_lights
gate_lights {A} {es} {f} r k true l = record { taken = λ d c. takes d c; covered = λ p x h. let (q, e) = before_gate (f p x) h in l.covered p x e; once = λ d e c b. l.once d e c b }
  where
    before_gate : (o : Option (Taken A)) {q : Taken (GateT A)} → pass_gate r k o ≡ some q → (q : Taken A) × (o ≡ some q)
    before_gate none h = no_some h
    before_gate (some q) h = (q, refl)

    takes : {i : ℕ} {e : Entry} {p : Path} {x : Action} → At es i e → Covers e p x → (q : Taken (GateT A)) × (pass_gate r k (f p x) ≡ some q)
    takes d c = let (q, h) = l.taken d c in (_, ap (pass_gate r k) h)
