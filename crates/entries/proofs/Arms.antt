-- What each arm of `entries` ensures, from what the calls in it ensure: one law a form. Rests on the forms of rows that do not hand
-- on and on the view of those that do, on Fronts and on Texts.
use mathlib.Core.Path.{◌≡◌, sym, ap, ap₂, ◌∙◌, subst}
use mathlib.Core.Bool.{Bool, not, cond, true, false}
use mathlib.Core.Logic.{⊎_elim}
use mathlib.Core.List.{List, [], ◌∷◌, ◌++◌}
use Prim.Native.Nat.{ℕ, ◌+◌, ◌-◌, ◌≤◌}
use native.Mathlib.Omega.{arith}
use borrow.Rule.Slice.PartMut.{put_mid}
use lib.ListN.{length, length-append}
use Rattle.decimal.specs.Path.{Mark, first, second, Path, max_marks}
use Rattle.tophat.specs.Syntax.{Code, edit, enter, update, then, next, fail, and, or, xor, view, gate, if, let', TaskOf, Env, Store, gated}
use Rattle.tophat.specs.Typing.{k_gated}
use Rattle.tophat.specs.Roles.{Who, opens}
use Rattle.tophat.specs.Handling.{continue, left, right, giving, pressing, act_number}
use Rattle.tophat.specs.Showing.{Entry, marked, button_if, entries_if}
use Rattle.tophat.proofs.ComputeNormalising.{normalise, settle}
use Rattle.tophat.proofs.ComputeEntries.{entries}
use Rattle.tophat.proofs.Became.{touched_alike}
use Rattle.rows.specs.Kinds.{task_k, edit_k, then_k, next_k, and_k, or_k, xor_k, number_of, gate_k}
use Rattle.rows.specs.Rows.{word, op_a, op_b, OfKind, FromKind, UpToKind}
use Rattle.shape.specs.Shape.{kinds_of}
use Rattle.state.specs.Layout.{at}
use Rattle.state.proofs.Sites.{on_code}
use Rattle.running.specs.Hands.{HandsOn, Under, Unhanded}
use Rattle.state.specs.Holds.{Sits}
use Rattle.running.proofs.Handed.{gate_part, under_gate}
use Rattle.running.proofs.Hands.{inside, hands}
use Rattle.running.proofs.Handing.{sits_in, world_in}
use Rattle.running.proofs.Forms.{on_then_before, on_next_before, on_either, on_unpicked, on_no_if, on_no_let, on_both, on_no_gate}
use Rattle.normalising.specs.Trying.{TriedOk}
use Rattle.normalising.proofs.Asking.{two_kinds}
use Rattle.formats.specs.Lists.{no_kinds, numbers_entry, list_text, under, Fits}
use Rattle.entries.specs.Listing.{Lists, Wrote, ContentOk, GoesOnOk, EntriesOk, EntriesAt}
use Rattle.entries.proofs.Fronts.{tail_of, After, after_lists, lists_none}
use Rattle.entries.proofs.Texts.{button_text_lem, offer_text, text_after, under_mark, fit_left, fit_right, fit_inner, fit_full}

length_more : (p : Path) (m : Mark) → length p + 1 ≡ length (p ++ m ∷ [])
length_more p m = sym (length-append p (m ∷ []))

-- the bytes of a button that can be pressed
abbrev pub button_text : Path → Bool → ℕ → List ℕ
button_text p x n = cond x (numbers_entry p n no_kinds) []

module _ (who : Who) (rs ws : List ℕ) (i : ℕ) (env : List ℕ) (d : ℕ) (p : Path) (list : List ℕ) where
  -- what is shown of a task
  abbrev Told : List ℕ → ℕ → Env → Store → (c : Code) → TaskOf c → Type 0
  Told l₁ n ρ s c t = Fits (length p) (entries who c ρ s t) → Lists list l₁ n (list_text (under p (entries who c ρ s t)))

  abbrev Shows : Path → List ℕ → List ℕ → ℕ → ℕ → Type 0
  Shows q l l₁ n a = EntriesOk who rs ws a env d q l l₁ n

  -- ---- a row that hands on: its part's; of a 50, where it is open
  module _ {k a : ℕ} (h : HandsOn (word rs i 0) (at ws i 0) k) (e : a ≡ word rs i k) (env₁ : List ℕ) (d₁ : ℕ) (u : Under ws i (word rs i 0) env env₁ d d₁) (l₁ : List ℕ) (n : ℕ)
      (f : EntriesOk who rs ws a env₁ d₁ p list l₁ n) where
    pub entries_hands : (word rs i 0 ≡ number_of (task_k gate_k) → ⊥) → EntriesOk who rs ws i env d p list l₁ n
    entries_hands x c z Σ Γ τ s ρ t y w g m =
        let v = hands rs ws d i h c z t g in
        let o = v.inner y in
        let q = ap (entries who c ρ s) v.is ∙ (touched_alike (v.became x)).shows who s v.task in
        subst (λ es. Lists list l₁ n (list_text (under p es))) (sym q)
        (subst (λ a. EntriesOk who rs ws a env₁ d₁ p list l₁ n) e f v.part (sits_in v u) Σ o.types τ s (inside v.binder ρ) v.task o.typed (world_in v u y w) v.holds (subst (Fits (length p)) q m))

    pub entries_open : OfKind rs i (task_k gate_k) → opens who (op_a rs i, at ws i 2) ≡ true → EntriesOk who rs ws i env d p list l₁ n
    unfolding entries entries_if
    entries_open q o = on_code rs d i (task_k gate_k) (EntriesAt who rs ws i env d p list l₁ n) q by
      where
        below : EntriesOk who rs ws (op_b rs i) env d p list l₁ n
        below =
            let (x, y) = u.plain (under_gate q) in
            subst (λ a. EntriesOk who rs ws a env d p list l₁ n) (e ∙ ap (word rs i) (gate_part h q))
            (subst (λ d. EntriesOk who rs ws a env d p list l₁ n) x (subst (λ env. EntriesOk who rs ws a env d₁ p list l₁ n) y f))

        by : (r m : ℕ) (b : Code) → Sits rs d i (gate r m b) → EntriesAt who rs ws i env d p list l₁ n (gate r m b)
        by r m b z Σ Γ τ s ρ (gated k t) (k_gated l y) w g fit =
            let x = ap (λ x. entries_if x (entries who b ρ s t)) (sym (ap₂ (λ r k. opens who (r, k)) z.1 (g.0.words 2 (omega arith))) ∙ o) in
            subst (λ es. Lists list l₁ n (list_text (under p es))) (sym x) (below b z.3 Σ Γ τ s ρ t y w g.1 (subst (Fits (length p)) x fit))

  pub entries_shut : OfKind rs i (task_k gate_k) → opens who (op_a rs i, at ws i 2) ≡ false → EntriesOk who rs ws i env d p list list 0
  unfolding entries entries_if list_text under
  entries_shut q o = on_code rs d i (task_k gate_k) (EntriesAt who rs ws i env d p list list 0) q by
    where
      by : (r n : ℕ) (b : Code) → Sits rs d i (gate r n b) → EntriesAt who rs ws i env d p list list 0 (gate r n b)
      by r n b z Σ Γ τ s ρ (gated k u) y w g m =
          let x = sym (ap₂ (λ r k. opens who (r, k)) z.1 (g.0.words 2 (omega arith))) ∙ o in
          subst (λ x. Lists list list 0 (list_text (under p (entries_if x (entries who b ρ s u))))) (sym x) (lists_none list)

  -- ---- 40, 41 and 42
  pub entries_offer : (l₁ : List ℕ) (n r : ℕ) → ContentOk rs ws i r → Wrote list l₁ n (numbers_entry p (act_number giving) (kinds_of r)) → EntriesOk who rs ws i env d p list l₁ n
  entries_offer l₁ n r f k c z Σ Γ τ s ρ t y w g m =
      let o = f d c z env Σ Γ τ s ρ t y w g in
      subst (Lists list l₁ n) (ap (λ x. numbers_entry p (act_number giving) (kinds_of x)) o.1 ∙ sym (offer_text p o.0 o.2) ∙ ap (λ es. list_text (under p es)) (sym (o.3 who))) (λ h. k.counted)

  module _ (z : Unhanded rs ws i) where
    -- ---- 43: the left side's
    pub entries_then : (l₁ : List ℕ) (a n : ℕ) → OfKind rs i (task_k then_k) → a ≡ op_a rs i → Shows p list l₁ n a → EntriesOk who rs ws i env d p list l₁ n
    unfolding entries
    entries_then l₁ a n q e h c k Σ Γ τ s ρ t y w g =
        let f = subst (Shows p list l₁ n) e h in
        on_then_before rs ws d i Σ Γ (λ c t τ. Told l₁ n ρ s c t) z q (λ a b t σ υ k g y x m. f a k.1 Σ Γ σ s ρ t y w g.1 m) c k τ t y g

    -- ---- 44: the left side's, and Continue
    pub entries_next : (a : ℕ) (x : Bool) {l₁ l₂ : List ℕ} {n m j r : ℕ} → OfKind rs i (task_k next_k) → a ≡ op_a rs i → After list l₁ n m j r → Shows p list l₁ n a → GoesOnOk rs ws i env d x
        → Wrote (tail_of j l₁) l₂ m (button_text p x (act_number (pressing continue))) → EntriesOk who rs ws i env d p list (put_mid j (length l₁ - j) l₁ l₂) r
    unfolding entries
    entries_next a x {l₁} {l₂} {n} {m} {j} {r} q e af h go wr c k Σ Γ τ s ρ t y w g =
        let f = subst (Shows p list l₁ n) e h in
        on_next_before rs ws d i Σ Γ (λ c t τ. Told (put_mid j (length l₁ - j) l₁ l₂) r ρ s c t) z q
        (λ a b t σ υ k g y v fit.
        let o = go a b k Σ Γ σ υ s ρ t y v w g in
        subst (Lists list (put_mid j (length l₁ - j) l₁ l₂) r)
        (ap (λ bs. list_text (under p (entries who a ρ s t)) ++ bs) (sym (button_text_lem p x continue) ∙ ap (λ es. list_text (under p es)) o) ∙ sym (text_after p (entries who a ρ s t) _))
        (after_lists af (f a k.1 Σ Γ σ s ρ t y w g.1 (fit_left (length p) (entries who a ρ s t) _ fit)) (λ h. wr.counted)))
        c k τ t y g

    -- ---- 46 and 47: the left part's under the first mark, and the right part's under the second
    module _ {l₁ l₂ : List ℕ} {n m j r : ℕ} (af : After list l₁ n m j r) where
      both_listed : (es fs : List Entry) → (Fits (length (p ++ first ∷ [])) es → Lists list l₁ n (list_text (under (p ++ first ∷ []) es)))
          → (Fits (length (p ++ second ∷ [])) fs → Lists (tail_of j l₁) l₂ m (list_text (under (p ++ second ∷ []) fs))) → Fits (length p) (marked first es ++ marked second fs)
          → Lists list (put_mid j (length l₁ - j) l₁ l₂) r (list_text (under p (marked first es ++ marked second fs)))
      both_listed es fs f h k =
          subst (Lists list (put_mid j (length l₁ - j) l₁ l₂) r)
          (ap₂ (λ x y. list_text x ++ list_text y) (sym (under_mark p first es)) (sym (under_mark p second fs)) ∙ sym (text_after p (marked first es) (marked second fs)))
          (after_lists af
          (f (subst (λ k. Fits k es) (length_more p first) (fit_inner (length p) first es (fit_left (length p) (marked first es) (marked second fs) k))))
          (h (subst (λ k. Fits k fs) (length_more p second) (fit_inner (length p) second fs (fit_right (length p) (marked first es) (marked second fs) k)))))

      pub entries_both : (a b : ℕ) → FromKind rs i (task_k and_k) → UpToKind rs i (task_k or_k) → a ≡ op_a rs i → b ≡ op_b rs i → Shows (p ++ first ∷ []) list l₁ n a → Shows (p ++ second ∷ []) (tail_of j l₁) l₂ m b
          → EntriesOk who rs ws i env d p list (put_mid j (length l₁ - j) l₁ l₂) r
      unfolding entries
      entries_both a b lo hi ea eb h h₁ c k Σ Γ τ s ρ t y w g =
          let f = subst (Shows (p ++ first ∷ []) list l₁ n) ea h in
          let f₁ = subst (Shows (p ++ second ∷ []) (tail_of j l₁) l₂ m) eb h₁ in
          ⊎_elim
          (λ q. on_both rs ws d i Σ Γ (λ c t τ. Told (put_mid j (length l₁ - j) l₁ l₂) r ρ s c t) q
          (λ a b t u σ υ k g y x l. both_listed (entries who a ρ s t) (entries who b ρ s u) (f a k.1 Σ Γ σ s ρ t y w g.1) (f₁ b k.2 Σ Γ υ s ρ u x w g.2)) c k τ t y g)
          (λ q. on_either rs ws d i Σ Γ (λ c t τ. Told (put_mid j (length l₁ - j) l₁ l₂) r ρ s c t) z q
          (λ a b t u σ k g y x. both_listed (entries who a ρ s t) (entries who b ρ s u) (f a k.1 Σ Γ σ s ρ t y w g.1) (f₁ b k.2 Σ Γ σ s ρ u x w g.2)) c k τ t y g)
          (two_kinds (number_of (task_k and_k)) (word rs i 0) lo hi)

    -- no mark more: neither part shows an entry
    full_listed : (es fs : List Entry) → max_marks ≤ length p → Fits (length p) (marked first es ++ marked second fs) → Lists list list 0 (list_text (under p (marked first es ++ marked second fs)))
    unfolding list_text under
    full_listed es fs l k =
        subst (λ es. Lists list list 0 (list_text (under p es)))
        (sym (ap₂ ◌++◌ (fit_full (length p) first es l (fit_left (length p) (marked first es) (marked second fs) k)) (fit_full (length p) second fs l (fit_right (length p) (marked first es) (marked second fs) k))))
        (lists_none list)

    pub entries_full : FromKind rs i (task_k and_k) → UpToKind rs i (task_k or_k) → max_marks ≤ length p → EntriesOk who rs ws i env d p list list 0
    unfolding entries
    entries_full l r h c k Σ Γ τ s ρ t y w g = ⊎_elim
        (λ q. on_both rs ws d i Σ Γ (λ c t τ. Told list 0 ρ s c t) q (λ a b t u σ υ k g y x l. full_listed (entries who a ρ s t) (entries who b ρ s u) h) c k τ t y g)
        (λ q. on_either rs ws d i Σ Γ (λ c t τ. Told list 0 ρ s c t) z q (λ a b t u σ k g y x. full_listed (entries who a ρ s t) (entries who b ρ s u) h) c k τ t y g)
        (two_kinds (number_of (task_k and_k)) (word rs i 0) l r)

    -- ---- 48: Left and Right, each where that branch, settled, does not fail
    pub entries_choice : (a b : ℕ) (x y : Bool) {l₁ l₂ : List ℕ} {n m j r : ℕ} → OfKind rs i (task_k xor_k) → a ≡ op_a rs i → b ≡ op_b rs i → After list l₁ n m j r → TriedOk rs ws a env d x → TriedOk rs ws b env d y
        → Wrote list l₁ n (button_text p (not x) (act_number (pressing left))) → Wrote (tail_of j l₁) l₂ m (button_text p (not y) (act_number (pressing right)))
        → EntriesOk who rs ws i env d p list (put_mid j (length l₁ - j) l₁ l₂) r
    unfolding entries settle normalise
    entries_choice a b x₀ y₀ {l₁} {l₂} {n} {m} {j} {r} q ea eb af h h₁ wr wr₁ c k Σ Γ τ s ρ t y w g =
        let f = subst (λ a. TriedOk rs ws a env d x₀) ea h in
        let f₁ = subst (λ b. TriedOk rs ws b env d y₀) eb h₁ in
        on_unpicked rs ws d i Σ Γ (λ c t τ. Told (put_mid j (length l₁ - j) l₁ l₂) r ρ s c t) z q
        (λ a b σ k g y x fit.
        subst (Lists list (put_mid j (length l₁ - j) l₁ l₂) r)
        (ap₂ ◌++◌ (sym (button_text_lem p (not x₀) left)) (sym (button_text_lem p (not y₀) right))
        ∙ sym (text_after p (button_if (not x₀) left) (button_if (not y₀) right))
        ∙ ap₂ (λ u v. list_text (under p (button_if (not u) left ++ button_if (not v) right))) (f a k.1 Σ Γ σ s ρ y w g.1) (f₁ b k.2 Σ Γ σ s ρ x w g.2))
        (after_lists af (λ h. wr.counted) (λ h. wr₁.counted)))
        c k τ t y g

    -- ---- 45 and 49 show none, and no other kind is a task that does not hand on
    pub entries_none : (FromKind rs i (task_k edit_k) → UpToKind rs i (task_k next_k) → ⊥) → (FromKind rs i (task_k and_k) → UpToKind rs i (task_k xor_k) → ⊥) → EntriesOk who rs ws i env d p list list 0
    unfolding entries list_text under
    entries_none n o (edit e) k Σ Γ τ s ρ t y w g = absurd (let q = k.0 in n (omega arith) (omega arith))
    entries_none n o (enter υ) k Σ Γ τ s ρ t y w g = absurd (let q = k.0 in n (omega arith) (omega arith))
    entries_none n o (update m) k Σ Γ τ s ρ t y w g = absurd (let q = k.0 in n (omega arith) (omega arith))
    entries_none n o (then a b) k Σ Γ τ s ρ t y w g = absurd (let q = k.0 in n (omega arith) (omega arith))
    entries_none n o (next a b) k Σ Γ τ s ρ t y w g = absurd (let q = k.0 in n (omega arith) (omega arith))
    entries_none n o (fail υ) k Σ Γ τ s ρ t y w g = λ m. lists_none list
    entries_none n o (and a b) k Σ Γ τ s ρ t y w g = absurd (let q = k.0 in o (omega arith) (omega arith))
    entries_none n o (or a b) k Σ Γ τ s ρ t y w g = absurd (let q = k.0 in o (omega arith) (omega arith))
    entries_none n o (xor a b) k Σ Γ τ s ρ t y w g = absurd (let q = k.0 in o (omega arith) (omega arith))
    entries_none n o (view e) k Σ Γ τ s ρ t y w g = λ m. lists_none list
    entries_none n o (gate r m b) k Σ Γ τ s ρ t y w g = on_no_gate rs ws d i Σ Γ (λ c t τ. Told list 0 ρ s c t) z k.0 (gate r m b) k τ t y g
    entries_none n o (if e a b) k Σ Γ τ s ρ t y w g = on_no_if rs ws d i Σ Γ (λ c t τ. Told list 0 ρ s c t) z k.0 (if e a b) k τ t y g
    entries_none n o (let' e b) k Σ Γ τ s ρ t y w g = on_no_let rs ws d i Σ Γ (λ c t τ. Told list 0 ρ s c t) z k.0 (let' e b) k τ t y g
