-- What calls in `entries` ask, what its tests tell of a row's kind, and whom a row of kind 50 is shut to. Rests on crate state's Calls, and on Marking.
use mathlib.Core.Path.{◌≡◌, refl, sym, ap, ◌∙◌, subst}
use mathlib.Core.Bool.{Bool, true, false, not, ◌&&◌}
use mathlib.Core.Logic.{⊎_elim}
use mathlib.Core.List.{List}
use Prim.Native.Nat.{ℕ, zero, suc, ◌+◌, ◌-◌, ◌*◌, ◌<◌, ◌≤◌}
use native.Mathlib.Decide.{ℕ_discrete}
use native.Mathlib.Nat.{eq-or-lt_of_le}
use native.Mathlib.Omega.{arith}
use borrow.Rule.Slice.PartMut.{put_mid}
use lib.Dec.{eqb, ltb}
use lib.ListN.{length}
use borrow.Author.Tests.{eq-eqb, ne_eqb, lt-ltb}
use Rattle.decimal.specs.Path.{Path, path_of}
use Rattle.tophat.specs.Roles.{Who, opens}
use Rattle.tophat.proofs.Basics.{apart}
use Rattle.rows.specs.Kinds.{task_k, and_k, or_k, then_k, next_k, xor_k, number_of, gate_k}
use Rattle.rows.specs.Rows.{op_a, op_b, FromKind, UpToKind, OfKind, word}
use Rattle.rows.specs.Enclosing.{max_binders}
use Rattle.state.specs.Layout.{at}
use Rattle.state.specs.Ensured.{Fine}
use Rattle.state.proofs.Calls.{fine_at}
use Rattle.running.specs.Hands.{HandsOn, Under, Unhanded}
use Rattle.entries.specs.Listing.{AtPath, EntriesOk, who_of, ShutOk}
use Rattle.entries.proofs.Fronts.{tail_of, After}
use Rattle.entries.proofs.Marking.{most_unit, at_first, at_second}
use Rattle.entries.proofs.Arms.{entries_both, entries_hands, entries_open, entries_shut}

-- a call at a lower row
pub call_at : {rs : List ℕ} {i d t n u : ℕ} → (i ≡ t) × (Fine rs i d × AtPath n u) → (a d₁ m v : ℕ) → a < i → d₁ ≤ max_binders → AtPath m v → (a < t) × (Fine rs a d₁ × AtPath m v)
call_at f a d₁ m v h r p = (let e = f.0 in omega arith, (fine_at f.1.0 a d₁ (omega arith) r, p))

-- past 42 and before 46, and past 47
pub none_mid : {k : ℕ} → number_of (task_k then_k) ≤ k → (k ≡ number_of (task_k then_k) → ⊥) → (k ≡ number_of (task_k next_k) → ⊥) → k ≤ number_of (task_k next_k) → ⊥
none_mid h n m g = ⊎_elim (λ e. n (sym e)) (λ l. m (omega arith)) (eq-or-lt_of_le h)

pub none_high : {k : ℕ} → number_of (task_k xor_k) ≤ k → (k ≡ number_of (task_k xor_k) → ⊥) → k ≤ number_of (task_k xor_k) → ⊥
none_high h n g = n (omega arith)

-- 46 and 47, as the code has the paths of the parts
pub entries_marked : (who : Who) (rs ws : List ℕ) (i : ℕ) (env : List ℕ) (d n u : ℕ) (list : List ℕ) (a b : ℕ) {l₁ l₂ : List ℕ} {k m j r : ℕ} → AtPath n u → (u ≡ most_unit → ⊥) → Unhanded rs ws i → After list l₁ k m j r
    → FromKind rs i (task_k and_k) → UpToKind rs i (task_k or_k) → a ≡ op_a rs i → b ≡ op_b rs i → EntriesOk who rs ws a env d (path_of (n + u)) list l₁ k → EntriesOk who rs ws b env d (path_of (n + 2 * u)) (tail_of j l₁) l₂ m
    → EntriesOk who rs ws i env d (path_of n) list (put_mid j (length l₁ - j) l₁ l₂) r
entries_marked who rs ws i env d n u list a b {l₁} {l₂} {k} {m} {j} {r} p f z e lo hi ea eb h g =
    entries_both who rs ws i env d (path_of n) list z e a b lo hi ea eb
    (subst (λ p. EntriesOk who rs ws a env d p list l₁ k) (sym (at_first p f).0) h)
    (subst (λ p. EntriesOk who rs ws b env d p (tail_of j l₁) l₂ m) (sym (at_second p f).0) g)

-- ---- rows of kind 50: shut, way by way

module _ (rs ws : List ℕ) (i n : ℕ) where
  pub shut_other : (OfKind rs i (task_k gate_k) → ⊥) → ShutOk rs ws i n false
  shut_other o = record { other = λ _. refl; gate = λ q. absurd (o q) }

  pub shut_anyone : n ≡ 0 → ShutOk rs ws i n false
  unfolding who_of opens
  shut_anyone e = record { other = λ _. refl; gate = λ q. sym (ap (λ n. not (opens (who_of n) (op_a rs i, at ws i 2))) e) }

  -- by a role
  module _ (q : OfKind rs i (task_k gate_k)) (o : n ≡ 0 → ⊥) where
    role_opens : opens (who_of n) (op_a rs i, at ws i 2) ≡ eqb n (op_a rs i) && ltb 0 (at ws i 2)
    unfolding who_of opens
    role_opens = by n o
      where
        by : (n : ℕ) → (n ≡ 0 → ⊥) → opens (who_of n) (op_a rs i, at ws i 2) ≡ eqb n (op_a rs i) && ltb 0 (at ws i 2)
        by zero o = absurd (o refl)
        by (suc n) o = refl

    pub shut_role : (op_a rs i ≡ n → ⊥) → ShutOk rs ws i n true
    shut_role x = record { other = λ o. absurd (o q); gate = λ _. sym (ap not role_opens ∙ (let e = ne_eqb n (op_a rs i) (λ z. x (sym z)) in rw e)) }

    pub shut_spent : (k : ℕ) → op_a rs i ≡ n → k ≡ at ws i 2 → ShutOk rs ws i n (eqb k 0)
    shut_spent k e h = record { other = λ o. absurd (o q); gate = λ _. ap (λ k. eqb k 0) h ∙ by (at ws i 2) ∙ sym (ap not role_opens ∙ (let z = eq-eqb n (op_a rs i) (sym e) in rw z)) }
      where
        by : (k : ℕ) → eqb k 0 ≡ not (ltb 0 k)
        by zero = refl
        by (suc k) = let e = ne_eqb (suc k) 0 (λ z. omega arith) in let f = lt-ltb 0 (suc k) (omega arith) in rw (e, f)

-- ---- a row that hands on, by whether it is shut

module _ (n : ℕ) (rs ws : List ℕ) (i : ℕ) (env : List ℕ) (d : ℕ) (p : Path) (list : List ℕ) (r : Bool) (f : ShutOk rs ws i n r) where
  -- what is told of a 50
  told : {x : Bool} → r ≡ not x → OfKind rs i (task_k gate_k) → opens (who_of n) (op_a rs i, at ws i 2) ≡ x
  told {x} e q = by (opens (who_of n) (op_a rs i, at ws i 2)) x (sym (f.gate q) ∙ e)
    where
      by : (a b : Bool) → not a ≡ not b → a ≡ b
      by true true e = refl
      by true false e = apart e refl
      by false true e = apart refl e
      by false false e = refl

  pub entries_kept : r ≡ true → EntriesOk (who_of n) rs ws i env d p list list 0
  entries_kept e = by (ℕ_discrete (word rs i 0) (number_of (task_k gate_k)))
    where
      by : Dec (OfKind rs i (task_k gate_k)) → EntriesOk (who_of n) rs ws i env d p list list 0
      by (yes q) = entries_shut (who_of n) rs ws i env d p list q (told e q)
      by (no o) = apart e (f.other o)

  pub entries_part : r ≡ false → {k a : ℕ} → HandsOn (word rs i 0) (at ws i 0) k → a ≡ word rs i k → (env₁ : List ℕ) (d₁ : ℕ) → Under ws i (word rs i 0) env env₁ d d₁ → (l₁ : List ℕ) (m : ℕ)
      → EntriesOk (who_of n) rs ws a env₁ d₁ p list l₁ m → EntriesOk (who_of n) rs ws i env d p list l₁ m
  entries_part e h ea env₁ d₁ u l₁ m g = by (ℕ_discrete (word rs i 0) (number_of (task_k gate_k)))
    where
      by : Dec (OfKind rs i (task_k gate_k)) → EntriesOk (who_of n) rs ws i env d p list l₁ m
      by (yes q) = entries_open (who_of n) rs ws i env d p list h ea env₁ d₁ u l₁ m g q (told e q)
      by (no o) = entries_hands (who_of n) rs ws i env d p list h ea env₁ d₁ u l₁ m g o
