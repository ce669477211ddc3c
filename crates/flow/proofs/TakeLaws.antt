-- `take`, each way out. Rests on OpenLaws, StartLaws and the contracts of handle and normalise.
use mathlib.Core.Path.{◌≡◌, refl, sym, ap, subst, ◌∙◌}
use mathlib.Core.Bool.{true, false}
use mathlib.Core.Option.{Option, none, some}
use mathlib.Core.List.{List, []}
use Prim.Native.Nat.{ℕ, ◌*◌, ◌-◌}
use native.Mathlib.Omega.{arith}
use borrow.Author.Tests.{ne_eqb}
use lib.IntN.{ℤ}
use lib.ListN.{length, take}
use Rattle.decimal.specs.Path.{Path}
use Rattle.tophat.specs.Syntax.{Code, TaskOf, Store}
use Rattle.tophat.specs.Typing.{v_nil}
use Rattle.tophat.specs.Handling.{Action}
use Rattle.tophat.proofs.Basics.{All, all_some}
use Rattle.tophat.specs.Roles.{verdict}
use Rattle.tophat.proofs.ComputeHandling.{Taken}
use Rattle.tophat.proofs.ComputeHandling as compute
use Rattle.tophat.proofs.NormalisingSound.{normalise_sound}
use Rattle.tophat.proofs.HandlingSound.{GoodHandling, handles_sound}
use Rattle.std.specs.Prelude.{Option as Maybe, Some, None, Result, Ok, Err}
use Rattle.rows.specs.declared.ground.Ground.{Ground}
use Rattle.rows.specs.declared.ground.Ground.TheVariants.{EventNotRead, NotHandled}
use Rattle.rows.specs.GroundNumbers.{number_of_ground}
use Rattle.rows.proofs.GroundsTold.{some_number}
use Rattle.call_definitions.specs.Memory.{refusal}
use Rattle.state.specs.Layout.{state_words}
use Rattle.state.specs.Lent.{lent_of, state_size}
use Rattle.state.specs.Ensured.{Handled, HandleOk, NormaliseOk}
use Rattle.state.proofs.Encode.{writing_ran}
use Rattle.handle.specs.Events.{event_path, event_action}
use Rattle.handle.specs.declared.Event.{Event}
use Rattle.flow.specs.declared.open.Rest.{Rest}
use Rattle.flow.specs.declared.open.Rest.TheVariants.{Task, Failed}
use Rattle.formats.specs.Touches.{event_of}
use Rattle.call_definitions.specs.Calls.{Opened, refused_by, rest_of, settled, handled, handle_read, handle_in, handle_call, opened}
use Rattle.call_definitions.specs.Touches.{Bounded}
use Rattle.flow.specs.Opens.{Ready, Opens, OpenOk}
use Rattle.flow.specs.Starts.{strides_of, Answered}
use Rattle.flow.specs.Reads.{event_said}
use Rattle.flow.specs.Takes.{TakeOk}
use Rattle.flow.proofs.SiteLaws.{sits, around, moves_are, copied_out, writes_room, ready_writing}
use Rattle.flow.proofs.OpenLaws.{opened_ready, opened_failed}
use Rattle.flow.proofs.StartLaws.{refused_as, bounded_by}

module _ (rows ws : List ℤ) (own words : List ℕ) where
  -- grounds 20 to 23
  take_shut : (g : Ground) (x : Opened) → Opens rows ws own words (Err g) x → (o : Option (ℕ × Path × Action)) → Answered (handle_in rows ws o x) (Err g) ws × Bounded rows 0
  unfolding handle_in
  take_shut g (refused_by k) p o = refused_as rows ws g (ap (λ k. refusal k ws) (sym p))
  take_shut g (rest_of q) p o = absurd p

  pub take_refused : (e : Maybe Event) (g : Ground) → OpenOk rows ws true own words (Err g) → TakeOk rows ws e (Err g) ws
  take_refused e g p = take_shut g (opened rows ws true) p (event_said e)

  -- ground 8
  take_unread : (r : Rest) (x : Opened) → Opens rows ws own words (Ok r) x → Answered (handle_in rows ws none x) (Err EventNotRead) ws × Bounded rows 0
  unfolding handle_in handle_read
  take_unread r (refused_by g) p = absurd p
  take_unread r (rest_of q) p = refused_as rows ws EventNotRead refl

  pub take_8 : (r : Rest) → OpenOk rows ws true own words (Ok r) → TakeOk rows ws None (Err EventNotRead) ws
  take_8 r p = take_unread r (opened rows ws true) p

  -- ground 9: a last row that failed as a whole takes nothing
  take_none : (x : Opened) → Opens rows ws own words (Ok Failed) x → (q : ℕ × Path × Action) → Answered (handle_in rows ws (some q) x) (Err NotHandled) ws × Bounded rows 0
  unfolding handle_in handle_read handled compute.handle
  take_none (refused_by g) p q = absurd p
  take_none (rest_of v) p q = opened_failed (λ v. Answered (handle_read rows ws v (some q)) (Err NotHandled) ws × Bounded rows 0) (λ τ s. refused_as rows ws NotHandled refl) p

  module _ (e : Event) where
    abbrev q : ℕ × Path × Action
    q = (e.role, event_path e, event_action e)

    pub take_failed : OpenOk rows ws true own words (Ok Failed) → TakeOk rows ws (Some e) (Err NotHandled) ws
    take_failed p = take_none (opened rows ws true) p q

    module _ (n : ℕ) (w₁ env : List ℕ) (b : ℕ) (k : HandleOk own words w₁ (n - 1) env 0 e.role (event_path e) (event_action e) b) where
      module _ {c : Code} {t : TaskOf c} {s : Store} (y : Ready rows ws own words n c t s) where
        handled_as : Handled own words w₁ (n - 1) env 0 c q.0 b (compute.handle c [] s t q.1 q.2)
        handled_as = let v = ready_writing y in k c (sits y.site) y.cells [] y.type s [] t y.writes.typed (around y.site v.stores y.writes.stored) v.holds

        -- grounds 9, 30 and 31: what the rows of kind 50 passed say
        by_no : (d : Option (Taken (TaskOf c))) → Handled own words w₁ (n - 1) env 0 c q.0 b d → (g : Ground) → b ≡ number_of_ground g → Answered (handled rows ws c q.0 d) (Err g) ws × Bounded rows 0
        unfolding handled
        by_no none h g z = refused_as rows ws g (ap (λ k. refusal k ws) (sym h.0 ∙ z))
        by_no (some d) h g z =
            let v : verdict q.0 d.2 ≡ number_of_ground g = sym h.0 ∙ z in
            let l = some_number g in
            rw (ne_eqb (verdict q.0 d.2) 0 (λ x. omega (arith, x, v, l))) (refused_as rows ws g (ap (λ k. refusal k ws) v))

        by_0 : (w₂ env₂ : List ℕ) (j : ℕ) (out : List ℤ) → NormaliseOk own w₁ w₂ (n - 1) env₂ 0 j → length w₂ ≡ state_size → out ≡ lent_of n (take (n * state_words) w₂)
            → (d : Option (Taken (TaskOf c))) → All (GoodHandling y.cells [] y.type c [] s t q.1 q.2) d → Handled own words w₁ (n - 1) env 0 c q.0 b d → b ≡ 0 → Answered (handled rows ws c q.0 d) (Ok j) out × Bounded rows j
        unfolding handled settled
        by_0 w₂ env₂ j out nm l o none g h a = let m = h.0 in absurd (omega (arith, m, a))
        by_0 w₂ env₂ j out nm l o (some d) (all_some g) h a =
            let v = writing_ran (ready_writing y) h.1 in
            let u = nm c (sits y.site) y.cells [] y.type d.1 [] d.0 g.task (around y.site v.stores g.store) v.holds in
            let m = normalise_sound c [] d.1 d.0 g.task v_nil g.store in
            let z : verdict q.0 d.2 ≡ 0 = sym h.0 ∙ a in
            rw z ((refl, u.1, o ∙ copied_out y.site m.task m.store (writing_ran v u.0) l), bounded_by rows m.derived (moves_are y.site) u.1)

      in_no : (x : Opened) → Opens rows ws own words (Ok (Task n)) x → (g : Ground) → b ≡ number_of_ground g → Answered (handle_in rows ws (some q) x) (Err g) ws × Bounded rows 0
      unfolding handle_in handle_read
      in_no (refused_by k) p g a = absurd p
      in_no (rest_of v) p g a =
          opened_ready (λ v. Answered (handled rows ws v.code q.0 (compute.handle v.code [] v.store v.task q.1 q.2)) (Err g) ws × Bounded rows 0) (λ c t s y. by_no y _ (handled_as y) g a) p

      -- grounds 9, 30 and 31
      pub take_no : OpenOk rows ws true own words (Ok (Task n)) → (g : Ground) → b ≡ number_of_ground g → TakeOk rows ws (Some e) (Err g) ws
      take_no p g a = in_no (opened rows ws true) p g a

      module _ (w₂ env₂ : List ℕ) (j : ℕ) (out : List ℤ) (nm : NormaliseOk own w₁ w₂ (n - 1) env₂ 0 j) (l : length w₂ ≡ state_size) (ou : out ≡ lent_of n (take (n * state_words) w₂)) where
        in_0 : (x : Opened) → Opens rows ws own words (Ok (Task n)) x → b ≡ 0 → Answered (handle_in rows ws (some q) x) (Ok j) out × Bounded rows j
        unfolding handle_in handle_read
        in_0 (refused_by g) p a = absurd p
        in_0 (rest_of v) p a =
            opened_ready (λ v. Answered (handled rows ws v.code q.0 (compute.handle v.code [] v.store v.task q.1 q.2)) (Ok j) out × Bounded rows j)
            (λ c t s y. by_0 y w₂ env₂ j out nm l ou _ (handles_sound c [] s t q.1 q.2 y.writes.typed v_nil y.writes.stored) (handled_as y) a) p

        pub take_0 : OpenOk rows ws true own words (Ok (Task n)) → b ≡ 0 → TakeOk rows ws (Some e) (Ok j) out
        take_0 p a = in_0 (opened rows ws true) p a

-- the memory of a task that is opened is of its size
pub opened_room : (rows ws : List ℤ) (own words : List ℕ) (n : ℕ) → OpenOk rows ws true own words (Ok (Task n)) → length ws ≡ n * state_words
opened_room rows ws own words n h = by (opened rows ws true) h
  where
    by : (o : Opened) → Opens rows ws own words (Ok (Task n)) o → length ws ≡ n * state_words
    by (refused_by g) x = absurd x
    by (rest_of z) x = opened_ready (λ z. length ws ≡ n * state_words) (λ c t s y. writes_room y.site y.writes) x

-- handle: its event's bytes read, then taken
pub take_handles : (rows ws : List ℤ) (event : List ℕ) (e : Maybe Event) (r : Result ℕ Ground) (out : List ℤ) → event_said e ≡ event_of event → TakeOk rows ws e r out → Answered (handle_call rows ws event) r out × Bounded rows (strides_of r)
unfolding handle_call
take_handles rows ws event e r out h k = subst (λ o. Answered (handle_in rows ws o (opened rows ws true)) r out × Bounded rows (strides_of r)) h k
