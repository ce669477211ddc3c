-- Two tasks that go together, one of (a, b), c and one of a, (b, c) with its cells renamed, in stores that agree: they have one value and
-- one failing flag, the entries shown to anyone are those of the one with their paths moved, touches that go together are taken by both or by neither, past the
-- same rows of kind 50, and
-- both evaluate, normalise and leave the words alike, in as many strides, so that what they come to goes together. The types are one. Rests
-- on the calculus' Regrouping, RegroupingTouches and Renaming, which it composes.
use mathlib.Core.Path.{◌≡◌, refl, sym, ap, subst, ◌∙◌}
use mathlib.Core.Option.{Option, none, some}
use mathlib.Core.List.{List, []}
use Prim.Native.Nat.{ℕ, ◌<◌}
use lib.IntN.{ℤ}
use lib.ListN.{length, get_or}
use Rattle.decimal.specs.Path.{Path}
use Rattle.tophat.specs.Syntax.{unit, Code, TaskOf, Store}
use Rattle.tophat.specs.Typing.{CodeType, type_of}
use Rattle.tophat.specs.Normalising.{value}
use Rattle.tophat.specs.Roles.{Who}
use Rattle.tophat.specs.Handling.{Action}
use Rattle.tophat.specs.Redrawn.{turned, path_in, moved}
use Rattle.tophat.specs.Renamed.{renamed, renamed_task, CellsIn, Agrees, SameTypes}
use Rattle.tophat.proofs.ComputeEvaluation.{overflows_task}
use Rattle.tophat.proofs.ComputeNormalising.{failing, stride, normalise, settle}
use Rattle.tophat.proofs.ComputeHandling.{Taken, map_task, handle}
use Rattle.tophat.proofs.ComputeEntries.{entries}
use Rattle.tophat.proofs.Leaves.{type_of_lem}
use Rattle.tophat.proofs.TypingAgrees.{one_task_type}
use Rattle.tophat.proofs.NormalisingSound.{GoodNormal}
use Rattle.tophat.proofs.Bound.{normal_rest}
use Rattle.tophat.proofs.StrideMaps.{on_task}
use Rattle.tophat.proofs.Regrouping.{value_turned, failing_turned, overflows_turned, stride_turned, normalise_turned, settle_turned, code_turned}
use Rattle.tophat.proofs.RegroupingTouches.{handle_turned, entries_turned}
use Rattle.tophat.proofs.Renaming.{LikeWith, overflows_task_like}
use Rattle.tophat.proofs.RenamingSteps.{value_like, failing_like, stride_like, normalise_like, settle_like}
use Rattle.tophat.proofs.RenamingTouches.{LikeOption, like_none, like_some, handle_like, entries_like}
use Rattle.tophat.proofs.RenamingTyped.{same_types, code_typed_like}
use Rattle.state.proofs.OneState.{typed_at, types_length}
use Rattle.call_definitions.specs.Memory.{state_of}
use Rattle.call_definitions.specs.States.{task_state}
use Rattle.call_definitions.specs.Answers.{as_task}
use Rattle.call_definitions.proofs.Opening.{first_typed}
use Rattle.mirror.specs.Regrouped.{Flagged, Regroups, code_one, code_other, Corresponds, tasks, Stand}

-- ---- answers of a turned task are answers of the task

module _ {A B C : Type 0} {π : ℕ → ℕ} {P : ℕ → Type 0} (f : B → C) (h : A → B) where
  with_map : {X : Type 0} (r : A × Store × X) {q : B × Store × X} {r₁ : C × Store × X}
      → q ≡ on_task h r → LikeWith π P f q r₁ → LikeWith π P (λ t. f (h t)) r r₁
  with_map r {r₁ = r₁} e l =
      let m = subst (λ q. LikeWith π P f q r₁) e l in
      record { made = m.made; store = m.store; third = m.third }

  map_back : (o : Option (Taken A)) {o₁ : Option (Taken C)} → LikeOption π P f (map_task h o) o₁ → LikeOption π P (λ t. f (h t)) o o₁
  unfolding map_task
  map_back none like_none = like_none
  map_back (some r) (like_some k) = like_some (record { made = k.made; store = k.store; third = k.third })

  option_map : (o : Option (Taken A)) {q : Option (Taken B)} {o₁ : Option (Taken C)}
      → q ≡ map_task h o → LikeOption π P f q o₁ → LikeOption π P (λ t. f (h t)) o o₁
  option_map o {o₁ = o₁} e l = map_back o (subst (λ q. LikeOption π P f q o₁) e l)

module _ {rows rows₁ : List ℤ} (g : Regroups rows rows₁) where
  -- the cells that have a place in the other
  abbrev pub CellSet : ℕ → Type 0
  CellSet = Flagged g.shared

  -- the code of the other
  abbrev pub code_there : Code
  code_there = renamed g.place (code_other g)

  -- a task of the one as a task of the other
  abbrev pub image : TaskOf (code_one g) → TaskOf code_there
  image t = renamed_task g.place (code_other g) (turned t)

  -- stores that agree
  abbrev Stores : Store → Store → Type 0
  Stores s s₁ = Agrees g.place CellSet s s₁

  -- its cells are those of the one
  pub named_other : CellsIn CellSet (code_other g)
  named_other = let w = g.named in (w.0.0, (w.0.1, w.1))

  module _ {s s₁ : Store} (k : Stores s s₁) where
    pub overflows_same : overflows_task code_there [] s₁ ≡ overflows_task (code_one g) [] s
    overflows_same = overflows_task_like g.apart (code_other g) named_other [] s s₁ k ∙ overflows_turned g.a g.b g.c [] s

    pub settle_same : LikeWith g.place CellSet image (settle (code_one g) [] s) (settle code_there [] s₁)
    settle_same = with_map (renamed_task g.place (code_other g)) turned (settle (code_one g) [] s)
        (settle_turned g.a g.b g.c [] s) (settle_like g.apart (code_other g) named_other [] s s₁ k)

    module _ (t : TaskOf (code_one g)) where
      pub value_same : value code_there (image t) s₁ ≡ value (code_one g) t s
      value_same = value_like (code_other g) named_other (turned t) k ∙ value_turned g.a g.b g.c t s

      pub failing_same : failing code_there [] s₁ (image t) ≡ failing (code_one g) [] s t
      failing_same = failing_like g.apart (code_other g) named_other [] s s₁ (turned t) k ∙ failing_turned g.a g.b g.c [] s t

      pub entries_moved : (w : Who) → entries w code_there [] s₁ (image t) ≡ moved (path_in t) (entries w (code_one g) [] s t)
      entries_moved w = entries_like g.apart w (code_other g) named_other [] s s₁ (turned t) k ∙ entries_turned g.a g.b g.c [] w s t

      pub handle_same : (p : Path) (x : Action)
          → LikeOption g.place CellSet image (handle (code_one g) [] s t p x) (handle code_there [] s₁ (image t) (path_in t p) x)
      handle_same p x = option_map (renamed_task g.place (code_other g)) turned (handle (code_one g) [] s t p x)
          (handle_turned g.a g.b g.c [] s t p x) (handle_like g.apart (code_other g) named_other [] s s₁ (turned t) (path_in t p) x k)

      pub stride_same : LikeWith g.place CellSet image (stride (code_one g) [] s t) (stride code_there [] s₁ (image t))
      stride_same = with_map (renamed_task g.place (code_other g)) turned (stride (code_one g) [] s t)
          (stride_turned g.a g.b g.c [] s t) (stride_like g.apart (code_other g) named_other [] s s₁ (turned t) k)

      pub normalise_same : LikeWith g.place CellSet image (normalise (code_one g) [] s t) (normalise code_there [] s₁ (image t))
      normalise_same = with_map (renamed_task g.place (code_other g)) turned (normalise (code_one g) [] s t)
          (normalise_turned g.a g.b g.c [] s t) (normalise_like g.apart (code_other g) named_other [] s s₁ (turned t) k)

  -- ---- what both normalise to goes together

  pub normal_stand : {s s₁ : Store} {t : TaskOf (code_one g)} {t₁ : TaskOf code_there}
      {r : TaskOf (code_one g) × Store × ℕ} {r₁ : TaskOf code_there × Store × ℕ}
      → GoodNormal g.cells [] (code_one g) [] s t g.type r → GoodNormal g.cells₁ [] code_there [] s₁ t₁ g.type₁ r₁
      → LikeWith g.place CellSet image r r₁ → Stand g (state_of rows (code_one g) r.0 r.1) (state_of rows₁ code_there r₁.0 r₁.1)
  normal_stand {r = r} {r₁ = r₁} k k₁ l = record {
    rest = record {
      state = task_state (code_one g) r.0 r.1;
      writes = as_task (record { typed = k.task; stored = k.store; written = refl });
      still = normal_rest k.derived;
    };
    rest₁ = record {
      state = task_state code_there r₁.0 r₁.1;
      writes = as_task (record { typed = k₁.task; stored = k₁.store; written = refl });
      still = normal_rest k₁.derived;
    };
    path = path_in r.0;
    alike = subst (λ u. Corresponds g (task_state (code_one g) r.0 r.1) (task_state code_there u r₁.1) (path_in r.0))
        (sym l.made) (tasks l.store);
  }

  -- ---- types: the first contents are one, so the cells' types are, and so is the type of the last row

  pub type_there : (k : ℕ) → CellSet k → get_or g.cells₁ (g.place k) unit ≡ get_or g.cells k unit
  type_there k m =
      sym (type_of_lem (typed_at (first_typed g.flow₁) (g.place k))) ∙ ap type_of (g.firsts.content k m) ∙ type_of_lem (typed_at (first_typed g.flow) k)

  pub inside : (k : ℕ) → CellSet k → k < length g.cells
  inside k m = subst (λ n. k < n) (types_length (first_typed g.flow)) (g.firsts.inside k m)

  pub inside_there : (k : ℕ) → CellSet k → g.place k < length g.cells₁
  inside_there k m = subst (λ n. g.place k < n) (types_length (first_typed g.flow₁)) (g.firsts.inside₁ k m)

  pub cell_types : SameTypes g.place CellSet g.cells g.cells₁
  cell_types = same_types g.cells g.cells₁ type_there inside_there

  -- the other's code has the type of the one
  pub code_there_lem : CodeType g.cells [] (code_other g) g.type
  code_there_lem = code_turned g.a g.b g.c g.flow.flow.typed

  pub types_same : g.type₁ ≡ g.type
  types_same = one_task_type g.flow₁.flow.typed (code_typed_like cell_types code_there_lem named_other)
