-- Strides through a map of tasks: where one stride commutes with a map, so do the strides of a call, with their number; and a task
-- that is handled is mapped once for all maps around it. Rests on ComputeHandling; Regrouping and Mirroring use it.
use mathlib.Core.Path.{◌≡◌, refl}
use mathlib.Core.Bool.{Bool, true, false}
use mathlib.Core.Option.{Option, none, some}
use Prim.Native.Nat.{ℕ, zero, suc}
use Rattle.tophat.specs.Syntax.{Store}
use Rattle.tophat.proofs.ComputeNormalising.{unless_still, strides}
use Rattle.tophat.proofs.ComputeHandling.{Taken, map_task}

-- an answer with its task mapped
abbrev pub on_task : {X Y : Type 0} {B : Type 0} → (X → Y) → X × Store × B → Y × Store × B
on_task φ r = (φ r.0, r.1, r.2)

unless_map : {X Y : Type 0} (φ : X → Y) (m : Bool) (t : X) (s : Store) (k : X → Store → X × Store × ℕ) (l : Y → Store → Y × Store × ℕ)
    → l (φ t) s ≡ on_task φ (k t s) → unless_still m (φ t) s l ≡ on_task φ (unless_still m t s k)
unfolding unless_still
unless_map φ false t s k l e = refl
unless_map φ true t s k l e = rw e

pub strides_map : {X Y : Type 0} (φ : X → Y) (f : Store → X → X × Store × Bool) (g : Store → Y → Y × Store × Bool)
    → ((s : Store) (t : X) → g s (φ t) ≡ on_task φ (f s t)) → (n : ℕ) (s : Store) (t : X) → strides g n s (φ t) ≡ on_task φ (strides f n s t)
unfolding strides
strides_map φ f g h zero s t = refl
strides_map φ f g h (suc n) s t =
    let (t₁, s₁, m) = f s t in
    let e = h s t in
    rw e (unless_map φ m t₁ s₁ (λ t s. strides f n s t) (λ t s. strides g n s t) (strides_map φ f g h n s₁ t₁))

pub map_two : {A B C : Type 0} (f : A → B) (g : B → C) (o : Option (Taken A)) → map_task g (map_task f o) ≡ map_task (λ t. g (f t)) o
unfolding map_task
map_two f g none = refl
map_two f g (some r) = refl
