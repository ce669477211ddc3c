-- What an accepted event does to the touches left (CR 6: "An accepted event uses one touch of each kind 50 row from the last row, itself
-- included, to the row that takes it; the touches left, 0 to C, are part of the state, C when the row is evaluated"): where rows stand in a task,
-- which of them are live, which one takes an event, and what the event uses (`UsesTouches`; proofs/TouchesUsed is the theorem). Rests on Handling.
-- Believed.
use Rattle.std.specs.Prelude.{◌≡◌, Bool, true, false, ◌&&◌, List, [], ◌∷◌, ◌++◌, ℕ, ◌-◌}
use Rattle.std.proofs.Math.Option.{some}
use Rattle.decimal.specs.Path.{first, second, Path}
use Rattle.tophat.specs.Syntax.{Ty, Exp, Code, edit, enter, update, then, next, fail, and, or, xor, view, gate, if, let', Val, Store}
use Rattle.tophat.specs.Syntax.{TaskOf, before, after, both, either, or_left, or_right, unpicked, picked_left, picked_right, gated, if_true, if_false, bound}
use Rattle.tophat.specs.Leaves.{Given}
use Rattle.tophat.specs.Normalising.{value}
use Rattle.tophat.specs.Roles.{Gate}
use Rattle.tophat.specs.Handling.{continue, left, right, Action, give, press}

-- ---- places

-- an operand that is a task
pub data Operand : Type 0 where
  in_a in_b in_c : Operand

unfoldable pub same_operand : Operand → Operand → Bool
same_operand in_a in_a = true
same_operand in_a in_b = false
same_operand in_a in_c = false
same_operand in_b in_a = false
same_operand in_b in_b = true
same_operand in_b in_c = false
same_operand in_c in_a = false
same_operand in_c in_b = false
same_operand in_c in_c = true

-- the place of a row: the operands that lead to it from the last row, which itself is at []
abbrev pub Place : Type 0
Place = List Operand

-- the row at q is on the way from the last row to the one at w, both included
unfoldable pub on_way : Place → Place → Bool
on_way [] w = true
on_way (o ∷ q) [] = false
on_way (o ∷ q) (i ∷ w) = same_operand o i && on_way q w

-- `Part c t m o d u`: operand o of the row is live in t, as the task u of d; events for it have the marks m in front
pub data Part : (c : Code) → TaskOf c → Path → Operand → (d : Code) → TaskOf d → Type 0 where
  of_then : {a b : Code} {t : TaskOf a} → Part (then a b) (before t) [] in_a a t
  of_then_after : {a b : Code} {v : Val} {u : TaskOf b} → Part (then a b) (after v u) [] in_b b u
  of_next : {a b : Code} {t : TaskOf a} → Part (next a b) (before t) [] in_a a t
  of_next_after : {a b : Code} {v : Val} {u : TaskOf b} → Part (next a b) (after v u) [] in_b b u
  of_and_first : {a b : Code} {t : TaskOf a} {u : TaskOf b} → Part (and a b) (both t u) (first ∷ []) in_a a t
  of_and_second : {a b : Code} {t : TaskOf a} {u : TaskOf b} → Part (and a b) (both t u) (second ∷ []) in_b b u
  of_or_first : {a b : Code} {t : TaskOf a} {u : TaskOf b} → Part (or a b) (either t u) (first ∷ []) in_a a t
  of_or_second : {a b : Code} {t : TaskOf a} {u : TaskOf b} → Part (or a b) (either t u) (second ∷ []) in_b b u
  of_or_left : {a b : Code} {t : TaskOf a} → Part (or a b) (or_left t) [] in_a a t
  of_or_right : {a b : Code} {u : TaskOf b} → Part (or a b) (or_right u) [] in_b b u
  of_xor_left : {a b : Code} {t : TaskOf a} → Part (xor a b) (picked_left t) [] in_a a t
  of_xor_right : {a b : Code} {u : TaskOf b} → Part (xor a b) (picked_right u) [] in_b b u
  of_gate : {r n k : ℕ} {b : Code} {u : TaskOf b} → Part (gate r n b) (gated k u) [] in_b b u
  of_if_true : {e : Exp} {a b : Code} {t : TaskOf a} → Part (if e a b) (if_true t) [] in_b a t
  of_if_false : {e : Exp} {a b : Code} {u : TaskOf b} → Part (if e a b) (if_false u) [] in_c b u
  of_let : {e : Exp} {b : Code} {v : Val} {u : TaskOf b} → Part (let' e b) (bound v u) [] in_b b u

-- `LiveGate c t q n k`: the row at q is of kind 50 with the operand C n, and live in t, with k touches left
pub data LiveGate : (c : Code) → TaskOf c → Place → ℕ → ℕ → Type 0 where
  live_here : {r n k : ℕ} {b : Code} {u : TaskOf b} → LiveGate (gate r n b) (gated k u) [] n k
  live_below : {c d : Code} {t : TaskOf c} {u : TaskOf d} {m : Path} {o : Operand} {q : Place} {n k : ℕ}
      → Part c t m o d u → LiveGate d u q n k → LiveGate c t (o ∷ q) n k

-- ---- the row that takes an event, and the rows of kind 50 on the way to it

-- `TakenAt c s t p x w`: the row at w is the one of t in s that takes the action x at the path p, if any does. 01: "A value, Continue, Left and
-- Right are taken at the path's end"; a 44 whose A has a value takes Continue itself
pub data TakenAt : (c : Code) → Store → TaskOf c → Path → Action → Place → Type 0 where
  by_edit : {s : Store} {e : Exp} {t : TaskOf (edit e)} {ls : List Given} → TakenAt (edit e) s t [] (give ls) []
  by_enter : {s : Store} {τ : Ty} {t : TaskOf (enter τ)} {ls : List Given} → TakenAt (enter τ) s t [] (give ls) []
  by_update : {s : Store} {n : ℕ} {t : TaskOf (update n)} {ls : List Given} → TakenAt (update n) s t [] (give ls) []
  by_next : {s : Store} {a b : Code} {t : TaskOf a} {v : Val} → value a t s ≡ some v → TakenAt (next a b) s (before t) [] (press continue) []
  by_xor_left : {s : Store} {a b : Code} → TakenAt (xor a b) s unpicked [] (press left) []
  by_xor_right : {s : Store} {a b : Code} → TakenAt (xor a b) s unpicked [] (press right) []
  by_part : {s : Store} {c d : Code} {t : TaskOf c} {u : TaskOf d} {m p : Path} {x : Action} {o : Operand} {w : Place}
      → Part c t m o d u → TakenAt d s u p x w → TakenAt c s t (m ++ p) x (o ∷ w)

-- the row's own role and touches left, where it is of kind 50
unfoldable pub own_gate : (c : Code) → TaskOf c → List Gate
own_gate (edit e) t = []
own_gate (enter τ) t = []
own_gate (update n) t = []
own_gate (then a b) t = []
own_gate (next a b) t = []
own_gate (fail τ) t = []
own_gate (and a b) t = []
own_gate (or a b) t = []
own_gate (xor a b) t = []
own_gate (view e) t = []
own_gate (gate r n b) (gated k u) = (r, k) ∷ []
own_gate (if e a b) t = []
own_gate (let' e b) t = []

-- `GatesTo c t w gs`: the rows of kind 50 from the last row to the one at w, both included, are gs, the outermost first
pub data GatesTo : (c : Code) → TaskOf c → Place → List Gate → Type 0 where
  gates_end : {c : Code} {t : TaskOf c} → GatesTo c t [] (own_gate c t)
  gates_below : {c d : Code} {t : TaskOf c} {u : TaskOf d} {m : Path} {o : Operand} {w : Place} {gs : List Gate}
      → Part c t m o d u → GatesTo d u w gs → GatesTo c t (o ∷ w) (own_gate c t ++ gs)

-- ---- what an event uses

-- an event of the action x at the path p, taken by t in s, passes the rows gs of kind 50 and leaves the task t₁
pub record UsesTouches (c : Code) (s : Store) (t : TaskOf c) (p : Path) (x : Action) (gs : List Gate) (t₁ : TaskOf c) : Type 0 where
  -- the place of the row that takes it
  pub taker : Place
  pub takes : TakenAt c s t p x taker
  -- the rows passed are those of kind 50 from the last row, itself included, to that row
  pub passed : GatesTo c t taker gs
  -- each of them that is live afterwards is left with one touch less
  pub used : (q : Place) (n m k j : ℕ) → on_way q taker ≡ true → LiveGate c t q n k → LiveGate c t₁ q m j → j ≡ k - 1
  -- every other one that is live before and after is left as it was
  pub kept : (q : Place) (n m k j : ℕ) → on_way q taker ≡ false → LiveGate c t q n k → LiveGate c t₁ q m j → j ≡ k
  -- one that was not live before has been evaluated, and has C
  pub fresh : (q : Place) (n k : ℕ) → ((m j : ℕ) → LiveGate c t q m j → ⊥) → LiveGate c t₁ q n k → k ≡ n
