use Rattle.rows.specs.Kinds.{kind_of}
use mathlib.Core.Path.{refl}
use mathlib.Core.List.{[], ◌∷◌}
use Rattle.typing.proofs.NodeLaws.{node_one, node_range, node_choice, node_none, node_past}
use Rattle.typing.proofs.node_from.Goals as goal

pub returns-in-1 : goal.returns-in-1
unfolding kind_of
returns-in-1 c = let q = c.args in node_one q.a q.b q.c (1 ∷ 20 ∷ []) q.k (refl, (refl, tt)) c.in-1.is

pub returns-in-2 : goal.returns-in-2
unfolding kind_of
returns-in-2 c = let q = c.args in node_one q.a q.b q.c (2 ∷ 21 ∷ []) q.k (refl, (refl, tt)) c.in-2.is

pub returns-in-3 : goal.returns-in-3
unfolding kind_of
returns-in-3 c = let q = c.args in node_one q.a q.b q.c (3 ∷ 22 ∷ []) q.k (refl, (refl, tt)) c.in-3.is

pub returns-in-23 : goal.returns-in-23
unfolding kind_of
returns-in-23 c = let q = c.args in node_one q.a q.b q.c (23 ∷ []) q.k (refl, tt) c.in-23.is

pub returns-in-24 : goal.returns-in-24
unfolding kind_of
returns-in-24 c = let q = c.args in node_one q.a q.b q.c (24 ∷ []) q.k (refl, tt) c.in-24.is

pub returns-in-25 : goal.returns-in-25
unfolding kind_of
returns-in-25 c = let q = c.args in node_one q.a q.b q.c (25 ∷ []) q.k (refl, tt) c.in-25.is

pub returns-in-4 : goal.returns-in-4
unfolding kind_of
returns-in-4 c = let q = c.args in node_one q.a q.b q.c (4 ∷ 26 ∷ 46 ∷ []) q.k (refl, (refl, (refl, tt))) c.in-4.is

pub returns-in-27 : goal.returns-in-27
unfolding kind_of
returns-in-27 c = let q = c.args in node_one q.a q.b q.c (27 ∷ []) q.k (refl, tt) c.in-27.is

pub returns-in-28 : goal.returns-in-28
unfolding kind_of
returns-in-28 c = let q = c.args in node_one q.a q.b q.c (28 ∷ []) q.k (refl, tt) c.in-28.is

pub returns-in-10 : goal.returns-in-10
unfolding kind_of
returns-in-10 c = let q = c.args in node_one q.a q.b q.c (10 ∷ 29 ∷ 45 ∷ 49 ∷ []) q.k (refl, (refl, (refl, (refl, tt)))) c.in-10.is

pub returns-in-30 : goal.returns-in-30
unfolding kind_of
returns-in-30 c = let q = c.args in node_one q.a q.b q.c (30 ∷ []) q.k (refl, tt) c.in-30.is

pub returns-in-31 : goal.returns-in-31
unfolding kind_of
returns-in-31 c = let q = c.args in node_one q.a q.b q.c (31 ∷ []) q.k (refl, tt) c.in-31.is

pub returns-in-50 : goal.returns-in-50
unfolding kind_of
returns-in-50 c = let q = c.args in node_one q.a q.b q.c (50 ∷ []) q.k (refl, tt) c.in-50.is

pub returns-in-40-to-42 : goal.returns-in-40-to-42
unfolding kind_of
returns-in-40-to-42 c =
    let q = c.args in
    node_range q.a q.b q.c 40 3 q.k (refl, (refl, (refl, tt))) c.in-40-to-42.if-k-lt40-own.false c.in-40-to-42.if-k-lt43-own.true

pub returns-in-43-to-44 : goal.returns-in-43-to-44
unfolding kind_of
returns-in-43-to-44 c =
    let q = c.args in
    node_range q.a q.b q.c 43 2 q.k (refl, (refl, tt)) c.in-43-to-44.if-k-lt43-own.false c.in-43-to-44.if-k-lt45-own.true

pub returns-in-47-to-48 : goal.returns-in-47-to-48
returns-in-47-to-48 c =
    let q = c.args in
    node_choice q.a q.b q.c q.k c.in-47-to-48.if-k-lt45-own.false c.in-47-to-48.if-k-lt49-own.true c.in-47-to-48.in_default-own.rest refl

pub returns-in_default : goal.returns-in_default
returns-in_default c = let q = c.args in node_none q.a q.b q.c q.k c.in_default.if-k-lt40-own.true c.in_default.in_default-own.rest

pub returns-in_default-2 : goal.returns-in_default-2
returns-in_default-2 c = let q = c.args in node_past q.a q.b q.c q.k c.in_default.if-k-lt49-own.false c.in_default.in_default-own.rest
