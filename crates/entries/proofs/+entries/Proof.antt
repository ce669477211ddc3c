-- `entries` meets its contract, an arm by the law of its form; its measure is the row, which falls. Assumes nothing.
use mathlib.Core.Path.{sym, ◌∙◌}
use Prim.Native.Nat.{ℕ, ◌-◌, ◌<◌}
use native.Mathlib.Omega.{arith}
use borrow.Rule.Slice.PartMut.{same_len_mid}
use borrow.Fn.Kinds.{In}
use borrow.Fn.PlainCycle.{Measures, is, falls, and}
use borrow.Author.Rules.{rules}
use lib.ListN.{length}
use Rattle.decimal.specs.Path.{path_of}
use Rattle.state.proofs.Calls.{low_a, low_b, fine_at}
use Rattle.running.proofs.Handing.{low_part}
use Rattle.entries.specs.Listing.{who_of}
use Rattle.entries.proofs.Fronts.{After}
use Rattle.entries.proofs.Marking.{unit_most, path_most, path_full, at_first, at_second}
use Rattle.entries.proofs.Arms.{entries_then, entries_next, entries_full, entries_none}
use Rattle.entries.proofs.Asking.{call_at, none_mid, none_high, entries_marked, entries_part, entries_kept}
use Rattle.entries.proofs.entries.Reads as entries
use Rattle.entries.proofs.entries.Kinds as entries-kinds
use Rattle.entries.proofs.+entries.Lts-entries as entries-lts
use Rattle.entries.proofs.button.Reads as button-reads
use Rattle.entries.proofs.choice.Reads as choice-reads
use Rattle.entries.proofs.goes_on.Reads as goes-on-reads
use Rattle.entries.proofs.least.Reads as least-reads
use Rattle.entries.proofs.offer.Reads as offer-reads
use Rattle.entries.proofs.shut.Reads as shut-reads
use Rattle.rows.proofs.get.Reads as get-reads
use Rattle.rows.proofs.operand.Reads as operand-reads
use Rattle.running.proofs.enclose.Reads as enclose-reads
use Rattle.running.proofs.handed_on.Reads as handed_on-reads
use Rattle.entries.proofs.+entries.{statement}
use Rattle.entries.proofs.+entries.Tie.{close}

abbrev μ_entries : Measures 4 entries-kinds.ps ℕ
μ_entries κs a = a.1.1.0

abbrev entries_at : ℕ → In 4 entries-kinds.ps
entries_at t = and 4 entries-kinds.ps (is 4 entries-kinds.ps μ_entries t) entries.Pre

abbrev entries_below : ℕ → In 4 entries-kinds.ps
entries_below t = and 4 entries-kinds.ps (falls 4 entries-kinds.ps ◌<◌ μ_entries t) entries.Pre

abbrev entries_calls : ℕ → entries-lts.Claims
entries_calls t = (handed_on-reads.Asked, handed_on-reads.Learnt, shut-reads.Asked, shut-reads.Learnt, enclose-reads.Asked, enclose-reads.Learnt, operand-reads.Asked, operand-reads.Learnt, entries_below t, entries.Post, get-reads.Asked, get-reads.Learnt, goes-on-reads.Asked, goes-on-reads.Learnt, least-reads.Asked, least-reads.Learnt, button-reads.Asked, button-reads.Learnt, choice-reads.Asked, choice-reads.Learnt, offer-reads.Asked, offer-reads.Learnt)

entries_handed_on_requires : (t : ℕ) → entries-lts.Need-handed_on-part-requires (entries_calls t) (entries_at t) entries.Post
entries_handed_on_requires t c κs = c.requires.1.0.low

entries_shut_requires : (t : ℕ) → entries-lts.Need-shut-requires (entries_calls t) (entries_at t) entries.Post
entries_shut_requires t c κs = c.requires.1.0.low

entries_returns : (t : ℕ) → entries-lts.Need-returns-then-shut (entries_calls t) (entries_at t) entries.Post
entries_returns t c =
    (omega arith, entries_kept c.args.who c.args.rows.now c.args.state.now c.args.row c.args.env.now c.args.depth (path_of c.args.marks) c.args.list.now c.shut.result c.shut.ensures c.if-shut.true)

entries_enclose_requires : (t : ℕ) → entries-lts.Need-enclose-under-requires (entries_calls t) (entries_at t) entries.Post
entries_enclose_requires t c κs =
    (c.requires.1.0.low, c.requires.1.0.room)

entries_operand_requires : (t : ℕ) → entries-lts.Need-operand-a-requires (entries_calls t) (entries_at t) entries.Post
entries_operand_requires t c κs =
    (c.requires.1.0.low, c.handed_on-part.ensures.low)

entries_entries_requires : (t : ℕ) → entries-lts.Need-entries-requires (entries_calls t) (entries_at t) entries.Post
entries_entries_requires t c κs =
    call_at c.requires c.operand-a.result c.enclose-under.result _ _
    (low_part c.args.rows.now c.args.row c.requires.1.0 (c.handed_on-part.ensures.on c.if-part-ne0.true) c.operand-a.ensures)
    c.enclose-under.ensures.room c.requires.1.1

entries_same_length : (t : ℕ) → entries-lts.Need-shape_of-list-then-part-ne0 (entries_calls t) (entries_at t) entries.Post
entries_same_length t c = c.entries.auto.list

entries_returns_2 : (t : ℕ) → entries-lts.Need-returns-then-part-ne0 (entries_calls t) (entries_at t) entries.Post
entries_returns_2 t c =
    (c.entries.ensures.0, entries_part c.args.who c.args.rows.now c.args.state.now c.args.row c.args.env.now c.args.depth (path_of c.args.marks) c.args.list.now c.shut.result c.shut.ensures c.if-shut.false (c.handed_on-part.ensures.on c.if-part-ne0.true) c.operand-a.ensures c.enclose-under.new.env c.enclose-under.result c.enclose-under.ensures c.entries.new.list c.entries.result c.entries.ensures.1)

entries_get_requires : (t : ℕ) → entries-lts.Need-get-kind-requires (entries_calls t) (entries_at t) entries.Post
entries_get_requires t c κs = (c.requires.1.0.low, omega arith)

entries_operand_requires_2 : (t : ℕ) → entries-lts.Need-operand-a-requires-2 (entries_calls t) (entries_at t) entries.Post
entries_operand_requires_2 t c κs =
    (c.requires.1.0.low, omega arith)

entries_operand_requires_3 : (t : ℕ) → entries-lts.Need-operand-b-requires (entries_calls t) (entries_at t) entries.Post
entries_operand_requires_3 t c κs =
    (c.requires.1.0.low, omega arith)

entries_entries_requires_2 : (t : ℕ) → entries-lts.Need-entries-requires-in-43 (entries_calls t) (entries_at t) entries.Post
entries_entries_requires_2 t c κs =
    call_at c.requires c.operand-a-2.result _ _ _
    (low_a c.requires.1.0 c.get-kind.result c.operand-a-2.result c.get-kind.ensures c.operand-a-2.ensures (omega (arith, c.in-43.is)) (omega (arith, c.in-43.is)))
    c.requires.1.0.room c.requires.1.1

entries_entries_requires_3 : (t : ℕ) → entries-lts.Need-entries-n-requires (entries_calls t) (entries_at t) entries.Post
entries_entries_requires_3 t c κs =
    call_at c.requires c.operand-a-2.result _ _ _
    (low_a c.requires.1.0 c.get-kind.result c.operand-a-2.result c.get-kind.ensures c.operand-a-2.ensures (omega (arith, c.in-44.is)) (omega (arith, c.in-44.is)))
    c.requires.1.0.room c.requires.1.1

entries_goes_on_requires : (t : ℕ) → entries-lts.Need-goes_on-enabled-requires (entries_calls t) (entries_at t) entries.Post
entries_goes_on_requires t c κs =
    (c.requires.1.0, omega (arith, c.get-kind.ensures, c.in-44.is), omega (arith, c.get-kind.ensures, c.in-44.is))

entries_choice_requires : (t : ℕ) → entries-lts.Need-choice-requires (entries_calls t) (entries_at t) entries.Post
entries_choice_requires t c κs =
    (c.requires.1.0, sym c.get-kind.ensures ∙ c.in-48.is, (c.handed_on-part.ensures.none c.if-part-ne0.false), c.requires.1.1.few)

entries_offer_requires : (t : ℕ) → entries-lts.Need-offer-requires (entries_calls t) (entries_at t) entries.Post
entries_offer_requires t c κs =
    (fine_at c.requires.1.0 c.args.row 0 (omega arith) (omega arith), omega (arith, c.get-kind.ensures, c.in-40-to-42.if-kind-lt40-own.false), omega (arith, c.get-kind.ensures, c.in-40-to-42.if-kind-lt43-own.true), c.requires.1.1.few)

entries_returns_3 : (t : ℕ) → entries-lts.Need-returns-then-unit-eq-MOST_UNIT (entries_calls t) (entries_at t) entries.Post
entries_returns_3 t c =
    (omega arith, entries_full (who_of c.args.who) c.args.rows.now c.args.state.now c.args.row c.args.env.now c.args.depth (path_of c.args.marks) c.args.list.now (c.handed_on-part.ensures.none c.if-part-ne0.false) (omega (arith, c.get-kind.ensures, c.in-46-to-47.if-kind-lt46-own.false)) (omega (arith, c.get-kind.ensures, c.in-46-to-47.if-kind-lt48-own.true)) (path_full c.requires.1.1 c.if-unit-eq-MOST_UNIT.true))

entries_mul_two : (t : ℕ) → entries-lts.Need-overflow_mul-two (entries_calls t) (entries_at t) entries.Post
entries_mul_two t c =
    omega (arith, unit_most c.requires.1.1)

entries_add_entries : (t : ℕ) → entries-lts.Need-overflow_add-marks (entries_calls t) (entries_at t) entries.Post
entries_add_entries t c =
    omega (arith, unit_most c.requires.1.1, path_most c.requires.1.1)

entries_entries_requires_4 : (t : ℕ) → entries-lts.Need-entries-n-requires-in-46-to-47 (entries_calls t) (entries_at t) entries.Post
entries_entries_requires_4 t c κs =
    call_at c.requires c.operand-a-2.result _ _ _
    (low_a c.requires.1.0 c.get-kind.result c.operand-a-2.result c.get-kind.ensures c.operand-a-2.ensures (omega (arith, c.in-46-to-47.if-kind-lt46-own.false)) (omega (arith, c.in-46-to-47.if-kind-lt48-own.true)))
    c.requires.1.0.room (at_first c.requires.1.1 c.if-unit-eq-MOST_UNIT.false).1

entries_same_length_2 : (t : ℕ) → entries-lts.Need-shape_of-list-in-43 (entries_calls t) (entries_at t) entries.Post
entries_same_length_2 t c = c.entries-in-43.auto.list

entries_returns_4 : (t : ℕ) → entries-lts.Need-returns-in-43 (entries_calls t) (entries_at t) entries.Post
entries_returns_4 t c =
    (c.entries-in-43.ensures.0, entries_then (who_of c.args.who) c.args.rows.now c.args.state.now c.args.row c.args.env.now c.args.depth (path_of c.args.marks) c.args.list.now (c.handed_on-part.ensures.none c.if-part-ne0.false) c.entries-in-43.new.list c.operand-a-2.result c.entries-in-43.result (sym c.get-kind.ensures ∙ c.in-43.is) c.operand-a-2.ensures c.entries-in-43.ensures.1)

entries_same_length_4 : (t : ℕ) → entries-lts.Need-shape_of-list-in-48 (entries_calls t) (entries_at t) entries.Post
entries_same_length_4 t c = c.choice.auto.list

entries_returns_6 : (t : ℕ) → entries-lts.Need-returns-in-48 (entries_calls t) (entries_at t) entries.Post
entries_returns_6 t c =
    (c.choice.ensures.0, c.choice.ensures.1 (who_of c.args.who))

entries_same_length_5 : (t : ℕ) → entries-lts.Need-shape_of-list-in-40-to-42 (entries_calls t) (entries_at t) entries.Post
entries_same_length_5 t c = c.offer.auto.list

entries_returns_7 : (t : ℕ) → entries-lts.Need-returns-in-40-to-42 (entries_calls t) (entries_at t) entries.Post
entries_returns_7 t c =
    (c.offer.ensures.0, c.offer.ensures.1 c.args.env.now c.args.depth (who_of c.args.who))

entries_returns_9 : (t : ℕ) → entries-lts.Need-returns-in_default (entries_calls t) (entries_at t) entries.Post
entries_returns_9 t c =
    (omega arith, entries_none (who_of c.args.who) c.args.rows.now c.args.state.now c.args.row c.args.env.now c.args.depth (path_of c.args.marks) c.args.list.now (c.handed_on-part.ensures.none c.if-part-ne0.false) (λ h g. omega (arith, c.get-kind.ensures, c.in_default.if-kind-lt40-own.true, h)) (λ h g. omega (arith, c.get-kind.ensures, c.in_default.if-kind-lt40-own.true, h)))

entries_returns_10 : (t : ℕ) → entries-lts.Need-returns-in_default-2 (entries_calls t) (entries_at t) entries.Post
entries_returns_10 t c =
    (omega arith, entries_none (who_of c.args.who) c.args.rows.now c.args.state.now c.args.row c.args.env.now c.args.depth (path_of c.args.marks) c.args.list.now (c.handed_on-part.ensures.none c.if-part-ne0.false) (λ h g. none_mid (omega (arith, c.in_default.if-kind-lt43-own.false)) c.in_default.in_default-own.rest.0.0.1 c.in_default.in_default-own.rest.0.1 (omega (arith, c.get-kind.ensures, g))) (λ h g. omega (arith, c.get-kind.ensures, c.in_default.if-kind-lt46-own.true, h)))

entries_returns_11 : (t : ℕ) → entries-lts.Need-returns-in_default-3 (entries_calls t) (entries_at t) entries.Post
entries_returns_11 t c =
    (omega arith, entries_none (who_of c.args.who) c.args.rows.now c.args.state.now c.args.row c.args.env.now c.args.depth (path_of c.args.marks) c.args.list.now (c.handed_on-part.ensures.none c.if-part-ne0.false) (λ h g. omega (arith, c.get-kind.ensures, c.in_default.if-kind-lt48-own.false, g)) (λ h g. none_high (omega (arith, c.in_default.if-kind-lt48-own.false)) c.in_default.in_default-own.rest.1 (omega (arith, c.get-kind.ensures, g))))

-- ---- 44: Continue, after the left side's entries

-- what is known where Continue's entry was asked for
entries_next_after : (t : ℕ) (c : entries-lts.After-least (entries_calls t) (entries_at t) entries.Post) →
    After c.args.list.now c.entries-n.new.list c.entries-n.result c.button-m.result c.least-at.result c.least.result
entries_next_after t c =
    record { kept = c.entries-n.auto.list; place = c.least-at.ensures; sum = c.least.ensures }

entries_button_requires : (t : ℕ) → entries-lts.Need-button-m-requires (entries_calls t) (entries_at t) entries.Post
entries_button_requires t c κs =
    c.requires.1.1.few

entries_add_least : (t : ℕ) → entries-lts.Need-overflow_add-n (entries_calls t) (entries_at t) entries.Post
entries_add_least t c =
    omega (arith, c.entries-n.ensures.0, c.button-m.ensures.most)

entries_same_length_3 : (t : ℕ) → entries-lts.Need-shape_of-list-in-44 (entries_calls t) (entries_at t) entries.Post
entries_same_length_3 t c =
    same_len_mid c.least-at.result (length c.entries-n.new.list - c.least-at.result)
    c.entries-n.new.list c.button-m.new.list c.button-m.auto.list ∙ c.entries-n.auto.list

entries_returns_5 : (t : ℕ) → entries-lts.Need-returns-in-44 (entries_calls t) (entries_at t) entries.Post
entries_returns_5 t c =
    (c.least.ensures.at_most, entries_next (who_of c.args.who) c.args.rows.now c.args.state.now c.args.row c.args.env.now c.args.depth (path_of c.args.marks) c.args.list.now (c.handed_on-part.ensures.none c.if-part-ne0.false) c.operand-a-2.result c.goes_on-enabled.result (sym c.get-kind.ensures ∙ c.in-44.is) c.operand-a-2.ensures (entries_next_after t c) c.entries-n.ensures.1 c.goes_on-enabled.ensures c.button-m.ensures)

-- ---- 46 and 47: the right part's entries, after the left part's

-- what is known where the right part's entries were asked for
entries_both_after : (t : ℕ) (c : entries-lts.After-least-in-46-to-47 (entries_calls t) (entries_at t) entries.Post) →
    After c.args.list.now c.entries-n-in-46-to-47.new.list c.entries-n-in-46-to-47.result c.entries-m.result c.least-at-in-46-to-47.result c.least-in-46-to-47.result
entries_both_after t c =
    record { kept = c.entries-n-in-46-to-47.auto.list; place = c.least-at-in-46-to-47.ensures; sum = c.least-in-46-to-47.ensures }

entries_add_entries_2 : (t : ℕ) → entries-lts.Need-overflow_add-marks-in-46-to-47 (entries_calls t) (entries_at t) entries.Post
entries_add_entries_2 t c =
    omega (arith, unit_most c.requires.1.1, path_most c.requires.1.1)

entries_entries_requires_5 : (t : ℕ) → entries-lts.Need-entries-m-requires (entries_calls t) (entries_at t) entries.Post
entries_entries_requires_5 t c κs =
    call_at c.requires c.operand-b.result _ _ _
    (low_b c.requires.1.0 c.get-kind.result c.operand-b.result c.get-kind.ensures c.operand-b.ensures (omega (arith, c.in-46-to-47.if-kind-lt46-own.false)))
    c.requires.1.0.room (at_second c.requires.1.1 c.if-unit-eq-MOST_UNIT.false).1

entries_add_least_2 : (t : ℕ) → entries-lts.Need-overflow_add-n-in-46-to-47 (entries_calls t) (entries_at t) entries.Post
entries_add_least_2 t c =
    omega (arith, c.entries-n-in-46-to-47.ensures.0, c.entries-m.ensures.0)

entries_same_length_6 : (t : ℕ) → entries-lts.Need-shape_of-list-else-unit-eq-MOST_UNIT (entries_calls t) (entries_at t) entries.Post
entries_same_length_6 t c =
    same_len_mid c.least-at-in-46-to-47.result (length c.entries-n-in-46-to-47.new.list - c.least-at-in-46-to-47.result)
    c.entries-n-in-46-to-47.new.list c.entries-m.new.list
    c.entries-m.auto.list ∙ c.entries-n-in-46-to-47.auto.list

entries_returns_8 : (t : ℕ) → entries-lts.Need-returns-else-unit-eq-MOST_UNIT (entries_calls t) (entries_at t) entries.Post
entries_returns_8 t c =
    (c.least-in-46-to-47.ensures.at_most, entries_marked (who_of c.args.who) c.args.rows.now c.args.state.now c.args.row c.args.env.now c.args.depth c.args.marks c.args.unit c.args.list.now c.operand-a-2.result c.operand-b.result c.requires.1.1 c.if-unit-eq-MOST_UNIT.false (c.handed_on-part.ensures.none c.if-part-ne0.false) (entries_both_after t c) (omega (arith, c.get-kind.ensures, c.in-46-to-47.if-kind-lt46-own.false)) (omega (arith, c.get-kind.ensures, c.in-46-to-47.if-kind-lt48-own.true)) c.operand-a-2.ensures c.operand-b.ensures c.entries-n-in-46-to-47.ensures.1 c.entries-m.ensures.1)

pub +entries_spec : {M : Type 1} → statement M
+entries_spec = close μ_entries λ t. entries-lts.spec (entries_calls t) (entries_at t)
    entries.Post (entries_handed_on_requires t) (entries_shut_requires t) (entries_returns t) (entries_enclose_requires t) (entries_operand_requires t) (entries_entries_requires t) (entries_same_length t) (entries_returns_2 t) (entries_get_requires t) (entries_operand_requires_2 t) (entries_operand_requires_3 t) (entries_entries_requires_2 t) (entries_entries_requires_3 t) (entries_goes_on_requires t) (λ c κs. search rules) (λ c. search rules) (λ c. search rules) (λ c. search rules) (entries_button_requires t) (entries_add_least t) (λ c κs. search rules) (entries_choice_requires t) (entries_offer_requires t) (entries_returns_3 t) (entries_mul_two t) (entries_add_entries t) (entries_entries_requires_4 t) (λ c κs. search rules) (entries_add_entries_2 t) (λ c. search rules) (λ c. search rules) (λ c. search rules) (entries_entries_requires_5 t) (entries_add_least_2 t) (λ c κs. search rules) (entries_same_length_2 t) (entries_returns_4 t) (entries_same_length_3 t) (entries_returns_5 t) (entries_same_length_4 t) (entries_returns_6 t) (entries_same_length_5 t) (entries_returns_7 t) (entries_same_length_6 t) (entries_returns_8 t) (entries_returns_9 t) (entries_returns_10 t) (entries_returns_11 t)
