-- `bits`: leaf by leaf.
use Rattle.std.proofs.Common.{◌≡◌, ◌∙◌, sym, map, get_or, length, arith, None, rules}
use Rattle.std.proofs.lemmas.List.{ext_get_or, length-map}
use Rattle.std.proofs.Math.ListN.{get_or-map}
use Rattle.handle.specs.Events.{bits_of}
use Rattle.handle.proofs.bits.Goals as goal

pub returns : goal.returns
returns c =
    let long : length c.map.result ≡ 8 = c.map.ensures.items.long in
    let short : length c.args.leaves ≡ 8 = search rules in
    ext_get_or 0 c.map.result (map bits_of c.args.leaves) (omega (arith, length-map c.args.leaves bits_of, long, short))
    (λ i l. let (p, q, h) = c.map.ensures.items.at i None 0 (omega (arith, long)) in
    let g : get_or c.map.result i 0 ≡ bits_of (get_or c.args.leaves i None) = search rules in g ∙ sym (get_or-map bits_of c.args.leaves i None))
