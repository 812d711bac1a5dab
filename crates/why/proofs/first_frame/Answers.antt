-- To the huge order in one huge frame, above huge frame by huge frame. Assumes nothing.
use Rattle.std.proofs.Common.{◌≡◌, ◌≤◌, ◌+◌, ◌*◌, ◌^◌, arith, rules}
use Rattle.std.proofs.lemmas.Grind.{common_steps}
use Rattle.std.proofs.Math.Pow.{pow_pos}
use Rattle.std.proofs.lemmas.Iterator.{serves_from_Range}
use Rattle.base.proofs.Sizes.{pow_divides}
use Rattle.rules.specs.State.{mem}
use Rattle.audit.proofs.Ranges.{mapped_range}
use Rattle.why.specs.Told.{frame_is, found}
use Rattle.why.proofs.Blocks.{part_asked, part_even, part_within}
use Rattle.why.proofs.Founds.{parts_found}
use Rattle.why.proofs.first_frame.Goals as goal

pub first_in_huge-requires : goal.first_in_huge-requires
first_in_huge-requires c =
    let b = c.requires.2 in
    part_asked (mem c.args.rows.now c.args.entries.now) c.args.h.within b.sized c.args.frame c.args.order c.if-order-h.true b.aligned b.ends

pub find_map-requires-clause-callable : goal.find_map-requires-clause-callable
find_map-requires-clause-callable c = serves_from_Range (λ x q k. search rules) (λ x lo hi.
    let a = c.args in
    let b = c.requires.2 in
    let above : a.h.order ≤ a.order = omega (arith, c.if-order-h.false) in
    let within = part_within a.h.order a.frame a.order above b.aligned x (rw c.size.ensures at hi) in
    let asked = part_asked (mem a.rows.now a.entries.now) c.args.h.within b.sized (a.frame + x * 2 ^ a.h.order) a.h.order (omega arith) (part_even a.h.order a.frame a.order above b.aligned x) (omega (arith, within, b.ends)) in
    search rules)

pub returns : goal.returns
returns c =
    let a = c.args in
    let p = frame_is a.held a.h.order (mem a.rows.now a.entries.now) in
    let whole : c.size.result * 2 ^ a.h.order ≡ 2 ^ a.order = rw c.size.ensures (pow_divides a.h.order a.order (omega (arith, c.if-order-h.false))) in
    rw (← whole)
    (parts_found p (2 ^ a.h.order) c.size.result a.frame (pow_pos a.h.order) c.find_map.result
    (mapped_range (λ x r. r ≡ found p (2 ^ a.h.order) (a.frame + x * 2 ^ a.h.order)) (λ x r q k. (search rules, let its : r ≡ found p (2 ^ a.h.order) (a.frame + x * 2 ^ a.h.order) = grind (arith, common_steps) in its)) _ c.find_map.result c.find_map.ensures.runs))
