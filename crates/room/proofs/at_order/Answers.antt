-- Below the huge order by free counts, up to the top order by groups, and none above. Assumes nothing.
use Rattle.std.proofs.Common.{arith}
use Rattle.rules.proofs.Numbers.{tree_high}
use Rattle.room.proofs.Rooms.{at_blocks, at_groups, at_none, groups_fill}
use Rattle.room.proofs.at_order.Goals as goal

pub blocks-requires : goal.blocks-requires
blocks-requires c = (c.requires.1, omega (arith, tree_high _ c.args.t.within), omega (arith, c.args.h.within.high))

pub returns-then-order-h : goal.returns-then-order-h
returns-then-order-h c = at_blocks _ _ _ _ _ c.args.t.within c.requires.0 c.if-order-h.true c.blocks-then-order-h.ensures

pub groups-requires : goal.groups-requires
groups-requires c =
    let a = c.args in
    let fill = groups_fill a.h.order a.t.huge a.entries.now a.at a.order c.args.t.within c.requires.0 c.if-order-h.false c.if-order-top.true in
    omega (arith, fill c.size.ensures c.size-then-order-top.ensures)

pub returns-then-order-top : goal.returns-then-order-top
returns-then-order-top c =
    at_groups _ _ _ _ _ c.args.t.within c.requires.0 c.if-order-h.false c.if-order-top.true c.size.ensures c.size-then-order-top.ensures c.groups.ensures

pub returns-else-order-top : goal.returns-else-order-top
returns-else-order-top c = at_none _ _ _ _ _ c.args.t.within c.requires.0 c.if-order-h.false c.if-order-top.false
